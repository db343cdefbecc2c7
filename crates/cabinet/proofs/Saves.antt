-- What is saved of a document after a session in which it grows.
use Rattle.std.proofs.Common.{◌≡◌, ℕ, List, [], ◌∷◌, map, Option, Some, None, Ok, Err, refl, subst}
use Rattle.std.specs.Prelude.{Result, Vec, IfOk, IfErr, OnOk, option_map}
use Rattle.std.specs.declared.alloc.Global.{Global}
use Rattle.cabinet_text_grammar.specs.EditLine.{about}
use Rattle.cabinet_text_grammar.specs.Line.{Line}
use Rattle.cabinet_text_grammar.specs.Tree.{Tree}
use Rattle.cabinet_text.specs.Session.{lines_in_place, edit_lines, next, after_all}
use Rattle.cabinet_documents.specs.Image.{Image}
use Rattle.cabinet_documents.proofs.Imaged.{one_image_law}
use Rattle.cabinet_archives.specs.Saving.{HasNoImageFor, IsWithinLimits}
use Rattle.cabinet_archives.specs.declared.saving.saving.SaveRefusal.{SaveRefusal}
use Rattle.cabinet.specs.Calls.{SavesAs}
use Rattle.cabinet.specs.Laws.{EditedAsInPlace}

pub saves : (d : Tree) (archive : Result (Vec ℕ Global) SaveRefusal) → IfOk archive (λ bytes. Image d bytes.items)
    → OnOk archive (IsWithinLimits d) → IfErr archive (HasNoImageFor d) → (u : Tree) → d ≡ u → SavesAs archive u
saves d (Ok bytes) image within none u e = subst (SavesAs (Ok bytes)) e (image, within)
saves d (Err refusal) image within none u e = subst (SavesAs (Err refusal)) e none

-- lines that work in place leave the same document in both sessions
same_after : (t : Tree) (said : List (Option Line)) → after_all edit_lines t (map (option_map about) said) ≡ after_all lines_in_place t said
same_after t [] = refl
same_after t (None ∷ said) = same_after t said
same_after t (Some line ∷ said) = same_after (next t (Some line)) said

pub edited_as_in_place : EditedAsInPlace
edited_as_in_place t said x y i j = one_image_law _ y x (subst (λ u. Image u y) (same_after t said) j) i
