-- What the calls leave that give bytes.
use Rattle.std.proofs.Common.{◌≡◌, ℕ, List, [], ◌++◌, subst, sym, ap, ◌∙◌}
use Rattle.cabinet_text_grammar.specs.Tree.{Tree}
use Rattle.cabinet_text_grammar.specs.Spelling.{text_of}
use Rattle.cabinet_documents.specs.Accepted.{Accepted}
use Rattle.cabinet_documents.specs.Image.{Image}
use Rattle.cabinet.specs.Buffers.{Gives}
use Rattle.cabinet.specs.ByteCalls.{Builds, builds, Loads, loads}
use Rattle.cabinet.specs.declared.calls.status.Status.{Status}
use Rattle.cabinet.specs.declared.calls.status.Status.TheVariants.{Ok}

-- what is written to empty memory is all of it
pub written_alone : (given bytes old piece : List ℕ) → given ≡ bytes → bytes ≡ old ++ piece → old ≡ [] → given ≡ piece
written_alone given bytes old piece same wrote none = same ∙ wrote ∙ ap (λ l. l ++ piece) none

pub builds_image : (text old new image bytes : List ℕ) (count line : ℕ) (told : Status) (t : Tree) → text ≡ text_of t → Image t image → bytes ≡ image
    → Gives bytes Ok old new count told
    → line ≡ 0
    → Builds text old new count line told
builds_image text old new image bytes count line told t text_is is_image same gives at =
    builds t text_is bytes (subst (Image t) (sym same) is_image) gives at

pub loads_text : (archive old new bytes : List ℕ) (count : ℕ) (told : Status) (t : Tree) → Accepted archive t → bytes ≡ text_of t
    → Gives bytes Ok old new count told
    → Loads archive old new count told
loads_text archive old new bytes count told t accepted same gives = loads t accepted (subst (λ b. Gives b Ok old new count told) same gives)
