-- What pointers lead to: values, elements and texts.
use Rattle.std.proofs.Common.{◌≡◌, ℕ, ◌+◌, ◌^◌, ◌<◌, List, [], ◌∷◌, ◌++◌, length, Some, refl, ◌∙◌, arith, le_refl}
use Rattle.std.specs.Int.{w32, to_le_bytes}
use Rattle.archive_shape_layout.specs.Bytes.{window, word_at, target_from}
use Rattle.archive_shape_layout.specs.Shape.{Shape, Pointee}
use Rattle.archive_shape_layout.specs.Shape.Pointee.{sized, slice, str}
use Rattle.archive_shape_layout.specs.Content.{Names}
use Rattle.archive_shape_canonical.specs.Settled.{Fit}
use Rattle.archive_shape.specs.Bytes.{HasBytes}
use Rattle.archive_shape.proofs.Pieces.{stands_left, stands_right, stands_word}
use Rattle.archive_shape.specs.Offsets.{FitsOffset, offset_bytes}
use Rattle.archive_forms_laws.specs.Spelling.{Spelling, state_after}
use Rattle.archive_forms_laws.specs.Spells.{SpellsAt, SpellsBehind, EachSpells}
use Rattle.archive_forms_laws.specs.Regions.{state_after_all, region_at}
use Rattle.archive_forms_laws.specs.Forms.{seen_as}
use Rattle.archive_forms_laws.specs.Pointers.{slice_spelling, box_spelling}
use Rattle.archive_forms_laws.specs.Texts.{boxed_text_spelling}
use Rattle.archive_forms_laws.proofs.States.{before_further, from_earlier}
use Rattle.archive_forms_laws.proofs.Regions.{region_end, region_up, state_after_all_pos, state_after_all_consistent, boxed_canonical, slice_canonical}
use Rattle.archive_forms_laws.proofs.Pointers.{offset_stands}
use Rattle.archive_forms_laws.proofs.Texts.{str_canonical}
use Rattle.archive_shape_layout.proofs.Windows.{word_within}

-- an offset and a number lead to a position, and give the number of elements there
unsized_pointer : (bytes : List ℕ) (to pos n : ℕ) → FitsOffset pos to → n < 2 ^ 32 → HasBytes bytes pos (offset_bytes pos to ++ to_le_bytes w32 n)
    → (target_from pos (word_at (window bytes pos 8) 0) ≡ Some to) × (word_at (window bytes pos 8) 4 ≡ n)
unsized_pointer bytes to pos n near small stands = (
  offset_stands bytes pos to 8 (omega arith) near (stands_left bytes pos (offset_bytes pos to) (to_le_bytes w32 n) stands),
  word_within bytes pos 8 4 (omega arith) ∙ stands_word bytes (pos + 4) n small (stands_right bytes pos (offset_bytes pos to) (to_le_bytes w32 n) (pos + 4) refl stands),
)

module _ {A R : Type 0} (fit : Fit) (s : Shape) (knows : Names → Type 0) (w : Spelling A R) where
  pub value_behind : (x : A) → SpellsAt fit s knows w x → SpellsBehind fit (sized s) knows (λ y. 1) (box_spelling s w) x
  value_behind x one = record {
    leads = λ bytes to pos near stands. (offset_stands bytes pos to 4 (omega arith) near stands, refl);
    begins = λ st f. let up = region_up fit s knows w (x ∷ []) st in omega arith;
    ends = λ st f. let end = region_end fit s knows w (x ∷ []) (one, tt) st f in omega arith;
    behind_met = λ st h f. before_further (w.met x st) (state_after w x st).pos (region_at w s (x ∷ []) st) (region_up fit s knows w (x ∷ []) st) (one.consistent st h f.0.0).before;
    canonical = λ st names keys bytes level inside k n known state over f p.
        boxed_canonical fit s knows w x one st names keys bytes level inside k n known state
        (from_earlier inside (state_after w x st).pos (region_at w s (x ∷ []) st) (region_up fit s knows w (x ∷ []) st) over) f p;
  }

  pub elements_behind : (xs : List A) → EachSpells fit s knows w xs → SpellsBehind fit (slice s) knows length (slice_spelling s w) xs
  elements_behind xs each = record {
    leads = λ bytes to pos near stands. unsized_pointer bytes to pos (length xs) near.0 near.1 stands;
    begins = λ st f. let up = region_up fit s knows w xs st in let at_end = state_after_all_pos fit s knows w xs st in omega arith;
    ends = λ st f. let end = region_end fit s knows w xs each st f in omega arith;
    behind_met = λ st h f.
        before_further (state_after_all w xs st).met (state_after_all w xs st).pos (region_at w s xs st) (region_up fit s knows w xs st)
        (state_after_all_consistent fit s knows w xs each st h f.0).before;
    canonical = λ st names keys bytes level inside k n known state over f p.
        slice_canonical fit s knows w xs each st names keys bytes level inside k n known state
        (from_earlier inside (state_after_all w xs st).pos (region_at w s xs st) (region_up fit s knows w xs st) over) f p;
  }

pub text_behind : (fit : Fit) (knows : Names → Type 0) (t : List ℕ) → SpellsBehind fit str knows length boxed_text_spelling t
text_behind fit knows t = record {
  leads = λ bytes to pos near stands. unsized_pointer bytes to pos (length t) near.0 near.1 stands;
  begins = λ st f. le_refl st.pos;
  ends = λ st f. omega arith;
  behind_met = λ st h f. h.before;
  canonical = λ st names keys bytes level inside k n known state over f p. str_canonical fit names bytes level inside _ t st.pos f.0 p;
}

-- what a value is seen as
pub seen_behind : {A B : Type 0} (fit : Fit) (q : Pointee) (knows : Names → Type 0) (f : B → A) (len : A → ℕ) (w : Spelling A ℕ) (x : B)
    → SpellsBehind fit q knows len w (f x) → SpellsBehind fit q knows (λ y. len (f y)) (seen_as f w) x
seen_behind fit q knows f len w x h = record { leads = h.leads; begins = h.begins; ends = h.ends; behind_met = h.behind_met; canonical = h.canonical }
