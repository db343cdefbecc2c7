-- The box of a slice is read and checked as the vector of its elements.
use Rattle.std.proofs.Common.{◌≡◌, ℕ, List, Result, refl, sym, subst}
use Rattle.archive_shape_layout.specs.Shape.{Shape}
use Rattle.archive_shape_layout.specs.Shape.Shape.{box, vector}
use Rattle.archive_shape_layout.specs.Shape.Pointee.{slice}
use Rattle.archive_shape_layout.specs.Value.{Value}
use Rattle.archive_shape_layout.specs.Content.{Names, content_of, shape_content}
use Rattle.archive_shape_layout.specs.Content.Part.{at}
use Rattle.archive_shape.specs.Kept.{Kept}
use Rattle.archive_shape.specs.Checks.{Checks}
use Rattle.archive_shape_layout.specs.declared.error.Error.{Error}
use Rattle.archive_shape.specs.Key.{HeldAt}
use Rattle.archive_forms_values.specs.Parts.{HasValue, IsVecAt}
use Rattle.archive_forms_values.specs.Boxes.{IsBoxedSliceAt}
use Rattle.archive_forms_values.proofs.SameContent.{same_holds, same_checked}

module _ (s : Shape) (bytes : List ℕ) (pos : ℕ) where
  one_content : (names : Names) → content_of names bytes (at pos (vector s)) ≡ content_of names bytes (at pos (box (slice s)))
  unfolding shape_content
  one_content names = refl

  pub boxed_slice_checked : (names : Names) (k l : Kept) (result : Result (Unit {0}) Error)
      → Checks names bytes (at pos (vector s)) k result l → Checks names bytes (at pos (box (slice s))) k result l
  boxed_slice_checked names k l result h =
      same_checked names bytes (at pos (vector s)) (at pos (box (slice s))) (one_content names) refl (λ other key value is. absurd (cc)) k l result h

  module _ (knows : Names → Type 0) where
    pub as_vector : (v : Value) → HeldAt (box (slice s)) knows bytes pos v → HeldAt (vector s) knows bytes pos v
    as_vector v h = record {
      names = h.names;
      known = h.known;
      level = h.level;
      inside = h.inside;
      regions = h.regions;
      before = h.before;
      after = h.after;
      own_within = h.own_within;
      low = h.low;
      claimed = h.claimed;
      holds = same_holds h.names bytes (at pos (box (slice s))) (at pos (vector s)) (sym (one_content h.names)) h.holds;
    }

    pub has_vector : HasValue (box (slice s)) knows bytes pos → HasValue (vector s) knows bytes pos
    has_vector h = record { value = h.value; held = as_vector h.value h.held }

    -- the vector is read at `from` of `there`, which is the same place
    pub boxed_slice_there : (there : List ℕ) (from to len : ℕ) → there ≡ bytes → from ≡ pos
        → IsVecAt s knows there from to len → IsBoxedSliceAt s knows bytes pos to len
    boxed_slice_there there from to len same own i =
        let here : IsVecAt s knows bytes pos to len = subst (λ n. IsVecAt s knows bytes n to len) own (subst (λ bs. IsVecAt s knows bs from to len) same i) in
        record { points = here.points; before = λ has. here.before (has_vector has); value = λ v held. here.value v (as_vector v held) }
