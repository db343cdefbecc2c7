-- Where a flavor forbids cycles, what a counted pointer leads to is what its value counts.
use Rattle.std.proofs.Common.{◌≡◌, ℕ, Bool, false, List, refl, sym, ap, subst}
use Rattle.archive_shape_layout.specs.Shape.{Shape}
use Rattle.archive_shape_layout.specs.Shape.Shape.{shared}
use Rattle.archive_shape_layout.specs.Shape.Pointee.{sized, slice, str}
use Rattle.archive_shape_layout.specs.Value.{Value}
use Rattle.archive_shape_layout.specs.Content.{Names}
use Rattle.archive_shape.specs.Key.{HeldAt}
use Rattle.archive_forms_values.specs.Parts.{HasValue, AreElements}
use Rattle.archive_forms_comparing.specs.Compared.{HasPart}
use Rattle.archive_forms_comparing.proofs.Seen.{moved}
use Rattle.archive_forms_rc.specs.Pointers.{Counts, HasCounted, IsRcAt, IsRcSliceAt}
use Rattle.archive_forms_rc.specs.Pointers.Counts.{counts, leads_back}
use Rattle.archive_forms_rc.specs.Compared.{counted_of}
use Rattle.archive_forms_rc.proofs.Led.{pointer_points, pointer_counts}

module _ (cyclic : Bool) (acyclic : cyclic ≡ false) where
  pub counted_there : {to : ℕ} {IsThere : Value → Type 0} (v : Value) → Counts cyclic to IsThere v → IsThere (counted_of v)
  counted_there {IsThere = IsThere} v (counts is h) = subst IsThere (sym (ap counted_of is)) h
  counted_there v (leads_back allowed is) = absurd (cc)

  module _ (s : Shape) (knows : Names → Type 0) (bytes : List ℕ) (pos : ℕ) where
    pub rc_part :
        {part_bytes : List ℕ} {at to : ℕ}
        → part_bytes ≡ bytes
        → at ≡ to
        → HasValue (shared cyclic (sized s)) knows bytes pos
        → IsRcAt cyclic s knows bytes pos to
        → HasPart (λ v x. counted_of v ≡ x) (shared cyclic (sized s)) knows bytes pos s knows part_bytes at
    rc_part b p there is =
        moved b p (record {
          there = record { value = counted_of there.value; held = counted_there there.value (is.value there.value there.held) };
          each = λ v h. (counted_of v, refl, counted_there v (is.value v h));
        })

    pub elements_part :
        {part_bytes : List ℕ} {to len : ℕ}
        → part_bytes ≡ bytes
        → IsRcSliceAt cyclic s knows bytes pos to len
        → (v : Value)
        → HeldAt (shared cyclic (slice s)) knows bytes pos v
        → AreElements s knows part_bytes to len (counted_of v)
    elements_part {to = to} {len = len} b is v h =
        subst (λ bs. AreElements s knows bs to len (counted_of v)) (sym b) (counted_there v (is.value v h))

  module _ (knows : Names → Type 0) (bytes : List ℕ) (pos : ℕ) where
    by_counts : {to : ℕ} {IsThere : Value → Type 0} (v : Value) → HeldAt (shared cyclic str) knows bytes pos v → Counts cyclic to IsThere v → HasCounted cyclic str knows bytes pos
    by_counts v h (counts is there) = record { target = _; value = _; held = subst (HeldAt (shared cyclic str) knows bytes pos) is h }
    by_counts v h (leads_back allowed is) = absurd (cc)

    pub text_counts : HasValue (shared cyclic str) knows bytes pos → HasCounted cyclic str knows bytes pos
    text_counts has =
        let points = pointer_points cyclic str knows bytes pos has in
        by_counts has.value has.held (pointer_counts cyclic str knows bytes pos points.0 _ points.1 refl has.value has.held)
