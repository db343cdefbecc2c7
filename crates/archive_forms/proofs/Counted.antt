-- What is read back of counted pointers, which lead to values before them.
use Rattle.std.proofs.Common.{◌≡◌, ℕ, ◌+◌, ◌*◌, ◌≤◌, false, List, length, refl, sym, ap, subst, ◌∙◌, arith}
use Rattle.std.specs.Prelude.{⊤}
use Rattle.std.specs.Rc.{rc_str_bytes}
use Rattle.std.specs.Global.{Global}
use Rattle.std.specs.declared.rc.RcStr.{RcStr}
use Rattle.archive_shape_layout.specs.Bytes.{window, word_at}
use Rattle.archive_shape_layout.specs.Shape.{Shape, size_of}
use Rattle.archive_shape_layout.specs.Shape.Shape.{shared}
use Rattle.archive_shape_layout.specs.Shape.Pointee.{sized, slice, str}
use Rattle.archive_shape_layout.specs.Value.{Value, count_values}
use Rattle.archive_shape_layout.specs.Value.Value.{counted, group, string}
use Rattle.archive_shape_layout.specs.Content.{Names}
use Rattle.archive_shape_layout.proofs.Unique.{by_claimed}
use Rattle.archive_shape_layout.proofs.Visited.{claimed_inside}
use Rattle.archive_shape_canonical.specs.Sharing.{erased}
use Rattle.archive_shape.specs.Key.{HeldAt}
use Rattle.archive_forms_values.proofs.Contents.{sized_is, slice_is}
use Rattle.archive_forms_values.specs.Parts.{HasValue, PointsTo, AreElements, HasElements}
use Rattle.archive_forms_rc.specs.Pointers.{Counts, HasCounted, IsRcAt, IsRcSliceAt, IsRcStrAt}
use Rattle.archive_forms_rc.specs.Pointers.Counts.{counts, leads_back}
use Rattle.archive_forms_rc.proofs.Led.{pointer_points, pointer_counts, rc_slice_there}
use Rattle.archive_forms_rc.specs.Counted.{shared_str_rc_spelling}
use Rattle.archive_forms_rc.specs.declared.sharing.keyed.Shared.{Shared}
use Rattle.archive_forms.specs.Deserializing.{IsReadAt, AreReadFrom}
use Rattle.archive_forms.specs.Reading.{reads_all, reads_as, reads_counted}
use Rattle.archive_forms.proofs.Read.{all_values}

-- where cycles are forbidden, a pointer counts a value
pub counted_of : {to : ℕ} {IsThere : Value → Type 0} {v : Value} → Counts false to IsThere v → (w : Value) × (v ≡ counted to w) × IsThere w
counted_of (counts {w = w} is h) = (w, is, h)
counted_of (leads_back allowed is) = absurd (cc)

module _ (s : Shape) (knows : Names → Type 0) (bytes : List ℕ) (pos to : ℕ) where
  -- ---- to one value

  module _ (there : IsRcAt false s knows bytes pos to) where
    module _ (has : HasValue (shared false (sized s)) knows bytes pos) where
      pub rc_has : HasValue s knows bytes to
      rc_has = let one = counted_of (there.value has.value has.held) in record { value = one.0; held = one.2 }

      -- which ends before the pointer
      pub rc_before : to + size_of s ≤ pos
      rc_before =
          let h = has.held in
          let one = counted_of (pointer_counts false (sized s) knows bytes pos to 1 there.points refl has.value h) in
          let ends = (claimed_inside (by_claimed h.names bytes (sized_is h.names bytes to s 1) one.2.holds).regions_are one.2.claimed).ends in
          omega (arith, ends)

    pub rc_read : {A : Type 0} (reads : Value → A → Type 0) (x y : A) → x ≡ y → IsReadAt reads s knows bytes to y → IsReadAt (reads_counted reads) (shared false (sized s)) knows bytes pos x
    rc_read reads x y e read v h =
        let one = counted_of (there.value v h) in
        (erased one.0, sym (ap erased one.1), subst (reads (erased one.0)) (sym e) (read one.0 one.2))

  -- ---- to elements

  module _ (len : ℕ) (there : IsRcSliceAt false s knows bytes pos to len) where
    pub rc_slice_has : HasValue (shared false (slice s)) knows bytes pos → HasElements s knows bytes to len
    rc_slice_has has = let one = counted_of (there.value has.value has.held) in record { value = one.0; stand = one.2 }

    one_count : {v w u : Value} (n : ℕ) → v ≡ counted to w → v ≡ counted to u → AreElements s knows bytes to n w → AreElements s knows bytes to len u → n ≡ len
    one_count {v} {w} {u} n e f a b =
        let same : w ≡ u = cc in
        let elements : group a.elements ≡ group b.elements = sym a.is ∙ same ∙ b.is in
        let each : a.elements ≡ b.elements = cc in
        sym a.count ∙ ap count_values each ∙ b.count

    -- which end before the pointer
    pub rc_slice_before : HasValue (shared false (slice s)) knows bytes pos → to + len * size_of s ≤ pos
    rc_slice_before has =
        let h = has.held in
        let n = word_at (window bytes pos 8) 4 in
        let stands = counted_of (pointer_counts false (slice s) knows bytes pos to n there.points refl has.value h) in
        let ends = (claimed_inside (by_claimed h.names bytes (slice_is h.names bytes to s n) stands.2.holds).regions_are stands.2.claimed).ends in
        let own = counted_of ((rc_slice_there false s knows bytes pos to there.points n refl).value has.value h) in
        let one = counted_of (there.value has.value h) in
        let same = one_count n own.1 one.1 own.2 one.2 in
        omega (arith, ends, ap (λ m. m * size_of s) same)

    pub rc_slice_read : {A : Type 0} (reads : Value → A → Type 0) (xs ys : List A) → xs ≡ ys → length ys ≡ len → AreReadFrom reads s knows bytes to ys
        → IsReadAt (reads_counted (reads_all reads)) (shared false (slice s)) knows bytes pos xs
    rc_slice_read reads xs ys e many read v h =
        let one = counted_of (there.value v h) in
        (erased one.0, sym (ap erased one.1), subst (reads_all reads (erased one.0)) (sym e) (all_values reads s knows bytes to len ys one.0 one.2 many read))

-- ---- to a text

module _ (bytes : List ℕ) (pos : ℕ) where
  pub rc_str_leads : HasValue (shared false str) (λ _. ⊤) bytes pos → (to : ℕ) × PointsTo bytes pos to
  rc_str_leads has = pointer_points false str (λ _. ⊤) bytes pos has

  pub rc_str_has : HasValue (shared false str) (λ _. ⊤) bytes pos → HasCounted false str (λ _. ⊤) bytes pos
  rc_str_has has =
      let leads = rc_str_leads has in
      let one = counted_of (pointer_counts false str (λ _. ⊤) bytes pos leads.0 _ leads.1 refl has.value has.held) in
      record { target = leads.0; value = one.0; held = subst (HeldAt (shared false str) (λ _. ⊤) bytes pos) one.1 has.held }

  pub rc_str_read :
      (to len : ℕ) (x : Shared (RcStr Global)) → IsRcStrAt false bytes pos to len → rc_str_bytes x.value ≡ window bytes to len
      → IsReadAt (reads_as shared_str_rc_spelling) (shared false str) (λ _. ⊤) bytes pos x
  rc_str_read to len x there is v h =
      let one = counted_of (there.value v h) in
      ap (λ bs. counted 0 (string bs)) is ∙ sym (ap erased (one.1 ∙ ap (counted to) one.2))
