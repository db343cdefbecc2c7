-- What is read back of results.
use Rattle.std.proofs.Common.{◌≡◌, ℕ, ◌+◌, ◌≤◌, max, arith, List, Ok, Err, sym, ap, subst}
use Rattle.archive_shape_layout.specs.Bytes.{align_up}
use Rattle.archive_shape_layout.specs.Shape.{Shape, size_of, align_of}
use Rattle.archive_shape_layout.specs.Shape.Shape.{result}
use Rattle.archive_shape_layout.specs.Value.{Value}
use Rattle.archive_shape_layout.specs.Content.{Names}
use Rattle.archive_shape_layout.proofs.Framed.{le_align_up}
use Rattle.archive_shape_canonical.specs.Sharing.{erased}
use Rattle.archive_shape.specs.Key.{HeldAt}
use Rattle.archive_forms_values.specs.Parts.{HasValue, HasPayload, both, IsOkAt, IsErrAt, outcome_position}
use Rattle.archive_forms.specs.Deserializing.{IsReadAt}
use Rattle.archive_forms.specs.Reading.{reads_result}

-- after the tag of each value of a shape is a value of another shape
pub payload_has :
    (whole s : Shape) (all knows : Names → Type 0) (bytes : List ℕ) (pos tag place at : ℕ)
    → at ≡ place
    → ((v : _) → HeldAt whole all bytes pos v → HasPayload tag s knows bytes place v)
    → HasValue whole all bytes pos
    → HasValue s knows bytes at
payload_has whole s all knows bytes pos tag place at e there h =
    let p = there h.value h.held in record { value = p.payload; held = subst (λ n. HeldAt s knows bytes n p.payload) (sym e) p.held }

-- and it ends where a result of it does, or before
pub outcome_ends : (s t : Shape) (pos at : ℕ) → at ≡ outcome_position s t pos → (at + size_of s ≤ pos + size_of (result s t)) × (at + size_of t ≤ pos + size_of (result s t))
outcome_ends s t pos at e =
    let filled = le_align_up (align_up 1 (max (align_of s) (align_of t)) + max (size_of s) (size_of t)) (max (align_of s) (align_of t)) in
    (omega (arith, e, filled), omega (arith, e, filled))

module _ {A B : Type 0} (reads : Value → A → Type 0) (errors : Value → B → Type 0) (s t : Shape) (knows others : Names → Type 0) (bytes : List ℕ) (pos at : ℕ) where
  pub ok_read :
      (a : A) → at ≡ outcome_position s t pos → IsOkAt s t knows others bytes pos → IsReadAt reads s knows bytes at a
      → IsReadAt (reads_result reads errors) (result s t) (both knows others) bytes pos (Ok a)
  ok_read a e there read v h =
      let p = there v h in
      (erased p.payload, sym (ap erased p.is), read p.payload (subst (λ n. HeldAt s knows bytes n p.payload) (sym e) p.held))

  pub err_read :
      (b : B) → at ≡ outcome_position s t pos → IsErrAt s t knows others bytes pos → IsReadAt errors t others bytes at b
      → IsReadAt (reads_result reads errors) (result s t) (both knows others) bytes pos (Err b)
  err_read b e there read v h =
      let p = there v h in
      (erased p.payload, sym (ap erased p.is), read p.payload (subst (λ n. HeldAt t others bytes n p.payload) (sym e) p.held))
