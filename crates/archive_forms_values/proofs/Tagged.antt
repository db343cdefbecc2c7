-- Values with a tag: the payload is at the first multiple of its alignment after it.
use Rattle.std.proofs.Common.{◌≡◌, ℕ, ◌+◌, ◌≤◌, ◌<◌, List, [], ◌∷◌, drop, slice_index, Some, None, true≢false, Ok, Err, Result, refl, sym, ap, ◌∙◌, arith, add-zero, get_or-take, get_or-drop, max, subst, nat_lt}
use Rattle.std.proofs.lemmas.Bool.{ltb-true}
use Rattle.archive_shape_layout.specs.Bytes.{window, align_up}
use Rattle.archive_shape_layout.specs.Shape.{Shape, Shapes, align_of, aligns_of, size_of, payloads_end}
use Rattle.archive_shape_layout.specs.Shape.Shape.{option, result, choice}
use Rattle.archive_shape_layout.specs.Shape.Shapes.{no_shapes, more_shapes}
use Rattle.archive_shape_layout.specs.Value.{Value}
use Rattle.archive_shape_layout.specs.Value.Value.{chosen}
use Rattle.archive_shape_layout.specs.Value.Values.{no_values, more_values}
use Rattle.archive_shape_layout.specs.Content.{Names, content_of, made, choose, shape_content, shape_tagged}
use Rattle.archive_shape_layout.specs.Content.Part.{at}
use Rattle.archive_shape_layout.specs.Content.Label.{tagged}
use Rattle.archive_shape_layout.specs.Content.Content.{plain}
use Rattle.archive_shape_layout.proofs.Framed.{le_align_up}
use Rattle.archive_shape.specs.Questions.{FirstUnanswered, questions_of, has_payload}
use Rattle.archive_shape.specs.Questions.Question.{test}
use Rattle.archive_shape.specs.Questions.FirstUnanswered.{unanswered_here}
use Rattle.archive_shape.specs.PartFault.PartFault.{fault_unanswered}
use Rattle.archive_shape.specs.Kept.{Kept, range_of}
use Rattle.archive_shape.specs.Checks.{Checks}
use Rattle.archive_shape_layout.specs.declared.error.Error.{Error}
use Rattle.archive_shape_layout.specs.declared.error.Error.TheVariants.{InvalidTag}
use Rattle.archive_shape.proofs.Leaves.{alone_checked}
use Rattle.archive_forms_laws.proofs.Sizes.{behind_tag}
use Rattle.archive_shape.proofs.Below.{below_checked}

pub own_tag : (bytes : List ℕ) (pos size : ℕ) → 0 < size → slice_index (window bytes pos size) 0 ≡ slice_index bytes pos
own_tag bytes pos size some = get_or-take size (drop pos bytes) 0 0 some ∙ get_or-drop pos bytes 0 0 ∙ ap (slice_index bytes) (add-zero pos)

made_tagged : (t : ℕ) (v : Value) → (w : Value) × (made (tagged t) (more_values v no_values) ≡ Some w)
unfolding made
made_tagged t v = (chosen t (more_values v no_values), refl)

-- a tag that is neither of two
pub tag_refused :
    (names : Names) (bytes : List ℕ) (pos : ℕ) (s : Shape) (k l : Kept)
    → questions_of names bytes (at pos s) ≡ test (nat_lt (slice_index (window bytes pos (size_of s)) 0) 2) InvalidTag ∷ []
    → 0 < size_of s
    → (slice_index bytes pos ≡ 0 → ⊥)
    → (slice_index bytes pos ≡ 1 → ⊥)
    → Checks names bytes (at pos s) k (Err InvalidTag) l
tag_refused names bytes pos s k l questions some not_0 not_1 inside before records other =
    let tag : slice_index (window bytes pos (size_of s)) 0 ≡ slice_index bytes pos = own_tag bytes pos (size_of s) some in
    fault_unanswered (subst (FirstUnanswered (range_of k) InvalidTag) (sym questions) (unanswered_here (λ low. let below = ltb-true (slice_index (window bytes pos (size_of s)) 0) 2 low in one_of_two (slice_index bytes pos) not_0 not_1 (omega arith)) refl))
  where
    one_of_two : (n : ℕ) → (n ≡ 0 → ⊥) → (n ≡ 1 → ⊥) → n < 2 → ⊥
    one_of_two n a b below = omega arith

-- ---- options

pub option_fits : (s : Shape) (align : ℕ) → align ≡ align_of s → 0 < align → align + size_of s ≤ size_of (option s)
option_fits s align is positive =
    let from : align_up 1 (align_of s) ≡ align = ap (align_up 1) (sym is) ∙ behind_tag align positive in
    let below = le_align_up (align_up 1 (align_of s) + size_of s) (align_of s) in
    omega arith

module _ (names : Names) (bytes : List ℕ) (pos : ℕ) (s : Shape) (align : ℕ) (is : align ≡ align_of s) (positive : 0 < align) where
  option_tag : slice_index (window bytes pos (size_of (option s))) 0 ≡ slice_index bytes pos
  option_tag = own_tag bytes pos (size_of (option s)) (let fits = option_fits s align is positive in omega arith)

  pub none_is : slice_index bytes pos ≡ 0 → content_of names bytes (at pos (option s)) ≡ plain (tagged 0) []
  unfolding shape_content choose
  none_is tag = rw (option_tag, tag) refl

  pub some_is : slice_index bytes pos ≡ 1 → content_of names bytes (at pos (option s)) ≡ plain (tagged 1) (at (pos + align) s ∷ [])
  unfolding shape_content choose
  some_is tag =
      let from : align_up 1 (align_of s) ≡ align = ap (align_up 1) (sym is) ∙ behind_tag align positive in
      rw (option_tag, tag) (ap (λ n. plain (tagged 1) (at (pos + n) s ∷ [])) from)

  pub none_checked : (k : Kept) → slice_index bytes pos ≡ 0 → Checks names bytes (at pos (option s)) k (Ok tt) k
  unfolding made
  none_checked k tag = alone_checked names bytes (at pos (option s)) k (tagged 0) (chosen 0 no_values) (none_is tag) tt refl

  pub some_checked : (k l : Kept) (r : Result (Unit {0}) Error) → slice_index bytes pos ≡ 1 → Checks names bytes (at (pos + align) s) k r l → Checks names bytes (at pos (option s)) k r l
  some_checked k l r tag h = below_checked names bytes pos (option s) (tagged 1) _ k l r (some_is tag) tt (made_tagged 1) h

-- ---- results

-- the payloads are at the greater alignment of the two
pub record Payloads (s t : Shape) (align : ℕ) : Type 0 where
  pub is : align ≡ max (align_of s) (align_of t)
  pub positive : 0 < align
  pub value_fits : align + size_of s ≤ size_of (result s t)
  pub error_fits : align + size_of t ≤ size_of (result s t)

pub payloads : (s t : Shape) (align first second : ℕ) → align ≡ max first second → first ≡ align_of s → second ≡ align_of t → 0 < first → Payloads s t align
payloads s t align first second greater of_value of_error positive =
    let is : align ≡ max (align_of s) (align_of t) = omega arith in
    let from : align_up 1 (max (align_of s) (align_of t)) ≡ align = ap (align_up 1) (sym is) ∙ behind_tag align (omega arith) in
    let below = le_align_up (align_up 1 (max (align_of s) (align_of t)) + max (size_of s) (size_of t)) (max (align_of s) (align_of t)) in
    record { is = is; positive = omega arith; value_fits = omega arith; error_fits = omega arith }

module _ (names : Names) (bytes : List ℕ) (pos : ℕ) (s t : Shape) (align : ℕ) (h : Payloads s t align) where
  result_tag : slice_index (window bytes pos (size_of (result s t))) 0 ≡ slice_index bytes pos
  result_tag = own_tag bytes pos (size_of (result s t)) (omega (arith, h.value_fits, h.positive))

  payload_from : align_up 1 (max (align_of s) (align_of t)) ≡ align
  payload_from = ap (align_up 1) (sym h.is) ∙ behind_tag align h.positive

  pub ok_is : slice_index bytes pos ≡ 0 → content_of names bytes (at pos (result s t)) ≡ plain (tagged 0) (at (pos + align) s ∷ [])
  unfolding shape_content choose
  ok_is tag = rw (result_tag, tag) (ap (λ n. plain (tagged 0) (at (pos + n) s ∷ [])) payload_from)

  pub err_is : slice_index bytes pos ≡ 1 → content_of names bytes (at pos (result s t)) ≡ plain (tagged 1) (at (pos + align) t ∷ [])
  unfolding shape_content choose
  err_is tag = rw (result_tag, tag) (ap (λ n. plain (tagged 1) (at (pos + n) t ∷ [])) payload_from)

  pub ok_checked : (k l : Kept) (r : Result (Unit {0}) Error) → slice_index bytes pos ≡ 0 → Checks names bytes (at (pos + align) s) k r l → Checks names bytes (at pos (result s t)) k r l
  ok_checked k l r tag payload = below_checked names bytes pos (result s t) (tagged 0) _ k l r (ok_is tag) tt (made_tagged 0) payload

  pub err_checked : (k l : Kept) (r : Result (Unit {0}) Error) → slice_index bytes pos ≡ 1 → Checks names bytes (at (pos + align) t) k r l → Checks names bytes (at pos (result s t)) k r l
  err_checked k l r tag payload = below_checked names bytes pos (result s t) (tagged 1) _ k l r (err_is tag) tt (made_tagged 1) payload

-- ---- enums

payloads_some : (ss : Shapes) → 0 < payloads_end ss
payloads_some no_shapes = omega arith
payloads_some (more_shapes s ss) = let some = payloads_some ss in omega arith

-- an enum has a tag
pub choice_some : (ss : Shapes) → 0 < size_of (choice ss)
choice_some ss =
    let some = payloads_some ss in
    let below = le_align_up (payloads_end ss) (aligns_of ss) in
    omega arith

module _ (names : Names) (bytes : List ℕ) (pos : ℕ) (ss : Shapes) where
  pub choice_tag : slice_index (window bytes pos (size_of (choice ss))) 0 ≡ slice_index bytes pos
  choice_tag = own_tag bytes pos (size_of (choice ss)) (choice_some ss)

  module _ (tag : ℕ) (s : Shape) (align : ℕ) (tag_is : slice_index bytes pos ≡ tag) (payload : shape_tagged tag ss ≡ Some s) (is : align_up 1 (align_of s) ≡ align) where
    -- the payload of a tag is after it
    pub choice_is : content_of names bytes (at pos (choice ss)) ≡ plain (tagged tag) (at (pos + align) s ∷ [])
    unfolding shape_content
    choice_is = rw (choice_tag, tag_is, payload) (ap (λ n. plain (tagged tag) (at (pos + n) s ∷ [])) is)

    -- and is checked as it is
    pub choice_checked : (k l : Kept) (r : Result (Unit {0}) Error) → Checks names bytes (at (pos + align) s) k r l → Checks names bytes (at pos (choice ss)) k r l
    choice_checked k l r h = below_checked names bytes pos (choice ss) (tagged tag) _ k l r choice_is tt (made_tagged tag) h

  -- a tag without a payload
  pub untagged_refused : (k l : Kept) → shape_tagged (slice_index bytes pos) ss ≡ None → Checks names bytes (at pos (choice ss)) k (Err InvalidTag) l
  untagged_refused k l missing inside before records other =
      let tag : shape_tagged (slice_index (window bytes pos (size_of (choice ss))) 0) ss ≡ None = ap (λ n. shape_tagged n ss) choice_tag ∙ missing in
      fault_unanswered (unanswered_here (λ some. true≢false (sym some ∙ ap has_payload tag)) refl)
