-- Options and results by their tags: the values that the layout has there, and the positions of the payloads.
use Rattle.std.proofs.Common.{◌≡◌, ◌≢◌, ℕ, ◌+◌, ◌≤◌, ◌<◌, ◌==◌, Bool, true, false, true≢false, List, length, slice_index, Some, None, ◌⊎◌, inl, inr, refl, sym, ap, subst, ◌∙◌, arith, eqb-true}
use Rattle.std.specs.Bool.{MatchBool}
use Rattle.std.proofs.lemmas.Bool.Decides.{eqb_tells}
use Rattle.archive_shape_layout.specs.Bytes.{window, align_up}
use Rattle.archive_shape_layout.specs.Shape.{Shape, Shapes, align_of, size_of}
use Rattle.archive_shape_layout.specs.Shape.Shape.{option, result, choice}
use Rattle.archive_shape_layout.specs.Value.{Value, Values}
use Rattle.archive_shape_layout.specs.Value.Value.{chosen}
use Rattle.archive_shape_layout.specs.Value.Values.{no_values, more_values}
use Rattle.archive_shape_layout.specs.Content.{Names, Content, content_of, made, choose, shape_content, shape_tagged}
use Rattle.archive_shape_layout.specs.Content.Part.{at}
use Rattle.archive_shape_layout.specs.Content.Label.{tagged}
use Rattle.archive_shape_layout.specs.Content.Content.{illegal}
use Rattle.archive_shape_layout.proofs.Unique.{by_plain}
use Rattle.archive_shape.proofs.Inverted.{IsKnown, held_is_known}
use Rattle.archive_shape.specs.Key.{HeldAt}
use Rattle.archive_forms_laws.proofs.Sizes.{behind_tag}
use Rattle.archive_forms_values.proofs.Tagged.{own_tag, option_fits, none_is, some_is, Payloads, ok_is, err_is, choice_tag, choice_is}
use Rattle.archive_forms_values.specs.Parts.{HasValue, HasPayload, some_position, IsNoneAt, IsSomeAt, HasSome, outcome_position, both, IsOkAt, IsErrAt, HasOk}
use Rattle.archive_forms_values.proofs.Inside.{none_held, plain_part, PartHeld}
use Rattle.archive_shape.proofs.Questions.{one_tag}

-- ---- tags

-- a tag that some value has is one of two
two_tags : (n : ℕ) (x y : Content) → IsKnown (choose (n == 0) x (choose (n == 1) y illegal)) → (n ≡ 0 → ⊥) → n ≡ 1
two_tags n x y h other = by (one_tag (n == 0) (n == 1) x y h)
  where
    by : ((n == 0) ≡ true) ⊎ ((n == 1) ≡ true) → n ≡ 1
    by (inl e) = absurd (other (eqb-true n 0 e))
    by (inr e) = eqb-true n 1 e

made_tagged : (tag : ℕ) (vs : Values) (v : Value) → made (tagged tag) vs ≡ Some v → v ≡ chosen tag vs
unfolding made
made_tagged tag vs v e = cc

-- the payload of a tag is the one part
payload_of : {tag : ℕ} {s : Shape} {knows : Names → Type 0} {bytes : List ℕ} {to : ℕ} {v : Value} → PartHeld (tagged tag) s knows bytes to v → HasPayload tag s knows bytes to v
payload_of {tag} h = record { payload = h.part; is = made_tagged tag _ _ h.is_made; held = h.held }

-- ---- options

-- what is not none is some value
pub has_some : {s : Shape} {knows : Names → Type 0} {bytes : List ℕ} {pos : ℕ} → HasValue (option s) knows bytes pos → IsSomeAt s knows bytes pos → HasSome s knows bytes pos
has_some {s} {knows} {bytes} {pos} h there =
    let one = there h.value h.held in
    record { payload = one.payload; held = subst (HeldAt (option s) knows bytes pos) one.is h.held }

module _ (s : Shape) (knows : Names → Type 0) (bytes : List ℕ) (pos : ℕ) (align : ℕ) (is : align ≡ align_of s) (positive : 0 < align) where
  -- the position of the value
  pub some_stands : some_position s pos ≡ pos + align
  some_stands = ap (λ n. pos + n) (ap (align_up 1) (sym is) ∙ behind_tag align positive)

  -- the tag and the value lie in the bytes
  pub option_within : HasValue (option s) knows bytes pos → pos + align + size_of s ≤ length bytes
  option_within h = omega (arith, option_fits s align is positive, h.held.own_within)

  own : slice_index (window bytes pos (size_of (option s))) 0 ≡ slice_index bytes pos
  own = own_tag bytes pos (size_of (option s)) (omega (arith, option_fits s align is positive))

  none_at : slice_index bytes pos ≡ 0 → IsNoneAt s knows bytes pos
  none_at tag v h =
      let says = by_plain h.names bytes (none_is h.names bytes pos s align is positive tag) h.holds in
      made_tagged 0 says.vs v says.is_made ∙ ap (chosen 0) (none_held h.names bytes says.all)

  tag_is_one : (v : Value) (h : HeldAt (option s) knows bytes pos v) → (slice_index bytes pos ≡ 0 → ⊥) → slice_index bytes pos ≡ 1
  unfolding shape_content
  tag_is_one v h other = sym own ∙ two_tags _ _ _ (held_is_known h.names bytes h.holds) (λ e. other (sym own ∙ e))

  some_at : (slice_index bytes pos ≡ 0 → ⊥) → IsSomeAt s knows bytes pos
  some_at other v h =
      subst (λ at. HasPayload 1 s knows bytes at v) (sym some_stands)
      (payload_of (plain_part 1 h (some_is h.names bytes pos s align is positive (tag_is_one v h other)) h.known (omega arith) (option_within (record { value = v; held = h }))))

  -- the tag says whether there is one
  pub option_by_tag : MatchBool (slice_index bytes pos == 0) (IsNoneAt s knows bytes pos) (IsSomeAt s knows bytes pos)
  option_by_tag = by (slice_index bytes pos == 0) (eqb_tells (slice_index bytes pos) 0)
    where
      by : (b : Bool) → ((b ≡ true) × (slice_index bytes pos ≡ 0)) ⊎ ((b ≡ false) × (slice_index bytes pos ≢ 0)) → MatchBool b (IsNoneAt s knows bytes pos) (IsSomeAt s knows bytes pos)
      by true (inl e) = none_at e.1
      by true (inr e) = absurd (true≢false e.0)
      by false (inl e) = absurd (true≢false (sym e.0))
      by false (inr e) = some_at e.1

  -- where the layout has some value, it is not none
  pub some_is_not_none : HasSome s knows bytes pos → IsNoneAt s knows bytes pos → ⊥
  some_is_not_none h none =
      let both : chosen 1 (more_values h.payload no_values) ≡ chosen 0 no_values = none _ h.held in
      cc

-- ---- results

-- what is no error is a value
pub has_ok : {s t : Shape} {knows others : Names → Type 0} {bytes : List ℕ} {pos : ℕ} → HasValue (result s t) (both knows others) bytes pos → IsOkAt s t knows others bytes pos → HasOk s t knows others bytes pos
has_ok {s} {t} {knows} {others} {bytes} {pos} h there =
    let one = there h.value h.held in
    record { payload = one.payload; held = subst (HeldAt (result s t) (both knows others) bytes pos) one.is h.held }

module _ (s t : Shape) (knows others : Names → Type 0) (bytes : List ℕ) (pos : ℕ) (align : ℕ) (h : Payloads s t align) where
  -- the position of the value or the error
  pub outcome_stands : outcome_position s t pos ≡ pos + align
  outcome_stands = ap (λ n. pos + n) (ap (align_up 1) (sym h.is) ∙ behind_tag align h.positive)

  -- the tag and either lie in the bytes
  pub result_within : HasValue (result s t) (both knows others) bytes pos → (pos + align + size_of s ≤ length bytes) × (pos + align + size_of t ≤ length bytes)
  result_within there = (omega (arith, h.value_fits, there.held.own_within), omega (arith, h.error_fits, there.held.own_within))

  result_own : slice_index (window bytes pos (size_of (result s t))) 0 ≡ slice_index bytes pos
  result_own = own_tag bytes pos (size_of (result s t)) (omega (arith, h.value_fits, h.positive))

  ok_at : slice_index bytes pos ≡ 0 → IsOkAt s t knows others bytes pos
  ok_at tag v i =
      subst (λ at. HasPayload 0 s knows bytes at v) (sym outcome_stands)
      (payload_of (plain_part 0 i (ok_is i.names bytes pos s t align h tag) i.known.0 (omega arith) (result_within (record { value = v; held = i })).0))

  error_tag : (v : Value) (i : HeldAt (result s t) (both knows others) bytes pos v) → (slice_index bytes pos ≡ 0 → ⊥) → slice_index bytes pos ≡ 1
  unfolding shape_content
  error_tag v i other = sym result_own ∙ two_tags _ _ _ (held_is_known i.names bytes i.holds) (λ e. other (sym result_own ∙ e))

  err_at : (slice_index bytes pos ≡ 0 → ⊥) → IsErrAt s t knows others bytes pos
  err_at other v i =
      subst (λ at. HasPayload 1 t others bytes at v) (sym outcome_stands)
      (payload_of (plain_part 1 i (err_is i.names bytes pos s t align h (error_tag v i other)) i.known.1 (omega arith) (result_within (record { value = v; held = i })).1))

  -- the tag says which
  pub result_by_tag : MatchBool (slice_index bytes pos == 0) (IsOkAt s t knows others bytes pos) (IsErrAt s t knows others bytes pos)
  result_by_tag = by (slice_index bytes pos == 0) (eqb_tells (slice_index bytes pos) 0)
    where
      by : (b : Bool) → ((b ≡ true) × (slice_index bytes pos ≡ 0)) ⊎ ((b ≡ false) × (slice_index bytes pos ≢ 0)) → MatchBool b (IsOkAt s t knows others bytes pos) (IsErrAt s t knows others bytes pos)
      by true (inl e) = ok_at e.1
      by true (inr e) = absurd (true≢false e.0)
      by false (inl e) = absurd (true≢false (sym e.0))
      by false (inr e) = err_at e.1

  -- where the layout has a value, it is no error
  pub ok_is_not_error : HasOk s t knows others bytes pos → IsErrAt s t knows others bytes pos → ⊥
  ok_is_not_error there error =
      let payload = error _ there.held in
      let both : chosen 0 (more_values there.payload no_values) ≡ chosen 1 (more_values payload.payload no_values) = payload.is in
      cc

-- ---- enums

module _ (ss : Shapes) (knows : Names → Type 0) (bytes : List ℕ) (pos : ℕ) (v : Value) (h : HeldAt (choice ss) knows bytes pos v) where
  -- a tag that some value has names a payload
  pub choice_has : shape_tagged (slice_index bytes pos) ss ≡ None → ⊥
  unfolding shape_content
  choice_has missing =
      let none : content_of h.names bytes (at pos (choice ss)) ≡ illegal = rw (choice_tag h.names bytes pos ss, missing) refl in
      subst IsKnown none (held_is_known h.names bytes h.holds)

  -- which is after the tag
  pub choice_at :
      (tag : ℕ) (s : Shape) (align : ℕ) (others : Names → Type 0)
      → slice_index bytes pos ≡ tag
      → shape_tagged tag ss ≡ Some s
      → align_up 1 (align_of s) ≡ align
      → align + size_of s ≤ size_of (choice ss)
      → ((names : Names) → knows names → others names)
      → HasPayload tag s others bytes (pos + align) v
  choice_at tag s align others tag_is payload is fits known =
      payload_of (plain_part tag h (choice_is h.names bytes pos ss tag s align tag_is payload is) (known h.names h.known) (omega arith) (omega (arith, fits, h.own_within)))
