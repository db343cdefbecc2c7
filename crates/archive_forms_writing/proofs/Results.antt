-- Values after a tag, and the data and own bytes of results.
use Rattle.std.proofs.Common.{◌≡◌, ℕ, ◌+◌, ◌≤◌, ◌<◌, max, Ok, Err, List, length, set, sym, ap, subst, ◌∙◌, arith, length-set, ◌^◌}
use Rattle.std.specs.Prelude.{Result}
use Rattle.archive_shape_layout.specs.Bytes.{align_up}
use Rattle.archive_shape_layout.specs.Shape.{Shape, size_of, align_of}
use Rattle.archive_shape_layout.specs.Shape.Shape.{result as result_shape}
use Rattle.archive_shape.specs.Bytes.{HasBytes, zeros, overwrite}
use Rattle.archive_forms_laws.proofs.Sizes.{behind_tag}
use Rattle.archive_shape_layout.specs.Writing.{WriterMembers}
use Rattle.archive_shape_layout.specs.declared.error.Error.{Error}
use Rattle.archive_forms_laws.specs.State.{State}
use Rattle.archive_forms_laws.specs.Spelling.{Spelling, state_after}
use Rattle.archive_forms_laws.specs.Payloads.{payload_spelling}
use Rattle.archive_forms_laws.specs.Results.{result_spelling, result_payload_at}
use Rattle.archive_forms_laws.specs.Serializing.{of_data, IsAt, CanResolve, Resolves}
use Rattle.archive_forms_laws.proofs.SpellingResults.{result_room}
use Rattle.archive_forms_writing.proofs.Joining.{payload_over, payload_place, payload_spares}
use Rattle.archive_forms_writing.proofs.Laying.{Wrote, Stops}

-- what a value after a tag is resolved to, where the tag is set and the value is resolved after it
pub payload_resolved : {A R : Type 0} (w : Spelling A R) (s whole : Shape) (tag offset : ℕ) → 1 ≤ offset → offset + size_of s ≤ size_of whole
    → (bytes set_bytes new final : List ℕ) (start pos from there : ℕ) (x : A) (r : R) (result : Result (Unit {0}) Error)
    → ((p : ℕ) → w.own_fits x r p → length (w.own x r p) ≡ size_of s)
    → start + size_of whole ≤ length bytes → HasBytes bytes start (zeros (size_of whole))
    → set_bytes ≡ set bytes start tag → from ≡ start + offset → there ≡ pos + offset → new ≡ final
    → Resolves w s x r there from set_bytes new result
    → Resolves (payload_spelling tag offset (size_of whole) w) whole x r pos start bytes final result
payload_resolved w s whole tag offset first fits bytes set_bytes new final start pos from there x r (Ok u) sized room blank is_set is_from is_there ends h =
    let F : ℕ → Type 0 = λ n. w.own_fits x r n in
    let fit = subst F is_there h.0 in (
      fit,
      sym ends ∙ h.1
          ∙ ap (λ l. overwrite l from (w.own x r there)) is_set
          ∙ ap (λ n. overwrite (set bytes start tag) n (w.own x r there)) is_from
          ∙ ap (λ n. overwrite (set bytes start tag) (start + offset) (w.own x r n)) is_there
          ∙ payload_over offset (size_of whole) (size_of s) first fits bytes start tag room blank (w.own x r (pos + offset)) (sized (pos + offset) fit),
    )
payload_resolved w s whole tag offset first fits bytes set_bytes new final start pos from there x r (Err e) sized room blank is_set is_from is_there ends h =
    let F : ℕ → Type 0 = λ n. w.own_refused x r n e in
    (subst F is_there h.0, payload_spares offset (size_of whole) (size_of s) first fits bytes set_bytes new final start tag from room is_set is_from ends h.1)

-- what is required where a value is resolved after a tag that is set
pub payload_can : {A R : Type 0} (w : Spelling A R) (s : Shape) (tag offset size : ℕ) → 1 ≤ offset → offset + size_of s ≤ size
    → (bytes set_bytes : List ℕ) (start pos from there : ℕ) (x : A) (r : R)
    → start + size ≤ length bytes → pos + size < 2 ^ 64 → HasBytes bytes start (zeros size)
    → set_bytes ≡ set bytes start tag → from ≡ start + offset → there ≡ pos + offset
    → (st : State) × (r ≡ w.resolver x st)
    → CanResolve w s x r set_bytes from there
payload_can w s tag offset size first fits bytes set_bytes start pos from there x r room stands blank is_set is_from is_there made =
    let n : length set_bytes ≡ length bytes = ap length is_set ∙ length-set _ _ _ in
    let B : List ℕ → Type 0 = λ l. HasBytes l from (zeros (size_of s)) in
    let F : ℕ → Type 0 = λ m. HasBytes (set bytes start tag) m (zeros (size_of s)) in
    record {
      room = omega arith;
      stands = omega arith;
      blank = subst B (sym is_set) (subst F (sym is_from) (payload_place offset size (size_of s) first fits bytes start tag room blank));
      made = made;
    }

-- the position of the value or the error of a result in it
pub record OutcomePlace (s t : Shape) (offset : ℕ) : Type 0 where
  pub first : 1 ≤ offset
  pub at : result_payload_at s t ≡ offset
  pub fits : offset + size_of s ≤ size_of (result_shape s t)
  pub fits_error : offset + size_of t ≤ size_of (result_shape s t)

pub outcome_place : (s t : Shape) (offset first_align other_align : ℕ) → offset ≡ max first_align other_align → first_align ≡ align_of s → other_align ≡ align_of t → 0 < first_align → OutcomePlace s t offset
outcome_place s t offset first_align other_align is is_first is_other positive =
    let greater : offset ≡ max (align_of s) (align_of t) = omega arith in
    let at : result_payload_at s t ≡ offset = ap (align_up 1) (sym greater) ∙ behind_tag offset (omega arith) in
    let room = result_room s t in
    record { first = omega arith; at = at; fits = omega arith; fits_error = omega arith }

-- the resolver of a result that is a value is that of the value, and the resolver of an error is that of the error
pub value_made : {A B R Q : Type 0} (s t : Shape) (w : Spelling A R) (u : Spelling B Q) (o : Result A B) (k : Result R Q) (x : A) (r : R) → o ≡ Ok x → k ≡ Ok r
    → (st : State) × (k ≡ (result_spelling s t w u).resolver o st) → (st : State) × (r ≡ w.resolver x st)
value_made {R = R} {Q = Q} s t w u o k x r is made h =
    let value_or : Result R Q → R = λ q. match_result_or q r in
    let both : Ok r ≡ (result_spelling s t w u).resolver (Ok x) h.0 = sym made ∙ h.1 ∙ ap (λ y. (result_spelling s t w u).resolver y h.0) is in
    (h.0, ap value_or both)
  where
    match_result_or : Result R Q → R → R
    match_result_or (Ok a) d = a
    match_result_or (Err a) d = d

pub error_made : {A B R Q : Type 0} (s t : Shape) (w : Spelling A R) (u : Spelling B Q) (o : Result A B) (k : Result R Q) (y : B) (r : Q) → o ≡ Err y → k ≡ Err r
    → (st : State) × (k ≡ (result_spelling s t w u).resolver o st) → (st : State) × (r ≡ u.resolver y st)
error_made {R = R} {Q = Q} s t w u o k y r is made h =
    let error_or : Result R Q → Q = λ q. match_error_or q r in
    let both : Err r ≡ (result_spelling s t w u).resolver (Err y) h.0 = sym made ∙ h.1 ∙ ap (λ z. (result_spelling s t w u).resolver z h.0) is in
    (h.0, ap error_or both)
  where
    match_error_or : Result R Q → Q → Q
    match_error_or (Ok a) d = d
    match_error_or (Err a) d = a

module _ {A B R Q : Type 0} (s t : Shape) (w : Spelling A R) (u : Spelling B Q) (o : Result A B) (offset : ℕ) (at : result_payload_at s t ≡ offset) (bytes final : List ℕ) (start pos : ℕ) (answer : Result (Unit {0}) Error) where
  -- what a result is resolved to, by its tag and what is after it
  pub value_resolved : (k : Result R Q) (x : A) (r : R) → o ≡ Ok x → k ≡ Ok r
      → Resolves (payload_spelling 0 offset (size_of (result_shape s t)) w) (result_shape s t) x r pos start bytes final answer
      → Resolves (result_spelling s t w u) (result_shape s t) o k pos start bytes final answer
  value_resolved k x r is made h =
      let P : Result A B → Type 0 = λ y. Resolves (result_spelling s t w u) (result_shape s t) y k pos start bytes final answer in
      let M : Result R Q → Type 0 = λ q. Resolves (result_spelling s t w u) (result_shape s t) (Ok x) q pos start bytes final answer in
      let N : ℕ → Type 0 = λ n. Resolves (payload_spelling 0 n (size_of (result_shape s t)) w) (result_shape s t) x r pos start bytes final answer in
      subst P (sym is) (subst M (sym made) (subst N (sym at) h))

  pub error_resolved : (k : Result R Q) (y : B) (r : Q) → o ≡ Err y → k ≡ Err r
      → Resolves (payload_spelling 1 offset (size_of (result_shape s t)) u) (result_shape s t) y r pos start bytes final answer
      → Resolves (result_spelling s t w u) (result_shape s t) o k pos start bytes final answer
  error_resolved k y r is made h =
      let P : Result A B → Type 0 = λ z. Resolves (result_spelling s t w u) (result_shape s t) z k pos start bytes final answer in
      let M : Result R Q → Type 0 = λ q. Resolves (result_spelling s t w u) (result_shape s t) (Err y) q pos start bytes final answer in
      let N : ℕ → Type 0 = λ n. Resolves (payload_spelling 1 n (size_of (result_shape s t)) u) (result_shape s t) y r pos start bytes final answer in
      subst P (sym is) (subst M (sym made) (subst N (sym at) h))

module _ {A B R Q W : Type 0} (s t : Shape) (w : Spelling A R) (u : Spelling B Q) (m : WriterMembers W) (old new : W) (st : State) (o : Result A B) where
  -- the data of the value was written, or a call stopped in it
  pub value_wrote : (x : A) (r : R) → o ≡ Ok x → Wrote (of_data m) old new (w.piece x st) → r ≡ w.resolver x st → w.piece_fits x st → IsAt m.pos m.known new (state_after w x st)
      → Wrote (of_data m) old new ((result_spelling s t w u).piece o st)
      × ((Ok r ≡ (result_spelling s t w u).resolver o st) × (result_spelling s t w u).piece_fits o st × IsAt m.pos m.known new (state_after (result_spelling s t w u) o st))
  value_wrote x r is wrote made fits at =
      let P : Result A B → Type 0 = λ y. Wrote (of_data m) old new ((result_spelling s t w u).piece y st)
      × ((Ok r ≡ (result_spelling s t w u).resolver y st) × (result_spelling s t w u).piece_fits y st × IsAt m.pos m.known new (state_after (result_spelling s t w u) y st)) in
      subst P (sym is) (wrote, (ap Ok made, fits, at))

  pub value_stopped : (x : A) (e : Error) → o ≡ Ok x → Stops (of_data m) old new (w.piece x st) (w.piece_refused x st) e
      → Stops (of_data m) old new ((result_spelling s t w u).piece o st) ((result_spelling s t w u).piece_refused o st) e
  value_stopped x e is h =
      let P : Result A B → Type 0 = λ y. Stops (of_data m) old new ((result_spelling s t w u).piece y st) ((result_spelling s t w u).piece_refused y st) e in subst P (sym is) h

  -- the data of the error was written, or a call stopped in it
  pub error_wrote : (y : B) (r : Q) → o ≡ Err y → Wrote (of_data m) old new (u.piece y st) → r ≡ u.resolver y st → u.piece_fits y st → IsAt m.pos m.known new (state_after u y st)
      → Wrote (of_data m) old new ((result_spelling s t w u).piece o st)
      × ((Err r ≡ (result_spelling s t w u).resolver o st) × (result_spelling s t w u).piece_fits o st × IsAt m.pos m.known new (state_after (result_spelling s t w u) o st))
  error_wrote y r is wrote made fits at =
      let P : Result A B → Type 0 = λ z. Wrote (of_data m) old new ((result_spelling s t w u).piece z st)
      × ((Err r ≡ (result_spelling s t w u).resolver z st) × (result_spelling s t w u).piece_fits z st × IsAt m.pos m.known new (state_after (result_spelling s t w u) z st)) in
      subst P (sym is) (wrote, (ap Err made, fits, at))

  pub error_stopped : (y : B) (e : Error) → o ≡ Err y → Stops (of_data m) old new (u.piece y st) (u.piece_refused y st) e
      → Stops (of_data m) old new ((result_spelling s t w u).piece o st) ((result_spelling s t w u).piece_refused o st) e
  error_stopped y e is h =
      let P : Result A B → Type 0 = λ z. Stops (of_data m) old new ((result_spelling s t w u).piece z st) ((result_spelling s t w u).piece_refused z st) e in subst P (sym is) h
