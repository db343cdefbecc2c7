-- The data of an option that is there, and the own bytes of options.
use Rattle.std.proofs.Common.{◌≡◌, ℕ, ◌+◌, ◌≤◌, ◌<◌, Option, Some, None, Ok, Err, List, length, set, sym, ap, subst, ◌∙◌, refl, arith}
use Rattle.std.specs.Prelude.{Result, unwrap_or}
use Rattle.archive_shape_layout.specs.Bytes.{align_up}
use Rattle.archive_shape_layout.specs.Shape.{Shape, size_of, align_of}
use Rattle.archive_shape_layout.specs.Shape.Shape.{option}
use Rattle.archive_shape.specs.Bytes.{HasBytes, zeros, overwrite}
use Rattle.archive_forms_laws.proofs.Sizes.{behind_tag}
use Rattle.archive_shape_layout.specs.Writing.{WriterMembers}
use Rattle.archive_shape_layout.specs.declared.error.Error.{Error}
use Rattle.archive_forms_laws.specs.State.{State}
use Rattle.archive_forms_laws.specs.Spelling.{Spelling, state_after}
use Rattle.archive_forms_laws.specs.Options.{option_spelling, payload_at, tagged_bytes}
use Rattle.archive_forms_laws.specs.Serializing.{of_data, IsAt, Resolves}
use Rattle.archive_forms_laws.proofs.Options.{option_room}
use Rattle.archive_forms_writing.proofs.Joining.{payload_over, payload_spares, unfilled}
use Rattle.archive_forms_writing.proofs.Laying.{Wrote, Stops}

module _ {A R W : Type 0} (sh : Shape) (w : Spelling A R) (s : WriterMembers W) (old new : W) (st : State) (o : Option A) (x : A) (is : o ≡ Some x) where
  -- the data of its value was written
  pub some_wrote : (r : R) → Wrote (of_data s) old new (w.piece x st) → r ≡ w.resolver x st → w.piece_fits x st → IsAt s.pos s.known new (state_after w x st)
      → Wrote (of_data s) old new ((option_spelling sh w).piece o st)
      × ((Some r ≡ (option_spelling sh w).resolver o st) × (option_spelling sh w).piece_fits o st × IsAt s.pos s.known new (state_after (option_spelling sh w) o st))
  some_wrote r wrote made fits at =
      let P : Option A → Type 0 = λ y. Wrote (of_data s) old new ((option_spelling sh w).piece y st)
      × ((Some r ≡ (option_spelling sh w).resolver y st) × (option_spelling sh w).piece_fits y st × IsAt s.pos s.known new (state_after (option_spelling sh w) y st)) in
      subst P (sym is) (wrote, (ap Some made, fits, at))

  -- a call stopped in it
  pub some_stopped : (e : Error) → Stops (of_data s) old new (w.piece x st) (w.piece_refused x st) e → Stops (of_data s) old new ((option_spelling sh w).piece o st) ((option_spelling sh w).piece_refused o st) e
  some_stopped e h = let P : Option A → Type 0 = λ y. Stops (of_data s) old new ((option_spelling sh w).piece y st) ((option_spelling sh w).piece_refused y st) e in subst P (sym is) h

-- the position of the value of an option in it
pub record ValuePlace (s : Shape) (offset : ℕ) : Type 0 where
  pub first : 1 ≤ offset
  pub at : payload_at s ≡ offset
  pub fits : offset + size_of s ≤ size_of (option s)

pub value_place : (s : Shape) (offset : ℕ) → offset ≡ align_of s → 0 < offset → ValuePlace s offset
value_place s offset is positive =
    let at : payload_at s ≡ offset = ap (align_up 1) (sym is) ∙ behind_tag offset positive in
    record { first = omega arith; at = at; fits = omega (arith, option_room s (size_of s) refl) }

module _ {A R : Type 0} (s : Shape) (w : Spelling A R) (sized : (x : A) (r : R) (pos : ℕ) → w.own_fits x r pos → length (w.own x r pos) ≡ size_of s) where
  -- what an option is resolved to, where its value is resolved after the tag
  pub some_resolved : (offset : ℕ) (place : ValuePlace s offset) (bytes set_bytes new final : List ℕ) (start pos from there : ℕ) (o : Option A) (k : Option R) (x : A) (r : R) (result : Result (Unit {0}) Error)
      → o ≡ Some x → k ≡ Some r
      → start + size_of (option s) ≤ length bytes → HasBytes bytes start (zeros (size_of (option s)))
      → set_bytes ≡ set bytes start 1 → from ≡ start + offset → there ≡ pos + offset → new ≡ final
      → Resolves w s x r there from set_bytes new result
      → Resolves (option_spelling s w) (option s) o k pos start bytes final result
  some_resolved offset place bytes set_bytes new final start pos from there o k x r (Ok u) is_some is_made room blank is_set is_from is_there ends h =
      let P : Option A → Type 0 = λ y. Resolves (option_spelling s w) (option s) y k pos start bytes final (Ok u) in
      let Q : Option R → Type 0 = λ q. Resolves (option_spelling s w) (option s) (Some x) q pos start bytes final (Ok u) in
      let F : ℕ → Type 0 = λ n. w.own_fits x r n in
      let to : there ≡ pos + payload_at s = is_there ∙ ap (λ n. pos + n) (sym place.at) in
      let own = w.own x r (pos + payload_at s) in
      let first = place.first in
      let fits = place.fits in
      let written : final ≡ overwrite bytes start (tagged_bytes 1 (payload_at s) (size_of (option s)) own) =
      sym ends ∙ h.1
      ∙ ap (λ l. overwrite l from (w.own x r there)) is_set
      ∙ ap (λ n. overwrite (set bytes start 1) n (w.own x r there)) is_from
      ∙ ap (λ n. overwrite (set bytes start 1) (start + offset) (w.own x r n)) to
      ∙ payload_over offset (size_of (option s)) (size_of s) first fits bytes start 1 room blank own (sized x r (pos + payload_at s) (subst F to h.0))
      ∙ ap (λ n. overwrite bytes start (tagged_bytes 1 n (size_of (option s)) own)) (sym place.at) in
      subst P (sym is_some) (subst Q (sym is_made) (subst F to h.0, written))
  some_resolved offset place bytes set_bytes new final start pos from there o k x r (Err e) is_some is_made room blank is_set is_from is_there ends h =
      let P : Option A → Type 0 = λ y. Resolves (option_spelling s w) (option s) y k pos start bytes final (Err e) in
      let Q : Option R → Type 0 = λ q. Resolves (option_spelling s w) (option s) (Some x) q pos start bytes final (Err e) in
      let F : ℕ → Type 0 = λ n. w.own_refused x r n e in
      subst P (sym is_some) (subst Q (sym is_made) (
        subst F (is_there ∙ ap (λ n. pos + n) (sym place.at)) h.0,
        payload_spares offset (size_of (option s)) (size_of s) place.first place.fits bytes set_bytes new final start 1 from room is_set is_from ends h.1,
      ))

  -- and an option that is not there, in a place that is zero
  pub none_resolved : (bytes : List ℕ) (start pos : ℕ) (o : Option A) (k : Option R) → o ≡ None → HasBytes bytes start (zeros (size_of (option s)))
      → Resolves (option_spelling s w) (option s) o k pos start bytes bytes (Ok tt)
  none_resolved bytes start pos o k is blank =
      let P : Option A → Type 0 = λ y. Resolves (option_spelling s w) (option s) y k pos start bytes bytes (Ok tt) in
      subst P (sym is) (tt, sym (unfilled bytes start (size_of (option s)) blank))

module _ {A R : Type 0} (s : Shape) (w : Spelling A R) (o : Option A) (k : Option R) (x : A) (r : R) (is_some : o ≡ Some x) (is_made : k ≡ Some r) where
  -- the resolver of an option that is there is that of its value
  pub some_made : (st : State) × (k ≡ (option_spelling s w).resolver o st) → (st : State) × (r ≡ w.resolver x st)
  some_made made =
      let both : Some r ≡ Some (w.resolver x made.0) = sym is_made ∙ made.1 ∙ ap (λ y. (option_spelling s w).resolver y made.0) is_some in
      (made.0, ap (λ q. unwrap_or q r) both)
