-- Where each key of a kept map is found under its own number, and there are no more full places than keys, each control is
-- the tag of its key.
use Rattle.std.proofs.Common.{◌≡◌, ℕ, ◌<◌, ◌≤◌, ◌==◌, ◌&&◌, Bool, true, [], length, slice_index, refl, ap, subst, sym, eqb-true, eq-eqb}
use Rattle.std.specs.List.{Contains, flat_map}
use Rattle.std.proofs.lemmas.Bool.{and_from, and_parts}
use Rattle.cabinet_documents.specs.Audit.{unless, wrong_tag, not_found, tag_faults, search_faults}
use Rattle.cabinet_documents.specs.Table.{Slot, Entry, Table, slot_at, key_reach, tag_of, has_key, answers, found, gives}
use Rattle.cabinet_documents.proofs.Found.{found_passes, none_of}
use Rattle.cabinet_documents.proofs.FoundKeys.{given, key_there, no_fault, none_each}
use Rattle.cabinet_documents.proofs.Numbered.{all_met}

module _ (t : Table) where
  abbrev is_tagged : Slot → Bool
  is_tagged s = slice_index t.controls s.place == tag_of s.key

  -- the look-up of a key finds a place whose control is the key's tag
  tagged : (e : Entry) → search_faults t e ≡ [] → (s : Slot) × Contains t.slots s × ((is_tagged s && (s.number == e.number)) ≡ true)
  tagged e none =
      let g = given t (found t e.key) e refl (no_fault (gives t (found t e.key) e.number) not_found none) in
      let p = g.place in
      let test = (found_passes (answers t e.key) (key_reach t e.key) p g.looked).0 in
      let parts = and_parts (slice_index t.controls p == tag_of e.key) (has_key (slot_at t.slots p) e.key) test in
      let key = key_there t (slot_at t.slots p) g.slot e.key g.there parts.1 in
      let here = found_passes (λ (s : Slot). s.place == p) t.slots g.slot g.there in
      let place : g.slot.place ≡ p = eqb-true g.slot.place p here.0 in
      let tag : is_tagged g.slot ≡ true = subst (λ k. (slice_index t.controls g.slot.place == tag_of k) ≡ true) (sym key) (subst (λ q. (slice_index t.controls q == tag_of e.key) ≡ true) (sym place) parts.0) in
      (g.slot, here.1, and_from (is_tagged g.slot) (g.slot.number == e.number) tag (eq-eqb g.slot.number e.number g.number))

  pub tags_are_found : (n : ℕ) → length t.slots ≤ n → ((i : ℕ) → i < n → (e : Entry) × Contains t.entries e × (e.number ≡ i))
      → flat_map (search_faults t) t.entries ≡ []
      → flat_map (tag_faults t) t.slots ≡ []
  tags_are_found n few numbered none =
      none_of (tag_faults t) t.slots
      (λ s c. ap (λ b. unless b wrong_tag)
      (all_met is_tagged (λ (x : Slot). x.number) n t.slots few
      (λ i less.
      let e = numbered i less in
      let found_there = tagged e.0 (none_each (search_faults t) t.entries none e.0 e.1) in
      (found_there.0, found_there.1, subst (λ k. (is_tagged found_there.0 && (found_there.0.number == k)) ≡ true) e.2 found_there.2))
      s c))
