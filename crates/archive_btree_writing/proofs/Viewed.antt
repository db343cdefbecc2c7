-- Entries that are seen as others are written as those are.
use Rattle.std.proofs.Common.{◌≡◌, ℕ, zero, suc, ◌+◌, ◌-◌, List, [], ◌∷◌, ◌++◌, append-nil, length, map, Ok, Err, refl, sym, ap, ap₂, subst, ◌∙◌, inl, inr}
use Rattle.std.proofs.lemmas.List.{length-map}
use Rattle.std.specs.Prelude.{Result}
use Rattle.std.specs.Int.{w32, to_le_bytes}
use Rattle.archive_shape_layout.specs.Bytes.{align_up}
use Rattle.archive_shape_layout.specs.Shape.{Shape, size_of}
use Rattle.archive_shape_layout.specs.Content.{link_node_align, keys_offset, values_offset, links_offset}
use Rattle.archive_shape.specs.Bytes.{zeros}
use Rattle.archive_shape_layout.specs.Writing.{WriterMembers}
use Rattle.archive_shape_layout.specs.declared.error.Error.{Error}
use Rattle.archive_forms_laws.specs.State.{State, advanced}
use Rattle.archive_forms_laws.specs.Spelling.{Spelling, state_after}
use Rattle.archive_forms_laws.specs.Forms.{seen_as}
use Rattle.archive_forms_laws.specs.Regions.{state_after_all, pieces, pieces_fit, pieces_refused}
use Rattle.archive_forms_laws.specs.Serializing.{of_data, IsAt}
use Rattle.archive_forms_writing.proofs.Laying.{Wrote, Stops, stopped_first}
use Rattle.archive_btree_spelling.specs.Laying.{LaysNode, state_after_node}
use Rattle.archive_btree_spelling.specs.Written.{Linked, entry_spelling, slots, AllSlots, AnySlot, filled, key_own, value_own, words, state_after_own, own_at, own_size, own_bytes, own_piece, IsPlaced, slots_fit, slots_refused, own_fits, own_refused}

module _ {A B C D R Q : Type 0} (most : ℕ) (k v : Shape) (f : C → A) (g : D → B) (keys : Spelling A R) (vals : Spelling B Q) where
  abbrev pub view : C × D → A × B
  view e = (f e.0, g e.1)

  abbrev seen : Spelling (C × D) (R × Q)
  seen = entry_spelling most k v (seen_as f keys) (seen_as g vals)

  abbrev plain : Spelling (A × B) (R × Q)
  plain = entry_spelling most k v keys vals

  -- ---- data

  states_seen : (xs : List (C × D)) (st : State) → state_after_all seen xs st ≡ state_after_all plain (map view xs) st
  states_seen [] st = refl
  states_seen (x ∷ xs) st = states_seen xs (state_after seen x st)

  pieces_seen : (xs : List (C × D)) (st : State) → pieces seen xs st ≡ pieces plain (map view xs) st
  pieces_seen [] st = refl
  pieces_seen (x ∷ xs) st = ap (λ l. seen.piece x st ++ l) (pieces_seen xs (state_after seen x st))

  fit_seen : (xs : List (C × D)) (st : State) → pieces_fit seen xs st → pieces_fit plain (map view xs) st
  fit_seen [] st h = h
  fit_seen (x ∷ xs) st h = (h.0, fit_seen xs (state_after seen x st) h.1)

  refused_seen : (xs : List (C × D)) (st : State) (e : Error) → pieces_refused seen xs st e → pieces_refused plain (map view xs) st e
  refused_seen [] st e h = h
  refused_seen (x ∷ xs) st e (inl h) = inl h
  refused_seen (x ∷ xs) st e (inr h) = inr (refused_seen xs (state_after seen x st) e h)

  -- ---- slots

  module _ (size : ℕ) where
    slots_seen : (own : A × B → State → ℕ → List ℕ) (xs : List (C × D)) (st : State) (pos : ℕ)
        → slots (state_after seen) size (λ x. own (view x)) xs st pos ≡ slots (state_after plain) size own (map view xs) st pos
    slots_seen own [] st pos = refl
    slots_seen own (x ∷ xs) st pos = ap (λ l. own (view x) st pos ++ l) (slots_seen own xs (state_after seen x st) (pos + size))

    all_seen : (P : A × B → State → ℕ → Type 0) (xs : List (C × D)) (st : State) (pos : ℕ)
        → AllSlots (state_after seen) size (λ x. P (view x)) xs st pos → AllSlots (state_after plain) size P (map view xs) st pos
    all_seen P [] st pos h = h
    all_seen P (x ∷ xs) st pos h = (h.0, all_seen P xs (state_after seen x st) (pos + size) h.1)

    any_seen : (P : A × B → State → ℕ → Type 0) (xs : List (C × D)) (st : State) (pos : ℕ)
        → AnySlot (state_after seen) size (λ x. P (view x)) xs st pos → AnySlot (state_after plain) size P (map view xs) st pos
    any_seen P [] st pos h = h
    any_seen P (x ∷ xs) st pos (inl h) = inl h
    any_seen P (x ∷ xs) st pos (inr h) = inr (any_seen P xs (state_after seen x st) (pos + size) h)

  -- ---- nodes

  abbrev pub viewed : Linked (C × D) → Linked (A × B)
  viewed n = record { kind = n.kind; roots = n.roots; own = map view n.own }

  words_seen : (kind : ℕ) (n : Linked (C × D)) (pos : ℕ) → words most k v (seen_as f keys) (seen_as g vals) kind n pos ≡ words most k v keys vals kind (viewed n) pos
  words_seen zero n pos = ap (to_le_bytes w32) (sym (length-map n.own view))
  words_seen (suc kind) n pos = refl

  module _ (n : Linked (C × D)) (st : State) where
    at_seen : own_at most k v (seen_as f keys) (seen_as g vals) n st ≡ own_at most k v keys vals (viewed n) st
    at_seen = ap (λ s. align_up s.pos (link_node_align k v)) (states_seen n.own st)

    bytes_seen : (pos : ℕ) → own_bytes most k v (seen_as f keys) (seen_as g vals) n st pos ≡ own_bytes most k v keys vals (viewed n) st pos
    bytes_seen pos =
        let of_keys = slots_seen (size_of k) (key_own most k v keys vals) n.own st (pos + keys_offset k) in
        let of_values = slots_seen (size_of v) (value_own most k v keys vals) n.own st (pos + values_offset most k v) in
        let of_words = words_seen n.kind n (pos + links_offset most k v) in
        let size = own_size most k v keys vals (viewed n) in
        let kind = filled (keys_offset k) (n.kind ∷ []) in
        let to_values = values_offset most k v - keys_offset k in
        let to_links = links_offset most k v - values_offset most k v in
        let to_end = size - links_offset most k v in
        ap (λ l. kind ++ l)
        (ap₂ (λ a b. filled to_values a ++ b) of_keys (ap₂ (λ a b. filled to_links a ++ filled to_end b) of_values of_words))

    piece_seen : own_piece most k v (seen_as f keys) (seen_as g vals) n st ≡ own_piece most k v keys vals (viewed n) st
    piece_seen =
        let at = own_at most k v (seen_as f keys) (seen_as g vals) n st in
        let ends = state_after_own most k v keys vals (viewed n) st in
        ap₂ (λ a b. a ++ b) (pieces_seen n.own st)
        (ap₂ (λ a b. a ++ b) (ap₂ (λ a s. zeros (a - s.pos)) at_seen (states_seen n.own st)) (bytes_seen at ∙ ap (λ a. own_bytes most k v keys vals (viewed n) st a) at_seen))

    fits_seen : own_fits most k v (seen_as f keys) (seen_as g vals) n st → own_fits most k v keys vals (viewed n) st
    fits_seen h =
        let P : ℕ → Type 0 = λ a. IsPlaced most k v keys vals (viewed n) a in
        let F : ℕ → Type 0 = λ a. slots_fit most k v keys vals (viewed n) st a in
        let at = own_at most k v (seen_as f keys) (seen_as g vals) n st in
        let here : slots_fit most k v keys vals (viewed n) st at = (
          all_seen (size_of k) (λ x then p. keys.own_fits x.0 (keys.resolver x.0 then) p) n.own st (at + keys_offset k) h.2.0,
          all_seen (size_of v) (λ x then p. vals.own_fits x.1 (vals.resolver x.1 (state_after keys x.0 then)) p) n.own st (at + values_offset most k v) h.2.1,
          h.2.2,
        ) in
        (fit_seen n.own st h.0, subst P at_seen h.1, subst F at_seen here)

    slots_refused_seen : (pos : ℕ) (e : Error) → slots_refused most k v (seen_as f keys) (seen_as g vals) n st pos e → slots_refused most k v keys vals (viewed n) st pos e
    slots_refused_seen pos e (inl h) = inl (any_seen (size_of k) (λ x then p. keys.own_refused x.0 (keys.resolver x.0 then) p e) n.own st (pos + keys_offset k) h)
    slots_refused_seen pos e (inr (inl h)) = inr (inl (any_seen (size_of v) (λ x then p. vals.own_refused x.1 (vals.resolver x.1 (state_after keys x.0 then)) p e) n.own st (pos + values_offset most k v) h))
    slots_refused_seen pos e (inr (inr h)) = inr (inr h)

    node_refused_seen : (e : Error) → own_refused most k v (seen_as f keys) (seen_as g vals) n st e → own_refused most k v keys vals (viewed n) st e
    node_refused_seen e (inl h) = inl (refused_seen n.own st e h)
    node_refused_seen e (inr (inl h)) =
        let P : ℕ → Type 0 = λ a. IsPlaced most k v keys vals (viewed n) a → ⊥ in
        inr (inl (subst P at_seen h.0, h.1))
    node_refused_seen e (inr (inr h)) =
        let P : ℕ → Type 0 = λ a. slots_refused most k v keys vals (viewed n) st a e in
        inr (inr (subst P at_seen (slots_refused_seen (own_at most k v (seen_as f keys) (seen_as g vals) n st) e h)))

  module _ {W : Type 0} (s : WriterMembers W) (n : Linked (C × D)) (old new : W) where
    after_seen : (st : State) → state_after_node most k v (seen_as f keys) (seen_as g vals) s n st ≡ state_after_node most k v keys vals s (viewed n) st
    after_seen st = ap₂ (λ l then. advanced (length l) then.met st) (piece_seen n st) (states_seen n.own st)

    -- a node of entries that are seen as others is written as the node of the others
    pub lays_seen : (result : Result ℕ Error) → LaysNode most k v (seen_as f keys) (seen_as g vals) s n old new result → LaysNode most k v keys vals s (viewed n) old new result
    lays_seen (Ok to) h st at =
        let l = h st at in
        let P : List ℕ → Type 0 = λ p. Wrote (of_data s) old new p in
        let S : State → Type 0 = λ then. IsAt s.pos s.known new then in
        (subst P (piece_seen n st) l.0, (l.1.0 ∙ at_seen n st, fits_seen n st l.1.1, subst S (after_seen st) l.1.2))
    lays_seen (Err e) h st at =
        let piece = own_piece most k v keys vals (viewed n) st in
        let P : List ℕ → Type 0 = λ p. Stops (of_data s) old new p (own_refused most k v keys vals (viewed n) st) e in
        subst P (append-nil piece)
        (stopped_first (of_data s) [] (piece ++ []) (own_refused most k v (seen_as f keys) (seen_as g vals) n st) (own_refused most k v keys vals (viewed n) st) (ap (λ p. p ++ []) (sym (piece_seen n st))) (node_refused_seen n st e) (h st at))
