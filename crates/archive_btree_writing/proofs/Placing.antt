-- A node that is written after the data of its entries, from the next position of its alignment on.
use Rattle.std.proofs.Common.{◌≡◌, ℕ, ◌+◌, ◌-◌, ◌^◌, ◌≤◌, ◌<◌, min, List, ◌++◌, length, refl, sym, ap, subst, ◌∙◌, arith, inl, inr, Ok, Err, ◌⊎◌}
use Rattle.std.specs.Prelude.{Result, ⊤}
use Rattle.std.proofs.lemmas.List.{length-replicate}
use Rattle.archive_shape_layout.specs.Bytes.{align_up}
use Rattle.archive_shape_layout.specs.Shape.{Shape, align_of}
use Rattle.archive_shape_layout.specs.Content.{link_node_align}
use Rattle.archive_shape_layout.proofs.Framed.{le_align_up}
use Rattle.archive_shape_canonical.specs.FirstFit.{first_fit}
use Rattle.archive_shape.specs.Bytes.{zeros}
use Rattle.archive_shape_layout.specs.Writing.{WriterMembers, Writes}
use Rattle.archive_shape_layout.specs.declared.error.Error.{Error}
use Rattle.archive_shape_layout.specs.declared.error.Error.TheVariants.{PositionTooLarge}
use Rattle.archive_forms_laws.specs.State.{State, visit_of_key}
use Rattle.archive_forms_laws.specs.Spelling.{Spelling}
use Rattle.archive_forms_laws.specs.Regions.{pieces, pieces_fit, pieces_refused}
use Rattle.archive_forms_laws.specs.Serializing.{IsAt, Lays, LaysData, of_data, progress_by, is_begun}
use Rattle.archive_forms_laws.proofs.Regions.{state_after_all_begun}
use Rattle.archive_forms_writing.proofs.Laying.{Wrote, Fails, Stops, wrote_both, writes_lays, stopped_after, stopped_first, stopped_before, as_data, stops_as_data}
use Rattle.archive_btree_writing.specs.Nodes.{LaysBehind}
use Rattle.archive_btree_spelling.specs.Laying.{state_after_node}
use Rattle.archive_btree_spelling.specs.Written.{Linked, entry_spelling, state_after_own, own_at, own_size, own_bytes, own_piece, IsPlaced, own_fits, own_refused, slots_fit, slots_refused}

-- the alignment of nodes is one that a writer can be aligned to
pub node_aligns : (k v : Shape) (a b align : ℕ) → a ≡ align_of k → b ≡ align_of v → a ≤ 32 → b ≤ 32 → align ≡ link_node_align k v → (0 < align) × (align ≤ 32)
unfolding link_node_align
node_aligns k v a b align e f g h is = (omega arith, omega arith)

module _ {A B R Q W : Type 0} (most : ℕ) (k v : Shape) (keys : Spelling A R) (vals : Spelling B Q) (s : WriterMembers W) (n : Linked (A × B)) (st : State) where
  abbrev before : List ℕ
  before = pieces (entry_spelling most k v keys vals) n.own st

  abbrev at : ℕ
  at = own_at most k v keys vals n st

  abbrev ends : ℕ
  ends = (state_after_own most k v keys vals n st).pos

  abbrev bytes_at : ℕ → List ℕ
  bytes_at pos = own_bytes most k v keys vals n st pos

  abbrev piece : List ℕ
  piece = own_piece most k v keys vals n st

  abbrev refused : Error → Type 0
  refused e = own_refused most k v keys vals n st e

  -- ---- the node's bytes

  -- they are not written where one is refused
  pub bytes_refused : (old : W) (pos : ℕ) (e : Error) → pos ≡ s.pos old → slots_refused most k v keys vals n st pos e → Stops s old old (bytes_at (s.pos old)) (slots_refused most k v keys vals n st (s.pos old)) e
  bytes_refused old pos e is r =
      let F : ℕ → Type 0 = λ p. slots_refused most k v keys vals n st p e in
      stopped_before s old (bytes_at (s.pos old)) (slots_refused most k v keys vals n st (s.pos old)) e (inr (subst F is r))

  -- the call that writes them
  pub bytes_laid : {C : Type 0} (old new : W) (pos : ℕ) (bytes : List ℕ) (result : Result C Error) → pos ≡ s.pos old → slots_fit most k v keys vals n st pos × (bytes ≡ bytes_at pos) → Writes s old new bytes result
      → Lays s old new (bytes_at (s.pos old)) (λ _. slots_fit most k v keys vals n st (s.pos old)) (slots_refused most k v keys vals n st (s.pos old)) result
  bytes_laid old new pos bytes result is f w =
      let F : ℕ → Type 0 = λ p. slots_fit most k v keys vals n st p in
      writes_lays s old new (bytes_at (s.pos old)) bytes (λ _. slots_fit most k v keys vals n st (s.pos old)) (slots_refused most k v keys vals n st (s.pos old)) result
      (sym (f.1 ∙ ap (λ p. own_bytes most k v keys vals n st p) is)) (λ _. subst F is f.0) w

  module _ (old : W) where
    -- ---- after data that ends at the writer's position

    abbrev start : ℕ
    start = align_up (s.pos old) (link_node_align k v)

    abbrev gap : List ℕ
    gap = zeros (start - s.pos old)

    abbrev far : Error → Type 0
    far e = (IsPlaced most k v keys vals n start → ⊥) × (e ≡ PositionTooLarge)

    abbrev behind_refused : Error → Type 0
    behind_refused e = far e ⊎ slots_refused most k v keys vals n st start e

    gap_is : (align : ℕ) → align ≡ link_node_align k v → zeros (align_up (s.pos old) align - s.pos old) ≡ gap
    gap_is align is = ap (λ a. zeros (align_up (s.pos old) a - s.pos old)) is

    -- the zeros could not be written
    pub gap_failed : (new : W) (align : ℕ) (e : Error) → align ≡ link_node_align k v → Fails s old new (zeros (align_up (s.pos old) align - s.pos old)) e
        → Stops s old new (gap ++ bytes_at start) behind_refused e
    gap_failed new align e is g =
        let none : Error → Type 0 = λ _. ⊥ in
        let P : List ℕ → Type 0 = λ l. Fails s old new l e in
        stopped_first s (bytes_at start) (gap ++ bytes_at start) none behind_refused refl (λ r. absurd r) (inl (subst P (gap_is align is) g))

    module _ {mid : W} (align to : ℕ) (is : align ≡ link_node_align k v) (begins : to ≡ align_up (s.pos old) align) (g : Wrote s old mid (zeros (align_up (s.pos old) align - s.pos old))) where
      gap_wrote : Wrote s old mid gap
      gap_wrote = let P : List ℕ → Type 0 = λ l. Wrote s old mid l in subst P (gap_is align is) g

      begins_at : to ≡ start
      begins_at = begins ∙ ap (align_up (s.pos old)) is

      pub stands_at : s.pos mid ≡ to
      stands_at =
          let up : s.pos old ≤ start = le_align_up (s.pos old) (link_node_align k v) in
          let long : length gap ≡ start - s.pos old = length-replicate _ _ in
          let wrote = gap_wrote in
          let b = begins_at in
          omega (arith, wrote.moves, up, long, b)

      -- the node does not lie where one may
      pub node_far : (size : ℕ) (e : Error) → size ≡ min (own_size most k v keys vals n) (2 ^ 64 - 1) → ((to < 2 ^ 32) × (to + size < 2 ^ 64) → ⊥) × (e ≡ PositionTooLarge) → Stops s old mid (gap ++ bytes_at start) behind_refused e
      node_far size e cut r =
          let b = begins_at in
          let not : IsPlaced most k v keys vals n start → ⊥ = λ p. r.0 (omega (arith, b, p.0), omega (arith, b, cut, p.1)) in
          stopped_after s (gap ++ bytes_at start) far behind_refused refl (λ f. inl f) gap_wrote
          (stopped_before s mid (bytes_at start) far e (inr (not, r.1)))

      -- a call stopped in it
      pub node_stopped : (new : W) (e : Error) → Stops s mid new (bytes_at (s.pos mid)) (slots_refused most k v keys vals n st (s.pos mid)) e → Stops s old new (gap ++ bytes_at start) behind_refused e
      node_stopped new e h =
          let P : ℕ → Type 0 = λ p. Stops s mid new (bytes_at p) (slots_refused most k v keys vals n st p) e in
          stopped_after s (gap ++ bytes_at start) (slots_refused most k v keys vals n st start) behind_refused refl (λ f. inr f) gap_wrote (subst P (stands_at ∙ begins_at) h)

      -- it was written
      pub node_written : (new : W) → to < 2 ^ 32 → s.pos mid + own_size most k v keys vals n < 2 ^ 64 → Wrote s mid new (bytes_at (s.pos mid)) → slots_fit most k v keys vals n st (s.pos mid)
          → LaysBehind most k v keys vals s n st old new (s.pos old) (Ok to)
      node_written new low room h f =
          let P : ℕ → Type 0 = λ p. Wrote s mid new (bytes_at p) in
          let F : ℕ → Type 0 = λ p. slots_fit most k v keys vals n st p in
          let b = begins_at in
          let here = stands_at in
          (wrote_both s (gap ++ bytes_at start) refl gap_wrote (subst P (here ∙ b) h), (b, (omega (arith, b, low), omega (arith, b, here, room)), subst F (here ∙ b) f))

    -- ---- the data of its entries, and the node after it

    pub record Behind (mid : W) : Type 0 where
      pub wrote : Wrote (of_data s) old mid before
      pub fits : pieces_fit (entry_spelling most k v keys vals) n.own st
      pub is_at : IsAt s.pos s.known mid (state_after_own most k v keys vals n st)

    pub data_stopped : (new : W) (e : Error) → Stops (of_data s) old new before (pieces_refused (entry_spelling most k v keys vals) n.own st) e → Stops (of_data s) old new piece refused e
    data_stopped new e h = stopped_first (of_data s) (zeros (at - ends) ++ bytes_at at) piece (pieces_refused (entry_spelling most k v keys vals) n.own st) refused refl (λ r. inl r) h

    pub node_laid : (mid new : W) (result : Result ℕ Error) → IsAt s.pos s.known old st → Behind mid → LaysBehind most k v keys vals s n st mid new (s.pos mid) result
        → LaysData s old new piece (λ to. (to ≡ at) × own_fits most k v keys vals n st × IsAt s.pos s.known new (state_after_node most k v keys vals s n st)) refused result
    node_laid mid new (Ok to) from h g =
        let P : ℕ → Type 0 = λ p. LaysBehind most k v keys vals s n st mid new p (Ok to) in
        let done = subst P h.is_at.stands g in
        let wrote : Wrote (of_data s) old new piece = wrote_both (of_data s) piece refl h.wrote (as_data s done.0) in
        let begun = state_after_all_begun (first_fit (λ _. 0)) k (λ _. ⊤) (entry_spelling most k v keys vals) n.own st in (
          wrote,
          (
            done.1.0,
            (h.fits, done.1.1, done.1.2),
            record {
              stands = wrote.moves ∙ ap (λ p. p + length piece) from.stands;
              knows = λ key. done.0.keeps key ∙ h.is_at.knows key ∙ ap (λ b. progress_by (visit_of_key (state_after_own most k v keys vals n st).met key) (is_begun b key)) begun;
            },
          ),
        )
    node_laid mid new (Err e) from h g =
        let P : ℕ → Type 0 = λ p. LaysBehind most k v keys vals s n st mid new p (Err e) in
        let behind : Error → Type 0 = λ d. ((IsPlaced most k v keys vals n at → ⊥) × (d ≡ PositionTooLarge)) ⊎ slots_refused most k v keys vals n st at d in
        stopped_after (of_data s) piece behind refused refl (λ r. inr r) h.wrote (stops_as_data s (subst P h.is_at.stands g))
