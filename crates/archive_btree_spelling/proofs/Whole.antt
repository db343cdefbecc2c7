-- What holds of a node besides how it is read: the state after it, its value without positions, its bytes and its
-- limits.
use Rattle.std.proofs.Common.{◌≡◌, ℕ, zero, suc, ◌+◌, ◌-◌, ◌<◌, Option, List, [], ◌∷◌, ◌++◌, length, arith, ◌∙◌, inl, inr, length-append}
use Rattle.archive_shape_layout.specs.Shape.{Shape}
use Rattle.archive_shape_layout.specs.Content.{Names, keys_offset, values_offset, links_offset}
use Rattle.archive_shape_canonical.specs.Settled.{Fit}
use Rattle.archive_shape_canonical.specs.Sharing.{all_erased}
use Rattle.archive_shape_canonical.specs.Canonical.{AreBytes}
use Rattle.archive_shape.specs.Bytes.{zeros}
use Rattle.archive_shape_layout.specs.declared.error.Error.{Error}
use Rattle.archive_forms_laws.specs.State.{State, Keys, IsConsistent, AreKeyedBy, advanced}
use Rattle.archive_forms_laws.specs.Spelling.{Spelling}
use Rattle.archive_forms_laws.specs.Regions.{resolvers, values, plain_values, all_suit, pieces}
use Rattle.archive_forms_laws.proofs.States.{consistent_further}
use Rattle.archive_forms_laws.proofs.Gaps.{bytes_none, bytes_more, bytes_append, bytes_zeros, bytes_word}
use Rattle.archive_forms_laws.proofs.Regions.{pieces_bytes, pieces_exact, state_after_all_begun, state_after_all_consistent, state_after_all_keyed}
use Rattle.archive_btree_spelling.specs.Parted.{Parted}
use Rattle.archive_btree_spelling.specs.Written.{filled, entry_spelling, state_after_children, state_after_entries, linked, words, own_bytes, node_at, node_piece, node_fits, node_refused}
use Rattle.archive_btree_spelling.proofs.Slots.{EachEntrySpells, pair_shape, pairs_spell, key-slots-bytes, value-slots-bytes, keys_exact, values_exact}
use Rattle.archive_btree_spelling.proofs.Trees.{EachTreeSpells, AllSuit, plain_children, children_begun, children_consistent, children_bytes, children_exact, children_keyed, links_bytes, links_exact}
use Rattle.archive_btree_spelling.proofs.Nodes.{children_pos, entries_pos}

filled_bytes : (n : ℕ) (bs : List ℕ) → AreBytes bs → AreBytes (filled n bs)
filled_bytes n bs h = bytes_append bs _ h (bytes_zeros (n - length bs))

module _ {A B R Q : Type 0} (fit : Fit) (most : ℕ) (k v : Shape) (knows : Names → Type 0) (keys : Spelling A R) (vals : Spelling B Q) (l : ℕ) (w : Spelling (List (A × B)) (Option ℕ))
    (p : Parted (A × B)) (kinds : p.kind < 2) (below : EachTreeSpells fit most k v knows keys vals l w p.below) (each : EachEntrySpells fit most k v knows keys vals p.own) where
  pub node_consistent : (st : State) → IsConsistent st → node_fits most k v keys vals w p st
      → IsConsistent (advanced (length (node_piece most k v keys vals w p st)) (state_after_entries most k v keys vals w p st).met st)
  node_consistent st h f =
      let entry_w = entry_spelling most k v keys vals in
      let shape = pair_shape fit most k v knows keys vals in
      let pairs = pairs_spell fit most k v knows keys vals p.own each in
      let now = state_after_children most k v keys vals w p st in
      let mid = state_after_entries most k v keys vals w p st in
      let pos = node_at most k v keys vals w p st in
      let first = pieces w p.below st in
      let second = pieces entry_w p.own now in
      let rest = zeros (pos - mid.pos) ++ own_bytes most k v keys vals (linked most k v keys vals w p st) (state_after_children most k v keys vals w p st) pos in
      let there = children_consistent fit most k v knows keys vals l w p.below below st h f.0 in
      let behind = state_after_all_consistent fit shape knows entry_w p.own pairs now there f.1.0 in
      consistent_further mid (st.pos + length (node_piece most k v keys vals w p st)) st.begun
      (omega (arith, children_pos fit most k v knows keys vals w p st, entries_pos fit most k v knows keys vals w p st, length-append first (second ++ rest), length-append second rest))
      (state_after_all_begun fit shape knows entry_w p.own now ∙ children_begun fit most k v knows keys vals l w p.below st)
      behind

  pub node_keyed : (given : Keys) (st : State) → AllSuit fit most k v knows keys vals l w given p.below → all_suit (entry_spelling most k v keys vals) fit given p.own → AreKeyedBy given st.met → node_fits most k v keys vals w p st
      → (all_erased (values w p.below st) ≡ plain_children fit most k v knows keys vals l w p.below)
      × (all_erased (values (entry_spelling most k v keys vals) p.own (state_after_children most k v keys vals w p st)) ≡ plain_values (entry_spelling most k v keys vals) p.own)
      × AreKeyedBy given (state_after_entries most k v keys vals w p st).met
  node_keyed given st n m known f =
      let first = children_keyed fit most k v knows keys vals l w p.below below given st n known f.0 in
      let second = state_after_all_keyed fit (pair_shape fit most k v knows keys vals) knows (entry_spelling most k v keys vals) p.own (pairs_spell fit most k v knows keys vals p.own each) given (state_after_children most k v keys vals w p st) m first.1 f.1.0 in
      (first.0, second.0, second.1)

  words_bytes : (kind : ℕ) (st : State) (pos : ℕ) → AreBytes (words most k v keys vals kind (linked most k v keys vals w p st) pos)
  words_bytes zero st pos = bytes_word (length p.own)
  words_bytes (suc kind) st pos = links_bytes (resolvers w p.below st) pos

  pub node_piece_bytes : (st : State) → node_fits most k v keys vals w p st → AreBytes (node_piece most k v keys vals w p st)
  node_piece_bytes st f =
      let now = state_after_children most k v keys vals w p st in
      let pos = node_at most k v keys vals w p st in
      bytes_append (pieces w p.below st) _ (children_bytes fit most k v knows keys vals l w p.below below st f.0)
      (bytes_append (pieces (entry_spelling most k v keys vals) p.own now) _ (pieces_bytes fit (pair_shape fit most k v knows keys vals) knows (entry_spelling most k v keys vals) p.own (pairs_spell fit most k v knows keys vals p.own each) now f.1.0)
      (bytes_append (zeros (pos - (state_after_entries most k v keys vals w p st).pos)) _ (bytes_zeros _)
      (bytes_append (filled (keys_offset k) (p.kind ∷ [])) _ (filled_bytes (keys_offset k) (p.kind ∷ []) (bytes_more p.kind [] (omega (arith, kinds)) bytes_none))
      (bytes_append (filled (values_offset most k v - keys_offset k) _) _ (filled_bytes _ _ (key-slots-bytes fit most k v knows keys vals p.own each now (pos + keys_offset k) f.1.2.0))
      (bytes_append (filled (links_offset most k v - values_offset most k v) _) _ (filled_bytes _ _ (value-slots-bytes fit most k v knows keys vals p.own each now (pos + values_offset most k v) f.1.2.1))
      (filled_bytes _ _ (words_bytes p.kind st (pos + links_offset most k v))))))))

  pub node_exact : (st : State) (e : Error) → node_fits most k v keys vals w p st → node_refused most k v keys vals w p st e → ⊥
  node_exact st e f (inl r) = children_exact fit most k v knows keys vals l w p.below below st e f.0 r
  node_exact st e f (inr (inl r)) = pieces_exact fit (pair_shape fit most k v knows keys vals) knows (entry_spelling most k v keys vals) p.own (pairs_spell fit most k v knows keys vals p.own each) (state_after_children most k v keys vals w p st) e f.1.0 r
  node_exact st e f (inr (inr (inl r))) = r.0 f.1.1
  node_exact st e f (inr (inr (inr (inl r)))) =
      keys_exact fit most k v knows keys vals p.own each (state_after_children most k v keys vals w p st) (node_at most k v keys vals w p st + keys_offset k) e f.1.2.0 r
  node_exact st e f (inr (inr (inr (inr (inl r))))) =
      values_exact fit most k v knows keys vals p.own each (state_after_children most k v keys vals w p st) (node_at most k v keys vals w p st + values_offset most k v) e f.1.2.1 r
  node_exact st e f (inr (inr (inr (inr (inr r))))) =
      links_exact (resolvers w p.below st) (node_at most k v keys vals w p st + links_offset most k v) e f.1.2.2 r
