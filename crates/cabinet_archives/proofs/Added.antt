-- Pairs that are added to others, one after the other, in whatever order they come.
use Rattle.std.proofs.Common.{◌≡◌, ◌≢◌, ℕ, Global, String, string_bytes, cond, List, [], ◌∷◌, refl, sym, ap, subst, ◌∙◌}
use Rattle.std.specs.Prelude.{⊤}
use Rattle.std.specs.BTreeMap.{insert_entry}
use Rattle.std.specs.String.{string_cmp}
use Rattle.std.specs.Ordering.{is_lt, nat_cmp, match_ordering, ordering_reverse}
use Rattle.std.specs.declared.cmp.Ordering.{Ordering}
use Rattle.std.specs.declared.cmp.Ordering.TheVariants.{Less, Equal, Greater}
use Rattle.std.specs.Cmp.Lexicographic.{slice_cmp, nat_list_cmp_total}
use Rattle.std.proofs.lemmas.Map.Lookups.{exact_bytes}
use Rattle.cabinet_text_grammar.specs.Keys.{MapKind, ordered, hashed, IsAboveLast}
use Rattle.cabinet_text_grammar.specs.Tree.{Tree, Pairs, no_pairs, more_pairs, ArePairs}
use Rattle.cabinet_documents.specs.Order.{inserted, arranged}
use Rattle.cabinet_text_nodes.specs.View.{node_tree, node_pairs}
use Rattle.cabinet_text_nodes.specs.declared.node.Node.{Node}
use Rattle.cabinet_archives.specs.Loading.{added, all_added}
use Rattle.cabinet_documents.proofs.ByKey.{Lacks, AreKeysDistinct, pair_keys, keys_distinct, distinct}

abbrev order : List ℕ → List ℕ → Ordering
order k l = slice_cmp nat_cmp k l

turned : (k l : List ℕ) {o : Ordering} → order k l ≡ o → order l k ≡ ordering_reverse o
turned k l e = nat_list_cmp_total.antisymm l k ∙ ap ordering_reverse e

-- ---- one pair

module _ (k : List ℕ) (t : Tree) (l : List ℕ) (u : Tree) (ps : Pairs) where
  abbrev by_order : Ordering → Pairs
  by_order o = match_ordering o (more_pairs k t (more_pairs l u ps)) (more_pairs l t ps) (more_pairs l u (added k t ps))

  before : order k l ≡ Less → added k t (more_pairs l u ps) ≡ more_pairs k t (more_pairs l u ps)
  before e = ap by_order e

  instead : order k l ≡ Equal → added k t (more_pairs l u ps) ≡ more_pairs l t ps
  instead e = ap by_order e

  behind : order k l ≡ Greater → added k t (more_pairs l u ps) ≡ more_pairs l u (added k t ps)
  behind e = ap by_order e

-- under a new key it is inserted
added_new : (k : List ℕ) (t : Tree) (ps : Pairs) → Lacks k ps → added k t ps ≡ inserted k t ps
added_new k t no_pairs h = refl
added_new k t (more_pairs l u ps) h = by (order k l) refl (added_new k t ps h.1)
  where
    by : (o : Ordering) → order k l ≡ o → added k t ps ≡ inserted k t ps → added k t (more_pairs l u ps) ≡ inserted k t (more_pairs l u ps)
    by Less e on = before k t l u ps e ∙ sym (ap (λ o. cond (is_lt o) (more_pairs l u (inserted k t ps)) (more_pairs k t (more_pairs l u ps))) (turned k l e))
    by Equal e on = absurd (h.0 (sym (exact_bytes k l e)))
    by Greater e on = behind k t l u ps e ∙ ap (more_pairs l u) on ∙ sym (ap (λ o. cond (is_lt o) (more_pairs l u (inserted k t ps)) (more_pairs k t (more_pairs l u ps))) (turned k l e))

-- ---- two pairs

module _ (k : List ℕ) (t : Tree) (l : List ℕ) (u : Tree) where
  -- the smaller key stands before a greater one that is added
  front : (m : List ℕ) (v : Tree) (ps : Pairs) → order k l ≡ Less → order k m ≡ Less → added k t (added l u (more_pairs m v ps)) ≡ more_pairs k t (added l u (more_pairs m v ps))
  front m v ps below first = by (order l m) refl
    where
      at_front : {n : List ℕ} {w : Tree} {qs : Pairs} → added l u (more_pairs m v ps) ≡ more_pairs n w qs → order k n ≡ Less → added k t (added l u (more_pairs m v ps)) ≡ more_pairs k t (added l u (more_pairs m v ps))
      at_front {n = n} {w = w} {qs = qs} e less = ap (added k t) e ∙ before k t n w qs less ∙ sym (ap (more_pairs k t) e)

      by : (o : Ordering) → order l m ≡ o → added k t (added l u (more_pairs m v ps)) ≡ more_pairs k t (added l u (more_pairs m v ps))
      by Less e = at_front (before l u m v ps e) below
      by Equal e = at_front (instead l u m v ps e) first
      by Greater e = at_front (behind l u m v ps e) first

  swap_below : order k l ≡ Less → (ps : Pairs) → added k t (added l u ps) ≡ added l u (added k t ps)
  swap_below below no_pairs = before k t l u no_pairs below ∙ sym (behind l u k t no_pairs (turned k l below))
  swap_below below (more_pairs m v ps) = by (order k m) refl (swap_below below ps)
    where
      by : (o : Ordering) → order k m ≡ o → added k t (added l u ps) ≡ added l u (added k t ps) → added k t (added l u (more_pairs m v ps)) ≡ added l u (added k t (more_pairs m v ps))
      by Less e on = front m v ps below e ∙ sym (ap (added l u) (before k t m v ps e) ∙ behind l u k t (more_pairs m v ps) (turned k l below))
      by Equal e on =
          let above : order l m ≡ Greater = subst (λ n. order l n ≡ Greater) (exact_bytes k m e) (turned k l below) in
          ap (added k t) (behind l u m v ps above) ∙ instead k t m v (added l u ps) e ∙ sym (ap (added l u) (instead k t m v ps e) ∙ behind l u m t ps above)
      by Greater e on =
          let above : order l m ≡ Greater = turned m l (nat_list_cmp_total.trans m k l (turned k m e) below) in
          ap (added k t) (behind l u m v ps above) ∙ behind k t m v (added l u ps) e ∙ ap (more_pairs m v) on
          ∙ sym (ap (added l u) (behind k t m v ps e) ∙ behind l u m v (added k t ps) above)

-- two pairs with different keys may be added in either order
swap : (k : List ℕ) (t : Tree) (l : List ℕ) (u : Tree) (ps : Pairs) → k ≢ l → added k t (added l u ps) ≡ added l u (added k t ps)
swap k t l u ps differ = by (order k l) refl
  where
    by : (o : Ordering) → order k l ≡ o → added k t (added l u ps) ≡ added l u (added k t ps)
    by Less e = swap_below k t l u e ps
    by Equal e = absurd (differ (exact_bytes k l e))
    by Greater e = sym (swap_below l u k t (turned k l e) ps)

-- ---- all pairs

added_last : (k : List ℕ) (t : Tree) (ps others : Pairs) → Lacks k ps → all_added ps (added k t others) ≡ added k t (all_added ps others)
added_last k t no_pairs others h = refl
added_last k t (more_pairs l u ps) others h = ap (all_added ps) (swap l u k t others h.0) ∙ added_last k t ps (added l u others) h.1

lacks_added : (k l : List ℕ) (u : Tree) (ps : Pairs) → l ≢ k → Lacks k ps → Lacks k (added l u ps)
lacks_added k l u no_pairs differ h = (differ, tt)
lacks_added k l u (more_pairs m v ps) differ h = by (order l m) (lacks_added k l u ps differ h.1)
  where
    by : (o : Ordering) → Lacks k (added l u ps) → Lacks k (by_order l u m v ps o)
    by Less on = (differ, h)
    by Equal on = h
    by Greater on = (h.0, on)

lacks_all : (k : List ℕ) (ps others : Pairs) → Lacks k ps → Lacks k others → Lacks k (all_added ps others)
lacks_all k no_pairs others h g = g
lacks_all k (more_pairs l u ps) others h g = lacks_all k ps (added l u others) h.1 (lacks_added k l u others h.0 g)

-- pairs with distinct keys come into their order
pub added_arranged : (ps : Pairs) → AreKeysDistinct (pair_keys ps) → all_added ps no_pairs ≡ arranged ps
added_arranged no_pairs h = refl
added_arranged (more_pairs k t ps) h =
    added_last k t ps no_pairs h.0 ∙ added_new k t (all_added ps no_pairs) (lacks_all k ps no_pairs h.0 tt) ∙ ap (inserted k t) (added_arranged ps h.1)

-- ---- pairs that are in order

-- each key is above the last one before it
abbrev pub Rise : List (List ℕ) → List (List ℕ) → Type 0
Rise before [] = ⊤
Rise before (k ∷ ks) = IsAboveLast before k × Rise (k ∷ before) ks

-- maps of these kinds have their keys in order
pub data IsSorted : MapKind → Type 0 where
  ordered_is : IsSorted ordered
  hashed_is : IsSorted hashed

pairs_rise : {kind : MapKind} → IsSorted kind → (before : List (List ℕ)) (ps : Pairs) → ArePairs kind before ps → Rise before (pair_keys ps)
pairs_rise s before no_pairs p = tt
pairs_rise ordered_is before (more_pairs k t ps) p = (p.0.1, pairs_rise ordered_is (k ∷ before) ps p.1.1)
pairs_rise hashed_is before (more_pairs k t ps) p = (p.0.1, pairs_rise hashed_is (k ∷ before) ps p.1.1)

rising_arranged : (before : List (List ℕ)) (ps : Pairs) → Rise before (pair_keys ps) → arranged ps ≡ ps
rising_arranged before no_pairs h = refl
rising_arranged before (more_pairs k t ps) h = ap (inserted k t) (rising_arranged (k ∷ before) ps h.1) ∙ first ps h.1
  where
    first : (qs : Pairs) → Rise (k ∷ before) (pair_keys qs) → inserted k t qs ≡ more_pairs k t qs
    first no_pairs q = refl
    first (more_pairs l u qs) q = ap (λ o. cond (is_lt o) (more_pairs l u (inserted k t qs)) (more_pairs k t (more_pairs l u qs))) (turned k l q.0)

-- pairs in order stay as they are
pub added_same : {kind : MapKind} → IsSorted kind → (ps : Pairs) → ArePairs kind [] ps → all_added ps no_pairs ≡ ps
added_same {kind = kind} s ps p = added_arranged ps (keys_distinct ps (distinct kind [] ps p)) ∙ rising_arranged [] ps (pairs_rise s [] ps p)

-- ---- maps of std

-- an entry that is inserted is a pair that is added
pub entry_added : (table : List Tree) (entries : List (String Global × Node)) (key : String Global) (node : Node) → node_pairs table (insert_entry string_cmp entries key node) ≡ added (string_bytes key) (node_tree table node) (node_pairs table entries)
entry_added table [] key node = refl
entry_added table (e ∷ es) key node = by (string_cmp key e.0) (entry_added table es key node)
  where
    by : (o : Ordering) → node_pairs table (insert_entry string_cmp es key node) ≡ added (string_bytes key) (node_tree table node) (node_pairs table es)
        → node_pairs table (match_ordering o ((key, node) ∷ e ∷ es) ((e.0, node) ∷ es) (e ∷ insert_entry string_cmp es key node))
        ≡ match_ordering o (more_pairs (string_bytes key) (node_tree table node) (node_pairs table (e ∷ es))) (more_pairs (string_bytes e.0) (node_tree table node) (node_pairs table es)) (more_pairs (string_bytes e.0) (node_tree table e.1) (added (string_bytes key) (node_tree table node) (node_pairs table es)))
    by Less on = refl
    by Equal on = refl
    by Greater on = ap (more_pairs (string_bytes e.0) (node_tree table e.1)) on
