-- Pairs whose keys ascend: one more after them, and the map of all.
use Rattle.std.proofs.Common.{◌≡◌, ℕ, List, [], ◌∷◌, ◌++◌, refl, sym, ap, subst, ◌∙◌, Global, String, Ordering}
use Rattle.std.specs.Prelude.{string_bytes, string_cmp}
use Rattle.std.specs.BTreeMap.{BTreeMap, IsFromIterResult, insert_entry}
use Rattle.std.specs.Cmp.{eq_by_cmp_equiv}
use Rattle.std.specs.List.{AllByRecursion}
use Rattle.std.specs.List.Sorted.{IsStrictlySortedBy}
use Rattle.std.specs.Map.{keys_of}
use Rattle.std.specs.Ordering.{eq_by_cmp, ordering_reverse}
use Rattle.std.specs.String.{string_cmp_total}
use Rattle.std.specs.declared.cmp.Ordering.TheVariants.{Less, Greater}
use Rattle.std.proofs.lemmas.Map.Keys.{sorted_head, sorted_tail, IsDistinct-from_sorted}
use Rattle.std.proofs.lemmas.Map.Lookups.{map_keys}
use Rattle.std.proofs.lemmas.Map.Made.{update_all_none}
use Rattle.cabinet_text_grammar.specs.Frame.{keys_after}
use Rattle.cabinet_text_grammar.specs.Keys.{IsAboveLast}
use Rattle.cabinet_text_grammar.specs.Tree as tree
use Rattle.cabinet_text_grammar.specs.Tree.{Tree}
use Rattle.cabinet_text_nodes.specs.View.{node_tree, node_pairs}
use Rattle.cabinet_text_nodes.specs.declared.node.Node.{Node}
use Rattle.cabinet_text_reading.specs.Ascending.{Ascends, AscendsTo}
use Rattle.cabinet_text_reading.proofs.Lookups.{read_alike}

-- what holds of each key and of one more holds of each
pub all_and_one : {K : Type 0} (P : K → Type 0) (ks : List K) (k : K) → AllByRecursion P ks → P k → AllByRecursion P (ks ++ k ∷ [])
all_and_one P [] k all here = (here, tt)
all_and_one P (l ∷ ks) k all here = (all.0, all_and_one P ks k all.1 here)

the_one : (P : String Global → Type 0) (ks : List (String Global)) (k : String Global) → AllByRecursion P (ks ++ k ∷ []) → P k
the_one P [] k all = all.0
the_one P (l ∷ ks) k all = the_one P ks k all.1

-- a key above the last of ascending keys is above the first
above_first : (keys : List (List ℕ)) (first : String Global) (ps : List (String Global × Node)) (k : String Global) → IsStrictlySortedBy string_cmp (first ∷ keys_of ps)
    → IsAboveLast (keys_after (string_bytes first ∷ keys) (node_pairs [] ps)) (string_bytes k) → string_cmp first k ≡ Less
above_first keys first [] k up above = above
above_first keys first (p ∷ ps) k up above =
    string_cmp_total.trans first p.0 k (sorted_head string_cmp first (keys_of (p ∷ ps)) up).0 (above_first (string_bytes first ∷ keys) p.0 ps k (sorted_tail string_cmp first (keys_of (p ∷ ps)) up) above)

-- and the keys ascend to it
pub ascends_to : (keys : List (List ℕ)) (ps : List (String Global × Node)) (k : String Global) → Ascends ps → IsAboveLast (keys_after keys (node_pairs [] ps)) (string_bytes k) → AscendsTo ps k
unfolding IsStrictlySortedBy
ascends_to keys [] k up above = (tt, tt)
ascends_to keys (p ∷ ps) k up above = (
  all_and_one (λ l. string_cmp p.0 l ≡ Less) (keys_of ps) k up.0 (above_first keys p.0 ps k up above),
  ascends_to (string_bytes p.0 ∷ keys) ps k up.1 above,
)

-- no pairs ascend
pub nothing_sorted : {K : Type 0} (cmp : K → K → Ordering) → IsStrictlySortedBy cmp []
unfolding IsStrictlySortedBy
nothing_sorted cmp = tt

pub none_ascend : (ps : List (String Global × Node)) → ps ≡ [] → Ascends ps
none_ascend ps none = subst Ascends (sym none) (nothing_sorted string_cmp)

-- a pair that is inserted behind the others
pub insert_behind : (ps : List (String Global × Node)) (k : String Global) (n : Node) → AscendsTo ps k → insert_entry string_cmp ps k n ≡ ps ++ (k, n) ∷ []
unfolding IsStrictlySortedBy
insert_behind [] k n up = refl
insert_behind (p ∷ ps) k n up =
    let below : string_cmp p.0 k ≡ Less = the_one (λ l. string_cmp p.0 l ≡ Less) (keys_of ps) k up.0 in
    let greater : string_cmp k p.0 ≡ Greater = string_cmp_total.antisymm k p.0 ∙ ap ordering_reverse below in
    rw greater (ap (λ w. p ∷ w) (insert_behind ps k n up.1))

-- the pairs of a tree depend on the bytes of the keys alone
abbrev pairs_read : List Tree → List (List ℕ × Node) → tree.Pairs
pairs_read table [] = tree.no_pairs
pairs_read table (p ∷ ps) = tree.more_pairs p.0 (node_tree table p.1) (pairs_read table ps)

node_pairs-read : (table : List Tree) (ps : List (String Global × Node)) → node_pairs table ps ≡ pairs_read table (map_keys string_bytes ps)
node_pairs-read table [] = refl
node_pairs-read table (p ∷ ps) = ap (tree.more_pairs (string_bytes p.0) (node_tree table p.1)) (node_pairs-read table ps)

-- the map that is made of all pairs at once has exactly them
pub made_of_ascending : (table : List Tree) (ps : List (String Global × Node)) (m : BTreeMap (String Global) Node) → Ascends ps → IsFromIterResult string_cmp ps m → node_pairs table m.entries ≡ node_pairs table ps
made_of_ascending table ps m up made =
    let found = λ (q : String Global). made.0 q ∙ update_all_none (eq_by_cmp_equiv string_cmp_total) (eq_by_cmp string_cmp) (λ x y. refl) ps q (IsDistinct-from_sorted string_cmp (keys_of ps) up) in
    let same = read_alike m.entries ps made.1 up found in
    node_pairs-read table m.entries ∙ ap (pairs_read table) same ∙ sym (node_pairs-read table ps)
