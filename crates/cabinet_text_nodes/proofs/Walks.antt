-- Walks that complete the wholes of a table in their order.
use Rattle.std.proofs.Common.{◌≡◌, ◌≢◌, ℕ, zero, suc, ◌+◌, ◌<◌, ◌≤◌, false, List, [], ◌∷◌, ◌++◌, length, take, refl, sym, ap, ◌∙◌, subst, arith, inl, inr, Option, Some, None, Bor, append_assoc, Global, String, Box}
use Rattle.std.specs.Prelude.{◌==◌, slice_get, string_bytes, IsTrue}
use Rattle.std.specs.Bool.{Decides}
use Rattle.std.specs.List.{ItemBy}
use Rattle.std.proofs.lemmas.Bool.{false≢true, cases_Bool}
use Rattle.std.proofs.lemmas.List.{append-nil}
use Rattle.std.proofs.lemmas.Option.{slice_get_cases}
use Rattle.std.proofs.lemmas.Bool.Decides.{eqb_tells, Decides-eqb}
use Rattle.cabinet_text_grammar.specs.Keys.{MapKind}
use Rattle.cabinet_text_grammar.specs.Tree.{Tree, leaf, shared, nothing, just, list, map, whole, Trees, no_trees, more_trees, Pairs, no_pairs, more_pairs, depth, most_depth, IsLegal, AreLegal, ArePairs}
use Rattle.cabinet_text_grammar.specs.Wholes.{same, has, numbered, with_tree, with_wholes, with_wholes_in, with_wholes_by, IsNumbered, AreNumbered, ArePairsNumbered, IsTable, wholes_of}
use Rattle.cabinet_text_grammar.proofs.Equal.{itself}
use Rattle.cabinet_text_grammar.proofs.Tables.{IsListed, listed_table, has_more, listed_numbered}
use Rattle.cabinet_text_nodes.specs.Order.{IsEnd, IsWalk, WalksNode, WalksNodes}
use Rattle.cabinet_text_nodes.specs.View.{node_tree, node_trees, node_pairs, whole_of, table_after, table_of}
use Rattle.cabinet_text_nodes.proofs.Views.{node_tree-some, node_tree-whole}
use Rattle.cabinet_text_nodes.proofs.Faults.{values}
use Rattle.cabinet_text_nodes.proofs.Paths.{item_found}
use Rattle.cabinet_text_nodes.proofs.Entries.{no_entry, length_after, numbered_stays}
use Rattle.cabinet_text_nodes.specs.declared.node.Node.{Node}
use Rattle.cabinet_text_nodes.specs.declared.node.Node.TheVariants as node

-- ---- ends of lists

pub all_end : (xs : List Tree) → IsEnd xs xs
all_end xs = ([], refl)

pub more_end : {xs ys : List Tree} (t : Tree) → IsEnd xs ys → IsEnd xs (t ∷ ys)
more_end t end = (t ∷ end.0, ap (λ zs. t ∷ zs) end.1)

pub end_of_end : {xs ys zs : List Tree} → IsEnd xs ys → IsEnd ys zs → IsEnd xs zs
end_of_end {xs} {ys} {zs} inner outer = (outer.0 ++ inner.0, append_assoc outer.0 inner.0 xs ∙ ap (λ l. outer.0 ++ l) inner.1 ∙ outer.1)

length_end : (more xs : List Tree) → length xs ≤ length (more ++ xs)
length_end [] xs = omega arith
length_end (a ∷ more) xs = omega (arith, length_end more xs)

-- of two ends of a list, the shorter one is an end of the other
shorter : (more xs bs ys : List Tree) → more ++ xs ≡ bs ++ ys → length xs ≤ length ys → IsEnd xs ys
shorter more xs [] ys same h = (more, same)
shorter [] xs (b ∷ bs) ys same h = absurd (omega (arith, h, length_end bs ys, ap length same))
shorter (a ∷ more) xs (b ∷ bs) ys same h = shorter more xs bs ys (tails same) h
  where
    tails : {c d : Tree} {cs ds : List Tree} → c ∷ cs ≡ d ∷ ds → cs ≡ ds
    tails e = cc

pub shorter_end : {xs ys zs : List Tree} → IsEnd xs zs → IsEnd ys zs → length xs ≤ length ys → IsEnd xs ys
shorter_end {xs} {ys} x y h = shorter x.0 xs y.0 ys (x.1 ∙ sym y.1) h

-- an end as long as the list is the list
whole_end : (more xs : List Tree) → length (more ++ xs) ≤ length xs → xs ≡ more ++ xs
whole_end [] xs h = refl
whole_end (a ∷ more) xs h = absurd (omega (arith, h, length_end more xs))

pub long_end : {xs ys : List Tree} → IsEnd xs ys → length ys ≤ length xs → xs ≡ ys
long_end {xs} {ys} end h = whole_end end.0 xs (omega (arith, h, ap length end.1)) ∙ end.1

table_behind : (more xs : List Tree) → IsTable (more ++ xs) → IsTable xs
table_behind [] xs is = is
table_behind (a ∷ more) xs is = table_behind more xs is.3

pub table_end : {xs ys : List Tree} → IsEnd xs ys → IsTable ys → IsTable xs
table_end {xs} {ys} end is = table_behind end.0 xs (subst IsTable (sym end.1) is)

has_behind : (more xs : List Tree) (t : Tree) → IsTrue (has xs t) → IsTrue (has (more ++ xs) t)
has_behind [] xs t h = h
has_behind (a ∷ more) xs t h = has_more a (more ++ xs) t (has_behind more xs t h)

pub has_end : {xs ys : List Tree} (t : Tree) → IsEnd xs ys → IsTrue (has xs t) → IsTrue (has ys t)
has_end {xs} {ys} t end h = subst (λ zs. IsTrue (has zs t)) end.1 (has_behind end.0 xs t h)

has_first : (t : Tree) (table : List Tree) → IsTrue (has (t ∷ table) t)
has_first t table = rw (itself t) refl

-- ---- what a walk adds

tree_end : (table : List Tree) (t : Tree) → IsEnd table (with_tree table t)
tree_end table t =
    elim (cases_Bool (has table t)) [
      | inl there ↦ rw there (all_end table)
      | inr new ↦ rw new (more_end t (all_end table))
    ]

mutual
  pub wholes_end : (table : List Tree) (t : Tree) → IsEnd table (with_wholes table t)
  wholes_end table (leaf l) = all_end table
  wholes_end table (shared t) = all_end table
  wholes_end table nothing = all_end table
  wholes_end table (just t) = wholes_end table t
  wholes_end table (list ts) = wholes_end_in table ts
  wholes_end table (map kind ps) = wholes_end_by table ps
  wholes_end table (whole t) = end_of_end (wholes_end table t) (tree_end (with_wholes table t) t)

  pub wholes_end_in : (table : List Tree) (ts : Trees) → IsEnd table (with_wholes_in table ts)
  wholes_end_in table no_trees = all_end table
  wholes_end_in table (more_trees t ts) = end_of_end (wholes_end table t) (wholes_end_in (with_wholes table t) ts)

  pub wholes_end_by : (table : List Tree) (ps : Pairs) → IsEnd table (with_wholes_by table ps)
  wholes_end_by table no_pairs = all_end table
  wholes_end_by table (more_pairs k t ps) = end_of_end (wholes_end table t) (wholes_end_by (with_wholes table t) ps)

-- to enter what is complete adds nothing
mutual
  pub complete_adds : (table : List Tree) → IsListed table → (t : Tree) → IsNumbered table t → with_wholes table t ≡ table
  complete_adds table is (leaf l) there = refl
  complete_adds table is (shared t) there = refl
  complete_adds table is nothing there = refl
  complete_adds table is (just t) there = complete_adds table is t there
  complete_adds table is (list ts) there = complete_adds_in table is ts there
  complete_adds table is (map kind ps) there = complete_adds_by table is ps there
  complete_adds table is (whole t) there = rw (complete_adds table is t (listed_numbered table t is there), there) refl

  complete_adds_in : (table : List Tree) → IsListed table → (ts : Trees) → AreNumbered table ts → with_wholes_in table ts ≡ table
  complete_adds_in table is no_trees there = refl
  complete_adds_in table is (more_trees t ts) there = ap (λ w. with_wholes_in w ts) (complete_adds table is t there.0) ∙ complete_adds_in table is ts there.1

  complete_adds_by : (table : List Tree) → IsListed table → (ps : Pairs) → ArePairsNumbered table ps → with_wholes_by table ps ≡ table
  complete_adds_by table is no_pairs there = refl
  complete_adds_by table is (more_pairs k t ps) there = ap (λ w. with_wholes_by w ps) (complete_adds table is t there.0) ∙ complete_adds_by table is ps there.1

-- ---- one walk after another

module _ (table : List Tree) (first : ℕ) (one other : List Tree → List Tree) where
  pub then_walk : (m : ℕ) (r : Option ℕ) → IsWalk table first one (Some m) → IsWalk table m other r → IsWalk table first (λ done. other (one done)) r
  then_walk m None here h = λ done end count.
      let walked = here done end count in
      h (one done) walked.0 walked.1
  then_walk m (Some k) here h = λ done end count.
      let walked = here done end count in
      h (one done) walked.0 walked.1

  pub then_stopped : ((ws : List Tree) → IsEnd ws (other ws)) → IsWalk table first one None → IsWalk table first (λ done. other (one done)) None
  then_stopped grows here = λ done end count larger within after. here done end count larger within (end_of_end (grows (one done)) after)

-- ---- walks of several nodes

module _ (wholes : List Node) where
  -- what a walk of the rest gives is what one of all gives
  abbrev pub IsWalkBefore : List Node → List Node → ℕ → ℕ → Type 0
  IsWalkBefore all rest first next =
      (most_depth (node_trees (table_of wholes) rest) ≤ most_depth (node_trees (table_of wholes) all))
      × (IsTable (table_of wholes) → AreLegal (node_trees (table_of wholes) all) → AreLegal (node_trees (table_of wholes) rest)
      × ((r : Option ℕ) → IsWalk (table_of wholes) next (λ done. with_wholes_in done (node_trees (table_of wholes) rest)) r → IsWalk (table_of wholes) first (λ done. with_wholes_in done (node_trees (table_of wholes) all)) r))

  pub none_walked : (ns : List Node) (next : ℕ) → IsWalkBefore ns ns next next
  none_walked ns next = (omega arith, λ is legal. (legal, λ r h. h))

  pub walk_before_more : (all : List Node) (n : Node) (rest before : List Node) (first next m : ℕ) → before ≡ n ∷ rest → IsWalkBefore all before first next → WalksNode wholes n next (Some m) → IsWalkBefore all rest first m
  walk_before_more all n rest before first next m split told here =
      let told_all = subst (λ ns. IsWalkBefore all ns first next) split told in (
        omega (arith, told_all.0),
        λ table legal.
            let rest_told = told_all.1 table legal in
            (rest_told.0.1, λ s h. rest_told.1 s (then_walk (table_of wholes) next (λ done. with_wholes done (node_tree (table_of wholes) n)) (λ done. with_wholes_in done (node_trees (table_of wholes) rest)) m s (here table rest_told.0.0) h)),
      )

  pub walk_before_stopped : (all : List Node) (n : Node) (rest before : List Node) (first next : ℕ) → before ≡ n ∷ rest → IsWalkBefore all before first next → WalksNode wholes n next None → WalksNodes wholes all first None
  walk_before_stopped all n rest before first next split told here table legal =
      let told_all = subst (λ ns. IsWalkBefore all ns first next) split told in
      let rest_told = told_all.1 table legal in
      rest_told.1 None (then_stopped (table_of wholes) next (λ done. with_wholes done (node_tree (table_of wholes) n)) (λ done. with_wholes_in done (node_trees (table_of wholes) rest)) (λ ws. wholes_end_in ws (node_trees (table_of wholes) rest)) (here table rest_told.0.0))

  pub walk_before_none : (all before : List Node) (first next : ℕ) → before ≡ [] → IsWalkBefore all before first next → WalksNodes wholes all first (Some next)
  walk_before_none all before first next is told table legal =
      let told_all = subst (λ ns. IsWalkBefore all ns first next) is told in
      (told_all.1 table legal).1 (Some next) (λ done end count. (end, count))

  pub deep_in : (all : List Node) (n : Node) (rest before : List Node) (first next : ℕ) → before ≡ n ∷ rest → IsWalkBefore all before first next → depth (node_tree (table_of wholes) n) ≤ most_depth (node_trees (table_of wholes) all)
  deep_in all n rest before first next split told =
      let told_all = subst (λ ns. IsWalkBefore all ns first next) split told in
      omega (arith, told_all.0)

-- ---- the node in a whole

start_end : (table : List Tree) (ns : List Node) → IsEnd table (table_after table ns)
start_end table [] = all_end table
start_end table (n ∷ ns) = end_of_end (more_end (node_tree table n) (all_end table)) (start_end (node_tree table n ∷ table) ns)

entry_after : (table : List Tree) (ns : List Node) (i : ℕ) (n : Node) → slice_get ns i ≡ Some n
    → IsEnd (node_tree (table_after table (take i ns)) n ∷ table_after table (take i ns)) (table_after table ns) × (length (table_after table (take i ns)) ≡ length table + i)
entry_after table [] i n there = cc
entry_after table (x ∷ ns) zero n there =
    let same : x ≡ n = cc in
    (subst (λ m. IsEnd (node_tree table m ∷ table) (table_after (node_tree table x ∷ table) ns)) same (start_end (node_tree table x ∷ table) ns), omega arith)
entry_after table (x ∷ ns) (suc i) n there =
    let later = entry_after (node_tree table x ∷ table) ns i n there in
    (later.0, omega (arith, later.1))

numbered_end : (more : List Tree) (t : Tree) (table : List Tree) → numbered (more ++ (t ∷ table)) (length table) ≡ Some t
numbered_end [] t table =
    elim (eqb_tells (length table) (length table)) [
      | inl is ↦ rw is.0 refl
      | inr differs ↦ absurd (differs.1 refl)
    ]
numbered_end (a ∷ more) t table = numbered_stays a (more ++ (t ∷ table)) (length table) (omega (arith, length_end more (t ∷ table))) ∙ numbered_end more t table

-- the node with a number that is found or is not
pub node_found : (wholes : List Node) (m : ℕ) (found : Bor Node) → ItemBy (λ (n : Bor Node). n.now) wholes m m (Some found) → slice_get wholes m ≡ Some found.now
node_found wholes m found h = sym (item_found (λ (n : Bor Node). n.now) wholes m (Some found) h)

pub no_node_found : (wholes : List Node) (m : ℕ) → ItemBy (λ (n : Bor Node). n.now) wholes m m None → slice_get wholes m ≡ None
no_node_found wholes m h = sym (item_found (λ (n : Bor Node). n.now) wholes m None h)

-- the tree of a whole's node, seen from the wholes before it
pub record Entry (wholes : List Node) (m : ℕ) (n : Node) : Type 0 where
  pub end : IsEnd (node_tree (table_of (take m wholes)) n ∷ table_of (take m wholes)) (table_of wholes)
  pub count : length (table_of (take m wholes)) ≡ m
  pub seen : node_tree (table_of wholes) (node.Whole m) ≡ whole (node_tree (table_of (take m wholes)) n)

pub entry_of : (wholes : List Node) (m : ℕ) (n : Node) → slice_get wholes m ≡ Some n → Entry wholes m n
entry_of wholes m n there =
    let small = table_of (take m wholes) in
    let t = node_tree small n in
    let after = entry_after [] wholes m n there in
    let counted : length small ≡ m = omega (arith, after.1) in
    let found : numbered (table_of wholes) m ≡ Some t = ap (λ table. numbered table m) (sym after.0.1) ∙ ap (numbered (after.0.0 ++ (t ∷ small))) (sym counted) ∙ numbered_end after.0.0 t small in
    record { end = after.0; count = counted; seen = node_tree-whole (table_of wholes) m ∙ ap whole_of found }

-- ---- walks of nodes

walk_same : (table : List Tree) (next : ℕ) (r : Option ℕ) (one other : List Tree → List Tree) → ((done : List Tree) → one done ≡ other done) → IsWalk table next one r → IsWalk table next other r
walk_same table next None one other equal h = λ done end count larger within after. h done end count larger within (subst (λ w. IsEnd w larger) (sym (equal done)) after)
walk_same table next (Some n) one other equal h = λ done end count.
    let walked = h done end count in
    (subst (λ w. IsEnd w table) (equal done) walked.0, ap length (sym (equal done)) ∙ walked.1)

module _ (wholes : List Node) where
  seen_walk : (n : Node) (t : Tree) (next : ℕ) (r : Option ℕ) → node_tree (table_of wholes) n ≡ t → (IsTable (table_of wholes) → IsLegal t → IsWalk (table_of wholes) next (λ done. with_wholes done t) r) → WalksNode wholes n next r
  seen_walk n t next r seen h is legal = subst (λ u. IsWalk (table_of wholes) next (λ done. with_wholes done u) r) (sym seen) (h is (subst IsLegal seen legal))

  pub walked_some : (b : Box Node Global) (next : ℕ) (r : Option ℕ) → WalksNode wholes b.value next r → WalksNode wholes (node.Maybe (Some b)) next r
  walked_some b next r h = seen_walk (node.Maybe (Some b)) (just (node_tree (table_of wholes) b.value)) next r (node_tree-some (table_of wholes) b) h

  pub walked_list : (n : Node) (ns : List Node) (next : ℕ) (r : Option ℕ) → node_tree (table_of wholes) n ≡ list (node_trees (table_of wholes) ns) → WalksNodes wholes ns next r → WalksNode wholes n next r
  walked_list n ns next r seen h = seen_walk n (list (node_trees (table_of wholes) ns)) next r seen (λ is legal. h is legal.0)

  same_walk : (done : List Tree) (ps : List (String Global × Node)) → with_wholes_in done (node_trees (table_of wholes) (values ps)) ≡ with_wholes_by done (node_pairs (table_of wholes) ps)
  same_walk done [] = refl
  same_walk done (p ∷ ps) = same_walk (with_wholes done (node_tree (table_of wholes) p.1)) ps

  legal_values : (kind : MapKind) (keys : List (List ℕ)) (ps : List (String Global × Node)) → ArePairs kind keys (node_pairs (table_of wholes) ps) → AreLegal (node_trees (table_of wholes) (values ps))
  legal_values kind keys [] legal = tt
  legal_values kind keys (p ∷ ps) legal = (legal.1.0, legal_values kind (string_bytes p.0 ∷ keys) ps legal.1.1)

  pub walked_pairs : (kind : MapKind) (ps : List (String Global × Node)) (next : ℕ) (r : Option ℕ) → WalksNodes wholes (values ps) next r → IsTable (table_of wholes) → ArePairs kind [] (node_pairs (table_of wholes) ps)
      → IsWalk (table_of wholes) next (λ done. with_wholes_by done (node_pairs (table_of wholes) ps)) r
  walked_pairs kind ps next r h is are = walk_same (table_of wholes) next r _ _ (λ done. same_walk done ps) (h is (legal_values kind [] ps are))

  pub walked_map : (n : Node) (kind : MapKind) (ps : List (String Global × Node)) (next : ℕ) (r : Option ℕ) → node_tree (table_of wholes) n ≡ map kind (node_pairs (table_of wholes) ps) → WalksNodes wholes (values ps) next r → WalksNode wholes n next r
  walked_map n kind ps next r seen h = seen_walk n (map kind (node_pairs (table_of wholes) ps)) next r seen (λ is legal. walked_pairs kind ps next r h is legal.0)

  -- ---- wholes

  -- the node in a legal whole
  entry_at : (m : ℕ) → IsTable (table_of wholes) → IsLegal (node_tree (table_of wholes) (node.Whole m)) → (n : Node) × (slice_get wholes m ≡ Some n)
  entry_at m is legal =
      elim ((slice_get_cases wholes m).1) [
        | inl there ↦ (there.0, there.2)
        | inr past ↦ absurd (no_entry wholes m is legal past.1)
      ]

  -- a whole that is complete
  pub walked_complete : (m next : ℕ) → m < next → WalksNode wholes (node.Whole m) next (Some next)
  walked_complete m next below is legal done end count =
      let there = entry_at m is legal in
      let e = entry_of wholes m there.0 there.1 in
      let small = table_of (take m wholes) in
      let t = node_tree small there.0 in
      let inside = shorter_end e.end end (omega (arith, below, count, e.count)) in
      let same : with_wholes done (node_tree (table_of wholes) (node.Whole m)) ≡ done = ap (with_wholes done) e.seen ∙ complete_adds done (listed_table done (table_end end is)) (whole t) (has_end t inside (has_first t small)) in
      (subst (λ w. IsEnd w (table_of wholes)) (sym same) end, ap length same ∙ count)

  -- no legal whole lacks a node
  pub walked_nowhere : (m next : ℕ) → slice_get wholes m ≡ None → WalksNode wholes (node.Whole m) next None
  walked_nowhere m next none is legal = absurd (no_entry wholes m is legal none)

  module _ (m : ℕ) (n : Node) (next : ℕ) (there : slice_get wholes m ≡ Some n) (above : next ≤ m) where
    -- the walk of the node in a whole
    walked_in : (r : Option ℕ) → WalksNode (take m wholes) n next r → IsTable (table_of wholes) → IsLegal (node_tree (table_of wholes) (node.Whole m)) → IsWalk (table_of (take m wholes)) next (λ done. with_wholes done (node_tree (table_of (take m wholes)) n)) r
    walked_in r h is legal =
        let e = entry_of wholes m n there in
        h (table_end e.end is).3 (subst IsLegal e.seen legal)

    small_end : IsEnd (table_of (take m wholes)) (table_of wholes)
    small_end = end_of_end (more_end (node_tree (table_of (take m wholes)) n) (all_end (table_of (take m wholes)))) (entry_of wholes m n there).end

    before : (done : List Tree) → IsEnd done (table_of wholes) → length done ≡ next → IsEnd done (table_of (take m wholes))
    before done end count =
        let counted = (entry_of wholes m n there).count in
        shorter_end end small_end (omega (arith, above, count, counted))

    pub walked_whole : WalksNode (take m wholes) n next (Some m) → WalksNode wholes (node.Whole m) next (Some (m + 1))
    walked_whole h is legal done end count =
        let e = entry_of wholes m n there in
        let small = table_of (take m wholes) in
        let t = node_tree small n in
        let walked = walked_in (Some m) h is legal done (before done end count) count in
        let all : with_wholes done t ≡ small = long_end walked.0 (omega (arith, walked.1, e.count)) in
        let grown : with_wholes done (node_tree (table_of wholes) (node.Whole m)) ≡ t ∷ small = ap (with_wholes done) e.seen ∙ ap (λ w. with_tree w t) all ∙ rw (table_end e.end is).2 refl in
        (subst (λ w. IsEnd w (table_of wholes)) (sym grown) e.end, ap length grown ∙ omega (arith, e.count))

    pub walked_too_soon : (k : ℕ) → k ≢ m → WalksNode (take m wholes) n next (Some k) → WalksNode wholes (node.Whole m) next None
    walked_too_soon k differs h is legal done end count larger within after =
        let e = entry_of wholes m n there in
        let small = table_of (take m wholes) in
        let t = node_tree small n in
        let new = (table_end e.end is).2 in
        let walked = walked_in (Some k) h is legal done (before done end count) count in
        elim (cases_Bool (has (with_wholes done t) t)) [
          | inl there_too ↦ absurd (false≢true (sym new ∙ has_end t walked.0 there_too))
          | inr new_too ↦
              let grown : with_wholes done (node_tree (table_of wholes) (node.Whole m)) ≡ t ∷ with_wholes done t = ap (with_wholes done) e.seen ∙ rw new_too refl in
              let fewer = length_end walked.0.0 (with_wholes done t) in
              let inside = shorter_end (subst (λ w. IsEnd w larger) grown after) (end_of_end small_end within) (omega (arith, fewer, ap length walked.0.1, walked.1, e.count, differs)) in
              absurd (false≢true (sym new ∙ has_end t inside (has_first t (with_wholes done t))))
        ]

    pub walked_stopped : WalksNode (take m wholes) n next None → WalksNode wholes (node.Whole m) next None
    walked_stopped h is legal done end count larger within after =
        let e = entry_of wholes m n there in
        let t = node_tree (table_of (take m wholes)) n in
        walked_in None h is legal done (before done end count) count larger (end_of_end small_end within) (end_of_end (tree_end (with_wholes done t) t) (subst (λ u. IsEnd (with_wholes done u) larger) e.seen after))

-- ---- the order of all wholes

no_table_end : (xs : List Tree) → IsEnd [] xs
no_table_end xs = (xs, append-nil xs)

-- the first walk decides whether it completes all wholes
pub walk_decides : (wholes : List Node) (grown : List Tree → List Tree) (m : ℕ) → IsWalk (table_of wholes) 0 grown (Some m) → Decides (m == length wholes) (grown [] ≡ table_of wholes)
walk_decides wholes grown m h =
    let walked = h [] (no_table_end (table_of wholes)) refl in
    let many = length_after [] wholes in
    (λ same. long_end walked.0 (omega (arith, (Decides-eqb m (length wholes)).0 same, walked.1, many)), λ same. (Decides-eqb m (length wholes)).1 (omega (arith, ap length same, walked.1, many)))

pub walk_denies : (wholes : List Node) (grown : List Tree → List Tree) → IsWalk (table_of wholes) 0 grown None → Decides false (grown [] ≡ table_of wholes)
walk_denies wholes grown h =
    (λ same. absurd (false≢true same), λ same. absurd (h [] (no_table_end (table_of wholes)) refl (table_of wholes) (all_end (table_of wholes)) ([], same)))

pub in_order : (wholes : List Node) (root : Node) (m : ℕ) → WalksNode wholes root 0 (Some m) → IsTable (table_of wholes) → IsLegal (node_tree (table_of wholes) root) → Decides (m == length wholes) (wholes_of (node_tree (table_of wholes) root) ≡ table_of wholes)
in_order wholes root m h is legal = walk_decides wholes (λ done. with_wholes done (node_tree (table_of wholes) root)) m (h is legal)

pub not_in_order : (wholes : List Node) (root : Node) → WalksNode wholes root 0 None → IsTable (table_of wholes) → IsLegal (node_tree (table_of wholes) root) → Decides false (wholes_of (node_tree (table_of wholes) root) ≡ table_of wholes)
not_in_order wholes root h is legal = walk_denies wholes (λ done. with_wholes done (node_tree (table_of wholes) root)) (h is legal)
