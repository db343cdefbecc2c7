-- The fault of a root and the nodes of its wholes.
use Rattle.std.proofs.Common.{◌≡◌, ℕ, zero, suc, ◌≤◌, ◌<◌, ◌^◌, Bool, true, false, ◌&&◌, List, [], ◌∷◌, ◌++◌, length, refl, sym, ap, ◌∙◌, subst, arith, inl, inr, Option, Some, None, append_assoc, append-nil}
use Rattle.std.specs.Prelude.{IsTrue, MatchBool, if◌then◌else◌}
use Rattle.std.proofs.lemmas.Bool.{and_from}
use Rattle.std.proofs.lemmas.Bool.Decides.{eqb_tells}
use Rattle.cabinet_text_grammar.specs.Tree.{Tree, just, leaf, truth, whole, more_trees, depth, most_depth, IsLegal, AreLegal}
use Rattle.cabinet_text_grammar.specs.Wholes.{numbered, wholes_of, IsTable, IsDocument}
use Rattle.cabinet_text_grammar.proofs.Tables.{some_same}
use Rattle.cabinet_text_nodes.specs.Depths.{NodeDepth}
use Rattle.cabinet_text_nodes.specs.Faults.{AreDepths, AllLegal, IsFault, AreFaults, NodeFault, worse_of, wholes_with, HasTwice, TableFault, IsRefusedTable}
use Rattle.cabinet_text_nodes.specs.View.{node_tree, known_below, known_after, table_after, table_of}
use Rattle.cabinet_text_nodes.specs.declared.node.Node.{Node}
use Rattle.cabinet_text_nodes.specs.declared.refusal.DocumentRefusal.{DocumentRefusal}
use Rattle.cabinet_text_nodes.specs.declared.refusal.DocumentRefusal.TheVariants.{UnknownWhole, TooDeep, RepeatedKey, RepeatedWhole, WholeOrder, OutOfMemory}
use Rattle.cabinet_text_nodes.proofs.Added.{depths_more}
use Rattle.cabinet_text_nodes.proofs.Entries.{no_depths, length_after}
use Rattle.cabinet_text_nodes.proofs.Faults.{faults_both, same_refusal}

-- ---- known numbers

-- whether the numbers in a node are known, by its fault
abbrev IsKnown : Bool → Option DocumentRefusal → Type 0
IsKnown k (Some UnknownWhole) = k ≡ false
IsKnown k _ = IsTrue k

known_by : (L : Type 0) (room : ℕ) (k : Bool) (t : Tree) (r : Option DocumentRefusal) → IsFault L room k t r → IsKnown k r
known_by L room k t None h = h.0
known_by L room k t (Some UnknownWhole) h = h
known_by L room k t (Some TooDeep) h = h.0
known_by L room k t (Some RepeatedKey) h = h.0
known_by L room k t (Some RepeatedWhole) h = absurd h
known_by L room k t (Some WholeOrder) h = absurd h
known_by L room k t (Some OutOfMemory) h = absurd h

-- some table has these depths
abbrev of_depth : ℕ → Tree
of_depth zero = leaf (truth true)
of_depth (suc n) = just (of_depth n)

depth-of_depth : (n : ℕ) → n ≡ depth (of_depth n)
depth-of_depth zero = refl
depth-of_depth (suc n) = ap (λ m. suc m) (depth-of_depth n)

of_depths : (before depths : List ℕ) (table : List Tree) → AreDepths table before → (all : List Tree) × AreDepths all (before ++ depths)
of_depths before [] table are = (table, subst (AreDepths table) (sym (append-nil before)) are)
of_depths before (d ∷ depths) table are =
    let all = of_depths (before ++ d ∷ []) depths (of_depth d ∷ table) (depths_more table (of_depth d) before d are (depth-of_depth d)) in
    (all.0, subst (AreDepths all.0) (append_assoc before (d ∷ []) depths) all.1)

known_node : (depths : List ℕ) (room : ℕ) (n : Node) (r : Option DocumentRefusal) → NodeFault depths room n r → IsKnown (known_below (length depths) n) r
known_node depths room n r h =
    let some = of_depths [] depths [] no_depths in
    known_by (AllLegal some.0) room (known_below (length depths) n) (node_tree some.0 n) r (h some.0 some.1)

-- ---- one more tree

-- the tree of a whole lies inside one container
in_whole : (L : Type 0) (k : Bool) (t : Tree) (r : Option DocumentRefusal) → IsFault L 63 k t r → IsFault L 64 k (whole t) r
in_whole L k t None h = (h.0, h.1, omega (arith, h.2))
in_whole L k t (Some UnknownWhole) h = h
in_whole L k t (Some TooDeep) h = (h.0, omega (arith, h.1))
in_whole L k t (Some RepeatedKey) h = (h.0, omega (arith, h.1), h.2)
in_whole L k t (Some RepeatedWhole) h = absurd h
in_whole L k t (Some WholeOrder) h = absurd h
in_whole L k t (Some OutOfMemory) h = absurd h

pub legal_with : (table : List Tree) → AreLegal (wholes_with table) → AllLegal table
legal_with [] are n t there = cc
legal_with (u ∷ table) are n t there =
    elim (eqb_tells (length table) n) [
      | inl here ↦ subst IsLegal (some_same u t (sym (ap (λ b. if b then Some u else numbered table n) here.0) ∙ there)) are.0
      | inr differs ↦ legal_with table are.1 n t (sym (ap (λ b. if b then Some u else numbered table n) differs.0) ∙ there)
    ]

left_false : (b c : Bool) → b ≡ false → (b && c) ≡ false
left_false true c h = cc
left_false false c h = refl

right_false : (b c : Bool) → c ≡ false → (b && c) ≡ false
right_false true c h = h
right_false false c h = refl

plain : (L : Type 0) (k : Bool) (t : Tree) (r : Option DocumentRefusal) → L → IsFault L 64 k t r → IsFault (Unit {0}) 64 k t r
plain L k t None l h = (h.0, λ u. h.1 l, h.2)
plain L k t (Some r) l h = same_refusal L (Unit {0}) 64 k t r h

one_more :
    (table : List Tree) (ks k : Bool) (t : Tree) (fault now : Option DocumentRefusal)
    → AreFaults (Unit {0}) 64 ks (wholes_with table) fault
    → IsKnown k now
    → (most_depth (wholes_with table) ≤ 64 → IsFault (AllLegal table) 64 k t now)
    → AreFaults (Unit {0}) 64 (k && ks) (more_trees t (wholes_with table)) (worse_of now fault)
one_more table ks k t None now told known h = faults_both (Unit {0}) 64 k ks t (wholes_with table) now None (plain (AllLegal table) k t now (legal_with table (told.1 tt)) (h told.2)) told
one_more table ks k t (Some UnknownWhole) None told known h = right_false k ks told
one_more table ks k t (Some UnknownWhole) (Some UnknownWhole) told known h = right_false k ks told
one_more table ks k t (Some UnknownWhole) (Some TooDeep) told known h = right_false k ks told
one_more table ks k t (Some UnknownWhole) (Some RepeatedKey) told known h = right_false k ks told
one_more table ks k t (Some UnknownWhole) (Some RepeatedWhole) told known h = right_false k ks told
one_more table ks k t (Some UnknownWhole) (Some WholeOrder) told known h = right_false k ks told
one_more table ks k t (Some UnknownWhole) (Some OutOfMemory) told known h = right_false k ks told
one_more table ks k t (Some TooDeep) None told known h = (and_from k ks known told.0, omega (arith, told.1))
one_more table ks k t (Some TooDeep) (Some UnknownWhole) told known h = left_false k ks known
one_more table ks k t (Some TooDeep) (Some TooDeep) told known h = (and_from k ks known told.0, omega (arith, told.1))
one_more table ks k t (Some TooDeep) (Some RepeatedKey) told known h = (and_from k ks known told.0, omega (arith, told.1))
one_more table ks k t (Some TooDeep) (Some RepeatedWhole) told known h = (and_from k ks known told.0, omega (arith, told.1))
one_more table ks k t (Some TooDeep) (Some WholeOrder) told known h = (and_from k ks known told.0, omega (arith, told.1))
one_more table ks k t (Some TooDeep) (Some OutOfMemory) told known h = (and_from k ks known told.0, omega (arith, told.1))
one_more table ks k t (Some RepeatedKey) None told known h = (and_from k ks known told.0, omega (arith, (h told.1).2, told.1), inr told.2)
one_more table ks k t (Some RepeatedKey) (Some UnknownWhole) told known h = left_false k ks known
one_more table ks k t (Some RepeatedKey) (Some TooDeep) told known h = (and_from k ks known told.0, omega (arith, (h told.1).1))
one_more table ks k t (Some RepeatedKey) (Some RepeatedKey) told known h = (and_from k ks known told.0, omega (arith, (h told.1).1, told.1), inr told.2)
one_more table ks k t (Some RepeatedKey) (Some RepeatedWhole) told known h = absurd (h told.1)
one_more table ks k t (Some RepeatedKey) (Some WholeOrder) told known h = absurd (h told.1)
one_more table ks k t (Some RepeatedKey) (Some OutOfMemory) told known h = absurd (h told.1)
one_more table ks k t (Some RepeatedWhole) now told known h = absurd told
one_more table ks k t (Some WholeOrder) now told known h = absurd told
one_more table ks k t (Some OutOfMemory) now told known h = absurd told

-- ---- the loop over the nodes of the wholes

-- what is known of the nodes before the rest
pub record IsTold (ns rest : List Node) (depths : List ℕ) (fault : Option DocumentRefusal) : Type 0 where
  pub table : List Tree
  pub known : Bool
  pub as_many : length depths ≡ length table
  pub told : AreFaults (Unit {0}) 64 known (wholes_with table) fault
  pub depths_are : most_depth (wholes_with table) ≤ 64 → AreDepths table depths
  pub table_is : table_after table rest ≡ table_of ns
  pub known_is : (known_after (length table) rest && known) ≡ known_after 0 ns

pub none_told : (ns : List Node) (ds : List ℕ) → ds ≡ [] → IsTold ns ns ds None
none_told ns ds is = record {
  table = [];
  known = true;
  as_many = ap length is;
  told = (refl, λ u. tt, omega arith);
  depths_are = λ few. subst (AreDepths []) (sym is) no_depths;
  table_is = refl;
  known_is = with_true (known_after 0 ns);
}
  where
    with_true : (b : Bool) → (b && true) ≡ b
    with_true true = refl
    with_true false = refl

moved_and : (a b c : Bool) → (b && (a && c)) ≡ ((a && b) && c)
moved_and true b c = refl
moved_and false true c = refl
moved_and false false c = refl

pub more_told :
    (ns : List Node) (n : Node) (rest before : List Node) (depths more : List ℕ) (d : ℕ) (fault now next : Option DocumentRefusal)
    → before ≡ n ∷ rest
    → IsTold ns before depths fault
    → NodeFault depths 63 n now
    → NodeDepth depths n d
    → next ≡ worse_of now fault
    → more ≡ depths ++ d ∷ []
    → IsTold ns rest more next
more_told ns n rest before depths more d fault now next split done here deep is added =
    let T = done.table in
    let t = node_tree T n in
    let k = known_below (length depths) n in
    let same : k ≡ known_below (length T) n = ap (λ m. known_below m n) done.as_many in
    let told = one_more T done.known k (whole t) fault now done.told (known_node depths 63 n now here) (λ few. in_whole (AllLegal T) k t now (here T (done.depths_are few))) in
    record {
      table = t ∷ T;
      known = k && done.known;
      as_many = ap length added ∙ omega (arith, length_more depths d, done.as_many);
      told = rw is told;
      depths_are = λ few.
          let are = done.depths_are (omega (arith, few)) in
          subst (AreDepths (t ∷ T)) (sym added) (depths_more T t depths d are (deep T are (omega (arith, few))));
      table_is = ap (table_after T) (sym split) ∙ done.table_is;
      known_is = moved_and k (known_after (suc (length T)) rest) done.known ∙ ap (λ b. (b && known_after (suc (length T)) rest) && done.known) same ∙ ap (λ ms. known_after (length T) ms && done.known) (sym split) ∙ done.known_is;
    }
  where
    length_more : (xs : List ℕ) (x : ℕ) → length (xs ++ x ∷ []) ≡ suc (length xs)
    length_more [] x = refl
    length_more (y ∷ xs) x = ap (λ m. suc m) (length_more xs x)

-- the fault of all
pub all_told : (ns before : List Node) (root : Node) (depths : List ℕ) (fault now r : Option DocumentRefusal) → before ≡ [] → IsTold ns before depths fault → NodeFault depths 64 root now → r ≡ worse_of now fault → TableFault ns root r
all_told ns before root depths fault now r none done here is =
    let T = done.table in
    let table : T ≡ table_of ns = ap (table_after T) (sym none) ∙ done.table_is in
    let known : done.known ≡ known_after 0 ns = ap (λ ms. known_after (length T) ms && done.known) (sym none) ∙ done.known_is in
    let k = known_below (length depths) root in
    let many : length depths ≡ length ns = omega (arith, done.as_many, ap length table, length_after [] ns) in
    let told = one_more T done.known k (node_tree T root) fault now done.told (known_node depths 64 root now here) (λ few. here T (done.depths_are few)) in
    rw is
    (subst (λ w. AreFaults (Unit {0}) 64 (known_below (length ns) root && known_after 0 ns) (more_trees (node_tree w root) (wholes_with w)) (worse_of now fault)) table
    (subst (λ b. AreFaults (Unit {0}) 64 (known_below (length ns) root && b) (more_trees (node_tree T root) (wholes_with T)) (worse_of now fault)) known
    (subst (λ m. AreFaults (Unit {0}) 64 (known_below m root && done.known) (more_trees (node_tree T root) (wholes_with T)) (worse_of now fault)) many told)))

-- ---- documents

pub refused : (ns : List Node) (root : Node) (r : DocumentRefusal) → TableFault ns root (Some r) → IsRefusedTable ns root r
refused ns root UnknownWhole h = h
refused ns root TooDeep h = h
refused ns root RepeatedKey h = h
refused ns root RepeatedWhole h = absurd h
refused ns root WholeOrder h = absurd h
refused ns root OutOfMemory h = absurd h

pub no_fault : (ns : List Node) (root : Node) → TableFault ns root None → AreLegal (wholes_with (table_of ns)) × (most_depth (wholes_with (table_of ns)) ≤ 64) × IsLegal (node_tree (table_of ns) root) × (depth (node_tree (table_of ns) root) ≤ 64)
no_fault ns root h = ((h.1 tt).1, omega (arith, h.2), (h.1 tt).0, omega (arith, h.2))

pub is_document : (ns : List Node) (root : Node) → length ns < 2 ^ 64 → TableFault ns root None → wholes_of (node_tree (table_of ns) root) ≡ table_of ns → IsDocument (node_tree (table_of ns) root)
is_document ns root few h order = ((h.1 tt).0, omega (arith, h.2), omega (arith, few, ap length order, length_after [] ns))

-- what is told of equal wholes
abbrev pub TellsRepeats : List Node → Bool → Type 0
TellsRepeats ns b = AreLegal (wholes_with (table_of ns)) → most_depth (wholes_with (table_of ns)) ≤ 64 → MatchBool b (HasTwice (table_of ns)) (IsTable (table_of ns))
