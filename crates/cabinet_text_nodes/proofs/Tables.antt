-- The items of a document's wholes, from the nodes that have their trees.
use Rattle.std.proofs.Common.{◌≡◌, ℕ, suc, List, [], ◌∷◌, ◌++◌, length, refl, sym, ap, ◌∙◌, subst, append_assoc, append-nil, arith, Some}
use Rattle.std.specs.Prelude.{IsTrue, slice_get}
use Rattle.std.proofs.lemmas.Bool.{and_from}
use Rattle.cabinet_text_grammar.specs.Tree.{Tree, IsLegal}
use Rattle.cabinet_text_grammar.specs.Item.{items, items_of, items_of_table, header}
use Rattle.cabinet_text_grammar.specs.Spelling.{lines_of, ended, text_of}
use Rattle.cabinet_text_grammar.specs.Wholes.{IsNumbered, IsTable, IsDocument, wholes_of}
use Rattle.cabinet_text_grammar.proofs.Tables.{items_stay, numbered_still, has_more, legal_numbered}
use Rattle.cabinet_text_nodes.proofs.Entries.{tree_after, node_numbered, legal_known, length_after}
use Rattle.cabinet_text_nodes.specs.View.{node_tree, node_trees, table_after, table_of, known_below, all_known}
use Rattle.cabinet_text_nodes.specs.declared.node.Node.{Node}
use Rattle.cabinet_text_nodes.proofs.Texts.{ended-append, node_lines}

-- the trees before some others are a table if all are
table_before : (table : List Tree) (ns : List Node) → IsTable (table_after table ns) → IsTable table
table_before table [] is = is
table_before table (n ∷ ns) is = (table_before (node_tree table n ∷ table) ns is).3

-- a tree has the same items under a larger table
items_after : (table : List Tree) (ns : List Node) (t : Tree) → IsTable (table_after table ns) → IsNumbered table t → items (table_after table ns) t ≡ items table t
items_after table [] t is numbered = refl
items_after table (n ∷ ns) t is numbered =
    let u = node_tree table n in
    let new = (table_before (u ∷ table) ns is).2 in
    items_after (u ∷ table) ns t is (numbered_still table (u ∷ table) (has_more u table) t numbered) ∙ items_stay u table t new numbered

items_with : (table : List Tree) (ns : List Node) → IsTable (table_after table ns)
    → items_of_table (table_after table ns) ≡ items_of_table table ++ items_of (table_after table ns) (node_trees (table_after table ns) ns)
items_with table [] is = sym (append-nil (items_of_table table))
items_with table (n ∷ ns) is =
    let t = node_tree table n in
    let all = table_after (t ∷ table) ns in
    let here = table_before (t ∷ table) ns is in
    let same : items all (node_tree all n) ≡ items table t =
    ap (items all) (tree_after table (n ∷ ns) n here.0.0) ∙ items_after table (n ∷ ns) t is here.1 in
    items_with (t ∷ table) ns is
    ∙ append_assoc (items_of_table table) (items table t) (items_of all (node_trees all ns))
    ∙ ap (λ w. items_of_table table ++ (w ++ items_of all (node_trees all ns))) (sym same)

-- the items of a table are those of its nodes
pub table_items : (ns : List Node) → IsTable (table_of ns) → items_of (table_of ns) (node_trees (table_of ns) ns) ≡ items_of_table (table_of ns)
table_items ns is = sym (items_with [] ns is)

each_known : (n : ℕ) (ns : List Node) → ((i : ℕ) (x : Node) → slice_get ns i ≡ Some x → IsTrue (known_below n x)) → IsTrue (all_known n ns)
each_known n [] each = refl
each_known n (x ∷ ns) each = and_from _ _ (each 0 x refl) (each_known n ns (λ i. each (suc i)))

-- the numbers in the nodes of a table are its own
pub table_known : (ns : List Node) → IsTable (table_of ns) → IsTrue (all_known (length (table_of ns)) ns)
table_known ns is =
    let t = table_of ns in
    each_known (length t) ns (λ i x there. legal_known t x (legal_numbered t i (node_tree t x) is (node_numbered ns i x is there)))

-- ---- documents

pub root_known : (d : Tree) (root : Node) → IsDocument d → node_tree (wholes_of d) root ≡ d → IsTrue (known_below (length (wholes_of d)) root)
root_known d root document is = legal_known (wholes_of d) root (subst IsLegal (sym is) document.0)

-- the number of wholes, their lines, and those of the root
pub document_text : (d : Tree) (ns : List Node) (root : Node) → table_of ns ≡ wholes_of d → node_tree (wholes_of d) root ≡ d
    → ended (lines_of (header (length ns))) ++ (ended (lines_of (items_of_table (table_of ns))) ++ node_lines (wholes_of d) root) ≡ text_of d
document_text d ns root table is =
    let t = wholes_of d in
    let many : length ns ≡ length t = omega (arith, length_after [] ns) ∙ ap length table in
    ap (λ k. ended (lines_of (header k)) ++ (ended (lines_of (items_of_table (table_of ns))) ++ node_lines t root)) many
    ∙ ap (λ u. ended (lines_of (header (length t))) ++ (ended (lines_of (items_of_table u)) ++ node_lines t root)) table
    ∙ ap (λ u. ended (lines_of (header (length t))) ++ (ended (lines_of (items_of_table t)) ++ ended (lines_of (items t u)))) is
    ∙ ap (λ w. ended (lines_of (header (length t))) ++ w) (sym (ended-append (items_of_table t) (items t d)))
    ∙ sym (ended-append (header (length t)) (items_of_table t ++ items t d))
