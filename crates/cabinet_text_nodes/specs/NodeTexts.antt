-- The text of a node in two parts, its lines without shared texts and these, and the order of such texts.
use Rattle.std.specs.Prelude.{◌≡◌, ℕ, Bool, List, [], ◌∷◌, ◌++◌, length, map, IsTrue, String, Result, IfOk}
use Rattle.std.specs.List.{flat_map}
use Rattle.std.specs.Cmp.Lexicographic.{slice_cmp}
use Rattle.std.specs.Ordering.{nat_cmp, ordering_then}
use Rattle.std.specs.Rc.{rc_str_bytes}
use Rattle.std.specs.declared.alloc.Global.{Global}
use Rattle.std.specs.declared.cmp.Ordering.{Ordering}
use Rattle.std.specs.declared.rc.RcStr.{RcStr}
use Rattle.archive_shape_layout.specs.declared.error.Error.{Error}
use Rattle.cabinet_text_grammar.specs.Answering.{head_of}
use Rattle.cabinet_text_grammar.specs.Item.{Item, shared_item, key_item, items, items_of, items_of_pairs}
use Rattle.cabinet_text_grammar.specs.Spelling.{lines_of, ended}
use Rattle.cabinet_text_grammar.specs.Tree.{Tree}
use Rattle.cabinet_text_grammar.specs.Wholes.{IsTable}
use Rattle.cabinet_text_nodes.specs.View.{node_tree, node_trees, node_pairs, known_below, all_known}
use Rattle.cabinet_text_nodes.specs.declared.node.Node.{Node}
use Rattle.cabinet_text_nodes.specs.declared.node_text.NodeText.{NodeText}

-- an item without the bytes of a shared text
abbrev pub without_shared : Item → Item
without_shared (shared_item t) = shared_item []
without_shared i = i

-- the shared text that an item has, if it has one, and those of several items
abbrev pub shared_of : Item → List (List ℕ)
shared_of (shared_item t) = t ∷ []
shared_of i = []

abbrev pub shared_in : List Item → List (List ℕ)
shared_in is = flat_map shared_of is

-- the lines of items without their shared texts
abbrev pub bare_lines : List Item → List ℕ
bare_lines is = ended (lines_of (map without_shared is))

-- the two parts of the text of some items
pub record HasItems (text : NodeText) (is : List Item) : Type 0 where
  pub lines : text.lines.items ≡ bare_lines is
  pub shared : map rc_str_bytes text.shared.items ≡ shared_in is

-- a text is that of a node, under each table that has the numbers of the wholes in it
abbrev pub IsTextOf : NodeText → Node → Type 0
IsTextOf text n = (table : List Tree) → IsTable table → IsTrue (known_below (length table) n) → HasItems text (items table (node_tree table n))

-- texts are ordered by their lines, and by their shared texts where these are the same
abbrev pub shared_cmp : RcStr Global → RcStr Global → Ordering
shared_cmp a b = slice_cmp nat_cmp (rc_str_bytes a) (rc_str_bytes b)

abbrev pub node_text_cmp : NodeText → NodeText → Ordering
node_text_cmp a b = ordering_then (slice_cmp nat_cmp a.lines.items b.lines.items) (slice_cmp shared_cmp a.shared.items b.shared.items)

-- ---- adding

-- items were added to a text
pub record HasAdded (early late : NodeText) (is : List Item) : Type 0 where
  pub lines : late.lines.items ≡ early.lines.items ++ bare_lines is
  pub shared : map rc_str_bytes late.shared.items ≡ map rc_str_bytes early.shared.items ++ shared_in is

-- the head of a node, which for a whole has no number
abbrev pub AddsHead : (early late : NodeText) → Node → Result Unit Error → Type 0
AddsHead early late n result = (table : List Tree) → IfOk result (λ _. HasAdded early late (head_of (node_tree table n) ∷ []))

-- under each table that has the numbers of some nodes, these items are added
abbrev pub AddsUnder : (early late : NodeText) (known : ℕ → Bool) (added : List Tree → List Item) → Result Unit Error → Type 0
AddsUnder early late known added result =
    (table : List Tree) → IsTable table → IsTrue (known (length table)) → IfOk result (λ _. HasAdded early late (added table))

abbrev pub AddsNode : (early late : NodeText) → Node → Result Unit Error → Type 0
AddsNode early late n result = AddsUnder early late (λ k. known_below k n) (λ table. items table (node_tree table n)) result

abbrev pub AddsNodes : (early late : NodeText) → List Node → Result Unit Error → Type 0
AddsNodes early late ns result = AddsUnder early late (λ k. all_known k ns) (λ table. items_of table (node_trees table ns)) result

abbrev pub AddsPair : (early late : NodeText) (key : List ℕ) → Node → Result Unit Error → Type 0
AddsPair early late key n result = AddsUnder early late (λ k. known_below k n) (λ table. key_item key ∷ items table (node_tree table n)) result

abbrev pub AddsPairs : (early late : NodeText) → List (String Global × Node) → Result Unit Error → Type 0
AddsPairs early late pairs result =
    AddsUnder early late (λ k. all_known k (map (λ p. p.1) pairs)) (λ table. items_of_pairs table (node_pairs table pairs)) result
