-- The kinds of nodes.
use Rattle.cabinet_text_grammar.specs.Keys.{ordered, hashed, kept}
use Rattle.cabinet_text_grammar.specs.Tree.{truth, number, text, Tree, leaf, shared, nothing, just, list, map, whole}
use Rattle.cabinet_text_nodes.specs.declared.node.Kind.{Kind}
use Rattle.cabinet_text_nodes.specs.declared.node.Kind.TheVariants.{Bool, Int, Text, Shared, Maybe, List, Ordered, Hashed, Kept, Whole}

abbrev pub kind_of : Tree → Kind
kind_of (leaf (truth b)) = Bool
kind_of (leaf (number n)) = Int
kind_of (leaf (text t)) = Text
kind_of (shared t) = Shared
kind_of nothing = Maybe
kind_of (just t) = Maybe
kind_of (list ts) = List
kind_of (map ordered ps) = Ordered
kind_of (map hashed ps) = Hashed
kind_of (map kept ps) = Kept
kind_of (whole t) = Whole
