-- Worked documents.
use Rattle.std.specs.Prelude.{ℕ, pos, true, codes}
use Rattle.cabinet_text_grammar.specs.Keys.{ordered, hashed, kept}
use Rattle.cabinet_text_grammar.specs.Tree.{truth, number, text, Tree, leaf, shared, nothing, just, list, map, whole, no_trees, more_trees, Pairs, no_pairs, more_pairs}

abbrev pub numeral : ℕ → Tree
numeral n = leaf (number (pos n))

-- the keys of an ordered map, each with a number
abbrev pub four_pairs : Pairs
four_pairs =
    more_pairs (codes "bar") (numeral 1)
    (more_pairs (codes "bat") (numeral 2)
    (more_pairs (codes "baz") (numeral 3)
    (more_pairs (codes "foo") (numeral 4) no_pairs)))

abbrev pub map_of_four : Tree
map_of_four = map ordered four_pairs

-- two keys that do not ascend
abbrev pub two_pairs : Pairs
two_pairs = more_pairs (codes "b") (numeral 1) (more_pairs (codes "a") (leaf (text (codes "hat"))) no_pairs)

abbrev pub kept_map : Tree
kept_map = map kept two_pairs

-- an element of each kind except a list
abbrev pub list_of_eight : Tree
list_of_eight =
    list (more_trees (leaf (truth true))
    (more_trees (numeral 7)
    (more_trees (leaf (text (codes "a b")))
    (more_trees (shared (codes "hat"))
    (more_trees nothing
    (more_trees (just (numeral 5))
    (more_trees (map hashed (more_pairs (codes "a") (numeral 1) no_pairs))
    (more_trees kept_map no_trees))))))))

-- a number that is a whole at two places
abbrev pub whole_twice : Tree
whole_twice = list (more_trees (whole (numeral 5)) (more_trees (whole (numeral 5)) no_trees))
