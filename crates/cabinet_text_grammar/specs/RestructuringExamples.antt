-- Worked edits that add, replace and remove nodes.
use Rattle.std.specs.Prelude.{◌≡◌, ℕ, List, [], ◌∷◌, pos, codes, Some}
use Rattle.cabinet_text_grammar.specs.Keys.{ordered, kept}
use Rattle.cabinet_text_grammar.specs.Tree.{number, Tree, leaf, nothing, just, list, map, whole, no_trees, more_trees, no_pairs, more_pairs}
use Rattle.cabinet_text_grammar.specs.Path.{key, place, inside}
use Rattle.cabinet_text_grammar.specs.Answering.{spelled_answer}
use Rattle.cabinet_text_grammar.specs.EditLine.{EditLine, put_line, insert_line, remove_line, edit_spelling, edit_reply}
use Rattle.cabinet_text_grammar.specs.Restructuring.{edited, missing, refused, put, insert, remove}

abbrev pub five : Tree
five = leaf (number (pos 5))

abbrev pub one_to_three : Tree
one_to_three = list (more_trees (leaf (number (pos 1))) (more_trees (leaf (number (pos 3))) no_trees))

abbrev pub tea : Tree
tea = map ordered (more_pairs (codes "tea") (leaf (number (pos 1))) no_pairs)

-- a new key stands in the order of keys in an ordered map, and last in a kept one
abbrev pub NewKeys : Type 0
NewKeys =
    (put tea (key (codes "rye") ∷ []) five ≡ edited (map ordered (more_pairs (codes "rye") five (more_pairs (codes "tea") (leaf (number (pos 1))) no_pairs))))
    × (put tea (key (codes "tea") ∷ []) five ≡ edited (map ordered (more_pairs (codes "tea") five no_pairs)))
    × (put (map kept (more_pairs (codes "tea") five no_pairs)) (key (codes "rye") ∷ []) five ≡ edited (map kept (more_pairs (codes "tea") five (more_pairs (codes "rye") five no_pairs))))
    × (put tea (key (codes "rye") ∷ inside ∷ []) five ≡ missing)

abbrev pub Elements : Type 0
Elements =
    (insert one_to_three (place 1 ∷ []) (leaf (number (pos 2))) ≡ edited (list (more_trees (leaf (number (pos 1))) (more_trees (leaf (number (pos 2))) (more_trees (leaf (number (pos 3))) no_trees)))))
    × (put one_to_three (place 2 ∷ []) five ≡ edited (list (more_trees (leaf (number (pos 1))) (more_trees (leaf (number (pos 3))) (more_trees five no_trees)))))
    × (put one_to_three (place 3 ∷ []) five ≡ missing)
    × (remove one_to_three (place 0 ∷ []) ≡ edited (list (more_trees (leaf (number (pos 3))) no_trees)))

abbrev pub Options : Type 0
Options =
    (put nothing (inside ∷ []) five ≡ edited (just five))
    × (remove (just five) (inside ∷ []) ≡ edited nothing)
    × (remove five [] ≡ refused)
    × (put (whole five) (inside ∷ []) five ≡ refused)
    × (put (just (whole five)) (inside ∷ []) five ≡ refused)

-- a line with this spelling is answered by this line
abbrev pub AnswersEdit : Tree → EditLine → List ℕ → List ℕ → Type 0
AnswersEdit t line bytes answer = (edit_spelling line ≡ bytes) × (spelled_answer (edit_reply t (Some line)) ≡ answer)

abbrev pub LinesThatEdit : Type 0
LinesThatEdit =
    AnswersEdit tea (put_line (key (codes "green rye") ∷ []) five) (codes "put int 5 'green\\srye") (codes "ok\n")
    × AnswersEdit tea (put_line (place 0 ∷ []) (map kept no_pairs)) (codes "put kept 0 #0") (codes "missing\n")
    × AnswersEdit one_to_three (insert_line (place 2 ∷ []) nothing) (codes "insert none #2") (codes "ok\n")
    × AnswersEdit (just five) (remove_line (inside ∷ [])) (codes "remove ?") (codes "ok\n")
    × AnswersEdit tea (remove_line []) (codes "remove") (codes "refused\n")
    × AnswersEdit tea (remove_line (key (codes "rye") ∷ [])) (codes "remove 'rye") (codes "missing\n")
