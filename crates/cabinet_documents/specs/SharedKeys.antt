-- The keys under which shared texts and wholes are written.
use Rattle.std.specs.Prelude.{ℕ, ◌+◌, ◌*◌, List}
use Rattle.cabinet_text_grammar.specs.TextKey.{text_key}
use Rattle.cabinet_text_grammar.specs.Tree.{Tree}
use Rattle.cabinet_text_grammar.specs.Wholes.{number_in}

-- a text has an even key and a whole an odd one, so no text has the key of a whole
abbrev pub key_of_text : List ℕ → ℕ
key_of_text s = text_key s * 2

-- of the whole with a number
abbrev pub key_of_number : ℕ → ℕ
key_of_number n = n * 2 + 1

-- of the whole that has a tree, by the tree's number in a table
abbrev pub key_of_whole : List Tree → Tree → ℕ
key_of_whole table t = key_of_number (number_in table t)
