-- Bytes that spell a line are not empty.
use Rattle.std.proofs.Common.{◌≢◌, ◌<◌, ℕ, List, [], ◌∷◌, ◌++◌, length, sym, ◌∙◌, codes, arith, lit<}
use Rattle.cabinet_text_grammar.specs.Answering.{head_of}
use Rattle.cabinet_text_grammar.specs.EditLine.{EditLine, about, put_line, insert_line, remove_line, edit_spelling}
use Rattle.cabinet_text_grammar.specs.Line.{Line, get, keys, range, set, spelled_path, spelling}
use Rattle.cabinet_text_grammar.specs.Path.{key}
use Rattle.cabinet_text_grammar.specs.Spelling.{spelled, spelled_leaf}
use Rattle.cabinet_text_nodes.specs.declared.line.LineRefusal.TheVariants.{OutOfMemory}
use Rattle.cabinet_text_reading.specs.Reading.{RefusesLine}

front_some : (front rest : List ℕ) → 0 < length front → front ++ rest ≢ []
front_some [] rest some = absurd (omega arith)
front_some (b ∷ bs) rest some = λ none. absurd (cc)

line_some : (line : Line) → spelling line ≢ []
line_some (get path) = front_some (codes "get") (spelled_path path) (lit< tt)
line_some (keys path) = front_some (codes "keys") (spelled_path path) (lit< tt)
line_some (range low high path) = front_some (codes "range") (spelled_path (key low ∷ key high ∷ path)) (lit< tt)
line_some (set path l) = front_some (codes "set ") (spelled_leaf l ++ spelled_path path) (lit< tt)

pub edit_line_some : (line : EditLine) → edit_spelling line ≢ []
edit_line_some (about line) = line_some line
edit_line_some (put_line path new) = front_some (codes "put ") (spelled (head_of new) ++ spelled_path path) (lit< tt)
edit_line_some (insert_line path new) = front_some (codes "insert ") (spelled (head_of new) ++ spelled_path path) (lit< tt)
edit_line_some (remove_line path) = front_some (codes "remove") (spelled_path path) (lit< tt)

-- memory is refused for a line, which has bytes
pub refused_some : (bytes : List ℕ) → RefusesLine bytes OutOfMemory → bytes ≢ []
refused_some bytes refused = λ none. absurd (line_some refused.0 (sym refused.1.1 ∙ none))
