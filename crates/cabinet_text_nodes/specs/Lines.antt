-- Lines that change nothing.
use Rattle.cabinet_text_grammar.specs.Line.{Line, set}

abbrev pub IsQuestion : Line → Type 0
IsQuestion (set path l) = ⊥
IsQuestion _ = Unit {0}
