-- The causes that apply to the first line are those of a head where it is not the number of wholes.
use Rattle.std.proofs.Common.{◌≢◌, ℕ, List, [], ◌++◌, inl, inr, codes}
use Rattle.cabinet_text_grammar.specs.Due.{the_start}
use Rattle.cabinet_text_grammar.specs.Fault.{HasHeadCause, HasDueCause}
use Rattle.cabinet_text_grammar.specs.declared.cause.Cause.{Cause}
use Rattle.cabinet_text_grammar.specs.declared.cause.Cause.TheVariants.{NotUtf8, NoNewline, EndTooEarly, KeyExpected, BadEscape, KeyOrder, KeyRepeated, UnknownHead, BadNumber, UnknownWhole, TooDeep, RepeatedWhole, WholeOrder, LineAfterEnd, OutOfMemory}
use Rattle.cabinet_text_grammar.proofs.Pieces.{ended_piece}

-- the line does not begin with the word of the number of wholes
abbrev pub HasNoWholes : List ℕ → Type 0
HasNoWholes line = (rest : List ℕ) → line ≢ codes "wholes " ++ rest

pub from_start : (line : List ℕ) → HasNoWholes line → (other : Cause) → HasDueCause the_start (ended_piece line) other → HasHeadCause [] 0 (ended_piece line) other
from_start line none NotUtf8 b = b
from_start line none NoNewline b = b
from_start line none EndTooEarly b = b
from_start line none KeyExpected b = b
from_start line none BadEscape b = b
from_start line none KeyOrder b = b
from_start line none KeyRepeated b = b
from_start line none UnknownHead b = b.0
from_start line none BadNumber b = elim b [
  | inl bad ↦ bad
  | inr wholes ↦ absurd (none wholes.0 wholes.1)
]
from_start line none UnknownWhole b = b
from_start line none TooDeep b = b
from_start line none RepeatedWhole b = b
from_start line none WholeOrder b = b
from_start line none LineAfterEnd b = b
from_start line none OutOfMemory b = b

pub to_start : (line : List ℕ) → HasNoWholes line → (other : Cause) → HasHeadCause [] 0 (ended_piece line) other → HasDueCause the_start (ended_piece line) other
to_start line none NotUtf8 b = b
to_start line none NoNewline b = b
to_start line none EndTooEarly b = b
to_start line none KeyExpected b = b
to_start line none BadEscape b = b
to_start line none KeyOrder b = b
to_start line none KeyRepeated b = b
to_start line none UnknownHead b = (b, none)
to_start line none BadNumber b = inl b
to_start line none UnknownWhole b = b
to_start line none TooDeep b = b
to_start line none RepeatedWhole b = b
to_start line none WholeOrder b = b
to_start line none LineAfterEnd b = b
to_start line none OutOfMemory b = b
