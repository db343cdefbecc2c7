-- The first cause that applies to a head, a key or the line after a document.
use Rattle.std.proofs.Common.{◌≢◌, ◌<◌, Option, Some, None, refl, ap, arith}
use Rattle.cabinet_text_grammar.specs.Due.{Due, the_start, a_head, a_key, nothing_more, Admits}
use Rattle.cabinet_text_grammar.specs.Fault.{Piece, HasDueCause, rank, IsFirstCause}
use Rattle.cabinet_text_grammar.specs.Item.{Item}
use Rattle.cabinet_text_grammar.specs.Reading.{Reading, due_at, reading}
use Rattle.cabinet_text_grammar.specs.Spelling.{spelled}
use Rattle.cabinet_text_grammar.specs.declared.cause.Cause.{Cause}
use Rattle.cabinet_text_grammar.specs.declared.cause.Cause.TheVariants.{NotUtf8, NoNewline, EndTooEarly, KeyExpected, BadEscape, KeyOrder, KeyRepeated, UnknownHead, BadNumber, UnknownWhole, TooDeep, RepeatedWhole, WholeOrder, LineAfterEnd, OutOfMemory}
use Rattle.cabinet_text_grammar.proofs.Completed.{something_due}
use Rattle.cabinet_text_grammar.proofs.Faults.{due_blameless}
use Rattle.cabinet_text_grammar.proofs.FirstCauses as grammar
use Rattle.cabinet_text_grammar.proofs.Pieces.{ended_piece}
use Rattle.cabinet_text_reading.specs.Causes.{IsFirstOf}

pub first_of : {due : Due} {piece : Option Piece} {cause : Cause} → grammar.IsFirstOf due piece cause → IsFirstOf (HasDueCause due piece) cause
first_of f = record { has_cause = f.has_cause; first = f.first }

pub due_first : {due : Due} {piece : Option Piece} {cause : Cause} → IsFirstOf (HasDueCause due piece) cause → grammar.IsFirstOf due piece cause
due_first f = record { has_cause = f.has_cause; first = f.first }

-- memory is refused where it is taken for the line of an item that is allowed there
pub memory_first : (due : Due) (i : Item) → Admits due i → HasDueCause due (ended_piece (spelled i)) OutOfMemory → IsFirstOf (HasDueCause due (ended_piece (spelled i))) OutOfMemory
memory_first due i p applies = record {
  has_cause = applies;
  first = λ other below b. due_blameless due i p other (λ same. omega (arith, below, ap rank same)) b;
}

-- a line that is refused where something is expected, but not for memory, is refused before what it completes is checked
low_rank : (due : Due) (piece : Option Piece) (cause : Cause) → due ≢ nothing_more → cause ≢ OutOfMemory → HasDueCause due piece cause → rank cause < 11
low_rank due piece NotUtf8 more other b = omega arith
low_rank due piece NoNewline more other b = omega arith
low_rank due piece EndTooEarly more other b = omega arith
low_rank due piece KeyExpected more other b = omega arith
low_rank due piece BadEscape more other b = omega arith
low_rank due piece KeyOrder more other b = omega arith
low_rank due piece KeyRepeated more other b = omega arith
low_rank due piece UnknownHead more other b = omega arith
low_rank due piece BadNumber more other b = omega arith
low_rank due piece UnknownWhole more other b = omega arith
low_rank due piece TooDeep more other b = omega arith
low_rank the_start None RepeatedWhole more other b = absurd b
low_rank the_start (Some p) RepeatedWhole more other b = absurd b
low_rank (a_head table around) None RepeatedWhole more other b = absurd b
low_rank (a_head table around) (Some p) RepeatedWhole more other b = absurd b
low_rank (a_key kind keys) None RepeatedWhole more other b = absurd b
low_rank (a_key kind keys) (Some p) RepeatedWhole more other b = absurd b
low_rank nothing_more piece RepeatedWhole more other b = absurd (more refl)
low_rank the_start None WholeOrder more other b = absurd b
low_rank the_start (Some p) WholeOrder more other b = absurd b
low_rank (a_head table around) None WholeOrder more other b = absurd b
low_rank (a_head table around) (Some p) WholeOrder more other b = absurd b
low_rank (a_key kind keys) None WholeOrder more other b = absurd b
low_rank (a_key kind keys) (Some p) WholeOrder more other b = absurd b
low_rank nothing_more piece WholeOrder more other b = absurd (more refl)
low_rank the_start None LineAfterEnd more other b = absurd b
low_rank the_start (Some p) LineAfterEnd more other b = absurd b
low_rank (a_head table around) None LineAfterEnd more other b = absurd b
low_rank (a_head table around) (Some p) LineAfterEnd more other b = absurd b
low_rank (a_key kind keys) None LineAfterEnd more other b = absurd b
low_rank (a_key kind keys) (Some p) LineAfterEnd more other b = absurd b
low_rank nothing_more piece LineAfterEnd more other b = absurd (more refl)
low_rank due piece OutOfMemory more other b = absurd (other refl)

pub at_reading : (r : Reading) (piece : Option Piece) (cause : Cause) → cause ≢ OutOfMemory → IsFirstOf (HasDueCause (due_at r) piece) cause → IsFirstCause (reading r) piece cause
at_reading r piece cause other first =
    grammar.at_reading r piece cause (low_rank (due_at r) piece cause (something_due r) other first.has_cause) (due_first first)
