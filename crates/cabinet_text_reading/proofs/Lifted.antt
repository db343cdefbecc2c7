-- The first cause of those that apply at a stage, from those of what is due.
use Rattle.std.proofs.Common.{◌≢◌, ◌<◌, Option, Some, None, refl, ap, arith}
use Rattle.cabinet_text_grammar.specs.Due.{Due, the_start, a_head, a_key, nothing_more, Admits}
use Rattle.cabinet_text_grammar.specs.Fault.{Piece, HasDueCause, HasCause, RepeatsWhole, BreaksWholeOrder, rank, IsFirstCause}
use Rattle.cabinet_text_grammar.specs.Item.{Item}
use Rattle.cabinet_text_grammar.specs.Machine.{step}
use Rattle.cabinet_text_grammar.specs.Reading.{Reading, due_at, reading, Suits}
use Rattle.cabinet_text_grammar.specs.Spelling.{spelled}
use Rattle.cabinet_text_grammar.specs.declared.cause.Cause.{Cause}
use Rattle.cabinet_text_grammar.specs.declared.cause.Cause.TheVariants.{NotUtf8, NoNewline, EndTooEarly, KeyExpected, BadEscape, KeyOrder, KeyRepeated, UnknownHead, BadNumber, UnknownWhole, TooDeep, RepeatedWhole, WholeOrder, LineAfterEnd, OutOfMemory}
use Rattle.cabinet_text_grammar.proofs.Faults.{blameless}
use Rattle.cabinet_text_grammar.proofs.FirstCauses.{at_reading}
use Rattle.cabinet_text_grammar.proofs.Pieces.{ended_piece}
use Rattle.cabinet_text_reading.specs.Causes.{IsFirstOf}

repeated_due : (due : Due) (piece : Option Piece) → HasDueCause due piece RepeatedWhole → ⊥
repeated_due the_start None h = h
repeated_due the_start (Some p) h = h
repeated_due (a_head table d) None h = h
repeated_due (a_head table d) (Some p) h = h
repeated_due (a_key kind keys) None h = h
repeated_due (a_key kind keys) (Some p) h = h
repeated_due nothing_more None h = h
repeated_due nothing_more (Some p) h = h

order_due : (due : Due) (piece : Option Piece) → HasDueCause due piece WholeOrder → ⊥
order_due the_start None h = h
order_due the_start (Some p) h = h
order_due (a_head table d) None h = h
order_due (a_head table d) (Some p) h = h
order_due (a_key kind keys) None h = h
order_due (a_key kind keys) (Some p) h = h
order_due nothing_more None h = h
order_due nothing_more (Some p) h = h

after_due : (due : Due) (piece : Option Piece) → due ≢ nothing_more → HasDueCause due piece LineAfterEnd → ⊥
after_due the_start None some h = h
after_due the_start (Some p) some h = h
after_due (a_head table d) None some h = h
after_due (a_head table d) (Some p) some h = h
after_due (a_key kind keys) None some h = h
after_due (a_key kind keys) (Some p) some h = h
after_due nothing_more piece some h = absurd (some refl)

-- a cause that is not that of a complete tree
low_rank : (due : Due) (piece : Option Piece) (cause : Cause) → due ≢ nothing_more → cause ≢ OutOfMemory → HasDueCause due piece cause → rank cause < 11
low_rank due piece NotUtf8 some other h = omega arith
low_rank due piece NoNewline some other h = omega arith
low_rank due piece EndTooEarly some other h = omega arith
low_rank due piece KeyExpected some other h = omega arith
low_rank due piece BadEscape some other h = omega arith
low_rank due piece KeyOrder some other h = omega arith
low_rank due piece KeyRepeated some other h = omega arith
low_rank due piece UnknownHead some other h = omega arith
low_rank due piece BadNumber some other h = omega arith
low_rank due piece UnknownWhole some other h = omega arith
low_rank due piece TooDeep some other h = omega arith
low_rank due piece RepeatedWhole some other h = absurd (repeated_due due piece h)
low_rank due piece WholeOrder some other h = absurd (order_due due piece h)
low_rank due piece LineAfterEnd some other h = absurd (after_due due piece some h)
low_rank due piece OutOfMemory some other h = absurd (other refl)

-- what is due at a stage, apart from memory
pub lift_other : (r : Reading) (piece : Option Piece) (cause : Cause) → due_at r ≢ nothing_more → cause ≢ OutOfMemory → IsFirstOf (HasDueCause (due_at r) piece) cause → IsFirstCause (reading r) piece cause
lift_other r piece cause some other first =
    at_reading r piece cause (low_rank (due_at r) piece cause some other first.has_cause) (record { has_cause = first.has_cause; first = first.first })

-- where the line completes no tree
pub lift_open : (r : Reading) (p : Piece) (cause : Cause) → (RepeatsWhole r p.bytes → ⊥) → (BreaksWholeOrder r p.bytes → ⊥) → IsFirstOf (HasDueCause (due_at r) (Some p)) cause → IsFirstCause (reading r) (Some p) cause
lift_open r p cause no_repeat no_break h = record { has_cause = has cause h.has_cause; first = λ other below b. h.first other below (back other b) } where
  has : (c : Cause) → HasDueCause (due_at r) (Some p) c → HasCause (reading r) (Some p) c
  has NotUtf8 b = b
  has NoNewline b = b
  has EndTooEarly b = b
  has KeyExpected b = b
  has BadEscape b = b
  has KeyOrder b = b
  has KeyRepeated b = b
  has UnknownHead b = b
  has BadNumber b = b
  has UnknownWhole b = b
  has TooDeep b = b
  has RepeatedWhole b = absurd (repeated_due (due_at r) (Some p) b)
  has WholeOrder b = absurd (order_due (due_at r) (Some p) b)
  has LineAfterEnd b = b
  has OutOfMemory b = b

  back : (c : Cause) → HasCause (reading r) (Some p) c → HasDueCause (due_at r) (Some p) c
  back NotUtf8 b = b
  back NoNewline b = b
  back EndTooEarly b = b
  back KeyExpected b = b
  back BadEscape b = b
  back KeyOrder b = b
  back KeyRepeated b = b
  back UnknownHead b = b
  back BadNumber b = b
  back UnknownWhole b = b
  back TooDeep b = b
  back RepeatedWhole b = absurd (no_repeat b)
  back WholeOrder b = absurd (no_break b)
  back LineAfterEnd b = b
  back OutOfMemory b = b

-- memory that is refused for a line which is allowed
pub lift_memory : (r : Reading) (i : Item) → Admits (due_at r) i → Suits r (step r.table r.stack i) → HasDueCause (due_at r) (ended_piece (spelled i)) OutOfMemory → IsFirstCause (reading r) (ended_piece (spelled i)) OutOfMemory
lift_memory r i admitted suits memory = record {
  has_cause = memory;
  first = λ other below b. blameless r i admitted suits other (λ is. omega (arith, below, ap rank is)) b;
}
