use Rattle.std.proofs.Common.{◌≡◌, []}
use Rattle.std.specs.Prelude.{slice_get}
use Rattle.cabinet_text_grammar.specs.Due.{nothing_more}
use Rattle.cabinet_text_grammar.specs.Fault.{pieces_of, HasDueCause}
use Rattle.cabinet_text_reading.specs.Causes.{IsFirstOf}
use Rattle.cabinet_text_reading.proofs.LineLemmas.{at_due}
use Rattle.cabinet_text_reading.proofs.line.Lines.fault_after.Goals as goal

pub returns-in-Err : goal.returns-in-Err
returns-in-Err c = at_due nothing_more c.in-Err.fault (c.args.self ≡ []) (λ due cause. IsFirstOf (HasDueCause due (slice_get (pieces_of c.args.self) 0)) cause) c.in-Err.ensures.end
