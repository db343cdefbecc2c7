use Rattle.std.proofs.Common.{rules}
use Rattle.cabinet_text_reading.proofs.LineLemmas.{longest_whole, longest_valid}
use Rattle.cabinet_text_reading.proofs.line.Lines.new.Goals as goal

pub invariant_of-t-8 : goal.invariant_of-t-8
invariant_of-t-8 c = (search rules, longest_whole c.in-Ok.rest.now)

pub invariant_of-result : goal.invariant_of-result
invariant_of-result c =
    (search rules, rw (c.from_utf8_unchecked-rest.ensures, c.split_at.ensures.front, c.split_at.ensures.back, c.valid_up_to.ensures) (longest_valid c.args.text.now _ c.in-Err.ensures.cases.1))
