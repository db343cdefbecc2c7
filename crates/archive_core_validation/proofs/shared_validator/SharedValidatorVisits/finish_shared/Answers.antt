use Rattle.std.proofs.Common.{rules}
use Rattle.archive_core_validation.proofs.Changed.{finishes, finishes_again, finishes_none}
use Rattle.archive_core_validation.proofs.shared_validator.SharedValidatorVisits.finish_shared.Goals as goal

pub returns-in_default : goal.returns-in_default
returns-in_default c = λ k. finishes_none c.args.self.now.met _ k c.args.pos (search rules) (search rules)

pub returns-then-entry : goal.returns-then-entry
returns-then-entry c = λ k. finishes_again c.args.self.now.met _ k c.args.pos c.in-Some.entry.now (search rules) c.if-entry.true (search rules)

pub returns : goal.returns
returns c = λ k. finishes c.args.self.now.met _ k c.args.pos c.in-Some.entry.now (search rules) c.if-entry.false (search rules)
