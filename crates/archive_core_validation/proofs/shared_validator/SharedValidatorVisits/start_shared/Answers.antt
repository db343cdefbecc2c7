use Rattle.std.proofs.Common.{rules, false, refl}
use Rattle.archive_core_validation.proofs.Changed.{starts, starts_again, stays}
use Rattle.archive_core_validation.proofs.shared_validator.SharedValidatorVisits.start_shared.Goals as goal

pub returns-in-Some : goal.returns-in-Some
returns-in-Some c = λ k. starts_again c.args.self.now.met _ k c.args.pos c.in-Some.entry.now _ c.args.len c.met_again.result (search rules) (search rules) c.met_again.ensures

pub returns-in-Ok : goal.returns-in-Ok
returns-in-Ok c = λ k. starts c.args.self.now.met _ k c.args.pos (record { pointee = c.args.pointee; len = c.args.len; done = false }) (search rules) (search rules)

pub returns : goal.returns
returns c = λ k. (λ apart. absurd (apart refl), stays c.args.self.now.met _ k (search rules))
