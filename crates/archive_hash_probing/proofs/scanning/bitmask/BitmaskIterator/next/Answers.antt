use Rattle.std.proofs.Common.{ap, length, arith}
use Rattle.archive_hash_probing.proofs.LaneLemmas.{next_lane, last_lane}
use Rattle.archive_hash_probing.proofs.scanning.bitmask.BitmaskIterator.next.Goals as goal

pub returns-in_err-lane-clause-steps : goal.returns-in_err-lane-clause-steps
returns-in_err-lane-clause-steps c = let none = last_lane c.args.self.now.bits c.args.self.now.fits c.in_err-lane.ensures in rw c.from_residual.ensures (none, none)

pub returns-clause-steps : goal.returns-clause-steps
returns-clause-steps c = next_lane c.args.self.now.bits c.in_ok-lane.lane c.remove_lowest_bit.result.bits c.args.self.now.fits c.in_ok-lane.ensures c.remove_lowest_bit.ensures

pub returns-clause-goes : goal.returns-clause-goes
returns-clause-goes c =
    let steps = next_lane c.args.self.now.bits c.in_ok-lane.lane c.remove_lowest_bit.result.bits c.args.self.now.fits c.in_ok-lane.ensures c.remove_lowest_bit.ensures in
    record { on = λ _. (tt, tt, omega (arith, ap length steps)); keeps = tt; rests = λ _. tt }
