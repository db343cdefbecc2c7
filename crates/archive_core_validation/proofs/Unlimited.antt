-- A buffer that has a value at a position is accepted without a limit of depth.
use Rattle.std.proofs.Common.{arith, ◌+◌, ◌-◌, length}
use Rattle.archive_core_validation.proofs.Bounded.{nesting_law, nests_below_more}
use Rattle.archive_core_validation.specs.Depth.{unlimited}
use Rattle.archive_core_validation.specs.AccessLaws.{UnlimitedIsNoLimit}

pub unlimited_law : UnlimitedIsNoLimit
unlimited_law names bytes s pos v regions visits short root =
    let nests = nesting_law names bytes 0 _ _ v regions _ visits 0 (length bytes) root.holds (omega arith) root.ascends in
    record {
      value = v;
      regions = regions;
      after = visits;
      accepts = record { holds = root.holds; ascends = root.ascends; nests = nests_below_more (0 + (length bytes - 0) + 1) unlimited regions (omega (arith, short)) nests };
    }
