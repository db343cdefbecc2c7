use Rattle.std.proofs.Common.{rules, ◌<◌, ◌^◌, to_z, of_z, arith}
use Rattle.std.specs.Int.{w64}
use Rattle.archive_bench.proofs.Steps.{next_number, with_i64s_more}
use Rattle.archive_bench.proofs.scans.archive_bench_fill_i64.Goals as goal

pub loop-i-preserved : goal.loop-i-preserved
loop-i-preserved c =
    let small : of_z w64 c.args.first < 2 ^ 64 = search rules in
    let below : c.loop-i.i < 2 ^ 63 = omega arith in
    with_i64s_more
    c.args.bytes.now
    c.loop-i.bytes
    c.write_i64.new.bytes
    (to_z w64 (of_z w64 c.args.first))
    _
    c.loop-i.i
    c.loop-i.invariant
    (next_number (of_z w64 c.args.first) c.loop-i.i small below)
    c.write_i64.ensures
