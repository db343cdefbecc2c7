use Rattle.std.proofs.Common.{rules, arith}
use Rattle.archive_hash_maps.proofs.HeadChecks.{head_some, head_none}
use Rattle.archive_hash_maps.proofs.TableChecks.{table_empty, table_refused, table_checked}
use Rattle.archive_hash_maps.proofs.checking.table.check_table_each.Goals as goal

pub returns-in_err-head-clause-exact : goal.returns-in_err-head-clause-exact
returns-in_err-head-clause-exact g c names known =
    table_refused names c.args.bytes.now c.args.pos g.T.Portable.shape (g.C.ArchiveContext.kept c.args.context.now) (g.C.ArchiveContext.kept c.args.context.now) _ c.in_err-head.field-0.0 (search rules)
    (c.in_err-head.ensures _ 12 (omega arith))

pub returns-in_default-clause-exact : goal.returns-in_default-clause-exact
returns-in_default-clause-exact g c names known =
    table_empty names c.args.bytes.now c.args.pos g.T.Portable.shape (g.C.ArchiveContext.kept c.args.context.now)
    (head_none c.args.bytes.now c.args.pos _ c.in_default.is (c.in_ok-head.ensures))

pub returns-clause-exact : goal.returns-clause-exact
returns-clause-exact g c names known =
    table_checked names c.args.bytes.now c.args.pos g.T.Portable.shape c.in-Some.head (head_some c.args.bytes.now c.args.pos _ _ c.in-Some.is (c.in_ok-head.ensures))
    _ _ _ (c.check_buckets.ensures.exact names known)
