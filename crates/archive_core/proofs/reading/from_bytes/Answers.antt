use Rattle.std.proofs.Common.{rules, ◌≡◌, ◌<◌, ◌^◌, Err, length, arith}
use Rattle.archive_core.proofs.Unshared.{read_unshared, refused_unshared}
use Rattle.archive_core.proofs.reading.from_bytes.Goals as goal

pub returns-clause-written : goal.returns-clause-written
returns-clause-written g c =
    read_unshared g.T.Archived.Portable.shape g.T.Archived.Portable.knows g.T.Archive.spelling g.met.T.Archive.spells g.T.Archived.ReadBack.reads
    c.requires.named.0 c.requires.named.1 c.args.bytes.now c.in_ok-root.root.bytes.now c.in_ok-root.root.pos c.deserialize.result
    (search rules) c.in_ok-root.ensures.position c.deserialize.ensures

pub returns-in_err-root-clause-written : goal.returns-in_err-root-clause-written
returns-in_err-root-clause-written g c =
    let failed : c.from_residual.result ≡ Err c.in_err-root.field-0.0 = search rules in
    let short : length c.args.bytes.now < 2 ^ 64 = omega arith in
    rw failed
    (refused_unshared g.T.Archived.Portable.shape g.T.Archived.Portable.knows g.T.Archive.spelling g.met.T.Archive.spells g.T.Archived.ReadBack.reads
    c.requires.named.0 c.requires.named.1 c.args.bytes.now short c.in_err-root.field-0.0 (c.in_err-root.ensures.exact c.requires.named.0 c.requires.named.1))
