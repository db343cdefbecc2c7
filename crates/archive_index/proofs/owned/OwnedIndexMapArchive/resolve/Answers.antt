use Rattle.std.proofs.Common.{rules, ◌≡◌, length, arith}
use Rattle.archive_hash_probing.specs.Inputs.{input_hash}
use Rattle.archive_index.proofs.Resolved.{pairs_resolve}
use Rattle.archive_index.proofs.owned.OwnedIndexMapArchive.resolve.Goals as goal

pub returns : goal.returns
returns g c =
    let len : c.len.result ≡ length c.args.self.now.pairs.items = omega (arith, c.len.ensures, c.args.self.now.pairs.ok) in
    pairs_resolve (λ k. input_hash (g.K.Hash.hash_input k)) g.K.Archived.Portable.shape g.V.Archived.Portable.shape g.K.Archive.spelling g.V.Archive.spelling c.args.self.now.pairs.items c.args.resolver c.len.result c.args.out.pos c.args.out.start c.args.out.out.now _ c.requires.room c.resolve_from_len.result
    len (search rules)
