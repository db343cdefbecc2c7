use Rattle.std.proofs.Common.{refl}
use Rattle.archive_core_validation.specs.Depth.{most_of}
use Rattle.cabinet_documents.specs.Node.{node_names}
use Rattle.cabinet_archives.proofs.Audited.{root_decides}
use Rattle.cabinet_archives.proofs.opening.opening.access_root.Goals as goal

pub returns-clause-exact : goal.returns-clause-exact
returns-clause-exact c =
    root_decides c.args.bytes.now (most_of 2200) _ _ _ _ c.new-context.ensures.archive c.new-context.ensures.shared c.with_max_depth.ensures c.new.ensures
    _ c.access_with_context.result (c.access_with_context.ensures.exact node_names refl)
