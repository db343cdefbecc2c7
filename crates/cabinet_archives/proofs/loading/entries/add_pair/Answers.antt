use Rattle.std.proofs.Common.{◌∙◌, ap}
use Rattle.cabinet_text_nodes.specs.View.{node_pairs}
use Rattle.cabinet_archives.proofs.Added.{entry_added}
use Rattle.cabinet_archives.proofs.loading.entries.add_pair.Goals as goal

pub returns : goal.returns
returns c = λ table. ap (node_pairs table) c.in_ok-insert.ensures.entries ∙ entry_added table c.args.map.now.entries c.args.key c.args.node
