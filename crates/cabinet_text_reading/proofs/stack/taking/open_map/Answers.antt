use Rattle.std.proofs.Common.{rules}
use Rattle.cabinet_text_reading.specs.View.{kind_of, entries_of, stack_of}
use Rattle.cabinet_text_reading.proofs.Taken.{pushed_pairs}
use Rattle.cabinet_text_reading.proofs.stack.taking.open_map.Goals as goal

pub returns-else-count-eq0-clause-next : goal.returns-else-count-eq0-clause-next
returns-else-count-eq0-clause-next c table around are = pushed_pairs table (kind_of c.args.pairs) c.args.count (entries_of c.args.pairs) (stack_of table c.args.stack.now.items) c.requires c.if-count-eq0.false

pub returns-in_ok-into_node-clause-next : goal.returns-in_ok-into_node-clause-next
returns-in_ok-into_node-clause-next c table around are =
    let next = c.put_in.ensures.next table around are in
    let node = c.in_ok-into_node.ensures.node table in
    search rules
