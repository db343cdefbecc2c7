use Rattle.std.proofs.Common.{refl}
use Rattle.cabinet_text_nodes.proofs.NodeTexts.{gained, head_added, shared_added}
use Rattle.cabinet_text_nodes.proofs.node_text.NodeText.add_head.Goals as goal

pub returns-in_default : goal.returns-in_default
returns-in_default c table =
    head_added table c.args.self.now c.write_head.new.writer c.args.node.now c.write_head.result c.in_default.not-Shared (c.head.ensures table) (gained _ _ _ _ c.write_head.result refl c.write_head.ensures)

pub returns : goal.returns
returns c table =
    shared_added table c.args.self.now c.write_head-2.new.writer c.push.new.self c.args.node.now c.in-Shared.text c.in_ok-clone.field-0 c.write_head-2.result c.in-Shared.is c.in_ok-clone.ensures.cases c.in_ok-push.ensures.items (gained _ _ _ _ c.write_head-2.result refl c.write_head-2.ensures)
