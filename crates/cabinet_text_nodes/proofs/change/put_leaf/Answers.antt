use Rattle.std.proofs.Common.{◌≡◌, arith}
use Rattle.cabinet_text_nodes.proofs.change.put_leaf.Goals as goal

pub write_over-requires : goal.write_over-requires
unfolding Rattle.cabinet_text_nodes.specs.declared.node.Node.TheViews.out-Node denote.Hole.Carrier.out
write_over-requires c =
    let as_long : c.len.result ≡ c.in-Text-Text.there.bytes.len = rw c.in-Text-Text.is-0 at c.len.ensures in
    rw c.in-Text-Text.is-0 (omega (arith, c.in-Text-Text.there.bytes.ok, as_long, c.if-len-text.true))
