use Rattle.std.proofs.Math.Logic.{∥∥₁_map}
use Rattle.cabinet_text_grammar.specs.Answering.{change}
use Rattle.cabinet_text_nodes.specs.View.{leaf_of, path_of}
use Rattle.cabinet.proofs.opened.Opened.set.Goals as goal

pub invariant_of-self : goal.invariant_of-self
invariant_of-self g c = record {
  accepted = ∥∥₁_map c.args.self.now.accepted (λ p. (change p.0 (path_of c.args.path.now) (leaf_of c.args.leaf.now), c.set.ensures.document p.0 p.1));
}
