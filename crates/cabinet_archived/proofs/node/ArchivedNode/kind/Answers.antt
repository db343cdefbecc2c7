use Rattle.std.proofs.Common.{arith, refl}
use Rattle.std.specs.Prelude.{true, false, ⊤}
use Rattle.std.specs.Int.{w64}
use Rattle.archive_shape_layout.specs.Shape.Shape.{number, truth, text, shared, option, box, vector, tree, table, index_map}
use Rattle.archive_shape_layout.specs.Shape.Pointee.{sized, str}
use Rattle.archive_forms_values.specs.Parts.{both}
use Rattle.archive_forms_laws.proofs.Levels.{option_box_sized}
use Rattle.cabinet_documents.specs.Node.{node_shape, pair_shape, whole_shape, KnowsNode}
use Rattle.cabinet_archived.proofs.Nodes.{tagged_at, is_whole}
use Rattle.cabinet_archived.proofs.node.ArchivedNode.kind.Goals as goal

pub returns-in-0 : goal.returns-in-0
returns-in-0 c = (
  c.new.ensures.bytes,
  c.new.ensures.pos,
  tagged_at c.args.this.bytes.now c.args.this.pos c.requires 0 truth (λ _. ⊤) _ c.new.ensures.pos c.in-0.is refl (omega arith) (omega arith) (λ names known. tt),
)

pub returns-in-1 : goal.returns-in-1
returns-in-1 c = (
  c.new-in-1.ensures.bytes,
  c.new-in-1.ensures.pos,
  tagged_at c.args.this.bytes.now c.args.this.pos c.requires 1 (number w64 true) (λ _. ⊤) _ c.new-in-1.ensures.pos c.in-1.is refl (omega arith) (omega arith) (λ names known. tt),
)

pub returns-in-2 : goal.returns-in-2
returns-in-2 c = (
  c.new-in-2.ensures.bytes,
  c.new-in-2.ensures.pos,
  tagged_at c.args.this.bytes.now c.args.this.pos c.requires 2 text (λ _. ⊤) _ c.new-in-2.ensures.pos c.in-2.is refl (omega arith) (omega arith) (λ names known. tt),
)

pub returns-in-3 : goal.returns-in-3
returns-in-3 c = (
  c.new-in-3.ensures.bytes,
  c.new-in-3.ensures.pos,
  tagged_at c.args.this.bytes.now c.args.this.pos c.requires 3 (shared false str) (λ _. ⊤) _ c.new-in-3.ensures.pos c.in-3.is refl (omega arith) (omega arith) (λ names known. tt),
)

pub returns-in-4 : goal.returns-in-4
returns-in-4 c = (
  c.new-in-4.ensures.bytes,
  c.new-in-4.ensures.pos,
  tagged_at c.args.this.bytes.now c.args.this.pos c.requires 4 (option (box (sized node_shape))) KnowsNode _ c.new-in-4.ensures.pos c.in-4.is refl (omega arith) (omega (arith, option_box_sized node_shape)) (λ names known. known),
)

pub returns-in-5 : goal.returns-in-5
returns-in-5 c = (
  c.new-in-5.ensures.bytes,
  c.new-in-5.ensures.pos,
  tagged_at c.args.this.bytes.now c.args.this.pos c.requires 5 (vector node_shape) KnowsNode _ c.new-in-5.ensures.pos c.in-5.is refl (omega arith) (omega arith) (λ names known. known),
)

pub returns-in-6 : goal.returns-in-6
returns-in-6 c = (
  c.new-in-6.ensures.bytes,
  c.new-in-6.ensures.pos,
  tagged_at c.args.this.bytes.now c.args.this.pos c.requires 6 (tree 5 text node_shape) (both (λ _. ⊤) KnowsNode) _ c.new-in-6.ensures.pos c.in-6.is refl (omega arith) (omega arith) (λ names known. (tt, known)),
)

pub returns-in-7 : goal.returns-in-7
returns-in-7 c = (
  c.new-in-7.ensures.bytes,
  c.new-in-7.ensures.pos,
  tagged_at c.args.this.bytes.now c.args.this.pos c.requires 7 (table pair_shape) (both (λ _. ⊤) KnowsNode) _ c.new-in-7.ensures.pos c.in-7.is refl (omega arith) (omega arith) (λ names known. (tt, known)),
)

pub returns-in-8 : goal.returns-in-8
returns-in-8 c = (
  c.new-in-8.ensures.bytes,
  c.new-in-8.ensures.pos,
  tagged_at c.args.this.bytes.now c.args.this.pos c.requires 8 (index_map text node_shape) (both (λ _. ⊤) KnowsNode) _ c.new-in-8.ensures.pos c.in-8.is refl (omega arith) (omega arith) (λ names known. (tt, known)),
)

pub returns-in_default : goal.returns-in_default
returns-in_default c =
    let other = c.in_default in
    let tag = is_whole c.args.this.bytes.now c.args.this.pos c.requires (λ e. omega arith, λ e. omega arith, λ e. omega arith, λ e. omega arith, λ e. omega arith, λ e. omega arith, λ e. omega arith, λ e. omega arith, λ e. omega arith) in (
      c.new-in_default.ensures.bytes,
      c.new-in_default.ensures.pos,
      tagged_at c.args.this.bytes.now c.args.this.pos c.requires 9 whole_shape KnowsNode _ c.new-in_default.ensures.pos tag refl (omega arith) (omega arith) (λ names known. known),
    )
