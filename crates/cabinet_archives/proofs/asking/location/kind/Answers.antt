use Rattle.std.specs.Prelude.{true, false, ⊤}
use Rattle.std.specs.Int.{w64}
use Rattle.archive_shape_layout.specs.Shape.Shape.{number, truth, text, shared, option, vector}
use Rattle.archive_shape_layout.specs.Shape.Pointee.{str}
use Rattle.cabinet_documents.specs.Node.{node_shape, KnowsNode, whole_shape}
use Rattle.cabinet_archives.specs.Hashed.{table_shape}
use Rattle.cabinet_archives.specs.Kept.{index_shape}
use Rattle.cabinet_archives.specs.Keyed.{knows_pairs}
use Rattle.cabinet_archives.specs.Ordered.{map_shape}
use Rattle.cabinet_archives.proofs.NodeKinds.{kind_is}
use Rattle.cabinet_archives.proofs.Ways.{Boxed}
use Rattle.cabinet_archives.proofs.asking.location.kind.Goals as goal

pub returns-in-Bool : goal.returns-in-Bool
returns-in-Bool c = kind_is c.args.node.bytes.now c.args.node.pos 0 truth (λ _. ⊤) _ c.in-Bool.ensures.2

pub returns-in-Int : goal.returns-in-Int
returns-in-Int c = kind_is c.args.node.bytes.now c.args.node.pos 1 (number w64 true) (λ _. ⊤) _ c.in-Int.ensures.2

pub returns-in-Text : goal.returns-in-Text
returns-in-Text c = kind_is c.args.node.bytes.now c.args.node.pos 2 text (λ _. ⊤) _ c.in-Text.ensures.2

pub returns-in-Shared : goal.returns-in-Shared
returns-in-Shared c = kind_is c.args.node.bytes.now c.args.node.pos 3 (shared false str) (λ _. ⊤) _ c.in-Shared.ensures.2

pub returns-in-Maybe : goal.returns-in-Maybe
returns-in-Maybe c = kind_is c.args.node.bytes.now c.args.node.pos 4 (option Boxed) KnowsNode _ c.in-Maybe.ensures.2

pub returns-in-List : goal.returns-in-List
returns-in-List c = kind_is c.args.node.bytes.now c.args.node.pos 5 (vector node_shape) KnowsNode _ c.in-List.ensures.2

pub returns-in-Ordered : goal.returns-in-Ordered
returns-in-Ordered c = kind_is c.args.node.bytes.now c.args.node.pos 6 map_shape knows_pairs _ c.in-Ordered.ensures.2

pub returns-in-Hashed : goal.returns-in-Hashed
returns-in-Hashed c = kind_is c.args.node.bytes.now c.args.node.pos 7 table_shape knows_pairs _ c.in-Hashed.ensures.2

pub returns-in-Kept : goal.returns-in-Kept
returns-in-Kept c = kind_is c.args.node.bytes.now c.args.node.pos 8 index_shape knows_pairs _ c.in-Kept.ensures.2

pub returns-in-Whole : goal.returns-in-Whole
returns-in-Whole c = kind_is c.args.node.bytes.now c.args.node.pos 9 whole_shape KnowsNode _ c.in-Whole.ensures.2
