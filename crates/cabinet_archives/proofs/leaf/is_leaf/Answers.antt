use Rattle.std.proofs.Common.{⊎_elim, arith}
use Rattle.cabinet_archived.specs.declared.kind.ArchivedKind.TheVariants as kind
use Rattle.cabinet_archives.proofs.Tags.{kind_is, leaf_is, container_is}
use Rattle.cabinet_archives.proofs.leaf.is_leaf.Goals as goal

pub returns-in-Bool : goal.returns-in-Bool
returns-in-Bool c =
    let node = c.args.node in
    ⊎_elim
    (λ k. leaf_is node.bytes.now node.pos c.requires (omega arith) (kind_is {l = kind.Bool k.0} node.bytes node.pos k.1 c.kind.ensures).2)
    (⊎_elim
    (λ k. leaf_is node.bytes.now node.pos c.requires (omega arith) (kind_is {l = kind.Int k.0} node.bytes node.pos k.1 c.kind.ensures).2)
    (⊎_elim
    (λ k. leaf_is node.bytes.now node.pos c.requires (omega arith) (kind_is {l = kind.Text k.0} node.bytes node.pos k.1 c.kind.ensures).2)
    (λ k. leaf_is node.bytes.now node.pos c.requires (omega arith) (kind_is {l = kind.Shared k.0} node.bytes node.pos k.1 c.kind.ensures).2)))
    c.in-Bool.is

pub returns-in-Maybe : goal.returns-in-Maybe
returns-in-Maybe c =
    let node = c.args.node in
    ⊎_elim
    (λ k. container_is node.bytes.now node.pos c.requires (omega arith) (kind_is {l = kind.Maybe k.0} node.bytes node.pos k.1 c.kind.ensures).2)
    (⊎_elim
    (λ k. container_is node.bytes.now node.pos c.requires (omega arith) (kind_is {l = kind.List k.0} node.bytes node.pos k.1 c.kind.ensures).2)
    (⊎_elim
    (λ k. container_is node.bytes.now node.pos c.requires (omega arith) (kind_is {l = kind.Ordered k.0} node.bytes node.pos k.1 c.kind.ensures).2)
    (⊎_elim
    (λ k. container_is node.bytes.now node.pos c.requires (omega arith) (kind_is {l = kind.Hashed k.0} node.bytes node.pos k.1 c.kind.ensures).2)
    (⊎_elim
    (λ k. container_is node.bytes.now node.pos c.requires (omega arith) (kind_is {l = kind.Kept k.0} node.bytes node.pos k.1 c.kind.ensures).2)
    (λ k. container_is node.bytes.now node.pos c.requires (omega arith) (kind_is {l = kind.Whole k.0} node.bytes node.pos k.1 c.kind.ensures).2)))))
    c.in-Maybe.is
