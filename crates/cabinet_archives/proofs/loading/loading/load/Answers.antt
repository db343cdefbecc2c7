use Rattle.std.proofs.Common.{◌≡◌, ◌∙◌, ap, arith}
use Rattle.cabinet_text_grammar.specs.Memory.{TextTakesMemory}
use Rattle.cabinet_text_grammar.specs.Wholes.{with_wholes, wholes_of}
use Rattle.cabinet_text_nodes.specs.View.{node_tree}
use Rattle.cabinet_archives.specs.Found.{OfDocument}
use Rattle.cabinet_archives.specs.Loading.{IsLoaded, loaded_table}
use Rattle.cabinet_archives.proofs.LoadedMemory.{on_err}
use Rattle.cabinet_archives.proofs.LoadedRoot.{root_tree, tree_as, loaded_document, loaded_accepted}
use Rattle.cabinet_archives.proofs.Put.{of_same}
use Rattle.cabinet_archives.proofs.Reached.{root_of, root_there}
use Rattle.cabinet_archives.proofs.loading.loading.load.Goals as goal

pub load_node-requires-clause-there : goal.load_node-requires-clause-there
load_node-requires-clause-there c =
    tree_as c.new-root.ensures.bytes (c.new-root.ensures.pos ∙ c.root_position.ensures) (root_tree c.args.bytes.now (λ i. omega (arith, c.type_inv.bytes i)) (omega (arith, c.well_formed)) c.requires)

pub load_node-requires-clause-known : goal.load_node-requires-clause-known
load_node-requires-clause-known c = c.new-wholes.ensures.knows c.new-root.result.bytes.now

pub of_parts-requires : goal.of_parts-requires
of_parts-requires c =
    let bytes = c.args.bytes.now in
    let root = c.in_ok-root.root in
    let table = loaded_table c.load_node.new.wholes in
    let loaded = of_same (IsLoaded c.new-wholes.result c.load_node.new.wholes root) c.new-root.ensures.bytes (c.new-root.ensures.pos ∙ c.root_position.ensures) c.in_ok-root.ensures.tree in
    let is : OfDocument bytes (root_of bytes) (λ t. (node_tree table root ≡ t) × (table ≡ wholes_of t)) = λ v t h d. let one = loaded v t h d in (one.0, one.1 ∙ ap (λ w. with_wholes w t) c.new-wholes.ensures.empty) in
    let document = loaded_document bytes table root is (λ i. omega (arith, c.type_inv.bytes i)) (omega (arith, c.well_formed)) c.requires in
    rw c.into_nodes.ensures (record { document = document.0; wholes = document.1 })

pub returns-clause-document : goal.returns-clause-document
returns-clause-document c = λ t a.
    let bytes = c.args.bytes.now in
    let root = c.in_ok-root.root in
    let table = loaded_table c.load_node.new.wholes in
    let loaded = of_same (IsLoaded c.new-wholes.result c.load_node.new.wholes root) c.new-root.ensures.bytes (c.new-root.ensures.pos ∙ c.root_position.ensures) c.in_ok-root.ensures.tree in
    let is : OfDocument bytes (root_of bytes) (λ t. (node_tree table root ≡ t) × (table ≡ wholes_of t)) = λ v t h d. let one = loaded v t h d in (one.0, one.1 ∙ ap (λ w. with_wholes w t) c.new-wholes.ensures.empty) in
    c.of_parts.ensures ∙ ap (λ w. node_tree w root) c.into_nodes.ensures ∙ loaded_accepted bytes table root is t a

pub returns-in_err-root-clause-memory : goal.returns-in_err-root-clause-memory
returns-in_err-root-clause-memory c = on_err c.from_residual.result (λ t a.
    of_same TextTakesMemory c.new-root.ensures.bytes (c.new-root.ensures.pos ∙ c.root_position.ensures) c.in_err-root.ensures.memory a.value t (root_there c.args.bytes.now a) a.denotes)
