use Rattle.std.proofs.Common.{◌≡◌, ap, sym, subst, ◌∙◌, Some, Bor, List, ℕ}
use Rattle.std.specs.Option.{option_map}
use Rattle.cabinet_text_nodes.specs.Kinds.{kind_of}
use Rattle.cabinet_text_grammar.specs.Path.{enters}
use Rattle.cabinet_text_nodes.specs.View.{path_of}
use Rattle.cabinet_archives.specs.Found.{OfDocument, Reaches}
use Rattle.cabinet_archives.proofs.Ways.{of_none, of_some}
use Rattle.cabinet_archives.proofs.asking.location.kind_at.Goals as goal

pub returns-in-Some-clause-kind : goal.returns-in-Some-clause-kind
returns-in-Some-clause-kind g c =
    let root = c.args.root in
    let some = of_some _ (λ found. (found.node.bytes ≡ root.bytes) × Reaches root.bytes.now root.pos (path_of c.args.path.now) found.node.pos × OfDocument root.bytes.now root.pos (λ t. found.in_whole ≡ enters t (path_of c.args.path.now))) c.find_counted.result.0 c.in-Some.found c.in-Some.is c.find_counted.ensures.node in
    let kind_is = subst (λ (b : Bor (List ℕ)). OfDocument b.now c.in-Some.found.node.pos (λ t. c.kind.result ≡ kind_of t)) some.0 c.kind.ensures in
    λ v t h d.
    let s = some.1.stands v t h d in
    ap Some (kind_is s.node.value s.tree s.node.held s.node.denotes) ∙ sym (ap (option_map kind_of) s.there)

pub returns-in-None-clause-kind : goal.returns-in-None-clause-kind
returns-in-None-clause-kind g c =
    let root = c.args.root in
    let none = of_none (λ found. (found.node.bytes ≡ root.bytes) × Reaches root.bytes.now root.pos (path_of c.args.path.now) found.node.pos × OfDocument root.bytes.now root.pos (λ t. found.in_whole ≡ enters t (path_of c.args.path.now))) c.find_counted.result.0 c.in-None.is c.find_counted.ensures.node in
    λ v t h d. sym (ap (option_map kind_of) (none v t h d))
