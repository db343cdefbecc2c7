use Rattle.std.proofs.Common.{[], sym, subst, ◌≡◌}
use Rattle.cabinet_text_grammar.specs.Wholes.{wholes_of}
use Rattle.cabinet_text_nodes.specs.Restructures.{IsRootAlone}
use Rattle.cabinet_text_nodes.specs.View.{entries_of}
use Rattle.cabinet_text_nodes.proofs.RestructuresDocuments.{root_alone}
use Rattle.cabinet_text_nodes.proofs.document.Document.into_root.Goals as goal

pub returns : goal.returns
returns c =
    subst (λ t. IsRootAlone t c.self.inside.root) c.self.view_is
    (root_alone (entries_of c.self.inside.wholes) c.self.inside.root c.self.invariant.0 c.self.invariant.1
    (subst (λ t. wholes_of t ≡ []) (sym c.self.view_is) c.requires))
