use Rattle.std.proofs.Common.{◌≡◌, ◌∙◌, Bool, sym, ap}
use Rattle.archive_shape_layout.specs.Value.{Value}
use Rattle.archive_forms_laws.specs.Orders.{Equality}
use Rattle.archive_forms_tests.specs.Labelled.{labelled_equality}
use Rattle.archive_forms_tests.proofs.comparing.by_parts.equal_both_ways.Goals as goal

-- what one test returns, another does that is the same
told : (E F : Equality) → E ≡ F → (result : Bool) (v w : Value) → result ≡ E v w → result ≡ F v w
told E F same result v w is = is ∙ ap (λ G. G v w) same

pub returns-clause-equal : goal.returns-clause-equal
returns-clause-equal c = λ v w here there. told _ labelled_equality c.labelled_are_equal_by_parts.ensures _ v w (c.eq.ensures v w here there)

pub returns-clause-turned : goal.returns-clause-turned
returns-clause-turned c =
    let this = c.requires.this in
    let other = c.requires.other in
    let laws = c.equalities_are_equivalences.ensures in
    let equivalence = laws.options _ (laws.tuples _ (laws.more_fields _ _ laws.naturals (laws.more_fields _ _ laws.texts laws.no_fields))) in
    let one = told _ labelled_equality c.labelled_are_equal_by_parts.ensures _ this.value other.value (c.eq.ensures this.value other.value this.held other.held) in
    let turned = told _ labelled_equality c.labelled_are_equal_by_parts.ensures _ other.value this.value (c.eq-2.ensures other.value this.value other.held this.held) in
    turned ∙ equivalence.symm other.value this.value ∙ sym one
