use Rattle.std.specs.Ordering.{is_eq}
use Rattle.std.proofs.Common.{◌∙◌, sym, ap}
use Rattle.archive_forms_laws.specs.Orders.{Order, natural_equality, natural_order, text_equality, text_order, no_fields_equality, no_fields_order, more_fields_equality, more_fields_order, tuple_equality, tuple_order}
use Rattle.archive_forms_tests.proofs.comparing.by_parts.are_in_one_place.Goals as goal

pub returns : goal.returns
returns c =
    let laws = c.orders_agree.ensures in
    let texts = laws.more_fields text_equality no_fields_equality text_order no_fields_order laws.texts laws.no_fields in
    let texts_equality = more_fields_equality text_equality no_fields_equality in
    let texts_order = more_fields_order text_order no_fields_order in
    let fields = laws.more_fields natural_equality texts_equality natural_order texts_order laws.naturals texts in
    let fields_equality = more_fields_equality natural_equality texts_equality in
    let fields_order = more_fields_order natural_order texts_order in
    let agree = laws.options (tuple_equality fields_equality) (tuple_order fields_order) (laws.tuples fields_equality fields_order fields) in
    λ v w here there. c.is_eq.ensures ∙ ap is_eq (c.cmp.ensures v w here there ∙ ap (λ (R : Order). R v w) c.labelled_are_ordered_by_parts.ensures) ∙ sym (agree v w)
