use Rattle.std.proofs.Common.{◌≡◌, rules, List, Err, sym, ap, subst, refl, inl, inr}
use Rattle.archive_forms_writing.specs.Steps.{StepTakes}
use Rattle.archive_shape_layout.specs.Writing.{WriterMembers}
use Rattle.archive_forms_writing.proofs.collections.elements.serialize_from_iter_each.Goals as goal

pub serialize_slice_each-requires-clause-takes : goal.serialize_slice_each-requires-clause-takes
serialize_slice_each-requires-clause-takes g c =
    let s : WriterMembers g.row.S.Denot = record { known = g.S.Registry.known; pos = g.S.Positional.pos; OBSERVABLE = g.S.Writer.OBSERVABLE; COUNTS = g.S.Writer.COUNTS; contents = g.S.Writer.contents; failures = g.S.Writer.failures; last_error = g.S.Writer.last_error } in
    let P : List g.row.T.Denot → Type 0 = λ xs. StepTakes g.F.Fn s c.args.step xs in
    subst P (sym c.as_slice.ensures.value) (c.requires.takes _ _ c.in_ok-items.ensures.1 c.in_ok-items.ensures.2)

pub returns-in_err-items : goal.returns-in_err-items
returns-in_err-items g c =
    let passed : c.from_residual.result ≡ Err c.in_err-items.field-0.0 = search rules in
    rw passed (inl (ap Err c.in_err-items.ensures, refl))

pub returns-then-actual-len : goal.returns-then-actual-len
returns-then-actual-len g c = inr (c.in_ok-items.ensures.0, c.in_ok-items.items.items, c.in_ok-items.ensures.1, c.in_ok-items.ensures.2, inr (search rules, search rules, refl))

pub returns-in_err-pos : goal.returns-in_err-pos
returns-in_err-pos g c =
    let passed : c.from_residual-in_err-pos.result ≡ Err c.in_err-pos.field-0.0 = search rules in
    rw passed (inr (c.in_ok-items.ensures.0, c.in_ok-items.items.items, c.in_ok-items.ensures.1, c.in_ok-items.ensures.2, inl (search rules, search rules)))

pub returns : goal.returns
returns g c = inr (c.in_ok-items.ensures.0, c.in_ok-items.items.items, c.in_ok-items.ensures.1, c.in_ok-items.ensures.2, inl (search rules, search rules))
