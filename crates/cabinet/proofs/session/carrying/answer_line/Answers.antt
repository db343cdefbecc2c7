use Rattle.std.specs.Prelude.{option_map}
use Rattle.cabinet_text_nodes.specs.View.{line_of}
use Rattle.cabinet.proofs.Sessions.{step, carried_cut, edited_by_one}
use Rattle.cabinet_text.proofs.EmptyLine.{refused_some}
use Rattle.cabinet.proofs.session.carrying.answer_line.Goals as goal

pub returns-in-Ok-carry_out-clause-edits : goal.returns-in-Ok-carry_out-clause-edits
returns-in-Ok-carry_out-clause-edits g c = λ x h.
    let e = c.in-Ok-carry_out.ensures in
    edited_by_one x _ _ _ _ _ c.args.line.now (option_map line_of c.in-Ok.said) c.in-Ok.ensures.said e.edited e.edits_counted h

pub returns-clause-edits : goal.returns-clause-edits
returns-clause-edits g c = λ x h.
    let e = c.in-Err.ensures in
    edited_by_one x _ _ _ _ _ c.args.line.now (option_map line_of c.in-Ok.said) c.in-Ok.ensures.said e.edited e.edits_counted h

pub returns-in_default-clause-carried : goal.returns-in_default-clause-carried
returns-in_default-clause-carried g c = λ w input x old left more p n s. (p, record { line = c.args.line.now; later = more; left = n; some = refused_some c.args.line.now c.in_default.ensures.memory })

pub returns-in-Ok-carry_out-clause-carried : goal.returns-in-Ok-carry_out-clause-carried
returns-in-Ok-carry_out-clause-carried g c = λ w input x old left more p n s.
    let e = c.in-Ok-carry_out.ensures in
    step input x _ _ old _ _ _ _ _ c.args.line.now more (option_map line_of c.in-Ok.said) p n s c.in-Ok.ensures.said e.edited e.edits_counted (λ t a. (e.written t a).gains w)

pub returns-clause-carried : goal.returns-clause-carried
returns-clause-carried g c = λ w input x old left more p n s.
    let e = c.in-Err.ensures in
    ((carried_cut input x _ _ old _ _ _ _ _ c.args.line.now more (option_map line_of c.in-Ok.said) p n s c.in-Ok.ensures.said e.edited e.edits_counted _ (λ t a. (e.written t a).is_cut w) (λ u t a. (e.written t a).is_short w u)), tt)
