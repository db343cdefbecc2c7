use Rattle.std.proofs.Common.{◌≡◌, ◌+◌, Some, ap, ◌∙◌, rules}
use Rattle.std.specs.Prelude.{option_map}
use Rattle.cabinet_text_grammar.specs.Line.{set}
use Rattle.cabinet_text_nodes.specs.Outcomes.{outcome_of}
use Rattle.cabinet_text_nodes.specs.View.{line_of, leaf_of, path_of}
use Rattle.cabinet.proofs.Sessions.{edited_by_set, edited_by_none, answer_by_set, counted_by_set}
use Rattle.cabinet.proofs.session.carrying.carry_out.Goals as goal

pub returns-in-None-clause-edited : goal.returns-in-None-clause-edited
returns-in-None-clause-edited g c = rw c.in-None.is (edited_by_none _)

pub returns-in-Some-Set-clause-edited : goal.returns-in-Some-Set-clause-edited
returns-in-Some-Set-clause-edited g c =
    let e = c.set-outcome.ensures in
    let s : option_map line_of c.args.said.now ≡ Some (set (path_of c.deref.result.now) (leaf_of c.in-Some-Set.leaf)) = search rules in
    edited_by_set _ _ (path_of c.deref.result.now) (leaf_of c.in-Some-Set.leaf) _ (outcome_of c.set-outcome.result) s e.answer e.bytes e.document e.image

pub returns-in-Some-Set-clause-written : goal.returns-in-Some-Set-clause-written
returns-in-Some-Set-clause-written g c = λ t a.
    let e = c.set-outcome.ensures in
    let s : option_map line_of c.args.said.now ≡ Some (set (path_of c.deref.result.now) (leaf_of c.in-Some-Set.leaf)) = search rules in
    rw (answer_by_set t _ _ _ (outcome_of c.set-outcome.result) s (e.answer t a)) c.write_outcome.ensures

pub returns-in-Some-Set-clause-edits_counted : goal.returns-in-Some-Set-clause-edits_counted
returns-in-Some-Set-clause-edits_counted g c = λ t a.
    let e = c.set-outcome.ensures in
    let s : option_map line_of c.args.said.now ≡ Some (set (path_of c.deref.result.now) (leaf_of c.in-Some-Set.leaf)) = search rules in
    ap (λ n. c.args.edits.now + n) (c.edits_in.ensures.counted ∙ counted_by_set t _ _ _ (outcome_of c.set-outcome.result) s (e.answer t a))
