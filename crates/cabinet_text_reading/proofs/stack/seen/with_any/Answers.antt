use Rattle.std.proofs.Common.{sym, ap, ◌∙◌}
use Rattle.std.proofs.lemmas.Bool.{not-false, not-true}
use Rattle.cabinet_text_reading.specs.Seen.{has_key}
use Rattle.cabinet_text_reading.proofs.Seen.{told_by_set, inserted}
use Rattle.cabinet_text_reading.proofs.Taken.{on_err_given}
use Rattle.cabinet_text_reading.proofs.stack.seen.with_any.Goals as goal

pub returns-in_err-insert-clause-memory : goal.returns-in_err-insert-clause-memory
returns-in_err-insert-clause-memory c =
    on_err_given c.from_residual.result (sym (told_by_set c.args.key.now c.args.keys.keys) ∙ c.in_err-insert.ensures.absent)

pub returns-then-branch-clause-seen : goal.returns-then-branch-clause-seen
returns-then-branch-clause-seen c = (
  sym (told_by_set c.args.key.now c.args.keys.keys) ∙ not-true _ (sym c.in_ok-insert.ensures.added ∙ c.if-branch.true),
  tt,
  λ bytes. ap (has_key bytes) c.in_ok-insert.ensures.keys ∙ inserted bytes c.args.keys.keys c.args.key,
)

pub returns-clause-seen : goal.returns-clause-seen
returns-clause-seen c = sym (told_by_set c.args.key.now c.args.keys.keys) ∙ not-false _ (sym c.in_ok-insert.ensures.added ∙ c.if-branch.false)
