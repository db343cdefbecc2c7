use Rattle.std.proofs.Common.{sym, ap, subst, ◌∙◌}
use Rattle.std.proofs.IntoIterSteps.{All-taken}
use Rattle.std.proofs.lemmas.Result.{IfOk-weaker}
use Rattle.std.specs.BTreeSet.{IsFromIterResult}
use Rattle.cabinet_text_nodes.proofs.Seen.{slices_cmp}
use Rattle.cabinet_text_reading.specs.Seen.{KeysAscend, IsAbove, has_key}
use Rattle.cabinet_text_reading.proofs.Seen.{added_alike, ascend_more, lacks_above, pushed, set_of_list}
use Rattle.cabinet_text_reading.proofs.Taken.{on_err_given}
use Rattle.cabinet_text_reading.proofs.stack.seen.with_ascending.Goals as goal

pub returns-in_err-push-clause-memory : goal.returns-in_err-push-clause-memory
returns-in_err-push-clause-memory c =
    let key = c.args.key in
    let keys = c.args.keys.items in
    let more = ascend_more key keys c.requires (subst (λ ks. IsAbove ks key.now) c.deref.ensures.value c.if-is_above.ensures) in
    on_err_given c.from_residual.result (lacks_above key keys more.1)

pub returns-then-is_above-clause-seen : goal.returns-then-is_above-clause-seen
returns-then-is_above-clause-seen c =
    let key = c.args.key in
    let keys = c.args.keys.items in
    let more = ascend_more key keys c.requires (subst (λ ks. IsAbove ks key.now) c.deref.ensures.value c.if-is_above.ensures) in (
      lacks_above key keys more.1,
      subst KeysAscend (sym c.in_ok-push.ensures.items) more.0,
      λ bytes. ap (has_key bytes) c.in_ok-push.ensures.items ∙ pushed key bytes keys more.1,
    )

pub returns-clause-seen : goal.returns-clause-seen
returns-clause-seen c =
    let keys = c.args.keys.items in
    let made = c.in_ok-from_iter.field-0 in
    let h = c.in_ok-from_iter.ensures.ran in
    let of_all = subst (λ ks. IsFromIterResult slices_cmp ks made) (All-taken h.0 h.1 ((h.3.2 tt).0, (h.3.0, h.3.1, (h.3.2 tt).1)) ∙ h.2.0) h.4 in
    IfOk-weaker c.with_any.result _ _ (λ seen adds. added_alike made.keys keys c.args.key.now seen (λ bytes. set_of_list bytes keys made of_all) adds) c.with_any.ensures.seen
