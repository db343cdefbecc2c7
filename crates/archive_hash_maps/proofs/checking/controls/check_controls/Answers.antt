use Rattle.std.proofs.Common.{refl, sym, subst, ◌∙◌}
use Rattle.std.proofs.lemmas.Bool.{false≢true}
use Rattle.archive_shape.specs.Questions.{AreAnswered}
use Rattle.archive_hash_maps.proofs.Asked.{all_asked, one_answered, one_refused}
use Rattle.archive_hash_maps.proofs.ControlChecks.{first_asked, next_asked, none_asked}
use Rattle.archive_hash_maps.proofs.checking.controls.check_controls.Goals as goal

pub loop-index-init : goal.loop-index-init
loop-index-init c range = all_asked range _ _ (sym (first_asked c.args.capacity c.args.controls.now c.requires))

pub returns-then-not-is_wrapped : goal.returns-then-not-is_wrapped
returns-then-not-is_wrapped c range =
    let i = c.loop-index.index in
    let h = c.if-not-is_wrapped.true in
    one_refused (c.loop-index.invariant range) (next_asked c.args.capacity c.args.controls.now i c.loop-index.auto.index c.loop-index-test.true) _
    (λ e. false≢true (sym h ∙ c.is_wrapped.ensures ∙ e)) refl

pub loop-index-preserved : goal.loop-index-preserved
loop-index-preserved c range =
    let i = c.loop-index.index in
    let h = c.if-not-is_wrapped.false in
    one_answered (c.loop-index.invariant range) (next_asked c.args.capacity c.args.controls.now i c.loop-index.auto.index c.loop-index-test.true)
    (sym c.is_wrapped.ensures ∙ h)

pub returns : goal.returns
returns c range =
    let none = none_asked c.args.capacity c.args.controls.now c.loop-index.index c.loop-index-test.false in
    (c.loop-index.invariant range).answered (subst (AreAnswered range) (sym none) tt)
