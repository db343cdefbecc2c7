use Rattle.std.proofs.Common.{rules, arith, ◌≡◌, ◌+◌, ◌*◌, ap, ◌∙◌, get_or, None}
use Rattle.std.proofs.lemmas.List.{get_or_default}
use Rattle.archive_shape.specs.Bytes.{overwrite}
use Rattle.archive_forms_laws.specs.State.{initial}
use Rattle.archive_forms_laws.specs.Links.{LinkRefused}
use Rattle.archive_btree_writing.proofs.Slots.{laid_none, laid_length, laid_next, laid_refused, laid_all}
use Rattle.archive_btree_writing.proofs.Pointers.{links_are, links_fit, links_refused}
use Rattle.archive_btree_writing.proofs.Answered.{answers_error}
use Rattle.archive_btree_writing.proofs.words.store_links.Goals as goal

pub loop-i-init : goal.loop-i-init
loop-i-init c = record { counted = omega arith; within = omega arith; laid = laid_none _ _ _ _ _ _ _ _ _ _ }

pub overflow_add-start : goal.overflow_add-start
overflow_add-start c = omega (arith, c.loop-i.invariant.counted, c.loop-i-test.true, c.requires.room)

pub overflow_add-pos : goal.overflow_add-pos
overflow_add-pos c = omega (arith, c.loop-i.invariant.counted, c.loop-i-test.true, c.requires.stands)

pub store_link-requires : goal.store_link-requires
store_link-requires c =
    let long = laid_length _ _ _ _ _ _ _ _ _ (get_or c.args.children.now c.loop-i.i None) c.loop-i-test.true (get_or_default c.args.children.now c.loop-i.i None _ c.loop-i-test.true) c.requires.room c.loop-i.invariant.laid in
    omega (arith, long, c.loop-i.invariant.counted, c.loop-i-test.true, c.requires.room)

pub returns-in_err-store_link : goal.returns-in_err-store_link
returns-in_err-store_link c =
    let there : c.args.pos + c.loop-i.offset ≡ c.args.pos + c.loop-i.i * 4 = omega (arith, c.loop-i.invariant.counted) in
    let e = c.in_err-store_link.field-0.0 in
    answers_error c.from_residual.result e _ _ (search rules)
    (links_refused c.args.children.now initial c.args.pos e
    (laid_refused _ _ _ _ _ _ _ _ _ (get_or c.args.children.now c.loop-i.i None) c.loop-i-test.true (get_or_default c.args.children.now c.loop-i.i None _ c.loop-i-test.true) c.requires.room c.loop-i.invariant.laid (λ to st here. LinkRefused to here e) (c.args.pos + c.loop-i.offset) there c.in_err-store_link.ensures))

pub loop-i-preserved : goal.loop-i-preserved
loop-i-preserved c =
    let at : c.args.start + c.loop-i.offset ≡ c.args.start + c.loop-i.i * 4 = omega (arith, c.loop-i.invariant.counted) in
    let there : c.args.pos + c.loop-i.offset ≡ c.args.pos + c.loop-i.i * 4 = omega (arith, c.loop-i.invariant.counted) in
    record {
      counted = omega (arith, c.loop-i.invariant.counted);
      within = omega (arith, c.loop-i-test.true);
      laid = laid_next _ _ _ _ _ _ _ _ _ (get_or c.args.children.now c.loop-i.i None) c.loop-i-test.true (get_or_default c.args.children.now c.loop-i.i None _ c.loop-i-test.true) c.requires.room c.loop-i.invariant.laid c.store_link.new.buffer (c.args.start + c.loop-i.offset) (c.args.pos + c.loop-i.offset) at there c.in_ok-store_link.ensures.0 c.in_ok-store_link.ensures.1;
    }

pub returns : goal.returns
returns c =
    let all = laid_all _ _ _ _ _ _ _ _ _ c.loop-i-test.false c.loop-i.invariant.laid in
    (links_fit c.args.children.now initial c.args.pos all.0, all.1 ∙ ap (λ l. overwrite c.args.buffer.now c.args.start l) (links_are c.args.children.now initial c.args.pos))
