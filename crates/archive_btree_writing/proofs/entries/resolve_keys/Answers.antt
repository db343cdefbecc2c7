use Rattle.std.proofs.Common.{rules, arith, ◌∙◌}
use Rattle.archive_btree_writing.proofs.Parts.{parts_none, next_ends, kept_there, parts_can, parts_refused, parts_next, parts_all}
use Rattle.archive_btree_writing.proofs.Answered.{answers_error}
use Rattle.archive_btree_writing.proofs.entries.resolve_keys.Goals as goal

pub loop-i-init : goal.loop-i-init
loop-i-init g c = λ with. parts_none _ _ _ _ _ _ _ _ c.args.entries.now c.args.kept.now c.args.buffer.now c.args.start c.args.pos

pub offset_bounds-kept-i : goal.offset_bounds-kept-i
offset_bounds-kept-i g c =
    let there = kept_there _ _ _ _ _ _ _ _ c.args.entries.now c.args.kept.now c.args.buffer.now c.args.start c.args.pos c.index-entries-i.result c.loop-i-test.true c.index-entries-i.is c.requires.room c.requires.stands (c.loop-i.invariant c.requires.made.0) c.requires.made.1 c.requires.made.2 in omega (arith, there)

pub bounds-kept-i : goal.bounds-kept-i
bounds-kept-i g c = kept_there _ _ _ _ _ _ _ _ c.args.entries.now c.args.kept.now c.args.buffer.now c.args.start c.args.pos c.index-entries-i.result c.loop-i-test.true c.index-entries-i.is c.requires.room c.requires.stands (c.loop-i.invariant c.requires.made.0) c.requires.made.1 c.requires.made.2

pub bounds-kept-i-in-loop-i : goal.bounds-kept-i-in-loop-i
bounds-kept-i-in-loop-i g c = kept_there _ _ _ _ _ _ _ _ c.args.entries.now c.args.kept.now c.args.buffer.now c.args.start c.args.pos c.index-entries-i.result c.loop-i-test.true c.index-entries-i.is c.requires.room c.requires.stands (c.loop-i.invariant c.requires.made.0) c.requires.made.1 c.requires.made.2

pub overflow_add-start : goal.overflow_add-start
overflow_add-start g c = omega (arith, next_ends _ _ _ _ _ _ _ _ c.args.entries.now c.args.kept.now c.args.buffer.now c.args.start c.args.pos c.index-entries-i.result c.loop-i-test.true c.index-entries-i.is c.requires.room c.requires.stands (c.loop-i.invariant c.requires.made.0), c.requires.room)

pub overflow_add-pos : goal.overflow_add-pos
overflow_add-pos g c = omega (arith, next_ends _ _ _ _ _ _ _ _ c.args.entries.now c.args.kept.now c.args.buffer.now c.args.start c.args.pos c.index-entries-i.result c.loop-i-test.true c.index-entries-i.is c.requires.room c.requires.stands (c.loop-i.invariant c.requires.made.0), c.requires.stands)

pub resolve_slot-requires : goal.resolve_slot-requires
resolve_slot-requires g c = parts_can _ _ _ _ _ _ _ _ c.args.entries.now c.args.kept.now c.args.buffer.now c.args.start c.args.pos c.index-entries-i.result c.loop-i-test.true c.index-entries-i.is c.requires.room c.requires.stands (c.loop-i.invariant c.requires.made.0) c.index-kept-i.result c.requires.made.1 c.requires.made.2 c.requires.blank

pub returns-in_err-resolve_slot : goal.returns-in_err-resolve_slot
returns-in_err-resolve_slot g c = λ with st made.
    let e = c.in_err-resolve_slot.field-0.0 in
    answers_error c.from_residual.result e _ _ (search rules)
    (parts_refused _ _ _ _ _ _ _ _ c.args.entries.now c.args.kept.now c.args.buffer.now c.args.start c.args.pos c.index-entries-i.result c.loop-i-test.true c.index-entries-i.is c.requires.room c.requires.stands (c.loop-i.invariant with) c.index-kept-i.result st made e c.in_err-resolve_slot.ensures.0)

pub overflow_add-offset : goal.overflow_add-offset
overflow_add-offset g c = omega (arith, next_ends _ _ _ _ _ _ _ _ c.args.entries.now c.args.kept.now c.args.buffer.now c.args.start c.args.pos c.index-entries-i.result c.loop-i-test.true c.index-entries-i.is c.requires.room c.requires.stands (c.loop-i.invariant c.requires.made.0), c.requires.stands, c.SIZE-size.ensures, g.met.K.Archived.Portable.sized)

pub loop-i-preserved : goal.loop-i-preserved
loop-i-preserved g c = λ with.
    parts_next _ _ _ _ _ _ _ _ c.args.entries.now c.args.kept.now c.args.buffer.now c.args.start c.args.pos c.index-entries-i.result c.loop-i-test.true c.index-entries-i.is c.requires.room c.requires.stands (c.loop-i.invariant with) c.index-kept-i.result c.SIZE-size.result c.resolve_slot.new.buffer
    (c.SIZE-size.ensures ∙ g.met.K.Archived.Portable.sized) c.in_ok-resolve_slot.ensures.0 c.in_ok-resolve_slot.ensures.1

pub returns : goal.returns
returns g c = λ with st made. parts_all _ _ _ _ _ _ _ _ c.args.entries.now c.args.kept.now c.args.buffer.now c.args.start c.args.pos st made c.loop-i-test.false (c.loop-i.invariant with)
