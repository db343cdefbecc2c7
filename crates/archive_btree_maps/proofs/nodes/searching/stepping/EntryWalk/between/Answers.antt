use Rattle.std.proofs.Common.{◌∙◌, [], ap, refl, sym, subst}
use Rattle.std.specs.Prelude.{not, slice_index_or}
use Rattle.archive_btree_layout.specs.Tree.{items}
use Rattle.archive_btree_maps.specs.Ranges.{before_key}
use Rattle.archive_btree_maps.specs.Walking.{stack_items}
use Rattle.archive_btree_maps.proofs.Ranged.{is_run, no_run, first_holds, empty_without, empty_reversed, range_is}
use Rattle.archive_btree_maps.proofs.Stepped.{left_is}
use Rattle.archive_btree_maps.proofs.Sublists.{not_swap, stays_twice}
use Rattle.archive_btree_maps.proofs.nodes.searching.stepping.EntryWalk.between.Goals as goal

pub returns-in_default-clause-within : goal.returns-in_default-clause-within
returns-in_default-clause-within g c t is = ([], c.empty.ensures c.args.bytes.now c.args.root, no_run [] (items t) refl)

pub returns-in_default-clause-between : goal.returns-in_default-clause-between
returns-in_default-clause-between g c t p q is precedes follows starts stays =
    let l = c.after_passing-stack.ensures.left t is in
    let begins = c.after_passing-stack.ensures.rest t p is precedes starts in
    left_is c.args.bytes.now c.args.layout c.args.root _ (c.empty.ensures c.args.bytes.now c.args.root)
    (empty_without (goal.G-post g) c.args.follows.now p q (items t) l.0 _ l.1 begins follows stays (sym c.next_key.ensures ∙ c.in_default.is))

pub follows-is_behind-requires : goal.follows-is_behind-requires
follows-is_behind-requires g c =
    let r = c.requires.tree in
    let l = c.after_passing-stack.ensures.left r.0 r.1 in
    first_holds (λ k. goal.G-pre g c.args.follows.now k) (items r.0) l.0 _ c.in-Some.first l.1 r.3 (sym c.in-Some.ensures)

pub returns-then-is_behind-clause-within : goal.returns-then-is_behind-clause-within
returns-then-is_behind-clause-within g c t is = ([], c.empty-then-is_behind.ensures c.args.bytes.now c.args.root, no_run [] (items t) refl)

pub returns-then-is_behind-clause-between : goal.returns-then-is_behind-clause-between
returns-then-is_behind-clause-between g c t p q is precedes follows starts stays =
    let l = c.after_passing-stack.ensures.left t is in
    let begins = c.after_passing-stack.ensures.rest t p is precedes starts in
    let called = subst (λ b. goal.G-post g c.args.follows.now c.in-Some.first b) c.if-is_behind.true c.follows-is_behind.ensures in
    left_is c.args.bytes.now c.args.layout c.args.root _ (c.empty-then-is_behind.ensures c.args.bytes.now c.args.root)
    (empty_reversed (goal.G-post g) c.args.follows.now p q (items t) l.0 _ l.1 begins follows stays c.in-Some.first (sym c.in-Some.ensures) called)

pub returns-clause-within : goal.returns-clause-within
returns-clause-within g c t is =
    let l = c.after_passing-stack.ensures.left t is in
    (_, record { layout = refl; stands = c.after_passing-stack.ensures.stands; reached = c.after_passing-stack.ensures.reached; left = refl }, is_run _ _ (items t) l.0 l.1)

pub returns-clause-between : goal.returns-clause-between
returns-clause-between g c t p q is precedes follows starts stays =
    let l = c.after_passing-stack.ensures.left t is in
    let begins = c.after_passing-stack.ensures.rest t p is precedes starts in
    let ends =
    c.after_passing.ensures.rest t (λ e. not (q e)) is (λ k d below r h. not_swap r (q (slice_index_or (items t) k d)) (follows k d below (not r) h)) (stays_twice q (items t) stays)
    in
    let called = subst (λ b. goal.G-post g c.args.follows.now c.in-Some.first b) c.if-is_behind.false c.follows-is_behind.ensures in
    record {
      layout = refl;
      stands = c.after_passing-stack.ensures.stands;
      reached = c.after_passing-stack.ensures.reached;
      left =
          ap (λ end. before_key end (stack_items c.args.bytes.now c.args.layout c.after_passing-stack.result.nodes c.after_passing-stack.result.nexts c.after_passing-stack.result.depth)) c.next_key-2.ensures
          ∙ range_is (goal.G-post g) c.args.follows.now p q (items t) l.0 _ l.1 begins follows stays c.in-Some.first (sym c.in-Some.ensures) called _ ends c.after_passing.ensures.first;
    }
