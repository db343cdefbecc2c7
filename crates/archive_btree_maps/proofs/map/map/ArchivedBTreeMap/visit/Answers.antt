use Rattle.std.proofs.Common.{sym, subst}
use Rattle.std.specs.declared.ops.ControlFlow.TheVariants.{Continue, Break}
use Rattle.archive_btree_maps.specs.Visiting.{VisitsAll, BreaksWith, IsCallableAt}
use Rattle.archive_btree_maps.proofs.VisitedPlaces.{visits_none, visits_first, breaks_later, breaks_first, callable_first, callable_rest}
use Rattle.archive_btree_maps.specs.MapVisits.{MayCallAt, CallsAt}
use Rattle.archive_btree_maps.proofs.Roots.{tree_of_value}
use Rattle.archive_btree_maps.proofs.Refs.{at_values, at_places}
use Rattle.archive_btree_maps.proofs.map.map.ArchivedBTreeMap.visit.Goals as goal

pub loop-entry-init : goal.loop-entry-init
loop-entry-init g c =
    let m = tree_of_value c.requires.has in
    record {
      callable =
          subst (IsCallableAt (MayCallAt (goal.F-pre g) c.args.this.bytes)) (sym (c.walk_at-walk.ensures m.search_tree m.map))
          (c.requires.callable m.search_tree m.map);
      ends = λ after v. v;
      breaks = λ after value b. b;
    }

pub visit-requires : goal.visit-requires
visit-requires g c =
    at_values (goal.F-pre g c.loop-entry.visit) c.args.this.bytes c.in-Some.entry.key c.in-Some.entry.value c.new-key.result c.new-value.result c.new-key.ensures.bytes c.new-key.ensures.pos
    c.new-value.ensures.bytes c.new-value.ensures.pos
    (callable_first (MayCallAt (goal.F-pre g) c.args.this.bytes) _ _ c.in-Some.entry c.in-Some.ensures.steps c.loop-entry.invariant.callable c.loop-entry.visit)

pub loop-entry-preserved : goal.loop-entry-preserved
loop-entry-preserved g c =
    let i = c.loop-entry.invariant in
    let step =
    at_places (λ k v. goal.F-step g c.loop-entry.visit k v (Continue tt) c.visit.new.self) c.args.this.bytes c.in-Some.entry.key c.in-Some.entry.value c.new-key.result c.new-value.result
    c.new-key.ensures.bytes c.new-key.ensures.pos c.new-value.ensures.bytes c.new-value.ensures.pos c.in-Continue.ensures
    in
    record {
      callable = callable_rest (MayCallAt (goal.F-pre g) c.args.this.bytes) _ _ c.in-Some.entry c.in-Some.ensures.steps i.callable;
      ends = λ after v.
          i.ends after
          (subst (VisitsAll (CallsAt (goal.F-step g) c.args.this.bytes) c.loop-entry.visit after) (sym c.in-Some.ensures.steps)
          (visits_first (CallsAt (goal.F-step g) c.args.this.bytes) _ _ after c.in-Some.entry _ step v));
      breaks = λ after value b.
          i.breaks after value
          (subst (λ s. BreaksWith (CallsAt (goal.F-step g) c.args.this.bytes) c.loop-entry.visit after s value) (sym c.in-Some.ensures.steps)
          (breaks_later (CallsAt (goal.F-step g) c.args.this.bytes) _ _ after c.in-Some.entry _ value step b));
    }

pub returns-in-Break : goal.returns-in-Break
returns-in-Break g c t h =
    let step =
    at_places (λ k v. goal.F-step g c.loop-entry.visit k v (Break c.in-Break.answer) c.visit.new.self) c.args.this.bytes c.in-Some.entry.key c.in-Some.entry.value c.new-key.result
    c.new-value.result c.new-key.ensures.bytes c.new-key.ensures.pos c.new-value.ensures.bytes c.new-value.ensures.pos c.in-Break.ensures
    in
    subst (λ s. BreaksWith (CallsAt (goal.F-step g) c.args.this.bytes) c.args.visit.now c.visit.new.self s c.in-Break.answer) (c.walk_at-walk.ensures t h)
    (c.loop-entry.invariant.breaks c.visit.new.self c.in-Break.answer
    (subst (λ s. BreaksWith (CallsAt (goal.F-step g) c.args.this.bytes) c.loop-entry.visit c.visit.new.self s c.in-Break.answer) (sym c.in-Some.ensures.steps)
    (breaks_first (CallsAt (goal.F-step g) c.args.this.bytes) _ _ c.in-Some.entry _ c.in-Break.answer step)))

pub returns : goal.returns
returns g c t h =
    subst (VisitsAll (CallsAt (goal.F-step g) c.args.this.bytes) c.args.visit.now c.loop-entry.visit) (c.walk_at-walk.ensures t h)
    (c.loop-entry.invariant.ends c.loop-entry.visit
    (visits_none (CallsAt (goal.F-step g) c.args.this.bytes) c.loop-entry.visit c.loop-entry.walk c.in_default.ensures.steps.0))
