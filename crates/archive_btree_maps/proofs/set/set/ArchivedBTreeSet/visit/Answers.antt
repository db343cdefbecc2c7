use Rattle.std.proofs.Common.{All, sym, subst}
use Rattle.std.proofs.lemmas.List.Elements.{All-head, All-tail, All-map}
use Rattle.archive_btree_layout.specs.Tree.{items}
use Rattle.archive_btree_maps.specs.Refs.{key_at}
use Rattle.archive_btree_maps.specs.SetVisits.{VisitsAll, BreaksWith}
use Rattle.archive_btree_maps.proofs.Visited.{visits_none, visits_first, breaks_later, breaks_first}
use Rattle.archive_btree_maps.proofs.Held.{tree_of_set}
use Rattle.archive_btree_maps.proofs.set.set.ArchivedBTreeSet.visit.Goals as goal

pub loop-key-init : goal.loop-key-init
loop-key-init g c =
    let m = tree_of_set c.requires.has in
    record {
      callable =
          subst (All (λ key. (f : _) → goal.F-pre g f key)) (sym (c.iter-keys.ensures m.search_tree m.map))
          (All-map (λ key. (f : _) → goal.F-pre g f key) (key_at c.args.this.bytes) (items m.search_tree) (c.requires.callable m.search_tree m.map));
      ends = λ after v. v;
      breaks = λ after value b. b;
    }

pub visit-requires : goal.visit-requires
visit-requires g c =
    All-head (λ key. (f : _) → goal.F-pre g f key) c.in-Some.key _ (subst (All (λ key. (f : _) → goal.F-pre g f key)) c.in-Some.ensures.steps c.loop-key.invariant.callable) c.loop-key.visit

pub loop-key-preserved : goal.loop-key-preserved
loop-key-preserved g c =
    let i = c.loop-key.invariant in
    record {
      callable = All-tail (λ key. (f : _) → goal.F-pre g f key) c.in-Some.key _ (subst (All (λ key. (f : _) → goal.F-pre g f key)) c.in-Some.ensures.steps i.callable);
      ends = λ after v.
          i.ends after
          (subst (VisitsAll (goal.F-step g) c.loop-key.visit after) (sym c.in-Some.ensures.steps)
          (visits_first (goal.F-step g) _ _ after c.in-Some.key _ c.in-Continue.ensures v));
      breaks = λ after value b.
          i.breaks after value
          (subst (λ s. BreaksWith (goal.F-step g) c.loop-key.visit after s value) (sym c.in-Some.ensures.steps)
          (breaks_later (goal.F-step g) _ _ after c.in-Some.key _ value c.in-Continue.ensures b));
    }

pub returns-in-Break : goal.returns-in-Break
returns-in-Break g c t h =
    subst (λ s. BreaksWith (goal.F-step g) c.args.visit.now c.visit.new.self s c.in-Break.answer) (c.iter-keys.ensures t h)
    (c.loop-key.invariant.breaks c.visit.new.self c.in-Break.answer
    (subst (λ s. BreaksWith (goal.F-step g) c.loop-key.visit c.visit.new.self s c.in-Break.answer) (sym c.in-Some.ensures.steps)
    (breaks_first (goal.F-step g) _ _ c.in-Some.key _ c.in-Break.answer c.in-Break.ensures)))

pub returns : goal.returns
returns g c t h =
    subst (VisitsAll (goal.F-step g) c.args.visit.now c.loop-key.visit) (c.iter-keys.ensures t h)
    (c.loop-key.invariant.ends c.loop-key.visit (visits_none (goal.F-step g) c.loop-key.visit c.loop-key.keys c.in_default.ensures.steps.0))
