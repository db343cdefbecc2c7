use Rattle.std.proofs.Common.{ℕ, ◌+◌, ◌≤◌, List, length, subst, sym}
use Rattle.std.specs.List.{All}
use Rattle.std.proofs.lemmas.List.Elements.{All-head, All-tail}
use Rattle.archive_hash_probing.proofs.Findable.{strides_within}
use Rattle.archive_hash_probing.proofs.FirstFree.{Sought, sought_first, sought_missed, sought_found, none_empty}
use Rattle.archive_hash_probing.proofs.Wrapping.{count_of}
use Rattle.archive_hash_probing.proofs.places.fitting.first_empty.Goals as goal

pub loop-position-init : goal.loop-position-init
loop-position-init g c =
    let cs : List ℕ = c.args.controls.now in
    let cap : ℕ = c.args.capacity in
    let hash : ℕ = c.args.hash in
    let room = strides_within cs hash cap (count_of cs cap c.requires.controls) in
    subst (λ (ps : List ℕ). All (λ p. p + 16 ≤ length cs) ps × Sought cs hash cap ps) (sym c.new-strides.ensures) (room, sought_first cs hash cap)

pub empty_in_stride-place-requires-clause-within :
    goal.empty_in_stride-place-requires-clause-within
empty_in_stride-place-requires-clause-within g c =
    let P : ℕ → Type 0 = λ p. p + 16 ≤ length c.args.controls.now in
    All-head P c.in-Some.position _ (subst (λ (ps : List ℕ). All P ps) c.in-Some.ensures.steps c.loop-position.invariant.0)

pub returns-then-is_some-clause-first : goal.returns-then-is_some-clause-first
returns-then-is_some-clause-first g c =
    let cs : List ℕ = c.args.controls.now in
    let s = subst (λ (ps : List ℕ). Sought cs c.args.hash c.args.capacity ps) c.in-Some.ensures.steps c.loop-position.invariant.1 in
    sought_found cs c.args.hash c.args.capacity c.in-Some.position _ _ c.empty_in_stride-place.ensures c.if-is_some.ensures s

pub loop-position-preserved : goal.loop-position-preserved
loop-position-preserved g c =
    let cs : List ℕ = c.args.controls.now in
    let P : ℕ → Type 0 = λ p. p + 16 ≤ length cs in
    let s = subst (λ (ps : List ℕ). Sought cs c.args.hash c.args.capacity ps) c.in-Some.ensures.steps c.loop-position.invariant.1 in (
      All-tail P c.in-Some.position _ (subst (λ (ps : List ℕ). All P ps) c.in-Some.ensures.steps c.loop-position.invariant.0),
      sought_missed cs c.args.hash c.args.capacity c.in-Some.position _ _ c.empty_in_stride-place.ensures c.if-is_some.ensures s,
    )

pub returns-clause-full : goal.returns-clause-full
returns-clause-full g c =
    let cs : List ℕ = c.args.controls.now in
    let s = subst (λ (ps : List ℕ). Sought cs c.args.hash c.args.capacity ps) c.in_default.ensures.steps.0 c.loop-position.invariant.1 in
    λ place low. none_empty cs c.args.hash c.args.capacity place (sym s) low
