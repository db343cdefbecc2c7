use Rattle.std.proofs.Common.{ℕ, ◌+◌, ◌≤◌, true, false, List, length, sym, ap, subst, arith, Some, None}
use Rattle.std.specs.List.{All}
use Rattle.std.proofs.lemmas.List.Elements.{All-tail}
use Rattle.archive_shape_canonical.specs.FirstFit.{hash_tag}
use Rattle.archive_shape_canonical.specs.Strides.{sixteens, strides}
use Rattle.archive_shape_canonical.specs.Reach.{searched}
use Rattle.archive_hash_probing.proofs.Coverage.{few_strides}
use Rattle.archive_hash_probing.proofs.Findable.{found_place, only_is_found, strides_within}
use Rattle.archive_hash_probing.proofs.Walks.{Goes, goes_first, goes_past, goes_found, goes_empty, goes_end, retagged}
use Rattle.archive_hash_probing.proofs.Wrapping.{wraps_of, count_of}
use Rattle.archive_hash_probing.proofs.places.search.find.Goals as goal

pub loop-position-init : goal.loop-position-init
loop-position-init g c =
    let A = λ (p : ℕ). goal.F-post g c.args.accepts.now p true in
    let R = λ (p : ℕ). goal.F-post g c.args.accepts.now p false in
    let cs : List ℕ = c.args.controls.now in
    let cap : ℕ = c.args.capacity in
    let hash : ℕ = c.args.hash in
    let tag : ℕ = c.tag_of-tag.result in
    let count = count_of cs cap c.requires.controls in
    subst (λ (ps : List ℕ). All (λ p. p + 16 ≤ length cs) ps × (0 + length ps ≤ sixteens cap) × Goes A R cs cap tag (strides hash cap) ps 0) (sym c.new-strides.ensures)
    (strides_within cs hash cap count, omega (arith, few_strides hash cap c.requires.some), goes_first A R cs cap tag (strides hash cap))

pub returns-in-Some-find_in_stride-clause-answer :
    goal.returns-in-Some-find_in_stride-clause-answer
returns-in-Some-find_in_stride-clause-answer g c =
    let A = λ (p : ℕ). goal.F-post g c.args.accepts.now p true in
    let R = λ (p : ℕ). goal.F-post g c.args.accepts.now p false in
    let cs : List ℕ = c.args.controls.now in
    let cap : ℕ = c.args.capacity in
    let hash : ℕ = c.args.hash in
    let tag : ℕ = c.tag_of-tag.result in
    let before : ℕ = c.loop-position.searched in
    let go = subst (λ (ps : List ℕ). Goes A R cs cap tag (strides hash cap) ps before) c.in-Some.ensures.steps c.loop-position.invariant.2 in
    retagged A R cs cap tag (hash_tag hash) (searched cs (strides hash cap)) (Some c.in-Some-find_in_stride.place) (before + 1) c.tag_of-tag.ensures.value (goes_found A R cs cap tag (strides hash cap) _ c.in-Some.position before go c.in-Some-find_in_stride.place c.in-Some-find_in_stride.ensures)

pub returns-in-Some-find_in_stride-clause-item :
    goal.returns-in-Some-find_in_stride-clause-item
returns-in-Some-find_in_stride-clause-item g c =
    let A = λ (p : ℕ). goal.F-post g c.args.accepts.now p true in
    let R = λ (p : ℕ). goal.F-post g c.args.accepts.now p false in
    let cs : List ℕ = c.args.controls.now in
    let cap : ℕ = c.args.capacity in
    let hash : ℕ = c.args.hash in
    let tag : ℕ = c.tag_of-tag.result in
    let before : ℕ = c.loop-position.searched in
    let go = subst (λ (ps : List ℕ). Goes A R cs cap tag (strides hash cap) ps before) c.in-Some.ensures.steps c.loop-position.invariant.2 in
    let a = retagged A R cs cap tag (hash_tag hash) (searched cs (strides hash cap)) (Some c.in-Some-find_in_stride.place) (before + 1) c.tag_of-tag.ensures.value (goes_found A R cs cap tag (strides hash cap) _ c.in-Some.position before go c.in-Some-find_in_stride.place c.in-Some-find_in_stride.ensures) in
    let f = found_place A R cs hash cap (hash_tag hash) c.in-Some-find_in_stride.place (before + 1) c.requires.some (wraps_of cs cap c.requires.controls) (count_of cs cap c.requires.controls) a in
    (f.low, f.full, a.found.taken)

pub returns-in-Some-find_in_stride-clause-findable :
    goal.returns-in-Some-find_in_stride-clause-findable
returns-in-Some-find_in_stride-clause-findable g c =
    let A = λ (p : ℕ). goal.F-post g c.args.accepts.now p true in
    let R = λ (p : ℕ). goal.F-post g c.args.accepts.now p false in
    let cs : List ℕ = c.args.controls.now in
    let cap : ℕ = c.args.capacity in
    let hash : ℕ = c.args.hash in
    let tag : ℕ = c.tag_of-tag.result in
    let before : ℕ = c.loop-position.searched in
    let go = subst (λ (ps : List ℕ). Goes A R cs cap tag (strides hash cap) ps before) c.in-Some.ensures.steps c.loop-position.invariant.2 in
    let a = retagged A R cs cap tag (hash_tag hash) (searched cs (strides hash cap)) (Some c.in-Some-find_in_stride.place) (before + 1) c.tag_of-tag.ensures.value (goes_found A R cs cap tag (strides hash cap) _ c.in-Some.position before go c.in-Some-find_in_stride.place c.in-Some-find_in_stride.ensures) in
    λ place in' t took only. only_is_found A R cs hash cap (hash_tag hash) place (Some c.in-Some-find_in_stride.place) (before + 1) c.requires.some a (wraps_of cs cap c.requires.controls) (count_of cs cap c.requires.controls) in' t took only

pub returns-then-shows_empty-clause-answer : goal.returns-then-shows_empty-clause-answer
returns-then-shows_empty-clause-answer g c =
    let A = λ (p : ℕ). goal.F-post g c.args.accepts.now p true in
    let R = λ (p : ℕ). goal.F-post g c.args.accepts.now p false in
    let cs : List ℕ = c.args.controls.now in
    let cap : ℕ = c.args.capacity in
    let hash : ℕ = c.args.hash in
    let tag : ℕ = c.tag_of-tag.result in
    let before : ℕ = c.loop-position.searched in
    let go = subst (λ (ps : List ℕ). Goes A R cs cap tag (strides hash cap) ps before) c.in-Some.ensures.steps c.loop-position.invariant.2 in
    retagged A R cs cap tag (hash_tag hash) (searched cs (strides hash cap)) None (before + 1) c.tag_of-tag.ensures.value (goes_empty A R cs cap tag (strides hash cap) _ c.in-Some.position before go c.in_default-find_in_stride.ensures (sym c.if-shows_empty.ensures))

pub returns-then-shows_empty-clause-findable : goal.returns-then-shows_empty-clause-findable
returns-then-shows_empty-clause-findable g c =
    let A = λ (p : ℕ). goal.F-post g c.args.accepts.now p true in
    let R = λ (p : ℕ). goal.F-post g c.args.accepts.now p false in
    let cs : List ℕ = c.args.controls.now in
    let cap : ℕ = c.args.capacity in
    let hash : ℕ = c.args.hash in
    let tag : ℕ = c.tag_of-tag.result in
    let before : ℕ = c.loop-position.searched in
    let go = subst (λ (ps : List ℕ). Goes A R cs cap tag (strides hash cap) ps before) c.in-Some.ensures.steps c.loop-position.invariant.2 in
    let a = retagged A R cs cap tag (hash_tag hash) (searched cs (strides hash cap)) None (before + 1) c.tag_of-tag.ensures.value (goes_empty A R cs cap tag (strides hash cap) _ c.in-Some.position before go c.in_default-find_in_stride.ensures (sym c.if-shows_empty.ensures)) in
    λ place in' t took only. only_is_found A R cs hash cap (hash_tag hash) place None (before + 1) c.requires.some a (wraps_of cs cap c.requires.controls) (count_of cs cap c.requires.controls) in' t took only

pub loop-position-preserved : goal.loop-position-preserved
loop-position-preserved g c =
    let A = λ (p : ℕ). goal.F-post g c.args.accepts.now p true in
    let R = λ (p : ℕ). goal.F-post g c.args.accepts.now p false in
    let cs : List ℕ = c.args.controls.now in
    let cap : ℕ = c.args.capacity in
    let hash : ℕ = c.args.hash in
    let tag : ℕ = c.tag_of-tag.result in
    let before : ℕ = c.loop-position.searched in
    let go = subst (λ (ps : List ℕ). Goes A R cs cap tag (strides hash cap) ps before) c.in-Some.ensures.steps c.loop-position.invariant.2 in
    let P : ℕ → Type 0 = λ p. p + 16 ≤ length cs in
    let steps = c.in-Some.ensures.steps in (
      All-tail P c.in-Some.position _ (subst (λ (ps : List ℕ). All P ps) steps c.loop-position.invariant.0),
      omega (arith, ap length steps, c.loop-position.invariant.1),
      goes_past A R cs cap tag (strides hash cap) _ c.in-Some.position before go c.in_default-find_in_stride.ensures (sym c.if-shows_empty.ensures),
    )

pub returns-clause-answer : goal.returns-clause-answer
returns-clause-answer g c =
    let A = λ (p : ℕ). goal.F-post g c.args.accepts.now p true in
    let R = λ (p : ℕ). goal.F-post g c.args.accepts.now p false in
    let cs : List ℕ = c.args.controls.now in
    let cap : ℕ = c.args.capacity in
    let hash : ℕ = c.args.hash in
    let tag : ℕ = c.tag_of-tag.result in
    let before : ℕ = c.loop-position.searched in
    let go = subst (λ (ps : List ℕ). Goes A R cs cap tag (strides hash cap) ps before) c.in_default.ensures.steps.0 c.loop-position.invariant.2 in
    retagged A R cs cap tag (hash_tag hash) (searched cs (strides hash cap)) None before c.tag_of-tag.ensures.value (goes_end A R cs cap tag (strides hash cap) before go)

pub returns-clause-findable : goal.returns-clause-findable
returns-clause-findable g c =
    let A = λ (p : ℕ). goal.F-post g c.args.accepts.now p true in
    let R = λ (p : ℕ). goal.F-post g c.args.accepts.now p false in
    let cs : List ℕ = c.args.controls.now in
    let cap : ℕ = c.args.capacity in
    let hash : ℕ = c.args.hash in
    let tag : ℕ = c.tag_of-tag.result in
    let before : ℕ = c.loop-position.searched in
    let go = subst (λ (ps : List ℕ). Goes A R cs cap tag (strides hash cap) ps before) c.in_default.ensures.steps.0 c.loop-position.invariant.2 in
    let a = retagged A R cs cap tag (hash_tag hash) (searched cs (strides hash cap)) None before c.tag_of-tag.ensures.value (goes_end A R cs cap tag (strides hash cap) before go) in
    λ place in' t took only. only_is_found A R cs hash cap (hash_tag hash) place None before c.requires.some a (wraps_of cs cap c.requires.controls) (count_of cs cap c.requires.controls) in' t took only
