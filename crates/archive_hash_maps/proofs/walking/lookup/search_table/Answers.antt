use Rattle.std.proofs.Common.{◌≡◌, ◌∙◌, ◌≤◌, ◌<◌, Some, None, true, slice_index, refl, sym, ap, subst, arith}
use Rattle.std.proofs.lemmas.List.Elements.{All-contains}
use Rattle.archive_shape_canonical.specs.Strides.{sixteens}
use Rattle.archive_hash_probing.specs.Search.{IsLookup}
use Rattle.archive_hash_maps.specs.Tables.{IsTableAt, item_position, item_positions}
use Rattle.archive_hash_maps.specs.Places.{held, LooksUp, FindsAccepted, FindsTheOnly}
use Rattle.archive_hash_maps.specs.Places.LooksUp.{has_places}
use Rattle.archive_hash_maps.proofs.Roots.{places_of_value, table_some, HasPlaces}
use Rattle.archive_hash_maps.proofs.Lookups.{full_among, item_room, some_item, none_reached}
use Rattle.archive_hash_maps.proofs.walking.lookup.search_table.Goals as goal

pub returns-in_default-clause-findable : goal.returns-in_default-clause-findable
returns-in_default-clause-findable g c b is place reached tag never only = absurd (none_reached b c.args.hash place (c.in_default.ensures b is) reached)

pub find-found-requires-clause-some : goal.find-found-requires-clause-some
find-found-requires-clause-some g c =
    let b = places_of_value c.requires.has in
    let r = c.in-Some.ensures b.buckets b.table in
    let p : HasPlaces c.args.bytes.now g.T.Portable.shape c.args.pos (held c.in-Some.buckets) = subst (HasPlaces c.args.bytes.now g.T.Portable.shape c.args.pos) r.0 (table_some r.1 b.table) in
    omega (arith, p.fewer)

pub find-found-requires-clause-small : goal.find-found-requires-clause-small
find-found-requires-clause-small g c = let b = places_of_value c.requires.has in (c.in-Some.ensures b.buckets b.table).2

pub find-found-requires-clause-controls : goal.find-found-requires-clause-controls
find-found-requires-clause-controls g c =
    let b = places_of_value c.requires.has in
    let r = c.in-Some.ensures b.buckets b.table in
    let p : HasPlaces c.args.bytes.now g.T.Portable.shape c.args.pos (held c.in-Some.buckets) = subst (HasPlaces c.args.bytes.now g.T.Portable.shape c.args.pos) r.0 (table_some r.1 b.table) in
    p.controls

pub find-found-requires-clause-callable : goal.find-found-requires-clause-callable
find-found-requires-clause-callable g c place below full =
    let b = places_of_value c.requires.has in
    let r = c.in-Some.ensures b.buckets b.table in
    let p : HasPlaces c.args.bytes.now g.T.Portable.shape c.args.pos (held c.in-Some.buckets) = subst (HasPlaces c.args.bytes.now g.T.Portable.shape c.args.pos) r.0 (table_some r.1 b.table) in
    let t : IsTableAt c.args.bytes.now g.T.Portable.shape c.args.pos (held c.in-Some.buckets) = subst (IsTableAt c.args.bytes.now g.T.Portable.shape c.args.pos) r.0 b.table in
    let at = item_position g.T.Portable.shape c.in-Some.buckets.target place in (
      omega (arith, below, r.2),
      (
        item_room g.T.Portable.shape (held c.in-Some.buckets) place p below,
        All-contains (goal.F-pre g c.args.accepts.now) (item_positions g.T.Portable.shape (held c.in-Some.buckets)) at (c.requires.callable (held c.in-Some.buckets) t) (full_among g.T.Portable.shape (held c.in-Some.buckets) place below full),
      ),
    )

pub position_of-requires : goal.position_of-requires
position_of-requires g c =
    let b = places_of_value c.requires.has in
    let r = c.in-Some.ensures b.buckets b.table in
    let p : HasPlaces c.args.bytes.now g.T.Portable.shape c.args.pos (held c.in-Some.buckets) = subst (HasPlaces c.args.bytes.now g.T.Portable.shape c.args.pos) r.0 (table_some r.1 b.table) in
    let item = some_item (λ place. (place < c.in-Some.buckets.capacity) × (slice_index c.in-Some.buckets.controls.now place < 128) × goal.F-post g c.args.accepts.now (item_position g.T.Portable.shape c.in-Some.buckets.target place) true) c.find-found.result.place c.in-Some-place.place c.find-found.ensures.item c.in-Some-place.is in
    record { small = omega (arith, item.0, r.2); room = item_room g.T.Portable.shape (held c.in-Some.buckets) c.in-Some-place.place p item.0 }

pub returns-in-Some-place-clause-answers : goal.returns-in-Some-place-clause-answers
returns-in-Some-place-clause-answers g c b is =
    let r = c.in-Some.ensures b is in
    let found = has_places (Some c.in-Some-place.place) (ap Some c.position_of.ensures) (subst (λ o. IsLookup (λ p x. goal.F-post g c.args.accepts.now (item_position g.T.Portable.shape c.in-Some.buckets.target p) x) c.in-Some.buckets.controls.now c.in-Some.buckets.capacity c.args.hash o c.find-found.result.strides) c.in-Some-place.is c.find-found.ensures.answer) in
    subst (λ x. LooksUp (goal.F-post g c.args.accepts.now) g.T.Portable.shape x c.args.hash (Some c.position_of.result) c.find-found.result.strides) (sym r.0) found

pub returns-in-Some-place-clause-accepted : goal.returns-in-Some-place-clause-accepted
returns-in-Some-place-clause-accepted g c b is =
    let r = c.in-Some.ensures b is in
    let item = some_item (λ place. (place < c.in-Some.buckets.capacity) × (slice_index c.in-Some.buckets.controls.now place < 128) × goal.F-post g c.args.accepts.now (item_position g.T.Portable.shape c.in-Some.buckets.target place) true) c.find-found.result.place c.in-Some-place.place c.find-found.ensures.item c.in-Some-place.is in
    let at = item_position g.T.Portable.shape c.in-Some.buckets.target c.in-Some-place.place in
    let there = full_among g.T.Portable.shape (held c.in-Some.buckets) c.in-Some-place.place item.0 item.1 in
    let found : FindsAccepted (goal.F-post g c.args.accepts.now) g.T.Portable.shape (held c.in-Some.buckets) (Some c.position_of.result) =
    subst (λ p. FindsAccepted (goal.F-post g c.args.accepts.now) g.T.Portable.shape (held c.in-Some.buckets) (Some p)) (sym c.position_of.ensures) (there, item.2)
    in
    subst (λ x. FindsAccepted (goal.F-post g c.args.accepts.now) g.T.Portable.shape x (Some c.position_of.result)) (sym r.0) found

pub returns-in-Some-place-clause-findable : goal.returns-in-Some-place-clause-findable
returns-in-Some-place-clause-findable g c b is =
    let r = c.in-Some.ensures b is in
    let finds : FindsTheOnly (goal.F-post g c.args.accepts.now) g.T.Portable.shape (held c.in-Some.buckets) c.args.hash (Some c.position_of.result) = λ place reached tag never only.
    let found = c.find-found.ensures.findable place reached tag never only in
    let same : c.in-Some-place.place ≡ place = cc in
    ap Some (c.position_of.ensures ∙ ap (item_position g.T.Portable.shape c.in-Some.buckets.target) same)
    in
    subst (λ x. FindsTheOnly (goal.F-post g c.args.accepts.now) g.T.Portable.shape x c.args.hash (Some c.position_of.result)) (sym r.0) finds

pub returns-in-Some-place-clause-few : goal.returns-in-Some-place-clause-few
returns-in-Some-place-clause-few g c b is =
    let r = c.in-Some.ensures b is in
    subst (λ x. c.find-found.result.strides ≤ sixteens x.cap) (sym r.0) c.find-found.ensures.few

pub returns-in-None-clause-answers : goal.returns-in-None-clause-answers
returns-in-None-clause-answers g c b is =
    let r = c.in-Some.ensures b is in
    let found = has_places None refl (subst (λ o. IsLookup (λ p x. goal.F-post g c.args.accepts.now (item_position g.T.Portable.shape c.in-Some.buckets.target p) x) c.in-Some.buckets.controls.now c.in-Some.buckets.capacity c.args.hash o c.find-found.result.strides) c.in-None.is c.find-found.ensures.answer) in
    subst (λ x. LooksUp (goal.F-post g c.args.accepts.now) g.T.Portable.shape x c.args.hash None c.find-found.result.strides) (sym r.0) found

pub returns-in-None-clause-findable : goal.returns-in-None-clause-findable
returns-in-None-clause-findable g c b is =
    let r = c.in-Some.ensures b is in
    let finds : FindsTheOnly (goal.F-post g c.args.accepts.now) g.T.Portable.shape (held c.in-Some.buckets) c.args.hash None = λ place reached tag never only.
    let found = c.find-found.ensures.findable place reached tag never only in
    let same = c.in-None.is in
    absurd cc
    in
    subst (λ x. FindsTheOnly (goal.F-post g c.args.accepts.now) g.T.Portable.shape x c.args.hash None) (sym r.0) finds

pub returns-in-None-clause-few : goal.returns-in-None-clause-few
returns-in-None-clause-few g c b is =
    let r = c.in-Some.ensures b is in
    subst (λ x. c.find-found.result.strides ≤ sixteens x.cap) (sym r.0) c.find-found.ensures.few
