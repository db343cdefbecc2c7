use Rattle.std.proofs.Common.{◌∙◌, ◌+◌, ◌*◌, ◌^◌, ◌<◌, ◌≤◌, length, map, All, sym, ap, subst, arith}
use Rattle.archive_shape_layout.specs.Shape.{size_of}
use Rattle.archive_forms_values.specs.Parts.{HasValue}
use Rattle.archive_hash_maps.specs.Tables.{IsTableAt, full_places}
use Rattle.archive_hash_maps.specs.Places.{held, full_place}
use Rattle.archive_hash_maps.proofs.TableParts.{places_first}
use Rattle.archive_hash_maps.proofs.Roots.{places_of_value, table_some, table_count, HasPlaces}
use Rattle.archive_hash_maps.proofs.Lookups.{item_room, size_is, items_there}
use Rattle.archive_hash_maps.proofs.Walked.{all_left, places_are, all_there}
use Rattle.archive_hash_maps.proofs.walking.iter.full_places_at.Goals as goal

pub new-requires-clause-within : goal.new-requires-clause-within
new-requires-clause-within g c =
    let b = places_of_value c.requires in
    let r = c.in-Some.ensures b.buckets b.table in
    let p : HasPlaces c.args.bytes.now g.T.Portable.shape c.args.pos (held c.in-Some.buckets) = subst (HasPlaces c.args.bytes.now g.T.Portable.shape c.args.pos) r.0 (table_some r.1 b.table) in
    omega (arith, places_first c.in-Some.buckets.capacity, p.controls.count)

pub new-requires-clause-len : goal.new-requires-clause-len
new-requires-clause-len g c =
    let b = places_of_value c.requires in
    let r = c.in-Some.ensures b.buckets b.table in
    let t : IsTableAt c.args.bytes.now g.T.Portable.shape c.args.pos (held c.in-Some.buckets) = subst (IsTableAt c.args.bytes.now g.T.Portable.shape c.args.pos) r.0 b.table in
    c.number_at.ensures.value ∙ table_count t ∙ ap length (sym (all_left (held c.in-Some.buckets)))

pub invariant_of-result : goal.invariant_of-result
invariant_of-result g c =
    let b = places_of_value c.requires in
    let r = c.in-Some.ensures b.buckets b.table in
    let p : HasPlaces c.args.bytes.now g.T.Portable.shape c.args.pos (held c.in-Some.buckets) = subst (HasPlaces c.args.bytes.now g.T.Portable.shape c.args.pos) r.0 (table_some r.1 b.table) in
    let sized = size_is (size_of g.T.Portable.shape) c.SIZE.result c.in-Some.buckets.capacity c.in-Some.buckets.target (c.SIZE.ensures ∙ g.met.T.Portable.sized) (omega (arith, p.fewer)) p.room r.3 in
    let fits = places_first c.in-Some.buckets.capacity in
    let all = places_are (λ q. (q < 2 ^ 32) × (q < length c.in-Some.buckets.controls.now) × ((q + 1) * c.SIZE.result ≤ c.in-Some.buckets.target)) (held c.in-Some.buckets)
    (λ q below. (omega (arith, below, r.2), omega (arith, below, fits, p.controls.count), subst (λ n. (q + 1) * n ≤ c.in-Some.buckets.target) (sym sized) (item_room g.T.Portable.shape (held c.in-Some.buckets) q p below))) in
    subst (All (λ q. (q < 2 ^ 32) × (q < length c.in-Some.buckets.controls.now) × ((q + 1) * c.SIZE.result ≤ c.in-Some.buckets.target))) (sym c.new.ensures) all

pub returns-clause-places : goal.returns-clause-places
returns-clause-places g c b is =
    let r = c.in-Some.ensures b is in
    let p : HasPlaces c.args.bytes.now g.T.Portable.shape c.args.pos (held c.in-Some.buckets) = subst (HasPlaces c.args.bytes.now g.T.Portable.shape c.args.pos) r.0 (table_some r.1 is) in
    let sized = size_is (size_of g.T.Portable.shape) c.SIZE.result c.in-Some.buckets.capacity c.in-Some.buckets.target (c.SIZE.ensures ∙ g.met.T.Portable.sized) (omega (arith, p.fewer)) p.room r.3 in
    let places = c.new.ensures ∙ all_left (held c.in-Some.buckets) in
    ap (map (full_place {T = g.row.T.Denot} c.args.bytes c.in-Some.buckets.controls.now c.in-Some.buckets.target c.SIZE.result)) places
    ∙ ap (λ n. map (full_place {T = g.row.T.Denot} c.args.bytes c.in-Some.buckets.controls.now c.in-Some.buckets.target n) (full_places (held c.in-Some.buckets))) sized
    ∙ ap (λ x. map (full_place {T = g.row.T.Denot} c.args.bytes x.controls x.target (size_of g.T.Portable.shape)) (full_places x)) (sym r.0)

pub returns-clause-there : goal.returns-clause-there
returns-clause-there g c =
    let s = g.T.Portable.shape in
    let knows = g.T.Portable.knows in
    let b = places_of_value c.requires in
    let r = c.in-Some.ensures b.buckets b.table in
    let t : IsTableAt c.args.bytes.now s c.args.pos (held c.in-Some.buckets) = subst (IsTableAt c.args.bytes.now s c.args.pos) r.0 b.table in
    let all = all_there g.row.T.Denot s knows c.args.bytes c.in-Some.buckets.controls.now c.in-Some.buckets.target (full_places (held c.in-Some.buckets)) (items_there s knows c.args.bytes.now c.args.pos c.requires (held c.in-Some.buckets) t) in
    subst (All (λ e. HasValue s knows e.2.bytes.now e.2.pos)) (sym (returns-clause-places g c (held c.in-Some.buckets) t)) all
