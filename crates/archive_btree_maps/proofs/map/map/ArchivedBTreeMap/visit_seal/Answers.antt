use Rattle.std.proofs.Common.{◌≤◌, refl, arith}
use Rattle.archive_shape_layout.specs.Shape.{size_of}
use Rattle.archive_btree_layout.specs.Tree.{items}
use Rattle.archive_btree_maps.specs.SearchingNodes.{place_of}
use Rattle.archive_btree_maps.specs.SealedVisits.{MayCallSealed}
use Rattle.archive_btree_maps.specs.SealedVisits.VisitsSealed.{none_left, breaks_at, goes_on}
use Rattle.archive_forms_values.proofs.Lent.{lent_there}
use Rattle.archive_btree_maps.proofs.Roots.{tree_of_value}
use Rattle.archive_btree_maps.proofs.Runs.{whole_run}
use Rattle.archive_btree_maps.proofs.Sealed.{walk_goes_on, nothing_written, first_among, visited_written}
use Rattle.archive_forms_values.specs.Parts.{HasValue}
use Rattle.archive_btree_maps.proofs.SealedCalls.{same_map, fewer_left, visits_same}
use Rattle.archive_btree_maps.proofs.map.map.ArchivedBTreeMap.visit_seal.Goals as goal

pub loop-entry-init : goal.loop-entry-init
loop-entry-init g c =
    let m = tree_of_value c.requires.has in
    let t = m.search_tree in
    let bytes = c.args.this.bytes.now in
    let written = nothing_written g.V.Portable.shape (items t) bytes in
    record {
      begun = record { bytes = bytes; pos = c.args.this.pos; search_tree = t; has = c.requires.has; map = m.map };
      of_bytes = refl;
      at = refl;
      left = items t;
      goes =
          walk_goes_on (record { bytes = bytes; pos = c.args.this.pos; search_tree = t; has = c.requires.has; map = m.map }) bytes written c.entry_walk_at-walk.result (items t) (whole_run (items t))
          (c.entry_walk_at-walk.ensures t m.map);
      written = written;
      rest = λ answer last out v. v;
    }

pub visit_entry-requires-clause-callable : goal.visit_entry-requires-clause-callable
visit_entry-requires-clause-callable g c key value lent =
    let i = c.loop-entry.invariant in
    let s = c.in-Some.ensures.steps g.row.E i.begun i.left i.goes i.written in
    let e = place_of c.in-Some.entry in
    let there = lent_there (HasValue g.K.Portable.shape g.K.Portable.knows) g.V.Portable.SIZE c.loop-entry.bytes e.key e.value key value.now lent c.in-Some.ensures.there.0 in
    first_among i.begun e i.left s.0 s.1 i.goes.among (MayCallSealed (goal.F-pre g) g.K.Portable.shape g.K.Portable.knows g.V.Portable.SIZE c.loop-entry.bytes)
    (c.requires.callable i.begun i.of_bytes i.at c.loop-entry.bytes i.written) c.loop-entry.visit key value there lent

pub loop-entry-smaller : goal.loop-entry-smaller
loop-entry-smaller g c =
    let i = c.loop-entry.invariant in
    let s = c.in-Some.ensures.steps g.row.E i.begun i.left i.goes i.written in
    let e = place_of c.in-Some.entry in
    let small : g.V.Portable.SIZE ≤ size_of g.V.Portable.shape = omega (arith, g.met.V.Portable.sized) in
    fewer_left i.begun c.loop-entry.walk c.pass_entry.new.walk e i.left s.0 c.loop-entry.bytes _ i.goes i.written s.2
    (visited_written i.begun e i.left s.0 s.1 i.goes.among c.loop-entry.bytes _ g.V.Portable.SIZE small c.in-Some.ensures.there.1 c.visit_entry.ensures i.written) s.1

pub loop-entry-preserved : goal.loop-entry-preserved
loop-entry-preserved g c =
    let i = c.loop-entry.invariant in
    let s = c.in-Some.ensures.steps g.row.E i.begun i.left i.goes i.written in
    let e = place_of c.in-Some.entry in
    let small : g.V.Portable.SIZE ≤ size_of g.V.Portable.shape = omega (arith, g.met.V.Portable.sized) in
    record {
      begun = i.begun;
      of_bytes = i.of_bytes;
      at = i.at;
      left = s.0;
      goes = s.2;
      written = visited_written i.begun e i.left s.0 s.1 i.goes.among c.loop-entry.bytes _ g.V.Portable.SIZE small c.in-Some.ensures.there.1 c.visit_entry.ensures i.written;
      rest = λ answer last out later. i.rest answer last out (goes_on s.1 c.in-Continue.ensures later);
    }

pub returns-in-Break : goal.returns-in-Break
returns-in-Break g c m n o =
    let i = c.loop-entry.invariant in
    let s = c.in-Some.ensures.steps g.row.E i.begun i.left i.goes i.written in
    visits_same (goal.F-step g) g.V.Portable.SIZE _ _ _ _ _ _ _ (same_map i.begun m c.args.this.bytes.now c.args.this.pos i.of_bytes i.at n o)
    (i.rest _ _ _ (breaks_at s.1 refl c.in-Break.ensures))

pub returns : goal.returns
returns g c m n o =
    let i = c.loop-entry.invariant in
    let s = c.in_default.ensures.steps g.row.E i.begun i.left i.goes i.written in
    visits_same (goal.F-step g) g.V.Portable.SIZE _ _ _ _ _ _ _ (same_map i.begun m c.args.this.bytes.now c.args.this.pos i.of_bytes i.at n o)
    (i.rest _ _ _ (none_left s.0 refl refl refl))
