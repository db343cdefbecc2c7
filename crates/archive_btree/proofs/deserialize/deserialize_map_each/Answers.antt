use Rattle.std.proofs.Common.{rules, ◌≡◌, ◌∙◌, [], map, sym, ap}
use Rattle.archive_btree_maps.specs.Refs.{entry_at}
use Rattle.archive_btree.proofs.ReadBack.{next_place, none_left, next_has, reading_begun, entry_read, reading_ended, reading_some}
use Rattle.archive_btree.proofs.deserialize.deserialize_map_each.Goals as goal

pub loop-key-init : goal.loop-key-init
loop-key-init g c =
    let b = reading_begun g.row.E g.A.ReadBack.reads g.B.ReadBack.reads g.A.Portable.shape g.B.Portable.shape g.A.Portable.knows g.B.Portable.knows c.args.this.bytes.now g.K.Ord.cmp c.args.this.pos c.new-map.result.entries c.requires.there c.new-map.ensures.empty in
    (b.0, c.iter-entries.ensures b.1.0 b.1.1 ∙ ap (map (entry_at c.args.this.bytes {K = g.row.A.Denot} {V = g.row.B.Denot})) (sym b.1.2), b.2, c.requires.kept)

pub insert_read-requires-clause-has_key : goal.insert_read-requires-clause-has_key
insert_read-requires-clause-has_key g c =
    let i = c.loop-key.invariant in
    let n = next_place c.args.this.bytes i.0 c.in-Some.key c.in-Some.value c.loop-key.entries _ i.1 c.in-Some.ensures.steps in
    let has = next_has g.row.E g.A.ReadBack.reads g.B.ReadBack.reads g.A.Portable.shape g.B.Portable.shape g.A.Portable.knows g.B.Portable.knows c.args.this.bytes.now g.K.Ord.cmp c.args.this.pos c.args.this.bytes i.0 c.in-Some.key c.in-Some.value _ c.loop-key.map.entries i.2 n in
    has.0

pub insert_read-requires-clause-has_value : goal.insert_read-requires-clause-has_value
insert_read-requires-clause-has_value g c =
    let i = c.loop-key.invariant in
    let n = next_place c.args.this.bytes i.0 c.in-Some.key c.in-Some.value c.loop-key.entries _ i.1 c.in-Some.ensures.steps in
    let has = next_has g.row.E g.A.ReadBack.reads g.B.ReadBack.reads g.A.Portable.shape g.B.Portable.shape g.A.Portable.knows g.B.Portable.knows c.args.this.bytes.now g.K.Ord.cmp c.args.this.pos c.args.this.bytes i.0 c.in-Some.key c.in-Some.value _ c.loop-key.map.entries i.2 n in
    has.1

pub insert_read-requires-clause-takes_key : goal.insert_read-requires-clause-takes_key
insert_read-requires-clause-takes_key g c = c.requires.takes_key

pub insert_read-requires-clause-reads_key : goal.insert_read-requires-clause-reads_key
insert_read-requires-clause-reads_key g c = c.requires.reads_key

pub insert_read-requires-clause-takes_value : goal.insert_read-requires-clause-takes_value
insert_read-requires-clause-takes_value g c = c.requires.takes_value

pub insert_read-requires-clause-reads_value : goal.insert_read-requires-clause-reads_value
insert_read-requires-clause-reads_value g c = c.requires.reads_value

pub insert_read-requires-clause-kept : goal.insert_read-requires-clause-kept
insert_read-requires-clause-kept g c = c.loop-key.invariant.3

pub loop-key-preserved : goal.loop-key-preserved
loop-key-preserved g c =
    let i = c.loop-key.invariant in
    let n = next_place c.args.this.bytes i.0 c.in-Some.key c.in-Some.value c.loop-key.entries _ i.1 c.in-Some.ensures.steps in
    let x = c.in_ok-insert_read.ensures.value in
    (n.more, n.rest_is, entry_read g.row.E g.A.ReadBack.reads g.B.ReadBack.reads g.A.Portable.shape g.B.Portable.shape g.A.Portable.knows g.B.Portable.knows c.args.this.bytes.now g.K.Ord.cmp c.args.this.pos c.args.this.bytes i.0 c.in-Some.key c.in-Some.value _ c.loop-key.map.entries c.insert_read.new.map.entries x.0 i.2 n x.1 x.2 x.3, c.in_ok-insert_read.ensures.keeps)

pub returns-clause-value : goal.returns-clause-value
returns-clause-value g c =
    let i = c.loop-key.invariant in
    let none : c.loop-key.entries ≡ [] = search rules in
    reading_ended g.row.E g.A.ReadBack.reads g.B.ReadBack.reads g.A.Portable.shape g.B.Portable.shape g.A.Portable.knows g.B.Portable.knows c.args.this.bytes.now g.K.Ord.cmp c.args.this.pos i.0 c.loop-key.map.entries (none_left c.args.this.bytes i.0 c.loop-key.entries i.1 none) i.2

pub invariant_of-result : goal.invariant_of-result
invariant_of-result g c =
    let i = c.loop-key.invariant in
    record { some = reading_some g.row.E g.A.ReadBack.reads g.B.ReadBack.reads g.A.Portable.shape g.B.Portable.shape g.A.Portable.knows g.B.Portable.knows c.args.this.bytes.now g.K.Ord.cmp c.args.this.pos i.0 c.loop-key.map.entries i.2 }
