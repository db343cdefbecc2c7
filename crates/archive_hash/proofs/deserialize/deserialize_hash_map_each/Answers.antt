use Rattle.std.proofs.Common.{rules, ◌≡◌, ◌∙◌, [], map, sym, ap}
use Rattle.archive_hash_maps.specs.Maps.{entry_at}
use Rattle.archive_hash.proofs.Items.{next_position, none_left, next_has, reading_begun, next_read, reading_ended}
use Rattle.archive_hash.proofs.StdMaps.{map_put}
use Rattle.archive_hash.proofs.deserialize.deserialize_hash_map_each.Goals as goal

pub loop-key-init : goal.loop-key-init
loop-key-init g c =
    let b = reading_begun g.A.ReadBack.reads g.B.ReadBack.reads g.A.Portable.shape g.B.Portable.shape g.A.Portable.knows g.B.Portable.knows c.args.this.bytes.now g.met.K.Eq.laws c.args.this.pos c.new-map.result.entries c.requires.there c.new-map.ensures.empty c.new-map.ensures.unique in
    (b.0, c.iter-entries.ensures.entries b.1.0 b.1.1 ∙ ap (map (entry_at c.args.this.bytes g.A.Portable.shape g.B.Portable.shape)) (sym b.1.2), b.2, c.requires.kept)

pub read_key-requires : goal.read_key-requires
read_key-requires g c =
    let i = c.loop-key.invariant in
    let n = next_position g.A.Portable.shape g.B.Portable.shape c.args.this.bytes i.0 c.in-Some.key c.in-Some.value c.loop-key.entries _ i.1 c.in-Some.ensures.steps in
    let has = next_has g.A.ReadBack.reads g.B.ReadBack.reads g.A.Portable.shape g.B.Portable.shape g.A.Portable.knows g.B.Portable.knows c.args.this.bytes.now g.K.PartialEq.eq c.args.this.pos c.args.this.bytes i.0 c.in-Some.key c.in-Some.value _ c.loop-key.map.entries i.2 n in
    c.requires.takes_key _ _ has.0.held.own_within has.0 i.3

pub returns-in_err-key-clause-value : goal.returns-in_err-key-clause-value
returns-in_err-key-clause-value g c =
    let i = c.loop-key.invariant in
    let n = next_position g.A.Portable.shape g.B.Portable.shape c.args.this.bytes i.0 c.in-Some.key c.in-Some.value c.loop-key.entries _ i.1 c.in-Some.ensures.steps in
    let has = next_has g.A.ReadBack.reads g.B.ReadBack.reads g.A.Portable.shape g.B.Portable.shape g.A.Portable.knows g.B.Portable.knows c.args.this.bytes.now g.K.PartialEq.eq c.args.this.pos c.args.this.bytes i.0 c.in-Some.key c.in-Some.value _ c.loop-key.map.entries i.2 n in
    let is = (c.requires.reads_key _ _ _ _ has.0 i.3 c.in_err-key.ensures).0 in
    search rules

pub read_value-requires : goal.read_value-requires
read_value-requires g c =
    let i = c.loop-key.invariant in
    let n = next_position g.A.Portable.shape g.B.Portable.shape c.args.this.bytes i.0 c.in-Some.key c.in-Some.value c.loop-key.entries _ i.1 c.in-Some.ensures.steps in
    let has = next_has g.A.ReadBack.reads g.B.ReadBack.reads g.A.Portable.shape g.B.Portable.shape g.A.Portable.knows g.B.Portable.knows c.args.this.bytes.now g.K.PartialEq.eq c.args.this.pos c.args.this.bytes i.0 c.in-Some.key c.in-Some.value _ c.loop-key.map.entries i.2 n in
    let key = c.requires.reads_key _ _ _ _ has.0 i.3 c.in_ok-key.ensures in
    c.requires.takes_value _ _ has.1.held.own_within has.1 key.1

pub returns-in_err-value-clause-value : goal.returns-in_err-value-clause-value
returns-in_err-value-clause-value g c =
    let i = c.loop-key.invariant in
    let n = next_position g.A.Portable.shape g.B.Portable.shape c.args.this.bytes i.0 c.in-Some.key c.in-Some.value c.loop-key.entries _ i.1 c.in-Some.ensures.steps in
    let has = next_has g.A.ReadBack.reads g.B.ReadBack.reads g.A.Portable.shape g.B.Portable.shape g.A.Portable.knows g.B.Portable.knows c.args.this.bytes.now g.K.PartialEq.eq c.args.this.pos c.args.this.bytes i.0 c.in-Some.key c.in-Some.value _ c.loop-key.map.entries i.2 n in
    let key = c.requires.reads_key _ _ _ _ has.0 i.3 c.in_ok-key.ensures in
    let is = (c.requires.reads_value _ _ _ _ has.1 key.1 c.in_err-value.ensures).0 in
    search rules

pub loop-key-preserved : goal.loop-key-preserved
loop-key-preserved g c =
    let i = c.loop-key.invariant in
    let n = next_position g.A.Portable.shape g.B.Portable.shape c.args.this.bytes i.0 c.in-Some.key c.in-Some.value c.loop-key.entries _ i.1 c.in-Some.ensures.steps in
    let has = next_has g.A.ReadBack.reads g.B.ReadBack.reads g.A.Portable.shape g.B.Portable.shape g.A.Portable.knows g.B.Portable.knows c.args.this.bytes.now g.K.PartialEq.eq c.args.this.pos c.args.this.bytes i.0 c.in-Some.key c.in-Some.value _ c.loop-key.map.entries i.2 n in
    let key = c.requires.reads_key _ _ _ _ has.0 i.3 c.in_ok-key.ensures in
    let value = c.requires.reads_value _ _ _ _ has.1 key.1 c.in_ok-value.ensures in
    let put = map_put g.K.PartialEq.eq c.loop-key.map c.insert.new.self (c.in_ok-key.field-0.0, c.in_ok-value.field-0.0) c.insert.result (search rules) c.insert.ensures.old c.insert.ensures.entries c.insert.ensures.updates in
    (n.more, n.rest_is, next_read g.A.ReadBack.reads g.B.ReadBack.reads g.A.Portable.shape g.B.Portable.shape g.A.Portable.knows g.B.Portable.knows c.args.this.bytes.now g.met.K.Eq.laws c.args.this.pos c.args.this.bytes i.0 c.in-Some.key c.in-Some.value _ c.loop-key.map.entries c.insert.new.self.entries (c.in_ok-key.field-0.0, c.in_ok-value.field-0.0) put.old i.2 n key.0 value.0 put.is put.put put.leads c.insert.ensures.unique, value.1)

pub returns-clause-value : goal.returns-clause-value
returns-clause-value g c =
    let i = c.loop-key.invariant in
    let none : c.loop-key.entries ≡ [] = search rules in
    reading_ended g.A.ReadBack.reads g.B.ReadBack.reads g.A.Portable.shape g.B.Portable.shape g.A.Portable.knows g.B.Portable.knows c.args.this.bytes.now g.K.PartialEq.eq c.args.this.pos i.0 c.loop-key.map.entries (none_left g.A.Portable.shape g.B.Portable.shape c.args.this.bytes i.0 c.loop-key.entries i.1 none) i.2
