use Rattle.std.proofs.Common.{◌∙◌, ◌+◌, ◌^◌, ◌<◌, map, All, sym, ap, subst, arith}
use Rattle.archive_forms_values.specs.Tuples.{tuple2}
use Rattle.archive_forms_values.specs.Parts.{HasValue, both}
use Rattle.archive_forms_values.specs.Entries.{entry_from}
use Rattle.archive_hash_maps.specs.Tables.{IsTableAt, item_positions}
use Rattle.archive_hash_maps.specs.Maps.{with_value}
use Rattle.archive_hash_maps.proofs.Lookups.{items_there}
use Rattle.archive_hash_maps.proofs.Paired.{entries_held, values_fit, pairs_are}
use Rattle.archive_hash_maps.proofs.Refs.{at_ref}
use Rattle.archive_hash_maps.proofs.Roots.{places_of_value}
use Rattle.archive_hash_maps.proofs.map.map.ArchivedHashMap.iter.Goals as goal

pub invariant_of-positions : goal.invariant_of-positions
invariant_of-positions g c =
    let k = g.K.Portable.shape in
    let v = g.V.Portable.shape in
    let knows = g.K.Portable.knows in
    let others = g.V.Portable.knows in
    let b = places_of_value c.requires in
    let all = items_there (tuple2 k v) (both knows others) c.args.this.bytes.now c.args.this.pos c.requires b.buckets b.table in
    let are = c.raw_iter.ensures b.buckets (at_ref (λ bs p. IsTableAt bs.now (tuple2 k v) p b.buckets) c.table.result c.args.this.bytes c.args.this.pos c.table.ensures.bytes c.table.ensures.pos b.table) in
    subst (All (λ at. at + c.next_multiple.result < 2 ^ 64)) (sym are)
    (values_fit k v knows others c.args.this.bytes c.SIZE.result c.ALIGN.result c.next_multiple.result (omega arith) (c.SIZE.ensures ∙ g.met.K.Portable.sized) (c.ALIGN.ensures ∙ g.met.V.Portable.aligned) c.next_multiple.ensures (item_positions (tuple2 k v) b.buckets) all)

pub returns-clause-entries : goal.returns-clause-entries
returns-clause-entries g c b is =
    let k = g.K.Portable.shape in
    let v = g.V.Portable.shape in
    let knows = g.K.Portable.knows in
    let others = g.V.Portable.knows in
    let all = items_there (tuple2 k v) (both knows others) c.args.this.bytes.now c.args.this.pos c.requires b is in
    let are = c.raw_iter.ensures b (at_ref (λ bs p. IsTableAt bs.now (tuple2 k v) p b) c.table.result c.args.this.bytes c.args.this.pos c.table.ensures.bytes c.table.ensures.pos is) in
    c.new.ensures
    ∙ ap (λ ps. map (entry_from {K = g.row.K.Denot} {V = g.row.V.Denot} c.args.this.bytes) (map (with_value c.next_multiple.result) ps)) are
    ∙ pairs_are k v knows others c.args.this.bytes c.SIZE.result c.ALIGN.result c.next_multiple.result (omega arith) (c.SIZE.ensures ∙ g.met.K.Portable.sized) (c.ALIGN.ensures ∙ g.met.V.Portable.aligned) c.next_multiple.ensures (item_positions (tuple2 k v) b) all

pub returns-clause-there : goal.returns-clause-there
returns-clause-there g c =
    let k = g.K.Portable.shape in
    let v = g.V.Portable.shape in
    let knows = g.K.Portable.knows in
    let others = g.V.Portable.knows in
    let b = places_of_value c.requires in
    let all = items_there (tuple2 k v) (both knows others) c.args.this.bytes.now c.args.this.pos c.requires b.buckets b.table in
    subst (All (λ e. HasValue k knows e.0.bytes.now e.0.pos × HasValue v others e.1.bytes.now e.1.pos)) (sym (returns-clause-entries g c b.buckets b.table))
    (entries_held k v knows others c.args.this.bytes (item_positions (tuple2 k v) b.buckets) all)
