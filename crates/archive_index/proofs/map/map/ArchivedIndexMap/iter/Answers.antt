use Rattle.std.proofs.Common.{◌∙◌, ◌+◌, ◌^◌, ◌<◌, map, All, sym, ap, subst, arith}
use Rattle.archive_forms_values.specs.Parts.{HasValue}
use Rattle.archive_forms_values.specs.Entries.{entry_from}
use Rattle.archive_hash_maps.specs.Maps.{with_value}
use Rattle.archive_hash_maps.proofs.Paired.{entries_held, values_fit, pairs_are}
use Rattle.archive_index.specs.Maps.{entry_positions}
use Rattle.archive_index.proofs.Standing.{map_of, all_entries, walk_fits}
use Rattle.archive_index.proofs.map.map.ArchivedIndexMap.iter.Goals as goal

pub invariant_of-positions : goal.invariant_of-positions
invariant_of-positions g c =
    let k = g.K.Portable.shape in
    let v = g.V.Portable.shape in
    let knows = g.K.Portable.knows in
    let others = g.V.Portable.knows in
    let bytes = c.args.this.bytes in
    let r = map_of k v knows others bytes.now c.args.this.pos c.requires in
    let e = c.entries_at-at.ensures.map r.map r.stands in
    let w = walk_fits k v knows others bytes.now c.args.this.pos c.requires r.map r.stands c.entries_at-at.result.0 c.entries_at-at.result.1 c.SIZE.result e.0 e.1 c.SIZE.ensures (omega arith) in (
      omega (arith, w.0, w.1),
      subst (All (λ at. at + c.next_multiple.result < 2 ^ 64)) (sym w.2)
          (values_fit k v knows others bytes c.SIZE-2.result c.ALIGN.result c.next_multiple.result (omega arith) (c.SIZE-2.ensures ∙ g.met.K.Portable.sized) (c.ALIGN.ensures ∙ g.met.V.Portable.aligned) c.next_multiple.ensures (entry_positions k v r.map) (all_entries k v knows others bytes.now c.args.this.pos c.requires r.map r.stands)),
    )

pub returns-clause-entries : goal.returns-clause-entries
returns-clause-entries g c m is =
    let k = g.K.Portable.shape in
    let v = g.V.Portable.shape in
    let knows = g.K.Portable.knows in
    let others = g.V.Portable.knows in
    let bytes = c.args.this.bytes in
    let e = c.entries_at-at.ensures.map m is in
    let w = walk_fits k v knows others bytes.now c.args.this.pos c.requires m is c.entries_at-at.result.0 c.entries_at-at.result.1 c.SIZE.result e.0 e.1 c.SIZE.ensures (omega arith) in
    c.new.ensures
    ∙ ap (λ ps. map (entry_from {K = g.row.K.Denot} {V = g.row.V.Denot} bytes) (map (with_value c.next_multiple.result) ps)) w.2
    ∙ pairs_are k v knows others bytes c.SIZE-2.result c.ALIGN.result c.next_multiple.result (omega arith) (c.SIZE-2.ensures ∙ g.met.K.Portable.sized) (c.ALIGN.ensures ∙ g.met.V.Portable.aligned) c.next_multiple.ensures (entry_positions k v m) (all_entries k v knows others bytes.now c.args.this.pos c.requires m is)

pub returns-clause-there : goal.returns-clause-there
returns-clause-there g c =
    let k = g.K.Portable.shape in
    let v = g.V.Portable.shape in
    let knows = g.K.Portable.knows in
    let others = g.V.Portable.knows in
    let bytes = c.args.this.bytes in
    let r = map_of k v knows others bytes.now c.args.this.pos c.requires in
    subst (All (λ e. HasValue k knows e.0.bytes.now e.0.pos × HasValue v others e.1.bytes.now e.1.pos)) (sym (returns-clause-entries g c r.map r.stands))
    (entries_held k v knows others bytes (entry_positions k v r.map) (all_entries k v knows others bytes.now c.args.this.pos c.requires r.map r.stands))
