use Rattle.std.proofs.Common.{◌≡◌, ◌*◌, ap, sym, subst, arith}
use Rattle.archive_shape_layout.specs.Shape.{size_of}
use Rattle.archive_forms_values.specs.Tuples.{tuple2}
use Rattle.archive_forms_values.specs.Parts.{HasValue, both}
use Rattle.archive_index.proofs.Standing.{map_of, entry_fits, entry_there, sized_entry}
use Rattle.archive_index.proofs.map.search.entry_at.Goals as goal

pub overflow_mul-result : goal.overflow_mul-result
overflow_mul-result g c =
    let k = g.K.Portable.shape in
    let v = g.V.Portable.shape in
    let r = map_of k v g.K.Portable.knows g.V.Portable.knows c.args.bytes.now c.args.pos c.requires.has in
    let less = c.requires.within r.map r.stands in
    let fits = entry_fits k v g.K.Portable.knows g.V.Portable.knows c.args.bytes.now c.args.pos r.map r.stands c.args.index less in
    let sized = sized_entry k v g.K.Portable.knows g.V.Portable.knows c.args.bytes.now c.args.pos r.map r.stands c.args.index c.SIZE-size.result less c.SIZE-size.ensures (omega arith) in
    let same : c.args.index * c.SIZE-size.result ≡ c.args.index * size_of (tuple2 k v) = ap (λ n. c.args.index * n) sized in
    let short = c.type_inv.bytes in
    omega (arith, fits, same, short)

pub overflow_add-result : goal.overflow_add-result
overflow_add-result g c =
    let k = g.K.Portable.shape in
    let v = g.V.Portable.shape in
    let r = map_of k v g.K.Portable.knows g.V.Portable.knows c.args.bytes.now c.args.pos c.requires.has in
    let less = c.requires.within r.map r.stands in
    let fits = entry_fits k v g.K.Portable.knows g.V.Portable.knows c.args.bytes.now c.args.pos r.map r.stands c.args.index less in
    let sized = sized_entry k v g.K.Portable.knows g.V.Portable.knows c.args.bytes.now c.args.pos r.map r.stands c.args.index c.SIZE-size.result less c.SIZE-size.ensures (omega arith) in
    let same : c.args.index * c.SIZE-size.result ≡ c.args.index * size_of (tuple2 k v) = ap (λ n. c.args.index * n) sized in
    let start = (c.entries_at-start.ensures.map r.map r.stands).0 in
    let short = c.type_inv.bytes in
    omega (arith, fits, same, start, short)

pub returns-clause-stands : goal.returns-clause-stands
returns-clause-stands g c m at =
    let k = g.K.Portable.shape in
    let v = g.V.Portable.shape in
    let less = c.requires.within m at in
    let sized = sized_entry k v g.K.Portable.knows g.V.Portable.knows c.args.bytes.now c.args.pos m at c.args.index c.SIZE-size.result less c.SIZE-size.ensures (omega arith) in
    let same : c.args.index * c.SIZE-size.result ≡ c.args.index * size_of (tuple2 k v) = ap (λ n. c.args.index * n) sized in
    let start = (c.entries_at-start.ensures.map m at).0 in
    omega (arith, same, start)

pub returns-clause-there : goal.returns-clause-there
returns-clause-there g c =
    let k = g.K.Portable.shape in
    let v = g.V.Portable.shape in
    let r = map_of k v g.K.Portable.knows g.V.Portable.knows c.args.bytes.now c.args.pos c.requires.has in
    subst (HasValue (tuple2 k v) (both g.K.Portable.knows g.V.Portable.knows) c.args.bytes.now) (sym (returns-clause-stands g c r.map r.stands))
    (entry_there k v g.K.Portable.knows g.V.Portable.knows c.args.bytes.now c.args.pos c.requires.has r.map r.stands c.args.index (c.requires.within r.map r.stands))
