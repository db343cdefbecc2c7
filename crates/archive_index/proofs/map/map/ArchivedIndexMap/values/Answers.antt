use Rattle.std.proofs.Common.{◌∙◌, map, All, ap, subst, sym}
use Rattle.std.proofs.lemmas.List.Elements.{All-map}
use Rattle.archive_forms_values.specs.Parts.{HasValue}
use Rattle.archive_hash_maps.specs.Maps.{entry_at}
use Rattle.archive_hash_maps.proofs.Paired.{mapped}
use Rattle.archive_index.specs.Maps.{entry_positions}
use Rattle.archive_index.proofs.map.map.ArchivedIndexMap.values.Goals as goal

pub returns-clause-there : goal.returns-clause-there
returns-clause-there g c =
    subst (All (λ r. HasValue g.V.Portable.shape g.V.Portable.knows r.bytes.now r.pos)) (sym c.new.ensures)
    (All-map (λ r. HasValue g.V.Portable.shape g.V.Portable.knows r.bytes.now r.pos) (λ e. e.1) c.iter.result (λ i d less. (c.iter.ensures.there i d less).1))

pub returns-clause-values : goal.returns-clause-values
returns-clause-values g c m is =
    let k = g.K.Portable.shape in
    let v = g.V.Portable.shape in
    c.new.ensures ∙ ap (map (λ e. e.1)) (c.iter.ensures.entries m is) ∙ mapped (entry_at {K = g.row.K.Denot} {V = g.row.V.Denot} c.args.this.bytes k v) (λ e. e.1) (entry_positions k v m)
