use Rattle.std.proofs.Common.{Some, None, refl}
use Rattle.archive_shape_layout.specs.Bytes.{word_at}
use Rattle.archive_forms_laws.specs.Sample.{number_shape}
use Rattle.archive_index.specs.Lookups.{full_of}
use Rattle.archive_hash_maps.proofs.LookedUp.{looks_up_as}
use Rattle.archive_index.proofs.map.map.ArchivedIndexMap.get_with.Goals as goal

pub returns-in-Some-clause-answers : goal.returns-in-Some-clause-answers
returns-in-Some-clause-answers g c m is =
    let k = g.K.Portable.shape in
    let v = g.V.Portable.shape in
    looks_up_as _ _ (λ at. full_of {K = g.row.K.Denot} {V = g.row.V.Denot} c.args.this.bytes k v m (word_at c.args.this.bytes.now at)) (λ r. r.2) number_shape m.buckets _ (Some c.in-Some.value) refl (c.in-Some.ensures.answers m is)

pub returns-in-None-clause-answers : goal.returns-in-None-clause-answers
returns-in-None-clause-answers g c m is =
    let k = g.K.Portable.shape in
    let v = g.V.Portable.shape in
    looks_up_as _ _ (λ at. full_of {K = g.row.K.Denot} {V = g.row.V.Denot} c.args.this.bytes k v m (word_at c.args.this.bytes.now at)) (λ r. r.2) number_shape m.buckets None None refl (c.in-None.ensures.answers m is)
