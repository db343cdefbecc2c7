use Rattle.std.proofs.Common.{Some, None, refl}
use Rattle.archive_shape_layout.specs.Bytes.{word_at}
use Rattle.archive_forms_laws.specs.Sample.{number_shape}
use Rattle.archive_hash_maps.proofs.LookedUp.{looks_up_as}
use Rattle.archive_index.specs.Lookups.{full_of}
use Rattle.archive_index.specs.Sets.{unit_shape}
use Rattle.archive_index.proofs.set.set.ArchivedIndexSet.get_full.Goals as goal

pub returns-in-Some-clause-answers : goal.returns-in-Some-clause-answers
returns-in-Some-clause-answers g c m is =
    let answers = simp c.as_map.ensures at c.in-Some.ensures.answers in
    looks_up_as _ _ (λ at. full_of {K = g.row.K.Denot} c.args.this.bytes g.K.Portable.shape unit_shape m (word_at c.args.this.bytes.now at)) (λ r. (r.0, r.1)) number_shape m.buckets _ (Some (c.in-Some.index, c.in-Some.key)) refl (answers m is)

pub returns-in-None-clause-answers : goal.returns-in-None-clause-answers
returns-in-None-clause-answers g c m is =
    let answers = simp c.as_map.ensures at c.in-None.ensures.answers in
    looks_up_as _ _ (λ at. full_of {K = g.row.K.Denot} c.args.this.bytes g.K.Portable.shape unit_shape m (word_at c.args.this.bytes.now at)) (λ r. (r.0, r.1)) number_shape m.buckets _ None refl (answers m is)
