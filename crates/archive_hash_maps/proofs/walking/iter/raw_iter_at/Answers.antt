use Rattle.std.proofs.Common.{◌∙◌, map, ap}
use Rattle.archive_hash_maps.specs.Tables.{full_places}
use Rattle.archive_hash_maps.proofs.Walked.{positions_of}
use Rattle.archive_hash_maps.proofs.walking.iter.raw_iter_at.Goals as goal

pub returns : goal.returns
returns g c b is = ap (map (λ e. e.2.pos)) (c.full_places_at.ensures.places b is) ∙ positions_of g.row.T.Denot c.args.bytes b.controls g.T.Portable.shape b.target (full_places b)
