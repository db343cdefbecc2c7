use Rattle.std.proofs.Common.{ℕ, true, false}
use Rattle.archive_shape_canonical.specs.FirstFit.{hash_tag}
use Rattle.archive_hash_probing.proofs.Counts.{counted_to}
use Rattle.archive_hash_probing.proofs.Wrapping.{wraps_of, count_of}
use Rattle.archive_hash_probing.proofs.places.laws.counts_to_the_place.Goals as goal

pub returns : goal.returns
returns g c =
    let A = λ (p : ℕ). goal.F-post g c.args.accepts.now p true in
    let R = λ (p : ℕ). goal.F-post g c.args.accepts.now p false in
    let cs = c.args.controls.now in
    let cap = c.args.capacity in
    counted_to A R cs c.args.hash cap (hash_tag c.args.hash) c.requires.some (wraps_of cs cap c.requires.controls) (count_of cs cap c.requires.controls) c.args.place c.args.count c.requires.found c.requires.never
