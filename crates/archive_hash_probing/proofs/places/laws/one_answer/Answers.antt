use Rattle.std.proofs.Common.{ℕ, true, false}
use Rattle.archive_shape_canonical.specs.FirstFit.{hash_tag}
use Rattle.archive_hash_probing.proofs.Counts.{one_answer}
use Rattle.archive_hash_probing.proofs.Wrapping.{wraps_of, count_of}
use Rattle.archive_hash_probing.proofs.places.laws.one_answer.Goals as goal

pub returns : goal.returns
returns g c =
    let A = λ (p : ℕ). goal.F-post g c.args.accepts.now p true in
    let R = λ (p : ℕ). goal.F-post g c.args.accepts.now p false in
    let cs = c.args.controls.now in
    let cap = c.args.capacity in
    let same = one_answer A R cs c.args.hash cap (hash_tag c.args.hash) c.requires.some (wraps_of cs cap c.requires.controls) (count_of cs cap c.requires.controls) c.requires.never _ _ _ _ c.requires.one c.requires.other in
    λ i. record { place = same.0 i; strides = same.1 i }
