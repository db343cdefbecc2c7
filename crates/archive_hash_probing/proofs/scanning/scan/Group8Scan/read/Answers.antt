use Rattle.std.proofs.Common.{◌≡◌, length, take, drop, ◌∙◌, arith, length-drop}
use Rattle.std.proofs.Math.Seq.{length-take-le}
use Rattle.std.proofs.lemmas.Nat.{le_bytes_8}
use Rattle.archive_hash_probing.proofs.WordLemmas.{number_is, taken_fit}
use Rattle.archive_hash_probing.proofs.scanning.scan.Group8Scan.read.Goals as goal

pub returns : goal.returns
returns c =
    let bs = take 8 (drop c.args.position c.args.controls.now) in
    let long : length bs ≡ 8 = length-take-le 8 _ (omega (arith, length-drop c.args.position c.args.controls.now)) in
    le_bytes_8 bs c.word_at.result long (taken_fit c.args.controls.now c.args.position c.type_inv.controls) (c.word_at.ensures ∙ number_is bs long)
