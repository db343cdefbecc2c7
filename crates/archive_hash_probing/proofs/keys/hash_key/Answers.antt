use Rattle.std.proofs.Common.{ap, ◌∙◌}
use Rattle.std.specs.List.{fold}
use Rattle.archive_shape_canonical.specs.Hash.{hash_words, words_of}
use Rattle.archive_hash_probing.specs.Inputs.{input_hash}
use Rattle.archive_hash_probing.proofs.Folded.{folded}
use Rattle.archive_hash_probing.proofs.keys.hash_key.Goals as goal

pub returns : goal.returns
unfolding input_hash
returns g c =
    let h = c.hash_value.ensures in
    h.2 ∙ folded h.0 (g.K.Hash.hash_input c.args.key.now) ∙ ap (λ n. fold (λ k bytes. hash_words k (words_of bytes)) n (g.K.Hash.hash_input c.args.key.now)) h.1
