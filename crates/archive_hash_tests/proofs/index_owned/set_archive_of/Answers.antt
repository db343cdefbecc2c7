use Rattle.std.proofs.Common.{[]}
use Rattle.archive_hash_tests.proofs.Suits.{keys_suited, no_keys, one_to_one, told}
use Rattle.archive_hash_tests.proofs.index_owned.set_archive_of.Goals as goal

pub returns : goal.returns
returns c =
    told _ _ _ c.to_bytes.result c.to_bytes.ensures.bytes
    (λ bytes made. c.owned_set_is_written.ensures.plain c.args.set.now bytes.items [] no_keys (λ fit. keys_suited fit no_keys c.args.set.now.keys.items) (tt, tt) one_to_one (record { fits = made.1; is = made.0 }))
