use Rattle.std.proofs.Common.{[]}
use Rattle.archive_hash_tests.proofs.Suits.{all_suited, no_keys, one_to_one, told}
use Rattle.archive_hash_tests.proofs.index_owned.archive_of.Goals as goal

pub returns : goal.returns
returns c =
    told _ _ _ c.to_bytes.result c.to_bytes.ensures.bytes
    (λ bytes made. c.owned_map_is_written.ensures.plain c.args.map.now bytes.items [] no_keys (λ fit. all_suited fit no_keys c.args.map.now.pairs.items) (tt, tt) one_to_one (record { fits = made.1; is = made.0 }))
