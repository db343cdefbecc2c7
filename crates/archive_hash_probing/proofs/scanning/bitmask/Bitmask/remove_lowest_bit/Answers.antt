use Rattle.archive_hash_probing.proofs.MarkLemmas.{removed_is}
use Rattle.archive_hash_probing.proofs.scanning.bitmask.Bitmask.remove_lowest_bit.Goals as goal

pub returns : goal.returns
returns c marks e = removed_is marks c.args.self.bits c.args.self.fits e
