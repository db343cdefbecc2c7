use Rattle.std.proofs.Common.{sym, subst}
use Rattle.archive_btree_maps.specs.Walks.{IsWritten}
use Rattle.archive_btree_maps.proofs.walking.sealing.range.RangeSeal.advance.Goals as goal

pub pass_entry-passed-requires : goal.pass_entry-passed-requires
pass_entry-passed-requires g c =
    let r = c.requires in
    (r.0, r.1, r.2, r.3, subst (λ b. IsWritten r.1 b.now) (sym c.take-bytes.ensures.value) r.4)
