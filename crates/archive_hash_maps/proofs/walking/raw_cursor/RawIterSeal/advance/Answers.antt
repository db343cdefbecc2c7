use Rattle.std.proofs.Common.{sym, subst}
use Rattle.archive_hash_maps.specs.Walks.{IsWritten}
use Rattle.archive_hash_maps.proofs.walking.raw_cursor.RawIterSeal.advance.Goals as goal

pub pass_item-passed-requires : goal.pass_item-passed-requires
pass_item-passed-requires g c =
    let r = c.requires in
    (r.0, r.1, r.2, subst (λ b. IsWritten r.0 b.now) (sym c.take-bytes.ensures.value) r.3)
