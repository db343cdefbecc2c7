use Rattle.std.proofs.Common.{◌≡◌, ◌<◌, ◌∙◌, sym, ap, arith, Some}
use Rattle.std.specs.Int.{w64, trailing_zeros}
use Rattle.std.specs.NonZero.{non_zero_u64_get}
use Rattle.archive_hash_probing.proofs.MarkLemmas.{lowest_is, none_is}
use Rattle.archive_hash_probing.proofs.scanning.bitmask.Bitmask.lowest_set_bit.Goals as goal

pub returns-in_err-bits : goal.returns-in_err-bits
returns-in_err-bits c marks fits e = c.from_residual.ensures ∙ sym (none_is marks (sym e ∙ c.in_err-bits.ensures))

pub returns : goal.returns
returns c marks fits e =
    let same : non_zero_u64_get c.in_ok-bits.bits ≡ c.args.self.bits = c.in_ok-bits.ensures in
    let some : 0 < c.args.self.bits = omega (arith, same, c.in_ok-bits.bits.ok) in
    ap Some (c.trailing_zeros.ensures ∙ ap (trailing_zeros w64) same) ∙ lowest_is marks c.args.self.bits fits some e
