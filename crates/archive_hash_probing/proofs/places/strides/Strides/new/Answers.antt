use Rattle.std.proofs.Common.{◌≡◌, ℕ, ◌-◌, ◌*◌, ◌%◌, ltb, ◌∙◌, arith}
use Rattle.std.specs.List.{filter}
use Rattle.archive_shape_canonical.specs.Strides.{sixteens, least_power}
use Rattle.archive_hash_probing.specs.Stops.{stops_from, strides_left}
use Rattle.archive_hash_probing.proofs.Powers.{same_power, least_power_is, sixteens_pos}
use Rattle.archive_hash_probing.proofs.StopLemmas.{strides_are}
use Rattle.archive_hash_probing.proofs.places.strides.Strides.new.Goals as goal

pub returns : goal.returns
unfolding strides_left
returns c =
    let cap : ℕ = c.args.capacity in
    let n : ℕ = sixteens cap in
    let rounded : c.div_ceil-sixteens.result ≡ n = omega (arith, c.div_ceil-sixteens.ensures) in
    let p = c.next_power_of_two.ensures.power in
    let count : c.next_power_of_two.result ≡ least_power n =
    same_power n _ _ (record { exponent = p.0; power = p.1; above = omega arith; least = omega (arith, sixteens_pos cap c.requires.some) }) (least_power_is n (sixteens_pos cap c.requires.some)) in
    let all : c.next_power_of_two.result - 0 ≡ least_power n = omega (arith, count) in
    (λ i. filter (λ p. ltb p (16 * rounded i)) (stops_from (16 * count i) (all i) 0 (c.args.hash % cap))) ∙ strides_are c.args.hash cap c.requires.some
