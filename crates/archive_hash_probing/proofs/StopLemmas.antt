-- The stops of a hash, one after another.
use Rattle.std.proofs.Common.{◌≡◌, ℕ, zero, suc, ◌+◌, ◌-◌, ◌*◌, ◌%◌, ◌<◌, ◌≤◌, cond, List, [], ◌∷◌, map, ltb, refl, sym, ap, ◌∙◌, arith, lt-ltb, le-ltb}
use Rattle.std.specs.List.{filter, range_with_len}
use native.Mathlib.Nat.{mod-eq_of_lt, mod-add-mod}
use Rattle.archive_shape_canonical.specs.Strides.{sixteens, least_power, stop, strides_from, strides}
use Rattle.archive_hash_probing.specs.Stops.{stops_from, strides_left, IsStop}
use Rattle.archive_hash_probing.proofs.Powers.{least_power_is, sixteens_pos, sixteens_le}

pub stop_next : (hash cap k : ℕ) → stop hash cap (k + 1) ≡ (stop hash cap k + 16 * (k + 1)) % (16 * least_power (sixteens cap))
unfolding stop
stop_next hash cap k =
    let e : hash % cap + 8 * ((k + 1) * (k + 1 + 1)) ≡ hash % cap + 8 * (k * (k + 1)) + 16 * (k + 1) = omega arith in
    ap (λ x. x % (16 * least_power (sixteens cap))) e ∙ sym (mod-add-mod (hash % cap + 8 * (k * (k + 1))) (16 * least_power (sixteens cap)) (16 * (k + 1)))

pub stop_first : (hash cap : ℕ) → 0 < cap → hash % cap ≡ stop hash cap 0
unfolding stop
stop_first hash cap some =
    let m = least_power_is (sixteens cap) (sixteens_pos cap some) in
    let below : hash % cap < cap = omega arith in
    let within : hash % cap + 8 * (0 * (0 + 1)) < 16 * least_power (sixteens cap) = omega (arith, m.above, sixteens_le cap, below) in
    sym (mod-eq_of_lt within ∙ omega arith)

stops_are : (hash cap n k : ℕ) → map (stop hash cap) (range_with_len k n) ≡ stops_from (16 * least_power (sixteens cap)) n k (stop hash cap k)
stops_are hash cap zero k = refl
stops_are hash cap (suc n) k =
    ap (λ xs. stop hash cap k ∷ xs) (stops_are hash cap n (k + 1) ∙ ap (stops_from (16 * least_power (sixteens cap)) n (k + 1)) (stop_next hash cap k))

-- before any was passed
pub strides_are : (hash cap : ℕ) → 0 < cap
    → filter (λ p. ltb p (16 * sixteens cap)) (stops_from (16 * least_power (sixteens cap)) (least_power (sixteens cap)) 0 (hash % cap)) ≡ strides hash cap
unfolding strides strides_from
strides_are hash cap some =
    ap (λ p. filter (λ p. ltb p (16 * sixteens cap)) (stops_from (16 * least_power (sixteens cap)) (least_power (sixteens cap)) 0 p)) (stop_first hash cap some)
    ∙ ap (filter (λ p. ltb p (16 * sixteens cap))) (sym (stops_are hash cap (least_power (sixteens cap)) 0))

-- a stop at which a stride begins, one at which none does, and no stop
module _ (end count passed position : ℕ) where
  next_stop : ℕ
  next_stop = (position + 16 * (passed + 1)) % (16 * count)

  others : List ℕ
  others = filter (λ p. ltb p end) (stops_from (16 * count) (count - (passed + 1)) (passed + 1) next_stop)

  opened : passed < count → strides_left end count passed position ≡ cond (ltb position end) (position ∷ others) others
  unfolding strides_left others next_stop
  opened l =
      let n : count - passed ≡ suc (count - (passed + 1)) = omega arith in
      ap (λ n. filter (λ p. ltb p end) (stops_from (16 * count) n passed position)) n

  pub left_taken : passed < count → position < end → strides_left end count passed position ≡ position ∷ strides_left end count (passed + 1) ((position + 16 * (passed + 1)) % (16 * count))
  unfolding strides_left others next_stop
  left_taken l low = opened l ∙ ap (λ b. cond b (position ∷ others) others) (lt-ltb position end low)

  pub left_skipped : passed < count → end ≤ position → strides_left end count passed position ≡ strides_left end count (passed + 1) ((position + 16 * (passed + 1)) % (16 * count))
  unfolding strides_left others next_stop
  left_skipped l high = opened l ∙ ap (λ b. cond b (position ∷ others) others) (le-ltb position end high)

  pub left_none : count ≤ passed → strides_left end count passed position ≡ []
  unfolding strides_left
  left_none l = let n : count - passed ≡ 0 = omega arith in ap (λ n. filter (λ p. ltb p end) (stops_from (16 * count) n passed position)) n

pub stop_behind : (count passed position count' passed' position' : ℕ) → IsStop count passed position → passed < count
    → position' ≡ (position + 16 * (passed + 1)) % (16 * count) → passed' ≡ passed + 1 → count' ≡ count → IsStop count' passed' position'
stop_behind count passed position count' passed' position' h l e f g =
    let low : (position + 16 * (passed + 1)) % (16 * count) < 16 * count = below (position + 16 * (passed + 1)) (16 * count) (omega arith) in
    record { within = omega (arith, low, e, g); left = omega (arith, f, g); few = omega (arith, h.few, g) }
  where
    below : (x y : ℕ) → 0 < y → x % y < y
    below x y h = omega (arith, h)
