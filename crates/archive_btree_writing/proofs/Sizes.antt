-- How many bytes the resolvers of a node have.
use Rattle.std.proofs.Common.{◌≡◌, ℕ, ◌+◌, ◌-◌, ◌*◌, ◌^◌, ◌≤◌, ◌<◌, max, Bool, true, false, cond, ltb, arith, mul-le-mul_right}
use prog.Memory.{up, capped}

uncapped : (b : Bool) (n r : ℕ) → r ≡ cond b n (2 ^ 64 - 1) → r ≤ 2147483647 → r ≡ n
uncapped true n r e h = e
uncapped false n r e h = absurd (omega (arith, e, h))

-- an array of `most` elements fits, where an option of one has few bytes
pub few_fit : (most size tag align r : ℕ) → r ≡ capped (up align (max 1 (max (tag + size) 1))) → r ≤ 2147483647 → most < 2 ^ 32 → most * size < 9223372036854775808
few_fit most size tag align r e h few =
    let whole = up align (max 1 (max (tag + size) 1)) in
    let same : r ≡ whole = uncapped (ltb whole (2 ^ 64)) whole r e h in
    let small : size ≤ 2147483647 = omega (arith, same, h) in
    let bound : most * size ≤ 4294967295 * size = mul-le-mul_right size (omega (arith, few)) in
    omega (arith, bound, small)

-- fewer elements fit as well
pub few_within : (i most size limit : ℕ) → i ≤ most → most * size < limit → i * size < limit
few_within i most size limit h fits = let bound : i * size ≤ most * size = mul-le-mul_right size h in omega (arith, bound, fits)
