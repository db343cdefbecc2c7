-- The place of a control below twice the capacity.
use Rattle.std.proofs.Common.{◌≡◌, ℕ, ◌-◌, ◌*◌, ◌%◌, ◌<◌, ◌≤◌, sym, ◌∙◌, arith}
use native.Mathlib.Nat.{mod-eq_of_lt, mod-eq-sub-mod}

pub wrapped_low : (c cap : ℕ) → c < cap → c ≡ c % cap
wrapped_low c cap h = sym (mod-eq_of_lt h)

pub wrapped_high : (c cap : ℕ) → cap ≤ c → c < 2 * cap → c - cap ≡ c % cap
wrapped_high c cap h l = let low : c - cap < cap = omega arith in sym (mod-eq-sub-mod h ∙ mod-eq_of_lt low)
