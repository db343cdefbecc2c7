-- The stops of a hash, as they are passed: strides begin at those before an end.
use Rattle.std.specs.Prelude.{ℕ, zero, suc, ◌+◌, ◌-◌, ◌*◌, ◌%◌, ◌^◌, ◌<◌, ◌≤◌, nat_lt, List, [], ◌∷◌, filter}

-- n stops modulo `ring`, the first of which is the k-th: each next one is 16 times its number further
abbrev pub stops_from : ℕ → ℕ → ℕ → ℕ → List ℕ
stops_from ring zero k position = []
stops_from ring (suc n) k position = position ∷ stops_from ring n (k + 1) ((position + 16 * (k + 1)) % ring)

-- the positions at which strides begin, of `count` stops of which `passed` were passed
unfoldable pub strides_left : (end count passed position : ℕ) → List ℕ
strides_left end count passed position = filter (λ p. nat_lt p end) (stops_from (16 * count) (count - passed) passed position)

-- the ring has sixteen positions for each stop
pub record IsStop (count passed position : ℕ) : Type 0 where
  pub within : position < 16 * count
  pub left : passed ≤ count
  pub few : count < 2 ^ 29
