-- The load factor of a table.
use Rattle.std.specs.Prelude.{ℕ, ◌<◌, ◌≤◌}

-- (m, n): of n places at most m may be full, and m is at least 1 and at most n
abbrev pub IsLoadFactor : ℕ × ℕ → Type 0
IsLoadFactor f = (0 < f.0) × (f.0 ≤ f.1)
