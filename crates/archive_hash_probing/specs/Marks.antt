-- Marks of lanes, and the lanes that are marked.
use Rattle.std.specs.Prelude.{ℕ, zero, suc, ◌+◌, ◌/◌, ◌%◌, cond, ◌==◌, Bool, true, false, List, [], ◌∷◌}

-- all marks but the lowest
abbrev pub without_first : List Bool → List Bool
without_first [] = []
without_first (true ∷ marks) = false ∷ marks
without_first (false ∷ marks) = false ∷ without_first marks

-- which of n bits are set, the lowest of which is that of lane i
abbrev pub lanes_from : ℕ → ℕ → ℕ → List ℕ
lanes_from zero i bits = []
lanes_from (suc n) i bits = let rest = lanes_from n (i + 1) (bits / 2) in cond (bits % 2 == 1) (i ∷ rest) rest

-- the lanes whose bits are set in a word, ascending
unfoldable pub lanes_marked : ℕ → List ℕ
lanes_marked bits = lanes_from 64 0 bits
