-- Which bytes of a word the subtraction marks.
use Rattle.std.specs.Prelude.{ℕ, ◌<◌, Bool, nat_le, cond, List, [], ◌∷◌, ⊤}

-- each is below 256
abbrev pub AreBytes : List ℕ → Type 0
AreBytes [] = ⊤
AreBytes (x ∷ xs) = (x < 256) × AreBytes xs

-- a byte of 0, or one of 1 to which a marked byte below carries
abbrev pub marks_from : List ℕ → ℕ → List Bool
marks_from [] carry = []
marks_from (x ∷ xs) carry = nat_le x carry ∷ marks_from xs (cond (nat_le x carry) 1 0)
