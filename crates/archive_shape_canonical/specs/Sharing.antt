-- Shared values: what two of them have in common regardless of their positions, and that each is written once.
use Rattle.std.specs.Prelude.{◌≡◌, ℕ, ◌+◌, ◌==◌, cond, List, [], ◌∷◌, ⊤}
use Rattle.archive_shape_layout.specs.Value.{Value, Values}
use Rattle.archive_shape_layout.specs.Value.Value.{natural, integer, boolean, string, group, chosen, counted, back}
use Rattle.archive_shape_layout.specs.Value.Values.{no_values, more_values}
use Rattle.archive_shape_layout.specs.Holds.{Visit}

-- a shared value that has no byte is followed by one, so that each has its own position
abbrev pub end_of_shared : ℕ → ℕ → ℕ
end_of_shared t end = cond (end == t) (end + 1) end

-- ---- values without the positions of shared ones

abbrev mutual
  pub erased : Value → Value
  erased (natural n) = natural n
  erased (integer z) = integer z
  erased (boolean b) = boolean b
  erased (string bs) = string bs
  erased (group vs) = group (all_erased vs)
  erased (chosen t vs) = chosen t (all_erased vs)
  erased (counted t v) = counted 0 (erased v)
  erased (back t) = back t

  pub all_erased : Values → Values
  all_erased no_values = no_values
  all_erased (more_values v vs) = more_values (erased v) (all_erased vs)

-- two shared positions do not have one value of one type
abbrev pub Differ : Visit → Visit → Type 0
Differ a b = a.pointee ≡ b.pointee → erased a.value ≡ erased b.value → ⊥

abbrev pub AllDiffer : Visit → List Visit → Type 0
AllDiffer a [] = ⊤
AllDiffer a (b ∷ bs) = Differ a b × AllDiffer a bs

abbrev pub AreDistinct : List Visit → Type 0
AreDistinct [] = ⊤
AreDistinct (a ∷ bs) = AllDiffer a bs × AreDistinct bs
