-- How contiguous values are archived: their data one after the other, and after it the region of their own bytes.
use Rattle.std.specs.Prelude.{◌≡◌, ℕ, ◌+◌, ◌-◌, ◌^◌, ◌<◌, ◌≤◌, List, [], ◌∷◌, ◌++◌, length, ⊤, ◌⊎◌}
use Rattle.archive_shape_layout.specs.Bytes.{align_up}
use Rattle.archive_shape_layout.specs.Shape.{Shape, size_of, align_of}
use Rattle.archive_shape_layout.specs.Value.{Values}
use Rattle.archive_shape_layout.specs.Value.Values.{no_values, more_values}
use Rattle.archive_shape_canonical.specs.Settled.{Fit}
use Rattle.archive_shape.specs.Bytes.{zeros}
use Rattle.archive_shape_layout.specs.declared.error.Error.{Error}
use Rattle.archive_shape_layout.specs.declared.error.Error.TheVariants.{PositionTooLarge}
use Rattle.archive_forms_laws.specs.State.{State, Keys}
use Rattle.archive_forms_laws.specs.Spelling.{Spelling, state_after}

module _ {A R : Type 0} (w : Spelling A R) where
  -- the state when the data of all is written
  abbrev pub state_after_all : List A → State → State
  state_after_all [] st = st
  state_after_all (x ∷ xs) st = state_after_all xs (state_after w x st)

  abbrev pub values : List A → State → Values
  values [] st = no_values
  values (x ∷ xs) st = more_values (w.value x st) (values xs (state_after w x st))

  abbrev pub plain_values : List A → Values
  plain_values [] = no_values
  plain_values (x ∷ xs) = more_values (w.plain x) (plain_values xs)

  abbrev pub all_suit : Fit → Keys → List A → Type 0
  all_suit fit keys [] = ⊤
  all_suit fit keys (x ∷ xs) = w.suits fit keys x × all_suit fit keys xs

  -- their data, one after the other
  abbrev pub pieces : List A → State → List ℕ
  pieces [] st = []
  pieces (x ∷ xs) st = w.piece x st ++ pieces xs (state_after w x st)

  abbrev pub resolvers : List A → State → List R
  resolvers [] st = []
  resolvers (x ∷ xs) st = w.resolver x st ∷ resolvers xs (state_after w x st)

  -- their own bytes at a position, where their data was written from a state on
  abbrev pub owns : List A → State → ℕ → List ℕ
  owns [] st pos = []
  owns (x ∷ xs) st pos = let own = w.own x (w.resolver x st) pos in own ++ owns xs (state_after w x st) (pos + length own)

  -- ---- limits

  abbrev pub pieces_fit : List A → State → Type 0
  pieces_fit [] st = ⊤
  pieces_fit (x ∷ xs) st = w.piece_fits x st × pieces_fit xs (state_after w x st)

  abbrev pub pieces_refused : List A → State → Error → Type 0
  pieces_refused [] st e = ⊥
  pieces_refused (x ∷ xs) st e = w.piece_refused x st e ⊎ pieces_refused xs (state_after w x st) e

  -- the own bytes of a value exceed no limit, and end before position 2^64
  abbrev pub placed_fits : Shape → A → R → ℕ → Type 0
  placed_fits s x r pos = w.own_fits x r pos × (pos + size_of s < 2 ^ 64)

  abbrev pub placed_refused : Shape → A → R → ℕ → Error → Type 0
  placed_refused s x r pos e = w.own_refused x r pos e ⊎ ((2 ^ 64 ≤ pos + size_of s) × (e ≡ PositionTooLarge))

  abbrev pub owns_fit : Shape → List A → State → ℕ → Type 0
  owns_fit s [] st pos = ⊤
  owns_fit s (x ∷ xs) st pos =
      placed_fits s x (w.resolver x st) pos × owns_fit s xs (state_after w x st) (pos + length (w.own x (w.resolver x st) pos))

  abbrev pub owns_refused : Shape → List A → State → ℕ → Error → Type 0
  owns_refused s [] st pos e = ⊥
  owns_refused s (x ∷ xs) st pos e =
      placed_refused s x (w.resolver x st) pos e
      ⊎ owns_refused s xs (state_after w x st) (pos + length (w.own x (w.resolver x st) pos)) e

  -- ---- regions

  -- a region of elements is written after their data, at the next position of their alignment
  abbrev pub region_at : Shape → List A → State → ℕ
  region_at s xs st = align_up (state_after_all xs st).pos (align_of s)

  abbrev pub region_piece : Shape → List A → State → List ℕ
  region_piece s xs st =
      let start = region_at s xs st in
      pieces xs st ++ (zeros (start - (state_after_all xs st).pos) ++ owns xs st start)

  abbrev pub region_fits : Shape → List A → State → Type 0
  region_fits s xs st = pieces_fit xs st × (region_at s xs st < 2 ^ 32) × owns_fit s xs st (region_at s xs st)

  abbrev pub region_refused : Shape → List A → State → Error → Type 0
  region_refused s xs st e =
      pieces_refused xs st e ⊎ (((2 ^ 32 ≤ region_at s xs st) × (e ≡ PositionTooLarge)) ⊎ owns_refused s xs st (region_at s xs st) e)
