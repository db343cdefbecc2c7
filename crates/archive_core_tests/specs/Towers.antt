-- Towers: the layout, how one is archived, and what one is read back as. A tower of some levels is two pointers to the
-- tower of one level less, which they share, and a tower of no level is none.
use Rattle.std.specs.Prelude.{◌≡◌, ℕ, zero, suc, ◌+◌, min, false, List, [], ◌∷◌, Some}
use Rattle.archive_shape_layout.specs.Shape.{Shape}
use Rattle.archive_shape_layout.specs.Shape.Alignment.{four}
use Rattle.archive_shape_layout.specs.Shape.Shape.{shared, vector, named}
use Rattle.archive_shape_layout.specs.Shape.Pointee.{sized}
use Rattle.archive_shape_layout.specs.Value.{Value, Values}
use Rattle.archive_shape_layout.specs.Value.Value.{natural, integer, boolean, string, group, chosen, counted, back}
use Rattle.archive_shape_layout.specs.Value.Values.{no_values, more_values}
use Rattle.archive_shape_layout.specs.Content.{Names, shape_named}
use Rattle.archive_forms_laws.specs.Spelling.{Spelling}
use Rattle.archive_forms_laws.specs.Forms.{seen_as, kept_as}
use Rattle.archive_forms_laws.specs.Pointers.{slice_spelling}
use Rattle.archive_forms_laws.specs.Shared.{shared_value_spelling}
use Rattle.archive_forms_laws.specs.Fields.{unit_spelling}
use Rattle.archive_forms_laws.specs.Levels.{self_spelling}
use Rattle.archive_forms_values.specs.declared.reading.resolving.VecResolver.{VecResolver}

-- ---- layout

abbrev pub tower_shape : Shape
tower_shape = named 2 8 four

abbrev pub pointer_shape : Shape
pointer_shape = shared false (sized tower_shape)

abbrev pub tower_body : Shape
tower_body = vector pointer_shape

abbrev pub KnowsTower : Names → Type 0
KnowsTower names = shape_named names 2 ≡ Some tower_body

-- ---- how a tower is archived

-- the levels of the towers that the pointers lead to
abbrev pub towers_below : ℕ → List ℕ
towers_below zero = []
towers_below (suc n) = n ∷ n ∷ []

-- each tower is shared under its number of levels
abbrev pub pointed_spelling : Spelling ℕ VecResolver → Spelling ℕ ℕ
pointed_spelling w = shared_value_spelling tower_shape (λ n. n) w

abbrev pub tower_level : Spelling ℕ VecResolver → Spelling ℕ VecResolver
tower_level w = kept_as (λ n. record { pos = n }) (λ r. r.pos) (seen_as towers_below (slice_spelling pointer_shape (pointed_spelling w)))

abbrev pub no_tower : Spelling ℕ VecResolver
no_tower = kept_as (λ _. record { pos = 0 }) (λ _. tt) unit_spelling

abbrev pub tower_spelling : Spelling ℕ VecResolver
tower_spelling = self_spelling tower_level no_tower (λ n. n)

-- ---- what it is read back as

abbrev mutual
  -- the number of levels, up to 255, of what the first pointer leads to, and one more
  pub levels_of : Value → ℕ
  levels_of (group vs) = first_levels vs
  levels_of (counted n v) = min (levels_of v + 1) 255
  levels_of (natural n) = 0
  levels_of (integer n) = 0
  levels_of (boolean b) = 0
  levels_of (string s) = 0
  levels_of (chosen n vs) = 0
  levels_of (back n) = 0

  pub first_levels : Values → ℕ
  first_levels no_values = 0
  first_levels (more_values v vs) = levels_of v
