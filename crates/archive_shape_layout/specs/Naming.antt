-- Lists of the types that hold themselves, each with its shape under its name.
use Rattle.std.specs.Prelude.{◌≡◌, All, AllPairs, Some}
use Rattle.archive_shape_layout.specs.Content.{Names, shape_named}

-- a list gives each of these types its shape
abbrev pub HasTypes : Names → Names → Type 0
HasTypes names types = All (λ type. shape_named names type.0 ≡ Some type.1) types

-- each name denotes one shape
abbrev pub IsConsistent : Names → Type 0
IsConsistent names = AllPairs (λ earlier later. earlier.0 ≡ later.0 → earlier.1 ≡ later.1) names
