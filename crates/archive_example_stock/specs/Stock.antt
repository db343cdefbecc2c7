-- The layout of a stock.
use Rattle.std.specs.Prelude.{ℕ, List, [], ◌∷◌, false, ⊤}
use Rattle.std.specs.Int.{w32, to_le_bytes}
use Rattle.archive_shape_layout.specs.Shape.{Shape}
use Rattle.archive_shape_layout.specs.Shape.Shape.{number, text, table, tree, vector, shared}
use Rattle.archive_shape_layout.specs.Shape.Pointee.{str}
use Rattle.archive_shape_layout.specs.Value.Value.{natural}
use Rattle.archive_shape_layout.specs.Content.{Names}
use Rattle.archive_forms_laws.specs.Forms.{leaf_spelling}
use Rattle.archive_forms_laws.specs.Spelling.{Spelling}
use Rattle.archive_forms_values.specs.Fields.{Field, field, all_four}
use Rattle.archive_forms_values.specs.Parts.{both}
use Rattle.archive_forms_values.specs.Tuples.{tuple2, tuple4}

-- a price, a count, or the number of a shelf
abbrev pub number_shape : Shape
number_shape = number w32 false

-- and how it is archived
abbrev pub number_spelling : Spelling ℕ (Unit {0})
number_spelling = leaf_spelling number_shape (λ n. to_le_bytes w32 n) natural

-- the prices, by the names of the wares
abbrev pub prices_shape : Shape
prices_shape = table (tuple2 text number_shape)

-- the counts, by the numbers of the shelves
abbrev pub counts_shape : Shape
counts_shape = table (tuple2 number_shape number_shape)

-- the names of the shelves, by their numbers
abbrev pub shelves_shape : Shape
shelves_shape = tree 5 number_shape text

-- texts, of which equal ones are shared
abbrev pub labels_shape : Shape
labels_shape = vector (shared false str)

abbrev pub stock_shape : Shape
stock_shape = tuple4 prices_shape counts_shape shelves_shape labels_shape

-- no type has a name
abbrev pub any : Names → Type 0
any _ = ⊤

abbrev pub any_entry : Names → Type 0
any_entry = both any any

abbrev pub any_stock : Names → Type 0
any_stock = all_four any_entry any_entry any_entry any

-- the fields of which it is made, for what is read of them
abbrev pub stock_parts : List Field
stock_parts = field prices_shape any_entry ∷ field counts_shape any_entry ∷ field shelves_shape any_entry ∷ field labels_shape any ∷ []
