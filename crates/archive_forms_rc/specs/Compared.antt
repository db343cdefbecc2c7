-- How counted pointers are compared and what is hashed of them, by the values that they lead to.
use Rattle.std.specs.Prelude.{◌≡◌, ℕ, List, ◌↔◌}
use Rattle.std.specs.declared.cmp.Ordering.{Ordering}
use Rattle.std.specs.Ordering.{on, nat_cmp}
use Rattle.std.specs.Cmp.Lexicographic.{slice_cmp}
use Rattle.archive_shape_layout.specs.Value.{Value}
use Rattle.archive_shape_layout.specs.Value.Value.{counted}
use Rattle.archive_forms_laws.specs.Views.{text_of}
use Rattle.archive_forms_laws.specs.Orders.{Equality, Order, Hashed}

-- the value that one counts, regardless of its position; a value of another form is seen as itself
abbrev pub counted_of : Value → Value
counted_of (counted pos v) = v
counted_of v = v

abbrev pub counted_equality : Equality → Equality
counted_equality E = on counted_of E

abbrev pub counted_order : Order → Order
counted_order R = on counted_of R

abbrev pub counted_hashed : Hashed → Hashed
counted_hashed F v = F (counted_of v)

-- keys that are compared with queries of a type of texts represent the text that a counted pointer leads to, and are in
-- the order of texts by their bytes
pub record IsComparedAsText {Q : Type 0} (text : Q → List ℕ) (stands_for : Value → Q → Type 0) (order : Q → Q → Ordering) : Type 0 where
  pub represents : (value : Value) (key : Q) → stands_for value key ↔ (text_of (counted_of value) ≡ text key)
  pub is_by_bytes : (key query : Q) → order key query ≡ slice_cmp nat_cmp (text key) (text query)
