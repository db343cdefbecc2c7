-- The values at the positions of the fields of an archived stock.
use Rattle.std.proofs.Common.{◌≡◌, ℕ, ◌+◌, ◌≤◌, List, length, refl, arith}
use Rattle.archive_shape_layout.specs.Bytes.{align_up}
use Rattle.archive_shape_layout.specs.Shape.{size_of}
use Rattle.archive_forms_values.specs.Parts.{HasValue}
use Rattle.archive_forms_values.specs.Fields.{IsGroupOf, AreFieldsAt}
use Rattle.archive_forms_values.proofs.Held.{fields_at}
use Rattle.archive_example_stock.specs.Stock.{prices_shape, counts_shape, shelves_shape, labels_shape, stock_shape, any, any_entry, any_stock, stock_parts}

-- each value that a stock has is that of its fields
pub fields_there : (bytes : List ℕ) (pos : ℕ) → AreFieldsAt stock_parts any_stock bytes pos
fields_there bytes pos = fields_at stock_parts any_stock (λ _ known. (known.0, (known.1, (known.2, (known.3, tt))))) bytes pos

module _ (bytes : List ℕ) (pos : ℕ) (h : HasValue stock_shape any_stock bytes pos) where
  fields : IsGroupOf stock_parts bytes pos h.value
  fields = fields_there bytes pos h.value h.held

  pub prices_there : HasValue prices_shape any_entry bytes pos
  prices_there = record { value = fields.each.first; held = fields.each.held }

  pub counts_there : HasValue counts_shape any_entry bytes (pos + 12)
  unfolding align_up
  counts_there = record { value = fields.each.rest.first; held = fields.each.rest.held }

  pub shelves_there : HasValue shelves_shape any_entry bytes (pos + 24)
  unfolding align_up
  shelves_there = record { value = fields.each.rest.rest.first; held = fields.each.rest.rest.held }

  pub labels_there : HasValue labels_shape any bytes (pos + 32)
  unfolding align_up
  labels_there = record { value = fields.each.rest.rest.rest.first; held = fields.each.rest.rest.rest.held }

  -- its 40 bytes lie in the buffer
  pub whole_within : pos + 40 ≤ length bytes
  unfolding align_up
  whole_within =
      let within = h.held.own_within in
      let size : size_of stock_shape ≡ 40 = refl in
      omega (arith, within, size)
