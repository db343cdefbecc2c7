-- Texts in the bytes, by the values that the layout has.
use Rattle.std.proofs.Common.{ℕ, List}
use Rattle.archive_shape_layout.specs.Shape.Shape.{text}
use Rattle.archive_shape_layout.specs.Value.{Value}
use Rattle.archive_shape.specs.Key.{HeldAt}
use Rattle.archive_shape.proofs.Held.{claims_within}
use Rattle.archive_forms_laws.specs.Text.{HasText, IsTextThere}
use Rattle.archive_forms_laws.proofs.Held.{held_is_text_law}
use Rattle.archive_forms_values.specs.Parts.{HasValue}
use Rattle.archive_example_stock.specs.Stock.{any}

module _ (bytes : List ℕ) (pos : ℕ) where
  pub held_there : (v : Value) → HeldAt text any bytes pos v → IsTextThere bytes pos v
  held_there v held = held_is_text_law held.names bytes held.level held.inside pos _ held.regions held.before held.after held.own_within (claims_within held) held.holds

  pub text_there : HasValue text any bytes pos → HasText bytes pos
  text_there h = (held_there h.value h.held).stands.there
