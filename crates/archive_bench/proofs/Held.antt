-- Values that are elements.
use Rattle.std.proofs.Common.{◌≡◌, ℕ, ◌+◌, ◌*◌, ◌<◌, List, ap, subst, sym}
use Rattle.archive_shape_layout.specs.Shape.{Shape, size_of}
use Rattle.archive_shape_layout.specs.Shape.Shape.{text, option}
use Rattle.archive_shape_layout.specs.Content.{Names}
use Rattle.archive_forms_laws.specs.Text.{HasText, IsText}
use Rattle.archive_shape.proofs.Held.{claims_within}
use Rattle.archive_forms_laws.proofs.Held.{held_is_text_law, text_value}
use Rattle.archive_shape_layout.specs.Value.{Value}
use Rattle.archive_shape.specs.Key.{HeldAt}
use Rattle.archive_forms_laws.specs.Views.{text_of}
use Rattle.archive_forms_values.specs.Parts.{HasValue, HasElements, IsSomeAt, some_position}

-- a value lies at each index
pub element_held : (s : Shape) (knows : Names → Type 0) (bytes : List ℕ) (start len i at : ℕ) → HasElements s knows bytes start len → i < len → at ≡ start + i * size_of s → HasValue s knows bytes at
element_held s knows bytes start len i at has h e =
    let x = has.stand.each i h in
    subst (HasValue s knows bytes) (sym e) (record { value = x.0; held = x.2 })

-- the value of an option that is some
pub some_held : (s : Shape) (knows : Names → Type 0) (bytes : List ℕ) (pos at : ℕ) → HasValue (option s) knows bytes pos → IsSomeAt s knows bytes pos → at ≡ some_position s pos → HasValue s knows bytes at
some_held s knows bytes pos at has some e =
    let p = some has.value has.held in
    subst (HasValue s knows bytes) (sym e) (record { value = p.payload; held = p.held })

pub text_there : (knows : Names → Type 0) (bytes : List ℕ) (pos : ℕ) → HasValue text knows bytes pos → HasText bytes pos
text_there knows bytes pos has =
    let held = has.held in
    (held_is_text_law held.names bytes held.level held.inside pos _ held.regions held.before held.after held.own_within (claims_within held) held.holds).stands.there

-- a text that is read is that of each value there
pub text_read : (knows : Names → Type 0) (bytes : List ℕ) (pos : ℕ) (t : List ℕ) (v : Value) → HeldAt text knows bytes pos v → IsText bytes pos t → t ≡ text_of v
text_read knows bytes pos t v held is =
    let there = held_is_text_law held.names bytes held.level held.inside pos v held.regions held.before held.after held.own_within (claims_within held) held.holds in
    sym (ap text_of (text_value bytes pos t v there is))
