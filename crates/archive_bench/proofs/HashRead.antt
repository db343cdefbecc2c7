-- Texts, entries and their parts that are there.
use denote.Ref.{Bor}
use Rattle.std.proofs.Common.{◌≡◌, ℕ, List, ◌∷◌, All, subst, sym}
use Rattle.std.proofs.lemmas.List.Elements.{All-head, All-tail}
use Rattle.archive_shape_layout.specs.Content.{Names}
use Rattle.archive_shape_layout.specs.Shape.Shape.{text}
use Rattle.archive_shape_layout.specs.Shape.Shapes.{no_shapes}
use Rattle.archive_shape.specs.declared.references.refs.Ref.{Ref}
use Rattle.archive_shape.proofs.Held.{claims_within}
use Rattle.archive_forms_laws.specs.Text.{HasText}
use Rattle.archive_forms_laws.proofs.Held.{held_is_text_law}
use Rattle.archive_forms_values.specs.Parts.{HasValue}
use Rattle.archive_forms_values.specs.Fields.{field_position}
use Rattle.archive_hash_maps.proofs.Entries.{entry_parts}
use Rattle.archive_bench.specs.HashTexts.{text_shape, number_shape, entry_shape, known, entry_known}
use Rattle.archive_bench.proofs.Held.{text_there}

-- the key and the value of an entry
pub key_there : {K : Type 0} (r : Ref K) (bytes : Bor (List ℕ)) (pos : ℕ) → r.bytes ≡ bytes → r.pos ≡ pos → HasValue entry_shape entry_known bytes.now pos → HasValue text_shape known r.bytes.now r.pos
key_there r bytes pos e f h =
    subst (λ b. HasValue text_shape known b.now r.pos) (sym e)
    (subst (λ p. HasValue text_shape known bytes.now p) (sym f) (entry_parts text_shape number_shape known known bytes.now pos h).key)

pub value_there : {V : Type 0} (r : Ref V) (bytes : Bor (List ℕ)) (pos : ℕ) → r.bytes ≡ bytes → r.pos ≡ field_position text_shape no_shapes number_shape pos → HasValue entry_shape entry_known bytes.now pos → HasValue number_shape known r.bytes.now r.pos
value_there r bytes pos e f h =
    subst (λ b. HasValue number_shape known b.now r.pos) (sym e)
    (subst (λ p. HasValue number_shape known bytes.now p) (sym f) (entry_parts text_shape number_shape known known bytes.now pos h).value)

-- values lie at an entry
abbrev pub IsThere : {K V : Type 0} → Ref K × Ref V → Type 0
IsThere e = HasValue text_shape known e.0.bytes.now e.0.pos × HasValue number_shape known e.1.bytes.now e.1.pos

-- the first of entries that are there, and the others
module _ {K V : Type 0} (x : Ref K × Ref V) (rest whole : List (Ref K × Ref V)) (steps : whole ≡ x ∷ rest) (all : All IsThere whole) where
  pub first_there : IsThere x
  first_there = All-head IsThere x rest (subst (All IsThere) steps all)

  pub rest_there : All IsThere rest
  rest_there = All-tail IsThere x rest (subst (All IsThere) steps all)
