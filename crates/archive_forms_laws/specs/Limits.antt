-- How values of a type are archived where own bytes have room for some of its values only.
use Rattle.std.specs.Prelude.{◌≡◌, ℕ, ℤ, ◌^◌, ◌<◌, ◌⊎◌, true, false, FitsSigned}
use Rattle.std.specs.Int.{w32, to_le_bytes, cast_unsigned}
use Rattle.archive_shape_layout.specs.Shape.Shape.{number}
use Rattle.archive_shape_layout.specs.Value.Value.{natural, integer}
use Rattle.archive_shape_layout.specs.declared.error.Error.{Error}
use Rattle.archive_shape_layout.specs.declared.error.Error.TheVariants.{IsizeOverflow, LengthTooLarge}
use Rattle.archive_forms_laws.specs.Spelling.{Spelling}
use Rattle.archive_forms_laws.specs.Forms.{leaf_spelling}

-- a value that is archived where there is room for it, and else is refused with an error
abbrev pub limited : {A R : Type 0} → (A → Type 0) → Error → Spelling A R → Spelling A R
limited has_room refusal w = record {
  value = w.value;
  plain = w.plain;
  piece = w.piece;
  resolver = w.resolver;
  met = w.met;
  own = w.own;
  piece_fits = w.piece_fits;
  piece_refused = w.piece_refused;
  own_fits = λ x r pos. has_room x × w.own_fits x r pos;
  own_refused = λ x r pos e. ((has_room x → ⊥) × (e ≡ refusal)) ⊎ w.own_refused x r pos e;
  suits = w.suits;
}

-- a `usize` and an `isize` are archived as numbers of four bytes
abbrev pub usize_spelling : Spelling ℕ (Unit {0})
usize_spelling = limited (λ n. n < 2 ^ 32) LengthTooLarge (leaf_spelling (number w32 false) (to_le_bytes w32) natural)

abbrev pub isize_spelling : Spelling ℤ (Unit {0})
isize_spelling = limited (FitsSigned w32) IsizeOverflow (leaf_spelling (number w32 true) (λ n. to_le_bytes w32 (cast_unsigned w32 n)) integer)
