-- How pointers are archived: to the elements of a list, and to one value.
use Rattle.std.specs.Prelude.{◌≡◌, ℕ, ◌^◌, ◌<◌, ◌≤◌, List, [], ◌∷◌, ◌++◌, length, ◌⊎◌}
use Rattle.std.specs.Int.{w32, to_le_bytes}
use Rattle.archive_shape_layout.specs.Shape.{Shape}
use Rattle.archive_shape_layout.specs.Value.Value.{group}
use Rattle.archive_shape_layout.specs.declared.error.Error.TheVariants.{IsizeOverflow, LengthTooLarge}
use Rattle.archive_shape.specs.Offsets.{FitsOffset, offset_bytes}
use Rattle.archive_forms_laws.specs.Spelling.{Spelling}
use Rattle.archive_forms_laws.specs.Regions.{state_after_all, values, plain_values, all_suit, region_at, region_piece, region_fits, region_refused}

-- a pointer to the elements of a list; the resolver is the position of the first
abbrev pub slice_spelling : {A R : Type 0} → Shape → Spelling A R → Spelling (List A) ℕ
slice_spelling s w = record {
  value = λ xs st. group (values w xs st);
  plain = λ xs. group (plain_values w xs);
  piece = λ xs st. region_piece w s xs st;
  resolver = λ xs st. region_at w s xs st;
  met = λ xs st. (state_after_all w xs st).met;
  own = λ xs to pos. offset_bytes pos to ++ to_le_bytes w32 (length xs);
  piece_fits = λ xs st. region_fits w s xs st;
  piece_refused = λ xs st e. region_refused w s xs st e;
  own_fits = λ xs to pos. FitsOffset pos to × (length xs < 2 ^ 32);
  own_refused = λ xs to pos e. ((FitsOffset pos to → ⊥) × (e ≡ IsizeOverflow)) ⊎ ((2 ^ 32 ≤ length xs) × (e ≡ LengthTooLarge));
  suits = λ fit keys xs. all_suit w fit keys xs;
}

-- a pointer to one value
abbrev pub box_spelling : {A R : Type 0} → Shape → Spelling A R → Spelling A ℕ
box_spelling s w = record {
  value = w.value;
  plain = w.plain;
  piece = λ x st. region_piece w s (x ∷ []) st;
  resolver = λ x st. region_at w s (x ∷ []) st;
  met = w.met;
  own = λ x to pos. offset_bytes pos to;
  piece_fits = λ x st. region_fits w s (x ∷ []) st;
  piece_refused = λ x st e. region_refused w s (x ∷ []) st e;
  own_fits = λ x to pos. FitsOffset pos to;
  own_refused = λ x to pos e. (FitsOffset pos to → ⊥) × (e ≡ IsizeOverflow);
  suits = w.suits;
}
