-- How options are archived: a tag, and after it the value or zeros.
use Rattle.std.specs.Prelude.{ℕ, ◌+◌, ◌-◌, List, [], ◌∷◌, ◌++◌, length, Option, Some, None, ⊤}
use Rattle.archive_shape_layout.specs.Bytes.{align_up}
use Rattle.archive_shape_layout.specs.Shape.{Shape, size_of, align_of}
use Rattle.archive_shape_layout.specs.Shape.Shape.{option}
use Rattle.archive_shape_layout.specs.Value.{Value}
use Rattle.archive_shape_layout.specs.Value.Value.{chosen}
use Rattle.archive_shape_layout.specs.Value.Values.{no_values, more_values}
use Rattle.archive_shape_canonical.specs.Settled.{Fit}
use Rattle.archive_shape.specs.Bytes.{zeros}
use Rattle.archive_shape_layout.specs.declared.error.Error.{Error}
use Rattle.archive_forms_laws.specs.State.{State, Met, Keys}
use Rattle.archive_forms_laws.specs.Spelling.{Spelling}

-- a tag, and after it a payload at an offset, in `size` bytes
abbrev pub tagged_bytes : ℕ → ℕ → ℕ → List ℕ → List ℕ
tagged_bytes tag offset size payload = tag ∷ (zeros (offset - 1) ++ (payload ++ zeros (size - (offset + length payload))))

-- where the payload of an option begins in it
abbrev pub payload_at : Shape → ℕ
payload_at s = align_up 1 (align_of s)

module _ {A R : Type 0} (s : Shape) (w : Spelling A R) where
  abbrev pub option_value : Option A → State → Value
  option_value None st = chosen 0 no_values
  option_value (Some x) st = chosen 1 (more_values (w.value x st) no_values)

  abbrev pub option_plain : Option A → Value
  option_plain None = chosen 0 no_values
  option_plain (Some x) = chosen 1 (more_values (w.plain x) no_values)

  abbrev pub option_piece : Option A → State → List ℕ
  option_piece None st = []
  option_piece (Some x) st = w.piece x st

  abbrev pub option_resolver : Option A → State → Option R
  option_resolver None st = None
  option_resolver (Some x) st = Some (w.resolver x st)

  abbrev pub option_met : Option A → State → List Met
  option_met None st = st.met
  option_met (Some x) st = w.met x st

  abbrev pub option_own : Option A → Option R → ℕ → List ℕ
  option_own (Some x) (Some r) pos = tagged_bytes 1 (payload_at s) (size_of (option s)) (w.own x r (pos + payload_at s))
  option_own _ _ pos = zeros (size_of (option s))

  abbrev pub option_piece_fits : Option A → State → Type 0
  option_piece_fits None st = ⊤
  option_piece_fits (Some x) st = w.piece_fits x st

  abbrev pub option_piece_refused : Option A → State → Error → Type 0
  option_piece_refused None st e = ⊥
  option_piece_refused (Some x) st e = w.piece_refused x st e

  abbrev pub option_own_fits : Option A → Option R → ℕ → Type 0
  option_own_fits (Some x) (Some r) pos = w.own_fits x r (pos + payload_at s)
  option_own_fits _ _ pos = ⊤

  abbrev pub option_own_refused : Option A → Option R → ℕ → Error → Type 0
  option_own_refused (Some x) (Some r) pos e = w.own_refused x r (pos + payload_at s) e
  option_own_refused _ _ pos e = ⊥

  abbrev pub option_suits : Fit → Keys → Option A → Type 0
  option_suits fit keys None = ⊤
  option_suits fit keys (Some x) = w.suits fit keys x

  abbrev pub option_spelling : Spelling (Option A) (Option R)
  option_spelling = record {
    value = option_value;
    plain = option_plain;
    piece = option_piece;
    resolver = option_resolver;
    met = option_met;
    own = option_own;
    piece_fits = option_piece_fits;
    piece_refused = option_piece_refused;
    own_fits = option_own_fits;
    own_refused = option_own_refused;
    suits = option_suits;
  }
