-- How texts are archived: inline, or as bytes that a length and an offset lead to; and pointers to texts.
use Rattle.std.specs.Prelude.{◌≡◌, ℕ, ◌+◌, ◌-◌, ◌*◌, ◌/◌, ◌%◌, ◌^◌, ◌<◌, ◌≤◌, nat_le, Bool, true, false, List, [], ◌++◌, length, replicate, IsUtf8, ◌⊎◌, ⊤}
use Rattle.std.specs.Int.{w32, to_le_bytes}
use Rattle.archive_shape_layout.specs.Value.Value.{string}
use Rattle.archive_shape_layout.specs.declared.error.Error.{Error}
use Rattle.archive_shape_layout.specs.declared.error.Error.TheVariants.{IsizeOverflow, LengthTooLarge, PositionTooLarge, StringTooLong}
use Rattle.archive_forms_laws.specs.Spelling.{Spelling}
use Rattle.archive_shape.specs.Offsets.{FitsOffset, offset_bytes}

-- a text of at most eight bytes is inline
abbrev pub is_short : List ℕ → Bool
is_short t = nat_le (length t) 8

-- the word that says the length of a text out of line: the low six bits of the length, the bits 10, and the others
abbrev pub length_word : ℕ → ℕ
length_word n = n % 64 + 128 + n / 64 * 256

-- inline, a text is filled up with ff
abbrev pub inline_bytes : List ℕ → List ℕ
inline_bytes t = t ++ replicate (8 - length t) 255

-- ---- by whether the text is short: inline there are own bytes alone, and out of line the text is written first

abbrev pub text_piece : Bool → List ℕ → List ℕ
text_piece true t = []
text_piece false t = t

-- the position of the bytes; there is none of a short text
abbrev pub text_resolver : Bool → (from : ℕ) → ℕ
text_resolver true from = 0
text_resolver false from = from

abbrev pub text_own : Bool → List ℕ → (to pos : ℕ) → List ℕ
text_own true t to pos = inline_bytes t
text_own false t to pos = to_le_bytes w32 (length_word (length t)) ++ offset_bytes pos to

-- a text out of line has at most 2^30 - 1 bytes
abbrev pub text_piece_fits : Bool → List ℕ → (from : ℕ) → Type 0
text_piece_fits true t from = ⊤
text_piece_fits false t from = (length t < 2 ^ 30) × (from < 2 ^ 32)

abbrev pub text_piece_refused : Bool → List ℕ → (from : ℕ) → Error → Type 0
text_piece_refused true t from e = ⊥
text_piece_refused false t from e = ((2 ^ 30 ≤ length t) × (e ≡ StringTooLong)) ⊎ ((2 ^ 32 ≤ from) × (e ≡ PositionTooLarge))

abbrev pub text_own_fits : Bool → List ℕ → (to pos : ℕ) → Type 0
text_own_fits true t to pos = ⊤
text_own_fits false t to pos = (length t < 2 ^ 30) × FitsOffset pos to

abbrev pub text_own_refused : Bool → List ℕ → (to pos : ℕ) → Error → Type 0
text_own_refused true t to pos e = ⊥
text_own_refused false t to pos e = ((2 ^ 30 ≤ length t) × (e ≡ StringTooLong)) ⊎ ((FitsOffset pos to → ⊥) × (e ≡ IsizeOverflow))

-- a text, as its bytes, which are UTF-8; the resolver is the position of those out of line
abbrev pub text_spelling : Spelling (List ℕ) ℕ
text_spelling = record {
  value = λ t st. string t;
  plain = λ t. string t;
  piece = λ t st. text_piece (is_short t) t;
  resolver = λ t st. text_resolver (is_short t) st.pos;
  met = λ t st. st.met;
  own = λ t to pos. text_own (is_short t) t to pos;
  piece_fits = λ t st. IsUtf8 t × text_piece_fits (is_short t) t st.pos;
  piece_refused = λ t st e. text_piece_refused (is_short t) t st.pos e;
  own_fits = λ t to pos. IsUtf8 t × text_own_fits (is_short t) t to pos;
  own_refused = λ t to pos e. text_own_refused (is_short t) t to pos e;
  suits = λ fit keys t. ⊤;
}

-- a pointer to a text, of any length; the resolver is the position of its first byte
abbrev pub boxed_text_spelling : Spelling (List ℕ) ℕ
boxed_text_spelling = record {
  value = λ t st. string t;
  plain = λ t. string t;
  piece = λ t st. t;
  resolver = λ t st. st.pos;
  met = λ t st. st.met;
  own = λ t to pos. offset_bytes pos to ++ to_le_bytes w32 (length t);
  piece_fits = λ t st. IsUtf8 t × (st.pos < 2 ^ 32);
  piece_refused = λ t st e. (2 ^ 32 ≤ st.pos) × (e ≡ PositionTooLarge);
  own_fits = λ t to pos. FitsOffset pos to × (length t < 2 ^ 32);
  own_refused = λ t to pos e. ((FitsOffset pos to → ⊥) × (e ≡ IsizeOverflow)) ⊎ ((2 ^ 32 ≤ length t) × (e ≡ LengthTooLarge));
  suits = λ fit keys t. ⊤;
}
