-- The position of a text's bytes, by its own bytes.
use Rattle.std.proofs.Common.{◌≡◌, ℕ, ◌+◌, ◌<◌, ◌≤◌, Bool, true, false, List, length, drop, slice_index, Some, if◌then◌else◌, refl, sym, ap, subst, ◌∙◌, arith, length-append, length-take, length-drop}
use Rattle.archive_shape_layout.specs.Bytes.{window, word_at, target_from}
use Rattle.archive_shape_layout.specs.Content.{IsInline, before_ff, text_length}
use Rattle.archive_shape_layout.proofs.Texts.{split_at_filler}
use Rattle.archive_shape.proofs.Pieces.{length-window}
use Rattle.archive_forms_laws.proofs.Once.{one_place}
use Rattle.archive_forms_laws.proofs.TextContent.{before_ff-take}
use Rattle.archive_forms_values.specs.Repr.{length_of}
use Rattle.archive_forms_laws.specs.Text.{own_bytes, LiesAt, HasText, IsText, HasLength}
use Rattle.archive_forms_laws.specs.Text.LiesAt.{inline, out_of_line}

-- ---- by the bytes there

-- a text out of line
pub record StandsFar (bytes : List ℕ) (pos start len : ℕ) : Type 0 where
  pub says : len ≡ text_length (word_at (own_bytes bytes pos) 0)
  pub long : 8 < len
  pub leads : target_from pos (word_at (own_bytes bytes pos) 4) ≡ Some start

pub stands_far : (bytes : List ℕ) (pos start len : ℕ) → LiesAt bytes pos start len → (IsInline (slice_index (own_bytes bytes pos) 0) → ⊥) → StandsFar bytes pos start len
stands_far bytes pos start len (inline a e) n = absurd (n a)
stands_far bytes pos start len (out_of_line a e f g) n = record { says = e; long = f; leads = g }

chosen_true : (b : Bool) (m n : ℕ) → b ≡ true → (if b then m else n) ≡ m
chosen_true b m n e = rw e refl

chosen_false : (b : Bool) (m n : ℕ) → (b ≡ true → ⊥) → (if b then m else n) ≡ n
chosen_false true m n h = absurd (h refl)
chosen_false false m n h = refl

pub stands_long : (bytes : List ℕ) (pos start len : ℕ) → LiesAt bytes pos start len → len ≡ length_of (own_bytes bytes pos)
stands_long bytes pos start len (inline a e) =
    e ∙ sym (chosen_true _ (length (before_ff (own_bytes bytes pos))) (text_length (word_at (own_bytes bytes pos) 0)) a)
stands_long bytes pos start len (out_of_line a e f g) =
    e ∙ sym (chosen_false _ (length (before_ff (own_bytes bytes pos))) (text_length (word_at (own_bytes bytes pos) 0)) a)

-- ---- the text itself

module _ (bytes : List ℕ) (pos : ℕ) (there : HasText bytes pos) (own : List ℕ) (is : own ≡ own_bytes bytes pos) where
  text_from : (start len : ℕ) (t : List ℕ) → LiesAt bytes pos start len → t ≡ window bytes start len → IsText bytes pos t
  text_from start len t stands e =
      let place = one_place bytes pos start len there.start there.len stands there.stands in
      record { there = there; is = e ∙ ap (λ n. window bytes n len) place.0 ∙ ap (window bytes there.start) place.1 }

  pub inline_text : (t : List ℕ) → IsInline (slice_index own 0) → t ≡ before_ff own → IsText bytes pos t
  inline_text t begins e =
      let first : IsInline (slice_index (own_bytes bytes pos) 0) = subst (λ bs. IsInline (slice_index bs 0)) is begins in
      text_from pos (length (before_ff (own_bytes bytes pos))) t (inline first refl) (e ∙ ap before_ff is ∙ before_ff-take 8 (drop pos bytes))

  pub far_text : (start len : ℕ) (t : List ℕ) → (IsInline (slice_index own 0) → ⊥) → len ≡ text_length (word_at own 0) → target_from pos (word_at own 4) ≡ Some start → t ≡ window bytes start len → IsText bytes pos t
  far_text start len t begins says leads e =
      let first : IsInline (slice_index (own_bytes bytes pos) 0) → ⊥ = subst (λ bs. IsInline (slice_index bs 0) → ⊥) is begins in
      let far = stands_far bytes pos there.start there.len there.stands first in
      let length_says : len ≡ text_length (word_at (own_bytes bytes pos) 0) = says ∙ ap (λ bs. text_length (word_at bs 0)) is in
      let long : 8 < len = subst (λ n. 8 < n) (far.says ∙ sym length_says) far.long in
      text_from start len t (out_of_line first length_says long (ap (λ bs. target_from pos (word_at bs 4)) (sym is) ∙ leads)) e

  -- the position of the bytes of a text inline, and of those of a text out of line
  pub inline_start : IsInline (slice_index own 0) → (len : ℕ) × LiesAt bytes pos pos len
  inline_start begins = (_, inline (subst (λ bs. IsInline (slice_index bs 0)) is begins) refl)

  pub far_start : (start : ℕ) → (IsInline (slice_index own 0) → ⊥) → target_from pos (word_at own 4) ≡ Some start → (len : ℕ) × LiesAt bytes pos start len
  far_start start begins leads =
      let first : IsInline (slice_index (own_bytes bytes pos) 0) → ⊥ = subst (λ bs. IsInline (slice_index bs 0) → ⊥) is begins in
      let far = stands_far bytes pos there.start there.len there.stands first in
      (there.len, out_of_line first far.says far.long (ap (λ bs. target_from pos (word_at bs 4)) (sym is) ∙ leads))

  pub text_long : (n : ℕ) → n ≡ length_of own → (t : List ℕ) × IsText bytes pos t × (n ≡ length t)
  text_long n e =
      let within = there.within in
      let whole : length (window bytes there.start there.len) ≡ there.len = simp (length-take, length-drop) (omega arith) in
      let says : n ≡ there.len = e ∙ ap length_of is ∙ sym (stands_long bytes pos there.start there.len there.stands) in
      (window bytes there.start there.len, record { there = there; is = refl }, says ∙ sym whole)

-- ---- where a text of the same length is written

module _ (bytes : List ℕ) (pos start : ℕ) where
  pub record IsThere (n : ℕ) : Type 0 where
    pub lies : LiesAt bytes pos start n
    pub room : start + n ≤ length bytes

  pub text_there : (n : ℕ) → HasLength bytes pos n → ((len : ℕ) × LiesAt bytes pos start len) → IsThere n
  text_there n has lies =
      let there = has.1.there in
      let within = there.within in
      let one = one_place bytes pos start lies.0 there.start there.len lies.1 there.stands in
      let counted : n ≡ there.len = has.2 ∙ ap length has.1.is ∙ length-window bytes there.start there.len within in
      record { lies = subst (LiesAt bytes pos start) (one.1 ∙ sym counted) lies.1; room = omega (arith, one.0, counted, within) }

-- an inline text fits its own bytes
pub inline_room : (own : List ℕ) (n : ℕ) → IsInline (slice_index own 0) → length_of own ≡ n → n ≤ length own
inline_room own n begins is =
    let split = split_at_filler own in
    let says : n ≡ length (before_ff own) = sym is ∙ chosen_true _ (length (before_ff own)) (text_length (word_at own 0)) begins in
    omega (arith, says, ap length split.whole, length-append (before_ff own) split.rest)
