-- Inline texts.
use Rattle.std.proofs.Common.{◌≡◌, ◌≢◌, ℕ, suc, ◌<◌, ◌≤◌, ◌==◌, Bool, true, false, List, [], ◌∷◌, ◌++◌, length, slice_index, get_or, refl, ap, arith, IsUtf8}
use Rattle.std.specs.Prelude.{⊤}
use Rattle.std.proofs.lemmas.Bool.{eqb-true, ne_eqb}
use Rattle.archive_shape_layout.specs.Content.{before_ff}
use Rattle.archive_shape_layout.proofs.Utf8.{utf8_byte, utf8_first}

-- nothing, or ff and more
abbrev pub StartsFilled : List ℕ → Type 0
StartsFilled [] = ⊤
StartsFilled (b ∷ bs) = b ≡ 255

abbrev HasNoFf : List ℕ → Type 0
HasNoFf [] = ⊤
HasNoFf (b ∷ bs) = (b ≢ 255) × HasNoFf bs

no_ff : (t : List ℕ) → ((k : ℕ) → k < length t → get_or t k 0 < 248) → HasNoFf t
no_ff [] h = tt
no_ff (b ∷ bs) h = (λ e. let first = h 0 (omega arith) in omega arith, no_ff bs (λ k l. h (suc k) (omega arith)))

before_filled : (t rest : List ℕ) → HasNoFf t → StartsFilled rest → before_ff (t ++ rest) ≡ t
before_filled [] [] h s = refl
before_filled [] (b ∷ bs) h s = rw s refl
before_filled (b ∷ bs) rest h s = rw (ne_eqb b 255 h.0) (ap (λ x. b ∷ x) (before_filled bs rest h.1 s))

pub text_before : (t rest : List ℕ) → IsUtf8 t → StartsFilled rest → before_ff (t ++ rest) ≡ t
text_before t rest u s = before_filled t rest (no_ff t (utf8_byte t u)) s

-- what follows the text in its bytes
pub record Split (own : List ℕ) : Type 0 where
  pub rest : List ℕ
  pub whole : own ≡ before_ff own ++ rest
  pub filled : StartsFilled rest

split_more : (b : ℕ) (bs : List ℕ) (test : Bool) → (b == 255) ≡ test → Split bs → Split (b ∷ bs)
split_more b bs true e s = record { rest = b ∷ bs; whole = rw e refl; filled = eqb-true _ _ e }
split_more b bs false e s = record { rest = s.rest; whole = rw e (ap (λ x. b ∷ x) s.whole); filled = s.filled }

pub split_at_filler : (own : List ℕ) → Split own
split_at_filler [] = record { rest = []; whole = refl; filled = tt }
split_at_filler (b ∷ bs) = split_more b bs (b == 255) refl (split_at_filler bs)

-- bytes that begin with a text say that it is inline
pub starts_inline : (t rest : List ℕ) → IsUtf8 t → StartsFilled rest → 0 < length (t ++ rest) → 128 ≤ slice_index (t ++ rest) 0 → slice_index (t ++ rest) 0 < 192 → ⊥
starts_inline [] [] u s l low high = omega arith
starts_inline [] (b ∷ bs) u s l low high = omega arith
starts_inline (b ∷ bs) rest u s l low high = utf8_first (b ∷ bs) u (omega arith) (omega arith)
