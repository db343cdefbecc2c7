-- What the layout has for a text, by its own bytes.
use Rattle.std.proofs.Common.{◌≡◌, ℕ, zero, suc, ◌<◌, ◌==◌, nat_lt, Bool, true, false, cond, List, [], ◌∷◌, length, take, slice_index, Option, Some, refl, sym, ap, subst, ◌∙◌, lt-ltb}
use Rattle.archive_shape_layout.specs.Bytes.{word_at, target_from}
use Rattle.archive_shape_layout.specs.Shape.Shape.{text}
use Rattle.archive_shape_layout.specs.Shape.Pointee.{str}
use Rattle.archive_shape_layout.specs.Content.{Names, Content, content_of, choose, following, IsInline, before_ff, text_length, shape_content, text_content}
use Rattle.archive_shape_layout.specs.Content.Part.{at, behind}
use Rattle.archive_shape_layout.specs.Content.Label.{written, same}
use Rattle.archive_shape_layout.specs.Content.Content.{plain}
use Rattle.archive_forms_laws.specs.Text.{own_bytes}

-- the bytes before the first ff of n bytes are the first of them
pub before_ff-take : (n : ℕ) (xs : List ℕ) → before_ff (take n xs) ≡ take (length (before_ff (take n xs))) xs
before_ff-take zero xs = refl
before_ff-take (suc n) [] = refl
before_ff-take (suc n) (x ∷ xs) = more (x == 255) (before_ff-take n xs)
  where
    more : (b : Bool) → before_ff (take n xs) ≡ take (length (before_ff (take n xs))) xs → cond b [] (x ∷ before_ff (take n xs)) ≡ take (length (cond b [] (x ∷ before_ff (take n xs)))) (x ∷ xs)
    more true e = refl
    more false e = ap (λ ys. x ∷ ys) e

-- ---- by a test

chosen_yes : (b : Bool) (x y : Content) → b ≡ true → choose b x y ≡ x
unfolding choose
chosen_yes true x y e = refl
chosen_yes false x y e = absurd (cc)

pub chosen_no : (b : Bool) (x y : Content) → (b ≡ true → ⊥) → choose b x y ≡ y
unfolding choose
chosen_no true x y n = absurd (n refl)
chosen_no false x y n = refl

pub followed : (o : Option ℕ) (t : ℕ) (f : ℕ → Content) → o ≡ Some t → following o f ≡ f t
unfolding following
followed o t f e = rw e refl

-- ---- by what the own bytes say

module _ (names : Names) (bytes : List ℕ) (pos : ℕ) (own : List ℕ) (is : own ≡ own_bytes bytes pos) where
  pub first_is : IsInline (slice_index own 0) → IsInline (slice_index (own_bytes bytes pos) 0)
  first_is begins = subst (λ bs. IsInline (slice_index bs 0)) is begins

  pub first_is_not : (IsInline (slice_index own 0) → ⊥) → IsInline (slice_index (own_bytes bytes pos) 0) → ⊥
  first_is_not begins = subst (λ bs. IsInline (slice_index bs 0) → ⊥) is begins

  pub len_is : (len : ℕ) → len ≡ text_length (word_at own 0) → len ≡ text_length (word_at (own_bytes bytes pos) 0)
  len_is len says = says ∙ ap (λ bs. text_length (word_at bs 0)) is

  pub target_is : (o : Option ℕ) → target_from pos (word_at own 4) ≡ o → target_from pos (word_at (own_bytes bytes pos) 4) ≡ o
  target_is o e = ap (λ bs. target_from pos (word_at bs 4)) (sym is) ∙ e

  pub is_long : (len : ℕ) → len ≡ text_length (word_at own 0) → 8 < len → nat_lt 8 (text_length (word_at (own_bytes bytes pos) 0)) ≡ true
  is_long len says h = lt-ltb 8 (text_length (word_at (own_bytes bytes pos) 0)) (subst (λ n. 8 < n) (len_is len says) h)

  pub inline_is : IsInline (slice_index own 0) → content_of names bytes (at pos text) ≡ plain (written (before_ff own)) []
  unfolding shape_content text_content
  inline_is begins = chosen_yes _ _ _ (first_is begins) ∙ ap (λ bs. plain (written (before_ff bs)) []) (sym is)

  pub far_is :
      (IsInline (slice_index own 0) → ⊥)
      → (len : ℕ)
      → len ≡ text_length (word_at own 0)
      → 8 < len
      → (start : ℕ)
      → target_from pos (word_at own 4) ≡ Some start
      → content_of names bytes (at pos text) ≡ plain same (behind start str len ∷ [])
  unfolding shape_content text_content
  far_is begins len says long start leads =
      chosen_no _ _ _ (first_is_not begins) ∙ chosen_yes _ _ _ (is_long len says long) ∙ followed _ start _ (target_is (Some start) leads)
      ∙ ap (λ n. plain same (behind start str n ∷ [])) (sym (len_is len says))
