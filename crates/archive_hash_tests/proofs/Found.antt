-- What look-ups return, by the first entry that passes.
use Rattle.std.proofs.Common.{◌≡◌, ◌∙◌, ℕ, zero, suc, ◌≤◌, Bool, cond, List, [], ◌∷◌, length, Option, Some, None, MatchOption, refl, ap, sym, arith}
use Rattle.std.specs.List.{find, position, position_or_len, slice_get}
use Rattle.std.proofs.lemmas.Bool.{le-ltb}
use Rattle.std.proofs.lemmas.List.Folds.{find_at}

-- what has no element lies past the end
past : {X : Type 0} (xs : List X) (n : ℕ) → slice_get xs n ≡ None → length xs ≤ n
past [] n e = omega arith
past (x ∷ xs) zero e = absurd (cc)
past (x ∷ xs) (suc n) e = let rest = past xs n e in omega (arith, rest)

module _ {X : Type 0} (p : X → Bool) (xs : List X) where
  -- where nothing passes, nothing has a number
  none_passes : find p xs ≡ None → position p xs ≡ None
  none_passes none =
      let n = position_or_len p xs in
      ap (λ b. cond b (Some n) None) (le-ltb n (length xs) (past xs n (sym (find_at p xs) ∙ none)))

  -- the number that is found is that of the first which passes
  pub number_told : (Rest : X → Type 0) (number : Option ℕ) → MatchOption (find p xs) (number ≡ None) (λ e. (number ≡ position p xs) × Rest e) → number ≡ position p xs
  number_told Rest number h = by_first (find p xs) refl h
    where
      by_first : (first : Option X) → find p xs ≡ first → MatchOption first (number ≡ None) (λ e. (number ≡ position p xs) × Rest e) → number ≡ position p xs
      by_first None none h = h ∙ sym (none_passes none)
      by_first (Some e) some h = h.0
