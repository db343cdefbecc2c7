-- Numbers in order, and one more.
use Rattle.std.proofs.Common.{◌≡◌, ◌∙◌, ℕ, zero, suc, ◌+◌, [], ◌∷◌, ◌++◌, refl, ap, arith}
use Rattle.std.specs.List.{range_with_len}

pub range_more : (a n m : ℕ) → m ≡ suc n → range_with_len a m ≡ range_with_len a n ++ (a + n) ∷ []
range_more a zero m e = let here : a ≡ a + 0 = omega arith in ap (range_with_len a) e ∙ ap (λ x. x ∷ []) here
range_more a (suc n) m e =
    let last : a + 1 + n ≡ a + suc n = omega arith in
    ap (range_with_len a) e ∙ ap (λ xs. a ∷ xs) (range_more (a + 1) n (suc n) refl ∙ ap (λ x. range_with_len (a + 1) n ++ x ∷ []) last)
