-- A place below a number that is not among some places, if there is one.
use Rattle.std.proofs.Common.{◌≡◌, ℕ, zero, suc, ◌<◌, true, not, ◌||◌, ◌⊎◌, List, [], ◌∷◌, eqb, refl, sym, ap, ◌∙◌, arith, inl, inr, true≢false, eqb-true, eq-eqb}
use Rattle.std.specs.List.{list_any}
use Rattle.std.proofs.lemmas.Bool.{cases_Bool, cases_eq}
use Rattle.archive_shape_canonical.specs.FirstFit.{is_free}

eqb_turned : (a b : ℕ) → eqb a b ≡ eqb b a
eqb_turned a b = elim (cases_Bool (eqb a b)) [
  | inl e ↦ e ∙ sym (eq-eqb b a (sym (eqb-true a b e)))
  | inr e ↦ elim (cases_Bool (eqb b a)) [
    | inl f ↦ absurd (true≢false (sym (eq-eqb a b (sym (eqb-true b a f))) ∙ e))
    | inr f ↦ e ∙ sym f
  ]
]

any_turned : (p : ℕ) (ps : List ℕ) → list_any (λ q. eqb q p) ps ≡ list_any (eqb p) ps
any_turned p [] = refl
any_turned p (q ∷ ps) = λ i. eqb_turned q p i || any_turned p ps i

pub search_free : (ps : List ℕ) (n : ℕ) → ((q : ℕ) × (q < n) × (is_free ps q ≡ true)) ⊎ ((q : ℕ) → q < n → list_any (eqb q) ps ≡ true)
search_free ps zero = inr (λ q l. absurd (omega arith))
search_free ps (suc n) = elim (cases_Bool (list_any (λ q. eqb q n) ps)) [
  | inr e ↦ inl (n, omega arith, ap not e)
  | inl e ↦ elim (search_free ps n) [
    | inl r ↦ let l = r.1 in inl (r.0, omega arith, r.2)
    | inr all ↦ inr (λ q l. elim (cases_eq q n) [ inl s ↦ sym (any_turned q ps) ∙ ap (λ x. list_any (λ r. eqb r x) ps) s ∙ e | inr d ↦ all q (omega arith) ])
  ]
]
