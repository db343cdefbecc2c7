-- No two keys of a legal map are equal.
use Rattle.std.proofs.Common.{◌≡◌, ◌≢◌, ℕ, suc, List, [], ◌∷◌, Contains, All, refl, sym, ap, subst, ◌∙◌, arith, ◌⊎◌, inl, inr}
use Rattle.std.specs.Ordering.{ordering_reverse}
use Rattle.std.specs.declared.cmp.Ordering.TheVariants.{Less, Greater}
use Rattle.std.specs.Cmp.Lexicographic.{nat_list_cmp_total}
use Rattle.cabinet_text_grammar.specs.Keys.{MapKind, ordered, hashed, kept, IsBelow, IsAboveLast, MayFollow}
use Rattle.cabinet_text_grammar.specs.Tree.{Tree, Pairs, no_pairs, more_pairs, ArePairs}
use Rattle.cabinet_text_grammar.specs.PairsLaws.{HasPair}

-- of a relation between a key and the keys so far, the last first: where it holds on with each key that may follow, all of
-- which differ
module _
    (kind : MapKind) (IsSoFar : List ℕ → List (List ℕ) → Type 0)
    (goes_on : (k l : List ℕ) (keys : List (List ℕ)) → IsSoFar k keys → MayFollow kind keys l → (l ≢ k) × IsSoFar k (l ∷ keys))
  where
    differ : (k : List ℕ) (keys : List (List ℕ)) (ps : Pairs) → IsSoFar k keys → ArePairs kind keys ps → (l : List ℕ) (t : Tree) → HasPair l t ps → l ≢ k
    differ k keys no_pairs h p l t there = absurd there
    differ k keys (more_pairs m u ps) h p l t (inl is) = let g = goes_on k m keys h p.0.1 in λ e. g.0 (is.0 ∙ e)
    differ k keys (more_pairs m u ps) h p l t (inr later) = let g = goes_on k m keys h p.0.1 in differ k (m ∷ keys) ps g.1 p.1.1 l t later

-- a key is the last of some keys, or below it
abbrev IsUpTo : List ℕ → List (List ℕ) → Type 0
IsUpTo k [] = ⊥
IsUpTo k (last ∷ keys) = (k ≡ last) ⊎ IsBelow k last

below_self : (k l : List ℕ) → IsBelow k l → l ≢ k
below_self k l h e =
    let total = nat_list_cmp_total in
    let self : IsBelow k k = subst (IsBelow k) e h in
    let both : Less ≡ Greater = sym self ∙ total.antisymm k k ∙ ap ordering_reverse self in
    cc

further : (k l : List ℕ) (keys : List (List ℕ)) → IsUpTo k keys → IsAboveLast keys l → (l ≢ k) × IsUpTo k (l ∷ keys)
further k l [] h a = absurd h
further k l (last ∷ keys) (inl e) a = let b = subst (λ x. IsBelow x l) (sym e) a in (below_self k l b, inr b)
further k l (last ∷ keys) (inr h) a = let total = nat_list_cmp_total in let b = total.trans k last l h a in (below_self k l b, inr b)

other : (k l : List ℕ) (keys : List (List ℕ)) → Contains keys k → All (λ before. before ≢ l) keys → (l ≢ k) × Contains (l ∷ keys) k
other k l keys c all =
    let low = c.1 in
    (λ e. all c.0 k c.1 (c.2 ∙ sym e), (suc c.0, omega arith, c.2))

-- the keys of the pairs after a key differ from it
pub later_differ : (kind : MapKind) (k : List ℕ) (keys : List (List ℕ)) (ps : Pairs) → ArePairs kind (k ∷ keys) ps → (l : List ℕ) (t : Tree) → HasPair l t ps → l ≢ k
later_differ ordered k keys ps = differ ordered IsUpTo further k (k ∷ keys) ps (inl refl)
later_differ hashed k keys ps = differ hashed IsUpTo further k (k ∷ keys) ps (inl refl)
later_differ kept k keys ps = differ kept (λ key before. Contains before key) other k (k ∷ keys) ps (0, omega arith, refl)
