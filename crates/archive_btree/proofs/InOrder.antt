-- Entries whose keys ascend in an order ascend in each order that agrees with it.
use Rattle.std.proofs.Common.{◌≡◌, ◌∙◌, List, [], ◌∷◌, map, All, AllPairs, arith}
use Rattle.std.specs.List.{AllByRecursion}
use Rattle.std.specs.List.Sorted.{IsStrictlySortedBy}
use Rattle.std.specs.declared.cmp.Ordering.{Ordering}
use Rattle.std.specs.declared.cmp.Ordering.TheVariants.{Less}
use Rattle.std.proofs.lemmas.List.Elements.{All-nil, All-cons}
use Rattle.std.proofs.lemmas.List.Kept.{AllPairs-cons}

module _ {A B Q : Type 0} (cmp : A → A → Ordering) (key : A → Q) (order : Q → Q → Ordering) (in_order : (a b : A) → order (key a) (key b) ≡ cmp a b) where
  below_all : (a : A) (es : List (A × B)) → AllByRecursion (λ b. cmp a b ≡ Less) (map (λ e. e.0) es) → All (λ e. order (key a) (key e.0) ≡ Less) es
  below_all a [] h = All-nil (λ e. order (key a) (key e.0) ≡ Less)
  below_all a (e ∷ es) h = All-cons (λ e. order (key a) (key e.0) ≡ Less) e es (in_order a e.0 ∙ h.0) (below_all a es h.1)

  pub keys_ascend : (es : List (A × B)) → IsStrictlySortedBy cmp (map (λ e. e.0) es) → AllPairs (λ a b. order (key a.0) (key b.0) ≡ Less) es
  unfolding IsStrictlySortedBy
  keys_ascend [] h = λ i j d below within. absurd (omega (arith, within))
  keys_ascend (e ∷ es) h = AllPairs-cons (λ a b. order (key a.0) (key b.0) ≡ Less) e es (below_all e.0 es h.0) (keys_ascend es h.1)
