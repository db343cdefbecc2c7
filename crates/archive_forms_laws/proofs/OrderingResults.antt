-- Laws of options and results that std does not have.
use Rattle.std.proofs.Common.{◌≡◌, Bool, true, true≢false, Option, Some, None, Result, Ok, Err, pos, ◌++◌, refl, sym, ap}
use Rattle.std.specs.declared.cmp.Ordering.{Ordering}
use Rattle.std.specs.declared.cmp.Ordering.TheVariants.{Less, Equal}
use Rattle.std.specs.Ordering.{is_eq, is_lt, ordering_reverse}
use Rattle.std.specs.Cmp.{IsEquivalence, IsTotalOrder}
use Rattle.std.specs.Option.{option_eq, option_cmp}
use Rattle.std.specs.Result.{result_eq, result_cmp}
use Rattle.std.specs.Hash.{Alike}
use Rattle.std.specs.Hash as fed

module _ {X : Type 0} {E : X → X → Bool} where
  -- equal exactly where the order returns Equal
  pub options_tied : (R : X → X → Ordering) → ((x y : X) → E x y ≡ is_eq (R x y)) → (p q : Option X) → option_eq E p q ≡ is_eq (option_cmp R p q)
  options_tied R t None None = refl
  options_tied R t None (Some y) = refl
  options_tied R t (Some x) None = refl
  options_tied R t (Some x) (Some y) = t x y

  option_fed : {F : X → fed.HashWrites} → Alike E F → (p q : Option X) → option_eq E p q ≡ true → fed.option F p ≡ fed.option F q
  option_fed a None None h = refl
  option_fed a None (Some y) h = absurd (true≢false (sym h))
  option_fed a (Some x) None h = absurd (true≢false (sym h))
  option_fed a (Some x) (Some y) h = ap (λ w. fed.isize (pos 1) ++ w) (a.fed x y h)

  -- what is equal is hashed alike
  pub options_alike : {F : X → fed.HashWrites} → Alike E F → Alike (option_eq E) (fed.option F)
  options_alike a = record { fed = option_fed a }

module _ {X Y : Type 0} {E : X → X → Bool} {F : Y → Y → Bool} where
  pub results_tied : (R : X → X → Ordering) (S : Y → Y → Ordering) → ((x y : X) → E x y ≡ is_eq (R x y)) → ((x y : Y) → F x y ≡ is_eq (S x y)) → (p q : Result X Y) → result_eq E F p q ≡ is_eq (result_cmp R S p q)
  results_tied R S t u (Ok x) (Ok y) = t x y
  results_tied R S t u (Ok x) (Err d) = refl
  results_tied R S t u (Err e) (Ok y) = refl
  results_tied R S t u (Err e) (Err d) = u e d

  result_fed : {G : X → fed.HashWrites} {H : Y → fed.HashWrites} → Alike E G → Alike F H → (p q : Result X Y) → result_eq E F p q ≡ true → fed.result G H p ≡ fed.result G H q
  result_fed a b (Ok x) (Ok y) h = ap (λ w. fed.isize (pos 0) ++ w) (a.fed x y h)
  result_fed a b (Ok x) (Err d) h = absurd (true≢false (sym h))
  result_fed a b (Err e) (Ok y) h = absurd (true≢false (sym h))
  result_fed a b (Err e) (Err d) h = ap (λ w. fed.isize (pos 1) ++ w) (b.fed e d h)

  pub results_alike : {G : X → fed.HashWrites} {H : Y → fed.HashWrites} → Alike E G → Alike F H → Alike (result_eq E F) (fed.result G H)
  results_alike a b = record { fed = result_fed a b }

  module _ (e : IsEquivalence E) (f : IsEquivalence F) where
    itself : (p : Result X Y) → result_eq E F p p ≡ true
    itself (Ok x) = e.refl x
    itself (Err d) = f.refl d

    flipped : (p q : Result X Y) → result_eq E F p q ≡ result_eq E F q p
    flipped (Ok x) (Ok y) = e.symm x y
    flipped (Ok x) (Err d) = refl
    flipped (Err d) (Ok y) = refl
    flipped (Err d) (Err c) = f.symm d c

    same : (p q s : Result X Y) → result_eq E F p q ≡ true → result_eq E F p s ≡ result_eq E F q s
    same (Ok x) (Ok y) (Ok z) h = e.congr x y z h
    same (Ok x) (Ok y) (Err d) h = refl
    same (Ok x) (Err d) s h = absurd (true≢false (sym h))
    same (Err d) (Ok y) s h = absurd (true≢false (sym h))
    same (Err d) (Err c) (Ok z) h = refl
    same (Err d) (Err c) (Err b) h = f.congr d c b h

    pub results_equiv : IsEquivalence (result_eq E F)
    results_equiv = record { refl = itself; symm = flipped; congr = same }

module _ {X Y : Type 0} {R : X → X → Ordering} {S : Y → Y → Ordering} (o : IsTotalOrder R) (u : IsTotalOrder S) where
  turned : (p q : Result X Y) → result_cmp R S p q ≡ ordering_reverse (result_cmp R S q p)
  turned (Ok x) (Ok y) = o.antisymm x y
  turned (Ok x) (Err d) = refl
  turned (Err d) (Ok y) = refl
  turned (Err d) (Err c) = u.antisymm d c

  chained : (p q s : Result X Y) → result_cmp R S p q ≡ Less → result_cmp R S q s ≡ Less → result_cmp R S p s ≡ Less
  chained (Ok x) (Ok y) (Ok z) h k = o.trans x y z h k
  chained (Ok x) q (Err d) h k = refl
  chained (Ok x) (Err d) (Ok z) h k = absurd (true≢false (sym (ap is_lt k)))
  chained (Err d) (Ok y) s h k = absurd (true≢false (sym (ap is_lt h)))
  chained (Err d) (Err c) (Ok z) h k = absurd (true≢false (sym (ap is_lt k)))
  chained (Err d) (Err c) (Err b) h k = u.trans d c b h k

  level : (p q s : Result X Y) → result_cmp R S p q ≡ Equal → result_cmp R S p s ≡ result_cmp R S q s
  level (Ok x) (Ok y) (Ok z) h = o.congr x y z h
  level (Ok x) (Ok y) (Err d) h = refl
  level (Ok x) (Err d) s h = absurd (true≢false (sym (ap is_eq h)))
  level (Err d) (Ok y) s h = absurd (true≢false (sym (ap is_eq h)))
  level (Err d) (Err c) (Ok z) h = refl
  level (Err d) (Err c) (Err b) h = u.congr d c b h

  pub results_total : IsTotalOrder (result_cmp R S)
  results_total = record { antisymm = turned; trans = chained; congr = level }
