-- Searches by what is said of comparisons, where an order says the same, and where all is said at most once.
use Rattle.std.proofs.Common.{◌≡◌, ◌∙◌, ℕ, ◌+◌, ◌*◌, ◌<◌, ◌≤◌, List, [], ◌∷◌, Option, Some, None, sym, refl, arith}
use Rattle.std.specs.Prelude.{All}
use Rattle.std.specs.declared.cmp.Ordering.{Ordering}
use Rattle.std.specs.declared.cmp.Ordering.TheVariants.{Less, Equal, Greater}
use Rattle.std.proofs.lemmas.List.Elements.{All-head, All-tail}
use Rattle.archive_btree_layout.specs.Tree.{Tree, Branches, items, items_of}
use Rattle.archive_btree_layout.specs.Tree.Tree.{absent, leaf, inner}
use Rattle.archive_btree_layout.specs.Tree.Branches.{greater, lesser}
use Rattle.archive_btree_layout.specs.Descent.{by_order, find_in, descend, descend_in}
use Rattle.archive_btree_maps.specs.Descents.{AfterOrder, FindsIn, DescendsTo, DescendsIn}
use Rattle.archive_btree_maps.specs.Searching.{IsSaid}
use Rattle.archive_btree_maps.specs.declared.nodes.searching.search.Outcome.{Outcome}
use Rattle.archive_btree_maps.specs.declared.nodes.searching.search.Outcome.TheVariants.{Equals, Before}
use Rattle.archive_btree_maps.proofs.Sublists.{all_front, all_back}

-- ---- a search among keys side by side

-- the calls at `count` keys side by side return what this order of their indices does
abbrev pub OrdersKeys : {F : Type 0} → (F → ℕ → Ordering → Type 0) → F → (ℕ → Ordering) → ℕ → ℕ → ℕ → Type 0
OrdersKeys post f order key size count = (i : ℕ) → i < count → (r : Ordering) → post f (key + i * size) r → r ≡ order i

-- the query is above the first i keys
abbrev pub IsAbove : (ℕ → Ordering) → ℕ → Type 0
IsAbove order i = (j : ℕ) → j < i → order j ≡ Greater

-- what such a search returns, for an order of the indices
abbrev pub Answers : (ℕ → Ordering) → ℕ → Outcome → Type 0
Answers order count (Equals i) = (i < count) × IsAbove order i × (order i ≡ Equal)
Answers order count (Before i) = (i ≤ count) × IsAbove order i × (i < count → order i ≡ Less)

pub said_answers : {F : Type 0} (post : F → ℕ → Ordering → Type 0) (f : F) (key size count : ℕ) (o : Outcome) → IsSaid (λ i r. post f (key + i * size) r) count o
    → (order : ℕ → Ordering) → OrdersKeys post f order key size count → Answers order count o
said_answers post f key size count (Equals i) s order h = (s.0, (λ j below. sym (h j (omega (arith, below, s.0)) Greater (s.1 j below))), sym (h i s.0 Equal s.2))
said_answers post f key size count (Before i) s order h = (s.0, (λ j below. sym (h j (omega (arith, below, s.0)) Greater (s.1 j below))), λ below. sym (h i below Less (s.2 below)))

-- ---- the search in a tree

-- an order of all entries is said of all: the search ends where the order's descent does
module _ {A : Type 0} (says : A → Ordering → Type 0) (order : A → Ordering) where
  abbrev Agrees : A → Type 0
  Agrees e = says e (order e)

  find_said : (es : List A) → All Agrees es → FindsIn says es (find_in order es)
  find_said [] h = refl
  find_said (e ∷ es) h = (order e, All-head Agrees e es h, by (order e) (find_said es (All-tail Agrees e es h)))
    where
      by : (o : Ordering) → FindsIn says es (find_in order es)
          → AfterOrder o (by_order o None (Some e) (find_in order es) ≡ None) (by_order o None (Some e) (find_in order es) ≡ Some e) (FindsIn says es (by_order o None (Some e) (find_in order es)))
      by Less r = refl
      by Equal r = refl
      by Greater r = r

  mutual
    pub descend_said : (t : Tree A) → All Agrees (items t) → DescendsTo says t (descend order t)
    descend_said absent h = refl
    descend_said (leaf es) h = find_said es h
    descend_said (inner bs) h = descend_in_said bs h

    descend_in_said : (bs : Branches A) → All Agrees (items_of bs) → DescendsIn says bs (descend_in order bs)
    descend_in_said (greater t) h = descend_said t h
    descend_in_said (lesser t e bs) h =
        let behind = all_back Agrees (items t) (e ∷ items_of bs) h in
        (order e, All-head Agrees e (items_of bs) behind, by (order e) (descend_said t (all_front Agrees (items t) (e ∷ items_of bs) h)) (descend_in_said bs (All-tail Agrees e (items_of bs) behind)))
      where
        by : (o : Ordering) → DescendsTo says t (descend order t) → DescendsIn says bs (descend_in order bs)
            → AfterOrder o (DescendsTo says t (by_order o (descend order t) (Some e) (descend_in order bs))) (by_order o (descend order t) (Some e) (descend_in order bs) ≡ Some e)
            (DescendsIn says bs (by_order o (descend order t) (Some e) (descend_in order bs)))
        by Less l r = l
        by Equal l r = refl
        by Greater l r = r

-- two results that follow a comparison are one, where each way leads to one
after_once : {X : Type 0} {B C B' C' : Type 0} (x y e : X) (o p : Ordering) → o ≡ p → (B → B' → x ≡ y) → (C → C' → x ≡ y) → AfterOrder o B (x ≡ e) C → AfterOrder p B' (y ≡ e) C' → x ≡ y
after_once x y e Less Less h below above a b = below a b
after_once x y e Equal Equal h below above a b = a ∙ sym b
after_once x y e Greater Greater h below above a b = above a b
after_once x y e Less Equal h below above a b = absurd cc
after_once x y e Less Greater h below above a b = absurd cc
after_once x y e Equal Less h below above a b = absurd cc
after_once x y e Equal Greater h below above a b = absurd cc
after_once x y e Greater Less h below above a b = absurd cc
after_once x y e Greater Equal h below above a b = absurd cc

-- the search ends at one entry, where at most one order is said of each
module _ {A : Type 0} (says : A → Ordering → Type 0) (one : (e : A) (o p : Ordering) → says e o → says e p → o ≡ p) (x y : Option A) where
  find_once : (es : List A) → FindsIn says es x → FindsIn says es y → x ≡ y
  find_once [] a b = a ∙ sym b
  find_once (e ∷ es) (o, s, a) (p, r, b) = after_once x y (Some e) o p (one e o p s r) (λ c d. c ∙ sym d) (λ c d. find_once es c d) a b

  mutual
    pub descend_once : (t : Tree A) → DescendsTo says t x → DescendsTo says t y → x ≡ y
    descend_once absent a b = a ∙ sym b
    descend_once (leaf es) a b = find_once es a b
    descend_once (inner bs) a b = descend_in_once bs a b

    descend_in_once : (bs : Branches A) → DescendsIn says bs x → DescendsIn says bs y → x ≡ y
    descend_in_once (greater t) a b = descend_once t a b
    descend_in_once (lesser t e bs) (o, s, a) (p, r, b) = after_once x y (Some e) o p (one e o p s r) (λ c d. descend_once t c d) (λ c d. descend_in_once bs c d) a b
