-- What holds of all elements of a list, or of all pairs, holds in its parts; and what a test keeps of a list that it
-- stays true in.
use Rattle.std.proofs.Common.{◌≡◌, ◌∙◌, zero, suc, ◌+◌, List, [], ◌∷◌, ◌++◌, length, Bool, true, false, refl, ap, sym, subst, arith, length-append}
use Rattle.std.specs.Prelude.{All, AllPairs, filter, cond, not, slice_index_or, ◌&&◌}
use Rattle.std.proofs.lemmas.List.{get_or_append_left, get_or-append-add}
use Rattle.std.proofs.lemmas.List.Elements.{All-head, All-tail}
use Rattle.archive_btree_maps.specs.Ranges.{Stays}

module _ {A : Type 0} (P : A → Type 0) (xs ys : List A) (all : All P (xs ++ ys)) where
  pub all_front : All P xs
  all_front k d below = subst P (get_or_append_left xs ys d k below) (all k d (simp length-append (omega arith)))

  pub all_back : All P ys
  all_back k d below = subst P (get_or-append-add xs ys k d) (all (length xs + k) d (simp length-append (omega arith)))

module _ {A : Type 0} (R : A → A → Type 0) where
  pub pairs_front : (xs ys : List A) → AllPairs R (xs ++ ys) → AllPairs R xs
  pairs_front xs ys h i j d less below =
      subst (λ a. R a (slice_index_or xs j d)) (get_or_append_left xs ys d i (omega arith))
      (subst (λ b. R (slice_index_or (xs ++ ys) i d) b) (get_or_append_left xs ys d j below) (h i j d less (simp length-append (omega arith))))

  pub pairs_back : (xs ys : List A) → AllPairs R (xs ++ ys) → AllPairs R ys
  pairs_back xs ys h i j d less below =
      subst (λ a. R a (slice_index_or ys j d)) (get_or-append-add xs ys i d)
      (subst (λ b. R (slice_index_or (xs ++ ys) (length xs + i) d) b) (get_or-append-add xs ys j d)
      (h (length xs + i) (length xs + j) d (omega arith) (simp length-append (omega arith))))

  pub pairs_head : (x : A) (xs : List A) → AllPairs R (x ∷ xs) → All (R x) xs
  pairs_head x xs h k d below = h 0 (suc k) d (omega arith) (omega arith)

  pub pairs_tail : (x : A) (xs : List A) → AllPairs R (x ∷ xs) → AllPairs R xs
  pairs_tail x xs h i j d less below = h (suc i) (suc j) d (omega arith) (omega arith)

pub not_true : (b : Bool) → (b ≡ true → ⊥) → b ≡ false
not_true true h = absurd (h refl)
not_true false h = refl

-- the negation of one
pub not_swap : (a b : Bool) → not a ≡ b → a ≡ not b
not_swap true b h = ap not h
not_swap false b h = ap not h

pub not_not : (b : Bool) → not (not b) ≡ b
not_not true = refl
not_not false = refl

one_of_both : {A : Type 0} (b : Bool) (g : A → Bool) (x : A) (xs : List A) → cond (b && g x) (x ∷ filter g xs) (filter g xs) ≡ filter g (cond b (x ∷ xs) xs)
one_of_both true g x xs = refl
one_of_both false g x xs = refl

pub filter_both : {A : Type 0} (f g : A → Bool) (xs : List A) → filter (λ x. f x && g x) xs ≡ filter g (filter f xs)
filter_both f g [] = refl
filter_both f g (x ∷ xs) = ap (λ s. cond (f x && g x) (x ∷ s) s) (filter_both f g xs) ∙ one_of_both (f x) g x (filter f xs)

module _ {A : Type 0} (f : A → Bool) where
  pub filter_all : (xs : List A) → All (λ x. f x ≡ true) xs → filter f xs ≡ xs
  filter_all [] h = refl
  filter_all (x ∷ xs) h = rw (All-head (λ x. f x ≡ true) x xs h) (ap (λ s. x ∷ s) (filter_all xs (All-tail (λ x. f x ≡ true) x xs h)))

  pub filter_none : (xs : List A) → All (λ x. f x ≡ false) xs → filter f xs ≡ []
  filter_none [] h = refl
  filter_none (x ∷ xs) h = rw (All-head (λ x. f x ≡ false) x xs h) (filter_none xs (All-tail (λ x. f x ≡ false) x xs h))

  abbrev Later : A → A → Type 0
  Later a b = f a ≡ true → f b ≡ true

  -- the first passes the test, and so do all
  pub stays_all : (x : A) (xs : List A) → Stays f (x ∷ xs) → f x ≡ true → All (λ y. f y ≡ true) (x ∷ xs)
  stays_all x xs h first zero d below = first
  stays_all x xs h first (suc k) d below = pairs_head Later x xs h k d (omega arith) first

  pub stays_twice : (xs : List A) → Stays f xs → Stays (λ x. not (not (f x))) xs
  stays_twice xs h i j d less below passes = not_not _ ∙ h i j d less below (sym (not_not _) ∙ passes)

  -- a later one does not pass it, and so does none before
  pub stays_none : (xs ys : List A) (e : A) → Stays f (xs ++ e ∷ ys) → f e ≡ false → All (λ y. f y ≡ false) xs
  stays_none [] ys e h last k d below = absurd (omega arith)
  stays_none (x ∷ xs) ys e h last zero d below =
      let behind = all_back (Later x) xs (e ∷ ys) (pairs_head Later x (xs ++ e ∷ ys) h) in
      not_true (f x) (λ t. let at = All-head (Later x) e ys behind t in absurd cc)
  stays_none (x ∷ xs) ys e h last (suc k) d below = stays_none xs ys e (pairs_tail Later x (xs ++ e ∷ ys) h) last k d (omega arith)
