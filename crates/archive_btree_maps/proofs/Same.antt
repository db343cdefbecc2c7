-- Entries are compared one by one with the pairs of a map of std.
use denote.Ref.{Bor}
use Rattle.std.proofs.Common.{◌≡◌, ◌∙◌, ℕ, suc, Bool, true, false, IsTrue, ◌↔◌, ◌⊎◌, inl, inr, List, [], ◌∷◌, length, map, slice_index_or, All, refl, sym, ap, subst, arith}
use Rattle.std.proofs.lemmas.List.Elements.{All-head, All-tail}
use Rattle.std.specs.List.{AllZip}
use Rattle.std.specs.Ordering.{is_eq}
use Rattle.std.specs.declared.cmp.Ordering.{Ordering}
use Rattle.std.specs.declared.cmp.Ordering.TheVariants.{Less, Equal, Greater}
use Rattle.archive_shape.specs.declared.references.refs.Ref.{Ref}
use Rattle.archive_btree_maps.specs.Lookups.{IsSameAs}
use Rattle.archive_btree_maps.specs.StdMaps.{CallsValue, IsPairSame, AnyZip, AreSame, MayCallValue}

equal_is : (o : Ordering) → is_eq o ≡ true → o ≡ Equal
equal_is Less e = absurd cc
equal_is Equal e = refl
equal_is Greater e = absurd cc

false_is : (b : Bool) → b ≡ false → IsTrue b → ⊥
false_is b e y = absurd cc

-- a comparison with what lies at a position decides whether it is the same as a query
module _ {Q : Type 0} (key_of : List ℕ → ℕ → Q → Type 0) (order : Q → Q → Ordering)
    (one_key : (bytes : List ℕ) (pos : ℕ) (a b : Q) → key_of bytes pos a → key_of bytes pos b → (query : Q) → order a query ≡ order b query)
    (bytes : List ℕ) (pos : ℕ) (query : Q) (result : Bool) (told : (key : Q) × key_of bytes pos key × (result ≡ is_eq (order key query))) where
  pub found_same : result ≡ true → IsSameAs key_of order bytes pos query
  found_same y = (told.0, told.1, equal_is _ (sym told.2 ∙ y))

  pub found_other : result ≡ false → IsSameAs key_of order bytes pos query → ⊥
  found_other n s =
      let same : is_eq (order told.0 query) ≡ true = ap is_eq (one_key bytes pos told.0 s.0 told.1 s.1 query ∙ s.2) in
      let both : false ≡ true = sym n ∙ told.2 ∙ same in
      absurd cc

-- what the two comparisons of a pair say of it
module _ {K V Q W : Type 0} (key_of : List ℕ → ℕ → Q → Type 0) (order : Q → Q → Ordering) (post : Ref V → Bor W → Bool → Type 0) (entry : Ref K × Ref V) (pair : Q × W) where
  pub same_key : (answer : Bool) → IsSameAs key_of order entry.0.bytes.now entry.0.pos pair.0 → CallsValue post entry.1 pair.1 answer → IsPairSame key_of order post entry pair answer
  same_key true is calls = (is, calls)
  same_key false is calls = inr calls

  pub other_key : (answer : Bool) → answer ≡ false → (IsSameAs key_of order entry.0.bytes.now entry.0.pos pair.0 → ⊥) → IsPairSame key_of order post entry pair answer
  other_key true e differ = absurd cc
  other_key false e differ = inl differ

-- what a closure that compares a value with a key leaves of the value that it took, and returns
abbrev pub Compares : {V W : Type 0} → (List ℕ → ℕ → W → Type 0) → (W → W → Ordering) → Ref V → Bor W → Bool → Type 0
Compares {V} value_of order value lent answer = Ref V × ((key : _) × value_of value.bytes.now value.pos key × (answer ≡ is_eq (order key lent.now)))

module _ {V W : Type 0} (value_of : List ℕ → ℕ → W → Type 0) (order : W → W → Ordering)
    (one_key : (bytes : List ℕ) (pos : ℕ) (a b : W) → value_of bytes pos a → value_of bytes pos b → (query : W) → order a query ≡ order b query)
    (value : Ref V) (other : W) where
  moved : (answer : Bool) → CallsValue (Compares value_of order) value other answer → (key : W) × value_of value.bytes.now value.pos key × (answer ≡ is_eq (order key other))
  moved answer h = let told = h.2.1 in (told.0, told.1, told.2 ∙ ap (λ w. is_eq (order told.0 w)) h.1)

  pub called_same : CallsValue (Compares value_of order) value other true → IsSameAs value_of order value.bytes.now value.pos other
  called_same h = found_same value_of order one_key value.bytes.now value.pos other true (moved true h) refl

  pub called_other : CallsValue (Compares value_of order) value other false → IsSameAs value_of order value.bytes.now value.pos other → ⊥
  called_other h = found_other value_of order one_key value.bytes.now value.pos other false (moved false h) refl

pub one_other : {A B C : Type 0} → (A → ⊥) ⊎ C → (C → B → ⊥) → A × B → ⊥
one_other (inl differ) told s = differ s.0
one_other (inr calls) told s = told calls s.1

-- the closure may be called with the values of the first pair, and of the others
pub may_first : {V Q W : Type 0} (pre : Ref V → Bor W → Type 0) (value : Ref V) (key : Q) (lent : Bor W) (pairs more : List (Q × W)) → pairs ≡ (key, lent.now) ∷ more → MayCallValue pre pairs value → pre value lent
may_first {W} pre value key lent pairs more is may =
    All-head (λ pair. (l : Bor W) → l.now ≡ pair.1 → pre value l) (key, lent.now) more (subst (λ ps. MayCallValue pre ps value) is may) lent refl

may_rest : {V Q W : Type 0} (pre : Ref V → Bor W → Type 0) (pair : Q × W) (pairs more : List (Q × W)) → pairs ≡ pair ∷ more → (value : Ref V) → MayCallValue pre pairs value → MayCallValue pre more value
may_rest {W} pre pair pairs more is value may = All-tail (λ p. (l : Bor W) → l.now ≡ p.1 → pre value l) pair more (subst (λ ps. MayCallValue pre ps value) is may)

pub may_others : {K V Q W : Type 0} (pre : Ref V → Bor W → Type 0) (pair : Q × W) (pairs more : List (Q × W)) → pairs ≡ pair ∷ more → (entries : List (Ref K × Ref V)) → All (λ e. MayCallValue pre pairs e.1) entries → All (λ e. MayCallValue pre more e.1) entries
may_others pre pair pairs more is entries may = λ k d below. may_rest pre pair pairs more is (slice_index_or entries k d).1 (may k d below)

-- a relation with items that are made of others
module _ {A B C : Type 0} (P : A → B → Type 0) (f : C → A) where
  pub all_of_made : (es : List C) (ys : List B) → AllZip P (map f es) ys → AllZip (λ e y. P (f e) y) es ys
  all_of_made [] [] h = tt
  all_of_made [] (y ∷ ys) h = absurd h
  all_of_made (e ∷ es) [] h = absurd h
  all_of_made (e ∷ es) (y ∷ ys) h = (h.0, all_of_made es ys h.1)

  pub all_made : (es : List C) (ys : List B) → AllZip (λ e y. P (f e) y) es ys → AllZip P (map f es) ys
  all_made [] [] h = tt
  all_made [] (y ∷ ys) h = absurd h
  all_made (e ∷ es) [] h = absurd h
  all_made (e ∷ es) (y ∷ ys) h = (h.0, all_made es ys h.1)

module _ {A B : Type 0} (R : A → B → Bool → Type 0) where
  none_left : (xs : List A) (ys : List B) → length xs ≡ 0 → length ys ≡ 0 → AreSame R xs ys true
  none_left [] [] d e = tt
  none_left [] (y ∷ ys) d e = absurd (omega arith)
  none_left (x ∷ xs) ys d e = absurd (omega arith)

  -- the items that are left decide
  abbrev pub Left : List A → List B → List A → List B → Type 0
  Left xs ys these those = (b : Bool) → AreSame R xs ys b → AreSame R these those b

  pub at_start : (xs these : List A) (ys those : List B) → xs ≡ these → ys ≡ those → Left xs ys these those
  at_start xs these ys those is are b h = subst (λ zs. AreSame R zs those b) is (subst (λ zs. AreSame R xs zs b) are h)

  pub all_same : (xs these : List A) (ys those : List B) → Left xs ys these those → length xs ≡ 0 → length ys ≡ 0 → AreSame R these those true
  all_same xs these ys those left d e = left true (none_left xs ys d e)

  begun : (x : A) (y : B) (more : List A) (others : List B) → R x y true → (b : Bool) → AreSame R more others b → AreSame R (x ∷ more) (y ∷ others) b
  begun x y more others told true h = (told, h)
  begun x y more others told false (inl differ) = inl (λ e. differ (omega (arith, e)))
  begun x y more others told false (inr any) = inr (inr any)

  module _ (xs these : List A) (ys those : List B) (left : Left xs ys these those) (x : A) (y : B) (more : List A) (others : List B) (is : xs ≡ x ∷ more) (are : ys ≡ y ∷ others) (result : Bool) (told : R x y result) where
    back : (b : Bool) → AreSame R (x ∷ more) (y ∷ others) b → AreSame R these those b
    back b h = left b (subst (λ zs. AreSame R zs ys b) (sym is) (subst (λ zs. AreSame R (x ∷ more) zs b) (sym are) h))

    pub first_other : result ≡ false → AreSame R these those false
    first_other e = back false (inr (inl (subst (R x y) e told)))

    pub first_same : result ≡ true → Left more others these those
    first_same e b h = back b (begun x y more others (subst (R x y) e told) b h)

  -- items that are made of others
  module _ {C : Type 0} (f : C → A) where
    any_made : (es : List C) (ys : List B) → AnyZip (λ x y. R x y false) (map f es) ys → AnyZip (λ e y. R (f e) y false) es ys
    any_made [] ys h = absurd h
    any_made (e ∷ es) [] h = absurd h
    any_made (e ∷ es) (y ∷ ys) (inl h) = inl h
    any_made (e ∷ es) (y ∷ ys) (inr h) = inr (any_made es ys h)

    as_long : (es : List C) → length (map f es) ≡ length es
    as_long [] = refl
    as_long (e ∷ es) = ap suc (as_long es)

    pub of_made : (es : List C) (ys : List B) (b : Bool) → AreSame R (map f es) ys b → AreSame (λ e. R (f e)) es ys b
    of_made es ys true h = all_of_made (λ x y. R x y true) f es ys h
    of_made es ys false (inl differ) = inl (λ e. differ (as_long es ∙ e))
    of_made es ys false (inr any) = inr (any_made es ys any)

  -- a relation that items have exactly where they are said to be the same
  module _ (P : A → B → Type 0) (same : (x : A) (y : B) → R x y true → P x y) (other : (x : A) (y : B) → R x y false → P x y → ⊥) where
    all_related : (xs : List A) (ys : List B) → AllZip (λ x y. R x y true) xs ys → AllZip P xs ys
    all_related [] [] h = tt
    all_related [] (y ∷ ys) h = absurd h
    all_related (x ∷ xs) [] h = absurd h
    all_related (x ∷ xs) (y ∷ ys) h = (same x y h.0, all_related xs ys h.1)

    as_many : (xs : List A) (ys : List B) → AllZip P xs ys → length xs ≡ length ys
    as_many [] [] h = refl
    as_many [] (y ∷ ys) h = absurd h
    as_many (x ∷ xs) [] h = absurd h
    as_many (x ∷ xs) (y ∷ ys) h = ap suc (as_many xs ys h.1)

    none_other : (xs : List A) (ys : List B) → AnyZip (λ x y. R x y false) xs ys → AllZip P xs ys → ⊥
    none_other [] ys h all = h
    none_other (x ∷ xs) [] h all = h
    none_other (x ∷ xs) (y ∷ ys) (inl h) all = other x y h all.0
    none_other (x ∷ xs) (y ∷ ys) (inr h) all = none_other xs ys h all.1

    pub decided : (b : Bool) (xs : List A) (ys : List B) → AreSame R xs ys b → IsTrue b ↔ AllZip P xs ys
    decided true xs ys h = (λ y. all_related xs ys h, λ all. refl)
    decided false xs ys (inl differ) = (λ y. absurd (false_is false refl y), λ all. absurd (differ (as_many xs ys all)))
    decided false xs ys (inr any) = (λ y. absurd (false_is false refl y), λ all. absurd (none_other xs ys any all))
