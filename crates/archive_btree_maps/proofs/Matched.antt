-- The keys of a set against those of a set of std, one by one.
use denote.Ref.{Bor}
use Rattle.std.proofs.Common.{◌≡◌, ◌∙◌, ℕ, Bool, true, false, IsTrue, ◌↔◌, List, [], ◌∷◌, length, map, refl, sym, ap, subst}
use Rattle.std.specs.List.{AllZip}
use Rattle.std.specs.Ordering.{is_eq}
use Rattle.std.specs.declared.cmp.Ordering.{Ordering}
use Rattle.std.specs.declared.cmp.Ordering.TheVariants.{Less, Equal, Greater}
use Rattle.archive_shape.specs.declared.references.refs.Ref.{Ref}
use Rattle.archive_btree_layout.specs.Reading.{Place}
use Rattle.archive_btree_maps.specs.Refs.{key_at}
use Rattle.archive_btree_maps.specs.Lookups.{IsEqualKey}

tied : (o : Ordering) → true ≡ is_eq o → o ≡ Equal
tied Less e = absurd cc
tied Equal e = refl
tied Greater e = absurd cc

module _ {K Q : Type 0} (key_of : List ℕ → ℕ → Q → Type 0) (key_order : Q → Q → Ordering) where
  -- the key in a buffer compares as equal to the query
  abbrev pub IsEqualAt : Ref K → Q → Type 0
  IsEqualAt r query = (key : Q) × key_of r.bytes.now r.pos key × (key_order key query ≡ Equal)

  -- keys are equal to queries one by one
  abbrev pub AreEqual : List (Ref K) → List Q → Type 0
  AreEqual = AllZip IsEqualAt

  pub moved : (xs others : List (Ref K)) (ys queries : List Q) → xs ≡ others → ys ≡ queries → AreEqual xs ys → AreEqual others queries
  moved xs others ys queries e f h = subst (λ zs. AreEqual zs queries) e (subst (λ zs. AreEqual xs zs) f h)

  pub none_left : (xs : List (Ref K)) (ys : List Q) → length xs ≡ 0 → length ys ≡ 0 → AreEqual xs ys
  none_left [] [] e f = tt
  none_left [] (y ∷ ys) e f = absurd cc
  none_left (x ∷ xs) ys e f = absurd cc

  -- what a comparison says of a key
  abbrev pub Says : Ref K → Q → Bool → Type 0
  Says r query b = (key : Q) × key_of r.bytes.now r.pos key × (b ≡ is_eq (key_order key query))

  pub equal_at : (r : Ref K) (query : Q) (b : Bool) → Says r query b → b ≡ true → IsEqualAt r query
  equal_at r query b h e = (h.0, h.1, tied (key_order h.0 query) (sym e ∙ h.2))

  pub unequal_at :
      ((bytes : List ℕ) (pos : ℕ) (a b : Q) → key_of bytes pos a → key_of bytes pos b → (query : Q) → key_order a query ≡ key_order b query)
      → (r : Ref K) (query : Q) (b : Bool) → Says r query b → b ≡ false → IsEqualAt r query → ⊥
  unequal_at one r query b h e x =
      let same : is_eq (key_order h.0 query) ≡ true = ap is_eq (one r.bytes.now r.pos h.0 x.0 h.1 x.1 query ∙ x.2) in
      let both : false ≡ true = sym e ∙ h.2 ∙ same in
      absurd cc

-- what lies at places is equal to queries where the keys there are
module _ (K : Type 0) {Q : Type 0} (key_of : List ℕ → ℕ → Q → Type 0) (key_order : Q → Q → Ordering) (bytes : Bor (List ℕ)) where
  abbrev EqualKeys : List Place → List Q → Type 0
  EqualKeys = AllZip (λ e query. IsEqualKey key_of key_order bytes.now query e)

  at_places : (ps : List Place) (ys : List Q) → AreEqual {K = K} key_of key_order (map (key_at bytes) ps) ys → EqualKeys ps ys
  at_places [] [] h = tt
  at_places [] (y ∷ ys) h = absurd h
  at_places (p ∷ ps) [] h = absurd h
  at_places (p ∷ ps) (y ∷ ys) h = (h.0, at_places ps ys h.1)

  at_keys : (ps : List Place) (ys : List Q) → EqualKeys ps ys → AreEqual {K = K} key_of key_order (map (key_at bytes) ps) ys
  at_keys [] [] h = tt
  at_keys [] (y ∷ ys) h = absurd h
  at_keys (p ∷ ps) [] h = absurd h
  at_keys (p ∷ ps) (y ∷ ys) h = (h.0, at_keys ps ys h.1)

  pub decided : (b : Bool) (xs : List (Ref K)) (ys : List Q) (ps : List Place) (queries : List Q) → xs ≡ map (key_at bytes) ps → ys ≡ queries
      → (IsTrue b → AreEqual key_of key_order xs ys) → (AreEqual key_of key_order xs ys → IsTrue b)
      → IsTrue b ↔ EqualKeys ps queries
  decided b xs ys ps queries e f from back = (
    λ t. at_places ps queries (moved key_of key_order xs (map (key_at bytes) ps) ys queries e f (from t)),
    λ h. back (moved key_of key_order (map (key_at bytes) ps) xs queries ys (sym e) (sym f) (at_keys ps queries h)),
  )
