-- Relations of the items of two lists, place by place.
use Rattle.std.proofs.Common.{◌≡◌, Bool, true, false, cond, List, [], ◌∷◌, map, filter}
use Rattle.std.specs.List.{AllZip}

module _ {X Y : Type 0} where
  pub both_zip : (P S : X → Y → Type 0) (xs : List X) (ys : List Y) → AllZip P xs ys → AllZip S xs ys → AllZip (λ x y. P x y × S x y) xs ys
  both_zip P S [] [] g h = tt
  both_zip P S [] (y ∷ ys) g h = absurd g
  both_zip P S (x ∷ xs) [] g h = absurd g
  both_zip P S (x ∷ xs) (y ∷ ys) g h = ((g.0, h.0), both_zip P S xs ys g.1 h.1)

  pub zip_as : (P S : X → Y → Type 0) → ((x : X) (y : Y) → P x y → S x y) → (xs : List X) (ys : List Y) → AllZip P xs ys → AllZip S xs ys
  zip_as P S f [] [] h = tt
  zip_as P S f [] (y ∷ ys) h = absurd h
  zip_as P S f (x ∷ xs) [] h = absurd h
  zip_as P S f (x ∷ xs) (y ∷ ys) h = (f x y h.0, zip_as P S f xs ys h.1)

  -- what holds for each of some values holds at each place
  pub zip_each : {Z : Type 0} (T : X → Y → Type 0) (P : Z → X → Y → Type 0) (xs : List X) (ys : List Y) → AllZip T xs ys → ((z : Z) → AllZip (P z) xs ys) → AllZip (λ x y. (z : Z) → P z x y) xs ys
  zip_each T P [] [] t h = tt
  zip_each T P [] (y ∷ ys) t h = absurd t
  zip_each T P (x ∷ xs) [] t h = absurd t
  zip_each T P (x ∷ xs) (y ∷ ys) t h = (λ z. (h z).0, zip_each T P xs ys t.1 (λ z. (h z).1))

  -- those that tests keep, which answer alike
  pub zip_kept : (P : X → Y → Type 0) (a : X → Bool) (b : Y → Bool) (xs : List X) (ys : List Y) → AllZip (λ x y. P x y × (a x ≡ b y)) xs ys → AllZip P (filter a xs) (filter b ys)
  zip_kept P a b [] [] h = tt
  zip_kept P a b [] (y ∷ ys) h = absurd h
  zip_kept P a b (x ∷ xs) [] h = absurd h
  zip_kept P a b (x ∷ xs) (y ∷ ys) h = tested (a x) (b y) h.0.1 (zip_kept P a b xs ys h.1)
    where
      tested : (c d : Bool) → c ≡ d → AllZip P (filter a xs) (filter b ys) → AllZip P (cond c (x ∷ filter a xs) (filter a xs)) (cond d (y ∷ filter b ys) (filter b ys))
      tested true true same rest = (h.0.0, rest)
      tested true false same rest = absurd cc
      tested false true same rest = absurd cc
      tested false false same rest = rest

  -- the items of the first list are seen as others
  pub zip_seen : {Z : Type 0} (see : X → Z) (P : Z → Y → Type 0) (xs : List X) (ys : List Y) → AllZip (λ x y. P (see x) y) xs ys → AllZip P (map see xs) ys
  zip_seen see P [] [] h = tt
  zip_seen see P [] (y ∷ ys) h = absurd h
  zip_seen see P (x ∷ xs) [] h = absurd h
  zip_seen see P (x ∷ xs) (y ∷ ys) h = (h.0, zip_seen see P xs ys h.1)
