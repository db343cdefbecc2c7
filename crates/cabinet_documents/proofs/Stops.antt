-- How many containers lie in one another in a walk, and statements about each of its stops, whatever the order in which
-- children and entries come.
use Rattle.std.proofs.Common.{◌≡◌, ℕ, zero, suc, ◌+◌, ◌<◌, ◌≤◌, max, Bool, true, false, cond, List, [], ◌∷◌, ◌++◌, take, drop, refl, sym, ap, subst, ◌∙◌, arith}
use Rattle.std.specs.Prelude.{⊤}
use Rattle.std.specs.List.{flat_map, Contains}
use Rattle.archive_shape_layout.specs.Content.{Content}
use Rattle.archive_shape_layout.specs.Content.Label.{leaf, written, same, second, whole, tagged, woven, total}
use Rattle.archive_shape_layout.specs.Content.Content.{illegal, plain, claimed, counting}
use Rattle.cabinet_documents.specs.Walk.{Stop, is_container, joined, in_turn}

-- ---- how many containers lie in one another in a walk, from a depth

abbrev pub peak : ℕ → List Stop → ℕ
peak d [] = d
peak d (s ∷ rest) = max (cond (is_container s.part) (s.depth + 1) d) (peak d rest)

pub peak_low : (d : ℕ) (walk : List Stop) → d ≤ peak d walk
peak_low d [] = omega arith
peak_low d (s ∷ rest) = let r = peak_low d rest in omega arith

pub peak_append : (d : ℕ) (xs ys : List Stop) → peak d (xs ++ ys) ≡ max (peak d xs) (peak d ys)
peak_append d [] ys = let r = peak_low d ys in omega arith
peak_append d (s ∷ xs) ys = let r = peak_append d xs ys in omega arith

raise_one : (b : Bool) (d e p q : ℕ) → max (d + 1) p ≡ q → max (d + 1) (max (cond b (e + 1) d) p) ≡ max (cond b (e + 1) (d + 1)) q
raise_one true d e p q h = omega arith
raise_one false d e p q h = omega arith

pub peak_raise : (d : ℕ) (walk : List Stop) → max (d + 1) (peak d walk) ≡ peak (d + 1) walk
peak_raise d [] = omega arith
peak_raise d (s ∷ rest) = raise_one (is_container s.part) d s.depth (peak d rest) (peak (d + 1) rest) (peak_raise d rest)

-- of each stop
abbrev pub Each : (Stop → Type 0) → List Stop → Type 0
Each P [] = ⊤
Each P (s ∷ rest) = P s × Each P rest

pub each_append : (P : Stop → Type 0) (xs ys : List Stop) → Each P xs → Each P ys → Each P (xs ++ ys)
each_append P [] ys h k = k
each_append P (x ∷ xs) ys h k = (h.0, each_append P xs ys h.1 k)

pub each_front : (P : Stop → Type 0) (xs ys : List Stop) → Each P (xs ++ ys) → Each P xs × Each P ys
each_front P [] ys h = (tt, h)
each_front P (x ∷ xs) ys h = let r = each_front P xs ys h.1 in ((h.0, r.0), r.1)

pub each_contains : (P : Stop → Type 0) (xs : List Stop) (s : Stop) → Each P xs → Contains xs s → P s
each_contains P [] s h c = let a = c.1 in absurd (omega (arith, a))
each_contains P (x ∷ xs) s h (zero, a, e) = subst P e h.0
each_contains P (x ∷ xs) s h (suc n, a, e) = each_contains P xs s h.1 (n, omega (arith, a), e)

pub each_of : (P : Stop → Type 0) (xs : List Stop) → ((s : Stop) → Contains xs s → P s) → Each P xs
each_of P [] h = tt
each_of P (x ∷ xs) h = (h x (0, omega arith, refl), each_of P xs (λ s c. let a = c.1 in h s (suc c.0, omega (arith, a), c.2)))

abbrev pub flat : List (List Stop) → List Stop
flat runs = flat_map (λ x. x) runs

-- ---- children and entries in turn are as deep as all of them, and each has what all of them have

flat_split : (d n : ℕ) (runs : List (List Stop)) → peak d (flat runs) ≡ max (peak d (flat (take n runs))) (peak d (flat (drop n runs)))
flat_split d zero runs = let r = peak_low d (flat runs) in omega arith
flat_split d (suc n) [] = omega arith
flat_split d (suc n) (r ∷ rs) =
    let h = flat_split d n rs in
    let a = peak_append d r (flat rs) in
    let b = peak_append d r (flat (take n rs)) in
    omega (arith, h, a, b)

peak_turn : (d : ℕ) (cs es : List (List Stop)) → peak d (in_turn cs es) ≡ max (peak d (flat cs)) (peak d (flat es))
peak_turn d [] es = let r = peak_low d (flat es) in omega arith
peak_turn d (c ∷ cs) [] = let r = peak_low d (flat (c ∷ cs)) in omega arith
peak_turn d (c ∷ cs) (e ∷ es) =
    let h = peak_turn d cs es in
    let a = peak_append d c (e ++ in_turn cs es) in
    let b = peak_append d e (in_turn cs es) in
    let x = peak_append d c (flat cs) in
    let y = peak_append d e (flat es) in
    omega (arith, h, a, b, x, y)

pub peak_joined : (d : ℕ) (c : Content) (runs : List (List Stop)) → peak d (joined c runs) ≡ peak d (flat runs)
peak_joined d illegal runs = refl
peak_joined d (plain l ps) runs = refl
peak_joined d (counting cyclic t q len) runs = refl
peak_joined d (claimed s (leaf v) ps) runs = refl
peak_joined d (claimed s (written bs) ps) runs = refl
peak_joined d (claimed s same ps) runs = refl
peak_joined d (claimed s second ps) runs = refl
peak_joined d (claimed s whole ps) runs = refl
peak_joined d (claimed s (tagged tag) ps) runs = refl
peak_joined d (claimed s (total n) ps) runs = refl
peak_joined d (claimed s (woven n) ps) runs = peak_turn d (take n runs) (drop n runs) ∙ sym (flat_split d n runs)

module _ (P : Stop → Type 0) where
  each_split : (n : ℕ) (runs : List (List Stop)) → Each P (flat runs) → Each P (flat (take n runs)) × Each P (flat (drop n runs))
  each_split zero runs h = (tt, h)
  each_split (suc n) [] h = (tt, tt)
  each_split (suc n) (r ∷ rs) h =
      let f = each_front P r (flat rs) h in
      let k = each_split n rs f.1 in
      (each_append P r (flat (take n rs)) f.0 k.0, k.1)

  each_both : (n : ℕ) (runs : List (List Stop)) → Each P (flat (take n runs)) → Each P (flat (drop n runs)) → Each P (flat runs)
  each_both zero runs h k = k
  each_both (suc n) [] h k = tt
  each_both (suc n) (r ∷ rs) h k =
      let f = each_front P r (flat (take n rs)) h in
      each_append P r (flat rs) f.0 (each_both n rs f.1 k)

  each_turn : (cs es : List (List Stop)) → Each P (flat cs) → Each P (flat es) → Each P (in_turn cs es)
  each_turn [] es h k = k
  each_turn (c ∷ cs) [] h k = h
  each_turn (c ∷ cs) (e ∷ es) h k =
      let f = each_front P c (flat cs) h in
      let g = each_front P e (flat es) k in
      each_append P c (e ++ in_turn cs es) f.0 (each_append P e (in_turn cs es) g.0 (each_turn cs es f.1 g.1))

  each_untangled : (cs es : List (List Stop)) → Each P (in_turn cs es) → Each P (flat cs) × Each P (flat es)
  each_untangled [] es h = (tt, h)
  each_untangled (c ∷ cs) [] h = (h, tt)
  each_untangled (c ∷ cs) (e ∷ es) h =
      let f = each_front P c (e ++ in_turn cs es) h in
      let g = each_front P e (in_turn cs es) f.1 in
      let k = each_untangled cs es g.1 in
      (each_append P c (flat cs) f.0 k.0, each_append P e (flat es) g.0 k.1)

  pub each_joined : (c : Content) (runs : List (List Stop)) → Each P (flat runs) → Each P (joined c runs)
  each_joined illegal runs h = h
  each_joined (plain l ps) runs h = h
  each_joined (counting cyclic t q len) runs h = h
  each_joined (claimed s (leaf v) ps) runs h = h
  each_joined (claimed s (written bs) ps) runs h = h
  each_joined (claimed s same ps) runs h = h
  each_joined (claimed s second ps) runs h = h
  each_joined (claimed s whole ps) runs h = h
  each_joined (claimed s (tagged tag) ps) runs h = h
  each_joined (claimed s (total n) ps) runs h = h
  each_joined (claimed s (woven n) ps) runs h = let k = each_split n runs h in each_turn (take n runs) (drop n runs) k.0 k.1

  pub each_flat : (c : Content) (runs : List (List Stop)) → Each P (joined c runs) → Each P (flat runs)
  each_flat illegal runs h = h
  each_flat (plain l ps) runs h = h
  each_flat (counting cyclic t q len) runs h = h
  each_flat (claimed s (leaf v) ps) runs h = h
  each_flat (claimed s (written bs) ps) runs h = h
  each_flat (claimed s same ps) runs h = h
  each_flat (claimed s second ps) runs h = h
  each_flat (claimed s whole ps) runs h = h
  each_flat (claimed s (tagged tag) ps) runs h = h
  each_flat (claimed s (total n) ps) runs h = h
  each_flat (claimed s (woven n) ps) runs h = let k = each_untangled (take n runs) (drop n runs) h in each_both n runs k.0 k.1

-- ---- a walk that does not go too deep

pub all_below : (d : ℕ) (walk : List Stop) → peak d walk ≤ 64 → Each (λ (s : Stop). is_container s.part ≡ true → s.depth < 64) walk
all_below d [] h = tt
all_below d (s ∷ rest) h = (one_below (is_container s.part) refl, all_below d rest (omega arith))
  where
    one_below : (b : Bool) → is_container s.part ≡ b → is_container s.part ≡ true → s.depth < 64
    one_below true e f = let k : cond (is_container s.part) (s.depth + 1) d ≡ s.depth + 1 = ap (λ b. cond b (s.depth + 1) d) e in omega arith
    one_below false e f = absurd (cc)
