-- At each place of a table that first fit fills, a control is a tag where there is an item, and otherwise empty.
use Rattle.std.proofs.Common.{◌≡◌, ℕ, ◌+◌, ◌*◌, ◌%◌, ◌^◌, ◌<◌, ◌≤◌, Bool, true, false, cond, ◌⊎◌, List, [], ◌∷◌, length, map, take, eqb, refl, sym, ap, subst, ◌∙◌, arith, inl, inr, lt-ltb, le-ltb, get_or-take, Option, Some, None}
use Rattle.std.specs.Prelude.{⊤, nat_lt, count_by}
use Rattle.std.specs.List.{All, range_with_len}
use Rattle.std.proofs.lemmas.Grind.{same_number_lists}
use Rattle.std.proofs.lemmas.List.{length-take}
use Rattle.std.proofs.lemmas.List.FromFn.{length-map-range_with_len, get_or-map-range_with_len}
use Rattle.std.proofs.lemmas.List.Sums.{sum_by-cons}
use Rattle.std.proofs.lemmas.List.Elements.{All-nil, All-cons, All-head, All-tail}
use Rattle.archive_shape_canonical.specs.FirstFit.{control_at, hash_tag, item_at, placed, present, written_controls}
use Rattle.archive_shape_canonical.specs.Strides.{sixteens}
use Rattle.archive_hash_probing.proofs.FirstFits.{Tags, length-written, written_low, tag_below}

-- a control of a place with or without an item
abbrev pub IsTagOf : {A : Type 0} → Option A → ℕ → Type 0
IsTagOf None c = 128 ≤ c
IsTagOf (Some x) c = c < 128

-- the controls of places with or without items
abbrev pub AreTagged : {A : Type 0} → List (Option A) → List ℕ → Type 0
AreTagged [] [] = ⊤
AreTagged [] (c ∷ cs) = ⊥
AreTagged (o ∷ os) [] = ⊥
AreTagged (o ∷ os) (c ∷ cs) = IsTagOf o c × AreTagged os cs

-- up to the number of places
first_controls : (cap : ℕ) (hashes qs : List ℕ) → take cap (written_controls cap hashes qs) ≡ map (control_at hashes qs) (range_with_len 0 cap)
first_controls cap hashes qs =
    let long = length-written cap hashes qs in
    let few : cap ≤ length (written_controls cap hashes qs) = omega (arith, long) in
    let one : length (take cap (written_controls cap hashes qs)) ≡ cap = omega (arith, length-take cap (written_controls cap hashes qs)) in
    let two : length (map (control_at hashes qs) (range_with_len 0 cap)) ≡ cap = length-map-range_with_len (control_at hashes qs) 0 cap in
    same_number_lists _ _ (one ∙ sym two)
    (λ k l.
    let low : k < cap = omega (arith, one, l) in
    get_or-take cap (written_controls cap hashes qs) k 0 low ∙ written_low cap hashes qs k low ∙ sym (get_or-map-range_with_len (control_at hashes qs) 0 cap k k 0 low (omega arith)))

module _ {A : Type 0} where
  -- an item is where its hash's tag is
  pub item_tagged : (hashes : List ℕ) (xs : List A) (qs : List ℕ) (p : ℕ) → length hashes ≡ length xs → Tags hashes → IsTagOf (item_at xs qs p) (control_at hashes qs p)
  item_tagged [] [] qs p e t = omega arith
  item_tagged [] (x ∷ xs) qs p e t = absurd (omega arith)
  item_tagged (h ∷ hs) [] qs p e t = absurd (omega arith)
  item_tagged (h ∷ hs) (x ∷ xs) [] p e t = omega arith
  item_tagged (h ∷ hs) (x ∷ xs) (q ∷ qs) p e t = tested (eqb q p) (tag_below h (All-head (λ k. k < 2 ^ 64) h hs t)) (item_tagged hs xs qs p (omega arith) (All-tail (λ k. k < 2 ^ 64) h hs t))
    where
      tested : (b : Bool) → hash_tag h < 128 → IsTagOf (item_at xs qs p) (control_at hs qs p) → IsTagOf (cond b (Some x) (item_at xs qs p)) (cond b (hash_tag h) (control_at hs qs p))
      tested true here later = here
      tested false here later = later

  all_tagged : (hashes : List ℕ) (xs : List A) (qs ps : List ℕ) → length hashes ≡ length xs → Tags hashes → AreTagged (map (item_at xs qs) ps) (map (control_at hashes qs) ps)
  all_tagged hashes xs qs [] e t = tt
  all_tagged hashes xs qs (p ∷ ps) e t = (item_tagged hashes xs qs p e t, all_tagged hashes xs qs ps e t)

  -- the number of controls that are tags is the number of items at places
  pub count_tags : (os : List (Option A)) (cs : List ℕ) → AreTagged os cs → count_by (λ c. nat_lt c 128) cs ≡ length (present os)
  count_tags [] [] t = refl
  count_tags [] (c ∷ cs) t = absurd t
  count_tags (o ∷ os) [] t = absurd t
  count_tags (None ∷ os) (c ∷ cs) t =
      sum_by-cons (λ y. cond (nat_lt y 128) 1 0) c cs ∙ ap (λ b. cond b 1 0 + count_by (λ y. nat_lt y 128) cs) (le-ltb c 128 t.0) ∙ omega (arith, count_tags os cs t.1)
  count_tags (Some x ∷ os) (c ∷ cs) t =
      sum_by-cons (λ y. cond (nat_lt y 128) 1 0) c cs ∙ ap (λ b. cond b 1 0 + count_by (λ y. nat_lt y 128) cs) (lt-ltb c 128 t.0) ∙ omega (arith, count_tags os cs t.1)

  -- the controls of a written table, up to its number of places
  pub written_tagged : (cap : ℕ) (hashes : List ℕ) (xs : List A) (qs : List ℕ) → length hashes ≡ length xs → Tags hashes → AreTagged (placed cap qs xs) (take cap (written_controls cap hashes qs))
  written_tagged cap hashes xs qs e t =
      subst (AreTagged (placed cap qs xs)) (sym (first_controls cap hashes qs)) (all_tagged hashes xs qs (range_with_len 0 cap) e t)

-- ---- what controls may be

-- a tag, or empty
abbrev pub IsControl : ℕ → Type 0
IsControl c = (c < 128) ⊎ (c ≡ 255)

control_is : (hashes qs : List ℕ) (p : ℕ) → Tags hashes → IsControl (control_at hashes qs p)
control_is [] qs p t = inr refl
control_is (h ∷ hs) [] p t = inr refl
control_is (h ∷ hs) (q ∷ qs) p t = tested (eqb q p) (tag_below h (All-head (λ k. k < 2 ^ 64) h hs t)) (control_is hs qs p (All-tail (λ k. k < 2 ^ 64) h hs t))
  where
    tested : (b : Bool) → hash_tag h < 128 → IsControl (control_at hs qs p) → IsControl (cond b (hash_tag h) (control_at hs qs p))
    tested true here later = inl here
    tested false here later = later

pub controls_are : (cap : ℕ) (hashes qs : List ℕ) → Tags hashes → All IsControl (written_controls cap hashes qs)
unfolding written_controls
controls_are cap hashes qs t = each (range_with_len 0 (16 * sixteens cap + 15))
  where
    one : (c : ℕ) (b : Bool) → IsControl (cond b (control_at hashes qs (c % cap)) 255)
    one c true = control_is hashes qs (c % cap) t
    one c false = inr refl

    each : (cs : List ℕ) → All IsControl (map (λ c. cond (nat_lt c (2 * cap)) (control_at hashes qs (c % cap)) 255) cs)
    each [] = All-nil IsControl
    each (c ∷ cs) = All-cons IsControl _ _ (one c (nat_lt c (2 * cap))) (each cs)
