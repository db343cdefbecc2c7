-- The items at the places of a table, one after the other.
use Rattle.std.proofs.Common.{◌≡◌, ℕ, ◌+◌, ◌-◌, ◌<◌, ◌≤◌, List, [], ◌∷◌, length, drop, map, set, get_or, replicate, cond, sym, ap, ◌∙◌, arith, Option, Some, None, inl, inr, length-set, get_or-set_same, get_or-set_other}
use denote.Bor.{Bor}
use Rattle.std.proofs.lemmas.Bool.Decides.{eqb_tells}
use Rattle.std.proofs.lemmas.List.{length-map, map-set, drop_more, drop_all, get_or-map, length-replicate, get_or-replicate}
use Rattle.std.proofs.lemmas.List.FromFn.{length-map-range_with_len, get_or-map-range_with_len, fill_by_all}
use Rattle.archive_shape_canonical.specs.FirstFit.{item_at, placed}
use Rattle.archive_hash_writing.specs.Standing.{standing}

module _ {A : Type 0} where
  pub length-placed : (cap : ℕ) (qs : List ℕ) (xs : List A) → length (placed cap qs xs) ≡ cap
  length-placed cap qs xs = length-map-range_with_len (item_at xs qs) 0 cap

  placed_at : (cap : ℕ) (qs : List ℕ) (xs : List A) (p : ℕ) → p < cap → get_or (placed cap qs xs) p None ≡ item_at xs qs p
  placed_at cap qs xs p h = get_or-map-range_with_len (item_at xs qs) 0 cap p p None h (omega arith)

  -- one item more
  placed_more : (cap q : ℕ) (qs : List ℕ) (x : A) (xs : List A) → q < cap → placed cap (q ∷ qs) (x ∷ xs) ≡ set (placed cap qs xs) q (Some x)
  placed_more cap q qs x xs h =
      let old : List (Option A) = placed cap qs xs in
      let long : length old ≡ cap = length-placed cap qs xs in
      let here : q < length old = omega arith in
      sym (fill_by_all (item_at (x ∷ xs) (q ∷ qs)) (set old q (Some x)) cap None (length-set old q (Some x) ∙ long)
      (λ k less. elim (eqb_tells q k) [
        | inl e ↦
            ap (λ n. get_or (set old q (Some x)) n None) (sym e.1)
            ∙ get_or-set_same old q (Some x) None here
            ∙ ap (λ b. cond b (Some x) (item_at xs qs k)) (sym e.0)
        | inr n ↦
            get_or-set_other old q k (Some x) None (λ same. n.1 (sym same))
            ∙ placed_at cap qs xs k less
            ∙ ap (λ b. cond b (Some x) (item_at xs qs k)) (sym n.0)
      ]))

  -- no item
  placed_none : (cap : ℕ) (qs : List ℕ) → map (standing {A = A}) (replicate cap None) ≡ placed cap qs []
  placed_none cap qs =
      let empty : List (Option (Bor A)) = replicate cap None in
      fill_by_all (item_at [] qs) (map standing empty) cap None (length-map empty standing ∙ length-replicate cap None)
      (λ k less. get_or-map standing empty k None None (omega (arith, length-replicate {A = Option (Bor A)} cap None)) ∙ ap standing (get_or-replicate cap k None None less))

  -- the item before those that are in the table is put at its place
  pub placed_next : (cap i q : ℕ) (qs : List ℕ) (xs : List A) (table next : List (Option (Bor A))) (item : Bor A) → 0 < i → i ≤ length xs → length qs ≡ length xs → q < cap → q ≡ get_or qs (i - 1) 0
      → item.now ≡ get_or xs (i - 1) item.now → map standing table ≡ placed cap (drop i qs) (drop i xs) → next ≡ set table q (Some item)
      → map standing next ≡ placed cap (drop (i - 1) qs) (drop (i - 1) xs)
  placed_next cap i q qs xs table next item some within even low place is h e =
      let j = i - 1 in
      let back : j + 1 ≡ i = omega arith in
      let first : drop j qs ≡ q ∷ drop i qs = drop_more qs j 0 (omega arith) ∙ ap (λ p. p ∷ drop (j + 1) qs) (sym place) ∙ ap (λ n. q ∷ drop n qs) back in
      let rest : drop j xs ≡ item.now ∷ drop i xs = drop_more xs j item.now (omega arith) ∙ ap (λ x. x ∷ drop (j + 1) xs) (sym is) ∙ ap (λ n. item.now ∷ drop n xs) back in
      ap (map standing) e
      ∙ map-set standing table q (Some item)
      ∙ ap (λ l. set l q (Some item.now)) h
      ∙ sym (placed_more cap q (drop i qs) item.now (drop i xs) low)
      ∙ ap (λ l. placed cap l (item.now ∷ drop i xs)) (sym first)
      ∙ ap (λ l. placed cap (drop j qs) l) (sym rest)

  -- the length of the table is the number of places
  pub places_are : (cap : ℕ) (qs : List ℕ) (xs : List A) (table : List (Option (Bor A))) → map standing table ≡ placed cap qs xs → length table ≡ cap
  places_are cap qs xs table h = sym (length-map table standing) ∙ ap length h ∙ length-placed cap qs xs

  -- before the last one there is no item
  pub placed_first : (cap i : ℕ) (qs : List ℕ) (xs : List A) (table : List (Option (Bor A))) → length xs ≤ i → table ≡ replicate cap None → map standing table ≡ placed cap (drop i qs) (drop i xs)
  placed_first cap i qs xs table end e = ap (map standing) e ∙ placed_none cap (drop i qs) ∙ ap (λ l. placed cap (drop i qs) l) (sym (drop_all i xs end))
