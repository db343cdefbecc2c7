-- The order of the keys of maps: first fit takes the keys of a table in the order in which a document has them.
use Rattle.std.proofs.Common.{◌≡◌, ◌≢◌, ℕ, suc, Bool, true, false, cond, ◌||◌, ◌&&◌, ◌==◌, nat_lt, List, [], ◌∷◌, length, refl, sym, ap, ap₂, ◌∙◌, if◌then◌else◌}
use Rattle.std.specs.List.{AllByRecursion}
use Rattle.std.specs.Str.{bytes_eq}
use Rattle.std.specs.Ordering.{is_lt, nat_cmp, ordering_then, ordering_reverse}
use Rattle.std.specs.declared.cmp.Ordering.{Ordering}
use Rattle.std.specs.declared.cmp.Ordering.TheVariants.{Less, Equal, Greater}
use Rattle.std.specs.Cmp.Lexicographic.{slice_cmp, nat_list_cmp_total}
use Rattle.std.proofs.lemmas.Map.Lookups.{exact_bytes}
use Rattle.archive_shape_canonical.specs.FirstFit.{comes_before, put_in, ascending}
use Rattle.cabinet_text_grammar.specs.Keys.{hashed}
use Rattle.cabinet_text_grammar.specs.Tree.{Tree, nothing, Pairs, no_pairs, more_pairs, ArePairs}
use Rattle.cabinet_documents.specs.Order.{is_below, inserted, arranged}
use Rattle.cabinet_documents.proofs.ByKey.{keys_same, keys_differ, IsNewKey, AreKeysDistinct, pair_keys, AreDistinct}

-- ---- one order

pub before_is : (k l : List ℕ) → comes_before k l ≡ is_lt (slice_cmp nat_cmp k l)
before_is [] [] = refl
before_is [] (y ∷ ys) = refl
before_is (x ∷ xs) [] = refl
before_is (x ∷ xs) (y ∷ ys) = by_first (nat_lt x y) (x == y) (before_is xs ys)
  where
    by_first : (a b : Bool) → comes_before xs ys ≡ is_lt (slice_cmp nat_cmp xs ys)
        → (a || (b && comes_before xs ys)) ≡ is_lt (ordering_then (cond a Less (cond b Equal Greater)) (slice_cmp nat_cmp xs ys))
    by_first true b e = refl
    by_first false true e = e
    by_first false false e = refl

-- ---- what holds of each of some keys, and distinct keys

module _ (P : List ℕ → Type 0) where
  each_put : (m : List ℕ) (ls : List (List ℕ)) → P m → AllByRecursion P ls → AllByRecursion P (put_in m ls)
  each_put m [] h hs = (h, hs)
  each_put m (l ∷ ls) h hs = by_case (comes_before m l) (each_put m ls h hs.1)
    where
      by_case : (b : Bool) → AllByRecursion P (put_in m ls) → AllByRecursion P (cond b (m ∷ (l ∷ ls)) (l ∷ put_in m ls))
      by_case true on = (h, hs)
      by_case false on = (hs.0, on)

  each_ascending : (ks : List (List ℕ)) → AllByRecursion P ks → AllByRecursion P (ascending ks)
  each_ascending [] h = tt
  each_ascending (k ∷ ks) h = each_put k (ascending ks) h.0 (each_ascending ks h.1)

  each_put_back : (m : List ℕ) (ls : List (List ℕ)) → AllByRecursion P (put_in m ls) → P m × AllByRecursion P ls
  each_put_back m [] h = h
  each_put_back m (l ∷ ls) h = by_case (comes_before m l) h (each_put_back m ls)
    where
      by_case : (b : Bool) → AllByRecursion P (cond b (m ∷ (l ∷ ls)) (l ∷ put_in m ls)) → (AllByRecursion P (put_in m ls) → P m × AllByRecursion P ls) → P m × AllByRecursion P (l ∷ ls)
      by_case true g on = g
      by_case false g on = let r = on g.1 in (r.0, (g.0, r.1))

  each_ascending_back : (ks : List (List ℕ)) → AllByRecursion P (ascending ks) → AllByRecursion P ks
  each_ascending_back [] h = tt
  each_ascending_back (k ∷ ks) h = let r = each_put_back k (ascending ks) h in (r.0, each_ascending_back ks r.1)

length_put : (k : List ℕ) (ls : List (List ℕ)) → length (put_in k ls) ≡ suc (length ls)
length_put k [] = refl
length_put k (l ∷ ls) = by_case (comes_before k l) (length_put k ls)
  where
    by_case : (b : Bool) → length (put_in k ls) ≡ suc (length ls) → length (cond b (k ∷ (l ∷ ls)) (l ∷ put_in k ls)) ≡ suc (length (l ∷ ls))
    by_case true e = refl
    by_case false e = ap suc e

pub length_ascending : (ks : List (List ℕ)) → length (ascending ks) ≡ length ks
length_ascending [] = refl
length_ascending (k ∷ ks) = length_put k (ascending ks) ∙ ap suc (length_ascending ks)

new_each : (k : List ℕ) (ks : List (List ℕ)) → IsNewKey k ks → AllByRecursion (λ l. l ≢ k) ks
new_each k [] h = tt
new_each k (l ∷ ks) h = (h.0, new_each k ks h.1)

each_new : (k : List ℕ) (ks : List (List ℕ)) → AllByRecursion (λ l. l ≢ k) ks → IsNewKey k ks
each_new k [] h = tt
each_new k (l ∷ ks) h = (h.0, each_new k ks h.1)

distinct_put_back : (m : List ℕ) (ls : List (List ℕ)) → AreKeysDistinct (put_in m ls) → AreKeysDistinct (m ∷ ls)
distinct_put_back m [] h = h
distinct_put_back m (l ∷ ls) h = by_case (comes_before m l) h (distinct_put_back m ls)
  where
    by_case : (b : Bool) → AreKeysDistinct (cond b (m ∷ (l ∷ ls)) (l ∷ put_in m ls)) → (AreKeysDistinct (put_in m ls) → AreKeysDistinct (m ∷ ls)) → AreKeysDistinct (m ∷ (l ∷ ls))
    by_case true g on = g
    by_case false g on =
        let r = on g.1 in
        let s = each_put_back (λ x. x ≢ l) m ls (new_each l (put_in m ls) g.0) in
        (((λ e. s.0 (sym e)), r.0), (each_new l ls s.1, r.1))

pub distinct_ascending_back : (ks : List (List ℕ)) → AreKeysDistinct (ascending ks) → AreKeysDistinct ks
distinct_ascending_back [] h = tt
distinct_ascending_back (k ∷ ks) h =
    let r = distinct_put_back k (ascending ks) h in
    (each_new k ks (each_ascending_back (λ l. l ≢ k) ks (new_each k (ascending ks) r.0)), distinct_ascending_back ks r.1)

-- ---- the keys of a hashed map ascend
first_stays : (k : List ℕ) (before : List (List ℕ)) (ps : Pairs) → ArePairs hashed (k ∷ before) ps → put_in k (pair_keys ps) ≡ k ∷ pair_keys ps
first_stays k before no_pairs h = refl
first_stays k before (more_pairs l t ps) h = ap (λ b. cond b (k ∷ (l ∷ pair_keys ps)) (l ∷ put_in k (pair_keys ps))) (before_is k l ∙ ap is_lt h.0.1)

pub ascending_stays : (before : List (List ℕ)) (ps : Pairs) → ArePairs hashed before ps → ascending (pair_keys ps) ≡ pair_keys ps
ascending_stays before no_pairs h = refl
ascending_stays before (more_pairs k t ps) h = ap (put_in k) (ascending_stays (k ∷ before) ps h.1.1) ∙ first_stays k before ps h.1.1

-- ---- keys, each with a node that follows from it

module _ (f : List ℕ → Tree) where
  abbrev pub with_nodes : List (List ℕ) → Pairs
  with_nodes [] = no_pairs
  with_nodes (k ∷ ks) = more_pairs k (f k) (with_nodes ks)

  inserted_with : (k : List ℕ) (ls : List (List ℕ)) → IsNewKey k ls → inserted k (f k) (with_nodes ls) ≡ with_nodes (put_in k ls)
  inserted_with k [] new = refl
  inserted_with k (l ∷ ls) new = by_order (slice_cmp nat_cmp k l) refl (inserted_with k ls new.1)
    where
      step : (a b : Bool) → is_below l k ≡ a → comes_before k l ≡ b
          → cond a (more_pairs l (f l) (inserted k (f k) (with_nodes ls))) (more_pairs k (f k) (more_pairs l (f l) (with_nodes ls))) ≡ with_nodes (cond b (k ∷ (l ∷ ls)) (l ∷ put_in k ls))
          → inserted k (f k) (with_nodes (l ∷ ls)) ≡ with_nodes (put_in k (l ∷ ls))
      step a b e g same =
          ap (λ c. cond c (more_pairs l (f l) (inserted k (f k) (with_nodes ls))) (more_pairs k (f k) (more_pairs l (f l) (with_nodes ls)))) e
          ∙ same ∙ ap (λ c. with_nodes (cond c (k ∷ (l ∷ ls)) (l ∷ put_in k ls))) (sym g)

      back : (o : Ordering) → slice_cmp nat_cmp k l ≡ o → is_below l k ≡ is_lt (ordering_reverse o)
      back o e = let total = nat_list_cmp_total in ap is_lt (total.antisymm l k ∙ ap ordering_reverse e)

      by_order : (o : Ordering) → slice_cmp nat_cmp k l ≡ o → inserted k (f k) (with_nodes ls) ≡ with_nodes (put_in k ls)
          → inserted k (f k) (with_nodes (l ∷ ls)) ≡ with_nodes (put_in k (l ∷ ls))
      by_order Less e on = step false true (back Less e) (before_is k l ∙ ap is_lt e) refl
      by_order Equal e on = absurd (new.0 (sym (exact_bytes k l e)))
      by_order Greater e on = step true false (back Greater e) (before_is k l ∙ ap is_lt e) (ap (more_pairs l (f l)) on)

  pub arranged_with : (ks : List (List ℕ)) → AreKeysDistinct ks → arranged (with_nodes ks) ≡ with_nodes (ascending ks)
  arranged_with [] h = refl
  arranged_with (k ∷ ks) h = ap (inserted k (f k)) (arranged_with ks h.1) ∙ inserted_with k (ascending ks) (each_new k (ascending ks) (each_ascending (λ l. l ≢ k) ks (new_each k ks h.0)))

-- pairs of distinct keys are such
abbrev pub node_of_key : Pairs → List ℕ → Tree
node_of_key no_pairs k = nothing
node_of_key (more_pairs l t ps) k = if bytes_eq l k then t else node_of_key ps k

with_others : (l : List ℕ) (t : Tree) (ps : Pairs) (ks : List (List ℕ)) → IsNewKey l ks → with_nodes (node_of_key (more_pairs l t ps)) ks ≡ with_nodes (node_of_key ps) ks
with_others l t ps [] h = refl
with_others l t ps (k ∷ ks) h =
    ap₂ (more_pairs k) (ap (λ b. if b then t else node_of_key ps k) (keys_differ l k (λ e. h.0 (sym e)))) (with_others l t ps ks h.1)

pub with_own : (ps : Pairs) → AreDistinct ps → with_nodes (node_of_key ps) (pair_keys ps) ≡ ps
with_own no_pairs h = refl
with_own (more_pairs k t ps) h =
    ap₂ (more_pairs k) (ap (λ b. if b then t else node_of_key ps k) (keys_same k k refl)) (with_others k t ps (pair_keys ps) h.0 ∙ with_own ps h.2)
