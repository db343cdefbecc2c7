-- The escaped keys of a kept map: which are among them, before and after one more.
use Rattle.std.proofs.Common.{◌≡◌, ℕ, ◌-◌, false, ◌||◌, List, [], ◌∷◌, ◌++◌, length, refl, sym, ap, ◌∙◌, arith, Bor, Option, Some, None}
use Rattle.std.specs.Prelude.{slice_get}
use Rattle.std.specs.BTreeSet.{BTreeSet, IsFromIterResult, insert_key}
use Rattle.std.specs.Cmp.Lexicographic.{slice_cmp}
use Rattle.std.specs.List.{AllByRecursion, list_any}
use Rattle.std.specs.List.Sorted.{IsStrictlySortedBy}
use Rattle.std.specs.Ordering.{nat_cmp, is_eq, ordering_reverse}
use Rattle.std.specs.Str.{bytes_eq}
use Rattle.std.specs.declared.cmp.Ordering.TheVariants.{Less, Greater}
use Rattle.std.proofs.lemmas.Cmp.{nat_list_cmp_total}
use Rattle.std.proofs.lemmas.Map.Text.{is_eq-slice_cmp}
use Rattle.cabinet_text_nodes.proofs.Seen.{slices_cmp, found_after}
use Rattle.cabinet_text_reading.specs.Seen.{AddsKey, KeysAscend, IsAbove, has_key}
use Rattle.cabinet_text_reading.specs.declared.stack.seen.SeenKeys.{SeenKeys}
use Rattle.cabinet_text_reading.proofs.Ascending.{all_and_one}

abbrev pub AreBelow : List (Bor (List ℕ)) → List ℕ → Type 0
AreBelow ks bytes = AllByRecursion (λ k. slice_cmp nat_cmp k.now bytes ≡ Less) ks

-- ---- what a set says of its keys

pub told_by_set : (bytes : List ℕ) (ks : List (Bor (List ℕ))) → list_any (λ k. is_eq (slice_cmp nat_cmp bytes k.now)) ks ≡ has_key bytes ks
told_by_set bytes ks = λ i. list_any (λ k. is_eq-slice_cmp bytes k.now i) ks

pub inserted : (bytes : List ℕ) (ks : List (Bor (List ℕ))) (key : Bor (List ℕ)) → has_key bytes (insert_key slices_cmp ks key) ≡ (bytes_eq bytes key.now || has_key bytes ks)
inserted bytes ks key = found_after (λ (k : Bor (List ℕ)). k.now) (bytes_eq bytes) ks key

pub set_of_list : (bytes : List ℕ) (ks : List (Bor (List ℕ))) (s : BTreeSet (Bor (List ℕ))) → IsFromIterResult slices_cmp ks s → has_key bytes s.keys ≡ has_key bytes ks
set_of_list bytes ks s made = sym (told_by_set bytes s.keys) ∙ made.0 (record { ref_ptr = (0, 0); now = bytes }) ∙ told_by_set bytes ks

-- the same keys in another list
pub added_alike : (ks ls : List (Bor (List ℕ))) (key : List ℕ) (r : Option SeenKeys) → ((bytes : List ℕ) → has_key bytes ks ≡ has_key bytes ls) → AddsKey ks key r → AddsKey ls key r
added_alike ks ls key None same adds = sym (same key) ∙ adds
added_alike ks ls key (Some seen) same adds = (sym (same key) ∙ adds.0, adds.1, λ bytes. adds.2 bytes ∙ ap (λ b. bytes_eq bytes key || b) (same bytes))

-- ---- ascending keys, and one above the last

module _ (key : Bor (List ℕ)) where
  -- the last is at index n
  ascend_past : (k : Bor (List ℕ)) (ks : List (Bor (List ℕ))) (n : ℕ) → n ≡ length ks → KeysAscend (k ∷ ks) → ((last : Bor (List ℕ)) → slice_get (k ∷ ks) n ≡ Some last → slice_cmp nat_cmp last.now key.now ≡ Less)
      → KeysAscend (k ∷ (ks ++ key ∷ [])) × AreBelow (k ∷ ks) key.now
  unfolding IsStrictlySortedBy
  ascend_past k [] n counted up above =
      let here : slice_cmp nat_cmp k.now key.now ≡ Less = above k (ap (slice_get (k ∷ [])) counted) in
      (((here, tt), (tt, tt)), (here, tt))
  ascend_past k (l ∷ ks) n counted up above =
      let rest = ascend_past l ks (length ks) refl up.1 (λ last is. above last (ap (slice_get (k ∷ l ∷ ks)) counted ∙ is)) in
      let here = nat_list_cmp_total.trans k.now l.now key.now up.0.0 rest.1.0 in
      ((all_and_one (λ m. slice_cmp nat_cmp k.now m.now ≡ Less) (l ∷ ks) key up.0 here, rest.0), (here, rest.1))

  pub ascend_more : (ks : List (Bor (List ℕ))) → KeysAscend ks → IsAbove ks key.now → KeysAscend (ks ++ key ∷ []) × AreBelow ks key.now
  unfolding IsStrictlySortedBy
  ascend_more [] up above = ((tt, tt), tt)
  ascend_more (k ∷ ks) up above = ascend_past k ks (length (k ∷ ks) - 1) (omega arith) up above

  above_each : (k : Bor (List ℕ)) → slice_cmp nat_cmp k.now key.now ≡ Less → slice_cmp nat_cmp key.now k.now ≡ Greater
  above_each k below = nat_list_cmp_total.antisymm key.now k.now ∙ ap ordering_reverse below

  pub lacks_above : (ks : List (Bor (List ℕ))) → AreBelow ks key.now → has_key key.now ks ≡ false
  lacks_above [] below = refl
  lacks_above (k ∷ ks) below =
      let differ : bytes_eq key.now k.now ≡ false = sym (is_eq-slice_cmp key.now k.now) ∙ ap is_eq (above_each k below.0) in
      rw differ (lacks_above ks below.1)

  insert_last : (ks : List (Bor (List ℕ))) → AreBelow ks key.now → insert_key slices_cmp ks key ≡ ks ++ key ∷ []
  insert_last [] below = refl
  insert_last (k ∷ ks) below = rw (above_each k below.0) (ap (λ ls. k ∷ ls) (insert_last ks below.1))

  pub pushed : (bytes : List ℕ) (ks : List (Bor (List ℕ))) → AreBelow ks key.now → has_key bytes (ks ++ key ∷ []) ≡ (bytes_eq bytes key.now || has_key bytes ks)
  pushed bytes ks below = ap (has_key bytes) (sym (insert_last ks below)) ∙ inserted bytes ks key
