-- Legal pairs whose keys are distinct, in the order of their keys, are the pairs of a hashed map.
use Rattle.std.proofs.Common.{◌≡◌, ◌≢◌, ℕ, suc, max, Bool, true, false, cond, List, [], ◌∷◌, IsUtf8, refl, sym, ap, ◌∙◌, arith}
use Rattle.std.specs.Prelude.{⊤}
use Rattle.std.specs.List.{All}
use Rattle.std.proofs.lemmas.List.Elements.{All-nil, All-cons}
use Rattle.std.specs.Ordering.{is_lt, is_eq, nat_cmp, ordering_reverse}
use Rattle.std.specs.declared.cmp.Ordering.{Ordering}
use Rattle.std.specs.declared.cmp.Ordering.TheVariants.{Less, Equal, Greater}
use Rattle.std.specs.Cmp.Lexicographic.{slice_cmp, nat_list_cmp_total}
use Rattle.std.proofs.lemmas.Map.Text.{is_eq-slice_cmp}
use Rattle.std.proofs.lemmas.Slice.Eq.{bytes_eq-Decides}
use Rattle.cabinet_text_grammar.specs.Keys.{hashed, kept, IsBelow, IsAboveLast}
use Rattle.cabinet_text_grammar.specs.Tree.{Tree, Pairs, no_pairs, more_pairs, IsLegal, ArePairs, pair_count, pairs_depth, depth}
use Rattle.cabinet_documents.specs.Order.{is_below, is_same, inserted, arranged}
use Rattle.cabinet_documents.proofs.ByKey.{Lacks, AreKeysDistinct, pair_keys}

pub same_keys : (k l : List ℕ) → is_same k l ≡ true → k ≡ l
same_keys k l e = let d = bytes_eq-Decides k l in d.0 (sym (is_eq-slice_cmp k l) ∙ e)

-- ---- of two keys that differ one is below the other

pub is_less : (o : Ordering) → is_lt o ≡ true → o ≡ Less
is_less Less e = refl
is_less Equal e = absurd (cc)
is_less Greater e = absurd (cc)

not_above : (k l : List ℕ) → l ≢ k → is_below l k ≡ false → IsBelow k l
not_above k l differ e = by_case (slice_cmp nat_cmp k l) refl
  where
    by_case : (o : Ordering) → slice_cmp nat_cmp k l ≡ o → IsBelow k l
    by_case Less f = f
    by_case Equal f = absurd (differ (sym (same_keys k l (ap is_eq f))))
    by_case Greater f =
        let total = nat_list_cmp_total in
        let below : slice_cmp nat_cmp l k ≡ Less = total.antisymm l k ∙ ap ordering_reverse f in
        let both : true ≡ false = sym (ap is_lt below) ∙ e in
        absurd (cc)

-- ---- pairs put in order

-- keys are UTF-8, and nodes are legal
abbrev pub AreEachLegal : Pairs → Type 0
AreEachLegal no_pairs = ⊤
AreEachLegal (more_pairs k t ps) = IsUtf8 k × IsLegal t × AreEachLegal ps

lacks_still : (k l : List ℕ) (t : Tree) (ps : Pairs) → l ≢ k → Lacks k ps → Lacks k (inserted l t ps)
lacks_still k l t no_pairs differ h = (differ, tt)
lacks_still k l t (more_pairs m u ps) differ h = by_case (is_below m l) (lacks_still k l t ps differ h.1)
  where
    by_case : (b : Bool) → Lacks k (inserted l t ps) → Lacks k (cond b (more_pairs m u (inserted l t ps)) (more_pairs l t (more_pairs m u ps)))
    by_case true on = (h.0, on)
    by_case false on = (differ, h)

lacks_in_order : (k : List ℕ) (ps : Pairs) → Lacks k ps → Lacks k (arranged ps)
lacks_in_order k no_pairs h = tt
lacks_in_order k (more_pairs l t ps) h = lacks_still k l t (arranged ps) h.0 (lacks_in_order k ps h.1)

-- the last key before decides
same_last : (k : List ℕ) (before others : List (List ℕ)) (ps : Pairs) → ArePairs hashed (k ∷ before) ps → ArePairs hashed (k ∷ others) ps
same_last k before others no_pairs p = tt
same_last k before others (more_pairs l t ps) p = (p.0, (p.1.0, same_last l (k ∷ before) (k ∷ others) ps p.1.1))

inserted_pairs : (before : List (List ℕ)) (k : List ℕ) (t : Tree) (ps : Pairs) → IsUtf8 k → IsLegal t → IsAboveLast before k → Lacks k ps → ArePairs hashed before ps → ArePairs hashed before (inserted k t ps)
inserted_pairs before k t no_pairs utf8 legal above h p = ((utf8, above), (legal, tt))
inserted_pairs before k t (more_pairs l u ps) utf8 legal above h p = by_case (is_below l k) refl (λ below. inserted_pairs (l ∷ before) k t ps utf8 legal below h.1 p.1.1)
  where
    by_case : (b : Bool) → is_below l k ≡ b → (IsBelow l k → ArePairs hashed (l ∷ before) (inserted k t ps))
        → ArePairs hashed before (cond b (more_pairs l u (inserted k t ps)) (more_pairs k t (more_pairs l u ps)))
    by_case true e on = (p.0, (p.1.0, on (is_less (slice_cmp nat_cmp l k) e)))
    by_case false e on = ((utf8, above), (legal, ((p.0.0, not_above k l h.0 e), (p.1.0, same_last l before (k ∷ before) ps p.1.1))))

pub arranged_pairs : (ps : Pairs) → AreEachLegal ps → AreKeysDistinct (pair_keys ps) → ArePairs hashed [] (arranged ps)
arranged_pairs no_pairs legal h = tt
arranged_pairs (more_pairs k t ps) legal h = inserted_pairs [] k t (arranged ps) legal.0 legal.1 tt (lacks_in_order k ps h.0) (arranged_pairs ps legal.2 h.1)

-- ---- pairs in an order of their own

-- none of those before has a key of theirs
kept_after : (before : List (List ℕ)) (ps : Pairs) → AreEachLegal ps → AreKeysDistinct (pair_keys ps) → All (λ k. Lacks k ps) before → ArePairs kept before ps
kept_after before no_pairs legal h free = tt
kept_after before (more_pairs k t ps) legal h free =
    let later = kept_after (k ∷ before) ps legal.2 h.1 (All-cons (λ l. Lacks l ps) k before h.0 (λ i l low. (free i l low).1)) in
    ((legal.0, (λ i l low same. (free i l low).0 (sym same))), (legal.1, later))

pub kept_pairs : (ps : Pairs) → AreEachLegal ps → AreKeysDistinct (pair_keys ps) → ArePairs kept [] ps
kept_pairs ps legal h = kept_after [] ps legal h (All-nil (λ k. Lacks k ps))

-- ---- they are as many, and as deep

inserted_count : (k : List ℕ) (t : Tree) (ps : Pairs) → pair_count (inserted k t ps) ≡ suc (pair_count ps)
inserted_count k t no_pairs = refl
inserted_count k t (more_pairs l u ps) = by_case (is_below l k) (inserted_count k t ps)
  where
    by_case : (b : Bool) → pair_count (inserted k t ps) ≡ suc (pair_count ps) → pair_count (cond b (more_pairs l u (inserted k t ps)) (more_pairs k t (more_pairs l u ps))) ≡ suc (suc (pair_count ps))
    by_case true on = ap suc on
    by_case false on = refl

pub arranged_count : (ps : Pairs) → pair_count (arranged ps) ≡ pair_count ps
arranged_count no_pairs = refl
arranged_count (more_pairs k t ps) = inserted_count k t (arranged ps) ∙ ap suc (arranged_count ps)

inserted_depth : (k : List ℕ) (t : Tree) (ps : Pairs) → pairs_depth (inserted k t ps) ≡ max (depth t) (pairs_depth ps)
inserted_depth k t no_pairs = refl
inserted_depth k t (more_pairs l u ps) = by_case (is_below l k) (inserted_depth k t ps)
  where
    by_case : (b : Bool) → pairs_depth (inserted k t ps) ≡ max (depth t) (pairs_depth ps)
        → pairs_depth (cond b (more_pairs l u (inserted k t ps)) (more_pairs k t (more_pairs l u ps))) ≡ max (depth t) (max (depth u) (pairs_depth ps))
    by_case true on = omega (arith, on)
    by_case false on = refl

pub arranged_depth : (ps : Pairs) → pairs_depth (arranged ps) ≡ pairs_depth ps
arranged_depth no_pairs = refl
arranged_depth (more_pairs k t ps) = inserted_depth k t (arranged ps) ∙ ap (max (depth t)) (arranged_depth ps)
