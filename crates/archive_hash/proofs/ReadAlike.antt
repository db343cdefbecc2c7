-- Maps and sets are read back with the entries and the elements that they were archived with, in some order.
use Rattle.std.proofs.Common.{◌≡◌, ◌∙◌, ℕ, Bool, true, false, cond, ◌||◌, List, [], ◌∷◌, map, refl, sym, ap, ap₂, subst, arith, Option, Some, true≢false}
use Rattle.std.specs.Cmp.{IsEquivalence}
use Rattle.std.specs.HashMap.{HashMap, IsUnique}
use Rattle.std.specs.HashSet as bag
use Rattle.std.specs.HashSet.{HashSet}
use Rattle.std.specs.List.{AllByRecursion, AllZip, IsDistinct, list_any}
use Rattle.std.specs.List.Sorted.{IsPermutation}
use Rattle.std.specs.Map.{keys_of, lookup}
use Rattle.std.proofs.lemmas.List.{length-map}
use Rattle.std.proofs.lemmas.List.Sorted.{IsPermutation-map, IsPermutation-refl, IsPermutation-trans, length_permutation, list_any-IsPermutation}
use Rattle.std.proofs.lemmas.Map.Keys.{IsDistinct-cons, IsDistinct-head, IsDistinct-tail}
use Rattle.archive_shape_layout.specs.Shape.{Shape}
use Rattle.archive_shape_layout.specs.Value.{Value}
use Rattle.archive_shape_layout.specs.Value.Value.{group}
use Rattle.archive_forms_laws.specs.Fields.{tuple2_spelling}
use Rattle.archive_forms_laws.specs.Regions.{plain_values}
use Rattle.archive_forms_laws.specs.Spelling.{Spelling}
use Rattle.archive_hash_writing.specs.Fitted.{by_place}
use Rattle.archive_hash_writing.proofs.SpellingFitting.{by_place_moved}
use Rattle.archive_forms.specs.Alike.{AreAlike, AlikeAreEqual, AreAlikeEntries}
use Rattle.archive_forms.specs.Faithful.{IsFaithful}
use Rattle.archive_forms.specs.Reading.{reads_all, reads_tuple2}
use Rattle.archive_forms.proofs.AlikeParts.{all_one, entries_one, entries_read, keys_alike, keys_back}
use Rattle.archive_hash.specs.Owned.{key_entries}
use Rattle.archive_hash.specs.ReadBack.{AreInserted}
use Rattle.archive_hash.specs.Calls.Laws.{AnswerAlike, HasEntriesOf, HasElementsOf}
use Rattle.archive_hash.proofs.Reordered.{moved_beside, distinct_moved, lookup_moved, inserted_moved}

-- the entries of a table are those that it was written of, in some order
pub placed_entries : {A B : Type 0} (most places : ℕ) (hash : A × B → ℕ) (es : List (A × B)) → IsPermutation es (by_place most places (map hash es) es)
placed_entries most places hash [] = IsPermutation-refl []
placed_entries most places hash (e ∷ es) = by_place_moved most places (map hash (e ∷ es)) (e ∷ es) (length-map (e ∷ es) hash) (omega arith)

module _ {A B R Q : Type 0} {eq : A → A → Bool} (laws : IsEquivalence eq) (keys : Spelling A R) (vals : Spelling B Q) (told : AlikeAreEqual keys eq) where
  -- keys that are archived alike are equal to the same keys
  same_test : (q x y : A) → AreAlike keys x y → eq q x ≡ eq q y
  same_test q x y h = laws.symm q x ∙ laws.congr x y q (told x y h) ∙ laws.symm y q

  differ_alike : (x y : A) → AreAlike keys x y → (es fs : List (A × B)) → AllZip (AreAlikeEntries keys vals) es fs
      → AllByRecursion (λ k. eq x k ≡ false) (keys_of es) → AllByRecursion (λ k. eq y k ≡ false) (keys_of fs)
  differ_alike x y same [] [] h apart = tt
  differ_alike x y same [] (f ∷ fs) h apart = absurd h
  differ_alike x y same (e ∷ es) [] h apart = absurd h
  differ_alike x y same (e ∷ es) (f ∷ fs) h apart =
      (sym (laws.congr x y f.0 (told x y same)) ∙ sym (same_test x e.0 f.0 h.0.0) ∙ apart.0, differ_alike x y same es fs h.1 apart.1)

  distinct_alike : (es fs : List (A × B)) → AllZip (AreAlikeEntries keys vals) es fs → IsDistinct eq (keys_of es) → IsDistinct eq (keys_of fs)
  distinct_alike [] [] h distinct = distinct
  distinct_alike [] (f ∷ fs) h distinct = absurd h
  distinct_alike (e ∷ es) [] h distinct = absurd h
  distinct_alike (e ∷ es) (f ∷ fs) h distinct =
      IsDistinct-cons eq f.0 (keys_of fs) (differ_alike e.0 f.0 h.0.0 es fs h.1 (IsDistinct-head eq e.0 (keys_of es) distinct)) (distinct_alike es fs h.1 (IsDistinct-tail eq e.0 (keys_of es) distinct))

  by_test : (b c : Bool) (x y : B) (o p : Option B) → b ≡ c → AreAlike vals x y → AnswerAlike vals o p → AnswerAlike vals (cond b (Some x) o) (cond c (Some y) p)
  by_test true true x y o p e same others = same
  by_test false false x y o p e same others = others
  by_test true false x y o p e same others = absurd (true≢false e)
  by_test false true x y o p e same others = absurd (true≢false (sym e))

  answers_alike : (es fs : List (A × B)) → AllZip (AreAlikeEntries keys vals) es fs → (q : A) → AnswerAlike vals (lookup (eq q) es) (lookup (eq q) fs)
  answers_alike [] [] h q = tt
  answers_alike [] (f ∷ fs) h q = absurd h
  answers_alike (e ∷ es) [] h q = absurd h
  answers_alike (e ∷ es) (f ∷ fs) h q = by_test (eq q e.0) (eq q f.0) e.1 f.1 (lookup (eq q) es) (lookup (eq q) fs) (same_test q e.0 f.0 h.0.0) h.0.1 (answers_alike es fs h.1 q)

  contained_alike : (ks ls : List A) → AllZip (AreAlike keys) ks ls → (q : A) → list_any (eq q) ls ≡ list_any (eq q) ks
  contained_alike [] [] h q = refl
  contained_alike [] (l ∷ ls) h q = absurd h
  contained_alike (k ∷ ks) [] h q = absurd h
  contained_alike (k ∷ ks) (l ∷ ls) h q = ap₂ (λ b c. b || c) (sym (same_test q k l h.0)) (contained_alike ks ls h.1 q)

  -- ---- what is read back

  module _ (s t : Shape) (read_keys : Value → A → Type 0) (read_vals : Value → B → Type 0) (same : IsFaithful keys read_keys) (also : IsFaithful vals read_vals) where
    -- of the value of a table
    abbrev IsReread : List (A × B) → List (A × B) → Type 0
    IsReread es fs = (zs : List (A × B)) × IsPermutation es zs × AllZip (AreAlikeEntries keys vals) zs fs

    pub entries_reread : (most places : ℕ) (hash : A × B → ℕ) (es xs fs : List (A × B)) → IsDistinct eq (keys_of es)
        → reads_all (reads_tuple2 read_keys read_vals) (group (plain_values (tuple2_spelling s keys t vals) (by_place most places (map hash es) es))) xs
        → AreInserted eq xs fs → IsReread es fs
    entries_reread most places hash es xs fs distinct h inserted =
        let ys = by_place most places (map hash es) es in
        let moved = placed_entries most places hash es in
        let alike = entries_read s t keys vals read_keys read_vals same also ys xs h in
        let apart = distinct_alike ys xs alike (distinct_moved laws es ys moved distinct) in
        let beside = moved_beside (AreAlikeEntries keys vals) ys xs fs alike (inserted_moved laws xs fs apart inserted) in
        (beside.0, IsPermutation-trans es ys beside.0 moved beside.1, beside.2)

    pub map_reread : {S : Type 0} (m r : HashMap A B S) → IsUnique eq m → IsReread m.entries r.entries → HasEntriesOf eq keys vals m r
    map_reread m r distinct h =
        let same_lookup : (q : A) → lookup (eq q) h.0 ≡ lookup (eq q) m.entries = lookup_moved laws m.entries h.0 h.1 distinct in
        record {
          moved = h.0;
          permuted = h.1;
          alike = h.2;
          answers = λ q. subst (λ o. AnswerAlike vals o (lookup (eq q) r.entries)) (same_lookup q) (answers_alike h.0 r.entries h.2 q);
          one = λ f g.
              let is : r.entries ≡ h.0 = entries_one keys vals f g h.0 r.entries h.2 in
              let moved = subst (IsPermutation m.entries) (sym is) h.1 in
              (moved, length_permutation m.entries r.entries moved, λ q. ap (lookup (eq q)) is ∙ same_lookup q);
        }

module _ {A R Q : Type 0} {eq : A → A → Bool} (laws : IsEquivalence eq) (keys : Spelling A R) (unit : Spelling (Unit {0}) Q) (told : AlikeAreEqual keys eq) where
  pub set_reread : {S : Type 0} (s r : HashSet A S) (zs : List (A × Unit {0})) → IsPermutation (key_entries s.keys) zs → AllZip (AreAlikeEntries keys unit) zs (key_entries r.keys) → HasElementsOf eq keys s r
  set_reread s r zs permuted h =
      let moved : IsPermutation s.keys (keys_of zs) = subst (λ l. IsPermutation l (keys_of zs)) (keys_back s.keys) (IsPermutation-map (λ (e : A × Unit {0}). e.0) (key_entries s.keys) zs permuted) in
      let alike : AllZip (AreAlike keys) (keys_of zs) r.keys = subst (AllZip (AreAlike keys) (keys_of zs)) (keys_back r.keys) (keys_alike keys unit zs (key_entries r.keys) h) in
      let contained : (q : A) → list_any (eq q) r.keys ≡ list_any (eq q) s.keys = λ q. contained_alike laws keys unit told (keys_of zs) r.keys alike q ∙ sym (list_any-IsPermutation (eq q) s.keys (keys_of zs) moved) in
      record {
        moved = keys_of zs;
        permuted = moved;
        alike = alike;
        answers = contained;
        one = λ f.
            let is : r.keys ≡ keys_of zs = all_one keys f (keys_of zs) r.keys alike in
            let all = subst (IsPermutation s.keys) (sym is) moved in
            (all, length_permutation s.keys r.keys all, contained);
      }
