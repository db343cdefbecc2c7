-- Entries whose keys ascend stay as they are where they are inserted in turn.
use Rattle.std.proofs.Common.{◌≡◌, ◌∙◌, Bool, List, [], ◌∷◌, ◌++◌, refl, sym, ap, subst, append_assoc, append-nil}
use Rattle.std.specs.BTreeMap.{insert_entry}
use Rattle.std.specs.Cmp.{IsTotalOrder, alike_right, Equal-is}
use Rattle.std.specs.List.{AllByRecursion, AllZip}
use Rattle.std.specs.List.Sorted.{IsStrictlySortedBy}
use Rattle.std.specs.Map.{keys_of}
use Rattle.std.specs.Ordering.{is_eq, match_ordering, ordering_reverse}
use Rattle.std.specs.declared.cmp.Ordering.{Ordering}
use Rattle.std.specs.declared.cmp.Ordering.TheVariants.{Less, Equal, Greater}
use Rattle.std.proofs.lemmas.Map.Keys.{sorted_head, sorted_tail}
use Rattle.archive_forms_laws.specs.Spelling.{Spelling}
use Rattle.archive_forms.specs.Alike.{AreAlike, AlikeAreEqual, AreAlikeEntries}
use Rattle.archive_btree.specs.ReadBack.{inserted}

module _ {A B R Q : Type 0} {cmp : A → A → Ordering} {eq : A → A → Bool} (o : IsTotalOrder cmp) (matches : (x y : A) → eq x y ≡ is_eq (cmp x y))
    (keys : Spelling A R) (vals : Spelling B Q) (told : AlikeAreEqual keys eq) where
  equal : (x y : A) → AreAlike keys x y → cmp x y ≡ Equal
  equal x y h = (Equal-is (cmp x y)).0 (sym (matches x y) ∙ told x y h)

  -- the keys of some entries are less than those of others
  abbrev Before : List (A × B) → List (A × B) → Type 0
  Before done es = AllByRecursion (λ k. AllByRecursion (λ l. cmp k l ≡ Less) (keys_of es)) (keys_of done)

  -- an entry whose key is greater comes last
  inserted_last : (done : List (A × B)) (x : A × B) → AllByRecursion (λ k. cmp k x.0 ≡ Less) (keys_of done) → insert_entry cmp done x.0 x.1 ≡ done ++ (x ∷ [])
  inserted_last [] x h = refl
  inserted_last (d ∷ ds) x h =
      let turned : cmp x.0 d.0 ≡ Greater = o.antisymm x.0 d.0 ∙ ap ordering_reverse h.0 in
      ap (λ r. match_ordering r ((x.0, x.1) ∷ d ∷ ds) ((d.0, x.1) ∷ ds) (d ∷ insert_entry cmp ds x.0 x.1)) turned ∙ ap (λ l. d ∷ l) (inserted_last ds x h.1)

  module _ (e x : A × B) (alike : AreAlike keys e.0 x.0) where
    less_than_next : (done es : List (A × B)) → Before done (e ∷ es) → AllByRecursion (λ k. cmp k x.0 ≡ Less) (keys_of done)
    less_than_next [] es h = tt
    less_than_next (d ∷ ds) es h = (sym (alike_right o e.0 x.0 d.0 (equal e.0 x.0 alike)) ∙ h.0.0, less_than_next ds es h.1)

    next_is_less : (ks : List A) → AllByRecursion (λ l. cmp e.0 l ≡ Less) ks → AllByRecursion (λ l. cmp x.0 l ≡ Less) ks
    next_is_less [] h = tt
    next_is_less (k ∷ ks) h = (sym (o.congr e.0 x.0 k (equal e.0 x.0 alike)) ∙ h.0, next_is_less ks h.1)

    before_rest : (done es : List (A × B)) → Before done (e ∷ es) → AllByRecursion (λ l. cmp e.0 l ≡ Less) (keys_of es) → Before (done ++ (x ∷ [])) es
    before_rest [] es h least = (next_is_less (keys_of es) least, tt)
    before_rest (d ∷ ds) es h least = (h.0.1, before_rest ds es h.1 least)

  stay : (done es xs : List (A × B)) → AllZip (AreAlikeEntries keys vals) es xs → IsStrictlySortedBy cmp (keys_of es) → Before done es → inserted cmp done xs ≡ done ++ xs
  stay done [] [] h ascend before = sym (append-nil done)
  stay done [] (x ∷ xs) h ascend before = absurd h
  stay done (e ∷ es) [] h ascend before = absurd h
  stay done (e ∷ es) (x ∷ xs) h ascend before =
      let least = sorted_head cmp e.0 (keys_of es) ascend in
      ap (λ l. inserted cmp l xs) (inserted_last done x (less_than_next e x h.0.0 done es before))
      ∙ stay (done ++ (x ∷ [])) es xs h.1 (sorted_tail cmp e.0 (keys_of es) ascend) (before_rest e x h.0.0 done es before least)
      ∙ append_assoc done (x ∷ []) xs

  -- what is archived as entries whose keys ascend, inserted in turn, is archived as these still
  pub inserted_alike : (es xs fs : List (A × B)) → AllZip (AreAlikeEntries keys vals) es xs → IsStrictlySortedBy cmp (keys_of es) → fs ≡ inserted cmp [] xs
      → AllZip (AreAlikeEntries keys vals) es fs
  inserted_alike es xs fs h ascend is = subst (AllZip (AreAlikeEntries keys vals) es) (sym (is ∙ stay [] es xs h ascend tt)) h
