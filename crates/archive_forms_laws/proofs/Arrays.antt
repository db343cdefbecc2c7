-- Arrays are read as they are written.
use Rattle.std.proofs.Common.{◌≡◌, ℕ, zero, suc, ◌+◌, ◌*◌, List, [], ◌∷◌, ◌++◌, refl, length, sym, ap, subst, ◌∙◌, arith, length-append, inl, inr}
use Rattle.archive_shape_layout.specs.Shape.{Shape, size_of}
use Rattle.archive_shape_layout.specs.Shape.Shape.{array}
use Rattle.archive_shape_layout.specs.Value.{Values}
use Rattle.archive_shape_layout.specs.Value.Value.{group}
use Rattle.archive_shape_layout.specs.Content.{Names, elements, made, shape_content, content_of}
use Rattle.archive_shape_layout.specs.Content.Part.{at}
use Rattle.archive_shape_layout.specs.Content.Label.{whole}
use Rattle.archive_shape_layout.specs.Content.Content.{plain}
use Rattle.archive_shape_layout.specs.Holds.{OpenShared}
use Rattle.archive_shape_layout.specs.Holds.Holds.{holds_plain}
use Rattle.archive_shape_canonical.specs.Settled.{Fit, LeadsSettled}
use Rattle.archive_shape_canonical.proofs.Cleanness.{clean_by, elements_own}
use Rattle.archive_shape.specs.Bytes.{HasBytes}
use Rattle.archive_shape_layout.specs.declared.error.Error.{Error}
use Rattle.archive_forms_laws.specs.State.{State, Keys, visits_of, IsConsistent, AllFrom, AreKeyedBy, advanced}
use Rattle.archive_forms_laws.specs.Spelling.{Spelling, state_after}
use Rattle.archive_forms_laws.specs.Spells.{CanonicalPart, SpellsAt, EachSpells, Spells}
use Rattle.archive_shape_canonical.specs.Canonical.{AreBytes}
use Rattle.archive_forms_laws.specs.Regions.{state_after_all, values, all_suit, pieces, resolvers, owns, pieces_fit}
use Rattle.archive_forms_laws.specs.Arrays.{array_own, array_own_fits, array_own_refused, array_spelling}
use Rattle.archive_forms_laws.proofs.States.{consistent_further}
use Rattle.archive_forms_laws.proofs.Gaps.{bytes_none, bytes_append}
use Rattle.archive_forms_laws.proofs.Regions.{OwnsPass, elements_canonical, pieces_bytes, pieces_exact, state_after_all_begun, state_after_all_consistent, state_after_all_keyed, state_after_all_pos}
use Rattle.archive_forms_laws.proofs.Unshared.{each_unshared}
use Rattle.archive_forms_laws.proofs.Views.{each_spells}

-- the layout leaves no choice at elements
elements_settled : (fit : Fit) (seen : List ℕ) (n pos : ℕ) (s : Shape) (vs : Values) → LeadsSettled fit seen (elements pos n s) vs
unfolding elements
elements_settled fit seen zero pos s vs = tt
elements_settled fit seen (suc n) pos s vs = tt

module _ {A R : Type 0} (fit : Fit) (n : ℕ) (s : Shape) (knows : Names → Type 0) (w : Spelling A R) where
  -- by the resolvers of a state, own bytes are the contiguous ones of the elements, and have the same limits
  array_own_is : (xs : List A) (each : EachSpells fit s knows w xs) (st : State) (pos : ℕ) → array_own_fits s w xs (resolvers w xs st) pos
      → (owns w xs st pos ≡ array_own s w xs (resolvers w xs st) pos) × OwnsPass fit s knows w xs st pos
  array_own_is [] each st pos f = (refl, tt)
  array_own_is (x ∷ xs) each st pos f =
      let own = w.own x (w.resolver x st) pos in
      let then = state_after w x st in
      let size : size_of s ≡ length own = sym (each.0.sized (w.resolver x st) pos f.0) in
      let P : ℕ → Type 0 = λ z. (owns w xs then (pos + z) ≡ array_own s w xs (resolvers w xs then) (pos + size_of s)) × OwnsPass fit s knows w xs then (pos + z) in
      let rest = subst P size (array_own_is xs each.1 then (pos + size_of s) f.1) in
      (ap (λ bs. own ++ bs) rest.0, (f.0, rest.1))

  -- each element takes its size
  array_sized : (xs : List A) (each : EachSpells fit s knows w xs) (rs : List R) (pos : ℕ) → length rs ≡ length xs → array_own_fits s w xs rs pos → length (array_own s w xs rs pos) ≡ length xs * size_of s
  array_sized [] each rs pos e f = omega arith
  array_sized (x ∷ xs) each [] pos e f = absurd (omega (arith, e))
  array_sized (x ∷ xs) each (r ∷ rs) pos e f =
      let first = each.0.sized r pos f.0 in
      let rest = array_sized xs each.1 rs (pos + size_of s) (omega (arith, e)) f.1 in
      length-append (w.own x r pos) (array_own s w xs rs (pos + size_of s)) ∙ omega (arith, first, rest)

  -- own bytes are bytes
  array_own_bytes : (xs : List A) (each : EachSpells fit s knows w xs) (rs : List R) (pos : ℕ) → array_own_fits s w xs rs pos → AreBytes (array_own s w xs rs pos)
  array_own_bytes [] each rs pos f = bytes_none
  array_own_bytes (x ∷ xs) each [] pos f = bytes_none
  array_own_bytes (x ∷ xs) each (r ∷ rs) pos f = bytes_append (w.own x r pos) _ (each.0.own_bytes r pos f.0) (array_own_bytes xs each.1 rs (pos + size_of s) f.1)

  -- what exceeds no limit is not refused
  array_own_exact : (xs : List A) (each : EachSpells fit s knows w xs) (rs : List R) (pos : ℕ) (e : Error) → array_own_fits s w xs rs pos → array_own_refused s w xs rs pos e → ⊥
  array_own_exact [] each rs pos e f k = k
  array_own_exact (x ∷ xs) each [] pos e f k = k
  array_own_exact (x ∷ xs) each (r ∷ rs) pos e f (inl k) = each.0.own_exact r pos e f.0 k
  array_own_exact (x ∷ xs) each (r ∷ rs) pos e f (inr k) = array_own_exact xs each.1 rs (pos + size_of s) e f.1 k

  module _ (xs : List A) (each : EachSpells fit s knows w xs) where
    -- the state when the data of all is written is consistent
    array_consistent : (st : State) → IsConsistent st → pieces_fit w xs st → IsConsistent (advanced (length (pieces w xs st)) (state_after_all w xs st).met st)
    array_consistent st h f =
        let end = state_after_all_pos fit s knows w xs st in
        consistent_further (state_after_all w xs st) (st.pos + length (pieces w xs st)) st.begun (omega arith) (state_after_all_begun fit s knows w xs st) (state_after_all_consistent fit s knows w xs each st h f)

    -- an array is read as it is written
    array_canonical :
        (st : State) (pos : ℕ) (names : Names) (keys : Keys) (bytes : List ℕ) (level : ℕ) (inside : List OpenShared)
        → knows names
        → all_suit w fit keys xs
        → AreKeyedBy keys st.met
        → IsConsistent st
        → AllFrom (st.pos + length (pieces w xs st)) inside
        → pieces_fit w xs st
        → array_own_fits s w xs (resolvers w xs st) pos
        → HasBytes bytes st.pos (pieces w xs st)
        → HasBytes bytes pos (array_own s w xs (resolvers w xs st) pos)
        → CanonicalPart fit names bytes level inside (visits_of st.met) (visits_of (state_after_all w xs st).met) (at pos (array (length xs) s)) (group (values w xs st)) st.pos (st.pos + length (pieces w xs st))
    unfolding made shape_content
    array_canonical st pos names keys bytes level inside k m known state over f o p q =
        let end = state_after_all_pos fit s knows w xs st in
        let own = array_own_is xs each st pos o in
        let h = elements_canonical fit s knows w xs each st pos names keys bytes level inside k m known state (subst (λ z. AllFrom z inside) (sym end) over) f own.1 p (subst (HasBytes bytes pos) (sym own.0) q) in
        let e : content_of names bytes (at pos (array (length xs) s)) ≡ plain whole (elements pos (length xs) s) = refl in
        let P : ℕ → Type 0 = λ z. CanonicalPart fit names bytes level inside (visits_of st.met) (visits_of (state_after_all w xs st).met) (at pos (array (length xs) s)) (group (values w xs st)) st.pos z in
        subst P end
        (record {
          regions = h.regions;
          reads = record {
            holds = holds_plain e tt h.hold refl;
            canonical = (
              clean_by names bytes (at pos (array (length xs) s)) (plain whole (elements pos (length xs) s)) e (λ i b. inr (inl (elements_own (length xs) pos s i b))) tt,
              elements_settled fit _ (length xs) pos s _,
              h.canonical,
            );
            ends = h.ends;
          };
          ascends = h.ascends;
          gaps = h.gaps;
        })

    -- the law of an array is that of each of its elements
    pub array_spells_at : SpellsAt fit (array n s) knows (array_spelling n s w) xs
    array_spells_at = record {
      sized = λ rs pos f. array_sized xs each rs pos (f.1 ∙ sym f.0) f.2 ∙ ap (λ m. m * size_of s) f.0;
      canonical = λ st pos names keys bytes level inside k m known state over f o p q.
          let P : ℕ → Type 0 = λ z. CanonicalPart fit names bytes level inside (visits_of st.met) (visits_of (state_after_all w xs st).met) (at pos (array z s)) (group (values w xs st)) st.pos (st.pos + length (pieces w xs st)) in
          subst P f.0 (array_canonical st pos names keys bytes level inside k m known state over f.1 o.2 p q);
      consistent = λ st h f. array_consistent st h f.1;
      keyed = λ keys st m known f. let both = state_after_all_keyed fit s knows w xs each keys st m known f.1 in (ap group both.0, both.1);
      piece_bytes = λ st f. pieces_bytes fit s knows w xs each st f.1;
      own_bytes = λ rs pos f. array_own_bytes xs each rs pos f.2;
      piece_exact = λ st e f r. pieces_exact fit s knows w xs each st e f.1 r;
      own_exact = λ rs pos e f k. array_own_exact xs each rs pos e f.2 k;
      unshared = each_unshared fit s knows w xs each;
    }

  -- so of all arrays
  pub array_spells : Spells fit s knows w → Spells fit (array n s) knows (array_spelling n s w)
  array_spells h xs = array_spells_at xs (each_spells fit s knows w h xs)
