-- Pointers lead to where their data was written.
use Rattle.std.proofs.Common.{◌≡◌, ℕ, suc, ℤ, pos, negsuc, ◌+◌, ◌-◌, ◌≤◌, ◌<◌, ◌^◌, nat_le, nat_lt, List, [], ◌∷◌, ◌++◌, length, refl, sym, subst, ap, ap₂, ◌∙◌, arith, Some, ◌⊎◌, inl, inr, add-zero, append-nil, true, false}
use Rattle.std.proofs.lemmas.Bool.Decides.{nat_tests}
use Rattle.std.proofs.lemmas.Int.{ints}
use Rattle.std.specs.Prelude.{FitsSigned}
use Rattle.std.specs.Int.{w32, to_le_bytes, cast_unsigned}
use Rattle.archive_shape_layout.specs.Bytes.{window, word_at, target_from}
use Rattle.archive_shape_layout.specs.Shape.{Shape, size_of}
use Rattle.archive_shape_layout.specs.Shape.Shape.{vector, box}
use Rattle.archive_shape_layout.specs.Shape.Pointee.{sized, slice}
use Rattle.archive_shape_layout.specs.Value.{Value}
use Rattle.archive_shape_layout.specs.Value.Value.{group}
use Rattle.archive_shape_layout.specs.Value.Values.{no_values, more_values}
use Rattle.archive_shape_layout.specs.Content.{Names, Part, Label, Content, made, IsLegal, content_of, shape_content, following}
use Rattle.archive_shape_layout.specs.Content.Part.{at, behind}
use Rattle.archive_shape_layout.specs.Content.Label.{same}
use Rattle.archive_shape_layout.specs.Content.Content.{plain}
use Rattle.archive_shape_layout.specs.Holds.{Visit, OpenShared}
use Rattle.archive_shape_layout.specs.Holds.Holds.{holds_plain}
use Rattle.archive_shape_layout.specs.Holds.HoldAll.{holds_none, holds_more}
use Rattle.archive_shape_canonical.specs.Settled.{Fit, IsSettled}
use Rattle.archive_shape_canonical.specs.Clean.{IsClean, IsIn, IsFilled, field_size}
use Rattle.archive_shape_canonical.proofs.Cleanness.{clean_by}
use Rattle.archive_shape.specs.Bytes.{HasBytes}
use Rattle.archive_shape.proofs.Pieces.{stands_left, stands_right, stands_word}
use Rattle.archive_shape_layout.specs.declared.error.Error.{Error}
use Rattle.archive_shape.specs.Offsets.{difference, FitsOffset, offset_bytes}
use Rattle.archive_forms_laws.specs.State.{State, Keys, IsConsistent, AllFrom, AreKeyedBy, advanced, visits_of}
use Rattle.archive_forms_laws.specs.Spelling.{Spelling, state_after}
use Rattle.archive_forms_laws.specs.Spells.{CanonicalPart, SpellsAt, EachSpells, Spells}
use Rattle.archive_forms_laws.specs.Regions.{state_after_all, values, all_suit, region_at, region_piece, region_fits}
use Rattle.archive_forms_laws.specs.Pointers.{slice_spelling, box_spelling}
use Rattle.archive_forms_laws.proofs.States.{from_earlier, consistent_further}
use Rattle.archive_forms_laws.proofs.Gaps.{bytes_append, bytes_word}
use Rattle.archive_forms_laws.proofs.Regions.{slice_canonical, boxed_canonical, region_exact, region_bytes, region_end, region_up, state_after_all_consistent, state_after_all_keyed, state_after_all_begun}
use Rattle.archive_forms_laws.specs.Unshared.{holds_shared}
use Rattle.archive_forms_laws.proofs.Unshared.{each_unshared}
use Rattle.archive_forms_laws.proofs.Views.{each_spells}
use Rattle.archive_shape_layout.proofs.Windows.{word_of, word_within}

leads : (from to : ℕ) (z : ℤ) → z ≡ difference from to → FitsSigned w32 z → target_from from (cast_unsigned w32 z) ≡ Some to
unfolding target_from
leads from to (pos n) e f =
    let h = f.sfits in
    let to_is : from + n ≡ to = omega (arith, ints) in
    let small : n < 2 ^ 31 = omega arith in
    let read : target_from from n ≡ Some (from + n) = grind (arith, nat_tests) in
    read ∙ ap Some to_is
leads from to (negsuc n) e f =
    let h = f.sfits in
    let from_is : suc n + to ≡ from = omega (arith, ints) in
    let word = 2 ^ 32 - suc n in
    let small : suc n ≤ 2 ^ 31 = omega arith in
    let high : nat_lt word (2 ^ 31) ≡ false = grind (arith, nat_tests) in
    let near : nat_le (2 ^ 32 - word) from ≡ true = grind (arith, nat_tests) in
    let to_is : from - (2 ^ 32 - word) ≡ to = omega arith in
    rw (high, near, to_is) refl

-- the offset between two positions leads from the one to the other
pub offset_leads : (from to : ℕ) → FitsOffset from to → target_from from (cast_unsigned w32 (difference from to)) ≡ Some to
offset_leads from to f = leads from to (difference from to) refl f

pub word_small : (z : ℤ) → FitsSigned w32 z → cast_unsigned w32 z < 2 ^ 32
word_small (pos n) f = let h = f.sfits in omega arith
word_small (negsuc n) f = omega arith

-- so does one at the start of own bytes
pub offset_stands : (bytes : List ℕ) (from to size : ℕ) → 4 ≤ size → FitsOffset from to → HasBytes bytes from (offset_bytes from to)
    → target_from from (word_at (window bytes from size) 0) ≡ Some to
offset_stands bytes from to size room f s =
    ap (target_from from) (word_within bytes from size 0 room ∙ ap (word_at bytes) (add-zero from) ∙ stands_word bytes from (cast_unsigned w32 (difference from to)) (word_small (difference from to) f) s)
    ∙ offset_leads from to f

-- a pointer leads to one position
pub leads_to : (bytes : List ℕ) (from to target : ℕ) → FitsOffset from target → HasBytes bytes from (offset_bytes from target) → target_from from (word_at bytes from) ≡ Some to → target ≡ to
leads_to bytes from to target near stands points =
    let both : Some target ≡ Some to = sym (offset_stands bytes from target 4 (omega arith) near stands) ∙ ap (target_from from) (word_of bytes from) ∙ points in
    cc

-- an offset and the number after it are read as a target and a number of elements
pub unsized_leads : (bytes : List ℕ) (from to n : ℕ) (k : ℕ → ℕ → Content) → FitsOffset from to → n < 2 ^ 32
    → HasBytes bytes from (offset_bytes from to ++ to_le_bytes w32 n)
    → following (target_from from (word_at (window bytes from 8) 0)) (λ t. k t (word_at (window bytes from 8) 4)) ≡ k to n
unfolding following
unsized_leads bytes from to n k near small stands =
    let offset = offset_stands bytes from to 8 (omega arith) near (stands_left bytes from (offset_bytes from to) (to_le_bytes w32 n) stands) in
    let len : word_at (window bytes from 8) 4 ≡ n =
    word_within bytes from 8 4 (omega arith) ∙ stands_word bytes (from + 4) n small (stands_right bytes from (offset_bytes from to) (to_le_bytes w32 n) (from + 4) refl stands) in
    ap₂ (λ o m. following o (λ t. k t m)) offset len

module _ {fit : Fit} {names : Names} {bytes : List ℕ} {level : ℕ} {inside : List OpenShared} {before after : List Visit} where
  -- a part that has one part in it
  pub one_part : (p q : Part) (l : Label) (v u : Value) (low high : ℕ)
      → content_of names bytes p ≡ plain l (q ∷ [])
      → IsLegal l
      → made l (more_values v no_values) ≡ Some u
      → IsClean names bytes p
      → IsSettled fit bytes p (q ∷ []) (more_values v no_values)
      → CanonicalPart fit names bytes level inside before after q v low high
      → CanonicalPart fit names bytes level inside before after p u low high
  one_part p q l v u low high e legal m clean r h = record {
    regions = h.regions;
    reads = record {
      holds = holds_plain e legal (holds_more h.reads.holds (holds_none refl refl refl) refl (sym (append-nil h.regions))) m;
      canonical = (clean, r, (h.reads.canonical, tt));
      ends = h.reads.ends;
    };
    ascends = h.ascends;
    gaps = h.gaps;
  }

-- an offset and a length that fit are not refused
pub slice_own_exact : (n from to : ℕ) (e : Error) (small : n < 2 ^ 32) (f : FitsOffset from to) {P Q : Type 0} → ((FitsOffset from to → ⊥) × P) ⊎ ((2 ^ 32 ≤ n) × Q) → ⊥
slice_own_exact n from to e small f (inl r) = r.0 f
slice_own_exact n from to e small f (inr r) = let h = r.0 in omega arith

-- ---- vectors and boxes

module _ {A R : Type 0} (fit : Fit) (s : Shape) (knows : Names → Type 0) (w : Spelling A R) where
  -- the own bytes of a vector, and of a box of elements, lead to the elements
  vector_content : (names : Names) (bytes : List ℕ) (from to n : ℕ) → FitsOffset from to → n < 2 ^ 32
      → HasBytes bytes from (offset_bytes from to ++ to_le_bytes w32 n)
      → content_of names bytes (at from (vector s)) ≡ plain same (behind to (slice s) n ∷ [])
  unfolding shape_content
  vector_content names bytes from to n = unsized_leads bytes from to n (λ t m. plain same (behind t (slice s) m ∷ []))

  boxed_slice_content : (names : Names) (bytes : List ℕ) (from to n : ℕ) → FitsOffset from to → n < 2 ^ 32
      → HasBytes bytes from (offset_bytes from to ++ to_le_bytes w32 n)
      → content_of names bytes (at from (box (slice s))) ≡ plain same (behind to (slice s) n ∷ [])
  unfolding shape_content
  boxed_slice_content names bytes from to n = unsized_leads bytes from to n (λ t m. plain same (behind t (slice s) m ∷ []))

  box_content : (names : Names) (bytes : List ℕ) (from to : ℕ) → FitsOffset from to
      → HasBytes bytes from (offset_bytes from to)
      → content_of names bytes (at from (box (sized s))) ≡ plain same (behind to (sized s) 1 ∷ [])
  unfolding shape_content following
  box_content names bytes from to near stands =
      ap (λ o. following o (λ t. plain same (behind t (sized s) 1 ∷ []))) (offset_stands bytes from to 4 (omega arith) near stands)

  region_consistent : (xs : List A) (each : EachSpells fit s knows w xs) (st : State) → IsConsistent st → region_fits w s xs st
      → IsConsistent (advanced (length (region_piece w s xs st)) (state_after_all w xs st).met st)
  region_consistent xs each st h f =
      let up = region_up fit s knows w xs st in
      let end = region_end fit s knows w xs each st f in
      consistent_further (state_after_all w xs st) (st.pos + length (region_piece w s xs st)) st.begun (omega arith) (state_after_all_begun fit s knows w xs st) (state_after_all_consistent fit s knows w xs each st h f.0)

  -- the law of a list is that of each of its elements, in every form whose own bytes are read as an offset and a length
  module _ (form : Shape) (eight : size_of form ≡ 8) (own_fields : field_size form ≡ 8)
      (content : (names : Names) (bytes : List ℕ) (from to n : ℕ) → FitsOffset from to → n < 2 ^ 32 → HasBytes bytes from (offset_bytes from to ++ to_le_bytes w32 n)
      → content_of names bytes (at from form) ≡ plain same (behind to (slice s) n ∷ []))
      (filled : (bytes : List ℕ) (from to n : ℕ) → IsFilled bytes (at from form) (plain same (behind to (slice s) n ∷ [])))
      (none_in : holds_shared form ≡ false → holds_shared s ≡ false)
      (xs : List A) (each : EachSpells fit s knows w xs) where
    -- it is read as it is written
    listed_canonical :
        (st : State) (from : ℕ) (names : Names) (keys : Keys) (bytes : List ℕ) (level : ℕ) (inside : List OpenShared)
        → knows names
        → all_suit w fit keys xs
        → AreKeyedBy keys st.met
        → IsConsistent st
        → AllFrom (st.pos + length (region_piece w s xs st)) inside
        → region_fits w s xs st
        → FitsOffset from (region_at w s xs st) × (length xs < 2 ^ 32)
        → HasBytes bytes st.pos (region_piece w s xs st)
        → HasBytes bytes from (offset_bytes from (region_at w s xs st) ++ to_le_bytes w32 (length xs))
        → CanonicalPart fit names bytes level inside (visits_of st.met) (visits_of (state_after_all w xs st).met) (at from form) (group (values w xs st)) st.pos (st.pos + length (region_piece w s xs st))
    unfolding made
    listed_canonical st from names keys bytes level inside k n known state over f o p q =
        let t = region_at w s xs st in
        let up = region_up fit s knows w xs st in
        let end = region_end fit s knows w xs each st f in
        let e = content names bytes from t (length xs) o.0 o.1 q in
        let all : size_of form ≡ field_size form = eight ∙ sym own_fields in
        one_part (at from form) (behind t (slice s) (length xs)) same _ _ st.pos _ e tt refl
        (clean_by names bytes (at from form) (plain same _) e (λ i h. inl (subst (λ m. IsIn from m i) all h)) (filled bytes from t (length xs)))
        tt
        (slice_canonical fit s knows w xs each st names keys bytes level inside k n known state (from_earlier inside (state_after_all w xs st).pos (st.pos + length (region_piece w s xs st)) (omega arith) over) f p)

    listed_spells_at : SpellsAt fit form knows (slice_spelling s w) xs
    listed_spells_at = record {
      sized = λ to from f. sym eight;
      canonical = listed_canonical;
      consistent = λ st h f. region_consistent xs each st h f;
      keyed = λ keys st n known f. let both = state_after_all_keyed fit s knows w xs each keys st n known f.0 in (ap group both.0, both.1);
      piece_bytes = λ st f. region_bytes fit s knows w xs each st f;
      own_bytes = λ to pos f. bytes_append (offset_bytes pos to) (to_le_bytes w32 (length xs)) (bytes_word (cast_unsigned w32 (difference pos to))) (bytes_word (length xs));
      piece_exact = λ st e f r. region_exact fit s knows w xs each st e f r;
      own_exact = λ to from e f r. slice_own_exact (length xs) from to e f.1 f.0 r;
      unshared = λ none. each_unshared fit s knows w xs each (none_in none);
    }

  -- so in vectors and in boxes of elements
  pub slice_spells_at : (xs : List A) → EachSpells fit s knows w xs → SpellsAt fit (vector s) knows (slice_spelling s w) xs
  slice_spells_at = listed_spells_at (vector s) refl refl vector_content (λ bytes from to n. tt) (λ none. none)

  pub boxed_slice_spells_at : (xs : List A) → EachSpells fit s knows w xs → SpellsAt fit (box (slice s)) knows (slice_spelling s w) xs
  boxed_slice_spells_at = listed_spells_at (box (slice s)) refl refl boxed_slice_content (λ bytes from to n. tt) (λ none. none)

  -- the law of a box is that of its value
  pub box_spells_at : (x : A) → SpellsAt fit s knows w x → SpellsAt fit (box (sized s)) knows (box_spelling s w) x
  unfolding made
  box_spells_at x one = record {
    sized = λ to from f. refl;
    canonical = λ st from names keys bytes level inside k n known state over f o p q.
        let t = (box_spelling s w).resolver x st in
        let up = region_up fit s knows w (x ∷ []) st in
        let end = region_end fit s knows w (x ∷ []) (one, tt) st f in
        let e = box_content names bytes from t o q in
        one_part (at from (box (sized s))) (behind t (sized s) 1) same _ _ st.pos _ e tt refl
        (clean_by names bytes (at from (box (sized s))) (plain same _) e (λ i o. inl o) tt)
        tt
        (boxed_canonical fit s knows w x one st names keys bytes level inside k n known state (from_earlier inside (state_after w x st).pos (st.pos + length (region_piece w s (x ∷ []) st)) (omega arith) over) f p);
    consistent = λ st h f. region_consistent (x ∷ []) (one, tt) st h f;
    keyed = λ keys st n known f. one.keyed keys st n known f.0.0;
    piece_bytes = λ st f. region_bytes fit s knows w (x ∷ []) (one, tt) st f;
    own_bytes = λ to pos f. bytes_word (cast_unsigned w32 (difference pos to));
    piece_exact = λ st e f r. region_exact fit s knows w (x ∷ []) (one, tt) st e f r;
    own_exact = λ to from e f r. r.0 f;
    unshared = one.unshared;
  }

  -- so of all lists and boxes
  pub slice_spells : Spells fit s knows w → Spells fit (vector s) knows (slice_spelling s w)
  slice_spells h xs = slice_spells_at xs (each_spells fit s knows w h xs)

  pub boxed_slice_spells : Spells fit s knows w → Spells fit (box (slice s)) knows (slice_spelling s w)
  boxed_slice_spells h xs = boxed_slice_spells_at xs (each_spells fit s knows w h xs)

  pub box_spells : Spells fit s knows w → Spells fit (box (sized s)) knows (box_spelling s w)
  box_spells h x = box_spells_at x (h x)
