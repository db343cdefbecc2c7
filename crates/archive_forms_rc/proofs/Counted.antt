-- The check of a counted pointer, by whether what it leads to is visited for the first time.
use Rattle.std.proofs.Common.{◌≡◌, ◌≢◌, ℕ, Bool, true, false, List, [], ◌∷◌, Some, None, Ok, Err, Result, refl, sym, ap, subst, ◌∙◌}
use Rattle.archive_shape_layout.specs.Bytes.{window, word_at, target_from}
use Rattle.archive_shape_layout.specs.Shape.{Pointee, pointer_size}
use Rattle.archive_shape_layout.specs.Shape.Shape.{shared}
use Rattle.archive_shape_layout.specs.Value.Value.{counted, back}
use Rattle.archive_shape_layout.specs.Content.{Names, Part, content_of, shape_content, shared_content, pointee_length}
use Rattle.archive_shape_layout.specs.Content.Part.{at, behind}
use Rattle.archive_shape_layout.specs.Content.Content.{counting}
use Rattle.archive_shape_layout.specs.Holds.{Visit, OpenShared, Ascends, end_after}
use Rattle.archive_shape_layout.specs.Holds.Holds.{holds_first, holds_later, holds_back}
use Rattle.archive_shape.specs.Range.{Range}
use Rattle.archive_shape.specs.Accepts.{Accepts, NestsBelow}
use Rattle.archive_shape.specs.Questions.{AreAnswered, questions_of}
use Rattle.archive_shape.specs.PartFault.{PartFault, entry_at}
use Rattle.archive_shape.specs.PartFault.PartFault.{fault_again, fault_first}
use Rattle.archive_shape.specs.Kept.{Kept, Records, range_of, seen_with, started_again, with_entry, FinishesShared}
use Rattle.archive_shape.specs.Checks.{Checks, Checked}
use Rattle.archive_shape_layout.specs.declared.error.Error.{Error}
use Rattle.archive_shape_layout.specs.declared.error.Error.TheVariants.{OutOfMemory}
use Rattle.archive_shape.proofs.Questions.{shape_answered}
use Rattle.archive_shape.proofs.Inverted.{IsKnown}
use Rattle.archive_forms_laws.proofs.TextContent.{followed}
use Rattle.archive_forms_rc.specs.Visits.{Visits, ClashesAt}
use Rattle.archive_forms_rc.proofs.Entries.{nothing_met, recorded, opened_is, ended_is, opened_at, opened_records, closed_records}

-- ending what is open
ends : (k l : Kept) (t : ℕ) (q : Pointee) (n : ℕ) (r : Result (Unit {0}) Error) → k.seen t ≡ Some (recorded q n false) → FinishesShared k t l r (k.seen t) → (r ≡ Ok tt) × (l ≡ with_entry k t (recorded q n true))
ends k l t q n r met h = subst (FinishesShared k t l r) met h

module _ (names : Names) (bytes : List ℕ) (pos : ℕ) (cyclic : Bool) (q : Pointee) (t n : ℕ)
    (leads : target_from pos (word_at (window bytes pos (pointer_size q)) 0) ≡ Some t)
    (says : pointee_length q (window bytes pos (pointer_size q)) ≡ n) where
  abbrev pointer : Part
  pointer = at pos (shared cyclic q)

  content_is : content_of names bytes pointer ≡ counting cyclic t q n
  unfolding shape_content shared_content
  content_is = followed _ t _ leads ∙ ap (counting cyclic t q) says

  answered : (k : Range) → AreAnswered k (questions_of names bytes pointer)
  answered k = shape_answered names k pos _ (shared cyclic q) (subst IsKnown (sym content_is) tt)

  -- ---- at the first visit

  module _ (k m : Kept) (first : Visits cyclic k t q n m true) (inside : List OpenShared) (before : List Visit) (records : Records k.seen inside before) where
    unmet : entry_at inside before t ≡ None
    unmet = sym (records t) ∙ first.0

    begun : Records m.seen (record { pos = t; pointee = q; len = n } ∷ inside) before
    begun =
        subst (λ seen. Records seen (record { pos = t; pointee = q; len = n } ∷ inside) before) (sym (ap (λ (x : Kept). x.seen) first.1))
        (opened_records q n inside before t k.seen records)

    same_range : range_of m ≡ range_of k
    same_range = ap range_of first.1

  fault_there : (k m l : Kept) (r : Result (Unit {0}) Error) (e : Error) → r ≡ Err e → Visits cyclic k t q n m true → Checks names bytes (behind t q n) m (Err e) l → Checks names bytes pointer k r l
  fault_there k m l r e refused first h inside before records =
      rw refused (λ other.
      fault_first (answered (range_of k)) content_is (unmet k m first inside before records)
      (subst (λ x. PartFault names bytes (record { pos = t; pointee = q; len = n } ∷ inside) before (behind t q n) x e) (same_range k m first inside before records)
      (h (record { pos = t; pointee = q; len = n } ∷ inside) before (begun k m first inside before records) other)))

  first_there :
      (k m l o : Kept) (r : Result (Unit {0}) Error)
      → Visits cyclic k t q n m true
      → Checks names bytes (behind t q n) m (Ok tt) l
      → FinishesShared l t o r (l.seen t)
      → Checks names bytes pointer k r o
  first_there k m l o r first h finishes inside before records =
      let nothing = nothing_met _ _ (unmet k m first inside before records) in
      let below = h (record { pos = t; pointee = q; len = n } ∷ inside) before (begun k m first inside before records) in
      let held = subst (λ x. Accepts names bytes (record { pos = t; pointee = q; len = n } ∷ inside) before (behind t q n) x below.passes.value below.passes.regions below.passes.after) (same_range k m first inside before records) below.passes.accepts in
      let met : l.seen t ≡ Some (recorded q n false) = ap (λ (x : Kept). x.seen t) below.moves ∙ below.records t ∙ opened_at q n inside below.passes.after t in
      let ended = ends l o t q n r met finishes in
      rw ended.0 (record {
        passes = record {
          value = counted t below.passes.value;
          regions = below.passes.regions;
          after = record { pos = t; pointee = q; len = n; value = below.passes.value } ∷ below.passes.after;
          accepts = record {
            holds = holds_first content_is nothing.open_nowhere nothing.not_visited held.holds refl refl;
            ascends = held.ascends;
            nests = held.nests;
          };
        };
        seen = seen_with below.seen t (recorded q n true);
        moves = ended.1 ∙ ap (λ (x : Kept). with_entry x t (recorded q n true)) below.moves
            ∙ ap (λ (x : Kept). with_entry (started_again x (end_after x.start below.passes.regions) below.seen) t (recorded q n true)) first.1;
        records = closed_records q n inside below.passes.after t below.seen below.passes.value nothing.open_nowhere below.records;
      })

  -- ---- at a later one, which claims nothing

  later_there : (k l : Kept) → Visits cyclic k t q n l false → Checks names bytes pointer k (Ok tt) l
  unfolding Ascends NestsBelow end_after
  later_there k l later inside before records = by_state later.0 refl
    where
      is_met : (done : Bool) → later.0 ≡ done → entry_at inside before t ≡ Some (recorded q n done)
      is_met done e = sym (records t) ∙ later.1 ∙ ap (λ b. Some (recorded q n b)) e

      by_flavor : (b : Bool) → cyclic ≡ b → later.0 ≡ false → Checked names bytes inside before pointer k l
      by_flavor true allowed pending = record {
        passes = record {
          value = back t;
          regions = [];
          after = before;
          accepts = record { holds = holds_back (content_is ∙ ap (λ b. counting b t q n) allowed) (opened_is q n inside before t (is_met false pending)) refl refl refl; ascends = tt; nests = tt };
        };
        seen = k.seen;
        moves = later.3;
        records = records;
      }
      by_flavor false forbidden pending = let ended = later.2 forbidden in absurd (cc)

      by_state : (done : Bool) → later.0 ≡ done → Checked names bytes inside before pointer k l
      by_state true e =
          let ended = ended_is q n inside before t (is_met true e) in
          record {
            passes = record {
              value = counted t ended.value;
              regions = [];
              after = before;
              accepts = record { holds = holds_later content_is ended.open_nowhere ended.was_visited refl refl refl; ascends = tt; nests = tt };
            };
            seen = k.seen;
            moves = later.3;
            records = records;
          }
      by_state false e = by_flavor cyclic refl e

  -- ---- by what the visit returns

  pub clash_checked : (k l : Kept) (r : Result (Unit {0}) Error) (e : Error) → r ≡ Err e → (e ≢ OutOfMemory → ClashesAt cyclic k t q n e) → Checks names bytes pointer k r l
  clash_checked k l r e refused h inside before records =
      rw refused (λ other. let met = h other in fault_again (answered (range_of k)) content_is (sym (records t) ∙ met.is_met) met.clash)

  pub later_checked : (k l : Kept) (f : Bool) → f ≡ false → Visits cyclic k t q n l f → Checks names bytes pointer k (Ok tt) l
  later_checked k l f is h = later_there k l (subst (λ x. Visits cyclic k t q n l x) is h)

  module _ (k m : Kept) (f : Bool) (is : f ≡ true) (h : Visits cyclic k t q n m f) where
    first : Visits cyclic k t q n m true
    first = subst (λ x. Visits cyclic k t q n m x) is h

    pub fault_checked : (l : Kept) (r : Result (Unit {0}) Error) (e : Error) → r ≡ Err e → Checks names bytes (behind t q n) m (Err e) l → Checks names bytes pointer k r l
    fault_checked l r e refused below = fault_there k m l r e refused first below

    pub first_checked : (l o : Kept) (r : Result (Unit {0}) Error) → Checks names bytes (behind t q n) m (Ok tt) l → FinishesShared l t o r (l.seen t) → Checks names bytes pointer k r o
    first_checked l o r below finishes = first_there k m l o r first below finishes
