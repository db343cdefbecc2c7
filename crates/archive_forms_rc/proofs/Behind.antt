-- The check of a vector is that of its elements.
use Rattle.std.proofs.Common.{◌≡◌, ℕ, List, [], ◌∷◌, Some, Ok, Err, Result, sym, subst, ap, ◌∙◌}
use Rattle.archive_shape_layout.specs.Bytes.{window, word_at, target_from}
use Rattle.archive_shape_layout.specs.Shape.{Shape}
use Rattle.archive_shape_layout.specs.Shape.Shape.{vector}
use Rattle.archive_shape_layout.specs.Shape.Pointee.{slice}
use Rattle.archive_shape_layout.specs.Content.{Names, Part, content_of, shape_content}
use Rattle.archive_shape_layout.specs.Content.Part.{at, behind}
use Rattle.archive_shape_layout.specs.Content.Label.{same}
use Rattle.archive_shape_layout.specs.Content.Content.{plain}
use Rattle.archive_shape_layout.specs.Holds.{Visit, OpenShared}
use Rattle.archive_shape_layout.proofs.Unique.{by_plain}
use Rattle.archive_shape.specs.Range.{Range}
use Rattle.archive_shape.specs.PartFault.{PartFault, PartsFault}
use Rattle.archive_shape.specs.PartFault.PartsFault.{fault_here, fault_later}
use Rattle.archive_shape.specs.Kept.{Kept, range_of}
use Rattle.archive_shape.specs.Checks.{Checks}
use Rattle.archive_shape.proofs.ByContent.{InPlain, in_plain}
use Rattle.archive_shape.proofs.ByContent.InPlain.{plain_parts, plain_text, plain_total}
use Rattle.archive_shape.proofs.Inverted.{IsKnown}
use Rattle.archive_shape.proofs.Questions.{shape_answered}
use Rattle.archive_shape_layout.specs.declared.error.Error.{Error}
use Rattle.archive_forms_laws.proofs.TextContent.{followed}
use Rattle.archive_forms_values.proofs.Inside.{one_held}

module _ (names : Names) (bytes : List ℕ) (inside : List OpenShared) (before : List Visit) (p : Part) (k : Range) (e : Error) where
  no_more : PartsFault names bytes inside before [] k e → ⊥
  no_more f = elim f [ ]

  one_fault_in : PartsFault names bytes inside before (p ∷ []) k e → PartFault names bytes inside before p k e
  one_fault_in (fault_here f) = f
  one_fault_in (fault_later q f) = absurd (nothing_after q.after f)
    where
      nothing_after : {k : Range} (after : List Visit) → PartsFault names bytes inside after [] k e → ⊥
      nothing_after after f = elim f [ ]

  fault_below : InPlain names bytes inside before same (p ∷ []) k e → PartFault names bytes inside before p k e
  fault_below (plain_parts f) = one_fault_in f
  fault_below (plain_text n f) = absurd (n tt)
  fault_below (plain_total h q n f) = absurd (cc)

module _ (names : Names) (bytes : List ℕ) (pos t n : ℕ) (s : Shape)
    (leads : target_from pos (word_at (window bytes pos 8) 0) ≡ Some t)
    (says : word_at (window bytes pos 8) 4 ≡ n) where
  content_is : content_of names bytes (at pos (vector s)) ≡ plain same (behind t (slice s) n ∷ [])
  unfolding shape_content
  content_is = followed _ t _ leads ∙ ap (λ m. plain same (behind t (slice s) m ∷ [])) says

  pub elements_checked : (k l : Kept) (r : Result (Unit {0}) Error) → Checks names bytes (at pos (vector s)) k r l → Checks names bytes (behind t (slice s) n) k r l
  elements_checked k l (Ok x) h inside before records =
      let whole = h inside before records in
      let held = whole.passes.accepts in
      let one = one_held names bytes (by_plain names bytes content_is held.holds).all in
      record {
        passes = record {
          value = one.value;
          regions = whole.passes.regions;
          after = whole.passes.after;
          accepts = record { holds = one.holds; ascends = held.ascends; nests = held.nests };
        };
        seen = whole.seen;
        moves = whole.moves;
        records = whole.records;
      }
  elements_checked k l (Err e) h inside before records = λ other.
      fault_below names bytes inside before (behind t (slice s) n) (range_of k) e
      (in_plain names bytes inside before (at pos (vector s)) (range_of k) e same (behind t (slice s) n ∷ [])
      (shape_answered names (range_of k) pos _ (vector s) (subst IsKnown (sym content_is) tt)) content_is (h inside before records other))
