-- Parts with one content, and the same questions, have the same values and the same faults.
use Rattle.std.proofs.Common.{◌≡◌, ℕ, List, Result, Ok, Err, sym, subst, ◌∙◌}
use Rattle.archive_shape_layout.specs.Shape.{Shape}
use Rattle.archive_shape_layout.specs.Shape.Shape.{index_map}
use Rattle.archive_shape_layout.specs.Value.{Value}
use Rattle.archive_shape_layout.specs.Content.{Names, Part, content_of}
use Rattle.archive_shape_layout.specs.Content.Part.{at}
use Rattle.archive_shape_layout.specs.Holds.{Region, Visit, OpenShared, Holds}
use Rattle.archive_shape_layout.specs.Holds.Holds.{holds_plain, holds_claimed, holds_first, holds_later, holds_back}
use Rattle.archive_shape.specs.Range.{Range}
use Rattle.archive_shape.specs.Questions.{AreAnswered, FirstUnanswered, questions_of}
use Rattle.archive_shape.specs.PartFault.{PartFault}
use Rattle.archive_shape.specs.PartFault.PartFault.{fault_unanswered, fault_plain, fault_claimed, fault_text, fault_text_behind, fault_total, fault_table, fault_entries, fault_again, fault_first}
use Rattle.archive_shape.specs.Kept.{Kept}
use Rattle.archive_shape.specs.Checks.{Checks}
use Rattle.archive_shape_layout.specs.declared.error.Error.{Error}

module _ (names : Names) (bytes : List ℕ) (p r : Part) (same : content_of names bytes p ≡ content_of names bytes r) where
  pub same_holds : {level : ℕ} {inside : List OpenShared} {v : Value} {regions : List Region} {before after : List Visit}
      → Holds names bytes level inside p v regions before after → Holds names bytes level inside r v regions before after
  same_holds (holds_plain c l h m) = holds_plain (sym same ∙ c) l h m
  same_holds (holds_claimed c l h m e) = holds_claimed (sym same ∙ c) l h m e
  same_holds (holds_first c o n h m e) = holds_first (sym same ∙ c) o n h m e
  same_holds (holds_later c o n m e f) = holds_later (sym same ∙ c) o n m e f
  same_holds (holds_back c o m e f) = holds_back (sym same ∙ c) o m e f

  -- a kept map alone has faults beside those of its content
  module _ (asked : questions_of names bytes p ≡ questions_of names bytes r)
      (no_map : (pos : ℕ) (key value : Shape) → p ≡ at pos (index_map key value) → ⊥) where
    same_fault : {inside : List OpenShared} {before : List Visit} {k : Range} {e : Error}
        → PartFault names bytes inside before p k e → PartFault names bytes inside before r k e
    same_fault {k = k} {e = e} (fault_unanswered f) = fault_unanswered (subst (FirstUnanswered k e) asked f)
    same_fault {k = k} (fault_plain a c f) = fault_plain (subst (AreAnswered k) asked a) (sym same ∙ c) f
    same_fault {k = k} (fault_claimed a c f) = fault_claimed (subst (AreAnswered k) asked a) (sym same ∙ c) f
    same_fault {k = k} (fault_text a c n f) = fault_text (subst (AreAnswered k) asked a) (sym same ∙ c) n f
    same_fault {k = k} (fault_text_behind a c n f) = fault_text_behind (subst (AreAnswered k) asked a) (sym same ∙ c) n f
    same_fault {k = k} (fault_total a c q n f) = fault_total (subst (AreAnswered k) asked a) (sym same ∙ c) q n f
    same_fault (fault_table {pos = pos} {key = key} {value = value} a i t n f) = absurd (no_map pos key value i)
    same_fault (fault_entries {pos = pos} {key = key} {value = value} a i t n q f) = absurd (no_map pos key value i)
    same_fault {k = k} (fault_again a c m f) = fault_again (subst (AreAnswered k) asked a) (sym same ∙ c) m f
    same_fault {k = k} (fault_first a c n f) = fault_first (subst (AreAnswered k) asked a) (sym same ∙ c) n f

    -- so a check of the one is a check of the other
    pub same_checked : (k l : Kept) (result : Result (Unit {0}) Error) → Checks names bytes p k result l → Checks names bytes r k result l
    same_checked k l (Ok x) h inside before records =
        let there = h inside before records in
        let held = there.passes.accepts in
        record {
          passes = record {
            value = there.passes.value;
            regions = there.passes.regions;
            after = there.passes.after;
            accepts = record { holds = same_holds held.holds; ascends = held.ascends; nests = held.nests };
          };
          seen = there.seen;
          moves = there.moves;
          records = there.records;
        }
    same_checked k l (Err e) h inside before records = λ other. same_fault (h inside before records other)
