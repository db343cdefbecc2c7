-- Pointers, by what their own bytes say.
use Rattle.std.proofs.Common.{◌≡◌, ℕ, ◌-◌, ◌^◌, min, List, [], ◌∷◌, Option, Some, None, Err, Result, refl, sym, ap, subst, ◌∙◌}
use Rattle.archive_shape_layout.specs.Bytes.{window, word_at, target_from}
use Rattle.archive_shape_layout.specs.Shape.{Shape, Alignment, alignment_bytes, size_of, align_of}
use Rattle.archive_shape_layout.specs.Shape.Shape.{box, vector, named}
use Rattle.archive_shape_layout.specs.Shape.Pointee.{sized, slice}
use Rattle.archive_shape_layout.specs.Value.{Value}
use Rattle.archive_shape_layout.specs.Value.Values.{no_values, more_values}
use Rattle.archive_shape_layout.specs.Content.{Names, content_of, made, elements, shape_content, pointee_content, shape_named}
use Rattle.archive_shape_layout.specs.Content.Part.{at, behind}
use Rattle.archive_shape_layout.specs.Content.Label.{same, whole}
use Rattle.archive_shape_layout.specs.Content.Content.{plain, claimed}
use Rattle.archive_shape.specs.Questions.{FirstUnanswered, questions_of, pointee_span, leads}
use Rattle.archive_shape.specs.Questions.FirstUnanswered.{unanswered_here}
use Rattle.archive_shape.specs.PartFault.PartFault.{fault_unanswered}
use Rattle.archive_shape.specs.Kept.{Kept, range_of}
use Rattle.archive_shape.specs.Checks.{Checks}
use Rattle.archive_shape_layout.specs.declared.error.Error.{Error}
use Rattle.archive_shape_layout.specs.declared.error.Error.TheVariants.{InvalidSubtreePointer}
use Rattle.archive_shape.proofs.Below.{below_checked}
use Rattle.archive_shape.proofs.Questions.{leads_nowhere}
use Rattle.archive_forms_laws.proofs.Named.{named_is}
use Rattle.archive_forms_laws.proofs.TextContent.{followed}

made_same : (v : Value) → (w : Value) × (made same (more_values v no_values) ≡ Some w)
unfolding made
made_same v = (v, refl)

module _ (names : Names) (bytes : List ℕ) (pos : ℕ) where
  -- ---- what pointers lead to

  pub sized_is : (s : Shape) (n : ℕ) → content_of names bytes (behind pos (sized s) n) ≡ claimed (pointee_span pos (sized s) n) same (at pos s ∷ [])
  unfolding pointee_content
  sized_is s n = refl

  pub slice_is : (s : Shape) (n : ℕ) → content_of names bytes (behind pos (slice s) n) ≡ claimed (pointee_span pos (slice s) n) whole (elements pos n s)
  unfolding pointee_content
  slice_is s n = refl

  -- ---- pointers

  -- that lead before position 0
  pub astray_refused :
      (s : Shape) (o : Option ℕ) (size n : ℕ) (k l : Kept)
      → questions_of names bytes (at pos s) ≡ leads o n ∷ []
      → o ≡ None
      → size ≡ min n (2 ^ 64 - 1)
      → Checks names bytes (at pos s) k (Err (InvalidSubtreePointer size)) l
  astray_refused s o size n k l questions astray is inside before records other =
      fault_unanswered (subst (FirstUnanswered (range_of k) (InvalidSubtreePointer size)) (sym questions) (unanswered_here (leads_nowhere o astray) (ap InvalidSubtreePointer is)))

  module _ (s : Shape) (t : ℕ) (k l : Kept) (r : Result (Unit {0}) Error) where
    pub box_checked :
        target_from pos (word_at (window bytes pos 4) 0) ≡ Some t
        → Checks names bytes (behind t (sized s) 1) k r l
        → Checks names bytes (at pos (box (sized s))) k r l
    unfolding shape_content
    box_checked leads h = below_checked names bytes pos (box (sized s)) same _ k l r (followed _ t _ leads) tt made_same h

    pub vector_checked :
        (n : ℕ)
        → target_from pos (word_at (window bytes pos 8) 0) ≡ Some t
        → word_at (window bytes pos 8) 4 ≡ n
        → Checks names bytes (behind t (slice s) n) k r l
        → Checks names bytes (at pos (vector s)) k r l
    unfolding shape_content
    vector_checked n leads says h =
        below_checked names bytes pos (vector s) same _ k l r
        (followed _ t _ leads ∙ ap (λ m. plain same (behind t (slice s) m ∷ [])) says) tt made_same h

-- ---- names

-- a check of the shape that a name denotes is a check of the name
pub named_checked :
    (s : Shape) (name size : ℕ) (align : Alignment) → size_of s ≡ size → align_of s ≡ alignment_bytes align
    → (names : Names) (bytes : List ℕ) (pos : ℕ) (k l : Kept) (r : Result (Unit {0}) Error)
    → shape_named names name ≡ Some s
    → Checks names bytes (at pos s) k r l
    → Checks names bytes (at pos (named name size align)) k r l
named_checked s name size align size_is align_is names bytes pos k l r known h =
    below_checked names bytes pos (named name size align) same _ k l r (named_is s name size align size_is align_is names bytes pos known) tt made_same h
