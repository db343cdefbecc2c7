-- The check of a text, by its own bytes.
use Rattle.std.proofs.Common.{◌≡◌, ℕ, ◌<◌, ◌≤◌, ◌^◌, Bool, true, false, cond, List, [], ◌∷◌, slice_index, Some, None, Result, Ok, Err, IsUtf8, refl, ap, arith}
use Rattle.std.proofs.lemmas.Bool.{ltb-true}
use Rattle.archive_shape_layout.specs.Bytes.{word_at, target_from}
use Rattle.archive_shape_layout.specs.Shape.Shape.{text}
use Rattle.archive_shape_layout.specs.Shape.Pointee.{str}
use Rattle.archive_shape_layout.specs.Value.Value.{string}
use Rattle.archive_shape_layout.specs.Content.{Names, content_of, made, IsInline, before_ff, text_length}
use Rattle.archive_shape_layout.specs.Content.Part.{at, behind}
use Rattle.archive_shape_layout.specs.Content.Label.{written, same}
use Rattle.archive_shape_layout.specs.Content.Content.{plain}
use Rattle.archive_shape.specs.Range.{Range}
use Rattle.archive_shape.specs.Questions.{Question, AreAnswered, FirstUnanswered, out_of_range}
use Rattle.archive_shape.specs.Questions.FirstUnanswered.{unanswered_here, unanswered_later}
use Rattle.archive_shape.specs.PartFault.PartFault.{fault_unanswered, fault_text}
use Rattle.archive_shape.specs.Kept.{Kept}
use Rattle.archive_shape.specs.Checks.{Checks}
use Rattle.archive_shape_layout.specs.declared.error.Error.{Error}
use Rattle.archive_shape_layout.specs.declared.error.Error.TheVariants.{CheckStringRepr, InvalidSubtreePointer, InvalidUtf8}
use Rattle.archive_shape.proofs.Leaves.{alone_checked}
use Rattle.archive_forms_laws.proofs.TextContent.{first_is, first_is_not, len_is, target_is, is_long, inline_is, far_is}
use Rattle.archive_shape.proofs.Below.{below_checked}
use Rattle.archive_shape.proofs.Questions.{leads_nowhere}
use Rattle.archive_forms_laws.specs.Text.{own_bytes}

-- ---- by a test

answered_yes : (k : Range) (b : Bool) (qs : List Question) → b ≡ true → AreAnswered k (cond b [] qs)
answered_yes k b qs e = rw e tt

unanswered_no : (k : Range) (e : Error) (b : Bool) (qs : List Question) → (b ≡ true → ⊥) → FirstUnanswered k e qs → FirstUnanswered k e (cond b [] qs)
unanswered_no k e true qs n h = absurd (n refl)
unanswered_no k e false qs n h = h

-- ---- texts

module _ (names : Names) (bytes : List ℕ) (pos : ℕ) (own : List ℕ) (is : own ≡ own_bytes bytes pos) where
  module _ (begins : IsInline (slice_index own 0)) where
    here : IsInline (slice_index (own_bytes bytes pos) 0)
    here = first_is names bytes pos own is begins

    content : content_of names bytes (at pos text) ≡ plain (written (before_ff own)) []
    content = inline_is names bytes pos own is begins

    pub inline_checked : (kept : Kept) → IsUtf8 (before_ff own) → Checks names bytes (at pos text) kept (Ok tt) kept
    unfolding made
    inline_checked kept utf8 = alone_checked names bytes (at pos text) kept (written (before_ff own)) (string (before_ff own)) content utf8 refl

    pub inline_refused : (kept after : Kept) → (IsUtf8 (before_ff own) → ⊥) → Checks names bytes (at pos text) kept (Err InvalidUtf8) after
    inline_refused kept after no_text inside before records other = fault_text (answered_yes _ _ _ here) content no_text refl

  module _ (begins : IsInline (slice_index own 0) → ⊥) (len : ℕ) (says : len ≡ text_length (word_at own 0)) where
    elsewhere : IsInline (slice_index (own_bytes bytes pos) 0) → ⊥
    elsewhere = first_is_not names bytes pos own is begins

    same_len : len ≡ text_length (word_at (own_bytes bytes pos) 0)
    same_len = len_is names bytes pos own is len says

    pub short_refused : (kept after : Kept) → len ≤ 8 → Checks names bytes (at pos text) kept (Err CheckStringRepr) after
    short_refused kept after short inside before records other =
        fault_unanswered (unanswered_no _ _ _ _ elsewhere (unanswered_here (λ long. let low = ltb-true 8 (text_length (word_at (own_bytes bytes pos) 0)) long in let is_same = same_len in omega arith) refl))

    pub astray_refused : (kept after : Kept) → 8 < len → len < 2 ^ 64 → target_from pos (word_at own 4) ≡ None → Checks names bytes (at pos text) kept (Err (InvalidSubtreePointer len)) after
    astray_refused kept after long small astray inside before records other =
        let size : InvalidSubtreePointer len ≡ out_of_range (text_length (word_at (own_bytes bytes pos) 0)) =
        ap InvalidSubtreePointer (let is_same = same_len in omega arith) in
        fault_unanswered (unanswered_no _ _ _ _ elsewhere
        (unanswered_later (is_long names bytes pos own is len says long) (unanswered_here (leads_nowhere _ (target_is names bytes pos own is None astray)) size)))

    module _ (long : 8 < len) (start : ℕ) (leads : target_from pos (word_at own 4) ≡ Some start) where
      far_content : content_of names bytes (at pos text) ≡ plain same (behind start str len ∷ [])
      far_content = far_is names bytes pos own is begins len says long start leads

      pub far_checked : (kept after : Kept) (r : Result (Unit {0}) Error) → Checks names bytes (behind start str len) kept r after → Checks names bytes (at pos text) kept r after
      unfolding made
      far_checked kept after r h = below_checked names bytes pos text same (behind start str len) kept after r far_content tt (λ v. (v, refl)) h
