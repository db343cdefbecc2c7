-- Boxes of texts: their check, and what the layout has there.
use Rattle.std.proofs.Common.{◌≡◌, ℕ, ◌+◌, ◌≤◌, List, [], ◌∷◌, Some, Result, refl, sym, ap, subst, ◌∙◌, arith}
use Rattle.std.specs.Prelude.{⊤}
use Rattle.archive_shape_layout.specs.Bytes.{window, word_at, target_from}
use Rattle.archive_shape_layout.specs.Shape.Shape.{box}
use Rattle.archive_shape_layout.specs.Shape.Pointee.{str}
use Rattle.archive_shape_layout.specs.Value.{Value}
use Rattle.archive_shape_layout.specs.Content.{Names, made, shape_content, pointee_content}
use Rattle.archive_shape_layout.specs.Content.Part.{at, behind}
use Rattle.archive_shape_layout.specs.Content.Label.{same}
use Rattle.archive_shape_layout.specs.Content.Content.{plain}
use Rattle.archive_shape_layout.specs.Holds.{Holds}
use Rattle.archive_shape_layout.proofs.Unique.{by_claimed}
use Rattle.archive_shape.specs.Kept.{Kept}
use Rattle.archive_shape.specs.Checks.{Checks}
use Rattle.archive_shape_layout.specs.declared.error.Error.{Error}
use Rattle.archive_shape.proofs.Below.{below_checked}
use Rattle.archive_shape.proofs.Inverted.{held_is_known}
use Rattle.archive_shape.proofs.Questions.{followed_known}
use Rattle.archive_shape.specs.Key.{HeldAt}
use Rattle.archive_shape_layout.proofs.Visited.{claimed_inside}
use Rattle.archive_shape.proofs.Held.{claims_within}
use Rattle.archive_forms_laws.proofs.Held.{TextBehind, text_behind}
use Rattle.archive_forms_laws.proofs.TextContent.{followed}
use Rattle.archive_forms_values.proofs.Targets.{first_word}
use Rattle.archive_forms_values.specs.Parts.{HasValue, PointsTo}
use Rattle.archive_forms_values.proofs.Pointed.{target_holds}
use Rattle.archive_forms_values.specs.Boxes.{IsBoxedStrAt}

module _ (bytes : List ℕ) (pos : ℕ) where
  -- the check of the text is that of the box
  pub boxed_str_checked : (names : Names) (to len : ℕ) (k l : Kept) (r : Result (Unit {0}) Error)
      → target_from pos (word_at (window bytes pos 8) 0) ≡ Some to
      → word_at (window bytes pos 8) 4 ≡ len
      → Checks names bytes (behind to str len) k r l
      → Checks names bytes (at pos (box str)) k r l
  unfolding made shape_content
  boxed_str_checked names to len k l r leads says h =
      below_checked names bytes pos (box str) same _ k l r
      (followed _ to _ leads ∙ ap (λ m. plain same (behind to str m ∷ [])) says) tt (λ v. (v, refl)) h

  pub boxed_str_points : HasValue (box str) (λ _. ⊤) bytes pos → (to : ℕ) × PointsTo bytes pos to
  unfolding shape_content
  boxed_str_points h =
      let known = followed_known (target_from pos (word_at (window bytes pos 8) 0)) _ (held_is_known h.held.names bytes h.held.holds) in
      (known.0, subst (λ word. target_from pos word ≡ Some known.0) (first_word bytes pos 8 (omega arith)) known.1)

  module _ (to len : ℕ) (points : PointsTo bytes pos to) (says : word_at (window bytes pos 8) 4 ≡ len) where
    holds_behind : (v : Value) (h : HeldAt (box str) (λ _. ⊤) bytes pos v) → Holds h.names bytes h.level h.inside (behind to str len) v h.regions h.before h.after
    unfolding shape_content
    holds_behind v h =
        let leads : target_from pos (word_at (window bytes pos 8) 0) ≡ Some to = subst (λ word. target_from pos word ≡ Some to) (sym (first_word bytes pos 8 (omega arith))) points in
        target_holds h to str len (followed _ to _ leads ∙ ap (λ m. plain same (behind to str m ∷ [])) says)

    text_there : (v : Value) (h : HeldAt (box str) (λ _. ⊤) bytes pos v) → TextBehind h.names bytes to len v h.regions
    text_there v h = text_behind h.names bytes to len (holds_behind v h)

    -- the region of the text ends before the box
    ends_before : (v : Value) → HeldAt (box str) (λ _. ⊤) bytes pos v → to + len ≤ pos
    unfolding pointee_content
    ends_before v h =
        let says = by_claimed h.names bytes refl (holds_behind v h) in
        (claimed_inside says.regions_are h.claimed).ends

    pub boxed_str_there : HasValue (box str) (λ _. ⊤) bytes pos → IsBoxedStrAt bytes pos to len
    boxed_str_there h =
        let there = text_there h.value h.held in
        record {
          points = points;
          before = ends_before h.value h.held;
          within = there.claims (claims_within h.held);
          is_text = there.is_text;
          value = λ v held. (text_there v held).value;
        }
