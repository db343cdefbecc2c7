-- Weak pointers, by their tags.
use Rattle.std.proofs.Common.{◌≡◌, ℕ, ◌+◌, ◌==◌, Bool, true, List, [], ◌∷◌, slice_index, Some, Ok, Result, ◌⊎◌, inl, inr, refl, sym, ap, ◌∙◌, arith, eqb-true}
use Rattle.archive_shape_layout.specs.Bytes.{window}
use Rattle.archive_shape_layout.specs.Shape.{Pointee, size_of}
use Rattle.archive_shape_layout.specs.Shape.Shape.{shared, weak}
use Rattle.archive_shape_layout.specs.Value.{Value, Values}
use Rattle.archive_shape_layout.specs.Value.Value.{chosen}
use Rattle.archive_shape_layout.specs.Value.Values.{no_values, more_values}
use Rattle.archive_shape_layout.specs.Content.{Names, content_of, made, choose, shape_content}
use Rattle.archive_shape_layout.specs.Content.Part.{at}
use Rattle.archive_shape_layout.specs.Content.Label.{tagged}
use Rattle.archive_shape_layout.specs.Content.Content.{plain}
use Rattle.archive_shape_layout.proofs.Unique.{by_plain}
use Rattle.archive_shape.specs.Kept.{Kept}
use Rattle.archive_shape.specs.Checks.{Checks}
use Rattle.archive_shape_layout.specs.declared.error.Error.{Error}
use Rattle.archive_shape.proofs.Below.{below_checked}
use Rattle.archive_shape.proofs.Inverted.{held_is_known}
use Rattle.archive_shape.proofs.Leaves.{alone_checked}
use Rattle.archive_shape.specs.Key.{HeldAt}
use Rattle.archive_shape_layout.proofs.Visited.{claimed_raised}
use Rattle.archive_forms_values.proofs.Tagged.{own_tag}
use Rattle.archive_forms_values.specs.Parts.{HasValue}
use Rattle.archive_forms_values.proofs.Inside.{none_held, one_held}
use Rattle.archive_forms_rc.specs.WeakPointers.{IsNothingAt, IsPointerAt}
use Rattle.archive_shape.proofs.Questions.{one_tag}

made_tagged : (t : ℕ) (v : Value) → (w : Value) × (made (tagged t) (more_values v no_values) ≡ Some w)
unfolding made
made_tagged t v = (chosen t (more_values v no_values), refl)

module _ (names : Names) (bytes : List ℕ) (pos : ℕ) (cyclic : Bool) (p : Pointee) where
  pub weak_tag : slice_index (window bytes pos (size_of (weak cyclic p))) 0 ≡ slice_index bytes pos
  weak_tag = own_tag bytes pos (size_of (weak cyclic p)) (omega arith)

  pub nothing_is : slice_index bytes pos ≡ 0 → content_of names bytes (at pos (weak cyclic p)) ≡ plain (tagged 0) []
  unfolding shape_content choose
  nothing_is tag = rw (weak_tag, tag) refl

  pub pointer_is : slice_index bytes pos ≡ 1 → content_of names bytes (at pos (weak cyclic p)) ≡ plain (tagged 1) (at (pos + 4) (shared cyclic p) ∷ [])
  unfolding shape_content choose
  pointer_is tag = rw (weak_tag, tag) refl

  pub nothing_checked : (k : Kept) → slice_index bytes pos ≡ 0 → Checks names bytes (at pos (weak cyclic p)) k (Ok tt) k
  unfolding made
  nothing_checked k tag = alone_checked names bytes (at pos (weak cyclic p)) k (tagged 0) (chosen 0 no_values) (nothing_is tag) tt refl

  pub pointer_checked : (k l : Kept) (r : Result (Unit {0}) Error) → slice_index bytes pos ≡ 1 → Checks names bytes (at (pos + 4) (shared cyclic p)) k r l → Checks names bytes (at pos (weak cyclic p)) k r l
  pointer_checked k l r tag h = below_checked names bytes pos (weak cyclic p) (tagged 1) _ k l r (pointer_is tag) tt (made_tagged 1) h

-- ---- reading

made_chosen : (tag : ℕ) (vs : Values) (v : Value) → made (tagged tag) vs ≡ Some v → v ≡ chosen tag vs
unfolding made
made_chosen tag vs v e = cc

module _ (cyclic : Bool) (p : Pointee) (knows : Names → Type 0) (bytes : List ℕ) (pos : ℕ) where
  pub is_nothing : slice_index bytes pos ≡ 0 → IsNothingAt cyclic p knows bytes pos
  is_nothing tag v h =
      let says = by_plain h.names bytes (nothing_is h.names bytes pos cyclic p tag) h.holds in
      made_chosen 0 says.vs v says.is_made ∙ ap (chosen 0) (none_held h.names bytes says.all)

  -- the pointer after the tag has a value where the weak pointer has one
  pub pointer_has : IsPointerAt cyclic p knows bytes pos → HasValue (weak cyclic p) knows bytes pos → HasValue (shared cyclic p) knows bytes (pos + 4)
  pointer_has there has = let one = there has.value has.held in record { value = one.pointer; held = one.held }

  module _ (other : slice_index bytes pos ≡ 0 → ⊥) where
    tag_is_one : (v : Value) (h : HeldAt (weak cyclic p) knows bytes pos v) → slice_index bytes pos ≡ 1
    unfolding shape_content
    tag_is_one v h = by (one_tag (slice_index (window bytes pos (size_of (weak cyclic p))) 0 == 0) (slice_index (window bytes pos (size_of (weak cyclic p))) 0 == 1) _ _ (held_is_known h.names bytes h.holds))
      where
        by : ((slice_index (window bytes pos (size_of (weak cyclic p))) 0 == 0) ≡ true) ⊎ ((slice_index (window bytes pos (size_of (weak cyclic p))) 0 == 1) ≡ true) → slice_index bytes pos ≡ 1
        by (inl e) = absurd (other (sym (weak_tag h.names bytes pos cyclic p) ∙ eqb-true _ 0 e))
        by (inr e) = sym (weak_tag h.names bytes pos cyclic p) ∙ eqb-true _ 1 e

    -- a value is that of the pointer after the tag, after the same visits
    pub is_pointer : IsPointerAt cyclic p knows bytes pos
    is_pointer v h =
        let says = by_plain h.names bytes (pointer_is h.names bytes pos cyclic p (tag_is_one v h)) h.holds in
        let one = one_held h.names bytes says.all in
        let own = h.own_within in
        record {
          pointer = one.value;
          is = made_chosen 1 says.vs v says.is_made ∙ ap (chosen 1) one.is;
          held = record {
            names = h.names;
            known = h.known;
            level = h.level;
            inside = h.inside;
            regions = h.regions;
            before = h.before;
            after = h.after;
            own_within = omega (arith, own);
            low = h.low;
            claimed = claimed_raised (omega arith) h.claimed;
            holds = one.holds;
          };
        }
