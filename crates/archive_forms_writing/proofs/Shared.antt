-- The law of a pointer to a shared value that is seen as what a pointer leads to.
use Rattle.std.proofs.Common.{ℕ, Bool, List, length}
use Rattle.archive_shape_layout.specs.Shape.{Shape, Pointee}
use Rattle.archive_shape_layout.specs.Shape.Shape.{shared, box}
use Rattle.archive_shape_layout.specs.Shape.Pointee.{sized, slice, str}
use Rattle.archive_shape_layout.specs.Content.{Names}
use Rattle.archive_shape_canonical.specs.Settled.{Fit}
use Rattle.archive_forms_laws.specs.Spelling.{Spelling}
use Rattle.archive_forms_laws.specs.Spells.{Spells, SpellsBehind}
use Rattle.archive_forms_laws.specs.Forms.{seen_as}
use Rattle.archive_forms_laws.specs.Pointers.{box_spelling, slice_spelling}
use Rattle.archive_forms_laws.specs.Texts.{boxed_text_spelling}
use Rattle.archive_forms_laws.specs.Shared.{shared_spelling}
use Rattle.archive_forms_laws.proofs.Behind.{value_behind, elements_behind, text_behind, seen_behind}
use Rattle.archive_forms_laws.proofs.Pointers.{box_spells_at, boxed_slice_spells_at}
use Rattle.archive_forms_laws.proofs.Texts.{boxed_text_spells_at}
use Rattle.archive_forms_laws.proofs.Views.{each_spells, seen_spells_at}
use Rattle.archive_forms_laws.proofs.Shared.{shared_spells_at}

module _ {B : Type 0} (fit : Fit) (cyclic : Bool) (knows : Names → Type 0) (key : B → ℕ) where
  seen_shared_spells : {A : Type 0} (q : Pointee) (view : B → A) (len : A → ℕ) (w : Spelling A ℕ)
      → Spells fit (box q) knows w
      → ((y : A) → SpellsBehind fit q knows len w y)
      → Spells fit (shared cyclic q) knows (shared_spelling q (λ x. len (view x)) key (seen_as view w))
  seen_shared_spells q view len w spells behind x =
      shared_spells_at fit cyclic q knows (λ y. len (view y)) key (seen_as view w) x (seen_spells_at fit (box q) knows view w x (spells (view x)))
      (seen_behind fit q knows view len w x (behind (view x)))

  module _ {A R : Type 0} (s : Shape) (w : Spelling A R) (h : Spells fit s knows w) where
    pub seen_value_spells : (view : B → A) → Spells fit (shared cyclic (sized s)) knows (shared_spelling (sized s) (λ x. 1) key (seen_as view (box_spelling s w)))
    seen_value_spells view =
        seen_shared_spells (sized s) view (λ y. 1) (box_spelling s w) (λ y. box_spells_at fit s knows w y (h y)) (λ y. value_behind fit s knows w y (h y))

    pub seen_slice_spells : (view : B → List A) → Spells fit (shared cyclic (slice s)) knows (shared_spelling (slice s) (λ x. length (view x)) key (seen_as view (slice_spelling s w)))
    seen_slice_spells view =
        seen_shared_spells (slice s) view length (slice_spelling s w) (λ ys. boxed_slice_spells_at fit s knows w ys (each_spells fit s knows w h ys))
        (λ ys. elements_behind fit s knows w ys (each_spells fit s knows w h ys))

  pub seen_text_spells : (view : B → List ℕ) → Spells fit (shared cyclic str) knows (shared_spelling str (λ x. length (view x)) key (seen_as view boxed_text_spelling))
  seen_text_spells view = seen_shared_spells str view length boxed_text_spelling (λ t. boxed_text_spells_at fit t knows) (λ t. text_behind fit knows t)
