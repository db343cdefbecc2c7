-- The node at the root of an archive.
use Rattle.std.proofs.Common.{◌≡◌, ℕ, List, Ok, Err, subst, sym}
use Rattle.std.specs.Prelude.{Result, IfOk}
use Rattle.archive_shape.specs.Key.{HeldAt}
use Rattle.archive_shape_layout.specs.Content.Part.{at}
use Rattle.archive_forms_values.specs.Parts.{HasValue}
use Rattle.cabinet_text_grammar.specs.Tree.{Tree}
use Rattle.cabinet_documents.specs.Node.{node_shape, KnowsNode}
use Rattle.cabinet_documents.specs.Accepted.{Accepted}
use Rattle.cabinet_archives.specs.Found.{OfDocument}
use Rattle.cabinet_archives.specs.Sound.{IsSoundPart}
use Rattle.cabinet_archives.proofs.Reached.{root_of as place, root_there as root_held, root_has_value, root_is_sound}

-- the root has a value where bytes are accepted
pub root_there : (bytes other : List ℕ) (pos : ℕ) → other ≡ bytes → pos ≡ place bytes → ∥ ((t : Tree) × Accepted bytes t) ∥₁ → HasValue node_shape KnowsNode other pos
root_there bytes other pos e f accepted = subst (λ b. HasValue node_shape KnowsNode b pos) (sym e) (subst (HasValue node_shape KnowsNode bytes) (sym f) (root_has_value bytes accepted))

-- and its walk has no fault
pub root_sound : (bytes other : List ℕ) (pos : ℕ) → other ≡ bytes → pos ≡ place bytes → ∥ ((t : Tree) × Accepted bytes t) ∥₁ → IsSoundPart other (at pos node_shape)
root_sound bytes other pos e f accepted = subst (λ b. IsSoundPart b (at pos node_shape)) (sym e) (subst (λ p. IsSoundPart bytes (at p node_shape)) (sym f) (root_is_sound bytes accepted))

-- what is true of the document whose root a node is, is true of each that the bytes are accepted as
pub of_accepted : (bytes other : List ℕ) (pos : ℕ) (t : Tree) (is : Tree → Type 0) → other ≡ bytes → pos ≡ place bytes → Accepted bytes t → OfDocument other pos is → is t
of_accepted bytes other pos t is e f a h =
    let here = subst (λ b. HeldAt node_shape KnowsNode b pos a.value) (sym e) (subst (λ p. HeldAt node_shape KnowsNode bytes p a.value) (sym f) (root_held bytes a)) in
    h a.value t here a.denotes

-- the same of what is answered
pub answer_of_accepted : {A E : Type 0} (bytes other : List ℕ) (pos : ℕ) (is : A → Tree → Type 0) (r : Result A E) → other ≡ bytes → pos ≡ place bytes
    → IfOk r (λ x. OfDocument other pos (is x))
    → IfOk r (λ x. (t : Tree) → Accepted bytes t → is x t)
answer_of_accepted bytes other pos is (Ok x) e f h = λ t a. of_accepted bytes other pos t (is x) e f a h
answer_of_accepted bytes other pos is (Err r) e f h = tt
