-- Values of shapes that hold no shared pointer suit the fit that binds nothing.
use Rattle.std.proofs.Common.{◌≡◌, ℕ, zero, suc, false, ◌||◌, List, [], ◌∷◌, Some, refl, sym, ap, ◌∙◌}
use Rattle.std.proofs.lemmas.Bool.{or_from, or_parts}
use Rattle.archive_shape_layout.specs.Shape.{Shape, Shapes}
use Rattle.archive_shape_layout.specs.Shape.Shape.{tuple}
use Rattle.archive_shape_layout.specs.Shape.Shapes.{no_shapes, more_shapes}
use Rattle.archive_shape_layout.specs.Content.{Names, shape_tagged}
use Rattle.archive_shape_canonical.specs.Settled.{Fit, free}
use Rattle.archive_forms_laws.specs.State.{Keys}
use Rattle.archive_forms_laws.specs.Spelling.{Spelling}
use Rattle.archive_forms_laws.specs.Spells.{EachSpells}
use Rattle.archive_forms_laws.specs.Regions.{all_suit}
use Rattle.archive_forms_laws.specs.Unshared.{holds_shared, any_holds_shared}

-- all values of a list
pub each_unshared : {A R : Type 0} (fit : Fit) (s : Shape) (knows : Names → Type 0) (w : Spelling A R) (xs : List A)
    → EachSpells fit s knows w xs → holds_shared s ≡ false → (keys : Keys) → all_suit w free keys xs
each_unshared fit s knows w [] each none keys = tt
each_unshared fit s knows w (x ∷ xs) each none keys = (each.0.unshared none keys, each_unshared fit s knows w xs each.1 none keys)

-- a pair holds none where neither member does
pub pair_unshared : (k v : Shape) → (holds_shared k || holds_shared v) ≡ false → holds_shared (tuple (more_shapes k (more_shapes v no_shapes))) ≡ false
pair_unshared k v none =
    let parts = or_parts (holds_shared k) (holds_shared v) none in
    or_from (holds_shared k) (holds_shared v || false) parts.0 (or_from (holds_shared v) false parts.1 refl)

-- the payload of a tag holds none where no payload does
pub payload_unshared : (ss : Shapes) (tag : ℕ) (s : Shape) → shape_tagged tag ss ≡ Some s → any_holds_shared ss ≡ false → holds_shared s ≡ false
payload_unshared no_shapes tag s e none = absurd (cc)
payload_unshared (more_shapes t ss) zero s e none =
    let same : t ≡ s = cc in
    ap holds_shared (sym same) ∙ (or_parts (holds_shared t) (any_holds_shared ss) none).0
payload_unshared (more_shapes t ss) (suc tag) s e none = payload_unshared ss tag s e (or_parts (holds_shared t) (any_holds_shared ss) none).1
