use Rattle.std.proofs.Common.{◌≡◌, List, [], ◌∷◌, ℕ, take, MatchOption, sym, subst}
use Rattle.archive_shape_layout.specs.Shape.Shapes.{no_shapes}
use Rattle.archive_forms_values.specs.Fields.{field_position}
use Rattle.archive_hash_maps.specs.Walks.{GoesOn, HasValuesWritten, IsKept}
use Rattle.archive_hash_maps.proofs.walking.cursors.IterMut.advance.Goals as goal

pub pass_entry-passed-requires : goal.pass_entry-passed-requires
pass_entry-passed-requires g c =
    let r = c.requires in
    (r.0, r.1, r.2, subst (λ b. HasValuesWritten r.0 b.now) (sym c.take-bytes.ensures.value) r.3)

pub returns-clause-steps : goal.returns-clause-steps
returns-clause-steps g c m ps goes written =
    let k = g.K.Portable.shape in
    let walk = c.pass_entry-passed.new.walk in
    subst (λ b. MatchOption c.pass_entry-passed.result ((ps ≡ []) × GoesOn m walk [])
    (λ e. (rest : List ℕ) × (ps ≡ e.key ∷ rest) × (e.value ≡ field_position k no_shapes g.V.Portable.shape e.key) × IsKept k g.K.Portable.knows m.bytes (take e.value b.now) e.key × GoesOn m walk rest))
    c.take-bytes.ensures.value (c.pass_entry-passed.ensures.steps m ps goes (subst (λ b. HasValuesWritten m b.now) (sym c.take-bytes.ensures.value) written))
