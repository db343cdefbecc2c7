use Rattle.std.proofs.Common.{◌≡◌, List, map, length}
use Rattle.std.specs.Prelude.{⊤}
use Rattle.archive_shape_layout.specs.Shape.Shape.{tuple}
use Rattle.archive_shape_layout.specs.Shape.Shapes.{no_shapes}
use Rattle.archive_forms_laws.specs.Fields.{unit_spelling}
use Rattle.archive_forms.specs.Reading.{reads_as}
use Rattle.archive_btree.specs.Owned.{key_entries}
use Rattle.archive_btree_layout.specs.Reading.{Place}
use Rattle.archive_btree_maps.specs.Refs.{entry_at}
use Rattle.archive_btree.proofs.ReadBack.{IsReading}
use Rattle.archive_btree.proofs.read_set.deserialize_set_each.Given as goal

-- the entries that are left lie at places of the map
abbrev pub invariant-loop-key : goal.invariant-loop-key
invariant-loop-key g l = (left : List Place) × (l.entries ≡ map (entry_at l.fn.this.bytes) left)
    × IsReading g.row.E g.A.ReadBack.reads (reads_as unit_spelling) g.A.Portable.shape (tuple no_shapes) g.A.Portable.knows (λ _. ⊤) l.fn.this.bytes.now g.K.Ord.cmp l.fn.this.pos left (key_entries l.set.keys)
    × g.D.Deserializer.is_of l.deserializer l.fn.this.bytes.now

abbrev pub decreases-loop-key : goal.decreases-loop-key
decreases-loop-key g l = length l.entries
