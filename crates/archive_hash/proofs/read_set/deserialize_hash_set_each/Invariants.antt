use Rattle.std.proofs.Common.{◌≡◌, ℕ, List, map, length}
use Rattle.std.specs.Prelude.{⊤}
use Rattle.archive_shape_layout.specs.Shape.Shape.{tuple}
use Rattle.archive_shape_layout.specs.Shape.Shapes.{no_shapes}
use Rattle.archive_forms_laws.specs.Fields.{unit_spelling}
use Rattle.archive_forms.specs.Reading.{reads_as}
use Rattle.archive_hash_maps.specs.Maps.{entry_at}
use Rattle.archive_hash.specs.Owned.{key_entries}
use Rattle.archive_hash.proofs.Items.{IsReading}
use Rattle.archive_hash.proofs.read_set.deserialize_hash_set_each.Given as goal

-- the entries that are left are at positions of the table
abbrev pub invariant-loop-key : goal.invariant-loop-key
invariant-loop-key g l = (left : List ℕ) × (l.entries ≡ map (entry_at l.fn.this.bytes g.A.Portable.shape (tuple no_shapes)) left)
    × IsReading g.A.ReadBack.reads (reads_as unit_spelling) g.A.Portable.shape (tuple no_shapes) g.A.Portable.knows (λ _. ⊤) l.fn.this.bytes.now g.K.PartialEq.eq l.fn.this.pos left (key_entries l.set.keys)
    × g.D.Deserializer.is_of l.deserializer l.fn.this.bytes.now

abbrev pub decreases-loop-key : goal.decreases-loop-key
decreases-loop-key g l = length l.entries
