use Rattle.std.proofs.Common.{inl, inr}
use Rattle.std.specs.Prelude.{⊤}
use Rattle.archive_hash_maps.specs.Equal.{KeyHashesTo}
use Rattle.archive_hash_maps.proofs.Lookups.{items_there}
use Rattle.archive_hash_maps.proofs.Paired.{entries_held}
use Rattle.archive_hash_maps.specs.Sets.{kept_key, set_knows, key_positions}
use Rattle.archive_hash_maps.proofs.Keyed.{unit_shape, all_keyed, one_unkeyed}
use Rattle.archive_hash_maps.proofs.set.set.ArchivedHashSet.equals.Goals as goal

pub returns-clause-equal : goal.returns-clause-equal
returns-clause-equal g c b x is other e =
    let k = g.K.Portable.shape in
    let knows = g.K.Portable.knows in
    let says = simp (c.as_map.ensures, c.as_map-2.ensures) at c.equals.ensures.equal in
    let s = says b x is other e in
    let units = entries_held k unit_shape knows (λ _. ⊤) c.args.this.bytes (key_positions k b) (items_there (kept_key k) (set_knows knows) c.args.this.bytes.now c.args.this.pos c.requires.this b is) in
    (s.0, all_keyed (KeyHashesTo g.H.Default.is_default g.H.Hasher.write g.H.Hasher.finish k knows g.K.ArchivedHash.hashed) k knows g.K.ArchivedEq.equal c.args.other.bytes.now c.args.other.pos x c.requires.other other c.args.this.bytes (key_positions k b) units s.1)

pub returns-clause-unequal : goal.returns-clause-unequal
returns-clause-unequal g c b x is other e =
    let k = g.K.Portable.shape in
    let knows = g.K.Portable.knows in
    let says = simp (c.as_map.ensures, c.as_map-2.ensures) at c.equals.ensures.unequal in
    let units = entries_held k unit_shape knows (λ _. ⊤) c.args.this.bytes (key_positions k b) (items_there (kept_key k) (set_knows knows) c.args.this.bytes.now c.args.this.pos c.requires.this b is) in
    elim (says b x is other e) [
      | inl many ↦ inl many
      | inr h ↦ inr (one_unkeyed (KeyHashesTo g.H.Default.is_default g.H.Hasher.write g.H.Hasher.finish k knows g.K.ArchivedHash.hashed) k knows g.K.ArchivedEq.equal c.args.other.bytes.now c.args.other.pos x c.requires.other other c.args.this.bytes (key_positions k b) units h.0 h.1 h.2)
    ]
