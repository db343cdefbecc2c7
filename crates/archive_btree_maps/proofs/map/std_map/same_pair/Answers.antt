use Rattle.std.proofs.Common.{refl}
use Rattle.archive_btree_maps.proofs.Same.{found_same, found_other, same_key, other_key}
use Rattle.archive_btree_maps.proofs.map.std_map.same_pair.Goals as goal

pub same-requires : goal.same-requires
same-requires g c = g.met.K.ArchivedKey.held_is_key c.args.this.now.0.bytes.now c.args.this.now.0.pos c.requires.there.0.value c.requires.there.0.held

pub returns-then-same : goal.returns-then-same
returns-then-same g c =
    same_key g.K.ArchivedKey.key_of g.K.ArchivedKey.order (goal.F-post g c.args.equal.now) c.args.this.now (c.args.other.0.now, c.args.other.1.now) c.equal.result
    (found_same g.K.ArchivedKey.key_of g.K.ArchivedKey.order g.met.K.ArchivedKey.one_key c.args.this.now.0.bytes.now c.args.this.now.0.pos c.args.other.0.now c.same.result c.same.ensures c.if-same.true)
    (c.args.other.1, refl, c.equal.ensures)

pub returns-else-same : goal.returns-else-same
returns-else-same g c =
    other_key g.K.ArchivedKey.key_of g.K.ArchivedKey.order (goal.F-post g c.args.equal.now) c.args.this.now (c.args.other.0.now, c.args.other.1.now) c.same.result c.if-same.false
    (found_other g.K.ArchivedKey.key_of g.K.ArchivedKey.order g.met.K.ArchivedKey.one_key c.args.this.now.0.bytes.now c.args.this.now.0.pos c.args.other.0.now c.same.result c.same.ensures c.if-same.false)
