use Rattle.std.proofs.Common.{◌≡◌, length, All}
use Rattle.archive_btree_maps.proofs.Matched.{AreEqual}
use Rattle.archive_btree_maps.proofs.set.comparing.eq_btree_set.Given as goal

abbrev pub invariant-loop-key : goal.invariant-loop-key
invariant-loop-key g l =
    record {
      are_keys : All (λ r. g.K.ArchivedKey.is_key r.bytes.now r.pos) l.key-iterator.a;
      as_many : length l.key-iterator.a ≡ length l.key-iterator.b;
      -- the keys that are left decide
      from :
          AreEqual g.K.ArchivedKey.key_of g.K.ArchivedKey.order l.initial.key-iterator.a l.initial.key-iterator.b
          → AreEqual g.K.ArchivedKey.key_of g.K.ArchivedKey.order l.key-iterator.a l.key-iterator.b;
      back :
          AreEqual g.K.ArchivedKey.key_of g.K.ArchivedKey.order l.key-iterator.a l.key-iterator.b
          → AreEqual g.K.ArchivedKey.key_of g.K.ArchivedKey.order l.initial.key-iterator.a l.initial.key-iterator.b;
    }
