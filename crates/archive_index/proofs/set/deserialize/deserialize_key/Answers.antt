use Rattle.std.specs.Prelude.{⊤}
use Rattle.archive_index.specs.Sets.{unit_shape}
use Rattle.archive_index.proofs.ReadBack.{key_there, key_deserialized}
use Rattle.archive_index.proofs.set.deserialize.deserialize_key.Goals as goal

pub read_key-requires : goal.read_key-requires
read_key-requires g c =
    let key = key_there g.A.Portable.shape unit_shape g.A.Portable.knows (λ _. ⊤) c.args.bytes.now c.args.pos c.requires.there in
    c.requires.takes_key _ _ key.ends key.has c.requires.kept

pub returns-clause-value : goal.returns-clause-value
returns-clause-value g c =
    let key = key_there g.A.Portable.shape unit_shape g.A.Portable.knows (λ _. ⊤) c.args.bytes.now c.args.pos c.requires.there in
    key_deserialized g.A.ReadBack.reads g.A.Portable.shape g.A.Portable.knows c.args.bytes.now c.args.pos (λ q. q.0) c.read_key.result (c.requires.reads_key _ _ _ _ key.has c.requires.kept c.read_key.ensures).0

pub returns-clause-keeps : goal.returns-clause-keeps
returns-clause-keeps g c =
    let key = key_there g.A.Portable.shape unit_shape g.A.Portable.knows (λ _. ⊤) c.args.bytes.now c.args.pos c.requires.there in
    (c.requires.reads_key _ _ _ _ key.has c.requires.kept c.read_key.ensures).1
