use Rattle.std.proofs.Common.{rules}
use Rattle.archive_index.proofs.ReadBack.{key_there, value_there, pair_read}
use Rattle.archive_index.proofs.map.deserialize.deserialize_pair.Goals as goal

pub read_key-requires : goal.read_key-requires
read_key-requires g c =
    let key = key_there g.A.Portable.shape g.B.Portable.shape g.A.Portable.knows g.B.Portable.knows c.args.bytes.now c.args.pos c.requires.there in
    c.requires.takes_key _ _ key.ends key.has c.requires.kept

pub returns-in_err-key-clause-value : goal.returns-in_err-key-clause-value
returns-in_err-key-clause-value g c =
    let key = key_there g.A.Portable.shape g.B.Portable.shape g.A.Portable.knows g.B.Portable.knows c.args.bytes.now c.args.pos c.requires.there in
    let is = (c.requires.reads_key _ _ _ _ key.has c.requires.kept c.in_err-key.ensures).0 in
    search rules

pub read_value-requires : goal.read_value-requires
read_value-requires g c =
    let key = key_there g.A.Portable.shape g.B.Portable.shape g.A.Portable.knows g.B.Portable.knows c.args.bytes.now c.args.pos c.requires.there in
    let value = value_there g.A.Portable.shape g.B.Portable.shape g.A.Portable.knows g.B.Portable.knows c.args.bytes.now c.args.pos _ c.value_position.ensures c.requires.there in
    c.requires.takes_value _ _ value.ends value.has (c.requires.reads_key _ _ _ _ key.has c.requires.kept c.in_ok-key.ensures).1

pub returns-in_err-value-clause-value : goal.returns-in_err-value-clause-value
returns-in_err-value-clause-value g c =
    let key = key_there g.A.Portable.shape g.B.Portable.shape g.A.Portable.knows g.B.Portable.knows c.args.bytes.now c.args.pos c.requires.there in
    let value = value_there g.A.Portable.shape g.B.Portable.shape g.A.Portable.knows g.B.Portable.knows c.args.bytes.now c.args.pos _ c.value_position.ensures c.requires.there in
    let first = c.requires.reads_key _ _ _ _ key.has c.requires.kept c.in_ok-key.ensures in
    let is = (c.requires.reads_value _ _ _ _ value.has first.1 c.in_err-value.ensures).0 in
    search rules

pub returns-clause-value : goal.returns-clause-value
returns-clause-value g c =
    let key = key_there g.A.Portable.shape g.B.Portable.shape g.A.Portable.knows g.B.Portable.knows c.args.bytes.now c.args.pos c.requires.there in
    let value = value_there g.A.Portable.shape g.B.Portable.shape g.A.Portable.knows g.B.Portable.knows c.args.bytes.now c.args.pos _ c.value_position.ensures c.requires.there in
    let first = c.requires.reads_key _ _ _ _ key.has c.requires.kept c.in_ok-key.ensures in
    let second = c.requires.reads_value _ _ _ _ value.has first.1 c.in_ok-value.ensures in
    pair_read g.A.Portable.shape g.B.Portable.shape g.A.Portable.knows g.B.Portable.knows c.args.bytes.now c.args.pos g.A.ReadBack.reads g.B.ReadBack.reads _ _ c.value_position.ensures first.0 second.0

pub returns-clause-keeps : goal.returns-clause-keeps
returns-clause-keeps g c =
    let key = key_there g.A.Portable.shape g.B.Portable.shape g.A.Portable.knows g.B.Portable.knows c.args.bytes.now c.args.pos c.requires.there in
    let value = value_there g.A.Portable.shape g.B.Portable.shape g.A.Portable.knows g.B.Portable.knows c.args.bytes.now c.args.pos _ c.value_position.ensures c.requires.there in
    let first = c.requires.reads_key _ _ _ _ key.has c.requires.kept c.in_ok-key.ensures in
    (c.requires.reads_value _ _ _ _ value.has first.1 c.in_ok-value.ensures).1
