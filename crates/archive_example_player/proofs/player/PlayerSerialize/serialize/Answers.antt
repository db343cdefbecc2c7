use Rattle.std.proofs.Common.{◌≡◌, rules, Err, arith}
use Rattle.archive_shape_layout.specs.Writing.{WriterMembers}
use Rattle.archive_example_player.proofs.Serialized.{level_stops, level_leaves, level_is_quiet, name_stops, name_leaves, name_is_quiet, scores_stop, player_serialized}
use Rattle.archive_example_player.proofs.player.PlayerSerialize.serialize.Goals as goal

pub returns-in_err-serialize : goal.returns-in_err-serialize
returns-in_err-serialize g c =
    let m : WriterMembers g.row.S.Denot = record { known = g.S.Registry.known; pos = g.S.Positional.pos; OBSERVABLE = g.S.Writer.OBSERVABLE; COUNTS = g.S.Writer.COUNTS; contents = g.S.Writer.contents; failures = g.S.Writer.failures; last_error = g.S.Writer.last_error } in
    let passed : c.from_residual.result ≡ Err c.in_err-serialize.field-0.0 = search rules in
    rw passed (level_stops m c.args.self.now c.args.serializer.now c.serialize.new._serializer c.in_err-serialize.field-0.0 c.in_err-serialize.ensures)

pub serialize-requires-2-clause-room : goal.serialize-requires-2-clause-room
serialize-requires-2-clause-room g c =
    let m : WriterMembers g.row.S.Denot = record { known = g.S.Registry.known; pos = g.S.Positional.pos; OBSERVABLE = g.S.Writer.OBSERVABLE; COUNTS = g.S.Writer.COUNTS; contents = g.S.Writer.contents; failures = g.S.Writer.failures; last_error = g.S.Writer.last_error } in
    let quiet = level_is_quiet m c.args.self.now c.args.serializer.now c.serialize.new._serializer tt c.in_ok-serialize.ensures c.requires.state in
    let room = c.requires.room in
    omega arith

pub serialize-requires-2-clause-state : goal.serialize-requires-2-clause-state
serialize-requires-2-clause-state g c =
    let m : WriterMembers g.row.S.Denot = record { known = g.S.Registry.known; pos = g.S.Positional.pos; OBSERVABLE = g.S.Writer.OBSERVABLE; COUNTS = g.S.Writer.COUNTS; contents = g.S.Writer.contents; failures = g.S.Writer.failures; last_error = g.S.Writer.last_error } in
    level_leaves m c.args.self.now c.args.serializer.now c.serialize.new._serializer tt c.in_ok-serialize.ensures c.requires.state

pub returns-in_err-name : goal.returns-in_err-name
returns-in_err-name g c =
    let m : WriterMembers g.row.S.Denot = record { known = g.S.Registry.known; pos = g.S.Positional.pos; OBSERVABLE = g.S.Writer.OBSERVABLE; COUNTS = g.S.Writer.COUNTS; contents = g.S.Writer.contents; failures = g.S.Writer.failures; last_error = g.S.Writer.last_error } in
    let passed : c.from_residual-in_err-name.result ≡ Err c.in_err-name.field-0.0 = search rules in
    rw passed (name_stops m c.args.self.now c.args.serializer.now c.serialize.new._serializer tt c.in_ok-serialize.ensures c.serialize-2.new.serializer c.in_err-name.field-0.0 c.in_err-name.ensures)

pub serialize-requires-3-clause-room : goal.serialize-requires-3-clause-room
serialize-requires-3-clause-room g c =
    let m : WriterMembers g.row.S.Denot = record { known = g.S.Registry.known; pos = g.S.Positional.pos; OBSERVABLE = g.S.Writer.OBSERVABLE; COUNTS = g.S.Writer.COUNTS; contents = g.S.Writer.contents; failures = g.S.Writer.failures; last_error = g.S.Writer.last_error } in
    let quiet = name_is_quiet m c.args.self.now c.args.serializer.now c.serialize.new._serializer tt c.in_ok-serialize.ensures c.serialize-2.new.serializer c.in_ok-name.name c.in_ok-name.ensures c.requires.state in
    let room = c.requires.room in
    omega arith

pub serialize-requires-3-clause-state : goal.serialize-requires-3-clause-state
serialize-requires-3-clause-state g c =
    let m : WriterMembers g.row.S.Denot = record { known = g.S.Registry.known; pos = g.S.Positional.pos; OBSERVABLE = g.S.Writer.OBSERVABLE; COUNTS = g.S.Writer.COUNTS; contents = g.S.Writer.contents; failures = g.S.Writer.failures; last_error = g.S.Writer.last_error } in
    name_leaves m c.args.self.now c.args.serializer.now c.serialize.new._serializer tt c.in_ok-serialize.ensures c.serialize-2.new.serializer c.in_ok-name.name c.in_ok-name.ensures c.requires.state

pub returns-in_err-scores : goal.returns-in_err-scores
returns-in_err-scores g c =
    let m : WriterMembers g.row.S.Denot = record { known = g.S.Registry.known; pos = g.S.Positional.pos; OBSERVABLE = g.S.Writer.OBSERVABLE; COUNTS = g.S.Writer.COUNTS; contents = g.S.Writer.contents; failures = g.S.Writer.failures; last_error = g.S.Writer.last_error } in
    let passed : c.from_residual-in_err-scores.result ≡ Err c.in_err-scores.field-0.0 = search rules in
    rw passed (scores_stop m c.args.self.now c.args.serializer.now c.serialize.new._serializer tt c.in_ok-serialize.ensures c.serialize-2.new.serializer c.in_ok-name.name c.in_ok-name.ensures c.serialize-3.new.serializer c.in_err-scores.field-0.0 c.in_err-scores.ensures)

pub returns : goal.returns
returns g c =
    let m : WriterMembers g.row.S.Denot = record { known = g.S.Registry.known; pos = g.S.Positional.pos; OBSERVABLE = g.S.Writer.OBSERVABLE; COUNTS = g.S.Writer.COUNTS; contents = g.S.Writer.contents; failures = g.S.Writer.failures; last_error = g.S.Writer.last_error } in
    player_serialized m c.args.self.now c.args.serializer.now c.serialize.new._serializer tt c.in_ok-serialize.ensures c.serialize-2.new.serializer c.in_ok-name.name c.in_ok-name.ensures c.serialize-3.new.serializer c.in_ok-scores.scores c.in_ok-scores.ensures
