use Rattle.std.proofs.Common.{◌∙◌, ap, arith}
use Rattle.cabinet_archives.specs.MapPaths.{path_of}
use Rattle.archive_shape_layout.specs.Writing.{WriterMembers}
use Rattle.cabinet_archives.specs.Mapped.{listed_table}
use Rattle.cabinet_archives.proofs.TableRoom.{HasRoom, read_room, room_listed}
use Rattle.cabinet_archives.proofs.Tallied.{none_written}
use Rattle.cabinet_archives.proofs.mapping.texts.write_table.Given.{Over}
use Rattle.cabinet_archives.proofs.mapping.texts.write_table.Goals as goal
use Rattle.cabinet_archives.proofs.mapping.texts.write_table.Goals.{In-Some}

-- the places and the controls lie in the bytes
room : (g : Over) (c : In-Some g) → HasRoom g.T.Portable.shape c.args.bytes.now c.in-Some.buckets c.SIZE-size.result
room g c =
    let size = c.SIZE-size.ensures ∙ g.met.T.Portable.sized in
    read_room c.requires.there c.in-Some.ensures (omega (arith, c.well_formed)) size

pub overflow_mul-items : goal.overflow_mul-items
overflow_mul-items g c = let there = room g c in omega (arith, there.room, there.within, c.well_formed)

pub overflow_sub-buckets : goal.overflow_sub-buckets
overflow_sub-buckets g c = (room g c).room

pub overflow_add-items : goal.overflow_add-items
overflow_add-items g c = let there = room g c in omega (arith, there.room, there.within, c.well_formed)

pub write_region-requires-clause-fits : goal.write_region-requires-clause-fits
write_region-requires-clause-fits g c =
    let there = room g (goal.at.write_region-requires-clause-fits g c).In-Some in
    omega (arith, there.room, there.within, c.well_formed)

pub returns-clause-mapped : goal.returns-clause-mapped
returns-clause-mapped g c = λ b is.
    let there = room g (goal.at.returns-clause-mapped g c).In-Some in
    rw (room_listed there (c.in-Some.ensures b is).0 (path_of c.args.path.now)) (c.write_region.ensures.written, c.write_region.ensures.tally)

pub returns-in_default-clause-mapped : goal.returns-in_default-clause-mapped
returns-in_default-clause-mapped g c = λ b is.
    let w : WriterMembers g.row.W.Denot = record {
      known = g.W.Registry.known;
      pos = g.W.Positional.pos;
      OBSERVABLE = g.W.Writer.OBSERVABLE;
      COUNTS = g.W.Writer.COUNTS;
      contents = g.W.Writer.contents;
      failures = g.W.Writer.failures;
      last_error = g.W.Writer.last_error;
    } in
    none_written w (tt {0}) c.args.tally.now c.args.writer.now
    (ap (λ x. listed_table g.T.Portable.shape x (path_of c.args.path.now)) (c.in_default.ensures b is))
