use Rattle.std.proofs.Common.{◌∙◌, ap, sym}
use Rattle.archive_shape_layout.specs.Writing.{WriterMembers}
use Rattle.cabinet_archives.specs.Mapping.{Name, listed_region}
use Rattle.cabinet_archives.specs.MapPaths.{path_of}
use Rattle.cabinet_archives.specs.declared.mapping.region.RegionKind.TheVariants as kind
use Rattle.cabinet_archives.proofs.Tallied.{none_written}
use Rattle.cabinet_archives.proofs.TextListings.{shared_length, shared_region, shared_none}
use Rattle.cabinet_archives.proofs.mapping.texts.write_shared.Goals as goal

pub returns-then-start-tally-clause-mapped : goal.returns-then-start-tally-clause-mapped
returns-then-start-tally-clause-mapped g c = λ k listed m.
    let w : WriterMembers g.row.W.Denot = record {
      known = g.W.Registry.known;
      pos = g.W.Positional.pos;
      OBSERVABLE = g.W.Writer.OBSERVABLE;
      COUNTS = g.W.Writer.COUNTS;
      contents = g.W.Writer.contents;
      failures = g.W.Writer.failures;
      last_error = g.W.Writer.last_error;
    } in
    none_written w (tt {0}) c.args.tally.now c.args.writer.now
    (shared_none c.args.pointer.bytes.now c.target_of-start.ensures m c.if-start-tally.true)

pub returns-clause-mapped : goal.returns-clause-mapped
returns-clause-mapped g c = λ k listed m.
    let bytes = c.args.pointer.bytes.now in
    let got = c.get-len.ensures in
    let n : Name = record { kind = kind.Shared; path = path_of c.args.path.now } in
    let size = shared_length bytes c.requires.there got.2 got.3 c.target_of-start.ensures in
    let is = shared_region bytes c.target_of-start.ensures m c.if-start-tally.false
    ∙ ap (λ len. listed_region c.target_of-start.result len n) (sym size) in
    rw is (c.write_region.ensures.written, c.write_region.ensures.tally)
