use Rattle.std.proofs.Common.{◌≡◌, ◌+◌, ◌-◌, drop, slice_index, subst, take, arith}
use Rattle.std.specs.Prelude.{⊤}
use Rattle.archive_shape_layout.specs.Bytes.{window}
use Rattle.archive_shape_layout.specs.Content.{IsInline}
use Rattle.archive_shape_layout.specs.Writing.{WriterMembers}
use Rattle.archive_forms_values.proofs.Placed.{text_there}
use Rattle.cabinet_archives.proofs.NodeListings.{text_inline}
use Rattle.cabinet_archives.proofs.Payloads.{text_has}
use Rattle.cabinet_archives.proofs.Tallied.{none_written}
use Rattle.cabinet_archives.proofs.TextListings.{text_region}
use Rattle.cabinet_archives.proofs.mapping.texts.write_text.Goals as goal

pub start_of-start-requires : goal.start_of-start-requires
start_of-start-requires g c = text_has (λ _. ⊤) c.args.string.bytes.now c.args.string.pos c.requires.there

pub len-len-requires : goal.len-len-requires
len-len-requires g c = text_has (λ _. ⊤) c.args.string.bytes.now c.args.string.pos c.requires.there

pub returns-then-is_inline-clause-mapped : goal.returns-then-is_inline-clause-mapped
returns-then-is_inline-clause-mapped g c = λ listed m.
    let w : WriterMembers g.row.W.Denot = record {
      known = g.W.Registry.known;
      pos = g.W.Positional.pos;
      OBSERVABLE = g.W.Writer.OBSERVABLE;
      COUNTS = g.W.Writer.COUNTS;
      contents = g.W.Writer.contents;
      failures = g.W.Writer.failures;
      last_error = g.W.Writer.last_error;
    } in
    let pos = c.args.string.pos in
    let bytes = c.args.string.bytes.now in
    let eight : pos + 8 - pos ≡ 8 = omega arith in
    let near = subst (λ n. IsInline (slice_index (take n (drop pos bytes)) 0)) eight (c.is_inline.ensures.0 c.if-is_inline.true) in
    none_written w (tt {0}) c.args.tally.now c.args.writer.now (text_inline bytes near m)

pub write_region-requires-clause-fits : goal.write_region-requires-clause-fits
write_region-requires-clause-fits g c =
    let pos = c.args.string.pos in
    let bytes = c.args.string.bytes.now in
    let there = text_there bytes pos c.start_of-start.result c.len-len.result c.len-len.ensures c.start_of-start.ensures in
    omega (arith, there.room, c.ranges.string.0)

pub returns-clause-mapped : goal.returns-clause-mapped
returns-clause-mapped g c = λ listed m.
    let pos = c.args.string.pos in
    let bytes = c.args.string.bytes.now in
    let there = text_there bytes pos c.start_of-start.result c.len-len.result c.len-len.ensures c.start_of-start.ensures in
    let eight : 8 ≡ pos + 8 - pos = omega arith in
    let away : IsInline (slice_index (window bytes pos 8) 0) → ⊥ = λ i.
    let is_true = c.is_inline.ensures.1 (subst (λ n. IsInline (slice_index (take n (drop pos bytes)) 0)) eight i) in
    let is_false = c.if-is_inline.false in
    absurd (cc) in
    rw (text_region bytes away there m) (c.write_region.ensures.written, c.write_region.ensures.tally)
