use Rattle.std.proofs.Common.{◌≡◌, ap, sym, ◌∙◌}
use Rattle.std.specs.Ordering.{nat_cmp}
use Rattle.std.specs.Int.{w32, from_le_bytes}
use Rattle.archive_shape_layout.specs.Bytes.{window}
use Rattle.archive_shape_layout.proofs.NumberReading.{read_number}
use Rattle.archive_shape_tests.proofs.shape.keys.compare_number.Goals as goal

pub returns : goal.returns
returns c =
    let there = window c.args.bytes.now c.args.pos 4 in
    let read = read_number w32 _ _ c.compare.ensures.1 in
    let same : window c.new.result.bytes.now c.new.result.pos 4 ≡ there = rw (c.new.ensures.bytes, c.new.ensures.pos) in
    c.compare.ensures.2 ∙ ap (λ n. nat_cmp n c.args.query) (sym read ∙ ap (λ bs. from_le_bytes w32 bs) same)
