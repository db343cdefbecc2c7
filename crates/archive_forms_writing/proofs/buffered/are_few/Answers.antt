use Rattle.std.proofs.Common.{rules, arith, ◌∙◌, ◌≤◌, ◌*◌, ◌^◌, ◌-◌, min}
use Rattle.archive_shape_layout.specs.Shape.{size_of}
use Rattle.archive_forms_writing.proofs.Batches.{few_sized}
use Rattle.archive_forms_writing.proofs.buffered.are_few.Goals as goal

pub returns : goal.returns
returns g c =
    let cut : min (c.args.count * c.SIZE-size.result) (2 ^ 64 - 1) ≤ 64 = search rules in
    let few = (few_sized c.args.count (size_of g.T.Portable.shape) c.SIZE-size.result 64 (omega arith) (c.SIZE-size.ensures ∙ g.met.T.Portable.sized) cut).0 in
    (few, omega (arith, few, c.if-pos-gt-LAST_BUFFER_POSITION.false))
