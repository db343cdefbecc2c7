use Rattle.std.proofs.Common.{arith, ◌≡◌, ℕ, take, List, subst}
use Rattle.std.proofs.lemmas.List.{take-replicate}
use Rattle.archive_shape_layout.specs.Writing.{Appends}
use Rattle.archive_shape.specs.Bytes.{zeros}
use Rattle.archive_forms_writing.proofs.placing.pad.Goals as goal

pub returns : goal.returns
returns g c = let s = c.requires.short in
    let e : take c.args.padding (zeros 32) ≡ zeros c.args.padding = take-replicate c.args.padding 32 0 (omega arith) in
    let P : List ℕ → Type 0 = λ l. Appends g.W.Writer.OBSERVABLE g.W.Writer.COUNTS g.W.Writer.contents g.W.Positional.pos g.W.Writer.failures g.W.Writer.last_error g.W.Registry.known c.args.writer.now c.write.new.self l c.write.result in
    subst P e c.write.ensures
