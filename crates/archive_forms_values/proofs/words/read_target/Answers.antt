use Rattle.std.proofs.Common.{arith, ap}
use Rattle.archive_forms_values.proofs.Led.{led}
use Rattle.archive_forms_values.proofs.words.read_target.Goals as goal

pub returns : goal.returns
returns c =
    led c.args.bytes.now c.args.pos c.type_inv.bytes (omega (arith, c.requires)) c.new.result.bytes.now c.new.result.pos
    (ap (λ bytes. bytes.now) c.new.ensures.bytes) c.new.ensures.pos c.target.result c.target.ensures
