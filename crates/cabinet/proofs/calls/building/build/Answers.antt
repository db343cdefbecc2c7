use Rattle.std.proofs.Common.{refl}
use Rattle.cabinet.specs.ByteCalls.Builds.{no_text, past_limits, out_of_memory}
use Rattle.cabinet.proofs.CallsGiven.{builds_image}
use Rattle.cabinet.proofs.calls.building.build.Goals as goal

pub returns-in-Err : goal.returns-in-Err
returns-in-Err c = no_text c.in-Err.refusal.cause c.in-Err.ensures.fault (refl, refl) c.of_cause.ensures

pub returns-in-Ok-to_bytes : goal.returns-in-Ok-to_bytes
returns-in-Ok-to_bytes c = builds_image _ _ _ _ _ _ _ _ c.in-Ok.document c.in-Ok.ensures.document c.in-Ok-to_bytes.ensures.image c.as_slice.ensures.value c.put.ensures refl

pub returns-in-Err-Limit : goal.returns-in-Err-Limit
returns-in-Err-Limit c =
    let h = rw c.in-Err-Limit.field-0-is at c.in-Err-Limit.ensures.refused in
    past_limits c.in-Ok.document c.in-Ok.ensures.document (c.in-Err-Limit.field-0-0, h) (refl, refl) refl refl

pub returns : goal.returns
returns c = out_of_memory c.in-Ok.document c.in-Ok.ensures.document (refl, refl) refl refl
