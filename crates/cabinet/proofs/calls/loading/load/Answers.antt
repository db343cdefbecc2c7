use Rattle.std.proofs.Common.{refl}
use Rattle.cabinet_archives.specs.Refused.{refusal_of}
use Rattle.cabinet_documents.specs.Audit.{out_of_memory}
use Rattle.cabinet.specs.ByteCalls.Loads.{refused}
use Rattle.cabinet.proofs.CallsGiven.{written_alone, loads_text}
use Rattle.cabinet.proofs.calls.loading.load.Goals as goal

pub returns-in-Ok-Ok : goal.returns-in-Ok-Ok
returns-in-Ok-Ok c =
    let h = rw c.in-Ok-Ok.field-0-is at c.in-Ok-Ok.ensures in
    loads_text _ _ _ _ _ _ h.0 h.1 (written_alone _ _ _ _ c.as_slice.ensures.value (h.2.gains refl) c.new-text.ensures.items) c.put.ensures

pub returns-in-Ok-Err : goal.returns-in-Ok-Err
returns-in-Ok-Err c = refused out_of_memory tt (refl, refl) refl

pub returns : goal.returns
returns c = refused (refusal_of c.in-Err.refusal) c.in-Err.ensures.0 (refl, refl) c.of_opening.ensures
