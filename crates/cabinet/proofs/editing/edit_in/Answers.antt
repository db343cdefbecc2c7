use Rattle.cabinet_text.specs.Session.{edit_lines}
use Rattle.cabinet_text.proofs.Sessions.{works_leaving, run_leaving}
use Rattle.cabinet.proofs.Saves.{saves}
use Rattle.cabinet.proofs.editing.edit_in.Goals as goal

pub returns-clause-works : goal.returns-clause-works
returns-clause-works g c = λ r w.
    let e = c.edit_document-outcome.ensures in (
      c.in-Ok.document,
      c.in-Ok.ensures.document,
      works_leaving edit_lines _ _ (saves _ _ c.to_bytes.ensures.image c.to_bytes.ensures.within c.to_bytes.ensures.refused) c.in-Ok.document _ _ _ _ _ c.edit_document-outcome.result (e.works r w),
    )

pub returns-clause-edits : goal.returns-clause-edits
returns-clause-edits g c =
    let e = c.edit_document-outcome.ensures in (
      c.in-Ok.document,
      c.in-Ok.ensures.document,
      run_leaving edit_lines _ _ (saves _ _ c.to_bytes.ensures.image c.to_bytes.ensures.within c.to_bytes.ensures.refused) c.in-Ok.document c.edit_document-outcome.result e.edits,
    )
