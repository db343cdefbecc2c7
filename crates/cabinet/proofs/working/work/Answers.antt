use Rattle.std.proofs.Common.{◌≡◌, ◌≤◌, length, subst, sym, arith, rules}
use Rattle.cabinet_documents.specs.Image.{Image}
use Rattle.cabinet.proofs.WorkedAnswers.{works, whole_back}
use Rattle.cabinet.proofs.working.work.Goals as goal

-- the image of the document is an archive
pub run_in-outcome-requires-clause-accepted : goal.run_in-outcome-requires-clause-accepted
run_in-outcome-requires-clause-accepted g c =
    let i : Image c.args.document.now c.as_mut_slice.result.now = subst (Image c.args.document.now) (sym c.as_mut_slice.ensures.value) c.in-Ok.ensures.image in
    ∣ (c.args.document.now, i.accepted) ∣₁

pub returns-clause-works : goal.returns-clause-works
returns-clause-works g c = λ r w.
    let i : Image c.args.document.now c.as_mut_slice.result.now = subst (Image c.args.document.now) (sym c.as_mut_slice.ensures.value) c.in-Ok.ensures.image in
    let e : length c.run_in-outcome.new.bytes ≡ length c.in-Ok.bytes.items = search rules in
    let k : length c.run_in-outcome.new.bytes ≤ c.in-Ok.bytes.len = grind arith in
    rw (whole_back _ _ _ e k)
    (works g.W.Writer.COUNTS c.args.document.now _ _ c.as_mut_slice.result.now _ _ _ i c.run_in-outcome.result (c.run_in-outcome.ensures.all r w) (c.run_in-outcome.ensures.fault r w))

pub returns-clause-edits : goal.returns-clause-edits
returns-clause-edits g c =
    let i : Image c.args.document.now c.as_mut_slice.result.now = subst (Image c.args.document.now) (sym c.as_mut_slice.ensures.value) c.in-Ok.ensures.image in
    let e : length c.run_in-outcome.new.bytes ≡ length c.in-Ok.bytes.items = search rules in
    let k : length c.run_in-outcome.new.bytes ≤ c.in-Ok.bytes.len = grind arith in
    rw (whole_back _ _ _ e k) (c.as_mut_slice.result.now, i, c.run_in-outcome.ensures.edits)
