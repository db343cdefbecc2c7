use Rattle.cabinet_archived.proofs.check.check_text.Goals as goal

pub returns-clause-exact : goal.returns-clause-exact
returns-clause-exact g c = λ names. c.check.ensures.exact names tt
