use Rattle.archive_forms.proofs.deserializing.laws.leaves_are_faithful.Goals as goal

pub returns-clause-numbers : goal.returns-clause-numbers
returns-clause-numbers g c = λ v x h. h

pub returns-clause-truths : goal.returns-clause-truths
returns-clause-truths g c = λ v x h. h

pub returns-clause-unsigned : goal.returns-clause-unsigned
returns-clause-unsigned g c = λ v x h. h

pub returns-clause-signed : goal.returns-clause-signed
returns-clause-signed g c = λ v x h. h

pub returns-clause-unsigned_nonzero : goal.returns-clause-unsigned_nonzero
returns-clause-unsigned_nonzero g c = λ v x h. h

pub returns-clause-signed_nonzero : goal.returns-clause-signed_nonzero
returns-clause-signed_nonzero g c = λ v x h. h

pub returns-clause-unsigned_sizes : goal.returns-clause-unsigned_sizes
returns-clause-unsigned_sizes g c = λ v x h. h

pub returns-clause-signed_sizes : goal.returns-clause-signed_sizes
returns-clause-signed_sizes g c = λ v x h. h

pub returns-clause-units : goal.returns-clause-units
returns-clause-units g c = λ v x h. h

pub returns-clause-phantoms : goal.returns-clause-phantoms
returns-clause-phantoms g c = λ v x h. h
