use Rattle.archive_shape_layout.specs.Shape.Pointee.{str}
use Rattle.archive_forms_rc.specs.Counted.{shared_str_rc_spelling}
use Rattle.archive_forms.proofs.Faithful.{weak_faithful}
use Rattle.archive_forms.proofs.deserializing.laws.texts_are_faithful.Goals as goal

pub returns-clause-texts : goal.returns-clause-texts
returns-clause-texts c = λ v x h. h

pub returns-clause-boxed : goal.returns-clause-boxed
returns-clause-boxed c = λ v x h. h

pub returns-clause-counted : goal.returns-clause-counted
returns-clause-counted c = λ v x h. h

pub returns-clause-weak : goal.returns-clause-weak
returns-clause-weak c = weak_faithful str shared_str_rc_spelling _ (λ v x h. h)
