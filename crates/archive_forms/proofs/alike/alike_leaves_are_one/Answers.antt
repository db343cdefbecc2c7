use Rattle.std.proofs.Common.{refl}
use Rattle.archive_forms.proofs.AlikeParts.{natural_one, integer_one, boolean_one}
use Rattle.archive_forms.proofs.alike.alike_leaves_are_one.Goals as goal

pub returns-clause-truths : goal.returns-clause-truths
returns-clause-truths g c = boolean_one

pub returns-clause-chars : goal.returns-clause-chars
returns-clause-chars g c = natural_one

pub returns-clause-unsigned_8 : goal.returns-clause-unsigned_8
returns-clause-unsigned_8 g c = natural_one

pub returns-clause-unsigned_16 : goal.returns-clause-unsigned_16
returns-clause-unsigned_16 g c = natural_one

pub returns-clause-unsigned_32 : goal.returns-clause-unsigned_32
returns-clause-unsigned_32 g c = natural_one

pub returns-clause-unsigned_64 : goal.returns-clause-unsigned_64
returns-clause-unsigned_64 g c = natural_one

pub returns-clause-unsigned_128 : goal.returns-clause-unsigned_128
returns-clause-unsigned_128 g c = natural_one

pub returns-clause-unsigned_sizes : goal.returns-clause-unsigned_sizes
returns-clause-unsigned_sizes g c = natural_one

pub returns-clause-signed_8 : goal.returns-clause-signed_8
returns-clause-signed_8 g c = integer_one

pub returns-clause-signed_16 : goal.returns-clause-signed_16
returns-clause-signed_16 g c = integer_one

pub returns-clause-signed_32 : goal.returns-clause-signed_32
returns-clause-signed_32 g c = integer_one

pub returns-clause-signed_64 : goal.returns-clause-signed_64
returns-clause-signed_64 g c = integer_one

pub returns-clause-signed_128 : goal.returns-clause-signed_128
returns-clause-signed_128 g c = integer_one

pub returns-clause-signed_sizes : goal.returns-clause-signed_sizes
returns-clause-signed_sizes g c = integer_one

pub returns-clause-units : goal.returns-clause-units
returns-clause-units g c = λ x y e. refl

pub returns-clause-phantoms : goal.returns-clause-phantoms
returns-clause-phantoms g c = λ x y e. refl
