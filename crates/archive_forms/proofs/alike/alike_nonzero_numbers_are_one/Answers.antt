use Rattle.std.specs.Prelude.{unsigned_abs}
use Rattle.archive_shape_layout.proofs.Nonzero.{one_nonzero}
use Rattle.archive_forms.proofs.AlikeParts.{natural_one, integer_one}
use Rattle.archive_forms.proofs.alike.alike_nonzero_numbers_are_one.Goals as goal

pub returns-clause-unsigned_8 : goal.returns-clause-unsigned_8
returns-clause-unsigned_8 c = λ x y e. one_nonzero (λ n. n) (λ n p. record { value = n; ok = p }) x.value y.value x.ok y.ok (natural_one x.value y.value e)

pub returns-clause-unsigned_16 : goal.returns-clause-unsigned_16
returns-clause-unsigned_16 c = λ x y e. one_nonzero (λ n. n) (λ n p. record { value = n; ok = p }) x.value y.value x.ok y.ok (natural_one x.value y.value e)

pub returns-clause-unsigned_32 : goal.returns-clause-unsigned_32
returns-clause-unsigned_32 c = λ x y e. one_nonzero (λ n. n) (λ n p. record { value = n; ok = p }) x.value y.value x.ok y.ok (natural_one x.value y.value e)

pub returns-clause-unsigned_64 : goal.returns-clause-unsigned_64
returns-clause-unsigned_64 c = λ x y e. one_nonzero (λ n. n) (λ n p. record { value = n; ok = p }) x.value y.value x.ok y.ok (natural_one x.value y.value e)

pub returns-clause-unsigned_128 : goal.returns-clause-unsigned_128
returns-clause-unsigned_128 c = λ x y e. one_nonzero (λ n. n) (λ n p. record { value = n; ok = p }) x.value y.value x.ok y.ok (natural_one x.value y.value e)

pub returns-clause-signed_8 : goal.returns-clause-signed_8
returns-clause-signed_8 c = λ x y e. one_nonzero unsigned_abs (λ n p. record { value = n; ok = p }) x.value y.value x.ok y.ok (integer_one x.value y.value e)

pub returns-clause-signed_16 : goal.returns-clause-signed_16
returns-clause-signed_16 c = λ x y e. one_nonzero unsigned_abs (λ n p. record { value = n; ok = p }) x.value y.value x.ok y.ok (integer_one x.value y.value e)

pub returns-clause-signed_32 : goal.returns-clause-signed_32
returns-clause-signed_32 c = λ x y e. one_nonzero unsigned_abs (λ n p. record { value = n; ok = p }) x.value y.value x.ok y.ok (integer_one x.value y.value e)

pub returns-clause-signed_64 : goal.returns-clause-signed_64
returns-clause-signed_64 c = λ x y e. one_nonzero unsigned_abs (λ n p. record { value = n; ok = p }) x.value y.value x.ok y.ok (integer_one x.value y.value e)

pub returns-clause-signed_128 : goal.returns-clause-signed_128
returns-clause-signed_128 c = λ x y e. one_nonzero unsigned_abs (λ n p. record { value = n; ok = p }) x.value y.value x.ok y.ok (integer_one x.value y.value e)
