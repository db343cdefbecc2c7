use Rattle.std.proofs.Common.{ℕ, ap, refl, ◌∙◌, Vec, vec_len}
use Rattle.std.specs.Global.{Global}
use Rattle.archive_forms_laws.specs.State.{initial}
use Rattle.archive_core_tests.proofs.serializing.serializers.archive_of.Goals as goal

pub serialize_using-requires-clause-state : goal.serialize_using-requires-clause-state
serialize_using-requires-clause-state g c =
    let len_of : Vec ℕ Global → ℕ = λ v. vec_len v in
    record { state = initial; is_at = record { stands = ap len_of c.new-serializer.ensures.writer ∙ c.new.ensures.len; knows = λ key. refl } }
