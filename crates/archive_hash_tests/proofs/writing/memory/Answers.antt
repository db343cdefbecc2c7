use Rattle.std.proofs.Common.{ℕ, ap, refl, ◌∙◌, Vec, vec_len}
use Rattle.std.specs.Global.{Global}
use Rattle.archive_forms_laws.specs.State.{initial}
use Rattle.archive_hash_tests.proofs.writing.memory.Goals as goal

pub returns-clause-state : goal.returns-clause-state
returns-clause-state c =
    let len_of : Vec ℕ Global → ℕ = λ v. vec_len v in
    record { state = initial; is_at = record { stands = ap len_of c.new-2.ensures.writer ∙ c.new.ensures.len; knows = λ key. refl } }
