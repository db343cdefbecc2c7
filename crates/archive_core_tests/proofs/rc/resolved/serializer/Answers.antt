use Rattle.std.proofs.Common.{ℕ, ap, ◌∙◌, Vec, vec_len}
use Rattle.std.specs.Prelude.{nat_eq}
use Rattle.std.specs.Global.{Global}
use Rattle.std.specs.HashMap.{get}
use Rattle.archive_core_serializing.specs.Kept.{progress_kept}
use Rattle.archive_core_serializing.specs.declared.shares.share.Share.{Share}
use Rattle.archive_forms_laws.specs.State.{initial}
use Rattle.archive_core_tests.proofs.rc.resolved.serializer.Goals as goal

pub returns : goal.returns
returns c =
    let len_of : Vec ℕ Global → ℕ = λ v. vec_len v in
    record {
      state = initial;
      is_at = record {
        stands = ap len_of c.new-3.ensures.writer ∙ c.new.ensures.len;
        knows = λ key. ap (λ (sharing : Share). progress_kept (get nat_eq sharing.ends key)) c.new-3.ensures.sharing ∙ c.new-2.ensures key;
      };
    }
