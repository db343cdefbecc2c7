use Rattle.std.proofs.Common.{◌∙◌, ap}
use Rattle.std.specs.List.{fold}
use Rattle.archive_forms_laws.specs.Orders.{Hashed}
use Rattle.archive_core_tests.proofs.rc.by_value.hash_text.Goals as goal

pub returns : goal.returns
returns g c = λ v here. c.hash.ensures v here ∙ ap (λ (F : Hashed). fold g.H.Hasher.write c.args.state.now (F v)) c.counted_are_hashed_by_value.ensures.texts
