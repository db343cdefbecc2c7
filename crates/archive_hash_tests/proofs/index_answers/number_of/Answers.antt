use Rattle.std.proofs.Common.{◌∙◌}
use Rattle.std.specs.Ordering.{is_eq}
use Rattle.archive_hash_tests.proofs.Found.{number_told}
use Rattle.archive_hash_tests.proofs.index_answers.number_of.Goals as goal

pub returns : goal.returns
returns g c es answers =
    let looked = c.get_index_of.ensures.answers answers.map answers.stands in
    let found = answers.finds c.args.query.now looked.hash looked.strides looked.answers.position looked.is_hash looked.answers.looks_up in
    looked.answers.is ∙ number_told (λ e. is_eq (g.K.Archived.ArchivedKey.order (g.K.Archived.KeyOf.key e.0) c.args.query.now)) es _ _ found
