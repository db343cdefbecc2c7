use Rattle.std.proofs.Common.{◌∙◌}
use Rattle.std.specs.Option.{is_some}
use Rattle.archive_forms_laws.specs.Fields.{unit_spelling}
use Rattle.archive_forms_laws.specs.Sample.{number_shape, number_spelling}
use Rattle.archive_btree.specs.Answering.{HasEntry}
use Rattle.archive_btree_maps.specs.Sets.{unit_shape}
use Rattle.archive_btree_tests.specs.Answers.{any}
use Rattle.archive_btree_tests.proofs.Told.{same_found}
use Rattle.archive_btree_tests.proofs.answers.has_number.Goals as goal

pub returns : goal.returns
returns c es answers =
    let looked = c.contains_key.ensures.looks_up answers.search_tree answers.map in
    looked.2 ∙ same_found (HasEntry 5 number_shape unit_shape any any number_spelling unit_spelling c.args.set.bytes.now) _ looked.0 (answers.found c.args.key looked.0 looked.1)
