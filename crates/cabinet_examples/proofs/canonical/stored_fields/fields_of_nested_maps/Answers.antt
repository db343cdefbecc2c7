use Rattle.cabinet_examples.proofs.Stored.{stored_nested_maps}
use Rattle.cabinet_examples.proofs.canonical.stored_fields.fields_of_nested_maps.Goals as goal

pub returns : goal.returns
returns c = stored_nested_maps
