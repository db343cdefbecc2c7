use Rattle.archive_forms.proofs.Plain.{unit_read}
use Rattle.archive_forms.proofs.deserializing.unit.PhantomDataDeserialize.deserialize.Goals as goal

pub returns-clause-value : goal.returns-clause-value
returns-clause-value g c = unit_read _ c.args._this.now.bytes.now c.args._this.now.pos
