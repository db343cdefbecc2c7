use Rattle.cabinet_examples.proofs.Doubtful.{empty_buffer}
use Rattle.cabinet_examples.proofs.empty_buffer.Goals as goal

pub returns : goal.returns
returns c = empty_buffer
