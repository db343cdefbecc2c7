use Rattle.cabinet.proofs.SessionLaws.{unedited_bytes_stay}
use Rattle.cabinet.proofs.laws.unedited_bytes_stay.Goals as goal

pub returns : goal.returns
returns c = unedited_bytes_stay
