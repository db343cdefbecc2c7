use Rattle.cabinet_documents.proofs.Apart.{own_bytes_apart_law}
use Rattle.cabinet_documents.proofs.laws.own_bytes_apart.Goals as goal

pub returns : goal.returns
returns c = own_bytes_apart_law
