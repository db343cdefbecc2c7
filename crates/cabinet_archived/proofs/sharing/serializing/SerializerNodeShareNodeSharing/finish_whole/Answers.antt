use Rattle.cabinet_archived.proofs.Both.{whole_finishes}
use Rattle.cabinet_archived.proofs.sharing.serializing.SerializerNodeShareNodeSharing.finish_whole.Goals as goal
