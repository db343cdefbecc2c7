use Rattle.cabinet_archived.proofs.Both.{whole_same, whole_starts}
use Rattle.cabinet_archived.proofs.sharing.serializing.SerializerNodeShareNodeSharing.start_whole.Goals as goal
