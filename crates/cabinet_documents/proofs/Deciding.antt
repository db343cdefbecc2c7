-- The audit decides whether bytes at whose root a node holds are the archive of a document.
use Rattle.std.proofs.Common.{length, refl}
use Rattle.archive_shape_layout.specs.Holds.{root_position}
use Rattle.cabinet_documents.specs.Node.{node_shape, node_names}
use Rattle.cabinet_documents.specs.Laws.{AuditDecides}
use Rattle.cabinet_documents.proofs.Walkable.{walk_stands_law}
use Rattle.cabinet_documents.proofs.Places.{node_behind}
use Rattle.cabinet_documents.proofs.HeldNodes.{none_seen, held}
use Rattle.cabinet_documents.proofs.Opening.{accepted_stands_law}

pub audit_decides_law : AuditDecides
audit_decides_law bytes v regions visits small counted root =
    let pos = root_position (length bytes) node_shape in
    let h = held bytes root.holds node_behind pos refl (none_seen bytes) in
    let w = walk_stands_law node_names bytes 0 pos node_shape v regions visits root h.acyclic in
    record {
      walk = w.walk;
      walked = w.walked;
      accepted = accepted_stands_law bytes v regions visits w.walk small counted root w.walked;
      refused = λ u first. record { value = v; regions = regions; visits = visits; root = root; walk = w.walk; walked = w.walked; first = first };
    }
