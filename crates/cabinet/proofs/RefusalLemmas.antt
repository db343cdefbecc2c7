-- What is accepted passes the check, so it has no fault.
use Rattle.std.proofs.Common.{List, [], ℕ, length, refl, arith}
use Rattle.archive_shape_layout.specs.Holds.{root_position}
use Rattle.archive_shape.specs.Accepts.{Passes}
use Rattle.archive_shape.proofs.Refused.{refused_law}
use Rattle.archive_core_validation.proofs.Bounded.{nests_below_more}
use Rattle.cabinet_text_grammar.specs.Tree.{Tree}
use Rattle.cabinet_documents.specs.Node.{node_shape, node_names}
use Rattle.cabinet_documents.specs.Audit.{access, unsound, out_of_memory, root_part, whole_range}
use Rattle.cabinet_documents.specs.Accepted.{Accepted}
use Rattle.cabinet_documents.proofs.Places.{node_behind}
use Rattle.cabinet_documents.proofs.Sound.{refused_law as refused_is_not_accepted}
use Rattle.cabinet.specs.RefusalsLaws.{AcceptedIsNotRefused}
use Rattle.cabinet.proofs.Nested.{IsLow, each_of, nests}

pub accepted_passes : (bytes : List ℕ) (t : Tree) → Accepted bytes t → Passes node_names bytes [] [] (root_part bytes) (whole_range (length bytes))
accepted_passes bytes t a =
    let inner = nests bytes a.root.holds a.walked (each_of IsLow a.walk (λ s c. (a.sound s c).0)) (omega arith) node_behind (root_position (length bytes) node_shape) refl (omega arith) in
    record {
      value = a.value;
      regions = a.regions;
      after = a.visits;
      accepts = record { holds = a.root.holds; ascends = a.root.ascends; nests = nests_below_more 2050 2199 a.regions (omega arith) inner };
    }

pub accepted_is_not_refused_law : AcceptedIsNotRefused
accepted_is_not_refused_law bytes t (access e) a f =
    absurd (refused_law node_names bytes [] [] (root_part bytes) (whole_range (length bytes)) e f (accepted_passes bytes t a))
accepted_is_not_refused_law bytes t (unsound u) a f = absurd (refused_is_not_accepted bytes u t f a)
accepted_is_not_refused_law bytes t out_of_memory a f = refl
