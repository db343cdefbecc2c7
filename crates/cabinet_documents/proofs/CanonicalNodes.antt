-- A node in a canonical archive has a walk in which each table is sound, and a value in the order of first fit.
use Rattle.std.proofs.Common.{ℕ, List, length, refl}
use Rattle.archive_shape_layout.specs.Value.{Value}
use Rattle.archive_shape_layout.specs.Holds.{Region, Visit, root_position}
use Rattle.archive_shape_canonical.specs.Canonical.{CanonicalArchive}
use Rattle.archive_shape_canonical.specs.FirstFit.{first_fit}
use Rattle.archive_shape_canonical.specs.Hash.{text_hash}
use Rattle.cabinet_text_grammar.specs.Tree.{Tree}
use Rattle.cabinet_text_grammar.specs.Wholes.{IsDocument}
use Rattle.cabinet_documents.specs.Audit.{root_part}
use Rattle.cabinet_documents.specs.Denotes.{Denotes}
use Rattle.cabinet_documents.specs.Fitted.{IsFitted}
use Rattle.cabinet_documents.specs.Node.{node_shape, node_names}
use Rattle.cabinet_documents.proofs.CanonicalTables.{tables_sound, tables_first}
use Rattle.cabinet_documents.proofs.FittedWalks.{walk_fitted}
use Rattle.cabinet_documents.proofs.Keyed.{keyed_is}
use Rattle.cabinet_documents.proofs.HeldNodes.{none_seen, held}
use Rattle.cabinet_documents.proofs.Peaks.{peaked}
use Rattle.cabinet_documents.proofs.Places.{node_behind}
use Rattle.cabinet_documents.proofs.SettledWalks.{Settled, settled_steps}
use Rattle.cabinet_documents.proofs.Standing.{HasTablesWalk}
use Rattle.cabinet_documents.proofs.Walkable.{HasKnownWalk, known_walk}

module _ (bytes : List ℕ) (v : Value) (regions : List Region) (visits : List Visit)
    (archive : CanonicalArchive (first_fit text_hash) node_names bytes 0 (root_position (length bytes) node_shape) node_shape v regions visits) where
  settled_walk : HasKnownWalk (Settled (first_fit text_hash) bytes) node_names bytes 0 (root_part bytes) v
  settled_walk =
      let fit = first_fit text_hash in
      known_walk (Settled fit bytes) node_names bytes archive.root.holds (settled_steps fit bytes archive.root.holds 0 archive.canonical) 0

  -- where the value is a document's
  pub canonical_tables : (t : Tree) → Denotes v t → IsDocument t → HasTablesWalk bytes v
  canonical_tables t denotes document =
      let pos = root_position (length bytes) node_shape in
      let n = (held bytes archive.root.holds node_behind pos refl (none_seen bytes)).value in
      let w = settled_walk in
      let p = peaked bytes w.walked node_behind pos refl in
      record { walk = w.walk; walked = w.walked; sound = tables_sound bytes w.walk (p.sound (tt, keyed_is n denotes document.0)) w.known }

  pub canonical_fitted : IsFitted v
  canonical_fitted =
      let pos = root_position (length bytes) node_shape in
      let n = (held bytes archive.root.holds node_behind pos refl (none_seen bytes)).value in
      let w = settled_walk in
      walk_fitted bytes w.walked node_behind pos refl (tables_first bytes w.walk w.known) n
