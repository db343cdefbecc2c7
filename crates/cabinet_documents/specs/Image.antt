-- When bytes are the one archive that saving a document writes.
use Rattle.std.specs.Prelude.{ℕ, ◌<◌, ◌^◌, List, length}
use Rattle.std.specs.List.{Contains}
use Rattle.archive_shape_layout.specs.Holds.{Region, root_position}
use Rattle.archive_shape_canonical.specs.Canonical.{CanonicalArchive}
use Rattle.archive_shape_canonical.specs.FirstFit.{first_fit}
use Rattle.archive_shape_canonical.specs.Hash.{text_hash}
use Rattle.cabinet_documents.specs.Node.{node_shape, node_names}
use Rattle.cabinet_text_grammar.specs.Tree.{Tree}
use Rattle.cabinet_documents.specs.Accepted.{Accepted}

-- search trees are packed, and tables are filled by first fit
pub record Image (t : Tree) (bytes : List ℕ) : Type 0 where
  pub accepted : Accepted bytes t
  pub canonical :
      CanonicalArchive
      (first_fit text_hash)
      node_names
      bytes
      0
      (root_position (length bytes) node_shape)
      node_shape
      accepted.value
      accepted.regions
      accepted.visits
  -- lengths, counts and offsets are within their limits wherever they are written; positions of regions are required to
  -- be
  pub low : (r : Region) → Contains accepted.regions r → r.start < 2 ^ 32
