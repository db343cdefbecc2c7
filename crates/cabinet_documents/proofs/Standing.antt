-- Bytes are accepted where a node holds at the root and its value denotes a document.
use Rattle.std.proofs.Common.{◌≡◌, ℕ, ◌<◌, true, List, length, refl, arith}
use Rattle.std.specs.List.{Contains}
use Rattle.archive_shape_layout.specs.Value.{Value}
use Rattle.archive_shape_layout.specs.Holds.{Region, Visit, HasRoot, root_position}
use Rattle.cabinet_text_grammar.specs.Tree.{Tree}
use Rattle.cabinet_text_grammar.specs.Wholes.{IsDocument}
use Rattle.cabinet_documents.specs.Node.{node_shape, node_names}
use Rattle.cabinet_documents.specs.Denotes.{Denotes}
use Rattle.cabinet_documents.specs.Walk.{Stop, Walks, is_container}
use Rattle.cabinet_documents.specs.Audit.{root_part, IsSound}
use Rattle.cabinet_documents.specs.Accepted.{Accepted}
use Rattle.cabinet_documents.proofs.Places.{node_behind}
use Rattle.cabinet_documents.proofs.HeldNodes.{none_seen, held}
use Rattle.cabinet_documents.proofs.Heights.{height_is}
use Rattle.cabinet_documents.proofs.Keyed.{keyed_is}
use Rattle.cabinet_documents.proofs.Stops.{Each, each_contains, all_below}
use Rattle.cabinet_documents.proofs.Peaks.{peaked}
use Rattle.cabinet_documents.proofs.TableSound.{TableSounds, MapSounds, each_sound}

-- a walk of the root, in which nothing is unsound
pub record HasSoundWalk (bytes : List ℕ) (v : Value) : Type 0 where
  pub walk : List Stop
  pub walked : Walks node_names bytes 0 (root_part bytes) v walk
  pub sound : (s : Stop) → Contains walk s → IsSound bytes s

-- a walk of the root, in which each table is sound
pub record HasTablesWalk (bytes : List ℕ) (v : Value) : Type 0 where
  pub walk : List Stop
  pub walked : Walks node_names bytes 0 (root_part bytes) v walk
  pub sound : Each (TableSounds bytes) walk

module _ (bytes : List ℕ) (t : Tree) (v : Value) (regions : List Region) (visits : List Visit)
    (root : HasRoot node_names bytes (root_position (length bytes) node_shape) node_shape v regions visits)
    (denotes : Denotes v t)
    (document : IsDocument t)
    (tables : HasTablesWalk bytes v) where
  pub sound_walk : HasSoundWalk bytes v
  sound_walk =
      let pos = root_position (length bytes) node_shape in
      let h = held bytes root.holds node_behind pos refl (none_seen bytes) in
      let w = tables in
      let p = peaked bytes w.walked node_behind pos refl in
      let high = height_is h.value denotes in
      let below = all_below 0 w.walk (omega (arith, p.peak_is, high, document.1)) in
      let sound = each_sound bytes w.walk (p.sound (tt, keyed_is h.value denotes document.0)) w.sound in
      record {
        walk = w.walk;
        walked = w.walked;
        sound = λ s c. (each_contains (λ (x : Stop). is_container x.part ≡ true → x.depth < 64) w.walk s below c, each_contains (MapSounds bytes) w.walk s sound c);
      }

  pub accepted_by : Accepted bytes t
  accepted_by =
      let w = sound_walk in
      record { value = v; regions = regions; visits = visits; root = root; denotes = denotes; document = document; walk = w.walk; walked = w.walked; sound = w.sound }
