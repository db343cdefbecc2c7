-- The pairs of a hashed map's table, in a walk of the map: by ascending place, and beside the table's faults.
use Rattle.std.proofs.Common.{◌≡◌, ℕ, ◌+◌, ◌≤◌, List, [], ◌∷◌, length, take, map, refl, sym, ap, subst, ◌∙◌}
use Rattle.archive_shape_layout.specs.Bytes.{window, word_at}
use Rattle.archive_shape_layout.specs.Shape.Shape.{text}
use Rattle.archive_shape_layout.specs.Value.{Value}
use Rattle.archive_shape_layout.specs.Content.{members, control_count}
use Rattle.archive_shape_layout.specs.Content.Part.{at}
use Rattle.archive_hash_maps.specs.Tables.{Buckets, full_places, item_position, item_positions, IsTableAt}
use Rattle.archive_hash_maps.specs.Tables.IsTableAt.{has_none, has_buckets}
use Rattle.cabinet_documents.specs.Node.{node_names, node_shape, pair_shape}
use Rattle.cabinet_documents.specs.Walk.{Stop, Walks}
use Rattle.cabinet_documents.specs.Audit.{hashed_faults}
use Rattle.cabinet_documents.specs.Table.{hashed_at, table_of}
use Rattle.cabinet_documents.proofs.TreeWalks.{ItemsWalk, text_quiet}
use Rattle.cabinet_documents.proofs.TableSound.{no_table}
use Rattle.cabinet_documents.proofs.TableWalks.{item_place, item_places, controls_at, table_walked, empty_table_walked}
use Rattle.cabinet_archives.specs.Hashed.{table_shape}
use Rattle.cabinet_archives.specs.Sound.{HasSoundWalk}
use Rattle.cabinet_archives.proofs.Pairs.{PairsIn, pair_entry, pairs_keys, own_quiet, no_pairs, pair_here}
use Rattle.cabinet_archives.proofs.TableLookups.{text_table}
use Rattle.cabinet_archives.proofs.Tables.{table_is, full_are, controls_long, listed}
use Rattle.cabinet_archives.proofs.Texts.{text_at}

module _ (bytes : List ℕ) where
  read_twice : (target : ℕ) (ps : List ℕ) → map (item_place text node_shape target) ps ≡ map (pair_entry bytes) (map (item_position pair_shape target) ps)
  read_twice target [] = refl
  read_twice target (p ∷ ps) = ap (λ e. e ∷ map (item_place text node_shape target) ps) (pair_here bytes (item_position pair_shape target p)) ∙ ap (λ es. pair_entry bytes (item_position pair_shape target p) ∷ es) (read_twice target ps)

  places_are : (b : Buckets) (cap : ℕ) → b.cap ≤ length b.controls → cap ≡ b.cap → b.controls ≡ window bytes b.target (control_count b.cap)
      → item_places text node_shape b.target 0 (controls_at bytes b.target cap) ≡ map (pair_entry bytes) (item_positions pair_shape b)
  places_are b cap long cap_is controls =
      ap (λ n. item_places text node_shape b.target 0 (controls_at bytes b.target n)) cap_is
      ∙ (ap (λ cs. item_places text node_shape b.target 0 (take b.cap cs)) (sym controls)
      ∙ (listed (item_place text node_shape b.target) (item_places text node_shape b.target) (λ i. refl) (λ i c cs. refl) 0 (take b.cap b.controls)
      ∙ (ap (map (item_place text node_shape b.target)) (full_are b long) ∙ read_twice b.target (full_places b))))

  abbrev pub TableIn : (depth pos : ℕ) → Buckets → Value → List Stop → Type 0
  TableIn depth pos b v walk = PairsIn bytes depth (item_positions pair_shape b) (hashed_faults (table_of hashed_at bytes pos v)) v walk

  pub table_in : {depth pos : ℕ} {b : Buckets} {v : Value} {walk : List Stop} → IsTableAt bytes pair_shape pos b → Walks node_names bytes depth (at pos table_shape) v walk → TableIn depth pos b v walk
  table_in {depth = depth} {pos = pos} {b = b} {v = v} (has_none none is) h =
      no_pairs bytes (empty_table_walked node_names bytes text node_shape none h) (ap (item_positions pair_shape) is) (ap hashed_faults (no_table bytes hashed_at pos v none))
  table_in {depth = depth} {pos = pos} {b = b} {v = v} (has_buckets some leads places fewer controls within room are count) h =
      let long = controls_long b are in
      let w = table_walked node_names bytes text node_shape some leads (text_quiet node_names bytes (depth + 1)) h in
      record {
        runs = w.runs;
        items = subst (λ ps. ItemsWalk node_names bytes text node_shape (depth + 1) ps (members v) w.runs) (places_are b (word_at bytes (pos + 8)) long places controls) w.items;
        faults_are = w.faults_are;
      }

  -- the table's own faults
  pub table_faults : {depth pos : ℕ} {b : Buckets} {v : Value} {walk : List Stop} → IsTableAt bytes pair_shape pos b → Walks node_names bytes depth (at pos table_shape) v walk → hashed_faults (table_of hashed_at bytes pos v) ≡ hashed_faults (text_table bytes b)
  table_faults {pos = pos} {b = b} {v = v} table h = ap hashed_faults (table_is (text_at bytes) pair_shape bytes pos v b table (pairs_keys bytes (table_in table h)))

  -- where a walk has no fault, the table has none
  pub table_quiet : {pos : ℕ} {b : Buckets} → IsTableAt bytes pair_shape pos b → HasSoundWalk bytes (at pos table_shape) → hashed_faults (text_table bytes b) ≡ []
  table_quiet table walk = sym (table_faults table walk.walked) ∙ own_quiet bytes (table_in table walk.walked) walk.sound
