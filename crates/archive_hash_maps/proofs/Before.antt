-- What lies before a position is read without the bytes from there on.
use Rattle.std.proofs.Common.{◌≡◌, ◌∙◌, ℕ, ◌+◌, ◌-◌, ◌≤◌, List, [], ◌∷◌, length, take, drop, ap, arith, take-take}
use Rattle.std.proofs.lemmas.List.{drop-take, length-take-le}
use Rattle.archive_shape_layout.specs.Shape.{Shape, size_of, align_of}
use Rattle.archive_shape_layout.specs.Shape.Shapes.{no_shapes}
use Rattle.archive_shape_layout.specs.Value.{Value}
use Rattle.archive_shape_layout.specs.Content.{Names}
use Rattle.archive_shape_layout.proofs.Evaluated.{ascends_raised}
use Rattle.archive_shape_layout.proofs.Framed.{frame, le_align_up}
use Rattle.archive_shape_layout.proofs.Visited.{take_agrees, regions_agree, claimed_same}
use Rattle.archive_shape.specs.Key.{HeldAt}
use Rattle.archive_shape.proofs.Held.{held_ascend}
use Rattle.archive_forms_values.specs.Tuples.{tuple2}
use Rattle.archive_forms_values.specs.Parts.{HasValue, both}
use Rattle.archive_forms_values.specs.Fields.{field_position}
use Rattle.archive_hash_maps.proofs.Entries.{entry_parts}

pub held_before : (s : Shape) (knows : Names → Type 0) (bytes : List ℕ) (pos n : ℕ) (v : Value) → n ≤ length bytes → pos + size_of s ≤ n → HeldAt s knows bytes pos v → HeldAt s knows (take n bytes) pos v
held_before s knows bytes pos n v within fits h =
    let shorter = length-take-le n bytes within in
    record {
      names = h.names;
      known = h.known;
      level = h.level;
      inside = h.inside;
      regions = h.regions;
      before = h.before;
      after = h.after;
      own_within = omega (arith, shorter, fits);
      low = h.low;
      claimed = claimed_same (λ start size within. take_agrees bytes n start size (let below = h.claimed.below in omega (arith, fits))) h.claimed;
      holds = frame bytes (take n bytes) h.names (take_agrees bytes n pos (size_of s) fits) (regions_agree 0 n h.regions (take_agrees bytes n) (ascends_raised 0 pos n h.regions (omega (arith, fits)) (held_ascend h))) h.holds;
    }

module _ (k v : Shape) (knows others : Names → Type 0) (bytes : List ℕ) (at : ℕ) (h : HasValue (tuple2 k v) (both knows others) bytes at) where
  -- the own bytes of an entry's value lie in the buffer
  pub value_within : field_position k no_shapes v at + size_of v ≤ length bytes
  value_within = let parts = entry_parts k v knows others bytes at h in parts.value.held.own_within

  -- and its key is read from what lies before them
  pub key_before : HasValue k knows (take (field_position k no_shapes v at) bytes) at
  key_before =
      let parts = entry_parts k v knows others bytes at h in
      let within = value_within in
      let behind = le_align_up (size_of k) (align_of v) in
      record { value = parts.key.value; held = held_before k knows bytes at (field_position k no_shapes v at) parts.key.value (omega (arith, within)) (omega (arith, behind)) parts.key.held }
