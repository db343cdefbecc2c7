-- What lies in a part whose walk has no fault has none either.
use Rattle.std.proofs.Common.{◌≡◌, ◌∙◌, ℕ, zero, suc, ◌+◌, ◌*◌, ◌<◌, List, [], ◌∷◌, ◌++◌, get_or, nat_lt, refl, sym}
use Rattle.std.specs.List.{flat_map}
use Rattle.archive_shape_layout.specs.Shape.{Shape, size_of}
use Rattle.archive_shape_layout.specs.Shape.Shape.{option, vector}
use Rattle.archive_shape_layout.specs.Content.{Names, Part}
use Rattle.archive_shape_layout.specs.Content.Part.{at}
use Rattle.archive_forms_values.specs.Parts.{HasValue, PointsTo, IsSomeAt, IsVecAt}
use Rattle.cabinet_documents.specs.Node.{node_shape, node_names, KnowsNode}
use Rattle.cabinet_documents.specs.Walk.{Stop}
use Rattle.cabinet_documents.specs.Audit.{too_deep, unless, faults}
use Rattle.cabinet_archived.specs.Kind.{IsTagged}
use Rattle.cabinet_documents.proofs.NodeWalks.{element_walk}
use Rattle.cabinet_documents.proofs.Places.{option_here, list_here, part_of, whole_here}
use Rattle.cabinet_archives.specs.Sound.{HasSoundWalk}
use Rattle.cabinet_archives.proofs.Tags.{tag_is}
use Rattle.cabinet_archives.proofs.Walked.{Boxed, Inner, payload_place, payload_in, some_in, vector_in, whole_in}

pub left_nil : {A : Type 0} (xs ys : List A) → xs ++ ys ≡ [] → xs ≡ []
left_nil [] ys e = refl
left_nil (x ∷ xs) ys e = absurd (cc)

pub right_nil : {A : Type 0} (xs ys : List A) → xs ++ ys ≡ [] → ys ≡ []
right_nil [] ys e = e
right_nil (x ∷ xs) ys e = absurd (cc)

module _ (bytes : List ℕ) where
  one_nil : (runs : List (List Stop)) (i : ℕ) → flat_map (faults bytes) runs ≡ [] → faults bytes (get_or runs i []) ≡ []
  one_nil [] i e = refl
  one_nil (run ∷ runs) zero e = left_nil (faults bytes run) (flat_map (faults bytes) runs) e
  one_nil (run ∷ runs) (suc i) e = one_nil runs i (right_nil (faults bytes run) (flat_map (faults bytes) runs) e)

  -- ---- payloads

  inner_sound : {depth : ℕ} {p : Part} {walk : List Stop} → faults bytes walk ≡ [] → Inner bytes depth p walk → HasSoundWalk bytes p
  inner_sound {depth = depth} none i = record { depth = depth; value = i.value; walk = i.run; walked = i.walked; sound = sym i.faults_are ∙ none }

  module _ {pos : ℕ} (there : HasValue node_shape KnowsNode bytes pos) {s : Shape} {knows : Names → Type 0} {to : ℕ} (w : HasSoundWalk bytes (at pos node_shape)) where
    -- the payload of a container's node
    pub payload_sound : {tag : ℕ} → 3 < tag → IsTagged bytes pos tag s knows to → HasSoundWalk bytes (part_of (payload_place tag) (pos + 4))
    payload_sound {tag = tag} high tagged = inner_sound w.sound (payload_in bytes w.walked tag (tag_is bytes pos there tagged) high)

  -- ---- nodes in containers

  pub some_sound : {pos next : ℕ} → HasValue (option Boxed) KnowsNode bytes pos → HasSoundWalk bytes (part_of option_here pos) → IsSomeAt Boxed KnowsNode bytes pos → PointsTo bytes (pos + 4) next → HasSoundWalk bytes (at next node_shape)
  some_sound has w some points =
      let d = some_in bytes has w.walked some points in
      record { depth = w.depth + 1; value = d.value; walk = d.run; walked = d.walked; sound = right_nil (unless (nat_lt w.depth 64) too_deep) (faults bytes d.run) (sym d.faults_are ∙ w.sound) }

  pub whole_sound : {pos next : ℕ} → HasSoundWalk bytes (part_of whole_here pos) → PointsTo bytes pos next → HasSoundWalk bytes (at next node_shape)
  whole_sound w points =
      let d = whole_in bytes w.walked points in
      record { depth = w.depth + 1; value = d.value; walk = d.run; walked = d.walked; sound = right_nil (unless (nat_lt w.depth 64) too_deep) (faults bytes d.run) (sym d.faults_are ∙ w.sound) }

  pub element_sound : {pos to len : ℕ} (i : ℕ) → HasValue (vector node_shape) KnowsNode bytes pos → HasSoundWalk bytes (part_of list_here pos) → IsVecAt node_shape KnowsNode bytes pos to len → i < len
      → HasSoundWalk bytes (at (to + i * size_of node_shape) node_shape)
  element_sound {to = to} {len = len} i has w vec less =
      let l = vector_in bytes has vec w.walked in
      let e = element_walk node_names bytes node_shape i len less l.nodes in
      record {
        depth = w.depth + 1;
        value = e.value;
        walk = get_or l.runs i [];
        walked = e.walk;
        sound = one_nil l.runs i (right_nil (unless (nat_lt w.depth 64) too_deep) (flat_map (faults bytes) l.runs) (sym l.faults_are ∙ w.sound));
      }
