-- The entries of a map, as its iterators return them.
use denote.Ref.{Bor}
use Rattle.std.proofs.Common.{◌≡◌, ◌∙◌, ℕ, ◌+◌, ◌-◌, ◌^◌, ◌<◌, ◌≤◌, min, List, [], ◌∷◌, length, map, All, refl, ap, arith}
use Rattle.std.proofs.lemmas.List.Elements.{All-map}
use Rattle.archive_shape_layout.specs.Bytes.{align_up}
use Rattle.archive_shape_layout.specs.Shape.{Shape, size_of, align_of}
use Rattle.archive_shape_layout.specs.Shape.Shapes.{no_shapes, more_shapes}
use Rattle.archive_shape_layout.specs.Content.{Names}
use Rattle.archive_forms_values.specs.Tuples.{tuple2}
use Rattle.archive_forms_values.specs.Parts.{HasValue, both}
use Rattle.archive_forms_values.specs.Entries.{entry_from}
use Rattle.archive_forms_values.proofs.Stands.{field_stands}
use Rattle.archive_hash_maps.specs.Maps.{entry_at, with_value}
use Rattle.archive_hash_maps.proofs.Entries.{entry_parts}
use Rattle.archive_hash_maps.proofs.Walked.{first_of}

pub mapped : {A B C : Type 0} (f : A → B) (g : B → C) (xs : List A) → map g (map f xs) ≡ map (λ x. g (f x)) xs
mapped f g [] = refl
mapped f g (x ∷ xs) = ap (λ ys. g (f x) ∷ ys) (mapped f g xs)

module _ (k v : Shape) (knows others : Names → Type 0) (bytes : Bor (List ℕ)) where
  -- the keys and values of entries are there
  pub entries_held : {K V : Type 0} (ps : List ℕ) → All (HasValue (tuple2 k v) (both knows others) bytes.now) ps
      → All (λ e. HasValue k knows e.0.bytes.now e.0.pos × HasValue v others e.1.bytes.now e.1.pos) (map (entry_at {K = K} {V = V} bytes k v) ps)
  entries_held {K} {V} ps h =
      All-map (λ e. HasValue k knows e.0.bytes.now e.0.pos × HasValue v others e.1.bytes.now e.1.pos) (entry_at {K = K} {V = V} bytes k v) ps
      (λ i d less. let parts = entry_parts k v knows others bytes.now _ (h i d less) in (parts.key, parts.value))

  module _ (size align behind : ℕ) (short : length bytes.now < 2 ^ 63) (sized : size ≡ min (size_of k) (2 ^ 64 - 1)) (aligned : align ≡ align_of v) (filled : behind ≡ min (align_up size align) (2 ^ 64 - 1)) where
    stands : (at : ℕ) → HasValue (tuple2 k v) (both knows others) bytes.now at → (behind ≡ align_up (size_of k) (align_of v)) × (at + behind ≤ length bytes.now)
    stands at h =
        let held = h.held.own_within in
        let s = field_stands k v no_shapes (more_shapes v no_shapes) (size_of k) size align behind refl (omega (arith, held, short)) sized aligned filled in
        (s.0, omega (arith, s.1, held))

    -- the values lie within the bytes
    pub values_fit : (ps : List ℕ) → All (HasValue (tuple2 k v) (both knows others) bytes.now) ps → All (λ at. at + behind < 2 ^ 64) ps
    values_fit ps h i d less = let s = stands _ (h i d less) in omega (arith, s.1, short)

    -- the values at the offset `behind` from keys are their values
    pub pairs_are : {K V : Type 0} (ps : List ℕ) → All (HasValue (tuple2 k v) (both knows others) bytes.now) ps
        → map (entry_from {K = K} {V = V} bytes) (map (with_value behind) ps) ≡ map (entry_at {K = K} {V = V} bytes k v) ps
    pairs_are [] h = refl
    pairs_are {K} {V} (p ∷ ps) h =
        let each = first_of (HasValue (tuple2 k v) (both knows others) bytes.now) p ps (p ∷ ps) refl h in
        let is = stands p each.0 in
        ap (λ n. entry_from {K = K} {V = V} bytes (with_value n p) ∷ map (entry_from bytes) (map (with_value behind) ps)) is.0 ∙ ap (λ es. entry_at {K = K} {V = V} bytes k v p ∷ es) (pairs_are ps each.1)
