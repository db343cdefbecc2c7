-- Which bytes are the fields of a part, which are those of the parts in it, and that all other bytes are zero.
use Rattle.std.specs.Prelude.{◌≡◌, ℕ, zero, suc, ◌+◌, ◌≤◌, ◌<◌, List, [], ◌∷◌, length, slice_index, drop, ◌⊎◌, ⊤}
use Rattle.archive_shape_layout.specs.Bytes.{window, word_at}
use Rattle.archive_shape_layout.specs.Shape.{Shape, size_of, pointer_size}
use Rattle.archive_shape_layout.specs.Shape.Shape.{number, nonzero, truth, character, text, tuple, array, option, result, choice, box, vector, shared, weak, tree, table, index_map, named}
use Rattle.archive_shape_layout.specs.Shape.Pointee.{sized, slice, str}
use Rattle.archive_shape_layout.specs.Content.{Names, Part, Content, content_of, links_offset, control_count}
use Rattle.archive_shape_layout.specs.Content.Part.{at, behind, node, child, entry, buckets, place_at}
use Rattle.archive_shape_layout.specs.Content.Label.{written}
use Rattle.archive_shape_layout.specs.Content.Content.{illegal, plain, claimed, counting}

-- a position is one of the `size` from `start` on
abbrev pub IsIn : ℕ → ℕ → ℕ → Type 0
IsIn start size i = (start ≤ i) × (i < start + size)

-- a position is one of a part's own bytes; those that it claims are not among these
abbrev pub Owns : Part → ℕ → Type 0
Owns (at pos s) i = IsIn pos (size_of s) i
Owns (child level most k v pos) i = IsIn pos 4 i
Owns (entry k key_pos v value_pos) i = IsIn key_pos (size_of k) i ⊎ IsIn value_pos (size_of v) i
Owns (place_at pos limit) i = IsIn pos 4 i
Owns (behind pos p len) i = ⊥
Owns (node level most k v pos) i = ⊥
Owns (buckets target len cap it) i = ⊥

abbrev pub InParts : List Part → ℕ → Type 0
InParts [] i = ⊥
InParts (p ∷ ps) i = Owns p i ⊎ InParts ps i

-- the number of a shape's first bytes that are its fields: a number, a tag, an offset, a length; the others are those
-- of the parts in it, or padding
abbrev pub field_size : Shape → ℕ
field_size (number w signed) = size_of (number w signed)
field_size (nonzero w signed) = size_of (nonzero w signed)
field_size truth = 1
field_size character = 4
field_size text = 8
field_size (tuple ss) = 0
field_size (array n s) = 0
field_size (option s) = 1
field_size (result s t) = 1
field_size (choice ss) = 1
field_size (box p) = pointer_size p
field_size (vector s) = 8
field_size (shared cyclic p) = pointer_size p
field_size (weak cyclic p) = 1
field_size (tree most k v) = 8
field_size (table s) = 12
field_size (index_map k v) = 16
field_size (named name size align) = 0

-- of a node its kind and, in a leaf, its length
abbrev pub InFieldOfNode : ℕ → ℕ → Shape → Shape → ℕ → ℕ → Type 0
InFieldOfNode zero most k v pos i = (i ≡ pos) ⊎ IsIn (pos + links_offset most k v) 4 i
InFieldOfNode (suc kind) most k v pos i = i ≡ pos

-- a position is that of a byte of a part's fields
abbrev pub InField : List ℕ → Part → ℕ → Type 0
InField bytes (at pos s) i = IsIn pos (field_size s) i
InField bytes (behind pos str len) i = IsIn pos len i
InField bytes (behind pos (sized s) len) i = ⊥
InField bytes (behind pos (slice s) len) i = ⊥
InField bytes (node level most k v pos) i = InFieldOfNode (slice_index (drop pos bytes) 0) most k v pos i
InField bytes (child level most k v pos) i = IsIn pos 4 i
InField bytes (entry k key_pos v value_pos) i = ⊥
InField bytes (buckets target len cap it) i = IsIn target (control_count cap) i
InField bytes (place_at pos limit) i = IsIn pos 4 i

-- a byte of a part is one of its fields, or of a part in it, or zero
abbrev pub FieldPartOrZero : List ℕ → Part → List Part → ℕ → Type 0
FieldPartOrZero bytes p ps i = InField bytes p i ⊎ (InParts ps i ⊎ (slice_index bytes i ≡ 0))

-- so is each that it owns or claims
abbrev pub PaddingIsZero : List ℕ → Part → Content → Type 0
PaddingIsZero bytes p illegal = ⊥
PaddingIsZero bytes p (plain l ps) = (i : ℕ) → Owns p i → FieldPartOrZero bytes p ps i
PaddingIsZero bytes p (claimed s l ps) = (i : ℕ) → IsIn s.start s.size i → FieldPartOrZero bytes p ps i
PaddingIsZero bytes p (counting cyclic t q len) = (i : ℕ) → Owns p i → FieldPartOrZero bytes p [] i

-- ---- fillers: bytes of fields that could have other values in the layout; an inline text is filled with ff

abbrev pub IsTextFilled : List ℕ → Content → Type 0
IsTextFilled own (plain (written bs) ps) = (i : ℕ) → length bs ≤ i → i < 8 → slice_index own i ≡ 255
IsTextFilled own _ = ⊤

-- an offset that leads nowhere is 1, and a table without items has no places
abbrev pub IsShapeFilled : List ℕ → Content → Shape → Type 0
IsShapeFilled own c text = IsTextFilled own c
IsShapeFilled own c (tree most k v) = word_at own 4 ≡ 0 → word_at own 0 ≡ 1
IsShapeFilled own c (table s) = word_at own 4 ≡ 0 → (word_at own 0 ≡ 1) × (word_at own 8 ≡ 0)
IsShapeFilled own c (index_map k v) = word_at own 4 ≡ 0 → (word_at own 0 ≡ 1) × (word_at own 8 ≡ 0) × (word_at own 12 ≡ 1)
IsShapeFilled own c _ = ⊤

-- an empty control is ff
abbrev pub AreControlsFilled : List ℕ → ℕ → Type 0
AreControlsFilled controls n = (i : ℕ) → i < n → 128 ≤ slice_index controls i → slice_index controls i ≡ 255

abbrev pub IsFilled : List ℕ → Part → Content → Type 0
IsFilled bytes (at pos s) c = IsShapeFilled (window bytes pos (size_of s)) c s
IsFilled bytes (buckets target len cap it) c = AreControlsFilled (window bytes target (control_count cap)) (control_count cap)
IsFilled bytes (behind pos p len) c = ⊤
IsFilled bytes (node level most k v pos) c = ⊤
IsFilled bytes (child level most k v pos) c = ⊤
IsFilled bytes (entry k key_pos v value_pos) c = ⊤
IsFilled bytes (place_at pos limit) c = ⊤

pub record IsClean (names : Names) (bytes : List ℕ) (p : Part) : Type 0 where
  pub padding : PaddingIsZero bytes p (content_of names bytes p)
  pub filled : IsFilled bytes p (content_of names bytes p)
