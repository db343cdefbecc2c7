-- The shapes of archived types, with their sizes and alignments: fields, elements and payloads follow C's rules.
use Rattle.std.specs.Prelude.{ℕ, ◌+◌, ◌*◌, max, Bool}
use Rattle.std.specs.Int.{Width, byte_len}
use Rattle.archive_shape_layout.specs.Bytes.{align_up}

-- the alignments that a type may have, in bytes
pub data Alignment : Type 0 where
  one two four eight sixteen thirty_two : Alignment

abbrev pub alignment_bytes : Alignment → ℕ
alignment_bytes one = 1
alignment_bytes two = 2
alignment_bytes four = 4
alignment_bytes eight = 8
alignment_bytes sixteen = 16
alignment_bytes thirty_two = 32

mutual
  pub data Shape : Type 0 where
    -- a number of a width, and whether it is signed
    number : Width → Bool → Shape
    -- the same without 0
    nonzero : Width → Bool → Shape
    -- a truth value, a char, a text
    truth character text : Shape
    -- a tuple or struct; without fields the unit type
    tuple : Shapes → Shape
    array : ℕ → Shape → Shape
    option : Shape → Shape
    result : Shape → Shape → Shape
    -- an enum: a tag byte, and the payload of each tag, from 0 on
    choice : Shapes → Shape
    -- a pointer to its own value
    box : Pointee → Shape
    vector : Shape → Shape
    -- a counted pointer: whether its flavor allows cycles, and what it points to
    shared : Bool → Pointee → Shape
    -- its weak form, which may point to nothing
    weak : Bool → Pointee → Shape
    -- a search tree: the entries of a node, the key and the value
    tree : ℕ → Shape → Shape → Shape
    -- a hash table of items
    table : Shape → Shape
    -- a map that keeps its order: the key and the value
    index_map : Shape → Shape → Shape
    -- a type that holds itself: its name, size and alignment
    named : ℕ → ℕ → Alignment → Shape

  pub data Shapes : Type 0 where
    no_shapes : Shapes
    more_shapes : Shape → Shapes → Shapes

  -- what a pointer leads to: one value, n elements, or the bytes of a text
  pub data Pointee : Type 0 where
    sized : Shape → Pointee
    slice : Shape → Pointee
    str : Pointee

abbrev mutual
  pub align_of : Shape → ℕ
  align_of (number w signed) = byte_len w
  align_of (nonzero w signed) = byte_len w
  align_of truth = 1
  align_of character = 4
  align_of text = 4
  align_of (tuple ss) = aligns_of ss
  align_of (array n s) = align_of s
  align_of (option s) = align_of s
  align_of (result s t) = max (align_of s) (align_of t)
  align_of (choice ss) = aligns_of ss
  align_of (box p) = 4
  align_of (vector s) = 4
  align_of (shared cyclic p) = 4
  align_of (weak cyclic p) = 4
  align_of (tree most k v) = 4
  align_of (table s) = 4
  align_of (index_map k v) = 4
  align_of (named name size align) = alignment_bytes align

  -- the greatest, and at least 1
  pub aligns_of : Shapes → ℕ
  aligns_of no_shapes = 1
  aligns_of (more_shapes s ss) = max (align_of s) (aligns_of ss)

-- a pointer's own bytes: the offset, and where there are elements their number
abbrev pub pointer_size : Pointee → ℕ
pointer_size (sized s) = 4
pointer_size (slice s) = 8
pointer_size str = 8

abbrev mutual
  pub size_of : Shape → ℕ
  size_of (number w signed) = byte_len w
  size_of (nonzero w signed) = byte_len w
  size_of truth = 1
  size_of character = 4
  size_of text = 8
  size_of (tuple ss) = align_up (fields_end ss 0) (aligns_of ss)
  size_of (array n s) = n * size_of s
  size_of (option s) = align_up (align_up 1 (align_of s) + size_of s) (align_of s)
  size_of (result s t) =
      align_up (align_up 1 (max (align_of s) (align_of t)) + max (size_of s) (size_of t)) (max (align_of s) (align_of t))
  size_of (choice ss) = align_up (payloads_end ss) (aligns_of ss)
  size_of (box p) = pointer_size p
  size_of (vector s) = 8
  size_of (shared cyclic p) = pointer_size p
  size_of (weak cyclic p) = 4 + pointer_size p
  size_of (tree most k v) = 8
  size_of (table s) = 12
  size_of (index_map k v) = 16
  size_of (named name size align) = size

  -- where fields in order end that begin at an offset
  pub fields_end : Shapes → ℕ → ℕ
  fields_end no_shapes offset = offset
  fields_end (more_shapes s ss) offset = fields_end ss (align_up offset (align_of s) + size_of s)

  -- where the longest payload after a tag byte ends
  pub payloads_end : Shapes → ℕ
  payloads_end no_shapes = 1
  payloads_end (more_shapes s ss) = max (align_up 1 (align_of s) + size_of s) (payloads_end ss)

-- the size and alignment of one element of what is pointed to
abbrev pub element_size : Pointee → ℕ
element_size (sized s) = size_of s
element_size (slice s) = size_of s
element_size str = 1

abbrev pub element_align : Pointee → ℕ
element_align (sized s) = align_of s
element_align (slice s) = align_of s
element_align str = 1
