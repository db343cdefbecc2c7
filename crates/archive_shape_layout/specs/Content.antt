-- The content of a part, one step deep and by cases of the shape: what its own bytes say, the parts below it in the
-- order in which they are visited, and the region that it claims. `Holds` is the recursion over it.
use Rattle.std.specs.Prelude.{ℕ, zero, suc, ◌+◌, ◌-◌, ◌*◌, ◌/◌, ◌%◌, max, Bool, true, false, cond, ◌&&◌, ◌||◌, nat_le, nat_lt, ◌==◌, IsTrue, IsUtf8, List, [], ◌∷◌, ◌++◌, take, drop, slice_index, count_by, Option, Some, None, ⊤}
use Rattle.std.specs.Int.{Width, from_le_bytes, cast_signed}
use Rattle.archive_shape_layout.specs.Bytes.{window, align_up, word_at, target_from}
use Rattle.archive_shape_layout.specs.Shape.{Shape, Shapes, Pointee, alignment_bytes, align_of, size_of}
use Rattle.archive_shape_layout.specs.Shape.Shape.{number, nonzero, truth, character, text, tuple, array, option, result, choice, box, vector, shared, weak, tree, table, index_map, named}
use Rattle.archive_shape_layout.specs.Shape.Shapes.{no_shapes, more_shapes}
use Rattle.archive_shape_layout.specs.Shape.Pointee.{sized, slice, str}
use Rattle.archive_shape_layout.specs.Value.{Value, Values, append_values, count_values}
use Rattle.archive_shape_layout.specs.Value.Value.{natural, integer, boolean, string, group, chosen}
use Rattle.archive_shape_layout.specs.Value.Values.{no_values, more_values}

-- what a bucket of a table contains: an item, or the number of an entry, a u32 below a limit
pub data Item : Type 0 where
  item : Shape → Item
  place : ℕ → Item

-- a part: where it lies, and what it is
pub data Part : Type 0 where
  -- a value at a position
  at : ℕ → Shape → Part
  -- what a pointer leads to: its position, and the number of elements
  behind : ℕ → Pointee → ℕ → Part
  -- of a search tree with at most `most` entries per node: a node at a level, the root's being 1, a pointer to a child
  -- at a level, and an entry's key and value
  node : (level most : ℕ) (key value : Shape) (pos : ℕ) → Part
  child : (level most : ℕ) (key value : Shape) (pos : ℕ) → Part
  entry : (key : Shape) (key_pos : ℕ) (value : Shape) (value_pos : ℕ) → Part
  -- the buckets below a position and the controls from it on: with `len` items in `cap` places
  buckets : (target len cap : ℕ) (i : Item) → Part
  -- the number of an entry, below a limit
  place_at : (pos limit : ℕ) → Part

-- the bytes that a part claims
pub record Span : Type 0 where
  pub start : ℕ
  pub size : ℕ
  pub align : ℕ

-- how a value is made of the values of its parts
pub data Label : Type 0 where
  -- it has no part: the value itself, or the bytes of a text
  leaf : Value → Label
  written : List ℕ → Label
  -- its one part's value; the second of its two; the group of all
  same second whole : Label
  -- a tag and the payload
  tagged : ℕ → Label
  -- of n children and then entries, the items in order
  woven : ℕ → Label
  -- its one part's value, which is a group of n
  total : ℕ → Label

pub data Content : Type 0 where
  -- no value has these bytes
  illegal : Content
  -- parts in order, with no region claimed around them
  plain : Label → List Part → Content
  -- the same, and then a region that is claimed
  claimed : Span → Label → List Part → Content
  -- a counted pointer: whether it may lead to what it lies inside, where it leads, to what, and the number of elements
  counting : Bool → ℕ → Pointee → ℕ → Content

-- ---- the names of types that hold themselves, each with its shape

abbrev pub Names : Type 0
Names = List (ℕ × Shape)

abbrev pub shape_named : Names → ℕ → Option Shape
shape_named [] name = None
shape_named (known ∷ names) name = cond (known.0 == name) (Some known.1) (shape_named names name)

-- ---- making a value

abbrev pub members : Value → Values
members (group vs) = vs
members _ = no_values

-- children and entries in turn, ending in a child: each child is replaced by all its items
abbrev pub weave : Values → Values → Values
weave no_values es = es
weave (more_values c cs) no_values = members c
weave (more_values c cs) (more_values e es) = append_values (members c) (more_values e (weave cs es))

abbrev pub first_values : ℕ → Values → Values
first_values zero vs = no_values
first_values (suc n) no_values = no_values
first_values (suc n) (more_values v vs) = more_values v (first_values n vs)

abbrev pub other_values : ℕ → Values → Values
other_values zero vs = vs
other_values (suc n) no_values = no_values
other_values (suc n) (more_values v vs) = other_values n vs

-- the value of a label, where the parts are those that it takes
unfoldable pub made : Label → Values → Option Value
made (leaf v) no_values = Some v
made (written bs) no_values = Some (string bs)
made same (more_values v no_values) = Some v
made second (more_values u (more_values v no_values)) = Some v
made whole vs = Some (group vs)
made (tagged t) vs = Some (chosen t vs)
made (woven n) vs = Some (group (weave (first_values n vs) (other_values n vs)))
made (total n) (more_values v no_values) = cond (count_values (members v) == n) (Some v) None
made _ _ = None

-- texts are UTF-8
abbrev pub IsLegal : Label → Type 0
IsLegal (written bs) = IsUtf8 bs
IsLegal _ = ⊤

-- ---- parts

-- a struct's fields in order, the first at an offset or after it
unfoldable pub fields : ℕ → ℕ → Shapes → List Part
fields pos offset no_shapes = []
fields pos offset (more_shapes s ss) =
    let from = align_up offset (align_of s) in at (pos + from) s ∷ fields pos (from + size_of s) ss

-- contiguous elements
unfoldable pub elements : ℕ → ℕ → Shape → List Part
elements pos zero s = []
elements pos (suc n) s = at pos s ∷ elements (pos + size_of s) n s

-- the entries of a node: contiguous keys, and contiguous values
unfoldable pub entries : ℕ → Shape → ℕ → Shape → ℕ → List Part
entries zero k key_pos v value_pos = []
entries (suc n) k key_pos v value_pos = entry k key_pos v value_pos ∷ entries n k (key_pos + size_of k) v (value_pos + size_of v)

-- the pointers of an inner node, four bytes each
unfoldable pub children : ℕ → ℕ → ℕ → Shape → Shape → ℕ → List Part
children zero level most k v pos = []
children (suc n) level most k v pos = child level most k v pos ∷ children n level most k v (pos + 4)

-- the payload of a tag
abbrev pub shape_tagged : ℕ → Shapes → Option Shape
shape_tagged t no_shapes = None
shape_tagged zero (more_shapes s ss) = Some s
shape_tagged (suc t) (more_shapes s ss) = shape_tagged t ss

abbrev pub item_size : Item → ℕ
item_size (item s) = size_of s
item_size (place limit) = 4

abbrev pub item_align : Item → ℕ
item_align (item s) = align_of s
item_align (place limit) = 4

abbrev pub item_part : Item → ℕ → Part
item_part (item s) pos = at pos s
item_part (place limit) pos = place_at pos limit

-- the items of the places whose controls are tags, in ascending order; place i is the i + 1st bucket below the target,
-- and `i` is the place of the first control given
unfoldable pub tagged_items : ℕ → Item → ℕ → List ℕ → List Part
tagged_items target it i [] = []
tagged_items target it i (c ∷ cs) =
    let rest = tagged_items target it (i + 1) cs in
    cond (nat_lt c 128) (item_part it (target - (i + 1) * item_size it) ∷ rest) rest

-- ---- content

-- one content or another by a test
unfoldable pub choose : Bool → Content → Content → Content
choose true c d = c
choose false c d = d

-- the content that depends on the target of a pointer; a pointer that leads before position 0 is not legal
unfoldable pub following : Option ℕ → (ℕ → Content) → Content
following None k = illegal
following (Some target) k = k target

unfoldable pub number_value : Width → Bool → ℕ → Value
number_value w false n = natural n
number_value w true n = integer (cast_signed w n)

-- a char's code: none from d800 to dfff
unfoldable pub is_scalar : ℕ → Bool
is_scalar n = nat_lt n 55296 || (nat_le 57344 n && nat_lt n 1114112)

-- the bytes of an inline text, whose own bytes are filled with ff
abbrev pub before_ff : List ℕ → List ℕ
before_ff [] = []
before_ff (b ∷ bs) = cond (b == 255) [] (b ∷ before_ff bs)

-- the length of a text out of line: six bits of it lie below the two bits that mark it, the others above
unfoldable pub text_length : ℕ → ℕ
text_length word = word % 64 + word / 256 * 64

-- a text is inline where the top two bits of its first byte are not 10
abbrev pub begins_inline : ℕ → Bool
begins_inline first = nat_lt first 128 || nat_le 192 first

abbrev pub IsInline : ℕ → Type 0
IsInline first = IsTrue (begins_inline first)

-- Out of line, its length is a u32 and an offset follows, counted from the text's own position. A text of at most eight
-- bytes is inline only.
unfoldable pub text_content : ℕ → List ℕ → Content
text_content pos own =
    let len = text_length (word_at own 0) in
    choose
    (begins_inline (slice_index own 0))
    (plain (written (before_ff own)) [])
    (choose (nat_lt 8 len) (following (target_from pos (word_at own 4)) (λ t. plain same (behind t str len ∷ []))) illegal)

-- the number of elements that a pointer leads to
abbrev pub pointee_length : Pointee → List ℕ → ℕ
pointee_length (sized s) own = 1
pointee_length (slice s) own = word_at own 4
pointee_length str own = word_at own 4

unfoldable pub shared_content : Bool → ℕ → List ℕ → Pointee → Content
shared_content cyclic pos own p =
    following (target_from pos (word_at own 0)) (λ t. counting cyclic t p (pointee_length p own))

-- a table that is not empty: an offset, the number of items and that of places, which is greater
unfoldable pub table_parts : ℕ → List ℕ → Item → List Part → Label → Content
table_parts pos own it rest label =
    choose
    (nat_lt (word_at own 4) (word_at own 8))
    (following (target_from pos (word_at own 0)) (λ t. plain label (buckets t (word_at own 4) (word_at own 8) it ∷ rest)))
    illegal

-- no shape, no value
abbrev pub option_content : Option Shape → (Shape → Content) → Content
option_content None k = illegal
option_content (Some s) k = k s

-- what the own bytes of a value at a position say: an offset is counted from its own position, and the pointers of
-- collections without entries are not read
unfoldable pub shape_content : Names → ℕ → List ℕ → Shape → Content
shape_content names pos own (number w signed) = plain (leaf (number_value w signed (from_le_bytes w own))) []
shape_content names pos own (nonzero w signed) =
    let n = from_le_bytes w own in choose (n == 0) illegal (plain (leaf (number_value w signed n)) [])
shape_content names pos own truth =
    let n = slice_index own 0 in choose (nat_lt n 2) (plain (leaf (boolean (n == 1))) []) illegal
shape_content names pos own character =
    let n = word_at own 0 in choose (is_scalar n) (plain (leaf (natural n)) []) illegal
shape_content names pos own text = text_content pos own
shape_content names pos own (tuple ss) = plain whole (fields pos 0 ss)
shape_content names pos own (array n s) = plain whole (elements pos n s)
shape_content names pos own (option s) =
    let tag = slice_index own 0 in
    choose
    (tag == 0)
    (plain (tagged 0) [])
    (choose (tag == 1) (plain (tagged 1) (at (pos + align_up 1 (align_of s)) s ∷ [])) illegal)
shape_content names pos own (result s t) =
    let tag = slice_index own 0 in
    let offset = align_up 1 (max (align_of s) (align_of t)) in
    choose
    (tag == 0)
    (plain (tagged 0) (at (pos + offset) s ∷ []))
    (choose (tag == 1) (plain (tagged 1) (at (pos + offset) t ∷ [])) illegal)
shape_content names pos own (choice ss) =
    let tag = slice_index own 0 in
    option_content (shape_tagged tag ss) (λ s. plain (tagged tag) (at (pos + align_up 1 (align_of s)) s ∷ []))
shape_content names pos own (box p) =
    following (target_from pos (word_at own 0)) (λ t. plain same (behind t p (pointee_length p own) ∷ []))
shape_content names pos own (vector s) =
    following (target_from pos (word_at own 0)) (λ t. plain same (behind t (slice s) (word_at own 4) ∷ []))
shape_content names pos own (shared cyclic p) = shared_content cyclic pos own p
shape_content names pos own (weak cyclic p) =
    let tag = slice_index own 0 in
    choose
    (tag == 0)
    (plain (tagged 0) [])
    (choose (tag == 1) (plain (tagged 1) (at (pos + 4) (shared cyclic p) ∷ [])) illegal)
shape_content names pos own (tree most k v) =
    let len = word_at own 4 in
    choose
    (len == 0)
    (plain whole [])
    (following (target_from pos (word_at own 0)) (λ t. plain (total len) (node 1 most k v t ∷ [])))
shape_content names pos own (table s) =
    choose (word_at own 4 == 0) (plain whole []) (table_parts pos own (item s) [] same)
shape_content names pos own (index_map k v) =
    let len = word_at own 4 in
    let pair = tuple (more_shapes k (more_shapes v no_shapes)) in
    choose
    (len == 0)
    (plain whole [])
    (following (target_from (pos + 12) (word_at own 12)) (λ t. table_parts pos own (place len) (behind t (slice pair) len ∷ []) second))
shape_content names pos own (named name size align) =
    option_content (shape_named names name) (λ s. choose ((size_of s == size) && (align_of s == alignment_bytes align)) (plain same (at pos s ∷ [])) illegal)

-- what a pointer leads to claims all its elements
unfoldable pub pointee_content : List ℕ → ℕ → Pointee → ℕ → Content
pointee_content bytes pos (sized s) len = claimed (record { start = pos; size = size_of s; align = align_of s }) same (at pos s ∷ [])
pointee_content bytes pos (slice s) len = claimed (record { start = pos; size = len * size_of s; align = align_of s }) whole (elements pos len s)
pointee_content bytes pos str len = claimed (record { start = pos; size = len; align = 1 }) (written (window bytes pos len)) []

-- ---- a search tree's node: a kind byte, the keys and the values, and after them, in a leaf, its length, in an inner
-- node the pointers to its children. The offsets of its parts:

unfoldable pub keys_offset : Shape → ℕ
keys_offset k = align_up 1 (align_of k)

unfoldable pub values_offset : ℕ → Shape → Shape → ℕ
values_offset most k v = align_up (keys_offset k + most * size_of k) (align_of v)

-- of what leaves and inner nodes begin with
unfoldable pub node_size : ℕ → Shape → Shape → ℕ
node_size most k v = align_up (values_offset most k v + most * size_of v) (max (align_of k) (align_of v))

unfoldable pub links_offset : ℕ → Shape → Shape → ℕ
links_offset most k v = align_up (node_size most k v) 4

unfoldable pub link_node_align : Shape → Shape → ℕ
link_node_align k v = max (max (align_of k) (align_of v)) 4

-- of a node with n words of four bytes after its keys and values
unfoldable pub link_node_size : ℕ → ℕ → Shape → Shape → ℕ
link_node_size words most k v = align_up (links_offset most k v + words * 4) (link_node_align k v)

abbrev pub node_span : ℕ → ℕ → Shape → Shape → ℕ → Span
node_span words most k v pos =
    record { start = pos; size = link_node_size words most k v; align = link_node_align k v }

-- a leaf has its length after them, an inner node a lesser pointer for each entry, and the greater one
abbrev pub words_of : ℕ → ℕ → ℕ
words_of zero most = 1
words_of (suc kind) most = most + 1

-- a leaf (kind 0) has at most `most` entries, an inner node (kind 1) has `most` entries, visited after its children
unfoldable pub node_content : ℕ → ℕ → Shape → Shape → ℕ → ℕ → List ℕ → Content
node_content level most k v pos zero own =
    let len = word_at own (links_offset most k v) in
    choose
    (nat_le level 32 && nat_le len most)
    (claimed (node_span 1 most k v pos) whole (entries len k (pos + keys_offset k) v (pos + values_offset most k v)))
    illegal
node_content level most k v pos (suc zero) own =
    choose
    (nat_le level 32)
    (claimed
    (node_span (most + 1) most k v pos)
    (woven (most + 1))
    (children (most + 1) (level + 1) most k v (pos + links_offset most k v) ++ entries most k (pos + keys_offset k) v (pos + values_offset most k v)))
    illegal
node_content level most k v pos (suc (suc kind)) own = illegal

-- an offset of 1 is no child; a child lies on one of 32 levels
unfoldable pub child_content : ℕ → ℕ → Shape → Shape → ℕ → List ℕ → Content
child_content level most k v pos own =
    choose
    (word_at own 0 == 1)
    (plain whole [])
    (choose (nat_le level 32) (following (target_from pos (word_at own 0)) (λ t. plain same (node level most k v t ∷ []))) illegal)

-- ---- a table's buckets

-- a control for each place, rounded up to sixteen, and fifteen more
unfoldable pub control_count : ℕ → ℕ
control_count cap = align_up cap 16 + 15

-- the controls from `cap` on repeat those before, and from twice the capacity on they are empty; `i` is the place of
-- the first of those given
unfoldable pub wraps : ℕ → List ℕ → ℕ → List ℕ → Bool
wraps cap controls i [] = true
wraps cap controls i (c ∷ cs) =
    let rest = wraps cap controls (i + 1) cs in
    (nat_lt i cap || cond (nat_lt i (2 * cap)) (c == slice_index controls (i - cap)) (nat_le 128 c)) && rest

-- all buckets and controls
unfoldable pub buckets_span : ℕ → ℕ → Item → Span
buckets_span target cap it =
    record { start = target - cap * item_size it; size = cap * item_size it + control_count cap; align = item_align it }

-- a control below 128 is a tag: its place holds an item
unfoldable pub buckets_content : ℕ → ℕ → ℕ → Item → List ℕ → Content
buckets_content target len cap it controls =
    choose
    (nat_le (cap * item_size it) target && (wraps cap controls 0 controls && (count_by (λ c. nat_lt c 128) (take cap controls) == len)))
    (claimed (buckets_span target cap it) whole (tagged_items target it 0 (take cap controls)))
    illegal

unfoldable pub place_content : ℕ → List ℕ → Content
place_content limit own =
    let n = word_at own 0 in choose (nat_lt n limit) (plain (leaf (natural n)) []) illegal

-- what a part's content is, by its own bytes or those that it claims
abbrev pub content_of : Names → List ℕ → Part → Content
content_of names bytes (at pos s) = shape_content names pos (window bytes pos (size_of s)) s
content_of names bytes (behind pos p len) = pointee_content bytes pos p len
content_of names bytes (node level most k v pos) =
    let kind = slice_index (drop pos bytes) 0 in
    node_content level most k v pos kind (window bytes pos (node_span (words_of kind most) most k v pos).size)
content_of names bytes (child level most k v pos) = child_content level most k v pos (window bytes pos 4)
content_of names bytes (entry k key_pos v value_pos) = plain whole (at key_pos k ∷ (at value_pos v ∷ []))
content_of names bytes (buckets target len cap it) = buckets_content target len cap it (window bytes target (control_count cap))
content_of names bytes (place_at pos limit) = place_content limit (window bytes pos 4)
