-- The questions that are asked of a part before its parts are checked, in order, and the error of each.
use Rattle.std.specs.Prelude.{◌≡◌, ℕ, zero, suc, ◌+◌, ◌-◌, ◌*◌, ◌%◌, ◌^◌, ◌<◌, max, min, Bool, true, false, not, cond, nat_le, nat_lt, ◌==◌, List, [], ◌∷◌, ◌++◌, take, drop, slice_index, count_by, Option, Some, None}
use Rattle.std.specs.Int.{from_le_bytes}
use Rattle.archive_shape_layout.specs.Bytes.{window, word_at, target_from}
use Rattle.archive_shape_layout.specs.Shape.{Shape, Pointee, align_of, size_of, element_size}
use Rattle.archive_shape_layout.specs.Shape.Shape.{number, nonzero, truth, character, text, tuple, array, option, result, choice, box, vector, shared, weak, tree, table, index_map, named}
use Rattle.archive_shape_layout.specs.Shape.Pointee.{sized, slice, str}
use Rattle.archive_shape_layout.specs.Content.{Names, Part, Span, Item, item, place, shape_tagged, is_scalar, begins_inline, text_length, pointee_length, item_size, node_size, node_span, words_of, links_offset, control_count, buckets_span}
use Rattle.archive_shape_layout.specs.Content.Part.{at, behind, node, child, entry, buckets, place_at}
use Rattle.archive_shape.specs.Range.{Range, InRange}
use Rattle.archive_shape_layout.specs.declared.error.Error.{Error}
use Rattle.archive_shape_layout.specs.declared.error.Error.TheVariants.{Unaligned, InvalidSubtreePointer, ExceededMaximumSubtreeDepth, InvalidTag, CheckStringRepr, TableLength, UnwrappedControlByte, WrongNumberOfElements, InvalidPlace, NodeLength, TooManyLevels}

-- a question: a test of bytes, with its error; whether n bytes at a position lie in the range; whether a position
-- is aligned; whether one more region may nest
pub data Question : Type 0 where
  test : Bool → Error → Question
  lies_in_range : (pos size : ℕ) → Question
  is_aligned : (pos align : ℕ) → Question
  may_nest : Question

abbrev pub IsAnswered : Range → Question → Type 0
IsAnswered k (test b e) = b ≡ true
IsAnswered k (lies_in_range pos size) = InRange k pos size
IsAnswered k (is_aligned pos align) = pos % align ≡ 0
IsAnswered k may_nest = k.level < k.most

-- an error has a size as a usize, which saturates
abbrev pub out_of_range : ℕ → Error
out_of_range size = InvalidSubtreePointer (min size (2 ^ 64 - 1))

abbrev pub refusal_of : Question → Error
refusal_of (test b e) = e
refusal_of (lies_in_range pos size) = out_of_range size
refusal_of (is_aligned pos align) = Unaligned align
refusal_of may_nest = ExceededMaximumSubtreeDepth

-- the first question that is answered by no
pub data FirstUnanswered (k : Range) (e : Error) : List Question → Type 0 where
  unanswered_here : {q : Question} {qs : List Question} → (IsAnswered k q → ⊥) → e ≡ refusal_of q → FirstUnanswered k e (q ∷ qs)
  unanswered_later : {q : Question} {qs : List Question} → IsAnswered k q → FirstUnanswered k e qs → FirstUnanswered k e (q ∷ qs)

abbrev pub AreAnswered : Range → List Question → Type 0
AreAnswered k [] = Unit {0}
AreAnswered k (q ∷ qs) = IsAnswered k q × AreAnswered k qs

-- ---- the questions

-- a region is claimed
abbrev pub claim : Span → List Question
claim s = lies_in_range s.start s.size ∷ is_aligned s.start s.align ∷ may_nest ∷ []

abbrev pub is_some : Option ℕ → Bool
is_some None = false
is_some (Some n) = true

-- an offset leads to a position, where n bytes are expected
abbrev pub leads : Option ℕ → ℕ → Question
leads target size = test (is_some target) (out_of_range size)

abbrev pub has_payload : Option Shape → Bool
has_payload None = false
has_payload (Some s) = true

-- a text out of line is longer than eight bytes
abbrev pub questions_of_text : ℕ → List ℕ → List Question
questions_of_text pos own =
    let len = text_length (word_at own 0) in
    cond
    (begins_inline (slice_index own 0))
    []
    (test (nat_lt 8 len) CheckStringRepr ∷ leads (target_from pos (word_at own 4)) len ∷ [])

-- a table that is not empty: the number of items and that of places, then the offset
abbrev pub questions_of_table : ℕ → List ℕ → Item → List Question
questions_of_table pos own it =
    cond
    (word_at own 4 == 0)
    []
    (test (nat_lt (word_at own 4) (word_at own 8)) (TableLength (word_at own 4) (word_at own 8))
    ∷ leads (target_from pos (word_at own 0)) (buckets_span 0 (word_at own 8) it).size
    ∷ [])

-- of a value at a position, by its shape
abbrev pub questions_of_shape : ℕ → List ℕ → Shape → List Question
questions_of_shape pos own (number w signed) = []
questions_of_shape pos own (nonzero w signed) = test (not (from_le_bytes w own == 0)) InvalidTag ∷ []
questions_of_shape pos own truth = test (nat_lt (slice_index own 0) 2) InvalidTag ∷ []
questions_of_shape pos own character = test (is_scalar (word_at own 0)) InvalidTag ∷ []
questions_of_shape pos own text = questions_of_text pos own
questions_of_shape pos own (tuple ss) = []
questions_of_shape pos own (array n s) = []
questions_of_shape pos own (option s) = test (nat_lt (slice_index own 0) 2) InvalidTag ∷ []
questions_of_shape pos own (result s t) = test (nat_lt (slice_index own 0) 2) InvalidTag ∷ []
questions_of_shape pos own (choice ss) = test (has_payload (shape_tagged (slice_index own 0) ss)) InvalidTag ∷ []
questions_of_shape pos own (box p) = leads (target_from pos (word_at own 0)) (pointee_length p own * element_size p) ∷ []
questions_of_shape pos own (vector s) = leads (target_from pos (word_at own 0)) (word_at own 4 * size_of s) ∷ []
questions_of_shape pos own (shared cyclic p) = leads (target_from pos (word_at own 0)) (pointee_length p own * element_size p) ∷ []
questions_of_shape pos own (weak cyclic p) = test (nat_lt (slice_index own 0) 2) InvalidTag ∷ []
questions_of_shape pos own (tree most k v) =
    cond (word_at own 4 == 0) [] (leads (target_from pos (word_at own 0)) (node_size most k v) ∷ [])
questions_of_shape pos own (table s) = questions_of_table pos own (item s)
questions_of_shape pos own (index_map k v) = questions_of_table pos own (place (word_at own 4))
questions_of_shape pos own (named name size align) = []

-- a leaf has at most `most` entries
abbrev pub questions_of_leaf : ℕ → ℕ → ℕ → List Question
questions_of_leaf zero len most = test (nat_le len most) (NodeLength len most) ∷ []
questions_of_leaf (suc kind) len most = []

-- of a search tree's node: its level; the part that leaves and inner nodes begin with, which claims nothing; its kind;
-- the whole node; the length of a leaf
abbrev pub questions_of_node : (level most : ℕ) → Shape → Shape → (pos kind len : ℕ) → List Question
questions_of_node level most k v pos kind len =
    test (nat_le level 32) TooManyLevels
    ∷ lies_in_range pos (node_size most k v)
    ∷ is_aligned pos (max (align_of k) (align_of v))
    ∷ test (nat_lt kind 2) InvalidTag
    ∷ (claim (node_span (words_of kind most) most k v pos) ++ questions_of_leaf kind len most)

-- each control from the capacity on repeats the one `cap` places before, and from twice the capacity on it is empty;
-- `i` is the place of the first of those given
abbrev pub questions_of_controls : ℕ → List ℕ → ℕ → List ℕ → List Question
questions_of_controls cap controls i [] = []
questions_of_controls cap controls i (c ∷ cs) =
    let rest = questions_of_controls cap controls (i + 1) cs in
    cond
    (nat_lt i cap)
    rest
    (test (cond (nat_lt i (2 * cap)) (c == slice_index controls (i - cap)) (nat_le 128 c)) (UnwrappedControlByte i) ∷ rest)

-- of a table's buckets and controls: the region, which begins below the target, the repeated controls, the number of
-- tags
abbrev pub questions_of_buckets : (target len cap : ℕ) → Item → List ℕ → List Question
questions_of_buckets target len cap it controls =
    let tags = count_by (λ c. nat_lt c 128) (take cap controls) in
    test (nat_le (cap * item_size it) target) (out_of_range (buckets_span target cap it).size)
    ∷ (claim (buckets_span target cap it)
    ++ (questions_of_controls cap controls 0 controls
    ++ (test (tags == len) (WrongNumberOfElements len tags) ∷ [])))

-- what a pointer leads to is claimed as a whole
abbrev pub pointee_span : ℕ → Pointee → ℕ → Span
pointee_span pos (sized s) len = record { start = pos; size = size_of s; align = align_of s }
pointee_span pos (slice s) len = record { start = pos; size = len * size_of s; align = align_of s }
pointee_span pos str len = record { start = pos; size = len; align = 1 }

-- of a part
abbrev pub questions_of : Names → List ℕ → Part → List Question
questions_of names bytes (at pos s) = questions_of_shape pos (window bytes pos (size_of s)) s
questions_of names bytes (behind pos p len) =
    claim (pointee_span pos p len)
questions_of names bytes (node level most k v pos) =
    let kind = slice_index (drop pos bytes) 0 in
    let own = window bytes pos (node_span (words_of kind most) most k v pos).size in
    questions_of_node level most k v pos kind (word_at own (links_offset most k v))
questions_of names bytes (child level most k v pos) =
    let word = word_at (window bytes pos 4) 0 in
    cond (word == 1) [] (test (nat_le level 32) TooManyLevels ∷ leads (target_from pos word) (node_size most k v) ∷ [])
questions_of names bytes (entry k key_pos v value_pos) = []
questions_of names bytes (buckets target len cap it) = questions_of_buckets target len cap it (window bytes target (control_count cap))
questions_of names bytes (place_at pos limit) = test (nat_lt (word_at (window bytes pos 4) 0) limit) InvalidPlace ∷ []
