-- The first fault that a check finds, and its error.
use Rattle.std.specs.Prelude.{◌≡◌, ◌≢◌, ℕ, ◌+◌, ◌-◌, ◌*◌, ◌^◌, min, Bool, true, false, List, ◌∷◌, Option, Some, None}
use Rattle.archive_shape_layout.specs.Bytes.{window, word_at, target_from}
use Rattle.archive_shape_layout.specs.Shape.{Shape, Pointee, size_of}
use Rattle.archive_shape_layout.specs.Shape.Shape.{tuple, index_map}
use Rattle.archive_shape_layout.specs.Shape.Shapes.{no_shapes, more_shapes}
use Rattle.archive_shape_layout.specs.Value.{Values, count_values}
use Rattle.archive_shape_layout.specs.Value.Values.{no_values, more_values}
use Rattle.archive_shape_layout.specs.Content.{Names, Part, Span, Label, content_of, IsLegal, place, members}
use Rattle.archive_shape_layout.specs.Content.Label.{total}
use Rattle.archive_shape_layout.specs.Content.Part.{at, behind, buckets}
use Rattle.archive_shape_layout.specs.Content.Content.{plain, claimed, counting}
use Rattle.archive_shape_layout.specs.Holds.{Visit, OpenShared, open_at, visited}
use Rattle.archive_shape.specs.Range.{Range, narrowed_to}
use Rattle.archive_shape.specs.Accepts.{Passes, PassesAll, range_after}
use Rattle.archive_shape.specs.Questions.{questions_of, FirstUnanswered, AreAnswered, out_of_range}
use Rattle.archive_shape_layout.specs.declared.error.Error.{Error}
use Rattle.archive_shape_layout.specs.declared.error.Error.TheVariants.{InvalidUtf8, TypeMismatch, MetadataMismatch, CyclicSharedPointer, EntriesLengthMismatch}

-- the pointee and the length at a shared position, and whether its check has ended
pub record Entry : Type 0 where
  pub pointee : Pointee
  pub len : ℕ
  pub done : Bool

abbrev pub entry_of : Option OpenShared → Option Visit → Option Entry
entry_of (Some o) v = Some (record { pointee = o.pointee; len = o.len; done = false })
entry_of None (Some v) = Some (record { pointee = v.pointee; len = v.len; done = true })
entry_of None None = None

abbrev pub entry_at : List OpenShared → List Visit → ℕ → Option Entry
entry_at inside before pos = entry_of (open_at inside pos) (visited before pos)

-- a shared position that was seen before with another shape, or another length
pub data Differs (p : Pointee) (len : ℕ) (x : Entry) (e : Error) : Type 0 where
  other_shape : x.pointee ≢ p → e ≡ TypeMismatch → Differs p len x e
  other_length : x.pointee ≡ p → x.len ≢ len → e ≡ MetadataMismatch → Differs p len x e

-- what it is refused for; inside itself only where the pointer's flavor forbids cycles
pub data Clash (cyclic : Bool) (p : Pointee) (len : ℕ) (x : Entry) (e : Error) : Type 0 where
  differs : Differs p len x e → Clash cyclic p len x e
  inside_itself : cyclic ≡ false → x.pointee ≡ p → x.len ≡ len → x.done ≡ false → e ≡ CyclicSharedPointer → Clash cyclic p len x e

-- of an index map that is not empty: the part that is its table
pub record HasTable (bytes : List ℕ) (pos : ℕ) (p : Part) : Type 0 where
  pub target : ℕ
  pub leads : target_from pos (word_at (window bytes pos 16) 0) ≡ Some target
  pub some : word_at (window bytes pos 16) 4 ≢ 0
  pub part : p ≡ buckets target (word_at (window bytes pos 16) 4) (word_at (window bytes pos 16) 8) (place (word_at (window bytes pos 16) 4))

-- the offset to its entries leads before position 0
abbrev pub HasNoEntries : List ℕ → ℕ → Type 0
HasNoEntries bytes pos = target_from (pos + 12) (word_at (window bytes pos 16) 12) ≡ None

abbrev pub entries_size : List ℕ → ℕ → Shape → Shape → ℕ
entries_size bytes pos k v = word_at (window bytes pos 16) 4 * size_of (tuple (more_shapes k (more_shapes v no_shapes)))

-- the number of items of the value, which a count is compared with
abbrev pub counted_items : Values → ℕ
counted_items no_values = 0
counted_items (more_values v vs) = count_values (members v)

-- an error has their number as a usize, which saturates
abbrev pub counted_as_usize : Values → ℕ
counted_as_usize vs = min (counted_items vs) (2 ^ 64 - 1)

mutual
  pub data PartFault (names : Names) (bytes : List ℕ) : List OpenShared → List Visit → Part → Range → Error → Type 0 where
    -- in a question of the part itself
    fault_unanswered :
        {inside : List OpenShared} {before : List Visit} {p : Part} {k : Range} {e : Error}
        → FirstUnanswered k e (questions_of names bytes p)
        → PartFault names bytes inside before p k e
    -- in its parts, with no region claimed around them
    fault_plain :
        {inside : List OpenShared} {before : List Visit} {p : Part} {k : Range} {e : Error} {l : Label} {ps : List Part}
        → AreAnswered k (questions_of names bytes p)
        → content_of names bytes p ≡ plain l ps
        → PartsFault names bytes inside before ps k e
        → PartFault names bytes inside before p k e
    -- in its parts, which claim before the region that it claims
    fault_claimed :
        {inside : List OpenShared} {before : List Visit} {p : Part} {k : Range} {e : Error} {s : Span} {l : Label} {ps : List Part}
        → AreAnswered k (questions_of names bytes p)
        → content_of names bytes p ≡ claimed s l ps
        → PartsFault names bytes inside before ps (narrowed_to k s.start) e
        → PartFault names bytes inside before p k e
    -- a text that is not UTF-8, inline or out of line
    fault_text :
        {inside : List OpenShared} {before : List Visit} {p : Part} {k : Range} {e : Error} {l : Label} {ps : List Part}
        → AreAnswered k (questions_of names bytes p)
        → content_of names bytes p ≡ plain l ps
        → (IsLegal l → ⊥)
        → e ≡ InvalidUtf8
        → PartFault names bytes inside before p k e
    fault_text_behind :
        {inside : List OpenShared} {before : List Visit} {p : Part} {k : Range} {e : Error} {s : Span} {l : Label} {ps : List Part}
        → AreAnswered k (questions_of names bytes p)
        → content_of names bytes p ≡ claimed s l ps
        → (IsLegal l → ⊥)
        → e ≡ InvalidUtf8
        → PartFault names bytes inside before p k e
    -- a search tree has another number of entries than it says
    fault_total :
        {inside : List OpenShared} {before : List Visit} {p : Part} {k : Range} {e : Error} {n : ℕ} {ps : List Part}
        → AreAnswered k (questions_of names bytes p)
        → content_of names bytes p ≡ plain (total n) ps
        → (q : PassesAll names bytes inside before ps k)
        → counted_items q.values ≢ n
        → e ≡ EntriesLengthMismatch (counted_as_usize q.values) n
        → PartFault names bytes inside before p k e
    -- in the table of an index map whose entries lie before position 0
    fault_table :
        {inside : List OpenShared} {before : List Visit} {p : Part} {k : Range} {e : Error} {pos : ℕ} {key value : Shape} {q : Part}
        → AreAnswered k (questions_of names bytes p)
        → p ≡ at pos (index_map key value)
        → HasTable bytes pos q
        → HasNoEntries bytes pos
        → PartFault names bytes inside before q k e
        → PartFault names bytes inside before p k e
    -- and where the table has no fault, in the position of the entries
    fault_entries :
        {inside : List OpenShared} {before : List Visit} {p : Part} {k : Range} {e : Error} {pos : ℕ} {key value : Shape} {q : Part}
        → AreAnswered k (questions_of names bytes p)
        → p ≡ at pos (index_map key value)
        → HasTable bytes pos q
        → HasNoEntries bytes pos
        → Passes names bytes inside before q k
        → e ≡ out_of_range (entries_size bytes pos key value)
        → PartFault names bytes inside before p k e
    -- a shared position that was seen before, with another shape or length, or inside itself
    fault_again :
        {inside : List OpenShared} {before : List Visit} {p : Part} {k : Range} {e : Error} {cyclic : Bool} {t : ℕ} {q : Pointee} {len : ℕ} {x : Entry}
        → AreAnswered k (questions_of names bytes p)
        → content_of names bytes p ≡ counting cyclic t q len
        → entry_at inside before t ≡ Some x
        → Clash cyclic q len x e
        → PartFault names bytes inside before p k e
    -- in what it leads to, at the first visit
    fault_first :
        {inside : List OpenShared} {before : List Visit} {p : Part} {k : Range} {e : Error} {cyclic : Bool} {t : ℕ} {q : Pointee} {len : ℕ}
        → AreAnswered k (questions_of names bytes p)
        → content_of names bytes p ≡ counting cyclic t q len
        → entry_at inside before t ≡ None
        → PartFault names bytes (record { pos = t; pointee = q; len = len } ∷ inside) before (behind t q len) k e
        → PartFault names bytes inside before p k e

  -- of parts in order, in the first that is not accepted
  pub data PartsFault (names : Names) (bytes : List ℕ) : List OpenShared → List Visit → List Part → Range → Error → Type 0 where
    fault_here :
        {inside : List OpenShared} {before : List Visit} {p : Part} {ps : List Part} {k : Range} {e : Error}
        → PartFault names bytes inside before p k e
        → PartsFault names bytes inside before (p ∷ ps) k e
    fault_later :
        {inside : List OpenShared} {before : List Visit} {p : Part} {ps : List Part} {k : Range} {e : Error}
        → (q : Passes names bytes inside before p k)
        → PartsFault names bytes inside q.after ps (range_after k q.regions) e
        → PartsFault names bytes inside before (p ∷ ps) k e
