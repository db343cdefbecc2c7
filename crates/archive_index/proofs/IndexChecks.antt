-- Index maps: their own bytes, their table and their entries.
use Rattle.std.proofs.Common.{◌≡◌, ◌≢◌, ℕ, ◌+◌, ◌*◌, ◌-◌, ◌^◌, min, true, List, [], ◌∷◌, Option, Some, None, Ok, Err, Result, refl, sym, ap, ap₂, ◌∙◌, arith}
use Rattle.std.specs.Int.{w32}
use Rattle.std.specs.Prelude.{false}
use Rattle.std.proofs.lemmas.Bool.{eq-eqb}
use Rattle.archive_shape_layout.specs.Bytes.{window, word_at, target_from}
use Rattle.archive_shape_layout.specs.Shape.{Shape, size_of}
use Rattle.archive_shape_layout.specs.Shape.Shape.{number, index_map}
use Rattle.archive_shape_layout.specs.Shape.Pointee.{slice}
use Rattle.archive_shape_layout.specs.Value.{Value, Values}
use Rattle.archive_shape_layout.specs.Value.Values.{more_values}
use Rattle.archive_shape_layout.specs.Content.{Names, Part, content_of, made, item, place, buckets_span, shape_content, table_parts}
use Rattle.archive_shape_layout.specs.Content.Part.{at, behind, buckets}
use Rattle.archive_shape_layout.specs.Content.Label.{second, whole}
use Rattle.archive_shape_layout.specs.Content.Content.{plain}
use Rattle.archive_shape_layout.specs.Holds.{Region, Visit, OpenShared, HoldAll}
use Rattle.archive_shape_layout.specs.Holds.HoldAll.{holds_none, holds_more}
use Rattle.archive_shape_layout.specs.Holds.Holds.{holds_plain}
use Rattle.archive_shape.specs.Range.{Range}
use Rattle.archive_shape.specs.Questions.{AreAnswered, FirstUnanswered, is_some, questions_of, questions_of_table}
use Rattle.archive_shape.specs.PartFault.{PartFault, HasTable}
use Rattle.archive_shape.specs.PartFault.PartFault.{fault_unanswered, fault_plain, fault_table, fault_entries}
use Rattle.archive_shape.specs.PartFault.PartsFault.{fault_here}
use Rattle.archive_shape.specs.Kept.{Kept, range_of}
use Rattle.archive_shape.specs.Checks.{Checks}
use Rattle.archive_shape_layout.specs.declared.error.Error.{Error}
use Rattle.archive_shape_layout.specs.declared.error.Error.TheVariants.{InvalidSubtreePointer}
use Rattle.archive_shape.proofs.Ordered.{none_checked, checked_records, more_checked, later_fault, one_checked}
use Rattle.archive_shape.proofs.Wholes.{whole_checked}
use Rattle.archive_forms_laws.proofs.TextContent.{followed}
use Rattle.archive_forms_values.specs.Tuples.{tuple2}
use Rattle.archive_shape_layout.proofs.Windows.{word_within}
use Rattle.archive_forms_values.proofs.Chosen.{chosen, not_chosen}
use Rattle.archive_hash_maps.specs.Heads.{HasHead}
use Rattle.archive_hash_maps.specs.declared.checking.head.TableHead.{TableHead}
use Rattle.archive_hash_maps.proofs.HeadChecks.{own_len, own_cap, own_target, some_own, less_own}

leads_on : (o : Option ℕ) (t : ℕ) → o ≡ Some t → is_some o ≡ true
leads_on o t e = rw e refl

-- the second of two values
second_of : (names : Names) (bytes : List ℕ) {level : ℕ} {inside : List OpenShared} {p q : Part} {vs : Values} {rs : List Region} {before after : List Visit} → HoldAll names bytes level inside (p ∷ (q ∷ [])) vs rs before after → (v : Value) × (made second vs ≡ Some v)
unfolding made
second_of names bytes (holds_more {v = u} {vs = us} h (holds_more {v = w} {vs = ws} g (holds_none x y z) e f) d r) =
    (w, ap (made second) (d ∙ ap (more_values u) (e ∙ ap (more_values w) x)))

module _ (names : Names) (bytes : List ℕ) (pos : ℕ) (k v : Shape) where
  own_entries : word_at (window bytes pos 16) 12 ≡ word_at bytes (pos + 12)
  own_entries = word_within bytes pos 16 12 (omega arith)

  -- without entries
  empty_is : word_at bytes (pos + 4) ≡ 0 → content_of names bytes (at pos (index_map k v)) ≡ plain whole []
  unfolding shape_content
  empty_is is = chosen _ _ _ (eq-eqb _ 0 (own_len bytes pos 16 (omega arith) ∙ is))

  pub map_empty : (old : Kept) → word_at bytes (pos + 4) ≡ 0 → Checks names bytes (at pos (index_map k v)) old (Ok tt) old
  map_empty old is =
      whole_checked names bytes pos (index_map k v) [] old old (Ok tt) (empty_is is) (λ inside before records. none_checked names bytes inside before old records)

  -- its own bytes are refused; a number of an entry has the size of a word
  pub head_refused :
      (old new : Kept) (r : Result (Unit {0}) Error) (e : Error) → r ≡ Err e
      → FirstUnanswered (range_of old) e (questions_of_table pos (window bytes pos 16) (item (number w32 false)))
      → Checks names bytes (at pos (index_map k v)) old r new
  unfolding buckets_span
  head_refused old new r e is f inside before records = rw is (λ other. fault_unanswered f)

  module _ (head : TableHead) (h : HasHead bytes pos head) where
    some : head.len ≢ 0
    some e = omega (arith, e, h.some)

    len_is : word_at (window bytes pos 16) 4 ≡ head.len
    len_is = own_len bytes pos 16 (omega arith) ∙ sym h.len

    cap_is : word_at (window bytes pos 16) 8 ≡ head.capacity
    cap_is = own_cap bytes pos 16 (omega arith) ∙ sym h.capacity

    controls_are : target_from pos (word_at (window bytes pos 16) 0) ≡ Some head.controls
    controls_are = ap (target_from pos) (own_target bytes pos 16 (omega arith)) ∙ h.controls

    abbrev pub table_part : Part
    table_part = buckets head.controls head.len head.capacity (place head.len)

    asked : (range : Range) → AreAnswered range (questions_of names bytes (at pos (index_map k v)))
    asked range =
        rw (some_own bytes pos 16 (omega arith) head.len head.capacity h.len h.capacity some)
        (less_own bytes pos 16 (omega arith) head.len head.capacity h.len h.capacity some h.room, (leads_on _ head.controls controls_are, tt))

    has_table : HasTable bytes pos table_part
    has_table = record {
      target = head.controls;
      leads = controls_are;
      some = λ e. some (sym len_is ∙ e);
      part = ap₂ (λ n m. buckets head.controls n m (place n)) (sym len_is) (sym cap_is);
    }

    map_is : (t : ℕ) → target_from (pos + 12) (word_at bytes (pos + 12)) ≡ Some t
        → content_of names bytes (at pos (index_map k v)) ≡ plain second (table_part ∷ (behind t (slice (tuple2 k v)) head.len ∷ []))
    unfolding shape_content table_parts
    map_is t leads =
        not_chosen _ _ _ (some_own bytes pos 16 (omega arith) head.len head.capacity h.len h.capacity some)
        ∙ followed _ t _ (ap (target_from (pos + 12)) own_entries ∙ leads)
        ∙ chosen _ _ _ (less_own bytes pos 16 (omega arith) head.len head.capacity h.len h.capacity some h.room)
        ∙ followed _ head.controls _ controls_are
        ∙ ap₂ (λ n m. plain second (buckets head.controls n m (place n) ∷ (behind t (slice (tuple2 k v)) n ∷ []))) len_is cap_is

    -- a fault of the table is one of the map, regardless of where the entries lie
    table_fault :
        (o : Option ℕ) → target_from (pos + 12) (word_at bytes (pos + 12)) ≡ o
        → (inside : List OpenShared) (before : List Visit) (range : Range) (e : Error)
        → PartFault names bytes inside before table_part range e
        → PartFault names bytes inside before (at pos (index_map k v)) range e
    table_fault None leads inside before range e f = fault_table (asked range) refl has_table (ap (target_from (pos + 12)) own_entries ∙ leads) f
    table_fault (Some t) leads inside before range e f = fault_plain (asked range) (map_is t leads) (fault_here f)

    pub table_refused :
        (old new mid : Kept) (r : Result (Unit {0}) Error) (e : Error) → r ≡ Err e
        → Checks names bytes table_part old (Err e) mid
        → Checks names bytes (at pos (index_map k v)) old r new
    table_refused old new mid r e is checks inside before records =
        rw is (λ other. table_fault _ refl inside before (range_of old) e (checks inside before records other))

    module _ (old mid : Kept) (table : Checks names bytes table_part old (Ok tt) mid) where
      -- the entries lie before position 0
      pub entries_astray :
          (new : Kept) (size : ℕ) → target_from (pos + 12) (word_at bytes (pos + 12)) ≡ None
          → size ≡ min (head.len * size_of (tuple2 k v)) (2 ^ 64 - 1)
          → Checks names bytes (at pos (index_map k v)) old (Err (InvalidSubtreePointer size)) new
      entries_astray new size astray is inside before records = λ other.
          fault_entries (asked (range_of old)) refl has_table (ap (target_from (pos + 12)) own_entries ∙ astray) (table inside before records).passes
          (ap InvalidSubtreePointer (is ∙ ap (λ n. min (n * size_of (tuple2 k v)) (2 ^ 64 - 1)) (sym len_is)))

      -- the check of the entries decides
      pub entries_decide :
          (t : ℕ) (new : Kept) (r : Result (Unit {0}) Error) → target_from (pos + 12) (word_at bytes (pos + 12)) ≡ Some t
          → Checks names bytes (behind t (slice (tuple2 k v)) head.len) mid r new
          → Checks names bytes (at pos (index_map k v)) old r new
      entries_decide t new (Ok x) leads entries inside before records =
          let one = table inside before records in
          let other = entries inside one.passes.after (checked_records names bytes inside before one) in
          let below = more_checked names bytes inside before one (one_checked names bytes inside one.passes.after other) in
          let held = below.passes.accepts in
          let value = second_of names bytes held.all in
          record {
            passes = record {
              value = value.0;
              regions = below.passes.regions;
              after = below.passes.after;
              accepts = record { holds = holds_plain (map_is t leads) tt held.all value.1; ascends = held.ascends; nests = held.nests };
            };
            seen = below.seen;
            moves = below.moves;
            records = below.records;
          }
      entries_decide t new (Err e) leads entries inside before records =
          let one = table inside before records in
          λ other. fault_plain (asked (range_of old)) (map_is t leads) (later_fault names bytes inside before one (fault_here (entries inside one.passes.after (checked_records names bytes inside before one) other)))
