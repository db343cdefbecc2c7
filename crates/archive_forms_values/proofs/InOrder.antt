-- Fields that are checked one after another.
use Rattle.std.proofs.Common.{◌≡◌, ℕ, ◌+◌, ◌-◌, ◌≤◌, ◌<◌, ◌^◌, min, List, ◌∷◌, Ok, Err, Result, refl, sym, ap, subst, ◌∙◌, arith}
use Rattle.archive_shape_layout.specs.Bytes.{align_up}
use Rattle.archive_shape_layout.specs.Shape.{Shape, Shapes, align_of, size_of, fields_end}
use Rattle.archive_shape_layout.specs.Shape.Shape.{tuple}
use Rattle.archive_shape_layout.specs.Shape.Shapes.{no_shapes, more_shapes}
use Rattle.archive_shape_layout.specs.Content.{Names, fields, shape_content}
use Rattle.archive_shape_layout.specs.Content.Part.{at}
use Rattle.archive_shape_layout.specs.Holds.{Visit, OpenShared}
use Rattle.archive_shape_layout.proofs.Framed.{le_align_up, le_fields_end}
use Rattle.archive_shape.specs.Kept.{Kept, Records, Advances}
use Rattle.archive_shape.specs.Checks.{Checks, ChecksAll, Moves}
use Rattle.archive_shape_layout.specs.declared.error.Error.{Error}
use Rattle.archive_shape.proofs.Wholes.{whole_checked}
use Rattle.archive_shape.proofs.Ordered.{Left, all_left, one_less, first_fault, none_left, checked_records, advances_then}
use Rattle.archive_shape_layout.proofs.PointerSizes.{first_multiple}

-- ---- the positions of fields

-- a field after an offset, with others after it, in a struct of `room` bytes
pub record FieldAt (s : Shape) (rest : Shapes) (offset from room : ℕ) : Type 0 where
  pub is : from ≡ align_up offset (align_of s)
  pub fits : from + size_of s ≤ room
  pub others_fit : fields_end rest (from + size_of s) ≤ room

field_at : (s : Shape) (rest : Shapes) (offset from room : ℕ) → from ≡ align_up offset (align_of s) → fields_end (more_shapes s rest) offset ≤ room → FieldAt s rest offset from room
field_at s rest offset from room is fits =
    let others : fields_end rest (from + size_of s) ≤ room = subst (λ n. fields_end rest (n + size_of s) ≤ room) (sym is) fits in
    record { is = is; fits = omega (arith, others, le_fields_end rest (from + size_of s)); others_fit = others }

-- the first
pub first_field : (s : Shape) (rest : Shapes) → FieldAt s rest 0 0 (size_of (tuple (more_shapes s rest)))
first_field s rest = field_at s rest 0 0 _ (sym (first_multiple (align_of s))) (le_align_up (fields_end (more_shapes s rest) 0) (align_of (tuple (more_shapes s rest))))

-- the field after a field, by sizes and offsets that are at most `usize::MAX`
pub next_field :
    {s t : Shape} {rest : Shapes} {offset from room : ℕ} (h : FieldAt s (more_shapes t rest) offset from room) (end size align next : ℕ)
    → room < 2 ^ 63
    → size ≡ min (size_of s) (2 ^ 64 - 1)
    → align ≡ align_of t
    → end ≡ from + size
    → next ≡ min (align_up end align) (2 ^ 64 - 1)
    → FieldAt t rest (from + size_of s) next room
next_field {s} {t} {rest} {offset} {from} {room} h end size align next small sized aligned ends cut =
    let same : end ≡ from + size_of s = omega (arith, ends, sized, small, h.fits) in
    let up : next ≡ min (align_up (from + size_of s) (align_of t)) (2 ^ 64 - 1) =
    cut ∙ ap (λ n. min (align_up n align) (2 ^ 64 - 1)) same ∙ ap (λ a. min (align_up (from + size_of s) a) (2 ^ 64 - 1)) aligned in
    let behind = le_fields_end rest (align_up (from + size_of s) (align_of t) + size_of t) in
    field_at t rest (from + size_of s) next room (omega (arith, up, behind, h.others_fit, small)) h.others_fit

-- ---- what is left of fields

-- some of the fields of a struct were checked, and those that are left decide all
pub record FieldsLeft (knows : Names → Type 0) (bytes : List ℕ) (pos : ℕ) (ss : Shapes) (old : Kept) (offset : ℕ) (rest : Shapes) (now : Kept) : Type 0 where
  pub advances : Advances old now
  pub left : (names : Names) → knows names → (inside : List OpenShared) (before : List Visit) → Records old.seen inside before
      → (mid : List Visit) × Records now.seen inside mid × Left names bytes inside before (fields pos 0 ss) old mid (fields pos offset rest) now

tuple_checked :
    (names : Names) (bytes : List ℕ) (pos : ℕ) (ss : Shapes) (k l : Kept) (r : Result (Unit {0}) Error)
    → ChecksAll names bytes (fields pos 0 ss) k r l
    → Checks names bytes (at pos (tuple ss)) k r l
unfolding shape_content
tuple_checked names bytes pos ss k l r h = whole_checked names bytes pos (tuple ss) (fields pos 0 ss) k l r refl h

module _ (knows : Names → Type 0) (bytes : List ℕ) (pos : ℕ) (ss : Shapes) (old : Kept) where
  -- before the first check all are left
  pub all_fields_left : old.start ≤ old.end → FieldsLeft knows bytes pos ss old 0 ss old
  all_fields_left ordered = record {
    advances = record { begins = omega arith; ordered = ordered; frame = refl };
    left = λ names known inside before records. (before, records, all_left names bytes inside before (fields pos 0 ss) old (fields pos 0 ss) refl);
  }

  module _ {s : Shape} {rest : Shapes} {offset from room : ℕ} {now : Kept} (at_pos : ℕ) (stands : at_pos ≡ pos + from) (field : FieldAt s rest offset from room) (h : FieldsLeft knows bytes pos ss old offset (more_shapes s rest) now) where
    next_part : fields pos offset (more_shapes s rest) ≡ at at_pos s ∷ fields pos (from + size_of s) rest
    unfolding fields
    next_part =
        ap (λ n. at (pos + n) s ∷ fields pos (n + size_of s) rest) (sym field.is)
        ∙ ap (λ q. at q s ∷ fields pos (from + size_of s) rest) (sym stands)

    -- one is checked
    pub field_checked : (next : Kept) → Advances now next → ((names : Names) → knows names → Checks names bytes (at at_pos s) now (Ok tt) next) → FieldsLeft knows bytes pos ss old (from + size_of s) rest next
    field_checked next moves checks = record {
      advances = advances_then h.advances moves;
      left = λ names known inside before records.
          let mid = h.left names known inside before records in
          let here = checks names known inside mid.0 mid.1 in
          (here.passes.after, checked_records names bytes inside mid.0 here, one_less names bytes inside before (fields pos 0 ss) old mid.2 next_part here);
    }

    -- one is refused, and so is the struct
    pub field_refused : (e : Error) (last : Kept) (r : Result (Unit {0}) Error) → r ≡ Err e → ((names : Names) → knows names → Checks names bytes (at at_pos s) now (Err e) last)
        → (names : Names) → knows names → Checks names bytes (at pos (tuple ss)) old r last
    field_refused e last r is checks names known = subst (λ x. Checks names bytes (at pos (tuple ss)) old x last) (sym is) (tuple_checked names bytes pos ss old last (Err e) refused)
      where
        refused : ChecksAll names bytes (fields pos 0 ss) old (Err e) last
        refused inside before records other =
            let mid = h.left names known inside before records in
            first_fault names bytes inside before (fields pos 0 ss) old mid.2 next_part (checks names known inside mid.0 mid.1 other)

  -- where none is left the struct is checked
  struct_checked : {offset : ℕ} {now : Kept} → FieldsLeft knows bytes pos ss old offset no_shapes now → (names : Names) → knows names → Checks names bytes (at pos (tuple ss)) old (Ok tt) now
  unfolding fields
  struct_checked {offset} {now} h names known = tuple_checked names bytes pos ss old now (Ok tt) checked
    where
      checked : ChecksAll names bytes (fields pos 0 ss) old (Ok tt) now
      checked inside before records =
          let mid = h.left names known inside before records in
          none_left names bytes inside before (fields pos 0 ss) old mid.2 refl mid.1

  -- the check of the last one is that of the struct
  pub last_field :
      {s : Shape} {offset from room : ℕ} {now : Kept} (at_pos : ℕ) → at_pos ≡ pos + from → FieldAt s no_shapes offset from room → FieldsLeft knows bytes pos ss old offset (more_shapes s no_shapes) now
      → (r : Result (Unit {0}) Error) (next : Kept)
      → Moves now r next
      → ((names : Names) → knows names → Checks names bytes (at at_pos s) now r next)
      → Moves old r next × ((names : Names) → knows names → Checks names bytes (at pos (tuple ss)) old r next)
  last_field at_pos stands field h (Ok x) next moves checks =
      let done = field_checked at_pos stands field h next moves checks in
      (done.advances, struct_checked done)
  last_field at_pos stands field h (Err e) next moves checks = (tt, field_refused at_pos stands field h e next (Err e) refl checks)
