-- A place whose bucket goes into a buffer that has room for it.
use Rattle.std.proofs.Common.{◌≡◌, ℕ, min, ◌+◌, ◌-◌, ◌*◌, ◌≤◌, ◌<◌, ◌^◌, List, sym, ap, subst, ◌∙◌, length, get_or, map, Option, Some, None, Ok}
use denote.Bor.{Bor}
use Rattle.std.proofs.lemmas.List.{length-map}
use Rattle.archive_shape_layout.specs.Shape.{Shape, size_of}
use Rattle.archive_shape.specs.Bytes.{overwrite}
use Rattle.archive_shape_canonical.specs.FirstFit.{present}
use Rattle.archive_shape_layout.specs.Writing.{WriterMembers}
use Rattle.archive_shape_layout.specs.declared.error.Error.{Error}
use Rattle.archive_forms_laws.specs.State.{State}
use Rattle.archive_forms_laws.specs.Spelling.{Spelling}
use Rattle.archive_forms_laws.specs.Regions.{resolvers, placed_fits, placed_refused}
use Rattle.archive_forms_laws.specs.Serializing.{CanResolve}
use Rattle.archive_forms_writing.proofs.Laying.{Stops}
use Rattle.archive_hash_writing.specs.Tables.{buckets, buckets_refused}
use Rattle.archive_hash_writing.specs.Standing.{standing}
use Rattle.archive_hash_writing.specs.Laying.{MakesRoom}
use Rattle.archive_hash_writing.proofs.Filling.{Filling, table_split, room_made, filling_empty, filling_as, some_kept, can_resolve, filling_item, filling_refused}

module _ {A R W : Type 0} (w : Spelling A R) (sh : Shape) (s : WriterMembers W) (table : List (Option (Bor A))) (kept : List R) (old : W) where
  -- `at` bytes of the buffer are in use, and the next `size` bytes are a bucket
  pub record Ready (p left : ℕ) (now : W) (at size : ℕ) (buffer : List ℕ) : Type 0 where
    pub some : 0 < p
    pub sized : size ≡ size_of sh
    pub room : at + size_of sh ≤ length buffer
    pub low : s.pos old + length (map standing table) * size_of sh < 2 ^ 64
    pub filling : Filling w sh s (map standing table) kept old p left now at buffer

  pub ready : {p left : ℕ} {now : W} {at : ℕ} {buffer : List ℕ} (size : ℕ) (new : W) (to : ℕ) (after : List ℕ) → 0 < p → s.pos old + length table * size_of sh < 2 ^ 64 → size ≡ min (size_of sh) (2 ^ 64 - 1) → size_of sh ≤ length buffer
      → Filling w sh s (map standing table) kept old p left now at buffer → MakesRoom s size at buffer after now new (Ok to) → Ready p left new to size after
  ready {p} {left} {now} {at} {buffer} size new to after some stands cut wide h k =
      let P : ℕ → Type 0 = λ n. s.pos old + n * size_of sh < 2 ^ 64 in
      let low = subst P (sym (length-map table standing)) stands in
      let f = room_made w sh s (map standing table) kept old p left now new at to size buffer after some low cut wide h k in
      record { some = some; sized = f.2; room = f.1; low = low; filling = f.0 }

  module _ {p left : ℕ} {now : W} {at size : ℕ} {buffer : List ℕ} (within : p ≤ length table) (r : Ready p left now at size buffer) where
    ends : at + size ≡ at + size_of sh
    ends = ap (λ n. at + n) r.sized

    -- there is no item
    pub left_zero : (d : Option (Bor A)) (other : ℕ) (next : List ℕ) → get_or table (p - 1) d ≡ None → other ≡ left → next ≡ buffer → Filling w sh s (map standing table) kept old (p - 1) other now (at + size) next
    left_zero d other next is e f =
        filling_as w sh s (map standing table) kept old (p - 1) left other now (at + size) buffer next
        (filling_empty w sh s (map standing table) kept old p left now at buffer r.some r.room r.filling (at + size) ends (table_split table p d None r.some within is)) e f

    -- there is an item
    module _ (d : Option (Bor A)) (item : Bor A) (is : get_or table (p - 1) d ≡ Some item) where
      pub resolver_left : (st : State) → kept ≡ resolvers w (present (map standing table)) st → (0 < left) × (left - 1 < length kept)
      resolver_left st made = some_kept w sh s (map standing table) kept old p left now at buffer r.some r.room r.filling item.now (table_split table p d (Some item) r.some within is) st made

      module _ (k : R) (last : k ≡ get_or kept (left - 1) k) where
        pub can_be_resolved : (st : State) → kept ≡ resolvers w (present (map standing table)) st → (pos : ℕ) → pos ≡ s.pos now + at → CanResolve w sh item.now k buffer at pos
        can_be_resolved st made pos e = can_resolve w sh s (map standing table) kept old p left now at buffer r.some r.room r.filling item.now (table_split table p d (Some item) r.some within is) k last st made r.low pos e

        pub put_there : (less pos : ℕ) (written next : List ℕ) → less ≡ left - 1 → pos ≡ s.pos now + at → size_of sh ≡ length (w.own item.now k pos) → next ≡ written → written ≡ overwrite buffer at (w.own item.now k pos)
            → placed_fits w sh item.now k pos → Filling w sh s (map standing table) kept old (p - 1) less now (at + size) next
        put_there less pos written next e f sized i o fit =
            filling_item w sh s (map standing table) kept old p left now at buffer r.some r.room r.filling item.now (table_split table p d (Some item) r.some within is) k last (at + size) less pos next ends e f sized (i ∙ o) fit

        pub refused_there : (pos : ℕ) (e : Error) → pos ≡ s.pos now + at → placed_refused w sh item.now k pos e → (st : State) → kept ≡ resolvers w (present (map standing table)) st
            → let end = s.pos old + length (map standing table) * size_of sh in Stops s old now (buckets sh w (map standing table) st end) (buckets_refused sh w (map standing table) st end) e
        refused_there pos e f x st made =
            filling_refused w sh s (map standing table) kept old p left now at buffer r.some r.room r.filling item.now (table_split table p d (Some item) r.some within is) k last pos e f x st made
