-- A buffer whose first bytes are buckets, and whose others are zero.
use Rattle.std.proofs.Common.{◌≡◌, ℕ, min, ◌+◌, ◌-◌, ◌*◌, ◌≤◌, ◌<◌, ◌^◌, List, [], ◌∷◌, ◌++◌, refl, sym, ap, subst, ◌∙◌, arith, length, take, drop, get_or, map, inl, inr, Option, Some, None, Ok, Err}
use Rattle.std.specs.Prelude.{Result}
use denote.Bor.{Bor}
use Rattle.std.proofs.Math.Seq.{take-add}
use Rattle.std.proofs.lemmas.List.{length-take-le, take-replicate, drop-replicate, drop-drop, length-replicate, take-map, map_more}
use Rattle.archive_shape_layout.specs.Shape.{Shape, size_of}
use Rattle.archive_shape.specs.Bytes.{zeros, overwrite}
use Rattle.archive_shape_canonical.specs.FirstFit.{present}
use Rattle.archive_shape_layout.specs.Writing.{WriterMembers, Writes}
use Rattle.archive_shape_layout.specs.declared.error.Error.{Error}
use Rattle.archive_forms_laws.specs.State.{State}
use Rattle.archive_forms_laws.specs.Spelling.{Spelling}
use Rattle.archive_forms_laws.specs.Regions.{resolvers, placed_fits, placed_refused}
use Rattle.archive_forms_laws.specs.Serializing.{CanResolve}
use Rattle.archive_forms_writing.proofs.Laying.{Stops}
use Rattle.archive_forms_writing.proofs.Batches.{take_written, blank_there, blank_behind}
use Rattle.archive_hash_writing.specs.Tables.{buckets, buckets_refused, state_after_items}
use Rattle.archive_hash_writing.specs.Standing.{standing}
use Rattle.archive_hash_writing.specs.Laying.{MakesRoom, LaysBuckets}
use Rattle.archive_hash_writing.proofs.EachBucket.{before, present_none, present_more, resolvers_more}
use Rattle.archive_hash_writing.proofs.Filled.{Buffered, last_of, buffered_none, buffered_flushed, buffered_failed, buffered_next, buffered_refused, buffered_all}

-- the items at the first places, and the item at the place after them
pub table_split : {A : Type 0} (table : List (Option (Bor A))) (p : ℕ) (d q : Option (Bor A)) → 0 < p → p ≤ length table → get_or table (p - 1) d ≡ q
    → take p (map standing table) ≡ take (p - 1) (map standing table) ++ standing q ∷ []
table_split table p d q some within e =
    let i = p - 1 in
    let back : i + 1 ≡ p = omega arith in
    ap (λ n. take n (map standing table)) (sym back)
    ∙ take-map standing (i + 1) table
    ∙ map_more standing table i d (omega arith)
    ∙ ap (λ l. l ++ standing (get_or table i d) ∷ []) (sym (take-map standing i table))
    ∙ ap (λ x. take i (map standing table) ++ standing x ∷ []) e

module _ {A R W : Type 0} (w : Spelling A R) (sh : Shape) (s : WriterMembers W) (os : List (Option A)) (kept : List R) (old : W) where
  -- the buckets of the places from p on were written, or are the first bytes of a buffer
  pub record Filling (p left : ℕ) (now : W) (at : ℕ) (buffer : List ℕ) : Type 0 where
    pub within : at ≤ length buffer
    pub blank : drop at buffer ≡ zeros (length buffer - at)
    pub low : p ≤ length os
    pub enough : left ≤ length kept
    pub stands : s.pos now + at + p * size_of sh ≡ s.pos old + length os * size_of sh
    pub placed : (st : State) → kept ≡ resolvers w (present os) st → Buffered w sh s os kept st old p left now at buffer

  pub filling_none : (p left at : ℕ) (buffer : List ℕ) → p ≡ length os → left ≡ length kept → at ≡ 0 → buffer ≡ zeros (length buffer) → Filling p left old at buffer
  filling_none p left at buffer e f g z =
      let P : ℕ → Type 0 = λ n. Filling n left old at buffer in
      let Q : ℕ → Type 0 = λ n. Filling (length os) n old at buffer in
      let A0 : ℕ → Type 0 = λ n. Filling (length os) (length kept) old n buffer in
      subst P (sym e) (subst Q (sym f) (subst A0 (sym g) (record {
        within = omega arith;
        blank = z ∙ ap zeros (omega arith);
        low = omega arith;
        enough = omega arith;
        stands = omega arith;
        placed = λ st made. buffered_none w sh s os kept st old buffer made;
      })))

  -- the same for an equal buffer and an equal number of resolvers
  pub filling_as : (p left other : ℕ) (now : W) (at : ℕ) (buffer new : List ℕ) → Filling p left now at buffer → other ≡ left → new ≡ buffer → Filling p other now at new
  filling_as p left other now at buffer new h e f = let P : ℕ → Type 0 = λ n. Filling p n now at new in let Q : List ℕ → Type 0 = λ l. Filling p left now at l in subst P (sym e) (subst Q (sym f) h)

  -- room was made in the buffer
  pub filling_room : (p left : ℕ) (now new : W) (at to size : ℕ) (buffer after : List ℕ) → size ≤ length buffer → Filling p left now at buffer → MakesRoom s size at buffer after now new (Ok to)
      → Filling p left new to after × (to + size ≤ length after) × (length after ≡ length buffer)
  filling_room p left now new at to size buffer after wide h (inl k) =
      let N : W → Type 0 = λ n. Filling p left n to after in
      let T : ℕ → Type 0 = λ n. Filling p left now n after in
      let B : List ℕ → Type 0 = λ l. Filling p left now at l in
      let is : to ≡ at = cc in
      (subst N (sym k.3) (subst T (sym is) (subst B (sym k.2) h)), omega (arith, k.1, is, ap length k.2), ap length k.2)
  filling_room p left now new at to size buffer after wide h (inr k) =
      let T : ℕ → Type 0 = λ n. Filling p left new n after in
      let same : length after ≡ length buffer = ap length k.1.1 ∙ length-replicate _ _ in
      let moved = k.0.moves in
      let long : length (take at buffer) ≡ at = length-take-le at buffer h.within in (
        subst T (sym k.1.0) (record {
          within = omega arith;
          blank = k.1.1 ∙ ap zeros (omega (arith, same));
          low = h.low;
          enough = h.enough;
          stands = omega (arith, moved, long, h.stands);
          placed = λ st made. buffered_flushed w sh s os kept st old p left now new at buffer after (h.placed st made) k.0;
        }),
        omega (arith, k.1.0, same, wide),
        same,
      )

  -- room was made for a bucket, whose size was cut at 2^64 - 1
  pub room_made : (p left : ℕ) (now new : W) (at to size : ℕ) (buffer after : List ℕ) → 0 < p → s.pos old + length os * size_of sh < 2 ^ 64 → size ≡ min (size_of sh) (2 ^ 64 - 1) → size_of sh ≤ length buffer
      → Filling p left now at buffer → MakesRoom s size at buffer after now new (Ok to) → Filling p left new to after × (to + size_of sh ≤ length after) × (size ≡ size_of sh) × (length after ≡ length buffer)
  room_made p left now new at to size buffer after some low cut wide h k =
      let q = p - 1 in
      let back : p ≡ q + 1 = omega arith in
      let step : p * size_of sh ≡ q * size_of sh + size_of sh = ap (λ n. n * size_of sh) back ∙ omega arith in
      let is : size ≡ size_of sh = omega (arith, step, h.stands, low, cut) in
      let f = filling_room p left now new at to size buffer after (omega (arith, is, wide)) h k in
      (f.0, omega (arith, f.1, is), is, f.2)

  pub filling_failed : (p left : ℕ) (now new : W) (at size : ℕ) (buffer after : List ℕ) (d : Error) → Filling p left now at buffer → MakesRoom s size at buffer after now new (Err d)
      → (st : State) → kept ≡ resolvers w (present os) st → let end = s.pos old + length os * size_of sh in Stops s old new (buckets sh w os st end) (buckets_refused sh w os st end) d
  filling_failed p left now new at size buffer after d h (inl k) st made = absurd (cc)
  filling_failed p left now new at size buffer after d h (inr k) st made = buffered_failed w sh s os kept st old p left now new at buffer d (h.placed st made) k.0

  module _ (p left : ℕ) (now : W) (at : ℕ) (buffer : List ℕ) (some : 0 < p) (room : at + size_of sh ≤ length buffer) (h : Filling p left now at buffer) where
    -- where the bucket of the place before begins
    here : s.pos now + at ≡ before sh w (take (p - 1) os) (s.pos old + length os * size_of sh)
    here =
        let q = p - 1 in
        let size = size_of sh in
        let long : length (take q os) ≡ q = length-take-le q os (omega (arith, h.low)) in
        let back : p ≡ q + 1 = omega arith in
        let step : p * size ≡ q * size + size = ap (λ n. n * size) back ∙ omega arith in
        let same : length (take q os) * size ≡ q * size = ap (λ n. n * size) long in
        omega (arith, h.stands, step, same)

    next_stands : (n : ℕ) → n ≡ size_of sh → s.pos now + (at + n) + (p - 1) * size_of sh ≡ s.pos old + length os * size_of sh
    next_stands n e =
        let q = p - 1 in
        let size = size_of sh in
        let back : p ≡ q + 1 = omega arith in
        let step : p * size ≡ q * size + size = ap (λ m. m * size) back ∙ omega arith in
        omega (arith, h.stands, step, e)

    -- there is no item
    pub filling_empty : (to : ℕ) → to ≡ at + size_of sh → take p os ≡ take (p - 1) os ++ None ∷ [] → Filling (p - 1) left now to buffer
    filling_empty to e split =
        let q = p - 1 in
        let size = size_of sh in
        let none : take size (drop at buffer) ≡ zeros size = ap (take size) h.blank ∙ take-replicate size (length buffer - at) 0 (omega (arith, room)) in
        let T : ℕ → Type 0 = λ n. Filling q left now n buffer in
        subst T (sym e) (record {
          within = room;
          blank = sym (drop-drop size at buffer) ∙ ap (drop size) h.blank ∙ drop-replicate size (length buffer - at) 0 ∙ ap zeros (omega arith);
          low = omega (arith, h.low);
          enough = h.enough;
          stands = next_stands size refl;
          placed = λ st made.
              let b = h.placed st made in
              buffered_next w sh s os kept st old p q left now at buffer None split (s.pos now + at) here b (at + size) left buffer
              (take-add at size buffer ∙ ap (λ l. take at buffer ++ l) none) tt
              (b.kept_rest ∙ ap (λ l. resolvers w (present l) st) split ∙ ap (λ l. resolvers w l st) (present_none (take q os)));
        })

    -- there is an item
    module _ (x : A) (split : take p os ≡ take (p - 1) os ++ Some x ∷ []) where
      -- its resolver is the last of those that are left
      pub last_kept : (k : R) (st : State) → kept ≡ resolvers w (present os) st
          → (0 < left) × (k ≡ get_or kept (left - 1) k → k ≡ w.resolver x (state_after_items sh w (take (p - 1) os) st)) × (take (left - 1) kept ≡ resolvers w (present (take (p - 1) os)) st)
      last_kept k st made =
          let q = p - 1 in
          let b = h.placed st made in
          last_of kept (resolvers w (present (take q os)) st) (w.resolver x (state_after_items sh w (take q os) st)) k left h.enough
          (b.kept_rest ∙ ap (λ l. resolvers w (present l) st) split ∙ ap (λ l. resolvers w l st) (present_more (take q os) x) ∙ resolvers_more w (present (take q os)) x st)

      pub some_kept : (st : State) → kept ≡ resolvers w (present os) st → (0 < left) × (left - 1 < length kept)
      some_kept st made = let l = last_kept (w.resolver x (state_after_items sh w (take (p - 1) os) st)) st made in let few = h.enough in let more = l.0 in (more, omega arith)

      module _ (k : R) (is : k ≡ get_or kept (left - 1) k) where
        pub can_resolve : (st : State) → kept ≡ resolvers w (present os) st → s.pos old + length os * size_of sh < 2 ^ 64 → (pos : ℕ) → pos ≡ s.pos now + at → CanResolve w sh x k buffer at pos
        can_resolve st made low pos e = record {
          room = room;
          stands = omega (arith, next_stands (size_of sh) refl, low, e);
          blank = blank_there buffer at (size_of sh) room h.blank;
          made = (state_after_items sh w (take (p - 1) os) st, (last_kept k st made).1 is);
        }

        -- its bucket is in the buffer
        pub filling_item : (to less pos : ℕ) (next : List ℕ) → to ≡ at + size_of sh → less ≡ left - 1 → pos ≡ s.pos now + at → size_of sh ≡ length (w.own x k pos) → next ≡ overwrite buffer at (w.own x k pos)
            → placed_fits w sh x k pos → Filling (p - 1) less now to next
        filling_item to less pos next e f g sized o fit =
            let q = p - 1 in
            let size = size_of sh in
            let own = w.own x k pos in
            let rest = blank_behind buffer next at size own room sized o h.blank in
            let T : ℕ → Type 0 = λ n. Filling q less now n next in
            let L : ℕ → Type 0 = λ n. Filling q n now (at + size) next in
            subst T (sym e) (subst L (sym f) (record {
              within = omega (arith, room, rest.0);
              blank = rest.1;
              low = omega (arith, h.low);
              enough = omega (arith, h.enough);
              stands = next_stands size refl;
              placed = λ st made.
                  let b = h.placed st made in
                  let l = last_kept k st made in
                  let F : R → Type 0 = λ r. placed_fits w sh x r pos in
                  buffered_next w sh s os kept st old p q left now at buffer (Some x) split pos (g ∙ here) b (at + size) (left - 1) next
                  (ap (take (at + size)) o ∙ take_written buffer at size own h.within sized ∙ ap (λ r. take at buffer ++ w.own x r pos) (l.1 is)) (subst F (l.1 is) fit) l.2;
            }))

        pub filling_refused : (pos : ℕ) (d : Error) → pos ≡ s.pos now + at → placed_refused w sh x k pos d
            → (st : State) → kept ≡ resolvers w (present os) st → let end = s.pos old + length os * size_of sh in Stops s old now (buckets sh w os st end) (buckets_refused sh w os st end) d
        filling_refused pos d g r st made =
            let F : R → Type 0 = λ z. placed_refused w sh x z pos d in
            buffered_refused w sh s os kept st old p (p - 1) left now at buffer (Some x) split pos (g ∙ here) (h.placed st made) d (subst F ((last_kept k st made).1 is) r)

  pub filling_all : (p left : ℕ) (now new : W) (at : ℕ) (buffer : List ℕ) (result : Result (Unit {0}) Error) → p ≡ 0 → Filling p left now at buffer → Writes s now new (take at buffer) result
      → (st : State) → kept ≡ resolvers w (present os) st → LaysBuckets sh w s os st old new result
  filling_all p left now new at buffer result e h g st made = buffered_all w sh s os kept st old p left now new at buffer result e (h.placed st made) g
