-- A part of each entry, the key or the value, whose own bytes are written side by side.
use Rattle.std.proofs.Common.{◌≡◌, ℕ, suc, ◌+◌, ◌-◌, ◌*◌, ◌^◌, ◌≤◌, ◌<◌, min, List, length, get_or, arith, ap, sym, subst, ◌∙◌, mul-le-mul_right}
use Rattle.archive_shape_layout.specs.Shape.{Shape, size_of}
use Rattle.archive_shape.specs.Bytes.{HasBytes, zeros, overwrite}
use Rattle.archive_shape_layout.specs.declared.error.Error.{Error}
use Rattle.archive_forms_laws.specs.State.{State}
use Rattle.archive_forms_laws.specs.Spelling.{Spelling, state_after}
use Rattle.archive_forms_laws.specs.Regions.{resolvers}
use Rattle.archive_forms_laws.specs.Serializing.{CanResolve}
use Rattle.archive_forms_writing.proofs.Loops.{length-resolvers}
use Rattle.archive_btree_spelling.specs.Written.{slots, AllSlots, AnySlot}
use Rattle.archive_btree_writing.proofs.Slots.{state_before, Laid, laid_none, laid_length, laid_zero, laid_next, laid_refused, laid_all, kept_at}

-- the value that is seen in an entry is written from a state that is reached in it, and its resolver is picked from the
-- entry's
module _ {C A R Q : Type 0} (entry : Spelling C Q) (w : Spelling A R) (s : Shape) (see : C → A) (reached : C → State → State) (pick : Q → R)
    (picks : (x : C) (st : State) → pick (entry.resolver x st) ≡ w.resolver (see x) (reached x st))
    (sized : (x : A) (r : R) (pos : ℕ) → w.own_fits x r pos → length (w.own x r pos) ≡ size_of s) where
  abbrev part_own : C → State → ℕ → List ℕ
  part_own x st pos = w.own (see x) (w.resolver (see x) (reached x st)) pos

  abbrev part_fits : C → State → ℕ → Type 0
  part_fits x st pos = w.own_fits (see x) (w.resolver (see x) (reached x st)) pos

  abbrev part_refused : Error → C → State → ℕ → Type 0
  part_refused e x st pos = w.own_refused (see x) (w.resolver (see x) (reached x st)) pos e

  module _ (xs : List C) (kept : List Q) (bytes : List ℕ) (start pos : ℕ) where
    -- the first parts are written, regardless of the state that the data was written from
    pub record PartsLaid (i offset : ℕ) (now : List ℕ) : Type 0 where
      pub within : i ≤ length xs
      pub counted : offset ≡ i * size_of s
      pub laid :
          (st : State) → kept ≡ resolvers entry xs st
          → Laid (state_after entry) (size_of s) part_own part_fits (λ x then at. sized (see x) (w.resolver (see x) (reached x then)) at) xs bytes start pos st i now

    pub parts_none : PartsLaid 0 0 bytes
    parts_none = record { within = omega arith; counted = omega arith; laid = λ st made. laid_none _ _ _ _ _ xs bytes start pos st }

    module _ {i offset : ℕ} {now : List ℕ} (x : C) (less : i < length xs) (is : x ≡ get_or xs i x) (room : start + length xs * size_of s ≤ length bytes) (stands : pos + length xs * size_of s < 2 ^ 64) (h : PartsLaid i offset now) where
      pub next_ends : offset + size_of s ≤ length xs * size_of s
      next_ends =
          let m : suc i * size_of s ≤ length xs * size_of s = mul-le-mul_right (size_of s) (omega (arith, less)) in
          let step : suc i * size_of s ≡ i * size_of s + size_of s = omega arith in
          omega (arith, m, step, h.counted)

      -- its resolver is kept
      pub kept_there : (st : State) → kept ≡ resolvers entry xs st → i < length kept
      kept_there st made = let n : length kept ≡ length xs = ap length made ∙ length-resolvers entry xs st in omega (arith, n, less)

      module _ (d : Q) (st : State) (made : kept ≡ resolvers entry xs st) where
        -- the resolver of the next one
        picked : pick (get_or kept i d) ≡ w.resolver (see x) (reached x (state_before (state_after entry) xs i st))
        picked = ap pick (kept_at entry xs kept i x d st made less is) ∙ picks x (state_before (state_after entry) xs i st)

        -- it can be resolved
        pub parts_can : HasBytes bytes start (zeros (length xs * size_of s)) → CanResolve w s (see x) (pick (get_or kept i d)) now (start + offset) (pos + offset)
        parts_can blank =
            let there : start + offset ≡ start + i * size_of s = omega (arith, h.counted) in
            let Z : ℕ → Type 0 = λ n. HasBytes now n (zeros (size_of s)) in
            let long : length now ≡ length bytes = laid_length _ _ _ _ _ xs bytes start pos x less is room (h.laid st made) in
            record {
              room = omega (arith, next_ends, room, long);
              stands = omega (arith, next_ends, stands);
              blank = subst Z (sym there) (laid_zero _ _ _ _ _ xs bytes start pos x less is room (h.laid st made) blank);
              made = (reached x (state_before (state_after entry) xs i st), picked);
            }

        -- or is refused
        pub parts_refused : (e : Error) → w.own_refused (see x) (pick (get_or kept i d)) (pos + offset) e → AnySlot (state_after entry) (size_of s) (part_refused e) xs st pos
        parts_refused e r =
            let R' : R → Type 0 = λ q. w.own_refused (see x) q (pos + offset) e in
            laid_refused _ _ _ _ _ xs bytes start pos x less is room (h.laid st made) (part_refused e) (pos + offset) (omega (arith, h.counted)) (subst R' picked r)

      -- and is
      pub parts_next : (d : Q) (size : ℕ) (next : List ℕ) → size ≡ min (size_of s) (2 ^ 64 - 1) → w.own_fits (see x) (pick (get_or kept i d)) (pos + offset) → next ≡ overwrite now (start + offset) (w.own (see x) (pick (get_or kept i d)) (pos + offset))
          → PartsLaid (i + 1) (offset + size) next
      parts_next d size next cut fit e =
          let step : (i + 1) * size_of s ≡ i * size_of s + size_of s = omega arith in
          let whole : size ≡ size_of s = omega (arith, next_ends, stands, cut) in
          record {
            within = omega (arith, less);
            counted = omega (arith, h.counted, step, whole);
            laid = λ st made.
                let is_picked = picked d st made in
                let F : R → Type 0 = λ q. w.own_fits (see x) q (pos + offset) in
                laid_next _ _ _ _ _ xs bytes start pos x less is room (h.laid st made) next (start + offset) (pos + offset) (omega (arith, h.counted)) (omega (arith, h.counted)) (subst F is_picked fit)
                (e ∙ ap (λ q. overwrite now (start + offset) (w.own (see x) q (pos + offset))) is_picked);
          }

    pub parts_all : {i offset : ℕ} {now : List ℕ} (st : State) → kept ≡ resolvers entry xs st → length xs ≤ i → PartsLaid i offset now
        → AllSlots (state_after entry) (size_of s) part_fits xs st pos × (now ≡ overwrite bytes start (slots (state_after entry) (size_of s) part_own xs st pos))
    parts_all st made end h = laid_all _ _ _ _ _ xs bytes start pos end (h.laid st made)
