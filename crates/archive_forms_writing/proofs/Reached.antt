-- Parts that are written one after the other: each is written where the layout has it, and its data ends where that of
-- the others begins.
use Rattle.std.proofs.Common.{◌≡◌, ℕ, zero, suc, ◌+◌, ◌-◌, ◌*◌, ◌≤◌, List, [], ◌∷◌, ◌++◌, length, length-append, slice_get, Some, refl, sym, ap, subst, ◌∙◌, arith, add-zero}
use Rattle.std.proofs.lemmas.List.{length-replicate}
use Rattle.archive_shape_layout.specs.Bytes.{align_up}
use Rattle.archive_shape_layout.specs.Shape.{Shape, size_of, align_of, fields_end}
use Rattle.archive_shape_layout.specs.Shape.Shape.{tuple}
use Rattle.archive_shape_layout.specs.Content.{Names}
use Rattle.archive_shape_layout.proofs.Framed.{le_align_up, le_fields_end}
use Rattle.archive_shape_layout.proofs.PointerSizes.{first_multiple}
use Rattle.archive_shape_canonical.specs.Settled.{Fit}
use Rattle.archive_shape.specs.Bytes.{HasBytes, zeros}
use Rattle.archive_shape.proofs.Pieces.{stands_left, stands_right}
use Rattle.archive_forms_laws.specs.State.{State, Keys, IsConsistent, AreKeyedBy}
use Rattle.archive_forms_laws.specs.Spelling.{Spelling, state_after}
use Rattle.archive_forms_laws.specs.Spells.{SpellsAt, EachSpells}
use Rattle.archive_forms_laws.specs.Forms.{seen_as, kept_as}
use Rattle.archive_forms_laws.specs.Fields.{FieldsSpelling, more_fields, struct_spelling}
use Rattle.archive_forms_laws.specs.Regions.{state_after_all, all_suit, pieces, owns, pieces_fit, region_at, region_piece}
use Rattle.archive_forms_laws.specs.WrittenAt.{IsWrittenAt}
use Rattle.archive_forms_laws.proofs.Fields.{struct_room}
use Rattle.archive_forms_laws.proofs.Regions.{OwnsPass, gap_stands, region_up, state_after_all_pos}
use Rattle.archive_forms_writing.specs.Readable.{SeenIsWritten, KeptIsWritten}

-- ---- views

module _ {A R : Type 0} (w : Spelling A R) where
  unfoldable pub seen_law : (B : Type 0) → SeenIsWritten w B
  seen_law B view x bytes pos keys h = record {
    state = h.state;
    consistent = h.consistent;
    keyed = h.keyed;
    piece_fits = h.piece_fits;
    own_fits = h.own_fits;
    piece = h.piece;
    own = h.own;
  }

  unfoldable pub kept_law : (Q : Type 0) → KeptIsWritten w Q
  kept_law Q make get x bytes pos keys back h =
      let same = back (w.resolver x h.state) in
      let P : R → Type 0 = λ r. w.own_fits x r pos in
      let O : R → Type 0 = λ r. HasBytes bytes pos (w.own x r pos) in
      record {
        state = h.state;
        consistent = h.consistent;
        keyed = h.keyed;
        piece_fits = h.piece_fits;
        own_fits = subst P same h.own_fits;
        piece = h.piece;
        own = subst O same h.own;
      }

-- ---- elements

module _ {A R : Type 0} (fit : Fit) (s : Shape) (knows : Names → Type 0) (w : Spelling A R) (keys : Keys) (bytes : List ℕ) where
  -- of values whose data is written one after the other, and so are their own bytes, the first is written there
  unfoldable pub head : (x : A) (xs : List A) (st : State) (pos : ℕ) → IsConsistent st → AreKeyedBy keys st.met → pieces_fit w (x ∷ xs) st → OwnsPass fit s knows w (x ∷ xs) st pos
      → HasBytes bytes st.pos (pieces w (x ∷ xs) st) → HasBytes bytes pos (owns w (x ∷ xs) st pos) → IsWrittenAt keys w bytes pos x
  head x xs st pos consistent keyed f o p q = record {
    state = st;
    consistent = consistent;
    keyed = keyed;
    piece_fits = f.0;
    own_fits = o.0;
    piece = stands_left bytes st.pos (w.piece x st) _ p;
    own = stands_left bytes pos (w.own x (w.resolver x st) pos) _ q;
  }

  -- where the own bytes of the elements of a region lie
  pub owns_stand : (xs : List A) (st : State) → HasBytes bytes st.pos (region_piece w s xs st) → HasBytes bytes (region_at w s xs st) (owns w xs st (region_at w s xs st))
  owns_stand xs st p =
      let t = region_at w s xs st in
      let low = (state_after_all w xs st).pos in
      let gap = zeros (t - low) in
      let up = region_up fit s knows w xs st in
      let filled : length gap ≡ t - low = length-replicate _ _ in
      stands_right bytes low gap (owns w xs st t) t (omega (arith, up, filled)) (gap_stands fit s knows w xs st bytes p)

-- ---- parts in order

-- Parts of a value are written from state to state. `Invariant` is what is carried, besides what `IsWrittenAt` says, from each
-- state to the next.
abbrev pub Carries : (Invariant : State → Type 0) (keys : Keys) (bytes : List ℕ) {A R : Type 0} → Spelling A R → A → Type 0
Carries Invariant keys bytes w x = (pos : ℕ) (h : IsWrittenAt keys w bytes pos x) → Invariant h.state → Invariant (state_after w x h.state)

-- The data of each part ends up to `limit`, and its own bytes up to `top`.
module _ (Invariant : State → Type 0) (keys : Keys) (bytes : List ℕ) (limit top : ℕ) where
  pub record Reached {A R : Type 0} (s : Shape) (w : Spelling A R) (pos : ℕ) (x : A) : Type 0 where
    pub written : IsWrittenAt keys w bytes pos x
    pub invariant : Invariant written.state
    pub behind : (state_after w x written.state).pos ≤ limit
    pub within : pos + size_of s ≤ top

  -- the same of the fields of the struct at a position, from an offset in it on
  pub record FieldsReached {A R : Type 0} (fs : FieldsSpelling A R) (pos offset : ℕ) (x : A) : Type 0 where
    state : State
    consistent : IsConsistent state
    keyed : AreKeyedBy keys state.met
    piece_fits : fs.piece_fits x state
    own_fits : fs.own_fits x (fs.resolver x state) pos offset
    piece : HasBytes bytes state.pos (fs.piece x state)
    own : HasBytes bytes (pos + offset) (fs.own x (fs.resolver x state) pos offset)
    invariant : Invariant state
    behind : state.pos + length (fs.piece x state) ≤ limit
    within : pos + fields_end fs.shapes offset ≤ top

  module _ (fit : Fit) (pos : ℕ) where
    module _ {A B R Q : Type 0} (s : Shape) (w : Spelling A R) (others : FieldsSpelling B Q) (knows : Names → Type 0) (x : A) (y : B) (one : SpellsAt fit s knows w x) (carries : Carries Invariant keys bytes w x)
        (suits : w.suits fit keys x) where
      -- the first of them is at the next multiple of its alignment, and the others are after it
      pub next : (offset : ℕ) → FieldsReached (more_fields s w others) pos offset (x, y)
          → Reached s w (pos + align_up offset (align_of s)) x × FieldsReached others pos (align_up offset (align_of s) + size_of s) y
      next offset h =
          let st = h.state in
          let then = state_after w x st in
          let from = align_up offset (align_of s) in
          let gap = zeros (from - offset) in
          let piece = w.piece x st in
          let pieces_behind = others.piece y then in
          let own = w.own x (w.resolver x st) (pos + from) in
          let owns_behind = others.own y (others.resolver y then) pos (from + size_of s) in
          let up = le_align_up offset (align_of s) in
          let filled : length gap ≡ from - offset = length-replicate _ _ in
          let size = one.sized (w.resolver x st) (pos + from) h.own_fits.0 in
          let both = stands_right bytes (pos + offset) gap (own ++ owns_behind) (pos + from) (omega (arith, up, filled)) h.own in
          let long = length-append piece pieces_behind in
          let end = h.behind in
          let room = h.within in
          let written : IsWrittenAt keys w bytes (pos + from) x = record {
            state = st;
            consistent = h.consistent;
            keyed = h.keyed;
            piece_fits = h.piece_fits.0;
            own_fits = h.own_fits.0;
            piece = stands_left bytes st.pos piece pieces_behind h.piece;
            own = stands_left bytes (pos + from) own owns_behind both;
          } in (
            record { written = written; invariant = h.invariant; behind = omega (arith, end, long); within = omega (arith, room, le_fields_end others.shapes (from + size_of s)) },
            record {
              state = then;
              consistent = one.consistent st h.consistent h.piece_fits.0;
              keyed = (one.keyed keys st suits h.keyed h.piece_fits.0).1;
              piece_fits = h.piece_fits.1;
              own_fits = h.own_fits.1;
              piece = stands_right bytes st.pos piece pieces_behind then.pos refl h.piece;
              own = stands_right bytes (pos + from) own owns_behind (pos + (from + size_of s)) (omega (arith, size)) both;
              invariant = carries (pos + from) written h.invariant;
              behind = omega (arith, end, long);
              within = room;
            },
          )

      -- the first of all is at the struct's position
      pub first : FieldsReached (more_fields s w others) pos 0 (x, y) → Reached s w pos x × FieldsReached others pos (size_of s) y
      first h =
          let parts = next 0 h in
          let start = first_multiple (align_of s) in
          let end : align_up 0 (align_of s) + size_of s ≡ size_of s = omega (arith, start) in
          (subst (λ at. Reached s w at x) (ap (λ n. pos + n) start ∙ add-zero pos) parts.0, subst (λ n. FieldsReached others pos n y) end parts.1)

    -- the fields of a value that is seen as a struct, regardless of what its resolver is kept as
    pub opened : {T A R K : Type 0} (view : T → A) (make : R → K) (get : K → R) (back : (r : R) → get (make r) ≡ r) (fs : FieldsSpelling A R) (x : T)
        (h : IsWrittenAt keys (kept_as make get (seen_as view (struct_spelling fs))) bytes pos x)
        → Invariant h.state → (state_after (struct_spelling fs) (view x) h.state).pos ≤ limit → pos + size_of (tuple fs.shapes) ≤ top → FieldsReached fs pos 0 (view x)
    unfolding seen_law kept_law
    opened {T = T} {K = K} view make get back fs x h kept behind within =
        let struct = seen_law (struct_spelling fs) T view x bytes pos keys (kept_law (seen_as view (struct_spelling fs)) K make get x bytes pos keys back h) in
        let own = fs.own (view x) (fs.resolver (view x) struct.state) pos 0 in
        let room = struct_room fs.shapes in
        record {
          state = struct.state;
          consistent = struct.consistent;
          keyed = struct.keyed;
          piece_fits = struct.piece_fits;
          own_fits = struct.own_fits;
          piece = struct.piece;
          own = subst (λ at. HasBytes bytes at own) (sym (add-zero pos)) (stands_left bytes pos own _ struct.own);
          invariant = kept;
          behind = behind;
          within = omega (arith, room, within);
        }

  -- each element of adjacent ones, whose data is written one after the other
  module _ {A R : Type 0} (fit : Fit) (s : Shape) (knows : Names → Type 0) (w : Spelling A R) where
    pub each : (xs : List A) (all : EachSpells fit s knows w xs) (st : State) (pos : ℕ) → all_suit w fit keys xs → IsConsistent st → AreKeyedBy keys st.met
        → pieces_fit w xs st → OwnsPass fit s knows w xs st pos → HasBytes bytes st.pos (pieces w xs st) → HasBytes bytes pos (owns w xs st pos)
        → ((y : A) → w.suits fit keys y → Carries Invariant keys bytes w y) → Invariant st → (state_after_all w xs st).pos ≤ limit → pos + length xs * size_of s ≤ top
        → (i : ℕ) (y : A) → slice_get xs i ≡ Some y → Reached s w (pos + i * size_of s) y
    unfolding head
    each [] all st pos suits consistent keyed f o p q carries kept behind within i y is = absurd (cc)
    each (x ∷ xs) all st pos suits consistent keyed f o p q carries kept behind within zero y is =
        let later = state_after_all_pos fit s knows w xs (state_after w x st) in
        let reached : Reached s w pos x = record {
          written = head fit s knows w keys bytes x xs st pos consistent keyed f o p q;
          invariant = kept;
          behind = omega (arith, later, behind);
          within = omega (arith, within);
        } in
        let same : x ≡ y = cc in
        subst (λ z. Reached s w (pos + 0 * size_of s) z) same (subst (λ n. Reached s w n x) (omega arith) reached)
    each (x ∷ xs) all st pos suits consistent keyed f o p q carries kept behind within (suc i) y is =
        let then = state_after w x st in
        let own = w.own x (w.resolver x st) pos in
        let size = all.0.sized (w.resolver x st) pos o.0 in
        let rest = each xs all.1 then (pos + length own) suits.1 (all.0.consistent st consistent f.0) (all.0.keyed keys st suits.0 keyed f.0).1 f.1 o.1
        (stands_right bytes st.pos (w.piece x st) (pieces w xs then) then.pos refl p)
        (stands_right bytes pos own (owns w xs then (pos + length own)) (pos + length own) refl q)
        carries (carries x suits.0 pos (head fit s knows w keys bytes x xs st pos consistent keyed f o p q) kept) behind (omega (arith, size, within)) i y is in
        subst (λ n. Reached s w n y) (omega (arith, size)) rest
