-- The data of the items at the places of a table, written by ascending place.
use Rattle.std.proofs.Common.{◌≡◌, ℕ, ◌+◌, ◌<◌, ◌≤◌, List, [], ◌∷◌, ◌++◌, length, drop, get_or, refl, sym, ap, subst, ◌∙◌, Option, Some, None, length-append}
use denote.Bor.{Bor}
use Rattle.archive_shape_layout.specs.Writing.{WriterMembers}
use Rattle.archive_shape_layout.specs.declared.error.Error.{Error}
use Rattle.archive_shape_layout.specs.declared.error.Error.TheVariants.{OutOfMemory}
use Rattle.archive_forms_laws.specs.State.{State}
use Rattle.archive_forms_laws.specs.Spelling.{Spelling, state_after}
use Rattle.archive_forms_laws.specs.Regions.{pieces, pieces_refused}
use Rattle.archive_forms_laws.specs.Serializing.{of_data, IsAt}
use Rattle.archive_forms_writing.proofs.Laying.{Wrote, Stops}
use Rattle.archive_forms_writing.proofs.Loops.{Reached, ReachedAll, reached_none, reached_next, reached_stopped, reached_memory, reached_all}
use Rattle.archive_hash_writing.proofs.Present.{items, items_from, passed_none, passed_item, passed_all, there, behind}

module _ {A R W : Type 0} (w : Spelling A R) (s : WriterMembers W) (table : List (Option (Bor A))) (old : W) where
  -- the data of the items before a place was written, from each state that the serializer may have been in
  pub record Presented (p : ℕ) (now : W) (kept : List R) : Type 0 where
    pub left : drop (length kept) (items table) ≡ items_from table p
    pub reached : (st : State) → IsAt s.pos s.known old st → Reached w s (items table) old st (length kept) now kept

  pub presented_none : (kept : List R) → kept ≡ [] → Presented 0 old kept
  presented_none kept e = let P : List R → Type 0 = λ l. Presented 0 old l in subst P (sym e) (record { left = refl; reached = λ st at. reached_none w s (items table) old st at })

  -- the same for equal values
  pub presented_as : (p : ℕ) (now new : W) (kept all : List R) → Presented p now kept → new ≡ now → all ≡ kept → Presented p new all
  presented_as p now new kept all h e f = let P : W → Type 0 = λ n. Presented p n all in let Q : List R → Type 0 = λ l. Presented p now l in subst P (sym e) (subst Q (sym f) h)

  -- there is no item at a place
  pub presented_passed : (p : ℕ) (now : W) (kept : List R) → p < length table → None ≡ get_or table p None → Presented p now kept → Presented (p + 1) now kept
  presented_passed p now kept less is h = record { left = passed_none table p (length kept) less is h.left; reached = h.reached }

  module _ (p : ℕ) (now : W) (kept : List R) (r : Bor A) (less : p < length table) (is : Some r ≡ get_or table p (Some r)) (h : Presented p now kept) where
    next_is : drop (length kept) (items table) ≡ r.now ∷ items_from table (p + 1)
    next_is = passed_item table p (length kept) r less is h.left

    -- the item at the place
    pub next_item : (length kept < length (items table)) × (r.now ≡ get_or (items table) (length kept) r.now)
    next_item = there (items table) (items_from table (p + 1)) (length kept) r.now next_is

    next_of : drop (length kept) (items table) ≡ r.now ∷ drop (length kept + 1) (items table)
    next_of = next_is ∙ ap (λ l. r.now ∷ l) (sym (behind (items table) (items_from table (p + 1)) (length kept) r.now next_is))

    -- its data was written
    pub presented_next : (next : W) (k : R) (all : List R) → all ≡ kept ++ k ∷ []
        → ((st : State) → IsAt s.pos s.known now st → Wrote (of_data s) now next (w.piece r.now st) × ((k ≡ w.resolver r.now st) × w.piece_fits r.now st × IsAt s.pos s.known next (state_after w r.now st)))
        → Presented (p + 1) next all
    presented_next next k all e by =
        let n : length all ≡ length kept + 1 = ap length e ∙ length-append kept (k ∷ []) in
        record {
          left = ap (λ m. drop m (items table)) n ∙ behind (items table) (items_from table (p + 1)) (length kept) r.now next_is;
          reached = λ st at.
              let h0 = h.reached st at in
              let l = by h0.left h0.is_at in
              let P : List R → Type 0 = λ ks. Reached w s (items table) old st (length kept + 1) next ks in
              let Q : ℕ → Type 0 = λ m. Reached w s (items table) old st m next all in
              subst Q (sym n) (subst P (sym (e ∙ ap (λ q. kept ++ q ∷ []) l.1.0)) (reached_next w s (items table) old st (length kept) now next kept r.now next_of h0 l.0 l.1.1 l.1.2));
        }

    -- a call stopped in its data
    pub presented_stopped : (new : W) (e : Error) (st : State) (at : IsAt s.pos s.known old st)
        → ((from : State) → IsAt s.pos s.known now from → Stops (of_data s) now new (w.piece r.now from) (w.piece_refused r.now from) e)
        → Stops (of_data s) old new (pieces w (items table) st) (pieces_refused w (items table) st) e
    presented_stopped new e st at by = let h0 = h.reached st at in reached_stopped w s (items table) old st (length kept) now new kept r.now e next_of h0 (by h0.left h0.is_at)

  -- memory was refused
  pub presented_memory : (p : ℕ) (now : W) (kept : List R) → Presented p now kept → (st : State) → IsAt s.pos s.known old st → Stops (of_data s) old now (pieces w (items table) st) (pieces_refused w (items table) st) OutOfMemory
  presented_memory p now kept h st at = reached_memory w s (items table) old st (length kept) now kept (h.reached st at)

  pub presented_all : (p : ℕ) (now : W) (kept : List R) → length table ≤ p → Presented p now kept → (st : State) → IsAt s.pos s.known old st → ReachedAll w s (items table) old st now kept
  presented_all p now kept end h st at = reached_all w s (items table) old st (length kept) now kept (passed_all table p (length kept) end h.left) (h.reached st at)
