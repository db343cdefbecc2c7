-- Elements that are written one after another.
use Rattle.std.proofs.Common.{◌≡◌, ℕ, suc, ◌+◌, ◌≤◌, ◌<◌, List, [], ◌∷◌, ◌++◌, refl, sym, ap, subst, ◌∙◌, length, drop, get_or, append-nil, append_assoc, inl, inr, drop-cons, add-one}
use Rattle.std.proofs.Math.ListN.{drop_of_length-le}
use Rattle.archive_shape_layout.specs.Shape.{Shape}
use Rattle.archive_shape_layout.specs.Writing.{WriterMembers}
use Rattle.archive_shape_layout.specs.declared.error.Error.{Error}
use Rattle.archive_shape_layout.specs.declared.error.Error.TheVariants.{OutOfMemory}
use Rattle.archive_shape_layout.proofs.Joined.{written_none}
use Rattle.archive_forms_laws.specs.State.{State}
use Rattle.archive_forms_laws.specs.Spelling.{Spelling, state_after}
use Rattle.archive_forms_laws.specs.Regions.{state_after_all, pieces, resolvers, owns, pieces_fit, pieces_refused, placed_fits, placed_refused, owns_fit, owns_refused}
use Rattle.archive_forms_laws.specs.Serializing.{IsAt, of_data}
use Rattle.archive_forms_writing.proofs.Laying.{Wrote, Stops, wrote_both, stopped_after, stopped_first, stopped_before}

-- the rest of a list begins with the element at its index
pub next_of : {A : Type 0} (xs : List A) (i : ℕ) (x : A) → i < length xs → x ≡ get_or xs i x → drop i xs ≡ x ∷ drop (i + 1) xs
next_of xs i x h e = rw add-one (drop-cons xs i x h ∙ ap (λ y. y ∷ drop (suc i) xs) (sym e))

pub none_left : {A : Type 0} (xs : List A) (i : ℕ) → length xs ≤ i → drop i xs ≡ []
none_left xs i h = drop_of_length-le xs h

-- a list has one resolver for each element
pub length-resolvers : {A R : Type 0} (w : Spelling A R) (xs : List A) (st : State) → length (resolvers w xs st) ≡ length xs
length-resolvers w [] st = refl
length-resolvers w (x ∷ xs) st = ap suc (length-resolvers w xs (state_after w x st))

module _ {A R W : Type 0} (w : Spelling A R) (s : WriterMembers W) (xs : List A) (old : W) (st : State) where
  -- the data of `i` elements was written
  pub record Reached (i : ℕ) (now : W) (kept : List R) : Type 0 where
    -- the state then
    pub left : State
    pub is_at : IsAt s.pos s.known now left
    pub done : List ℕ
    pub wrote : Wrote (of_data s) old now done
    pub rest : pieces w xs st ≡ done ++ pieces w (drop i xs) left
    pub kept_rest : resolvers w xs st ≡ kept ++ resolvers w (drop i xs) left
    pub ends : state_after_all w xs st ≡ state_after_all w (drop i xs) left
    pub fits : pieces_fit w (drop i xs) left → pieces_fit w xs st
    pub refused : (e : Error) → pieces_refused w (drop i xs) left e → pieces_refused w xs st e

  pub reached_none : IsAt s.pos s.known old st → Reached 0 old []
  reached_none is = record { left = st; is_at = is; done = []; wrote = written_none old; rest = refl; kept_rest = refl; ends = refl; fits = λ f. f; refused = λ e r. r }

  -- the data of the next one was written
  pub reached_next : (i : ℕ) (now next : W) (kept : List R) (x : A) → drop i xs ≡ x ∷ drop (i + 1) xs → (h : Reached i now kept)
      → Wrote (of_data s) now next (w.piece x h.left) → w.piece_fits x h.left → IsAt s.pos s.known next (state_after w x h.left) → Reached (i + 1) next (kept ++ w.resolver x h.left ∷ [])
  reached_next i now next kept x e h g f is =
      let piece = w.piece x h.left in
      let then = state_after w x h.left in
      let later = drop (i + 1) xs in
      record {
        left = then;
        is_at = is;
        done = h.done ++ piece;
        wrote = wrote_both (of_data s) (h.done ++ piece) refl h.wrote g;
        rest = h.rest ∙ ap (λ l. h.done ++ pieces w l h.left) e ∙ sym (append_assoc h.done piece (pieces w later then));
        kept_rest = h.kept_rest ∙ ap (λ l. kept ++ resolvers w l h.left) e ∙ sym (append_assoc kept (w.resolver x h.left ∷ []) (resolvers w later then));
        ends = h.ends ∙ ap (λ l. state_after_all w l h.left) e;
        fits = λ p. let Q : List A → Type 0 = λ l. pieces_fit w l h.left in h.fits (subst Q (sym e) (f, p));
        refused = λ d r. let Q : List A → Type 0 = λ l. pieces_refused w l h.left d in h.refused d (subst Q (sym e) (inr r));
      }

  -- a call stopped in the data of the next one
  pub reached_stopped : (i : ℕ) (now new : W) (kept : List R) (x : A) (e : Error) → drop i xs ≡ x ∷ drop (i + 1) xs → (h : Reached i now kept)
      → Stops (of_data s) now new (w.piece x h.left) (w.piece_refused x h.left) e
      → Stops (of_data s) old new (pieces w xs st) (pieces_refused w xs st) e
  reached_stopped i now new kept x e is h g =
      let piece = w.piece x h.left in
      let rest = pieces w (drop (i + 1) xs) (state_after w x h.left) in
      let refused : Error → Type 0 = w.piece_refused x h.left in
      let Q : List A → Type 0 = λ l. pieces_refused w l h.left e in
      let whole : Stops (of_data s) now new (piece ++ rest) refused e = stopped_first (of_data s) rest (piece ++ rest) refused refused refl (λ r. r) g in
      stopped_after (of_data s) (pieces w xs st) refused (pieces_refused w xs st)
      (h.rest ∙ ap (λ l. h.done ++ pieces w l h.left) is)
      (λ r. h.refused e (subst Q (sym is) (inl r))) h.wrote whole

  -- the data of the first one was written
  pub reached_first : (next : W) (x : A) → drop 0 xs ≡ x ∷ drop (0 + 1) xs → IsAt s.pos s.known old st
      → Wrote (of_data s) old next (w.piece x st) → w.piece_fits x st → IsAt s.pos s.known next (state_after w x st) → Reached 1 next (w.resolver x st ∷ [])
  unfolding reached_none
  reached_first next x e is g f at = reached_next 0 old next [] x e (reached_none is) g f at

  -- a call stopped in it
  pub first_stopped : (new : W) (x : A) (e : Error) → drop 0 xs ≡ x ∷ drop (0 + 1) xs → IsAt s.pos s.known old st
      → Stops (of_data s) old new (w.piece x st) (w.piece_refused x st) e
      → Stops (of_data s) old new (pieces w xs st) (pieces_refused w xs st) e
  unfolding reached_none
  first_stopped new x e is at g = reached_stopped 0 old new [] x e is (reached_none at) g

  -- an allocation failed
  pub reached_memory : (i : ℕ) (now : W) (kept : List R) → Reached i now kept → Stops (of_data s) old now (pieces w xs st) (pieces_refused w xs st) OutOfMemory
  reached_memory i now kept h =
      let none : Error → Type 0 = λ _. ⊥ in
      stopped_after (of_data s) (pieces w xs st) none (pieces_refused w xs st) h.rest (λ r. absurd r) h.wrote
      (stopped_before (of_data s) now (pieces w (drop i xs) h.left) none OutOfMemory (inl refl))

  pub record ReachedAll (now : W) (kept : List R) : Type 0 where
    pub wrote : Wrote (of_data s) old now (pieces w xs st)
    pub kept_is : kept ≡ resolvers w xs st
    pub fits : pieces_fit w xs st
    pub is_at : IsAt s.pos s.known now (state_after_all w xs st)

  pub reached_all : (i : ℕ) (now : W) (kept : List R) → drop i xs ≡ [] → Reached i now kept → ReachedAll now kept
  reached_all i now kept e h =
      let P : List ℕ → Type 0 = λ l. Wrote (of_data s) old now l in
      let Q : List A → Type 0 = λ l. pieces_fit w l h.left in
      let A : State → Type 0 = λ t. IsAt s.pos s.known now t in
      record {
        wrote = subst P (sym (h.rest ∙ ap (λ l. h.done ++ pieces w l h.left) e ∙ append-nil h.done)) h.wrote;
        kept_is = sym (h.kept_rest ∙ ap (λ l. kept ++ resolvers w l h.left) e ∙ append-nil kept);
        fits = h.fits (subst Q (sym e) tt);
        is_at = subst A (sym (h.ends ∙ ap (λ l. state_after_all w l h.left) e)) h.is_at;
      }

module _ {A R W : Type 0} (w : Spelling A R) (shape : Shape) (s : WriterMembers W) (xs : List A) (kept : List R) (st : State) (old : W) where
  -- the own bytes of `i` elements were written
  pub record Placed (i : ℕ) (now : W) : Type 0 where
    -- the state that the data of the others was written from
    pub from : State
    pub done : List ℕ
    pub wrote : Wrote s old now done
    pub rest : owns w xs st (s.pos old) ≡ done ++ owns w (drop i xs) from (s.pos now)
    pub kept_rest : drop i kept ≡ resolvers w (drop i xs) from
    pub fits : owns_fit w shape (drop i xs) from (s.pos now) → owns_fit w shape xs st (s.pos old)
    pub refused : (e : Error) → owns_refused w shape (drop i xs) from (s.pos now) e → owns_refused w shape xs st (s.pos old) e

  pub placed_none : kept ≡ resolvers w xs st → Placed 0 old
  placed_none e = record { from = st; done = []; wrote = written_none old; rest = refl; kept_rest = e; fits = λ f. f; refused = λ e r. r }

  -- the resolver of the next one
  pub next_made : (i : ℕ) (now : W) (x : A) (k : R) → drop i xs ≡ x ∷ drop (i + 1) xs → drop i kept ≡ k ∷ drop (i + 1) kept → (h : Placed i now)
      → (k ≡ w.resolver x h.from) × (drop (i + 1) kept ≡ resolvers w (drop (i + 1) xs) (state_after w x h.from))
  next_made i now x k e f h =
      let both : k ∷ drop (i + 1) kept ≡ w.resolver x h.from ∷ resolvers w (drop (i + 1) xs) (state_after w x h.from) = sym f ∙ h.kept_rest ∙ ap (λ l. resolvers w l h.from) e in
      (cc, cc)

  pub placed_next : (i : ℕ) (now next : W) (x : A) (k : R) → drop i xs ≡ x ∷ drop (i + 1) xs → drop i kept ≡ k ∷ drop (i + 1) kept → Placed i now
      → Wrote s now next (w.own x k (s.pos now)) → placed_fits w shape x k (s.pos now) → Placed (i + 1) next
  placed_next i now next x k e f h g fit =
      let m = next_made i now x k e f h in
      let then = state_after w x h.from in
      let later = drop (i + 1) xs in
      let own = w.own x (w.resolver x h.from) (s.pos now) in
      let P : R → Type 0 = λ r. Wrote s now next (w.own x r (s.pos now)) in
      let F : R → Type 0 = λ r. placed_fits w shape x r (s.pos now) in
      let wrote : Wrote s now next own = subst P m.0 g in
      let at : s.pos now + length own ≡ s.pos next = sym wrote.moves in
      record {
        from = then;
        done = h.done ++ own;
        wrote = wrote_both s (h.done ++ own) refl h.wrote wrote;
        rest = h.rest ∙ ap (λ l. h.done ++ owns w l h.from (s.pos now)) e ∙ ap (λ n. h.done ++ (own ++ owns w later then n)) at ∙ sym (append_assoc h.done own (owns w later then (s.pos next)));
        kept_rest = m.1;
        fits = λ p. let N : ℕ → Type 0 = λ n. owns_fit w shape later then n in let Q : List A → Type 0 = λ l. owns_fit w shape l h.from (s.pos now) in h.fits (subst Q (sym e) (subst F m.0 fit, subst N (sym at) p));
        refused = λ d r. let N : ℕ → Type 0 = λ n. owns_refused w shape later then n d in let Q : List A → Type 0 = λ l. owns_refused w shape l h.from (s.pos now) d in h.refused d (subst Q (sym e) (inr (subst N (sym at) r)));
      }

  -- a call stopped in the own bytes of the next one
  pub placed_stopped : (i : ℕ) (now new : W) (x : A) (k : R) (e : Error) → drop i xs ≡ x ∷ drop (i + 1) xs → drop i kept ≡ k ∷ drop (i + 1) kept → Placed i now
      → Stops s now new (w.own x k (s.pos now)) (placed_refused w shape x k (s.pos now)) e
      → Stops s old new (owns w xs st (s.pos old)) (owns_refused w shape xs st (s.pos old)) e
  placed_stopped i now new x k e is f h g =
      let m = next_made i now x k is f h in
      let own = w.own x (w.resolver x h.from) (s.pos now) in
      let rest = owns w (drop (i + 1) xs) (state_after w x h.from) (s.pos now + length own) in
      let refused : Error → Type 0 = placed_refused w shape x (w.resolver x h.from) (s.pos now) in
      let P : R → Type 0 = λ r. Stops s now new (w.own x r (s.pos now)) (placed_refused w shape x r (s.pos now)) e in
      let Q : List A → Type 0 = λ l. owns_refused w shape l h.from (s.pos now) e in
      let whole : Stops s now new (own ++ rest) refused e = stopped_first s rest (own ++ rest) refused refused refl (λ r. r) (subst P m.0 g) in
      stopped_after s (owns w xs st (s.pos old)) refused (owns_refused w shape xs st (s.pos old))
      (h.rest ∙ ap (λ l. h.done ++ owns w l h.from (s.pos now)) is)
      (λ r. h.refused e (subst Q (sym is) (inl r))) h.wrote whole

  pub placed_all : (i : ℕ) (now : W) → drop i xs ≡ [] → Placed i now → Wrote s old now (owns w xs st (s.pos old)) × owns_fit w shape xs st (s.pos old)
  placed_all i now e h =
      let P : List ℕ → Type 0 = λ l. Wrote s old now l in
      let Q : List A → Type 0 = λ l. owns_fit w shape l h.from (s.pos now) in
      (subst P (sym (h.rest ∙ ap (λ l. h.done ++ owns w l h.from (s.pos now)) e ∙ append-nil h.done)) h.wrote, h.fits (subst Q (sym e) tt))
