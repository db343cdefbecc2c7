-- Entries that an iterator takes from a list in order.
use Rattle.std.proofs.Common.{◌≡◌, ℕ, ◌+◌, List, [], ◌∷◌, ◌++◌, All, append-nil, length, length-append, map, Ok, Err, refl, sym, ap, ap₂, subst, ◌∙◌, inl, inr, ◌⊎◌, arith}
use Rattle.std.proofs.lemmas.List.Elements.{All-head, All-tail}
use Rattle.std.specs.Prelude.{Result, Option}
use Rattle.std.specs.Iterator.{Yields, Drains}
use Rattle.std.specs.Map.Iter.{TakesFirst, deref_pair}
use Rattle.archive_shape_layout.specs.Shape.{Shape}
use Rattle.archive_shape_layout.specs.Writing.{WriterMembers}
use Rattle.archive_shape_layout.specs.declared.error.Error.{Error}
use Rattle.archive_shape_layout.specs.declared.error.Error.TheVariants.{OutOfMemory}
use Rattle.archive_forms_laws.specs.State.{State}
use Rattle.archive_forms_laws.specs.Spelling.{Spelling}
use Rattle.archive_forms_laws.specs.Serializing.{of_data, Serializes}
use Rattle.archive_forms_writing.proofs.Laying.{Stops, stopped_before, stopped_first}
use Rattle.archive_btree_spelling.specs.Maps.{btree_spelling}
use Rattle.archive_btree_maps.specs.declared.map.resolving.BTreeMapResolver.{BTreeMapResolver}
use Rattle.archive_forms_laws.specs.Taking.{TakesEach, GivesAs}
use Rattle.archive_btree_writing.specs.Built.{IsShort, IsCutShort, BuildsClaimedBy}
use Rattle.archive_btree.specs.Owned.{TakesEntries, entries_spelling}

module _ {T X : Type 0} (shows : T → X) where
  -- what came, and what is left
  came_before : (from upto : List X) (xs : List T) → Yields (TakesFirst shows) from xs upto → from ≡ map shows xs ++ upto
  came_before from upto [] p = p
  came_before from upto (x ∷ xs) p = p.1 ∙ ap (λ l. shows x ∷ l) (came_before p.0 upto xs p.2)

  behind_all : (P : X → Type 0) (xs ys : List X) → All P (xs ++ ys) → All P ys
  behind_all P [] ys h = h
  behind_all P (x ∷ xs) ys h = behind_all P xs ys (All-tail P x (xs ++ ys) h)

  -- a step that may be called for each of the list may be called for what comes
  pub takes_each : (P : X → Type 0) (from : List X) → All P from → TakesEach (TakesFirst shows) (λ x. P (shows x)) from
  takes_each P from h = record {
    each = λ x m.
        let left = behind_all P (map shows m.0) m.1 (subst (All P) (came_before from m.1 m.0 m.3) h) in
        All-head P (shows x) m.2 (subst (All P) m.4 left);
  }

  -- the same of what came, as it is seen
  came_seen : (from upto ys : List X) → Yields (GivesAs shows (TakesFirst shows)) from ys upto → from ≡ ys ++ upto
  came_seen from upto [] p = p
  came_seen from upto (y ∷ ys) p = p.1.1 ∙ ap₂ (λ a l. a ∷ l) p.1.2 (came_seen p.0 upto ys p.2)

  -- all came
  drained_all : (from ys : List X) → Drains (GivesAs shows (TakesFirst shows)) from ys → from ≡ ys
  drained_all from ys d = came_seen from d.1.0 ys d.1.1 ∙ ap (λ l. ys ++ l) d.1.2.0 ∙ append-nil ys

-- the same of borrowed entries
pub takes_entries : {A B F : Type 0} (takes : F → A × B → Type 0) (step : F) (from : List (A × B)) → All (takes step) from → TakesEntries (TakesFirst deref_pair) takes step from
takes_entries takes step from h = let t = takes_each deref_pair (takes step) from h in record { each = t.each }

-- an allocation failed before anything came
pub none_begun : {C R W I : Type 0} (w : Spelling (List C) R) (s : WriterMembers W) (gives : I → Option C → I → Type 0) (claimed : ℕ) (from : I) (old : W)
    → IsCutShort w s gives claimed 0 claimed 0 from old old OutOfMemory
none_begun w s gives claimed from old = record {
  items = [];
  upto = from;
  came = refl;
  counted = omega arith;
  stopped = λ others size st at.
      stopped_before (of_data s) old (w.piece ([] ++ others) st) (λ d. w.piece_refused ([] ++ others) st d ⊎ IsShort w s gives claimed 0 (claimed + 0) [] from d) OutOfMemory (inl refl);
}

module _ {A B R Q W T : Type 0} (most : ℕ) (k v : Shape) (keys : Spelling A R) (vals : Spelling B Q) (s : WriterMembers W) (shows : T → A × B) (es : List (A × B)) (old new : W) where
  abbrev tree : Spelling (List (A × B)) (Option ℕ)
  tree = btree_spelling most k v keys vals

  -- no item is missing
  never_short : (items upto : List (A × B)) (e : Error) → es ≡ items ++ upto → IsShort tree s (GivesAs shows (TakesFirst shows)) (length es) 0 (length es + 0) items upto e → ⊥
  never_short items upto e all h =
      let ended : upto ≡ [] = h.ended.1.0 in
      let counted = ap length all ∙ length-append items upto in
      let none = ap length ended in
      omega (arith, h.fewer, counted, none)

  -- of the entries in a list, the number that it has is claimed: the map of them was written
  pub map_written : (result : Result BTreeMapResolver Error) → BuildsClaimedBy most k v keys vals s (GivesAs shows (TakesFirst shows)) (λ r. r.pos) (length es) es old new result
      → Serializes (entries_spelling most k v keys vals) s es old new result
  map_written (Ok r) h st at =
      let P : List (A × B) → Type 0 = λ l. Serializes tree s l old new (Ok r.pos) in
      let l = subst P (sym (drained_all shows es h.0 h.1)) h.3 st at in
      (l.0, (ap (λ p. let q : BTreeMapResolver = record { pos = p } in q) l.1.0, l.1.1, l.1.2))
  map_written (Err e) (inl c) st at =
      let all : es ≡ c.items ++ c.upto = came_seen shows es c.upto c.items c.came in
      let piece = tree.piece es st in
      let P : List ℕ → Type 0 = λ p. Stops (of_data s) old new p (tree.piece_refused es st) e in
      let refused : Error → Type 0 = λ d. tree.piece_refused (c.items ++ c.upto) st d ⊎ IsShort tree s (GivesAs shows (TakesFirst shows)) (length es) 0 (length es + 0) c.items c.upto d in
      subst P (append-nil piece)
      (stopped_first (of_data s) [] (piece ++ []) refused (tree.piece_refused es st) (ap (λ l. tree.piece l st ++ []) all) (refuses c.items c.upto all st) (c.stopped c.upto (sym (ap length all)) st at))
    where
      refuses : (items upto : List (A × B)) → es ≡ items ++ upto → (st : State) → tree.piece_refused (items ++ upto) st e ⊎ IsShort tree s (GivesAs shows (TakesFirst shows)) (length es) 0 (length es + 0) items upto e → tree.piece_refused es st e
      refuses items upto all st (inl r) = let F : List (A × B) → Type 0 = λ l. tree.piece_refused l st e in subst F (sym all) r
      refuses items upto all st (inr h) = absurd (never_short items upto e all h)
  map_written (Err e) (inr x) st at =
      let counted = ap length (drained_all shows es x.items x.came) in
      absurd (omega (arith, x.more, counted))
