-- The table of all entries of a map, as all items that came are written.
use Rattle.std.proofs.Common.{◌≡◌, ◌∙◌, ℕ, List, [], ◌∷◌, ◌++◌, append-nil, length, map, All, refl, ap, ap₂, sym, subst, inl, inr, Result, Err, arith}
use Rattle.std.specs.Iterator.{Yields, Drains}
use Rattle.std.specs.Map.Iter.{TakesFirst, deref_pair}
use Rattle.std.proofs.lemmas.Slice.Zip.{AllZip-map}
use Rattle.archive_shape_layout.specs.Shape.{Shape}
use Rattle.archive_shape_layout.specs.Writing.{WriterMembers}
use Rattle.archive_shape_layout.specs.declared.error.Error.{Error}
use Rattle.archive_shape_layout.specs.declared.error.Error.TheVariants.{OutOfMemory}
use Rattle.archive_forms_values.specs.Tuples.{tuple2}
use Rattle.archive_forms_laws.specs.Spelling.{Spelling}
use Rattle.archive_forms_laws.specs.Fields.{tuple2_spelling}
use Rattle.archive_forms_laws.specs.Serializing.{of_data, Serializes}
use Rattle.archive_forms_laws.specs.Taking.{GivesAs}
use Rattle.archive_forms_writing.proofs.Laying.{stopped_before}
use Rattle.archive_hash_maps.specs.declared.map.resolving.HashTableResolver.{HashTableResolver}
use Rattle.archive_hash_writing.specs.Claimed.{WritesClaimed, WritesHashed, written_spelling}
use Rattle.archive_hash.specs.Given.{TakesGiven, WritesEntries}
use Rattle.archive_hash.specs.Owned.{entries_spelling}

module _ {T X : Type 0} (shows : T → X) where
  came_seen : (from upto ys : List X) → Yields (GivesAs shows (TakesFirst shows)) from ys upto → from ≡ ys ++ upto
  came_seen from upto [] p = p
  came_seen from upto (y ∷ ys) p = p.1.1 ∙ ap₂ (λ a l. a ∷ l) p.1.2 (came_seen p.0 upto ys p.2)

  -- all of a list came
  pub drained_all : (from ys : List X) → Drains (GivesAs shows (TakesFirst shows)) from ys → from ≡ ys
  drained_all from ys d = came_seen from d.1.0 ys d.1.1 ∙ ap (λ l. ys ++ l) d.1.2.0 ∙ append-nil ys

-- a step that may be called for each entry of a list may be called for those of its entries that the iterator returns
pub takes_given : {A B F : Type 0} (takes : F → A × B → Type 0) (step : F) (from : List (A × B)) → All (takes step) from → TakesGiven (TakesFirst deref_pair) takes step from
takes_given takes step from all = record { each = λ es d. subst (All (takes step)) (drained_all deref_pair from es d) all }

-- what may have come by one account came by another
pub hashed_more : {X P W : Type 0} (came comes : List X → Type 0) (load : ℕ × ℕ) (spelled : List ℕ → Spelling (List X) P) (s : WriterMembers W) (hashes : X → ℕ → Type 0) (claimed : ℕ) (old new : W) (result : Result P Error)
    → ((xs : List X) → came xs → comes xs) → WritesHashed came load spelled s hashes claimed old new result → WritesHashed comes load spelled s hashes claimed old new result
hashed_more came comes load spelled s hashes claimed old new result more (inl r) = inl r
hashed_more came comes load spelled s hashes claimed old new result more (inr (is, inl r)) = inr (is, inl r)
hashed_more came comes load spelled s hashes claimed old new result more (inr (is, inr w)) = inr (is, inr (w.0, more w.0 w.1, w.2))

pub writes_more : {A B R Q W : Type 0} (came comes : List (A × B) → Type 0) (hash : A → ℕ) (load : ℕ × ℕ) (k v : Shape) (keys : Spelling A R) (vals : Spelling B Q) (s : WriterMembers W) (claimed : ℕ) (old new : W) (result : Result HashTableResolver Error)
    → ((es : List (A × B)) → came es → comes es) → WritesEntries came hash load k v keys vals s claimed old new result → WritesEntries comes hash load k v keys vals s claimed old new result
writes_more came comes hash load k v keys vals s claimed old new result more h =
    hashed_more came comes load (written_spelling load (tuple2 k v) (tuple2_spelling k keys v vals)) s (λ e n. n ≡ hash e.0) claimed old new result more h

-- items that are claimed by their number, of which all came, are written by the hash of each
module _ {X P W : Type 0} (spelled : List ℕ → Spelling (List X) P) (hash : X → ℕ) (s : WriterMembers W) (xs : List X) (old new : W) (result : Result P Error) where
  no_memory : result ≡ Err OutOfMemory → new ≡ old → Serializes (spelled (map hash xs)) s xs old new result
  no_memory is same =
      let w = spelled (map hash xs) in
      let Of : W → Result P Error → Type 0 = λ n r. Serializes w s xs old n r in
      subst (Of new) (sym is) (subst (λ n. Of n (Err OutOfMemory)) (sym same) (λ st at. stopped_before (of_data s) old (w.piece xs st) (w.piece_refused xs st) OutOfMemory (inl refl)))

  claimed_all : (ys : List X) → xs ≡ ys → WritesClaimed spelled s (λ x h. h ≡ hash x) (length xs) ys old new result → Serializes (spelled (map hash xs)) s xs old new result
  claimed_all ys all (inl w) =
      let Of : List ℕ → Type 0 = λ hs. Serializes (spelled hs) s ys old new result in
      let written : Serializes (spelled (map hash ys)) s ys old new result = subst Of (AllZip-map hash ys w.1 w.2) w.3 in
      subst (λ l. Serializes (spelled (map hash l)) s l old new result) (sym all) written
  claimed_all ys all (inr w) = absurd (w.0 (sym (ap length all)))

  pub all_written : (comes : List X → Type 0) (claimed : ℕ) → ((ys : List X) → comes ys → xs ≡ ys) → claimed ≡ length xs
      → WritesHashed comes (7, 8) spelled s (λ x h. h ≡ hash x) claimed old new result
      → Serializes (spelled (map hash xs)) s xs old new result
  all_written comes claimed all counted (inl r) = absurd (r.0 (omega arith, omega arith))
  all_written comes claimed all counted (inr (load, inl r)) = no_memory r.0 r.1
  all_written comes claimed all counted (inr (load, inr w)) =
      let Of : ℕ → Type 0 = λ n. WritesClaimed spelled s (λ x h. h ≡ hash x) n w.0 old new result in
      claimed_all w.0 (all w.0 w.1) (subst Of counted w.2)

module _ {A B R Q W : Type 0} (hash : A → ℕ) (k v : Shape) (keys : Spelling A R) (vals : Spelling B Q) (s : WriterMembers W) (es : List (A × B)) (old new : W) (result : Result HashTableResolver Error) where
  -- the number of entries that are claimed is the length of their list: the table of them was written
  pub whole_written : (from : List (A × B)) (claimed : ℕ) → from ≡ es → claimed ≡ length es
      → WritesEntries (Drains (GivesAs deref_pair (TakesFirst deref_pair)) from) hash (7, 8) k v keys vals s claimed old new result
      → Serializes (entries_spelling hash k v keys vals) s es old new result
  whole_written from claimed is counted h =
      all_written (written_spelling (7, 8) (tuple2 k v) (tuple2_spelling k keys v vals)) (λ e. hash e.0) s es old new result
      (Drains (GivesAs deref_pair (TakesFirst deref_pair)) from) claimed (λ xs d. sym is ∙ drained_all deref_pair from xs d) counted h
