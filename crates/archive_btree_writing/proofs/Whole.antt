-- Whole trees, on as many levels as their items need.
use Rattle.std.proofs.Common.{◌≡◌, ℕ, suc, ◌+◌, ◌-◌, ◌*◌, ◌^◌, ◌<◌, ◌≤◌, min, List, [], ◌∷◌, ◌++◌, length, length-append, append-nil, take, take_all, map, Option, Ok, ap, sym, subst, ◌∙◌, inl, inr, ◌⊎◌, arith}
use Rattle.std.proofs.lemmas.List.{length-map, take-append-le}
use Rattle.std.proofs.Math.Nat.{pow-succ'}
use Rattle.std.specs.Iterator.{Yields, Drains}
use Rattle.archive_shape_layout.specs.Shape.{Shape}
use Rattle.archive_shape_layout.specs.Writing.{WriterMembers}
use Rattle.archive_shape_layout.specs.declared.error.Error.{Error}
use Rattle.archive_shape_layout.specs.declared.error.Error.TheVariants.{IteratorLengthMismatch}
use Rattle.archive_forms_laws.specs.State.{State}
use Rattle.archive_forms_laws.specs.Spelling.{Spelling}
use Rattle.archive_forms_laws.specs.Serializing.{Serializes}
use Rattle.archive_shape_canonical.specs.Packed.{levels_for}
use Rattle.archive_btree_spelling.specs.Maps.{packed_spelling, btree_spelling}
use Rattle.archive_btree_spelling.proofs.Counts.{levels_between}
use Rattle.archive_btree_writing.specs.Built.{IsBuilt, IsShort, IsCutShort, IsExceeded}
use Rattle.archive_forms_laws.specs.Taking.{GivesAs}
use Rattle.archive_btree_writing.proofs.Taken.{Yields-append, Yields-as}
use Rattle.archive_btree_writing.proofs.BuildingLaying.{Stops, stops_first}

module _ {A B R Q W I : Type 0} (most : ℕ) (k v : Shape) (keys : Spelling A R) (vals : Spelling B Q) (s : WriterMembers W) (gives : I → Option (A × B) → I → Type 0)
    (above wide claimed : ℕ) (some : 0 < most) (is : wide ≡ (most + 1) ^ above) (least : wide ≤ claimed + (1 - claimed)) (room : claimed < (most + 1) * wide) where
  abbrev packed : Spelling (List (A × B)) (Option ℕ)
  packed = packed_spelling most k v keys vals (suc above)

  abbrev whole : Spelling (List (A × B)) (Option ℕ)
  whole = btree_spelling most k v keys vals

  pub all_items : 0 < wide → wide - 1 + (claimed - (wide - 1)) ≡ claimed
  all_items positive = omega (arith, least, positive)

  levels_are : 0 < claimed → levels_for most claimed ≡ suc above
  levels_are more =
      let next : (most + 1) ^ suc above ≡ (most + 1) * wide = pow-succ' (most + 1) above ∙ ap (λ z. (most + 1) * z) (sym is) in
      levels_between most claimed above some (omega (arith, is, least, more)) (omega (arith, next, room))

  -- it is the same whether the levels are those that the items need
  serialized : (xs : List (A × B)) (old new : W) (root : Option ℕ) → length xs ≡ claimed → Serializes packed s xs old new (Ok root) → Serializes whole s xs old new (Ok root)
  serialized [] old new root size h = h
  serialized (x ∷ xs) old new root size h =
      let levels : levels_for most (length (x ∷ xs)) ≡ suc above = ap (λ z. levels_for most z) size ∙ levels_are (omega (arith, size)) in
      let P : ℕ → Type 0 = λ l. Serializes (packed_spelling most k v keys vals l) s (x ∷ xs) old new (Ok root) in
      subst P (sym levels) h

  stopped : (xs : List (A × B)) (st : State) (old new : W) (short : Error → Type 0) (e : Error) → length xs ≡ claimed
      → Stops s old new (packed.piece xs st) (λ d. packed.piece_refused xs st d ⊎ short d) e
      → Stops s old new (whole.piece xs st) (λ d. whole.piece_refused xs st d ⊎ short d) e
  stopped [] st old new short e size h = h
  stopped (x ∷ xs) st old new short e size h =
      let levels : levels_for most (length (x ∷ xs)) ≡ suc above = ap (λ z. levels_for most z) size ∙ levels_are (omega (arith, size)) in
      let P : ℕ → Type 0 = λ l. let w = packed_spelling most k v keys vals l in Stops s old new (w.piece (x ∷ xs) st) (λ d. w.piece_refused (x ∷ xs) st d ⊎ short d) e in
      subst P (sym levels) h

  pub whole_cut : (from : I) (old new : W) (e : Error) → IsCutShort packed s gives claimed 0 claimed 0 from old new e → IsCutShort whole s gives claimed 0 claimed 0 from old new e
  whole_cut from old new e c = record {
    items = c.items;
    upto = c.upto;
    came = c.came;
    counted = c.counted;
    stopped = λ others size st at.
        let xs = c.items ++ others in
        let before : Error → Type 0 = λ d. packed.piece_refused xs st d ⊎ IsShort packed s gives claimed 0 (claimed + 0) c.items c.upto d in
        let after : Error → Type 0 = λ d. packed.piece_refused xs st d ⊎ IsShort whole s gives claimed 0 (claimed + 0) c.items c.upto d in
        let P : List ℕ → Type 0 = λ l. Stops s old new l after e in
        stopped xs st old new (λ d. IsShort whole s gives claimed 0 (claimed + 0) c.items c.upto d) e size
        (subst P (append-nil (packed.piece xs st)) (stops_first s [] before after (same others st) (c.stopped others size st at)));
  }
    where
      same : (others : List (A × B)) (st : State) → packed.piece_refused (c.items ++ others) st e ⊎ IsShort packed s gives claimed 0 (claimed + 0) c.items c.upto e
          → packed.piece_refused (c.items ++ others) st e ⊎ IsShort whole s gives claimed 0 (claimed + 0) c.items c.upto e
      same others st (inl r) = inl r
      same others st (inr short) = inr (record { fewer = short.fewer; ended = short.ended; tells = short.tells })

  pub whole_built : (from to : I) (old new : W) (root : Option ℕ) → IsBuilt packed s gives claimed from to old new root
      → (xs : List (A × B)) × Yields gives from xs to × (length xs ≡ claimed) × Serializes whole s xs old new (Ok root)
  whole_built from to old new root b = (b.items, b.came, b.counted, serialized b.items old new root b.counted b.written)

module _ {A B R Q T W I : Type 0} (most : ℕ) (k v : Shape) (keys : Spelling A R) (vals : Spelling B Q) (s : WriterMembers W) (view : T → A × B) (given : I → Option T → I → Type 0) (claimed : ℕ) (from to : I) (old new : W) (root : Option ℕ)
    (xs : List (A × B)) (came : Yields (GivesAs view given) from xs to) (counted : length xs ≡ claimed) (written : Serializes (btree_spelling most k v keys vals) s xs old new (Ok root)) where
  -- nothing came after them
  pub came_all : (rest : List T) → Drains given to rest → rest ≡ [] → Drains (GivesAs view given) from xs
  came_all rest d none =
      let F : List T → Type 0 = λ l. Drains given to l in
      let e = subst F none d in
      (e.0, (e.1.0, subst (λ l. Yields (GivesAs view given) from l e.1.0) (append-nil xs) (Yields-append (GivesAs view given) from to e.1.0 xs [] came e.1.1), e.1.2))

  -- more came
  pub exceeded : (rest : List T) (e : Error) → Drains given to rest → 0 < length rest → e ≡ IteratorLengthMismatch claimed (min (claimed + length rest) (2 ^ 64 - 1))
      → IsExceeded most k v keys vals s (GivesAs view given) claimed from old new e
  exceeded rest e d more tells =
      let all = xs ++ map view rest in
      let long : length all ≡ claimed + length rest = length-append xs (map view rest) ∙ omega (arith, counted, length-map rest view) in
      let first : take claimed all ≡ xs = take-append-le claimed xs (map view rest) (omega (arith, counted)) ∙ take_all claimed xs (omega (arith, counted)) in
      let P : List (A × B) → Type 0 = λ l. Serializes (btree_spelling most k v keys vals) s l old new (Ok root) in
      record {
        items = all;
        came = (d.0, (d.1.0, Yields-append (GivesAs view given) from to d.1.0 xs (map view rest) came (Yields-as view given to d.1.0 rest d.1.1), d.1.2));
        more = omega (arith, long, more);
        written = (root, subst P (sym first) written);
        tells = tells ∙ ap (λ z. IteratorLengthMismatch claimed (min z (2 ^ 64 - 1))) (sym long);
      }
