-- What a pointer and the region that it leads to store, by what the contents of the region store, against the limits of
-- how they are written.
use Rattle.std.proofs.Common.{◌≡◌, ℕ, ◌≤◌, List, ◌∷◌, ◌++◌, map as mapped, sym, subst, arith, ◌⊎◌, inl, inr, ⊎_elim}
use Rattle.archive_shape_layout.specs.declared.error.Error.{Error}
use Rattle.archive_shape_layout.specs.declared.error.Error.TheVariants.{IsizeOverflow}
use Rattle.archive_shape_canonical.specs.Limits.{Field, offset, position, count, IsSomePast}
use Rattle.archive_shape.specs.Offsets.{FitsOffset}
use Rattle.cabinet_documents.proofs.Fields.{past_left, past_right, past_either, offset_past, past_offset, IsFar}

-- the fields within a region, where it begins, and the pointer with the numbers beside it
abbrev pub region_fields : (own start to : ℕ) → List ℕ → List Field → List Field
region_fields own start to numbers within = within ++ position start ∷ (offset own to ∷ mapped count numbers)

-- the own bytes of a pointer, and of the numbers beside it, exceed a limit
abbrev pub BesideRefused : (own to : ℕ) → List ℕ → Error → Type 0
BesideRefused own to numbers e = ((FitsOffset own to → ⊥) × (e ≡ IsizeOverflow)) ⊎ IsSomePast (mapped count numbers) e

-- by the limits that are exceeded by the data of the contents, by the positions of the region, and by the own bytes of
-- the contents
module _ (OfData Unplaced OfOwn : Error → Type 0) where
  abbrev pub RegionRefused : Error → Type 0
  RegionRefused e = OfData e ⊎ (Unplaced e ⊎ OfOwn e)

  -- of the contents: where their data ends, and where the region does
  pub record ReadsContents (within : List Field) (inner end : ℕ) : Type 0 where
    pub data_past : (e : Error) → OfData e → IsSomePast within e ⊎ IsFar inner e
    pub own_past : (e : Error) → OfOwn e → IsSomePast within e ⊎ IsFar end e
    pub refused_within : (e : Error) → IsSomePast within e → OfData e ⊎ OfOwn e

  pub record ReadsLed (own to : ℕ) (numbers : List ℕ) (fs : List Field) (end : ℕ) : Type 0 where
    pub past : (e : Error) → RegionRefused e → IsSomePast fs e ⊎ IsFar end e
    pub beside : (e : Error) → BesideRefused own to numbers e → IsSomePast fs e
    pub refused_led : (e : Error) → IsSomePast fs e → RegionRefused e ⊎ BesideRefused own to numbers e

  pub led_read :
      (own start to : ℕ) (numbers : List ℕ) (within fs : List Field) (inner end : ℕ)
      → inner ≤ start
      → ((e : Error) → Unplaced e → IsFar start e ⊎ IsFar end e)
      → ((e : Error) → IsFar start e → Unplaced e)
      → ReadsContents within inner end
      → fs ≡ region_fields own start to numbers within
      → ReadsLed own to numbers fs end
  led_read own start to numbers within fs inner end up unplaced placed h fields =
      let tail : List Field = position start ∷ (offset own to ∷ mapped count numbers) in
      let back : (e : Error) → IsSomePast (within ++ tail) e → IsSomePast fs e = λ e p. subst (λ l. IsSomePast l e) (sym fields) p in
      let inside : (e : Error) → IsSomePast within e → IsSomePast fs e = λ e p. back e (past_left within tail e p) in
      let high : (e : Error) → IsFar start e → IsSomePast fs e = λ e far. back e (past_right within tail e (inl far)) in
      record {
        past = λ e. ⊎_elim
            (λ r. ⊎_elim (λ p. inl (inside e p)) (λ far. inl (high e (omega (arith, far.0, up), far.1))) (h.data_past e r))
            (⊎_elim
            (λ r. ⊎_elim (λ far. inl (high e far)) (λ far. inr far) (unplaced e r))
            (λ r. ⊎_elim (λ p. inl (inside e p)) (λ far. inr far) (h.own_past e r)));
        beside = λ e. ⊎_elim
            (λ far. back e (past_right within tail e (inr (inl (offset_past own to far.0, far.1)))))
            (λ p. back e (past_right within tail e (inr (inr p))));
        refused_led = λ e p. ⊎_elim
            (λ q. ⊎_elim (λ r. inl (inl r)) (λ r. inl (inr (inr r))) (h.refused_within e q))
            (⊎_elim (λ far. inl (inr (inl (placed e far)))) (⊎_elim (λ far. inr (inl (past_offset own to far.0, far.1))) (λ r. inr (inr r))))
            (past_either within tail e (subst (λ l. IsSomePast l e) fields p));
      }
