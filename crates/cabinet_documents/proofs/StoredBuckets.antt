-- What the region of a table stores, by what its buckets do, against the limits of how it is written.
use Rattle.std.proofs.Common.{◌≡◌, ℕ, ◌+◌, ◌-◌, ◌*◌, ◌≤◌, ◌^◌, List, [], ◌∷◌, ◌++◌, length, Option, Some, None, refl, sym, ap, subst, ◌∙◌, arith, ◌⊎◌, inl, inr, ⊎_elim, length-append}
use Rattle.std.specs.List.{AllByRecursion}
use Rattle.std.proofs.lemmas.Bool.{cases_lt}
use Rattle.std.proofs.lemmas.List.{length-replicate}
use Rattle.archive_shape_layout.specs.Bytes.{align_up}
use Rattle.archive_shape_layout.specs.Shape.{Shape, size_of, align_of}
use Rattle.archive_shape_layout.specs.Content.{control_count}
use Rattle.archive_shape_layout.proofs.Framed.{le_align_up}
use Rattle.archive_shape_layout.specs.declared.error.Error.{Error}
use Rattle.archive_shape_layout.specs.declared.error.Error.TheVariants.{PositionTooLarge}
use Rattle.archive_shape_canonical.specs.FirstFit.{present}
use Rattle.archive_shape_canonical.specs.Settled.{Fit}
use Rattle.archive_shape_canonical.specs.Plan.{Plan, leads}
use Rattle.archive_shape_canonical.specs.Limits.{Field, IsSomePast, Shared, moved, Lies, lies_leads}
use Rattle.archive_shape_canonical.specs.Limits as limits
use Rattle.archive_shape.specs.Bytes.{zeros}
use Rattle.archive_forms_laws.specs.State.{State}
use Rattle.archive_forms_laws.specs.Spelling.{Spelling, state_after}
use Rattle.archive_forms_laws.specs.Regions.{pieces, pieces_refused}
use Rattle.archive_forms_laws.proofs.Regions.{state_after_all_pos}
use Rattle.archive_hash_writing.specs.Fitted.{capacity_of, table_of, controls_of}
use Rattle.archive_hash_writing.specs.Tables.{buckets, buckets_refused, state_after_items, region_from, controls_at, filled_piece, IsPlaced}
use Rattle.archive_hash_writing.specs.Tables.{hashed_spelling as of_hashes}
use Rattle.archive_hash_writing.proofs.Planned.{table_target}
use Rattle.archive_hash_writing.proofs.SpellingFitting.{length-table, above}
use Rattle.cabinet_documents.specs.Node.{KnowsNode}
use Rattle.cabinet_documents.proofs.SharedMet.{Sharing, Begun, Spares}
use Rattle.cabinet_documents.proofs.Fields.{Alike, laid, leads_lies, IsFar, Reads}
use Rattle.cabinet_documents.proofs.StoredRegions.{region_fields, ReadsLed, led_read}
use Rattle.cabinet_documents.proofs.Storing.{CanLie}

module _ (g : Sharing) where
  module _ (fit : Fit) {A R : Type 0} (s : Shape) (u : Spelling A R) where
    -- as `Reads g`, of the buckets of places, the first of which ends at a position
    pub record ReadsBuckets (os : List (Option A)) (st : State) (end : ℕ) (fs : List Field) (b : limits.State) : Type 0 where
      pub alike : Alike g b.met (state_after_items s u os st).met
      pub spares : Spares g st.met (state_after_items s u os st).met
      pub there : b.pos ≡ (state_after_items s u os st).pos
      pub pieces_past : (e : Error) → pieces_refused u (present os) st e → IsSomePast fs e ⊎ IsFar b.pos e
      pub buckets_past : (e : Error) → buckets_refused s u os st end e → IsSomePast fs e ⊎ IsFar end e
      pub refused_all : (e : Error) → IsSomePast fs e → pieces_refused u (present os) st e ⊎ buckets_refused s u os st end e

    -- own bytes fill a bucket
    abbrev pub IsSized : A → Type 0
    IsSized x = (r : R) (pos : ℕ) → length (u.own x r pos) ≡ size_of s

    length-buckets : (os : List (Option A)) → AllByRecursion IsSized (present os) → (st : State) (end : ℕ) → length (buckets s u os st end) ≡ length os * size_of s
    length-buckets [] sized st end = omega arith
    length-buckets (None ∷ os) sized st end =
        let rest = length-buckets os sized st (end - size_of s) in
        let none : length (zeros (size_of s)) ≡ size_of s = length-replicate _ _ in
        length-append (buckets s u os st (end - size_of s)) (zeros (size_of s)) ∙ omega (arith, rest, none)
    length-buckets (Some x ∷ os) sized st end =
        let pos = end - size_of s in
        let rest = length-buckets os sized.1 (state_after u x st) pos in
        let own = sized.0 (u.resolver x st) pos in
        length-append (buckets s u os (state_after u x st) pos) (u.own x (u.resolver x st) pos) ∙ omega (arith, rest, own)

    -- ---- the region of a table that has items

    module _ (os : List (Option A)) (controls : List ℕ) where
      abbrev Unplaced : State → Error → Type 0
      Unplaced st e = (IsPlaced s u os controls st → ⊥) × (e ≡ PositionTooLarge)

      -- as `Reads g`, with numbers beside the pointer
      pub record ReadsFilled (st : State) (own : ℕ) (numbers : List ℕ) (fs : List Field) (b : limits.State) : Type 0 where
        pub alike : Alike g b.met (state_after_items s u os st).met
        pub spares : Spares g st.met (state_after_items s u os st).met
        pub there : b.pos ≡ st.pos + length (filled_piece s u os controls st)
        pub led : ReadsLed (pieces_refused u (present os) st) (Unplaced st) (buckets_refused s u os st (controls_at s u os st)) own (controls_at s u os st) numbers fs b.pos

      region_above : (st : State) → (state_after_items s u os st).pos ≤ region_from s u os st
      region_above st = le_align_up (state_after_items s u os st).pos (align_of s)

      filled_length : AllByRecursion IsSized (present os) → (st : State) → st.pos + length (filled_piece s u os controls st) ≡ controls_at s u os st + length controls
      filled_length sized st =
          let front = pieces u (present os) st in
          let gap = zeros (region_from s u os st - (state_after_items s u os st).pos) in
          let slots = buckets s u os st (controls_at s u os st) in
          let behind = state_after_all_pos fit s KnowsNode u (present os) st in
          let up = region_above st in
          let wide = length-buckets os sized st (controls_at s u os st) in
          let filled : length gap ≡ region_from s u os st - (state_after_items s u os st).pos = length-replicate _ _ in
          omega (arith, behind, up, wide, filled, length-append front (gap ++ (slots ++ controls)), length-append gap (slots ++ controls), length-append slots controls)

      -- by what is read of the buckets wherever the region begins
      module _ (sized : AllByRecursion IsSized (present os)) (numbers : List ℕ) (p : Plan) (long : length controls ≡ control_count (length os)) (st : State) (seen : List Shared) (own : ℕ)
          (read_at : (start : ℕ) (within : List Field) (inner : limits.State) → Lies p start (laid st seen) within inner → ReadsBuckets os st (start + length os * size_of s) within inner) where
        abbrev FilledPlan : Plan
        FilledPlan = leads numbers (table_target s (length os)) p

        pub filled_read : (fs : List Field) (b : limits.State) → Lies FilledPlan own (laid st seen) fs b → ReadsFilled st own numbers fs b
        filled_read fs b h =
            let start = region_from s u os st in
            let to = controls_at s u os st in
            let f = leads_lies numbers (table_target s (length os)) p own (laid st seen) b fs h in
            let there = (read_at f.start f.within f.inner f.lies).there in
            let begins : f.start ≡ start = f.begins ∙ ap (λ n. align_up n (align_of s)) there in
            let r = read_at start f.within f.inner (subst (λ n. Lies p n (laid st seen) f.within f.inner) begins f.lies) in
            let ends : b ≡ moved (start + (length os * size_of s + control_count (length os))) f.inner = f.ends ∙ ap (λ n. moved (n + (length os * size_of s + control_count (length os))) f.inner) begins in
            let behind : b.pos ≡ start + (length os * size_of s + control_count (length os)) = ap (λ (z : limits.State). z.pos) ends in
            let at_end : b.pos ≡ to + length controls = omega (arith, behind, long) in
            let up : f.inner.pos ≤ start = subst (λ n. n ≤ start) (sym r.there) (region_above st) in
            record {
              alike = subst (λ (z : limits.State). Alike g z.met (state_after_items s u os st).met) (sym ends) r.alike;
              spares = r.spares;
              there = at_end ∙ sym (filled_length sized st);
              led = led_read (pieces_refused u (present os) st) (Unplaced st) (buckets_refused s u os st to) own start to numbers f.within fs f.inner.pos b.pos up
                  (λ e r. ⊎_elim
                  (λ low. ⊎_elim (λ short. absurd (r.0 (low, short))) (λ far. inr (omega (arith, far, at_end), r.1)) (cases_lt (to + length controls) (2 ^ 64)))
                  (λ far. inl (far, r.1))
                  (cases_lt start (2 ^ 32)))
                  (λ e far. ((λ placed. let low = placed.0 in let above = far.0 in omega (arith, low, above)), far.1))
                  (record {
                    data_past = r.pieces_past;
                    own_past = λ e q. ⊎_elim (λ p. inl p) (λ far. inr (omega (arith, far.0, at_end), far.1)) (r.buckets_past e q);
                    refused_within = r.refused_all;
                  })
                  (f.fields ∙ ap (λ n. region_fields own n (n + length os * size_of s) numbers f.within) begins);
            }

        pub filled_lies : CanLie p (region_from s u os st) (laid st seen) → CanLie FilledPlan own (laid st seen)
        filled_lies h =
            let there = (read_at (region_from s u os st) h.0 h.1 h.2).there in
            (_, _, lies_leads h.2 (ap (λ n. align_up n (align_of s)) (sym there)) refl refl)

    -- ---- tables, at most seven of eight places of which are full

    module _ (hashes : List ℕ) (x : A) (xs : List A) (even : length hashes ≡ length (x ∷ xs)) where
      pub table_reads : (st : State) (own : ℕ) (fs : List Field) (b : limits.State)
          → ReadsFilled (table_of 7 8 hashes (x ∷ xs)) (controls_of 7 8 hashes (x ∷ xs)) st own (length (x ∷ xs) ∷ (capacity_of 7 8 hashes (x ∷ xs) ∷ [])) fs b
          → Reads g (of_hashes 7 8 s u hashes) (x ∷ xs) st own fs b
      table_reads st own fs b r =
          let long = length-table 7 8 hashes (x ∷ xs) in
          let wide = above 7 8 hashes (x ∷ xs) even (omega arith) in
          record {
            alike = r.alike;
            spares = r.spares;
            there = r.there;
            piece_past = λ e. ⊎_elim (λ many. inl (r.led.beside e (inr (inr (inl (omega (arith, many.0, long), many.1)))))) (λ k. r.led.past e k);
            own_past = λ e. ⊎_elim (λ k. r.led.beside e (inl k)) (λ many. r.led.beside e (inr (inr (inl many))));
            refused = λ e past. ⊎_elim
                (λ k. inl (inr k))
                (⊎_elim (λ k. inr (inl k)) (⊎_elim (λ many. inr (inr (omega (arith, many.0, wide), many.1))) (⊎_elim (λ many. inr (inr many)) (λ none. absurd none))))
                (r.led.refused_led e past);
          }
