-- What kept maps store, against the limits of how they are written: the tables of the numbers of their pairs, and the pairs.
use Rattle.std.proofs.Common.{◌≡◌, ℕ, ◌+◌, ◌-◌, ◌*◌, List, [], ◌∷◌, ◌++◌, map as mapped, length, Option, Some, None, refl, sym, ap, subst, ◌∙◌, arith, inl, inr, ⊎_elim, length-append, append-nil, add-zero}
use Rattle.std.specs.List.{AllByRecursion, range_with_len}
use Rattle.std.proofs.lemmas.List.{length-map}
use Rattle.std.proofs.lemmas.List.FromFn.{length-range_with_len}
use Rattle.archive_shape_layout.specs.Value.{Values, count_values}
use Rattle.archive_shape_layout.specs.Content.{control_count}
use Rattle.archive_shape_layout.specs.declared.error.Error.{Error}
use Rattle.archive_shape_canonical.specs.FirstFit.{capacity_for, present}
use Rattle.archive_shape_canonical.specs.Hash.{text_hash}
use Rattle.archive_shape_canonical.specs.Settled.{Fit}
use Rattle.archive_shape_canonical.specs.Sharing.{all_erased}
use Rattle.archive_shape_canonical.specs.Plan.{Plan, flat, parts, leads, Plans, no_plans, more_plans}
use Rattle.archive_shape_canonical.specs.Limits.{Field, IsSomePast, Shared, Lies, lies_parts, lie_none}
use Rattle.archive_shape_canonical.specs.Limits as limits
use Rattle.archive_forms_laws.specs.State.{State, visit_of_key}
use Rattle.archive_forms_laws.specs.Spelling.{Spelling, state_after}
use Rattle.archive_forms_laws.specs.Regions.{pieces_refused, region_piece}
use Rattle.archive_forms_laws.specs.Sample.{number_shape, number_spelling}
use Rattle.archive_forms_laws.specs.Views.{listed}
use Rattle.archive_btree_spelling.proofs.Parting.{EachIs}
use Rattle.archive_hash_writing.specs.Fitted.{capacity_of, table_of, controls_of}
use Rattle.archive_hash_writing.specs.Tables.{buckets_refused, region_from}
use Rattle.archive_hash_writing.proofs.Planned.{table_target}
use Rattle.archive_hash_writing.proofs.Small.{text_hashes_small}
use Rattle.archive_hash_writing.proofs.SpellingFitting.{length-table, controls_of_table}
use Rattle.archive_hash_writing.specs.IndexMaps.{numbers, numbers_spelling, state_behind, map_spelling}
use Rattle.archive_hash_writing.proofs.IndexMaps.{numbers_met, numbers_pos}
use Rattle.cabinet_text_grammar.specs.Tree.{Tree}
use Rattle.cabinet_documents.specs.Node.{pair_shape}
use Rattle.cabinet_documents.specs.Resolver.{Resolver}
use Rattle.cabinet_documents.specs.Spelling.{pair_spelling, kept_spelling}
use Rattle.cabinet_documents.proofs.PlacedPairs.{pair_hashes}
use Rattle.cabinet_documents.proofs.Values.{entry_value}
use Rattle.cabinet_documents.proofs.Plans.{slice_plan, index_plan, length-values, places_for, ArePlanned, KeptPlan}
use Rattle.cabinet_documents.proofs.SharedMet.{Sharing, Begun, Spares}
use Rattle.cabinet_documents.proofs.Fields.{Alike, laid, reached, parts_lies, past_left, past_right, past_either, flat_lies, IsFar, Reads, no_fields}
use Rattle.cabinet_documents.proofs.Storing.{CanLie, as_plan, flat_can_lie, TellsValue, no_lies, first_lies, one_more_lies, ReadsRegion, slice_region, slice_lies}
use Rattle.cabinet_documents.proofs.StoredBuckets.{ReadsBuckets, IsSized, filled_read, filled_lies, table_reads}
use Rattle.cabinet_documents.proofs.StoredPairs.{Entry, TellsEntry}
use Rattle.cabinet_documents.proofs.StoredTables.{all_tell}

-- ---- tables of numbers, which lead to nothing

numbers_not_refused : (ns : List ℕ) (st : State) (e : Error) → pieces_refused number_spelling ns st e → ⊥
numbers_not_refused [] st e r = r
numbers_not_refused (n ∷ ns) st e r = ⊎_elim (λ none. none) (λ q. numbers_not_refused ns (state_after number_spelling n st) e q) r

numbers_past : (os : List (Option ℕ)) (st : State) (end : ℕ) (e : Error) → buckets_refused number_shape number_spelling os st end e → IsFar end e
numbers_past [] st end e r = absurd r
numbers_past (None ∷ os) st end e r = let far = numbers_past os st (end - 4) e r in (omega (arith, far.0), far.1)
numbers_past (Some n ∷ os) st end e r =
    ⊎_elim
    (⊎_elim (λ none. absurd none) (λ far. (omega (arith, far.0), far.1)))
    (λ q. let far = numbers_past os (state_after number_spelling n st) (end - 4) e q in (omega (arith, far.0), far.1))
    r

module _ (g : Sharing) where
  module _ (fit : Fit) where
    numbers_sized : (ns : List ℕ) → AllByRecursion (IsSized g fit number_shape number_spelling) ns
    numbers_sized [] = tt
    numbers_sized (n ∷ ns) = ((λ r pos. refl), numbers_sized ns)

    numbers_read : (os : List (Option ℕ)) (st : State) (seen : List Shared) → Alike g seen st.met → (end : ℕ) (fs : List Field) (b : limits.State) → (fs ≡ []) × (b ≡ laid st seen)
        → ReadsBuckets g fit number_shape number_spelling os st end fs b
    numbers_read os st seen alike end fs b ends = record {
      alike = subst (Alike g b.met) (sym (numbers_met (present os) st)) (subst (λ (z : limits.State). Alike g z.met st.met) (sym ends.1) alike);
      spares = λ k o e. ap (λ m. visit_of_key m k) (numbers_met (present os) st) ∙ e;
      there = ap (λ (z : limits.State). z.pos) ends.1 ∙ sym (numbers_pos (present os) st);
      pieces_past = λ e r. absurd (numbers_not_refused (present os) st e r);
      buckets_past = λ e r. inr (numbers_past os st end e r);
      refused_all = λ e p. absurd (subst (λ l. IsSomePast l e) ends.0 p);
    }

  -- ---- kept maps

  module _ (w : Spelling Tree Resolver) (fit : Fit) where
    abbrev Tells : Entry → Type 0
    Tells x = TellsValue g fit pair_shape entry_value (pair_spelling w) x

    -- a map that has pairs
    module _ (x : Entry) (xs : List Entry) where
      abbrev all : List Entry
      all = x ∷ xs

      abbrev ns : List ℕ
      ns = numbers (x ∷ xs)

      abbrev hashes : List ℕ
      hashes = pair_hashes (x ∷ xs)

      abbrev table : Spelling (List ℕ) (Option ℕ)
      table = numbers_spelling 7 8 pair_shape (pair_spelling w) hashes

      abbrev behind : State → State
      behind s = state_behind 7 8 pair_shape (pair_spelling w) hashes all s

      abbrev standing : List (Option ℕ)
      standing = table_of 7 8 hashes ns

      abbrev lengths : List ℕ
      lengths = length ns ∷ (capacity_of 7 8 hashes ns ∷ [])

      abbrev NumbersPlan : Plan
      NumbersPlan = leads lengths (table_target number_shape (length standing)) flat

      abbrev SlicePlan : Values → Plans → Plan
      SlicePlan us ps = slice_plan pair_shape [] (count_values us) ps

      length-numbers : length ns ≡ length all
      length-numbers = length-range_with_len 0 (length all)

      even : length hashes ≡ length ns
      even = length-map all (λ (y : Entry). text_hash y.0) ∙ sym length-numbers

      -- ---- the table

      -- as many places as the pairs have
      room : capacity_of 7 8 hashes ns ≡ places_for all
      room = ap (λ n. capacity_for n 7 8) length-numbers

      long : length (controls_of 7 8 hashes ns) ≡ control_count (length standing)
      long = (controls_of_table 7 8 hashes ns even (let n = length-numbers in omega (arith, n)) (text_hashes_small (λ p. p.0) all)).wrapped.count

      module _ (s : State) (seen : List Shared) (alike : Alike g seen s.met) (own : ℕ) where
        contents_read : (start : ℕ) (within : List Field) (inner : limits.State) → Lies flat start (laid s seen) within inner
            → ReadsBuckets g fit number_shape number_spelling standing s (start + length standing * 4) within inner
        contents_read start within inner h = numbers_read fit standing s seen alike (start + length standing * 4) within inner (flat_lies start (laid s seen) inner within h)

        table_read : (fs : List Field) (b : limits.State) → Lies NumbersPlan own (laid s seen) fs b → Reads g table ns s own fs b
        table_read fs b h =
            table_reads g fit number_shape number_spelling hashes 0 (range_with_len 1 (length xs)) even s own fs b
            (filled_read g fit number_shape number_spelling standing (controls_of 7 8 hashes ns) (numbers_sized fit (present standing)) lengths flat long s seen own contents_read fs b h)

        table_lies : CanLie NumbersPlan own (laid s seen)
        table_lies =
            filled_lies g fit number_shape number_spelling standing (controls_of 7 8 hashes ns) (numbers_sized fit (present standing)) lengths flat long s seen own contents_read
            (flat_can_lie (region_from number_shape number_spelling standing s) (laid s seen))

      -- ---- the table and the pairs

      table_and_pairs :
          (s : State) (own : ℕ) (here there fs : List Field) (between b : limits.State)
          → Reads g table ns s own here between
          → ReadsRegion g fit pair_shape entry_value (pair_spelling w) all (behind s) (own + 12) [] there b
          → fs ≡ here ++ there
          → Reads g (map_spelling 7 8 pair_shape (pair_spelling w) hashes) all s own fs b
      table_and_pairs s own here there fs between b first rest is =
          let at_between = first.there in
          let at_end = rest.there in
          let both = length-append (table.piece ns s) (region_piece (pair_spelling w) pair_shape all (behind s)) in
          let of_table : (e : Error) → IsSomePast here e → IsSomePast fs e = λ e p. subst (λ l. IsSomePast l e) (sym is) (past_left here there e p) in
          let of_pairs : (e : Error) → IsSomePast there e → IsSomePast fs e = λ e p. subst (λ l. IsSomePast l e) (sym is) (past_right here there e p) in
          record {
            alike = rest.alike;
            spares = λ k o e. rest.spares k o (first.spares k o e);
            there = omega (arith, at_between, at_end, both);
            piece_past = λ e. ⊎_elim
                (λ r. ⊎_elim (λ p. inl (of_table e p)) (λ far. inr (omega (arith, far.0, at_between, at_end), far.1)) (first.piece_past e r))
                (λ r. ⊎_elim (λ p. inl (of_pairs e p)) (λ far. inr far) (rest.led.past e r));
            own_past = λ e. ⊎_elim (λ r. of_table e (first.own_past e r)) (λ r. of_pairs e (rest.led.beside e (inl r)));
            refused = λ e p. ⊎_elim
                (λ q. ⊎_elim (λ r. inl (inl r)) (λ r. inr (inl r)) (first.refused e q))
                (λ q. ⊎_elim (λ r. inl (inr r)) (⊎_elim (λ r. inr (inr r)) (λ none. absurd none)) (rest.led.refused_led e q))
                (past_either here there e (subst (λ l. IsSomePast l e) is p));
          }

      module _ (each : AllByRecursion Tells all) (us : Values) (same : listed (all_erased us) ≡ mapped entry_value all) (ps : Plans) (planned : ArePlanned fit pair_shape 0 us ps) where
        abbrev BothPlan : Plan
        BothPlan = parts (more_plans 0 NumbersPlan (more_plans 12 (SlicePlan us ps) no_plans))

        both_plan : index_plan (length all) (places_for all) ps ≡ BothPlan
        both_plan =
            let many : length all ≡ length ns = sym length-numbers in
            let count : length all ≡ count_values us = sym (length-values entry_value all us same) in
            let places : places_for all ≡ capacity_of 7 8 hashes ns = sym room in
            let wide : places_for all ≡ length standing = sym (length-table 7 8 hashes ns ∙ room) in
            λ i.
            parts (more_plans 0 (leads (many i ∷ (places i ∷ [])) (table_target number_shape (wide i)) flat) (more_plans 12 (slice_plan pair_shape [] (count i) ps) no_plans))

        module _ (s : State) (seen : List Shared) (alike : Alike g seen s.met) (begun : Begun g s.begun) (own : ℕ) where
          both_read : (fs : List Field) (b : limits.State) → Lies BothPlan own (laid s seen) fs b → Reads g (map_spelling 7 8 pair_shape (pair_spelling w) hashes) all s own fs b
          both_read fs b h =
              let l = first_lies 0 NumbersPlan (more_plans 12 (SlicePlan us ps) no_plans) own (laid s seen) b fs
              (parts_lies (more_plans 0 NumbersPlan (more_plans 12 (SlicePlan us ps) no_plans)) own (laid s seen) b fs h) in
              let m = first_lies 12 (SlicePlan us ps) no_plans own l.between b l.there l.rest in
              let ends = no_lies own m.between b m.there m.rest in
              let first = table_read s seen alike own l.here l.between (subst (λ n. Lies NumbersPlan n (laid s seen) l.here l.between) (add-zero own) l.first) in
              let lies = subst (λ z. Lies (SlicePlan us ps) (own + 12) l.between m.here z) (sym ends.1) m.first in
              let rest = slice_region g fit pair_shape entry_value (pair_spelling w) all each us ps (SlicePlan us ps) [] same planned refl (behind s) l.between.met first.alike begun (own + 12) m.here b
              (subst (λ z. Lies (SlicePlan us ps) (own + 12) z m.here b) (reached l.between (behind s) first.there) lies) in
              table_and_pairs s own l.here m.here fs l.between b first rest (l.all ∙ ap (λ z. l.here ++ z) (m.all ∙ ap (λ z. m.here ++ z) ends.0 ∙ append-nil m.here))

          both_lie : CanLie BothPlan own (laid s seen)
          both_lie =
              let table_at = table_lies s seen alike (own + 0) in
              let first = table_read s seen alike (own + 0) table_at.0 table_at.1 table_at.2 in
              let pairs_at = slice_lies g fit pair_shape entry_value (pair_spelling w) all each us ps (SlicePlan us ps) [] same planned refl (behind s) table_at.1.met first.alike begun (own + 12) in
              let lies = subst (λ z. Lies (SlicePlan us ps) (own + 12) z pairs_at.0 pairs_at.1) (sym (reached table_at.1 (behind s) first.there)) pairs_at.2 in
              let rest = one_more_lies 12 (SlicePlan us ps) no_plans own table_at.1 pairs_at.1 pairs_at.1 pairs_at.0 [] lies lie_none in
              let whole = one_more_lies 0 NumbersPlan (more_plans 12 (SlicePlan us ps) no_plans) own (laid s seen) table_at.1 rest.1 table_at.0 rest.0 table_at.2 rest.2 in
              (whole.0, whole.1, lies_parts whole.2)

    pub kept_reads : (xs : List Entry) (us : Values) (p : Plan) → listed (all_erased us) ≡ mapped entry_value xs → KeptPlan fit xs us p → EachIs (TellsEntry g w fit) xs → (s : State) (seen : List Shared) → Alike g seen s.met
        → Begun g s.begun → (own : ℕ) (fs : List Field) (b : limits.State) → Lies p own (laid s seen) fs b → Reads g (kept_spelling w) xs s own fs b
    kept_reads [] us p same planned each s seen alike begun own fs b h =
        no_fields g (kept_spelling w) [] s seen own fs b alike refl refl (λ e r. r)
        (λ e r. ⊎_elim (⊎_elim (λ k. k) (λ many. let n = many.0 in absurd (omega (arith, n)))) (λ k. k) r)
        (flat_lies own (laid s seen) b fs (subst (λ z. Lies z own (laid s seen) fs b) planned h))
    kept_reads (x ∷ xs) us p same planned each s seen alike begun own fs b h =
        let told = all_tell g w fit (x ∷ xs) each in
        let r = both_read x xs told us same planned.0 planned.1 s seen alike begun own fs b
        (subst (λ z. Lies z own (laid s seen) fs b) (planned.2 ∙ both_plan x xs told us same planned.0 planned.1) h) in
        record { alike = r.alike; spares = r.spares; there = r.there; piece_past = r.piece_past; own_past = r.own_past; refused = r.refused }

    pub kept_lies : (xs : List Entry) (us : Values) (p : Plan) → listed (all_erased us) ≡ mapped entry_value xs → KeptPlan fit xs us p → EachIs (TellsEntry g w fit) xs → (s : State) (seen : List Shared) → Alike g seen s.met
        → Begun g s.begun → (own : ℕ) → CanLie p own (laid s seen)
    kept_lies [] us p same planned each s seen alike begun own = as_plan p flat own (laid s seen) planned (flat_can_lie own (laid s seen))
    kept_lies (x ∷ xs) us p same planned each s seen alike begun own =
        let told = all_tell g w fit (x ∷ xs) each in
        as_plan p (BothPlan x xs told us same planned.0 planned.1) own (laid s seen) (planned.2 ∙ both_plan x xs told us same planned.0 planned.1)
        (both_lie x xs told us same planned.0 planned.1 s seen alike begun own)
