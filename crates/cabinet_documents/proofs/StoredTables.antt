-- What the tables of hashed maps store, against the limits of how they are written.
use Rattle.std.proofs.Common.{◌≡◌, ℕ, ◌+◌, ◌-◌, ◌*◌, ◌≤◌, List, [], ◌∷◌, ◌++◌, length, Option, Some, None, refl, sym, ap, subst, ◌∙◌, arith, inl, inr, ⊎_elim}
use Rattle.std.specs.List.{AllByRecursion}
use Rattle.std.proofs.lemmas.List.{length-map}
use Rattle.archive_shape_layout.specs.Shape.{Shape, size_of}
use Rattle.archive_shape_layout.specs.Value.{Value, Values}
use Rattle.archive_shape_layout.specs.declared.error.Error.{Error}
use Rattle.archive_shape_canonical.specs.FirstFit.{present}
use Rattle.archive_shape_canonical.specs.Hash.{text_hash}
use Rattle.archive_shape_canonical.specs.Settled.{Fit}
use Rattle.archive_shape_canonical.specs.Plan.{Plan, flat, parts, leads, Plans}
use Rattle.archive_shape_canonical.specs.Limits.{Field, IsSomePast, Shared, Lies, lies_parts, LieAll, lie_none}
use Rattle.archive_shape_canonical.specs.Limits as limits
use Rattle.archive_forms_laws.specs.State.{State}
use Rattle.archive_forms_laws.specs.Spelling.{Spelling, state_after}
use Rattle.archive_forms_laws.proofs.Regions.{state_after_all_pos}
use Rattle.archive_btree_spelling.proofs.Parting.{EachIs}
use Rattle.archive_hash_writing.specs.Fitted.{places_of, table_of, controls_of}
use Rattle.archive_hash_writing.specs.Tables.{region_from}
use Rattle.archive_hash_writing.proofs.Placed.{placed_each}
use Rattle.archive_hash_writing.proofs.Planned.{table_target, ItemPlans}
use Rattle.archive_hash_writing.proofs.SpellingFitting.{length-table}
use Rattle.cabinet_text_grammar.specs.Tree.{Tree}
use Rattle.cabinet_documents.specs.Node.{KnowsNode, node_names, pair_shape}
use Rattle.cabinet_documents.specs.Resolver.{Resolver}
use Rattle.cabinet_documents.specs.Spelling.{pair_spelling, hashed_spelling}
use Rattle.cabinet_documents.proofs.PlacedPairs.{pair_hashes}
use Rattle.cabinet_documents.proofs.Values.{entry_value}
use Rattle.cabinet_documents.proofs.Plans.{places_for, FillsPairs, PairsPlan}
use Rattle.cabinet_documents.proofs.SharedMet.{Sharing, Begun, Spares}
use Rattle.cabinet_documents.proofs.Fields.{Alike, laid, reached, parts_lies, past_left, past_right, past_either, flat_lies, Reads, no_fields}
use Rattle.cabinet_documents.proofs.StoredBuckets.{ReadsBuckets, IsSized, filled_read, filled_lies, table_reads}
use Rattle.cabinet_documents.proofs.Storing.{CanLie, CanAllLie, as_plan, flat_can_lie, TellsValue, no_lies, first_lies, one_more_lies}
use Rattle.cabinet_documents.proofs.StoredPairs.{Entry, TellsEntry, pair_tells}

-- ---- tables, by what each of their items stores

module _ (g : Sharing) where
  module _ (fit : Fit) {A R : Type 0} (s : Shape) (as_value : A → Value) (u : Spelling A R) where
    abbrev TellsItem : A → Type 0
    TellsItem x = TellsValue g fit s as_value u x

    abbrev Planned : ℕ → ℕ → List (Option A) → Plans → Type 0
    Planned target i os all = ItemPlans fit node_names s as_value target i os all

    abbrev BucketsRead : List (Option A) → State → ℕ → List Field → limits.State → Type 0
    BucketsRead os st end fs b = ReadsBuckets g fit s u os st end fs b

    bucket_and_rest :
        (x : A) (os : List (Option A)) (st : State) (end : ℕ) (here there fs : List Field) (between b : limits.State)
        → size_of s ≤ end
        → Reads g u x st (end - size_of s) here between
        → BucketsRead os (state_after u x st) (end - size_of s) there b
        → fs ≡ here ++ there
        → BucketsRead (Some x ∷ os) st end fs b
    bucket_and_rest x os st end here there fs between b room first rest all =
        let at_between = first.there in
        let at_end = rest.there in
        let behind = state_after_all_pos fit s KnowsNode u (present os) (state_after u x st) in
        let of_first : (e : Error) → IsSomePast here e → IsSomePast fs e = λ e p. subst (λ l. IsSomePast l e) (sym all) (past_left here there e p) in
        let of_rest : (e : Error) → IsSomePast there e → IsSomePast fs e = λ e p. subst (λ l. IsSomePast l e) (sym all) (past_right here there e p) in
        record {
          alike = rest.alike;
          spares = λ k o e. rest.spares k o (first.spares k o e);
          there = rest.there;
          pieces_past = λ e. ⊎_elim
              (λ r. ⊎_elim (λ p. inl (of_first e p)) (λ far. inr (omega (arith, far.0, at_between, at_end, behind), far.1)) (first.piece_past e r))
              (λ r. ⊎_elim (λ p. inl (of_rest e p)) (λ far. inr far) (rest.pieces_past e r));
          buckets_past = λ e. ⊎_elim
              (⊎_elim (λ r. inl (of_first e (first.own_past e r))) (λ far. inr (omega (arith, far.0, room), far.1)))
              (λ r. ⊎_elim (λ p. inl (of_rest e p)) (λ far. inr (omega (arith, far.0), far.1)) (rest.buckets_past e r));
          refused_all = λ e p. ⊎_elim
              (λ q. ⊎_elim (λ r. inl (inl r)) (λ r. inr (inl (inl r))) (first.refused e q))
              (λ q. ⊎_elim (λ r. inl (inr r)) (λ r. inr (inr r)) (rest.refused_all e q))
              (past_either here there e (subst (λ l. IsSomePast l e) all p));
        }

    buckets_read :
        (os : List (Option A)) (all : Plans) (target i own end : ℕ) (st : State) (seen : List Shared) (fs : List Field) (b : limits.State)
        → AllByRecursion TellsItem (present os) → Planned target i os all → Alike g seen st.met → Begun g st.begun
        → end + i * size_of s ≡ own + target → own + length os * size_of s ≤ end
        → LieAll all own (laid st seen) fs b → BucketsRead os st end fs b
    buckets_read [] all target i own end st seen fs b each planned alike begun at_end room h =
        let none = no_lies own (laid st seen) b fs (subst (λ z. LieAll z own (laid st seen) fs b) planned h) in
        record {
          alike = subst (λ (z : limits.State). Alike g z.met st.met) (sym none.1) alike;
          spares = λ k o e. e;
          there = ap (λ (z : limits.State). z.pos) none.1;
          pieces_past = λ e r. absurd r;
          buckets_past = λ e r. absurd r;
          refused_all = λ e p. absurd (subst (λ l. IsSomePast l e) none.0 p);
        }
    buckets_read (None ∷ os) all target i own end st seen fs b each planned alike begun at_end room h =
        let rest = buckets_read os all target (i + 1) own (end - size_of s) st seen fs b each planned alike begun (omega (arith, at_end, room)) (omega (arith, room)) h in
        record {
          alike = rest.alike;
          spares = rest.spares;
          there = rest.there;
          pieces_past = rest.pieces_past;
          buckets_past = λ e r. ⊎_elim (λ p. inl p) (λ far. inr (omega (arith, far.0), far.1)) (rest.buckets_past e r);
          refused_all = rest.refused_all;
        }
    buckets_read (Some x ∷ os) all target i own end st seen fs b each planned alike begun at_end room h =
        let pos = end - size_of s in
        let next = state_after u x st in
        let offset = target - (i + 1) * size_of s in
        let at_pos : own + offset ≡ pos = omega (arith, at_end, room) in
        let l = first_lies offset planned.plan planned.others own (laid st seen) b fs (subst (λ z. LieAll z own (laid st seen) fs b) planned.is h) in
        let first = each.0.reads planned.value planned.plan planned.same planned.planned st seen alike begun pos l.here l.between (subst (λ n. Lies planned.plan n (laid st seen) l.here l.between) at_pos l.first) in
        let rest = buckets_read os planned.others target (i + 1) own pos next l.between.met l.there b each.1 planned.rest first.alike begun (omega (arith, at_end, room)) (omega (arith, room))
        (subst (λ z. LieAll planned.others own z l.there b) (reached l.between next first.there) l.rest) in
        bucket_and_rest x os st end l.here l.there fs l.between b (omega (arith, room)) first rest l.all

    buckets_lie :
        (os : List (Option A)) (all : Plans) (target i own : ℕ) (st : State) (seen : List Shared)
        → AllByRecursion TellsItem (present os) → Planned target i os all → Alike g seen st.met → Begun g st.begun → CanAllLie all own (laid st seen)
    buckets_lie [] all target i own st seen each planned alike begun = subst (λ z. CanAllLie z own (laid st seen)) (sym planned) ([], laid st seen, lie_none)
    buckets_lie (None ∷ os) all target i own st seen each planned alike begun = buckets_lie os all target (i + 1) own st seen each planned alike begun
    buckets_lie (Some x ∷ os) all target i own st seen each planned alike begun =
        let next = state_after u x st in
        let offset = target - (i + 1) * size_of s in
        let l = each.0.lies planned.value planned.plan planned.same planned.planned st seen alike begun (own + offset) in
        let first = each.0.reads planned.value planned.plan planned.same planned.planned st seen alike begun (own + offset) l.0 l.1 l.2 in
        let rest = buckets_lie os planned.others target (i + 1) own next l.1.met each.1 planned.rest first.alike begun in
        let there = subst (λ z. LieAll planned.others own z rest.0 rest.1) (sym (reached l.1 next first.there)) rest.2 in
        subst (λ z. CanAllLie z own (laid st seen)) (sym planned.is) (one_more_lies offset planned.plan planned.others own (laid st seen) l.1 rest.1 l.0 rest.0 l.2 there)

    each_sized : (xs : List A) → AllByRecursion TellsItem xs → AllByRecursion (IsSized g fit s u) xs
    each_sized [] each = tt
    each_sized (x ∷ xs) each = (each.0.sized, each_sized xs each.1)

    module _ (os : List (Option A)) (each : AllByRecursion TellsItem (present os)) (all : Plans) (planned : Planned (length os * size_of s) 0 os all) (st : State) (seen : List Shared) (alike : Alike g seen st.met)
        (begun : Begun g st.begun) where
      items_read : (start : ℕ) (within : List Field) (inner : limits.State) → Lies (parts all) start (laid st seen) within inner → BucketsRead os st (start + length os * size_of s) within inner
      items_read start within inner h =
          buckets_read os all (length os * size_of s) 0 start (start + length os * size_of s) st seen within inner each planned alike begun (omega arith) (omega arith)
          (parts_lies all start (laid st seen) inner within h)

      items_lie : (start : ℕ) → CanLie (parts all) start (laid st seen)
      items_lie start = let h = buckets_lie os all (length os * size_of s) 0 start st seen each planned alike begun in (h.0, h.1, lies_parts h.2)

  -- ---- hashed maps

  module _ (w : Spelling Tree Resolver) (fit : Fit) where
    pub all_tell : (xs : List Entry) → EachIs (TellsEntry g w fit) xs → AllByRecursion (TellsValue g fit pair_shape entry_value (pair_spelling w)) xs
    all_tell [] each = tt
    all_tell (x ∷ xs) each = (pair_tells g w fit x each.0, all_tell xs each.1)

    module _ (x : Entry) (xs : List Entry) where
      abbrev standing : List (Option Entry)
      standing = table_of 7 8 (pair_hashes (x ∷ xs)) (x ∷ xs)

      abbrev written : List ℕ
      written = controls_of 7 8 (pair_hashes (x ∷ xs)) (x ∷ xs)

      abbrev lengths : List ℕ
      lengths = length (x ∷ xs) ∷ (places_for (x ∷ xs) ∷ [])

      long : length standing ≡ places_for (x ∷ xs)
      long = length-table 7 8 (pair_hashes (x ∷ xs)) (x ∷ xs)

      even : length (pair_hashes (x ∷ xs)) ≡ length (x ∷ xs)
      even = length-map (x ∷ xs) (λ (y : Entry). text_hash y.0)

      each_tells : EachIs (TellsEntry g w fit) (x ∷ xs) → AllByRecursion (TellsValue g fit pair_shape entry_value (pair_spelling w)) (present standing)
      each_tells each =
          placed_each (TellsValue g fit pair_shape entry_value (pair_spelling w)) (places_for (x ∷ xs)) (places_of 7 8 (pair_hashes (x ∷ xs)) (x ∷ xs)) (x ∷ xs) (all_tell (x ∷ xs) each)

    abbrev FilledPlanOf : Entry → List Entry → Plans → Plan
    FilledPlanOf x xs ps = leads (lengths x xs) (table_target pair_shape (length (standing x xs))) (parts ps)

    -- its places are as many as the fit gives it
    record AtPlaces (x : Entry) (xs : List Entry) (p : Plan) : Type 0 where
      plans : Plans
      items : ItemPlans fit node_names pair_shape entry_value (length (standing x xs) * size_of pair_shape) 0 (standing x xs) plans
      is : p ≡ FilledPlanOf x xs plans

    at_places : (x : Entry) (xs : List Entry) (p : Plan) → PairsPlan fit (x ∷ xs) p → AtPlaces x xs p
    at_places x xs p planned =
        let same = sym (long x xs) in
        record {
          plans = planned.0;
          items = subst (λ n. ItemPlans fit node_names pair_shape entry_value (n * size_of pair_shape) 0 (standing x xs) planned.0) same planned.1;
          is = planned.2 ∙ ap (λ n. leads (lengths x xs) (table_target pair_shape n) (parts planned.0)) same;
        }

    pub hashed_reads : (xs : List Entry) (vs : Values) (p : Plan) → FillsPairs fit xs vs → PairsPlan fit xs p → EachIs (TellsEntry g w fit) xs → (s : State) (seen : List Shared) → Alike g seen s.met → Begun g s.begun
        → (own : ℕ) (fs : List Field) (b : limits.State) → Lies p own (laid s seen) fs b → Reads g (hashed_spelling w) xs s own fs b
    hashed_reads [] vs p filled planned each s seen alike begun own fs b h =
        no_fields g (hashed_spelling w) [] s seen own fs b alike refl refl (λ e r. r) (λ e r. ⊎_elim (λ k. k) (λ many. let n = many.0 in absurd (omega (arith, n))) r)
        (flat_lies own (laid s seen) b fs (subst (λ z. Lies z own (laid s seen) fs b) planned h))
    hashed_reads (x ∷ xs) vs p filled planned each s seen alike begun own fs b h =
        let q = at_places x xs p planned in
        let told = each_tells x xs each in
        let sized = each_sized fit pair_shape entry_value (pair_spelling w) (present (standing x xs)) told in
        let r = table_reads g fit pair_shape (pair_spelling w) (pair_hashes (x ∷ xs)) x xs (even x xs) s own fs b
        (filled_read g fit pair_shape (pair_spelling w) (standing x xs) (written x xs) sized (lengths x xs) (parts q.plans) filled.are.wrapped.count s seen own
        (items_read fit pair_shape entry_value (pair_spelling w) (standing x xs) told q.plans q.items s seen alike begun) fs b
        (subst (λ z. Lies z own (laid s seen) fs b) q.is h)) in
        record { alike = r.alike; spares = r.spares; there = r.there; piece_past = r.piece_past; own_past = r.own_past; refused = r.refused }

    pub hashed_lies : (xs : List Entry) (vs : Values) (p : Plan) → FillsPairs fit xs vs → PairsPlan fit xs p → EachIs (TellsEntry g w fit) xs → (s : State) (seen : List Shared) → Alike g seen s.met → Begun g s.begun
        → (own : ℕ) → CanLie p own (laid s seen)
    hashed_lies [] vs p filled planned each s seen alike begun own = as_plan p flat own (laid s seen) planned (flat_can_lie own (laid s seen))
    hashed_lies (x ∷ xs) vs p filled planned each s seen alike begun own =
        let q = at_places x xs p planned in
        let told = each_tells x xs each in
        let sized = each_sized fit pair_shape entry_value (pair_spelling w) (present (standing x xs)) told in
        let these = standing x xs in
        as_plan p (FilledPlanOf x xs q.plans) own (laid s seen) q.is
        (filled_lies g fit pair_shape (pair_spelling w) these (written x xs) sized (lengths x xs) (parts q.plans) filled.are.wrapped.count s seen own
        (items_read fit pair_shape entry_value (pair_spelling w) these told q.plans q.items s seen alike begun)
        (items_lie fit pair_shape entry_value (pair_spelling w) these told q.plans q.items s seen alike begun (region_from pair_shape (pair_spelling w) these s)))
