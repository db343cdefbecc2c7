-- What a whole stores, against the limits of how it is written: once for each tree that lies in wholes.
use Rattle.std.proofs.Common.{◌≡◌, ℕ, suc, ◌+◌, ◌-◌, ◌*◌, ◌≤◌, ◌<◌, ◌==◌, cond, Bool, true, false, List, [], ◌∷◌, ◌++◌, length, Option, Some, None, refl, sym, ap, ap₂, subst, ◌∙◌, arith, ◌⊎◌, inl, inr, ⊎_elim, length-append, add-zero, le_refl}
use Rattle.std.specs.Prelude.{⊤, IsTrue}
use Rattle.std.proofs.lemmas.Bool.Decides.{eqb_tells}
use Rattle.archive_shape_layout.specs.Bytes.{align_up}
use Rattle.archive_shape_layout.specs.Shape.{size_of, align_of}
use Rattle.archive_shape_layout.specs.Shape.Pointee.{sized}
use Rattle.archive_shape_layout.specs.Value.{Value}
use Rattle.archive_shape_layout.specs.Holds.{Visit}
use Rattle.archive_shape_layout.specs.declared.error.Error.{Error}
use Rattle.archive_shape_canonical.specs.Settled.{Fit}
use Rattle.archive_shape_canonical.specs.Sharing.{erased, end_of_shared}
use Rattle.archive_shape_canonical.specs.Plan.{Plan, whole_target}
use Rattle.archive_shape_canonical.specs.Limits.{Field, offset, position, IsSomePast, Shared, IsUnmet, IsMetAt, moved, Lies, lies_first, lies_later}
use Rattle.archive_shape_canonical.specs.Limits as limits
use Rattle.archive_shape.specs.Bytes.{zeros}
use Rattle.archive_forms_laws.specs.State.{State, Met, IsOneOf, IsNoneOf, with_begun, visit_of_key}
use Rattle.archive_forms_laws.specs.Spelling.{Spelling}
use Rattle.archive_forms_laws.specs.Pointers.{box_spelling}
use Rattle.archive_forms_laws.specs.Regions.{region_at}
use Rattle.archive_forms_laws.specs.Shared.{shared_padding, first_visit, shared_piece, shared_resolver, shared_met, shared_refused}
use Rattle.cabinet_text_grammar.specs.Tree.{Tree, depth}
use Rattle.cabinet_text_grammar.specs.Wholes.{has, number_in, numbered, IsTable}
use Rattle.cabinet_text_grammar.proofs.Tables.{numbered_back, some_same}
use Rattle.cabinet_documents.specs.Node.{node_shape}
use Rattle.cabinet_documents.specs.SharedKeys.{key_of_text, key_of_whole}
use Rattle.cabinet_documents.specs.Resolver.{Resolver}
use Rattle.cabinet_documents.specs.Spelling.{boxed_spelling, whole_spelling}
use Rattle.cabinet_documents.proofs.KeysApart.{keys_apart}
use Rattle.cabinet_documents.proofs.Values.{keys_of, texts_stand, wholes_stand, shared_node, value_of}
use Rattle.cabinet_documents.proofs.Plans.{Planned, whole_plan}
use Rattle.cabinet_documents.proofs.SharedMet.{Sharing, Begun, shared_at, met_unmet, not_met, met_there, one_met}
use Rattle.cabinet_documents.proofs.Fields.{Alike, laid, Reads, IsFar, offset_past, past_offset, one_and_none}
use Rattle.cabinet_documents.proofs.StoredRegions.{region_fields}
use Rattle.cabinet_documents.proofs.Storing.{Tells, CanLie, as_plan, one_read, one_length, region_read, box_reads}

-- ---- what keys stand for, and which may be begun

module _ (wholes : List Tree) (is : IsTable wholes) where
  -- of a whole at least so deep
  abbrev pub IsDeepKey : ℕ → ℕ → Type 0
  IsDeepKey d k = (u : Tree) × (k ≡ key_of_whole wholes u) × IsTrue (has wholes u) × (d ≤ depth u)

  pub no_deep_text : (d k : ℕ) → IsDeepKey d k → (t : List ℕ) → k ≡ key_of_text t → ⊥
  no_deep_text d k deep t is_text = let odd = deep.1 in omega (arith, odd, is_text)

  abbrev pub shares : ℕ → Sharing
  shares d = record { keys = keys_of wholes; apart = keys_apart wholes is; texts = texts_stand wholes; may_be_begun = IsDeepKey d; no_text = no_deep_text d }

  less_deep : (c d k : ℕ) → c ≤ d → IsDeepKey d k → IsDeepKey c k
  less_deep c d k less deep = let at_least = deep.3 in (deep.0, deep.1, deep.2, omega (arith, less, at_least))

  begun_less_deep : (c d : ℕ) (ks : List ℕ) → c ≤ d → Begun (shares d) ks → Begun (shares c) ks
  begun_less_deep c d [] less b = tt
  begun_less_deep c d (k ∷ ks) less b = (less_deep c d k less b.0, begun_less_deep c d ks less b.1)

  -- one that is less deep has another key
  apart_from_deep : (d k : ℕ) (u : Tree) → depth u < d → IsTrue (has wholes u) → IsDeepKey d k → k ≡ key_of_whole wholes u → ⊥
  apart_from_deep d k u less known deep same_key =
      let x = deep.0 in
      let key = deep.1 in
      let numbers : number_in wholes x ≡ number_in wholes u = omega (arith, key, same_key) in
      let one : x ≡ u = some_same x u (sym (numbered_back wholes x deep.2) ∙ ap (numbered wholes) numbers ∙ numbered_back wholes u known) in
      let at_least : d ≤ depth u = subst (λ t. d ≤ depth t) one deep.3 in
      omega (arith, less, at_least)

  not_begun : (d : ℕ) (u : Tree) (ks : List ℕ) → depth u < d → IsTrue (has wholes u) → Begun (shares d) ks → IsNoneOf (key_of_whole wholes u) ks
  not_begun d u [] less known b = tt
  not_begun d u (k ∷ ks) less known b = ((λ same_key. apart_from_deep d k u less known b.0 same_key), not_begun d u ks less known b.1)

-- ---- one whole

module _ (fit : Fit) (wholes : List Tree) (is : IsTable wholes) (w : Spelling Tree Resolver) (d : ℕ) (u : Tree) (less : depth u < d) (known : IsTrue (has wholes u)) (tell : Tells (shares wholes is (depth u)) fit w u)
    (v : Value) (p : Plan) (same : erased v ≡ value_of u) (planned : Planned fit node_shape v p)
    (s : State) (seen : List Shared) (alike : Alike (shares wholes is d) seen s.met) (begun : Begun (shares wholes is d) s.begun) (own : ℕ) where
  outside : Sharing
  outside = shares wholes is d

  inside : Sharing
  inside = shares wholes is (depth u)

  abbrev key : ℕ
  key = key_of_whole wholes u

  -- the state in which what lies in the whole is written
  abbrev within_it : State
  within_it = with_begun key s

  begun_inside : Begun (shares wholes is (depth u)) within_it.begun
  begun_inside = ((u, refl, known, le_refl (depth u)), begun_less_deep wholes is (depth u) d s.begun (omega (arith, less)) begun)

  free : IsNoneOf key s.begun
  free = not_begun wholes is d u s.begun less known begun

  abbrev start : ℕ
  start = region_at w node_shape (u ∷ []) within_it

  abbrev WholeReads : List Field → limits.State → Type 0
  WholeReads fs b = Reads (shares wholes is d) (whole_spelling wholes w) u s own fs b

  abbrev boxed : Spelling Tree ℕ
  boxed = box_spelling node_shape w

  abbrev refused_by : Option Visit → Error → Type 0
  refused_by o e = shared_refused (sized node_shape) (λ x. 1) (key_of_whole wholes) boxed u s o e

  abbrev own_by : Option Visit → Error → Type 0
  own_by o e = boxed.own_refused u (shared_resolver (sized node_shape) (λ x. 1) (key_of_whole wholes) boxed u s o) own e

  abbrev met_by : Option Visit → List Met
  met_by o = shared_met (sized node_shape) (λ x. 1) (key_of_whole wholes) boxed u s o

  -- its node, in the region where it is first written
  first_node : (within : List Field) (inner : limits.State) → Lies p start (laid s seen) within inner
      → Reads (shares wholes is (depth u)) (boxed_spelling w) u within_it own (region_fields own start (start + 0) [] within) (moved (start + 24) inner)
  first_node within inner h =
      let r = tell.reads v p same planned within_it seen alike begun_inside start within inner h in
      let one : 24 ≡ length (u ∷ []) * 24 = omega arith in
      let size = tell.sized (w.resolver u within_it) start in
      box_reads (shares wholes is (depth u)) fit w u within_it own (region_fields own start (start + 0) [] within) (moved (start + 24) inner)
      (region_read (shares wholes is (depth u)) fit node_shape value_of w (u ∷ []) within_it own [] within (region_fields own start (start + 0) [] within) inner (moved (start + 24) inner)
      (one_length (shares wholes is (depth u)) fit w u within_it start size ∙ one)
      (one_read (shares wholes is (depth u)) fit node_shape value_of w u within_it start within inner size r)
      (ap (λ n. moved (start + n) inner) one)
      refl)

  not_at_start : (start == (start + 24)) ≡ false
  not_at_start =
      elim (eqb_tells start (start + 24)) [
        | inl equal ↦ absurd (let e = equal.1 in omega (arith, e))
        | inr apart ↦ apart.0
      ]

  end_is : end_of_shared start (start + 24) ≡ start + 24
  end_is =
      elim (eqb_tells (start + 24) start) [
        | inl equal ↦ absurd (let e = equal.1 in omega (arith, e))
        | inr apart ↦ ap (λ b. cond b (start + 24 + 1) (start + 24)) apart.0
      ]

  no_padding : (end : ℕ) → end ≡ start + 24 → shared_padding start end ≡ 0
  no_padding end at_end =
      elim (eqb_tells end start) [
        | inl equal ↦ absurd (let e = equal.1 in omega (arith, e, at_end))
        | inr apart ↦ ap (λ b. cond b 1 0) apart.0
      ]

  first_past : (within : List Field) (inner b : limits.State) (fs : List Field)
      → b ≡ record { pos = start + 24; met = shared_at (shared_node u) start ∷ inner.met } → fs ≡ region_fields own start (start + 0) [] within
      → visit_of_key (w.met u within_it) key ≡ None
      → Reads (shares wholes is (depth u)) (boxed_spelling w) u within_it own (region_fields own start (start + 0) [] within) (moved (start + 24) inner)
      → (e : Error) → refused_by None e → IsSomePast fs e ⊎ IsFar b.pos e
  first_past within inner b fs ends fields not_inside r e (inl cyclic) = absurd (one_and_none key s.begun cyclic.0 free)
  first_past within inner b fs ends fields not_inside r e (inr (inl q)) =
      ⊎_elim (λ past. inl (subst (λ l. IsSomePast l e) (sym fields) past)) (λ far. inr (subst (λ n. IsFar n e) (sym (ap (λ (z : limits.State). z.pos) ends)) far)) (r.piece_past e q.1)
  first_past within inner b fs ends fields not_inside r e (inr (inr finished)) = absurd (finished.0 not_inside)

  first_reads : (within : List Field) (inner b : limits.State) (fs : List Field) → visit_of_key s.met key ≡ None → Lies p start (laid s seen) within inner
      → b ≡ record { pos = start + 24; met = shared_at (shared_node u) start ∷ inner.met } → fs ≡ region_fields own start (start + 0) [] within → WholeReads fs b
  first_reads within inner b fs new h ends fields =
      let r = first_node within inner h in
      let stands = wholes_stand wholes u known in
      let not_inside : visit_of_key (w.met u within_it) key ≡ None = r.spares key (u, refl, known, le_refl (depth u)) new in
      let unmet = not_met (keys_of wholes) (keys_apart wholes is) key (shared_node u) stands inner.met (w.met u within_it) r.alike not_inside in
      let here : Alike (shares wholes is d) (shared_at (shared_node u) start ∷ inner.met) (met_by None) = (record { value = shared_node u; stands = stands; is = refl }, unmet, r.alike) in
      let node_end = r.there in
      let pad = shared_padding start (s.pos + length (boxed.piece u within_it)) in
      let none : length (zeros pad) ≡ 0 = ap (λ n. length (zeros n)) (no_padding (s.pos + length (boxed.piece u within_it)) (sym node_end)) in
      let whole_length : length (boxed.piece u within_it ++ zeros pad) ≡ length (boxed.piece u within_it) = length-append (boxed.piece u within_it) (zeros pad) ∙ omega (arith, none) in
      record {
        alike = subst (λ o. Alike (shares wholes is d) b.met (met_by o)) (sym new) (subst (λ (z : limits.State). Alike (shares wholes is d) z.met (met_by None)) (sym ends) here);
        spares = λ k o e. subst (λ x. visit_of_key (met_by x) k ≡ None) (sym new) (
            elim (eqb_tells key k) [
              | inl equal ↦ absurd (apart_from_deep wholes is d k u less known o (sym equal.1))
              | inr apart ↦
                  ap (λ c. cond c (Some (first_visit (sized node_shape) (λ x. 1) (key_of_whole wholes) boxed u s)) (visit_of_key (w.met u within_it) k)) apart.0
                  ∙ r.spares k (less_deep wholes is (depth u) d k (omega (arith, less)) o) e
            ]);
        there = ap (λ (z : limits.State). z.pos) ends ∙ node_end
            ∙ ap (λ n. s.pos + n) (sym whole_length)
            ∙ ap (λ o. s.pos + length (shared_piece (sized node_shape) (λ x. 1) (key_of_whole wholes) boxed u s o)) (sym new);
        piece_past = λ e q. first_past within inner b fs ends fields not_inside r e (subst (λ o. refused_by o e) new q);
        own_past = λ e q. subst (λ l. IsSomePast l e) (sym fields) (r.own_past e (subst (λ o. own_by o e) new q));
        refused = λ e past. subst (λ o. refused_by o e ⊎ own_by o e) (sym new)
            (⊎_elim (λ q. inl (inr (inl (free, q)))) (λ q. inr q) (r.refused e (subst (λ l. IsSomePast l e) fields past)));
      }

  -- ---- one that was written before

  later_past : (to : ℕ) (e : Error) → boxed.own_refused u to own e → IsSomePast (offset own to ∷ []) e
  later_past to e far = inl (offset_past own to far.0, far.1)

  past_later : (to : ℕ) (e : Error) → IsSomePast (offset own to ∷ []) e → boxed.own_refused u to own e
  past_later to e (inl far) = (past_offset own to far.0, far.1)
  past_later to e (inr none) = absurd none

  later_reads : (fs : List Field) (b : limits.State) (x : Visit) → visit_of_key s.met key ≡ Some x → b ≡ laid s seen → fs ≡ offset own x.pos ∷ [] → WholeReads fs b
  later_reads fs b x met ends fields = record {
    alike = subst (λ o. Alike (shares wholes is d) b.met (met_by o)) (sym met) (subst (λ (z : limits.State). Alike (shares wholes is d) z.met s.met) (sym ends) alike);
    spares = λ k o e. subst (λ y. visit_of_key (met_by y) k ≡ None) (sym met) e;
    there = ap (λ (z : limits.State). z.pos) ends ∙ sym (add-zero s.pos) ∙ ap (λ o. s.pos + length (shared_piece (sized node_shape) (λ y. 1) (key_of_whole wholes) boxed u s o)) (sym met);
    piece_past = λ e q. absurd (subst (λ o. refused_by o e) met q);
    own_past = λ e q. subst (λ l. IsSomePast l e) (sym fields) (later_past x.pos e (subst (λ o. own_by o e) met q));
    refused = λ e past. subst (λ o. refused_by o e ⊎ own_by o e) (sym met) (inr (past_later x.pos e (subst (λ l. IsSomePast l e) fields past)));
  }

  -- ---- by what was visited under its key

  stands : keys_of wholes key ≡ Some (shared_node u)
  stands = wholes_stand wholes u known

  unmet_where : visit_of_key s.met key ≡ None → IsUnmet (sized node_shape) (value_of u) seen
  unmet_where new = not_met (keys_of wholes) (keys_apart wholes is) key (shared_node u) stands seen s.met alike new

  met_where : (x : Visit) → visit_of_key s.met key ≡ Some x → IsMetAt (sized node_shape) (value_of u) x.pos seen
  met_where x met = met_there (keys_of wholes) key (shared_node u) stands seen s.met x alike met

  reads_by : (o : Option Visit) → visit_of_key s.met key ≡ o → (fs : List Field) (b : limits.State) → Lies (whole_plan (value_of u) p) own (laid s seen) fs b → WholeReads fs b
  reads_by None new fs b (lies_first {start = at} {inner = inner} {fs = within} unmet h begins ends fields) =
      let there = (tell.reads v p same planned within_it seen alike begun_inside at within inner h).there in
      let at_start : at ≡ start = begins ∙ ap (λ n. align_up n (align_of node_shape)) there in
      first_reads within inner b fs new (subst (λ n. Lies p n (laid s seen) within inner) at_start h)
      (ends ∙ ap (λ n. let z : limits.State = record { pos = end_of_shared n (n + 24); met = shared_at (shared_node u) n ∷ inner.met } in z) at_start
      ∙ ap (λ n. let z : limits.State = record { pos = n; met = shared_at (shared_node u) start ∷ inner.met } in z) end_is)
      (fields ∙ ap (λ n. region_fields own n (n + 0) [] within) at_start)
  reads_by None new fs b (lies_later n met fields) = absurd (met_unmet (sized node_shape) (value_of u) n seen (unmet_where new) met)
  reads_by (Some x) met fs b (lies_first unmet h begins ends fields) = absurd (met_unmet (sized node_shape) (value_of u) x.pos seen unmet (met_where x met))
  reads_by (Some x) met fs b (lies_later n there fields) =
      let at : n ≡ x.pos = one_met (keys_of wholes) (sized node_shape) (value_of u) n x.pos seen s.met alike there (met_where x met) in
      later_reads fs b x met refl (fields ∙ ap (λ k. offset own k ∷ []) (add-zero n ∙ at))

  pub whole_reads : (q : Plan) (fs : List Field) (b : limits.State) → q ≡ whole_plan (value_of u) p → Lies q own (laid s seen) fs b → WholeReads fs b
  whole_reads q fs b q_is h = reads_by (visit_of_key s.met key) refl fs b (subst (λ x. Lies x own (laid s seen) fs b) q_is h)

  -- and it lies
  lies_by : (o : Option Visit) → visit_of_key s.met key ≡ o → CanLie (whole_plan (value_of u) p) own (laid s seen)
  lies_by None new =
      let l = tell.lies v p same planned within_it seen alike begun_inside start in
      let there = (tell.reads v p same planned within_it seen alike begun_inside start l.0 l.1 l.2).there in
      (_, _, lies_first (unmet_where new) l.2 (ap (λ n. align_up n (align_of node_shape)) (sym there)) refl refl)
  lies_by (Some x) met = (_, _, lies_later x.pos (met_where x met) refl)

  pub whole_lies : (q : Plan) → q ≡ whole_plan (value_of u) p → CanLie q own (laid s seen)
  whole_lies q q_is = as_plan q (whole_plan (value_of u) p) own (laid s seen) q_is (lies_by (visit_of_key s.met key) refl)
