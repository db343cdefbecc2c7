-- What a key and the document that it has in a map store, against the limits of how they are written.
use Rattle.std.proofs.Common.{◌≡◌, ℕ, ◌+◌, List, [], ◌++◌, length, refl, sym, ap, subst, ◌∙◌, arith, ◌⊎◌, inl, inr, ⊎_elim, length-append, append_assoc, append-nil}
use Rattle.archive_shape_layout.specs.Bytes.{align_up}
use Rattle.archive_shape_layout.specs.Shape.{size_of, align_of}
use Rattle.archive_shape_layout.specs.Shape.Shape.{text}
use Rattle.archive_shape_layout.specs.Value.{Value}
use Rattle.archive_shape_layout.specs.Value.Value.{string}
use Rattle.archive_shape_layout.specs.declared.error.Error.{Error}
use Rattle.archive_shape_canonical.specs.Settled.{Fit}
use Rattle.archive_shape_canonical.specs.Sharing.{erased}
use Rattle.archive_shape_canonical.specs.Plan.{Plan, Plans, no_plans, more_plans}
use Rattle.archive_shape_canonical.specs.Limits.{Field, IsSomePast, Shared, Lies, lies_parts, LieAll, lie_none}
use Rattle.archive_shape_canonical.specs.Limits as limits
use Rattle.archive_forms_laws.specs.State.{State}
use Rattle.archive_forms_laws.specs.Spelling.{Spelling, state_after}
use Rattle.archive_forms_writing.specs.Owned.{str_spelling}
use Rattle.archive_btree_spelling.proofs.Planned.{pair, EntryPlan}
use Rattle.cabinet_text_grammar.specs.Tree.{Tree}
use Rattle.cabinet_documents.specs.Node.{node_shape, node_names, pair_shape}
use Rattle.cabinet_documents.specs.Denotes.{pair_value}
use Rattle.cabinet_documents.specs.Resolver.{Resolver}
use Rattle.cabinet_documents.specs.Spelling.{pair_spelling}
use Rattle.cabinet_documents.proofs.Values.{value_of, entry_value}
use Rattle.cabinet_documents.proofs.SpellingDenoted.{paired}
use Rattle.cabinet_documents.proofs.Plans.{TextPlan, text_planned, key_at, node_at, pair_plan, pair_planned}
use Rattle.cabinet_documents.proofs.SharedMet.{Sharing, Begun, Spares}
use Rattle.cabinet_documents.proofs.Fields.{text_length_of, Alike, laid, reached, parts_lies, past_left, past_right, past_either, IsFar, Reads, text_reads}
use Rattle.cabinet_documents.proofs.Storing.{CanAllLie, as_plan, text_can_lie, TellsValue, Tells, no_lies, first_lies, one_more_lies}

-- a key and the document that it has in a map
abbrev pub Entry : Type 0
Entry = List ℕ × Tree

module _ (g : Sharing) where
  module _ (w : Spelling Tree Resolver) where
    -- the own bytes of a key at a position, and those of its document, exceed a limit
    abbrev pub KeyRefused : Entry → State → ℕ → Error → Type 0
    KeyRefused x s a e = str_spelling.own_refused x.0 (str_spelling.resolver x.0 s) a e

    abbrev pub ValueRefused : Entry → State → ℕ → Error → Type 0
    ValueRefused x s b e = w.own_refused x.1 (w.resolver x.1 (state_after str_spelling x.0 s)) b e

    -- as `Reads g`, of a key and a document that lie at two positions
    pub record ReadsEntry (x : Entry) (s : State) (a b : ℕ) (fs : List Field) (c : limits.State) : Type 0 where
      pub alike : Alike g c.met (state_after (pair_spelling w) x s).met
      pub spares : Spares g s.met (state_after (pair_spelling w) x s).met
      pub there : c.pos ≡ (state_after (pair_spelling w) x s).pos
      pub piece_past : (e : Error) → (pair_spelling w).piece_refused x s e → IsSomePast fs e ⊎ IsFar c.pos e
      pub key_past : (e : Error) → KeyRefused x s a e → IsSomePast fs e
      pub value_past : (e : Error) → ValueRefused x s b e → IsSomePast fs e
      pub refused : (e : Error) → IsSomePast fs e → (pair_spelling w).piece_refused x s e ⊎ (KeyRefused x s a e ⊎ ValueRefused x s b e)

    -- an entry is written when its document is
    entry_after : (x : Entry) (s : State) → (state_after (pair_spelling w) x s).pos ≡ (state_after w x.1 (state_after str_spelling x.0 s)).pos
    entry_after x s =
        let of_key = str_spelling.piece x.0 s in
        let of_value = w.piece x.1 (state_after str_spelling x.0 s) in
        omega (arith, length-append of_key (of_value ++ []), length-append of_value [])

    key_and_value :
        (x : Entry) (s : State) (a b : ℕ) (of_key of_value fs : List Field) (one two : limits.State)
        → Reads g str_spelling x.0 s a of_key one
        → Reads g w x.1 (state_after str_spelling x.0 s) b of_value two
        → fs ≡ of_key ++ of_value
        → ReadsEntry x s a b fs two
    key_and_value x s a b of_key of_value fs one two key value all =
        let at_one = key.there in
        let at_two = value.there in
        let first : (e : Error) → IsSomePast of_key e → IsSomePast fs e = λ e p. subst (λ l. IsSomePast l e) (sym all) (past_left of_key of_value e p) in
        let second : (e : Error) → IsSomePast of_value e → IsSomePast fs e = λ e p. subst (λ l. IsSomePast l e) (sym all) (past_right of_key of_value e p) in
        record {
          alike = value.alike;
          spares = λ k o e. value.spares k o (key.spares k o e);
          there = at_two ∙ sym (entry_after x s);
          piece_past = λ e. ⊎_elim
              (λ r. ⊎_elim (λ p. inl (first e p)) (λ far. inr (omega (arith, far.0, at_one, at_two), far.1)) (key.piece_past e r))
              (⊎_elim (λ r. ⊎_elim (λ p. inl (second e p)) (λ far. inr far) (value.piece_past e r)) (λ none. absurd none));
          key_past = λ e r. first e (key.own_past e r);
          value_past = λ e r. second e (value.own_past e r);
          refused = λ e p. ⊎_elim
              (λ q. ⊎_elim (λ r. inl (inl r)) (λ r. inr (inl r)) (key.refused e q))
              (λ q. ⊎_elim (λ r. inl (inr (inl r))) (λ r. inr (inr r)) (value.refused e q))
              (past_either of_key of_value e (subst (λ l. IsSomePast l e) all p));
        }

    module _ (fit : Fit) where
      -- what is known of the document of an entry
      abbrev pub TellsEntry : Entry → Type 0
      TellsEntry x = Tells g fit w x.1

      abbrev pub IsEntryPlan : Entry → Plan → Plan → Type 0
      IsEntryPlan x p q = EntryPlan fit node_names 5 text node_shape entry_value x p q

      key_planned : (x : Entry) (p q : Plan) (e : IsEntryPlan x p q) → TextPlan x.0 p
      key_planned x p q e =
          let two = paired x.0 (value_of x.1) (pair fit node_names 5 text node_shape entry_value e.key e.value) e.same in
          let is : pair fit node_names 5 text node_shape entry_value e.key e.value ≡ pair_value x.0 two.inner = two.is in
          let key_is : e.key ≡ string x.0 = cc in
          text_planned fit x.0 e.key p key_is e.key_planned

      value_same : (x : Entry) (key value : Value) → erased (pair fit node_names 5 text node_shape entry_value key value) ≡ entry_value x → erased value ≡ value_of x.1
      value_same x key value e = cc

      -- what an entry leads to, and then what other plans do
      pub record EntryLies (x : Entry) (s : State) (own a b : ℕ) (others : Plans) (fs : List Field) (c : limits.State) : Type 0 where
        pub between : limits.State
        pub here : List Field
        pub there : List Field
        pub reads : ReadsEntry x s a b here between
        pub lies : LieAll others own (laid (state_after (pair_spelling w) x s) between.met) there c
        pub all : fs ≡ here ++ there

      module _ (x : Entry) (p q : Plan) (others : Plans) (at_key at_value own : ℕ) (s : State) (seen : List Shared) (tell : TellsEntry x) (e : IsEntryPlan x p q) (alike : Alike g seen s.met) (begun : Begun g s.begun) where
        pub entry_read : (a b : ℕ) (fs : List Field) (c : limits.State) → a ≡ own + at_key → b ≡ own + at_value
            → LieAll (more_plans at_key p (more_plans at_value q others)) own (laid s seen) fs c → EntryLies x s own a b others fs c
        entry_read a b fs c a_is b_is h =
            let l = first_lies at_key p (more_plans at_value q others) own (laid s seen) c fs h in
            let m = first_lies at_value q others own l.between c l.there l.rest in
            let next = state_after str_spelling x.0 s in
            let key = text_reads g x.0 s seen a p l.here l.between (key_planned x p q e) alike (subst (λ n. Lies p n (laid s seen) l.here l.between) (sym a_is) l.first) in
            let lies = subst (λ n. Lies q n (laid next l.between.met) m.here m.between) (sym b_is) (subst (λ z. Lies q (own + at_value) z m.here m.between) (reached l.between next key.there) m.first) in
            let value = tell.reads e.value q (value_same x e.key e.value e.same) e.value_planned next l.between.met key.alike begun b m.here m.between lies in
            let both = key_and_value x s a b l.here m.here (l.here ++ m.here) l.between m.between key value refl in
            record {
              between = m.between;
              here = l.here ++ m.here;
              there = m.there;
              reads = both;
              lies = subst (λ z. LieAll others own z m.there c) (reached m.between (state_after (pair_spelling w) x s) both.there) m.rest;
              all = l.all ∙ ap (λ z. l.here ++ z) m.all ∙ sym (append_assoc l.here m.here m.there);
            }

        pub entry_lies : ((met : List Shared) → Alike g met (state_after (pair_spelling w) x s).met → CanAllLie others own (laid (state_after (pair_spelling w) x s) met))
            → CanAllLie (more_plans at_key p (more_plans at_value q others)) own (laid s seen)
        entry_lies rest =
            let next = state_after str_spelling x.0 s in
            let k = text_can_lie x.0 p (own + at_key) (laid s seen) (key_planned x p q e) in
            let key = text_reads g x.0 s seen (own + at_key) p k.0 k.1 (key_planned x p q e) alike k.2 in
            let same = value_same x e.key e.value e.same in
            let v = tell.lies e.value q same e.value_planned next k.1.met key.alike begun (own + at_value) in
            let value = tell.reads e.value q same e.value_planned next k.1.met key.alike begun (own + at_value) v.0 v.1 v.2 in
            let both = key_and_value x s (own + at_key) (own + at_value) k.0 v.0 (k.0 ++ v.0) k.1 v.1 key value refl in
            let o = rest v.1.met both.alike in
            let here = subst (λ z. Lies q (own + at_value) z v.0 v.1) (sym (reached k.1 next key.there)) v.2 in
            let there = subst (λ z. LieAll others own z o.0 o.1) (sym (reached v.1 (state_after (pair_spelling w) x s) both.there)) o.2 in
            let behind = one_more_lies at_value q others own k.1 v.1 o.1 v.0 o.0 here there in
            one_more_lies at_key p (more_plans at_value q others) own (laid s seen) k.1 behind.1 k.0 behind.0 k.2 behind.2

      -- ---- pairs, which tables and vectors hold

      pair_length : (x : Entry) → TellsEntry x → (r : _) (pos : ℕ) → length ((pair_spelling w).own x r pos) ≡ size_of pair_shape
      unfolding align_up
      pair_length x tell r pos =
          let key = str_spelling.own x.0 r.0 (pos + 0) in
          let value = w.own x.1 r.1 (pos + 8) in
          let of_key = text_length_of x.0 r.0.pos (pos + 0) in
          let of_value = tell.sized r.1 (pos + 8) in
          length-append (key ++ (value ++ [])) [] ∙ omega (arith, of_key, of_value, length-append key (value ++ []), length-append value [])

      pub pair_tells : (x : Entry) → TellsEntry x → TellsValue g fit pair_shape entry_value (pair_spelling w) x
      pair_tells x tell = record {
        sized = pair_length x tell;
        reads = λ v p same planned s seen alike begun own fs b h.
            let q = pair_planned fit x v p same planned in
            let behind = own + align_up 0 (align_of text) in
            let after = own + align_up (align_up 0 (align_of text) + size_of text) (align_of node_shape) in
            let all = parts_lies (more_plans key_at q.key_plan (more_plans node_at q.value_plan no_plans)) own (laid s seen) b fs (subst (λ z. Lies z own (laid s seen) fs b) q.is h) in
            let l = entry_read x q.key_plan q.value_plan no_plans key_at node_at own s seen tell q.entry alike begun behind after fs b (omega arith) (omega arith) all in
            let ends = no_lies own (laid (state_after (pair_spelling w) x s) l.between.met) b l.there l.lies in
            let fields : fs ≡ l.here = l.all ∙ ap (λ z. l.here ++ z) ends.0 ∙ append-nil l.here in
            let back : (e : _) → IsSomePast l.here e → IsSomePast fs e = λ e past. subst (λ z. IsSomePast z e) (sym fields) past in
            let at_end : b.pos ≡ (state_after (pair_spelling w) x s).pos = ap (λ (z : limits.State). z.pos) ends.1 in
            let at_between = l.reads.there in
            record {
              alike = subst (λ (z : limits.State). Alike g z.met ((pair_spelling w).met x s)) (sym ends.1) l.reads.alike;
              spares = l.reads.spares;
              there = at_end;
              piece_past = λ e r. ⊎_elim (λ past. inl (back e past)) (λ far. inr (omega (arith, far.0, at_between, at_end), far.1)) (l.reads.piece_past e r);
              own_past = λ e. ⊎_elim (λ r. back e (l.reads.key_past e r)) (⊎_elim (λ r. back e (l.reads.value_past e r)) (λ none. absurd none));
              refused = λ e past. ⊎_elim (λ r. inl r) (⊎_elim (λ r. inr (inl r)) (λ r. inr (inr (inl r)))) (l.reads.refused e (subst (λ z. IsSomePast z e) fields past));
            };
        lies = λ v p same planned s seen alike begun own.
            let q = pair_planned fit x v p same planned in
            let all = entry_lies x q.key_plan q.value_plan no_plans key_at node_at own s seen tell q.entry alike begun (λ met both. ([], laid (state_after (pair_spelling w) x s) met, lie_none)) in
            as_plan p (pair_plan q.key_plan q.value_plan) own (laid s seen) q.is (all.0, all.1, lies_parts all.2);
      }
