-- What the entries of a search tree's node store, and what lies below its pointers, against the limits of how they are
-- written.
use Rattle.std.proofs.Common.{◌≡◌, ℕ, zero, suc, ◌+◌, ◌<◌, ◌≤◌, List, [], ◌∷◌, ◌++◌, map as mapped, length, Option, None, refl, sym, ap, subst, ◌∙◌, arith, ◌⊎◌, inl, inr, ⊎_elim, append_assoc, add-zero}
use Rattle.archive_shape_layout.specs.Shape.{size_of}
use Rattle.archive_shape_layout.specs.Shape.Shape.{text}
use Rattle.archive_shape_layout.specs.declared.error.Error.{Error}
use Rattle.archive_shape_canonical.specs.Settled.{Fit}
use Rattle.archive_shape_canonical.specs.Plan.{Target, Plan, leads, Plans}
use Rattle.archive_shape_canonical.specs.Limits.{Field, count, IsSomePast, Shared, Lies, LieAll, lie_none}
use Rattle.archive_shape_canonical.specs.Limits as limits
use Rattle.archive_forms_laws.specs.State.{State, visit_of_key}
use Rattle.archive_forms_laws.specs.Spelling.{Spelling, state_after}
use Rattle.archive_forms_laws.specs.Regions.{state_after_all, resolvers, pieces_refused}
use Rattle.archive_forms_laws.specs.Links.{LinkRefused}
use Rattle.archive_forms_writing.specs.Owned.{str_spelling}
use Rattle.archive_btree_spelling.specs.Written.{AnySlot, LinksRefused}
use Rattle.archive_btree_spelling.specs.Maps.{packed_spelling}
use Rattle.archive_btree_spelling.proofs.Parting.{EachIs}
use Rattle.archive_btree_spelling.proofs.Planned.{EntryPlans, ChildPlans}
use Rattle.cabinet_text_grammar.specs.Tree.{Tree}
use Rattle.cabinet_documents.specs.Node.{node_shape, node_names}
use Rattle.cabinet_documents.specs.Resolver.{Resolver}
use Rattle.cabinet_documents.specs.Spelling.{pair_spelling}
use Rattle.cabinet_documents.proofs.Values.{entry_value}
use Rattle.cabinet_documents.proofs.Plans.{EntriesPlan}
use Rattle.cabinet_documents.proofs.SharedMet.{Sharing, Begun, Spares}
use Rattle.cabinet_documents.proofs.Fields.{Alike, laid, reached, past_left, past_right, past_either, IsFar}
use Rattle.cabinet_documents.proofs.Storing.{CanLie, CanAllLie, no_lies, first_lies, one_more_lies}
use Rattle.cabinet_documents.proofs.StoredPairs.{Entry, KeyRefused, ValueRefused, ReadsEntry, TellsEntry, entry_read, entry_lies}

-- ---- entries

module _ (g : Sharing) where
  module _ (w : Spelling Tree Resolver) where
    -- the own bytes of keys or of values side by side, from a position on, exceed a limit
    abbrev pub KeysRefused : List Entry → State → ℕ → Error → Type 0
    KeysRefused xs s a e = AnySlot (state_after (pair_spelling w)) (size_of text) (λ x then at. KeyRefused g w x then at e) xs s a

    abbrev pub ValuesRefused : List Entry → State → ℕ → Error → Type 0
    ValuesRefused xs s b e = AnySlot (state_after (pair_spelling w)) (size_of node_shape) (λ x then at. ValueRefused g w x then at e) xs s b

    -- as `Reads`, of pair_spelling whose keys and values lie side by side from two positions on
    pub record ReadsEntries (xs : List Entry) (s : State) (a b : ℕ) (fs : List Field) (c : limits.State) : Type 0 where
      pub alike : Alike g c.met (state_after_all (pair_spelling w) xs s).met
      pub spares : Spares g s.met (state_after_all (pair_spelling w) xs s).met
      pub there : c.pos ≡ (state_after_all (pair_spelling w) xs s).pos
      pub up : s.pos ≤ c.pos
      pub pieces_past : (e : Error) → pieces_refused (pair_spelling w) xs s e → IsSomePast fs e ⊎ IsFar c.pos e
      pub keys_past : (e : Error) → KeysRefused xs s a e → IsSomePast fs e
      pub values_past : (e : Error) → ValuesRefused xs s b e → IsSomePast fs e
      pub refused_all : (e : Error) → IsSomePast fs e → pieces_refused (pair_spelling w) xs s e ⊎ (KeysRefused xs s a e ⊎ ValuesRefused xs s b e)

    entry_and_rest :
        (x : Entry) (xs : List Entry) (s : State) (a b : ℕ) (here there fs : List Field) (between c : limits.State)
        → ReadsEntry g w x s a b here between
        → ReadsEntries xs (state_after (pair_spelling w) x s) (a + size_of text) (b + size_of node_shape) there c
        → fs ≡ here ++ there
        → ReadsEntries (x ∷ xs) s a b fs c
    entry_and_rest x xs s a b here there fs between c entry rest all =
        let at_between = entry.there in
        let up = rest.up in
        let first : (e : Error) → IsSomePast here e → IsSomePast fs e = λ e p. subst (λ l. IsSomePast l e) (sym all) (past_left here there e p) in
        let later : (e : Error) → IsSomePast there e → IsSomePast fs e = λ e p. subst (λ l. IsSomePast l e) (sym all) (past_right here there e p) in
        record {
          alike = rest.alike;
          spares = λ k o e. rest.spares k o (entry.spares k o e);
          there = rest.there;
          up = omega (arith, up);
          pieces_past = λ e. ⊎_elim
              (λ r. ⊎_elim (λ p. inl (first e p)) (λ far. inr (omega (arith, far.0, at_between, up), far.1)) (entry.piece_past e r))
              (λ r. ⊎_elim (λ p. inl (later e p)) (λ far. inr far) (rest.pieces_past e r));
          keys_past = λ e. ⊎_elim (λ r. first e (entry.key_past e r)) (λ r. later e (rest.keys_past e r));
          values_past = λ e. ⊎_elim (λ r. first e (entry.value_past e r)) (λ r. later e (rest.values_past e r));
          refused_all = λ e p. ⊎_elim
              (λ q. ⊎_elim (λ r. inl (inl r)) (⊎_elim (λ r. inr (inl (inl r))) (λ r. inr (inr (inl r)))) (entry.refused e q))
              (λ q. ⊎_elim (λ r. inl (inr r)) (⊎_elim (λ r. inr (inl (inr r))) (λ r. inr (inr (inr r)))) (rest.refused_all e q))
              (past_either here there e (subst (λ l. IsSomePast l e) all p));
        }

    module _ (fit : Fit) where
      abbrev pub EntriesPlanned : ℕ → ℕ → List Entry → Plans → Type 0
      EntriesPlanned at_key at_value xs ps = EntryPlans fit node_names 5 text node_shape entry_value at_key at_value xs ps

      pub entries_read :
          (xs : List Entry) (ps : Plans) (at_key at_value own a b : ℕ) (s : State) (seen : List Shared) (fs : List Field) (c : limits.State)
          → EachIs (TellsEntry g w fit) xs → EntriesPlanned at_key at_value xs ps → Alike g seen s.met → Begun g s.begun → a ≡ own + at_key → b ≡ own + at_value
          → LieAll ps own (laid s seen) fs c → ReadsEntries xs s a b fs c
      entries_read [] ps at_key at_value own a b s seen fs c each planned alike begun a_is b_is h =
          let ends = no_lies own (laid s seen) c fs (subst (λ x. LieAll x own (laid s seen) fs c) planned h) in
          let at_end : c.pos ≡ s.pos = ap (λ (z : limits.State). z.pos) ends.1 in
          record {
            alike = subst (λ (z : limits.State). Alike g z.met s.met) (sym ends.1) alike;
            spares = λ k o e. e;
            there = at_end;
            up = omega (arith, at_end);
            pieces_past = λ e r. absurd r;
            keys_past = λ e r. absurd r;
            values_past = λ e r. absurd r;
            refused_all = λ e p. absurd (subst (λ l. IsSomePast l e) ends.0 p);
          }
      entries_read (x ∷ xs) ps at_key at_value own a b s seen fs c each planned alike begun a_is b_is h =
          let l = entry_read g w fit x planned.key_plan planned.value_plan planned.others at_key at_value own s seen each.0 planned.entry alike begun a b fs c a_is b_is
          (subst (λ z. LieAll z own (laid s seen) fs c) planned.is h) in
          let rest = entries_read xs planned.others (at_key + size_of text) (at_value + size_of node_shape) own (a + size_of text) (b + size_of node_shape) (state_after (pair_spelling w) x s) l.between.met l.there c
          each.1 planned.rest l.reads.alike begun (omega (arith, a_is)) (omega (arith, b_is)) l.lies in
          entry_and_rest x xs s a b l.here l.there fs l.between c l.reads rest l.all

      pub entries_lie :
          (xs : List Entry) (ps : Plans) (at_key at_value own : ℕ) (s : State) (seen : List Shared)
          → EachIs (TellsEntry g w fit) xs → EntriesPlanned at_key at_value xs ps → Alike g seen s.met → Begun g s.begun → CanAllLie ps own (laid s seen)
      entries_lie [] ps at_key at_value own s seen each planned alike begun = subst (λ x. CanAllLie x own (laid s seen)) (sym planned) ([], laid s seen, lie_none)
      entries_lie (x ∷ xs) ps at_key at_value own s seen each planned alike begun =
          subst (λ z. CanAllLie z own (laid s seen)) (sym planned.is)
          (entry_lies g w fit x planned.key_plan planned.value_plan planned.others at_key at_value own s seen each.0 planned.entry alike begun
          (λ met both. entries_lie xs planned.others (at_key + size_of text) (at_value + size_of node_shape) own (state_after (pair_spelling w) x s) met each.1 planned.rest both begun))

    -- ---- below pointers

    abbrev pub packed : ℕ → Spelling (List Entry) (Option ℕ)
    packed l = packed_spelling 5 text node_shape str_spelling w l

    -- as `Reads`, of a tree that a pointer leads to, with numbers beside the pointer
    pub record ReadsLink (u : Spelling (List Entry) (Option ℕ)) (xs : List Entry) (s : State) (own : ℕ) (numbers : List ℕ) (fs : List Field) (b : limits.State) : Type 0 where
      pub alike : Alike g b.met (u.met xs s)
      pub spares : Spares g s.met (u.met xs s)
      pub there : b.pos ≡ s.pos + length (u.piece xs s)
      pub past : (e : Error) → u.piece_refused xs s e → IsSomePast fs e ⊎ IsFar b.pos e
      pub beside : (e : Error) → LinkRefused (u.resolver xs s) own e ⊎ IsSomePast (mapped count numbers) e → IsSomePast fs e
      pub refused_link : (e : Error) → IsSomePast fs e → u.piece_refused xs s e ⊎ (LinkRefused (u.resolver xs s) own e ⊎ IsSomePast (mapped count numbers) e)

    -- of trees that pointers side by side lead to
    pub record ReadsLinks (u : Spelling (List Entry) (Option ℕ)) (xss : List (List Entry)) (s : State) (link : ℕ) (fs : List Field) (b : limits.State) : Type 0 where
      pub alike : Alike g b.met (state_after_all u xss s).met
      pub spares : Spares g s.met (state_after_all u xss s).met
      pub there : b.pos ≡ (state_after_all u xss s).pos
      pub up : s.pos ≤ b.pos
      pub pieces_past : (e : Error) → pieces_refused u xss s e → IsSomePast fs e ⊎ IsFar b.pos e
      pub links_past : (e : Error) → LinksRefused (resolvers u xss s) link e → IsSomePast fs e
      pub refused_all : (e : Error) → IsSomePast fs e → pieces_refused u xss s e ⊎ LinksRefused (resolvers u xss s) link e

    link_and_rest :
        (u : Spelling (List Entry) (Option ℕ)) (c : List Entry) (xss : List (List Entry)) (s : State) (link : ℕ) (here there fs : List Field) (between b : limits.State)
        → ReadsLink u c s link [] here between → ReadsLinks u xss (state_after u c s) (link + 4) there b → fs ≡ here ++ there → ReadsLinks u (c ∷ xss) s link fs b
    link_and_rest u c xss s link here there fs between b first rest all =
        let at_first = first.there in
        let up = rest.up in
        let of_first : (e : Error) → IsSomePast here e → IsSomePast fs e = λ e p. subst (λ l. IsSomePast l e) (sym all) (past_left here there e p) in
        let of_rest : (e : Error) → IsSomePast there e → IsSomePast fs e = λ e p. subst (λ l. IsSomePast l e) (sym all) (past_right here there e p) in
        record {
          alike = rest.alike;
          spares = λ k o e. rest.spares k o (first.spares k o e);
          there = rest.there;
          up = omega (arith, up);
          pieces_past = λ e. ⊎_elim
              (λ r. ⊎_elim (λ p. inl (of_first e p)) (λ far. inr (omega (arith, far.0, at_first, up), far.1)) (first.past e r))
              (λ r. ⊎_elim (λ p. inl (of_rest e p)) (λ far. inr far) (rest.pieces_past e r));
          links_past = λ e. ⊎_elim (λ r. of_first e (first.beside e (inl r))) (λ r. of_rest e (rest.links_past e r));
          refused_all = λ e p. ⊎_elim
              (λ q. ⊎_elim (λ r. inl (inl r)) (⊎_elim (λ r. inr (inl r)) (λ none. absurd none)) (first.refused_link e q))
              (λ q. ⊎_elim (λ r. inl (inr r)) (λ r. inr (inr r)) (rest.refused_all e q))
              (past_either here there e (subst (λ l. IsSomePast l e) all p));
        }

    -- where there are no items nothing is written
    record SaysNothing (u : Spelling (List Entry) (Option ℕ)) : Type 0 where
      stays : (s : State) → state_after u [] s ≡ s
      leads_nowhere : (s : State) → u.resolver [] s ≡ None
      never : (s : State) (e : Error) → u.piece_refused [] s e → ⊥

    stays_there : (s : State) → ◌≡◌ {A = State} (record { pos = s.pos + 0; met = s.met; begun = s.begun }) s
    stays_there s = ap (λ n. let z : State = record { pos = n; met = s.met; begun = s.begun } in z) (add-zero s.pos)

    says_nothing : (l : ℕ) → SaysNothing (packed l)
    says_nothing zero = record { stays = stays_there; leads_nowhere = λ s. refl; never = λ s e r. r }
    says_nothing (suc l) = record { stays = stays_there; leads_nowhere = λ s. refl; never = λ s e r. r }

    no_link_and_rest : (u : Spelling (List Entry) (Option ℕ)) → SaysNothing u → (xss : List (List Entry)) (s : State) (link : ℕ) (fs : List Field) (b : limits.State)
        → ReadsLinks u xss s (link + 4) fs b → ReadsLinks u ([] ∷ xss) s link fs b
    no_link_and_rest u nothing xss s link fs b h =
        let same = nothing.stays s in
        record {
          alike = subst (λ z. Alike g b.met (state_after_all u xss z).met) (sym same) h.alike;
          spares = λ k o e. subst (λ z. visit_of_key (state_after_all u xss z).met k ≡ None) (sym same) (h.spares k o e);
          there = h.there ∙ ap (λ z. (state_after_all u xss z).pos) (sym same);
          up = h.up;
          pieces_past = λ e. ⊎_elim (λ r. absurd (nothing.never s e r)) (λ r. h.pieces_past e (subst (λ z. pieces_refused u xss z e) same r));
          links_past = λ e. ⊎_elim
              (λ r. absurd (subst (λ z. LinkRefused z link e) (nothing.leads_nowhere s) r))
              (λ r. h.links_past e (subst (λ z. LinksRefused (resolvers u xss z) (link + 4) e) same r));
          refused_all = λ e p. ⊎_elim
              (λ r. inl (inr (subst (λ z. pieces_refused u xss z e) (sym same) r)))
              (λ r. inr (inr (subst (λ z. LinksRefused (resolvers u xss z) (link + 4) e) (sym same) r)))
              (h.refused_all e p);
        }

    module _ (fit : Fit) (l : ℕ) where
      -- what is known of items on at most l levels
      pub record TreeTells (xs : List Entry) : Type 0 where
        pub reads :
            (t : Target) (q : Plan) → EntriesPlan fit l xs t q → (numbers : List ℕ) (s : State) (seen : List Shared) → Alike g seen s.met → Begun g s.begun
            → (own : ℕ) (fs : List Field) (b : limits.State) → Lies (leads numbers t q) own (laid s seen) fs b → ReadsLink (packed l) xs s own numbers fs b
        pub lies :
            (t : Target) (q : Plan) → EntriesPlan fit l xs t q → (numbers : List ℕ) (s : State) (seen : List Shared) → Alike g seen s.met → Begun g s.begun
            → (own : ℕ) → CanLie (leads numbers t q) own (laid s seen)

      abbrev pub TellsBelow : List Entry → Type 0
      TellsBelow xs = 0 < length xs → TreeTells xs

      abbrev pub ChildrenPlanned : Plans → ℕ → List (List Entry) → Plans → Type 0
      ChildrenPlanned behind at xss all = ChildPlans fit node_names 5 text node_shape entry_value (λ ys t q. EntriesPlan fit l ys t q) behind at xss all

      -- what pointers lead to, and then what other plans do
      pub record LinksLie (xss : List (List Entry)) (s : State) (own link : ℕ) (behind : Plans) (fs : List Field) (b : limits.State) : Type 0 where
        pub between : limits.State
        pub here : List Field
        pub there : List Field
        pub reads : ReadsLinks (packed l) xss s link here between
        pub lies : LieAll behind own between there b
        pub all : fs ≡ here ++ there

      pub children_read :
          (xss : List (List Entry)) (behind all : Plans) (at own link : ℕ) (s : State) (seen : List Shared) (fs : List Field) (b : limits.State)
          → EachIs TellsBelow xss → ChildrenPlanned behind at xss all → Alike g seen s.met → Begun g s.begun → link ≡ own + at
          → LieAll all own (laid s seen) fs b → LinksLie xss s own link behind fs b
      children_read [] behind all at own link s seen fs b each planned alike begun link_is h = record {
        between = laid s seen;
        here = [];
        there = fs;
        reads = record { alike = alike; spares = λ k o e. e; there = refl; up = omega arith; pieces_past = λ e r. absurd r; links_past = λ e r. absurd r; refused_all = λ e p. absurd p };
        lies = subst (λ z. LieAll z own (laid s seen) fs b) planned h;
        all = refl;
      }
      children_read ([] ∷ xss) behind all at own link s seen fs b each planned alike begun link_is h =
          let rest = children_read xss behind all (at + 4) own (link + 4) s seen fs b each.1 planned alike begun (omega (arith, link_is)) h in
          record {
            between = rest.between;
            here = rest.here;
            there = rest.there;
            reads = no_link_and_rest (packed l) (says_nothing l) xss s link rest.here rest.between rest.reads;
            lies = rest.lies;
            all = rest.all;
          }
      children_read ((x ∷ xs) ∷ xss) behind all at own link s seen fs b each planned alike begun link_is h =
          let p = leads [] planned.target planned.plan in
          let m = first_lies at p planned.others own (laid s seen) b fs (subst (λ z. LieAll z own (laid s seen) fs b) planned.is h) in
          let next = state_after (packed l) (x ∷ xs) s in
          let first = (each.0 (omega arith)).reads planned.target planned.plan planned.first [] s seen alike begun link m.here m.between (subst (λ n. Lies p n (laid s seen) m.here m.between) (sym link_is) m.first) in
          let rest = children_read xss behind planned.others (at + 4) own (link + 4) next m.between.met m.there b each.1 planned.rest first.alike begun (omega (arith, link_is))
          (subst (λ z. LieAll planned.others own z m.there b) (reached m.between next first.there) m.rest) in
          record {
            between = rest.between;
            here = m.here ++ rest.here;
            there = rest.there;
            reads = link_and_rest (packed l) (x ∷ xs) xss s link m.here rest.here (m.here ++ rest.here) m.between rest.between first rest.reads refl;
            lies = rest.lies;
            all = m.all ∙ ap (λ z. m.here ++ z) rest.all ∙ sym (append_assoc m.here rest.here rest.there);
          }

      pub children_lie :
          (xss : List (List Entry)) (behind all : Plans) (at own : ℕ) (s : State) (seen : List Shared)
          → EachIs TellsBelow xss → ChildrenPlanned behind at xss all → Alike g seen s.met → Begun g s.begun
          → ((met : List Shared) → Alike g met (state_after_all (packed l) xss s).met → CanAllLie behind own (laid (state_after_all (packed l) xss s) met))
          → CanAllLie all own (laid s seen)
      children_lie [] behind all at own s seen each planned alike begun others = subst (λ z. CanAllLie z own (laid s seen)) (sym planned) (others seen alike)
      children_lie ([] ∷ xss) behind all at own s seen each planned alike begun others =
          let Others : State → Type 0 = λ z. (met : List Shared) → Alike g met (state_after_all (packed l) xss z).met → CanAllLie behind own (laid (state_after_all (packed l) xss z) met) in
          children_lie xss behind all (at + 4) own s seen each.1 planned alike begun (subst Others ((says_nothing l).stays s) others)
      children_lie ((x ∷ xs) ∷ xss) behind all at own s seen each planned alike begun others =
          let p = leads [] planned.target planned.plan in
          let next = state_after (packed l) (x ∷ xs) s in
          let tree = each.0 (omega arith) in
          let h = tree.lies planned.target planned.plan planned.first [] s seen alike begun (own + at) in
          let first = tree.reads planned.target planned.plan planned.first [] s seen alike begun (own + at) h.0 h.1 h.2 in
          let rest = children_lie xss behind planned.others (at + 4) own next h.1.met each.1 planned.rest first.alike begun others in
          let there = subst (λ z. LieAll planned.others own z rest.0 rest.1) (sym (reached h.1 next first.there)) rest.2 in
          subst (λ z. CanAllLie z own (laid s seen)) (sym planned.is) (one_more_lies at p planned.others own (laid s seen) h.1 rest.1 h.0 rest.0 h.2 there)
