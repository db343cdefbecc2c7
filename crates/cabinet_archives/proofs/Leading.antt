-- What a key leads to in an ordered map whose walk has no fault.
use Rattle.std.proofs.Common.{◌≡◌, ℕ, zero, suc, ◌<◌, Bool, Bor, true, false, cond, List, [], ◌∷◌, Option, Some, None, MatchOption, refl, sym, ap, subst, ◌∙◌, nat_lt, ◌++◌, ◌-◌, ◌^◌, ◌≤◌, min, arith}
use Rattle.std.specs.Prelude.{⊤, All, IfSome}
use Rattle.std.specs.List.{find, flat_map, slice_get}
use Rattle.std.specs.Option.{option_map}
use Rattle.std.specs.Ordering.{is_eq, is_lt, nat_cmp, ordering_reverse}
use Rattle.std.specs.declared.cmp.Ordering.{Ordering}
use Rattle.std.specs.declared.cmp.Ordering.TheVariants.{Less, Equal, Greater}
use Rattle.std.specs.Cmp.Lexicographic.{slice_cmp}
use Rattle.std.proofs.lemmas.Cmp.{nat_list_cmp_total, tied_itself}
use Rattle.std.proofs.lemmas.Map.Text.{is_eq-slice_cmp}
use Rattle.std.proofs.lemmas.Slice.Eq.{bytes_eq-Decides}
use Rattle.std.proofs.Math.Bool.{Bool-set}
use Rattle.std.proofs.Math.Nat.{min-eq_left}
use Rattle.std.proofs.Math.Logic.{∥∥₁_elim, ∥∥₁_map}
use Rattle.std.proofs.lemmas.List.Elements.{All-nil, All-cons}
use Rattle.std.proofs.lemmas.List.Kept.{AllPairs-cons}
use Rattle.archive_shape_layout.specs.Value.{Value, Values}
use Rattle.archive_shape_layout.specs.Value.Value.{string, group}
use Rattle.archive_shape_layout.specs.Value.Values.{no_values, more_values}
use Rattle.archive_shape_layout.specs.Shape.Shape.{text}
use Rattle.archive_shape_layout.specs.Content.{members}
use Rattle.archive_shape_layout.specs.Content.Part.{at}
use Rattle.archive_shape_layout.specs.Path.{value_in}
use Rattle.archive_shape.specs.declared.references.refs.Ref.{Ref}
use Rattle.archive_shape.specs.Key.{HeldAt}
use Rattle.archive_forms_laws.specs.Text.{IsText}
use Rattle.archive_btree_layout.specs.Tree.{Tree, items}
use Rattle.archive_btree_layout.specs.Reading.{Place}
use Rattle.archive_btree_layout.specs.Descent.{descend, met, Ascends}
use Rattle.archive_btree_layout.proofs.Descending.{descent_finds, asc_of, met_bound}
use Rattle.archive_btree_maps.specs.Maps.{IsMapAt, IsMapOf, IsEntryAt, AreEntriesAt}
use Rattle.archive_btree_maps.specs.Maps.IsMapAt.{has_none, has_root}
use Rattle.archive_btree_maps.specs.Lookups.{QueryOrders}
use Rattle.archive_btree_maps.specs.Refs.{value_at}
use Rattle.archive_btree_maps.proofs.Roots.{tree_of_value}
use Rattle.cabinet_documents.specs.Denotes.{pair_value}
use Rattle.cabinet_documents.specs.Order.{ascend, is_below}
use Rattle.cabinet_documents.specs.Table.{key_of, item_keys}
use Rattle.cabinet_documents.specs.Walk.{Stop}
use Rattle.cabinet_documents.specs.Audit.{Unsound, too_deep, keys_not_ascending, unless, faults}
use Rattle.cabinet_documents.proofs.TreeWalks.{ItemsWalk, no_items, more_items}
use Rattle.archive_forms_values.specs.Parts.{HasValue}
use Rattle.cabinet_documents.specs.Node.{node_shape, node_names, KnowsNode}
use Rattle.cabinet_archived.specs.declared.node.ArchivedNode.{ArchivedNode}
use Rattle.cabinet_archives.specs.Cost.{Compares}
use Rattle.cabinet_archives.specs.Ordered.{map_shape, HasEntry}
use Rattle.cabinet_archives.specs.Keyed.{KeyLeads, KeyLeadsNowhere, knows_pairs}
use Rattle.cabinet_archives.specs.Sound.{HasSoundWalk, IsSoundPart}
use Rattle.cabinet_archives.proofs.Texts.{text_at, texts_at, text_is, text_there, held_text, entry_key, walked_keys}
use Rattle.cabinet_archives.proofs.Soundness.{left_nil, right_nil}
use Rattle.cabinet_archives.proofs.Walked.{map_in}

-- ---- orders

abbrev Same : List ℕ → List ℕ → Type 0
Same k l = slice_cmp nat_cmp k l ≡ Equal

is_equal : (r : Ordering) → is_eq r ≡ true → r ≡ Equal
is_equal Less e = absurd (cc)
is_equal Equal e = refl
is_equal Greater e = absurd (cc)

is_less : (r : Ordering) → is_lt r ≡ true → r ≡ Less
is_less Less e = refl
is_less Equal e = absurd (cc)
is_less Greater e = absurd (cc)

same_keys : (k l : List ℕ) → is_eq (slice_cmp nat_cmp k l) ≡ true → k ≡ l
same_keys k l e = let d = bytes_eq-Decides k l in d.0 (sym (is_eq-slice_cmp k l) ∙ e)

key_same : (k : List ℕ) → is_eq (slice_cmp nat_cmp k k) ≡ true
key_same k = ap is_eq (tied_itself nat_list_cmp_total k)

reversed : (r : Ordering) → is_eq (ordering_reverse r) ≡ is_eq r
reversed Less = refl
reversed Equal = refl
reversed Greater = refl

-- a key not below the query, and one above that
above_all : (a : Ordering) (k l q : List ℕ) → slice_cmp nat_cmp k q ≡ a → (ordering_reverse a ≡ Greater → ⊥) → slice_cmp nat_cmp k l ≡ Less → ordering_reverse (slice_cmp nat_cmp l q) ≡ Less
above_all Less k l q e not below = absurd (not refl)
above_all Equal k l q e not below =
    let t = nat_list_cmp_total in
    sym (t.antisymm q l) ∙ (sym (t.congr k q l e) ∙ below)
above_all Greater k l q e not below =
    let t = nat_list_cmp_total in
    let first : slice_cmp nat_cmp q k ≡ Less = t.antisymm q k ∙ ap ordering_reverse e in
    sym (t.antisymm q l) ∙ t.trans q k l first below

module _ (bytes : List ℕ) (query : List ℕ) where
  -- how the query compares with the key at a place
  abbrev pub order_at : Place → Ordering
  order_at p = ordering_reverse (slice_cmp nat_cmp (text_at bytes p.key) query)

  abbrev Later : Place → Place → Type 0
  Later a b = (order_at a ≡ Greater → ⊥) → order_at b ≡ Less

  first_below : (b : Bool) (k l : List ℕ) (ks : List (List ℕ)) → is_below k l ≡ b → cond b (ascend (l ∷ ks)) false ≡ true → (is_below k l ≡ true) × (ascend (l ∷ ks) ≡ true)
  first_below true k l ks e h = (e, h)
  first_below false k l ks e h = absurd (cc)

  ascend_parts : (k l : List ℕ) (ks : List (List ℕ)) → ascend (k ∷ (l ∷ ks)) ≡ true → (is_below k l ≡ true) × (ascend (l ∷ ks) ≡ true)
  ascend_parts k l ks h = first_below (is_below k l) k l ks refl h

  below_through : (k l m : List ℕ) → is_below k l ≡ true → is_below l m ≡ true → is_below k m ≡ true
  below_through k l m a b = ap is_lt (nat_list_cmp_total.trans k l m (is_less (slice_cmp nat_cmp k l) a) (is_less (slice_cmp nat_cmp l m) b))

  all_above : (p : Place) (ps : List Place) → ascend (text_at bytes p.key ∷ texts_at bytes ps) ≡ true → All (Later p) ps
  all_above p [] h = All-nil (Later p)
  all_above p (q ∷ ps) h =
      let a = ascend_parts (text_at bytes p.key) (text_at bytes q.key) (texts_at bytes ps) h in
      All-cons (Later p) q ps
      (λ not. above_all (slice_cmp nat_cmp (text_at bytes p.key) query) (text_at bytes p.key) (text_at bytes q.key) query refl not (is_less _ a.0))
      (all_above p ps (skipped p q ps a.0 a.1))
    where
      skipped : (p q : Place) (ps : List Place) → is_below (text_at bytes p.key) (text_at bytes q.key) ≡ true → ascend (text_at bytes q.key ∷ texts_at bytes ps) ≡ true → ascend (text_at bytes p.key ∷ texts_at bytes ps) ≡ true
      skipped p q [] a b = refl
      skipped p q (r ∷ ps) a b =
          let c = ascend_parts (text_at bytes q.key) (text_at bytes r.key) (texts_at bytes ps) b in
          ap (λ t. cond t (ascend (text_at bytes r.key ∷ texts_at bytes ps)) false) (below_through (text_at bytes p.key) (text_at bytes q.key) (text_at bytes r.key) a c.0) ∙ c.1

  rest_ascend : (k : List ℕ) (ks : List (List ℕ)) → ascend (k ∷ ks) ≡ true → ascend ks ≡ true
  rest_ascend k [] h = refl
  rest_ascend k (l ∷ ks) h = (ascend_parts k l ks h).1

  places_ascend : (ps : List Place) → ascend (texts_at bytes ps) ≡ true → Ascends order_at ps
  places_ascend [] h = λ i j d less below. absurd (omega (arith, below))
  places_ascend (p ∷ ps) h = AllPairs-cons Later p ps (all_above p ps h) (places_ascend ps (rest_ascend (text_at bytes p.key) (texts_at bytes ps) h))

  -- ---- what is found

  abbrev is_it : Place → Bool
  is_it p = is_eq (order_at p)

  record Item (ws : Values) (to : ℕ) : Type 0 where
    index : ℕ
    node : Value
    item : value_in index ws ≡ Some (pair_value query node)
    first : (i : ℕ) (other : Value) → i < index → value_in i ws ≡ Some (pair_value query other) → ⊥
    held : HeldAt node_shape KnowsNode bytes to node

  abbrev IsHere : Place → Value → Type 0
  IsHere p w = IsEntryAt text node_shape (λ _. ⊤) KnowsNode bytes p w

  key_is : (p : Place) → is_it p ≡ true → text_at bytes p.key ≡ query
  key_is p e = same_keys (text_at bytes p.key) query (sym (reversed (slice_cmp nat_cmp (text_at bytes p.key) query)) ∙ e)

  is_pair : (p : Place) (w : Value) → (h : IsHere p w) → is_it p ≡ true → w ≡ pair_value query h.value
  is_pair p w h e = h.is ∙ ap (λ k. group (more_values k (more_values h.value no_values))) (held_text bytes p.key (λ _. ⊤) h.key h.key_held ∙ ap string (key_is p e))

  key_there : (p : Place) (w u : Value) → IsHere p w → w ≡ pair_value query u → is_it p ≡ true
  key_there p w u h e =
      let same : text_at bytes p.key ≡ query = sym (entry_key node_shape bytes KnowsNode p w h) ∙ ap key_of e in
      reversed (slice_cmp nat_cmp (text_at bytes p.key) query) ∙ ap (λ k. is_eq (slice_cmp nat_cmp k query)) same ∙ key_same query

  not_before : (p : Place) (w : Value) (ws : Values) (to : ℕ) → IsHere p w → is_it p ≡ false → (r : Item ws to) → (i : ℕ) (other : Value) → i < suc r.index → value_in i (more_values w ws) ≡ Some (pair_value query other) → ⊥
  not_before p w ws to h t r zero other less e =
      let same : w ≡ pair_value query other = cc in
      let here = key_there p w other h same in
      cc
  not_before p w ws to h t r (suc i) other less e = r.first i other (omega (arith, less)) e

  found_by : (b : Bool) (p e : Place) (ps : List Place) (w : Value) (ws : Values) → IsHere p w → (find is_it ps ≡ Some e → Item ws e.value) → is_it p ≡ b → cond b (Some p) (find is_it ps) ≡ Some e → Item (more_values w ws) e.value
  found_by true p e ps w ws h rest t f =
      let same : p ≡ e = cc in
      record {
        index = 0;
        node = h.value;
        item = ap Some (is_pair p w h t);
        first = λ i other less g. absurd (omega (arith, less));
        held = subst (λ (x : Place). HeldAt node_shape KnowsNode bytes x.value h.value) same h.value_held;
      }
  found_by false p e ps w ws h rest t f =
      let r = rest f in
      record { index = suc r.index; node = r.node; item = r.item; first = not_before p w ws e.value h t r; held = r.held }

  found_item : (ps : List Place) (ws : Values) (e : Place) → AreEntriesAt text node_shape (λ _. ⊤) KnowsNode bytes ps ws → find is_it ps ≡ Some e → Item ws e.value
  found_item [] no_values e h f = absurd (cc)
  found_item [] (more_values w ws) e h f = absurd h
  found_item (p ∷ ps) no_values e h f = absurd h
  found_item (p ∷ ps) (more_values w ws) e h f = found_by (is_it p) p e ps w ws h.0 (found_item ps ws e h.1) refl f

  none_by : (b : Bool) (p : Place) (ps : List Place) (w : Value) (ws : Values) (i : ℕ) (u : Value) → IsHere p w → ((j : ℕ) → find is_it ps ≡ None → value_in j ws ≡ Some (pair_value query u) → ⊥)
      → is_it p ≡ b → cond b (Some p) (find is_it ps) ≡ None → value_in i (more_values w ws) ≡ Some (pair_value query u) → ⊥
  none_by true p ps w ws i u h rest t f e = cc
  none_by false p ps w ws zero u h rest t f e = let same : w ≡ pair_value query u = cc in let here = key_there p w u h same in cc
  none_by false p ps w ws (suc i) u h rest t f e = rest i f e

  none_item : (ps : List Place) (ws : Values) (i : ℕ) (u : Value) → AreEntriesAt text node_shape (λ _. ⊤) KnowsNode bytes ps ws → find is_it ps ≡ None → value_in i ws ≡ Some (pair_value query u) → ⊥
  none_item [] no_values i u h f e = cc
  none_item [] (more_values w ws) i u h f e = h
  none_item (p ∷ ps) no_values i u h f e = h
  none_item (p ∷ ps) (more_values w ws) i u h f e = none_by (is_it p) p ps w ws i u h.0 (λ j g k. none_item ps ws j u h.1 g k) refl f e

-- ---- a walk without faults

ascends_of : (low up : Bool) (rest : List Unsound) → unless low too_deep ++ (unless up keys_not_ascending ++ rest) ≡ [] → up ≡ true
ascends_of low true rest e = refl
ascends_of low false rest e = let x = right_nil (unless low too_deep) (unless false keys_not_ascending ++ rest) e in absurd (cc)

rest_none : (low up : Bool) (rest : List Unsound) → unless low too_deep ++ (unless up keys_not_ascending ++ rest) ≡ [] → rest ≡ []
rest_none low up rest e = right_nil (unless up keys_not_ascending) rest (right_nil (unless low too_deep) (unless up keys_not_ascending ++ rest) e)

module _ (bytes : List ℕ) (is : Place → Bool) (p : Place) where
  -- the node of an entry that is found has no fault
  pub item_sound : {depth : ℕ} {ps : List Place} {vs : Values} {runs : List (List Stop)}
      → ItemsWalk node_names bytes text node_shape depth ps vs runs → flat_map (faults bytes) runs ≡ [] → find is ps ≡ Some p → HasSoundWalk bytes (at p.value node_shape)
  item_sound (no_items a b c) none f = let x = sym (ap (find is) a) ∙ f in absurd (cc)
  item_sound {depth = depth} (more_items {p = q} {ps = ps} {y = y} {run = run} {later = later} a b c k n rest) none f =
      let all : faults bytes run ++ flat_map (faults bytes) later ≡ [] = sym (ap (flat_map (faults bytes)) c) ∙ none in
      by (is q) (λ others g. item_sound rest others g) (right_nil (faults bytes run) (flat_map (faults bytes) later) all) (left_nil (faults bytes run) (flat_map (faults bytes) later) all) (sym (ap (find is) a) ∙ f)
    where
      by : (b : Bool) → (flat_map (faults bytes) later ≡ [] → find is ps ≡ Some p → HasSoundWalk bytes (at p.value node_shape)) → flat_map (faults bytes) later ≡ [] → faults bytes run ≡ [] → cond b (Some q) (find is ps) ≡ Some p → HasSoundWalk bytes (at p.value node_shape)
      by true on others here g =
          let same : q ≡ p = cc in
          subst (λ (x : Place). HasSoundWalk bytes (at x.value node_shape)) same (record { depth = depth; value = y; walk = run; walked = n; sound = here })
      by false on others here g = on others g

module _ (bytes query : List ℕ) where
  abbrev IsOther : List Place → ℕ → Type 0
  IsOther ps n = (i : ℕ) (other : Place) → i < n → slice_get ps i ≡ Some other → IsText bytes other.key query → ⊥

  -- the text at a place is the query, and that at no place before it
  record FoundAmong (ps : List Place) (e : Place) : Type 0 where
    index : ℕ
    among : slice_get ps index ≡ Some e
    is_key : IsText bytes e.key query
    first : IsOther ps index

  other_before : (p : Place) (ps : List Place) (n : ℕ) → is_it bytes query p ≡ false → IsOther ps n → IsOther (p ∷ ps) (suc n)
  other_before p ps n t rest zero other less e held =
      let same : p ≡ other = cc in
      let is : text_at bytes other.key ≡ query = sym (text_is bytes other.key query held) in
      let here : is_it bytes query other ≡ true = reversed (slice_cmp nat_cmp (text_at bytes other.key) query) ∙ ap (λ k. is_eq (slice_cmp nat_cmp k query)) is ∙ key_same query in
      absurd (let both : true ≡ false = sym here ∙ sym (ap (is_it bytes query) same) ∙ t in cc)
  other_before p ps n t rest (suc i) other less e held = rest i other (omega (arith, less)) e held

  found_among : (ps : List Place) (ws : Values) (e : Place) → AreEntriesAt text node_shape (λ _. ⊤) KnowsNode bytes ps ws → find (is_it bytes query) ps ≡ Some e → FoundAmong ps e
  found_among [] ws e h f = absurd (cc)
  found_among (p ∷ ps) no_values e h f = absurd h
  found_among (p ∷ ps) (more_values w ws) e h f = by (is_it bytes query p) refl f (λ g. found_among ps ws e h.1 g)
    where
      by : (b : Bool) → is_it bytes query p ≡ b → cond b (Some p) (find (is_it bytes query) ps) ≡ Some e → (find (is_it bytes query) ps ≡ Some e → FoundAmong ps e) → FoundAmong (p ∷ ps) e
      by true t g on =
          let same : p ≡ e = cc in
          let there = text_there bytes p.key (λ _. ⊤) h.0.key h.0.key_held in
          let is : there.text ≡ query = text_is bytes p.key there.text there.stands ∙ key_is bytes query p t in
          record {
            index = 0;
            among = ap Some same;
            is_key = subst (λ (x : Place). IsText bytes x.key query) same (subst (IsText bytes p.key) is there.stands);
            first = λ i other less. absurd (omega (arith, less));
          }
      by false t g on = let r = on g in record { index = suc r.index; among = r.among; is_key = r.is_key; first = other_before p ps r.index t r.first }

module _ (bytes : Bor (List ℕ)) (pos : ℕ) (query : Bor (List ℕ)) where
  pub orders : (ps : List Place) → QueryOrders (λ b at (key : Bor (List ℕ)). IsText b at key.now) (λ key q. slice_cmp nat_cmp key.now q.now) bytes.now query (order_at bytes.now query.now) ps
  orders ps = λ k d less key is. ap (λ t. ordering_reverse (slice_cmp nat_cmp t query.now)) (sym (text_is bytes.now _ key.now is))

  found_of : (v : Value) (o : Option Place) (t : Tree Place) → AreEntriesAt text node_shape (λ _. ⊤) KnowsNode bytes.now (items t) (members v) → find (is_it bytes.now query.now) (items t) ≡ o
      → MatchOption (option_map (λ p. value_at bytes {V = ArchivedNode} p) o) (KeyLeadsNowhere v query.now) (λ node. (node.bytes ≡ bytes) × KeyLeads bytes.now v query.now node.pos)
  found_of v None t are f = λ i u e. none_item bytes.now query.now (items t) (members v) i u are f e
  found_of v (Some p) t are f =
      let r = found_item bytes.now query.now (items t) (members v) p are f in
      (refl, record { index = r.index; node = r.node; item = r.item; first = r.first; held = r.held })

  -- what a search finds is what lies at the first place whose key is the query
  abbrev pub Answers : Option (Ref ArchivedNode) → Type 0
  Answers result =
      (t : Tree Place) (order : Place → Ordering) → IsMapAt bytes.now 5 text node_shape pos t
      → QueryOrders (λ b at (key : Bor (List ℕ)). IsText b at key.now) (λ key q. slice_cmp nat_cmp key.now q.now) bytes.now query order (items t)
      → result ≡ option_map (value_at bytes) (descend order t)

  -- the keys ascend
  pub keys_rise : IsSoundPart bytes.now (at pos map_shape) → (t : Tree Place) → IsMapAt bytes.now 5 text node_shape pos t → Ascends (order_at bytes.now query.now) (items t)
  keys_rise sound t m = places_ascend bytes.now query.now (items t) (∥∥₁_elim sound (Bool-set (ascend (texts_at bytes.now (items t))) true) rise)
    where
      rise : HasSoundWalk bytes.now (at pos map_shape) → ascend (texts_at bytes.now (items t)) ≡ true
      rise walk =
          let w = map_in bytes.now m walk.walked in
          ap ascend (sym (walked_keys node_shape bytes.now w.items))
          ∙ ascends_of (nat_lt walk.depth 64) (ascend (item_keys (members walk.value))) (flat_map (faults bytes.now) w.runs) (sym w.faults_are ∙ walk.sound)

  module _ (sound : IsSoundPart bytes.now (at pos map_shape)) (result : Option (Ref ArchivedNode)) (answers : Answers result) where
    first_is : (t : Tree Place) → IsMapAt bytes.now 5 text node_shape pos t → result ≡ option_map (value_at bytes) (find (is_it bytes.now query.now) (items t))
    first_is t m =
        let order = order_at bytes.now query.now in
        answers t order m (orders (items t)) ∙ ap (option_map (value_at bytes)) (descent_finds order t (asc_of order (items t) (keys_rise sound t m)))

    pub leads : (v : Value) → HeldAt map_shape knows_pairs bytes.now pos v → MatchOption result (KeyLeadsNowhere v query.now) (λ node. (node.bytes ≡ bytes) × KeyLeads bytes.now v query.now node.pos)
    leads v h =
        let m : IsMapOf text node_shape (λ _. ⊤) KnowsNode bytes.now 5 pos v = tree_of_value (record { value = v; held = h }) in
        let t = m.search_tree in
        subst (λ r. MatchOption r (KeyLeadsNowhere v query.now) (λ node. (node.bytes ≡ bytes) × KeyLeads bytes.now v query.now node.pos)) (sym (first_is t m.map))
        (found_of v (find (is_it bytes.now query.now) (items t)) t m.entries refl)

    -- it is the node of an entry with the key
    pub leads_by_entry : HasValue map_shape knows_pairs bytes.now pos → IfSome result (λ node. HasEntry bytes.now pos query.now node.pos)
    leads_by_entry has =
        let m : IsMapOf text node_shape (λ _. ⊤) KnowsNode bytes.now 5 pos has.value = tree_of_value has in
        subst (λ r. IfSome r (λ (node : Ref ArchivedNode). HasEntry bytes.now pos query.now node.pos)) (sym (first_is m.search_tree m.map))
        (by m.search_tree m.map (find (is_it bytes.now query.now) (items m.search_tree)) refl (members has.value) m.entries)
      where
        by : (t : Tree Place) → IsMapAt bytes.now 5 text node_shape pos t → (o : Option Place) → find (is_it bytes.now query.now) (items t) ≡ o → (ws : Values) → AreEntriesAt text node_shape (λ _. ⊤) KnowsNode bytes.now (items t) ws
            → IfSome (option_map (λ p. value_at bytes {V = ArchivedNode} p) o) (λ node. HasEntry bytes.now pos query.now node.pos)
        by t m None e ws are = tt
        by t m (Some p) e ws are =
            let f = found_among bytes.now query.now (items t) ws p are e in
            record { search_tree = t; index = f.index; entry = p; map = m; among = f.among; is_key = f.is_key; first = f.first; node = refl }

    -- the node that is found has no fault either
    pub leads_soundly : HasValue map_shape knows_pairs bytes.now pos → IfSome result (λ node. IsSoundPart bytes.now (at node.pos node_shape))
    leads_soundly has =
        let m : IsMapOf text node_shape (λ _. ⊤) KnowsNode bytes.now 5 pos has.value = tree_of_value has in
        let t = m.search_tree in
        subst (λ r. IfSome r (λ (node : Ref ArchivedNode). IsSoundPart bytes.now (at node.pos node_shape))) (sym (first_is t m.map))
        (by t m.map (find (is_it bytes.now query.now) (items t)) refl)
      where
        one : (t : Tree Place) → IsMapAt bytes.now 5 text node_shape pos t → (p : Place) → find (is_it bytes.now query.now) (items t) ≡ Some p → HasSoundWalk bytes.now (at pos map_shape) → HasSoundWalk bytes.now (at p.value node_shape)
        one t m p e walk =
            let w = map_in bytes.now m walk.walked in
            item_sound bytes.now (is_it bytes.now query.now) p w.items
            (rest_none (nat_lt walk.depth 64) (ascend (item_keys (members walk.value))) (flat_map (faults bytes.now) w.runs) (sym w.faults_are ∙ walk.sound)) e

        by : (t : Tree Place) → IsMapAt bytes.now 5 text node_shape pos t → (o : Option Place) → find (is_it bytes.now query.now) (items t) ≡ o
            → IfSome (option_map (λ p. value_at bytes {V = ArchivedNode} p) o) (λ node. IsSoundPart bytes.now (at node.pos node_shape))
        by t m None e = tt
        by t m (Some p) e = ∥∥₁_map sound (one t m p e)

-- ---- how many keys a search compares

module _ (bytes : Bor (List ℕ)) (pos : ℕ) (query : Bor (List ℕ)) where
  met_low : (order : Place → Ordering) (t : Tree Place) → IsMapAt bytes.now 5 text node_shape pos t → met order t ≤ 160
  met_low order t (has_none none is) = let zero = ap (met order) is in omega (arith, zero)
  met_low order t (has_root {root = root} some leads node count) = let low = met_bound order bytes.now 5 text node_shape 1 root t node in omega (arith, low)

  -- it compares those that the descent meets
  pub compares : HasValue map_shape knows_pairs bytes.now pos → (n : ℕ)
      → ((t : Tree Place) (order : Place → Ordering) → IsMapAt bytes.now 5 text node_shape pos t
      → QueryOrders (λ b at (key : Bor (List ℕ)). IsText b at key.now) (λ key q. slice_cmp nat_cmp key.now q.now) bytes.now query order (items t) → n ≡ min (met order t) (2 ^ 64 - 1))
      → Compares bytes.now pos query.now n
  compares has n count =
      let m : IsMapOf text node_shape (λ _. ⊤) KnowsNode bytes.now 5 pos has.value = tree_of_value has in
      let t = m.search_tree in
      let order = order_at bytes.now query.now in
      let low = met_low order t m.map in
      let same : n ≡ met order t = count t order m.map (orders bytes pos query (items t)) ∙ min-eq_left {n = met order t} {m = 2 ^ 64 - 1} (omega (arith, low)) in
      record {
        search_tree = t;
        order = order;
        map = m.map;
        orders = λ p k is. sym (nat_list_cmp_total.antisymm query.now (text_at bytes.now p.key)) ∙ ap (slice_cmp nat_cmp query.now) (sym (text_is bytes.now p.key k is));
        count = same;
        few = omega (arith, same, low);
      }
