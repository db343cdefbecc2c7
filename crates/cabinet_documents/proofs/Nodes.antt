-- The value of a node, by what its places lead to.
use Rattle.std.proofs.Common.{◌≡◌, ℕ, ℤ, zero, suc, ◌++◌, ◌+◌, ◌-◌, ◌*◌, ◌^◌, ◌<◌, ◌==◌, cond, nat_lt, length, Bool, true, false, w64, FitsSigned, IsUtf8, List, [], ◌∷◌, Some, None, refl, sym, ap, ap₂, subst, ◌∙◌, arith, eqb-true}
use Rattle.archive_shape_layout.specs.Value.{Value, Values, count_values, append_values}
use Rattle.archive_shape_layout.specs.Value.Value.{integer, boolean, string, group, chosen, counted}
use Rattle.archive_shape_layout.specs.Value.Values.{no_values, more_values}
use Rattle.archive_shape_layout.specs.Content.{Part, Label, content_of, made, IsLegal, members, weave, first_values, other_values}
use Rattle.archive_shape_layout.specs.Content.Label.{leaf, written, same, second, whole, tagged, woven, total}
use Rattle.archive_shape_layout.specs.Content.Content.{illegal}
use Rattle.archive_shape_layout.specs.Holds.{Region, Visit, OpenShared, Holds}
use Rattle.archive_shape_layout.specs.Holds.Holds.{holds_plain, holds_claimed, holds_first, holds_later, holds_back}
use Rattle.archive_shape_canonical.specs.Canonical.{AreBytes}
use Rattle.cabinet_documents.specs.Node.{node_names}
use Rattle.cabinet_documents.specs.Denotes.{tagged_value, pair_value}
use Rattle.cabinet_documents.specs.Table.{full_from}
use Rattle.cabinet_documents.proofs.Places.{Place, node_here, payload_here, truth_here, number_here, text_here, shared_here, option_here, box_here, list_here, ordered_here, table_here, index_here, whole_here, pair_here, tree_node, tree_child, entry_here, buckets_here, numbers_here, entry_number, node_behind, nodes_behind, pairs_behind, text_behind, Spot, nodes_from, pairs_from, entries_from, children_from, items_from, Passes, node_passes, box_passes, behind_passes, list_passes, text_passes, child_passes, table_passes, Pays, pays_truth, pays_number, pays_text, pays_shared, pays_option, pays_list, pays_ordered, pays_hashed, pays_kept, pays_whole, Follows, passes, pays, truth_is, number_is, text_is, behind_is, none_is, some_is, nodes_follow, empty_is, total_is, leaf_follows, inner_follows, no_child_is, entry_follows, no_items_is, items_follow, no_entries_is, entries_second, numbers_follow, entry_number_is, pairs_follow, pair_follows}
use Rattle.std.specs.Prelude.{⊤}

-- ---- what is not legal has no value

module _ (bytes : List ℕ) where
  pub none_illegal :
      {level : ℕ} {inside : List OpenShared} {p : Part} {v : Value} {regions : List Region} {before after : List Visit}
      → content_of node_names bytes p ≡ illegal → Holds node_names bytes level inside p v regions before after → ⊥
  none_illegal e (holds_plain f legal all m) = cc
  none_illegal e (holds_claimed f legal all m r) = cc
  none_illegal e (holds_first f x y h d g) = cc
  none_illegal e (holds_later f x y d g h) = cc
  none_illegal e (holds_back f x d g h) = cc

-- ---- nodes

mutual
  -- the value of a node
  pub data NodeValue (bytes : List ℕ) : Value → Type 0 where
    truth_value : {v : Value} {b : Bool} → v ≡ tagged_value 0 (boolean b) → NodeValue bytes v
    number_value : {v : Value} {n : ℤ} → v ≡ tagged_value 1 (integer n) → FitsSigned w64 n → NodeValue bytes v
    text_value : {v : Value} {s : List ℕ} → v ≡ tagged_value 2 (string s) → IsUtf8 s → NodeValue bytes v
    shared_value : {v : Value} {t : ℕ} {s : List ℕ} → v ≡ tagged_value 3 (counted t (string s)) → IsUtf8 s → NodeValue bytes v
    none_value : {v : Value} → v ≡ tagged_value 4 (chosen 0 no_values) → NodeValue bytes v
    some_value : {v w : Value} → v ≡ tagged_value 4 (tagged_value 1 w) → NodeValue bytes w → NodeValue bytes v
    list_value : {v : Value} {vs : Values} → v ≡ tagged_value 5 (group vs) → NodeValues bytes vs → (AreBytes bytes → count_values vs < 2 ^ 64) → NodeValue bytes v
    ordered_value : {v : Value} {vs : Values} → v ≡ tagged_value 6 (group vs) → PairValues bytes vs → (AreBytes bytes → count_values vs < 2 ^ 64) → NodeValue bytes v
    hashed_value : {v : Value} {vs : Values} → v ≡ tagged_value 7 (group vs) → PairValues bytes vs → (AreBytes bytes → count_values vs < 2 ^ 64) → NodeValue bytes v
    kept_value : {v : Value} {vs : Values} → v ≡ tagged_value 8 (group vs) → PairValues bytes vs → (AreBytes bytes → count_values vs < 2 ^ 64) → NodeValue bytes v
    whole_value : {v w : Value} {t : ℕ} → v ≡ tagged_value 9 (counted t w) → NodeValue bytes w → NodeValue bytes v

  pub data NodeValues (bytes : List ℕ) : Values → Type 0 where
    no_nodes : {vs : Values} → vs ≡ no_values → NodeValues bytes vs
    more_nodes : {vs ws : Values} {v : Value} → vs ≡ more_values v ws → NodeValue bytes v → NodeValues bytes ws → NodeValues bytes vs

  -- the pairs of a map
  pub data PairValues (bytes : List ℕ) : Values → Type 0 where
    no_pairs : {vs : Values} → vs ≡ no_values → PairValues bytes vs
    more_pairs : {vs ws : Values} {k : List ℕ} {v : Value} → vs ≡ more_values (pair_value k v) ws → IsUtf8 k → NodeValue bytes v → PairValues bytes ws → PairValues bytes vs

pub record TruthValue (v : Value) : Type 0 where
  pub b : Bool
  pub is : v ≡ boolean b

pub record NumberValue (v : Value) : Type 0 where
  pub n : ℤ
  pub is : v ≡ integer n
  pub fits : FitsSigned w64 n

pub record TextValue (v : Value) : Type 0 where
  pub s : List ℕ
  pub is : v ≡ string s
  pub utf8 : IsUtf8 s

pub record SharedValue (v : Value) : Type 0 where
  pub t : ℕ
  pub s : List ℕ
  pub is : v ≡ counted t (string s)
  pub utf8 : IsUtf8 s

pub record WholeValue (bytes : List ℕ) (v : Value) : Type 0 where
  pub t : ℕ
  pub w : Value
  pub is : v ≡ counted t w
  pub node : NodeValue bytes w

pub data OptionValue (bytes : List ℕ) (v : Value) : Type 0 where
  option_none : v ≡ chosen 0 no_values → OptionValue bytes v
  option_some : {w : Value} → v ≡ tagged_value 1 w → NodeValue bytes w → OptionValue bytes v

pub record ListValue (bytes : List ℕ) (v : Value) : Type 0 where
  pub vs : Values
  pub is : v ≡ group vs
  pub nodes : NodeValues bytes vs
  pub small : AreBytes bytes → count_values vs < 2 ^ 64

pub record MapValue (bytes : List ℕ) (v : Value) : Type 0 where
  pub vs : Values
  pub is : v ≡ group vs
  pub pairs : PairValues bytes vs
  pub small : AreBytes bytes → count_values vs < 2 ^ 64

-- what a part of a search tree has: some of a map's pairs, or one
pub record PairsValue (bytes : List ℕ) (v : Value) : Type 0 where
  pub vs : Values
  pub is : v ≡ group vs
  pub pairs : PairValues bytes vs

-- what the buckets of a hashed map have, and the entries of a kept map: its pairs
pub record ItemsValue (bytes : List ℕ) (len : ℕ) (v : Value) : Type 0 where
  pub vs : Values
  pub is : v ≡ group vs
  pub pairs : PairValues bytes vs
  pub counted : count_values vs ≡ len

pub record PairValue (bytes : List ℕ) (v : Value) : Type 0 where
  pub k : List ℕ
  pub w : Value
  pub is : v ≡ pair_value k w
  pub utf8 : IsUtf8 k
  pub node : NodeValue bytes w

pub record NodesValue (bytes : List ℕ) (len : ℕ) (v : Value) : Type 0 where
  pub vs : Values
  pub is : v ≡ group vs
  pub nodes : NodeValues bytes vs
  pub counted : count_values vs ≡ len

-- the value at each place
abbrev pub ValueAt : List ℕ → Place → Value → Type 0
ValueAt bytes node_here v = NodeValue bytes v
ValueAt bytes payload_here v = NodeValue bytes v
ValueAt bytes truth_here v = TruthValue v
ValueAt bytes number_here v = NumberValue v
ValueAt bytes text_here v = TextValue v
ValueAt bytes shared_here v = SharedValue v
ValueAt bytes option_here v = OptionValue bytes v
ValueAt bytes box_here v = NodeValue bytes v
ValueAt bytes list_here v = ListValue bytes v
ValueAt bytes ordered_here v = MapValue bytes v
ValueAt bytes table_here v = MapValue bytes v
ValueAt bytes index_here v = MapValue bytes v
ValueAt bytes whole_here v = WholeValue bytes v
ValueAt bytes pair_here v = PairValue bytes v
ValueAt bytes (tree_node level) v = PairsValue bytes v
ValueAt bytes (tree_child level) v = PairsValue bytes v
ValueAt bytes (entry_here key) v = PairValue bytes v
ValueAt bytes (buckets_here target len cap) v = ItemsValue bytes len v
ValueAt bytes (numbers_here target len cap) v = ⊤
ValueAt bytes (entry_number limit) v = ⊤
ValueAt bytes node_behind v = NodeValue bytes v
ValueAt bytes (nodes_behind len) v = NodesValue bytes len v
ValueAt bytes (pairs_behind len) v = ItemsValue bytes len v
ValueAt bytes (text_behind len) v = TextValue v

pub data ValuesAt (bytes : List ℕ) : List Spot → Values → Type 0 where
  none_at : {vs : Values} → vs ≡ no_values → ValuesAt bytes [] vs
  more_at : {q : Spot} {qs : List Spot} {vs ws : Values} {v : Value} → vs ≡ more_values v ws → ValueAt bytes q.place v → ValuesAt bytes qs ws → ValuesAt bytes (q ∷ qs) vs

module _ (bytes : List ℕ) where
  -- what follows makes the value
  one_passed : (v : Value) {k j : Place} → Passes bytes k j → ValueAt bytes j v → ValueAt bytes k v
  one_passed v node_passes h = h
  one_passed v box_passes h = h
  one_passed v behind_passes h = h
  one_passed v (list_passes small) h = record { vs = h.vs; is = h.is; nodes = h.nodes; small = λ b. subst (λ n. n < 2 ^ 64) (sym h.counted) (small b) }
  one_passed v text_passes h = h
  one_passed v child_passes h = h
  one_passed v (table_passes small) h = record { vs = h.vs; is = h.is; pairs = h.pairs; small = λ b. subst (λ n. n < 2 ^ 64) (sym h.counted) (small b) }

  one_paid : {tag : ℕ} {j : Place} {w v : Value} → Pays tag j → v ≡ tagged_value tag w → ValueAt bytes j w → NodeValue bytes v
  one_paid pays_truth e h = truth_value (e ∙ ap (tagged_value 0) h.is)
  one_paid pays_number e h = number_value (e ∙ ap (tagged_value 1) h.is) h.fits
  one_paid pays_text e h = text_value (e ∙ ap (tagged_value 2) h.is) h.utf8
  one_paid pays_shared e h = shared_value (e ∙ ap (tagged_value 3) h.is) h.utf8
  one_paid pays_option e (option_none f) = none_value (e ∙ ap (tagged_value 4) f)
  one_paid pays_option e (option_some f n) = some_value (e ∙ ap (tagged_value 4) f) n
  one_paid pays_list e h = list_value (e ∙ ap (tagged_value 5) h.is) h.nodes h.small
  one_paid pays_ordered e h = ordered_value (e ∙ ap (tagged_value 6) h.is) h.pairs h.small
  one_paid pays_hashed e h = hashed_value (e ∙ ap (tagged_value 7) h.is) h.pairs h.small
  one_paid pays_kept e h = kept_value (e ∙ ap (tagged_value 8) h.is) h.pairs h.small
  one_paid pays_whole e h = whole_value (e ∙ ap (tagged_value 9) h.is) h.node

  record Nodes (n : ℕ) (vs : Values) : Type 0 where
    nodes : NodeValues bytes vs
    counted : count_values vs ≡ n

  nodes_made : (pos n : ℕ) (qs : List Spot) (vs : Values) → qs ≡ nodes_from pos n → ValuesAt bytes qs vs → Nodes n vs
  nodes_made pos zero qs vs is (none_at e) = record { nodes = no_nodes e; counted = ap count_values e }
  nodes_made pos zero qs vs is (more_at e h hs) = absurd (cc)
  nodes_made pos (suc n) qs vs is (none_at e) = absurd (cc)
  nodes_made pos (suc n) qs vs is (more_at {q = q} {qs = rest} {ws = ws} {v = v} e h hs) =
      let first : q ≡ record { place = node_here; pos = pos } = cc in
      let r = nodes_made (pos + 24) n rest ws (cc) hs in
      let c = r.counted in
      record { nodes = more_nodes e (subst (λ (x : Spot). ValueAt bytes x.place v) first h) r.nodes; counted = ap count_values e ∙ omega arith }

  no_more : {vs : Values} {qs : List Spot} → qs ≡ [] → ValuesAt bytes qs vs → vs ≡ no_values
  no_more e (none_at f) = f
  no_more e (more_at f h hs) = absurd (cc)

  -- ---- the pairs of a node of a search tree

  pairs_append : {us ws : Values} → PairValues bytes us → PairValues bytes ws → PairValues bytes (append_values us ws)
  pairs_append {ws = ws} (no_pairs e) h = subst (PairValues bytes) (sym (ap (λ x. append_values x ws) e)) h
  pairs_append {ws = ws} (more_pairs e u n ps) h = more_pairs (ap (λ x. append_values x ws) e) u n (pairs_append ps h)

  entries_made : (n key value : ℕ) (qs : List Spot) (vs : Values) → qs ≡ entries_from n key value → ValuesAt bytes qs vs → PairValues bytes vs
  entries_made zero key value qs vs is (none_at e) = no_pairs e
  entries_made zero key value qs vs is (more_at e h hs) = absurd (cc)
  entries_made (suc n) key value qs vs is (none_at e) = absurd (cc)
  entries_made (suc n) key value qs vs is (more_at {q = q} {qs = rest} {ws = ws} {v = v} e h hs) =
      let first : q ≡ record { place = entry_here key; pos = value } = cc in
      let pair : PairValue bytes v = subst (λ (x : Spot). ValueAt bytes x.place v) first h in
      more_pairs (e ∙ ap (λ x. more_values x ws) pair.is) pair.utf8 pair.node (entries_made n (key + 8) (value + 24) rest ws (cc) hs)

  -- the pairs of the buckets whose controls are tags
  record Items (n : ℕ) (vs : Values) : Type 0 where
    pairs : PairValues bytes vs
    counted : count_values vs ≡ n

  one_item : (b : Bool) (pos i : ℕ) (full : List ℕ) (later qs : List Spot) (vs : Values) → qs ≡ cond b (record { place = pair_here; pos = pos } ∷ later) later → ValuesAt bytes qs vs
      → ((rs : List Spot) (ws : Values) → rs ≡ later → ValuesAt bytes rs ws → Items (length full) ws) → Items (length (cond b (i ∷ full) full)) vs
  one_item false pos i full later qs vs is hs on = on qs vs is hs
  one_item true pos i full later qs vs is (none_at e) on = absurd (cc)
  one_item true pos i full later qs vs is (more_at {q = q} {qs = rest} {ws = ws} {v = v} e h hs) on =
      let first : q ≡ record { place = pair_here; pos = pos } = cc in
      let pair : PairValue bytes v = subst (λ (x : Spot). ValueAt bytes x.place v) first h in
      let r = on rest ws (cc) hs in
      let c = r.counted in
      record { pairs = more_pairs (e ∙ ap (λ x. more_values x ws) pair.is) pair.utf8 pair.node r.pairs; counted = ap count_values e ∙ omega (arith, c) }

  items_made : (target i : ℕ) (controls : List ℕ) (qs : List Spot) (vs : Values) → qs ≡ items_from target i controls → ValuesAt bytes qs vs → Items (length (full_from i controls)) vs
  items_made target i [] qs vs is (none_at e) = record { pairs = no_pairs e; counted = ap count_values e }
  items_made target i [] qs vs is (more_at e h hs) = absurd (cc)
  items_made target i (c ∷ cs) qs vs is hs =
      one_item (nat_lt c 128) (target - (i + 1) * 32) i (full_from (i + 1) cs) (items_from target (i + 1) cs) qs vs is hs (λ rs ws e ks. items_made target (i + 1) cs rs ws e ks)

  -- the pairs that stand one after the other
  pairs_made : (pos n : ℕ) (qs : List Spot) (vs : Values) → qs ≡ pairs_from pos n → ValuesAt bytes qs vs → Items n vs
  pairs_made pos zero qs vs is (none_at e) = record { pairs = no_pairs e; counted = ap count_values e }
  pairs_made pos zero qs vs is (more_at e h hs) = absurd (cc)
  pairs_made pos (suc n) qs vs is (none_at e) = absurd (cc)
  pairs_made pos (suc n) qs vs is (more_at {q = q} {qs = rest} {ws = ws} {v = v} e h hs) =
      let first : q ≡ record { place = pair_here; pos = pos } = cc in
      let pair : PairValue bytes v = subst (λ (x : Spot). ValueAt bytes x.place v) first h in
      let r = pairs_made (pos + 32) n rest ws (cc) hs in
      let c = r.counted in
      record { pairs = more_pairs (e ∙ ap (λ x. more_values x ws) pair.is) pair.utf8 pair.node r.pairs; counted = ap count_values e ∙ omega (arith, c) }

  -- the pairs below the pointers to children, and then those of the entries between them
  data ChildrenPairs : Values → Type 0 where
    no_children : {vs : Values} → vs ≡ no_values → ChildrenPairs vs
    more_children : {vs ws : Values} {v : Value} → vs ≡ more_values v ws → PairsValue bytes v → ChildrenPairs ws → ChildrenPairs vs

  record NodePairs (n : ℕ) (vs : Values) : Type 0 where
    below : ChildrenPairs (first_values n vs)
    own : PairValues bytes (other_values n vs)

  node_pairs : (n deeper link most key value : ℕ) (qs : List Spot) (vs : Values) → qs ≡ children_from n deeper link ++ entries_from most key value → ValuesAt bytes qs vs → NodePairs n vs
  node_pairs zero deeper link most key value qs vs is hs = record { below = no_children refl; own = entries_made most key value qs vs is hs }
  node_pairs (suc n) deeper link most key value qs vs is (none_at e) = absurd (cc)
  node_pairs (suc n) deeper link most key value qs vs is (more_at {q = q} {qs = rest} {ws = ws} {v = v} e h hs) =
      let first : q ≡ record { place = tree_child deeper; pos = link } = cc in
      let r = node_pairs n deeper (link + 4) most key value rest ws (cc) hs in
      record {
        below = more_children (ap (first_values (suc n)) e) (subst (λ (x : Spot). ValueAt bytes x.place v) first h) r.below;
        own = subst (PairValues bytes) (sym (ap (other_values (suc n)) e)) r.own;
      }

  woven_pairs : {cs es : Values} → ChildrenPairs cs → PairValues bytes es → PairValues bytes (weave cs es)
  woven_pairs {es = es} (no_children e) h = subst (PairValues bytes) (sym (ap (λ x. weave x es) e)) h
  woven_pairs {es = all} (more_children {ws = cs} {v = c} e p ps) (no_pairs f) =
      let P : Values → Values → Type 0 = λ x y. PairValues bytes (weave x y) in
      subst (λ x. P x all) (sym e) (subst (P (more_values c cs)) (sym f) (subst (λ x. PairValues bytes (members x)) (sym p.is) p.pairs))
  woven_pairs {es = all} (more_children {ws = cs} {v = c} e p ps) (more_pairs {ws = es} {k = k} {v = w} f u n rest) =
      let P : Values → Values → Type 0 = λ x y. PairValues bytes (weave x y) in
      let own = subst (λ x. PairValues bytes (members x)) (sym p.is) p.pairs in
      subst (λ x. P x all) (sym e) (subst (P (more_values c cs)) (sym f) (pairs_append own (more_pairs refl u n (woven_pairs ps rest))))

  -- a text and a node make a pair
  pair_made : {key value : ℕ} {qs : List Spot} {vs : Values} {v : Value}
      → qs ≡ record { place = text_here; pos = key } ∷ (record { place = node_here; pos = value } ∷ []) → ValuesAt bytes qs vs → v ≡ group vs → PairValue bytes v
  pair_made e (none_at f) m = absurd (cc)
  pair_made e (more_at f h (none_at g)) m = absurd (cc)
  pair_made {key = key} {value = value} e (more_at {q = q} {v = x} f h (more_at {q = r} {qs = qs} {v = y} g k hs)) m =
      let first : q ≡ record { place = text_here; pos = key } = cc in
      let second : r ≡ record { place = node_here; pos = value } = cc in
      let none : qs ≡ [] = cc in
      let text_is : TextValue x = subst (λ (z : Spot). ValueAt bytes z.place x) first h in
      let rest = no_more none hs in
      record {
        k = text_is.s;
        w = y;
        is = m ∙ ap group (f ∙ ap₂ more_values text_is.is (g ∙ ap (more_values y) rest));
        utf8 = text_is.utf8;
        node = subst (λ (z : Spot). ValueAt bytes z.place y) second k;
      }

  record Alone (j : Place) (vs : Values) : Type 0 where
    value : Value
    is : vs ≡ more_values value no_values
    there : ValueAt bytes j value

  alone : {vs : Values} {qs : List Spot} {j : Place} {pos : ℕ} → qs ≡ record { place = j; pos = pos } ∷ [] → ValuesAt bytes qs vs → Alone j vs
  alone e (none_at f) = absurd (cc)
  alone {j = j} {pos = pos} e (more_at {q = q} {qs = qs} {v = v} f h hs) =
      let same : q ≡ record { place = j; pos = pos } = cc in
      let none : qs ≡ [] = cc in
      let rest = no_more none hs in
      record { value = v; is = f ∙ ap (more_values v) rest; there = subst (λ (x : Spot). ValueAt bytes x.place v) same h }

  record Second (j : Place) (vs : Values) : Type 0 where
    first : Value
    value : Value
    is : vs ≡ more_values first (more_values value no_values)
    there : ValueAt bytes j value

  -- of two places
  second_alone : {vs : Values} {qs : List Spot} {i j : Place} {here to : ℕ} → qs ≡ record { place = i; pos = here } ∷ (record { place = j; pos = to } ∷ []) → ValuesAt bytes qs vs → Second j vs
  second_alone e (none_at f) = absurd (cc)
  second_alone {j = j} {to = to} e (more_at {qs = qs} {v = v} f h hs) =
      let rest : qs ≡ record { place = j; pos = to } ∷ [] = cc in
      let a = alone rest hs in
      record { first = v; value = a.value; is = f ∙ ap (more_values v) a.is; there = a.there }

  total_made : (v : Value) (len : ℕ) (b : Bool) (w : Value) → (count_values (members v) == len) ≡ b → cond b (Some v) None ≡ Some w → (w ≡ v) × (count_values (members v) ≡ len)
  total_made v len true w e m = (cc, eqb-true _ _ e)
  total_made v len false w e m = absurd (cc)

  pub follow : {k : Place} {l : Label} {qs : List Spot} {vs : Values} {v : Value}
      → Follows bytes k l qs → IsLegal l → ValuesAt bytes qs vs → made l vs ≡ Some v → ValueAt bytes k v
  unfolding made
  follow {k = k} {l = l} {vs = vs} {v = v} (passes p e f) legal hs m =
      let a = alone f hs in
      let n : made same (more_values a.value no_values) ≡ Some v = subst (λ x. made same x ≡ Some v) a.is (subst (λ x. made x vs ≡ Some v) e m) in
      let is : a.value ≡ v = cc in
      subst (ValueAt bytes k) is (one_passed a.value p a.there)
  follow {l = l} {vs = vs} {v = v} (pays {tag = tag} p e f) legal hs m =
      let a = alone f hs in
      let n : made (tagged tag) (more_values a.value no_values) ≡ Some v = subst (λ x. made (tagged tag) x ≡ Some v) a.is (subst (λ x. made x vs ≡ Some v) e m) in
      let is : v ≡ tagged_value tag a.value = cc in
      one_paid p is a.there
  follow {l = l} {vs = vs} {v = v} (truth_is {b = b} e f) legal hs m =
      let n : made (leaf (boolean b)) no_values ≡ Some v = subst (λ x. made (leaf (boolean b)) x ≡ Some v) (no_more f hs) (subst (λ x. made x vs ≡ Some v) e m) in
      record { b = b; is = cc }
  follow {l = l} {vs = vs} {v = v} (number_is {n = i} e fits f) legal hs m =
      let n : made (leaf (integer i)) no_values ≡ Some v = subst (λ x. made (leaf (integer i)) x ≡ Some v) (no_more f hs) (subst (λ x. made x vs ≡ Some v) e m) in
      record { n = i; is = cc; fits = fits }
  follow {l = l} {vs = vs} {v = v} (text_is {s = s} e f) legal hs m =
      let n : made (written s) no_values ≡ Some v = subst (λ x. made (written s) x ≡ Some v) (no_more f hs) (subst (λ x. made x vs ≡ Some v) e m) in
      record { s = s; is = cc; utf8 = subst IsLegal e legal }
  follow {l = l} {vs = vs} {v = v} (behind_is {s = s} e f) legal hs m =
      let n : made (written s) no_values ≡ Some v = subst (λ x. made (written s) x ≡ Some v) (no_more f hs) (subst (λ x. made x vs ≡ Some v) e m) in
      record { s = s; is = cc; utf8 = subst IsLegal e legal }
  follow {l = l} {vs = vs} {v = v} (none_is e f) legal hs m =
      let n : made (tagged 0) no_values ≡ Some v = subst (λ x. made (tagged 0) x ≡ Some v) (no_more f hs) (subst (λ x. made x vs ≡ Some v) e m) in
      option_none cc
  follow {l = l} {vs = vs} {v = v} (some_is e f) legal hs m =
      let a = alone f hs in
      let n : made (tagged 1) (more_values a.value no_values) ≡ Some v = subst (λ x. made (tagged 1) x ≡ Some v) a.is (subst (λ x. made x vs ≡ Some v) e m) in
      option_some {w = a.value} (cc) a.there
  follow {l = l} {vs = vs} {v = v} (nodes_follow {len = len} pos e f) legal hs m =
      let n : made whole vs ≡ Some v = subst (λ x. made x vs ≡ Some v) e m in
      let r = nodes_made pos len _ vs f hs in
      record { vs = vs; is = cc; nodes = r.nodes; counted = r.counted }
  follow {l = l} {vs = vs} {v = v} (empty_is e f) legal hs m =
      let n : made whole no_values ≡ Some v = subst (λ x. made whole x ≡ Some v) (no_more f hs) (subst (λ x. made x vs ≡ Some v) e m) in
      record { vs = no_values; is = cc; pairs = no_pairs refl; small = λ b. omega arith }
  follow {l = l} {vs = vs} {v = v} (total_is {len = len} small e f) legal hs m =
      let a = alone f hs in
      let n : made (total len) (more_values a.value no_values) ≡ Some v = subst (λ x. made (total len) x ≡ Some v) a.is (subst (λ x. made x vs ≡ Some v) e m) in
      let t = total_made a.value len (count_values (members a.value) == len) v refl n in
      let counted : count_values a.there.vs ≡ len = sym (ap (λ x. count_values (members x)) a.there.is) ∙ t.1 in
      record { vs = a.there.vs; is = t.0 ∙ a.there.is; pairs = a.there.pairs; small = λ b. subst (λ x. x < 2 ^ 64) (sym counted) (small b) }
  follow {l = l} {vs = vs} {v = v} (leaf_follows len key value low e f) legal hs m =
      let n : made whole vs ≡ Some v = subst (λ x. made x vs ≡ Some v) e m in
      record { vs = vs; is = cc; pairs = entries_made len key value _ vs f hs }
  follow {l = l} {vs = vs} {v = v} (inner_follows most deeper link key value low next e f) legal hs m =
      let n : made (woven (suc most)) vs ≡ Some v = subst (λ x. made x vs ≡ Some v) e m in
      let p = node_pairs (suc most) deeper link most key value _ vs f hs in
      record { vs = weave (first_values (suc most) vs) (other_values (suc most) vs); is = cc; pairs = woven_pairs p.below p.own }
  follow {l = l} {vs = vs} {v = v} (no_child_is e f) legal hs m =
      let n : made whole no_values ≡ Some v = subst (λ x. made whole x ≡ Some v) (no_more f hs) (subst (λ x. made x vs ≡ Some v) e m) in
      record { vs = no_values; is = cc; pairs = no_pairs refl }
  follow {l = l} {vs = vs} {v = v} (entry_follows e f) legal hs m =
      let n : made whole vs ≡ Some v = subst (λ x. made x vs ≡ Some v) e m in
      pair_made f hs (cc)
  follow {l = l} {vs = vs} {v = v} (no_items_is e f) legal hs m =
      let n : made whole no_values ≡ Some v = subst (λ x. made whole x ≡ Some v) (no_more f hs) (subst (λ x. made x vs ≡ Some v) e m) in
      record { vs = no_values; is = cc; pairs = no_pairs refl; small = λ b. omega arith }
  follow {l = l} {vs = vs} {v = v} (items_follow {target = target} controls are count e f) legal hs m =
      let n : made whole vs ≡ Some v = subst (λ x. made x vs ≡ Some v) e m in
      let r = items_made target 0 controls _ vs f hs in
      record { vs = vs; is = cc; pairs = r.pairs; counted = r.counted ∙ count }
  follow {l = l} {vs = vs} {v = v} (no_entries_is e f) legal hs m =
      let n : made whole no_values ≡ Some v = subst (λ x. made whole x ≡ Some v) (no_more f hs) (subst (λ x. made x vs ≡ Some v) e m) in
      record { vs = no_values; is = cc; pairs = no_pairs refl; small = λ b. omega arith }
  follow {l = l} {vs = vs} {v = v} (entries_second {len = len} small e f) legal hs m =
      let a = second_alone f hs in
      let n : made second (more_values a.first (more_values a.value no_values)) ≡ Some v = subst (λ x. made second x ≡ Some v) a.is (subst (λ x. made x vs ≡ Some v) e m) in
      let is : v ≡ a.value = cc in
      let h = a.there in
      record { vs = h.vs; is = is ∙ h.is; pairs = h.pairs; small = λ b. subst (λ x. x < 2 ^ 64) (sym h.counted) (small b) }
  follow (numbers_follow controls are count e f) legal hs m = tt
  follow (entry_number_is low e f) legal hs m = tt
  follow {l = l} {vs = vs} {v = v} (pairs_follow {len = len} pos e f) legal hs m =
      let n : made whole vs ≡ Some v = subst (λ x. made x vs ≡ Some v) e m in
      let r = pairs_made pos len _ vs f hs in
      record { vs = vs; is = cc; pairs = r.pairs; counted = r.counted }
  follow {l = l} {vs = vs} {v = v} (pair_follows key value e f) legal hs m =
      let n : made whole vs ≡ Some v = subst (λ x. made x vs ≡ Some v) e m in
      pair_made f hs (cc)
