-- The value of a node in a canonical archive has the pairs of its hashed maps in the order of first fit.
use Rattle.std.proofs.Common.{◌≡◌, ℕ, zero, suc, ◌==◌, Bool, true, false, cond, List, [], ◌∷◌, Some, None, refl, sym, ap, subst, ◌∙◌, arith}
use Rattle.std.specs.Prelude.{⊤}
use Rattle.archive_shape_layout.specs.Value.{Value, Values, count_values}
use Rattle.archive_shape_layout.specs.Value.Value.{natural, integer, boolean, string, group, chosen, counted}
use Rattle.archive_shape_layout.specs.Value.Values.{no_values, more_values}
use Rattle.archive_shape_layout.specs.Shape.Pointee.{sized, str}
use Rattle.archive_shape_layout.specs.Shape.{Pointee}
use Rattle.archive_shape_layout.specs.Content.{Part, Label, content_of, made, members, weave, first_values, other_values}
use Rattle.archive_shape_layout.specs.Content.Label.{same, second, whole, tagged, woven, total}
use Rattle.archive_shape_layout.specs.Content.Content.{illegal, counting}
use Rattle.cabinet_documents.specs.Denotes.{tagged_value}
use Rattle.cabinet_documents.specs.Fitted.{IsFitted, AreFitted, ArePairsFitted, AreFirstFit}
use Rattle.cabinet_documents.specs.Fitted.IsFitted.{leaf_is_fitted, nothing_is_fitted, some_is_fitted, list_is_fitted, ordered_is_fitted, hashed_is_fitted, kept_is_fitted, whole_is_fitted}
use Rattle.cabinet_documents.specs.Fitted.AreFitted.{none_are_fitted, more_are_fitted}
use Rattle.cabinet_documents.specs.Fitted.ArePairsFitted.{no_pairs_are_fitted, more_pairs_are_fitted}
use Rattle.cabinet_documents.specs.Node.{node_shape, node_names}
use Rattle.cabinet_documents.specs.Walk.{Stop, Walks, WalkAll, parts_of, value_of}
use Rattle.cabinet_documents.specs.Walk.Walks.{walks}
use Rattle.cabinet_documents.specs.Walk.WalkAll.{walk_none, walk_more}
use Rattle.cabinet_documents.proofs.CanonicalTables.{IsTableFirst, TableFirst}
use Rattle.cabinet_documents.proofs.Heights.{Suited, AllSuited, suited_append, suited_split}
use Rattle.cabinet_documents.proofs.Nodes.{NodeValue, truth_value, number_value, text_value, shared_value, none_value, some_value, list_value, ordered_value, hashed_value, kept_value, whole_value, NodeValues, no_nodes, more_nodes, PairValues, no_pairs, more_pairs}
use Rattle.cabinet_documents.proofs.Places.{Place, table_here, text_behind, node_behind, Spot, part_of, parts_at, Pays, pays_truth, pays_number, pays_text, pays_shared, pays_option, pays_list, pays_ordered, pays_hashed, pays_kept, pays_whole, Follows, passes, pays, truth_is, number_is, text_is, behind_is, none_is, some_is, nodes_follow, empty_is, total_is, leaf_follows, inner_follows, no_child_is, entry_follows, no_items_is, items_follow, no_entries_is, entries_second, numbers_follow, entry_number_is, pairs_follow, pair_follows, Leads, leads_nowhere, leads_plain, leads_claimed, leads_counted, leads_whole, led}
use Rattle.cabinet_documents.proofs.Stops.{Each, each_front, each_flat, flat}

-- ---- the values below the tag of hashed maps, which is 7

abbrev payload_items : Values → Values
payload_items (more_values v no_values) = members v
payload_items vs = no_values

abbrev IsTagFit : ℕ → Values → Type 0
IsTagFit (suc (suc (suc (suc (suc (suc (suc zero))))))) vs = AreFirstFit (payload_items vs)
IsTagFit tag vs = ⊤

members_suited : (v : Value) → Suited IsTagFit v → AllSuited IsTagFit (members v)
members_suited (group vs) h = h
members_suited v h = tt

weave_suited : (cs es : Values) → AllSuited IsTagFit cs → AllSuited IsTagFit es → AllSuited IsTagFit (weave cs es)
weave_suited no_values es h k = k
weave_suited (more_values c cs) no_values h k = members_suited c h.0
weave_suited (more_values c cs) (more_values e es) h k =
    suited_append IsTagFit (members c) (more_values e (weave cs es)) (members_suited c h.0) (k.0, weave_suited cs es h.1 k.1)

-- ---- by places

abbrev OwnFit : Place → Value → Type 0
OwnFit table_here v = AreFirstFit (members v)
OwnFit k v = ⊤

record FitAt (k : Place) (v : Value) : Type 0 where
  own : OwnFit k v
  suited : Suited IsTagFit v

data AllFit : List Spot → Values → Type 0 where
  none_fit : {vs : Values} → vs ≡ no_values → AllFit [] vs
  more_fit : {q : Spot} {qs : List Spot} {vs ws : Values} {v : Value} → vs ≡ more_values v ws → FitAt q.place v → AllFit qs ws → AllFit (q ∷ qs) vs

all_suited : {qs : List Spot} {vs : Values} → AllFit qs vs → AllSuited IsTagFit vs
all_suited (none_fit e) = subst (AllSuited IsTagFit) (sym e) tt
all_suited (more_fit e f fs) = subst (AllSuited IsTagFit) (sym e) (f.suited, all_suited fs)

no_more : {qs : List Spot} {vs : Values} → qs ≡ [] → AllFit qs vs → vs ≡ no_values
no_more is (none_fit e) = e
no_more is (more_fit e f fs) = absurd (cc)

record One (j : Place) (vs : Values) : Type 0 where
  value : Value
  values_are : vs ≡ more_values value no_values
  fit : FitAt j value

one : (j : Place) (pos : ℕ) {qs : List Spot} {vs : Values} → qs ≡ record { place = j; pos = pos } ∷ [] → AllFit qs vs → One j vs
one j pos is (none_fit e) = absurd (cc)
one j pos is (more_fit {q = q} {qs = qs} {v = v} e f fs) =
    let same_spot : q ≡ record { place = j; pos = pos } = cc in
    let none : qs ≡ [] = cc in
    record { value = v; values_are = e ∙ ap (more_values v) (no_more none fs); fit = subst (λ (x : Spot). FitAt x.place v) same_spot f }

paid_fit : {tag : ℕ} {j : Place} (v : Value) → Pays tag j → OwnFit j v → IsTagFit tag (more_values v no_values)
paid_fit v pays_truth h = tt
paid_fit v pays_number h = tt
paid_fit v pays_text h = tt
paid_fit v pays_shared h = tt
paid_fit v pays_option h = tt
paid_fit v pays_list h = tt
paid_fit v pays_ordered h = tt
paid_fit v pays_hashed h = h
paid_fit v pays_kept h = tt
paid_fit v pays_whole h = tt

total_is_same : (v : Value) (b : Bool) (w : Value) → cond b (Some v) None ≡ Some w → w ≡ v
total_is_same v true w m = cc
total_is_same v false w m = absurd (cc)

module _ (bytes : List ℕ) where
  made_whole : {l : Label} {qs : List Spot} {vs : Values} {v : Value} → l ≡ whole → AllFit qs vs → made l vs ≡ Some v → Suited IsTagFit v
  unfolding made
  made_whole {vs = vs} {v = v} e fs m =
      let n : made whole vs ≡ Some v = subst (λ x. made x vs ≡ Some v) e m in
      let is : v ≡ group vs = cc in
      subst (Suited IsTagFit) (sym is) (all_suited fs)

  made_leaf : {l x : Label} {qs : List Spot} {vs : Values} {v u : Value} → l ≡ x → qs ≡ [] → AllFit qs vs → made l vs ≡ Some v → made x no_values ≡ Some u → Suited IsTagFit u → Suited IsTagFit v
  made_leaf {l = l} {x = x} {vs = vs} {v = v} {u = u} e f fs m n h =
      let k : made x no_values ≡ Some v = subst (λ y. made x y ≡ Some v) (no_more f fs) (subst (λ y. made y vs ≡ Some v) e m) in
      let two : ◌≡◌ (Some u) (Some v) = sym n ∙ k in
      let is : u ≡ v = cc in
      subst (Suited IsTagFit) is h

  made_second : {i j : Place} {from to : ℕ} {l : Label} {qs : List Spot} {vs : Values} {v : Value}
      → l ≡ second → qs ≡ record { place = i; pos = from } ∷ (record { place = j; pos = to } ∷ []) → AllFit qs vs → made l vs ≡ Some v → Suited IsTagFit v
  unfolding made
  made_second e f (none_fit g) m = absurd (cc)
  made_second {j = j} {to = to} {vs = vs} {v = v} e f (more_fit {v = u} g first fs) m =
      let o = one j to (cc) fs in
      let n : made second (more_values u (more_values o.value no_values)) ≡ Some v = subst (λ x. made second x ≡ Some v) (g ∙ ap (more_values u) o.values_are) (subst (λ x. made x vs ≡ Some v) e m) in
      let is : o.value ≡ v = cc in
      subst (Suited IsTagFit) is (o.fit).suited

  made_fit : (k : Place) {l : Label} {qs : List Spot} {vs : Values} {v : Value} → Follows bytes k l qs → AllFit qs vs → made l vs ≡ Some v → Suited IsTagFit v
  unfolding made
  made_fit k {vs = vs} {v = v} (passes {j = j} {pos = pos} p e f) fs m =
      let o = one j pos f fs in
      let n : made same (more_values o.value no_values) ≡ Some v = subst (λ x. made same x ≡ Some v) o.values_are (subst (λ x. made x vs ≡ Some v) e m) in
      let is : v ≡ o.value = cc in
      subst (Suited IsTagFit) (sym is) (o.fit).suited
  made_fit k {vs = vs} {v = v} (pays {tag = tag} {j = j} {pos = pos} p e f) fs m =
      let o = one j pos f fs in
      let n : made (tagged tag) (more_values o.value no_values) ≡ Some v = subst (λ x. made (tagged tag) x ≡ Some v) o.values_are (subst (λ x. made x vs ≡ Some v) e m) in
      let is : v ≡ tagged_value tag o.value = cc in
      subst (Suited IsTagFit) (sym is) (paid_fit o.value p (o.fit).own, ((o.fit).suited, tt))
  made_fit k (truth_is {b = b} e f) fs m = made_leaf {u = boolean b} e f fs m refl tt
  made_fit k (number_is {n = i} e fits f) fs m = made_leaf {u = integer i} e f fs m refl tt
  made_fit k (text_is {s = s} e f) fs m = made_leaf {u = string s} e f fs m refl tt
  made_fit k (behind_is {s = s} e f) fs m = made_leaf {u = string s} e f fs m refl tt
  made_fit k (none_is e f) fs m = made_leaf {u = chosen 0 no_values} e f fs m refl (tt, tt)
  made_fit k {vs = vs} {v = v} (some_is {pos = pos} e f) fs m =
      let o = one _ pos f fs in
      let n : made (tagged 1) (more_values o.value no_values) ≡ Some v = subst (λ x. made (tagged 1) x ≡ Some v) o.values_are (subst (λ x. made x vs ≡ Some v) e m) in
      let is : v ≡ tagged_value 1 o.value = cc in
      subst (Suited IsTagFit) (sym is) (tt, ((o.fit).suited, tt))
  made_fit k (nodes_follow pos e f) fs m = made_whole e fs m
  made_fit k (empty_is e f) fs m = made_whole e fs m
  made_fit k {vs = vs} {v = v} (total_is {len = len} {root = root} small e f) fs m =
      let o = one _ root f fs in
      let n : made (total len) (more_values o.value no_values) ≡ Some v = subst (λ x. made (total len) x ≡ Some v) o.values_are (subst (λ x. made x vs ≡ Some v) e m) in
      subst (Suited IsTagFit) (sym (total_is_same o.value (count_values (members o.value) == len) v n)) (o.fit).suited
  made_fit k (leaf_follows n key value low e f) fs m = made_whole e fs m
  made_fit k {vs = vs} {v = v} (inner_follows most deeper link key value low next e f) fs m =
      let c = suc most in
      let n : made (woven c) vs ≡ Some v = subst (λ x. made x vs ≡ Some v) e m in
      let is : v ≡ group (weave (first_values c vs) (other_values c vs)) = cc in
      let parts = suited_split IsTagFit c vs (all_suited fs) in
      subst (Suited IsTagFit) (sym is) (weave_suited (first_values c vs) (other_values c vs) parts.0 parts.1)
  made_fit k (no_child_is e f) fs m = made_whole e fs m
  made_fit k (entry_follows e f) fs m = made_whole e fs m
  made_fit k (no_items_is e f) fs m = made_whole e fs m
  made_fit k (items_follow controls are count e f) fs m = made_whole e fs m
  made_fit k (no_entries_is e f) fs m = made_whole e fs m
  made_fit k (entries_second small e f) fs m = made_second e f fs m
  made_fit k (numbers_follow controls are count e f) fs m = made_whole e fs m
  made_fit k (entry_number_is {n = n} low e f) fs m = made_leaf {u = natural n} e f fs m refl tt
  made_fit k (pairs_follow pos e f) fs m = made_whole e fs m
  made_fit k (pair_follows key value e f) fs m = made_whole e fs m

  own_fit : (k : Place) (pos : ℕ) (v : Value) → IsTableFirst (part_of k pos) v → OwnFit k v
  own_fit table_here pos v h = h
  own_fit k pos v h = tt

  counted_fit : (j : Place) (t : ℕ) (q : Pointee) (len : ℕ) {vs : Values} {v : Value} → AllFit (record { place = j; pos = t } ∷ []) vs → value_of (counting false t q len) vs ≡ Some v → Suited IsTagFit v
  counted_fit j t q len {vs = vs} {v = v} fs m =
      let o = one j t refl fs in
      let n : value_of (counting false t q len) (more_values o.value no_values) ≡ Some v = subst (λ x. value_of (counting false t q len) x ≡ Some v) o.values_are m in
      let is : v ≡ counted t o.value = cc in
      subst (Suited IsTagFit) (sym is) (o.fit).suited

  case_fit : (k : Place) (pos : ℕ) {p : Part} {v : Value} {vs : Values}
      → p ≡ part_of k pos
      → value_of (content_of node_names bytes p) vs ≡ Some v
      → ((qs : List Spot) → parts_of (content_of node_names bytes p) ≡ parts_at qs → AllFit qs vs)
      → Leads bytes k (content_of node_names bytes (part_of k pos))
      → Suited IsTagFit v
  case_fit k pos {v = v} {vs = vs} is m on (leads_nowhere f) =
      let n : value_of illegal vs ≡ Some v = subst (λ x. value_of x vs ≡ Some v) (ap (content_of node_names bytes) is ∙ f) m in absurd (cc)
  case_fit k pos {v = v} {vs = vs} is m on (leads_plain f fs) =
      let c = ap (content_of node_names bytes) is ∙ f in made_fit k fs (on _ (ap parts_of c)) (subst (λ x. value_of x vs ≡ Some v) c m)
  case_fit k pos {v = v} {vs = vs} is m on (leads_claimed f fs b) =
      let c = ap (content_of node_names bytes) is ∙ f in made_fit k fs (on _ (ap parts_of c)) (subst (λ x. value_of x vs ≡ Some v) c m)
  case_fit k pos {v = v} {vs = vs} is m on (leads_counted {t = t} {len = len} f) =
      let c = ap (content_of node_names bytes) is ∙ f in
      counted_fit (text_behind len) t str len (on (record { place = text_behind len; pos = t } ∷ []) (ap parts_of c)) (subst (λ x. value_of x vs ≡ Some v) c m)
  case_fit k pos {v = v} {vs = vs} is m on (leads_whole {t = t} f) =
      let c = ap (content_of node_names bytes) is ∙ f in
      counted_fit node_behind t (sized node_shape) 1 (on (record { place = node_behind; pos = t } ∷ []) (ap parts_of c)) (subst (λ x. value_of x vs ≡ Some v) c m)

  mutual
    walk_fit : {d : ℕ} {p : Part} {v : Value} {walk : List Stop} → Walks node_names bytes d p v walk → (k : Place) (pos : ℕ) → p ≡ part_of k pos → Each TableFirst walk → FitAt k v
    walk_fit (walks {p = p} {v = v} {inner = inner} all m e) k pos is each =
        let c = content_of node_names bytes p in
        let both = subst (Each TableFirst) e each in
        let below = each_flat TableFirst c inner both.1 in
        record {
          own = own_fit k pos v (subst (λ x. IsTableFirst x v) is both.0);
          suited = case_fit k pos is m
              (λ qs f. all_fit all qs f below)
              (led bytes k pos);
        }

    all_fit : {d : ℕ} {ps : List Part} {vs : Values} {runs : List (List Stop)} → WalkAll node_names bytes d ps vs runs → (qs : List Spot) → ps ≡ parts_at qs → Each TableFirst (flat runs) → AllFit qs vs
    all_fit (walk_none e f) [] is each = none_fit e
    all_fit (walk_none e f) (q ∷ qs) is each = absurd (cc)
    all_fit (walk_more w ws e f) [] is each = absurd (cc)
    all_fit (walk_more {here = here} {later = later} w ws e f) (q ∷ qs) is each =
        let both = each_front TableFirst here (flat later) (subst (λ x. Each TableFirst (flat x)) f each) in
        more_fit e (walk_fit w q.place q.pos (cc) both.0) (all_fit ws qs (cc) both.1)

  -- ---- the value of a node

  mutual
    fitted : {v : Value} → NodeValue bytes v → Suited IsTagFit v → IsFitted v
    fitted (truth_value e) h = leaf_is_fitted {tag = 0} e (omega arith)
    fitted (number_value e f) h = leaf_is_fitted {tag = 1} e (omega arith)
    fitted (text_value e u) h = leaf_is_fitted {tag = 2} e (omega arith)
    fitted (shared_value e u) h = leaf_is_fitted {tag = 3} e (omega arith)
    fitted (none_value e) h = nothing_is_fitted e
    fitted (some_value {w = w} e n) h = let k : ⊤ × ((⊤ × (Suited IsTagFit w × ⊤)) × ⊤) = subst (Suited IsTagFit) e h in some_is_fitted e (fitted n k.1.0.1.0)
    fitted (list_value {vs = vs} e ns small) h = let k : ⊤ × (AllSuited IsTagFit vs × ⊤) = subst (Suited IsTagFit) e h in list_is_fitted e (all_fitted ns k.1.0)
    fitted (ordered_value {vs = vs} e ps small) h = let k : ⊤ × (AllSuited IsTagFit vs × ⊤) = subst (Suited IsTagFit) e h in ordered_is_fitted e (pairs_fitted ps k.1.0)
    fitted (hashed_value {vs = vs} e ps small) h = let k : AreFirstFit vs × (AllSuited IsTagFit vs × ⊤) = subst (Suited IsTagFit) e h in hashed_is_fitted e k.0 (pairs_fitted ps k.1.0)
    fitted (whole_value {w = w} e n) h = let k : ⊤ × (Suited IsTagFit w × ⊤) = subst (Suited IsTagFit) e h in whole_is_fitted e (fitted n k.1.0)
    fitted (kept_value {vs = vs} e ps small) h = let k : ⊤ × (AllSuited IsTagFit vs × ⊤) = subst (Suited IsTagFit) e h in kept_is_fitted e (pairs_fitted ps k.1.0)

    all_fitted : {vs : Values} → NodeValues bytes vs → AllSuited IsTagFit vs → AreFitted vs
    all_fitted (no_nodes e) h = none_are_fitted e
    all_fitted (more_nodes {ws = ws} {v = v} e n ns) h = let k : Suited IsTagFit v × AllSuited IsTagFit ws = subst (AllSuited IsTagFit) e h in more_are_fitted e (fitted n k.0) (all_fitted ns k.1)

    pairs_fitted : {vs : Values} → PairValues bytes vs → AllSuited IsTagFit vs → ArePairsFitted vs
    pairs_fitted (no_pairs e) h = no_pairs_are_fitted e
    pairs_fitted (more_pairs {ws = ws} {v = v} e u n ns) h =
        let k : (⊤ × (Suited IsTagFit v × ⊤)) × AllSuited IsTagFit ws = subst (AllSuited IsTagFit) e h in more_pairs_are_fitted e (fitted n k.0.1.0) (pairs_fitted ns k.1)

  pub walk_fitted : {d : ℕ} {p : Part} {v : Value} {walk : List Stop} → Walks node_names bytes d p v walk → (k : Place) (pos : ℕ) → p ≡ part_of k pos → Each TableFirst walk → NodeValue bytes v → IsFitted v
  walk_fitted w k pos is each n = fitted n (walk_fit w k pos is each).suited
