-- The way to a leaf leads to no key, and the parts along a way in a canonical archive are clean.
use Rattle.std.proofs.Common.{◌≡◌, ℕ, zero, suc, nat_lt, Bool, true, false, List, [], ◌∷◌, ◌++◌, Some, refl, sym, ap, ap₂, subst, ◌∙◌, arith, ltb-true}
use Rattle.std.proofs.lemmas.Bool.{ltb-false}
use Rattle.archive_shape_layout.specs.Value.{Value, Values}
use Rattle.archive_shape_layout.specs.Value.Value.{group, chosen}
use Rattle.archive_shape_layout.specs.Content.{Names, Part, Span, Label, Content, content_of, made}
use Rattle.archive_shape_layout.specs.Content.Label.{same, second, whole, tagged, woven, total}
use Rattle.archive_shape_layout.specs.Content.Content.{plain, claimed}
use Rattle.archive_shape_layout.specs.Holds.{Region, Visit, OpenShared, Holds, HoldAll}
use Rattle.archive_shape_layout.specs.Holds.Holds.{holds_plain, holds_claimed, holds_first, holds_later, holds_back}
use Rattle.archive_shape_layout.specs.Holds.HoldAll.{holds_none, holds_more}
use Rattle.archive_shape_layout.specs.Path.{Stands, StandsIn, value_in, value_at, and_then, through}
use Rattle.archive_shape_layout.specs.Path.Stands.{stands_here, stands_plain, stands_claimed}
use Rattle.archive_shape_layout.specs.Path.StandsIn.{stands_first, stands_later}
use Rattle.archive_shape_layout.proofs.Paths.{path_is}
use Rattle.archive_shape_layout.proofs.Stood.{InValue, stands_in_value}
use Rattle.archive_shape_canonical.specs.Clean.{IsClean}
use Rattle.archive_shape_canonical.specs.Settled.{Fit}
use Rattle.archive_shape_canonical.specs.Canonical.{IsCanonical, AreCanonical, end_of}
use Rattle.archive_shape_canonical.specs.Laws.{IsOnward, AvoidsKey, AvoidsKeys, AvoidKeys}
use Rattle.cabinet_documents.specs.Node.{node_names}
use Rattle.cabinet_documents.specs.Denotes.{pair_value}
use Rattle.cabinet_documents.proofs.Places.{Place, node_here, payload_here, truth_here, number_here, text_here, shared_here, option_here, box_here, ordered_here, table_here, index_here, whole_here, pair_here, tree_node, tree_child, entry_here, buckets_here, numbers_here, entry_number, nodes_behind, pairs_behind, text_behind, Spot, part_of, parts_at, nodes_from, pairs_from, entries_from, children_from, items_from, numbers_from, Passes, node_passes, box_passes, behind_passes, list_passes, text_passes, child_passes, table_passes, Pays, pays_truth, pays_number, pays_text, pays_shared, pays_option, pays_list, pays_ordered, pays_hashed, pays_kept, pays_whole, Follows, passes, pays, truth_is, number_is, text_is, behind_is, none_is, some_is, nodes_follow, empty_is, total_is, leaf_follows, inner_follows, no_child_is, entry_follows, no_items_is, items_follow, no_entries_is, entries_second, numbers_follow, entry_number_is, pairs_follow, pair_follows, Leads, leads_nowhere, leads_plain, leads_claimed, leads_counted, leads_whole, led}
use Rattle.cabinet_documents.proofs.Leading.{ToLeaf, FromPair, IntoPart, Aims, IsSpot, value_is, payload_aims, only_spot, each_spot, entry_spot, tagged_spot, child_spot, spot_behind, same_through, second_through, total_through, whole_through, child_through, entry_through, pair_below, pair_in, item_here, behind_key}
use Rattle.cabinet_documents.proofs.Steps.{place_of}

-- ---- how a way goes on from each place

module _ (bytes : List ℕ) where
  -- into part i: the path there avoids keys, and leads to the leaf from the value there
  record GoesOn (k : Place) (pos : ℕ) (qs : List Spot) (i : ℕ) (u : Value) (inner : List ℕ) : Type 0 where
    avoids : AvoidsKey (part_of k pos) (parts_at qs) inner
    aims : (q : Spot) → IsSpot i qs q → Aims q.place u inner

  abbrev Goes : Place → Label → List Spot → Type 0
  Goes k l qs =
      (pos : ℕ) (vs : Values) (v u w : Value) (i : ℕ) (inner path : List ℕ)
      → made l vs ≡ Some v → value_in i vs ≡ Some u → value_at inner u ≡ Some w → through l vs i inner ≡ Some path → Aims k v path → GoesOn k pos qs i u inner

  as_given : {k : Place} {l m : Label} {qs rs : List Spot} → l ≡ m → qs ≡ rs → Goes k m rs → Goes k l qs
  as_given {k = k} {m = m} {qs = qs} e f g = subst (λ x. Goes k x qs) (sym e) (subst (Goes k m) (sym f) g)

  none_follow : (k : Place) (l : Label) → ((pos : ℕ) (inner : List ℕ) → AvoidsKey (part_of k pos) [] inner) → Goes k l []
  none_follow k l free pos vs v u w i inner path m there at_w t a = record { avoids = free pos inner; aims = λ q s. absurd s }

  passed : {k j : Place} (p : ℕ) → ((pos : ℕ) (v : Value) (path : List ℕ) → Aims k v path → AvoidsKey (part_of k pos) (part_of j p ∷ []) path × Aims j v path)
      → Goes k same (record { place = j; pos = p } ∷ [])
  passed {k = k} {j = j} p on pos vs v u w i inner path m there at_w t a =
      let s = same_through vs v u i inner path m there t in
      let here = on pos v path a in
      record {
        avoids = subst (AvoidsKey (part_of k pos) (part_of j p ∷ [])) (sym s.1) here.0;
        aims = λ q is. subst (λ (x : Spot). Aims x.place u inner) (only_spot i (record { place = j; pos = p }) q is).1 (subst (λ x. Aims j x inner) (sym s.0) (subst (Aims j v) (sym s.1) here.1));
      }

  pass_on : {k j : Place} (p : ℕ) → Passes bytes k j → (pos : ℕ) (v : Value) (path : List ℕ) → Aims k v path → AvoidsKey (part_of k pos) (part_of j p ∷ []) path × Aims j v path
  pass_on p node_passes pos v path a = (tt, a)
  pass_on p box_passes pos v path a = (tt, a)
  pass_on p behind_passes pos v path a = (tt, a)
  pass_on p (list_passes small) pos v path a = (tt, a)
  pass_on p text_passes pos v path a = (tt, tt)
  pass_on p child_passes pos v path a = (behind_key a, a)
  pass_on p (table_passes small) pos v path a = (behind_key a, a)

  payload_free : {tag : ℕ} {j : Place} (p pos : ℕ) (inner : List ℕ) → Pays tag j → AvoidsKey (part_of payload_here pos) (part_of j p ∷ []) inner
  payload_free p pos inner pays_truth = tt
  payload_free p pos inner pays_number = tt
  payload_free p pos inner pays_text = tt
  payload_free p pos inner pays_shared = tt
  payload_free p pos inner pays_option = tt
  payload_free p pos inner pays_list = tt
  payload_free p pos inner pays_ordered = tt
  payload_free p pos inner pays_hashed = tt
  payload_free p pos inner pays_kept = tt
  payload_free p pos inner pays_whole = tt

  paid_aims : {tag : ℕ} {j : Place} (u : Value) (inner : List ℕ) → Pays tag j → Aims (place_of tag) u inner → Aims j u inner
  paid_aims u inner pays_truth a = tt
  paid_aims u inner pays_number a = tt
  paid_aims u inner pays_text a = tt
  paid_aims u inner pays_shared a = tt
  paid_aims u inner pays_option a = a
  paid_aims u inner pays_list a = a
  paid_aims u inner pays_ordered a = a
  paid_aims u inner pays_hashed a = a
  paid_aims u inner pays_kept a = a
  paid_aims u inner pays_whole a = a

  paid : {tag : ℕ} {j : Place} (p : ℕ) → Pays tag j → Goes payload_here (tagged tag) (record { place = j; pos = p } ∷ [])
  unfolding made
  paid {tag = tag} {j = j} p y pos vs v u w i inner path m there at_w t a = record {
    avoids = payload_free p pos inner y;
    aims = λ q is.
        let one = only_spot i (record { place = j; pos = p }) q is in
        let made_of : v ≡ chosen tag vs = sym (value_is m) in
        let front : 0 ∷ inner ≡ a.inner ++ 0 ∷ [] = ap (λ n. n ∷ inner) (sym one.0) ∙ path_is t ∙ a.is in
        let first : value_in 0 vs ≡ Some u = ap (λ n. value_in n vs) (sym one.0) ∙ there in
        subst (λ (x : Spot). Aims x.place u inner) one.1 (paid_aims u inner y (payload_aims a.leaf tag vs u inner a.leads a.is_leaf made_of first front));
  }

  in_some : (p : ℕ) → Goes option_here (tagged 1) (record { place = box_here; pos = p } ∷ [])
  in_some p pos vs v u w i inner path m there at_w t a =
      let into : IntoPart (tagged 1) vs i inner path = record { j = i; way = sym (path_is t); alone = refl } in
      record {
        avoids = tt;
        aims = λ q is. subst (λ (x : Spot). Aims x.place u inner) (only_spot i (record { place = box_here; pos = p }) q is).1 (item_here m there into a);
      }

  in_nodes : (from len : ℕ) → Goes (nodes_behind len) whole (nodes_from from len)
  in_nodes from len pos vs v u w i inner path m there at_w t a = record {
    avoids = tt;
    aims = λ q is. subst (λ k. Aims k u inner) (sym (each_spot node_here 24 i from len q is)) (item_here m there (whole_through vs i inner path t) a);
  }

  in_ordered : (len root : ℕ) → Goes ordered_here (total len) (record { place = tree_node 1; pos = root } ∷ [])
  in_ordered len root pos vs v u w i inner path m there at_w t a =
      let below = pair_below m there at_w (total_through len vs i inner path t) a in
      record {
        avoids = behind_key below;
        aims = λ q is. subst (λ (x : Spot). Aims x.place u inner) (only_spot i (record { place = tree_node 1; pos = root }) q is).1 below;
      }

  in_leaf : (level n key value : ℕ) → Goes (tree_node level) whole (entries_from n key value)
  in_leaf level n key value pos vs v u w i inner path m there at_w t a =
      let here = pair_in m there (whole_through vs i inner path t) a in
      record {
        avoids = subst IsOnward (sym here.is) tt;
        aims = λ q is. subst (λ k. Aims k u inner) (sym (entry_spot i n key value q is).1) here;
      }

  in_inner : (level most deeper link key value : ℕ) → Goes (tree_node level) (woven (suc most)) (children_from (suc most) deeper link ++ entries_from most key value)
  in_inner level most deeper link key value pos vs v u w i inner path m there at_w t a = by_test (nat_lt i (suc most)) refl
    where
      qs : List Spot
      qs = children_from (suc most) deeper link ++ entries_from most key value

      by_test : (b : Bool) → nat_lt i (suc most) ≡ b → GoesOn (tree_node level) pos qs i u inner
      by_test true low =
          let into = child_through (suc most) vs i inner path low t in
          let below = pair_below m there at_w into a in
          record {
            avoids = subst IsOnward (sym below.is) tt;
            aims = λ q is. subst (λ k. Aims k u inner) (sym (child_spot i (suc most) deeper link (entries_from most key value) q (ltb-true i (suc most) low) is)) below;
          }
      by_test false high =
          let here = pair_in m there (entry_through (suc most) vs i inner path high t) a in
          record {
            avoids = subst IsOnward (sym here.is) tt;
            aims = λ q is.
                let s = spot_behind i (suc most) deeper link (entries_from most key value) q (ltb-false i (suc most) high) is in
                subst (λ k. Aims k u inner) (sym (entry_spot s.0 most key value q s.1).1) here;
          }

  in_items : (target len cap : ℕ) (controls : List ℕ) → Goes (buckets_here target len cap) whole (items_from target 0 controls)
  in_items target len cap controls pos vs v u w i inner path m there at_w t a = record {
    avoids = tt;
    aims = λ q is. subst (λ k. Aims k u inner) (sym (tagged_spot pair_here 32 i target 0 controls q is)) (pair_in m there (whole_through vs i inner path t) a);
  }

  in_numbers : (target len cap : ℕ) (controls : List ℕ) → Goes (numbers_here target len cap) whole (numbers_from len target 0 controls)
  in_numbers target len cap controls pos vs v u w i inner path m there at_w t a = record {
    avoids = tt;
    aims = λ q is. subst (λ k. Aims k u inner) (sym (tagged_spot (entry_number len) 4 i target 0 controls q is)) tt;
  }

  in_pairs : (from len : ℕ) → Goes (pairs_behind len) whole (pairs_from from len)
  in_pairs from len pos vs v u w i inner path m there at_w t a = record {
    avoids = tt;
    aims = λ q is. subst (λ k. Aims k u inner) (sym (each_spot pair_here 32 i from len q is)) (pair_in m there (whole_through vs i inner path t) a);
  }

  second_spot : (i : ℕ) (first other q : Spot) → i ≡ 1 → IsSpot i (first ∷ (other ∷ [])) q → other ≡ q
  second_spot zero first other q e s = absurd (omega (arith, e))
  second_spot (suc zero) first other q e s = s
  second_spot (suc (suc i)) first other q e s = absurd s

  -- the value of a kept map is that of its entries
  in_entries : (target len cap start : ℕ) → Goes index_here second (record { place = numbers_here target len cap; pos = target } ∷ (record { place = pairs_behind len; pos = start } ∷ []))
  in_entries target len cap start pos vs v u w i inner path m there at_w t a =
      let s = second_through vs v u i inner path m there t in
      let here : Aims (pairs_behind len) u inner = subst (λ x. Aims (pairs_behind len) x inner) (sym s.1) (subst (Aims (pairs_behind len) v) (sym s.2) a) in
      record {
        avoids = behind_key here;
        aims = λ q is. subst (λ (x : Spot). Aims x.place u inner) (second_spot i (record { place = numbers_here target len cap; pos = target }) (record { place = pairs_behind len; pos = start }) q s.0 is) here;
      }

  -- the value of a pair is its second part

  -- of an entry of a search tree, and of a pair by itself
  in_pair_of : (k : Place) (key value : ℕ) → ((v : Value) (path : List ℕ) → Aims k v path → FromPair v path)
      → ((pos : ℕ) (inner : List ℕ) → AvoidsKey (part_of k pos) (part_of text_here key ∷ (part_of node_here value ∷ [])) inner)
      → Goes k whole (record { place = text_here; pos = key } ∷ (record { place = node_here; pos = value } ∷ []))
  unfolding made
  in_pair_of k key value from free pos vs v u w i inner path m there at_w t aimed =
      let a = from v path aimed in
      let both : i ∷ inner ≡ 1 ∷ a.more = path_is t ∙ a.is in
      let number : i ≡ 1 = cc in
      let rest : inner ≡ a.more = cc in
      let of_group : v ≡ group vs = sym (value_is m) in
      let values : group vs ≡ pair_value a.key a.item = sym of_group ∙ a.there in
      let same_item : u ≡ a.item = value_is (ap (λ o. and_then o (λ z. Some z)) (sym there) ∙ ap₂ (λ n x. value_at (n ∷ []) x) number values) in
      record {
        avoids = free pos inner;
        aims = λ q is.
            let spot = second_spot i (record { place = text_here; pos = key }) (record { place = node_here; pos = value }) q number is in
            subst (λ (x : Spot). Aims x.place u inner) spot (subst (λ x. ToLeaf x inner) (sym same_item) (subst (ToLeaf a.item) (sym rest) a.on));
      }

  goes : {k : Place} {l : Label} {qs : List Spot} → Follows bytes k l qs → Goes k l qs
  goes (passes {pos = p} y e f) = as_given e f (passed p (pass_on p y))
  goes (pays {pos = p} y e f) = as_given e f (paid p y)
  goes (truth_is e f) = as_given e f (none_follow truth_here _ (λ pos inner. tt))
  goes (number_is e fits f) = as_given e f (none_follow number_here _ (λ pos inner. tt))
  goes (text_is e f) = as_given e f (none_follow text_here _ (λ pos inner. tt))
  goes (behind_is {len = len} e f) = as_given e f (none_follow (text_behind len) _ (λ pos inner. tt))
  goes (none_is e f) = as_given e f (none_follow option_here _ (λ pos inner. tt))
  goes (some_is {pos = p} e f) = as_given e f (in_some p)
  goes (nodes_follow {len = len} from e f) = as_given e f (in_nodes from len)
  goes (empty_is e f) = as_given e f (none_follow ordered_here _ (λ pos inner. tt))
  goes (total_is {len = len} {root = root} small e f) = as_given e f (in_ordered len root)
  goes (leaf_follows {level = level} n key value low e f) = as_given e f (in_leaf level n key value)
  goes (inner_follows {level = level} most deeper link key value low next e f) = as_given e f (in_inner level most deeper link key value)
  goes (no_child_is {level = level} e f) = as_given e f (none_follow (tree_child level) _ (λ pos inner. tt))
  goes (entry_follows {key = key} {value = value} e f) = as_given e f (in_pair_of (entry_here key) key value (λ v path a. a) (λ pos inner. tt))
  goes (no_items_is e f) = as_given e f (none_follow table_here _ (λ pos inner. tt))
  goes (items_follow {target = target} {len = len} {cap = cap} controls are count e f) = as_given e f (in_items target len cap controls)
  goes (no_entries_is e f) = as_given e f (none_follow index_here _ (λ pos inner. tt))
  goes (entries_second {target = target} {len = len} {cap = cap} {start = start} small e f) = as_given e f (in_entries target len cap start)
  goes (numbers_follow {target = target} {len = len} {cap = cap} controls are count e f) = as_given e f (in_numbers target len cap controls)
  goes (entry_number_is {limit = limit} low e f) = as_given e f (none_follow (entry_number limit) _ (λ pos inner. tt))
  goes (pairs_follow {len = len} from e f) = as_given e f (in_pairs from len)
  goes (pair_follows key value e f) = as_given e f (in_pair_of pair_here key value (λ v path a. a) (λ pos inner. tt))

  -- ---- the whole way

  pub data Says (c : Content) (l : Label) (ps : List Part) : Type 0 where
    says_plain : c ≡ plain l ps → Says c l ps
    says_claimed : {s : Span} → c ≡ claimed s l ps → Says c l ps

  -- the parts that follow are at spots
  pub record Spots (k : Place) (l : Label) (ps : List Part) : Type 0 where
    pub qs : List Spot
    pub are : ps ≡ parts_at qs
    pub follow : Follows bytes k l qs

  pub spots : {c : Content} {l : Label} {ps : List Part} (k : Place) → Leads bytes k c → Says c l ps → Spots k l ps
  spots k (leads_nowhere g) (says_plain e) = absurd (cc)
  spots k (leads_nowhere g) (says_claimed e) = absurd (cc)
  spots {l = l} k (leads_plain {l = m} {qs = qs} g fs) (says_plain e) = let label : m ≡ l = cc in record { qs = qs; are = cc; follow = subst (λ x. Follows bytes k x qs) label fs }
  spots k (leads_plain g fs) (says_claimed e) = absurd (cc)
  spots k (leads_claimed g fs b) (says_plain e) = absurd (cc)
  spots {l = l} k (leads_claimed {l = m} {qs = qs} g fs b) (says_claimed e) = let label : m ≡ l = cc in record { qs = qs; are = cc; follow = subst (λ x. Follows bytes k x qs) label fs }
  spots shared_here (leads_counted g) (says_plain e) = absurd (cc)
  spots shared_here (leads_counted g) (says_claimed e) = absurd (cc)
  spots whole_here (leads_whole g) (says_plain e) = absurd (cc)
  spots whole_here (leads_whole g) (says_claimed e) = absurd (cc)

  -- a path in part i of some, at the spots given, leads to a leaf
  abbrev AimsIn : List Spot → Values → ℕ → List ℕ → Type 0
  AimsIn qs vs i inner = (q : Spot) (u : Value) → IsSpot i qs q → value_in i vs ≡ Some u → Aims q.place u inner

  -- and so from the part that has them, by a path that avoids its keys
  record Further (p : Part) (ps : List Part) (vs : Values) (i : ℕ) (inner : List ℕ) : Type 0 where
    qs : List Spot
    are : ps ≡ parts_at qs
    avoids : AvoidsKey p ps inner
    aims : AimsIn qs vs i inner

  further : {p : Part} {v w : Value} {path : List ℕ} {l : Label} {ps : List Part} {vs : Values} {i : ℕ} {inner : List ℕ} (k : Place) (pos : ℕ)
      → p ≡ part_of k pos → Says (content_of node_names bytes p) l ps → made l vs ≡ Some v → InValue i vs inner w → through l vs i inner ≡ Some path → Aims k v path → Further p ps vs i inner
  further {v = v} {w = w} {path = path} {l = l} {ps = ps} {vs = vs} {i = i} {inner = inner} k pos is says m x t a =
      let s = spots k (led bytes k pos) (subst (λ y. Says (content_of node_names bytes y) l ps) is says) in
      let g = goes s.follow pos vs v x.value w i inner path m x.there x.inner t a in
      record {
        qs = s.qs;
        are = s.are;
        avoids = subst (λ y. AvoidsKey y ps inner) (sym is) (subst (λ y. AvoidsKey (part_of k pos) y inner) (sym s.are) g.avoids);
        aims = λ r u at u_is. subst (λ y. Aims r.place y inner) (value_is (sym x.there ∙ u_is)) (g.aims r at);
      }

  module _ {q : Part} {w : Value} where
    mutual
      -- a way to a leaf leads to no key
      pub avoids :
          {level : ℕ} {inside : List OpenShared} {p : Part} {v : Value} {before : List Visit} {path : List ℕ}
          → (s : Stands node_names bytes q w level inside before p v path)
          → (k : Place) (pos : ℕ) → p ≡ part_of k pos
          → Aims k v path
          → AvoidsKeys s
      avoids (stands_here a b c) k pos is aim = tt
      avoids (stands_plain e within m t) k pos is aim =
          let f = further k pos is (says_plain e) m (stands_in_value node_names bytes q w within) t aim in
          (f.avoids, avoids_in within f.qs f.are f.aims)
      avoids (stands_claimed e within m t) k pos is aim =
          let f = further k pos is (says_claimed e) m (stands_in_value node_names bytes q w within) t aim in
          (f.avoids, avoids_in within f.qs f.are f.aims)

      avoids_in :
          {level : ℕ} {inside : List OpenShared} {ps : List Part} {vs : Values} {before : List Visit} {i : ℕ} {path : List ℕ}
          → (s : StandsIn node_names bytes q w level inside before ps vs i path)
          → (qs : List Spot) → ps ≡ parts_at qs
          → AimsIn qs vs i path
          → AvoidKeys s
      avoids_in (stands_first s h hs e z) [] is aims = absurd (cc)
      avoids_in (stands_first {v = v} s h hs e z) (r ∷ qs) is aims =
          avoids s r.place r.pos (cc) (aims r v (subst (λ n. IsSpot n (r ∷ qs) r) (sym z) refl) (ap₂ (λ n x. value_in n x) z e))
      avoids_in (stands_later h s e z) [] is aims = absurd (cc)
      avoids_in (stands_later h s e z) (r ∷ qs) is aims =
          avoids_in s qs (cc) (λ x u at u_is. aims x u (subst (λ n. IsSpot n (r ∷ qs) x) (sym z) at) (ap₂ (λ n y. value_in n y) z e ∙ u_is))

-- ---- the parts in a canonical archive are clean

module _ (fit : Fit) (names : Names) (bytes : List ℕ) {q : Part} {w : Value} where
  mutual
    pub clean_at :
        {level deeper : ℕ} {inside around : List OpenShared} {p r : Part} {v u : Value} {regions : List Region} {before after since : List Visit} {path : List ℕ} (low : ℕ)
        → (h : Holds names bytes level inside p v regions before after)
        → IsCanonical fit h low
        → p ≡ r
        → Stands names bytes q w deeper around since r u path
        → IsClean names bytes q
    clean_at low (holds_plain e legal all m) c is (stands_here a b d) = subst (IsClean names bytes) (is ∙ a) c.0
    clean_at low (holds_claimed e legal all m x) c is (stands_here a b d) = subst (IsClean names bytes) (is ∙ a) c.0
    clean_at low (holds_first e x y h d g) c is (stands_here a b f) = subst (IsClean names bytes) (is ∙ a) c.0
    clean_at low (holds_later e x y d g h) c is (stands_here a b f) = subst (IsClean names bytes) (is ∙ a) c
    clean_at low (holds_back e x d g h) c is s = absurd c
    clean_at low (holds_plain {ps = ps} e legal all m) c is (stands_plain {ps = qs} f within n t) =
        let both = sym e ∙ ap (content_of names bytes) is ∙ f in
        let same : ps ≡ qs = cc in
        clean_in low all c.2 same within
    clean_at low (holds_plain e legal all m) c is (stands_claimed f within n t) = absurd (let both = sym e ∙ ap (content_of names bytes) is ∙ f in cc)
    clean_at low (holds_claimed e legal all m x) c is (stands_plain f within n t) = absurd (let both = sym e ∙ ap (content_of names bytes) is ∙ f in cc)
    clean_at low (holds_claimed {ps = ps} e legal all m x) c is (stands_claimed {ps = qs} f within n t) =
        let both = sym e ∙ ap (content_of names bytes) is ∙ f in
        let same : ps ≡ qs = cc in
        clean_in low all c.2 same within
    clean_at low (holds_first e x y h d g) c is (stands_plain f within n t) = absurd (let both = sym e ∙ ap (content_of names bytes) is ∙ f in cc)
    clean_at low (holds_first e x y h d g) c is (stands_claimed f within n t) = absurd (let both = sym e ∙ ap (content_of names bytes) is ∙ f in cc)
    clean_at low (holds_later e x y d g h) c is (stands_plain f within n t) = absurd (let both = sym e ∙ ap (content_of names bytes) is ∙ f in cc)
    clean_at low (holds_later e x y d g h) c is (stands_claimed f within n t) = absurd (let both = sym e ∙ ap (content_of names bytes) is ∙ f in cc)

    clean_in :
        {level deeper : ℕ} {inside around : List OpenShared} {ps qs : List Part} {vs us : Values} {regions : List Region} {before after since : List Visit} {i : ℕ} {path : List ℕ} (low : ℕ)
        → (hs : HoldAll names bytes level inside ps vs regions before after)
        → AreCanonical fit hs low
        → ps ≡ qs
        → StandsIn names bytes q w deeper around since qs us i path
        → IsClean names bytes q
    clean_in low (holds_none e f g) c is (stands_first s k ks d z) = absurd (cc)
    clean_in low (holds_none e f g) c is (stands_later k s d z) = absurd (cc)
    clean_in low (holds_more h hs e r) c is (stands_first s k ks d z) = clean_at low h c.0 (cc) s
    clean_in low (holds_more h hs e r) c is (stands_later k s d z) = clean_in (end_of h low) hs c.1 (cc) s
