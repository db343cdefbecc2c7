-- In the walk of a node as many containers lie in one another as its value is high, and the keys of its maps are those
-- of maps where those of the value are.
use Rattle.std.proofs.Common.{◌≡◌, ℕ, zero, suc, ◌+◌, ◌-◌, ◌*◌, nat_lt, max, Bool, true, false, cond, ◌==◌, List, [], ◌∷◌, ◌++◌, length, Some, None, refl, sym, ap, subst, ◌∙◌, arith, append-nil}
use Rattle.std.specs.Prelude.{⊤}
use Rattle.archive_shape_layout.specs.Value.{Value, Values, count_values}
use Rattle.archive_shape_layout.specs.Value.Value.{natural, integer, boolean, string, group, chosen, counted}
use Rattle.archive_shape_layout.specs.Value.Values.{no_values, more_values}
use Rattle.archive_shape_layout.specs.Shape.Shape.{text}
use Rattle.archive_shape_layout.specs.Shape.Pointee.{sized, str}
use Rattle.archive_shape_layout.specs.Shape.{Pointee}
use Rattle.archive_shape_layout.specs.Content.{Part, Label, Item, content_of, made, members, weave, first_values, other_values}
use Rattle.archive_shape_layout.specs.Bytes.{word_at}
use Rattle.archive_shape_layout.specs.Content.Label.{same, second, whole, tagged, woven, total}
use Rattle.archive_shape_layout.specs.Content.Content.{illegal, plain, counting}
use Rattle.cabinet_documents.specs.Node.{node_names, node_shape, pair_shape}
use Rattle.cabinet_documents.specs.Denotes.{tagged_value}
use Rattle.cabinet_documents.specs.Table.{item_keys, full_from, Findable, table_of, hashed_at, kept_at}
use Rattle.cabinet_documents.specs.Walk.{Stop, Walks, WalkAll, is_container, depth_in, parts_of, value_of, joined}
use Rattle.cabinet_documents.specs.Walk.Walks.{walks}
use Rattle.cabinet_documents.specs.Walk.WalkAll.{walk_none, walk_more}
use Rattle.cabinet_documents.specs.Audit.{IsMapSound}
use Rattle.cabinet_documents.proofs.Stops.{peak, peak_append, peak_joined, Each, each_append, each_front, each_joined, each_flat, flat}
use Rattle.cabinet_documents.proofs.Heights.{height, heights, heights_split, heights_weave, KeysSuit, Keyed, AllKeyed, AreGroups, suited_split, keyed_joined, keyed_weave, keyed_woven}
use Rattle.cabinet_documents.proofs.Places.{Place, node_here, shared_here, whole_here, node_behind, box_here, pair_here, tree_node, tree_child, buckets_here, numbers_here, entry_number, pairs_behind, text_behind, Spot, part_of, parts_at, entries_from, children_from, items_from, lifts, Passes, node_passes, box_passes, behind_passes, list_passes, text_passes, child_passes, table_passes, Pays, pays_truth, pays_number, pays_text, pays_shared, pays_option, pays_list, pays_ordered, pays_hashed, pays_kept, pays_whole, Follows, passes, pays, truth_is, number_is, text_is, behind_is, none_is, some_is, nodes_follow, empty_is, total_is, leaf_follows, inner_follows, no_child_is, entry_follows, no_items_is, items_follow, no_entries_is, entries_second, numbers_follow, entry_number_is, pairs_follow, pair_follows, Leads, leads_nowhere, leads_plain, leads_claimed, leads_counted, leads_whole, led}
use Rattle.cabinet_documents.proofs.ByKey.{AreKeysDistinct}
use Rattle.cabinet_documents.proofs.Containers.{lift, contains, is_plain, OwnKeyed, KeyedAt, IsFlat, GroupedAt, FoundApart, container_is, deeper, lift_is, plain_lift, plain_own, peak_stop, own_sound, own_keyed, behind_apart, AllOf, all_append, all_each, all_tagged, AllPlain, entries_plain, children_plain, IsNumber}
use Rattle.cabinet_documents.proofs.TableSound.{IsPlainSound, PlainSounds, MapSounds, BucketsRead, TableRead, reads_none, reads_buckets, table_read, index_read, led_table, keys_count, found_distinct, numbered_distinct}

pub record Peaked (bytes : List ℕ) (k : Place) (d : ℕ) (v : Value) (walk : List Stop) : Type 0 where
  pub peak_is : peak d walk ≡ d + (lift k + height v)
  pub sound : KeyedAt k v → Each (PlainSounds bytes) walk
  pub keyed : Each (MapSounds bytes) walk → KeyedAt k v
  pub grouped : GroupedAt bytes k v

data AllPeaked (bytes : List ℕ) (d : ℕ) : List Spot → Values → List (List Stop) → Type 0 where
  none_peaked : {vs : Values} {runs : List (List Stop)} → vs ≡ no_values → runs ≡ [] → AllPeaked bytes d [] vs runs
  more_peaked : {q : Spot} {qs : List Spot} {vs ws : Values} {v : Value} {here : List Stop} {runs later : List (List Stop)}
      → vs ≡ more_values v ws → runs ≡ here ∷ later → Peaked bytes q.place d v here → AllPeaked bytes d qs ws later → AllPeaked bytes d (q ∷ qs) vs runs

module _ (bytes : List ℕ) where
  -- ---- parts that are no containers themselves

  plain_peak : {d : ℕ} {qs : List Spot} {vs : Values} {runs : List (List Stop)} → AllPeaked bytes d qs vs runs → AllPlain qs → peak d (flat runs) ≡ d + heights vs
  plain_peak {d = d} (none_peaked f g) h = ap (λ x. peak d (flat x)) g ∙ omega arith ∙ ap (λ x. d + heights x) (sym f)
  plain_peak {d = d} (more_peaked {q = q} {ws = ws} {v = v} {here = here} {later = later} f g p ps) h =
      let z = plain_lift q.place h.0 in
      let r = p.peak_is in
      let rs = plain_peak ps h.1 in
      ap (λ x. peak d (flat x)) g ∙ peak_append d here (flat later) ∙ omega (arith, r, rs, z) ∙ ap (λ x. d + heights x) (sym f)

  plain_sound : {d : ℕ} {qs : List Spot} {vs : Values} {runs : List (List Stop)} → AllPeaked bytes d qs vs runs → AllPlain qs → AllKeyed vs → Each (PlainSounds bytes) (flat runs)
  plain_sound (none_peaked f g) h k = subst (λ x. Each (PlainSounds bytes) (flat x)) (sym g) tt
  plain_sound (more_peaked {q = q} {ws = ws} {v = v} {here = here} {later = later} f g p ps) h k =
      let both : Keyed v × AllKeyed ws = subst AllKeyed f k in
      subst (λ x. Each (PlainSounds bytes) (flat x)) (sym g) (each_append (PlainSounds bytes) here (flat later) (p.sound (plain_own q.place v h.0, both.0)) (plain_sound ps h.1 both.1))

  plain_keyed : {d : ℕ} {qs : List Spot} {vs : Values} {runs : List (List Stop)} → AllPeaked bytes d qs vs runs → Each (MapSounds bytes) (flat runs) → AllKeyed vs
  plain_keyed (none_peaked f g) h = subst AllKeyed (sym f) tt
  plain_keyed (more_peaked {ws = ws} {v = v} {here = here} {later = later} f g p ps) h =
      let both = each_front (MapSounds bytes) here (flat later) (subst (λ x. Each (MapSounds bytes) (flat x)) g h) in
      subst AllKeyed (sym f) ((p.keyed both.0).1, plain_keyed ps both.1)

  number_flat : (k : Place) (v : Value) → IsNumber k → GroupedAt bytes k v → IsFlat v
  number_flat (entry_number limit) v h g = g
  number_flat k v h g = absurd h

  all_flat : {d : ℕ} {qs : List Spot} {vs : Values} {runs : List (List Stop)} → AllPeaked bytes d qs vs runs → AllOf IsNumber qs → (heights vs ≡ 0) × AllKeyed vs
  all_flat (none_peaked f g) h = (ap heights f, subst AllKeyed (sym f) tt)
  all_flat (more_peaked {q = q} {v = v} f g p ps) h =
      let here = number_flat q.place v h.0 p.grouped in
      let low = here.0 in
      let rest = all_flat ps h.1 in
      let others = rest.0 in
      (ap heights f ∙ omega (arith, low, others), subst AllKeyed (sym f) (here.1, rest.1))

  -- ---- one part

  record One (j : Place) (d : ℕ) (vs : Values) (runs : List (List Stop)) : Type 0 where
    value : Value
    values_are : vs ≡ more_values value no_values
    peak_is : peak d (flat runs) ≡ d + (lift j + height value)
    sound : KeyedAt j value → Each (PlainSounds bytes) (flat runs)
    keyed : Each (MapSounds bytes) (flat runs) → KeyedAt j value
    grouped : GroupedAt bytes j value

  no_more : {d : ℕ} {qs : List Spot} {vs : Values} {runs : List (List Stop)} → qs ≡ [] → AllPeaked bytes d qs vs runs → (vs ≡ no_values) × (runs ≡ [])
  no_more e (none_peaked f g) = (f, g)
  no_more e (more_peaked f g p ps) = absurd (cc)

  one : (j : Place) (pos : ℕ) {d : ℕ} {qs : List Spot} {vs : Values} {runs : List (List Stop)} → qs ≡ record { place = j; pos = pos } ∷ [] → AllPeaked bytes d qs vs runs → One j d vs runs
  one j pos e (none_peaked f g) = absurd (cc)
  one j pos {d = d} e (more_peaked {q = q} {qs = qs} {v = v} {here = here} f g p ps) =
      let same_spot : q ≡ record { place = j; pos = pos } = cc in
      let none : qs ≡ [] = cc in
      let rest = no_more none ps in
      let there : Peaked bytes j d v here = subst (λ (x : Spot). Peaked bytes x.place d v here) same_spot p in
      let runs_are = ap flat g ∙ ap (λ x. here ++ flat x) rest.1 ∙ append-nil here in
      record {
        value = v;
        values_are = f ∙ ap (more_values v) rest.0;
        peak_is = ap (peak d) runs_are ∙ there.peak_is;
        sound = λ k. subst (Each (PlainSounds bytes)) (sym runs_are) (there.sound k);
        keyed = λ h. there.keyed (subst (Each (MapSounds bytes)) runs_are h);
        grouped = there.grouped;
      }

  -- ---- what follows a place

  pass_plain : {k j : Place} → Passes bytes k j → is_plain j ≡ true
  pass_plain node_passes = refl
  pass_plain box_passes = refl
  pass_plain behind_passes = refl
  pass_plain (list_passes small) = refl
  pass_plain text_passes = refl
  pass_plain child_passes = refl
  pass_plain (table_passes small) = refl

  pass_grouped : {k j : Place} (v : Value) → Passes bytes k j → GroupedAt bytes j v → GroupedAt bytes k v
  pass_grouped v node_passes g = tt
  pass_grouped v box_passes g = tt
  pass_grouped v behind_passes g = tt
  pass_grouped v (list_passes small) g = tt
  pass_grouped v text_passes g = tt
  pass_grouped v child_passes g = g
  pass_grouped v (table_passes small) g = tt

  pay_lift : {tag : ℕ} {j : Place} → Pays tag j → lifts tag ≡ lift j
  pay_lift pays_truth = refl
  pay_lift pays_number = refl
  pay_lift pays_text = refl
  pay_lift pays_shared = refl
  pay_lift pays_option = refl
  pay_lift pays_list = refl
  pay_lift pays_ordered = refl
  pay_lift pays_hashed = refl
  pay_lift pays_kept = refl
  pay_lift pays_whole = refl

  pay_own : {tag : ℕ} {j : Place} (v : Value) → Pays tag j → OwnKeyed j v ≡ KeysSuit tag (more_values v no_values)
  pay_own v pays_truth = refl
  pay_own v pays_number = refl
  pay_own v pays_text = refl
  pay_own v pays_shared = refl
  pay_own v pays_option = refl
  pay_own v pays_list = refl
  pay_own v pays_ordered = refl
  pay_own v pays_hashed = refl
  pay_own v pays_kept = refl
  pay_own v pays_whole = refl

  all_groups : (n level pos : ℕ) (rest : List Spot) {d : ℕ} {qs : List Spot} {vs : Values} {runs : List (List Stop)} → qs ≡ children_from n level pos ++ rest → AllPeaked bytes d qs vs runs → AreGroups (first_values n vs)
  all_groups zero level pos rest e ps = tt
  all_groups (suc n) level pos rest e (none_peaked f g) = absurd (cc)
  all_groups (suc n) level pos rest e (more_peaked {q = q} {qs = qs} {ws = ws} {v = v} f g p ps) =
      let first : q ≡ record { place = tree_child level; pos = pos } = cc in
      let others : qs ≡ children_from n level (pos + 4) ++ rest = cc in
      let here : v ≡ group (members v) = subst (λ (x : Spot). GroupedAt bytes x.place v) first p.grouped in
      subst AreGroups (sym (ap (first_values (suc n)) f)) (here, all_groups n level (pos + 4) rest others ps)

  -- how many are there
  entries_count : (n key value : ℕ) {d : ℕ} {qs : List Spot} {vs : Values} {runs : List (List Stop)} → qs ≡ entries_from n key value → AllPeaked bytes d qs vs runs → count_values vs ≡ n
  entries_count zero key value e (none_peaked f g) = ap count_values f
  entries_count zero key value e (more_peaked f g p ps) = absurd (cc)
  entries_count (suc n) key value e (none_peaked f g) = absurd (cc)
  entries_count (suc n) key value e (more_peaked f g p ps) = let r = entries_count n (key + 8) (value + 24) (cc) ps in ap count_values f ∙ omega (arith, r)

  -- one for each full place
  one_item : (b : Bool) (pos i : ℕ) (full : List ℕ) (later : List Spot) {d : ℕ} {qs : List Spot} {vs : Values} {runs : List (List Stop)} → qs ≡ cond b (record { place = pair_here; pos = pos } ∷ later) later → AllPeaked bytes d qs vs runs
      → ((rs : List Spot) (ws : Values) (others : List (List Stop)) → rs ≡ later → AllPeaked bytes d rs ws others → count_values ws ≡ length full) → count_values vs ≡ length (cond b (i ∷ full) full)
  one_item false pos i full later e ps on = on _ _ _ e ps
  one_item true pos i full later e (none_peaked f g) on = absurd (cc)
  one_item true pos i full later e (more_peaked f g p ps) on = let c = on _ _ _ (cc) ps in ap count_values f ∙ omega (arith, c)

  items_count : (target i : ℕ) (controls : List ℕ) {d : ℕ} {qs : List Spot} {vs : Values} {runs : List (List Stop)} → qs ≡ items_from target i controls → AllPeaked bytes d qs vs runs → count_values vs ≡ length (full_from i controls)
  items_count target i [] e (none_peaked f g) = ap count_values f
  items_count target i [] e (more_peaked f g p ps) = absurd (cc)
  items_count target i (c ∷ cs) e ps =
      one_item (nat_lt c 128) (target - (i + 1) * 32) i (full_from (i + 1) cs) (items_from target (i + 1) cs) e ps (λ rs ws others f qs. items_count target (i + 1) cs f qs)

  record Counted (n most : ℕ) (vs : Values) : Type 0 where
    children : count_values (first_values n vs) ≡ n
    entries : count_values (other_values n vs) ≡ most

  both_counted : (n level pos most key value : ℕ) {d : ℕ} {qs : List Spot} {vs : Values} {runs : List (List Stop)} → qs ≡ children_from n level pos ++ entries_from most key value → AllPeaked bytes d qs vs runs → Counted n most vs
  both_counted zero level pos most key value e ps = record { children = refl; entries = entries_count most key value e ps }
  both_counted (suc n) level pos most key value e (none_peaked f g) = absurd (cc)
  both_counted (suc n) level pos most key value e (more_peaked {ws = ws} {v = v} f g p ps) =
      let r = both_counted n level (pos + 4) most key value (cc) ps in
      let c = r.children in
      record { children = ap (λ x. count_values (first_values (suc n) x)) f ∙ omega (arith, c); entries = ap (λ x. count_values (other_values (suc n) x)) f ∙ r.entries }

  -- what a place's value is made of says of it
  record Made (k : Place) (d : ℕ) (v : Value) (runs : List (List Stop)) : Type 0 where
    peak_is : peak (d + lift k) (flat runs) ≡ d + (lift k + height v)
    sound : Keyed v → OwnKeyed k v → Each (PlainSounds bytes) (flat runs)
    keyed : Each (MapSounds bytes) (flat runs) → Keyed v
    grouped : GroupedAt bytes k v

  -- by the value of one part, of none, and of several
  made_same : (k j : Place) (d : ℕ) (v : Value) {vs : Values} {runs : List (List Stop)} → is_plain j ≡ true → (o : One j (d + lift k) vs runs) → v ≡ o.value → GroupedAt bytes k v → Made k d v runs
  made_same k j d v p o e g =
      let z = plain_lift j p in
      let h = ap height e in
      let r = o.peak_is in
      record {
        peak_is = o.peak_is ∙ omega (arith, h, z);
        sound = λ x own. o.sound (plain_own j o.value p, subst Keyed e x);
        keyed = λ x. subst Keyed (sym e) (o.keyed x).1;
        grouped = g;
      }

  made_alone : (k : Place) (d : ℕ) {l x : Label} {qs : List Spot} {vs : Values} {runs : List (List Stop)} (u v : Value) → l ≡ x → qs ≡ [] → AllPeaked bytes (d + lift k) qs vs runs → made l vs ≡ Some v
      → made x no_values ≡ Some u → IsFlat u → GroupedAt bytes k u → Made k d v runs
  made_alone k d {l = l} {x = x} {vs = vs} {runs = runs} u v e f ps m n h g =
      let none = no_more f ps in
      let two : Some u ≡ Some v = sym n ∙ subst (λ y. made x y ≡ Some v) none.0 (subst (λ y. made y vs ≡ Some v) e m) in
      let is : u ≡ v = cc in
      let low = h.0 in
      subst (λ y. Made k d y runs) is (record {
        peak_is = ap (λ y. peak (d + lift k) (flat y)) none.1 ∙ omega (arith, low);
        sound = λ y own. subst (λ y. Each (PlainSounds bytes) (flat y)) (sym none.1) tt;
        keyed = λ y. h.1;
        grouped = g;
      })

  made_group : (k : Place) (d : ℕ) (v : Value) {qs : List Spot} {vs : Values} {runs : List (List Stop)} → AllPeaked bytes (d + lift k) qs vs runs → AllPlain qs
      → height v ≡ heights vs → (Keyed v → AllKeyed vs) → (AllKeyed vs → Keyed v) → GroupedAt bytes k v → Made k d v runs
  made_group k d v ps low h to from g =
      let r = plain_peak ps low in
      record {
        peak_is = r ∙ omega (arith, h);
        sound = λ x own. plain_sound ps low (to x);
        keyed = λ x. from (plain_keyed ps x);
        grouped = g;
      }

  made_all : (k : Place) (d : ℕ) (v : Value) {l : Label} {qs rs : List Spot} {vs : Values} {runs : List (List Stop)} → l ≡ whole → qs ≡ rs → AllPlain rs → AllPeaked bytes (d + lift k) qs vs runs → made l vs ≡ Some v
      → GroupedAt bytes k (group vs) → Made k d v runs
  unfolding made
  made_all k d v {vs = vs} {runs = runs} e f low ps m g =
      let n : made whole vs ≡ Some v = subst (λ x. made x vs ≡ Some v) e m in
      let is : group vs ≡ v = cc in
      subst (λ x. Made k d x runs) is (made_group k d (group vs) ps (subst AllPlain (sym f) low) refl (λ x. x) (λ x. x) g)

  total_is_same : (v : Value) (len : ℕ) (b : Bool) (w : Value) → cond b (Some v) None ≡ Some w → w ≡ v
  total_is_same v len true w m = cc
  total_is_same v len false w m = absurd (cc)

  -- the second of two values, where the first is that of numbers
  record Behind (v : Value) (vs : Values) : Type 0 where
    first : Value
    values_are : vs ≡ more_values first (more_values v no_values)
    flat : IsFlat first

  behind_numbers : (target len cap start : ℕ) (v : Value) {d : ℕ} {l : Label} {qs : List Spot} {vs : Values} {runs : List (List Stop)}
      → l ≡ second → qs ≡ record { place = numbers_here target len cap; pos = target } ∷ (record { place = pairs_behind len; pos = start } ∷ []) → AllPeaked bytes d qs vs runs → made l vs ≡ Some v → Behind v vs
  unfolding made
  behind_numbers target len cap start v e f (none_peaked g h) m = absurd (cc)
  behind_numbers target len cap start v e f (more_peaked {q = q} {qs = qs} {vs = vs} {ws = ws} {v = u} g h p ps) m =
      let here : q ≡ record { place = numbers_here target len cap; pos = target } = cc in
      let o = one (pairs_behind len) start (cc) ps in
      let two = g ∙ ap (more_values u) o.values_are in
      let n : made second (more_values u (more_values o.value no_values)) ≡ Some v = subst (λ x. made second x ≡ Some v) two (subst (λ x. made x vs ≡ Some v) e m) in
      let is : o.value ≡ v = cc in
      record { first = u; values_are = two ∙ ap (λ x. more_values u (more_values x no_values)) is; flat = subst (λ (x : Spot). GroupedAt bytes x.place u) here p.grouped }

  follow : (k : Place) (d : ℕ) {l : Label} {qs : List Spot} {vs : Values} {runs : List (List Stop)} {v : Value}
      → Follows bytes k l qs → AllPeaked bytes (d + lift k) qs vs runs → made l vs ≡ Some v → Made k d v runs
  unfolding made
  follow k d {l = l} {vs = vs} {v = v} (passes {j = j} {pos = pos} p e f) ps m =
      let o = one j pos f ps in
      let n : made same (more_values o.value no_values) ≡ Some v = subst (λ x. made same x ≡ Some v) o.values_are (subst (λ x. made x vs ≡ Some v) e m) in
      let is : v ≡ o.value = cc in
      made_same k j d v (pass_plain p) o is (pass_grouped v p (subst (GroupedAt bytes j) (sym is) o.grouped))
  follow k d {l = l} {vs = vs} {runs = runs} {v = v} (pays {tag = tag} {j = j} {pos = pos} p e f) ps m =
      let o = one j pos f ps in
      let n : made (tagged tag) (more_values o.value no_values) ≡ Some v = subst (λ x. made (tagged tag) x ≡ Some v) o.values_are (subst (λ x. made x vs ≡ Some v) e m) in
      let is : v ≡ tagged_value tag o.value = cc in
      let h : height v ≡ height (tagged_value tag o.value) = ap height is in
      let z = pay_lift p in
      let own = pay_own o.value p in
      record {
        peak_is = o.peak_is ∙ omega (arith, h, z);
        sound = λ x y. let k : KeysSuit tag (more_values o.value no_values) × (Keyed o.value × ⊤) = subst Keyed is x in o.sound (subst (λ X. X) (sym own) k.0, k.1.0);
        keyed = λ x. let k = o.keyed x in subst Keyed (sym is) (subst (λ X. X) own k.0, (k.1, tt));
        grouped = tt;
      }
  follow k d {v = v} (truth_is {b = b} e f) ps m = made_alone k d (boolean b) v e f ps m refl (refl, tt) tt
  follow k d {v = v} (number_is {n = i} e fits f) ps m = made_alone k d (integer i) v e f ps m refl (refl, tt) tt
  follow k d {v = v} (text_is {s = s} e f) ps m = made_alone k d (string s) v e f ps m refl (refl, tt) tt
  follow k d {v = v} (behind_is {s = s} e f) ps m = made_alone k d (string s) v e f ps m refl (refl, tt) tt
  follow k d {v = v} (none_is e f) ps m = made_alone k d (chosen 0 no_values) v e f ps m refl (refl, (tt, tt)) tt
  follow k d {l = l} {vs = vs} {v = v} (some_is {pos = pos} e f) ps m =
      let o = one box_here pos f ps in
      let n : made (tagged 1) (more_values o.value no_values) ≡ Some v = subst (λ x. made (tagged 1) x ≡ Some v) o.values_are (subst (λ x. made x vs ≡ Some v) e m) in
      let is : v ≡ tagged_value 1 o.value = cc in
      let h : height v ≡ height (tagged_value 1 o.value) = ap height is in
      record {
        peak_is = o.peak_is ∙ omega (arith, h);
        sound = λ x y. let k : ⊤ × (Keyed o.value × ⊤) = subst Keyed is x in o.sound (tt, k.1.0);
        keyed = λ x. subst Keyed (sym is) (tt, ((o.keyed x).1, tt));
        grouped = tt;
      }
  follow k d {v = v} (nodes_follow {len = len} pos e f) ps m = made_all k d v e f (all_each (λ x. is_plain x ≡ true) node_here refl 24 pos len) ps m tt
  follow k d {v = v} (empty_is e f) ps m = made_alone k d (group no_values) v e f ps m refl (refl, tt) tt
  follow k d {l = l} {vs = vs} {v = v} (total_is {len = len} {root = root} small e f) ps m =
      let o = one (tree_node 1) root f ps in
      let n : made (total len) (more_values o.value no_values) ≡ Some v = subst (λ x. made (total len) x ≡ Some v) o.values_are (subst (λ x. made x vs ≡ Some v) e m) in
      made_same k (tree_node 1) d v refl o (total_is_same o.value len (count_values (members o.value) == len) v n) tt
  follow k d {v = v} (leaf_follows len key value low e f) ps m = made_all k d v e f (entries_plain len key value) ps m refl
  follow k d {l = l} {vs = vs} {v = v} (inner_follows most deep link key value low next e f) ps m =
      let c = suc most in
      let n : made (woven c) vs ≡ Some v = subst (λ x. made x vs ≡ Some v) e m in
      let is : v ≡ group (weave (first_values c vs) (other_values c vs)) = cc in
      let groups = all_groups c deep link (entries_from most key value) f ps in
      let counted = both_counted c deep link most key value f ps in
      let one_more = counted.children ∙ ap suc (sym counted.entries) in
      made_group k d v ps (subst AllPlain (sym f) (all_append (λ k. is_plain k ≡ true) (children_from c deep link) (entries_from most key value) (children_plain c deep link) (entries_plain most key value)))
      (ap height is ∙ heights_weave (first_values c vs) (other_values c vs) groups one_more ∙ sym (heights_split c vs))
      (λ x. let k = keyed_woven (first_values c vs) (other_values c vs) groups one_more (subst Keyed is x) in keyed_joined c vs k.0 k.1)
      (λ x. let k = suited_split KeysSuit c vs x in subst Keyed (sym is) (keyed_weave (first_values c vs) (other_values c vs) groups one_more k.0 k.1))
      (is ∙ sym (ap (λ x. group (members x)) is))
  follow k d {v = v} (no_child_is e f) ps m = made_alone k d (group no_values) v e f ps m refl (refl, tt) refl
  follow k d {v = v} (entry_follows e f) ps m = made_all k d v e f (refl, (refl, tt)) ps m tt
  follow k d {v = v} (no_items_is e f) ps m = made_alone k d (group no_values) v e f ps m refl (refl, tt) tt
  follow k d {v = v} (items_follow {target = target} {cap = cap} controls are count e f) ps m =
      made_all k d v e f (all_tagged (λ x. is_plain x ≡ true) pair_here refl 32 target 0 controls) ps m (items_count target 0 controls f ps ∙ ap (λ cs. length (full_from 0 cs)) are)
  follow k d {v = v} (no_entries_is e f) ps m = made_alone k d (group no_values) v e f ps m refl (refl, tt) tt
  follow k d {vs = vs} {v = v} (entries_second {target = target} {len = len} {cap = cap} {start = start} small e f) ps m =
      let b = behind_numbers target len cap start v e f ps m in
      let low = b.flat.0 in
      let high = ap heights b.values_are in
      made_group k d v ps (subst AllPlain (sym f) (refl, (refl, tt))) (omega (arith, low, high)) (λ x. subst AllKeyed (sym b.values_are) (b.flat.1, (x, tt))) (λ x. (subst AllKeyed b.values_are x).1.0) tt
  follow k d {v = v} (numbers_follow {target = target} {len = len} controls are count e f) ps m =
      made_all k d v e f (all_tagged (λ x. is_plain x ≡ true) (entry_number len) refl 4 target 0 controls) ps m (all_flat ps (subst (AllOf IsNumber) (sym f) (all_tagged IsNumber (entry_number len) tt 4 target 0 controls)))
  follow k d {v = v} (entry_number_is {n = n} low e f) ps m = made_alone k d (natural n) v e f ps m refl (refl, tt) (refl, tt)
  follow k d {v = v} (pairs_follow {len = len} pos e f) ps m = made_all k d v e f (all_each (λ x. is_plain x ≡ true) pair_here refl 32 pos len) ps m tt
  follow k d {v = v} (pair_follows key value e f) ps m = made_all k d v e f (refl, (refl, tt)) ps m tt

  -- the keys of a table that are found are distinct, since each full place has an item
  buckets_apart : (pos target len cap : ℕ) {d : ℕ} {v : Value} {run : List Stop} → Peaked bytes (buckets_here target len cap) d v run
      → TableRead bytes pos same (part_of (buckets_here target len cap) target ∷ []) pair_shape → Findable (table_of hashed_at bytes pos v) → AreKeysDistinct (item_keys (members v))
  buckets_apart pos target len cap p (reads_none e f z) h = absurd (cc)
  buckets_apart pos target len cap {v = v} p (reads_buckets {target = goal} e f some leads) h =
      let at_target : target ≡ goal = cc in
      let places : cap ≡ word_at bytes (pos + 8) = cc in
      let led_there = led_table bytes hashed_at pos v some (leads ∙ ap Some (sym at_target)) ∙ ap (λ n. hashed_at bytes n (item_keys (members v)) target) (sym places) in
      found_distinct bytes cap target (item_keys (members v)) (keys_count (members v) ∙ p.grouped) (subst Findable led_there h)

  buckets_one : (pos goal target len cap : ℕ) {d : ℕ} {qs : List Spot} {vs : Values} {runs : List (List Stop)} {v : Value}
      → qs ≡ record { place = buckets_here target len cap; pos = goal } ∷ [] → AllPeaked bytes d qs vs runs → made same vs ≡ Some v
      → TableRead bytes pos same (part_of (buckets_here target len cap) target ∷ []) pair_shape → Findable (table_of hashed_at bytes pos v) → AreKeysDistinct (item_keys (members v))
  unfolding made
  buckets_one pos goal target len cap e (none_peaked f g) m r h = absurd (cc)
  buckets_one pos goal target len cap {d = d} {v = v} e (more_peaked {q = q} {qs = qs} {v = u} {here = here} f g p ps) m r h =
      let same_spot : q ≡ record { place = buckets_here target len cap; pos = goal } = cc in
      let none : qs ≡ [] = cc in
      let rest = no_more none ps in
      let n : made same (more_values u no_values) ≡ Some v = subst (λ x. made same x ≡ Some v) (f ∙ ap (more_values u) rest.0) m in
      let is : u ≡ v = cc in
      let there : Peaked bytes (buckets_here target len cap) d u here = subst (λ (x : Spot). Peaked bytes x.place d u here) same_spot p in
      buckets_apart pos target len cap (subst (λ x. Peaked bytes (buckets_here target len cap) d x here) is there) r h

  no_keys : {d : ℕ} {l : Label} {qs : List Spot} {vs : Values} {runs : List (List Stop)} {v : Value} → l ≡ whole → qs ≡ [] → AllPeaked bytes d qs vs runs → made l vs ≡ Some v → AreKeysDistinct (item_keys (members v))
  unfolding made
  no_keys {vs = vs} {v = v} e f ps m =
      let n : made whole no_values ≡ Some v = subst (λ x. made whole x ≡ Some v) (no_more f ps).0 (subst (λ x. made x vs ≡ Some v) e m) in
      let alone : group no_values ≡ v = cc in
      subst (λ x. AreKeysDistinct (item_keys (members x))) alone tt

  -- so are those of a kept map, since each entry has its number
  index_apart : (pos : ℕ) (v : Value) {it : Item} {rest : List Part} {l : Label} {ps : List Part} → l ≡ second → BucketsRead bytes pos second it rest l ps → Findable (table_of kept_at bytes pos v) → AreKeysDistinct (item_keys (members v))
  index_apart pos v e (reads_none f g z) h = absurd (cc)
  index_apart pos v e (reads_buckets f g some leads) h = numbered_distinct (item_keys (members v)) 0 (subst Findable (led_table bytes kept_at pos v some leads) h).distinct

  apart : (k : Place) (pos : ℕ) {d : ℕ} {l : Label} {qs : List Spot} {vs : Values} {runs : List (List Stop)} {v : Value}
      → content_of node_names bytes (part_of k pos) ≡ plain l (parts_at qs) → Follows bytes k l qs → AllPeaked bytes d qs vs runs → made l vs ≡ Some v → FoundApart bytes k pos v
  apart k pos {qs = qs} {vs = vs} {v = v} c (passes {pos = goal} (table_passes {target = target} {len = len} {cap = places} small) e f) ps m =
      let read = table_read bytes node_names pos pair_shape (c ∙ ap (λ x. plain x (parts_at qs)) e ∙ ap (λ x. plain same (parts_at x)) f) in
      buckets_one pos goal target len places f ps (subst (λ x. made x vs ≡ Some v) e m) read
  apart k pos c (no_items_is e f) ps m = λ h. no_keys e f ps m
  apart k pos c (no_entries_is e f) ps m = λ h. no_keys e f ps m
  apart k pos {v = v} c (entries_second small e f) ps m = index_apart pos v e (index_read bytes node_names pos text node_shape c).read
  apart k pos c fs ps m = tt

  -- ---- walks

  peaked_by : (k : Place) (pos d : ℕ) {p : Part} {v : Value} {vs : Values} {walk : List Stop} {inner : List (List Stop)} {qs : List Spot}
      → p ≡ part_of k pos
      → walk ≡ record { depth = d; part = p; value = v } ∷ joined (content_of node_names bytes p) inner
      → FoundApart bytes k pos v
      → AllPeaked bytes (depth_in d p) qs vs inner
      → (AllPeaked bytes (d + lift k) qs vs inner → Made k d v inner)
      → Peaked bytes k d v walk
  peaked_by k pos d {p = p} {v = v} {vs = vs} {inner = inner} {qs = qs} is e free ps on =
      let c = content_of node_names bytes p in
      let container : is_container p ≡ contains k = ap is_container is ∙ container_is k pos in
      let depth_is : depth_in d p ≡ d + lift k = ap (λ b. cond b (d + 1) d) container ∙ deeper (contains k) d (lift k) (lift_is k) in
      let m : Made k d v inner = on (subst (λ n. AllPeaked bytes n qs vs inner) depth_is ps) in
      record {
        peak_is = ap (peak d) e ∙ ap (λ x. max (cond (is_container p) (d + 1) d) x) (peak_joined d c inner) ∙ ap (λ b. max (cond b (d + 1) d) (peak d (flat inner))) container
            ∙ peak_stop (contains k) d (lift k) (flat inner) (lift_is k) ∙ m.peak_is;
        sound = λ x. subst (Each (PlainSounds bytes)) (sym e) (subst (λ y. IsPlainSound bytes y v) (sym is) (own_sound k pos bytes v x.0), each_joined (PlainSounds bytes) c inner (m.sound x.1 x.0));
        keyed = λ x. let h = subst (Each (MapSounds bytes)) e x in (own_keyed k pos bytes v free (subst (λ y. IsMapSound bytes y v) is h.0), m.keyed (each_flat (MapSounds bytes) c inner h.1));
        grouped = m.grouped;
      }

  -- a counted pointer, at a place of which the keys say nothing
  counted_made : (k j : Place) (t : ℕ) (q : Pointee) (len d : ℕ) {vs : Values} {v : Value} {runs : List (List Stop)}
      → is_plain j ≡ true → ((x : Value) → GroupedAt bytes k x)
      → AllPeaked bytes (d + lift k) (record { place = j; pos = t } ∷ []) vs runs → value_of (counting false t q len) vs ≡ Some v → Made k d v runs
  counted_made k j t q len d {vs = vs} {v = v} free group_is ps m =
      let o = one j t refl ps in
      let n : value_of (counting false t q len) (more_values o.value no_values) ≡ Some v = subst (λ x. value_of (counting false t q len) x ≡ Some v) o.values_are m in
      let is : v ≡ counted t o.value = cc in
      let h : height v ≡ height o.value = ap height is in
      let low = plain_lift j free in
      record {
        peak_is = o.peak_is ∙ omega (arith, h, low);
        sound = λ x own. o.sound (plain_own j o.value free, subst Keyed is x);
        keyed = λ x. subst Keyed (sym is) (o.keyed x).1;
        grouped = group_is v;
      }

  peaked_case : (k : Place) (pos d : ℕ) {p : Part} {v : Value} {vs : Values} {walk : List Stop} {inner : List (List Stop)}
      → p ≡ part_of k pos
      → walk ≡ record { depth = d; part = p; value = v } ∷ joined (content_of node_names bytes p) inner
      → value_of (content_of node_names bytes p) vs ≡ Some v
      → ((qs : List Spot) → parts_of (content_of node_names bytes p) ≡ parts_at qs → AllPeaked bytes (depth_in d p) qs vs inner)
      → Leads bytes k (content_of node_names bytes (part_of k pos))
      → Peaked bytes k d v walk
  peaked_case k pos d {v = v} {vs = vs} is e m on (leads_nowhere f) =
      let n : value_of illegal vs ≡ Some v = subst (λ x. value_of x vs ≡ Some v) (ap (content_of node_names bytes) is ∙ f) m in
      absurd (cc)
  peaked_case k pos d {v = v} {vs = vs} {inner = inner} is e m on (leads_plain f fs) =
      let c = ap (content_of node_names bytes) is ∙ f in
      let made_of = subst (λ x. value_of x vs ≡ Some v) c m in
      let parts = on _ (ap parts_of c) in
      peaked_by k pos d is e (apart k pos f fs parts made_of) parts (λ below. follow k d fs below made_of)
  peaked_case k pos d {p = p} {v = v} {vs = vs} {inner = inner} is e m on (leads_claimed f fs b) =
      let c = ap (content_of node_names bytes) is ∙ f in
      peaked_by k pos d is e (behind_apart bytes k pos v b) (on _ (ap parts_of c))
      (λ below. follow k d fs below (subst (λ x. value_of x vs ≡ Some v) c m))
  peaked_case shared_here pos d {v = v} {vs = vs} {inner = inner} is e m on (leads_counted {t = t} {len = len} f) =
      let c = ap (content_of node_names bytes) is ∙ f in
      peaked_by shared_here pos d is e tt (on (record { place = text_behind len; pos = t } ∷ []) (ap parts_of c)) (λ below. counted_made shared_here (text_behind len) t str len d refl (λ x. tt) below (subst (λ x. value_of x vs ≡ Some v) c m))
  peaked_case whole_here pos d {v = v} {vs = vs} {inner = inner} is e m on (leads_whole {t = t} f) =
      let c = ap (content_of node_names bytes) is ∙ f in
      peaked_by whole_here pos d is e tt (on (record { place = node_behind; pos = t } ∷ []) (ap parts_of c)) (λ below. counted_made whole_here node_behind t (sized node_shape) 1 d refl (λ x. tt) below (subst (λ x. value_of x vs ≡ Some v) c m))

  mutual
    -- the walk of a place goes as deep as its value is high, and its maps are sound where the value's are
    pub peaked : {d : ℕ} {p : Part} {v : Value} {walk : List Stop} → Walks node_names bytes d p v walk → (k : Place) (pos : ℕ) → p ≡ part_of k pos → Peaked bytes k d v walk
    peaked (walks {depth = d} all m e) k pos is =
        peaked_case k pos d is e m (λ qs f. all_peaked all qs f) (led bytes k pos)

    all_peaked : {d : ℕ} {ps : List Part} {vs : Values} {runs : List (List Stop)} → WalkAll node_names bytes d ps vs runs → (qs : List Spot) → ps ≡ parts_at qs → AllPeaked bytes d qs vs runs
    all_peaked (walk_none e f) [] is = none_peaked e f
    all_peaked (walk_none e f) (q ∷ qs) is = absurd (cc)
    all_peaked (walk_more w ws e f) [] is = absurd (cc)
    all_peaked (walk_more w ws e f) (q ∷ qs) is = more_peaked e f (peaked w q.place q.pos (cc)) (all_peaked ws qs (cc))
