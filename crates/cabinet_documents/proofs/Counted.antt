-- Each position that is counted in a value was visited with what lies there, and lies no later than the regions begin.
use Rattle.std.proofs.Common.{◌≡◌, ℕ, zero, suc, ◌≤◌, ◌==◌, cond, Bool, true, false, List, [], ◌∷◌, ◌++◌, Option, Some, None, refl, sym, ap, ap₂, subst, ◌∙◌, ◌⊎◌, inl, inr, ⊎_elim}
use Rattle.std.specs.Prelude.{⊤}
use Rattle.std.proofs.lemmas.Bool.Decides.{eqb_tells}
use Rattle.archive_shape_layout.specs.Shape.{Pointee}
use Rattle.archive_shape_layout.specs.Shape.Pointee.{sized, slice, str}
use Rattle.archive_shape_layout.specs.Value.{Value, Values, count_values, append_values}
use Rattle.archive_shape_layout.specs.Value.Value.{natural, integer, boolean, string, group, chosen, counted}
use Rattle.archive_shape_layout.specs.Value.Values.{no_values, more_values}
use Rattle.archive_shape_layout.specs.Content.{Content, Part, Label, Span, content_of, pointee_content, made, members, weave, first_values, other_values}
use Rattle.archive_shape_layout.specs.Content.Part.{behind}
use Rattle.archive_shape_layout.specs.Content.Label.{leaf, written, same, second, whole, tagged, woven, total}
use Rattle.archive_shape_layout.specs.Content.Content.{plain, claimed, counting}
use Rattle.archive_shape_layout.specs.Holds.{Region, region_of, Visit, OpenShared, open_at, visited, Holds, HoldAll}
use Rattle.archive_shape_layout.specs.Holds.Holds.{holds_plain, holds_claimed, holds_first, holds_later, holds_back}
use Rattle.archive_shape_layout.specs.Holds.HoldAll.{holds_none, holds_more}
use Rattle.cabinet_documents.specs.Node.{node_shape, node_names}
use Rattle.cabinet_documents.proofs.Places.{Place, text_behind, node_behind, Spot, part_of, parts_at, Leads, leads_nowhere, leads_plain, leads_claimed, leads_counted, leads_whole, led, Follows, passes, pays, truth_is, number_is, text_is, behind_is, none_is, some_is, nodes_follow, empty_is, total_is, leaf_follows, inner_follows, no_child_is, entry_follows, no_items_is, items_follow, no_entries_is, entries_second, numbers_follow, entry_number_is, pairs_follow, pair_follows}
use Rattle.cabinet_documents.proofs.HeldNodes.{Counts, counts_text, counts_node, counts, is_acyclic}

-- ---- values that are counted in others

abbrev mutual
  -- a value is counted at a position inside another
  pub Counted : ℕ → Value → Value → Type 0
  Counted p w (group vs) = CountedIn p w vs
  Counted p w (chosen t vs) = CountedIn p w vs
  Counted p w (counted q v) = ((q ≡ p) × (v ≡ w)) ⊎ Counted p w v
  Counted p w _ = ⊥

  pub CountedIn : ℕ → Value → Values → Type 0
  CountedIn p w no_values = ⊥
  CountedIn p w (more_values v vs) = Counted p w v ⊎ CountedIn p w vs

-- a label of no part gives no value that counts
abbrev IsUncounted : Label → Type 0
IsUncounted (leaf v) = (p : ℕ) (w : Value) → Counted p w v → ⊥
IsUncounted _ = ⊤

module _ (p : ℕ) (w : Value) where
  in_members : (v : Value) → CountedIn p w (members v) → Counted p w v
  in_members (group vs) c = c
  in_members (natural n) c = absurd c
  in_members (integer n) c = absurd c
  in_members (boolean b) c = absurd c
  in_members (string s) c = absurd c
  in_members (chosen t vs) c = absurd c
  in_members (counted t v) c = absurd c
  in_members v c = absurd c

  in_appended : (vs us : Values) → CountedIn p w (append_values vs us) → CountedIn p w vs ⊎ CountedIn p w us
  in_appended no_values us c = inr c
  in_appended (more_values v vs) us (inl c) = inl (inl c)
  in_appended (more_values v vs) us (inr c) = ⊎_elim (λ h. inl (inr h)) (λ h. inr h) (in_appended vs us c)

  in_woven : (cs es : Values) → CountedIn p w (weave cs es) → CountedIn p w cs ⊎ CountedIn p w es
  in_woven no_values es c = inr c
  in_woven (more_values x cs) no_values c = inl (inl (in_members x c))
  in_woven (more_values x cs) (more_values e es) c =
      ⊎_elim (λ h. inl (inl (in_members x h)))
      (⊎_elim (λ h. inr (inl h)) (λ h. ⊎_elim (λ i. inl (inr i)) (λ i. inr (inr i)) (in_woven cs es h)))
      (in_appended (members x) (more_values e (weave cs es)) c)

  in_first : (n : ℕ) (vs : Values) → CountedIn p w (first_values n vs) → CountedIn p w vs
  in_first zero vs c = absurd c
  in_first (suc n) no_values c = absurd c
  in_first (suc n) (more_values v vs) (inl c) = inl c
  in_first (suc n) (more_values v vs) (inr c) = inr (in_first n vs c)

  in_others : (n : ℕ) (vs : Values) → CountedIn p w (other_values n vs) → CountedIn p w vs
  in_others zero vs c = c
  in_others (suc n) no_values c = absurd c
  in_others (suc n) (more_values v vs) c = inr (in_others n vs c)

  in_total : (v u : Value) (b : Bool) → cond b (Some v) None ≡ Some u → Counted p w u → Counted p w v
  in_total v u true e c = let is : v ≡ u = cc in subst (Counted p w) (sym is) c
  in_total v u false e c = absurd (cc)

  -- what is counted in a value that is made is counted in those that it is made of
  in_made : (l : Label) (vs : Values) (v : Value) → IsUncounted l → made l vs ≡ Some v → Counted p w v → CountedIn p w vs
  unfolding made
  in_made (leaf x) no_values v none e c = let is : x ≡ v = cc in absurd (none p w (subst (Counted p w) (sym is) c))
  in_made (leaf x) (more_values u us) v none e c = absurd (cc)
  in_made (written s) no_values v none e c = let is : string s ≡ v = cc in absurd (subst (Counted p w) (sym is) c)
  in_made (written s) (more_values u us) v none e c = absurd (cc)
  in_made same no_values v none e c = absurd (cc)
  in_made same (more_values u no_values) v none e c = let is : u ≡ v = cc in inl (subst (Counted p w) (sym is) c)
  in_made same (more_values u (more_values x us)) v none e c = absurd (cc)
  in_made second no_values v none e c = absurd (cc)
  in_made second (more_values u no_values) v none e c = absurd (cc)
  in_made second (more_values u (more_values x no_values)) v none e c = let is : x ≡ v = cc in inr (inl (subst (Counted p w) (sym is) c))
  in_made second (more_values u (more_values x (more_values y us))) v none e c = absurd (cc)
  in_made whole vs v none e c = let is : group vs ≡ v = cc in subst (Counted p w) (sym is) c
  in_made (tagged t) vs v none e c = let is : chosen t vs ≡ v = cc in subst (Counted p w) (sym is) c
  in_made (woven n) vs v none e c =
      let is : group (weave (first_values n vs) (other_values n vs)) ≡ v = cc in
      ⊎_elim (in_first n vs) (in_others n vs) (in_woven (first_values n vs) (other_values n vs) (subst (Counted p w) (sym is) c))
  in_made (total n) no_values v none e c = absurd (cc)
  in_made (total n) (more_values u no_values) v none e c = inl (in_total u v (count_values (members u) == n) e c)
  in_made (total n) (more_values u (more_values x us)) v none e c = absurd (cc)

-- ---- the places of nodes

module _ (bytes : List ℕ) where
  uncounted : {k : Place} {l : Label} {qs : List Spot} → Follows bytes k l qs → IsUncounted l
  uncounted (passes p e f) = subst IsUncounted (sym e) tt
  uncounted (pays p e f) = subst IsUncounted (sym e) tt
  uncounted (truth_is e f) = subst IsUncounted (sym e) (λ p w c. c)
  uncounted (number_is e fits f) = subst IsUncounted (sym e) (λ p w c. c)
  uncounted (text_is e f) = subst IsUncounted (sym e) tt
  uncounted (behind_is e f) = subst IsUncounted (sym e) tt
  uncounted (none_is e f) = subst IsUncounted (sym e) tt
  uncounted (some_is e f) = subst IsUncounted (sym e) tt
  uncounted (nodes_follow pos e f) = subst IsUncounted (sym e) tt
  uncounted (empty_is e f) = subst IsUncounted (sym e) tt
  uncounted (total_is small e f) = subst IsUncounted (sym e) tt
  uncounted (leaf_follows n key value low e f) = subst IsUncounted (sym e) tt
  uncounted (inner_follows most deeper link key value low d e f) = subst IsUncounted (sym e) tt
  uncounted (no_child_is e f) = subst IsUncounted (sym e) tt
  uncounted (entry_follows e f) = subst IsUncounted (sym e) tt
  uncounted (no_items_is e f) = subst IsUncounted (sym e) tt
  uncounted (items_follow controls c n e f) = subst IsUncounted (sym e) tt
  uncounted (no_entries_is e f) = subst IsUncounted (sym e) tt
  uncounted (entries_second small e f) = subst IsUncounted (sym e) tt
  uncounted (numbers_follow controls c n e f) = subst IsUncounted (sym e) tt
  uncounted (entry_number_is below e f) = subst IsUncounted (sym e) (λ p w c. c)
  uncounted (pairs_follow pos e f) = subst IsUncounted (sym e) tt
  uncounted (pair_follows key value e f) = subst IsUncounted (sym e) tt

  record Led (l : Label) (ps : List Part) : Type 0 where
    spots : List Spot
    are : ps ≡ parts_at spots
    simple : IsUncounted l

  plain_led : {k : Place} {c : Content} {l : Label} {ps : List Part} → Leads bytes k c → c ≡ plain l ps → Led l ps
  plain_led (leads_nowhere f) e = absurd (cc)
  plain_led {l = l} {ps = ps} (leads_plain {l = l'} {qs = qs} f fs) e =
      let label : l' ≡ l = cc in
      record { spots = qs; are = cc; simple = subst IsUncounted label (uncounted fs) }
  plain_led (leads_claimed f fs b) e = absurd (cc)
  plain_led (leads_counted f) e = absurd (cc)
  plain_led (leads_whole f) e = absurd (cc)

  claimed_led : {k : Place} {c : Content} {s : Span} {l : Label} {ps : List Part} → Leads bytes k c → c ≡ claimed s l ps → Led l ps
  claimed_led (leads_nowhere f) e = absurd (cc)
  claimed_led (leads_plain f fs) e = absurd (cc)
  claimed_led {l = l} {ps = ps} (leads_claimed {l = l'} {qs = qs} f fs b) e =
      let label : l' ≡ l = cc in
      record { spots = qs; are = cc; simple = subst IsUncounted label (uncounted fs) }
  claimed_led (leads_counted f) e = absurd (cc)
  claimed_led (leads_whole f) e = absurd (cc)

-- ---- visits

abbrev pub Visits : List Visit → ℕ → Value → Type 0
Visits visits p w = (x : Visit) × (visited visits p ≡ Some x) × (x.value ≡ w)

abbrev Grows : List Visit → List Visit → Type 0
Grows before after = (p : ℕ) (x : Visit) → visited before p ≡ Some x → visited after p ≡ Some x

-- all that is counted in a value was visited
abbrev pub AllVisited : List Visit → Value → Type 0
AllVisited visits v = (p : ℕ) (w : Value) → Counted p w v → Visits visits p w

abbrev AllVisitedIn : List Visit → Values → Type 0
AllVisitedIn visits vs = (p : ℕ) (w : Value) → CountedIn p w vs → Visits visits p w

visits_grow : (before after : List Visit) (p : ℕ) (w : Value) → Grows before after → Visits before p w → Visits after p w
visits_grow before after p w g v = (v.0, g p v.0 v.1, v.2)

-- a position that is open is not visited
first_stays : (u : ℕ) (q : Pointee) (len : ℕ) (w : Value) (inside : List OpenShared) (before between after : List Visit) (t : ℕ) (o : OpenShared)
    → open_at inside u ≡ None → after ≡ record { pos = u; pointee = q; len = len; value = w } ∷ between → open_at inside t ≡ Some o
    → (cond (u == t) (Some (record { pos = u; pointee = q; len = len })) (open_at inside t) ≡ Some o → visited between t ≡ visited before t)
    → visited after t ≡ visited before t
first_stays u q len w inside before between after t o none g is inner =
    elim (eqb_tells u t) [
      | inl here ↦
          let free : open_at inside t ≡ None = subst (λ n. open_at inside n ≡ None) here.1 none in
          let both : ◌≡◌ {A = Option OpenShared} None (Some o) = sym free ∙ is in
          absurd (cc)
      | inr apart ↦
          ap (λ x. visited x t) g
          ∙ ap (λ x. cond x (Some (record { pos = u; pointee = q; len = len; value = w })) (visited between t)) apart.0
          ∙ inner (ap (λ x. cond x (Some (record { pos = u; pointee = q; len = len })) (open_at inside t)) apart.0 ∙ is)
    ]

module _ (bytes : List ℕ) where
  mutual
    open_stays : {level : ℕ} {inside : List OpenShared} {p : Part} {v : Value} {regions : List Region} {before after : List Visit}
        → Holds node_names bytes level inside p v regions before after → (t : ℕ) (o : OpenShared) → open_at inside t ≡ Some o → visited after t ≡ visited before t
    open_stays (holds_plain e legal all m) t o is = all_open_stays all t o is
    open_stays (holds_claimed e legal all m r) t o is = all_open_stays all t o is
    open_stays {inside = inside} {before = before} {after = after} (holds_first {w = w} {between = between} {t = u} {q = q} {len = len} e a b h d g) t o is =
        first_stays u q len w inside before between after t o a g is (λ i. open_stays h t o i)
    open_stays (holds_later e a b d g h) t o is = ap (λ x. visited x t) h
    open_stays (holds_back e a d g h) t o is = ap (λ x. visited x t) h

    all_open_stays : {level : ℕ} {inside : List OpenShared} {ps : List Part} {vs : Values} {regions : List Region} {before after : List Visit}
        → HoldAll node_names bytes level inside ps vs regions before after → (t : ℕ) (o : OpenShared) → open_at inside t ≡ Some o → visited after t ≡ visited before t
    all_open_stays (holds_none e f g) t o is = ap (λ x. visited x t) g
    all_open_stays (holds_more h hs e r) t o is = all_open_stays hs t o is ∙ open_stays h t o is

module _ (high : ℕ) where
  abbrev pub Begin : List Region → Type 0
  Begin [] = ⊤
  Begin (r ∷ rs) = (r.start ≤ high) × Begin rs

  begin_split : (rs qs : List Region) → Begin (rs ++ qs) → Begin rs × Begin qs
  begin_split [] qs b = (tt, b)
  begin_split (r ∷ rs) qs b = let x = begin_split rs qs b.1 in ((b.0, x.0), x.1)

  -- what was visited lies no later, and what is counted in it was visited
  pub record Seen (visits : List Visit) : Type 0 where
    pub below : (p : ℕ) (x : Visit) → visited visits p ≡ Some x → p ≤ high
    pub inner : (p : ℕ) (x : Visit) → visited visits p ≡ Some x → AllVisited visits x.value

module _ (bytes : List ℕ) (high : ℕ) where
  pub record Found (v : Value) (before after : List Visit) : Type 0 where
    pub found : AllVisited after v
    pub grows : Grows before after
    pub seen : Seen high after

  record AllFound (vs : Values) (before after : List Visit) : Type 0 where
    found : AllVisitedIn after vs
    grows : Grows before after
    seen : Seen high after

  not_counted : (t len : ℕ) (q : Pointee) {cyclic : Bool} {u n : ℕ} {r : Pointee} → content_of node_names bytes (behind t q len) ≡ counting cyclic u r n → ⊥
  unfolding pointee_content
  not_counted t len (sized s) e = cc
  not_counted t len (slice s) e = cc
  not_counted t len str e = cc

  not_plain : (t len : ℕ) (q : Pointee) {l : Label} {ps : List Part} → content_of node_names bytes (behind t q len) ≡ plain l ps → ⊥
  unfolding pointee_content
  not_plain t len (sized s) e = cc
  not_plain t len (slice s) e = cc
  not_plain t len str e = cc

  starts : (t len : ℕ) (q : Pointee) {s : Span} {l : Label} {ps : List Part} → content_of node_names bytes (behind t q len) ≡ claimed s l ps → s.start ≡ t
  unfolding pointee_content
  starts t len (sized x) e = cc
  starts t len (slice x) e = cc
  starts t len str e = cc

  -- what a pointer leads to claims a region there
  begins_at : {level : ℕ} {inside : List OpenShared} {t len : ℕ} {q : Pointee} {w : Value} {regions : List Region} {before after : List Visit}
      → Holds node_names bytes level inside (behind t q len) w regions before after → Begin high regions → t ≤ high
  begins_at {t = t} {len = len} {q = q} (holds_plain e legal all m) b = absurd (not_plain t len q e)
  begins_at {level = level} {t = t} {len = len} {q = q} (holds_claimed {within = within} {s = s} e legal all m r) b =
      let last = (begin_split high within (region_of s level ∷ []) (subst (Begin high) r b)).1.0 in
      subst (λ n. n ≤ high) (starts t len q e) last
  begins_at {t = t} {len = len} {q = q} (holds_first e x y h d g) b = absurd (not_counted t len q e)
  begins_at {t = t} {len = len} {q = q} (holds_later e x y d g h) b = absurd (not_counted t len q e)
  begins_at {t = t} {len = len} {q = q} (holds_back e x d g h) b = absurd (not_counted t len q e)

  -- ---- a counted pointer

  found_later : {t len : ℕ} {q : Pointee} {v w : Value} {before after : List Visit} → visited before t ≡ Some (record { pos = t; pointee = q; len = len; value = w }) → v ≡ counted t w → after ≡ before
      → Seen high before → Found v before after
  found_later {t = t} {len = len} {q = q} {v = v} {w = w} {before = before} there is g seen =
      let x : Visit = record { pos = t; pointee = q; len = len; value = w } in
      let each : AllVisited before v = λ p u c.
      ⊎_elim
      (λ here. (x, subst (λ n. visited before n ≡ Some x) here.0 there, here.1))
      (λ inside. seen.inner t x there p u inside)
      (subst (Counted p u) is c) in
      record { found = subst (λ y. AllVisited y v) (sym g) each; grows = λ p y e. ap (λ z. visited z p) g ∙ e; seen = subst (Seen high) (sym g) seen }

  -- one more visit
  one_more : {P : Type 0} (t len : ℕ) (q : Pointee) (w : Value) (between : List Visit) (p : ℕ) (y : Visit)
      → visited (record { pos = t; pointee = q; len = len; value = w } ∷ between) p ≡ Some y
      → (t ≡ p → w ≡ y.value → P) → (visited between p ≡ Some y → P) → P
  one_more t len q w between p y e here there =
      elim (eqb_tells t p) [
        | inl is ↦
            let some : Some (record { pos = t; pointee = q; len = len; value = w }) ≡ Some y = sym (ap (λ c. cond c (Some (record { pos = t; pointee = q; len = len; value = w })) (visited between p)) is.0) ∙ e in
            let same_visit : ◌≡◌ {A = Visit} (record { pos = t; pointee = q; len = len; value = w }) y = cc in
            here is.1 (ap (λ (z : Visit). z.value) same_visit)
        | inr apart ↦ there (sym (ap (λ c. cond c (Some (record { pos = t; pointee = q; len = len; value = w })) (visited between p)) apart.0) ∙ e)
      ]

  found_first : {t len : ℕ} {q : Pointee} {v w : Value} {before between after : List Visit} → visited between t ≡ None → t ≤ high → v ≡ counted t w
      → after ≡ record { pos = t; pointee = q; len = len; value = w } ∷ between → Found w before between → Found v before after
  found_first {t = t} {len = len} {q = q} {v = v} {w = w} {before = before} {between = between} new low is g r =
      let x : Visit = record { pos = t; pointee = q; len = len; value = w } in
      let here : visited (x ∷ between) t ≡ Some x = elim (eqb_tells t t) [
        | inl equal ↦ ap (λ c. cond c (Some x) (visited between t)) equal.0
        | inr apart ↦ absurd (apart.1 refl)
      ] in
      let grown : Grows between (x ∷ between) = λ p y e.
      elim (eqb_tells t p) [
        | inl equal ↦ let none : None ≡ Some y = sym (subst (λ n. visited between n ≡ None) equal.1 new) ∙ e in absurd (cc)
        | inr apart ↦ ap (λ c. cond c (Some x) (visited between p)) apart.0 ∙ e
      ] in
      let inside : AllVisited (x ∷ between) w = λ p u c. visits_grow between (x ∷ between) p u grown (r.found p u c) in
      let each : AllVisited (x ∷ between) v = λ p u c.
      ⊎_elim (λ same_one. (x, subst (λ n. visited (x ∷ between) n ≡ Some x) same_one.0 here, same_one.1)) (λ deeper. inside p u deeper) (subst (Counted p u) is c) in
      let seen : Seen high (x ∷ between) = record {
        below = λ p y e. one_more t len q w between p y e (λ at v_is. subst (λ n. n ≤ high) at low) (λ f. r.seen.below p y f);
        inner = λ p y e. one_more t len q w between p y e (λ at v_is. subst (AllVisited (x ∷ between)) v_is inside) (λ f n u c. visits_grow between (x ∷ between) n u grown (r.seen.inner p y f n u c));
      } in
      record {
        found = subst (λ y. AllVisited y v) (sym g) each;
        grows = λ p y e. ap (λ z. visited z p) g ∙ grown p y (r.grows p y e);
        seen = subst (Seen high) (sym g) seen;
      }

  -- ---- at places

  -- what lies behind a counted pointer is at a place too
  counted_place : {k : Place} {cyclic : Bool} {q : Pointee} {len : ℕ} → Counts bytes k cyclic q len → (t : ℕ) → (j : Place) × (behind t q len ≡ part_of j t)
  counted_place {len = len} (counts_text here acyclic type) t = (text_behind len, ap (λ x. behind t x len) type)
  counted_place (counts_node here acyclic type one) t = (node_behind, ap₂ (λ x n. behind t x n) type one)

  mutual
    pub found_at : {level : ℕ} {inside : List OpenShared} {p : Part} {v : Value} {regions : List Region} {before after : List Visit}
        → Holds node_names bytes level inside p v regions before after → (k : Place) (pos : ℕ) → p ≡ part_of k pos → Begin high regions → Seen high before → Found v before after
    found_at {v = v} (holds_plain {l = l} {vs = vs} e legal all m) k pos is b seen =
        let x = plain_led bytes (led bytes k pos) (ap (content_of node_names bytes) (sym is) ∙ e) in
        let r = all_found all x.spots x.are b seen in
        record { found = λ p w c. r.found p w (in_made p w l vs v x.simple m c); grows = r.grows; seen = r.seen }
    found_at {level = level} {v = v} (holds_claimed {within = within} {s = s} {l = l} {vs = vs} e legal all m g) k pos is b seen =
        let x = claimed_led bytes (led bytes k pos) (ap (content_of node_names bytes) (sym is) ∙ e) in
        let r = all_found all x.spots x.are (begin_split high within (region_of s level ∷ []) (subst (Begin high) g b)).0 seen in
        record { found = λ p w c. r.found p w (in_made p w l vs v x.simple m c); grows = r.grows; seen = r.seen }
    found_at {inside = inside} (holds_first {t = t} {q = q} {len = len} e a n h d g) k pos is b seen =
        let c = counts bytes k pos (ap (content_of node_names bytes) (sym is) ∙ e) in
        let j = counted_place c t in
        let o : OpenShared = record { pos = t; pointee = q; len = len } in
        let still = open_stays bytes h t o (elim (eqb_tells t t) [
          | inl equal ↦ ap (λ z. cond z (Some o) (open_at inside t)) equal.0
          | inr apart ↦ absurd (apart.1 refl)
        ]) in
        found_first (still ∙ n) (begins_at h b) d g (found_at h j.0 t j.1 b seen)
    found_at (holds_later e a n d g h) k pos is b seen = found_later n d h seen
    found_at (holds_back e a d g h) k pos is b seen = absurd (let c = is_acyclic bytes (counts bytes k pos (ap (content_of node_names bytes) (sym is) ∙ e)) in cc)

    all_found : {level : ℕ} {inside : List OpenShared} {ps : List Part} {vs : Values} {regions : List Region} {before after : List Visit}
        → HoldAll node_names bytes level inside ps vs regions before after → (qs : List Spot) → ps ≡ parts_at qs → Begin high regions → Seen high before → AllFound vs before after
    all_found (holds_none e f g) qs is b seen = record {
      found = λ p w c. absurd (subst (CountedIn p w) e c);
      grows = λ p y i. ap (λ z. visited z p) g ∙ i;
      seen = subst (Seen high) (sym g) seen;
    }
    all_found (holds_more h hs e r) [] is b seen = absurd (cc)
    all_found {after = after} (holds_more {here = rs} {later = later} {between = between} h hs e r) (q ∷ qs) is b seen =
        let split = begin_split high rs later (subst (Begin high) r b) in
        let first = found_at h q.place q.pos (cc) split.0 seen in
        let others = all_found hs qs (cc) split.1 first.seen in
        record {
          found = λ p w c. ⊎_elim (λ i. visits_grow between after p w others.grows (first.found p w i)) (λ i. others.found p w i) (subst (CountedIn p w) e c);
          grows = λ p y i. others.grows p y (first.grows p y i);
          seen = others.seen;
        }
