-- One step of two readings that give one value: their labels, parts and values are alike.
use Rattle.std.proofs.Common.{Bool, true, false, ◌≡◌, ℕ, ◌+◌, ◌*◌, ◌≤◌, zero, suc, List, [], ◌∷◌, ◌++◌, drop, length, Some, None, refl, ap, sym, ap₂, cond, ◌==◌, eqb-true, subst, ◌∙◌, arith, length-take, length-drop}
use Rattle.std.specs.Prelude.{⊤}
use Rattle.archive_shape_layout.specs.Content.{Names, Part, Item, Span, Label, Content, made, members, elements, pointee_content, control_count}
use Rattle.archive_shape_layout.specs.Content.Part.{at, behind, node, buckets}
use Rattle.archive_shape_layout.specs.Content.Item.{item, place}
use Rattle.archive_shape_layout.specs.Content.Label.{leaf, written, same, second, whole, tagged, total}
use Rattle.archive_shape_layout.specs.Content.Content.{illegal, plain, claimed}
use Rattle.archive_shape_layout.specs.Shape.{Shape, Pointee, align_of, size_of}
use Rattle.archive_shape_layout.specs.Shape.Pointee.{sized, slice, str}
use Rattle.archive_shape_layout.specs.Value.{Value, Values, count_values}
use Rattle.archive_shape_layout.specs.Value.Value.{natural, integer, boolean, string, group, chosen, counted, back}
use Rattle.archive_shape_layout.specs.Value.Values.{no_values, more_values}
use Rattle.archive_shape_layout.specs.Bytes.{window}
use Rattle.archive_shape_layout.specs.Holds.{Region, region_of, Visit, OpenShared, Holds, HoldAll, Ascends}
use Rattle.archive_shape_layout.specs.Holds.HoldAll.{holds_none, holds_more}
use Rattle.archive_shape_layout.proofs.Ascent.{Ascends-append}
use Rattle.archive_shape_layout.proofs.Unique.{by_claimed}
use Rattle.archive_shape_canonical.specs.Sharing.{erased, all_erased}
use Rattle.archive_shape_canonical.specs.Settled.{HasItems}
use Rattle.archive_shape_canonical.proofs.Choosing.{Choices, IsFilledAs, LeadsChosen}
use Rattle.archive_shape_canonical.proofs.Akin.{Akin, AllAkin, akin_none, akin_more, akin_at, akin_behind, akin_buckets, SameCount, Match, no_left, no_right, leaves, texts, wholes, ones, tags, short_long, long_short, totals, empty_total, total_empty, tables, empty_table, table_empty, maps, empty_map, map_empty, no_child, child_no, counts, elements_akin}

-- ---- what is made of what

record MadeNone (v u : Value) (vs : Values) : Type 0 where
  pub none : vs ≡ no_values
  pub is : v ≡ u

made_leaf : (u v : Value) (vs : Values) → made (leaf u) vs ≡ Some v → MadeNone v u vs
unfolding made
made_leaf u v no_values e = record { none = refl; is = cc }
made_leaf u v (more_values x xs) e = absurd (cc)

made_written : (bs : List ℕ) (v : Value) (vs : Values) → made (written bs) vs ≡ Some v → MadeNone v (string bs) vs
unfolding made
made_written bs v no_values e = record { none = refl; is = cc }
made_written bs v (more_values x xs) e = absurd (cc)

made_same : (v : Value) (vs : Values) → made same vs ≡ Some v → vs ≡ more_values v no_values
unfolding made
made_same v no_values e = absurd (cc)
made_same v (more_values x no_values) e = let is : x ≡ v = cc in ap (λ y. more_values y no_values) is
made_same v (more_values x (more_values y ys)) e = absurd (cc)

record Seconds (v : Value) (vs : Values) : Type 0 where
  pub first : Value
  pub is : vs ≡ more_values first (more_values v no_values)

pub made_whole : (v : Value) (vs : Values) → made whole vs ≡ Some v → v ≡ group vs
unfolding made
made_whole v vs e = cc

made_tagged : (t : ℕ) (v : Value) (vs : Values) → made (tagged t) vs ≡ Some v → v ≡ chosen t vs
unfolding made
made_tagged t v vs e = cc

pub record SameStep (bytes others : List ℕ) (P : Type 0) (l l' : Label) (ps ps' : List Part) (vs vs' : Values) : Type 0 where
  pub label : l ≡ l'
  pub parts : AllAkin bytes others P ps ps'
  pub values : all_erased vs ≡ all_erased vs'

-- ---- texts

pub record TextSays (bytes : List ℕ) (t len : ℕ) (v : Value) : Type 0 where
  pub is : v ≡ string (window bytes t len)
  pub long : length (window bytes t len) ≡ len

module _ (names : Names) (bytes : List ℕ) where
  no_within : {level : ℕ} {inside : List OpenShared} {vs : Values} {regions : List Region} {before after : List Visit}
      → HoldAll names bytes level inside [] vs regions before after → regions ≡ []
  no_within (holds_none e f g) = f

  last_ends : (low high : ℕ) (within : List Region) (r : Region) (rs : List Region) → rs ≡ within ++ r ∷ [] → Ascends low high rs → r.start + r.size ≤ high
  unfolding Ascends
  last_ends low high within r rs e a = ((Ascends-append low high within (r ∷ [])).0 (subst (Ascends low high) e a)).1.0.inside

  pub text_says : {level : ℕ} {inside : List OpenShared} {v : Value} {regions : List Region} {before after : List Visit} (low t len : ℕ)
      → Holds names bytes level inside (behind t str len) v regions before after → Ascends low (length bytes) regions → TextSays bytes t len v
  unfolding pointee_content
  text_says {level = level} {v = v} {regions = regions} low t len h a =
      let o = by_claimed names bytes {s = record { start = t; size = len; align = 1 }} {l = written (window bytes t len)} {ps = []} refl h in
      let ends = last_ends low (length bytes) o.within (region_of (record { start = t; size = len; align = 1 }) level) regions o.regions_are a in
      record {
        is = (made_written (window bytes t len) v o.vs o.is_made).is;
        long = omega (arith, length-take len (drop t bytes), length-drop t bytes);
      }

  pub one_says : {level : ℕ} {inside : List OpenShared} {v : Value} {vs : Values} {regions : List Region} {before after : List Visit} (low t len : ℕ)
      → HoldAll names bytes level inside (behind t str len ∷ []) vs regions before after → vs ≡ more_values v no_values → Ascends low (length bytes) regions → TextSays bytes t len v
  one_says {v = v} low t len (holds_more {v = u} {here = here} {later = later} h hs e r) is a =
      let same_value : u ≡ v = cc in
      let a' = ((Ascends-append low (length bytes) here later).0 (subst (Ascends low (length bytes)) r a)).0 in
      subst (TextSays bytes t len) same_value (text_says low t len h a')

  pub count_parts : {level : ℕ} {inside : List OpenShared} {ps : List Part} {vs : Values} {regions : List Region} {before after : List Visit}
      → HoldAll names bytes level inside ps vs regions before after → count_values vs ≡ length ps
  count_parts (holds_none e f g) = ap count_values e
  count_parts (holds_more {vs = vs} h hs e r) = ap count_values e ∙ (let c = count_parts hs in omega arith)

pub count_erased : (vs : Values) → count_values (all_erased vs) ≡ count_values vs
count_erased no_values = refl
count_erased (more_values v vs) = let h = count_erased vs in omega arith

length-elements : (pos n : ℕ) (r : Shape) → length (elements pos n r) ≡ n
unfolding elements
length-elements pos zero r = refl
length-elements pos (suc n) r = let h = length-elements (pos + size_of r) n r in omega arith

-- a text has the number of bytes that are claimed
abbrev pub IsCounted : List ℕ → ℕ → Pointee → ℕ → Type 0
IsCounted bytes t (sized s) len = ⊤
IsCounted bytes t (slice s) len = ⊤
IsCounted bytes t str len = length (window bytes t len) ≡ len

pub is_counted : (names : Names) (bytes : List ℕ) {level : ℕ} {inside : List OpenShared} {v : Value} {regions : List Region} {before after : List Visit} (low t : ℕ) (q : Pointee) (len : ℕ)
    → Holds names bytes level inside (behind t q len) v regions before after → Ascends low (length bytes) regions → IsCounted bytes t q len
is_counted names bytes low t (sized s) len h a = tt
is_counted names bytes low t (slice s) len h a = tt
is_counted names bytes low t str len h a = (text_says names bytes low t len h a).long

-- what two pointers lead to
pub record SameBehind (bytes others : List ℕ) (t t' : ℕ) (n n' : ℕ) (l l' : Label) (ps ps' : List Part) (vs vs' : Values) (s s' : Span) : Type 0 where
  pub steps : SameStep bytes others (t ≡ t') l l' ps ps' vs vs'
  pub len : n ≡ n'
  pub starts : s.start ≡ t
  pub starts' : s'.start ≡ t'
  pub size : s.size ≡ s'.size
  pub align : s.align ≡ s'.align

made_second : (v : Value) (vs : Values) → made second vs ≡ Some v → Seconds v vs
unfolding made
made_second v no_values e = absurd (cc)
made_second v (more_values x no_values) e = absurd (cc)
made_second v (more_values x (more_values y no_values)) e = let is : y ≡ v = cc in record { first = x; is = ap (λ z. more_values x (more_values z no_values)) is }
made_second v (more_values x (more_values y (more_values z zs))) e = absurd (cc)

record Totals (n : ℕ) (v : Value) (vs : Values) : Type 0 where
  pub is : vs ≡ more_values v no_values
  pub count : count_values (members v) ≡ n

made_total : (n : ℕ) (v : Value) (vs : Values) → made (total n) vs ≡ Some v → Totals n v vs
unfolding made
made_total n v no_values e = absurd (cc)
made_total n v (more_values x no_values) e = tested (count_values (members x) == n) (λ t. eqb-true (count_values (members x)) n t) e
  where
    tested : (b : Bool) → (b ≡ true → count_values (members x) ≡ n) → cond b (Some x) None ≡ Some v → Totals n v (more_values x no_values)
    tested true f g = let is : x ≡ v = cc in record { is = ap (λ y. more_values y no_values) is; count = ap (λ y. count_values (members y)) (sym is) ∙ f refl }
    tested false f g = absurd (cc)
made_total n v (more_values x (more_values y ys)) e = absurd (cc)

pub count_members : (v : Value) → count_values (members (erased v)) ≡ count_values (members v)
count_members (natural n) = refl
count_members (integer z) = refl
count_members (boolean b) = refl
count_members (string bs) = refl
count_members (group vs) = count_erased vs
count_members (Value.chosen t vs) = refl
count_members (counted t v) = refl
count_members (back t) = refl

pub same_members : (v v' : Value) → erased v ≡ erased v' → count_values (members v) ≡ count_values (members v')
same_members v v' e = sym (count_members v) ∙ ap (λ x. count_values (members x)) e ∙ count_members v'

-- ---- one step

-- a group of no parts has no items
nothing : (v : Value) (vs : Values) (ps : List Part) {n : ℕ} → count_values vs ≡ length ps → ps ≡ [] → v ≡ group vs → count_values (members v) ≡ n → 1 ≤ n → ⊥
nothing v vs ps c e is count some =
    let a : count_values vs ≡ 0 = c ∙ ap length e in
    let b : count_values vs ≡ _ = sym (ap (λ x. count_values (members x)) is) ∙ count in
    omega arith

same_buckets : {bytes others : List ℕ} {P : Type 0} (t t' len len' cap cap' : ℕ) (it it' : Item) → len ≡ len' → cap ≡ cap' → it ≡ it'
    → window bytes t (control_count cap) ≡ window others t' (control_count cap') → Akin bytes others P (buckets t len cap it) (buckets t' len' cap' it')
same_buckets {bytes = bytes} {others = others} {P = P} t t' len len' cap cap' it it' a b c h =
    let here : window bytes t (control_count cap) ≡ window others t' (control_count cap) = h ∙ ap (λ n. window others t' (control_count n)) (sym b) in
    subst (λ x. Akin bytes others P (buckets t len cap it) (buckets t' x cap' it')) a
    (subst (λ x. Akin bytes others P (buckets t len cap it) (buckets t' len x it')) b
    (subst (λ x. Akin bytes others P (buckets t len cap it) (buckets t' len cap x)) c (akin_buckets here)))

not_written : {l : Label} {ps : List Part} {c : Content} → c ≡ illegal → c ≡ plain l ps → ⊥
not_written e f = cc

module _
    (fit : Choices) (names : Names) (bytes others : List ℕ) (P : Type 0)
    {level level' : ℕ} {inside inside' : List OpenShared} {ps ps' : List Part} {vs vs' : Values} {rs rs' : List Region} {before after before' after' : List Visit} (low low' : ℕ)
    (all : HoldAll names bytes level inside ps vs rs before after) (all' : HoldAll names others level' inside' ps' vs' rs' before' after')
    (a : Ascends low (length bytes) rs) (a' : Ascends low' (length others) rs')
    {l l' : Label} (v v' : Value) (m : made l vs ≡ Some v) (m' : made l' vs' ≡ Some v') (alike : erased v ≡ erased v')
  where
    pub step : {c c' : Content} → LeadsChosen fit bytes ps vs → LeadsChosen fit others ps' vs' → Match bytes others P c c' → c ≡ plain l ps → c' ≡ plain l' ps' → SameStep bytes others P l l' ps ps' vs vs'
    step led led' no_left e e' = absurd (cc)
    step led led' no_right e e' = absurd (cc)
    step led led' (leaves {v = u} {v' = u'} s s') e e' =
        let l1 : leaf u ≡ l = cc in
        let l2 : leaf u' ≡ l' = cc in
        let p1 : [] ≡ ps = cc in
        let p2 : [] ≡ ps' = cc in
        let n = made_leaf u v vs (subst (λ x. made x vs ≡ Some v) (sym l1) m) in
        let n' = made_leaf u' v' vs' (subst (λ x. made x vs' ≡ Some v') (sym l2) m') in
        let one : u ≡ u' = sym s ∙ ap erased (sym n.is) ∙ alike ∙ ap erased n'.is ∙ s' in
        record {
          label = sym l1 ∙ ap leaf one ∙ l2;
          parts = subst (λ x. AllAkin bytes others P x ps') p1 (subst (λ x. AllAkin bytes others P [] x) p2 akin_none);
          values = ap all_erased n.none ∙ sym (ap all_erased n'.none);
        }
    step led led' (texts {bs = u} {bs' = u'}) e e' =
        let l1 : written u ≡ l = cc in
        let l2 : written u' ≡ l' = cc in
        let p1 : [] ≡ ps = cc in
        let p2 : [] ≡ ps' = cc in
        let n = made_written u v vs (subst (λ x. made x vs ≡ Some v) (sym l1) m) in
        let n' = made_written u' v' vs' (subst (λ x. made x vs' ≡ Some v') (sym l2) m') in
        let both : string u ≡ string u' = ap erased (sym n.is) ∙ alike ∙ ap erased n'.is in
        let one : u ≡ u' = cc in
        record {
          label = sym l1 ∙ ap written one ∙ l2;
          parts = subst (λ x. AllAkin bytes others P x ps') p1 (subst (λ x. AllAkin bytes others P [] x) p2 akin_none);
          values = ap all_erased n.none ∙ sym (ap all_erased n'.none);
        }
    step led led' (wholes {ps = qs} {ps' = qs'} h) e e' =
        let l1 : whole ≡ l = cc in
        let l2 : whole ≡ l' = cc in
        let p1 : qs ≡ ps = cc in
        let p2 : qs' ≡ ps' = cc in
        let n = made_whole v vs (subst (λ x. made x vs ≡ Some v) (sym l1) m) in
        let n' = made_whole v' vs' (subst (λ x. made x vs' ≡ Some v') (sym l2) m') in
        let both : group (all_erased vs) ≡ group (all_erased vs') = ap erased (sym n) ∙ alike ∙ ap erased n' in
        record {
          label = sym l1 ∙ l2;
          parts = subst (λ x. AllAkin bytes others P x ps') p1 (subst (λ x. AllAkin bytes others P qs x) p2 h);
          values = cc;
        }
    step led led' (ones {p = q} {p' = q'} h) e e' =
        let l1 : same ≡ l = cc in
        let l2 : same ≡ l' = cc in
        let p1 : q ∷ [] ≡ ps = cc in
        let p2 : q' ∷ [] ≡ ps' = cc in
        let n = made_same v vs (subst (λ x. made x vs ≡ Some v) (sym l1) m) in
        let n' = made_same v' vs' (subst (λ x. made x vs' ≡ Some v') (sym l2) m') in
        record {
          label = sym l1 ∙ l2;
          parts = subst (λ x. AllAkin bytes others P x ps') p1 (subst (λ x. AllAkin bytes others P (q ∷ []) x) p2 (akin_more h akin_none));
          values = ap all_erased n ∙ ap (λ x. more_values x no_values) alike ∙ sym (ap all_erased n');
        }
    step led led' (tags {t = t} {t' = t'} {ps = qs} {ps' = qs'} h) e e' =
        let l1 : tagged t ≡ l = cc in
        let l2 : tagged t' ≡ l' = cc in
        let p1 : qs ≡ ps = cc in
        let p2 : qs' ≡ ps' = cc in
        let n = made_tagged t v vs (subst (λ x. made x vs ≡ Some v) (sym l1) m) in
        let n' = made_tagged t' v' vs' (subst (λ x. made x vs' ≡ Some v') (sym l2) m') in
        let both : chosen t (all_erased vs) ≡ chosen t' (all_erased vs') = ap erased (sym n) ∙ alike ∙ ap erased n' in
        let tag : t ≡ t' = cc in
        record {
          label = sym l1 ∙ ap tagged tag ∙ l2;
          parts = subst (λ x. AllAkin bytes others P x ps') p1 (subst (λ x. AllAkin bytes others P qs x) p2 (h tag));
          values = cc;
        }
    step led led' (short_long {bs = u} {t = t} {len = len} few) e e' =
        let l1 : written u ≡ l = cc in
        let l2 : same ≡ l' = cc in
        let p2 : ps' ≡ behind t str len ∷ [] = cc in
        let n = made_written u v vs (subst (λ x. made x vs ≡ Some v) (sym l1) m) in
        let n' = made_same v' vs' (subst (λ x. made x vs' ≡ Some v') (sym l2) m') in
        let says = one_says names others low' t len (subst (λ x. HoldAll names others level' inside' x vs' rs' before' after') p2 all') n' a' in
        let both : string u ≡ string (window others t len) = ap erased (sym n.is) ∙ alike ∙ ap erased says.is in
        let one : u ≡ window others t len = cc in
        let long = ap length one ∙ says.long in
        absurd (omega arith)
    step led led' (long_short {bs = u} {t = t} {len = len} few) e e' =
        let l1 : same ≡ l = cc in
        let l2 : written u ≡ l' = cc in
        let p1 : ps ≡ behind t str len ∷ [] = cc in
        let n = made_same v vs (subst (λ x. made x vs ≡ Some v) (sym l1) m) in
        let n' = made_written u v' vs' (subst (λ x. made x vs' ≡ Some v') (sym l2) m') in
        let says = one_says names bytes low t len (subst (λ x. HoldAll names bytes level inside x vs rs before after) p1 all) n a in
        let both : string u ≡ string (window bytes t len) = ap erased (sym n'.is) ∙ sym alike ∙ ap erased says.is in
        let one : u ≡ window bytes t len = cc in
        let long = ap length one ∙ says.long in
        absurd (omega arith)
    step led led' (counts h) e e' = absurd (cc)
    step led led' (totals {p = q} {p' = q'} {n = n} {n' = n'} h) e e' =
        let l1 : total n ≡ l = cc in
        let l2 : total n' ≡ l' = cc in
        let p1 : q ∷ [] ≡ ps = cc in
        let p2 : q' ∷ [] ≡ ps' = cc in
        let x = made_total n v vs (subst (λ y. made y vs ≡ Some v) (sym l1) m) in
        let x' = made_total n' v' vs' (subst (λ y. made y vs' ≡ Some v') (sym l2) m') in
        let one : n ≡ n' = sym x.count ∙ same_members v v' alike ∙ x'.count in
        record {
          label = sym l1 ∙ ap total one ∙ l2;
          parts = subst (λ y. AllAkin bytes others P y ps') p1 (subst (λ y. AllAkin bytes others P (q ∷ []) y) p2 (akin_more h akin_none));
          values = ap all_erased x.is ∙ ap (λ y. more_values y no_values) alike ∙ sym (ap all_erased x'.is);
        }
    step led led' (empty_total {n = n} some) e e' =
        let l1 : whole ≡ l = cc in
        let l2 : total n ≡ l' = cc in
        let p1 : ps ≡ [] = cc in
        let x = made_whole v vs (subst (λ y. made y vs ≡ Some v) (sym l1) m) in
        let x' = made_total n v' vs' (subst (λ y. made y vs' ≡ Some v') (sym l2) m') in
        absurd (nothing v vs ps (count_parts names bytes all) p1 x (same_members v v' alike ∙ x'.count) some)
    step led led' (total_empty {n = n} some) e e' =
        let l1 : total n ≡ l = cc in
        let l2 : whole ≡ l' = cc in
        let p2 : ps' ≡ [] = cc in
        let x = made_total n v vs (subst (λ y. made y vs ≡ Some v) (sym l1) m) in
        let x' = made_whole v' vs' (subst (λ y. made y vs' ≡ Some v') (sym l2) m') in
        absurd (nothing v' vs' ps' (count_parts names others all') p2 x' (sym (same_members v v' alike) ∙ x.count) some)
    step led led' (tables {t = t} {t' = t'} {len = len} {len' = len'} {cap = cap} {cap' = cap'} {s = s}) e e' =
        let l1 : same ≡ l = cc in
        let l2 : same ≡ l' = cc in
        let p1 : buckets t len cap (item s) ∷ [] ≡ ps = cc in
        let p2 : buckets t' len' cap' (item s) ∷ [] ≡ ps' = cc in
        let x = made_same v vs (subst (λ y. made y vs ≡ Some v) (sym l1) m) in
        let x' = made_same v' vs' (subst (λ y. made y vs' ≡ Some v') (sym l2) m') in
        let f : IsFilledAs fit bytes t len cap (more_values v no_values) = subst (λ y. LeadsChosen fit bytes (buckets t len cap (item s) ∷ []) y) x (subst (λ y. LeadsChosen fit bytes y vs) (sym p1) led) in
        let f' : IsFilledAs fit others t' len' cap' (more_values v' no_values) = subst (λ y. LeadsChosen fit others (buckets t' len' cap' (item s) ∷ []) y) x' (subst (λ y. LeadsChosen fit others y vs') (sym p2) led') in
        let one : len ≡ len' = sym f.0 ∙ same_members v v' alike ∙ f'.0 in
        let room : cap ≡ cap' = f.1 ∙ ap fit.capacity one ∙ sym f'.1 in
        let controls : window bytes t (control_count cap) ≡ window others t' (control_count cap') = f.2 ∙ ap fit.table_controls alike ∙ sym f'.2 in
        record {
          label = sym l1 ∙ l2;
          parts = subst (λ y. AllAkin bytes others P y ps') p1 (subst (λ y. AllAkin bytes others P (buckets t len cap (item s) ∷ []) y) p2 (akin_more (same_buckets t t' len len' cap cap' (item s) (item s) one room refl controls) akin_none));
          values = ap all_erased x ∙ ap (λ y. more_values y no_values) alike ∙ sym (ap all_erased x');
        }
    step led led' (empty_table {t = t} {len = len} {cap = cap} {s = s} some) e e' =
        let l1 : whole ≡ l = cc in
        let l2 : same ≡ l' = cc in
        let p1 : ps ≡ [] = cc in
        let p2 : buckets t len cap (item s) ∷ [] ≡ ps' = cc in
        let x = made_whole v vs (subst (λ y. made y vs ≡ Some v) (sym l1) m) in
        let x' = made_same v' vs' (subst (λ y. made y vs' ≡ Some v') (sym l2) m') in
        let f' : IsFilledAs fit others t len cap (more_values v' no_values) = subst (λ y. LeadsChosen fit others (buckets t len cap (item s) ∷ []) y) x' (subst (λ y. LeadsChosen fit others y vs') (sym p2) led') in
        absurd (nothing v vs ps (count_parts names bytes all) p1 x (same_members v v' alike ∙ f'.0) some)
    step led led' (table_empty {t = t} {len = len} {cap = cap} {s = s} some) e e' =
        let l1 : same ≡ l = cc in
        let l2 : whole ≡ l' = cc in
        let p1 : buckets t len cap (item s) ∷ [] ≡ ps = cc in
        let p2 : ps' ≡ [] = cc in
        let x = made_same v vs (subst (λ y. made y vs ≡ Some v) (sym l1) m) in
        let x' = made_whole v' vs' (subst (λ y. made y vs' ≡ Some v') (sym l2) m') in
        let f : IsFilledAs fit bytes t len cap (more_values v no_values) = subst (λ y. LeadsChosen fit bytes (buckets t len cap (item s) ∷ []) y) x (subst (λ y. LeadsChosen fit bytes y vs) (sym p1) led) in
        absurd (nothing v' vs' ps' (count_parts names others all') p2 x' (sym (same_members v v' alike) ∙ f.0) some)
    step led led' (maps {t = t} {t' = t'} {len = len} {len' = len'} {cap = cap} {cap' = cap'} {u = u} {u' = u'} {s = s}) e e' =
        let l1 : second ≡ l = cc in
        let l2 : second ≡ l' = cc in
        let qs : List Part = buckets t len cap (place len) ∷ (behind u (slice s) len ∷ []) in
        let qs' : List Part = buckets t' len' cap' (place len') ∷ (behind u' (slice s) len' ∷ []) in
        let p1 : qs ≡ ps = cc in
        let p2 : qs' ≡ ps' = cc in
        let x = made_second v vs (subst (λ y. made y vs ≡ Some v) (sym l1) m) in
        let x' = made_second v' vs' (subst (λ y. made y vs' ≡ Some v') (sym l2) m') in
        let f : IsFilledAs fit bytes t len cap (more_values x.first (more_values v no_values)) = subst (λ y. LeadsChosen fit bytes qs y) x.is (subst (λ y. LeadsChosen fit bytes y vs) (sym p1) led) in
        let f' : IsFilledAs fit others t' len' cap' (more_values x'.first (more_values v' no_values)) = subst (λ y. LeadsChosen fit others qs' y) x'.is (subst (λ y. LeadsChosen fit others y vs') (sym p2) led') in
        let one : len ≡ len' = sym f.0 ∙ same_members v v' alike ∙ f'.0 in
        let room : cap ≡ cap' = f.1 ∙ ap fit.capacity one ∙ sym f'.1 in
        let controls : window bytes t (control_count cap) ≡ window others t' (control_count cap') = f.2 ∙ ap fit.map_controls alike ∙ sym f'.2 in
        let numbers : x.first ≡ x'.first = f.3 ∙ ap fit.map_numbers alike ∙ sym f'.3 in
        record {
          label = sym l1 ∙ l2;
          parts = subst (λ y. AllAkin bytes others P y ps') p1 (subst (λ y. AllAkin bytes others P qs y) p2
              (akin_more (same_buckets t t' len len' cap cap' (place len) (place len') one room (ap place one) controls) (akin_more (akin_behind tt) akin_none)));
          values = ap all_erased x.is ∙ ap₂ (λ y z. more_values y (more_values z no_values)) (ap erased numbers) alike ∙ sym (ap all_erased x'.is);
        }
    step led led' (empty_map {t = t} {len = len} {cap = cap} {u = u} {s = s} some) e e' =
        let l1 : whole ≡ l = cc in
        let l2 : second ≡ l' = cc in
        let p1 : ps ≡ [] = cc in
        let qs' : List Part = buckets t len cap (place len) ∷ (behind u (slice s) len ∷ []) in
        let p2 : qs' ≡ ps' = cc in
        let x = made_whole v vs (subst (λ y. made y vs ≡ Some v) (sym l1) m) in
        let x' = made_second v' vs' (subst (λ y. made y vs' ≡ Some v') (sym l2) m') in
        let f' : IsFilledAs fit others t len cap (more_values x'.first (more_values v' no_values)) = subst (λ y. LeadsChosen fit others qs' y) x'.is (subst (λ y. LeadsChosen fit others y vs') (sym p2) led') in
        absurd (nothing v vs ps (count_parts names bytes all) p1 x (same_members v v' alike ∙ f'.0) some)
    step led led' (map_empty {t = t} {len = len} {cap = cap} {u = u} {s = s} some) e e' =
        let l1 : second ≡ l = cc in
        let l2 : whole ≡ l' = cc in
        let qs : List Part = buckets t len cap (place len) ∷ (behind u (slice s) len ∷ []) in
        let p1 : qs ≡ ps = cc in
        let p2 : ps' ≡ [] = cc in
        let x = made_second v vs (subst (λ y. made y vs ≡ Some v) (sym l1) m) in
        let x' = made_whole v' vs' (subst (λ y. made y vs' ≡ Some v') (sym l2) m') in
        let f : IsFilledAs fit bytes t len cap (more_values x.first (more_values v no_values)) = subst (λ y. LeadsChosen fit bytes qs y) x.is (subst (λ y. LeadsChosen fit bytes y vs) (sym p1) led) in
        absurd (nothing v' vs' ps' (count_parts names others all') p2 x' (sym (same_members v v' alike) ∙ f.0) some)
    step led led' (no_child {level = j} {most = most} {k = k} {v = r} {pos = pos}) e e' =
        let l1 : whole ≡ l = cc in
        let l2 : same ≡ l' = cc in
        let p1 : ps ≡ [] = cc in
        let p2 : node j most k r pos ∷ [] ≡ ps' = cc in
        let x = made_whole v vs (subst (λ y. made y vs ≡ Some v) (sym l1) m) in
        let x' = made_same v' vs' (subst (λ y. made y vs' ≡ Some v') (sym l2) m') in
        let f' : HasItems (more_values v' no_values) = subst (λ y. LeadsChosen fit others (node j most k r pos ∷ []) y) x' (subst (λ y. LeadsChosen fit others y vs') (sym p2) led') in
        absurd (nothing v vs ps (count_parts names bytes all) p1 x (same_members v v' alike) f')
    step led led' (child_no {level = j} {most = most} {k = k} {v = r} {pos = pos}) e e' =
        let l1 : same ≡ l = cc in
        let l2 : whole ≡ l' = cc in
        let p1 : node j most k r pos ∷ [] ≡ ps = cc in
        let p2 : ps' ≡ [] = cc in
        let x = made_same v vs (subst (λ y. made y vs ≡ Some v) (sym l1) m) in
        let x' = made_whole v' vs' (subst (λ y. made y vs' ≡ Some v') (sym l2) m') in
        let f : HasItems (more_values v no_values) = subst (λ y. LeadsChosen fit bytes (node j most k r pos ∷ []) y) x (subst (λ y. LeadsChosen fit bytes y vs) (sym p1) led) in
        absurd (nothing v' vs' ps' (count_parts names others all') p2 x' (sym (same_members v v' alike)) f)

    pub step_behind : (t t' : ℕ) (q : Pointee) (len len' : ℕ) (s s' : Span) → SameCount q len len'
        → IsCounted bytes t q len → IsCounted others t' q len'
        → pointee_content bytes t q len ≡ claimed s l ps → pointee_content others t' q len' ≡ claimed s' l' ps' → SameBehind bytes others t t' len len' l l' ps ps' vs vs' s s'
    unfolding pointee_content
    step_behind t t' (sized r) len len' s s' g h h' e e' =
        let l1 : same ≡ l = cc in
        let l2 : same ≡ l' = cc in
        let p1 : at t r ∷ [] ≡ ps = cc in
        let p2 : at t' r ∷ [] ≡ ps' = cc in
        let s1 : record { start = t; size = size_of r; align = align_of r } ≡ s = cc in
        let s2 : record { start = t'; size = size_of r; align = align_of r } ≡ s' = cc in
        let n = made_same v vs (subst (λ x. made x vs ≡ Some v) (sym l1) m) in
        let n' = made_same v' vs' (subst (λ x. made x vs' ≡ Some v') (sym l2) m') in
        record {
          steps = record {
            label = sym l1 ∙ l2;
            parts = subst (λ x. AllAkin bytes others (t ≡ t') x ps') p1 (subst (λ x. AllAkin bytes others (t ≡ t') (at t r ∷ []) x) p2 (akin_more (akin_at (λ z. z)) akin_none));
            values = ap all_erased n ∙ ap (λ x. more_values x no_values) alike ∙ sym (ap all_erased n');
          };
          len = g;
          starts = ap (λ (x : Span). x.start) (sym s1);
          starts' = ap (λ (x : Span). x.start) (sym s2);
          size = ap (λ (x : Span). x.size) (sym s1) ∙ ap (λ (x : Span). x.size) s2;
          align = ap (λ (x : Span). x.align) (sym s1) ∙ ap (λ (x : Span). x.align) s2;
        }
    step_behind t t' (slice r) len len' s s' g h h' e e' =
        let l1 : whole ≡ l = cc in
        let l2 : whole ≡ l' = cc in
        let p1 : elements t len r ≡ ps = cc in
        let p2 : elements t' len' r ≡ ps' = cc in
        let s1 : record { start = t; size = len * size_of r; align = align_of r } ≡ s = cc in
        let s2 : record { start = t'; size = len' * size_of r; align = align_of r } ≡ s' = cc in
        let n = made_whole v vs (subst (λ x. made x vs ≡ Some v) (sym l1) m) in
        let n' = made_whole v' vs' (subst (λ x. made x vs' ≡ Some v') (sym l2) m') in
        let both : group (all_erased vs) ≡ group (all_erased vs') = ap erased (sym n) ∙ alike ∙ ap erased n' in
        let values : all_erased vs ≡ all_erased vs' = cc in
        let one : len ≡ len' =
        sym (length-elements t len r) ∙ ap length p1 ∙ sym (count_parts names bytes all) ∙ sym (count_erased vs) ∙ ap count_values values
        ∙ count_erased vs' ∙ count_parts names others all' ∙ ap length (sym p2) ∙ length-elements t' len' r in
        record {
          steps = record {
            label = sym l1 ∙ l2;
            parts = subst (λ x. AllAkin bytes others (t ≡ t') x ps') p1 (subst (λ x. AllAkin bytes others (t ≡ t') (elements t len r) x) p2
                (subst (λ x. AllAkin bytes others (t ≡ t') (elements t len r) (elements t' x r)) one (elements_akin bytes others (t ≡ t') t t' (λ z. z) len r)));
            values = values;
          };
          len = one;
          starts = ap (λ (x : Span). x.start) (sym s1);
          starts' = ap (λ (x : Span). x.start) (sym s2);
          size = ap (λ (x : Span). x.size) (sym s1) ∙ ap (λ x. x * size_of r) one ∙ ap (λ (x : Span). x.size) s2;
          align = ap (λ (x : Span). x.align) (sym s1) ∙ ap (λ (x : Span). x.align) s2;
        }
    step_behind t t' str len len' s s' g h h' e e' =
        let l1 : written (window bytes t len) ≡ l = cc in
        let l2 : written (window others t' len') ≡ l' = cc in
        let p1 : [] ≡ ps = cc in
        let p2 : [] ≡ ps' = cc in
        let s1 : record { start = t; size = len; align = 1 } ≡ s = cc in
        let s2 : record { start = t'; size = len'; align = 1 } ≡ s' = cc in
        let n = made_written (window bytes t len) v vs (subst (λ x. made x vs ≡ Some v) (sym l1) m) in
        let n' = made_written (window others t' len') v' vs' (subst (λ x. made x vs' ≡ Some v') (sym l2) m') in
        let both : string (window bytes t len) ≡ string (window others t' len') = ap erased (sym n.is) ∙ alike ∙ ap erased n'.is in
        let one : window bytes t len ≡ window others t' len' = cc in
        let count : len ≡ len' = sym h ∙ ap length one ∙ h' in
        record {
          steps = record {
            label = sym l1 ∙ ap written one ∙ l2;
            parts = subst (λ x. AllAkin bytes others (t ≡ t') x ps') p1 (subst (λ x. AllAkin bytes others (t ≡ t') [] x) p2 akin_none);
            values = ap all_erased n.none ∙ sym (ap all_erased n'.none);
          };
          len = count;
          starts = ap (λ (x : Span). x.start) (sym s1);
          starts' = ap (λ (x : Span). x.start) (sym s2);
          size = ap (λ (x : Span). x.size) (sym s1) ∙ count ∙ ap (λ (x : Span). x.size) s2;
          align = ap (λ (x : Span). x.align) (sym s1) ∙ ap (λ (x : Span). x.align) s2;
        }
