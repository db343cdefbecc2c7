-- One step of two readings of a tree's node, or of a table's buckets, that give one value.
use Rattle.std.proofs.Common.{Bool, true, false, cond, ◌&&◌, nat_le, nat_lt, ◌≡◌, ℕ, ◌+◌, ◌-◌, ◌*◌, ◌≤◌, zero, suc, List, [], ◌∷◌, ◌++◌, take, length, Some, refl, ap, ap₂, sym, subst, ◌∙◌, arith, leb-true}
use Rattle.archive_shape_layout.specs.Content.{choose, Names, Part, Item, Span, Label, made, members, weave, first_values, other_values, entries, children, item_size, item_align, item_part, tagged_items, keys_offset, values_offset, links_offset, node_span, node_content, buckets_span, buckets_content, control_count}
use Rattle.archive_shape_layout.specs.Content.Item.{item, place}
use Rattle.archive_shape_layout.specs.Content.Label.{whole, woven}
use Rattle.archive_shape_layout.specs.Content.Content.{illegal, claimed}
use Rattle.archive_shape_layout.specs.Shape.{Shape, size_of}
use Rattle.archive_shape_layout.specs.Value.{Value, Values, append_values, count_values}
use Rattle.archive_shape_layout.specs.Value.Value.{natural, integer, boolean, string, group, counted, back}
use Rattle.archive_shape_layout.specs.Value.Values.{no_values, more_values}
use Rattle.archive_shape_layout.specs.Bytes.{word_at}
use Rattle.archive_shape_layout.specs.Holds.{Region, Visit, OpenShared, HoldAll}
use Rattle.archive_shape_canonical.specs.Sharing.{erased, all_erased}
use Rattle.archive_shape_canonical.specs.Packed.{ArePacked, IsPacked}
use Rattle.archive_shape_canonical.proofs.Akin.{Akin, AllAkin, akin_none, akin_more, akin_at, akin_child, akin_entry, akin_place}
use Rattle.archive_shape_canonical.proofs.Steps.{SameStep, made_whole, count_parts, count_erased, same_members}

-- ---- children and entries, distinguished in what is made of them

made_woven : (n : ℕ) (v : Value) (vs : Values) → made (woven n) vs ≡ Some v → v ≡ group (weave (first_values n vs) (other_values n vs))
unfolding made
made_woven n v vs e = cc

erased_append : (xs ys : Values) → all_erased (append_values xs ys) ≡ append_values (all_erased xs) (all_erased ys)
erased_append no_values ys = refl
erased_append (more_values x xs) ys = ap (λ z. more_values (erased x) z) (erased_append xs ys)

record Cut (xs us ys ws : Values) : Type 0 where
  first : xs ≡ us
  rest : ys ≡ ws

-- lists whose first parts have the same length
cut : (xs us ys ws : Values) → count_values xs ≡ count_values us → append_values xs ys ≡ append_values us ws → Cut xs us ys ws
cut no_values no_values ys ws c e = record { first = refl; rest = e }
cut no_values (more_values u us) ys ws c e = absurd (omega (arith, c))
cut (more_values x xs) no_values ys ws c e = absurd (omega (arith, c))
cut (more_values x xs) (more_values u us) ys ws c e =
    let head : x ≡ u = cc in
    let tail : append_values xs ys ≡ append_values us ws = cc in
    let r = cut xs us ys ws (omega (arith, c)) tail in
    record { first = ap₂ more_values head r.first; rest = r.rest }

record Untwined (cs cs' es es' : Values) : Type 0 where
  children : all_erased cs ≡ all_erased cs'
  entries : all_erased es ≡ all_erased es'

erased_count : (vs : Values) (n : ℕ) → count_values vs ≡ n → count_values (all_erased vs) ≡ n
erased_count vs n e = count_erased vs ∙ e

pub count_append : (xs ys : Values) → count_values (append_values xs ys) ≡ count_values xs + count_values ys
count_append no_values ys = omega arith
count_append (more_values x xs) ys = let h = count_append xs ys in omega (arith, h)

-- the last child's items are not those of a child with others after it
unlike : {n : ℕ} (xs us : Values) (d : Value) (cs : Values) (x : Value) (es : Values) → all_erased xs ≡ all_erased (append_values us (more_values x (weave (more_values d cs) es)))
    → count_values xs ≡ n → count_values us ≡ n → ⊥
unlike xs us d cs x es e a b =
    let h : count_values xs ≡ count_values (append_values us (more_values x (weave (more_values d cs) es))) = sym (count_erased xs) ∙ ap count_values e ∙ count_erased (append_values us (more_values x (weave (more_values d cs) es))) in
    let k = count_append us (more_values x (weave (more_values d cs) es)) in
    omega (arith, h, k, a, b)

untwine : (most n i : ℕ) (cs cs' es es' : Values) → ArePacked most n i cs → ArePacked most n i cs' → count_values cs ≡ suc (count_values es) → count_values cs' ≡ suc (count_values es')
    → all_erased (weave cs es) ≡ all_erased (weave cs' es') → Untwined cs cs' es es'
untwine most n i no_values cs' es es' a a' c c' e = absurd (omega (arith, c))
untwine most n i (more_values (natural m) cs) cs' es es' a a' c c' e = absurd a
untwine most n i (more_values (integer m) cs) cs' es es' a a' c c' e = absurd a
untwine most n i (more_values (boolean m) cs) cs' es es' a a' c c' e = absurd a
untwine most n i (more_values (string m) cs) cs' es es' a a' c c' e = absurd a
untwine most n i (more_values (Value.chosen m x) cs) cs' es es' a a' c c' e = absurd a
untwine most n i (more_values (counted m x) cs) cs' es es' a a' c c' e = absurd a
untwine most n i (more_values (back m) cs) cs' es es' a a' c c' e = absurd a
untwine most n i (more_values (group xs) cs) no_values es es' a a' c c' e = absurd (omega (arith, c'))
untwine most n i (more_values (group xs) cs) (more_values (natural m) cs') es es' a a' c c' e = absurd a'
untwine most n i (more_values (group xs) cs) (more_values (integer m) cs') es es' a a' c c' e = absurd a'
untwine most n i (more_values (group xs) cs) (more_values (boolean m) cs') es es' a a' c c' e = absurd a'
untwine most n i (more_values (group xs) cs) (more_values (string m) cs') es es' a a' c c' e = absurd a'
untwine most n i (more_values (group xs) cs) (more_values (Value.chosen m x) cs') es es' a a' c c' e = absurd a'
untwine most n i (more_values (group xs) cs) (more_values (counted m x) cs') es es' a a' c c' e = absurd a'
untwine most n i (more_values (group xs) cs) (more_values (back m) cs') es es' a a' c c' e = absurd a'
untwine most n i (more_values (group xs) no_values) (more_values (group us) no_values) no_values no_values a a' c c' e =
    record { children = ap (λ z. more_values (group z) no_values) e; entries = refl }
untwine most n i (more_values (group xs) (more_values d cs)) (more_values (group us) cs') no_values es' a a' c c' e = absurd (omega (arith, c))
untwine most n i (more_values (group xs) no_values) (more_values (group us) (more_values d cs')) es no_values a a' c c' e = absurd (omega (arith, c'))
untwine most n i (more_values (group xs) no_values) (more_values (group us) cs') (more_values x es) es' a a' c c' e = absurd (omega (arith, c))
untwine most n i (more_values (group xs) cs) (more_values (group us) no_values) es (more_values x es') a a' c c' e = absurd (omega (arith, c'))
untwine most n i (more_values (group xs) no_values) (more_values (group us) (more_values d cs')) no_values (more_values x es') a a' c c' e = absurd (unlike xs us d cs' x es' e a.0 a'.0)
untwine most n i (more_values (group xs) (more_values d cs)) (more_values (group us) no_values) (more_values x es) no_values a a' c c' e = absurd (unlike us xs d cs x es (sym e) a'.0 a.0)
untwine most n i (more_values (group xs) (more_values d cs)) (more_values (group us) (more_values d' cs')) (more_values x es) no_values a a' c c' e = absurd (omega (arith, c'))
untwine most n i (more_values (group xs) (more_values d cs)) (more_values (group us) (more_values d' cs')) (more_values x es) (more_values u es') a a' c c' e =
    let both = sym (erased_append xs (more_values x (weave (more_values d cs) es))) ∙ e ∙ erased_append us (more_values u (weave (more_values d' cs') es')) in
    let as_many : count_values (all_erased xs) ≡ count_values (all_erased us) = erased_count xs _ a.0 ∙ sym (erased_count us _ a'.0) in
    let r = cut (all_erased xs) (all_erased us) _ _ as_many both in
    let f = r.rest in
    let head : erased x ≡ erased u = cc in
    let tail : all_erased (weave (more_values d cs) es) ≡ all_erased (weave (more_values d' cs') es') = cc in
    let rest = untwine most n (i + 1) (more_values d cs) (more_values d' cs') es es' a.1 a'.1 (omega (arith, c)) (omega (arith, c')) tail in
    record { children = ap₂ (λ y z. more_values (group y) z) r.first rest.children; entries = ap₂ more_values head rest.entries }

parted : (n : ℕ) (vs : Values) → vs ≡ append_values (first_values n vs) (other_values n vs)
parted zero vs = refl
parted (suc n) no_values = refl
parted (suc n) (more_values v vs) = ap (λ z. more_values v z) (parted n vs)

count_first : (n m : ℕ) (vs : Values) → count_values vs ≡ n + m → count_values (first_values n vs) ≡ n
count_first zero m vs e = refl
count_first (suc n) m no_values e = absurd (omega (arith, e))
count_first (suc n) m (more_values v vs) e = let h = count_first n m vs (omega (arith, e)) in omega (arith, h)

pub count_other : (n m : ℕ) (vs : Values) → count_values vs ≡ n + m → count_values (other_values n vs) ≡ m
count_other zero m vs e = omega (arith, e)
count_other (suc n) m no_values e = absurd (omega (arith, e))
count_other (suc n) m (more_values v vs) e = count_other n m vs (omega (arith, e))

-- ---- parts

length-append_parts : (ps qs : List Part) → length (ps ++ qs) ≡ length ps + length qs
length-append_parts [] qs = omega arith
length-append_parts (p ∷ ps) qs = let h = length-append_parts ps qs in omega (arith, h)

pub length-entries : (n : ℕ) (k : Shape) (a : ℕ) (v : Shape) (b : ℕ) → length (entries n k a v b) ≡ n
unfolding entries
length-entries zero k a v b = refl
length-entries (suc n) k a v b = let h = length-entries n k (a + size_of k) v (b + size_of v) in omega (arith, h)

pub length-children : (n level most : ℕ) (k v : Shape) (pos : ℕ) → length (children n level most k v pos) ≡ n
unfolding children
length-children zero level most k v pos = refl
length-children (suc n) level most k v pos = let h = length-children n level most k v (pos + 4) in omega (arith, h)

module _ (bytes others : List ℕ) (P : Type 0) where
  AllAkin-append : (ps ps' qs qs' : List Part) → AllAkin bytes others P ps ps' → AllAkin bytes others P qs qs' → AllAkin bytes others P (ps ++ qs) (ps' ++ qs')
  AllAkin-append [] [] qs qs' akin_none h = h
  AllAkin-append [] (p' ∷ ps') qs qs' k h = elim k [ ]
  AllAkin-append (p ∷ ps) [] qs qs' k h = elim k [ ]
  AllAkin-append (p ∷ ps) (p' ∷ ps') qs qs' (akin_more k ks) h = akin_more k (AllAkin-append ps ps' qs qs' ks h)

  entries_akin : (n : ℕ) (k : Shape) (a a' : ℕ) (v : Shape) (b b' : ℕ) → (P → a ≡ a') → (P → b ≡ b') → AllAkin bytes others P (entries n k a v b) (entries n k a' v b')
  unfolding entries
  entries_akin zero k a a' v b b' f g = akin_none
  entries_akin (suc n) k a a' v b b' f g =
      akin_more (akin_entry f g) (entries_akin n k (a + size_of k) (a' + size_of k) v (b + size_of v) (b' + size_of v) (λ x. ap (λ z. z + size_of k) (f x)) (λ x. ap (λ z. z + size_of v) (g x)))

  children_akin : (n level most : ℕ) (k v : Shape) (pos pos' : ℕ) → (P → pos ≡ pos') → AllAkin bytes others P (children n level most k v pos) (children n level most k v pos')
  unfolding children
  children_akin zero level most k v pos pos' f = akin_none
  children_akin (suc n) level most k v pos pos' f = akin_more (akin_child f) (children_akin n level most k v (pos + 4) (pos' + 4) (λ x. ap (λ z. z + 4) (f x)))

  items_akin : (t t' : ℕ) (it : Item) (i : ℕ) (cs : List ℕ) → (P → t ≡ t') → AllAkin bytes others P (tagged_items t it i cs) (tagged_items t' it i cs)
  unfolding tagged_items
  items_akin t t' it i [] f = akin_none
  items_akin t t' it i (c ∷ cs) f =
      tested (nat_lt c 128) (one it (t - (i + 1) * item_size it) (t' - (i + 1) * item_size it) (λ x. ap (λ z. z - (i + 1) * item_size it) (f x))) (items_akin t t' it (i + 1) cs f)
    where
      one : (it : Item) (p p' : ℕ) → (P → p ≡ p') → Akin bytes others P (item_part it p) (item_part it p')
      one (item s) p p' g = akin_at g
      one (place limit) p p' g = akin_place g

      tested : (b : Bool) {p p' : Part} {ps ps' : List Part} → Akin bytes others P p p' → AllAkin bytes others P ps ps' → AllAkin bytes others P (cond b (p ∷ ps) ps) (cond b (p' ∷ ps') ps')
      tested true h k = akin_more h k
      tested false h k = k

-- ---- what is claimed

pub record SameClaim (bytes others : List ℕ) (t t' : ℕ) (l l' : Label) (ps ps' : List Part) (vs vs' : Values) (s s' : Span) : Type 0 where
  pub steps : SameStep bytes others (t ≡ t') l l' ps ps' vs vs'
  pub here : s.start ≡ s'.start → t ≡ t'
  pub size : s.size ≡ s'.size
  pub align : s.align ≡ s'.align

pub chosen_claim : (b : Bool) {s r : Span} {l m : Label} {ps qs : List Part} → choose b (claimed s l ps) illegal ≡ claimed r m qs → (b ≡ true) × (claimed s l ps ≡ claimed r m qs)
unfolding choose
chosen_claim true e = (refl, e)
chosen_claim false e = absurd (cc)

-- the items of a leaf
leaf_says : (names : Names) (most : ℕ) (k r : Shape) (pos len : ℕ) (xs : List Part) (us : Values) (u : Value) {j : ℕ} {on : List OpenShared} {claims : List Region} {since until : List Visit} (bs : List ℕ)
    → HoldAll names bs j on xs us claims since until → entries len k (pos + keys_offset k) r (pos + values_offset most k r) ≡ xs → made whole us ≡ Some u → (u ≡ group us) × (count_values us ≡ len)
leaf_says names most k r pos len xs us u bs h e makes =
    (made_whole u us makes, count_parts names bs h ∙ ap length (sym e) ∙ length-entries len k (pos + keys_offset k) r (pos + values_offset most k r))

module _
    (names : Names) (bytes others : List ℕ)
    {level level' : ℕ} {inside inside' : List OpenShared} {ps ps' : List Part} {vs vs' : Values} {rs rs' : List Region} {before after before' after' : List Visit}
    (all : HoldAll names bytes level inside ps vs rs before after) (all' : HoldAll names others level' inside' ps' vs' rs' before' after')
    {l l' : Label} (v v' : Value) (m : made l vs ≡ Some v) (m' : made l' vs' ≡ Some v') (alike : erased v ≡ erased v')
  where
    pub step_node : (j most : ℕ) (k r : Shape) (pos pos' kind kind' : ℕ) (own own' : List ℕ) (s s' : Span) → IsPacked most kind vs → IsPacked most kind' vs'
        → node_content j most k r pos kind own ≡ claimed s l ps → node_content j most k r pos' kind' own' ≡ claimed s' l' ps' → SameClaim bytes others pos pos' l l' ps ps' vs vs' s s'
    unfolding node_content
    step_node j most k r pos pos' zero zero own own' s s' packed packed' e e' =
        let len = word_at own (links_offset most k r) in
        let len' = word_at own' (links_offset most k r) in
        let c = (chosen_claim (nat_le j 32 && nat_le len most) e).1 in
        let c' = (chosen_claim (nat_le j 32 && nat_le len' most) e').1 in
        let l1 : whole ≡ l = cc in
        let l2 : whole ≡ l' = cc in
        let p1 : entries len k (pos + keys_offset k) r (pos + values_offset most k r) ≡ ps = cc in
        let p2 : entries len' k (pos' + keys_offset k) r (pos' + values_offset most k r) ≡ ps' = cc in
        let s1 : node_span 1 most k r pos ≡ s = cc in
        let s2 : node_span 1 most k r pos' ≡ s' = cc in
        let x = leaf_says names most k r pos len ps vs v bytes all p1 (subst (λ y. made y vs ≡ Some v) (sym l1) m) in
        let x' = leaf_says names most k r pos' len' ps' vs' v' others all' p2 (subst (λ y. made y vs' ≡ Some v') (sym l2) m') in
        let both : group (all_erased vs) ≡ group (all_erased vs') = ap erased (sym x.0) ∙ alike ∙ ap erased x'.0 in
        let values : all_erased vs ≡ all_erased vs' = cc in
        let one : len ≡ len' = sym x.1 ∙ sym (count_erased vs) ∙ ap count_values values ∙ count_erased vs' ∙ x'.1 in
        record {
          steps = record {
            label = sym l1 ∙ l2;
            parts = subst (λ y. AllAkin bytes others (pos ≡ pos') y ps') p1 (subst (λ y. AllAkin bytes others (pos ≡ pos') (entries len k (pos + keys_offset k) r (pos + values_offset most k r)) y) p2
                (subst (λ y. AllAkin bytes others (pos ≡ pos') (entries len k (pos + keys_offset k) r (pos + values_offset most k r)) (entries y k (pos' + keys_offset k) r (pos' + values_offset most k r))) one
                (entries_akin bytes others (pos ≡ pos') len k (pos + keys_offset k) (pos' + keys_offset k) r (pos + values_offset most k r) (pos' + values_offset most k r) (λ z. ap (λ y. y + keys_offset k) z) (λ z. ap (λ y. y + values_offset most k r) z))));
            values = values;
          };
          here = λ z. ap (λ (y : Span). y.start) s1 ∙ z ∙ ap (λ (y : Span). y.start) (sym s2);
          size = ap (λ (y : Span). y.size) (sym s1) ∙ ap (λ (y : Span). y.size) s2;
          align = ap (λ (y : Span). y.align) (sym s1) ∙ ap (λ (y : Span). y.align) s2;
        }
    step_node j most k r pos pos' (suc zero) (suc zero) own own' s s' packed packed' e e' =
        let qs = children (most + 1) (j + 1) most k r (pos + links_offset most k r) ++ entries most k (pos + keys_offset k) r (pos + values_offset most k r) in
        let qs' = children (most + 1) (j + 1) most k r (pos' + links_offset most k r) ++ entries most k (pos' + keys_offset k) r (pos' + values_offset most k r) in
        let c = (chosen_claim (nat_le j 32) e).1 in
        let c' = (chosen_claim (nat_le j 32) e').1 in
        let l1 : woven (most + 1) ≡ l = cc in
        let l2 : woven (most + 1) ≡ l' = cc in
        let p1 : qs ≡ ps = cc in
        let p2 : qs' ≡ ps' = cc in
        let s1 : node_span (most + 1) most k r pos ≡ s = cc in
        let s2 : node_span (most + 1) most k r pos' ≡ s' = cc in
        let x = made_woven (most + 1) v vs (subst (λ y. made y vs ≡ Some v) (sym l1) m) in
        let x' = made_woven (most + 1) v' vs' (subst (λ y. made y vs' ≡ Some v') (sym l2) m') in
        let cs = first_values (most + 1) vs in
        let es = other_values (most + 1) vs in
        let cs' = first_values (most + 1) vs' in
        let es' = other_values (most + 1) vs' in
        let n : count_values vs ≡ (most + 1) + most =
        count_parts names bytes all ∙ ap length (sym p1) ∙ length-append_parts (children (most + 1) (j + 1) most k r (pos + links_offset most k r)) (entries most k (pos + keys_offset k) r (pos + values_offset most k r))
        ∙ ap₂ (λ y z. y + z) (length-children (most + 1) (j + 1) most k r (pos + links_offset most k r)) (length-entries most k (pos + keys_offset k) r (pos + values_offset most k r)) in
        let n' : count_values vs' ≡ (most + 1) + most =
        count_parts names others all' ∙ ap length (sym p2) ∙ length-append_parts (children (most + 1) (j + 1) most k r (pos' + links_offset most k r)) (entries most k (pos' + keys_offset k) r (pos' + values_offset most k r))
        ∙ ap₂ (λ y z. y + z) (length-children (most + 1) (j + 1) most k r (pos' + links_offset most k r)) (length-entries most k (pos' + keys_offset k) r (pos' + values_offset most k r)) in
        let both : group (all_erased (weave cs es)) ≡ group (all_erased (weave cs' es')) = ap erased (sym x) ∙ alike ∙ ap erased x' in
        let woven_same : all_erased (weave cs es) ≡ all_erased (weave cs' es') = cc in
        let items : count_values (weave cs' es') ≡ count_values (weave cs es) = sym (count_erased (weave cs' es')) ∙ ap count_values (sym woven_same) ∙ count_erased (weave cs es) in
        let a1 = count_first (most + 1) most vs n in
        let a2 = count_other (most + 1) most vs n in
        let b1 = count_first (most + 1) most vs' n' in
        let b2 = count_other (most + 1) most vs' n' in
        let u = untwine most (count_values (weave cs es)) 0 cs cs' es es' packed.1 (subst (λ y. ArePacked most y 0 cs') items packed'.1) (omega (arith, a1, a2)) (omega (arith, b1, b2)) woven_same in
        record {
          steps = record {
            label = sym l1 ∙ l2;
            parts = subst (λ y. AllAkin bytes others (pos ≡ pos') y ps') p1 (subst (λ y. AllAkin bytes others (pos ≡ pos') qs y) p2
                (AllAkin-append bytes others (pos ≡ pos') _ _ _ _ (children_akin bytes others (pos ≡ pos') (most + 1) (j + 1) most k r (pos + links_offset most k r) (pos' + links_offset most k r) (λ z. ap (λ y. y + links_offset most k r) z))
                (entries_akin bytes others (pos ≡ pos') most k (pos + keys_offset k) (pos' + keys_offset k) r (pos + values_offset most k r) (pos' + values_offset most k r) (λ z. ap (λ y. y + keys_offset k) z) (λ z. ap (λ y. y + values_offset most k r) z))));
            values = ap all_erased (parted (most + 1) vs) ∙ erased_append cs es ∙ ap₂ append_values u.children u.entries ∙ sym (erased_append cs' es') ∙ ap all_erased (sym (parted (most + 1) vs'));
          };
          here = λ z. ap (λ (y : Span). y.start) s1 ∙ z ∙ ap (λ (y : Span). y.start) (sym s2);
          size = ap (λ (y : Span). y.size) (sym s1) ∙ ap (λ (y : Span). y.size) s2;
          align = ap (λ (y : Span). y.align) (sym s1) ∙ ap (λ (y : Span). y.align) s2;
        }
    step_node j most k r pos pos' zero (suc zero) own own' s s' packed packed' e e' =
        let len = word_at own (links_offset most k r) in
        let d = chosen_claim (nat_le j 32 && nat_le len most) e in
        let c = d.1 in
        let c' = (chosen_claim (nat_le j 32) e').1 in
        let l1 : whole ≡ l = cc in
        let l2 : woven (most + 1) ≡ l' = cc in
        let p1 : entries len k (pos + keys_offset k) r (pos + values_offset most k r) ≡ ps = cc in
        let x = leaf_says names most k r pos len ps vs v bytes all p1 (subst (λ y. made y vs ≡ Some v) (sym l1) m) in
        let x' = made_woven (most + 1) v' vs' (subst (λ y. made y vs' ≡ Some v') (sym l2) m') in
        let few : len ≤ most = grind (arith, leb-true) in
        let items = sym (ap (λ y. count_values (members y)) x.0) ∙ same_members v v' alike ∙ ap (λ y. count_values (members y)) x' in
        let many = packed'.0 in
        let as_len = x.1 in
        absurd (omega (arith, items, many, as_len, few))
    step_node j most k r pos pos' (suc zero) zero own own' s s' packed packed' e e' =
        let len = word_at own' (links_offset most k r) in
        let d = chosen_claim (nat_le j 32 && nat_le len most) e' in
        let c = d.1 in
        let c' = (chosen_claim (nat_le j 32) e).1 in
        let l1 : woven (most + 1) ≡ l = cc in
        let l2 : whole ≡ l' = cc in
        let p2 : entries len k (pos' + keys_offset k) r (pos' + values_offset most k r) ≡ ps' = cc in
        let x = made_woven (most + 1) v vs (subst (λ y. made y vs ≡ Some v) (sym l1) m) in
        let x' = leaf_says names most k r pos' len ps' vs' v' others all' p2 (subst (λ y. made y vs' ≡ Some v') (sym l2) m') in
        let few : len ≤ most = grind (arith, leb-true) in
        let items = sym (ap (λ y. count_values (members y)) x'.0) ∙ sym (same_members v v' alike) ∙ ap (λ y. count_values (members y)) x in
        let many = packed.0 in
        let as_len = x'.1 in
        absurd (omega (arith, items, many, as_len, few))
    step_node j most k r pos pos' (suc (suc kind)) kind' own own' s s' packed packed' e e' = absurd (cc)
    step_node j most k r pos pos' zero (suc (suc kind')) own own' s s' packed packed' e e' = absurd (cc)
    step_node j most k r pos pos' (suc zero) (suc (suc kind')) own own' s s' packed packed' e e' = absurd (cc)

    pub step_buckets : (t t' len cap : ℕ) (it : Item) (own own' : List ℕ) (s s' : Span) → own ≡ own'
        → buckets_content t len cap it own ≡ claimed s l ps → buckets_content t' len cap it own' ≡ claimed s' l' ps' → SameClaim bytes others t t' l l' ps ps' vs vs' s s'
    unfolding buckets_content buckets_span
    step_buckets t t' len cap it own own' s s' eo e e' =
        let d = chosen_claim _ e in
        let d' = chosen_claim _ e' in
        let c = d.1 in
        let c' = d'.1 in
        let room : cap * item_size it ≤ t = grind (arith, leb-true) in
        let room' : cap * item_size it ≤ t' = grind (arith, leb-true) in
        let l1 : whole ≡ l = cc in
        let l2 : whole ≡ l' = cc in
        let p1 : tagged_items t it 0 (take cap own) ≡ ps = cc in
        let p2 : tagged_items t' it 0 (take cap own') ≡ ps' = cc in
        let s1 : record { start = t - cap * item_size it; size = cap * item_size it + control_count cap; align = item_align it } ≡ s = cc in
        let s2 : record { start = t' - cap * item_size it; size = cap * item_size it + control_count cap; align = item_align it } ≡ s' = cc in
        let x = made_whole v vs (subst (λ y. made y vs ≡ Some v) (sym l1) m) in
        let x' = made_whole v' vs' (subst (λ y. made y vs' ≡ Some v') (sym l2) m') in
        let both : group (all_erased vs) ≡ group (all_erased vs') = ap erased (sym x) ∙ alike ∙ ap erased x' in
        record {
          steps = record {
            label = sym l1 ∙ l2;
            parts = subst (λ y. AllAkin bytes others (t ≡ t') y ps') p1 (subst (λ y. AllAkin bytes others (t ≡ t') (tagged_items t it 0 (take cap own)) y) (ap (λ y. tagged_items t' it 0 (take cap y)) eo ∙ p2)
                (items_akin bytes others (t ≡ t') t t' it 0 (take cap own) (λ z. z)));
            values = cc;
          };
          here = λ z. let y : t - cap * item_size it ≡ t' - cap * item_size it = ap (λ (i : Span). i.start) s1 ∙ z ∙ ap (λ (i : Span). i.start) (sym s2) in omega (arith, room, room', y);
          size = ap (λ (y : Span). y.size) (sym s1) ∙ ap (λ (y : Span). y.size) s2;
          align = ap (λ (y : Span). y.align) (sym s1) ∙ ap (λ (y : Span). y.align) s2;
        }
