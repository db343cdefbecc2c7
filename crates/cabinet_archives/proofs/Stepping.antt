-- What a node is, and what one step from it leads to, by its value.
use Rattle.std.proofs.Common.{◌≡◌, ℕ, zero, suc, ◌<◌, ◌≤◌, List, [], ◌∷◌, ◌++◌, Option, Some, None, refl, sym, ap, subst, ◌∙◌, arith, ◌⊎◌, inl, inr}
use Rattle.archive_shape_layout.specs.Value.{Value, Values, count_values}
use Rattle.archive_shape_layout.specs.Value.Value.{string, group, chosen, counted}
use Rattle.archive_shape_layout.specs.Value.Values.{no_values}
use Rattle.archive_shape_layout.specs.Content.{members}
use Rattle.archive_shape_layout.specs.Path.{value_in}
use Rattle.cabinet_text_grammar.specs.Keys.{MapKind, ordered, hashed, kept}
use Rattle.cabinet_text_grammar.specs.Tree.{Leaf, truth, number, text}
use Rattle.cabinet_text_grammar.specs.Tree.{Tree, leaf, shared, nothing, just, list, map, whole, Trees, Pairs}
use Rattle.cabinet_text_grammar.specs.Path.{Step, key, place, inside, node_at, node_in, node_by}
use Rattle.cabinet_documents.specs.Denotes.{Denotes, DenoteAll, DenotePairs, tagged_value, pair_value}
use Rattle.cabinet_documents.specs.Denotes.Denotes.{denotes_truth, denotes_number, denotes_text, denotes_shared, denotes_nothing, denotes_some, denotes_list, denotes_ordered, denotes_hashed, denotes_kept, denotes_whole}
use Rattle.cabinet_documents.specs.Denotes.DenoteAll.{denote_none, denote_more}
use Rattle.cabinet_documents.specs.Denotes.DenotePairs.{denote_no_pairs, denote_pair}
use Rattle.cabinet_documents.specs.Laws.{payload_of}
use Rattle.cabinet_documents.specs.Order.{arranged}
use Rattle.cabinet_documents.proofs.ByKey.{in_order, node_in_order, node_here, node_past, keys_same, keys_differ}
use Rattle.cabinet_documents.proofs.Changing.{of_some, of_list, of_whole}
use Rattle.cabinet_text_nodes.proofs.Paths.{then_at, first_step}

-- ---- paths, one after the other

then_both : (found : Option Tree) (path more : List Step) → ((u : Tree) → node_at u (path ++ more) ≡ then_at (node_at u path) more) → then_at found (path ++ more) ≡ then_at (then_at found path) more
then_both None path more each = refl
then_both (Some u) path more each = each u

-- a path continues from where its first steps lead
pub goes_on_at : (path more : List Step) (t : Tree) → node_at t (path ++ more) ≡ then_at (node_at t path) more
goes_on_at [] more t = refl
goes_on_at (s ∷ path) more t =
    first_step t s (path ++ more)
    ∙ then_both (node_at t (s ∷ [])) path more (goes_on_at path more)
    ∙ sym (ap (λ found. then_at found more) (first_step t s path))

-- ---- what a node is, by its value

pub nothing_is : {v : Value} {t : Tree} → v ≡ tagged_value 4 (chosen 0 no_values) → Denotes v t → t ≡ nothing
nothing_is e (denotes_truth f g) = absurd (cc)
nothing_is e (denotes_number f g) = absurd (cc)
nothing_is e (denotes_text f g) = absurd (cc)
nothing_is e (denotes_shared f g) = absurd (cc)
nothing_is e (denotes_nothing f g) = g
nothing_is e (denotes_some f g d) = absurd (cc)
nothing_is e (denotes_list f g d) = absurd (cc)
nothing_is e (denotes_ordered f g d) = absurd (cc)
nothing_is e (denotes_hashed f g d) = absurd (cc)
nothing_is e (denotes_kept f g d) = absurd (cc)
nothing_is e (denotes_whole f g d) = absurd (cc)

-- the position of a shared text is left out
pub shared_is : {v : Value} {t : Tree} (at : ℕ) (s : List ℕ) → v ≡ tagged_value 3 (counted at (string s)) → Denotes v t → t ≡ shared s
shared_is at s e (denotes_truth f g) = absurd (cc)
shared_is at s e (denotes_number f g) = absurd (cc)
shared_is at s e (denotes_text f g) = absurd (cc)
shared_is at s e (denotes_shared {at = other} {s = u} f g) = let same : u ≡ s = cc in g ∙ ap shared same
shared_is at s e (denotes_nothing f g) = absurd (cc)
shared_is at s e (denotes_some f g d) = absurd (cc)
shared_is at s e (denotes_list f g d) = absurd (cc)
shared_is at s e (denotes_ordered f g d) = absurd (cc)
shared_is at s e (denotes_hashed f g d) = absurd (cc)
shared_is at s e (denotes_kept f g d) = absurd (cc)
shared_is at s e (denotes_whole f g d) = absurd (cc)

same_leaf : (l m : Leaf) → payload_of l ≡ payload_of m → l ≡ m
same_leaf (truth b) (truth c) e = let same : b ≡ c = cc in ap truth same
same_leaf (truth b) (number n) e = absurd (cc)
same_leaf (truth b) (text s) e = absurd (cc)
same_leaf (number m) (truth c) e = absurd (cc)
same_leaf (number m) (number n) e = let same : m ≡ n = cc in ap number same
same_leaf (number m) (text s) e = absurd (cc)
same_leaf (text s) (truth c) e = absurd (cc)
same_leaf (text s) (number n) e = absurd (cc)
same_leaf (text s) (text u) e = let same : s ≡ u = cc in ap text same

-- a tag below 3 is that of the leaf that the payload is
pub leaf_is : {v w : Value} {t : Tree} {tag : ℕ} (l : Leaf) → v ≡ tagged_value tag w → tag < 3 → w ≡ payload_of l → Denotes v t → t ≡ leaf l
leaf_is {w = w} l e less p (denotes_truth {b = b} f g) = let same : payload_of (truth b) ≡ w = cc in g ∙ ap leaf (same_leaf (truth b) l (same ∙ p))
leaf_is {w = w} l e less p (denotes_number {n = n} f g) = let same : payload_of (number n) ≡ w = cc in g ∙ ap leaf (same_leaf (number n) l (same ∙ p))
leaf_is {w = w} l e less p (denotes_text {s = s} f g) = let same : payload_of (text s) ≡ w = cc in g ∙ ap leaf (same_leaf (text s) l (same ∙ p))
leaf_is {tag = tag} l e less p (denotes_shared f g) = let is : tag ≡ 3 = cc in absurd (omega (arith, less, is))
leaf_is {tag = tag} l e less p (denotes_nothing f g) = let is : tag ≡ 4 = cc in absurd (omega (arith, less, is))
leaf_is {tag = tag} l e less p (denotes_some f g d) = let is : tag ≡ 4 = cc in absurd (omega (arith, less, is))
leaf_is {tag = tag} l e less p (denotes_list f g d) = let is : tag ≡ 5 = cc in absurd (omega (arith, less, is))
leaf_is {tag = tag} l e less p (denotes_ordered f g d) = let is : tag ≡ 6 = cc in absurd (omega (arith, less, is))
leaf_is {tag = tag} l e less p (denotes_hashed f g d) = let is : tag ≡ 7 = cc in absurd (omega (arith, less, is))
leaf_is {tag = tag} l e less p (denotes_kept f g d) = let is : tag ≡ 8 = cc in absurd (omega (arith, less, is))
leaf_is {tag = tag} l e less p (denotes_whole f g d) = let is : tag ≡ 9 = cc in absurd (omega (arith, less, is))

-- ---- steps that lead nowhere

-- only a step inside leads on from an option and from a whole
abbrev pub IsNotInside : Step → Type 0
IsNotInside inside = ⊥
IsNotInside s = Unit {0}

-- only a step to a place leads on from a list
abbrev pub IsNoPlace : Step → Type 0
IsNoPlace (place i) = ⊥
IsNoPlace s = Unit {0}

-- only a step to a key leads on from a map
abbrev pub IsNoKey : Step → Type 0
IsNoKey (key k) = ⊥
IsNoKey s = Unit {0}

just_other : (u : Tree) (s : Step) → IsNotInside s → node_at (just u) (s ∷ []) ≡ None
just_other u (key k) other = refl
just_other u (place i) other = refl
just_other u inside other = absurd other

whole_other : (u : Tree) (s : Step) → IsNotInside s → node_at (whole u) (s ∷ []) ≡ None
whole_other u (key k) other = refl
whole_other u (place i) other = refl
whole_other u inside other = absurd other

list_other : (ts : Trees) (s : Step) → IsNoPlace s → node_at (list ts) (s ∷ []) ≡ None
list_other ts (key k) other = refl
list_other ts (place i) other = absurd other
list_other ts inside other = refl

map_other : (kind : MapKind) (ps : Pairs) (s : Step) → IsNoKey s → node_at (map kind ps) (s ∷ []) ≡ None
map_other kind ps (key k) other = absurd other
map_other kind ps (place i) other = refl
map_other kind ps inside other = refl

-- an option, a whole, a list and a map alone lead on, each by its own step
pub other_step : {v w : Value} {t : Tree} {tag : ℕ} (s : Step) → v ≡ tagged_value tag w → ((tag ≡ 4) ⊎ (tag ≡ 9) → IsNotInside s) → (tag ≡ 5 → IsNoPlace s) → (5 < tag → tag < 9 → IsNoKey s) → Denotes v t → node_at t (s ∷ []) ≡ None
other_step s e apart beside keyless (denotes_truth f g) = ap (λ u. node_at u (s ∷ [])) g
other_step s e apart beside keyless (denotes_number f g) = ap (λ u. node_at u (s ∷ [])) g
other_step s e apart beside keyless (denotes_text f g) = ap (λ u. node_at u (s ∷ [])) g
other_step s e apart beside keyless (denotes_shared f g) = ap (λ u. node_at u (s ∷ [])) g
other_step s e apart beside keyless (denotes_nothing f g) = ap (λ u. node_at u (s ∷ [])) g
other_step {tag = tag} s e apart beside keyless (denotes_some {u = u} f g d) = let is : tag ≡ 4 = cc in ap (λ u. node_at u (s ∷ [])) g ∙ just_other u s (apart (inl is))
other_step {tag = tag} s e apart beside keyless (denotes_list {ts = ts} f g d) = let is : tag ≡ 5 = cc in ap (λ u. node_at u (s ∷ [])) g ∙ list_other ts s (beside is)
other_step {tag = tag} s e apart beside keyless (denotes_ordered {ps = ps} f g d) = let is : tag ≡ 6 = cc in ap (λ u. node_at u (s ∷ [])) g ∙ map_other ordered ps s (keyless (omega (arith, is)) (omega (arith, is)))
other_step {tag = tag} s e apart beside keyless (denotes_hashed {ps = ps} f g d) = let is : tag ≡ 7 = cc in ap (λ u. node_at u (s ∷ [])) g ∙ map_other hashed (arranged ps) s (keyless (omega (arith, is)) (omega (arith, is)))
other_step {tag = tag} s e apart beside keyless (denotes_kept {ps = ps} f g d) = let is : tag ≡ 8 = cc in ap (λ u. node_at u (s ∷ [])) g ∙ map_other kept ps s (keyless (omega (arith, is)) (omega (arith, is)))
other_step {tag = tag} s e apart beside keyless (denotes_whole {u = u} f g d) = let is : tag ≡ 9 = cc in ap (λ u. node_at u (s ∷ [])) g ∙ whole_other u s (apart (inr is))

-- and into none there is no step
pub none_step : {v : Value} {t : Tree} (s : Step) → v ≡ tagged_value 4 (chosen 0 no_values) → Denotes v t → node_at t (s ∷ []) ≡ None
none_step s e d = ap (λ u. node_at u (s ∷ [])) (nothing_is e d)

-- ---- options

-- the node that a step leads to, by its value
pub record StepFound (u : Value) (s : Step) (t : Tree) : Type 0 where
  pub tree : Tree
  pub there : node_at t (s ∷ []) ≡ Some tree
  pub denotes : Denotes u tree

pub some_step : {v u : Value} {t : Tree} → v ≡ tagged_value 4 (tagged_value 1 u) → Denotes v t → StepFound u inside t
some_step e d =
    let o = of_some e d in
    record { tree = o.inner; there = ap (λ t. node_at t (inside ∷ [])) o.is; denotes = o.denotes }

-- ---- wholes

pub whole_step : {v u : Value} {t : Tree} {at : ℕ} → v ≡ tagged_value 9 (counted at u) → Denotes v t → StepFound u inside t
whole_step e d =
    let o = of_whole e d in
    record { tree = o.inner; there = ap (λ t. node_at t (inside ∷ [])) o.is; denotes = o.denotes }

-- ---- lists

past_end : {vs : Values} {ts : Trees} (i : ℕ) → DenoteAll vs ts → count_values vs ≤ i → node_in ts i [] ≡ None
past_end i (denote_none e f) past = ap (λ ts. node_in ts i []) f
past_end zero (denote_more e f d ds) past = let counted = ap count_values e in absurd (omega (arith, counted, past))
past_end (suc i) (denote_more e f d ds) past =
    let counted = ap count_values e in
    ap (λ ts. node_in ts (suc i) []) f ∙ past_end i ds (omega (arith, counted, past))

-- no element lies past the end
pub past_step : {v : Value} {vs : Values} {t : Tree} (i : ℕ) → v ≡ tagged_value 5 (group vs) → count_values vs ≤ i → Denotes v t → node_at t (place i ∷ []) ≡ None
past_step i e past d = let l = of_list e d in ap (λ t. node_at t (place i ∷ [])) l.is ∙ past_end i l.denotes past

record ElementFound (u : Value) (i : ℕ) (ts : Trees) : Type 0 where
  tree : Tree
  there : node_in ts i [] ≡ Some tree
  denotes : Denotes u tree

element_found : {vs : Values} {ts : Trees} (i : ℕ) (u : Value) → DenoteAll vs ts → value_in i vs ≡ Some u → ElementFound u i ts
element_found i u (denote_none e f) g = let none : value_in i no_values ≡ Some u = subst (λ vs. value_in i vs ≡ Some u) e g in absurd (cc)
element_found zero u (denote_more {v = v} {t = t} e f d ds) g =
    let here : ◌≡◌ {A = Option Value} (Some v) (Some u) = subst (λ vs. value_in zero vs ≡ Some u) e g in
    let same : v ≡ u = cc in
    record { tree = t; there = ap (λ ts. node_in ts zero []) f; denotes = subst (λ v. Denotes v t) same d }
element_found (suc i) u (denote_more e f d ds) g =
    let r = element_found i u ds (subst (λ vs. value_in (suc i) vs ≡ Some u) e g) in
    record { tree = r.tree; there = ap (λ ts. node_in ts (suc i) []) f ∙ r.there; denotes = r.denotes }

pub element_step : {v : Value} {vs : Values} {t : Tree} (i : ℕ) (u : Value) → v ≡ tagged_value 5 (group vs) → value_in i vs ≡ Some u → Denotes v t → StepFound u (place i) t
element_step i u e at d =
    let l = of_list e d in
    let r = element_found i u l.denotes at in
    record { tree = r.tree; there = ap (λ t. node_at t (place i ∷ [])) l.is ∙ r.there; denotes = r.denotes }

-- ---- maps

record PairFound (u : Value) (k : List ℕ) (ps : Pairs) : Type 0 where
  tree : Tree
  there : node_by ps k [] ≡ Some tree
  denotes : Denotes u tree

-- the first item with a key is the pair that the key leads to
pair_found : {vs : Values} {ps : Pairs} (k : List ℕ) (i : ℕ) (u : Value) → DenotePairs vs ps → value_in i vs ≡ Some (pair_value k u)
    → ((j : ℕ) (other : Value) → j < i → value_in j vs ≡ Some (pair_value k other) → ⊥)
    → PairFound u k ps
pair_found k i u (denote_no_pairs e f) g first = let none : value_in i no_values ≡ Some (pair_value k u) = subst (λ vs. value_in i vs ≡ Some (pair_value k u)) e g in absurd (cc)
pair_found k zero u (denote_pair {k = l} {v = v} {t = t} {ps = ps} e f d ds) g first =
    let here : ◌≡◌ {A = Option Value} (Some (pair_value l v)) (Some (pair_value k u)) = subst (λ vs. value_in zero vs ≡ Some (pair_value k u)) e g in
    let same : v ≡ u = cc in
    let key_is : l ≡ k = cc in
    record { tree = t; there = ap (λ ps. node_by ps k []) f ∙ node_here l t ps k [] (keys_same l k key_is); denotes = subst (λ v. Denotes v t) same d }
pair_found k (suc i) u (denote_pair {k = l} {v = v} {vs = vs} {t = t} {ps = ps} e f d ds) g first =
    let r = pair_found k i u ds (subst (λ vs. value_in (suc i) vs ≡ Some (pair_value k u)) e g) (λ j other less x. first (suc j) other (omega (arith, less)) (ap (value_in (suc j)) e ∙ x)) in
    let apart : l ≡ k → ⊥ = λ same. first zero v (omega arith) (ap (value_in zero) e ∙ ap (λ x. Some (pair_value x v)) same) in
    record { tree = r.tree; there = ap (λ ps. node_by ps k []) f ∙ node_past l t ps k [] (keys_differ l k apart) ∙ r.there; denotes = r.denotes }

pair_missing : {vs : Values} {ps : Pairs} (k : List ℕ) → DenotePairs vs ps → ((i : ℕ) (u : Value) → value_in i vs ≡ Some (pair_value k u) → ⊥) → node_by ps k [] ≡ None
pair_missing k (denote_no_pairs e f) none = ap (λ ps. node_by ps k []) f
pair_missing k (denote_pair {k = l} {v = v} {t = t} {ps = ps} e f d ds) none =
    let apart : l ≡ k → ⊥ = λ same. none zero v (ap (value_in zero) e ∙ ap (λ x. Some (pair_value x v)) same) in
    ap (λ ps. node_by ps k []) f ∙ node_past l t ps k [] (keys_differ l k apart) ∙ pair_missing k ds (λ i u x. none (suc i) u (ap (value_in (suc i)) e ∙ x))

-- a map, by its payload: its pairs are those of the payload, in the order of its kind
pub record MapBy (kind : MapKind) (w : Value) (t : Tree) : Type 0 where
  pub pairs : Pairs
  pub is : t ≡ map kind (in_order kind pairs)
  pub denotes : DenotePairs (members w) pairs

-- the kind of a tag
abbrev pub kind_of : ℕ → MapKind
kind_of (suc (suc (suc (suc (suc (suc zero)))))) = ordered
kind_of (suc (suc (suc (suc (suc (suc (suc zero))))))) = hashed
kind_of tag = kept

pub map_by : {v w : Value} {t : Tree} {tag : ℕ} → v ≡ tagged_value tag w → 5 < tag → tag < 9 → Denotes v t → MapBy (kind_of tag) w t
map_by {v = v} {w = w} {t = t} {tag = tag} e high low d = by refl d
  where
    some : (n : ℕ) (ps : Pairs) (vs : Values) → tag ≡ n → w ≡ group vs → t ≡ map (kind_of n) (in_order (kind_of n) ps) → DenotePairs vs ps → MapBy (kind_of tag) w t
    some n ps vs is same g ds =
        subst (λ x. MapBy (kind_of x) w t) (sym is)
        (record { pairs = ps; is = g; denotes = subst (λ x. DenotePairs (members x) ps) (sym same) ds })

    by : {u : Value} → v ≡ u → Denotes u t → MapBy (kind_of tag) w t
    by q (denotes_truth f g) = let is : tag ≡ 0 = cc in absurd (omega (arith, high, is))
    by q (denotes_number f g) = let is : tag ≡ 1 = cc in absurd (omega (arith, high, is))
    by q (denotes_text f g) = let is : tag ≡ 2 = cc in absurd (omega (arith, high, is))
    by q (denotes_shared f g) = let is : tag ≡ 3 = cc in absurd (omega (arith, high, is))
    by q (denotes_nothing f g) = let is : tag ≡ 4 = cc in absurd (omega (arith, high, is))
    by q (denotes_some f g ds) = let is : tag ≡ 4 = cc in absurd (omega (arith, high, is))
    by q (denotes_list f g ds) = let is : tag ≡ 5 = cc in absurd (omega (arith, high, is))
    by q (denotes_ordered {vs = vs} {ps = ps} f g ds) = let is : tag ≡ 6 = cc in let same : w ≡ group vs = cc in some 6 ps vs is same g ds
    by q (denotes_hashed {vs = vs} {ps = ps} f g ds) = let is : tag ≡ 7 = cc in let same : w ≡ group vs = cc in some 7 ps vs is same g ds
    by q (denotes_kept {vs = vs} {ps = ps} f g ds) = let is : tag ≡ 8 = cc in let same : w ≡ group vs = cc in some 8 ps vs is same g ds
    by q (denotes_whole f g ds) = let is : tag ≡ 9 = cc in absurd (omega (arith, low, is))

-- ---- a step by a key

pub key_step : {v w : Value} {t : Tree} {tag : ℕ} (k : List ℕ) (i : ℕ) (u : Value) → v ≡ tagged_value tag w → 5 < tag → tag < 9 → value_in i (members w) ≡ Some (pair_value k u)
    → ((j : ℕ) (other : Value) → j < i → value_in j (members w) ≡ Some (pair_value k other) → ⊥)
    → Denotes v t → StepFound u (key k) t
key_step {tag = tag} k i u e high low at first d =
    let o = map_by e high low d in
    let r = pair_found k i u o.denotes at first in
    record { tree = r.tree; there = ap (λ t. node_at t (key k ∷ [])) o.is ∙ (node_in_order (kind_of tag) k [] o.pairs ∙ r.there); denotes = r.denotes }

pub no_key_step : {v w : Value} {t : Tree} {tag : ℕ} (k : List ℕ) → v ≡ tagged_value tag w → 5 < tag → tag < 9 → ((i : ℕ) (u : Value) → value_in i (members w) ≡ Some (pair_value k u) → ⊥) → Denotes v t → node_at t (key k ∷ []) ≡ None
no_key_step {tag = tag} k e high low none d = let o = map_by e high low d in ap (λ t. node_at t (key k ∷ [])) o.is ∙ (node_in_order (kind_of tag) k [] o.pairs ∙ pair_missing k o.denotes none)
