-- What is settled where the layout leaves a choice, stated of whole values and not of what is seen of them.
use Rattle.std.proofs.Common.{false, Bool, arith, refl, ap, ap₂, sym, subst, ◌∙◌, ◌<◌, ◌≤◌, zero, suc, ◌+◌, drop, slice_index, ◌≡◌, ℕ, true, List, [], ◌∷◌}
use Rattle.std.specs.Prelude.{⊤}
use Rattle.archive_shape_layout.specs.Bytes.{window}
use Rattle.archive_shape_layout.specs.Value.{Value, Values, count_values, append_values}
use Rattle.archive_shape_layout.specs.Value.Value.{natural, integer, boolean, string, group, chosen, counted, back}
use Rattle.archive_shape_layout.specs.Value.Values.{no_values, more_values}
use Rattle.archive_shape_layout.specs.Content.{Part, members, weave, first_values, other_values, control_count}
use Rattle.archive_shape_layout.specs.Content.Part.{at, behind, node, child, entry, buckets, place_at}
use Rattle.archive_shape_canonical.specs.Packed.{IsPacked, ArePacked}
use Rattle.archive_shape_canonical.specs.Seen.{first_seen_bytes, blank, blanks, all_blank, key_alone, keys_alone, by_keys, all_by_keys, first_seen_values}
use Rattle.archive_shape_canonical.specs.Settled.{Fit, IsFilledSo, IsAsked, IsFitted, HasItems, LeadsSettled, IsSettled, naturals}
use Rattle.archive_shape_canonical.specs.Sharing.{erased, all_erased}

-- ---- the same of whole values

-- what is chosen for a table or an index map, by its items or entries without the positions of shared ones
pub record Choices : Type 0 where
  pub capacity : ℕ → ℕ
  pub table_controls : Value → List ℕ
  pub map_controls : Value → List ℕ
  pub map_numbers : Value → Value

abbrev pub choices : Fit → Choices
choices fit = record {
  capacity = fit.capacity;
  table_controls = λ items. fit.table_controls (keys_alone (members items));
  map_controls = λ entries. fit.map_controls (keys_alone (members entries));
  map_numbers = λ entries. group (naturals (fit.map_numbers (keys_alone (members entries))));
}

abbrev pub IsFilledAs : Choices → List ℕ → ℕ → ℕ → ℕ → Values → Type 0
IsFilledAs fit bytes target len cap (more_values items no_values) =
    (count_values (members items) ≡ len) × (cap ≡ fit.capacity len) × (window bytes target (control_count cap) ≡ fit.table_controls (erased items))
IsFilledAs fit bytes target len cap (more_values numbers (more_values entries no_values)) =
    (count_values (members entries) ≡ len) × (cap ≡ fit.capacity len) × (window bytes target (control_count cap) ≡ fit.map_controls (erased entries))
    × (numbers ≡ fit.map_numbers (erased entries))
IsFilledAs fit bytes target len cap vs = ⊥

abbrev pub LeadsChosen : Choices → List ℕ → List Part → Values → Type 0
LeadsChosen fit bytes [] vs = ⊤
LeadsChosen fit bytes (at pos s ∷ ps) vs = ⊤
LeadsChosen fit bytes (behind pos p len ∷ ps) vs = ⊤
LeadsChosen fit bytes (node level most k v pos ∷ ps) vs = HasItems vs
LeadsChosen fit bytes (child level most k v pos ∷ ps) vs = ⊤
LeadsChosen fit bytes (entry k key_pos v value_pos ∷ ps) vs = ⊤
LeadsChosen fit bytes (buckets target len cap it ∷ ps) vs = IsFilledAs fit bytes target len cap vs
LeadsChosen fit bytes (place_at pos limit ∷ ps) vs = ⊤

abbrev pub IsChosen : Choices → List ℕ → Part → List Part → Values → Type 0
IsChosen fit bytes (at pos s) ps vs = LeadsChosen fit bytes ps vs
IsChosen fit bytes (node level most k v pos) ps vs = IsPacked most (slice_index (drop pos bytes) 0) vs
IsChosen fit bytes (child level most k v pos) ps vs = LeadsChosen fit bytes ps vs
IsChosen fit bytes (behind pos p len) ps vs = ⊤
IsChosen fit bytes (entry k key_pos v value_pos) ps vs = ⊤
IsChosen fit bytes (buckets target len cap it) ps vs = ⊤
IsChosen fit bytes (place_at pos limit) ps vs = ⊤

-- ---- packed trees

count_append : (vs us : Values) → count_values (append_values vs us) ≡ count_values vs + count_values us
count_append no_values us = omega arith
count_append (more_values v vs) us = let e = count_append vs us in omega arith

count_blanks : (vs : Values) → count_values (blanks vs) ≡ count_values vs
count_blanks no_values = refl
count_blanks (more_values v vs) = ap (λ n. 1 + n) (count_blanks vs)

count_blank : (v : Value) → count_values (members (blank v)) ≡ count_values (members v)
count_blank (group vs) = count_blanks vs
count_blank (natural m) = refl
count_blank (integer m) = refl
count_blank (boolean m) = refl
count_blank (string m) = refl
count_blank (chosen m us) = refl
count_blank (counted m u) = refl
count_blank (back m) = refl

count_all_blank : (vs : Values) → count_values (all_blank vs) ≡ count_values vs
count_all_blank no_values = refl
count_all_blank (more_values v vs) = ap (λ n. 1 + n) (count_all_blank vs)

first_blank : (n : ℕ) (vs : Values) → first_values n (all_blank vs) ≡ all_blank (first_values n vs)
first_blank zero vs = refl
first_blank (suc n) no_values = refl
first_blank (suc n) (more_values v vs) = ap (λ us. more_values (blank v) us) (first_blank n vs)

other_blank : (n : ℕ) (vs : Values) → other_values n (all_blank vs) ≡ all_blank (other_values n vs)
other_blank zero vs = refl
other_blank (suc n) no_values = refl
other_blank (suc n) (more_values v vs) = other_blank n vs

count_woven : (cs es : Values) → count_values (weave (all_blank cs) (all_blank es)) ≡ count_values (weave cs es)
count_woven no_values es = count_all_blank es
count_woven (more_values c cs) no_values = count_blank c
count_woven (more_values c cs) (more_values e es) =
    count_append (members (blank c)) (more_values (blank e) (weave (all_blank cs) (all_blank es)))
    ∙ ap₂ (λ m n. m + (1 + n)) (count_blank c) (count_woven cs es)
    ∙ sym (count_append (members c) (more_values e (weave cs es)))

count_all : (n : ℕ) (vs : Values) → count_values (weave (first_values n (all_blank vs)) (other_values n (all_blank vs))) ≡ count_values (weave (first_values n vs) (other_values n vs))
count_all n vs = ap₂ (λ x y. count_values (weave x y)) (first_blank n vs) (other_blank n vs) ∙ count_woven (first_values n vs) (other_values n vs)

children_packed : (most n i : ℕ) (vs : Values) → ArePacked most n i (all_blank vs) → ArePacked most n i vs
children_packed most n i no_values e = tt
children_packed most n i (more_values (group us) vs) e = (sym (count_blanks us) ∙ e.0, children_packed most n (i + 1) vs e.1)
children_packed most n i (more_values (natural m) vs) e = absurd e
children_packed most n i (more_values (integer m) vs) e = absurd e
children_packed most n i (more_values (boolean m) vs) e = absurd e
children_packed most n i (more_values (string m) vs) e = absurd e
children_packed most n i (more_values (chosen m us) vs) e = absurd e
children_packed most n i (more_values (counted m u) vs) e = absurd e
children_packed most n i (more_values (back m) vs) e = absurd e

pub node_packed : (most kind : ℕ) (vs : Values) → IsPacked most kind (all_blank vs) → IsPacked most kind vs
node_packed most zero vs e = tt
node_packed most (suc kind) vs e =
    let n = count_values (weave (first_values (most + 1) vs) (other_values (most + 1) vs)) in
    let m = count_values (weave (first_values (most + 1) (all_blank vs)) (other_values (most + 1) (all_blank vs))) in
    let same : m ≡ n = count_all (most + 1) vs in
    let there : ArePacked most n 0 (all_blank (first_values (most + 1) vs)) =
    subst (λ x. ArePacked most x 0 (all_blank (first_values (most + 1) vs))) same (subst (ArePacked most m 0) (first_blank (most + 1) vs) e.1) in
    (subst (λ x. most < x) same e.0, children_packed most n 0 (first_values (most + 1) vs) there)

-- ---- items by their keys

pub count_keys_alone : (vs : Values) → count_values (keys_alone vs) ≡ count_values vs
count_keys_alone no_values = refl
count_keys_alone (more_values v vs) = ap (λ n. 1 + n) (count_keys_alone vs)

pub count_by_keys : (v : Value) → count_values (members (by_keys v)) ≡ count_values (members v)
count_by_keys (group vs) = count_keys_alone vs
count_by_keys (natural m) = refl
count_by_keys (integer m) = refl
count_by_keys (boolean m) = refl
count_by_keys (string m) = refl
count_by_keys (chosen m us) = refl
count_by_keys (counted m u) = refl
count_by_keys (back m) = refl

erased_key : (v : Value) → erased (key_alone v) ≡ key_alone (erased v)
erased_key (group no_values) = refl
erased_key (group (more_values k vs)) = refl
erased_key (natural m) = refl
erased_key (integer m) = refl
erased_key (boolean m) = refl
erased_key (string m) = refl
erased_key (chosen m us) = refl
erased_key (counted m u) = refl
erased_key (back m) = refl

erased_keys : (vs : Values) → all_erased (keys_alone vs) ≡ keys_alone (all_erased vs)
erased_keys no_values = refl
erased_keys (more_values v vs) = ap₂ (λ a b. more_values a b) (erased_key v) (erased_keys vs)

pub erased_by_keys : (v : Value) → all_erased (members (by_keys v)) ≡ keys_alone (members (erased v))
erased_by_keys (group vs) = erased_keys vs
erased_by_keys (natural m) = refl
erased_by_keys (integer m) = refl
erased_by_keys (boolean m) = refl
erased_by_keys (string m) = refl
erased_by_keys (chosen m us) = refl
erased_by_keys (counted m u) = refl
erased_by_keys (back m) = refl

are_naturals : (ns : List ℕ) (vs : Values) → keys_alone vs ≡ naturals ns → vs ≡ naturals ns
are_naturals [] no_values e = refl
are_naturals [] (more_values v vs) e = absurd (cc)
are_naturals (n ∷ ns) no_values e = absurd (cc)
are_naturals (n ∷ ns) (more_values (natural m) vs) e =
    let same : m ≡ n = cc in
    let rest : keys_alone vs ≡ naturals ns = cc in
    ap₂ (λ a b. more_values (natural a) b) same (are_naturals ns vs rest)
are_naturals (n ∷ ns) (more_values (group no_values) vs) e = absurd (cc)
are_naturals (n ∷ ns) (more_values (group (more_values k us)) vs) e = absurd (cc)
are_naturals (n ∷ ns) (more_values (integer m) vs) e = absurd (cc)
are_naturals (n ∷ ns) (more_values (boolean m) vs) e = absurd (cc)
are_naturals (n ∷ ns) (more_values (string bs) vs) e = absurd (cc)
are_naturals (n ∷ ns) (more_values (chosen t us) vs) e = absurd (cc)
are_naturals (n ∷ ns) (more_values (counted t u) vs) e = absurd (cc)
are_naturals (n ∷ ns) (more_values (back t) vs) e = absurd (cc)

of_numbers : (ns : List ℕ) (v : Value) → by_keys v ≡ group (naturals ns) → v ≡ group (naturals ns)
of_numbers ns (group vs) e = let inner : keys_alone vs ≡ naturals ns = cc in ap (λ x. group x) (are_naturals ns vs inner)
of_numbers ns (natural m) e = absurd (cc)
of_numbers ns (integer m) e = absurd (cc)
of_numbers ns (boolean m) e = absurd (cc)
of_numbers ns (string bs) e = absurd (cc)
of_numbers ns (chosen t us) e = absurd (cc)
of_numbers ns (counted t u) e = absurd (cc)
of_numbers ns (back t) e = absurd (cc)

pub asked_map : {A B : Type 0} (b : Bool) → (A → B) → IsAsked b A → IsAsked b B
asked_map true f a = f a
asked_map false f a = tt

pub buckets_filled : (fit : Fit) (bytes : List ℕ) (target len cap : ℕ) (vs : Values)
    → IsFilledSo fit (window bytes target (control_count cap)) len cap (all_by_keys vs) → IsFilledAs (choices fit) bytes target len cap vs
buckets_filled fit bytes target len cap no_values e = absurd e
buckets_filled fit bytes target len cap (more_values items no_values) e =
    (sym (count_by_keys items) ∙ e.0, e.1, e.2 ∙ ap fit.table_controls (erased_by_keys items))
buckets_filled fit bytes target len cap (more_values numbers (more_values entries no_values)) e = (
  sym (count_by_keys entries) ∙ e.0,
  e.1,
  e.2 ∙ ap fit.map_controls (erased_by_keys entries),
  of_numbers (fit.map_numbers (keys_alone (members (erased entries)))) numbers (e.3 ∙ ap (λ ks. group (naturals (fit.map_numbers ks))) (erased_by_keys entries)),
)
buckets_filled fit bytes target len cap (more_values numbers (more_values entries (more_values v vs))) e = absurd e

pub items_there : (vs : Values) → HasItems (all_by_keys vs) → HasItems vs
items_there no_values e = absurd e
items_there (more_values v vs) e = subst (λ n. 1 ≤ n) (count_by_keys v) e

leads_chosen : (fit : Fit) → fit.binds ≡ true → (bytes : List ℕ) (ps : List Part) (vs : Values) (seen : List ℕ) → seen ≡ first_seen_bytes bytes ps
    → LeadsSettled fit seen ps (first_seen_values ps vs) → LeadsChosen (choices fit) bytes ps vs
leads_chosen fit binds bytes [] vs seen s e = tt
leads_chosen fit binds bytes (at pos s ∷ ps) vs seen is e = tt
leads_chosen fit binds bytes (behind pos p len ∷ ps) vs seen is e = tt
leads_chosen fit binds bytes (node level most k v pos ∷ ps) vs seen is e = items_there vs e
leads_chosen fit binds bytes (child level most k v pos ∷ ps) vs seen is e = tt
leads_chosen fit binds bytes (entry k key_pos v value_pos ∷ ps) vs seen is e = tt
leads_chosen fit binds bytes (buckets target len cap it ∷ ps) vs seen is e =
    buckets_filled fit bytes target len cap vs
    (subst (λ x. IsFilledSo fit x len cap (all_by_keys vs)) is (subst (λ b. IsAsked b (IsFilledSo fit seen len cap (all_by_keys vs))) binds e))
leads_chosen fit binds bytes (place_at pos limit ∷ ps) vs seen is e = tt

-- what is settled is chosen
pub settled_chosen : (fit : Fit) → fit.binds ≡ true → (bytes : List ℕ) (p : Part) (ps : List Part) (vs : Values) → IsSettled fit bytes p ps vs → IsChosen (choices fit) bytes p ps vs
settled_chosen fit binds bytes (at pos s) ps vs e = leads_chosen fit binds bytes ps vs _ refl e
settled_chosen fit binds bytes (behind pos p len) ps vs e = tt
settled_chosen fit binds bytes (node level most k v pos) ps vs e = node_packed most (slice_index (drop pos bytes) 0) vs e
settled_chosen fit binds bytes (child level most k v pos) ps vs e = leads_chosen fit binds bytes ps vs _ refl e
settled_chosen fit binds bytes (entry k key_pos v value_pos) ps vs e = tt
settled_chosen fit binds bytes (buckets target len cap it) ps vs e = tt
settled_chosen fit binds bytes (place_at pos limit) ps vs e = tt
