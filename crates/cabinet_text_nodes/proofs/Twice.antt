-- Keys that occur twice among pairs, and how they are found.
use Rattle.std.proofs.Common.{◌≡◌, ℕ, zero, suc, ◌+◌, ◌-◌, ◌<◌, ◌≤◌, Bool, true, false, not, ◌||◌, if◌then◌else◌, List, [], ◌∷◌, length, get_or, take, drop, drop-cons, length-drop, add-one, refl, sym, ap, ◌∙◌, subst, arith, inl, inr, ◌⊎◌, Option, Some, None, Global, String, Bor, BTreeSet}
use Rattle.std.specs.Prelude.{string_bytes}
use Rattle.std.specs.BTreeSet.{contains, contains_by, insert_key}
use Rattle.std.specs.Cmp.Lexicographic.{slice_cmp}
use Rattle.std.specs.List.{list_any}
use Rattle.std.specs.Option.{option_map, is_some}
use Rattle.std.specs.Ordering.{nat_cmp, is_eq}
use Rattle.std.specs.Str.{bytes_eq}
use Rattle.std.proofs.lemmas.Bool.{true≢false}
use Rattle.std.proofs.lemmas.List.{take_all, drop_all}
use Rattle.std.proofs.lemmas.Map.Text.{is_eq-slice_cmp}
use Rattle.std.proofs.lemmas.Slice.Eq.{bytes_eq-Decides}
use Rattle.cabinet_text_grammar.specs.Tree.{Pairs, no_pairs, more_pairs}
use Rattle.cabinet_text_nodes.specs.Answers.{place_by}
use Rattle.cabinet_text_nodes.specs.Faults.{HasKey, HasKeyTwice}
use Rattle.cabinet_text_nodes.specs.View.{node_tree, node_pairs}
use Rattle.cabinet_text_nodes.specs.declared.node.Node.{Node}
use Rattle.cabinet_text_nodes.proofs.Seen.{slices_cmp, found_after}

-- whether a key passes the test or is one of those before it
abbrev pub again : (List ℕ → Bool) → Pairs → Bool
again f no_pairs = false
again f (more_pairs k t ps) = f k || again (λ l. bytes_eq l k || f l) ps

abbrev pub none_before : List ℕ → Bool
none_before k = false

or_same : (b c d e : Bool) → b ≡ c → d ≡ e → (b || d) ≡ (c || e)
or_same b c d e p q = rw (p, q) refl

or_true : (b c : Bool) → c ≡ true → (b || c) ≡ true
or_true true c h = refl
or_true false c h = h

pub either : (b c : Bool) → (b || c) ≡ true → (b ≡ true) ⊎ (c ≡ true)
either true c h = inl refl
either false c h = inr h

pub again_same : (f g : List ℕ → Bool) (ps : Pairs) → ((k : List ℕ) → f k ≡ g k) → again f ps ≡ again g ps
again_same f g no_pairs same = refl
again_same f g (more_pairs k t ps) same =
    or_same (f k) (g k) (again (λ l. bytes_eq l k || f l) ps) (again (λ l. bytes_eq l k || g l) ps) (same k)
    (again_same (λ l. bytes_eq l k || f l) (λ l. bytes_eq l k || g l) ps (λ l. ap (λ b. bytes_eq l k || b) (same l)))

-- a key of some pairs that passes a test
record Passes (f : List ℕ → Bool) (ps : Pairs) : Type 0 where
  pub key : List ℕ
  pub passes : f key ≡ true
  pub has : HasKey key ps

again_tells : (f : List ℕ → Bool) (ps : Pairs) → again f ps ≡ true → Passes f ps ⊎ HasKeyTwice ps
again_tells f no_pairs h = absurd (true≢false (sym h))
again_tells f (more_pairs k t ps) h =
    elim (either (f k) (again (λ l. bytes_eq l k || f l) ps) h) [
      | inl here ↦ inl (record { key = k; passes = here; has = inl refl })
      | inr behind ↦ further (again_tells (λ l. bytes_eq l k || f l) ps behind)
    ]
  where
    further : Passes (λ l. bytes_eq l k || f l) ps ⊎ HasKeyTwice ps → Passes f (more_pairs k t ps) ⊎ HasKeyTwice (more_pairs k t ps)
    further (inr twice) = inr (inr twice)
    further (inl p) =
        elim (either (bytes_eq p.key k) (f p.key) p.passes) [
          | inl same ↦ inr (inl (subst (λ l. HasKey l ps) ((bytes_eq-Decides p.key k).0 same) p.has))
          | inr passes ↦ inl (record { key = p.key; passes = passes; has = inr p.has })
        ]

again_key : (f : List ℕ → Bool) (k : List ℕ) (ps : Pairs) → f k ≡ true → HasKey k ps → again f ps ≡ true
again_key f k no_pairs is h = absurd h
again_key f k (more_pairs l t ps) is (inl same) =
    let here : f l ≡ true = ap f same ∙ is in
    rw here refl
again_key f k (more_pairs l t ps) is (inr h) =
    or_true (f l) (again (λ m. bytes_eq m l || f m) ps) (again_key (λ m. bytes_eq m l || f m) k ps (or_true (bytes_eq k l) (f k) is) h)

again_twice : (f : List ℕ → Bool) (ps : Pairs) → HasKeyTwice ps → again f ps ≡ true
again_twice f no_pairs h = absurd h
again_twice f (more_pairs k t ps) (inl h) =
    let same : bytes_eq k k ≡ true = (bytes_eq-Decides k k).1 refl in
    let here : (bytes_eq k k || f k) ≡ true = rw same refl in
    or_true (f k) (again (λ l. bytes_eq l k || f l) ps) (again_key (λ l. bytes_eq l k || f l) k ps here h)
again_twice f (more_pairs k t ps) (inr h) = or_true (f k) (again (λ l. bytes_eq l k || f l) ps) (again_twice (λ l. bytes_eq l k || f l) ps h)

pub twice_if_again : (ps : Pairs) → again none_before ps ≡ true → HasKeyTwice ps
twice_if_again ps h = elim (again_tells none_before ps h) [ inl p ↦ absurd (true≢false (sym p.passes)) | inr twice ↦ twice ]

pub not_twice : (ps : Pairs) → again none_before ps ≡ false → HasKeyTwice ps → ⊥
not_twice ps h twice = true≢false (sym (again_twice none_before ps twice) ∙ h)

-- the pairs from one of them on
pub pairs_from : (ps : List (String Global × Node)) (i : ℕ) (p : String Global × Node) → i < length ps → p ≡ get_or ps i p → node_pairs [] (drop i ps) ≡ more_pairs (string_bytes p.0) (node_tree [] p.1) (node_pairs [] (drop (i + 1) ps))
pairs_from ps i p within is =
    ap (node_pairs []) (drop-cons ps i p within)
    ∙ ap (λ q. more_pairs (string_bytes q.0) (node_tree [] q.1) (node_pairs [] (drop (suc i) ps))) (sym is)
    ∙ ap (λ j. more_pairs (string_bytes p.0) (node_tree [] p.1) (node_pairs [] (drop j ps))) (sym (add-one i))

pub twice_further_in : (ps : List (String Global × Node)) (i : ℕ) → HasKeyTwice (node_pairs [] (drop i ps)) → HasKeyTwice (node_pairs [] ps)
twice_further_in ps zero h = h
twice_further_in [] (suc i) h = h
twice_further_in (p ∷ ps) (suc i) h = inr (twice_further_in ps i h)

-- among the keys that are in a set
abbrev pub seen : BTreeSet (Bor (List ℕ)) → List ℕ → Bool
seen s k = contains_by (λ l. slice_cmp nat_cmp k l.now) s

not_false : (a b : Bool) → a ≡ not b → a ≡ false → b ≡ true
not_false a true h g = refl
not_false a false h g = absurd (true≢false (sym h ∙ g))

not_true : (a b : Bool) → a ≡ not b → a ≡ true → b ≡ false
not_true a true h g = absurd (true≢false (sym g ∙ h))
not_true a false h g = refl

-- a key that is not added to the set occurs twice
pub seen_twice : (s : BTreeSet (Bor (List ℕ))) (key : Bor (List ℕ)) (ps : List (String Global × Node)) (i : ℕ) (p : String Global × Node) (added : Bool) → i < length ps → p ≡ get_or ps i p → key.now ≡ string_bytes p.0
    → added ≡ not (contains slices_cmp s key) → added ≡ false → again (seen s) (node_pairs [] (drop i ps)) ≡ again none_before (node_pairs [] ps) → HasKeyTwice (node_pairs [] ps)
seen_twice s key ps i p added within is named told not_added same =
    let there : seen s (string_bytes p.0) ≡ true = ap (seen s) (sym named) ∙ not_false added (contains slices_cmp s key) told not_added in
    let rest = node_pairs [] (drop (i + 1) ps) in
    let here : again (seen s) (more_pairs (string_bytes p.0) (node_tree [] p.1) rest) ≡ true = rw there refl in
    twice_if_again (node_pairs [] ps) (sym same ∙ ap (again (seen s)) (pairs_from ps i p within is) ∙ here)

-- a key that is added
pub seen_more : (s after : BTreeSet (Bor (List ℕ))) (key : Bor (List ℕ)) (ps : List (String Global × Node)) (i : ℕ) (p : String Global × Node) (added : Bool) → i < length ps → p ≡ get_or ps i p → key.now ≡ string_bytes p.0
    → added ≡ not (contains slices_cmp s key) → added ≡ true → after.keys ≡ insert_key slices_cmp s.keys key → again (seen s) (node_pairs [] (drop i ps)) ≡ again none_before (node_pairs [] ps)
    → again (seen after) (node_pairs [] (drop (i + 1) ps)) ≡ again none_before (node_pairs [] ps)
seen_more s after key ps i p added within is named told was_added keys same =
    let absent : seen s (string_bytes p.0) ≡ false = ap (seen s) (sym named) ∙ not_true added (contains slices_cmp s key) told was_added in
    let rest = node_pairs [] (drop (i + 1) ps) in
    let here : again (seen s) (more_pairs (string_bytes p.0) (node_tree [] p.1) rest) ≡ again (λ l. bytes_eq l (string_bytes p.0) || seen s l) rest = rw absent refl in
    again_same (seen after) (λ l. bytes_eq l (string_bytes p.0) || seen s l) rest
    (λ l. ap (λ ks. list_any (λ k. is_eq (slice_cmp nat_cmp l k.now)) ks) keys ∙ found_after (λ (k : Bor (List ℕ)). k.now) (λ b. is_eq (slice_cmp nat_cmp l b)) s.keys key ∙ ap (λ b. b || seen s l) (is_eq-slice_cmp l key.now ∙ ap (bytes_eq l) named))
    ∙ sym here
    ∙ ap (again (seen s)) (sym (pairs_from ps i p within is))
    ∙ same

-- where all were added, none occurs twice
pub seen_all : (s : BTreeSet (Bor (List ℕ))) (ps : List (String Global × Node)) (i : ℕ) → length ps ≤ i → again (seen s) (node_pairs [] (drop i ps)) ≡ again none_before (node_pairs [] ps) → HasKeyTwice (node_pairs [] ps) → ⊥
seen_all s ps i end same = not_twice (node_pairs [] ps) (sym same ∙ ap (λ qs. again (seen s) (node_pairs [] qs)) (drop_all i ps end))

-- the pairs after one
behind : (ps : List (String Global × Node)) (i : ℕ) → take (length ps - (i + 1)) (drop (i + 1) ps) ≡ drop (i + 1) ps
behind ps i = take_all (length ps - (i + 1)) (drop (i + 1) ps) (omega (arith, length-drop (i + 1) ps))

placed_has : (ps : Pairs) (k : List ℕ) → is_some (place_by ps k) ≡ true → HasKey k ps
placed_has no_pairs k h = absurd (true≢false (sym h))
placed_has (more_pairs l t ps) k h = by (bytes_eq l k) (place_by ps k) (bytes_eq-Decides l k).0 (placed_has ps k) h where
  by : (b : Bool) (found : Option ℕ) → (b ≡ true → l ≡ k) → (is_some found ≡ true → HasKey k ps) → is_some (if b then Some 0 else option_map (λ i. suc i) found) ≡ true → (l ≡ k) ⊎ HasKey k ps
  by true found here further told = inl (here refl)
  by false None here further told = absurd (true≢false (sym told))
  by false (Some i) here further told = inr (further refl)

unplaced_lacks : (ps : Pairs) (k : List ℕ) → is_some (place_by ps k) ≡ false → HasKey k ps → ⊥
unplaced_lacks no_pairs k none h = h
unplaced_lacks (more_pairs l t ps) k none h = by (bytes_eq l k) (place_by ps k) (bytes_eq-Decides l k).1 (unplaced_lacks ps k) none h where
  by : (b : Bool) (found : Option ℕ) → (l ≡ k → b ≡ true) → (is_some found ≡ false → HasKey k ps → ⊥) → is_some (if b then Some 0 else option_map (λ i. suc i) found) ≡ false → (l ≡ k) ⊎ HasKey k ps → ⊥
  by true found here further none h = true≢false none
  by false found here further none (inl same) = true≢false (sym (here same))
  by false None here further none (inr has) = further refl has
  by false (Some i) here further none (inr has) = true≢false none

-- a key that has a place after its own, and one that has none
pub placed_twice : (ps : List (String Global × Node)) (i : ℕ) (p : String Global × Node) (key : List ℕ) (found : Option ℕ) → i < length ps → p ≡ get_or ps i p → key ≡ string_bytes p.0
    → found ≡ place_by (node_pairs [] (take (length ps - (i + 1)) (drop (i + 1) ps))) key → true ≡ is_some found → HasKeyTwice (node_pairs [] ps)
placed_twice ps i p key found within is named told there =
    let placed = told ∙ ap (λ qs. place_by (node_pairs [] qs) key) (behind ps i) ∙ ap (place_by (node_pairs [] (drop (i + 1) ps))) named in
    twice_further_in ps i (subst HasKeyTwice (sym (pairs_from ps i p within is)) (inl (placed_has (node_pairs [] (drop (i + 1) ps)) (string_bytes p.0) (sym (there ∙ ap is_some placed)))))

pub unplaced_once : (ps : List (String Global × Node)) (i : ℕ) (p : String Global × Node) (key : List ℕ) (found : Option ℕ) → i < length ps → p ≡ get_or ps i p → key ≡ string_bytes p.0
    → found ≡ place_by (node_pairs [] (take (length ps - (i + 1)) (drop (i + 1) ps))) key → false ≡ is_some found
    → (HasKeyTwice (node_pairs [] ps) → HasKeyTwice (node_pairs [] (drop i ps))) → HasKeyTwice (node_pairs [] ps) → HasKeyTwice (node_pairs [] (drop (i + 1) ps))
unplaced_once ps i p key found within is named told none so_far twice =
    let placed = told ∙ ap (λ qs. place_by (node_pairs [] qs) key) (behind ps i) ∙ ap (place_by (node_pairs [] (drop (i + 1) ps))) named in
    let lacks = unplaced_lacks (node_pairs [] (drop (i + 1) ps)) (string_bytes p.0) (sym (none ∙ ap is_some placed)) in
    elim (subst HasKeyTwice (pairs_from ps i p within is) (so_far twice)) [ inl has ↦ absurd (lacks has) | inr rest ↦ rest ]
