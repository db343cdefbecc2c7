-- The fault of several nodes, from the fault of each.
use Rattle.std.proofs.Common.{◌≡◌, ◌≢◌, ℕ, zero, suc, ◌<◌, ◌≤◌, ◌^◌, Bool, true, false, ◌&&◌, List, [], ◌∷◌, refl, sym, ap, ◌∙◌, subst, arith, inl, inr, Option, Some, None, map, All, Global, String, Vec, Box}
use Rattle.std.specs.Prelude.{nat_lt, max, string_bytes, string_cmp}
use Rattle.std.specs.BTreeMap.{BTreeMap}
use Rattle.std.specs.List.{list_all}
use Rattle.std.specs.declared.cmp.Ordering.TheVariants.{Less}
use Rattle.std.specs.List.Sorted.{IsStrictlySortedBy}
use Rattle.std.specs.Map.{keys_of}
use Rattle.std.specs.declared.rc.RcStr.{RcStr}
use Rattle.std.proofs.lemmas.Bool.{and_from, and_left, and_right, false≢true}
use Rattle.std.proofs.lemmas.List.Elements.{All-nil, All-cons, All-head, All-tail}
use Rattle.std.proofs.lemmas.Map.Keys.{sorted_tail}
use Rattle.std.proofs.lemmas.Map.Views.{All-after_first}
use Rattle.std.proofs.lemmas.Str.{IsUtf8-string_bytes}
use Rattle.cabinet_text_grammar.specs.Keys.{MapKind, ordered, hashed, kept, IsAboveLast, MayFollow}
use Rattle.cabinet_text_grammar.specs.Tree.{Tree, leaf, shared, nothing, just, list, map as map', whole, Trees, no_trees, more_trees, Pairs, no_pairs, more_pairs, count, pair_count, depth, most_depth, pairs_depth, IsLegal, AreLegal, ArePairs}
use Rattle.cabinet_text_grammar.specs.Wholes.{IsDocument}
use Rattle.cabinet_text_nodes.specs.Faults.{IsFault, AreFaults, IsInside, worse_of, IsRefusedFor, HasKey, HasKeyTwice, RepeatsHere, RepeatsKey, RepeatAmong, RepeatAmongPairs}
use Rattle.cabinet_text_nodes.specs.View.{node_tree, node_trees, node_pairs, known_step, known_below, all_known}
use Rattle.cabinet_text_nodes.specs.declared.node.Node.{Node, fold-roll-Node}
use Rattle.cabinet_text_nodes.specs.declared.node.Node.TheOpen.{Node-F}
use Rattle.cabinet_text_nodes.specs.declared.node.Node.TheVariants as node
use Rattle.cabinet_text_nodes.specs.declared.refusal.DocumentRefusal.{DocumentRefusal}
use Rattle.cabinet_text_nodes.specs.declared.refusal.DocumentRefusal.TheVariants.{UnknownWhole, TooDeep, RepeatedKey, RepeatedWhole, WholeOrder, OutOfMemory}

some_worse : (b : DocumentRefusal) (c : Option DocumentRefusal) → (d : DocumentRefusal) × (worse_of (Some b) c ≡ Some d)
some_worse UnknownWhole c = (UnknownWhole, refl)
some_worse TooDeep None = (TooDeep, refl)
some_worse TooDeep (Some UnknownWhole) = (UnknownWhole, refl)
some_worse TooDeep (Some TooDeep) = (TooDeep, refl)
some_worse TooDeep (Some RepeatedKey) = (TooDeep, refl)
some_worse TooDeep (Some RepeatedWhole) = (TooDeep, refl)
some_worse TooDeep (Some WholeOrder) = (TooDeep, refl)
some_worse TooDeep (Some OutOfMemory) = (TooDeep, refl)
some_worse RepeatedKey None = (RepeatedKey, refl)
some_worse RepeatedKey (Some c) = (c, refl)
some_worse RepeatedWhole None = (RepeatedWhole, refl)
some_worse RepeatedWhole (Some c) = (c, refl)
some_worse WholeOrder None = (WholeOrder, refl)
some_worse WholeOrder (Some c) = (c, refl)
some_worse OutOfMemory None = (OutOfMemory, refl)
some_worse OutOfMemory (Some c) = (c, refl)

last : (a b : DocumentRefusal) (c : Option DocumentRefusal) → ((d : DocumentRefusal) → worse_of (Some a) (Some d) ≡ Some d) → worse_of (worse_of (Some a) (Some b)) c ≡ worse_of (Some a) (worse_of (Some b) c)
last a b c later =
    let d = some_worse b c in
    ap (λ w. worse_of w c) (later b) ∙ d.1 ∙ sym (later d.0) ∙ ap (worse_of (Some a)) (sym d.1)

pub worse_assoc : (a b c : Option DocumentRefusal) → worse_of (worse_of a b) c ≡ worse_of a (worse_of b c)
worse_assoc None b c = refl
worse_assoc (Some UnknownWhole) b c = refl
worse_assoc (Some TooDeep) None c = refl
worse_assoc (Some TooDeep) (Some UnknownWhole) c = refl
worse_assoc (Some TooDeep) (Some TooDeep) None = refl
worse_assoc (Some TooDeep) (Some TooDeep) (Some UnknownWhole) = refl
worse_assoc (Some TooDeep) (Some TooDeep) (Some TooDeep) = refl
worse_assoc (Some TooDeep) (Some TooDeep) (Some RepeatedKey) = refl
worse_assoc (Some TooDeep) (Some TooDeep) (Some RepeatedWhole) = refl
worse_assoc (Some TooDeep) (Some TooDeep) (Some WholeOrder) = refl
worse_assoc (Some TooDeep) (Some TooDeep) (Some OutOfMemory) = refl
worse_assoc (Some TooDeep) (Some RepeatedKey) None = refl
worse_assoc (Some TooDeep) (Some RepeatedKey) (Some c) = refl
worse_assoc (Some TooDeep) (Some RepeatedWhole) None = refl
worse_assoc (Some TooDeep) (Some RepeatedWhole) (Some c) = refl
worse_assoc (Some TooDeep) (Some WholeOrder) None = refl
worse_assoc (Some TooDeep) (Some WholeOrder) (Some c) = refl
worse_assoc (Some TooDeep) (Some OutOfMemory) None = refl
worse_assoc (Some TooDeep) (Some OutOfMemory) (Some c) = refl
worse_assoc (Some RepeatedKey) None c = refl
worse_assoc (Some RepeatedKey) (Some b) c = last RepeatedKey b c (λ d. refl)
worse_assoc (Some RepeatedWhole) None c = refl
worse_assoc (Some RepeatedWhole) (Some b) c = last RepeatedWhole b c (λ d. refl)
worse_assoc (Some WholeOrder) None c = refl
worse_assoc (Some WholeOrder) (Some b) c = last WholeOrder b c (λ d. refl)
worse_assoc (Some OutOfMemory) None c = refl
worse_assoc (Some OutOfMemory) (Some b) c = last OutOfMemory b c (λ d. refl)

pub worse_none : (a : Option DocumentRefusal) → worse_of a None ≡ a
worse_none None = refl
worse_none (Some UnknownWhole) = refl
worse_none (Some TooDeep) = refl
worse_none (Some RepeatedKey) = refl
worse_none (Some RepeatedWhole) = refl
worse_none (Some WholeOrder) = refl
worse_none (Some OutOfMemory) = refl

module _ (L : Type 0) where
  -- a node and those after it
  pub faults_both : (room : ℕ) (k ks : Bool) (t : Tree) (ts : Trees) (a b : Option DocumentRefusal) → IsFault L room k t a → AreFaults L room ks ts b → AreFaults L room (k && ks) (more_trees t ts) (worse_of a b)
  faults_both room k ks t ts None None p q = (and_from k ks p.0 q.0, λ l. (p.1 l, q.1 l), omega (arith, p.2, q.2))
  faults_both room k ks t ts None (Some UnknownWhole) p q = and_right k ks q
  faults_both room k ks t ts None (Some TooDeep) p q = (and_from k ks p.0 q.0, omega (arith, q.1))
  faults_both room k ks t ts None (Some RepeatedKey) p q = (and_from k ks p.0 q.0, omega (arith, p.2, q.1), inr q.2)
  faults_both room k ks t ts (Some UnknownWhole) b p q = and_left k ks p
  faults_both room k ks t ts (Some TooDeep) (Some UnknownWhole) p q = and_right k ks q
  faults_both room k ks t ts (Some TooDeep) None p q = (and_from k ks p.0 q.0, omega (arith, p.1))
  faults_both room k ks t ts (Some TooDeep) (Some TooDeep) p q = (and_from k ks p.0 q.0, omega (arith, p.1))
  faults_both room k ks t ts (Some TooDeep) (Some RepeatedKey) p q = (and_from k ks p.0 q.0, omega (arith, p.1))
  faults_both room k ks t ts (Some RepeatedKey) None p q = (and_from k ks p.0 q.0, omega (arith, p.1, q.2), inl p.2)
  faults_both room k ks t ts (Some RepeatedKey) (Some UnknownWhole) p q = and_right k ks q
  faults_both room k ks t ts (Some RepeatedKey) (Some TooDeep) p q = (and_from k ks p.0 q.0, omega (arith, q.1))
  faults_both room k ks t ts (Some RepeatedKey) (Some RepeatedKey) p q = (and_from k ks p.0 q.0, omega (arith, p.1, q.1), inl p.2)
  faults_both room k ks t ts None (Some RepeatedWhole) p q = absurd q
  faults_both room k ks t ts None (Some WholeOrder) p q = absurd q
  faults_both room k ks t ts None (Some OutOfMemory) p q = absurd q
  faults_both room k ks t ts (Some TooDeep) (Some RepeatedWhole) p q = absurd q
  faults_both room k ks t ts (Some TooDeep) (Some WholeOrder) p q = absurd q
  faults_both room k ks t ts (Some TooDeep) (Some OutOfMemory) p q = absurd q
  faults_both room k ks t ts (Some RepeatedKey) (Some RepeatedWhole) p q = absurd q
  faults_both room k ks t ts (Some RepeatedKey) (Some WholeOrder) p q = absurd q
  faults_both room k ks t ts (Some RepeatedKey) (Some OutOfMemory) p q = absurd q
  faults_both room k ks t ts (Some RepeatedWhole) b p q = absurd p
  faults_both room k ks t ts (Some WholeOrder) b p q = absurd p
  faults_both room k ks t ts (Some OutOfMemory) b p q = absurd p

  -- a container, where what lies in it has one room less
  pub option_fault : (room inner : ℕ) (own : Option DocumentRefusal) (k : Bool) (t : Tree) (r : Option DocumentRefusal) → IsInside room inner own → IsFault L inner k t r → IsFault L room k (just t) (worse_of own r)
  option_fault zero inner own k t None is h = rw is.1 (h.0, omega arith)
  option_fault zero inner own k t (Some UnknownWhole) is h = rw is.1 h
  option_fault zero inner own k t (Some TooDeep) is h = rw is.1 (h.0, omega arith)
  option_fault zero inner own k t (Some RepeatedKey) is h = rw is.1 (h.0, omega arith)
  option_fault zero inner own k t (Some RepeatedWhole) is h = absurd h
  option_fault zero inner own k t (Some WholeOrder) is h = absurd h
  option_fault zero inner own k t (Some OutOfMemory) is h = absurd h
  option_fault (suc room) inner own k t None is h = rw is.1 (h.0, h.1, omega (arith, is.0, h.2))
  option_fault (suc room) inner own k t (Some UnknownWhole) is h = rw is.1 h
  option_fault (suc room) inner own k t (Some TooDeep) is h = rw is.1 (h.0, omega (arith, is.0, h.1))
  option_fault (suc room) inner own k t (Some RepeatedKey) is h = rw is.1 (h.0, omega (arith, is.0, h.1), h.2)
  option_fault (suc room) inner own k t (Some RepeatedWhole) is h = absurd h
  option_fault (suc room) inner own k t (Some WholeOrder) is h = absurd h
  option_fault (suc room) inner own k t (Some OutOfMemory) is h = absurd h

  pub list_fault : (room inner : ℕ) (own : Option DocumentRefusal) (k : Bool) (ts : Trees) (r : Option DocumentRefusal) → IsInside room inner own → count ts < 2 ^ 64 → AreFaults L inner k ts r → IsFault L room k (list ts) (worse_of own r)
  list_fault zero inner own k ts None is few h = rw is.1 (h.0, omega arith)
  list_fault zero inner own k ts (Some UnknownWhole) is few h = rw is.1 h
  list_fault zero inner own k ts (Some TooDeep) is few h = rw is.1 (h.0, omega arith)
  list_fault zero inner own k ts (Some RepeatedKey) is few h = rw is.1 (h.0, omega arith)
  list_fault zero inner own k ts (Some RepeatedWhole) is few h = absurd h
  list_fault zero inner own k ts (Some WholeOrder) is few h = absurd h
  list_fault zero inner own k ts (Some OutOfMemory) is few h = absurd h
  list_fault (suc room) inner own k ts None is few h = rw is.1 (h.0, λ l. (h.1 l, few), omega (arith, is.0, h.2))
  list_fault (suc room) inner own k ts (Some UnknownWhole) is few h = rw is.1 h
  list_fault (suc room) inner own k ts (Some TooDeep) is few h = rw is.1 (h.0, omega (arith, is.0, h.1))
  list_fault (suc room) inner own k ts (Some RepeatedKey) is few h = rw is.1 (h.0, omega (arith, is.0, h.1), h.2)
  list_fault (suc room) inner own k ts (Some RepeatedWhole) is few h = absurd h
  list_fault (suc room) inner own k ts (Some WholeOrder) is few h = absurd h
  list_fault (suc room) inner own k ts (Some OutOfMemory) is few h = absurd h

  -- the fault of a map by the nodes of its pairs alone
  abbrev pub NodesFault : ℕ → Bool → Trees → MapKind → Pairs → Option DocumentRefusal → Type 0
  NodesFault room k ts kind ps None = (k ≡ true) × (L → AreLegal ts) × (depth (map' kind ps) ≤ room)
  NodesFault room k ts kind ps (Some UnknownWhole) = k ≡ false
  NodesFault room k ts kind ps (Some TooDeep) = (k ≡ true) × (room < depth (map' kind ps))
  NodesFault room k ts kind ps (Some RepeatedKey) = (k ≡ true) × (depth (map' kind ps) ≤ room) × RepeatAmongPairs ps
  NodesFault room k ts kind ps (Some _) = ⊥

  pub nodes_fault : (room inner : ℕ) (own : Option DocumentRefusal) (k : Bool) (ts : Trees) (kind : MapKind) (ps : Pairs) (r : Option DocumentRefusal) → IsInside room inner own → most_depth ts ≡ pairs_depth ps → (RepeatAmong ts → RepeatAmongPairs ps)
      → AreFaults L inner k ts r → NodesFault room k ts kind ps (worse_of own r)
  nodes_fault zero inner own k ts kind ps None is deep again h = rw is.1 (h.0, omega arith)
  nodes_fault zero inner own k ts kind ps (Some UnknownWhole) is deep again h = rw is.1 h
  nodes_fault zero inner own k ts kind ps (Some TooDeep) is deep again h = rw is.1 (h.0, omega arith)
  nodes_fault zero inner own k ts kind ps (Some RepeatedKey) is deep again h = rw is.1 (h.0, omega arith)
  nodes_fault zero inner own k ts kind ps (Some RepeatedWhole) is deep again h = absurd h
  nodes_fault zero inner own k ts kind ps (Some WholeOrder) is deep again h = absurd h
  nodes_fault zero inner own k ts kind ps (Some OutOfMemory) is deep again h = absurd h
  nodes_fault (suc room) inner own k ts kind ps None is deep again h = rw is.1 (h.0, h.1, omega (arith, is.0, deep, h.2))
  nodes_fault (suc room) inner own k ts kind ps (Some UnknownWhole) is deep again h = rw is.1 h
  nodes_fault (suc room) inner own k ts kind ps (Some TooDeep) is deep again h = rw is.1 (h.0, omega (arith, is.0, deep, h.1))
  nodes_fault (suc room) inner own k ts kind ps (Some RepeatedKey) is deep again h = rw is.1 (h.0, omega (arith, is.0, deep, h.1), again h.2)
  nodes_fault (suc room) inner own k ts kind ps (Some RepeatedWhole) is deep again h = absurd h
  nodes_fault (suc room) inner own k ts kind ps (Some WholeOrder) is deep again h = absurd h
  nodes_fault (suc room) inner own k ts kind ps (Some OutOfMemory) is deep again h = absurd h

  pub map_fault : (room : ℕ) (k : Bool) (ts : Trees) (kind : MapKind) (ps : Pairs) (r : Option DocumentRefusal) → pair_count ps < 2 ^ 64 → (AreLegal ts → ArePairs kind [] ps) → NodesFault room k ts kind ps r → IsFault L room k (map' kind ps) r
  map_fault room k ts kind ps None few keys h = (h.0, λ l. (keys (h.1 l), few), h.2)
  map_fault room k ts kind ps (Some UnknownWhole) few keys h = h
  map_fault room k ts kind ps (Some TooDeep) few keys h = h
  map_fault room k ts kind ps (Some RepeatedKey) few keys h = (h.0, h.1, inr h.2)
  map_fault room k ts kind ps (Some RepeatedWhole) few keys h = absurd h
  map_fault room k ts kind ps (Some WholeOrder) few keys h = absurd h
  map_fault room k ts kind ps (Some OutOfMemory) few keys h = absurd h

  pub repeat_fault : (room : ℕ) (k : Bool) (ts : Trees) (ps : Pairs) (r : Option DocumentRefusal) → HasKeyTwice ps → NodesFault room k ts kept ps r → IsFault L room k (map' kept ps) (worse_of (Some RepeatedKey) r)
  repeat_fault room k ts ps None twice h = (h.0, h.2, inl twice)
  repeat_fault room k ts ps (Some UnknownWhole) twice h = h
  repeat_fault room k ts ps (Some TooDeep) twice h = h
  repeat_fault room k ts ps (Some RepeatedKey) twice h = (h.0, h.1, inl twice)
  repeat_fault room k ts ps (Some RepeatedWhole) twice h = absurd h
  repeat_fault room k ts ps (Some WholeOrder) twice h = absurd h
  repeat_fault room k ts ps (Some OutOfMemory) twice h = absurd h

-- the nodes of pairs
abbrev pub values : List (String Global × Node) → List Node
values ps = map (λ p. p.1) ps

pub values_depth : (table : List Tree) (ps : List (String Global × Node)) → most_depth (node_trees table (values ps)) ≡ pairs_depth (node_pairs table ps)
values_depth table [] = refl
values_depth table (p ∷ ps) = ap (max (depth (node_tree table p.1))) (values_depth table ps)

pub repeat_among_pairs : (table : List Tree) (ps : List (String Global × Node)) → RepeatAmong (node_trees table (values ps)) → RepeatAmongPairs (node_pairs table ps)
repeat_among_pairs table [] h = h
repeat_among_pairs table (p ∷ ps) (inl h) = inl h
repeat_among_pairs table (p ∷ ps) (inr h) = inr (repeat_among_pairs table ps h)

-- ---- the numbers in containers

pub known-text : (n : ℕ) (t : String Global) → known_below n (node.Text t) ≡ true
known-text n t = ap (known_below n) (sym (node.rolls-Text t)) ∙ fold-roll-Node Bool (known_step n) (Node-F.Text t)

pub known-shared : (n : ℕ) (t : RcStr Global) → known_below n (node.Shared t) ≡ true
known-shared n t = ap (known_below n) (sym (node.rolls-Shared t)) ∙ fold-roll-Node Bool (known_step n) (Node-F.Shared t)

pub known-list : (n : ℕ) (v : Vec Node Global) → known_below n (node.List v) ≡ all_known n v.items
known-list n v = ap (known_below n) (sym (node.rolls-List v)) ∙ fold-roll-Node Bool (known_step n) (Node-F.List v)

pub known-none : (n : ℕ) → known_below n (node.Maybe None) ≡ true
known-none n = ap (known_below n) (sym (node.rolls-Maybe None)) ∙ fold-roll-Node Bool (known_step n) (Node-F.Maybe None)

pub known-some : (n : ℕ) (b : Box Node Global) → known_below n (node.Maybe (Some b)) ≡ known_below n b.value
known-some n b = ap (known_below n) (sym (node.rolls-Maybe (Some b))) ∙ fold-roll-Node Bool (known_step n) (Node-F.Maybe (Some b))

known_pairs : (n : ℕ) (ps : List (String Global × Node)) → list_all (λ (p : String Global × Bool). p.1) (map (λ p. (p.0, known_below n p.1)) ps) ≡ all_known n (values ps)
known_pairs n [] = refl
known_pairs n (p ∷ ps) = ap (λ b. known_below n p.1 && b) (known_pairs n ps)

pub known-ordered : (n : ℕ) (m : BTreeMap (String Global) Node) → known_below n (node.Ordered m) ≡ all_known n (values m.entries)
known-ordered n m = ap (known_below n) (sym (node.rolls-Ordered m)) ∙ fold-roll-Node Bool (known_step n) (Node-F.Ordered m) ∙ known_pairs n m.entries

pub known-hashed : (n : ℕ) (m : BTreeMap (String Global) Node) → known_below n (node.Hashed m) ≡ all_known n (values m.entries)
known-hashed n m = ap (known_below n) (sym (node.rolls-Hashed m)) ∙ fold-roll-Node Bool (known_step n) (Node-F.Hashed m) ∙ known_pairs n m.entries

pub known-kept : (n : ℕ) (v : Vec (String Global × Node) Global) → known_below n (node.Kept v) ≡ all_known n (values v.items)
known-kept n v = ap (known_below n) (sym (node.rolls-Kept v)) ∙ fold-roll-Node Bool (known_step n) (Node-F.Kept v) ∙ known_pairs n v.items

pub known-whole : (n m : ℕ) → known_below n (node.Whole m) ≡ nat_lt m n
known-whole n m = ap (known_below n) (sym (node.rolls-Whole m)) ∙ fold-roll-Node Bool (known_step n) (Node-F.Whole m)

module _ (table : List Tree) where
  -- ascending keys
  abbrev Follow : List (List ℕ) → List (String Global × Node) → Type 0
  Follow keys [] = Unit {0}
  Follow keys (p ∷ ps) = IsAboveLast keys (string_bytes p.0)

  follow_next : (p : String Global × Node) (ps : List (String Global × Node)) (keys : List (List ℕ)) → IsStrictlySortedBy string_cmp (keys_of (p ∷ ps)) → Follow (string_bytes p.0 ∷ keys) ps
  follow_next p [] keys sorted = tt
  follow_next p (q ∷ ps) keys sorted = All-head (λ k. string_cmp p.0 k ≡ Less) q.0 (keys_of ps) (All-after_first string_cmp p.0 (keys_of (q ∷ ps)) sorted)

  ascending : (kind : MapKind) → ((keys : List (List ℕ)) (k : List ℕ) → IsAboveLast keys k → MayFollow kind keys k) → (keys : List (List ℕ)) (ps : List (String Global × Node)) → Follow keys ps
      → IsStrictlySortedBy string_cmp (keys_of ps) → AreLegal (node_trees table (values ps)) → ArePairs kind keys (node_pairs table ps)
  ascending kind may keys [] follow sorted legal = tt
  ascending kind may keys (p ∷ ps) follow sorted legal = (
    (IsUtf8-string_bytes p.0, may keys (string_bytes p.0) follow),
    (legal.0, ascending kind may (string_bytes p.0 ∷ keys) ps (follow_next p ps keys sorted) (sorted_tail string_cmp p.0 (keys_of ps) sorted) legal.1),
  )

  starts : (ps : List (String Global × Node)) → Follow [] ps
  starts [] = tt
  starts (p ∷ ps) = tt

  pub ordered_pairs : (ps : List (String Global × Node)) → IsStrictlySortedBy string_cmp (keys_of ps) → AreLegal (node_trees table (values ps)) → ArePairs ordered [] (node_pairs table ps)
  ordered_pairs ps sorted legal = ascending ordered (λ (keys : List (List ℕ)) (k : List ℕ) (h : IsAboveLast keys k). h) [] ps (starts ps) sorted legal

  pub hashed_pairs : (ps : List (String Global × Node)) → IsStrictlySortedBy string_cmp (keys_of ps) → AreLegal (node_trees table (values ps)) → ArePairs hashed [] (node_pairs table ps)
  hashed_pairs ps sorted legal = ascending hashed (λ (keys : List (List ℕ)) (k : List ℕ) (h : IsAboveLast keys k). h) [] ps (starts ps) sorted legal

  distinct : (keys : List (List ℕ)) (ps : List (String Global × Node)) → (HasKeyTwice (node_pairs table ps) → ⊥) → All (λ k. HasKey k (node_pairs table ps) → ⊥) keys → AreLegal (node_trees table (values ps)) → ArePairs kept keys (node_pairs table ps)
  distinct keys [] once new legal = tt
  distinct keys (p ∷ ps) once new legal =
      let k = string_bytes p.0 in (
        (IsUtf8-string_bytes p.0, λ i d within same. new i d within (inl (sym same))),
        (
          legal.0,
          distinct (k ∷ keys) ps (λ twice. once (inr twice)) (All-cons (λ l. HasKey l (node_pairs table ps) → ⊥) k keys (λ has. once (inl has)) (λ i d within has. new i d within (inr has))) legal.1,
        ),
      )

  pub kept_pairs : (ps : List (String Global × Node)) → (HasKeyTwice (node_pairs table ps) → ⊥) → AreLegal (node_trees table (values ps)) → ArePairs kept [] (node_pairs table ps)
  kept_pairs ps once legal = distinct [] ps once (All-nil (λ k. HasKey k (node_pairs table ps) → ⊥)) legal

-- two maps of the same keys
pub twice_same : (table : List Tree) (ps : List (String Global × Node)) → HasKeyTwice (node_pairs [] ps) → HasKeyTwice (node_pairs table ps)
twice_same table [] h = h
twice_same table (p ∷ ps) (inl h) = inl (key_same ps h)
  where
    key_same : (qs : List (String Global × Node)) → HasKey (string_bytes p.0) (node_pairs [] qs) → HasKey (string_bytes p.0) (node_pairs table qs)
    key_same [] g = g
    key_same (q ∷ qs) (inl g) = inl g
    key_same (q ∷ qs) (inr g) = inr (key_same qs g)
twice_same table (p ∷ ps) (inr h) = inr (twice_same table ps h)

pub twice_back : (table : List Tree) (ps : List (String Global × Node)) → HasKeyTwice (node_pairs table ps) → HasKeyTwice (node_pairs [] ps)
twice_back table [] h = h
twice_back table (p ∷ ps) (inl h) = inl (key_back ps h)
  where
    key_back : (qs : List (String Global × Node)) → HasKey (string_bytes p.0) (node_pairs table qs) → HasKey (string_bytes p.0) (node_pairs [] qs)
    key_back [] g = g
    key_back (q ∷ qs) (inl g) = inl g
    key_back (q ∷ qs) (inr g) = inr (key_back qs g)
twice_back table (p ∷ ps) (inr h) = inr (twice_back table ps h)

-- what is wrong with a node is more than nothing, so it is no document
legal_once : (ps : Pairs) (keys : List (List ℕ)) → ArePairs kept keys ps → (k : List ℕ) → HasKey k ps → All (λ l. l ≢ k) keys
legal_once no_pairs keys are k h = absurd h
legal_once (more_pairs l t ps) keys are k (inl same) = subst (λ m. All (λ x. x ≢ m) keys) same are.0.1
legal_once (more_pairs l t ps) keys are k (inr h) = All-tail (λ x. x ≢ k) l keys (legal_once ps (l ∷ keys) are.1.1 k h)

not_twice_where_legal : (ps : Pairs) (keys : List (List ℕ)) → ArePairs kept keys ps → HasKeyTwice ps → ⊥
not_twice_where_legal no_pairs keys are h = h
not_twice_where_legal (more_pairs k t ps) keys are (inl h) = All-head (λ x. x ≢ k) k keys (legal_once ps (k ∷ keys) are.1.1 k h) refl
not_twice_where_legal (more_pairs k t ps) keys are (inr h) = not_twice_where_legal ps (k ∷ keys) are.1.1 h

repeats_here : (kind : MapKind) (ps : Pairs) → ArePairs kind [] ps → RepeatsHere kind ps → ⊥
repeats_here ordered ps are h = h
repeats_here hashed ps are h = h
repeats_here kept ps are h = not_twice_where_legal ps [] are h

mutual
  no_repeat : (t : Tree) → IsLegal t → RepeatsKey t → ⊥
  no_repeat (leaf l) legal h = h
  no_repeat (shared b) legal h = h
  no_repeat nothing legal h = h
  no_repeat (just t) legal h = no_repeat t legal h
  no_repeat (list ts) legal h = no_repeat_among ts legal.0 h
  no_repeat (map' kind ps) legal (inl h) = repeats_here kind ps legal.0 h
  no_repeat (map' kind ps) legal (inr h) = no_repeat_among_pairs kind [] ps legal.0 h
  no_repeat (whole t) legal h = no_repeat t legal h

  no_repeat_among : (ts : Trees) → AreLegal ts → RepeatAmong ts → ⊥
  no_repeat_among no_trees legal h = h
  no_repeat_among (more_trees t ts) legal (inl h) = no_repeat t legal.0 h
  no_repeat_among (more_trees t ts) legal (inr h) = no_repeat_among ts legal.1 h

  no_repeat_among_pairs : (kind : MapKind) (keys : List (List ℕ)) (ps : Pairs) → ArePairs kind keys ps → RepeatAmongPairs ps → ⊥
  no_repeat_among_pairs kind keys no_pairs are h = h
  no_repeat_among_pairs kind keys (more_pairs k t ps) are (inl h) = no_repeat t are.1.0 h
  no_repeat_among_pairs kind keys (more_pairs k t ps) are (inr h) = no_repeat_among_pairs kind (k ∷ keys) ps are.1.1 h

-- a refusal does not depend on what is known of wholes
pub same_refusal : (L M : Type 0) (room : ℕ) (k : Bool) (t : Tree) (r : DocumentRefusal) → IsFault L room k t (Some r) → IsFault M room k t (Some r)
same_refusal L M room k t UnknownWhole h = h
same_refusal L M room k t TooDeep h = h
same_refusal L M room k t RepeatedKey h = h
same_refusal L M room k t RepeatedWhole h = h
same_refusal L M room k t WholeOrder h = h
same_refusal L M room k t OutOfMemory h = h

-- a node with a fault is the root of no document
pub refused_is_no_document : (n : Node) (refusal : DocumentRefusal) → IsRefusedFor 64 n refusal → IsDocument (node_tree [] n) → known_below 0 n ≡ true → ⊥
refused_is_no_document n UnknownWhole met document known = false≢true (sym met ∙ known)
refused_is_no_document n TooDeep met document known =
    let deep : depth (node_tree [] n) ≤ 64 = document.1 in
    omega (arith, met.1, deep)
refused_is_no_document n RepeatedKey met document known = no_repeat (node_tree [] n) document.0 met.2
refused_is_no_document n RepeatedWhole met document known = absurd met
refused_is_no_document n WholeOrder met document known = absurd met
refused_is_no_document n OutOfMemory met document known = absurd met
