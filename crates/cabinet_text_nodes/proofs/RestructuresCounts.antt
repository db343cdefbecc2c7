-- Elements and pairs are counted in 64 bits after an edit that may add some.
use Rattle.std.proofs.Common.{◌≡◌, ℕ, zero, suc, ◌<◌, ◌≤◌, ◌^◌, length, arith, Bool, true, false, cond, List, [], ◌∷◌, set, Result, Ok, Err, refl, sym, ap, subst, Option, Some, None, Box, Vec, Global, String}
use Rattle.std.specs.Prelude.{⊤}
use Rattle.std.specs.BTreeMap.{BTreeMap, insert_entry}
use Rattle.std.specs.Map.{set_value}
use Rattle.std.specs.Ordering.{match_ordering}
use Rattle.std.specs.declared.cmp.Ordering.{Ordering}
use Rattle.std.specs.declared.cmp.Ordering.TheVariants.{Less, Equal, Greater}
use Rattle.std.specs.Str.{bytes_eq}
use Rattle.std.specs.declared.alloc.AllocError.{AllocError}
use Rattle.cabinet_text_grammar.specs.Keys.{MapKind}
use Rattle.cabinet_text_grammar.specs.Path.{Step, key, place, inside}
use Rattle.cabinet_text_grammar.specs.Tree.{Tree, leaf, shared, nothing, just, list, map, whole, Trees, no_trees, more_trees, Pairs, no_pairs, more_pairs, count, pair_count, IsLegal, AreLegal, ArePairs}
use Rattle.cabinet_text_grammar.specs.Wholes.{wholes_of}
use Rattle.cabinet_text_grammar.specs.Restructuring.{Edited, edited, missing, refused, in_place_of, comes_before, put_pair, put_element, put_step, insert_element, insert_step}
use Rattle.cabinet_text_grammar.specs.RestructuringLaws.{IsCounted, AreCounted, PairsAreCounted}
use Rattle.cabinet_text_grammar.proofs.Restructured.{IfEdited, if_within, if_without, if_either}
use Rattle.cabinet_text_nodes.specs.Restructures.{BecomesOrStays, if_fits, IsCountedHere, IsLegalNew}
use Rattle.cabinet_text_nodes.specs.View.{node_tree, node_trees, node_pairs}
use Rattle.cabinet_text_nodes.specs.declared.answer.EditAnswer.TheVariants.{Done, Missing, Refused}
use Rattle.cabinet_text_nodes.specs.declared.answer.EditAnswer.{EditAnswer}
use Rattle.cabinet_text_nodes.specs.declared.node.Node.{Node}
use Rattle.cabinet_text_nodes.specs.declared.node.Node.TheVariants as node_of
use Rattle.cabinet_text_nodes.proofs.NewNodes.{new_alone}
use Rattle.cabinet_text_nodes.proofs.Views.{node_tree-none, node_tree-some, node_tree-list, node_tree-ordered, node_tree-hashed, node_tree-kept, count-node_trees, pair_count-node_pairs}

-- a legal tree is counted
mutual
  pub legal_counted : (t : Tree) → IsLegal t → IsCounted t
  legal_counted (leaf l) h = tt
  legal_counted (shared b) h = tt
  legal_counted nothing h = tt
  legal_counted (just t) h = legal_counted t h
  legal_counted (list ts) h = (legal_counted_in ts h.0, h.1)
  legal_counted (map kind ps) h = (legal_counted_by kind [] ps h.0, h.1)
  legal_counted (whole t) h = tt

  legal_counted_in : (ts : Trees) → AreLegal ts → AreCounted ts
  legal_counted_in no_trees h = tt
  legal_counted_in (more_trees t ts) h = (legal_counted t h.0, legal_counted_in ts h.1)

  legal_counted_by : (kind : MapKind) (keys : List (List ℕ)) (ps : Pairs) → ArePairs kind keys ps → PairsAreCounted ps
  legal_counted_by kind keys no_pairs h = tt
  legal_counted_by kind keys (more_pairs k t ps) h = (legal_counted t h.1.0, legal_counted_by kind (k ∷ keys) ps h.1.1)

-- ---- what lies in a container

abbrev PartsCounted : Tree → Type 0
PartsCounted (just t) = IsCounted t
PartsCounted (list ts) = AreCounted ts
PartsCounted (map kind ps) = PairsAreCounted ps
PartsCounted _ = ⊤

parts_of : (t : Tree) → IsCounted t → PartsCounted t
parts_of (leaf l) h = tt
parts_of (shared b) h = tt
parts_of nothing h = tt
parts_of (just t) h = h
parts_of (list ts) h = h.0
parts_of (map kind ps) h = h.0
parts_of (whole t) h = tt

counted_here : (t : Tree) → IsCounted t → IsCountedHere t
counted_here (leaf l) h = tt
counted_here (shared b) h = tt
counted_here nothing h = tt
counted_here (just t) h = tt
counted_here (list ts) h = h.1
counted_here (map kind ps) h = h.1
counted_here (whole t) h = tt

here_and_parts : (t : Tree) → IsCountedHere t → PartsCounted t → IsCounted t
here_and_parts (leaf l) h p = tt
here_and_parts (shared b) h p = tt
here_and_parts nothing h p = tt
here_and_parts (just t) h p = p
here_and_parts (list ts) h p = (p, h)
here_and_parts (map kind ps) h p = (p, h)
here_and_parts (whole t) h p = tt

module _ (new : Tree) (counted : IsCounted new) where
  in_place : (t : Tree) → IfEdited IsCounted (in_place_of t new)
  in_place t = if_without IsCounted (wholes_of t) new (λ h. counted)

  put_in : (ts : Trees) (i : ℕ) → AreCounted ts → IfEdited AreCounted (put_element ts i new)
  put_in no_trees zero h = (counted, tt)
  put_in no_trees (suc i) h = tt
  put_in (more_trees t ts) zero h = if_within AreCounted (λ u p. (p, h.1)) (in_place_of t new) (in_place t)
  put_in (more_trees t ts) (suc i) h = if_within AreCounted (λ us p. (h.0, p)) (put_element ts i new) (put_in ts i h.1)

  put_by : (kind : MapKind) (ps : Pairs) (k : List ℕ) → PairsAreCounted ps → IfEdited PairsAreCounted (put_pair kind ps k new)
  put_by kind no_pairs k h = (counted, tt)
  put_by kind (more_pairs l t ps) k h =
      if_either PairsAreCounted (bytes_eq l k) _ _
      (λ same. if_within PairsAreCounted (λ u p. (p, h.1)) (in_place_of t new) (in_place t))
      (λ differs. if_either PairsAreCounted (comes_before kind k l) _ _ (λ is. (counted, h))
      (λ not. if_within PairsAreCounted (λ qs p. (h.0, p)) (put_pair kind ps k new) (put_by kind ps k h.1)))

  put_parts : (t : Tree) (s : Step) → IsCounted t → IfEdited PartsCounted (put_step t s new)
  put_parts nothing inside h = counted
  put_parts (just t) inside h = if_within PartsCounted (λ u p. p) (in_place_of t new) (in_place t)
  put_parts (list ts) (place i) h = if_within PartsCounted (λ us p. p) (put_element ts i new) (put_in ts i h.0)
  put_parts (map kind ps) (key k) h = if_within PartsCounted (λ qs p. p) (put_pair kind ps k new) (put_by kind ps k h.0)
  put_parts (whole t) inside h = tt
  put_parts _ s h = tt

  insert_in : (ts : Trees) (i : ℕ) → AreCounted ts → IfEdited AreCounted (insert_element ts i new)
  insert_in ts zero h = (counted, h)
  insert_in no_trees (suc i) h = tt
  insert_in (more_trees t ts) (suc i) h = if_within AreCounted (λ us p. (h.0, p)) (insert_element ts i new) (insert_in ts i h.1)

  insert_parts : (t : Tree) (s : Step) → IsCounted t → IfEdited PartsCounted (insert_step t s new)
  insert_parts (list ts) (place i) h = if_within PartsCounted (λ us p. p) (insert_element ts i new) (insert_in ts i h.0)
  insert_parts (whole t) inside h = tt
  insert_parts _ s h = tt

-- what holds of what was there and of what an edit makes of it holds of what is there after the edit
after : {A : Type 0} (P : A → Type 0) (e : Edited A) (r : Result EditAnswer AllocError) (fits : Bool) (old new : A) → IfEdited P e → P old
    → BecomesOrStays (if_fits fits e) r old new → P new
after P (edited x) (Ok Done) true old new p q h = subst P (sym h) p
after P (edited x) (Ok Missing) true old new p q h = absurd h
after P (edited x) (Ok Refused) true old new p q h = absurd h
after P (edited x) (Ok Done) false old new p q h = absurd h
after P (edited x) (Ok Missing) false old new p q h = absurd h
after P (edited x) (Ok Refused) false old new p q h = subst P (sym h) q
after P missing (Ok Done) fits old new p q h = absurd h
after P missing (Ok Missing) fits old new p q h = subst P (sym h) q
after P missing (Ok Refused) fits old new p q h = absurd h
after P refused (Ok Done) fits old new p q h = absurd h
after P refused (Ok Missing) fits old new p q h = absurd h
after P refused (Ok Refused) fits old new p q h = subst P (sym h) q
after P e (Err x) fits old new p q h = subst P (sym h) q

-- ---- a container

module _ (table : List Tree) (n : Node) (is : IsLegalNew n) (t u : Tree) (s : Step) (fits : Bool) (r : Result EditAnswer AllocError) (legal : IsLegal t)
    (here : IsCountedHere t → IsCountedHere u) where
  new_counted : IsCounted (node_tree table n)
  new_counted = legal_counted (node_tree table n) (subst IsLegal (sym (new_alone table n is.0.0)) is.1)

  from_parts : PartsCounted u → IsCounted u
  from_parts = here_and_parts u (here (counted_here t (legal_counted t legal)))

  pub put_step-counted : BecomesOrStays (if_fits fits (put_step t s (node_tree table n))) r t u → IsCounted u
  put_step-counted h =
      from_parts (after PartsCounted (put_step t s (node_tree table n)) r fits t u
      (put_parts (node_tree table n) new_counted t s (legal_counted t legal)) (parts_of t (legal_counted t legal)) h)

  pub insert_step-counted : BecomesOrStays (if_fits fits (insert_step t s (node_tree table n))) r t u → IsCounted u
  insert_step-counted h =
      from_parts (after PartsCounted (insert_step t s (node_tree table n)) r fits t u
      (insert_parts (node_tree table n) new_counted t s (legal_counted t legal)) (parts_of t (legal_counted t legal)) h)

-- ---- what is around a part

module _ (table : List Tree) (new : Node) (counted : IsCounted (node_tree table new)) where
  set_in : (ns : List Node) (i : ℕ) → AreCounted (node_trees table ns) → AreCounted (node_trees table (set ns i new))
  set_in [] i h = tt
  set_in (n ∷ ns) zero h = (counted, h.1)
  set_in (n ∷ ns) (suc i) h = (h.0, set_in ns i h.1)

  count-set : (ns : List Node) (i : ℕ) → count (node_trees table (set ns i new)) ≡ count (node_trees table ns)
  count-set [] i = refl
  count-set (n ∷ ns) zero = refl
  count-set (n ∷ ns) (suc i) = ap (λ m. suc m) (count-set ns i)

  pub list_counted : (ns : List Node) (i : ℕ) → IsLegal (list (node_trees table ns)) → IsCounted (list (node_trees table (set ns i new)))
  list_counted ns i legal = (set_in ns i (legal_counted_in (node_trees table ns) legal.0), subst (λ m. m < 2 ^ 64) (sym (count-set ns i)) legal.1)

  module _ (test : String Global → Bool) where
    set_by : (ps : List (String Global × Node)) → PairsAreCounted (node_pairs table ps) → PairsAreCounted (node_pairs table (set_value test ps new))
    set_by [] h = tt
    set_by (p ∷ ps) h = by (test p.0) (set_by ps h.1)
      where
        by : (b : Bool) → PairsAreCounted (node_pairs table (set_value test ps new))
            → PairsAreCounted (node_pairs table (cond b ((p.0, new) ∷ ps) (p ∷ set_value test ps new)))
        by true rest = (counted, h.1)
        by false rest = (h.0, rest)

    pair_count-set : (ps : List (String Global × Node)) → pair_count (node_pairs table (set_value test ps new)) ≡ pair_count (node_pairs table ps)
    pair_count-set [] = refl
    pair_count-set (p ∷ ps) = by (test p.0) (pair_count-set ps)
      where
        by : (b : Bool) → pair_count (node_pairs table (set_value test ps new)) ≡ pair_count (node_pairs table ps)
            → pair_count (node_pairs table (cond b ((p.0, new) ∷ ps) (p ∷ set_value test ps new))) ≡ suc (pair_count (node_pairs table ps))
        by true rest = refl
        by false rest = ap (λ m. suc m) rest

    pub map_counted : (kind : MapKind) (ps : List (String Global × Node)) → IsLegal (map kind (node_pairs table ps))
        → IsCounted (map kind (node_pairs table (set_value test ps new)))
    map_counted kind ps legal =
        (set_by ps (legal_counted_by kind [] (node_pairs table ps) legal.0), subst (λ m. m < 2 ^ 64) (sym (pair_count-set ps)) legal.1)

-- ---- a map whose keys ascend

pub length-insert_entry : {K X : Type 0} (cmp : K → K → Ordering) (es : List (K × X)) (k : K) (v : X)
    → length (insert_entry cmp es k v) ≤ suc (length es)
length-insert_entry cmp [] k v = omega arith
length-insert_entry {K} {X} cmp (e ∷ es) k v = by (cmp k e.0) (length-insert_entry cmp es k v)
  where
    by : (o : Ordering) → length (insert_entry cmp es k v) ≤ suc (length es)
        → length (match_ordering o ((k, v) ∷ e ∷ es) ((e.0, v) ∷ es) (e ∷ insert_entry cmp es k v)) ≤ suc (suc (length es))
    by Less rest = omega arith
    by Equal rest = omega arith
    by Greater rest = omega (arith, rest)

-- ---- the containers that are nodes

module _ (table : List Tree) where
  pub option_here : (o : Option (Box Node Global)) → IsCountedHere (node_tree table (node_of.Maybe o))
  option_here None = subst IsCountedHere (sym (node_tree-none table)) tt
  option_here (Some b) = subst IsCountedHere (sym (node_tree-some table b)) tt

  pub list_here : (v : Vec Node Global) → IsCountedHere (node_tree table (node_of.List v))
  list_here v = subst IsCountedHere (sym (node_tree-list table v)) (omega (arith, v.ok, count-node_trees table v.items))

  pub kept_here : (v : Vec (String Global × Node) Global) → IsCountedHere (node_tree table (node_of.Kept v))
  kept_here v = subst IsCountedHere (sym (node_tree-kept table v)) (omega (arith, v.ok, pair_count-node_pairs table v.items))

  pub ordered_here : (m : BTreeMap (String Global) Node) → length m.entries < 2 ^ 64 → IsCountedHere (node_tree table (node_of.Ordered m))
  ordered_here m few = subst IsCountedHere (sym (node_tree-ordered table m)) (omega (arith, few, pair_count-node_pairs table m.entries))

  pub hashed_here : (m : BTreeMap (String Global) Node) → length m.entries < 2 ^ 64 → IsCountedHere (node_tree table (node_of.Hashed m))
  hashed_here m few = subst IsCountedHere (sym (node_tree-hashed table m)) (omega (arith, few, pair_count-node_pairs table m.entries))
