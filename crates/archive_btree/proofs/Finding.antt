-- Where the search for a query ends among places of entries whose keys ascend, whatever is said of each place and its entry.
use Rattle.std.proofs.Common.{◌≡◌, ◌∙◌, ℕ, zero, suc, ◌<◌, ◌==◌, Bool, true, false, cond, List, [], ◌∷◌, length, get_or, Option, Some, None, MatchOption, All, AllPairs, refl, ap, sym, subst, arith, eqb-true, eq-eqb}
use Rattle.std.specs.Option.{IsSomeAnd}
use Rattle.std.specs.List.{AllZip, find}
use Rattle.std.specs.Cmp.{IsTotalOrder}
use Rattle.std.specs.Ordering.{is_eq, ordering_reverse}
use Rattle.std.specs.declared.cmp.Ordering.{Ordering}
use Rattle.std.specs.declared.cmp.Ordering.TheVariants.{Less, Equal, Greater}
use Rattle.std.proofs.lemmas.List.Elements.{All-nil, All-cons, All-head, All-tail}
use Rattle.std.proofs.lemmas.List.Kept.{AllPairs-cons}
use Rattle.archive_btree_layout.proofs.Descending.{descent_finds, asc_of}
use Rattle.archive_btree_layout.specs.Descent.{Ascends, descend}
use Rattle.archive_btree_layout.specs.Reading.{Place}
use Rattle.archive_btree_layout.specs.Tree.{Tree, items}
use Rattle.archive_btree_maps.specs.Descents.{DescendsTo}
use Rattle.archive_btree_maps.specs.Lookups.{QueryOrders, QuerySays}
use Rattle.archive_btree_maps.proofs.LookedUp.{ordered_search, one_entry}
use Rattle.archive_btree_maps.proofs.Sublists.{pairs_head, pairs_tail}

reverse_eq : (o : Ordering) → is_eq (ordering_reverse o) ≡ is_eq o
reverse_eq Less = refl
reverse_eq Equal = refl
reverse_eq Greater = refl

-- a query that is not above a key is below each greater one
below_greater : {Q : Type 0} {order : Q → Q → Ordering} → IsTotalOrder order → (a b query : Q) → order a b ≡ Less
    → (ordering_reverse (order a query) ≡ Greater → ⊥) → ordering_reverse (order b query) ≡ Less
below_greater {Q} {order} total a b query less not = by_order (order a query) refl
  where
    above : order query b ≡ Less → ordering_reverse (order b query) ≡ Less
    above e = sym (total.antisymm query b) ∙ e

    by_order : (o : Ordering) → order a query ≡ o → ordering_reverse (order b query) ≡ Less
    by_order Less e = absurd (not (ap ordering_reverse e))
    by_order Equal e = above (sym (total.congr a query b e) ∙ less)
    by_order Greater e = above (total.trans query a b (total.antisymm query a ∙ ap ordering_reverse e) less)

-- what is found is the place of this entry, and nothing if there is none
abbrev pub FindsAt : {X Y : Type 0} → (X → Y → Type 0) → Option Y → Option X → Type 0
FindsAt Has first found = MatchOption first (found ≡ None) (λ e. IsSomeAnd found (λ at. Has at e))

module _ {A B Q : Type 0} (bytes : List ℕ) (key : A → Q) (order : Q → Q → Ordering) (total : IsTotalOrder order) (key_of : List ℕ → ℕ → Q → Type 0)
    (one_key : (pos : ℕ) (a b : Q) → key_of bytes pos a → key_of bytes pos b → (query : Q) → order a query ≡ order b query)
    (Has : Place → A × B → Type 0) (represents : (p : Place) (e : A × B) → Has p e → key_of bytes p.key (key e.0)) where
  module _ (query : Q) where
    abbrev compared : A × B → Ordering
    compared e = ordering_reverse (order (key e.0) query)

    abbrev entry_with : List (A × B) → Option (A × B)
    entry_with es = find (λ e. is_eq (order (key e.0) query)) es

    -- ---- where the query is compared with each key

    module _ (orders : Place → Ordering) where
      abbrev IsCompared : Place → A × B → Type 0
      IsCompared p e = Has p e × (orders p ≡ compared e)

      all_compared : (ps : List Place) (es : List (A × B)) → AllZip Has ps es → QueryOrders key_of order bytes query orders ps → AllZip IsCompared ps es
      all_compared [] [] h q = tt
      all_compared [] (e ∷ es) h q = absurd h
      all_compared (p ∷ ps) [] h q = absurd h
      all_compared (p ∷ ps) (e ∷ es) h q =
          let Right : Place → Type 0 = λ at. (found : Q) → key_of bytes at.key found → orders at ≡ ordering_reverse (order found query) in
          ((h.0, All-head Right p ps q (key e.0) (represents p e h.0)), all_compared ps es h.1 (All-tail Right p ps q))

      abbrev Later : Place → Place → Type 0
      Later a b = (orders a ≡ Greater → ⊥) → orders b ≡ Less

      later : (p : Place) (e : A × B) (ps : List Place) (es : List (A × B)) → orders p ≡ compared e → AllZip IsCompared ps es → All (λ f. order (key e.0) (key f.0) ≡ Less) es → All (Later p) ps
      later p e [] [] is h less = All-nil (Later p)
      later p e [] (f ∷ es) is h less = absurd h
      later p e (q ∷ ps) [] is h less = absurd h
      later p e (q ∷ ps) (f ∷ es) is h less =
          All-cons (Later p) q ps
          (λ not. h.0.1 ∙ below_greater total (key e.0) (key f.0) query (All-head (λ g. order (key e.0) (key g.0) ≡ Less) f es less) (λ greater. not (is ∙ greater)))
          (later p e ps es is h.1 (All-tail (λ g. order (key e.0) (key g.0) ≡ Less) f es less))

      ascends : (ps : List Place) (es : List (A × B)) → AllZip IsCompared ps es → AllPairs (λ a b. order (key a.0) (key b.0) ≡ Less) es → AllPairs Later ps
      ascends [] [] h a = λ i j d less below. absurd (omega (arith, below))
      ascends [] (e ∷ es) h a = absurd h
      ascends (p ∷ ps) [] h a = absurd h
      ascends (p ∷ ps) (e ∷ es) h a =
          let Ascend : A × B → A × B → Type 0 = λ x y. order (key x.0) (key y.0) ≡ Less in
          AllPairs-cons Later p ps (later p e ps es h.0.1 h.1 (pairs_head Ascend e es a)) (ascends ps es h.1 (pairs_tail Ascend e es a))

      first_alike : (ps : List Place) (es : List (A × B)) → AllZip IsCompared ps es → FindsAt Has (entry_with es) (find (λ p. is_eq (orders p)) ps)
      first_alike [] [] h = refl
      first_alike [] (e ∷ es) h = absurd h
      first_alike (p ∷ ps) [] h = absurd h
      first_alike (p ∷ ps) (e ∷ es) h = tested (is_eq (orders p)) (is_eq (order (key e.0) query)) (ap is_eq h.0.1 ∙ reverse_eq (order (key e.0) query)) (first_alike ps es h.1)
        where
          tested : (a b : Bool) → a ≡ b → FindsAt Has (entry_with es) (find (λ q. is_eq (orders q)) ps)
              → FindsAt Has (cond b (Some e) (entry_with es)) (cond a (Some p) (find (λ q. is_eq (orders q)) ps))
          tested true true same rest = h.0.0
          tested true false same rest = absurd cc
          tested false true same rest = absurd cc
          tested false false same rest = rest

    -- ---- how the query compares with each key

    abbrev pub orders_of : List Place → List (A × B) → Place → Ordering
    orders_of [] es at = Equal
    orders_of (p ∷ ps) [] at = Equal
    orders_of (p ∷ ps) (e ∷ es) at = cond (p.key == at.key) (compared e) (orders_of ps es at)

    pub order_at : (ps : List Place) (es : List (A × B)) → AllZip Has ps es → (i : ℕ) (d : Place) → i < length ps → (at : Place) → get_or ps i d ≡ at
        → (found : Q) → key_of bytes at.key found → orders_of ps es at ≡ ordering_reverse (order found query)
    order_at [] es h i d l at is found has = absurd (omega (arith, l))
    order_at (p ∷ ps) [] h i d l at is found has = absurd h
    order_at (p ∷ ps) (e ∷ es) h i d l at is found has = tested (p.key == at.key) refl i is l (λ j m there. order_at ps es h.1 j d m at there found has)
      where
        same_key : p.key ≡ at.key → compared e ≡ ordering_reverse (order found query)
        same_key same = ap ordering_reverse (one_key at.key (key e.0) found (subst (λ n. key_of bytes n (key e.0)) same (represents p e h.0)) has query)

        tested : (b : Bool) → (p.key == at.key) ≡ b → (j : ℕ) → get_or (p ∷ ps) j d ≡ at → j < suc (length ps)
            → ((k : ℕ) → k < length ps → get_or ps k d ≡ at → orders_of ps es at ≡ ordering_reverse (order found query))
            → cond b (compared e) (orders_of ps es at) ≡ ordering_reverse (order found query)
        tested true same j there low rest = same_key (eqb-true p.key at.key same)
        tested false other zero there low rest = absurd (let same = eq-eqb p.key at.key (ap (λ q. q.key) there) in cc)
        tested false other (suc j) there low rest = rest j (omega (arith, low)) there

  -- the keys at places of entries
  pub keys_there : (ps : List Place) (es : List (A × B)) → AllZip Has ps es → All (λ p. (found : Q) × key_of bytes p.key found) ps
  keys_there [] [] h = All-nil (λ p. (found : Q) × key_of bytes p.key found)
  keys_there [] (e ∷ es) h = absurd h
  keys_there (p ∷ ps) [] h = absurd h
  keys_there (p ∷ ps) (e ∷ es) h = All-cons (λ q. (found : Q) × key_of bytes q.key found) p ps (key e.0, represents p e h.0) (keys_there ps es h.1)

  -- ---- in a tree that has its items at entries

  module _ (t : Tree Place) (es : List (A × B)) (there : AllZip Has (items t) es) (ascending : AllPairs (λ a b. order (key a.0) (key b.0) ≡ Less) es) (query : Q) where
    -- the query compares so with each key, and the keys ascend by it
    abbrev pub order_of : Place → Ordering
    order_of = orders_of query (items t) es

    pub orders_right : QueryOrders key_of order bytes query order_of (items t)
    orders_right i d l found has = order_at query (items t) es there i d l (get_or (items t) i d) refl found has

    module _ (orders : Place → Ordering) (right : QueryOrders key_of order bytes query orders (items t)) where
      pub each_compared : AllZip (IsCompared query orders) (items t) es
      each_compared = all_compared query orders (items t) es there right

      pub orders_ascend : Ascends orders (items t)
      orders_ascend = ascends query orders (items t) es each_compared ascending

      pub searched : descend orders t ≡ find (λ p. is_eq (orders p)) (items t)
      searched = descent_finds orders t (asc_of orders (items t) orders_ascend)

      pub search_finds : FindsAt Has (entry_with query es) (descend orders t)
      search_finds = subst (FindsAt Has (entry_with query es)) (sym searched) (first_alike query orders (items t) es each_compared)

    pub search_found : (at : Option Place) → DescendsTo (QuerySays key_of order bytes query) t at → FindsAt Has (entry_with query es) at
    search_found at d =
        let ends = ordered_search key_of order bytes query order_of t orders_right (keys_there (items t) es there) in
        subst (FindsAt Has (entry_with query es)) (one_entry key_of order bytes query one_key t (descend order_of t) at ends d) (search_finds order_of orders_right)
