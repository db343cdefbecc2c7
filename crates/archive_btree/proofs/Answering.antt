-- An archived map has the entries that it was written of, and answers their keys.
use Rattle.std.proofs.Common.{◌≡◌, ◌∙◌, ℕ, zero, suc, ◌<◌, ◌==◌, Bool, true, false, cond, List, [], ◌∷◌, length, get_or, Option, Some, None, MatchOption, IsSome, All, AllPairs, refl, ap, sym, subst, arith, eqb-true, eq-eqb}
use Rattle.std.specs.Option.{IsSomeAnd}
use Rattle.std.specs.List.{AllZip, find}
use Rattle.std.specs.Cmp.{IsTotalOrder}
use Rattle.std.specs.Ordering.{is_eq, ordering_reverse}
use Rattle.std.specs.declared.cmp.Ordering.{Ordering}
use Rattle.std.specs.declared.cmp.Ordering.TheVariants.{Equal}
use Rattle.archive_shape_layout.specs.Shape.{Shape}
use Rattle.archive_shape_layout.specs.Shape.Shape.{tree}
use Rattle.archive_shape_layout.specs.Value.{Value, Values}
use Rattle.archive_shape_layout.specs.Value.Value.{group}
use Rattle.archive_shape_layout.specs.Value.Values.{no_values, more_values}
use Rattle.archive_shape_layout.specs.Content.{Names, members}
use Rattle.archive_shape_layout.specs.Holds.{root_position}
use Rattle.archive_shape.specs.Key.{HeldAt}
use Rattle.archive_forms_values.specs.Parts.{both}
use Rattle.archive_forms_values.proofs.Rooted.{root_held}
use Rattle.archive_forms_laws.specs.State.{State}
use Rattle.archive_forms_laws.specs.Spelling.{Spelling, state_after}
use Rattle.archive_btree_spelling.specs.Maps.{btree_spelling}
use Rattle.archive_btree_spelling.specs.Written.{entry_spelling}
use Rattle.archive_btree_spelling.proofs.Spelled.{AreSpelled, entries_spelled}
use Rattle.archive_btree_layout.specs.Descent.{descend}
use Rattle.archive_btree_layout.specs.Reading.{Place}
use Rattle.archive_btree_layout.specs.Tree.{Tree, items}
use Rattle.archive_btree_maps.specs.Lookups.{QueryOrders, QuerySays, HasKey}
use Rattle.archive_btree_maps.specs.Maps.{IsMapAt, IsMapOf, AreEntriesAt, IsEntryAt}
use Rattle.archive_btree_maps.proofs.LookedUp.{ordered_search}
use Rattle.archive_btree_maps.proofs.ReadTree.{map_is_read}
use Rattle.archive_btree.specs.Answering.{IsWrittenMap, HasEntry, KeysAscend, entry_with, FindsEntry, AnswersKeys}
use Rattle.archive_btree_maps.specs.Descents.{DescendsTo}
use Rattle.archive_btree.proofs.Finding.{keys_there, order_of, orders_right, order_at, searched, search_finds, search_found}

some_of : {X : Type 0} (P : X → Type 0) (o : Option X) → IsSomeAnd o P → (x : X) × (o ≡ Some x)
some_of P None h = absurd h
some_of P (Some x) h = (x, refl)

find_some : {X : Type 0} (p : X → Bool) (xs : List X) (i : ℕ) (d : X) → i < length xs → p (get_or xs i d) ≡ true → (x : X) × (find p xs ≡ Some x)
find_some p [] i d l e = absurd (omega (arith, l))
find_some {X} p (y ∷ ys) i d l e = tested (p y) refl i l e (λ j m f. find_some p ys j d m f)
  where
    tested : (b : Bool) → p y ≡ b → (j : ℕ) → j < suc (length ys) → p (get_or (y ∷ ys) j d) ≡ true → ((k : ℕ) → k < length ys → p (get_or ys k d) ≡ true → (x : X) × (find p ys ≡ Some x))
        → (x : X) × (cond b (Some y) (find p ys) ≡ Some x)
    tested true is j m f rest = (y, refl)
    tested false is zero m f rest = absurd cc
    tested false is (suc j) m f rest = rest j (omega (arith, m)) f

-- the values of a pair
pair_is : (a b x y : Value) → group (more_values a (more_values b no_values)) ≡ group (more_values x (more_values y no_values)) → (a ≡ x) × (b ≡ y)
pair_is a b x y e = (cc, cc)

module _ {A B R P : Type 0} (most : ℕ) (k v : Shape) (knows others : Names → Type 0) (keys : Spelling A R) (vals : Spelling B P) (bytes : List ℕ) where
  abbrev Entry : Place → A × B → Type 0
  Entry at e = HasEntry most k v knows others keys vals bytes at e

  -- ---- entries

  entry_held : (p : Place) (w : Value) (e : A × B) (st : State) → w ≡ (entry_spelling most k v keys vals).value e st → IsEntryAt k v knows others bytes p w → Entry p e
  entry_held p w e st is h =
      let are = pair_is h.key h.value (keys.value e.0 st) (vals.value e.1 (state_after keys e.0 st)) (sym h.is ∙ is) in
      record { state = st; key_held = subst (HeldAt k knows bytes p.key) are.0 h.key_held; value_held = subst (HeldAt v others bytes p.value) are.1 h.value_held }

  pub entries_held : (ps : List Place) (ws : Values) (es : List (A × B)) → AreEntriesAt k v knows others bytes ps ws → AreSpelled (entry_spelling most k v keys vals) ws es → AllZip Entry ps es
  entries_held [] no_values [] h s = tt
  entries_held [] no_values (e ∷ es) h s = absurd s
  entries_held [] (more_values w ws) es h s = absurd h
  entries_held (p ∷ ps) no_values es h s = absurd h
  entries_held (p ∷ ps) (more_values w ws) [] h s = absurd s
  entries_held (p ∷ ps) (more_values w ws) (e ∷ es) h s = (entry_held p w e s.0.0 s.0.1 h.0, entries_held ps ws es h.1 s.1)

  module _ {Q : Type 0} (key : A → Q) (order : Q → Q → Ordering) (total : IsTotalOrder order) (key_of : List ℕ → ℕ → Q → Type 0)
      (represents : (x : A) (st : State) (pos : ℕ) → HeldAt k knows bytes pos (keys.value x st) → key_of bytes pos (key x))
      (one_key : (pos : ℕ) (a b : Q) → key_of bytes pos a → key_of bytes pos b → (query : Q) → order a query ≡ order b query) where
    entry_represents : (p : Place) (e : A × B) → Entry p e → key_of bytes p.key (key e.0)
    entry_represents p e h = represents e.0 h.state p.key h.key_held

    -- the entry is at the place that the search ends at
    has_entry : (query : Q) → (orders : Place → Ordering) (pos : ℕ) (t : Tree Place) → IsMapAt bytes most k v pos t → QueryOrders key_of order bytes query orders (items t) → All (λ p. (found : Q) × key_of bytes p.key found) (items t)
        → (at : Place) → descend orders t ≡ Some at → HasKey key_of order bytes most k v pos query
    has_entry query orders pos t map right keys at ends = record {
      search_tree = t;
      entry = at;
      map = map;
      found = subst (DescendsTo (QuerySays key_of order bytes query) t) ends (ordered_search key_of order bytes query orders t right keys);
    }

    entry_is_there : (query : Q) (orders : Place → Ordering) (t : Tree Place) (o : Option (A × B)) → IsSome o → MatchOption o (descend orders t ≡ None) (λ e. IsSomeAnd (descend orders t) (λ at. Entry at e))
        → (at : Place) × (descend orders t ≡ Some at)
    entry_is_there query orders t None some h = absurd cc
    entry_is_there query orders t (Some e) some h = some_of (λ at. Entry at e) (descend orders t) h

    -- of the entries of a map that is read
    pub read_answers : (pos : ℕ) (es : List (A × B)) (st : State) → 0 < most → IsMapOf k v knows others bytes most pos ((btree_spelling most k v keys vals).value es st)
        → KeysAscend most k v knows others keys vals bytes key order es
        → AnswersKeys most k v knows others keys vals bytes key order key_of pos es
    read_answers pos es st some m ascending =
        let ps = items m.search_tree in
        let there : AllZip Entry ps es = entries_held ps (members ((btree_spelling most k v keys vals).value es st)) es m.entries (entries_spelled most k v keys vals es st some) in
        let present = keys_there bytes key order total key_of one_key Entry entry_represents ps es there in
        let orders : Q → Place → Ordering = λ query. order_of bytes key order total key_of one_key Entry entry_represents m.search_tree es there ascending query in
        let right : (query : Q) → QueryOrders key_of order bytes query (orders query) ps = λ query. orders_right bytes key order total key_of one_key Entry entry_represents m.search_tree es there ascending query in
        let finds : (query : Q) (by : Place → Ordering) → QueryOrders key_of order bytes query by ps → FindsEntry most k v knows others keys vals bytes key order es query (descend by m.search_tree) = λ query by q.
        search_finds bytes key order total key_of one_key Entry entry_represents m.search_tree es there ascending query by q
        in
        record {
          search_tree = m.search_tree;
          map = m.map;
          walks = there;
          ascend = ascending;
          finds = finds;
          found = λ query at d. search_found bytes key order total key_of one_key Entry entry_represents m.search_tree es there ascending query at d;
          has = λ query some.
              let ends = entry_is_there query (orders query) m.search_tree (entry_with most k v knows others keys vals bytes key order query es) some (finds query (orders query) (right query)) in
              has_entry query (orders query) pos m.search_tree m.map (right query) present ends.0 ends.1;
          has_found = λ query at within same.
              let equal : orders query at ≡ Equal = order_at bytes key order total key_of one_key Entry entry_represents query ps es there within.0 at within.1 at within.2 same.0 same.1 ∙ ap ordering_reverse same.2 in
              let found = find_some (λ p. is_eq (orders query p)) ps within.0 at within.1 (ap (λ p. is_eq (orders query p)) within.2 ∙ ap is_eq equal) in
              has_entry query (orders query) pos m.search_tree m.map (right query) present found.0
              (searched bytes key order total key_of one_key Entry entry_represents m.search_tree es there ascending query (orders query) (right query) ∙ found.1);
        }

    -- of a map at any position
    pub held_answers : (pos : ℕ) (es : List (A × B)) (st : State) → 0 < most → HeldAt (tree most k v) (both knows others) bytes pos ((btree_spelling most k v keys vals).value es st)
        → KeysAscend most k v knows others keys vals bytes key order es
        → AnswersKeys most k v knows others keys vals bytes key order key_of pos es
    held_answers pos es st some h ascending =
        read_answers pos es st some (map_is_read k v knows others bytes most pos ((btree_spelling most k v keys vals).value es st) h) ascending

    -- of a map that is a root
    pub map_answers : (es : List (A × B)) → 0 < most → IsWrittenMap most k v knows others keys vals bytes es → KeysAscend most k v knows others keys vals bytes key order es
        → AnswersKeys most k v knows others keys vals bytes key order key_of (root_position (length bytes) (tree most k v)) es
    map_answers es some m ascending =
        let pos = root_position (length bytes) (tree most k v) in
        held_answers pos es m.state some
        (root_held (tree most k v) (both knows others) m.names bytes pos ((btree_spelling most k v keys vals).value es m.state) m.regions m.visits m.known m.archive.root) ascending
