-- The keys and values of a map at their places.
use Rattle.std.proofs.Common.{◌≡◌, ℕ, List, [], ◌∷◌, Option, Some, None, IfSome, All, sym, subst}
use Rattle.std.proofs.lemmas.List.Elements.{All-nil, All-cons, All-contains}
use Rattle.archive_shape_layout.specs.Shape.{Shape}
use Rattle.archive_shape_layout.specs.Shape.Shape.{tree}
use Rattle.archive_shape_layout.specs.Value.{Value, Values}
use Rattle.archive_shape_layout.specs.Value.Values.{no_values, more_values}
use Rattle.archive_shape_layout.specs.Content.{Names, members}
use Rattle.archive_btree_layout.specs.Reading.{Place}
use Rattle.archive_btree_layout.specs.Tree.{Tree, items}
use Rattle.archive_shape.specs.Key.{HeldAt}
use Rattle.archive_forms_values.specs.Parts.{HasValue, both}
use Rattle.archive_btree_maps.specs.Maps.{IsMapAt, IsMapOf, AreEntriesAt}
use Rattle.archive_btree_maps.specs.Lookups.{Finds}
use Rattle.archive_btree_maps.proofs.One.{one_map}
use Rattle.archive_btree_maps.proofs.Roots.{tree_of_value}

module _ (k v : Shape) (knows others : Names → Type 0) (bytes : List ℕ) (P : Place → Type 0) (says : (e : Place) (u w : Value) → HeldAt k knows bytes e.key u → HeldAt v others bytes e.value w → P e) where
  entries_among : (ps : List Place) (ws : Values) → AreEntriesAt k v knows others bytes ps ws → All P ps
  entries_among [] no_values h = All-nil P
  entries_among [] (more_values w ws) h = absurd h
  entries_among (p ∷ ps) no_values h = absurd h
  entries_among (p ∷ ps) (more_values w ws) h = All-cons P p ps (says p h.0.key h.0.value h.0.key_held h.0.value_held) (entries_among ps ws h.1)

  -- what holds regardless of where a key and a value are held holds at each item of the map
  pub entries_are : (most pos : ℕ) → HasValue (tree most k v) (both knows others) bytes pos → (t : Tree Place) → IsMapAt bytes most k v pos t → All P (items t)
  entries_are most pos h t is =
      let m : IsMapOf k v knows others bytes most pos h.value = tree_of_value h in
      let same : m.search_tree ≡ t = one_map bytes most k v pos m.search_tree t m.map is in
      subst (λ x. All P (items x)) same (entries_among (items m.search_tree) (members h.value) m.entries)

-- a key and a value are held at what is found among the items of a map
abbrev pub EntryIsThere : (k v : Shape) → (Names → Type 0) → (Names → Type 0) → List ℕ → Place → Type 0
EntryIsThere k v knows others bytes e = HasValue k knows bytes e.key × HasValue v others bytes e.value

pub found_there :
    {A : Type 0} (k v : Shape) (knows others : Names → Type 0) (bytes : List ℕ) (most pos : ℕ) → HasValue (tree most k v) (both knows others) bytes pos
    → (of : Place → A) (holds : Place → Type 0) (P : A → Type 0) → ((e : Place) → EntryIsThere k v knows others bytes e → P (of e))
    → (found : Option A) → ((t : Tree Place) → IsMapAt bytes most k v pos t → Finds of holds (items t) found)
    → IfSome found P
found_there k v knows others bytes most pos h of holds P step None finds = tt
found_there k v knows others bytes most pos h of holds P step (Some a) finds =
    let m = tree_of_value h in
    let f = finds m.search_tree m.map in
    let all = entries_are k v knows others bytes (EntryIsThere k v knows others bytes) (λ e u w x y. (record { value = u; held = x }, record { value = w; held = y })) most pos h m.search_tree m.map in
    subst P (sym f.3) (step f.0 (All-contains (EntryIsThere k v knows others bytes) (items m.search_tree) f.0 all f.1))
