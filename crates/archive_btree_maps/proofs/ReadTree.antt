-- The search tree that a map's bytes have where the layout has the map.
use Rattle.std.proofs.Common.{ℕ, ◌≤◌, List, [], ◌∷◌, length, refl, sym, subst, arith}
use Rattle.archive_shape_layout.specs.Shape.{Shape}
use Rattle.archive_shape_layout.specs.Value.{Value, Values}
use Rattle.archive_shape_layout.specs.Value.Values.{no_values, more_values}
use Rattle.archive_shape_layout.specs.Content.{Names, members}
use Rattle.archive_shape_layout.proofs.Visited.{claimed_raised}
use Rattle.archive_shape.specs.Key.{HeldAt}
use Rattle.archive_btree_layout.specs.Items.{IsHeld, ArePairs, IsTreeRead}
use Rattle.archive_btree_layout.specs.Items.IsTreeRead.{reads_none, reads_tree}
use Rattle.archive_btree_layout.specs.Reading.{Place}
use Rattle.archive_btree_layout.specs.Tree.{items}
use Rattle.archive_btree_layout.specs.Tree.Tree.{absent}
use Rattle.archive_btree_layout.proofs.Mapped.{tree_is_read}
use Rattle.archive_forms_values.specs.Parts.{both}
use Rattle.archive_btree_maps.specs.Maps.{IsEntryAt, AreEntriesAt, IsMapOf, MapIsRead}
use Rattle.archive_btree_maps.specs.Maps.IsMapAt.{has_none, has_root}

-- what holds under names that a type knows
pub held_under : {names : Names} {bytes : List ℕ} {s : Shape} {pos : ℕ} {value : Value} (knows : Names → Type 0) → knows names → IsHeld names bytes s pos value → HeldAt s knows bytes pos value
held_under {names = names} knows known h =
    record {
      names = names;
      known = known;
      level = h.depth;
      inside = h.inside;
      regions = h.regions;
      before = h.before;
      after = h.after;
      own_within = h.own_within;
      low = h.low;
      claimed = h.claimed;
      holds = h.holds;
    }

module _ (k v : Shape) (knows others : Names → Type 0) (bytes : List ℕ) where
  entries_stand : (names : Names) → both knows others names → (ps : List Place) (ws : Values) → ArePairs names bytes k v ps ws → AreEntriesAt k v knows others bytes ps ws
  entries_stand names known [] no_values h = tt
  entries_stand names known [] (more_values w ws) h = absurd h
  entries_stand names known (p ∷ ps) no_values h = absurd h
  entries_stand names known (p ∷ ps) (more_values w ws) h =
      let one : IsEntryAt k v knows others bytes p w =
      record {
        key = h.0.key;
        value = h.0.value;
        key_held = held_under knows known.0 h.0.key_held;
        value_held = held_under others known.1 h.0.value_held;
        is = h.0.is;
      }
      in
      (one, entries_stand names known ps ws h.1)

  by_tree : (most pos : ℕ) (value : Value) (names : Names) → both knows others names → IsTreeRead names bytes most k v pos value → IsMapOf k v knows others bytes most pos value
  by_tree most pos value names known (reads_none a b) =
      record {
        search_tree = absent;
        map = has_none a refl;
        entries = subst (λ x. AreEntriesAt k v knows others bytes [] (members x)) (sym b) tt;
      }
  by_tree most pos value names known (reads_tree {t = t} a b c d e) =
      record {
        search_tree = t;
        map = has_root a b c d;
        entries = entries_stand names known (items t) (members value) e;
      }

  pub map_is_read : (most : ℕ) → MapIsRead k v knows others bytes most
  map_is_read most pos value h =
      let own : pos ≤ length bytes = omega (arith, h.own_within) in
      by_tree most pos value h.names h.known
      (tree_is_read h.names bytes most k v h.level h.inside pos value h.regions h.before h.after h.low h.holds (claimed_raised own h.claimed))
