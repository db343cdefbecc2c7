-- The value of a set that the layout holds.
use Rattle.std.proofs.Common.{◌≡◌, ◌∙◌, ℕ, ◌≤◌, List, [], ◌∷◌, length, map, refl, ap, sym, subst, arith}
use Rattle.std.specs.Bool.{⊤}
use Rattle.std.specs.List.{AllZip}
use Rattle.archive_shape_layout.specs.Shape.{Shape}
use Rattle.archive_shape_layout.specs.Shape.Shape.{tree, tuple}
use Rattle.archive_shape_layout.specs.Shape.Shapes.{no_shapes}
use Rattle.archive_shape_layout.specs.Value.{Value, Values}
use Rattle.archive_shape_layout.specs.Value.Value.{natural, integer, boolean, string, group, chosen, counted, back}
use Rattle.archive_shape_layout.specs.Value.Values.{no_values, more_values}
use Rattle.archive_shape_layout.specs.Content.{Names, members, shape_content, fields}
use Rattle.archive_shape_layout.proofs.Visited.{claimed_raised}
use Rattle.archive_shape_layout.proofs.Unique.{by_plain}
use Rattle.archive_btree_layout.specs.Items.{ArePairs, IsTreeRead}
use Rattle.archive_btree_layout.specs.Items.IsTreeRead.{reads_none, reads_tree}
use Rattle.archive_btree_layout.specs.Reading.{Place}
use Rattle.archive_btree_layout.specs.Tree.{items}
use Rattle.archive_btree_layout.proofs.Mapped.{tree_is_read}
use Rattle.archive_shape.specs.Key.{HeldAt}
use Rattle.archive_forms_laws.specs.Views.{listed, elements_of}
use Rattle.archive_forms_values.proofs.Inside.{none_held}
use Rattle.archive_forms_values.proofs.Pointed.{made_whole}
use Rattle.archive_btree_maps.specs.Maps.{AreEntriesAt}
use Rattle.archive_btree_maps.proofs.ReadTree.{map_is_read}
use Rattle.archive_btree_maps.specs.Sets.{set_knows}
use Rattle.archive_btree_maps.specs.Keys.{key_in, pairs_of, SetIsRead}

-- a unit is the empty group
unit_is : {knows : Names → Type 0} {bytes : List ℕ} {pos : ℕ} (v : Value) → HeldAt (tuple no_shapes) knows bytes pos v → v ≡ group no_values
unfolding shape_content fields
unit_is {bytes = bytes} v h =
    let says = by_plain h.names bytes refl h.holds in
    made_whole says.vs v says.is_made ∙ ap group (none_held h.names bytes says.all)

-- ---- a value with members is a group

by_members : (value : Value) → (members value ≡ no_values → ⊥) → value ≡ group (members value)
by_members (group vs) some = refl
by_members (natural n) some = absurd (some refl)
by_members (integer n) some = absurd (some refl)
by_members (boolean b) some = absurd (some refl)
by_members (string bytes) some = absurd (some refl)
by_members (chosen t vs) some = absurd (some refl)
by_members (counted n v) some = absurd (some refl)
by_members (back n) some = absurd (some refl)

no_pairs : (names : Names) (bytes : List ℕ) (k v : Shape) (ps : List Place) → ArePairs names bytes k v ps no_values → length ps ≡ 0
no_pairs names bytes k v [] h = refl
no_pairs names bytes k v (p ∷ ps) h = absurd h

grouped : {names : Names} {bytes : List ℕ} {most : ℕ} {k v : Shape} {pos : ℕ} (value : Value) → IsTreeRead names bytes most k v pos value → value ≡ group (members value)
grouped value (reads_none a b) = b ∙ ap (λ w. group (members w)) (sym b)
grouped {names} {bytes} {most} {k} {v} {pos} value (reads_tree {t = t} a b c d e) =
    by_members value (λ none. a (sym d ∙ no_pairs names bytes k v (items t) (subst (ArePairs names bytes k v (items t)) none e)))

set_grouped : (k : Shape) (knows : Names → Type 0) (bytes : List ℕ) (most pos : ℕ) (value : Value) → HeldAt (tree most k (tuple no_shapes)) knows bytes pos value → value ≡ group (members value)
set_grouped k knows bytes most pos value h =
    let own : pos ≤ length bytes = omega (arith, h.own_within) in
    grouped value (tree_is_read h.names bytes most k (tuple no_shapes) h.level h.inside pos value h.regions h.before h.after h.low h.holds (claimed_raised own h.claimed))

module _ (k : Shape) (knows : Names → Type 0) (bytes : List ℕ) where
  keys_stand : (ps : List Place) (ws : Values) → AreEntriesAt k (tuple no_shapes) knows (λ _. ⊤) bytes ps ws → AllZip (λ e key. HeldAt k knows bytes e.key key) ps (map key_in (listed ws))
  keys_stand [] no_values h = tt
  keys_stand [] (more_values w ws) h = absurd h
  keys_stand (p ∷ ps) no_values h = absurd h
  keys_stand (p ∷ ps) (more_values w ws) h = (subst (HeldAt k knows bytes p.key) (sym (ap key_in h.0.is)) h.0.key_held, keys_stand ps ws h.1)

  pairs_are : (ps : List Place) (ws : Values) → AreEntriesAt k (tuple no_shapes) knows (λ _. ⊤) bytes ps ws → ws ≡ pairs_of (map key_in (listed ws))
  pairs_are [] no_values h = refl
  pairs_are [] (more_values w ws) h = absurd h
  pairs_are (p ∷ ps) no_values h = absurd h
  pairs_are (p ∷ ps) (more_values w ws) h =
      let unit : h.0.value ≡ group no_values = unit_is h.0.value h.0.value_held in
      let key : h.0.key ≡ key_in w = sym (ap key_in h.0.is) in
      let pair : w ≡ group (more_values (key_in w) (more_values (group no_values) no_values)) = h.0.is ∙ (λ i. group (more_values (key i) (more_values (unit i) no_values))) in
      λ i. more_values (pair i) (pairs_are ps ws h.1 i)

  pub set_is_read : (most : ℕ) → SetIsRead k knows bytes most
  set_is_read most pos value h =
      let m = map_is_read k (tuple no_shapes) knows (λ _. ⊤) bytes most pos value h in
      let is : value ≡ group (members value) = set_grouped k (set_knows knows) bytes most pos value h in
      let same : listed (members value) ≡ elements_of value = sym (ap elements_of is) in
      record {
        search_tree = m.search_tree;
        set = m.map;
        keys = subst (λ ws. AllZip (λ e key. HeldAt k knows bytes e.key key) (items m.search_tree) (map key_in ws)) same (keys_stand (items m.search_tree) (members value) m.entries);
        is = is ∙ ap group (pairs_are (items m.search_tree) (members value) m.entries ∙ ap (λ ws. pairs_of (map key_in ws)) same);
      }
