-- The keys of a set are held where its items lie.
use denote.Ref.{Bor}
use Rattle.std.proofs.Common.{◌≡◌, ℕ, List, map, All, sym, subst}
use Rattle.std.specs.Bool.{⊤}
use Rattle.std.proofs.lemmas.List.Elements.{All-map}
use Rattle.archive_shape_layout.specs.Shape.{Shape}
use Rattle.archive_shape_layout.specs.Shape.Shape.{tuple}
use Rattle.archive_shape_layout.specs.Shape.Shapes.{no_shapes}
use Rattle.archive_shape_layout.specs.Content.{Names}
use Rattle.archive_shape.specs.declared.references.refs.Ref.{Ref}
use Rattle.archive_btree_layout.specs.Reading.{Place}
use Rattle.archive_btree_layout.specs.Tree.{Tree, items}
use Rattle.archive_forms_values.specs.Parts.{HasValue}
use Rattle.archive_btree_maps.specs.Maps.{IsMapOf}
use Rattle.archive_btree_maps.specs.Refs.{key_at}
use Rattle.archive_btree_maps.proofs.HeldKeys.{entries_are}
use Rattle.archive_btree_maps.proofs.Roots.{tree_of_value}
use Rattle.archive_btree_maps.specs.Sets.{HasSet, IsSetAt}

module _ {k : Shape} {knows : Names → Type 0} {most pos : ℕ} where
  -- a set that has a value has a tree
  pub tree_of_set : {bytes : List ℕ} (h : HasSet most k knows bytes pos) → IsMapOf k (tuple no_shapes) knows (λ _. ⊤) bytes most pos h.value
  tree_of_set h = tree_of_value h

  -- what holds of each key that is held holds of the keys of a set
  pub keys_are :
      {K : Type 0} (bytes : Bor (List ℕ)) (P : Ref K → Type 0) → ((r : Ref K) → HasValue k knows r.bytes.now r.pos → P r) → HasSet most k knows bytes.now pos
      → (keys : List (Ref K)) → ((t : Tree Place) → IsSetAt bytes.now most k pos t → keys ≡ map (key_at bytes) (items t))
      → All P keys
  keys_are bytes P says h keys are =
      let m = tree_of_set h in
      let each : All (λ e. P (key_at bytes e)) (items m.search_tree) =
      entries_are k (tuple no_shapes) knows (λ _. ⊤) bytes.now (λ e. P (key_at bytes e)) (λ e u w x y. says (key_at bytes e) (record { value = u; held = x })) most pos h m.search_tree m.map
      in
      subst (All P) (sym (are m.search_tree m.map)) (All-map P (key_at bytes) (items m.search_tree) each)
