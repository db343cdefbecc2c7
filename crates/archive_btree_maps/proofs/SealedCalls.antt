-- Calls of a closure with keys and seals.
use denote.Ref.{MutBor}
use Rattle.std.proofs.Common.{◌≡◌, ◌∙◌, ℕ, suc, ◌≤◌, List, ◌∷◌, length, Option, ap, subst, arith}
use Rattle.std.specs.declared.ops.ControlFlow.{ControlFlow}
use Rattle.archive_shape_layout.specs.Shape.{Shape}
use Rattle.archive_shape_layout.specs.Content.{Names}
use Rattle.archive_shape.specs.declared.references.refs.Ref.{Ref}
use Rattle.archive_shape.specs.declared.references.own_seal.OwnSeal.{OwnSeal}
use Rattle.archive_btree_layout.specs.Reading.{Place}
use Rattle.archive_btree_layout.specs.Tree.{items}
use Rattle.archive_btree_maps.specs.Ranges.{before_key}
use Rattle.archive_btree_maps.specs.Walking.{stack_items}
use Rattle.archive_btree_maps.specs.declared.nodes.searching.stepping.EntryWalk.{EntryWalk}
use Rattle.archive_btree_maps.specs.SealedVisits.{VisitsSealed}
use Rattle.archive_btree_maps.specs.Walks.{BegunMap, IsWritten, GoesOn}
use Rattle.archive_btree_maps.proofs.One.{one_map}
use Rattle.archive_btree_maps.proofs.Sealed.{map_at}

-- ---- a map

module _ {most : ℕ} {k v : Shape} {knows others : Names → Type 0} (m : BegunMap most k v knows others) where
  -- how many entries are left
  left_count : (w : EntryWalk) (es : List Place) (bytes : List ℕ) → GoesOn m w es → IsWritten m bytes
      → length (before_key w.end (stack_items bytes w.layout w.stack.nodes w.stack.nexts w.stack.depth)) ≡ length es
  left_count w es bytes goes written =
      let h = (goes.left bytes written).left in
      ap length (ap (λ l. before_key w.end (stack_items bytes l w.stack.nodes w.stack.nexts w.stack.depth)) h.layout ∙ h.left)

  pub fewer_left : (w x : EntryWalk) (e : Place) (es left : List Place) (bytes others : List ℕ) → GoesOn m w es → IsWritten m bytes → GoesOn m x left → IsWritten m others → es ≡ e ∷ left
      → suc (length (before_key x.end (stack_items others x.layout x.stack.nodes x.stack.nexts x.stack.depth)))
      ≤ length (before_key w.end (stack_items bytes w.layout w.stack.nodes w.stack.nexts w.stack.depth))
  fewer_left w x e es left bytes others goes written on over is =
      omega (arith, left_count w es bytes goes written, left_count x left others on over, ap length is)

-- one map has one tree
pub same_map : {most : ℕ} {k v : Shape} {knows others : Names → Type 0} (m n : BegunMap most k v knows others) (bytes : List ℕ) (pos : ℕ)
    → m.bytes ≡ bytes → m.pos ≡ pos → n.bytes ≡ bytes → n.pos ≡ pos → items m.search_tree ≡ items n.search_tree
same_map {most} {k} {v} m n bytes pos a b c d =
    ap items (one_map bytes most k v pos m.search_tree n.search_tree (map_at m bytes pos a b) (map_at n bytes pos c d))

-- ---- calls

pub visits_same : {F B K V : Type 0} (step : F → Ref K → MutBor (OwnSeal V) → ControlFlow B (Unit {0}) → MutBor (OwnSeal V) → F → Type 0) (size : ℕ)
    → (f g : F) (bytes out : List ℕ) (es fs : List Place) (answer : Option B) → es ≡ fs → VisitsSealed step size f bytes es answer g out → VisitsSealed step size f bytes fs answer g out
visits_same step size f g bytes out es fs answer is v = subst (λ x. VisitsSealed step size f bytes x answer g out) is v
