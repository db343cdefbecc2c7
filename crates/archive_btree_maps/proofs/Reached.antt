-- The nodes on a stack are nodes of the tree at a root.
use Rattle.std.proofs.Common.{◌≡◌, ℕ, suc, ◌+◌, ◌<◌, ◌≤◌, List, set, Option, Some, None, inl, inr, refl, arith}
use Rattle.std.specs.Prelude.{IfSome}
use Rattle.std.proofs.lemmas.List.{get_or-set_same, get_or-set_other}
use Rattle.std.proofs.lemmas.Bool.{cases_lt}
use Rattle.archive_btree_maps.specs.declared.nodes.layout.NodeLayout.{NodeLayout}
use Rattle.archive_btree_maps.specs.SearchingNodes.{entry_count, child_of}
use Rattle.archive_btree_maps.specs.Walking.{IsStack}
use Rattle.archive_btree_maps.specs.Stepping.{IsReached, AreReached}
use Rattle.archive_btree_maps.specs.Stepping.IsReached.{is_child}

module _ (bytes : List ℕ) (l : NodeLayout) (root : ℕ) where
  some_reached : (depth above parent i : ℕ) (c : Option ℕ) → depth ≡ suc above → IsReached bytes l root above parent → i ≤ entry_count bytes l parent
      → child_of bytes l parent i ≡ c → IfSome c (IsReached bytes l root depth)
  some_reached depth above parent i None e r within is = tt
  some_reached depth above parent i (Some pos) e r within is = is_child e r within is

  -- a child of a node that is reached is reached
  pub child_reached : (depth above parent i : ℕ) → depth ≡ suc above → IsReached bytes l root above parent → i ≤ entry_count bytes l parent
      → IfSome (child_of bytes l parent i) (IsReached bytes l root depth)
  child_reached depth above parent i e r within = some_reached depth above parent i (child_of bytes l parent i) e r within refl

  reached_some : (depth pos : ℕ) (c : Option ℕ) → c ≡ Some pos → IfSome c (IsReached bytes l root depth) → IsReached bytes l root depth pos
  reached_some depth pos c e h = rw e at h

  -- a child is pushed, and a child of that child comes next
  pub reached_on : (nodes : List ℕ) (depth pos next : ℕ) (child behind : Option ℕ) {nexts : List ℕ}
      → IsStack bytes l nodes nexts depth
      → AreReached bytes l root nodes depth × IfSome child (IsReached bytes l root depth)
      → child ≡ Some pos → depth < 32 → next ≤ entry_count bytes l pos → behind ≡ child_of bytes l pos next
      → AreReached bytes l root (set nodes depth pos) (depth + 1) × IfSome behind (IsReached bytes l root (depth + 1))
  reached_on nodes depth pos next child behind s h e room within n =
      let here = reached_some depth pos child e h.1 in
      let wide = s.room in (
        λ d below.
            elim (cases_lt d depth) [
              | inl lower ↦ rw (get_or-set_other nodes depth d pos 0 (λ e. absurd (omega arith))) (h.0 d lower)
              | inr upper ↦
                  let same : d ≡ depth = omega arith in
                  rw (same, get_or-set_same nodes depth pos 0 (omega arith)) here
            ],
        rw n (child_reached (depth + 1) depth pos next (omega arith) here within),
      )
