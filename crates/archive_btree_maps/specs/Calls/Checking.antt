-- What the checks of nodes and maps ensure. `kept` is what a context keeps.
use denote.Ref.{MutBor}
use denote.Param.Members.{Shared}
use Rattle.std.specs.Prelude.{◌≡◌, ◌≢◌, ℕ, ◌+◌, ◌≤◌, List, Result, MatchResult}
use Rattle.archive_shape_layout.specs.Shape.{Shape}
use Rattle.archive_shape_layout.specs.Shape.Shape.{tree}
use Rattle.archive_shape_layout.specs.Content.{Names, entries, children}
use Rattle.archive_shape_layout.specs.Content.Part.{at, node, child, entry}
use Rattle.archive_shape_layout.specs.declared.error.Error.{Error}
use Rattle.archive_shape_layout.specs.declared.error.Error.TheVariants.{OutOfMemory}
use Rattle.archive_shape.specs.Kept.{Kept, range_of}
use Rattle.archive_shape.specs.Questions.{FirstUnanswered, claim}
use Rattle.archive_shape.specs.Checks.{Checks, ChecksAll}
use Rattle.archive_shape.specs.Steps.{StepTakes}
use Rattle.archive_shape.specs.declared.checking.context.PushedRange.{PushedRange}
use Rattle.archive_shape.specs.declared.references.refs.Ref.{Ref}
use Rattle.archive_shape.specs.declared.types.portable.Portable.{Ghosts}
use Rattle.archive_forms_values.specs.Claims.{as_usize, IsClaimed}
use Rattle.archive_btree_maps.specs.Counts.{Counts, CountsAll}

-- a step may be called wherever a value of the shape fits, in each range that is `claimed` bytes narrower than a context's
abbrev pub TakesIn : {F C : Type 0} (call : Shared F (MutBor C × (ℕ × Unit {0})) (Result (Unit {0}) Error × (MutBor C × Unit {0})))
    (kept : C → Kept) (bytes : List ℕ) (shape : Shape) (step : F) (context : C) (claimed : ℕ) → Type 0
TakesIn call kept bytes shape step context claimed = StepTakes call kept bytes shape step (kept context) claimed

-- the bytes of a node at a position are claimed, or refused for the first reason
abbrev pub ClaimsNode : {C : Type 0} (kept : C → Kept) (pos size align : ℕ) (old : C) (result : Result PushedRange Error) (new : C) → Type 0
ClaimsNode kept pos size align old result new =
    (n : ℕ) → size ≡ as_usize n
    → MatchResult result
    (λ r. IsClaimed (kept old) (record { start = pos; size = n; align = align }) r (kept new))
    (λ e. e ≢ OutOfMemory → FirstUnanswered (range_of (kept old)) e (claim (record { start = pos; size = n; align = align })))

-- ---- checks of parts, under all names that the types of keys and values know

module _ {C K V : Type 0} (kept : C → Kept) (k : Ghosts K) (v : Ghosts V) (bytes : List ℕ) where
  -- the entry whose key and value lie at two positions is checked
  abbrev pub ChecksEntry : (key value : ℕ) (old : C) (result : Result (Unit {0}) Error) (new : C) → Type 0
  ChecksEntry key value old result new =
      (names : Names) → k.knows names → v.knows names → Checks names bytes (entry k.shape key v.shape value) (kept old) result (kept new)

  -- entries in order are checked, whose keys lie side by side from one position on, and their values from another
  abbrev pub ChecksEntries : (count key value : ℕ) (old : C) (result : Result (Unit {0}) Error) (new : C) → Type 0
  ChecksEntries count key value old result new =
      (names : Names) → k.knows names → v.knows names → ChecksAll names bytes (entries count k.shape key v.shape value) (kept old) result (kept new)

-- the map at a position is checked, with at most `most` entries in a node
abbrev pub ChecksMap : {C K V : Type 0} (kept : C → Kept) (most : ℕ) (k : Ghosts K) (v : Ghosts V) (bytes : List ℕ) (pos : ℕ)
    (old : C) (result : Result (Unit {0}) Error) (new : C) → Type 0
ChecksMap kept most k v bytes pos old result new =
    (names : Names) → k.knows names → v.knows names → Checks names bytes (at pos (tree most k.shape v.shape)) (kept old) result (kept new)

-- the map that a reference leads to is checked
abbrev pub VerifiesMap : {C K V M : Type 0} (kept : C → Kept) (most : ℕ) (k : Ghosts K) (v : Ghosts V) (this : Ref M)
    (old : C) (result : Result (Unit {0}) Error) (new : C) → Type 0
VerifiesMap kept most k v this = ChecksMap kept most k v this.bytes.now this.pos

-- ---- checks of parts of a tree with at most `most` entries in a node, which count the items

module _ {C K V : Type 0} (kept : C → Kept) (most : ℕ) (k : Ghosts K) (v : Ghosts V) (bytes : List ℕ) where
  -- the leaf at a position is checked, on each level
  abbrev pub CountsLeaf : (pos : ℕ) (old : C) (result : Result ℕ Error) (new : C) → Type 0
  CountsLeaf pos old result new =
      (names : Names) (level : ℕ) → level ≤ 32 → k.knows names → v.knows names
      → Counts names bytes (node level most k.shape v.shape pos) (kept old) result (kept new)

  -- the node on a level and at a position is checked
  abbrev pub CountsNode : (level pos : ℕ) (old : C) (result : Result ℕ Error) (new : C) → Type 0
  CountsNode level pos old result new =
      (names : Names) → k.knows names → v.knows names → Counts names bytes (node level most k.shape v.shape pos) (kept old) result (kept new)

  -- the child on a level that the pointer at a position leads to is checked, if there is one
  abbrev pub CountsChild : (level pos : ℕ) (old : C) (result : Result ℕ Error) (new : C) → Type 0
  CountsChild level pos old result new =
      (names : Names) → k.knows names → v.knows names → Counts names bytes (child level most k.shape v.shape pos) (kept old) result (kept new)

  -- the children of an inner node are checked in order, whose pointers lie side by side from a position on
  abbrev pub CountsChildren : (level pos : ℕ) (old : C) (result : Result ℕ Error) (new : C) → Type 0
  CountsChildren level pos old result new =
      (names : Names) → k.knows names → v.knows names
      → CountsAll names bytes (children (most + 1) level most k.shape v.shape pos) (kept old) result (kept new)
