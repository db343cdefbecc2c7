-- Parts in whose walks the audit finds no fault, and what it reports of others.
use Rattle.std.specs.Prelude.{◌≡◌, ℕ, ◌+◌, ◌<◌, ◌≤◌, ◌⊎◌, List, [], Some, IfSome, Result, Ok, Err}
use Rattle.std.specs.BTreeMap.{BTreeMap, get}
use Rattle.std.specs.Ordering.{nat_cmp}
use Rattle.archive_shape_layout.specs.Value.{Value}
use Rattle.archive_shape_layout.specs.Content.{Part}
use Rattle.archive_shape_layout.specs.Content.Part.{at}
use Rattle.cabinet_documents.specs.Node.{node_names, node_shape}
use Rattle.cabinet_documents.specs.Walk.{Stop, Walks}
use Rattle.cabinet_documents.specs.Audit as audit
use Rattle.cabinet_documents.specs.Audit.{faults, first_of}
use Rattle.cabinet_archives.specs.declared.opening.refusal.OpenRefusal.{OpenRefusal}
use Rattle.cabinet_archives.specs.declared.opening.refusal.OpenRefusal.TheVariants.{OutOfMemory}
use Rattle.cabinet_archives.specs.Refused.{refusal_of}

-- the part has a walk in which the audit finds no fault
pub record HasSoundWalk (bytes : List ℕ) (p : Part) : Type 0 where
  pub depth : ℕ
  pub value : Value
  pub walk : List Stop
  pub walked : Walks node_names bytes depth p value walk
  pub sound : faults bytes walk ≡ []

-- there is such a walk
abbrev pub IsSoundPart : List ℕ → Part → Type 0
IsSoundPart bytes p = ∥ HasSoundWalk bytes p ∥₁

-- a result reports the first of these faults, if there is one
abbrev pub Reports : Result (Unit {0}) OpenRefusal → List audit.Unsound → Type 0
Reports (Ok done) found = found ≡ []
Reports (Err r) found = (u : audit.Unsound) × (refusal_of r ≡ audit.unsound u) × (first_of found ≡ Some u)

-- it reports the first fault in the walk of a part inside `depth` containers
abbrev pub Audits : List ℕ → ℕ → Part → Result (Unit {0}) OpenRefusal → Type 0
Audits bytes depth p result = (v : Value) (walk : List Stop) → Walks node_names bytes depth p v walk → Reports result (faults bytes walk)

-- so many containers lie in one another in a part: it has no fault where they and those around it are at most 64, and
-- otherwise the first one is that a container lies too deep
pub record HasHeight (bytes : List ℕ) (p : Part) (height : ℕ) : Type 0 where
  pub fits : (depth : ℕ) (v : Value) (walk : List Stop) → depth + height ≤ 64 → Walks node_names bytes depth p v walk → faults bytes walk ≡ []
  pub past : (depth : ℕ) (v : Value) (walk : List Stop) → depth ≤ 64 → 64 < depth + height → Walks node_names bytes depth p v walk → first_of (faults bytes walk) ≡ Some audit.too_deep

-- the nodes at these positions have these heights
abbrev pub AreHeights : List ℕ → BTreeMap ℕ ℕ → Type 0
AreHeights bytes heights = (pos : ℕ) → IfSome (get nat_cmp heights pos) (λ height. (height ≤ 64) × HasHeight bytes (at pos node_shape) height)

-- a result is the height of a part that has no fault inside `depth` containers, or else reports its first fault, or that
-- an allocation failed
abbrev pub AuditsTo : List ℕ → ℕ → Part → Result ℕ OpenRefusal → Type 0
AuditsTo bytes depth p (Ok height) = (depth + height ≤ 64) × HasHeight bytes p height
AuditsTo bytes depth p (Err r) = (r ≡ OutOfMemory) ⊎ Audits bytes depth p (Err r)
