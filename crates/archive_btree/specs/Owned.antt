-- How maps that own their entries are archived.
use Rattle.std.specs.Prelude.{◌↔◌, ◌≡◌, ℕ, List, map, Option, Some, None}
use Rattle.std.specs.Map.Iter.{deref_pair}
use denote.Bor.{Bor}
use Rattle.archive_shape_layout.specs.Shape.{Shape}
use Rattle.archive_shape_layout.specs.declared.error.Error.{Error}
use Rattle.archive_shape_canonical.specs.Settled.{Fit}
use Rattle.archive_forms_laws.specs.State.{State, Keys}
use Rattle.archive_forms_laws.specs.Spelling.{Spelling}
use Rattle.archive_forms_laws.specs.Forms.{kept_as}
use Rattle.archive_btree_maps.specs.declared.map.resolving.BTreeMapResolver.{BTreeMapResolver}
use Rattle.archive_btree_spelling.specs.Maps.{btree_spelling}
use Rattle.archive_forms_laws.specs.Taking.{MayGive}

-- entries in order are archived as a search tree with at most `most` entries in a node
abbrev pub entries_spelling : {A B R Q : Type 0} → ℕ → Shape → Shape → Spelling A R → Spelling B Q → Spelling (List (A × B)) BTreeMapResolver
entries_spelling most k v keys vals = kept_as (λ root. record { pos = root }) (λ r. r.pos) (btree_spelling most k v keys vals)

-- a step may be called for each borrowed entry that an iterator may yield
pub record TakesEntries {A B I F : Type 0} (gives : I → Option (Bor A × Bor B) → I → Type 0) (takes : F → A × B → Type 0) (step : F) (from : I) : Type 0 where
  pub each : (x : Bor A × Bor B) → MayGive gives from x → takes step (deref_pair x)

-- the entries that a set has as a map of its keys to `()`
abbrev pub key_entries : {A : Type 0} → List A → List (A × Unit {0})
key_entries ks = map (λ k. (k, tt)) ks

-- a borrowed key as such an entry, and the key of a borrowed entry that comes
abbrev pub key_entry : {A : Type 0} → Bor A → A × Unit {0}
key_entry k = (k.now, tt)

abbrev pub key_of : {A B : Type 0} → Option (A × B) → Option A
key_of None = None
key_of (Some e) = Some e.0

-- ---- spellings

-- a spelling has the members of another
pub record IsSpelledAs {A R : Type 0} (w other : Spelling A R) : Type 0 where
  pub value : (x : A) (st : State) → w.value x st ≡ other.value x st
  pub plain : (x : A) → w.plain x ≡ other.plain x
  pub piece : (x : A) (st : State) → w.piece x st ≡ other.piece x st
  pub resolver : (x : A) (st : State) → w.resolver x st ≡ other.resolver x st
  pub met : (x : A) (st : State) → w.met x st ≡ other.met x st
  pub own : (x : A) (r : R) (pos : ℕ) → w.own x r pos ≡ other.own x r pos
  pub piece_fits : (x : A) (st : State) → w.piece_fits x st ↔ other.piece_fits x st
  pub piece_refused : (x : A) (st : State) (e : Error) → w.piece_refused x st e ↔ other.piece_refused x st e
  pub own_fits : (x : A) (r : R) (pos : ℕ) → w.own_fits x r pos ↔ other.own_fits x r pos
  pub own_refused : (x : A) (r : R) (pos : ℕ) (e : Error) → w.own_refused x r pos e ↔ other.own_refused x r pos e
  pub suits : (fit : Fit) (keys : Keys) (x : A) → w.suits fit keys x ↔ other.suits fit keys x
