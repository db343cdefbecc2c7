-- That what is written is what the layout reads, and is canonical.
use Rattle.std.specs.Prelude.{◌≡◌, ℕ, ◌≤◌, ◌<◌, List, [], ◌∷◌, length, slice_index, Some, false, ◌⊎◌, ⊤}
use Rattle.archive_shape_layout.specs.Bytes.{window, word_at, target_from}
use Rattle.archive_shape_layout.specs.Shape.{Shape, Pointee, size_of, pointer_size}
use Rattle.archive_shape_layout.specs.Value.{Value}
use Rattle.archive_shape_layout.specs.Content.{Names, Part, pointee_length}
use Rattle.archive_shape_layout.specs.Content.Part.{at, behind}
use Rattle.archive_shape_layout.specs.Holds.{Region, Visit, OpenShared, Ascends}
use Rattle.archive_shape_canonical.specs.Settled.{Fit, free}
use Rattle.archive_shape_canonical.specs.Sharing.{erased}
use Rattle.archive_shape_canonical.specs.Canonical.{InRegions, AreBytes}
use Rattle.archive_shape_canonical.specs.Laws.{CanonicalIn}
use Rattle.archive_shape.specs.Bytes.{HasBytes}
use Rattle.archive_shape_layout.specs.declared.error.Error.{Error}
use Rattle.archive_forms_laws.specs.State.{State, Keys, visits_of, IsConsistent, AllBefore, AllFrom, AreKeyedBy}
use Rattle.archive_forms_laws.specs.Spelling.{Spelling, state_after}
use Rattle.archive_forms_laws.specs.Unshared.{holds_shared}

-- each byte from a position to another lies in one of the regions, or is zero
abbrev pub AreGapsZero : List ℕ → List Region → ℕ → ℕ → Type 0
AreGapsZero bytes regions low high = (i : ℕ) → low ≤ i → i < high → InRegions regions i ⊎ (slice_index bytes i ≡ 0)

-- a part has a value as writing makes it, with regions from one position to another
pub record CanonicalPart (fit : Fit) (names : Names) (bytes : List ℕ) (level : ℕ) (inside : List OpenShared) (before after : List Visit) (p : Part) (v : Value) (low high : ℕ) : Type 0 where
  pub regions : List Region
  pub reads : CanonicalIn fit names bytes level inside p v regions before after low high
  pub ascends : Ascends low high regions
  pub gaps : AreGapsZero bytes regions low high

-- Of one value: where bytes have the data that was written from a state on, and the own bytes at any position, the
-- layout has the value, as writing makes it. Tables are filled by a fit.
pub record SpellsAt {A R : Type 0} (fit : Fit) (s : Shape) (knows : Names → Type 0) (w : Spelling A R) (x : A) : Type 0 where
  pub sized : (r : R) (pos : ℕ) → w.own_fits x r pos → length (w.own x r pos) ≡ size_of s
  pub canonical :
      (st : State) (pos : ℕ) (names : Names) (keys : Keys) (bytes : List ℕ) (level : ℕ) (inside : List OpenShared)
      → knows names
      → w.suits fit keys x
      → AreKeyedBy keys st.met
      → IsConsistent st
      → AllFrom (state_after w x st).pos inside
      → w.piece_fits x st
      → w.own_fits x (w.resolver x st) pos
      → HasBytes bytes st.pos (w.piece x st)
      → HasBytes bytes pos (w.own x (w.resolver x st) pos)
      → CanonicalPart fit names bytes level inside (visits_of st.met) (visits_of (w.met x st)) (at pos s) (w.value x st) st.pos (state_after w x st).pos
  pub consistent : (st : State) → IsConsistent st → w.piece_fits x st → IsConsistent (state_after w x st)
  -- where it suits the fit and keys, and the keys of the shared values that were written before its data denote them,
  -- so do those of all that were written after its data, and its value without the positions of shared ones is `plain`
  pub keyed :
      (keys : Keys) (st : State) → w.suits fit keys x → AreKeyedBy keys st.met → w.piece_fits x st
      → (erased (w.value x st) ≡ w.plain x) × AreKeyedBy keys (w.met x st)
  pub piece_bytes : (st : State) → w.piece_fits x st → AreBytes (w.piece x st)
  pub own_bytes : (r : R) (pos : ℕ) → w.own_fits x r pos → AreBytes (w.own x r pos)
  -- what exceeds no limit is not refused
  pub piece_exact : (st : State) (e : Error) → w.piece_fits x st → w.piece_refused x st e → ⊥
  pub own_exact : (r : R) (pos : ℕ) (e : Error) → w.own_fits x r pos → w.own_refused x r pos e → ⊥
  -- where no value of its shape holds a shared pointer, it suits the fit that binds nothing, whatever keys denote
  pub unshared : holds_shared s ≡ false → (keys : Keys) → w.suits free keys x

-- Of what a pointer leads to: its resolver is the position of the pointee, which lies after the shared values that were
-- written when its data was. Where the pointee was written, the layout has it as writing makes it, and own bytes lead
-- to it and give the number of its elements.
pub record SpellsBehind {A : Type 0} (fit : Fit) (q : Pointee) (knows : Names → Type 0) (len : A → ℕ) (w : Spelling A ℕ) (x : A) : Type 0 where
  pub leads :
      (bytes : List ℕ) (to pos : ℕ) → w.own_fits x to pos → HasBytes bytes pos (w.own x to pos)
      → (target_from pos (word_at (window bytes pos (pointer_size q)) 0) ≡ Some to) × (pointee_length q (window bytes pos (pointer_size q)) ≡ len x)
  pub begins : (st : State) → w.piece_fits x st → st.pos ≤ w.resolver x st
  pub ends : (st : State) → w.piece_fits x st → w.resolver x st ≤ (state_after w x st).pos
  pub behind_met : (st : State) → IsConsistent st → w.piece_fits x st → AllBefore (w.resolver x st) (w.met x st)
  pub canonical :
      (st : State) (names : Names) (keys : Keys) (bytes : List ℕ) (level : ℕ) (inside : List OpenShared)
      → knows names
      → w.suits fit keys x
      → AreKeyedBy keys st.met
      → IsConsistent st
      → AllFrom (w.resolver x st) inside
      → w.piece_fits x st
      → HasBytes bytes st.pos (w.piece x st)
      → CanonicalPart fit names bytes level inside (visits_of st.met) (visits_of (w.met x st)) (behind (w.resolver x st) q (len x)) (w.value x st) st.pos (state_after w x st).pos

-- of each value of a list
abbrev pub EachSpells : {A R : Type 0} → Fit → Shape → (Names → Type 0) → Spelling A R → List A → Type 0
EachSpells fit s knows w [] = ⊤
EachSpells fit s knows w (x ∷ xs) = SpellsAt fit s knows w x × EachSpells fit s knows w xs

-- of every value
abbrev pub Spells : {A R : Type 0} → Fit → Shape → (Names → Type 0) → Spelling A R → Type 0
Spells {A = A} fit s knows w = (x : A) → SpellsAt fit s knows w x
