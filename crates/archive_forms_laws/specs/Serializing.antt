-- What calls that write a value ensure, of a serializer that keeps the shared values.
use Rattle.std.specs.Prelude.{◌≡◌, ℕ, ◌+◌, ◌^◌, ◌≤◌, ◌<◌, ◌⊎◌, ◌==◌, cond, List, [], ◌∷◌, length, IsTrue, Bool, true, false, Option, Some, None, Result, MatchResult}
use denote.Ref.{MutBor}
use Rattle.archive_shape_layout.specs.Shape.{Shape, size_of}
use Rattle.archive_shape_layout.specs.Holds.{Visit}
use Rattle.archive_shape_layout.specs.Edit.{Spares}
use Rattle.archive_shape.specs.Bytes.{HasBytes, zeros, overwrite}
use Rattle.archive_shape.specs.declared.references.place.Place.{Place}
use Rattle.archive_shape_layout.specs.Writing.{WriterMembers, Cut, Written, Failed}
use Rattle.archive_shape_layout.specs.declared.error.Error.{Error}
use Rattle.archive_shape_layout.specs.declared.error.Error.TheVariants.{OutOfMemory}
use Rattle.archive_shape_layout.specs.Progress.{Progress}
use Rattle.archive_shape_layout.specs.Progress.Progress.{unmet, begun, ended}
use Rattle.archive_forms_laws.specs.State.{State, visit_of_key}
use Rattle.archive_forms_laws.specs.Spelling.{Spelling, state_after}

-- ---- the progress of keys

abbrev pub is_begun : List ℕ → ℕ → Bool
is_begun [] key = false
is_begun (k ∷ ks) key = cond (k == key) true (is_begun ks key)

abbrev pub progress_by : Option Visit → Bool → Progress ℕ
progress_by (Some v) b = ended v.pos
progress_by None true = begun
progress_by None false = unmet

-- of a key in a state
abbrev pub progress : State → ℕ → Progress ℕ
progress st key = progress_by (visit_of_key st.met key) (is_begun st.begun key)

-- the progress of all keys is that in a state
abbrev pub Knows : (ℕ → Progress ℕ) → State → Type 0
Knows known st = (key : ℕ) → known key ≡ progress st key

-- a serializer is in a state
pub record IsAt {W : Type 0} (pos : W → ℕ) (known : W → ℕ → Progress ℕ) (serializer : W) (st : State) : Type 0 where
  pub stands : pos serializer ≡ st.pos
  pub knows : Knows (known serializer) st

-- and there is such a state
pub record HasState {W : Type 0} (pos : W → ℕ) (known : W → ℕ → Progress ℕ) (serializer : W) : Type 0 where
  pub state : State
  pub is_at : IsAt pos known serializer state

-- ---- what calls ensure

-- a call ended before its piece was written, where no write failed: an allocation failed, or a limit is exceeded
pub record Stopped {W : Type 0} (observable : Bool) (contents : W → List ℕ) (failures : W → ℕ) (old new : W) (piece : List ℕ) (refused : Error → Type 0) (e : Error) : Type 0 where
  pub is_cut : IsTrue observable → Cut (contents old) (contents new) piece
  pub is_quiet : failures new ≡ failures old
  pub reason : (e ≡ OutOfMemory) ⊎ refused e

-- The members of a writer while data is written. What becomes known of keys, which may be new in the data, is given by
-- a state.
abbrev pub of_data : {W : Type 0} → WriterMembers W → WriterMembers W
of_data s = record {
  known = λ w key. unmet;
  pos = s.pos;
  OBSERVABLE = s.OBSERVABLE;
  COUNTS = s.COUNTS;
  contents = s.contents;
  failures = s.failures;
  last_error = s.last_error;
}

-- what a call that writes a piece ensures, of a writer whose members are given as one record
abbrev pub Lays : {W B : Type 0} → WriterMembers W
    → W → W → List ℕ → (B → Type 0) → (Error → Type 0) → Result B Error → Type 0
Lays s old new piece ok refused result =
    MatchResult result
    (λ r. Written s.OBSERVABLE s.COUNTS s.contents s.pos s.failures s.last_error s.known old new piece × ok r)
    (λ e. Failed s.OBSERVABLE s.COUNTS s.contents s.pos s.failures s.last_error s.known old new piece e ⊎ Stopped s.OBSERVABLE s.contents s.failures old new piece refused e)

-- the same of a call that writes data
abbrev pub LaysData : {W B : Type 0} → WriterMembers W
    → W → W → List ℕ → (B → Type 0) → (Error → Type 0) → Result B Error → Type 0
LaysData s old new piece ok refused result = Lays (of_data s) old new piece ok refused result

-- what a call that writes the data of a value ensures, whose result keeps the resolver, for each state that the
-- serializer may be in
abbrev pub SerializesBy : {A R Q W : Type 0} → (Q → R) → Spelling A R → WriterMembers W
    → A → W → W → Result Q Error → Type 0
SerializesBy kept w s x old new result =
    (st : State) → IsAt s.pos s.known old st
    → LaysData s old new (w.piece x st) (λ q. (kept q ≡ w.resolver x st) × w.piece_fits x st × IsAt s.pos s.known new (state_after w x st)) (w.piece_refused x st) result

-- the same of a call whose result is the resolver
abbrev pub Serializes : {A R W : Type 0} → Spelling A R → WriterMembers W
    → A → W → W → Result R Error → Type 0
Serializes {R = R} w s x old new result = SerializesBy (λ (r : R). r) w s x old new result

module _ {A R : Type 0} (w : Spelling A R) where
  -- what a call that writes the own bytes of a value ensures: the bytes at `start` become the value's own bytes for the
  -- position `pos` of the archive, and no others change; where it is refused, no others change either
  abbrev pub Resolves : Shape → A → R → ℕ → ℕ → List ℕ → List ℕ → Result (Unit {0}) Error → Type 0
  Resolves s x r pos start old new result =
      MatchResult result
      (λ _. w.own_fits x r pos × (new ≡ overwrite old start (w.own x r pos)))
      (λ e. w.own_refused x r pos e × Spares old new start (size_of s))

  -- what such a call requires: `bytes` have room for them at `start`, which is zero, they end before position 2^64 of
  -- the archive, and the resolver was made of the value
  pub record CanResolve (s : Shape) (x : A) (r : R) (bytes : List ℕ) (start pos : ℕ) : Type 0 where
    pub room : start + size_of s ≤ length bytes
    pub stands : pos + size_of s < 2 ^ 64
    pub blank : HasBytes bytes start (zeros (size_of s))
    pub made : (st : State) × (r ≡ w.resolver x st)

  -- both of a call that takes the place of the value, which it has as it is passed, and whose bytes it has at the end
  abbrev pub CanResolveAt : {T : Type 0} → Shape → A → R → Place T → Type 0
  CanResolveAt s x r out = CanResolve s x r out.out.now out.start out.pos

  abbrev pub ResolvesAt : {T E : Type 0} → Shape → A → R → Place T → MutBor (List ℕ) × E → Result (Unit {0}) Error → Type 0
  ResolvesAt s x r out end result = Resolves s x r out.pos out.start out.out.now end.0.now result
