-- What calls that write the data, or the own bytes, of adjacent items ensure.
use Rattle.std.specs.Prelude.{◌≡◌, ℕ, ◌+◌, ◌*◌, ◌^◌, ◌<◌, ◌≤◌, List, Vec, length, take, Result, MatchResult}
use Rattle.std.specs.Global.{Global}
use Rattle.archive_shape_layout.specs.Shape.{Shape, size_of}
use Rattle.archive_shape_layout.specs.Edit.{Spares}
use Rattle.archive_shape_layout.specs.Writing.{WriterMembers}
use Rattle.archive_shape_layout.specs.declared.error.Error.{Error}
use Rattle.archive_shape.specs.Bytes.{overwrite}
use Rattle.archive_forms_laws.specs.State.{State}
use Rattle.archive_forms_laws.specs.Spelling.{Spelling}
use Rattle.archive_forms_laws.specs.Serializing.{IsAt, Lays, LaysData}
use Rattle.archive_forms_laws.specs.Regions.{state_after_all, pieces, resolvers, owns, pieces_fit, pieces_refused, owns_fit, owns_refused, placed_fits, placed_refused}
use Rattle.archive_forms_laws.specs.Arrays.{array_own, array_own_fits, array_own_refused}
use Rattle.archive_forms_writing.specs.Behind.{LaysBehind}

-- so many items of a size have at most so many bytes, and end before position 2^64
abbrev pub FitAtOnce : (size most count pos : ℕ) → Type 0
FitAtOnce size most count pos = (count * size ≤ most) × (pos + count * size < 2 ^ 64)

module _ {A R : Type 0} (w : Spelling A R) where
  -- ---- data

  -- the data of all is written, and the result keeps their resolvers
  abbrev pub SerializesAllBy : {Q W : Type 0} → (Q → List R) → WriterMembers W → List A → W → W → Result Q Error → Type 0
  SerializesAllBy kept members xs old new result =
      (st : State) → IsAt members.pos members.known old st
      → LaysData members old new (pieces w xs st)
      (λ all. (kept all ≡ resolvers w xs st) × pieces_fit w xs st × IsAt members.pos members.known new (state_after_all w xs st))
      (pieces_refused w xs st) result

  -- in a vector
  abbrev pub SerializesAll : {W : Type 0} → WriterMembers W → List A → W → W → Result (Vec R Global) Error → Type 0
  SerializesAll members xs old new result = SerializesAllBy (λ all. all.items) members xs old new result

  -- as the first ones of an array
  abbrev pub SerializesFew : {W : Type 0} → WriterMembers W → List A → W → W → Result (List R) Error → Type 0
  SerializesFew members xs old new result = SerializesAllBy (λ all. take (length xs) all) members xs old new result

  -- ---- own bytes, by resolvers that were made from a state on

  -- those of a value are written in a buffer that will be at a position
  abbrev pub ResolvesInBuffer : Shape → A → R → (pos start : ℕ) → List ℕ → List ℕ → Result (Unit {0}) Error → Type 0
  ResolvesInBuffer s x r pos start old new result =
      MatchResult result
      (λ _. placed_fits w s x r (pos + start) × (new ≡ overwrite old start (w.own x r (pos + start))))
      (placed_refused w s x r (pos + start))

  -- those of all are the first bytes of a buffer that will be at a position, and the result is their number
  abbrev pub FillsBuffer : Shape → List A → List R → (pos : ℕ) → List ℕ → Result ℕ Error → Type 0
  FillsBuffer s xs kept pos new result =
      (st : State) → kept ≡ resolvers w xs st → MatchResult result
      (λ filled. (filled ≤ length new) × (take filled new ≡ owns w xs st pos) × owns_fit w s xs st pos)
      (owns_refused w s xs st pos)

  -- those of all are written at the writer's position
  abbrev pub LaysOwns : {W : Type 0} → Shape → WriterMembers W → List A → List R → W → W → Result (Unit {0}) Error → Type 0
  LaysOwns s members xs kept old new result =
      (st : State) → kept ≡ resolvers w xs st
      → Lays members old new (owns w xs st (members.pos old))
      (λ _. owns_fit w s xs st (members.pos old))
      (owns_refused w s xs st (members.pos old)) result

  -- those of all are written at the next position of their alignment
  abbrev pub LaysOwnsBehind : {W : Type 0} → Shape → WriterMembers W → List A → List R → W → W → Result ℕ Error → Type 0
  LaysOwnsBehind s members xs kept old new result =
      (st : State) → kept ≡ resolvers w xs st → LaysBehind s w members xs st old new (members.pos old) result

-- the own bytes of each element of an array are written, by its own resolver; where one is refused, no others change
abbrev pub ResolvesEach : {A R : Type 0} → Shape → Spelling A R → List A → List R → (start pos : ℕ)
    → List ℕ → List ℕ → Result (Unit {0}) Error → Type 0
ResolvesEach s w xs rs start pos old new result =
    MatchResult result
    (λ _. array_own_fits s w xs rs pos × (new ≡ overwrite old start (array_own s w xs rs pos)))
    (λ e. array_own_refused s w xs rs pos e × Spares old new start (length xs * size_of s))
