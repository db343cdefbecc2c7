-- What calls of contexts, of registries and on pointers ensure, where that is longer than a line.
use Rattle.std.specs.Prelude.{◌≡◌, ◌≢◌, ℕ, ℤ, Bool, ◌+◌, ◌<◌, ◌≤◌, ◌^◌, ◌++◌, ◌∷◌, [], List, length, Option, Result, Ok, Err, MatchOption, MatchResult, OnOk, pos, ◌+ℤ◌}
use Rattle.std.specs.Int.{w64, FitsUnsigned}
use Rattle.archive_shape_layout.specs.Shape.{Pointee, element_align}
use Rattle.archive_shape_layout.specs.Progress.{Progress, IsSame, Starts}
use Rattle.archive_shape_layout.specs.declared.error.Error.{Error}
use Rattle.archive_shape_layout.specs.declared.error.Error.TheVariants as error
use Rattle.archive_shape.specs.Kept.{Kept, StartsShared, RefusesShared, pushed, popped, range_of, started_again}
use Rattle.archive_shape.specs.Offsets.{difference, Leads}
use Rattle.archive_shape.specs.Pointees.{extent_of}
use Rattle.archive_shape.specs.Pooling.{StartsPooling}
use Rattle.archive_shape.specs.Questions.{AreAnswered, FirstUnanswered, claim}
use Rattle.archive_shape.specs.Sharing.{progress_of}
use Rattle.archive_shape.specs.declared.checking.context.PushedRange.{PushedRange}
use Rattle.archive_shape.specs.declared.checking.context.ValidationState.{ValidationState}
use Rattle.archive_shape.specs.declared.pooling.PoolingState.{PoolingState}
use Rattle.archive_shape.specs.declared.sharing.SharingState.{SharingState}

-- a push narrows the range to the part before a region; it is refused where no more pushes may nest, and changes nothing then
abbrev pub Pushes : Kept → ℕ → ℕ → Result PushedRange Error → Kept → Type 0
Pushes old start end result new =
    MatchResult result
    (λ r. (r ≡ record { pos = start; end = end; outer = old.end }) × (length old.pushes < old.most) × (new ≡ pushed old r))
    (λ e. (e ≢ error.OutOfMemory → (old.most ≤ length old.pushes) × (e ≡ error.ExceededMaximumSubtreeDepth)) × (new ≡ old))

-- a pop of another push than the last is refused
abbrev pub RefusesOther : Kept → PushedRange → Result (Unit {0}) Error → Type 0
RefusesOther old range result =
    (rest : List PushedRange) (last : PushedRange) → old.pushes ≡ rest ++ last ∷ [] → last ≢ range
    → result ≡ Err error.RangePoppedOutOfOrder

-- a pop of the last push widens the range again
abbrev pub PopsLast : Kept → PushedRange → Result (Unit {0}) Error → Kept → Type 0
PopsLast old range result new =
    (rest : List PushedRange) → old.pushes ≡ rest ++ range ∷ [] → (result ≡ Ok tt) × (new ≡ popped old range rest)

-- bytes are claimed with nothing inside them, and the range starts again after them; or the first question of a claim that is
-- answered by no is told, and nothing changes then
abbrev pub ClaimsBytes : Kept → ℕ → ℕ → Result (Unit {0}) Error → Kept → Type 0
ClaimsBytes old start size result new =
    let questions = claim (record { start = start; size = size; align = 1 }) in
    MatchResult result
    (λ _. AreAnswered (range_of old) questions × (new ≡ started_again old (start + size) old.seen))
    (λ e. FirstUnanswered (range_of old) e questions × (new ≡ old))

-- a shared position is started, or refused for another pointee or length; what is refused changes nothing
abbrev pub StartsVisit : Kept → ℕ → Pointee → ℕ → Result ValidationState Error → Kept → Type 0
StartsVisit old at p len result new =
    MatchResult result (StartsShared old at p len new)
    (λ e. (e ≢ error.OutOfMemory → RefusesShared old at p len e) × (new ≡ old))

-- a shared value is started, or memory is refused, and nothing changes then
abbrev pub StartsKey : (ℕ → Progress ℕ) → (ℕ → Progress ℕ) → ℕ → Result SharingState Error → Type 0
StartsKey old new key result =
    MatchResult result (λ state. Starts old new key (progress_of state)) (λ e. (e ≡ error.OutOfMemory) × IsSame old new)

-- the value at a shared position is started, or memory is refused, and nothing changes then; `keeps` says whether progress is kept
abbrev pub StartsReading : {T : Type 0} → (ℕ → Progress T) → (ℕ → Progress T) → ℕ → Bool → Result (PoolingState T) Error → Type 0
StartsReading old new at keeps result =
    MatchResult result (StartsPooling old new at keeps) (λ e. (e ≡ error.OutOfMemory) × IsSame old new)

-- the size and the alignment of so many elements, or none where the size is past `usize::MAX`
abbrev pub IsLayoutOf : Pointee → ℕ → Option (ℕ × ℕ) → Type 0
IsLayoutOf p len result =
    MatchOption result (2 ^ 64 ≤ extent_of p len) (λ layout. (layout.0 ≡ extent_of p len) × (layout.1 ≡ element_align p))

-- the offset from a position leads to the target, or to none that a `usize` has
abbrev pub LeadsFrom : ℕ → ℤ → Option ℕ → Type 0
LeadsFrom from offset target = MatchOption target (FitsUnsigned w64 (pos from +ℤ offset) → ⊥) (Leads from offset)

-- the offset that was stored, as `stored` has it, leads back to the target
abbrev pub LeadsBack : (ℤ → ℤ) → ℕ → ℕ → Result (Unit {0}) Error → Type 0
LeadsBack stored from to result = OnOk result (Leads from (stored (difference from to)) to)
