use Rattle.std.proofs.Common.{◌≡◌, ◌≢◌, IfOk, MatchResult, ℕ, [], Result, Ok, Err, Option, Some, false, w32, ap, ap₂, sym, ◌∙◌}
use Rattle.std.specs.Global.{Global}
use Rattle.std.specs.declared.rc.Rc.{Rc}
use Rattle.archive_shape_layout.specs.Shape.Shape.{number}
use Rattle.archive_shape_layout.specs.Shape.Pointee.{sized}
use Rattle.archive_shape_layout.specs.Value.{Value, Values}
use Rattle.archive_shape_layout.specs.Value.Value.{natural, counted, group}
use Rattle.archive_shape_layout.specs.Value.Values.{no_values, more_values}
use Rattle.archive_shape_layout.specs.declared.error.Error.{Error}
use Rattle.archive_shape_layout.specs.declared.error.Error.TheVariants.{OutOfMemory}
use Rattle.archive_shape_canonical.specs.FirstFit.{first_fit}
use Rattle.archive_forms_laws.specs.State.{SharedValue, Keys}
use Rattle.archive_forms_rc.specs.declared.sharing.keyed.Shared.{Shared}
use Rattle.archive_forms.specs.Reading.{reads_in, reads_counted, reads_tuple2}
use Rattle.archive_core_tests.proofs.rc.keys.equal_numbers.Goals as goal

-- ---- the numbers of two shared values

abbrev number_in : Value → ℕ
number_in (natural n) = n
number_in _ = 0

abbrev shared_number : Value → ℕ
shared_number (counted to v) = number_in v
shared_number _ = 0

abbrev first_of : Values → ℕ
first_of no_values = 0
first_of (more_values v vs) = shared_number v

abbrev second_of : Values → ℕ
second_of no_values = 0
second_of (more_values v vs) = first_of vs

abbrev first_number : Value → ℕ
first_number (group vs) = first_of vs
first_number _ = 0

abbrev second_number : Value → ℕ
second_number (group vs) = second_of vs
second_number _ = 0

abbrev two_numbers : ℕ → ℕ → Value
two_numbers a b = group (more_values (counted 0 (natural a)) (more_values (counted 0 (natural b)) no_values))

abbrev Number : Type 0
Number = Shared (Rc ℕ Global)

abbrev reads_number : Value → Number → Type 0
reads_number = reads_in (λ (x : Number). x.value.value) (reads_counted (λ v n. natural n ≡ v))

-- what is read back of them has their numbers
same_numbers : (a b : ℕ) (pair : Number × Number) → reads_tuple2 reads_number reads_number (two_numbers a b) pair → two_numbers pair.0.value.value pair.1.value.value ≡ two_numbers a b
same_numbers a b pair h =
    let f = h.2 in
    let s = f.4 in
    ap group (ap₂ more_values (ap (counted 0) f.3.2 ∙ f.3.1) (ap₂ more_values (ap (counted 0) s.3.2 ∙ s.3.1) s.4 ∙ s.2) ∙ f.2) ∙ h.1

numbers_read : (n a b : ℕ) → a ≡ n → b ≡ n → (r : Result (Result (Number × Number) Error) Error)
    → IfOk r (λ read. MatchResult read (reads_tuple2 reads_number reads_number (two_numbers a b)) (λ e. e ≢ OutOfMemory → ⊥))
    → IfOk r (λ read. MatchResult read (λ pair. (pair.0.value.value ≡ n) × (pair.1.value.value ≡ n)) (λ e. e ≢ OutOfMemory → ⊥))
numbers_read n a b is_a is_b (Ok (Ok pair)) h = let same = same_numbers a b pair h in (ap first_number same ∙ is_a, ap second_number same ∙ is_b)
numbers_read n a b is_a is_b (Ok (Err e)) h = h
numbers_read n a b is_a is_b (Err e) h = tt

-- ---- all keys denote one number

abbrev denoted : ℕ → Option SharedValue
denoted n = Some (record { pointee = sized (number w32 false); len = 1; value = natural n })

pub archived_and_read-requires : goal.archived_and_read-requires
archived_and_read-requires c = record { named = ([], (tt, tt)) }

pub returns : goal.returns
returns c =
    let first = c.in-Ok.ensures.1 in
    let second = c.in-Ok-number.ensures.1 in
    let keys : Keys = λ _. denoted c.args.n in
    numbers_read c.args.n c.in-Ok.first.value.value c.in-Ok-number.second.value.value first second c.archived_and_read.result
    (c.archived_and_read.ensures.read (first_fit (λ _. 0)) keys ((ap denoted (sym first), tt), ((ap denoted (sym second), tt), tt)))
