use Rattle.std.proofs.Common.{◌≡◌, ◌∙◌, ℕ, List, [], ◌∷◌, map, Option, Some, None, refl, sym, ap}
use Rattle.std.specs.Hash as fed
use Rattle.std.specs.String.{string_bytes}
use Rattle.std.proofs.lemmas.List.Elements.{length_all_zip}
use Rattle.std.proofs.lemmas.List.Sorted.{length_permutation}
use Rattle.archive_shape_canonical.specs.Settled.{Fit, free}
use Rattle.archive_shape_layout.specs.Shape.{Shape}
use Rattle.archive_shape_layout.specs.Shape.Shape.{text}
use Rattle.archive_forms_laws.specs.Fields.{tuple2_spelling}
use Rattle.archive_forms_laws.specs.Sample.{number_shape, number_spelling}
use Rattle.archive_forms_values.specs.Tuples.{tuple2}
use Rattle.archive_forms_writing.specs.Owned.{string_spelling}
use Rattle.archive_hash_probing.specs.Inputs.{input_hash}
use Rattle.archive_hash_writing.specs.Tables.{IsFilledBy}
use Rattle.archive_forms_laws.specs.Regions.{all_suit}
use Rattle.archive_forms_laws.specs.Spelling.{Spelling}
use Rattle.archive_forms_laws.specs.State.{Keys}
use Rattle.archive_forms.specs.Alike.{AlikeAreOne, AreAlikeEntries}
use Rattle.archive_hash.specs.Calls.Laws.{AnswerAlike}
use Rattle.archive_hash_tests.proofs.read_back.archived_and_read.Goals as goal

-- keys that denote nothing
no_keys : Keys
no_keys = λ k. None

suit : {A R : Type 0} (w : Spelling A R) (fit : Fit) (keys : Keys) → ((x : A) → w.suits fit keys x) → (xs : List A) → all_suit w fit keys xs
suit w fit keys each [] = tt
suit w fit keys each (x ∷ xs) = (each x, suit w fit keys each xs)

one_answer : {B Q : Type 0} (vals : Spelling B Q) → AlikeAreOne vals → (o p : Option B) → AnswerAlike vals o p → p ≡ o
one_answer vals one None None h = refl
one_answer vals one None (Some y) h = absurd h
one_answer vals one (Some x) None h = absurd h
one_answer vals one (Some x) (Some y) h = ap Some (sym (one x y h))

filled : {A R : Type 0} (s : Shape) (w : Spelling A R) (hashes : List ℕ) (xs : List A) → IsFilledBy 7 8 s w hashes free xs
filled s w hashes [] = tt
filled s w hashes (x ∷ xs) = tt

pub maps_are_read_back-requires : goal.maps_are_read_back-requires
maps_are_read_back-requires c = record { keys = c.texts_are_faithful.ensures.texts; values = c.leaves_are_faithful.ensures.numbers; alike = c.alike_texts_are_equal.ensures.texts }

pub from_bytes-requires : goal.from_bytes-requires
from_bytes-requires c = record { named = ([], (tt, tt)) }

pub returns-clause-count : goal.returns-clause-count
returns-clause-count c =
    let numbers = c.args.numbers.now in
    let read = c.in_ok-read.read in
    let slice = c.as_slice-archive.ensures in
    let entry = tuple2_spelling text string_spelling number_shape number_spelling in
    let reads = c.read_back_is_written.ensures numbers read c.as_slice-archive.result.now free [] no_keys (tt, tt) (suit entry free no_keys (λ e. (tt, (tt, tt))) _, filled (tuple2 text number_shape) entry (map (λ e. input_hash (fed.str (string_bytes e.0))) numbers.map.entries) numbers.map.entries) (rw slice.value c.in_ok-bytes.ensures.archive) c.in_ok-read.ensures.value in
    let has = c.maps_are_read_back.ensures.maps numbers read c.len-entries.ensures.unique reads in
    sym (length_all_zip (AreAlikeEntries string_spelling number_spelling) has.moved read.map.entries has.alike) ∙ length_permutation numbers.map.entries has.moved has.permuted

pub returns-clause-numbers : goal.returns-clause-numbers
returns-clause-numbers c = λ key.
    let numbers = c.args.numbers.now in
    let read = c.in_ok-read.read in
    let slice = c.as_slice-archive.ensures in
    let entry = tuple2_spelling text string_spelling number_shape number_spelling in
    let reads = c.read_back_is_written.ensures numbers read c.as_slice-archive.result.now free [] no_keys (tt, tt) (suit entry free no_keys (λ e. (tt, (tt, tt))) _, filled (tuple2 text number_shape) entry (map (λ e. input_hash (fed.str (string_bytes e.0))) numbers.map.entries) numbers.map.entries) (rw slice.value c.in_ok-bytes.ensures.archive) c.in_ok-read.ensures.value in
    let has = c.maps_are_read_back.ensures.maps numbers read c.len-entries.ensures.unique reads in
    one_answer number_spelling c.alike_leaves_are_one.ensures.unsigned_32 _ _ (has.answers key)
