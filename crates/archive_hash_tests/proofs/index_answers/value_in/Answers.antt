use Rattle.std.proofs.Common.{◌≡◌, ℕ, [], List, Option, Some, None, refl}
use Rattle.std.specs.Option.{option_and_then}
use Rattle.std.specs.Prelude.{String}
use Rattle.std.specs.Global.{Global}
use Rattle.archive_shape_canonical.specs.Settled.{free}
use Rattle.archive_index.specs.declared.owned.OwnedIndexMap.{OwnedIndexMap}
use Rattle.archive_hash_tests.specs.Answers.{value_with}
use Rattle.archive_forms_writing.proofs.FoundReadable.{told_of_found, told_of_none}
use Rattle.archive_hash_tests.proofs.index_answers.value_in.Goals as goal

-- the result is the value of a text in the map of the first pair
abbrev Told : List ℕ → Option ℕ → Option (String Global × OwnedIndexMap (String Global) ℕ) → Type 0
Told inner result first = result ≡ option_and_then (λ e. value_with inner e.1.pairs.items) first

pub returns-in-Some : goal.returns-in-Some
returns-in-Some c given maps readable =
    let map = c.in-Some.map in
    let found = c.values_are_readable.ensures [] given free maps c.args.maps c.args.outer (Some map) (tt, (tt, tt)) c.each_is_a_byte.ensures (c.unshared_suits.ensures refl maps given) readable c.in-Some.ensures.answers in
    told_of_found _ _ (Told c.args.inner.now c.value_of.result) _ map found (λ e suits there. c.value_of.ensures given e.1 there)

pub returns-in-None : goal.returns-in-None
returns-in-None c given maps readable =
    told_of_none _ _ (Told c.args.inner.now None) _
    (c.values_are_readable.ensures [] given free maps c.args.maps c.args.outer None (tt, (tt, tt)) c.each_is_a_byte.ensures (c.unshared_suits.ensures refl maps given) readable c.in-None.ensures.answers) refl
