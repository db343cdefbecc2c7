use Rattle.std.proofs.Common.{◌≡◌, ℕ, [], Option, Some, None, refl, ap}
use Rattle.std.specs.Option.{option_map}
use Rattle.std.specs.Prelude.{String}
use Rattle.std.specs.Global.{Global}
use Rattle.archive_shape_layout.specs.Value.Value.{natural}
use Rattle.archive_shape_canonical.specs.Settled.{free}
use Rattle.archive_forms_writing.proofs.FoundReadable.{told_of_found, told_of_none}
use Rattle.archive_hash_tests.proofs.index_answers.value_of.Goals as goal

-- the result is the value of the first pair
abbrev Told : Option ℕ → Option (String Global × ℕ) → Type 0
Told result first = result ≡ option_map (λ e. e.1) first

pub returns-in-Some : goal.returns-in-Some
returns-in-Some c given map readable =
    let value = c.in-Some.value in
    let found = c.values_are_readable.ensures [] given free map c.args.map c.args.text (Some value) (tt, tt) c.each_is_a_byte.ensures (c.unshared_suits.ensures refl map given) readable c.in-Some.ensures.answers in
    told_of_found _ _ (Told (Some c.native_of.result)) _ value found (λ e suits there.
    let held = c.part_is_held.ensures e.1 value.bytes.now value.pos free [] given tt suits there in
    let equal : natural c.native_of.result ≡ natural e.1 = c.native_of.ensures (natural e.1) held.0 in
    let same : c.native_of.result ≡ e.1 = cc in
    ap Some same)

pub returns-in-None : goal.returns-in-None
returns-in-None c given map readable =
    told_of_none _ _ (Told None) _ (c.values_are_readable.ensures [] given free map c.args.map c.args.text None (tt, tt) c.each_is_a_byte.ensures (c.unshared_suits.ensures refl map given) readable c.in-None.ensures.answers) refl
