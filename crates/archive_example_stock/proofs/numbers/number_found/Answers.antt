use Rattle.std.proofs.Common.{◌≡◌, [], Some, None, refl, subst}
use Rattle.std.specs.Option.{option_map}
use Rattle.archive_shape_layout.specs.Value.Value.{natural}
use Rattle.archive_shape_canonical.specs.Settled.{free}
use Rattle.archive_forms_writing.specs.Readable.{FindsReadable}
use Rattle.archive_forms_writing.proofs.FoundReadable.{told_of_found, told_of_none}
use Rattle.archive_example_stock.specs.Stock.{number_shape, number_spelling}
use Rattle.archive_example_stock.proofs.numbers.number_found.Goals as goal

pub returns-in-Some : goal.returns-in-Some
returns-in-Some g c keys first found =
    told_of_found _ _ (λ o. Some c.native_of.result ≡ option_map (λ e. e.1) o) first c.in-Some.number (subst (FindsReadable free [] keys number_shape number_spelling first) c.in-Some.is found)
    (λ e suits there. let same : natural c.native_of.result ≡ natural e.1 = c.native_of.ensures _ (c.part_is_held.ensures e.1 _ _ free [] keys tt suits there).0 in cc)

pub returns-in-None : goal.returns-in-None
returns-in-None g c keys first found =
    told_of_none _ _ (λ o. None ≡ option_map (λ e. e.1) o) first (subst (FindsReadable free [] keys number_shape number_spelling first) c.in-None.is found) refl
