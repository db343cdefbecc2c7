-- Lists of tables are held by the layout, however each is filled.
use Rattle.std.proofs.Common.{refl}
use Rattle.archive_shape_canonical.specs.Settled.{free}
use Rattle.archive_forms_laws.specs.Spells.{Spells}
use Rattle.archive_forms_laws.specs.SpellingLaws.{KnowsAll}
use Rattle.archive_forms_laws.proofs.Pointers.{slice_spells}
use Rattle.archive_forms_laws.proofs.Samples.{number_spells, none_to_none}
use Rattle.archive_forms_laws.proofs.Written.{is_written}
use Rattle.archive_forms_laws.specs.Sample.{number_spelling}
use Rattle.archive_hash_writing.specs.Many.{many_shape, many_spelling, ManyAreHeld}
use Rattle.archive_hash_writing.specs.Sample.{number_shape, sample_shape}
use Rattle.archive_hash_writing.specs.Tables.{table_spelling}
use Rattle.archive_hash_writing.proofs.Numbers.{no_keys}
use Rattle.archive_hash_writing.proofs.SpellingTables.{table_spells}

pub many_are_held_law : ManyAreHeld
many_are_held_law most places hash names xss bytes small f e =
    let spells : Spells free many_shape KnowsAll (many_spelling most places hash) =
    slice_spells free sample_shape KnowsAll (table_spelling most places number_shape number_spelling hash)
    (table_spells free number_shape KnowsAll number_spelling most places hash small (number_spells free))
    in
    is_written free many_shape KnowsAll (many_spelling most places hash) xss names no_keys bytes spells tt ((spells xss).unshared refl no_keys) none_to_none f e
