-- Index maps of numbers are written as their one archive, where a fit fills them so.
use Rattle.std.proofs.Common.{ℕ, List, [], ◌∷◌, None}
use Rattle.archive_shape_canonical.specs.Settled.{Fit}
use Rattle.archive_forms_values.specs.Tuples.{tuple2}
use Rattle.archive_forms_laws.specs.State.{Keys}
use Rattle.archive_forms_laws.specs.Regions.{all_suit}
use Rattle.archive_forms_laws.specs.Fields.{tuple2_spelling}
use Rattle.archive_forms_laws.specs.SpellingLaws.{KnowsAll}
use Rattle.archive_forms_laws.proofs.Fields.{tuple2_spells}
use Rattle.archive_forms_laws.proofs.Samples.{number_spells, none_to_none}
use Rattle.archive_forms_laws.proofs.Written.{is_written}
use Rattle.archive_forms_laws.specs.Sample.{number_shape, number_spelling}
use Rattle.archive_hash_writing.specs.IndexMaps.{index_spelling}
use Rattle.archive_hash_writing.specs.IndexLaws.{MapsAreWritten, sample_shape}
use Rattle.archive_hash_writing.proofs.IndexMaps.{index_spells}

-- no shared value is in them
abbrev no_keys : Keys
no_keys k = None

none_shared : (fit : Fit) (xs : List (ℕ × ℕ)) → all_suit (tuple2_spelling number_shape number_spelling number_shape number_spelling) fit no_keys xs
none_shared fit [] = tt
none_shared fit (x ∷ xs) = ((tt, (tt, tt)), none_shared fit xs)

pub maps_are_written_law : MapsAreWritten
maps_are_written_law most places hash fit names xs bytes small kept f e =
    let pairs = tuple2_spelling number_shape number_spelling number_shape number_spelling in
    is_written fit sample_shape KnowsAll (index_spelling most places (tuple2 number_shape number_shape) pairs hash) xs names no_keys bytes
    (index_spells fit number_shape number_shape KnowsAll pairs most places hash small
    (tuple2_spells fit KnowsAll number_shape number_spelling number_shape number_spelling (number_spells fit) (number_spells fit)))
    tt (none_shared fit xs, kept) none_to_none f e
