-- Tables of numbers are written as their one archive, where a fit fills them as they are written, and some fit does.
use Rattle.std.proofs.Common.{true, ℕ, List, [], ◌∷◌, None, refl, map}
use Rattle.archive_shape_canonical.specs.Settled.{Fit}
use Rattle.archive_forms_laws.specs.State.{Keys}
use Rattle.archive_forms_laws.specs.Regions.{all_suit}
use Rattle.archive_forms_laws.specs.SpellingLaws.{KnowsAll}
use Rattle.archive_forms_laws.proofs.Written.{is_written}
use Rattle.archive_hash_writing.specs.Fitted.{by_place, capacity_of, controls_of}
use Rattle.archive_hash_writing.specs.Sample.{number_shape, sample_shape}
use Rattle.archive_hash_writing.specs.Tables.{table_spelling}
use Rattle.archive_hash_writing.specs.Laws.{TablesAreWritten, EachIsFilled}
use Rattle.archive_hash_writing.proofs.SpellingTables.{table_spells}
use Rattle.archive_forms_laws.proofs.Samples.{number_spells, none_to_none}
use Rattle.archive_forms_laws.specs.Sample.{number_spelling}

-- no shared value is in them
abbrev pub no_keys : Keys
no_keys k = None

none_shared : (fit : Fit) (xs : List ℕ) → all_suit number_spelling fit no_keys xs
none_shared fit [] = tt
none_shared fit (x ∷ xs) = (tt, none_shared fit xs)

pub tables_are_written_law : TablesAreWritten
tables_are_written_law most places hash fit names xs bytes small filled f e =
    is_written fit sample_shape KnowsAll (table_spelling most places number_shape number_spelling hash) xs names no_keys bytes
    (table_spells fit number_shape KnowsAll number_spelling most places hash small (number_spells fit))
    tt (none_shared fit (by_place most places (map hash xs) xs), filled) none_to_none f e

-- a fit that fills a table with this number of places and these controls, and leaves the items in their order
abbrev filling : ℕ → List ℕ → Fit
filling capacity controls = record { binds = true; capacity = λ len. capacity; table_controls = λ keys. controls; table_items = λ keys. keys; map_controls = λ keys. []; map_numbers = λ keys. [] }

pub each_is_filled_law : EachIsFilled
each_is_filled_law most places hashes [] = (filling 0 [], tt)
each_is_filled_law most places hashes (x ∷ xs) = (filling (capacity_of most places hashes (x ∷ xs)) (controls_of most places hashes (x ∷ xs)), (refl, refl, refl))
