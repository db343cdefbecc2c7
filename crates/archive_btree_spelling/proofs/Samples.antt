-- The samples are spelled as their bytes, and maps of numbers are written as their one archive.
use Rattle.std.proofs.Common.{ℕ, ◌<◌, ◌^◌, List, [], ◌∷◌, None, refl, arith}
use Rattle.std.specs.Int.{w32, to_le_bytes}
use Rattle.std.proofs.lemmas.Int.{ints}
use Rattle.archive_shape_layout.specs.Bytes.{align_up}
use Rattle.archive_shape_layout.specs.Value.Value.{natural}
use Rattle.archive_shape_layout.specs.Content.{shape_content, number_value, keys_offset, values_offset, node_size, links_offset, link_node_align, link_node_size}
use Rattle.archive_shape_canonical.specs.Settled.{Fit}
use Rattle.archive_forms_laws.specs.State.{Keys, AreOneToOne, initial}
use Rattle.archive_forms_laws.specs.Spells.{Spells}
use Rattle.archive_forms_laws.specs.Regions.{region_fits, all_suit}
use Rattle.archive_shape.specs.Offsets.{FitsOffset}
use Rattle.archive_forms_laws.specs.SpellingLaws.{KnowsAll}
use Rattle.archive_forms_laws.proofs.Gaps.{bytes_word}
use Rattle.archive_forms_laws.proofs.Leaves.{leaf_spells}
use Rattle.archive_forms_laws.proofs.Written.{is_written}
use Rattle.archive_btree_spelling.specs.Written.{entry_spelling}
use Rattle.archive_btree_spelling.specs.Sample.{number_shape, map_shape, map_spelling, six_pairs, six_pairs_bytes}
use Rattle.archive_btree_spelling.specs.Laws.{SamplesAreSpelled, MapsAreWritten, SixPairsAreWritten}
use Rattle.archive_btree_spelling.proofs.Maps.{btree_spells}
use Rattle.archive_forms_laws.proofs.Samples.{number_spells, none_to_none}
use Rattle.archive_forms_laws.specs.Sample.{number_spelling}

pub samples_are_spelled_law : SamplesAreSpelled
unfolding align_up keys_offset values_offset node_size links_offset link_node_align link_node_size
samples_are_spelled_law = (refl, refl, refl)

abbrev no_keys : Keys
no_keys k = None

-- no shared value is in them
none_shared : (fit : Fit) (xs : List (ℕ × ℕ)) → all_suit (entry_spelling 5 number_shape number_shape number_spelling number_spelling) fit no_keys xs
none_shared fit [] = tt
none_shared fit (x ∷ xs) = ((tt, (tt, tt)), none_shared fit xs)

pub maps_are_written_law : MapsAreWritten
maps_are_written_law fit names xs bytes f e =
    is_written fit map_shape KnowsAll map_spelling xs names no_keys bytes
    (btree_spells fit 5 number_shape number_shape KnowsAll number_spelling number_spelling (omega arith) (number_spells fit) (number_spells fit))
    tt (none_shared fit xs) none_to_none f e

six_fit : region_fits map_spelling map_shape (six_pairs ∷ []) initial
unfolding align_up shape_content number_value keys_offset values_offset node_size links_offset link_node_align link_node_size
six_fit =
    let small : (n : ℕ) → n < 200 → n < 2 ^ 32 = λ n h. omega arith in
    let little : (n : ℕ) → n < 200 → n < 2 ^ 64 = λ n h. omega arith in
    let from_node : FitsOffset 92 0 = record { sfits = omega (arith, ints) } in
    let from_root : FitsOffset 116 48 = record { sfits = omega (arith, ints) } in (
      (
        (
          (
            (
              tt,
              (
                ((tt, (tt, tt)), tt),
                (small 0 (omega arith), little 48 (omega arith)),
                (((λ names pos. refl, refl, bytes_word 1), tt), ((λ names pos. refl, refl, bytes_word 11), tt), tt),
              ),
            ),
            (tt, (tt, (tt, (tt, (tt, tt))))),
          ),
          (
            ((tt, (tt, tt)), ((tt, (tt, tt)), ((tt, (tt, tt)), ((tt, (tt, tt)), ((tt, (tt, tt)), tt))))),
            (small 48 (omega arith), little 116 (omega arith)),
            (
              ((λ names pos. refl, refl, bytes_word 2), ((λ names pos. refl, refl, bytes_word 3), ((λ names pos. refl, refl, bytes_word 4), ((λ names pos. refl, refl, bytes_word 5), ((λ names pos. refl, refl, bytes_word 6), tt))))),
              ((λ names pos. refl, refl, bytes_word 12), ((λ names pos. refl, refl, bytes_word 13), ((λ names pos. refl, refl, bytes_word 14), ((λ names pos. refl, refl, bytes_word 15), ((λ names pos. refl, refl, bytes_word 16), tt))))),
              (from_node, (tt, (tt, (tt, (tt, (tt, tt)))))),
            ),
          ),
        ),
        tt,
      ),
      small 116 (omega arith),
      (((from_root, small 6 (omega arith)), little 124 (omega arith)), tt),
    )

pub six_pairs_are_written_law : SixPairsAreWritten
unfolding align_up keys_offset values_offset node_size links_offset link_node_align link_node_size
six_pairs_are_written_law fit names = maps_are_written_law fit names six_pairs six_pairs_bytes six_fit refl
