use Rattle.std.specs.String.{string_eq}
use Rattle.std.specs.Ordering.{nat_cmp}
use Rattle.std.proofs.Common.{◌∙◌, ◌==◌, [], refl, sym}
use Rattle.archive_shape_canonical.specs.Settled.{free}
use Rattle.archive_forms_rc.specs.Counted.{shared_str_rc_spelling}
use Rattle.archive_forms_writing.specs.Owned.{string_spelling}
use Rattle.archive_forms.specs.Reading.{reads_all, reads_as, reads_in}
use Rattle.archive_btree.specs.ReadBack as ordered
use Rattle.archive_hash.specs.ReadBack.{reads_map}
use Rattle.archive_example_stock.specs.ReadBack.{IsReadBack}
use Rattle.archive_example_stock.specs.Stock.{number_spelling}
use Rattle.archive_example_stock.proofs.Reading.{fields_read, one_answer, same_shelves, same_labels}
use Rattle.archive_example_stock.proofs.Suits.{keys_of, labels_suit}
use Rattle.archive_example_stock.proofs.Tests.{count_is_lookup, same_prices}
use Rattle.archive_example_stock.proofs.read_back.read_back.Goals as goal

pub forms_are_faithful-requires : goal.forms_are_faithful-requires
forms_are_faithful-requires c = record { first = c.texts_are_faithful.ensures.counted; second = c.leaves_are_faithful.ensures.units }

pub one_is_equal-requires : goal.one_is_equal-requires
one_is_equal-requires c = c.alike_leaves_are_one.ensures.unsigned_32

pub maps_are_read_back-requires : goal.maps_are_read_back-requires
maps_are_read_back-requires c = record { keys = c.texts_are_faithful.ensures.texts; values = c.leaves_are_faithful.ensures.numbers; alike = c.alike_texts_are_equal.ensures.texts }

pub maps_are_read_back-requires-2 : goal.maps_are_read_back-requires-2
maps_are_read_back-requires-2 c = record { keys = c.leaves_are_faithful.ensures.numbers; values = c.leaves_are_faithful.ensures.numbers; alike = c.one_is_equal.ensures }

pub maps_are_read_back-requires-3 : goal.maps_are_read_back-requires-3
maps_are_read_back-requires-3 c = record { keys = c.leaves_are_faithful.ensures.numbers; values = c.texts_are_faithful.ensures.texts; alike = c.one_is_equal.ensures }

pub from_bytes-requires : goal.from_bytes-requires
from_bytes-requires c = record { named = ([], ((tt, tt), (tt, tt), (tt, tt), tt)) }

pub returns : goal.returns
returns c =
    let stock = c.args.stock.now in
    let read = c.in_ok-read.read in
    let labels = c.requires.labels in
    let keys = keys_of labels.text_of in
    let slice = c.as_slice-archive.ensures in
    let one = c.alike_leaves_are_one.ensures.unsigned_32 in
    let all = c.read_back_is_written.ensures stock read c.as_slice-archive.result.now free [] keys ((tt, tt), (tt, tt), (tt, tt), tt)
    (c.unshared_suits.ensures refl stock.prices keys, (c.unshared_suits-2.ensures refl stock.counts keys, (c.unshared_suits-3.ensures refl stock.shelves keys, (labels_suit labels.text_of stock.labels.items labels.each, tt))))
    (rw slice.value c.in_ok-bytes.ensures.archive) c.in_ok-read.ensures.value in
    let parts =
    fields_read (read.prices, read.counts, read.shelves, read.labels)
    (reads_map string_eq (λ m. m.map.entries) (reads_as string_spelling) (reads_as number_spelling))
    (reads_map (λ x y. x == y) (λ m. m.map.entries) (reads_as number_spelling) (reads_as number_spelling))
    (ordered.reads_map nat_cmp (λ m. m.map.entries) (reads_as number_spelling) (reads_as string_spelling))
    (reads_in (λ v. v.items) (reads_all (reads_as shared_str_rc_spelling)))
    _ _ _ _ all
    in
    let prices = c.maps_are_read_back.ensures.maps stock.prices read.prices c.len-prices.ensures.unique parts.first in
    let counts = c.maps_are_read_back-2.ensures.maps stock.counts read.counts c.len-counts.ensures.unique parts.second in
    let shelves = c.maps_are_read_back-3.ensures.maps stock.shelves read.shelves c.len-shelves.ensures.ordered parts.third in
    let same : IsReadBack stock read =
    record {
      prices = same_prices stock.prices.map.entries read.prices.map.entries (λ q. one_answer number_spelling one _ _ (prices.answers q));
      counts = λ shelf. count_is_lookup shelf read.counts.map.entries ∙ one_answer number_spelling one _ _ (counts.answers shelf) ∙ sym (count_is_lookup shelf stock.counts.map.entries);
      shelves = same_shelves one stock.shelves.map.entries read.shelves.map.entries shelves.0;
      labels = same_labels read.labels.items stock.labels.items (c.forms_are_faithful.ensures.vectors _ read.labels parts.fourth);
    }
    in
    same
