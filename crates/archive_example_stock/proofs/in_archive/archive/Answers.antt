use Rattle.std.proofs.Common.{[], refl}
use Rattle.archive_example_stock.proofs.Suits.{keys_of, labels_suit}
use Rattle.archive_example_stock.proofs.in_archive.archive.Goals as goal

pub returns : goal.returns
returns c =
    let stock = c.args.stock.now in
    let labels = c.requires.labels in
    let keys = keys_of labels.text_of in
    let made = c.in_ok-bytes.ensures.bytes in
    record {
      keys = keys;
      suits = (
        c.unshared_suits.ensures refl stock.prices keys,
        (c.unshared_suits-2.ensures refl stock.counts keys, (c.unshared_suits-3.ensures refl stock.shelves keys, (labels_suit labels.text_of stock.labels.items labels.each, tt))),
      );
      are_bytes = rw (← c.deref.ensures.value) c.each_is_a_byte.ensures;
      readable = c.root_is_written.ensures.readable stock _ [] keys made.0 made.1;
    }
