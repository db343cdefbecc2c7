use Rattle.std.proofs.Common.{[], None, refl}
use Rattle.archive_forms_laws.specs.State.{Keys}
use Rattle.archive_example_stock.proofs.shops.price_in_shop.Goals as goal

pub price_at-requires : goal.price_at-requires
price_at-requires c = rw (c.in_ok-root.ensures.bytes, c.in_ok-root.ensures.position) (c.in_ok-root.ensures.value [] (tt, tt))

pub returns : goal.returns
returns c =
    let shops = c.args.shops.now in
    let keys : Keys = λ _. None in
    let made = c.in_ok-bytes.ensures.bytes in
    c.price_at.ensures shops (rw (c.in_ok-root.ensures.bytes, c.in_ok-root.ensures.position, c.as_slice-archive.ensures.value) record {
      keys = keys;
      suits = c.unshared_suits.ensures refl shops keys;
      are_bytes = rw (← c.deref.ensures.value) c.each_is_a_byte.ensures;
      readable = c.root_is_written.ensures.readable shops _ [] keys made.0 made.1;
    })
