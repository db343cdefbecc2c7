use Rattle.std.proofs.Common.{[], None, refl}
use Rattle.archive_forms_laws.specs.State.{Keys}
use Rattle.archive_example_stock.proofs.look_up.look_up.Goals as goal

pub get-requires : goal.get-requires
get-requires c = record { has = rw (c.in_ok-root.ensures.bytes, c.in_ok-root.ensures.position) (c.in_ok-root.ensures.value [] (tt, tt)) }

pub returns : goal.returns
returns c =
    let owned = c.args.owned.now in
    let keys : Keys = λ _. None in
    let made = c.in_ok-bytes.ensures.bytes in
    let readable = c.root_is_written.ensures.readable owned _ [] keys made.0 made.1 in
    c.number_found.ensures keys _ (c.values_are_readable.ensures [] keys owned c.in_ok-root.root c.args.key c.get.result (tt, tt) c.each_is_a_byte.ensures
    (c.unshared_suits.ensures refl owned keys) (rw (c.in_ok-root.ensures.bytes, c.in_ok-root.ensures.position, c.as_slice-archive.ensures.value) readable) c.get.ensures.answers)
