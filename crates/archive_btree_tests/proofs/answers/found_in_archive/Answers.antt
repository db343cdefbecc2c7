use Rattle.std.proofs.Common.{◌≡◌, ℕ, [], Some, None, refl, arith, lit<}
use Rattle.std.specs.Option.{option_map}
use Rattle.archive_shape_layout.specs.Value.Value.{natural}
use Rattle.archive_shape_canonical.specs.Settled.{free}
use Rattle.archive_forms_writing.proofs.FoundReadable.{told_of_found, told_of_none}
use Rattle.archive_btree_tests.proofs.Suits.{no_keys}
use Rattle.archive_btree_tests.proofs.answers.found_in_archive.Goals as goal

pub get-requires : goal.get-requires
get-requires c = (lit< tt, rw (c.in_ok-root.ensures.bytes, c.in_ok-root.ensures.position) (c.in_ok-root.ensures.value [] (tt, tt)))

pub returns-in-Some : goal.returns-in-Some
returns-in-Some c =
    let owned = c.args.map.now in
    let made = c.in_ok-bytes.ensures.bytes in
    let readable = c.root_is_written.ensures.readable owned _ [] no_keys made.0 made.1 in
    let first = c.values_are_readable.ensures [] no_keys free c.in_ok-root.root c.args.key _ (omega arith) (tt, tt) c.each_is_a_byte.ensures (c.unshared_suits.ensures refl owned no_keys)
    (rw (c.in_ok-root.ensures.bytes, c.in_ok-root.ensures.position, c.as_slice-archive.ensures.value) readable) c.in-Some.ensures.looks_up in
    told_of_found {E = ℕ × ℕ} _ _ (λ o. Some c.native_of.result ≡ option_map (λ e. e.1) o) _ c.in-Some.number first
    (λ e suits there. let same : natural c.native_of.result ≡ natural e.1 = c.native_of.ensures _ (c.part_is_held.ensures e.1 _ _ free [] no_keys tt suits there).0 in cc)

pub returns : goal.returns
returns c =
    let owned = c.args.map.now in
    let made = c.in_ok-bytes.ensures.bytes in
    let readable = c.root_is_written.ensures.readable owned _ [] no_keys made.0 made.1 in
    let first = c.values_are_readable.ensures [] no_keys free c.in_ok-root.root c.args.key None (omega arith) (tt, tt) c.each_is_a_byte.ensures (c.unshared_suits.ensures refl owned no_keys)
    (rw (c.in_ok-root.ensures.bytes, c.in_ok-root.ensures.position, c.as_slice-archive.ensures.value) readable) c.in-None.ensures.looks_up in
    told_of_none {E = ℕ × ℕ} _ _ (λ o. None ≡ option_map (λ e. e.1) o) _ first refl
