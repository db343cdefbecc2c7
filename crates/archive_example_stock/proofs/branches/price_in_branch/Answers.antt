use Rattle.std.proofs.Common.{◌≡◌, ℕ, [], None, refl, Global, String}
use Rattle.archive_hash.specs.declared.map.OwnedHashMap.{OwnedHashMap}
use Rattle.std.specs.Option.{option_and_then}
use Rattle.archive_forms_laws.specs.State.{Keys}
use Rattle.archive_forms_writing.proofs.FoundReadable.{told_of_found, told_of_none}
use Rattle.archive_example_stock.specs.Answers.{price_with}
use Rattle.archive_example_stock.proofs.branches.price_in_branch.Goals as goal

pub get-requires : goal.get-requires
get-requires c = record { has = rw (c.in_ok-root.ensures.bytes, c.in_ok-root.ensures.position) (c.in_ok-root.ensures.value [] (tt, (tt, tt))) }

pub returns-in-Some : goal.returns-in-Some
returns-in-Some c =
    let owned = c.args.branches.now in
    let keys : Keys = λ _. None in
    let made = c.in_ok-bytes.ensures.bytes in
    let readable = c.root_is_written.ensures.readable owned _ [] keys made.0 made.1 in
    let first = c.values_are_readable.ensures [] keys owned c.in_ok-root.root c.args.branch _ (tt, (tt, tt)) c.each_is_a_byte.ensures (c.unshared_suits.ensures refl owned keys)
    (rw (c.in_ok-root.ensures.bytes, c.in_ok-root.ensures.position, c.as_slice-archive.ensures.value) readable) c.in-Some.ensures.answers in
    told_of_found _ _ (λ o. c.number_found.result ≡ option_and_then (λ b. price_with c.args.name.now b.1.map.entries) o) _ c.in-Some.prices first (λ b suits there.
    c.number_found.ensures keys _ (c.values_are_readable-2.ensures [] keys b.1 c.in-Some.prices c.args.name c.get-in-Some.result (tt, tt) c.each_is_a_byte-in-Some.ensures suits there c.get-in-Some.ensures.answers))

pub returns : goal.returns
returns c =
    let owned = c.args.branches.now in
    let keys : Keys = λ _. None in
    let made = c.in_ok-bytes.ensures.bytes in
    let readable = c.root_is_written.ensures.readable owned _ [] keys made.0 made.1 in
    let first = c.values_are_readable.ensures [] keys owned c.in_ok-root.root c.args.branch None (tt, (tt, tt)) c.each_is_a_byte.ensures (c.unshared_suits.ensures refl owned keys)
    (rw (c.in_ok-root.ensures.bytes, c.in_ok-root.ensures.position, c.as_slice-archive.ensures.value) readable) c.in-None.ensures.answers in
    told_of_none {E = String Global × OwnedHashMap (String Global) ℕ} _ _ (λ o. None ≡ option_and_then (λ b. price_with c.args.name.now b.1.map.entries) o) _ first refl
