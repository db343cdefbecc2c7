use Rattle.std.proofs.Common.{◌∙◌, [], None, Some, Ok, ap}
use Rattle.archive_forms_laws.specs.State.{Keys}
use Rattle.archive_core_tests.proofs.archives.parts.archived_and_found.Goals as goal

pub number_in-requires : goal.number_in-requires
number_in-requires c = rw (c.in_ok-root.ensures.bytes, c.in_ok-root.ensures.position) (c.in_ok-root.ensures.value [] (tt, tt))

pub returns : goal.returns
returns c =
    let keys : Keys = λ _. None in
    let made = c.in_ok-bytes.ensures.bytes in
    let inner = c.in_ok-inner.inner in
    let there = c.root_is_written.ensures.readable (Ok (Some inner)) _ [] keys made.0 made.1 in
    c.number_in.ensures [] keys inner (rw (c.in_ok-root.ensures.bytes, c.in_ok-root.ensures.position, c.as_slice-archive.ensures.value) there) ∙ ap Some c.in_ok-inner.ensures.ok
