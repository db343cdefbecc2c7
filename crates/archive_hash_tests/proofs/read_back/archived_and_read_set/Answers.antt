use Rattle.std.proofs.Common.{◌∙◌, [], refl, sym}
use Rattle.std.proofs.lemmas.List.Elements.{length_all_zip}
use Rattle.std.proofs.lemmas.List.Sorted.{length_permutation}
use Rattle.archive_forms_writing.specs.Owned.{string_spelling}
use Rattle.archive_forms.specs.Alike.{AreAlike}
use Rattle.archive_hash_tests.proofs.read_back.archived_and_read_set.Goals as goal

pub maps_are_read_back-requires : goal.maps_are_read_back-requires
maps_are_read_back-requires c = record { keys = c.texts_are_faithful.ensures.texts; values = c.leaves_are_faithful.ensures.numbers; alike = c.alike_texts_are_equal.ensures.texts }

pub from_bytes-requires : goal.from_bytes-requires
from_bytes-requires c = record { named = ([], (tt, tt)) }

pub returns-clause-count : goal.returns-clause-count
returns-clause-count c =
    let texts = c.args.texts.now in
    let read = c.in_ok-read.read in
    let has = c.maps_are_read_back.ensures.sets texts read c.len-keys.ensures.unique (c.in_ok-read.ensures.written refl texts (rw c.as_slice-archive.ensures.value c.in_ok-bytes.ensures.archive)) in
    sym (length_all_zip (AreAlike string_spelling) has.moved read.set.keys has.alike) ∙ length_permutation texts.set.keys has.moved has.permuted

pub returns-clause-texts : goal.returns-clause-texts
returns-clause-texts c = λ text.
    let texts = c.args.texts.now in
    let read = c.in_ok-read.read in
    let has = c.maps_are_read_back.ensures.sets texts read c.len-keys.ensures.unique (c.in_ok-read.ensures.written refl texts (rw c.as_slice-archive.ensures.value c.in_ok-bytes.ensures.archive)) in
    has.answers text
