use Rattle.archive_core_tests.proofs.archives.equal.archived_and_opened.Goals as goal

pub opened-requires : goal.opened-requires
opened-requires c = rw c.as_slice-archive.ensures.value c.in_ok-bytes.ensures.archive
