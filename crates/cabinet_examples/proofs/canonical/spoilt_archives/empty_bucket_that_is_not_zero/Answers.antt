use Rattle.cabinet_examples.proofs.Spoilt.{marked_bucket}
use Rattle.cabinet_examples.proofs.canonical.spoilt_archives.empty_bucket_that_is_not_zero.Goals as goal

pub returns : goal.returns
returns c = marked_bucket
