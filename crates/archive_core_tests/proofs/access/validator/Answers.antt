use Rattle.std.proofs.Common.{ap, ◌∙◌}
use Rattle.archive_shape.specs.Kept.{Kept}
use Rattle.archive_core_validation.specs.declared.archive_validator.ArchiveValidator.{ArchiveValidator}
use Rattle.archive_core_tests.proofs.access.validator.Goals as goal

pub returns-clause-start : goal.returns-clause-start
returns-clause-start c = ap (λ (a : ArchiveValidator). a.start) c.new-2.ensures.archive ∙ ap (λ (k : Kept). k.start) c.with_max_depth.ensures

pub returns-clause-end : goal.returns-clause-end
returns-clause-end c = ap (λ (a : ArchiveValidator). a.end) c.new-2.ensures.archive ∙ ap (λ (k : Kept). k.end) c.with_max_depth.ensures
