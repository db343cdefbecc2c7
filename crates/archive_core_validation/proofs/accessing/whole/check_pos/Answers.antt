use Rattle.std.proofs.Common.{ap, ◌∙◌}
use Rattle.archive_shape.specs.Kept.{Kept, range_of}
use Rattle.archive_core_validation.specs.Depth.{unlimited, most_within, none_seen, with_seen}
use Rattle.archive_core_validation.specs.Visits.{seen_in}
use Rattle.archive_core_validation.specs.declared.archive_validator.ArchiveValidator.{ArchiveValidator}
use Rattle.archive_core_validation.specs.declared.shared_validator.SharedValidator.{SharedValidator}
use Rattle.archive_core_validation.proofs.Rooted.{decided, decided_has_value}
use Rattle.archive_core_validation.proofs.accessing.whole.check_pos.Goals as goal

pub returns-clause-exact : goal.returns-clause-exact
returns-clause-exact g c names known =
    decided g.T.Portable.shape names c.args.bytes.now c.args.pos unlimited _ _ c.check_pos_with_context.result
    (ap (λ (a : ArchiveValidator). range_of (record { start = a.start; end = a.end; most = most_within a.most; pushes = a.pushes.items; seen = none_seen })) c.new-context.ensures.archive
    ∙ ap range_of c.new.ensures)
    (λ pos. ap (λ (v : SharedValidator). seen_in v.met pos) c.new-context.ensures.shared ∙ c.new-2.ensures pos)
    (c.check_pos_with_context.ensures.exact names known)

pub returns-clause-value : goal.returns-clause-value
returns-clause-value g c names known =
    decided_has_value g.T.Portable.shape g.T.Portable.knows names c.args.bytes.now c.args.pos unlimited c.check_pos_with_context.result known
    (returns-clause-exact g c names known)
