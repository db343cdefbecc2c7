use Rattle.archive_core_validation.proofs.validator.ValidatorSharedContext.finish_shared.Goals as goal

pub returns : goal.returns
returns g c = c.finish_shared.ensures (g.A.ArchiveContext.kept c.args.self.now.archive)
