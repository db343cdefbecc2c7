use Rattle.archive_core_validation.proofs.validator.ValidatorSharedContext.start_shared.Goals as goal

pub returns : goal.returns
returns g c = c.start_shared.ensures (g.A.ArchiveContext.kept c.args.self.now.archive)
