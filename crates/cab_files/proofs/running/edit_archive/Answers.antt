use Rattle.cab_files.proofs.Endings.{ends_by}
use Rattle.cab_files.proofs.running.edit_archive.Goals as goal

pub returns : goal.returns
returns g c = ends_by _ _ _ _ _ _ _ ∣ c.in_default.ensures.accepted ∣₁ c.run_lines-outcome.ensures.edited c.edits_of.ensures c.keep_edits-is_kept.ensures c.first_fault.ensures
