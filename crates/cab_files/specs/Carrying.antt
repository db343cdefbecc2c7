-- How carrying out a command ends.
use Rattle.std.specs.Prelude.{Result}
use Rattle.cab_files.specs.Building.{EndsBuild}
use Rattle.cab_files.specs.Ending.{EndsRun}
use Rattle.cab_files.specs.declared.command.Command.{Command}
use Rattle.cab_files.specs.declared.command.Command.TheVariants.{Build, Run}
use Rattle.cabinet.specs.declared.fault.Fault.{Fault}

-- by what it is, and its paths
abbrev pub Ends : Command → Result (Unit {0}) Fault → Type 0
Ends (Build text archive) result = EndsBuild text archive result
Ends (Run archive) result = EndsRun archive result
