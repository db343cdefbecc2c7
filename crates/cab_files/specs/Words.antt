-- The words of commands.
use Rattle.std.specs.Prelude.{ℕ, List, [], ◌∷◌, codes, string_bytes}
use Rattle.cab_files.specs.declared.command.Command.{Command}
use Rattle.cab_files.specs.declared.command.Command.TheVariants.{Build, Run}

-- the words that spell a command, after the program's name
abbrev pub words_of : Command → List (List ℕ)
words_of (Build text archive) = codes "build" ∷ string_bytes text ∷ string_bytes archive ∷ []
words_of (Run archive) = codes "run" ∷ string_bytes archive ∷ []
