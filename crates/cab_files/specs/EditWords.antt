-- The words of the commands that edit archives whose documents may grow.
use Rattle.std.specs.Prelude.{ℕ, List, [], ◌∷◌, codes, string_bytes}
use Rattle.cab_files.specs.declared.editing.command.EditCommand.{EditCommand}
use Rattle.cab_files.specs.declared.editing.command.EditCommand.TheVariants.{Edit, New}
use Rattle.cab_files.specs.declared.editing.command.NewRoot.{NewRoot}
use Rattle.cab_files.specs.declared.editing.command.NewRoot.TheVariants as root

-- the word of a new root
abbrev pub word_of : NewRoot → List ℕ
word_of root.List = codes "list"
word_of root.Ordered = codes "ordered"
word_of root.Hashed = codes "hashed"
word_of root.Kept = codes "kept"
word_of root.Nothing = codes "none"

-- the words that spell a command, after the program's name
abbrev pub edit_words_of : EditCommand → List (List ℕ)
edit_words_of (Edit archive) = string_bytes archive ∷ []
edit_words_of (New root archive) = codes "--new" ∷ word_of root ∷ string_bytes archive ∷ []
