-- The words of commands.
use Rattle.std.specs.Prelude.{ℕ, ◌<◌, ◌^◌, List, [], ◌∷◌, ◌++◌, codes, string_bytes, Option, Some, None, IfSome, ⊤}
use Rattle.std.specs.Fmt.{decimal}
use Rattle.cab_files.specs.declared.showing.command.ShowCommand.{ShowCommand}
use Rattle.cab_files.specs.declared.showing.command.ShowCommand.TheVariants.{Text, Map}

-- a word, and after it a number in decimal, in its shortest form
abbrev pub option_words : List ℕ → Option ℕ → List (List ℕ)
option_words word None = []
option_words word (Some n) = word ∷ decimal n ∷ []

-- the words that spell a command, after the program's name
abbrev pub show_words_of : ShowCommand → List (List ℕ)
show_words_of (Text archive) = string_bytes archive ∷ []
show_words_of (Map lines characters archive) =
    codes "--map" ∷ (option_words (codes "--lines") lines ++ (option_words (codes "--path") characters ++ string_bytes archive ∷ []))

-- the numbers have at most 64 bits
abbrev pub IsShowCommand : ShowCommand → Type 0
IsShowCommand (Map lines characters archive) = IfSome lines (λ n. n < 2 ^ 64) × IfSome characters (λ n. n < 2 ^ 64)
IsShowCommand command = ⊤
