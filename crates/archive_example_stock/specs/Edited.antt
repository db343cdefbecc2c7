-- What an edit of a count leaves of the counts of an archived stock.
use Rattle.std.specs.Prelude.{◌≡◌, ℕ, ◌==◌, Bool, cond, List, Option}
use Rattle.std.specs.Map.{set_value}
use Rattle.std.specs.Option.{option_map, is_some}
use Rattle.std.specs.Ordering.{is_eq, nat_cmp}
use Rattle.std.specs.declared.default.Default.{Ghosts as Default}
use Rattle.std.specs.declared.hash.Hasher.{Ghosts as Hasher}
use Rattle.archive_hash_maps.specs.Calls.Keys.{Hashes}
use Rattle.archive_hash.specs.Answering.{AnswersKeys}
use Rattle.archive_shape.specs.Key.{KeyMembers}
use Rattle.archive_hash.specs.Calls.Members.{HashMembers}
use Rattle.archive_hash.specs.Edited.{HasOnce}
use Rattle.archive_example_stock.specs.Answers.{count_with}
use Rattle.archive_example_stock.specs.Stock.{number_shape, number_spelling, any}

-- whether a number is that of a shelf
abbrev pub is_shelf : (shelf : ℕ) → ℕ → Bool
is_shelf shelf s = is_eq (nat_cmp s shelf)

-- the counts, with another one of a shelf
abbrev pub with_count : (shelf count : ℕ) → List (ℕ × ℕ) → List (ℕ × ℕ)
with_count shelf count es = set_value (is_shelf shelf) es count

-- the count of a shelf, once that of `shelf` is another, if it was counted
abbrev pub count_after : (shelf count : ℕ) (other : ℕ) → List (ℕ × ℕ) → Option ℕ
count_after shelf count other es = cond (other == shelf) (option_map (λ _. count) (count_with shelf es)) (count_with other es)

module _ {H : Type 0} (k : KeyMembers ℕ) (key : ℕ → ℕ) (queries : HashMembers ℕ) (default : Default H) (hasher : Hasher H) where
  -- the counts at a position answer for entries
  abbrev pub CountsAnswer : (bytes : List ℕ) (pos : ℕ) (es : List (ℕ × ℕ)) → Type 0
  CountsAnswer bytes pos es =
      AnswersKeys k.shape number_shape k.knows any number_spelling number_spelling bytes key k.order (λ q. Hashes default hasher (queries.hash_input q)) k.key_of pos es

  -- the number is the count of the shelf
  abbrev pub FindsCount : (bytes : List ℕ) (pos : ℕ) (shelf : ℕ) (result : Option ℕ) → Type 0
  FindsCount bytes pos shelf result = (es : List (ℕ × ℕ)) → CountsAnswer bytes pos es → result ≡ count_with shelf es

  -- the Boolean is whether the shelf was counted
  abbrev pub TellsCount : (bytes : List ℕ) (pos : ℕ) (shelf : ℕ) (result : Bool) → Type 0
  TellsCount bytes pos shelf result = (es : List (ℕ × ℕ)) → CountsAnswer bytes pos es → result ≡ is_some (count_with shelf es)

  -- other bytes answer for the same counts, with this one of a shelf
  abbrev pub WritesCount : (bytes : List ℕ) (pos : ℕ) (shelf count : ℕ) (out : List ℕ) → Type 0
  WritesCount bytes pos shelf count out =
      (es : List (ℕ × ℕ)) → HasOnce (is_shelf shelf) es → CountsAnswer bytes pos es → CountsAnswer out pos (with_count shelf count es)
