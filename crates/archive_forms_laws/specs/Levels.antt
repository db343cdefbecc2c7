-- How values of a type that holds itself are archived: by the values below them, on all levels that there are.
use Rattle.std.specs.Prelude.{ℕ, zero, suc}
use Rattle.archive_forms_laws.specs.Spelling.{Spelling}

-- `one` is how a value is archived by how those below it are
module _ {A R : Type 0} (one : Spelling A R → Spelling A R) (none : Spelling A R) where
  -- of a value with n levels
  abbrev pub levels_spelling : ℕ → Spelling A R
  levels_spelling zero = none
  levels_spelling (suc n) = one (levels_spelling n)

  -- of each value, by the number of levels below it
  abbrev pub self_spelling : (A → ℕ) → Spelling A R
  self_spelling below = record {
    value = λ x st. (levels_spelling (suc (below x))).value x st;
    plain = λ x. (levels_spelling (suc (below x))).plain x;
    piece = λ x st. (levels_spelling (suc (below x))).piece x st;
    resolver = λ x st. (levels_spelling (suc (below x))).resolver x st;
    met = λ x st. (levels_spelling (suc (below x))).met x st;
    own = λ x r pos. (levels_spelling (suc (below x))).own x r pos;
    piece_fits = λ x st. (levels_spelling (suc (below x))).piece_fits x st;
    piece_refused = λ x st e. (levels_spelling (suc (below x))).piece_refused x st e;
    own_fits = λ x r pos. (levels_spelling (suc (below x))).own_fits x r pos;
    own_refused = λ x r pos e. (levels_spelling (suc (below x))).own_refused x r pos e;
    suits = λ fit keys x. (levels_spelling (suc (below x))).suits fit keys x;
  }
