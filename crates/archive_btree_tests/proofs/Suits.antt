-- What suits every fit and all keys.
use Rattle.std.proofs.Common.{List, [], ◌∷◌, None, false}
use Rattle.archive_shape_layout.specs.Value.Values.{no_values}
use Rattle.archive_shape_canonical.specs.Settled.{Fit}
use Rattle.archive_forms_laws.specs.Regions.{all_suit}
use Rattle.archive_forms_laws.specs.Spelling.{Spelling}
use Rattle.archive_forms_laws.specs.State.{Keys}

-- a fit that does not bind, and keys that denote nothing
abbrev pub any_fit : Fit
any_fit = record { binds = false; capacity = λ n. 0; table_controls = λ vs. []; table_items = λ vs. no_values; map_controls = λ vs. []; map_numbers = λ vs. [] }

abbrev pub no_keys : Keys
no_keys = λ k. None

pub suit : {A R : Type 0} (w : Spelling A R) (fit : Fit) (keys : Keys) → ((x : A) → w.suits fit keys x) → (xs : List A) → all_suit w fit keys xs
suit w fit keys each [] = tt
suit w fit keys each (x ∷ xs) = (each x, suit w fit keys each xs)
