-- How results are archived: a tag, and after it the value or the error.
use Rattle.std.specs.Prelude.{ℕ, max, List, Result, Ok, Err, ⊤}
use Rattle.archive_shape_layout.specs.Bytes.{align_up}
use Rattle.archive_shape_layout.specs.Shape.{Shape, size_of, align_of}
use Rattle.archive_shape_layout.specs.Shape.Shape.{result}
use Rattle.archive_shape_layout.specs.Value.{Value}
use Rattle.archive_shape_canonical.specs.Settled.{Fit}
use Rattle.archive_shape.specs.Bytes.{zeros}
use Rattle.archive_shape_layout.specs.declared.error.Error.{Error}
use Rattle.archive_forms_laws.specs.State.{State, Met, Keys}
use Rattle.archive_forms_laws.specs.Spelling.{Spelling}
use Rattle.archive_forms_laws.specs.Payloads.{payload_spelling}

-- where the payload of a result begins in it
abbrev pub result_payload_at : Shape → Shape → ℕ
result_payload_at s t = align_up 1 (max (align_of s) (align_of t))

module _ {A B R Q : Type 0} (s t : Shape) (w : Spelling A R) (u : Spelling B Q) where
  -- the value after the tag 0, and the error after the tag 1
  abbrev pub ok_spelling : Spelling A R
  ok_spelling = payload_spelling 0 (result_payload_at s t) (size_of (result s t)) w

  abbrev pub err_spelling : Spelling B Q
  err_spelling = payload_spelling 1 (result_payload_at s t) (size_of (result s t)) u

  abbrev pub result_value : Result A B → State → Value
  result_value (Ok x) st = ok_spelling.value x st
  result_value (Err y) st = err_spelling.value y st

  abbrev pub result_plain : Result A B → Value
  result_plain (Ok x) = ok_spelling.plain x
  result_plain (Err y) = err_spelling.plain y

  abbrev pub result_piece : Result A B → State → List ℕ
  result_piece (Ok x) st = w.piece x st
  result_piece (Err y) st = u.piece y st

  abbrev pub result_resolver : Result A B → State → Result R Q
  result_resolver (Ok x) st = Ok (w.resolver x st)
  result_resolver (Err y) st = Err (u.resolver y st)

  abbrev pub result_met : Result A B → State → List Met
  result_met (Ok x) st = w.met x st
  result_met (Err y) st = u.met y st

  -- beside a resolver of the other kind there are zeros
  abbrev pub result_own : Result A B → Result R Q → ℕ → List ℕ
  result_own (Ok x) (Ok r) pos = ok_spelling.own x r pos
  result_own (Err y) (Err r) pos = err_spelling.own y r pos
  result_own _ _ pos = zeros (size_of (result s t))

  abbrev pub result_piece_fits : Result A B → State → Type 0
  result_piece_fits (Ok x) st = w.piece_fits x st
  result_piece_fits (Err y) st = u.piece_fits y st

  abbrev pub result_piece_refused : Result A B → State → Error → Type 0
  result_piece_refused (Ok x) st e = w.piece_refused x st e
  result_piece_refused (Err y) st e = u.piece_refused y st e

  abbrev pub result_own_fits : Result A B → Result R Q → ℕ → Type 0
  result_own_fits (Ok x) (Ok r) pos = ok_spelling.own_fits x r pos
  result_own_fits (Err y) (Err r) pos = err_spelling.own_fits y r pos
  result_own_fits _ _ pos = ⊤

  abbrev pub result_own_refused : Result A B → Result R Q → ℕ → Error → Type 0
  result_own_refused (Ok x) (Ok r) pos e = ok_spelling.own_refused x r pos e
  result_own_refused (Err y) (Err r) pos e = err_spelling.own_refused y r pos e
  result_own_refused _ _ pos e = ⊥

  abbrev pub result_suits : Fit → Keys → Result A B → Type 0
  result_suits fit keys (Ok x) = w.suits fit keys x
  result_suits fit keys (Err y) = u.suits fit keys y

  abbrev pub result_spelling : Spelling (Result A B) (Result R Q)
  result_spelling = record {
    value = result_value;
    plain = result_plain;
    piece = result_piece;
    resolver = result_resolver;
    met = result_met;
    own = result_own;
    piece_fits = result_piece_fits;
    piece_refused = result_piece_refused;
    own_fits = result_own_fits;
    own_refused = result_own_refused;
    suits = result_suits;
  }
