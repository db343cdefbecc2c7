use denote.Ref.{Bor}
use Rattle.std.specs.Prelude.{◌≡◌, ◌≢◌, ℕ, ◌++◌, ◌∷◌, [], List, slice_index, EachIndex, Option, MatchOption}
use Rattle.cabinet_text_grammar.specs.Due.{Due, a_key, nothing_more}
use Rattle.cabinet_text_grammar.specs.Keys.{MapKind}
use Rattle.cabinet_text_grammar.specs.declared.cause.Cause.{Cause}
use Rattle.cabinet_text_reading.specs.Causes.{a_line, next_piece, IsFaultAt}

abbrev pub HasNoNewline : List ℕ → Type 0
HasNoNewline text = EachIndex text (λ k. slice_index text k ≢ 10)

-- the parts of a text before and after its first newline
abbrev pub SplitsLine : (text : List ℕ) → Option (Bor (List ℕ) × Bor (List ℕ)) → Type 0
SplitsLine text result =
    MatchOption result (HasNoNewline text) (λ parts. (text ≡ parts.0.now ++ 10 ∷ parts.1.now) × HasNoNewline parts.0.now)

-- why no line is at the beginning of a text: there is nothing, or there is this fault, whatever is expected
abbrev pub LacksLine : (rest : List ℕ) → Option Cause → Type 0
LacksLine rest fault = MatchOption fault (rest ≡ []) (λ cause. (due : Due) → IsFaultAt due (next_piece rest) cause)

-- no line is at the beginning of a text, where some line is expected, for this cause
abbrev pub LacksDueLine : (rest : List ℕ) → Cause → Type 0
LacksDueLine rest cause = (due : Due) → due ≢ nothing_more → IsFaultAt due (next_piece rest) cause

-- the fault of what is after a document, unless there is nothing
abbrev pub FindsAfter : (rest : List ℕ) → Option Cause → Type 0
FindsAfter rest result = MatchOption result (rest ≡ []) (IsFaultAt nothing_more (next_piece rest))

-- a line is no key, whichever keys are before it, for this cause
abbrev pub IsNoKey : (line : List ℕ) → Cause → Type 0
IsNoKey line cause = (kind : MapKind) (keys : List (List ℕ)) → IsFaultAt (a_key kind keys) (a_line line) cause
