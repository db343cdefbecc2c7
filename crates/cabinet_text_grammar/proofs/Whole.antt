-- Each input is the text of a document or has a first fault.
use Rattle.std.proofs.Common.{◌≡◌, ◌≢◌, ℕ, zero, suc, ◌+◌, ◌<◌, ◌≤◌, true, false, List, [], ◌∷◌, ◌++◌, length, Option, Some, ◌⊎◌, IsUtf8, sym, ap, ◌∙◌, refl, inl, inr, subst, arith, append-nil, length-append}
use Rattle.std.specs.Prelude.{slice_get}
use Rattle.std.proofs.lemmas.Bool.Decides.{eqb_tells}
use Rattle.cabinet_text_grammar.specs.Tree.{Tree}
use Rattle.cabinet_text_grammar.specs.Wholes.{wholes_of, IsDocument}
use Rattle.cabinet_text_grammar.specs.Due.{Due, the_start, a_head, a_key, nothing_more}
use Rattle.cabinet_text_grammar.specs.Reading.{Reading, nothing_read, due_at, Stage, reading, read, nowhere, take}
use Rattle.cabinet_text_grammar.specs.Spelling.{text_of}
use Rattle.cabinet_text_grammar.specs.Fault.{Piece, pieces_of, HasDueCause, rank, IsFirstCause, FirstFault}
use Rattle.cabinet_text_grammar.specs.declared.cause.Cause.{Cause}
use Rattle.cabinet_text_grammar.specs.declared.cause.Cause.TheVariants.{NotUtf8, NoNewline, EndTooEarly, LineAfterEnd, OutOfMemory}
use Rattle.cabinet_text_grammar.proofs.Pieces.{HasNoNewline, ended_piece, first_piece, piece_open}
use Rattle.cabinet_text_grammar.proofs.Faults.{one_document, one_fault, fault_refuses, memory_taken}
use Rattle.cabinet_text_grammar.proofs.FirstCauses.{IsFirstOf, ends_early, line_after_end, no_newline, at_reading, at_end}
use Rattle.cabinet_text_grammar.specs.Memory.{TextTakesMemory}
use Rattle.cabinet_text_grammar.specs.TextsLaws.{IsText, IsFaulty}
use Rattle.cabinet_text_grammar.proofs.Decided.{decide_utf8, decide_memory}
use Rattle.cabinet_text_grammar.proofs.Steps.{HasRead, none_read, one_more, fault_inside, fault_after}
use Rattle.cabinet_text_grammar.proofs.Completed.{something_due, verdict, taken, faulty}

-- bytes without a newline, or a line and what follows its newline
data Cut (bytes : List ℕ) : Type 0 where
  uncut : HasNoNewline bytes → Cut bytes
  cut : (line after : List ℕ) → HasNoNewline line → bytes ≡ line ++ 10 ∷ after → Cut bytes

cut_of : (bytes : List ℕ) → Cut bytes
cut_of [] = uncut tt
cut_of (b ∷ bs) =
    elim (eqb_tells b 10) [
      | inl is ↦ cut [] bs tt (ap (λ c. c ∷ bs) is.1)
      | inr differs ↦ elim (cut_of bs) [
        | uncut none ↦ uncut (differs.1, none)
        | cut line after none is ↦ cut (b ∷ line) after (differs.1, none) (ap (λ w. b ∷ w) is)
      ]
    ]

before_all : (due : Due) (p : Piece) (other : Cause) → rank other < 0 → HasDueCause due (Some p) other → ⊥
before_all due p other below b = omega (arith, below)

not_utf8 : (due : Due) (p : Piece) → (IsUtf8 p.bytes → ⊥) → IsFirstOf due (Some p) NotUtf8
not_utf8 the_start p h = record { has_cause = h; first = before_all the_start p }
not_utf8 (a_head table depth) p h = record { has_cause = h; first = before_all (a_head table depth) p }
not_utf8 (a_key kind keys) p h = record { has_cause = h; first = before_all (a_key kind keys) p }
not_utf8 nothing_more p h = record { has_cause = h; first = before_all nothing_more p }

-- a first fault of the next piece, other than OutOfMemory
abbrev Blame : Stage → List ℕ → Type 0
Blame stage rest = (cause : Cause) × (cause ≢ OutOfMemory) × IsFirstCause stage (slice_get (pieces_of rest) 0) cause

-- what is expected, and how its causes are those of a stage
record Expects (stage : Stage) : Type 0 where
  pub due : Due
  pub lift : (piece : Option Piece) (cause : Cause) → rank cause < 2 → IsFirstOf due piece cause → IsFirstCause stage piece cause

inside_reading : (r : Reading) → Expects (reading r)
inside_reading r = record { due = due_at r; lift = λ piece cause low first. at_reading r piece cause (omega (arith, low)) first }

behind_document : (table : List Tree) (t : Tree) → Expects (read table t)
behind_document table t = record { due = nothing_more; lift = λ piece cause low first. at_end table t piece cause first }

blame_unended : (stage : Stage) (b : ℕ) (bs : List ℕ) → Expects stage → HasNoNewline (b ∷ bs) → Blame stage (b ∷ bs)
blame_unended stage b bs e none =
    let piece : slice_get (pieces_of (b ∷ bs)) 0 ≡ Some (record { bytes = b ∷ bs; ended = false }) = ap (λ ps. slice_get ps 0) (piece_open b bs none) in
    elim (decide_utf8 (b ∷ bs)) [
      | yes utf8 ↦ (NoNewline, (λ h. cc), rw piece (e.lift _ NoNewline (omega arith) (no_newline e.due (b ∷ bs) utf8)))
      | no other ↦ (NotUtf8, (λ h. cc), rw piece (e.lift _ NotUtf8 (omega arith) (not_utf8 e.due (record { bytes = b ∷ bs; ended = false }) other)))
    ]

blame_line : (stage : Stage) (line after : List ℕ) → HasNoNewline line → (cause : Cause) → cause ≢ OutOfMemory → IsFirstCause stage (ended_piece line) cause → Blame stage (line ++ 10 ∷ after)
blame_line stage line after none cause other first = (cause, other, rw (first_piece line after none) first)

blame_bytes : (stage : Stage) (line after : List ℕ) → Expects stage → HasNoNewline line → (IsUtf8 line → ⊥) → Blame stage (line ++ 10 ∷ after)
blame_bytes stage line after e none other =
    blame_line stage line after none NotUtf8 (λ h. cc) (e.lift _ NotUtf8 (omega arith) (not_utf8 e.due (record { bytes = line; ended = true }) other))

-- what follows a document
after_all : (table : List Tree) (t : Tree) (rest : List ℕ) → (rest ≡ []) ⊎ Blame (read table t) rest
after_all table t [] = inl refl
after_all table t (b ∷ bs) =
    elim (cut_of (b ∷ bs)) [
      | uncut none ↦ inr (blame_unended (read table t) b bs (behind_document table t) none)
      | cut line after none is ↦ inr (subst (Blame (read table t)) (sym is) (elim (decide_utf8 line) [
        | yes utf8 ↦ blame_line (read table t) line after none LineAfterEnd (λ h. cc) (at_end table t _ LineAfterEnd (line_after_end line utf8))
        | no other ↦ blame_bytes (read table t) line after (behind_document table t) none other
      ]))
    ]

-- the text of a document, or a first fault
abbrev Outcome : List ℕ → Type 0
Outcome input = ((t : Tree) × IsDocument t × (input ≡ text_of t)) ⊎ ((line : ℕ) × (cause : Cause) × (cause ≢ OutOfMemory) × FirstFault input line cause)

blamed : (input rest : List ℕ) (r : Reading) (line : ℕ) → HasRead input (reading r) rest line → Blame (reading r) rest → Outcome input
blamed input rest r line has b = inr (line, b.0, b.1, fault_inside input rest r line b.0 has b.2)

-- what was read of a document is its text
whole_text : (input rest : List ℕ) (table : List Tree) (t : Tree) (line : ℕ) → wholes_of t ≡ table → HasRead input (read table t) rest line → HasRead input (read (wholes_of t) t) rest line
whole_text input rest table t line is has = subst (λ w. HasRead input (read w t) rest line) (sym is) has

ended_here : (input rest : List ℕ) (t : Tree) (line : ℕ) → HasRead input (read (wholes_of t) t) rest line → Outcome input
ended_here input rest t line has =
    elim (after_all (wholes_of t) t rest) [
      | inl none ↦ inl (t, has.legal.0, has.parts ∙ ap (λ r. text_of t ++ r) none ∙ append-nil (text_of t))
      | inr b ↦ inr (line, b.0, b.1, subst (λ w. FirstFault w line b.0) (sym has.parts) (fault_after t rest line b.0 has.legal.0 has.counted b.2))
    ]

-- a line is wrong, or leads to a stage
module _ (input : List ℕ) where
  abbrev GoesOn : ℕ → ℕ → Type 0
  GoesOn most line = (s : Stage) (after : List ℕ) → length after < most → HasRead input s after line → Outcome input

  at_line : (rest bytes after : List ℕ) (r : Reading) (line : ℕ) → HasNoNewline bytes → rest ≡ bytes ++ 10 ∷ after → HasRead input (reading r) rest line → GoesOn (length rest) (line + 1) → Outcome input
  at_line rest bytes after r line none is has on =
      elim (decide_utf8 bytes) [
        | no other ↦ blamed input rest r line has (subst (Blame (reading r)) (sym is) (blame_bytes (reading r) bytes after (inside_reading r) none other))
        | yes utf8 ↦ elim (verdict r bytes has.legal utf8) [
          | faulty cause other first ↦ blamed input rest r line has (subst (Blame (reading r)) (sym is) (blame_line (reading r) bytes after none cause other first))
          | taken i admitted suits line_is ↦
              on (take r i) after (omega (arith, ap length is, length-append bytes (10 ∷ after)))
              (one_more input rest bytes after r (take r i) line has (record { item = i; admitted = admitted; line_is = line_is; suits = suits; stage_is = refl }) is)
        ]
      ]

  at_rest : (rest : List ℕ) (r : Reading) (line : ℕ) → HasRead input (reading r) rest line → GoesOn (length rest) (line + 1) → Outcome input
  at_rest [] r line has on = blamed input [] r line has (EndTooEarly, (λ h. cc), at_reading r _ EndTooEarly (omega arith) (ends_early (due_at r) (something_due r)))
  at_rest (b ∷ bs) r line has on =
      elim (cut_of (b ∷ bs)) [
        | uncut none ↦ blamed input (b ∷ bs) r line has (blame_unended (reading r) b bs (inside_reading r) none)
        | cut bytes after none is ↦ at_line (b ∷ bs) bytes after r line none is has on
      ]

  read_on : (n : ℕ) (s : Stage) (rest : List ℕ) (line : ℕ) → length rest ≤ n → HasRead input s rest line → Outcome input
  read_on n nowhere rest line most has = absurd has.legal
  read_on n (read table t) rest line most has = ended_here input rest t line (whole_text input rest table t line has.legal.1 has)
  read_on zero (reading r) rest line most has = at_rest rest r line has (λ s after less next. absurd (omega (arith, less, most)))
  read_on (suc n) (reading r) rest line most has = at_rest rest r line has (λ s after less next. read_on n s after (line + 1) (omega (arith, less, most)) next)

outcome : (input : List ℕ) → Outcome input
outcome input = read_on input (length input) (reading nothing_read) input 1 (omega arith) (none_read input)

faultless : (input : List ℕ) (t : Tree) → IsDocument t → input ≡ text_of t → (line : ℕ) (cause : Cause) → FirstFault input line cause → (cause ≡ OutOfMemory) × TextTakesMemory t
faultless input t document is line cause fault =
    elim (decide_memory cause) [
      | yes memory ↦
          (memory, memory_taken t line document (subst (λ w. FirstFault w line OutOfMemory) is (subst (FirstFault input line) memory fault)))
      | no other ↦ absurd (fault_refuses input line cause t fault other document is)
    ]

said : (input : List ℕ) (t : Tree) → IsDocument t → input ≡ text_of t → IsText input t
said input t document is = record {
  document = document;
  text_is = is;
  alone = λ s other h. one_document s t other document (sym h ∙ is);
  faultless = faultless input t document is;
}

pub read_back : (t : Tree) → IsDocument t → IsText (text_of t) t
read_back t document = said (text_of t) t document refl

pub text_or_fault : (input : List ℕ) → ((t : Tree) × IsText input t) ⊎ ((line : ℕ) × (cause : Cause) × IsFaulty input line cause)
text_or_fault input =
    elim (outcome input) [
      | inl s ↦ inl (s.0, said input s.0 s.1 s.2)
      | inr f ↦ inr (
        f.0,
        f.1,
        record {
          first = f.3;
          not_memory = f.2;
          alone = λ other reason fault not_memory. one_fault input other f.0 reason f.1 fault f.3 not_memory f.2;
          no_text = λ t document. fault_refuses input f.0 f.1 t f.3 f.2 document;
        },
      )
    ]
