-- The first cause of a line, and of the end of a text.
use Rattle.std.proofs.Common.{◌≢◌, ℕ, ◌<◌, ◌≤◌, ◌^◌, List, [], ◌++◌, Option, Some, None, IsUtf8, length, inl, inr, sym, ap, ◌∙◌, refl, arith, codes, false}
use Rattle.std.proofs.lemmas.List.{append_cancel_left}
use Rattle.std.proofs.lemmas.Bool.{false≢true}
use Rattle.cabinet_text_grammar.specs.Keys.{MapKind, ordered, hashed, kept, MayFollow}
use Rattle.cabinet_text_grammar.specs.Item.{Item, key_item, whole_item}
use Rattle.cabinet_text_grammar.specs.Due.{Due, the_start, a_head, a_key, nothing_more, AdmitsHead}
use Rattle.cabinet_text_grammar.specs.Tree.{Tree}
use Rattle.cabinet_text_grammar.specs.Reading.{Reading, due_at, reading, read}
use Rattle.cabinet_text_grammar.specs.Spelling.{escaped, spelled}
use Rattle.cabinet_text_grammar.specs.Fault.{Piece, HasBadText, HasBadEscape, HasCount, IsHead, HasBadNumber, bad_number, bad_count, HasBadWholes, HasDueCause, HasCause, rank, IsFirstCause}
use Rattle.cabinet_text_grammar.specs.declared.cause.Cause.{Cause}
use Rattle.cabinet_text_grammar.specs.declared.cause.Cause.TheVariants.{NotUtf8, NoNewline, EndTooEarly, KeyExpected, BadEscape, KeyOrder, KeyRepeated, UnknownHead, BadNumber, UnknownWhole, TooDeep, RepeatedWhole, WholeOrder, LineAfterEnd, OutOfMemory}
use Rattle.cabinet_text_grammar.proofs.Escapes.{first_differs}
use Rattle.cabinet_text_grammar.proofs.Pieces.{ended_piece}
use Rattle.cabinet_text_grammar.proofs.ReadBack.{IsItem, item_of_line, read_back, no_bad_escape, no_bad_number}
use Rattle.cabinet_text_grammar.proofs.Spelled.{IsUtf8-item}
use Rattle.cabinet_text_grammar.proofs.Start.{HasNoWholes, from_start, to_start}
use Rattle.cabinet_text_grammar.proofs.Faults.{admitted_item, admitted_head, no_unknown_whole}

-- the first cause of all that apply, but those of a line that completes a tree
pub record IsFirstOf (due : Due) (piece : Option Piece) (cause : Cause) : Type 0 where
  pub has_cause : HasDueCause due piece cause
  pub first : (other : Cause) → rank other < rank cause → HasDueCause due piece other → ⊥

before_end : (due : Due) (other : Cause) → rank other < 2 → HasDueCause due None other → ⊥
before_end the_start NotUtf8 below b = b
before_end the_start NoNewline below b = b
before_end (a_head table around) NotUtf8 below b = b
before_end (a_head table around) NoNewline below b = b
before_end (a_key kind keys) NotUtf8 below b = b
before_end (a_key kind keys) NoNewline below b = b
before_end nothing_more NotUtf8 below b = b
before_end nothing_more NoNewline below b = b
before_end due EndTooEarly below b = absurd (omega (arith, below))
before_end due KeyExpected below b = absurd (omega (arith, below))
before_end due BadEscape below b = absurd (omega (arith, below))
before_end due KeyOrder below b = absurd (omega (arith, below))
before_end due KeyRepeated below b = absurd (omega (arith, below))
before_end due UnknownHead below b = absurd (omega (arith, below))
before_end due BadNumber below b = absurd (omega (arith, below))
before_end due UnknownWhole below b = absurd (omega (arith, below))
before_end due TooDeep below b = absurd (omega (arith, below))
before_end due RepeatedWhole below b = absurd (omega (arith, below))
before_end due WholeOrder below b = absurd (omega (arith, below))
before_end due LineAfterEnd below b = absurd (omega (arith, below))
before_end due OutOfMemory below b = absurd (omega (arith, below))

-- the input ends where something is expected
pub ends_early : (due : Due) → due ≢ nothing_more → IsFirstOf due None EndTooEarly
ends_early the_start is = record { has_cause = tt; first = before_end the_start }
ends_early (a_head table around) is = record { has_cause = tt; first = before_end (a_head table around) }
ends_early (a_key kind keys) is = record { has_cause = tt; first = before_end (a_key kind keys) }
ends_early nothing_more is = absurd (is refl)

-- a line after a document
pub line_after_end : (line : List ℕ) → IsUtf8 line → IsFirstOf nothing_more (ended_piece line) LineAfterEnd
line_after_end line utf8 = record { has_cause = tt; first = earlier } where
  earlier : (other : Cause) → rank other < 13 → HasDueCause nothing_more (ended_piece line) other → ⊥
  earlier NotUtf8 below b = b utf8
  earlier NoNewline below b = false≢true (sym b)
  earlier EndTooEarly below b = b
  earlier KeyExpected below b = b
  earlier BadEscape below b = b
  earlier KeyOrder below b = b
  earlier KeyRepeated below b = b
  earlier UnknownHead below b = b
  earlier BadNumber below b = b
  earlier UnknownWhole below b = b
  earlier TooDeep below b = b
  earlier RepeatedWhole below b = b
  earlier WholeOrder below b = b
  earlier LineAfterEnd below b = absurd (omega (arith, below))
  earlier OutOfMemory below b = absurd (omega (arith, below))

-- a line without a quote where a key is expected
pub key_expected : (kind : MapKind) (keys : List (List ℕ)) (line : List ℕ) → IsUtf8 line → ((rest : List ℕ) → line ≢ codes "'" ++ rest) → IsFirstOf (a_key kind keys) (ended_piece line) KeyExpected
key_expected kind keys line utf8 unquoted = record { has_cause = unquoted; first = earlier } where
  earlier : (other : Cause) → rank other < 3 → HasDueCause (a_key kind keys) (ended_piece line) other → ⊥
  earlier NotUtf8 below b = b utf8
  earlier NoNewline below b = false≢true (sym b)
  earlier EndTooEarly below b = b
  earlier KeyExpected below b = absurd (omega (arith, below))
  earlier BadEscape below b = absurd (omega (arith, below))
  earlier KeyOrder below b = absurd (omega (arith, below))
  earlier KeyRepeated below b = absurd (omega (arith, below))
  earlier UnknownHead below b = absurd (omega (arith, below))
  earlier BadNumber below b = absurd (omega (arith, below))
  earlier UnknownWhole below b = absurd (omega (arith, below))
  earlier TooDeep below b = absurd (omega (arith, below))
  earlier RepeatedWhole below b = absurd (omega (arith, below))
  earlier WholeOrder below b = absurd (omega (arith, below))
  earlier LineAfterEnd below b = absurd (omega (arith, below))
  earlier OutOfMemory below b = absurd (omega (arith, below))

-- a key with a bad escape
pub bad_key_escape : (kind : MapKind) (keys : List (List ℕ)) (line : List ℕ) → IsUtf8 line → HasBadText (codes "'") line → IsFirstOf (a_key kind keys) (ended_piece line) BadEscape
bad_key_escape kind keys line utf8 bad = record { has_cause = bad; first = earlier } where
  earlier : (other : Cause) → rank other < 4 → HasDueCause (a_key kind keys) (ended_piece line) other → ⊥
  earlier NotUtf8 below b = b utf8
  earlier NoNewline below b = false≢true (sym b)
  earlier EndTooEarly below b = b
  earlier KeyExpected below b = b bad.0 bad.1
  earlier BadEscape below b = absurd (omega (arith, below))
  earlier KeyOrder below b = absurd (omega (arith, below))
  earlier KeyRepeated below b = absurd (omega (arith, below))
  earlier UnknownHead below b = absurd (omega (arith, below))
  earlier BadNumber below b = absurd (omega (arith, below))
  earlier UnknownWhole below b = absurd (omega (arith, below))
  earlier TooDeep below b = absurd (omega (arith, below))
  earlier RepeatedWhole below b = absurd (omega (arith, below))
  earlier WholeOrder below b = absurd (omega (arith, below))
  earlier LineAfterEnd below b = absurd (omega (arith, below))
  earlier OutOfMemory below b = absurd (omega (arith, below))

-- what is wrong with a key that may not follow those before it
abbrev pub wrong_key_cause : MapKind → Cause
wrong_key_cause ordered = KeyOrder
wrong_key_cause hashed = KeyOrder
wrong_key_cause kept = KeyRepeated

most_rank : (kind : MapKind) → rank (wrong_key_cause kind) ≤ 6
most_rank ordered = omega arith
most_rank hashed = omega arith
most_rank kept = omega arith

before_wrong_key :
    (kind : MapKind) (keys : List (List ℕ)) (k : List ℕ) → IsUtf8 k
    → (other : Cause) → rank other < rank (wrong_key_cause kind) → HasDueCause (a_key kind keys) (ended_piece (spelled (key_item k))) other → ⊥
before_wrong_key kind keys k utf8 NotUtf8 below b = b (IsUtf8-item (key_item k) utf8)
before_wrong_key kind keys k utf8 NoNewline below b = false≢true (sym b)
before_wrong_key kind keys k utf8 EndTooEarly below b = b
before_wrong_key kind keys k utf8 KeyExpected below b = b (escaped k) refl
before_wrong_key kind keys k utf8 BadEscape below b = b.2 k utf8 (sym (append_cancel_left (codes "'") _ _ b.1))
before_wrong_key ordered keys k utf8 KeyOrder below b = absurd (omega (arith, below))
before_wrong_key hashed keys k utf8 KeyOrder below b = absurd (omega (arith, below))
before_wrong_key kept keys k utf8 KeyOrder below b = b
before_wrong_key kind keys k utf8 KeyRepeated below b = absurd (omega (arith, below, most_rank kind))
before_wrong_key kind keys k utf8 UnknownHead below b = absurd (omega (arith, below, most_rank kind))
before_wrong_key kind keys k utf8 BadNumber below b = absurd (omega (arith, below, most_rank kind))
before_wrong_key kind keys k utf8 UnknownWhole below b = absurd (omega (arith, below, most_rank kind))
before_wrong_key kind keys k utf8 TooDeep below b = absurd (omega (arith, below, most_rank kind))
before_wrong_key kind keys k utf8 RepeatedWhole below b = absurd (omega (arith, below, most_rank kind))
before_wrong_key kind keys k utf8 WholeOrder below b = absurd (omega (arith, below, most_rank kind))
before_wrong_key kind keys k utf8 LineAfterEnd below b = absurd (omega (arith, below, most_rank kind))
before_wrong_key kind keys k utf8 OutOfMemory below b = absurd (omega (arith, below, most_rank kind))

-- a key that may not follow those before it
pub wrong_key : (kind : MapKind) (keys : List (List ℕ)) (k : List ℕ) → IsUtf8 k → (MayFollow kind keys k → ⊥) → IsFirstOf (a_key kind keys) (ended_piece (spelled (key_item k))) (wrong_key_cause kind)
wrong_key ordered keys k utf8 wrong = record { has_cause = (k, utf8, refl, wrong); first = before_wrong_key ordered keys k utf8 }
wrong_key hashed keys k utf8 wrong = record { has_cause = (k, utf8, refl, wrong); first = before_wrong_key hashed keys k utf8 }
wrong_key kept keys k utf8 wrong = record { has_cause = (k, utf8, refl, wrong); first = before_wrong_key kept keys k utf8 }

-- a head with a bad escape
pub bad_escape : (table : List Tree) (around : ℕ) (line : List ℕ) → IsUtf8 line → HasBadEscape line → IsFirstOf (a_head table around) (ended_piece line) BadEscape
bad_escape table around line utf8 bad = record { has_cause = bad; first = earlier } where
  earlier : (other : Cause) → rank other < 4 → HasDueCause (a_head table around) (ended_piece line) other → ⊥
  earlier NotUtf8 below b = b utf8
  earlier NoNewline below b = false≢true (sym b)
  earlier EndTooEarly below b = b
  earlier KeyExpected below b = b
  earlier BadEscape below b = absurd (omega (arith, below))
  earlier KeyOrder below b = absurd (omega (arith, below))
  earlier KeyRepeated below b = absurd (omega (arith, below))
  earlier UnknownHead below b = absurd (omega (arith, below))
  earlier BadNumber below b = absurd (omega (arith, below))
  earlier UnknownWhole below b = absurd (omega (arith, below))
  earlier TooDeep below b = absurd (omega (arith, below))
  earlier RepeatedWhole below b = absurd (omega (arith, below))
  earlier WholeOrder below b = absurd (omega (arith, below))
  earlier LineAfterEnd below b = absurd (omega (arith, below))
  earlier OutOfMemory below b = absurd (omega (arith, below))

-- a line that is not the line of the item read back from it is no item's
pub no_item : (line : List ℕ) → spelled (item_of_line line) ≢ line → (i : Item) → IsItem i → line ≢ spelled i
no_item line differs i p h = differs (ap (λ l. spelled (item_of_line l)) h ∙ ap spelled (read_back i p) ∙ sym h)

-- a line that no head is
pub unknown_head : (table : List Tree) (around : ℕ) (line : List ℕ) → IsUtf8 line → (HasBadEscape line → ⊥) → ((i : Item) → IsHead i → line ≢ spelled i) → ((rest : List ℕ) → line ≢ codes "int " ++ rest) → ((rest : List ℕ) → HasCount line rest → ⊥) → IsFirstOf (a_head table around) (ended_piece line) UnknownHead
unknown_head table around line utf8 well no_head no_number no_count = record { has_cause = record { no_head = no_head; no_number = no_number; no_count = no_count }; first = earlier } where
  earlier : (other : Cause) → rank other < 7 → HasDueCause (a_head table around) (ended_piece line) other → ⊥
  earlier NotUtf8 below b = b utf8
  earlier NoNewline below b = false≢true (sym b)
  earlier EndTooEarly below b = b
  earlier KeyExpected below b = b
  earlier BadEscape below b = well b
  earlier KeyOrder below b = b
  earlier KeyRepeated below b = b
  earlier UnknownHead below b = absurd (omega (arith, below))
  earlier BadNumber below b = absurd (omega (arith, below))
  earlier UnknownWhole below b = absurd (omega (arith, below))
  earlier TooDeep below b = absurd (omega (arith, below))
  earlier RepeatedWhole below b = absurd (omega (arith, below))
  earlier WholeOrder below b = absurd (omega (arith, below))
  earlier LineAfterEnd below b = absurd (omega (arith, below))
  earlier OutOfMemory below b = absurd (omega (arith, below))

-- a bad number or count
pub bad_number_first : (table : List Tree) (around : ℕ) (line : List ℕ) → IsUtf8 line → (HasBadEscape line → ⊥) → HasBadNumber line → IsFirstOf (a_head table around) (ended_piece line) BadNumber
bad_number_first table around line utf8 well bad = record { has_cause = bad; first = earlier } where
  earlier : (other : Cause) → rank other < 8 → HasDueCause (a_head table around) (ended_piece line) other → ⊥
  earlier NotUtf8 below b = b utf8
  earlier NoNewline below b = false≢true (sym b)
  earlier EndTooEarly below b = b
  earlier KeyExpected below b = b
  earlier BadEscape below b = well b
  earlier KeyOrder below b = b
  earlier KeyRepeated below b = b
  earlier UnknownHead below b = elim bad [
    | bad_number rest h none ↦ b.no_number rest h
    | bad_count rest h none ↦ b.no_count rest h
  ]
  earlier BadNumber below b = absurd (omega (arith, below))
  earlier UnknownWhole below b = absurd (omega (arith, below))
  earlier TooDeep below b = absurd (omega (arith, below))
  earlier RepeatedWhole below b = absurd (omega (arith, below))
  earlier WholeOrder below b = absurd (omega (arith, below))
  earlier LineAfterEnd below b = absurd (omega (arith, below))
  earlier OutOfMemory below b = absurd (omega (arith, below))

-- the number of a whole that is not complete
pub unknown_whole : (table : List Tree) (around n : ℕ) → n < 2 ^ 64 → length table ≤ n → IsFirstOf (a_head table around) (ended_piece (spelled (whole_item n))) UnknownWhole
unknown_whole table around n fits above = record { has_cause = (n, fits, refl, above); first = earlier } where
  earlier : (other : Cause) → rank other < 9 → HasDueCause (a_head table around) (ended_piece (spelled (whole_item n))) other → ⊥
  earlier NotUtf8 below b = b (IsUtf8-item (whole_item n) fits)
  earlier NoNewline below b = false≢true (sym b)
  earlier EndTooEarly below b = b
  earlier KeyExpected below b = b
  earlier BadEscape below b = no_bad_escape (whole_item n) fits b
  earlier KeyOrder below b = b
  earlier KeyRepeated below b = b
  earlier UnknownHead below b = b.no_head (whole_item n) fits refl
  earlier BadNumber below b = no_bad_number (whole_item n) fits b
  earlier UnknownWhole below b = absurd (omega (arith, below))
  earlier TooDeep below b = absurd (omega (arith, below))
  earlier RepeatedWhole below b = absurd (omega (arith, below))
  earlier WholeOrder below b = absurd (omega (arith, below))
  earlier LineAfterEnd below b = absurd (omega (arith, below))
  earlier OutOfMemory below b = absurd (omega (arith, below))

-- the head of a container inside too many
pub too_deep : (table : List Tree) (around : ℕ) (i : Item) → AdmitsHead table 0 i → (AdmitsHead table around i → ⊥) → IsFirstOf (a_head table around) (ended_piece (spelled i)) TooDeep
too_deep table around i head not_here = record { has_cause = (i, head, refl, not_here); first = earlier } where
  earlier : (other : Cause) → rank other < 10 → HasDueCause (a_head table around) (ended_piece (spelled i)) other → ⊥
  earlier NotUtf8 below b = b (IsUtf8-item i (admitted_item table 0 i head))
  earlier NoNewline below b = false≢true (sym b)
  earlier EndTooEarly below b = b
  earlier KeyExpected below b = b
  earlier BadEscape below b = no_bad_escape i (admitted_item table 0 i head) b
  earlier KeyOrder below b = b
  earlier KeyRepeated below b = b
  earlier UnknownHead below b = b.no_head i (admitted_head table 0 i head) refl
  earlier BadNumber below b = no_bad_number i (admitted_item table 0 i head) b
  earlier UnknownWhole below b = no_unknown_whole table i 0 head b
  earlier TooDeep below b = absurd (omega (arith, below))
  earlier RepeatedWhole below b = absurd (omega (arith, below))
  earlier WholeOrder below b = absurd (omega (arith, below))
  earlier LineAfterEnd below b = absurd (omega (arith, below))
  earlier OutOfMemory below b = absurd (omega (arith, below))

before_newline : (due : Due) (line : List ℕ) → IsUtf8 line → (other : Cause) → rank other < 1 → HasDueCause due (Some (record { bytes = line; ended = false })) other → ⊥
before_newline the_start line utf8 NotUtf8 below b = b utf8
before_newline (a_head table around) line utf8 NotUtf8 below b = b utf8
before_newline (a_key kind keys) line utf8 NotUtf8 below b = b utf8
before_newline nothing_more line utf8 NotUtf8 below b = b utf8
before_newline due line utf8 NoNewline below b = absurd (omega (arith, below))
before_newline due line utf8 EndTooEarly below b = absurd (omega (arith, below))
before_newline due line utf8 KeyExpected below b = absurd (omega (arith, below))
before_newline due line utf8 BadEscape below b = absurd (omega (arith, below))
before_newline due line utf8 KeyOrder below b = absurd (omega (arith, below))
before_newline due line utf8 KeyRepeated below b = absurd (omega (arith, below))
before_newline due line utf8 UnknownHead below b = absurd (omega (arith, below))
before_newline due line utf8 BadNumber below b = absurd (omega (arith, below))
before_newline due line utf8 UnknownWhole below b = absurd (omega (arith, below))
before_newline due line utf8 TooDeep below b = absurd (omega (arith, below))
before_newline due line utf8 RepeatedWhole below b = absurd (omega (arith, below))
before_newline due line utf8 WholeOrder below b = absurd (omega (arith, below))
before_newline due line utf8 LineAfterEnd below b = absurd (omega (arith, below))
before_newline due line utf8 OutOfMemory below b = absurd (omega (arith, below))

-- a line that no newline ends, at each position
pub no_newline : (due : Due) (line : List ℕ) → IsUtf8 line → IsFirstOf due (Some (record { bytes = line; ended = false })) NoNewline
no_newline the_start line utf8 = record { has_cause = refl; first = λ other below b. before_newline the_start line utf8 other below b }
no_newline (a_head table around) line utf8 = record { has_cause = refl; first = λ other below b. before_newline (a_head table around) line utf8 other below b }
no_newline (a_key kind keys) line utf8 = record { has_cause = refl; first = λ other below b. before_newline (a_key kind keys) line utf8 other below b }
no_newline nothing_more line utf8 = record { has_cause = refl; first = λ other below b. before_newline nothing_more line utf8 other below b }

-- ---- the first line

-- the first line, where it does not begin with that word, is a head
pub at_start : (line : List ℕ) (cause : Cause) → HasNoWholes line → IsFirstOf (a_head [] 0) (ended_piece line) cause → IsFirstOf the_start (ended_piece line) cause
at_start line cause none first = record {
  has_cause = to_start line none cause first.has_cause;
  first = λ other below b. first.first other below (from_start line none other b);
}

-- the word of the number of wholes and after it no such number
pub bad_wholes : (line : List ℕ) → IsUtf8 line → HasBadWholes line → IsFirstOf the_start (ended_piece line) BadNumber
bad_wholes line utf8 bad = record { has_cause = inr bad; first = earlier } where
  no_text : HasBadEscape line → ⊥
  no_text (inl b) = first_differs refl (sym bad.1 ∙ b.1)
  no_text (inr b) = first_differs refl (sym bad.1 ∙ b.1)

  earlier : (other : Cause) → rank other < 8 → HasDueCause the_start (ended_piece line) other → ⊥
  earlier NotUtf8 below b = b utf8
  earlier NoNewline below b = false≢true (sym b)
  earlier EndTooEarly below b = b
  earlier KeyExpected below b = b
  earlier BadEscape below b = no_text b
  earlier KeyOrder below b = b
  earlier KeyRepeated below b = b
  earlier UnknownHead below b = b.1 bad.0 bad.1
  earlier BadNumber below b = absurd (omega (arith, below))
  earlier UnknownWhole below b = absurd (omega (arith, below))
  earlier TooDeep below b = absurd (omega (arith, below))
  earlier RepeatedWhole below b = absurd (omega (arith, below))
  earlier WholeOrder below b = absurd (omega (arith, below))
  earlier LineAfterEnd below b = absurd (omega (arith, below))
  earlier OutOfMemory below b = absurd (omega (arith, below))

-- ---- at a stage

-- where the cause is checked before those of a line that completes a tree
pub at_reading : (r : Reading) (piece : Option Piece) (cause : Cause) → rank cause < 11 → IsFirstOf (due_at r) piece cause → IsFirstCause (reading r) piece cause
at_reading r piece cause low first = record { has_cause = has piece cause low first.has_cause; first = λ other below b. first.first other below (back piece other (omega (arith, below, low)) b) } where
  has : (p : Option Piece) (c : Cause) → rank c < 11 → HasDueCause (due_at r) p c → HasCause (reading r) p c
  has None c below b = b
  has (Some p) NotUtf8 below b = b
  has (Some p) NoNewline below b = b
  has (Some p) EndTooEarly below b = b
  has (Some p) KeyExpected below b = b
  has (Some p) BadEscape below b = b
  has (Some p) KeyOrder below b = b
  has (Some p) KeyRepeated below b = b
  has (Some p) UnknownHead below b = b
  has (Some p) BadNumber below b = b
  has (Some p) UnknownWhole below b = b
  has (Some p) TooDeep below b = b
  has (Some p) RepeatedWhole below b = absurd (omega (arith, below))
  has (Some p) WholeOrder below b = absurd (omega (arith, below))
  has (Some p) LineAfterEnd below b = b
  has (Some p) OutOfMemory below b = b

  back : (p : Option Piece) (c : Cause) → rank c < 11 → HasCause (reading r) p c → HasDueCause (due_at r) p c
  back None c below b = b
  back (Some p) NotUtf8 below b = b
  back (Some p) NoNewline below b = b
  back (Some p) EndTooEarly below b = b
  back (Some p) KeyExpected below b = b
  back (Some p) BadEscape below b = b
  back (Some p) KeyOrder below b = b
  back (Some p) KeyRepeated below b = b
  back (Some p) UnknownHead below b = b
  back (Some p) BadNumber below b = b
  back (Some p) UnknownWhole below b = b
  back (Some p) TooDeep below b = b
  back (Some p) RepeatedWhole below b = absurd (omega (arith, below))
  back (Some p) WholeOrder below b = absurd (omega (arith, below))
  back (Some p) LineAfterEnd below b = b
  back (Some p) OutOfMemory below b = b

pub at_end : (table : List Tree) (t : Tree) (piece : Option Piece) (cause : Cause) → IsFirstOf nothing_more piece cause → IsFirstCause (read table t) piece cause
at_end table t piece cause first = record { has_cause = first.has_cause; first = first.first }
