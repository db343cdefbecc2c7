-- Texts cut into lines where the front of them that is UTF-8 is known.
use Rattle.std.proofs.Common.{◌≡◌, ◌≢◌, ℕ, ◌+◌, ◌<◌, ◌≤◌, Bool, true, false, eqb, List, [], ◌∷◌, ◌++◌, length, get_or, take, drop, IsUtf8, Option, None, Some, MatchOption, sym, ap, ◌∙◌, refl, inl, inr, subst, arith, append_assoc, append-nil, length-append, length-drop}
use Rattle.std.specs.Prelude.{slice_get}
use Rattle.std.specs.Str.{IsValidUpTo}
use Rattle.std.proofs.lemmas.Bool.Decides.{eqb_tells}
use Rattle.std.proofs.lemmas.List.{take-append-drop, take-append-le, take_all}
use Rattle.std.proofs.lemmas.Str.{IsUtf8-append}
use Rattle.cabinet_text_grammar.specs.Due.{Due, the_start, a_head, a_key, nothing_more}
use Rattle.cabinet_text_grammar.specs.Fault.{Piece, pieces_of, onto_first_piece, HasDueCause}
use Rattle.cabinet_text_grammar.specs.declared.cause.Cause.{Cause}
use Rattle.cabinet_text_grammar.specs.declared.cause.Cause.TheVariants.{NotUtf8, NoNewline}
use Rattle.cabinet_text_grammar.proofs.FirstCauses.{no_newline}
use Rattle.cabinet_text_grammar.proofs.Lacking.{Lacks, Lacks-from_get_or}
use Rattle.cabinet_text_grammar.proofs.Pieces.{first_piece, pieces_not_cut}
use Rattle.cabinet_text_grammar.proofs.Utf8.{IsUtf8-word}
use Rattle.cabinet_text_reading.specs.Causes.{IsFirstOf}
use Rattle.cabinet_text_reading.specs.Lines.{IsLongest}
use Rattle.cabinet_text_reading.proofs.Causes.{first_of}

pub longest_whole : (rest : List ℕ) → IsLongest rest []
longest_whole rest front tail h some utf8 = omega (arith, ap length h, length-append front tail, some)

-- the bytes after the first n
longer_front : (n : ℕ) (bs front tail : List ℕ) → n ≤ length bs → drop n bs ≡ front ++ tail → take n bs ++ front ≡ take (n + length front) bs
longer_front n bs front tail within h =
    let whole : bs ≡ (take n bs ++ front) ++ tail = sym (take-append-drop n bs) ∙ ap (λ w. take n bs ++ w) h ∙ sym (append_assoc (take n bs) front tail) in
    let long : length (take n bs ++ front) ≡ n + length front = omega (arith, length-append (take n bs) front, length-append (take n bs) (drop n bs), ap length (take-append-drop n bs), length-drop n bs) in
    sym (take_all (n + length front) (take n bs ++ front) (omega (arith, long))) ∙ sym (take-append-le (n + length front) (take n bs ++ front) tail (omega (arith, long))) ∙ ap (take (n + length front)) (sym whole)

pub longest_valid : (bs : List ℕ) (n : ℕ) → IsValidUpTo bs n → IsLongest (take n bs) (drop n bs)
longest_valid bs n valid front tail h some utf8 =
    valid.longest (n + length front) (omega (arith, some)) (subst IsUtf8 (longer_front n bs front tail (omega (arith, valid.short)) h) utf8)

-- after a line
pub longest_behind : (rest line after more : List ℕ) → rest ≡ line ++ 10 ∷ after → IsUtf8 line → IsLongest rest more → IsLongest after more
longest_behind rest line after more h utf8_line longest front tail split some utf8 =
    longest front tail split some
    (subst IsUtf8 (sym (append_assoc line (10 ∷ after) front) ∙ ap (λ w. w ++ front) (sym h)) (IsUtf8-append line (10 ∷ after ++ front) utf8_line (IsUtf8-append (10 ∷ []) (after ++ front) (IsUtf8-word (10 ∷ []) refl) utf8)))

-- the first line
pub line_first : (rest line after more : List ℕ) → rest ≡ line ++ 10 ∷ after → ((k : ℕ) → k < length line → get_or line k 0 ≢ 10) → slice_get (pieces_of (rest ++ more)) 0 ≡ Some (record { bytes = line; ended = true })
line_first rest line after more h none =
    ap (λ w. slice_get (pieces_of w) 0) (ap (λ w. w ++ more) h ∙ append_assoc line (10 ∷ after) more) ∙ first_piece line (after ++ more) (Lacks-from_get_or 10 line none)

-- the first piece of bytes that do not begin with a newline
record Begun (b : ℕ) (bs : List ℕ) : Type 0 where
  inner : List ℕ
  is_ended : Bool
  pieces : List Piece
  tail : List ℕ
  is_first : pieces_of (b ∷ bs) ≡ record { bytes = b ∷ inner; ended = is_ended } ∷ pieces
  begins : bs ≡ inner ++ tail

begun : (b : ℕ) (bs : List ℕ) → eqb b 10 ≡ false → Begun b bs
begun b [] other = record { inner = []; is_ended = false; pieces = []; tail = []; is_first = rw other refl; begins = refl }
begun b (d ∷ ds) other =
    elim (eqb_tells d 10) [
      | inl is ↦ record { inner = []; is_ended = true; pieces = pieces_of ds; tail = d ∷ ds; is_first = rw (other, is.0) refl; begins = refl }
      | inr differs ↦
          let f = begun d ds differs.0 in
          record { inner = d ∷ f.inner; is_ended = f.is_ended; pieces = f.pieces; tail = f.tail; is_first = rw other (ap (onto_first_piece b) f.is_first); begins = ap (λ w. d ∷ w) f.begins }
    ]

-- it is appended to the bytes before it
past_front : (front more : List ℕ) (p : Piece) (ps : List Piece) → Lacks 10 front → pieces_of more ≡ p ∷ ps → pieces_of (front ++ more) ≡ record { bytes = front ++ p.bytes; ended = p.ended } ∷ ps
past_front [] more p ps none h = h
past_front (b ∷ bs) more p ps none h =
    elim (eqb_tells b 10) [
      | inl is ↦ absurd (none.0 is.1)
      | inr differs ↦ rw differs.0 (ap (onto_first_piece b) (past_front bs more p ps none.1 h))
    ]

not_utf8 : (due : Due) (p : Piece) → (IsUtf8 p.bytes → ⊥) → IsFirstOf (HasDueCause due (Some p)) NotUtf8
not_utf8 the_start p h = record { has_cause = h; first = λ other below c. absurd (omega (arith, below)) }
not_utf8 (a_head table depth) p h = record { has_cause = h; first = λ other below c. absurd (omega (arith, below)) }
not_utf8 (a_key kind keys) p h = record { has_cause = h; first = λ other below c. absurd (omega (arith, below)) }
not_utf8 nothing_more p h = record { has_cause = h; first = λ other below c. absurd (omega (arith, below)) }

module _ (rest : List ℕ) (none : (k : ℕ) → k < length rest → get_or rest k 0 ≢ 10) (utf8 : IsUtf8 rest) where
  -- a line that continues after the front that is UTF-8
  pub not_utf8_first : (more : List ℕ) → 0 < length more → IsLongest rest more → (due : Due) → IsFirstOf (HasDueCause due (slice_get (pieces_of (rest ++ more)) 0)) NotUtf8
  not_utf8_first [] some longest due = absurd (omega (arith, some))
  not_utf8_first (b ∷ bs) some longest due =
      elim (eqb_tells b 10) [
        | inl is ↦ absurd (longest (b ∷ []) bs refl (omega arith) (IsUtf8-append rest (b ∷ []) utf8 (subst (λ n. IsUtf8 (n ∷ [])) (sym is.1) (IsUtf8-word (10 ∷ []) refl))))
        | inr differs ↦
            let f = begun b bs differs.0 in
            let p : Piece = record { bytes = b ∷ f.inner; ended = f.is_ended } in
            subst (λ o. IsFirstOf (HasDueCause due o) NotUtf8) (sym (ap (λ ps. slice_get ps 0) (past_front rest (b ∷ bs) p f.pieces (Lacks-from_get_or 10 rest none) f.is_first)))
            (not_utf8 due (record { bytes = rest ++ b ∷ f.inner; ended = f.is_ended }) (longest (b ∷ f.inner) f.tail (ap (λ w. b ∷ w) f.begins) (omega arith)))
      ]

  -- a line that no newline ends
  pub no_newline_first : (more : List ℕ) → 0 < length rest → length more ≡ 0 → (due : Due) → IsFirstOf (HasDueCause due (slice_get (pieces_of (rest ++ more)) 0)) NoNewline
  no_newline_first [] some nothing due =
      subst (λ o. IsFirstOf (HasDueCause due o) NoNewline) (sym (ap (λ w. slice_get (pieces_of w) 0) (append-nil rest) ∙ ap (λ ps. slice_get ps 0) (pieces_not_cut rest some none))) (first_of (no_newline due rest utf8))
  no_newline_first (b ∷ bs) some nothing due = absurd (omega (arith, nothing))

pub nothing_left : (rest more : List ℕ) → length rest ≡ 0 → length more ≡ 0 → rest ++ more ≡ []
nothing_left [] [] r m = refl
nothing_left [] (b ∷ bs) r m = absurd (omega (arith, m))
nothing_left (b ∷ bs) more r m = absurd (omega (arith, r))

-- what holds for each expected line holds for one
pub at_due : (due : Due) (r : Option Cause) (nothing : Type 0) (P : Due → Cause → Type 0) → MatchOption r nothing (λ cause. (d : Due) → P d cause) → MatchOption r nothing (P due)
at_due due None nothing P h = h
at_due due (Some cause) nothing P h = h due
