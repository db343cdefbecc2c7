-- The first line of a text: the number of wholes, or none.
use Rattle.std.proofs.Common.{◌≡◌, ◌≢◌, ℕ, ◌<◌, ◌^◌, Bool, true, false, not, is_some, Bor, List, [], ◌∷◌, ◌++◌, Option, None, Some, MatchOption, IsUtf8, sym, ap, ◌∙◌, refl, arith, codes}
use Rattle.std.specs.Prelude.{slice_get}
use Rattle.std.specs.Fmt.{decimal}
use Rattle.std.proofs.lemmas.Bool.{false≢true}
use Rattle.std.proofs.lemmas.Fmt.{decimal_injective}
use Rattle.cabinet_text_grammar.specs.Due.{the_start}
use Rattle.cabinet_text_grammar.specs.Fault.{pieces_of, HasDueCause, rank, FirstFault}
use Rattle.cabinet_text_grammar.specs.Reading.{nothing_read}
use Rattle.cabinet_text_grammar.specs.declared.cause.Cause.{Cause}
use Rattle.cabinet_text_grammar.specs.declared.cause.Cause.TheVariants.{BadNumber}
use Rattle.cabinet_text_grammar.proofs.Escapes.{first_same, rest_same}
use Rattle.cabinet_text_grammar.proofs.FirstCauses.{at_reading, bad_wholes}
use Rattle.cabinet_text_grammar.proofs.Lacking.{Lacks, Lacks-tested}
use Rattle.cabinet_text_grammar.proofs.Pieces.{ended_piece}
use Rattle.cabinet_text_grammar.proofs.Steps.{none_read, fault_inside}
use Rattle.cabinet_text_reading.specs.Causes.{IsFirstOf}
use Rattle.cabinet_text_reading.proofs.Causes.{first_of, due_first}

-- a fault of the first line
pub first_line_fault : (text : List ℕ) (cause : Cause) → rank cause < 11 → IsFirstOf (HasDueCause the_start (slice_get (pieces_of text) 0)) cause → FirstFault text 1 cause
first_line_fault text cause low first =
    fault_inside text text nothing_read 1 cause (none_read text) (at_reading nothing_read (slice_get (pieces_of text) 0) cause low (due_first first))

-- a text begins with a word that has no newline: its first line does
line_begins : (word line rest after : List ℕ) → Lacks 10 word → line ++ 10 ∷ after ≡ word ++ rest → (tail : List ℕ) × (line ≡ word ++ tail)
line_begins [] line rest after lacks h = (line, refl)
line_begins (b ∷ word) [] rest after lacks h = absurd (lacks.0 (sym (first_same h)))
line_begins (b ∷ word) (d ∷ line) rest after lacks h =
    let behind = line_begins word line rest after lacks.1 (rest_same h) in
    (behind.0, ap (λ n. n ∷ line) (first_same h) ∙ ap (λ w. b ∷ w) behind.1)

pub wholes_begin : (text line rest after : List ℕ) → text ≡ line ++ 10 ∷ after → text ≡ codes "wholes " ++ rest → (tail : List ℕ) × (line ≡ codes "wholes " ++ tail)
wholes_begin text line rest after parts h = line_begins (codes "wholes ") line rest after (Lacks-tested 10 (codes "wholes ") refl) (sym parts ∙ h)

-- the digits of no number above 0
pub no_count : (digits : List ℕ) (r : Option ℕ) → MatchOption r ((n : ℕ) → n < 2 ^ 64 → digits ≢ decimal n) (λ n. digits ≡ decimal n) → ((m : ℕ) → r ≡ Some m → m ≡ 0) → (n : ℕ) → 0 < n → n < 2 ^ 64 → digits ≢ decimal n
no_count digits None none zero n some fits = none n fits
no_count digits (Some m) is zero n some fits = λ h.
    let same : 0 ≡ n = decimal_injective 0 n (omega arith) fits (sym (ap decimal (zero m refl)) ∙ sym is ∙ h) in
    omega (arith, same, some)

-- the word of the number of wholes and after it none
pub no_header :
    (text line digits : List ℕ) → slice_get (pieces_of text) 0 ≡ ended_piece line → IsUtf8 line
    → line ≡ codes "wholes " ++ digits → ((n : ℕ) → 0 < n → n < 2 ^ 64 → digits ≢ decimal n) → FirstFault text 1 BadNumber
no_header text line digits piece utf8 h none =
    first_line_fault text BadNumber (omega arith) (rw piece (first_of (bad_wholes line utf8 (digits, h, none))))

-- a prefix is looked for, and it is known whether it was found
pub no_word : (bytes prefix : List ℕ) (b : Bool) (r : Option (Bor (List ℕ))) → is_some r ≡ not b → b ≡ true → MatchOption r ((rest : List ℕ) → bytes ≢ prefix ++ rest) (λ rest. bytes ≡ prefix ++ rest.now) → (rest : List ℕ) → bytes ≢ prefix ++ rest
no_word bytes prefix b None e is h = h
no_word bytes prefix b (Some rest) e is h = absurd (false≢true (sym (e ∙ ap not is)))

pub has_word : (bytes prefix : List ℕ) (b : Bool) (r : Option (Bor (List ℕ))) → is_some r ≡ not b → b ≡ false → MatchOption r ((rest : List ℕ) → bytes ≢ prefix ++ rest) (λ rest. bytes ≡ prefix ++ rest.now) → (rest : List ℕ) × (bytes ≡ prefix ++ rest)
has_word bytes prefix b None e is h = absurd (false≢true (e ∙ ap not is))
has_word bytes prefix b (Some rest) e is h = (rest.now, h)
