-- The first fault of a text that is not the text of a document.
use Rattle.std.specs.Prelude.{◌≡◌, ◌≢◌, ℕ, ◌==◌, ◌+◌, ◌<◌, ◌≤◌, ◌^◌, ℤ, Bool, true, false, IsTrue, if◌then◌else◌, List, [], ◌∷◌, ◌++◌, length, Option, Some, None, ◌⊎◌, slice_get, codes, IsUtf8, FitsSigned}
use Rattle.std.specs.Int.{w64}
use Rattle.std.specs.Fmt.{decimal, signed_decimal}
use Rattle.cabinet_text_grammar.specs.Keys.{MapKind, ordered, hashed, kept, MayFollow}
use Rattle.cabinet_text_grammar.specs.Tree.{Tree}
use Rattle.cabinet_text_grammar.specs.Wholes.{has, wholes_of, IsDocument}
use Rattle.cabinet_text_grammar.specs.Item.{Item, key_item, whole_item, document_items}
use Rattle.cabinet_text_grammar.specs.Due.{Due, the_start, a_head, a_key, nothing_more, AdmitsHead, Admits}
use Rattle.cabinet_text_grammar.specs.Machine.{complete, step}
use Rattle.cabinet_text_grammar.specs.Reading.{Reading, items_of_reading, IsReading, due_at, Stage, reading, read, nowhere}
use Rattle.cabinet_text_grammar.specs.Spelling.{escaped, spelled, lines_of, ended}
use Rattle.cabinet_text_grammar.specs.Memory.{TakesMemory}
use Rattle.cabinet_text_grammar.specs.declared.cause.Cause.{Cause}
use Rattle.cabinet_text_grammar.specs.declared.cause.Cause.TheVariants.{NotUtf8, NoNewline, EndTooEarly, KeyExpected, BadEscape, KeyOrder, KeyRepeated, UnknownHead, BadNumber, UnknownWhole, TooDeep, RepeatedWhole, WholeOrder, LineAfterEnd, OutOfMemory}

-- a line of a text, and whether a newline ends it
pub record Piece : Type 0 where
  pub bytes : List ℕ
  pub ended : Bool

abbrev pub onto_first_piece : ℕ → List Piece → List Piece
onto_first_piece b [] = record { bytes = b ∷ []; ended = false } ∷ []
onto_first_piece b (p ∷ ps) = record { bytes = b ∷ p.bytes; ended = p.ended } ∷ ps

-- a text, cut after its newlines
abbrev pub pieces_of : List ℕ → List Piece
pieces_of [] = []
pieces_of (b ∷ bs) = if b == 10 then record { bytes = []; ended = true } ∷ pieces_of bs else onto_first_piece b (pieces_of bs)

-- what some lines of a text lead to: none or some of a document's, or all of them
pub data Reached (lines : List (List ℕ)) (stage : Stage) : Type 0 where
  inside : (r : Reading) → IsReading r → lines ≡ lines_of (items_of_reading r) → stage ≡ reading r → Reached lines stage
  after_a_document : (t : Tree) → IsDocument t → lines ≡ lines_of (document_items t) → stage ≡ read (wholes_of t) t → Reached lines stage

-- a word, and after it bytes that are the escaped form of no text
abbrev pub HasBadText : List ℕ → List ℕ → Type 0
HasBadText word line = (rest : List ℕ) × (line ≡ word ++ rest) × ((t : List ℕ) → IsUtf8 t → rest ≢ escaped t)

abbrev pub HasBadEscape : List ℕ → Type 0
HasBadEscape line = HasBadText (codes "text '") line ⊎ HasBadText (codes "shared '") line

-- the word of a count or of a whole's number, and `rest` after it
abbrev pub HasCount : List ℕ → List ℕ → Type 0
HasCount line rest =
    (line ≡ codes "list " ++ rest)
    ⊎ ((line ≡ codes "ordered " ++ rest)
    ⊎ ((line ≡ codes "hashed " ++ rest) ⊎ ((line ≡ codes "kept " ++ rest) ⊎ (line ≡ codes "whole " ++ rest))))

-- the head of a node, wherever it is allowed
abbrev pub IsHead : Item → Type 0
IsHead (whole_item n) = n < 2 ^ 64
IsHead i = AdmitsHead [] 0 i

-- neither the head of a node nor the word of a number or a count with something after it
pub record IsUnknownHead (line : List ℕ) : Type 0 where
  pub no_head : (i : Item) → IsHead i → line ≢ spelled i
  pub no_number : (rest : List ℕ) → line ≢ codes "int " ++ rest
  pub no_count : (rest : List ℕ) → HasCount line rest → ⊥

-- the word of a number and after it no number, or the word of a count and after it no count
pub data HasBadNumber (line : List ℕ) : Type 0 where
  bad_number :
      (rest : List ℕ)
      → line ≡ codes "int " ++ rest
      → ((n : ℤ) → FitsSigned w64 n → rest ≢ signed_decimal n)
      → HasBadNumber line
  bad_count :
      (rest : List ℕ)
      → HasCount line rest
      → ((n : ℕ) → n < 2 ^ 64 → rest ≢ decimal n)
      → HasBadNumber line

-- the number of a whole that is not complete, or is none of the document's
abbrev pub HasUnknownWhole : List Tree → List ℕ → Type 0
HasUnknownWhole table line = (n : ℕ) × (n < 2 ^ 64) × (line ≡ spelled (whole_item n)) × (length table ≤ n)

-- a head that is allowed inside no container, but not inside `around`
abbrev pub IsTooDeep : List Tree → ℕ → List ℕ → Type 0
IsTooDeep table around line = (i : Item) × AdmitsHead table 0 i × (line ≡ spelled i) × (AdmitsHead table around i → ⊥)

-- a key that may not follow those before it
abbrev pub IsWrongKey : MapKind → List (List ℕ) → List ℕ → Type 0
IsWrongKey kind keys line = (k : List ℕ) × IsUtf8 k × (line ≡ spelled (key_item k)) × (MayFollow kind keys k → ⊥)

abbrev pub BreaksOrder : MapKind → List (List ℕ) → List ℕ → Type 0
BreaksOrder ordered keys line = IsWrongKey ordered keys line
BreaksOrder hashed keys line = IsWrongKey hashed keys line
BreaksOrder kept keys line = ⊥

abbrev pub RepeatsKey : MapKind → List (List ℕ) → List ℕ → Type 0
RepeatsKey ordered keys line = ⊥
RepeatsKey hashed keys line = ⊥
RepeatsKey kept keys line = IsWrongKey kept keys line

-- a head that is allowed inside `around` containers, and takes memory there
abbrev pub HeadTakesMemory : List Tree → ℕ → List ℕ → Type 0
HeadTakesMemory table around line = (i : Item) × AdmitsHead table around i × (line ≡ spelled i) × TakesMemory around i

-- the causes that apply to a head
abbrev pub HasHeadCause : List Tree → ℕ → Option Piece → Cause → Type 0
HasHeadCause table around None EndTooEarly = Unit {0}
HasHeadCause table around (Some p) NotUtf8 = IsUtf8 p.bytes → ⊥
HasHeadCause table around (Some p) NoNewline = p.ended ≡ false
HasHeadCause table around (Some p) BadEscape = HasBadEscape p.bytes
HasHeadCause table around (Some p) UnknownHead = IsUnknownHead p.bytes
HasHeadCause table around (Some p) BadNumber = HasBadNumber p.bytes
HasHeadCause table around (Some p) UnknownWhole = HasUnknownWhole table p.bytes
HasHeadCause table around (Some p) TooDeep = IsTooDeep table around p.bytes
HasHeadCause table around (Some p) OutOfMemory = HeadTakesMemory table around p.bytes
HasHeadCause table around _ _ = ⊥

-- the word of the number of wholes and after it no such number
abbrev pub HasBadWholes : List ℕ → Type 0
HasBadWholes line = (rest : List ℕ) × (line ≡ codes "wholes " ++ rest) × ((n : ℕ) → 0 < n → n < 2 ^ 64 → rest ≢ decimal n)

-- The causes that apply to the next piece of a text, by what is expected there; None: the input has ended. Memory may
-- be refused at each head that takes some, and at each key.
abbrev pub HasDueCause : Due → Option Piece → Cause → Type 0
HasDueCause the_start (Some p) UnknownHead = IsUnknownHead p.bytes × ((rest : List ℕ) → p.bytes ≢ codes "wholes " ++ rest)
HasDueCause the_start (Some p) BadNumber = HasBadNumber p.bytes ⊎ HasBadWholes p.bytes
HasDueCause the_start piece cause = HasHeadCause [] 0 piece cause
HasDueCause (a_head table around) piece cause = HasHeadCause table around piece cause
HasDueCause (a_key kind keys) None EndTooEarly = Unit {0}
HasDueCause (a_key kind keys) (Some p) NotUtf8 = IsUtf8 p.bytes → ⊥
HasDueCause (a_key kind keys) (Some p) NoNewline = p.ended ≡ false
HasDueCause (a_key kind keys) (Some p) KeyExpected = (rest : List ℕ) → p.bytes ≢ codes "'" ++ rest
HasDueCause (a_key kind keys) (Some p) BadEscape = HasBadText (codes "'") p.bytes
HasDueCause (a_key kind keys) (Some p) KeyOrder = BreaksOrder kind keys p.bytes
HasDueCause (a_key kind keys) (Some p) KeyRepeated = RepeatsKey kind keys p.bytes
HasDueCause (a_key kind keys) (Some p) OutOfMemory = Unit {0}
HasDueCause nothing_more (Some p) NotUtf8 = IsUtf8 p.bytes → ⊥
HasDueCause nothing_more (Some p) NoNewline = p.ended ≡ false
HasDueCause nothing_more (Some p) LineAfterEnd = Unit {0}
HasDueCause _ _ _ = ⊥

-- the line of an item that is allowed next and completes a tree
abbrev pub Completes : Reading → List ℕ → Tree → Type 0
Completes r line t = (i : Item) × Admits (due_at r) i × (line ≡ spelled i) × (step r.table r.stack i ≡ complete t)

-- it completes the tree of a whole, which an earlier whole has
abbrev pub RepeatsWhole : Reading → List ℕ → Type 0
RepeatsWhole r line = (t : Tree) × Completes r line t × (0 < r.lacking) × IsTrue (has r.table t)

-- it completes the root, whose wholes are not those that were read, in their order
abbrev pub BreaksWholeOrder : Reading → List ℕ → Type 0
BreaksWholeOrder r line = (t : Tree) × Completes r line t × (r.lacking ≡ 0) × (wholes_of t ≢ r.table)

abbrev pub HasCause : Stage → Option Piece → Cause → Type 0
HasCause (reading r) (Some p) RepeatedWhole = RepeatsWhole r p.bytes
HasCause (reading r) (Some p) WholeOrder = BreaksWholeOrder r p.bytes
HasCause (reading r) piece cause = HasDueCause (due_at r) piece cause
HasCause (read table t) piece cause = HasDueCause nothing_more piece cause
HasCause nowhere piece cause = ⊥

-- the order in which causes are checked
abbrev pub rank : Cause → ℕ
rank NotUtf8 = 0
rank NoNewline = 1
rank EndTooEarly = 2
rank KeyExpected = 3
rank BadEscape = 4
rank KeyOrder = 5
rank KeyRepeated = 6
rank UnknownHead = 7
rank BadNumber = 8
rank UnknownWhole = 9
rank TooDeep = 10
rank RepeatedWhole = 11
rank WholeOrder = 12
rank LineAfterEnd = 13
rank OutOfMemory = 14

-- the first cause of all that apply
pub record IsFirstCause (stage : Stage) (piece : Option Piece) (cause : Cause) : Type 0 where
  pub has_cause : HasCause stage piece cause
  pub first : (other : Cause) → rank other < rank cause → HasCause stage piece other → ⊥

-- The first faulty line, counted from 1, and its first cause: the lines before it determine what is expected next, and
-- the cause applies to the piece there.
pub record FirstFault (input : List ℕ) (line : ℕ) (cause : Cause) : Type 0 where
  pub before : List (List ℕ)
  pub rest : List ℕ
  pub stage : Stage
  pub input_is : input ≡ ended before ++ rest
  pub reached : Reached before stage
  pub line_is : line ≡ length before + 1
  pub first : IsFirstCause stage (slice_get (pieces_of rest) 0) cause
