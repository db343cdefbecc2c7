-- The causes that apply to the line of an item that is allowed there, and the laws of first faults.
use Rattle.std.proofs.Common.{◌≡◌, ◌≢◌, ℕ, zero, suc, ◌+◌, ◌<◌, ◌^◌, List, [], ◌∷◌, ◌++◌, length, Option, None, IsUtf8, sym, ap, ◌∙◌, refl, inl, inr, subst, arith, codes, append-nil, length-append}
use Rattle.std.specs.Prelude.{IsTrue, if◌then◌else◌, ◌==◌, slice_get}
use Rattle.std.specs.Fmt.{decimal}
use Rattle.std.specs.Str.Parse.{digits_value}
use Rattle.std.proofs.lemmas.List.{append_cancel_left}
use Rattle.std.proofs.lemmas.Bool.{false≢true, cases_order}
use Rattle.cabinet_text_grammar.specs.Keys.{MapKind, ordered, hashed, kept, MayFollow}
use Rattle.cabinet_text_grammar.specs.Tree.{Tree, leaf, shared, nothing, just, list, whole, no_trees, more_trees, no_pairs, more_pairs, truth, number, text}
use Rattle.cabinet_text_grammar.specs.Tree as tree
use Rattle.cabinet_text_grammar.specs.Wholes.{has, wholes_of, IsDocument}
use Rattle.cabinet_text_grammar.specs.Item.{Item, leaf_item, shared_item, none_item, some_item, list_item, map_item, key_item, whole_item, wholes_item, whole_head, document_items}
use Rattle.cabinet_text_grammar.specs.Due.{Due, the_start, a_head, a_key, nothing_more, AdmitsHead, Admits}
use Rattle.cabinet_text_grammar.specs.Machine.{step}
use Rattle.cabinet_text_grammar.specs.Reading.{Reading, nothing_read, items_of_reading, due_at, Stage, reading, read, IsNew, Suits}
use Rattle.cabinet_text_grammar.specs.Spelling.{ended, escaped, spelled, lines_of, text_of}
use Rattle.cabinet_text_grammar.specs.Memory.{TakesMemory, TextTakesMemory}
use Rattle.cabinet_text_grammar.specs.Fault.{Piece, pieces_of, Reached, inside, after_a_document, IsHead, HasUnknownWhole, BreaksOrder, RepeatsKey, HasHeadCause, HasDueCause, Completes, HasCause, rank, IsFirstCause, FirstFault}
use Rattle.cabinet_text_grammar.specs.Laws.{SameFault}
use Rattle.cabinet_text_grammar.specs.declared.cause.Cause.{Cause}
use Rattle.cabinet_text_grammar.specs.declared.cause.Cause.TheVariants.{NotUtf8, NoNewline, EndTooEarly, KeyExpected, BadEscape, KeyOrder, KeyRepeated, UnknownHead, BadNumber, UnknownWhole, TooDeep, RepeatedWhole, WholeOrder, LineAfterEnd, OutOfMemory}
use Rattle.cabinet_text_grammar.proofs.ReadBack.{IsItem, item_of_line, read_back, same_item, no_bad_escape, no_bad_number, no_bad_wholes}
use Rattle.cabinet_text_grammar.proofs.Pieces.{ended_piece, first_piece}
use Rattle.cabinet_text_grammar.proofs.Cuts.{HaveNoNewline, HasNoNewline-among, Cuts, one_cut, first_before, first_after, cuts_of, no_line}
use Rattle.cabinet_text_grammar.proofs.Tables.{below_numbered}
use Rattle.cabinet_text_grammar.proofs.Stages.{IsLegalStage, takes, same_document, same_reading, reading_or_document, ends_on, no_more, no_more_tree}
use Rattle.cabinet_text_grammar.proofs.Stages as stages
use Rattle.cabinet_text_grammar.proofs.LegalStages.{allowed}
use Rattle.cabinet_text_grammar.proofs.Start.{HasNoWholes, from_start}
use Rattle.cabinet_text_grammar.proofs.Spelled.{AreItems, AreItems-reading, AreItems-document, HaveNoNewline-items, IsUtf8-item, same_items}
use Rattle.cabinet_text_grammar.proofs.Spelled as lines

pub admitted_item : (table : List Tree) (around : ℕ) (i : Item) → AdmitsHead table around i → IsItem i
admitted_item table around (leaf_item l) p = p
admitted_item table around (shared_item t) p = p
admitted_item table around none_item p = tt
admitted_item table around some_item p = tt
admitted_item table around (list_item n) p = p.0
admitted_item table around (map_item kind n) p = p.0
admitted_item table around (key_item k) p = absurd p
admitted_item table around (whole_item n) p = p.0
admitted_item table around (wholes_item n) p = absurd p
admitted_item table around whole_head p = absurd p

pub head_item : (i : Item) → IsHead i → IsItem i
head_item (leaf_item l) p = p
head_item (shared_item t) p = p
head_item none_item p = tt
head_item some_item p = tt
head_item (list_item n) p = p.0
head_item (map_item kind n) p = p.0
head_item (key_item k) p = absurd p
head_item (whole_item n) p = p
head_item (wholes_item n) p = absurd p
head_item whole_head p = absurd p

-- an item that is allowed inside containers is a head
pub admitted_head : (table : List Tree) (around : ℕ) (i : Item) → AdmitsHead table around i → IsHead i
admitted_head table around (leaf_item l) p = p
admitted_head table around (shared_item t) p = p
admitted_head table around none_item p = omega arith
admitted_head table around some_item p = omega arith
admitted_head table around (list_item n) p = (p.0, omega arith)
admitted_head table around (map_item kind n) p = (p.0, omega arith)
admitted_head table around (key_item k) p = absurd p
admitted_head table around (whole_item n) p = p.0
admitted_head table around (wholes_item n) p = absurd p
admitted_head table around whole_head p = absurd p

number_of : Item → ℕ
number_of (whole_item n) = n
number_of _ = 0

pub no_unknown_whole : (table : List Tree) (i : Item) (around : ℕ) → AdmitsHead table around i → HasUnknownWhole table (spelled i) → ⊥
no_unknown_whole table i around p (n, below, h, above) =
    at (subst (AdmitsHead table around) (same_item i (whole_item n) (admitted_item table around i p) below h) p)
  where
    at : AdmitsHead table around (whole_item n) → ⊥
    at q = omega (arith, above, below_numbered table n q.1.0 q.1.1)

head_blameless : (table : List Tree) (around : ℕ) (i : Item) → AdmitsHead table around i → (cause : Cause) → cause ≢ OutOfMemory → HasHeadCause table around (ended_piece (spelled i)) cause → ⊥
head_blameless table around i p NotUtf8 other b = b (IsUtf8-item i (admitted_item table around i p))
head_blameless table around i p NoNewline other b = false≢true (sym b)
head_blameless table around i p EndTooEarly other b = b
head_blameless table around i p KeyExpected other b = b
head_blameless table around i p BadEscape other b = no_bad_escape i (admitted_item table around i p) b
head_blameless table around i p KeyOrder other b = b
head_blameless table around i p KeyRepeated other b = b
head_blameless table around i p UnknownHead other b = b.no_head i (admitted_head table around i p) refl
head_blameless table around i p BadNumber other b = no_bad_number i (admitted_item table around i p) b
head_blameless table around i p UnknownWhole other b = no_unknown_whole table i around p b
head_blameless table around i p TooDeep other (j, q, h, not_here) =
    not_here (subst (AdmitsHead table around) (same_item i j (admitted_item table around i p) (admitted_item table 0 j q) h) p)
head_blameless table around i p RepeatedWhole other b = b
head_blameless table around i p WholeOrder other b = b
head_blameless table around i p LineAfterEnd other b = b
head_blameless table around i p OutOfMemory other b = other refl

key_of : Item → List ℕ
key_of (key_item k) = k
key_of _ = []

wrong_key : (kind : MapKind) (keys : List (List ℕ)) (k l : List ℕ) → IsUtf8 k → MayFollow kind keys k → IsUtf8 l → spelled (key_item k) ≡ spelled (key_item l) → (MayFollow kind keys l → ⊥) → ⊥
unfolding key_of
wrong_key kind keys k l p follows q h wrong = wrong (subst (MayFollow kind keys) (ap key_of (same_item (key_item k) (key_item l) p q h)) follows)

breaks_order : (kind : MapKind) (keys : List (List ℕ)) (k : List ℕ) → IsUtf8 k → MayFollow kind keys k → BreaksOrder kind keys (spelled (key_item k)) → ⊥
breaks_order ordered keys k p follows b = wrong_key ordered keys k b.0 p follows b.1 b.2 b.3
breaks_order hashed keys k p follows b = wrong_key hashed keys k b.0 p follows b.1 b.2 b.3
breaks_order kept keys k p follows b = b

repeats : (kind : MapKind) (keys : List (List ℕ)) (k : List ℕ) → IsUtf8 k → MayFollow kind keys k → RepeatsKey kind keys (spelled (key_item k)) → ⊥
repeats ordered keys k p follows b = b
repeats hashed keys k p follows b = b
repeats kept keys k p follows b = wrong_key kept keys k b.0 p follows b.1 b.2 b.3

key_blameless : (kind : MapKind) (keys : List (List ℕ)) (k : List ℕ) → IsUtf8 k → MayFollow kind keys k → (cause : Cause) → cause ≢ OutOfMemory → HasDueCause (a_key kind keys) (ended_piece (spelled (key_item k))) cause → ⊥
key_blameless kind keys k p follows NotUtf8 other b = b (IsUtf8-item (key_item k) p)
key_blameless kind keys k p follows NoNewline other b = false≢true (sym b)
key_blameless kind keys k p follows EndTooEarly other b = b
key_blameless kind keys k p follows KeyExpected other b = b (escaped k) refl
key_blameless kind keys k p follows BadEscape other b = b.2 k p (sym (append_cancel_left (codes "'") _ _ b.1))
key_blameless kind keys k p follows KeyOrder other b = breaks_order kind keys k p follows b
key_blameless kind keys k p follows KeyRepeated other b = repeats kind keys k p follows b
key_blameless kind keys k p follows UnknownHead other b = b
key_blameless kind keys k p follows BadNumber other b = b
key_blameless kind keys k p follows UnknownWhole other b = b
key_blameless kind keys k p follows TooDeep other b = b
key_blameless kind keys k p follows RepeatedWhole other b = b
key_blameless kind keys k p follows WholeOrder other b = b
key_blameless kind keys k p follows LineAfterEnd other b = b
key_blameless kind keys k p follows OutOfMemory other b = other refl

-- an item that is allowed somewhere
pub due_item : (due : Due) (i : Item) → Admits due i → IsItem i
due_item the_start (leaf_item l) p = p
due_item the_start (shared_item t) p = p
due_item the_start none_item p = tt
due_item the_start some_item p = tt
due_item the_start (list_item n) p = p.0
due_item the_start (map_item kind n) p = p.0
due_item the_start (key_item k) p = absurd p
due_item the_start (whole_item n) p = p.0
due_item the_start (wholes_item n) p = p.1
due_item the_start whole_head p = absurd p
due_item (a_head table around) i p = admitted_item table around i p
due_item (a_key kind keys) (key_item k) p = p.0
due_item (a_key kind keys) (leaf_item l) p = absurd p
due_item (a_key kind keys) (shared_item t) p = absurd p
due_item (a_key kind keys) none_item p = absurd p
due_item (a_key kind keys) some_item p = absurd p
due_item (a_key kind keys) (list_item n) p = absurd p
due_item (a_key kind keys) (map_item k n) p = absurd p
due_item (a_key kind keys) (whole_item n) p = absurd p
due_item (a_key kind keys) (wholes_item n) p = absurd p
due_item (a_key kind keys) whole_head p = absurd p
due_item nothing_more i p = absurd p

-- a head is not the number of wholes
wholes_line : (i : Item) → IsItem i → (rest : List ℕ) → spelled i ≡ codes "wholes " ++ rest → i ≡ wholes_item (digits_value 10 rest)
unfolding item_of_line
wholes_line i p rest h = sym (read_back i p) ∙ ap item_of_line h

pub no_wholes : (table : List Tree) (around : ℕ) (i : Item) → AdmitsHead table around i → HasNoWholes (spelled i)
no_wholes table around i p rest h = subst (AdmitsHead table around) (wholes_line i (admitted_item table around i p) rest h) p

not_whole : (n m : ℕ) → wholes_item n ≡ whole_item m → ⊥
not_whole n m h = cc

wholes_blameless : (n : ℕ) → 0 < n → n < 2 ^ 64 → (cause : Cause) → cause ≢ OutOfMemory → HasDueCause the_start (ended_piece (spelled (wholes_item n))) cause → ⊥
wholes_blameless n some below NotUtf8 other b = b (IsUtf8-item (wholes_item n) below)
wholes_blameless n some below NoNewline other b = false≢true (sym b)
wholes_blameless n some below EndTooEarly other b = b
wholes_blameless n some below KeyExpected other b = b
wholes_blameless n some below BadEscape other b = no_bad_escape (wholes_item n) below b
wholes_blameless n some below KeyOrder other b = b
wholes_blameless n some below KeyRepeated other b = b
wholes_blameless n some below UnknownHead other b = b.1 (decimal n) refl
wholes_blameless n some below BadNumber other b = elim b [
  | inl bad ↦ no_bad_number (wholes_item n) below bad
  | inr wholes ↦ no_bad_wholes n some below wholes
]
wholes_blameless n some below UnknownWhole other b = not_whole n b.0 (same_item (wholes_item n) (whole_item b.0) below b.1 b.2)
wholes_blameless n some below TooDeep other b = subst (AdmitsHead [] 0) (sym (same_item (wholes_item n) b.0 below (admitted_item [] 0 b.0 b.1) b.2)) b.1
wholes_blameless n some below RepeatedWhole other b = b
wholes_blameless n some below WholeOrder other b = b
wholes_blameless n some below LineAfterEnd other b = b
wholes_blameless n some below OutOfMemory other b = other refl

start_blameless : (i : Item) → AdmitsHead [] 0 i → (cause : Cause) → cause ≢ OutOfMemory → HasDueCause the_start (ended_piece (spelled i)) cause → ⊥
start_blameless i p cause other b = head_blameless [] 0 i p cause other (from_start (spelled i) (no_wholes [] 0 i p) cause b)

-- no cause except OutOfMemory applies to the line of an item that is allowed there
pub due_blameless : (due : Due) (i : Item) → Admits due i → (cause : Cause) → cause ≢ OutOfMemory → HasDueCause due (ended_piece (spelled i)) cause → ⊥
due_blameless the_start (wholes_item n) p cause other b = wholes_blameless n p.0 p.1 cause other b
due_blameless the_start (leaf_item l) p cause other b = start_blameless (leaf_item l) p cause other b
due_blameless the_start (shared_item t) p cause other b = start_blameless (shared_item t) p cause other b
due_blameless the_start none_item p cause other b = start_blameless none_item p cause other b
due_blameless the_start some_item p cause other b = start_blameless some_item p cause other b
due_blameless the_start (list_item n) p cause other b = start_blameless (list_item n) p cause other b
due_blameless the_start (map_item kind n) p cause other b = start_blameless (map_item kind n) p cause other b
due_blameless the_start (whole_item n) p cause other b = start_blameless (whole_item n) p cause other b
due_blameless the_start (key_item k) p cause other b = absurd p
due_blameless the_start whole_head p cause other b = absurd p
due_blameless (a_head table around) i p cause other b = head_blameless table around i p cause other b
due_blameless (a_key kind keys) (key_item k) p cause other b = key_blameless kind keys k p.0 p.1 cause other b
due_blameless (a_key kind keys) (leaf_item l) p cause other b = absurd p
due_blameless (a_key kind keys) (shared_item t) p cause other b = absurd p
due_blameless (a_key kind keys) none_item p cause other b = absurd p
due_blameless (a_key kind keys) some_item p cause other b = absurd p
due_blameless (a_key kind keys) (list_item n) p cause other b = absurd p
due_blameless (a_key kind keys) (map_item k n) p cause other b = absurd p
due_blameless (a_key kind keys) (whole_item n) p cause other b = absurd p
due_blameless (a_key kind keys) (wholes_item n) p cause other b = absurd p
due_blameless (a_key kind keys) whole_head p cause other b = absurd p
due_blameless nothing_more i p cause other b = absurd p

repeated : (lacking : ℕ) (table : List Tree) (t : Tree) → IsNew lacking table t → 0 < lacking → IsTrue (has table t) → ⊥
repeated zero table t new some there = omega (arith, some)
repeated (suc lacking) table t new some there = false≢true (sym new ∙ there)

disordered : (lacking : ℕ) (table : List Tree) (t : Tree) → IsNew lacking table t → lacking ≡ 0 → wholes_of t ≢ table → ⊥
disordered zero table t new none differs = differs new
disordered (suc lacking) table t new none differs = absurd (omega (arith, none))

-- the tree that the line of an item completes is the one that the item completes
new_tree : (r : Reading) (i : Item) (t : Tree) → Admits (due_at r) i → Suits r (step r.table r.stack i) → Completes r (spelled i) t → IsNew r.lacking r.table t
new_tree r i t p suits (j, q, h, done) =
    subst (Suits r) (ap (step r.table r.stack) (same_item i j (due_item (due_at r) i p) (due_item (due_at r) j q) h) ∙ done) suits

pub blameless : (r : Reading) (i : Item) → Admits (due_at r) i → Suits r (step r.table r.stack i) → (cause : Cause) → cause ≢ OutOfMemory → HasCause (reading r) (ended_piece (spelled i)) cause → ⊥
blameless r i p suits RepeatedWhole other b = repeated r.lacking r.table b.0 (new_tree r i b.0 p suits b.1) b.2 b.3
blameless r i p suits WholeOrder other b = disordered r.lacking r.table b.0 (new_tree r i b.0 p suits b.1) b.2 b.3
blameless r i p suits NotUtf8 other b = due_blameless (due_at r) i p NotUtf8 other b
blameless r i p suits NoNewline other b = due_blameless (due_at r) i p NoNewline other b
blameless r i p suits EndTooEarly other b = due_blameless (due_at r) i p EndTooEarly other b
blameless r i p suits KeyExpected other b = due_blameless (due_at r) i p KeyExpected other b
blameless r i p suits BadEscape other b = due_blameless (due_at r) i p BadEscape other b
blameless r i p suits KeyOrder other b = due_blameless (due_at r) i p KeyOrder other b
blameless r i p suits KeyRepeated other b = due_blameless (due_at r) i p KeyRepeated other b
blameless r i p suits UnknownHead other b = due_blameless (due_at r) i p UnknownHead other b
blameless r i p suits BadNumber other b = due_blameless (due_at r) i p BadNumber other b
blameless r i p suits UnknownWhole other b = due_blameless (due_at r) i p UnknownWhole other b
blameless r i p suits TooDeep other b = due_blameless (due_at r) i p TooDeep other b
blameless r i p suits LineAfterEnd other b = due_blameless (due_at r) i p LineAfterEnd other b
blameless r i p suits OutOfMemory other b = due_blameless (due_at r) i p OutOfMemory other b

pub nothing_after : (table : List Tree) (t : Tree) (cause : Cause) → HasCause (read table t) None cause → ⊥
nothing_after table t NotUtf8 b = b
nothing_after table t NoNewline b = b
nothing_after table t EndTooEarly b = b
nothing_after table t KeyExpected b = b
nothing_after table t BadEscape b = b
nothing_after table t KeyOrder b = b
nothing_after table t KeyRepeated b = b
nothing_after table t UnknownHead b = b
nothing_after table t BadNumber b = b
nothing_after table t UnknownWhole b = b
nothing_after table t TooDeep b = b
nothing_after table t RepeatedWhole b = b
nothing_after table t WholeOrder b = b
nothing_after table t LineAfterEnd b = b
nothing_after table t OutOfMemory b = b

-- causes of the same rank are the same
cause_of : ℕ → Cause
cause_of n =
    if n == 0 then NotUtf8 else (if n == 1 then NoNewline else (if n == 2 then EndTooEarly else (if n == 3 then KeyExpected else (if n == 4 then BadEscape else (if n == 5 then KeyOrder else (if n == 6 then KeyRepeated else (if n == 7 then UnknownHead else (if n == 8 then BadNumber else (if n == 9 then UnknownWhole else (if n == 10 then TooDeep else (if n == 11 then RepeatedWhole else (if n == 12 then WholeOrder else (if n == 13 then LineAfterEnd else (OutOfMemory))))))))))))))

cause_of-rank : (cause : Cause) → cause_of (rank cause) ≡ cause
unfolding cause_of
cause_of-rank NotUtf8 = refl
cause_of-rank NoNewline = refl
cause_of-rank EndTooEarly = refl
cause_of-rank KeyExpected = refl
cause_of-rank BadEscape = refl
cause_of-rank KeyOrder = refl
cause_of-rank KeyRepeated = refl
cause_of-rank UnknownHead = refl
cause_of-rank BadNumber = refl
cause_of-rank UnknownWhole = refl
cause_of-rank TooDeep = refl
cause_of-rank RepeatedWhole = refl
cause_of-rank WholeOrder = refl
cause_of-rank LineAfterEnd = refl
cause_of-rank OutOfMemory = refl

same_rank : (cause reason : Cause) → rank cause ≡ rank reason → cause ≡ reason
same_rank cause reason h = sym (cause_of-rank cause) ∙ ap cause_of h ∙ cause_of-rank reason

pub same_first_cause : (stage : Stage) (piece : Option Piece) (cause reason : Cause) → IsFirstCause stage piece cause → IsFirstCause stage piece reason → cause ≡ reason
same_first_cause stage piece cause reason a b =
    elim (cases_order (rank cause) (rank reason)) [
      | inl same ↦ same_rank cause reason same
      | inr apart ↦ elim apart [
        | inl before ↦ absurd (b.first cause before a.has_cause)
        | inr after ↦ absurd (a.first reason after b.has_cause)
      ]
    ]

HaveNoNewline-reached : (ls : List (List ℕ)) (stage : Stage) → Reached ls stage → HaveNoNewline ls
HaveNoNewline-reached ls stage (inside r is lines_are stage_is) = subst HaveNoNewline (sym lines_are) (HaveNoNewline-items (items_of_reading r) (AreItems-reading r is))
HaveNoNewline-reached ls stage (after_a_document t doc lines_are stage_is) = subst HaveNoNewline (sym lines_are) (HaveNoNewline-items (document_items t) (AreItems-document t doc))

-- a line after which a text continues
blameless_line : (xs ys : List (List ℕ)) (stage later : Stage) (line : List ℕ) (more : List (List ℕ)) (cause : Cause) → Reached xs stage → Reached ys later → ys ≡ xs ++ line ∷ more → cause ≢ OutOfMemory → HasCause stage (ended_piece line) cause → ⊥
blameless_line xs ys stage later line more cause (inside r is are stage_is) (inside q it they later_is) h other b =
    let on = lines.goes_on (items_of_reading r) (items_of_reading q) line more (AreItems-reading r is) (AreItems-reading q it) (sym they ∙ h ∙ ap (λ w. w ++ line ∷ more) are) in
    let led : takes (reading r) (on.next ∷ on.more) ≡ reading q = stages.goes_on r q (on.next ∷ on.more) is it on.items_are in
    let may = allowed r on.next on.more (subst IsLegalStage (sym led) it) in
    let at = subst (λ s. HasCause s (ended_piece line) cause) stage_is b in
    blameless r on.next may.admitted may.suits cause other (subst (λ l. HasCause (reading r) (ended_piece l) cause) on.line_is at)
blameless_line xs ys stage later line more cause (inside r is are stage_is) (after_a_document t doc they later_is) h other b =
    let on = lines.goes_on (items_of_reading r) (document_items t) line more (AreItems-reading r is) (AreItems-document t doc) (sym they ∙ h ∙ ap (λ w. w ++ line ∷ more) are) in
    let led : takes (reading r) (on.next ∷ on.more) ≡ read (wholes_of t) t = ends_on r t (on.next ∷ on.more) is on.items_are in
    let may = allowed r on.next on.more (subst IsLegalStage (sym led) (doc, refl)) in
    let at = subst (λ s. HasCause s (ended_piece line) cause) stage_is b in
    blameless r on.next may.admitted may.suits cause other (subst (λ l. HasCause (reading r) (ended_piece l) cause) on.line_is at)
blameless_line xs ys stage later line more cause (after_a_document t doc are stage_is) (inside q it they later_is) h other b =
    let on = lines.goes_on (document_items t) (items_of_reading q) line more (AreItems-document t doc) (AreItems-reading q it) (sym they ∙ h ∙ ap (λ w. w ++ line ∷ more) are) in
    no_more t q on.next on.more it on.items_are
blameless_line xs ys stage later line more cause (after_a_document t doc are stage_is) (after_a_document s other_doc they later_is) h other b =
    let on = lines.goes_on (document_items t) (document_items s) line more (AreItems-document t doc) (AreItems-document s other_doc) (sym they ∙ h ∙ ap (λ w. w ++ line ∷ more) are) in
    no_more_tree t s on.next on.more on.items_are

-- and no cause applies to the text that begins with it
blameless_text : (xs ys : List (List ℕ)) (stage later : Stage) (line : List ℕ) (more : List (List ℕ)) (r rest : List ℕ) (cause : Cause) → Reached xs stage → Reached ys later → ys ≡ xs ++ line ∷ more → r ≡ line ++ 10 ∷ rest → cause ≢ OutOfMemory → HasCause stage (slice_get (pieces_of r) 0) cause → ⊥
blameless_text xs ys stage later line more r rest cause here there h text_is other b =
    let none = HasNoNewline-among xs line more (subst HaveNoNewline h (HaveNoNewline-reached ys later there)) in
    let piece : slice_get (pieces_of r) 0 ≡ ended_piece line = ap (λ w. slice_get (pieces_of w) 0) text_is ∙ first_piece line rest none in
    blameless_line xs ys stage later line more cause here there h other (subst (λ p. HasCause stage p cause) piece b)

-- some lines lead to one stage
same_stage : (ls : List (List ℕ)) (stage other : Stage) → Reached ls stage → Reached ls other → stage ≡ other
same_stage ls stage other (inside r is are stage_is) (inside q it they other_is) =
    stage_is ∙ ap reading (same_reading r q is it (same_items (items_of_reading r) (items_of_reading q) (AreItems-reading r is) (AreItems-reading q it) (sym are ∙ they))) ∙ sym other_is
same_stage ls stage other (inside r is are stage_is) (after_a_document t doc they other_is) =
    absurd (reading_or_document r t is (same_items (items_of_reading r) (document_items t) (AreItems-reading r is) (AreItems-document t doc) (sym are ∙ they)))
same_stage ls stage other (after_a_document t doc are stage_is) (inside q it they other_is) =
    absurd (reading_or_document q t it (same_items (items_of_reading q) (document_items t) (AreItems-reading q it) (AreItems-document t doc) (sym they ∙ are)))
same_stage ls stage other (after_a_document t doc are stage_is) (after_a_document s o they other_is) =
    let same : t ≡ s = same_document t s (same_items (document_items t) (document_items s) (AreItems-document t doc) (AreItems-document s o) (sym are ∙ they)) in
    stage_is ∙ ap (λ u. read (wholes_of u) u) same ∙ sym other_is

pub one_fault : (input : List ℕ) (line other : ℕ) (cause reason : Cause) → FirstFault input line cause → FirstFault input other reason → cause ≢ OutOfMemory → reason ≢ OutOfMemory → SameFault line other cause reason
one_fault input line other cause reason a b p q =
    at_cuts (cuts_of a.before b.before a.rest b.rest (HaveNoNewline-reached a.before a.stage a.reached) (HaveNoNewline-reached b.before b.stage b.reached) (sym a.input_is ∙ b.input_is))
  where
    at_cuts : Cuts a.before a.rest b.before b.rest → SameFault line other cause reason
    at_cuts (one_cut lines rests) =
        let stage = same_stage b.before a.stage b.stage (subst (λ ls. Reached ls a.stage) lines a.reached) b.reached in
        let here = subst (λ s. IsFirstCause s (slice_get (pieces_of a.rest) 0) cause) stage a.first in
        let there = subst (λ r. IsFirstCause b.stage (slice_get (pieces_of r) 0) cause) rests here in
        record {
          same_line = a.line_is ∙ ap (λ ls. length ls + 1) lines ∙ sym b.line_is;
          same_cause = same_first_cause b.stage _ cause reason there b.first;
        }
    at_cuts (first_before next more rest lines rests) =
        absurd (blameless_text a.before b.before a.stage b.stage next more a.rest rest cause a.reached b.reached lines rests p a.first.has_cause)
    at_cuts (first_after next more rest lines rests) =
        absurd (blameless_text b.before a.before b.stage a.stage next more b.rest rest reason b.reached a.reached lines rests q b.first.has_cause)

-- no cause applies to a document's own text
pub fault_refuses : (input : List ℕ) (line : ℕ) (cause : Cause) (t : Tree) → FirstFault input line cause → cause ≢ OutOfMemory → IsDocument t → input ≢ text_of t
fault_refuses input line cause t a other document h =
    at_cuts (cuts_of a.before (lines_of (document_items t)) a.rest [] (HaveNoNewline-reached a.before a.stage a.reached) (HaveNoNewline-items (document_items t) (AreItems-document t document)) (sym a.input_is ∙ h ∙ sym (append-nil (text_of t))))
  where
    all_of_it : Reached (lines_of (document_items t)) (read (wholes_of t) t)
    all_of_it = after_a_document t document refl refl

    at_cuts : Cuts a.before a.rest (lines_of (document_items t)) [] → ⊥
    at_cuts (one_cut lines rests) =
        let stage = same_stage (lines_of (document_items t)) a.stage (read (wholes_of t) t) (subst (λ ls. Reached ls a.stage) lines a.reached) all_of_it in
        let here = subst (λ s. HasCause s (slice_get (pieces_of a.rest) 0) cause) stage a.first.has_cause in
        nothing_after (wholes_of t) t cause (subst (λ r. HasCause (read (wholes_of t) t) (slice_get (pieces_of r) 0) cause) rests here)
    at_cuts (first_before next more rest lines rests) =
        blameless_text a.before (lines_of (document_items t)) a.stage (read (wholes_of t) t) next more a.rest rest cause a.reached all_of_it lines rests other a.first.has_cause
    at_cuts (first_after next more rest lines rests) = no_line next rest rests

-- the one line of some
only_line : (line next : List ℕ) (xs more : List (List ℕ)) → line ∷ [] ≡ xs ++ next ∷ more → (xs ≡ []) × (next ≡ line)
only_line line next [] more h = let e : next ≡ line = cc in (refl, e)
only_line line next (x ∷ xs) more h = absurd (omega (arith, ap length h, length-append xs (next ∷ more)))

-- a document of one item whose text has OutOfMemory as first fault: the item takes memory
only_item : (t : Tree) (i : Item) (line : ℕ) → IsDocument t → document_items t ≡ i ∷ [] → FirstFault (text_of t) line OutOfMemory → TakesMemory 0 i
only_item t i line document one a =
    at_cuts (cuts_of a.before (lines_of (document_items t)) a.rest [] (HaveNoNewline-reached a.before a.stage a.reached) (HaveNoNewline-items (document_items t) are) (sym a.input_is ∙ sym (append-nil (text_of t))))
  where
    are : AreItems (document_items t)
    are = AreItems-document t document

    is_item : IsItem i
    is_item = (subst AreItems one are).0

    at_start : a.before ≡ [] → a.stage ≡ reading nothing_read
    at_start none =
        same_stage [] a.stage (reading nothing_read) (subst (λ ls. Reached ls a.stage) none a.reached)
        (inside nothing_read (record { counted = omega arith; table = tt; stack = tt }) refl refl)

    at_cuts : Cuts a.before a.rest (lines_of (document_items t)) [] → TakesMemory 0 i
    at_cuts (one_cut lines rests) =
        let all_of_it : Reached (lines_of (document_items t)) (read (wholes_of t) t) = after_a_document t document refl refl in
        let stage = same_stage (lines_of (document_items t)) a.stage (read (wholes_of t) t) (subst (λ ls. Reached ls a.stage) lines a.reached) all_of_it in
        let here = subst (λ s. HasCause s (slice_get (pieces_of a.rest) 0) OutOfMemory) stage a.first.has_cause in
        absurd (nothing_after (wholes_of t) t OutOfMemory (subst (λ r. HasCause (read (wholes_of t) t) (slice_get (pieces_of r) 0) OutOfMemory) rests here))
    at_cuts (first_before next more rest lines rests) =
        let only = only_line (spelled i) next a.before more (sym (ap lines_of one) ∙ lines) in
        let none = HasNoNewline-among a.before next more (subst HaveNoNewline lines (HaveNoNewline-items (document_items t) are)) in
        let piece : slice_get (pieces_of a.rest) 0 ≡ ended_piece (spelled i) =
        ap (λ w. slice_get (pieces_of w) 0) rests ∙ first_piece next rest none ∙ ap ended_piece only.1 in
        let here = subst (λ p. HasCause a.stage p OutOfMemory) piece a.first.has_cause in
        let taken = subst (λ s. HasCause s (ended_piece (spelled i)) OutOfMemory) (at_start only.0) here in
        subst (TakesMemory 0) (sym (same_item i taken.0 is_item (admitted_item [] 0 taken.0 taken.1) taken.2)) taken.3
    at_cuts (first_after next more rest lines rests) = absurd (no_line next rest rests)

-- OutOfMemory is a fault of a document's text only where reading it takes memory
pub memory_taken : (t : Tree) (line : ℕ) → IsDocument t → FirstFault (text_of t) line OutOfMemory → TextTakesMemory t
memory_taken (leaf (truth b)) line document a = omega (arith, only_item (leaf (truth b)) (leaf_item (truth b)) line document refl a)
memory_taken (leaf (number n)) line document a = omega (arith, only_item (leaf (number n)) (leaf_item (number n)) line document refl a)
memory_taken (leaf (text t)) line document a =
    elim (only_item (leaf (text t)) (leaf_item (text t)) line document refl a) [
      | inl some ↦ some
      | inr inner ↦ absurd (omega (arith, inner))
    ]
memory_taken (shared t) line document a = tt
memory_taken nothing line document a = omega (arith, only_item nothing none_item line document refl a)
memory_taken (just t) line document a = tt
memory_taken (list no_trees) line document a =
    elim (only_item (list no_trees) (list_item 0) line document refl a) [
      | inl some ↦ absurd (omega (arith, some))
      | inr inner ↦ absurd (omega (arith, inner))
    ]
memory_taken (list (more_trees t ts)) line document a = tt
memory_taken (tree.map kind no_pairs) line document a = omega (arith, (only_item (tree.map kind no_pairs) (map_item kind 0) line document refl a).1)
memory_taken (tree.map kind (more_pairs k t ps)) line document a = tt
memory_taken (whole t) line document a = tt

-- no items' text is that of others
pub one_text : (is js : List Item) → AreItems is → AreItems js → ended (lines_of is) ≡ ended (lines_of js) → is ≡ js
one_text is js p q h =
    let none_is = HaveNoNewline-items is p in
    let none_js = HaveNoNewline-items js q in
    same_items is js p q (same_lines (cuts_of (lines_of is) (lines_of js) [] [] none_is none_js (append-nil (ended (lines_of is)) ∙ h ∙ sym (append-nil (ended (lines_of js))))))
  where
    same_lines : Cuts (lines_of is) [] (lines_of js) [] → lines_of is ≡ lines_of js
    same_lines (one_cut ls rests) = ls
    same_lines (first_before line more rest ls rests) = absurd (no_line line rest rests)
    same_lines (first_after line more rest ls rests) = absurd (no_line line rest rests)

-- no document's text is another's
pub one_document : (s t : Tree) → IsDocument s → IsDocument t → text_of s ≡ text_of t → s ≡ t
one_document s t p q h = same_document s t (one_text (document_items s) (document_items t) (AreItems-document s p) (AreItems-document t q) h)
