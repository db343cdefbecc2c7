-- Texts whose first lines have been taken in.
use Rattle.std.proofs.Common.{◌≡◌, ℕ, zero, suc, ◌+◌, ◌≤◌, List, [], ◌∷◌, ◌++◌, length, sym, ap, ◌∙◌, refl, subst, arith, append_assoc, append-nil, length-append}
use Rattle.std.specs.Prelude.{slice_get}
use Rattle.std.proofs.lemmas.List.{length-map, map-append}
use Rattle.cabinet_text_grammar.specs.Tree.{Tree}
use Rattle.cabinet_text_grammar.specs.Wholes.{wholes_of, IsDocument}
use Rattle.cabinet_text_grammar.specs.Item.{Item, leaf_item, shared_item, none_item, some_item, list_item, map_item, key_item, whole_item, wholes_item, whole_head, items, items_of_table, header, document_items}
use Rattle.cabinet_text_grammar.specs.Frame.{Frame, items_of_stack}
use Rattle.cabinet_text_grammar.specs.Spelling.{spelled, lines_of, ended, text_of}
use Rattle.cabinet_text_grammar.specs.Fault.{pieces_of, inside, after_a_document, IsFirstCause, FirstFault}
use Rattle.cabinet_text_grammar.specs.declared.cause.Cause.{Cause}
use Rattle.cabinet_text_grammar.specs.Machine.{State, going, complete, stuck, step, items_of_state}
use Rattle.cabinet_text_grammar.specs.Reading.{Reading, nothing_read, items_of_reading, IsReading, Stage, reading, read, onward, announce, take}
use Rattle.cabinet_text_grammar.proofs.Items.{IsUnstuck, items-step}
use Rattle.cabinet_text_grammar.proofs.Stages.{IsLegalStage, items_of_stage}
use Rattle.cabinet_text_grammar.proofs.LegalStages.{IsOther, take-other, legal-take}
use Rattle.cabinet_text_grammar.specs.Steps.{TakesLine}

-- the bytes of the lines of two lists are those of the first and then those of the second
pub ended-append : (xs ys : List (List ℕ)) (rest : List ℕ) → ended (xs ++ ys) ++ rest ≡ ended xs ++ (ended ys ++ rest)
ended-append [] ys rest = refl
ended-append (x ∷ xs) ys rest =
    append_assoc x (10 ∷ ended (xs ++ ys)) rest ∙ ap (λ w. x ++ 10 ∷ w) (ended-append xs ys rest) ∙ sym (append_assoc x (10 ∷ ended xs) (ended ys ++ rest))

-- the items after one more are those before and that one
grown : (lacking : ℕ) (table : List Tree) (s : State) (is : List Item) → IsUnstuck s → items_of_state table s ≡ is → items_of_stage (onward lacking table s) ≡ header (lacking + length table) ++ (items_of_table table ++ is)
grown lacking table (going fs) is u h = ap (λ w. header (lacking + length table) ++ (items_of_table table ++ w)) h
grown zero table (complete t) is u h =
    ap (λ w. header (length table) ++ (items_of_table table ++ w)) h ∙ ap (λ n. header n ++ (items_of_table table ++ is)) (omega arith)
grown (suc lacking) table (complete t) is u h =
    ap (λ n. header n ++ ((items_of_table table ++ items table t) ++ [])) (omega arith)
    ∙ ap (λ w. header (suc lacking + length table) ++ w) (append-nil (items_of_table table ++ items table t))
    ∙ ap (λ w. header (suc lacking + length table) ++ (items_of_table table ++ w)) h
grown lacking table stuck is u h = absurd u

unstuck : (lacking : ℕ) (table : List Tree) (s : State) → IsLegalStage (onward lacking table s) → IsUnstuck s
unstuck lacking table (going fs) is = tt
unstuck lacking table (complete t) is = tt
unstuck lacking table stuck is = is

behind : (h b c : List Item) (i : Item) → h ++ (b ++ (c ++ i ∷ [])) ≡ (h ++ (b ++ c)) ++ i ∷ []
behind h b c i =
    ap (λ w. h ++ w) (sym (append_assoc b c (i ∷ []))) ∙ sym (append_assoc h (b ++ c) (i ∷ []))

items-other : (r : Reading) (i : Item) → IsReading r → IsOther i → IsLegalStage (take r i) → items_of_stage (take r i) ≡ items_of_reading r ++ i ∷ []
items-other r i is other legal =
    let u = unstuck r.lacking r.table (step r.table r.stack i) (subst IsLegalStage (take-other r i other) legal) in
    ap items_of_stage (take-other r i other)
    ∙ grown r.lacking r.table (step r.table r.stack i) (items_of_stack r.table r.stack ++ i ∷ []) u (items-step r.table is.table r.stack i u)
    ∙ behind (header (r.lacking + length r.table)) (items_of_table r.table) (items_of_stack r.table r.stack) i

items-announce : (lacking : ℕ) (table : List Tree) (fs : List Frame) (n : ℕ) → IsLegalStage (announce lacking table fs n) → items_of_stage (announce lacking table fs n) ≡ items_of_reading (record { lacking = lacking; table = table; stack = fs }) ++ wholes_item n ∷ []
items-announce zero [] [] zero is = absurd is
items-announce zero [] [] (suc n) is =
    let same : suc n + 0 ≡ suc n = omega arith in
    ap (λ m. header m ++ []) same
items-announce zero [] (f ∷ fs) n is = absurd is
items-announce zero (t ∷ table) fs n is = absurd is
items-announce (suc lacking) table fs n is = absurd is

items-take : (r : Reading) (i : Item) → IsReading r → IsLegalStage (take r i) → items_of_stage (take r i) ≡ items_of_reading r ++ i ∷ []
items-take r (wholes_item n) is legal = items-announce r.lacking r.table r.stack n legal
items-take r (leaf_item l) is legal = items-other r (leaf_item l) is tt legal
items-take r (shared_item t) is legal = items-other r (shared_item t) is tt legal
items-take r none_item is legal = items-other r none_item is tt legal
items-take r some_item is legal = items-other r some_item is tt legal
items-take r (list_item n) is legal = items-other r (list_item n) is tt legal
items-take r (map_item kind n) is legal = items-other r (map_item kind n) is tt legal
items-take r (key_item k) is legal = items-other r (key_item k) is tt legal
items-take r (whole_item n) is legal = items-other r (whole_item n) is tt legal
items-take r whole_head is legal = items-other r whole_head is tt legal

-- the text begins with lines that lead to a stage; `line` is the number of the one after them
pub record HasRead (text : List ℕ) (stage : Stage) (rest : List ℕ) (line : ℕ) : Type 0 where
  pub legal : IsLegalStage stage
  pub parts : text ≡ ended (lines_of (items_of_stage stage)) ++ rest
  pub counted : line ≡ length (items_of_stage stage) + 1

pub none_read : (text : List ℕ) → HasRead text (reading nothing_read) text 1
none_read text = record { legal = record { counted = omega arith; table = tt; stack = tt }; parts = refl; counted = refl }

-- a line more
pub one_more :
    (text rest bytes after : List ℕ) (r : Reading) (stage : Stage) (line : ℕ)
    → HasRead text (reading r) rest line → TakesLine r bytes stage → rest ≡ bytes ++ 10 ∷ after → HasRead text stage after (line + 1)
one_more text rest bytes after r stage line has taken next =
    let i = taken.item in
    let legal : IsLegalStage (take r i) = legal-take r i has.legal taken.admitted taken.suits in
    let all : items_of_stage stage ≡ items_of_reading r ++ i ∷ [] = ap items_of_stage taken.stage_is ∙ items-take r i has.legal legal in
    let before = lines_of (items_of_reading r) in
    let lines : lines_of (items_of_stage stage) ≡ before ++ spelled i ∷ [] = ap lines_of all ∙ map-append spelled (items_of_reading r) (i ∷ []) in
    let last : bytes ++ 10 ∷ after ≡ ended (spelled i ∷ []) ++ after = ap (λ w. w ++ 10 ∷ after) taken.line_is ∙ sym (append_assoc (spelled i) (10 ∷ []) after) in
    record {
      legal = subst IsLegalStage (sym taken.stage_is) legal;
      parts = has.parts ∙ ap (λ w. ended before ++ w) (next ∙ last) ∙ sym (ended-append before (spelled i ∷ []) after) ∙ ap (λ ls. ended ls ++ after) (sym lines);
      counted = omega (arith, has.counted, ap length all, length-append (items_of_reading r) (i ∷ []));
    }

few_lines : (ls : List (List ℕ)) → length ls ≤ length (ended ls)
few_lines [] = omega arith
few_lines (l ∷ ls) = omega (arith, few_lines ls, length-append l (10 ∷ ended ls))

-- a line has one byte at least
pub few : (text rest : List ℕ) (s : Stage) (line : ℕ) → HasRead text s rest line → line + length rest ≤ length text + 1
few text rest s line has =
    let lines = lines_of (items_of_stage s) in
    omega (arith, has.counted, ap length has.parts, length-append (ended lines) rest, few_lines lines, length-map (items_of_stage s) spelled)

-- a fault of the next piece where something is expected
pub fault_inside : (text rest : List ℕ) (r : Reading) (line : ℕ) (cause : Cause) → HasRead text (reading r) rest line → IsFirstCause (reading r) (slice_get (pieces_of rest) 0) cause → FirstFault text line cause
fault_inside text rest r line cause has first = record {
  before = lines_of (items_of_reading r);
  rest = rest;
  stage = reading r;
  input_is = has.parts;
  reached = inside r has.legal refl refl;
  line_is = omega (arith, has.counted, length-map (items_of_reading r) spelled);
  first = first;
}

-- a fault of the next piece after a document
pub fault_after : (t : Tree) (rest : List ℕ) (line : ℕ) (cause : Cause) → IsDocument t → line ≡ length (document_items t) + 1 → IsFirstCause (read (wholes_of t) t) (slice_get (pieces_of rest) 0) cause → FirstFault (text_of t ++ rest) line cause
fault_after t rest line cause document line_is first = record {
  before = lines_of (document_items t);
  rest = rest;
  stage = read (wholes_of t) t;
  input_is = refl;
  reached = after_a_document t document refl refl;
  line_is = omega (arith, line_is, length-map (document_items t) spelled);
  first = first;
}
