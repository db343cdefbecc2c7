-- A text of which some lines were read.
use Rattle.std.proofs.Common.{◌≡◌, ◌≢◌, ℕ, zero, suc, ◌+◌, ◌-◌, ◌<◌, ◌≤◌, ◌^◌, List, [], ◌∷◌, ◌++◌, length, take, drop, true, Result, Ok, Err, is_ok, IfOk, IfErr, codes, sym, ap, ◌∙◌, refl, inr, subst, arith, append_assoc, length-append}
use Rattle.std.proofs.Math.Seq.{take-append_seam, drop-append_seam}
use Rattle.std.proofs.lemmas.List.{map-append}
use Rattle.std.proofs.lemmas.Bool.{false≢true}
use Rattle.std.specs.Prelude.{slice_get}
use Rattle.std.specs.Result.{result_and}
use Rattle.cabinet_text_grammar.specs.Completing.{EndsAlone, text_in}
use Rattle.cabinet_text_grammar.specs.Due.{due_in, AdmitsHead, Admits}
use Rattle.cabinet_text_grammar.specs.Fault.{pieces_of, HasDueCause, HeadTakesMemory, rank, IsFirstCause, FirstFault}
use Rattle.cabinet_text_grammar.specs.Frame.{Frame, in_option, in_list, at_key, at_value, items_of_stack}
use Rattle.cabinet_text_grammar.specs.Item.{Item, leaf_item, shared_item, none_item, some_item, list_item, map_item, key_item, whole_item, wholes_item, whole_head, header, items, items_of_table, document_items}
use Rattle.cabinet_text_grammar.specs.Machine.{State, going, complete, stuck, step}
use Rattle.cabinet_text_grammar.specs.Memory.{TakesMemory}
use Rattle.cabinet_text_grammar.specs.Reading as grammar
use Rattle.cabinet_text_grammar.specs.Reading.{Reading, nothing_read, items_of_reading, due_of, due_at, Stage, reading, onward}
use Rattle.cabinet_text_grammar.specs.Spelling.{spelled, lines_of, ended, text_of}
use Rattle.cabinet_text_grammar.specs.Wholes.{wholes_of, IsDocument}
use Rattle.cabinet_text_grammar.specs.Steps.{TakesLine}
use Rattle.cabinet_text_grammar.specs.Tree.{Tree, IsLegal, depth}
use Rattle.cabinet_text_grammar.specs.Tree as tree
use Rattle.cabinet_text_grammar.specs.declared.cause.Cause.{Cause}
use Rattle.cabinet_text_grammar.specs.declared.cause.Cause.TheVariants.{OutOfMemory}
use Rattle.cabinet_text_grammar.proofs.Completed.{something_due}
use Rattle.cabinet_text_grammar.proofs.Completing.{step_completed}
use Rattle.cabinet_text_grammar.proofs.Pieces.{ended_piece}
use Rattle.cabinet_text_grammar.proofs.Stages.{IsLegalStage, items_of_stage}
use Rattle.cabinet_text_grammar.proofs.Steps.{HasRead, ended-append, none_read, one_more, fault_inside}
use Rattle.cabinet_text_reading.specs.Causes.{IsFirstOf}
use Rattle.cabinet_text_reading.specs.Wholes.{table_in, reading_of, AreKnown, IsAtLine}
use Rattle.cabinet_text_reading.specs.declared.wholes.Wholes.{Wholes}
use Rattle.cabinet_text_reading.proofs.Lifted.{lift_other, lift_memory}
use Rattle.cabinet_text_reading.proofs.Roots.{is_whole}

-- the lines of the wholes that are complete, with that of their number
abbrev pub front_of : ℕ → List Tree → List ℕ
front_of lacking table = ended (lines_of (header (lacking + length table) ++ items_of_table table))

-- the lines up to `begin` are those of the wholes that are complete
pub record IsReadTo (text : List ℕ) (w : Wholes) (s : State) (begin : ℕ) (rest : List ℕ) (line : ℕ) : Type 0 where
  pub has_read : HasRead text (onward w.lacking (table_in w) s) rest line
  pub known : AreKnown w
  pub begins : begin ≡ length (front_of w.lacking (table_in w))
  pub started : onward w.lacking (table_in w) s ≡ reading nothing_read → (more : List ℕ) → text ≢ codes "wholes " ++ more
  -- a tree that is complete is the root's
  pub root : (t : Tree) → s ≡ complete t → w.lacking ≡ 0

pub ok_holds : {T E : Type 0} (r : Result T E) (P : Type 0) → is_ok r ≡ true → IfOk r (λ _. P) → P
ok_holds (Ok x) P is h = h
ok_holds (Err e) P is h = absurd (false≢true is)

-- ---- lines

-- the lines of the tree that is read come after those of the wholes
apart : (r : Reading) (rest : List ℕ) → ended (lines_of (items_of_reading r)) ++ rest ≡ front_of r.lacking r.table ++ (ended (lines_of (items_of_stack r.table r.stack)) ++ rest)
apart r rest =
    let before = header (r.lacking + length r.table) in
    let inner = items_of_stack r.table r.stack in
    ap (λ is. ended (lines_of is) ++ rest) (sym (append_assoc before (items_of_table r.table) inner))
    ∙ ap (λ ls. ended ls ++ rest) (map-append spelled (before ++ items_of_table r.table) inner)
    ∙ ended-append (lines_of (before ++ items_of_table r.table)) (lines_of inner) rest

between : (front part after : List ℕ) → drop (length front) (take (length (front ++ part)) ((front ++ part) ++ after)) ≡ part
between front part after = ap (drop (length front)) (take-append_seam (front ++ part) after) ∙ drop-append_seam front part

-- ---- where something is expected

module _ {text rest : List ℕ} {w : Wholes} {fs : List Frame} {begin line : ℕ} (h : IsReadTo text w (going fs) begin rest line) where
  text_apart : text ≡ front_of w.lacking (table_in w) ++ (ended (lines_of (items_of_stack (table_in w) fs)) ++ rest)
  text_apart = h.has_read.parts ∙ apart (reading_of w fs) rest

  pub begins_before : begin + length rest ≤ length text
  begins_before =
      let inner = ended (lines_of (items_of_stack (table_in w) fs)) in
      omega (arith, h.begins, ap length text_apart, length-append (front_of w.lacking (table_in w)) (inner ++ rest), length-append inner rest)

  -- the lines of the tree that is read, with the next one
  lines_to : (bytes after lines : List ℕ) (left : ℕ) → left ≡ length after → rest ≡ bytes ++ 10 ∷ after → lines ≡ drop begin (take (length text - left) text) → lines ≡ ended (lines_of (items_of_stack (table_in w) fs)) ++ (bytes ++ 10 ∷ [])
  lines_to bytes after lines left counted next is =
      let front = front_of w.lacking (table_in w) in
      let inner = ended (lines_of (items_of_stack (table_in w) fs)) in
      let part = inner ++ (bytes ++ 10 ∷ []) in
      let behind : inner ++ rest ≡ part ++ after = ap (λ l. inner ++ l) (next ∙ sym (append_assoc bytes (10 ∷ []) after)) ∙ sym (append_assoc inner (bytes ++ 10 ∷ []) after) in
      let whole : text ≡ (front ++ part) ++ after = text_apart ∙ ap (λ l. front ++ l) behind ∙ sym (append_assoc front part after) in
      let end : length text - left ≡ length (front ++ part) = omega (arith, counted, ap length whole, length-append (front ++ part) after) in
      is ∙ ap (λ n. drop n (take (length text - left) text)) h.begins
      ∙ ap (λ n. drop (length front) (take n text)) end
      ∙ ap (λ l. drop (length front) (take (length (front ++ part)) l)) whole
      ∙ between front part after

  pub at_line : (bytes after lines : List ℕ) (left : ℕ) → left ≡ length after → rest ≡ bytes ++ 10 ∷ after → lines ≡ drop begin (take (length text - left) text) → IsAtLine w fs bytes lines
  at_line bytes after lines left counted next is = record {
    reading = h.has_read.legal;
    known = h.known;
    begun = λ none tail begins. h.started (ap reading none) (tail ++ 10 ∷ after) (h.has_read.parts ∙ ap (λ r. ended (lines_of (items_of_reading r)) ++ rest) none ∙ next ∙ ap (λ l. l ++ 10 ∷ after) begins ∙ append_assoc (codes "wholes ") tail (10 ∷ after));
    lines_are = lines_to bytes after lines left counted next is;
  }

  -- the first cause that applies to the next piece
  pub fault_here : (cause : Cause) → IsFirstCause (reading (reading_of w fs)) (slice_get (pieces_of rest) 0) cause → FirstFault text line cause
  fault_here cause first = fault_inside text rest (reading_of w fs) line cause h.has_read first

  pub early_fault : (cause : Cause) → rank cause < 3 → IsFirstOf (HasDueCause (due_at (reading_of w fs)) (slice_get (pieces_of rest) 0)) cause → FirstFault text line cause
  early_fault cause early first =
      let r = reading_of w fs in
      fault_here cause (lift_other r (slice_get (pieces_of rest) 0) cause (something_due r) (λ is. omega (arith, early, ap rank is)) first)

-- ---- the number of wholes

abbrev lacking_of : Stage → ℕ
lacking_of (reading r) = r.lacking
lacking_of _ = 0

numbered : (text rest : List ℕ) (count line : ℕ) → count < 2 ^ 64 → (count ≡ 0 → rest ≡ text) → (0 < count → text ≡ spelled (wholes_item count) ++ 10 ∷ rest) → (count ≡ 0 → line ≡ 1) → (0 < count → line ≡ 2) → HasRead text (reading (record { lacking = count; table = []; stack = [] })) rest line
numbered text rest zero line fits none some one two = rw (none refl, one refl) (none_read text)
numbered text rest (suc n) line fits none some one two =
    let same : suc n + 0 ≡ suc n = omega arith in
    let first : items_of_reading (record { lacking = suc n; table = []; stack = [] }) ≡ wholes_item (suc n) ∷ [] = ap (λ m. header m ++ []) same in
    record {
      legal = record { counted = omega (arith, fits); table = tt; stack = tt };
      parts = some (omega arith) ∙ sym (append_assoc (spelled (wholes_item (suc n))) (10 ∷ []) rest) ∙ ap (λ is. ended (lines_of is) ++ rest) (sym first);
      counted = omega (arith, two (omega arith), ap length first);
    }

-- the lines after that of the number of wholes are no longer than the text
pub begun_within : {P : Type 0} (text rest : List ℕ) (count : ℕ) → (count ≡ 0 → (rest ≡ text) × P) → (0 < count → text ≡ spelled (wholes_item count) ++ 10 ∷ rest) → length rest ≤ length text
begun_within text rest zero none some = omega (arith, ap length (none refl).0)
begun_within text rest (suc n) none some = omega (arith, ap length (some (omega arith)), length-append (spelled (wholes_item (suc n))) (10 ∷ rest))

pub after_number :
    (text rest : List ℕ) (count line left : ℕ) (w : Wholes)
    → count < 2 ^ 64 → (count ≡ 0 → (rest ≡ text) × ((more : List ℕ) → text ≢ codes "wholes " ++ more)) → (0 < count → text ≡ spelled (wholes_item count) ++ 10 ∷ rest)
    → (count ≡ 0 → line ≡ 1) → (0 < count → line ≡ 2) → left ≡ length rest
    → reading_of w [] ≡ record { lacking = count; table = []; stack = [] } → AreKnown w → IsReadTo text w (going []) (length text - left) rest line
after_number text rest count line left w fits none some one two counted same known =
    let has : HasRead text (reading (reading_of w [])) rest line = subst (λ r. HasRead text (reading r) rest line) (sym same) (numbered text rest count line fits (λ z. (none z).0) some one two) in
    let front = front_of w.lacking (table_in w) in
    let parts : text ≡ front ++ rest = has.parts ∙ apart (reading_of w []) rest in
    let number : w.lacking ≡ count = ap (λ r. r.lacking) same in
    record { has_read = has; known = known; begins = omega (arith, counted, ap length parts, length-append front rest); started = λ first. (none (omega (arith, number, ap lacking_of first))).1; root = λ t is. cc }

-- ---- trees of wholes that are complete

abbrev newest_in : List Tree → State
newest_in [] = stuck
newest_in (t ∷ table) = complete t

abbrev newest : Stage → State
newest (reading r) = newest_in r.table
newest _ = stuck

completes_by : (lacking : ℕ) (table : List Tree) (t : Tree) (s : State) → 0 < lacking → onward lacking table (complete t) ≡ onward lacking table s → s ≡ complete t
completes_by zero table t s some h = absurd (omega (arith, some))
completes_by (suc n) table t (going fs) some h =
    let same : n ≡ suc n = ap lacking_of h in
    absurd (omega (arith, same))
completes_by (suc n) table t (complete u) some h = sym (ap newest h)
completes_by (suc n) table t stuck some h = cc

no_number : (lacking : ℕ) (table : List Tree) (fs : List Frame) (t : Tree) (n : ℕ) → 0 < lacking → onward lacking table (complete t) ≢ grammar.announce lacking table fs n
no_number zero table fs t n some h = omega (arith, some)
no_number (suc lacking) table fs t n some h = cc

-- the item of the line that completes the tree of a whole
completed_tree : (r : Reading) (i : Item) (t : Tree) → 0 < r.lacking → onward r.lacking r.table (complete t) ≡ grammar.take r i → step r.table r.stack i ≡ complete t
completed_tree r (wholes_item n) t some h = absurd (no_number r.lacking r.table r.stack t n some h)
completed_tree r (leaf_item l) t some h = completes_by r.lacking r.table t _ some h
completed_tree r (shared_item u) t some h = completes_by r.lacking r.table t _ some h
completed_tree r none_item t some h = completes_by r.lacking r.table t _ some h
completed_tree r some_item t some h = completes_by r.lacking r.table t _ some h
completed_tree r (list_item n) t some h = completes_by r.lacking r.table t _ some h
completed_tree r (map_item kind n) t some h = completes_by r.lacking r.table t _ some h
completed_tree r (key_item k) t some h = completes_by r.lacking r.table t _ some h
completed_tree r (whole_item n) t some h = completes_by r.lacking r.table t _ some h
completed_tree r whole_head t some h = completes_by r.lacking r.table t _ some h

-- a head that completes a tree inside a container takes memory
alone_takes : (d : ℕ) (i : Item) → 0 < d → EndsAlone i → TakesMemory d i
alone_takes d (leaf_item (tree.truth b)) inner alone = inner
alone_takes d (leaf_item (tree.number n)) inner alone = inner
alone_takes d (leaf_item (tree.text t)) inner alone = inr inner
alone_takes d (shared_item t) inner alone = tt {0}
alone_takes d none_item inner alone = inner
alone_takes d some_item inner alone = absurd alone
alone_takes d (list_item n) inner alone = inr inner
alone_takes d (map_item kind n) inner alone = (alone, inner)
alone_takes d (key_item k) inner alone = absurd alone
alone_takes d (whole_item n) inner alone = inner
alone_takes d (wholes_item n) inner alone = absurd alone
alone_takes d whole_head inner alone = absurd alone

head_memory : (table : List Tree) (d : ℕ) (fs : List Frame) (i : Item) (t : Tree) → 0 < d → AdmitsHead table d i → step table fs i ≡ complete t → HeadTakesMemory table d (spelled i)
head_memory table d fs i t inner p h = (i, p, refl, alone_takes d i inner (step_completed table d fs i t p h).0)

due_memory : (table : List Tree) (fs : List Frame) (i : Item) (t : Tree) → Admits (due_in table 1 fs) i → step table fs i ≡ complete t → HasDueCause (due_in table 1 fs) (ended_piece (spelled i)) OutOfMemory
due_memory table [] i t p h = head_memory table 1 [] i t (omega arith) p h
due_memory table (in_option ∷ outer) i t p h = head_memory table (1 + length outer + 1) (in_option ∷ outer) i t (omega arith) p h
due_memory table (in_list n ts ∷ outer) i t p h = head_memory table (1 + length outer + 1) (in_list n ts ∷ outer) i t (omega arith) p h
due_memory table (at_key kind n ps ∷ outer) i t p h = tt {0}
due_memory table (at_value kind n ps k ∷ outer) i t p h = head_memory table (1 + length outer + 1) (at_value kind n ps k ∷ outer) i t (omega arith) p h

whole_memory : (lacking : ℕ) (table : List Tree) (fs : List Frame) (i : Item) (t : Tree) → 0 < lacking → Admits (due_of lacking table fs) i → step table fs i ≡ complete t → HasDueCause (due_of lacking table fs) (ended_piece (spelled i)) OutOfMemory
whole_memory zero table fs i t some p h = absurd (omega (arith, some))
whole_memory (suc lacking) table fs i t some p h = due_memory table fs i t p h

whole_stage : (lacking : ℕ) (table : List Tree) (t : Tree) → 0 < lacking → onward lacking table (complete t) ≡ reading (record { lacking = lacking - 1; table = t ∷ table; stack = [] })
whole_stage zero table t some = absurd (omega (arith, some))
whole_stage (suc lacking) table t some = ap (λ n. reading (record { lacking = n; table = t ∷ table; stack = [] })) (omega arith)

whole_fits : (lacking : ℕ) (table : List Tree) (t : Tree) → 0 < lacking → IsLegalStage (onward lacking table (complete t)) → IsLegal t × (depth t ≤ 64)
whole_fits zero table t some is = absurd (omega (arith, some))
whole_fits (suc lacking) table t some is = (is.table.0.0, omega (arith, is.table.0.1))

-- ---- a line more

not_first : (text after : List ℕ) (stage : Stage) (line : ℕ) → 0 < line → HasRead text stage after (line + 1) → stage ≢ reading nothing_read
not_first text after stage line some has is = omega (arith, some, has.counted, ap (λ s. length (items_of_stage s)) is)

module _ {text rest : List ℕ} {w : Wholes} {fs : List Frame} {begin line : ℕ} (h : IsReadTo text w (going fs) begin rest line) (bytes after : List ℕ) (next : rest ≡ bytes ++ 10 ∷ after) where
  some_line : 0 < line
  some_line = omega (arith, h.has_read.counted)

  -- no whole is complete with it
  pub line_taken : (s : State) → TakesLine (reading_of w fs) bytes (onward w.lacking (table_in w) s) → ((t : Tree) → s ≡ complete t → w.lacking ≡ 0) → IsReadTo text w s begin after (line + 1)
  line_taken s taken root =
      let has = one_more text rest bytes after (reading_of w fs) (onward w.lacking (table_in w) s) line h.has_read taken next in
      record { has_read = has; known = h.known; begins = h.begins; started = λ none. absurd (not_first text after _ line some_line has none); root = root }

  module _ (t : Tree) (some : 0 < w.lacking) (taken : TakesLine (reading_of w fs) bytes (onward w.lacking (table_in w) (complete t))) where
    done : step (table_in w) fs taken.item ≡ complete t
    done = completed_tree (reading_of w fs) taken.item t some taken.stage_is

    pub memory_refused : slice_get (pieces_of rest) 0 ≡ ended_piece bytes → FirstFault text line OutOfMemory
    memory_refused piece =
        let r = reading_of w fs in
        fault_here h OutOfMemory (subst (λ p. IsFirstCause (reading r) p OutOfMemory) (sym (piece ∙ ap ended_piece taken.line_is))
        (lift_memory r taken.item taken.admitted taken.suits (whole_memory w.lacking (table_in w) fs taken.item t some taken.admitted done)))

    has_whole : HasRead text (onward w.lacking (table_in w) (complete t)) after (line + 1)
    has_whole = one_more text rest bytes after (reading_of w fs) (onward w.lacking (table_in w) (complete t)) line h.has_read taken next

    -- what is asked of a tree that is added
    pub added_fits : IsLegal t × (depth t ≤ 64)
    added_fits = whole_fits w.lacking (table_in w) t some has_whole.legal

    pub added_lines : (lines : List ℕ) (left : ℕ) → left ≡ length after → lines ≡ drop begin (take (length text - left) text) → lines ≡ text_in (table_in w) t
    added_lines lines left counted is =
        let at = subst (λ l. IsAtLine w fs l lines) taken.line_is (at_line h bytes after lines left counted next is) in
        (is_whole w fs taken.item t lines some at taken.admitted done).lines_are

    pub whole_added : (v : Wholes) (left : ℕ) → left ≡ length after → reading_of v [] ≡ record { lacking = w.lacking - 1; table = t ∷ table_in w; stack = [] } → AreKnown v → IsReadTo text v (going []) (length text - left) after (line + 1)
    whole_added v left counted same known =
        let has : HasRead text (reading (reading_of v [])) after (line + 1) = subst (λ s. HasRead text s after (line + 1)) (whole_stage w.lacking (table_in w) t some ∙ ap reading (sym same)) has_whole in
        let front = front_of v.lacking (table_in v) in
        let parts : text ≡ front ++ after = has.parts ∙ apart (reading_of v []) after in
        record { has_read = has; known = known; begins = omega (arith, counted, ap length parts, length-append front after); started = λ none. absurd (not_first text after _ line some_line has none); root = λ u is. cc }

-- ---- the end of a document

-- the lines up to `rest` are the text of the document with this root, and the next line has this number
pub record IsRoot (text : List ℕ) (table : List Tree) (t : Tree) (rest : List ℕ) (line : ℕ) : Type 0 where
  pub document : IsDocument t
  pub wholes : wholes_of t ≡ table
  pub line_is : line ≡ length (document_items t) + 1
  pub parts : text ≡ text_of t ++ rest

root_of : (text : List ℕ) (table : List Tree) (t : Tree) (rest : List ℕ) (line : ℕ) → HasRead text (grammar.read table t) rest line → IsRoot text table t rest line
root_of text table t rest line has =
    let same = sym has.legal.1 in
    record {
      document = has.legal.0;
      wholes = has.legal.1;
      line_is = subst (λ ws. line ≡ length (header (length ws) ++ (items_of_table ws ++ items ws t)) + 1) same has.counted;
      parts = subst (λ ws. text ≡ ended (lines_of (header (length ws) ++ (items_of_table ws ++ items ws t))) ++ rest) same has.parts;
    }

pub root_read : {text rest : List ℕ} {w : Wholes} {begin line : ℕ} (t : Tree) → IsReadTo text w (complete t) begin rest line → IsRoot text (table_in w) t rest line
root_read {text} {rest} {w} {begin} {line} t h = root_of text (table_in w) t rest line (subst (λ n. HasRead text (grammar.completed n (table_in w) t) rest line) (h.root t refl) h.has_read)

-- what holds of the first of two results, and of both
pub and_ok : {A B E : Type 0} (r : Result A E) (b : B) (P : B → Type 0) (Q : Type 0) → IfOk r (λ _. Q) → (Q → P b) → IfOk (result_and r (Ok b)) P
and_ok (Ok x) b P Q h f = f h
and_ok (Err e) b P Q h f = tt

pub and_err : {A B E : Type 0} (r : Result A E) (b : B) (P Q R : E → Type 0) → IfErr r Q → IfErr r R → ((e : E) → Q e → R e → P e) → IfErr (result_and r (Ok b)) P
and_err (Ok x) b P Q R h k f = tt
and_err (Err e) b P Q R h k f = f e h k
