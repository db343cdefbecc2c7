-- Lines carried out, one after another.
use Rattle.std.proofs.Common.{◌≡◌, ◌≢◌, ℕ, ◌+◌, ◌<◌, ◌≤◌, Bool, false, List, [], ◌∷◌, ◌++◌, length, take, drop, refl, sym, ap, subst, ◌∙◌, append_assoc, append-nil, length-append, arith, Option, Some, None}
use Rattle.std.proofs.lemmas.List.Elements.{All-push, All-same}
use Rattle.archive_shape_layout.specs.Writing.{Cut}
use Rattle.cabinet_text_grammar.specs.Tree.{Tree, Leaf}
use Rattle.cabinet_text_grammar.specs.Path.{Step}
use Rattle.cabinet_text_grammar.specs.Line.{Line, get, keys, range, set, Says}
use Rattle.cabinet_text_grammar.specs.Answering.{Answer, answer, reply, change, spelled_answer}
use Rattle.cabinet_text_nodes.specs.Lines.{IsQuestion}
use Rattle.cabinet_documents.specs.Accepted.{Accepted}
use Rattle.cabinet_documents.specs.Image.{Image}
use Rattle.cabinet_archives.specs.Setting.{EditLeaves}
use Rattle.cabinet_text.specs.Input.{lines_of, longest_line}
use Rattle.cabinet_text.specs.Session.{lines_in_place, AllSay, answer_to, answers, after_all, edits, one_if_done}
use Rattle.cabinet_text.proofs.Sessions.{take_one_more, say_push, after_push, answers_push, edits_push}
use Rattle.cabinet.specs.Editing.{LinesLeave, no_line, more_lines, Edited, EditedByLines}
use Rattle.cabinet_text.specs.declared.session.RunCause.{RunCause}
use Rattle.cabinet_text.specs.declared.session.RunCause.TheVariants.{Read, Write, OutOfMemory, LineTooLong, InputTooLong}
use Rattle.cabinet.specs.Steps.{Carried, CarriedCut, CarriedUpTo}

-- the bytes that lines leave, and after them other lines
pub lines_join : {x y z : List ℕ} {t : Tree} {ss rest : List (Option Line)} → LinesLeave x t ss y → LinesLeave y (after_all lines_in_place t ss) rest z → LinesLeave x t (ss ++ rest) z
lines_join {x = x} {z = z} {t = t} {ss = ss} {rest = rest} (no_line e f) k =
    let same : LinesLeave x (after_all lines_in_place t ss) rest z = subst (λ b. LinesLeave b (after_all lines_in_place t ss) rest z) f k in
    let here : LinesLeave x t rest z = subst (λ q. LinesLeave x (after_all lines_in_place t q) rest z) e same in
    subst (λ q. LinesLeave x t (q ++ rest) z) (sym e) here
lines_join {y = y} {z = z} {t = t} {rest = rest} (more_lines {line = line} {rest = later} e a l h) k =
    more_lines (ap (λ q. q ++ rest) e) a l (lines_join h (subst (λ q. LinesLeave y (after_all lines_in_place t q) rest z) e k))

edited_none : (x : List ℕ) → Edited x x []
edited_none x = record { bytes = λ t a. no_line refl refl; document = λ t a. a; image = λ t i. i }

edited_push : (x y z : List ℕ) (ss : List (Option Line)) (s : Option Line) → Edited x y ss → Edited y z (s ∷ []) → Edited x z (ss ++ s ∷ [])
edited_push x y z ss s h k = record {
  bytes = λ t a. lines_join (h.bytes t a) (k.bytes (after_all lines_in_place t ss) (h.document t a));
  document = λ t a. subst (Accepted z) (sym (after_push lines_in_place t ss s)) (k.document (after_all lines_in_place t ss) (h.document t a));
  image = λ t i. subst (λ u. Image u z) (sym (after_push lines_in_place t ss s)) (k.image (after_all lines_in_place t ss) (h.image t i));
}

-- ---- one line and its edit

-- setting a leaf is an edit
pub edited_by_set : (x y : List ℕ) (path : List Step) (l : Leaf) (s : Option Line) (r : Answer) → s ≡ Some (set path l)
    → ((t : Tree) → Accepted x t → r ≡ answer t (set path l))
    → ((t : Tree) (a : Accepted x t) → EditLeaves x a.value path l r y)
    → ((t : Tree) → Accepted x t → Accepted y (change t path l))
    → ((t : Tree) → Image t x → Image (change t path l) y)
    → Edited x y (s ∷ [])
edited_by_set x y path l s r e answered b d i =
    subst (λ q. Edited x y (q ∷ [])) (sym e) (record {
      bytes = λ t a. more_lines refl a (subst (λ q. EditLeaves x a.value path l q y) (answered t a) (b t a)) (no_line refl refl);
      document = d;
      image = i;
    })

-- its answer
pub answer_by_set : (t : Tree) (path : List Step) (l : Leaf) (s : Option Line) (r : Answer) → s ≡ Some (set path l) → r ≡ answer t (set path l) → answer_to lines_in_place t s ≡ spelled_answer r
answer_by_set t path l s r e h = ap (answer_to lines_in_place t) e ∙ ap spelled_answer (sym h)

pub counted_by_set : (t : Tree) (path : List Step) (l : Leaf) (s : Option Line) (r : Answer) → s ≡ Some (set path l) → r ≡ answer t (set path l) → one_if_done r ≡ one_if_done (reply t s)
counted_by_set t path l s r e h = ap one_if_done h ∙ ap (λ q. one_if_done (reply t q)) (sym e)

-- bytes that are no line, and questions, change no bytes
pub edited_by_none : (x : List ℕ) → Edited x x (None ∷ [])
edited_by_none x = record { bytes = λ t a. more_lines refl a refl (no_line refl refl); document = λ t a. a; image = λ t i. i }

pub edited_by_question : (x : List ℕ) (line : Line) → IsQuestion line → Edited x x (Some line ∷ [])
edited_by_question x (get path) h = record { bytes = λ t a. more_lines refl a refl (no_line refl refl); document = λ t a. a; image = λ t i. i }
edited_by_question x (keys path) h = record { bytes = λ t a. more_lines refl a refl (no_line refl refl); document = λ t a. a; image = λ t i. i }
edited_by_question x (range low high path) h =
    record { bytes = λ t a. more_lines refl a refl (no_line refl refl); document = λ t a. a; image = λ t i. i }
edited_by_question x (set path l) h = absurd h

-- ---- lines and their edits

pub none_edited : (x : List ℕ) → EditedByLines x x 0 0
none_edited x = record { texts = []; said = []; say = tt; count = refl; edits_done = edited_none x; edits_counted = λ t a. refl }

-- a further line was carried out
pub edited_by_one : (x y z : List ℕ) (lines edited now : ℕ) (text : List ℕ) (s : Option Line) → Says text s → Edited y z (s ∷ [])
    → ((t : Tree) → Accepted y t → now ≡ edited + one_if_done (reply t s)) → EditedByLines x y lines edited → EditedByLines x z (lines + 1) now
edited_by_one x y z lines edited now text s says edit counted e = record {
  texts = e.texts ++ text ∷ [];
  said = e.said ++ s ∷ [];
  say = say_push lines_in_place e.texts e.said text s e.say says;
  count = omega (arith, length-append e.said (s ∷ []), e.count);
  edits_done = edited_push x y z e.said s e.edits_done edit;
  edits_counted = λ t a.
      counted (after_all lines_in_place t e.said) (e.edits_done.document t a) ∙ ap (λ n. n + one_if_done (reply (after_all lines_in_place t e.said) s)) (e.edits_counted t a)
      ∙ sym (edits_push lines_in_place t e.said s);
}

-- ---- what was carried out

pub none_carried : (input x old : List ℕ) → Carried input x x old old 0 0
none_carried input x old = record {
  said = [];
  say = tt;
  count = refl;
  short = λ k d h. absurd (omega arith);
  edits_done = edited_none x;
  answered = λ t a. sym (append-nil old);
  edits_counted = λ t a. refl;
}

module _ (input x y z old mid new : List ℕ) (lines edited now : ℕ) (line : List ℕ) (more : List (List ℕ)) (s : Option Line)
    (c : Carried input x y old mid lines edited)
    (next_is : drop lines (lines_of input) ≡ line ∷ more)
    (short : length line ≤ longest_line)
    (says : Says line s)
    (edit : Edited y z (s ∷ []))
    (counted : (t : Tree) → Accepted y t → now ≡ edited + one_if_done (reply t s)) where
  lines_say : AllSay lines_in_place (take (lines + 1) (lines_of input)) (c.said ++ s ∷ [])
  lines_say = subst (λ ls. AllSay lines_in_place ls (c.said ++ s ∷ [])) (sym (take_one_more lines (lines_of input) line more next_is)) (say_push lines_in_place (take lines (lines_of input)) c.said line s c.say says)

  one_more : length (c.said ++ s ∷ []) ≡ lines + 1
  one_more = omega (arith, length-append c.said (s ∷ []), c.count)

  edits_more : (t : Tree) → Accepted x t → now ≡ edits lines_in_place t (c.said ++ s ∷ [])
  edits_more t a =
      let e = counted (after_all lines_in_place t c.said) (c.edits_done.document t a) in
      let d = c.edits_counted t a in
      e ∙ ap (λ n. n + one_if_done (reply (after_all lines_in_place t c.said) s)) d ∙ sym (edits_push lines_in_place t c.said s)

  -- the next line was carried out and answered
  pub step : ((t : Tree) → Accepted y t → new ≡ mid ++ answer_to lines_in_place t s) → Carried input x z old new (lines + 1) now
  step a = record {
    said = c.said ++ s ∷ [];
    say = lines_say;
    count = one_more;
    short =
        All-same (λ (l : List ℕ). length l ≤ longest_line) _ _ (take_one_more lines (lines_of input) line more next_is)
        (All-push (λ (l : List ℕ). length l ≤ longest_line) (take lines (lines_of input)) line c.short short);
    edits_done = edited_push x y z c.said s c.edits_done edit;
    answered = λ t b.
        a (after_all lines_in_place t c.said) (c.edits_done.document t b) ∙ ap (λ m. m ++ answer_to lines_in_place (after_all lines_in_place t c.said) s) (c.answered t b)
        ∙ append_assoc old (answers lines_in_place t c.said) (answer_to lines_in_place (after_all lines_in_place t c.said) s) ∙ ap (λ m. old ++ m) (sym (answers_push lines_in_place t c.said s));
    edits_counted = edits_more;
  }

  -- or carried out, and its answer cut
  pub carried_cut : (counts : Bool) → ((t : Tree) → Accepted y t → Cut mid new (answer_to lines_in_place t s))
      → (counts ≡ false → (t : Tree) → Accepted y t → length new < length mid + length (answer_to lines_in_place t s))
      → CarriedCut counts input x z old new (lines + 1) now
  carried_cut counts a short_of = record {
    before = c.said;
    last = s;
    say = lines_say;
    count = one_more;
    short =
        All-same (λ (l : List ℕ). length l ≤ longest_line) _ _ (take_one_more lines (lines_of input) line more next_is)
        (All-push (λ (l : List ℕ). length l ≤ longest_line) (take lines (lines_of input)) line c.short short);
    edits_done = edited_push x y z c.said s c.edits_done edit;
    answered = λ t b. subst (λ m. Cut m new (answer_to lines_in_place (after_all lines_in_place t c.said) s)) (c.answered t b) (a (after_all lines_in_place t c.said) (c.edits_done.document t b));
    lost = λ u t b.
        subst (λ m. length new < length m + length (answer_to lines_in_place (after_all lines_in_place t c.said) s)) (c.answered t b)
        (short_of u (after_all lines_in_place t c.said) (c.edits_done.document t b));
    edits_counted = edits_more;
  }

-- a fault of the input ends the session between two lines
pub carried_before : (counts : Bool) (input x y old new : List ℕ) (lines edited : ℕ) (cause : RunCause) → cause ≢ Write
    → Carried input x y old new lines edited → CarriedUpTo counts cause input x y old new lines edited
carried_before counts input x y old new lines edited Read other c = c
carried_before counts input x y old new lines edited Write other c = absurd (other refl)
carried_before counts input x y old new lines edited OutOfMemory other c = c
carried_before counts input x y old new lines edited LineTooLong other c = c
carried_before counts input x y old new lines edited InputTooLong other c = c
