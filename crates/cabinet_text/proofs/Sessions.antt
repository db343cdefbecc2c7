-- The lines of a session one after another: what one more of them adds.
use Rattle.std.proofs.Common.{◌≡◌, ◌≢◌, ℕ, ◌+◌, ◌<◌, ◌≤◌, suc, zero, List, [], ◌∷◌, ◌++◌, length, take, drop, Bool, true, false, refl, sym, ap, subst, ◌∙◌, append_assoc, append-nil, length-append, length-drop, length-take, arith, Option, Ok, Err, add-one}
use Rattle.std.proofs.lemmas.List.Elements.{All-push, All-same}
use Rattle.std.specs.Prelude.{All, MatchBool, Result}
use Rattle.archive_shape_layout.specs.Writing.{Cut}
use Rattle.cabinet_text_grammar.specs.Tree.{Tree}
use Rattle.cabinet_text.specs.Input.{lines_of, longest_line}
use Rattle.cabinet_text.specs.Session.{Language, AllSay, answer_to, answers, after_all, edits, one_if_done}
use Rattle.cabinet_text.specs.Working.{AnswersAsDocument, AnswersCut, AnswersUpTo, WorksAsDocument, LeftByLines, LeftByRun}
use Rattle.cabinet_text.specs.declared.session.Count.{Count}
use Rattle.cabinet_text.specs.declared.session.RunFault.{RunFault}
use Rattle.cabinet_text.specs.declared.session.RunCause.{RunCause}
use Rattle.cabinet_text.specs.declared.session.RunCause.TheVariants.{Read, Write, OutOfMemory, LineTooLong, InputTooLong}

-- ---- one more element

pub take_next : {A : Type 0} (n : ℕ) (xs : List A) (y : A) (ys : List A) → drop n xs ≡ y ∷ ys → take (suc n) xs ≡ take n xs ++ y ∷ []
take_next zero [] y ys e = absurd (cc)
take_next (suc n) [] y ys e = absurd (cc)
take_next zero (x ∷ xs) y ys e = cc
take_next (suc n) (x ∷ xs) y ys e = ap (λ l. x ∷ l) (take_next n xs y ys e)

pub take_one_more : {A : Type 0} (n : ℕ) (xs : List A) (y : A) (ys : List A) → drop n xs ≡ y ∷ ys → take (n + 1) xs ≡ take n xs ++ y ∷ []
take_one_more n xs y ys e = rw add-one (take_next n xs y ys e)

-- ---- whether there is one more line

pub when_true : (b : Bool) (P Q : Type 0) → b ≡ true → MatchBool b P Q → P
when_true true P Q e h = h
when_true false P Q e h = absurd (cc)

pub when_false : (b : Bool) (P Q : Type 0) → b ≡ false → MatchBool b P Q → Q
when_false true P Q e h = absurd (cc)
when_false false P Q e h = h

-- ---- one more line

module _ (L : Language) where
  pub say_push : (ls : List (List ℕ)) (ss : List (Option L.Line)) (l : List ℕ) (s : Option L.Line) → AllSay L ls ss → L.Says l s → AllSay L (ls ++ l ∷ []) (ss ++ s ∷ [])
  say_push [] [] l s h k = (k, tt)
  say_push (m ∷ ls) (n ∷ ss) l s h k = (h.0, say_push ls ss l s h.1 k)
  say_push [] (n ∷ ss) l s h k = absurd h
  say_push (m ∷ ls) [] l s h k = absurd h

  pub say_length : (ls : List (List ℕ)) (ss : List (Option L.Line)) → AllSay L ls ss → length ls ≡ length ss
  say_length [] [] h = refl
  say_length (m ∷ ls) (n ∷ ss) h = ap suc (say_length ls ss h.1)
  say_length [] (n ∷ ss) h = absurd h
  say_length (m ∷ ls) [] h = absurd h

  pub after_push : (t : Tree) (ss : List (Option L.Line)) (s : Option L.Line) → after_all L t (ss ++ s ∷ []) ≡ L.after (after_all L t ss) s
  after_push t [] s = refl
  after_push t (r ∷ ss) s = after_push (L.after t r) ss s

  pub answers_push : (t : Tree) (ss : List (Option L.Line)) (s : Option L.Line)
      → answers L t (ss ++ s ∷ []) ≡ answers L t ss ++ answer_to L (after_all L t ss) s
  answers_push t [] s = append-nil (answer_to L t s)
  answers_push t (r ∷ ss) s =
      ap (λ x. answer_to L t r ++ x) (answers_push (L.after t r) ss s)
      ∙ sym (append_assoc (answer_to L t r) (answers L (L.after t r) ss) (answer_to L (after_all L (L.after t r) ss) s))

  pub edits_push : (t : Tree) (ss : List (Option L.Line)) (s : Option L.Line)
      → edits L t (ss ++ s ∷ []) ≡ edits L t ss + one_if_done (L.reply (after_all L t ss) s)
  edits_push t [] s = omega arith
  edits_push t (r ∷ ss) s = omega (arith, edits_push (L.after t r) ss s)

  -- no line is left where as many were carried out as the input has
  pub all_said : (input : List ℕ) (said : List (Option L.Line)) (lines : ℕ)
      → AllSay L (take lines (lines_of input)) said → length said ≡ lines → drop lines (lines_of input) ≡ [] → lines ≡ length (lines_of input)
  all_said input said lines say count none =
      omega (arith, length-drop lines (lines_of input), length-take lines (lines_of input), ap length none, say_length _ said say, count)

  -- ---- one more line of a document whose trees after lines are told

  module _ (t : Tree) (input old : List ℕ) where
    -- before the first line
    pub none_answered : (Leaves : Tree → Type 0) → Leaves t → AnswersAsDocument L Leaves t input old old 0 0
    none_answered Leaves h = record { said = []; say = tt; count = refl; short = λ k d h. absurd (omega arith); written = sym (append-nil old); leaves = h; edits_counted = refl }

    module _ (u v : Tree) (mid : List ℕ) (lines edited now : ℕ) (line : List ℕ) (more : List (List ℕ)) (s : Option L.Line)
        (c : AnswersAsDocument L (λ x. u ≡ x) t input old mid lines edited)
        (next_is : drop lines (lines_of input) ≡ line ∷ more)
        (short : length line ≤ longest_line)
        (says : L.Says line s)
        (edit : v ≡ L.after u s)
        (counted : now ≡ edited + one_if_done (L.reply u s)) where
      lines_say : AllSay L (take (lines + 1) (lines_of input)) (c.said ++ s ∷ [])
      lines_say =
          subst (λ ls. AllSay L ls (c.said ++ s ∷ [])) (sym (take_one_more lines (lines_of input) line more next_is))
          (say_push (take lines (lines_of input)) c.said line s c.say says)

      one_more : length (c.said ++ s ∷ []) ≡ lines + 1
      one_more = omega (arith, length-append c.said (s ∷ []), c.count)

      short_more : All (λ (l : List ℕ). length l ≤ longest_line) (take (lines + 1) (lines_of input))
      short_more =
          All-same (λ (l : List ℕ). length l ≤ longest_line) _ _ (take_one_more lines (lines_of input) line more next_is)
          (All-push (λ (l : List ℕ). length l ≤ longest_line) (take lines (lines_of input)) line c.short short)

      leaves_more : v ≡ after_all L t (c.said ++ s ∷ [])
      leaves_more = edit ∙ ap (λ x. L.after x s) c.leaves ∙ sym (after_push t c.said s)

      edits_more : now ≡ edits L t (c.said ++ s ∷ [])
      edits_more =
          counted ∙ ap (λ n. n + one_if_done (L.reply u s)) c.edits_counted
          ∙ ap (λ x. edits L t c.said + one_if_done (L.reply x s)) c.leaves ∙ sym (edits_push t c.said s)

      -- the next line was answered
      pub one_more_answered : (new : List ℕ) → new ≡ mid ++ answer_to L u s → AnswersAsDocument L (λ x. v ≡ x) t input old new (lines + 1) now
      one_more_answered new a = record {
        said = c.said ++ s ∷ [];
        say = lines_say;
        count = one_more;
        short = short_more;
        written =
            a ∙ ap (λ m. m ++ answer_to L u s) c.written ∙ append_assoc old (answers L t c.said) (answer_to L u s)
            ∙ ap (λ x. old ++ (answers L t c.said ++ answer_to L x s)) c.leaves ∙ ap (λ m. old ++ m) (sym (answers_push t c.said s));
        leaves = leaves_more;
        edits_counted = edits_more;
      }

      -- or its answer was cut
      pub one_more_cut : (counts : Bool) (new : List ℕ) → Cut mid new (answer_to L u s)
          → (counts ≡ false → length new < length mid + length (answer_to L u s))
          → AnswersCut L (λ x. v ≡ x) counts t input old new (lines + 1) now
      one_more_cut counts new a lost = record {
        before = c.said;
        last = s;
        say = lines_say;
        count = one_more;
        short = short_more;
        written =
            subst (λ x. Cut (old ++ answers L t c.said) new (answer_to L x s)) c.leaves
            (subst (λ m. Cut m new (answer_to L u s)) c.written a);
        lost = λ e.
            subst (λ x. length new < length (old ++ answers L t c.said) + length (answer_to L x s)) c.leaves
            (subst (λ m. length new < length m + length (answer_to L u s)) c.written (lost e));
        leaves = leaves_more;
        edits_counted = edits_more;
      }

  -- a fault of the input ends the session between two lines
  pub before_fault : (Leaves : Tree → Type 0) (counts : Bool) (t : Tree) (input old new : List ℕ) (lines edited : ℕ) (cause : RunCause) → cause ≢ Write
      → AnswersAsDocument L Leaves t input old new lines edited → AnswersUpTo L Leaves counts cause t input old new lines edited
  before_fault Leaves counts t input old new lines edited Read other a = a
  before_fault Leaves counts t input old new lines edited Write other a = absurd (other refl)
  before_fault Leaves counts t input old new lines edited OutOfMemory other a = a
  before_fault Leaves counts t input old new lines edited LineTooLong other a = a
  before_fault Leaves counts t input old new lines edited InputTooLong other a = a

  -- ---- the same where reader and writer are not observable

  pub none_left : (t : Tree) → LeftByLines L (λ x. t ≡ x) t 0 0
  none_left t = record { texts = []; said = []; say = tt; count = refl; leaves = refl; edits_counted = refl }

  pub one_more_left : (t u v : Tree) (lines edited now : ℕ) (line : List ℕ) (s : Option L.Line)
      → LeftByLines L (λ x. u ≡ x) t lines edited → L.Says line s → v ≡ L.after u s → now ≡ edited + one_if_done (L.reply u s)
      → LeftByLines L (λ x. v ≡ x) t (lines + 1) now
  one_more_left t u v lines edited now line s c says edit counted = record {
    texts = c.texts ++ line ∷ [];
    said = c.said ++ s ∷ [];
    say = say_push c.texts c.said line s c.say says;
    count = omega (arith, length-append c.said (s ∷ []), c.count);
    leaves = edit ∙ ap (λ x. L.after x s) c.leaves ∙ sym (after_push t c.said s);
    edits_counted =
        counted ∙ ap (λ n. n + one_if_done (L.reply u s)) c.edits_counted
        ∙ ap (λ x. edits L t c.said + one_if_done (L.reply x s)) c.leaves ∙ sym (edits_push t c.said s);
  }

  -- ---- more is known of the document that a session leaves

  module _ (Leaves Known : Tree → Type 0) (known : (u : Tree) → Leaves u → Known u) (t : Tree) where
    answered_leaving : (input old new : List ℕ) (lines edited : ℕ)
        → AnswersAsDocument L Leaves t input old new lines edited → AnswersAsDocument L Known t input old new lines edited
    answered_leaving input old new lines edited a = record {
      said = a.said;
      say = a.say;
      count = a.count;
      short = a.short;
      written = a.written;
      leaves = known (after_all L t a.said) a.leaves;
      edits_counted = a.edits_counted;
    }

    cut_leaving : (counts : Bool) (input old new : List ℕ) (lines edited : ℕ)
        → AnswersCut L Leaves counts t input old new lines edited → AnswersCut L Known counts t input old new lines edited
    cut_leaving counts input old new lines edited a = record {
      before = a.before;
      last = a.last;
      say = a.say;
      count = a.count;
      short = a.short;
      written = a.written;
      lost = a.lost;
      leaves = known (after_all L t (a.before ++ a.last ∷ [])) a.leaves;
      edits_counted = a.edits_counted;
    }

    up_to_leaving : (counts : Bool) (cause : RunCause) (input old new : List ℕ) (lines edited : ℕ)
        → AnswersUpTo L Leaves counts cause t input old new lines edited → AnswersUpTo L Known counts cause t input old new lines edited
    up_to_leaving counts Read input old new lines edited a = answered_leaving input old new lines edited a
    up_to_leaving counts Write input old new lines edited a = cut_leaving counts input old new lines edited a
    up_to_leaving counts OutOfMemory input old new lines edited a = answered_leaving input old new lines edited a
    up_to_leaving counts LineTooLong input old new lines edited a = answered_leaving input old new lines edited a
    up_to_leaving counts InputTooLong input old new lines edited a = answered_leaving input old new lines edited a

    pub works_leaving : (counts : Bool) (input left old new : List ℕ) (r : Result Count RunFault)
        → WorksAsDocument L Leaves counts t input left old new r → WorksAsDocument L Known counts t input left old new r
    works_leaving counts input left old new (Ok n) h = (answered_leaving input old new n.lines n.edits h.0, h.1, h.2)
    works_leaving counts input left old new (Err f) h = (up_to_leaving counts f.cause input old new f.lines f.edits h.0, h.1)

    by_lines_leaving : (lines edited : ℕ) → LeftByLines L Leaves t lines edited → LeftByLines L Known t lines edited
    by_lines_leaving lines edited a = record {
      texts = a.texts;
      said = a.said;
      say = a.say;
      count = a.count;
      leaves = known (after_all L t a.said) a.leaves;
      edits_counted = a.edits_counted;
    }

    pub run_leaving : (r : Result Count RunFault) → LeftByRun L Leaves t r → LeftByRun L Known t r
    run_leaving (Ok n) h = by_lines_leaving n.lines n.edits h
    run_leaving (Err f) h = by_lines_leaving f.lines f.edits h
