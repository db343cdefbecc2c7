-- What is asked of the controls from the capacity on.
use Rattle.std.proofs.Common.{◌≡◌, ◌≢◌, take, count_by, ℕ, zero, suc, ◌+◌, ◌-◌, ◌*◌, ◌<◌, ◌≤◌, nat_lt, nat_le, ◌==◌, ◌&&◌, ◌||◌, cond, Bool, true, false, List, [], ◌∷◌, drop, length, Result, Err, refl, sym, ap, ◌∙◌, arith}
use Rattle.std.specs.Prelude.{slice_index, MatchResult}
use Rattle.std.proofs.lemmas.Bool.{lt-ltb, le-ltb, eq-eqb, eqb-true}
use Rattle.std.proofs.lemmas.List.{drop_more, drop_all}
use Rattle.archive_shape_layout.specs.Content.{wraps}
use Rattle.archive_shape.specs.Range.{Range}
use Rattle.archive_shape.specs.Questions.{Question, AreAnswered, FirstUnanswered, questions_of_controls}
use Rattle.archive_shape.specs.Questions.Question.{test}
use Rattle.archive_shape.specs.Questions.FirstUnanswered.{unanswered_here}
use Rattle.archive_shape_layout.specs.declared.error.Error.{Error}
use Rattle.archive_shape_layout.specs.declared.error.Error.TheVariants.{UnwrappedControlByte, WrongNumberOfElements}
use Rattle.archive_hash_maps.specs.Buckets.{questions_of_tags}
use Rattle.archive_hash_maps.proofs.Asked.{Decides, behind_answered, refused_before}

module _ (cap : ℕ) (controls : List ℕ) where
  -- whether a control is as it has to be
  abbrev pub is_as_due : ℕ → Bool
  is_as_due i = cond (nat_lt i (2 * cap)) (slice_index controls i == slice_index controls (i - cap)) (nat_le 128 (slice_index controls i))

  -- nothing is asked of those below the capacity
  pub low_skipped : (n i : ℕ) (cs : List ℕ) → i + n ≤ cap → n ≤ length cs → questions_of_controls cap controls i cs ≡ questions_of_controls cap controls (i + n) (drop n cs)
  low_skipped zero i cs low fits = let same : i + 0 ≡ i = omega arith in ap (λ j. questions_of_controls cap controls j cs) (sym same)
  low_skipped (suc n) i [] low fits = absurd (omega arith)
  low_skipped (suc n) i (c ∷ cs) low fits =
      let next : i + 1 + n ≡ i + suc n = omega arith in
      rw (lt-ltb i cap (omega arith)) (low_skipped n (i + 1) cs (omega arith) (omega arith) ∙ ap (λ j. questions_of_controls cap controls j (drop n cs)) next)

  pub first_asked : cap ≤ length controls → questions_of_controls cap controls 0 controls ≡ questions_of_controls cap controls cap (drop cap controls)
  first_asked fits = let whole : 0 + cap ≡ cap = omega arith in low_skipped cap 0 controls (omega arith) fits ∙ ap (λ j. questions_of_controls cap controls j (drop cap controls)) whole

  pub next_asked :
      (i : ℕ) → cap ≤ i → i < length controls
      → questions_of_controls cap controls i (drop i controls) ≡ test (is_as_due i) (UnwrappedControlByte i) ∷ questions_of_controls cap controls (i + 1) (drop (i + 1) controls)
  next_asked i high within = rw (drop_more controls i 0 within, le-ltb i cap high) refl

  pub none_asked : (i : ℕ) → length controls ≤ i → questions_of_controls cap controls i (drop i controls) ≡ []
  none_asked i done = rw (drop_all i controls done) refl

-- where all is answered, the controls are as the layout has them
pub controls_wrap : (range : Range) (cap : ℕ) (controls : List ℕ) (i : ℕ) (cs : List ℕ) → AreAnswered range (questions_of_controls cap controls i cs) → wraps cap controls i cs ≡ true
unfolding wraps
controls_wrap range cap controls i [] h = refl
controls_wrap range cap controls i (c ∷ cs) h =
    one (nat_lt i cap) _ _ _ _ h (controls_wrap range cap controls (i + 1) cs)
  where
    one : (a b : Bool) (e : Error) (qs : List Question) (w : Bool) → AreAnswered range (cond a qs (test b e ∷ qs)) → (AreAnswered range qs → w ≡ true) → ((a || b) && w) ≡ true
    one true b e qs w h rest = rest h
    one false b e qs w h rest = rw (h.0) (rest h.1)

-- ---- how many tags there are

module _ (range : Range) (len cap : ℕ) (controls : List ℕ) where
  -- a control is not as it has to be
  pub tags_refused :
      (result : Result (Unit {0}) Error) (e : Error) → result ≡ Err e
      → FirstUnanswered range e (questions_of_controls cap controls 0 controls)
      → MatchResult result (λ _. AreAnswered range (questions_of_tags len cap controls)) (λ d. FirstUnanswered range d (questions_of_tags len cap controls))
  tags_refused result e is f = rw is (refused_before range e (questions_of_controls cap controls 0 controls) _ f)

  module _ (wrapped : AreAnswered range (questions_of_controls cap controls 0 controls)) (tags : ℕ) (counted : tags ≡ count_by (λ c. nat_lt c 128) (take cap controls)) where
    left : Decides range (questions_of_tags len cap controls) (test (count_by (λ c. nat_lt c 128) (take cap controls) == len) (WrongNumberOfElements len (count_by (λ c. nat_lt c 128) (take cap controls))) ∷ [])
    left = behind_answered range (questions_of_controls cap controls 0 controls) _ wrapped

    -- another number than that of the items
    pub tags_differ : tags ≢ len → FirstUnanswered range (WrongNumberOfElements len tags) (questions_of_tags len cap controls)
    tags_differ differs = left.refused _ (unanswered_here (λ e. differs (counted ∙ eqb-true _ len e)) (ap (WrongNumberOfElements len) counted))

    pub tags_agree : tags ≡ len → AreAnswered range (questions_of_tags len cap controls)
    tags_agree same = left.answered (eq-eqb _ len (sym counted ∙ same), tt)
