-- What is left of a list of questions decides it.
use Rattle.std.proofs.Common.{◌≡◌, List, [], ◌∷◌, ◌++◌, refl, sym, subst}
use Rattle.archive_shape.specs.Range.{Range}
use Rattle.archive_shape.specs.Questions.{Question, IsAnswered, AreAnswered, FirstUnanswered, refusal_of}
use Rattle.archive_shape.specs.Questions.FirstUnanswered.{unanswered_here, unanswered_later}
use Rattle.archive_shape_layout.specs.declared.error.Error.{Error}

pub record Decides (range : Range) (whole rest : List Question) : Type 0 where
  pub answered : AreAnswered range rest → AreAnswered range whole
  pub refused : (e : Error) → FirstUnanswered range e rest → FirstUnanswered range e whole

pub all_asked : (range : Range) (whole rest : List Question) → rest ≡ whole → Decides range whole rest
all_asked range whole rest same = record {
  answered = subst (AreAnswered range) same;
  refused = λ e. subst (FirstUnanswered range e) same;
}

-- those after them, where the first ones are answered
pub behind_answered : (range : Range) (xs ys : List Question) → AreAnswered range xs → Decides range (xs ++ ys) ys
behind_answered range [] ys h = all_asked range ys ys refl
behind_answered range (q ∷ xs) ys h =
    let rest = behind_answered range xs ys h.1 in
    record { answered = λ i. (h.0, rest.answered i); refused = λ e f. unanswered_later h.0 (rest.refused e f) }

pub both_answered : (range : Range) (xs ys : List Question) → AreAnswered range (xs ++ ys) → AreAnswered range xs × AreAnswered range ys
both_answered range [] ys h = (tt, h)
both_answered range (q ∷ xs) ys h = let rest = both_answered range xs ys h.1 in ((h.0, rest.0), rest.1)

-- the first ones, where one of them is not
pub refused_before : (range : Range) (e : Error) (xs ys : List Question) → FirstUnanswered range e xs → FirstUnanswered range e (xs ++ ys)
refused_before range e [] ys f = elim f [ ]
refused_before range e (q ∷ xs) ys (unanswered_here n is) = unanswered_here n is
refused_before range e (q ∷ xs) ys (unanswered_later h f) = unanswered_later h (refused_before range e xs ys f)

module _ {range : Range} {whole left : List Question} (h : Decides range whole left) {q : Question} {rest : List Question} (is : left ≡ q ∷ rest) where
  pub one_answered : IsAnswered range q → Decides range whole rest
  one_answered own = record {
    answered = λ i. h.answered (subst (AreAnswered range) (sym is) (own, i));
    refused = λ e f. h.refused e (subst (FirstUnanswered range e) (sym is) (unanswered_later own f));
  }

  pub one_refused : (e : Error) → (IsAnswered range q → ⊥) → e ≡ refusal_of q → FirstUnanswered range e whole
  one_refused e not_so named = h.refused e (subst (FirstUnanswered range e) (sym is) (unanswered_here not_so named))
