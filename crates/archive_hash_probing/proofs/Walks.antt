-- A look-up from stride to stride.
use Rattle.std.proofs.Common.{◌≡◌, ℕ, ◌+◌, true, false, cond, List, [], ◌∷◌, refl, sym, ap, subst, arith, Option, Some, None}
use Rattle.std.specs.List.{list_any}
use Rattle.std.proofs.lemmas.List.Elements.{All-nil, All-cons, All-weaker}
use Rattle.archive_shape_canonical.specs.Reach.{is_empty, shown, searched}
use Rattle.archive_hash_probing.specs.Search.{IsAnswer, IsFoundIn, IsRefused}

module _ (accepted refused : ℕ → Type 0) (cs : List ℕ) (cap tag : ℕ) where
  abbrev Answers : List ℕ → Option ℕ → ℕ → Type 0
  Answers ps r n = IsAnswer accepted refused cs cap tag ps r n

  answer_after : (p : ℕ) (ps : List ℕ) (r : Option ℕ) (n : ℕ) → IsRefused accepted refused cs cap tag p → Answers ps r n → Answers (p ∷ ps) r (1 + n)
  answer_after p ps None n h a = (omega (arith, a.0), All-cons (IsRefused accepted refused cs cap tag) p ps h a.1)
  answer_after p ps (Some place) n h a = record {
    prior = p ∷ a.prior;
    stride = a.stride;
    later = a.later;
    strides_are = ap (λ qs. p ∷ qs) a.strides_are;
    count = omega (arith, a.count);
    refused_before = All-cons (IsRefused accepted refused cs cap tag) p a.prior h a.refused_before;
    found = a.found;
  }

  answer_here : (p place : ℕ) (ps : List ℕ) → IsFoundIn accepted refused cs cap tag p place → Answers (p ∷ ps) (Some place) 1
  answer_here p place ps h = record {
    prior = [];
    stride = p;
    later = ps;
    strides_are = refl;
    count = refl;
    refused_before = All-nil (IsRefused accepted refused cs cap tag);
    found = h;
  }

  answer_none : (p : ℕ) → IsRefused accepted refused cs cap tag p → Answers (p ∷ []) None 1
  answer_none p h = (refl, All-cons (IsRefused accepted refused cs cap tag) p [] h (All-nil (IsRefused accepted refused cs cap tag)))

  -- the result along the strides that are left is that of the whole, with those already searched
  abbrev pub Goes : (all left : List ℕ) (searched_before : ℕ) → Type 0
  Goes all left before = (r : Option ℕ) (i m : ℕ) → Answers (searched cs left) r i → m ≡ before + i → Answers (searched cs all) r m

  pub goes_first : (all : List ℕ) → Goes all all 0
  goes_first all r i m a e =
      let same : i ≡ m = omega arith in subst (λ (j : ℕ). Answers (searched cs all) r j) same a

  after_full : (p : ℕ) (ps : List ℕ) → list_any is_empty (shown cs p) ≡ false → searched cs (p ∷ ps) ≡ p ∷ searched cs ps
  after_full p ps e = ap (λ b. p ∷ cond b [] (searched cs ps)) e

  after_empty : (p : ℕ) (ps : List ℕ) → list_any is_empty (shown cs p) ≡ true → searched cs (p ∷ ps) ≡ p ∷ []
  after_empty p ps e = ap (λ b. p ∷ cond b [] (searched cs ps)) e

  module _ (all left : List ℕ) (p before : ℕ) (go : Goes all (p ∷ left) before) where
    pub goes_past : IsRefused accepted refused cs cap tag p → list_any is_empty (shown cs p) ≡ false → Goes all left (before + 1)
    goes_past h full r i m a e =
        go r (1 + i) m (subst (λ (ps : List ℕ). Answers ps r (1 + i)) (sym (after_full p left full)) (answer_after p (searched cs left) r i h a)) (omega arith)

    pub goes_found : (place : ℕ) → IsFoundIn accepted refused cs cap tag p place → Answers (searched cs all) (Some place) (before + 1)
    goes_found place h = go (Some place) 1 (before + 1) (answer_here p place _ h) refl

    pub goes_empty : IsRefused accepted refused cs cap tag p → list_any is_empty (shown cs p) ≡ true → Answers (searched cs all) None (before + 1)
    goes_empty h empty = go None 1 (before + 1) (subst (λ (ps : List ℕ). Answers ps None 1) (sym (after_empty p left empty)) (answer_none p h)) refl

  pub goes_end : (all : List ℕ) (before : ℕ) → Goes all [] before → Answers (searched cs all) None before
  goes_end all before go = go None 0 before (refl, All-nil (IsRefused accepted refused cs cap tag)) (omega arith)

pub retagged : (accepted refused : ℕ → Type 0) (cs : List ℕ) (cap t u : ℕ) (ps : List ℕ) (r : Option ℕ) (n : ℕ) → t ≡ u → IsAnswer accepted refused cs cap t ps r n → IsAnswer accepted refused cs cap u ps r n
retagged accepted refused cs cap t u ps r n e a = subst (λ (x : ℕ). IsAnswer accepted refused cs cap x ps r n) e a

-- an answer by what acceptance and refusal mean
pub answer_as : (A R B S : ℕ → Type 0) (cs : List ℕ) (cap tag : ℕ) (ps : List ℕ) (r : Option ℕ) (n : ℕ) → ((p : ℕ) → A p → B p) → ((p : ℕ) → R p → S p)
    → IsAnswer A R cs cap tag ps r n → IsAnswer B S cs cap tag ps r n
answer_as A R B S cs cap tag ps None n f g a = (a.0, All-weaker (IsRefused A R cs cap tag) (IsRefused B S cs cap tag) (λ p h k l t. g _ (h k l t)) ps a.1)
answer_as A R B S cs cap tag ps (Some place) n f g a = record {
  prior = a.prior;
  stride = a.stride;
  later = a.later;
  strides_are = a.strides_are;
  count = a.count;
  refused_before = All-weaker (IsRefused A R cs cap tag) (IsRefused B S cs cap tag) (λ p h k l t. g _ (h k l t)) a.prior a.refused_before;
  found = record {
    lane = a.found.lane;
    within = a.found.within;
    place_is = a.found.place_is;
    full = a.found.full;
    tagged = a.found.tagged;
    taken = f place a.found.taken;
    before = λ k l t. g _ (a.found.before k l t);
  };
}
