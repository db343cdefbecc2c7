-- The items between two bounds.
use Rattle.std.proofs.Common.{◌≡◌, ◌∙◌, ℕ, List, [], ◌∷◌, ◌++◌, Bool, true, false, Option, Some, None, refl, ap, sym, subst, append-nil}
use Rattle.std.specs.Prelude.{All, filter, cond, not, nat_eq, take_while, drop, ◌&&◌}
use Rattle.std.specs.List.{prefix_len}
use Rattle.std.specs.Option.{option_eq}
use Rattle.std.proofs.lemmas.Bool.{eqb-true, eq-eqb}
use Rattle.std.proofs.lemmas.List.{take-append-drop}
use Rattle.std.proofs.lemmas.List.Elements.{All-head, All-tail, filter-append, filter_agree}
use Rattle.std.proofs.lemmas.List.Sums.{take_while-cons}
use Rattle.archive_btree_layout.specs.Reading.{Place}
use Rattle.archive_btree_maps.specs.Ranges.{Decides, Stays, IfFirst, IsRun, next_key, before_key}
use Rattle.archive_btree_maps.proofs.Sublists.{all_back, pairs_back, pairs_tail, not_true, not_not, filter_both, filter_all, filter_none, stays_all, stays_none}

-- ---- the items before a key

pub before_key_nil : (end : Option ℕ) → before_key end [] ≡ []
before_key_nil None = refl
before_key_nil (Some key) = refl

abbrev pub behind_key : Option ℕ → List Place → List Place
behind_key None es = []
behind_key (Some key) es = drop (prefix_len (λ e. not (nat_eq e.key key)) es) es

pub key_parts : (end : Option ℕ) (es : List Place) → before_key end es ++ behind_key end es ≡ es
key_parts None es = append-nil es
key_parts (Some key) es = take-append-drop (prefix_len (λ e. not (nat_eq e.key key)) es) es

pub is_run : (end : Option ℕ) (es whole before : List Place) → whole ≡ before ++ es → IsRun (before_key end es) whole
is_run end es whole before is = record { before = before; after = behind_key end es; is = is ∙ ap (λ s. before ++ s) (sym (key_parts end es)) }

pub no_run : (es whole : List Place) → es ≡ [] → IsRun es whole
no_run es whole none = record { before = []; after = whole; is = ap (λ s. s ++ whole) (sym none) }

pub key_here : (end : Option ℕ) (e : Place) (es : List Place) → end ≡ Some e.key → before_key end (e ∷ es) ≡ []
key_here end e es is =
    rw is (take_while-cons (λ x. not (nat_eq x.key e.key)) e es ∙ ap (λ b. cond (not b) (e ∷ take_while (λ x. not (nat_eq x.key e.key)) es) []) (eq-eqb e.key e.key refl))

key_apart : (key : ℕ) (e : Place) (es : List Place) → (key ≡ e.key → ⊥) → take_while (λ x. not (nat_eq x.key key)) (e ∷ es) ≡ e ∷ take_while (λ x. not (nat_eq x.key key)) es
key_apart key e es other =
    take_while-cons (λ x. not (nat_eq x.key key)) e es
    ∙ ap (λ b. cond (not b) (e ∷ take_while (λ x. not (nat_eq x.key key)) es) []) (not_true (nat_eq e.key key) (λ t. other (sym (eqb-true e.key key t))))

pub key_later : (end : Option ℕ) (e : Place) (es : List Place) → (end ≡ Some e.key → ⊥) → before_key end (e ∷ es) ≡ e ∷ before_key end es
key_later None e es other = refl
key_later (Some key) e es other = key_apart key e es (λ same. other (ap Some same))

pub option_differs : (end : Option ℕ) (key : ℕ) → option_eq nat_eq end (Some key) ≡ false → end ≡ Some key → ⊥
option_differs None key differs e = absurd cc
option_differs (Some k) key differs e =
    let same : k ≡ key = cc in
    let yes = eq-eqb k key same in
    absurd cc

-- ---- the items that do not follow

module _ (q : Place → Bool) where
  abbrev within : Place → Bool
  within e = not (q e)

  -- where none follows, all are kept
  kept_all : (es : List Place) → filter q es ≡ [] → filter within es ≡ es
  kept_all [] h = refl
  kept_all (e ∷ es) h = by (q e) refl (kept_all es)
    where
      by : (b : Bool) → q e ≡ b → (filter q es ≡ [] → filter within es ≡ es) → filter within (e ∷ es) ≡ e ∷ es
      by true is rest =
          let some : e ∷ filter q es ≡ [] = rw is at h in
          absurd cc
      by false is rest = rw is (ap (λ s. e ∷ s) (rest (rw is at h)))

  -- where all follow, none is kept
  kept_none : (es : List Place) → All (λ e. q e ≡ true) es → filter within es ≡ []
  kept_none [] h = refl
  kept_none (e ∷ es) h = rw (All-head (λ e. q e ≡ true) e es h) (kept_none es (All-tail (λ e. q e ≡ true) e es h))

  module _ {F : Type 0} (post : F → ℕ → Bool → Type 0) (f : F) (last : Place) (others : List Place) (called : post f last.key true) where
    -- where the first that follows is known, those before its key are kept
    kept_before : (es : List Place) → Decides post f q es → Stays q es → filter q es ≡ last ∷ others → before_key (Some last.key) es ≡ filter within es
    kept_before [] decides stays h = absurd cc
    kept_before (e ∷ es) decides stays h = by (q e) refl (kept_before es (All-tail (λ x. (r : Bool) → post f x.key r → r ≡ q x) e es decides) (pairs_tail (λ a b. q a ≡ true → q b ≡ true) e es stays))
      where
        by : (b : Bool) → q e ≡ b → (filter q es ≡ last ∷ others → before_key (Some last.key) es ≡ filter within es) → before_key (Some last.key) (e ∷ es) ≡ filter within (e ∷ es)
        by true is rest =
            let all = stays_all q e es stays is in
            let same : e ∷ es ≡ last ∷ others = sym (filter_all q (e ∷ es) all) ∙ h in
            let first : last ≡ e = cc in
            key_here (Some last.key) e es (ap (λ x. Some x.key) first) ∙ sym (kept_none (e ∷ es) all)
        by false is rest =
            let apart : last.key ≡ e.key → ⊥ =
            λ same. let t = All-head (λ x. (r : Bool) → post f x.key r → r ≡ q x) e es decides true (subst (λ k. post f k true) same called) in absurd cc
            in
            key_apart last.key e es apart ∙ rw is (ap (λ s. e ∷ s) (rest (rw is at h)))

-- what holds of all keys holds of that of the first
pub first_holds : (P : ℕ → Type 0) (whole before es : List Place) (key : ℕ) → whole ≡ before ++ es → All (λ e. P e.key) whole → next_key es ≡ Some key → P key
first_holds P whole before es key left all is = by es (all_back (λ e. P e.key) before es (subst (All (λ e. P e.key)) left all)) is
  where
    by : (xs : List Place) → All (λ e. P e.key) xs → next_key xs ≡ Some key → P key
    by [] h e = absurd cc
    by (x ∷ xs) h e =
        let same : x.key ≡ key = cc in
        subst P same (All-head (λ y. P y.key) x xs h)

-- ---- the items of a range

module _ {G : Type 0} (post : G → ℕ → Bool → Type 0) (follows : G) (p q : Place → Bool) (whole before es : List Place)
    (left : whole ≡ before ++ es) (begins : es ≡ filter (λ e. not (p e)) whole) (decides : Decides post follows q whole) (stays : Stays q whole) where
  abbrev D : Place → Type 0
  D e = (r : Bool) → post follows e.key r → r ≡ q e

  abbrev R : Place → Place → Type 0
  R a b = q a ≡ true → q b ≡ true

  own_decides : Decides post follows q es
  own_decides = all_back D before es (subst (All D) left decides)

  own_stays : Stays q es
  own_stays = pairs_back R before es (subst (Stays q) left stays)

  both : filter (λ e. not (q e)) es ≡ filter (λ e. not (p e) && not (q e)) whole
  both = ap (filter (λ e. not (q e))) begins ∙ sym (filter_both (λ e. not (p e)) (λ e. not (q e)) whole)

  pub empty_without : next_key es ≡ None → [] ≡ filter (λ e. not (p e) && not (q e)) whole
  empty_without none = sym (nothing es none) ∙ both
    where
      nothing : (xs : List Place) → next_key xs ≡ None → filter (λ e. not (q e)) xs ≡ []
      nothing [] e = refl
      nothing (x ∷ xs) e = absurd cc

  pub empty_reversed : (key : ℕ) → next_key es ≡ Some key → post follows key true → [] ≡ filter (λ e. not (p e) && not (q e)) whole
  empty_reversed key is called = sym (kept_none q es (all_follow es is own_decides own_stays)) ∙ both
    where
      all_follow : (xs : List Place) → next_key xs ≡ Some key → Decides post follows q xs → Stays q xs → All (λ e. q e ≡ true) xs
      all_follow [] e d s = absurd cc
      all_follow (x ∷ xs) e d s =
          let same : key ≡ x.key = cc in
          stays_all q x xs s (sym (All-head D x xs d true (subst (λ k. post follows k true) same called)))

  -- the first does not follow
  module _ (key : ℕ) (is : next_key es ≡ Some key) (called : post follows key false) where
    -- so none before it does
    same_end : filter q whole ≡ filter q es
    same_end = ap (filter q) left ∙ filter-append q before es ∙ ap (λ s. s ++ filter q es) (filter_none q before (none es is own_decides (subst (Stays q) left stays)))
      where
        none : (xs : List Place) → next_key xs ≡ Some key → Decides post follows q xs → Stays q (before ++ xs) → All (λ e. q e ≡ false) before
        none [] e d s = absurd cc
        none (x ∷ xs) e d s =
            let same : key ≡ x.key = cc in
            stays_none q before xs x s (sym (All-head D x xs d false (subst (λ k. post follows k false) same called)))

    pub range_is : (end : List Place) → end ≡ filter (λ e. not (not (q e))) whole → IfFirst (λ e. post follows e.key true) end
        → before_key (next_key end) es ≡ filter (λ e. not (p e) && not (q e)) whole
    range_is end ends first = by end (ends ∙ filter_agree (λ e. not (not (q e))) q (λ e. not_not (q e)) whole ∙ same_end) first ∙ both
      where
        by : (xs : List Place) → xs ≡ filter q es → IfFirst (λ e. post follows e.key true) xs → before_key (next_key xs) es ≡ filter (λ e. not (q e)) es
        by [] e h = sym (kept_all q es (sym e))
        by (x ∷ xs) e h = kept_before q post follows x xs h es own_decides own_stays (sym e)
