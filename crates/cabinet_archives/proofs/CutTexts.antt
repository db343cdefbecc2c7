-- The first characters of a text, one byte after the other.
use Rattle.std.proofs.Common.{◌≡◌, ◌∙◌, ℕ, zero, suc, ◌+◌, ◌-◌, ◌<◌, ◌≤◌, Bool, true, false, cond, List, [], ◌∷◌, ◌++◌, length, take, drop, get_or, codes, Option, Some, None, Result, Ok, Err, IfOk, refl, sym, ap, ap₂, arith, subst, append_assoc, append-nil}
use Rattle.std.proofs.lemmas.List.{take_more, take_all, drop_more, drop_all}
use Rattle.archive_shape_layout.specs.Progress.{Progress}
use Rattle.archive_shape_layout.specs.Writing.{Written, Failed, Appends}
use Rattle.archive_shape_layout.specs.declared.error.Error.{Error}
use Rattle.archive_shape_layout.proofs.Joined.{failed_first, appends_after}
use Rattle.cabinet_text_grammar.specs.Spelling.{escaped, escaped_byte}
use Rattle.cabinet_text_nodes.proofs.Pieces.{written_as, failed_as}
use Rattle.cabinet_archives.specs.MapLines.{begins, cut, left_after}

module _ (b : ℕ) (t : List ℕ) where
  pub cut_character : (left : ℕ) → begins b ≡ true → cut (suc left) (b ∷ t) ≡ b ∷ cut left t
  unfolding cut
  cut_character left e = ap (λ x. b ∷ cond x (cut left t) (cut (suc left) t)) e

  pub cut_within : (left : ℕ) → begins b ≡ false → cut left (b ∷ t) ≡ b ∷ cut left t
  unfolding cut
  cut_within zero e = ap (λ x. cond x (codes "..") (b ∷ cut zero t)) e
  cut_within (suc left) e = ap (λ x. b ∷ cond x (cut left t) (cut (suc left) t)) e

  pub cut_full : begins b ≡ true → cut 0 (b ∷ t) ≡ codes ".."
  unfolding cut
  cut_full e = ap (λ x. cond x (codes "..") (b ∷ cut zero t)) e

  pub left_character : (left : ℕ) → begins b ≡ true → left_after (suc left) (b ∷ t) ≡ left_after left t
  unfolding left_after
  left_character left e = ap (λ x. cond x (left_after left t) (left_after (suc left) t)) e

  pub left_within : (left : ℕ) → begins b ≡ false → left_after left (b ∷ t) ≡ left_after left t
  unfolding left_after
  left_within zero e = ap (λ x. cond x None (left_after zero t)) e
  left_within (suc left) e = ap (λ x. cond x (left_after left t) (left_after (suc left) t)) e

  pub left_full : begins b ≡ true → left_after 0 (b ∷ t) ≡ None
  unfolding left_after
  left_full e = ap (λ x. cond x None (left_after zero t)) e

pub one_fewer : (n : ℕ) → (n ≡ 0 → ⊥) → suc (n - 1) ≡ n
one_fewer n some = omega (arith, some)

-- the first i bytes of a piece are written whole, and so many characters are left for the others
pub record IsPassed (piece : List ℕ) (most left i : ℕ) : Type 0 where
  pub cut_is : cut most piece ≡ take i piece ++ cut left (drop i piece)
  pub left_is : left_after most piece ≡ left_after left (drop i piece)

module _ (piece : List ℕ) (most : ℕ) where
  pub none_passed : IsPassed piece most most 0
  none_passed = record { cut_is = refl; left_is = refl }

  module _ {left i : ℕ} (less : i < length piece) (is : IsPassed piece most left i) where
    joined : (m : ℕ) → cut left (drop i piece) ≡ get_or piece i 0 ∷ cut m (drop (i + 1) piece)
        → cut most piece ≡ take (i + 1) piece ++ cut m (drop (i + 1) piece)
    joined m e =
        is.cut_is ∙ ap (λ x. take i piece ++ x) e
        ∙ sym (append_assoc (take i piece) (get_or piece i 0 ∷ []) (cut m (drop (i + 1) piece)))
        ∙ ap (λ x. x ++ cut m (drop (i + 1) piece)) (sym (take_more piece i 0 less))

    pub character_passed : (m : ℕ) → suc m ≡ left → begins (get_or piece i 0) ≡ true → IsPassed piece most m (i + 1)
    character_passed m fewer e =
        let b = get_or piece i 0 in
        let rest = drop (i + 1) piece in
        let next : drop i piece ≡ b ∷ rest = drop_more piece i 0 less in
        record {
          cut_is = joined m (ap₂ cut (sym fewer) next ∙ cut_character b rest m e);
          left_is = is.left_is ∙ ap₂ left_after (sym fewer) next ∙ left_character b rest m e;
        }

    pub byte_passed : begins (get_or piece i 0) ≡ false → IsPassed piece most left (i + 1)
    byte_passed e =
        let b = get_or piece i 0 in
        let rest = drop (i + 1) piece in
        let next : drop i piece ≡ b ∷ rest = drop_more piece i 0 less in
        record {
          cut_is = joined left (ap (cut left) next ∙ cut_within b rest left e);
          left_is = is.left_is ∙ ap (left_after left) next ∙ left_within b rest left e;
        }

    -- no character is left for the next byte
    pub cut_there : left ≡ 0 → begins (get_or piece i 0) ≡ true → cut most piece ≡ take i piece ++ codes ".."
    cut_there none e =
        is.cut_is ∙ ap₂ (λ m x. take i piece ++ cut m x) none (drop_more piece i 0 less)
        ∙ ap (λ x. take i piece ++ x) (cut_full (get_or piece i 0) (drop (i + 1) piece) e)

    pub left_there : left ≡ 0 → begins (get_or piece i 0) ≡ true → left_after most piece ≡ None
    left_there none e =
        is.left_is ∙ ap₂ left_after none (drop_more piece i 0 less) ∙ left_full (get_or piece i 0) (drop (i + 1) piece) e

  -- all bytes are passed
  pub all_passed : {left i : ℕ} → length piece ≤ i → IsPassed piece most left i
      → (cut most piece ≡ piece) × (left_after most piece ≡ Some left)
  unfolding cut left_after
  all_passed {left = left} {i = i} all is = (
    is.cut_is ∙ ap₂ (λ x y. x ++ cut left y) (take_all i piece all) (drop_all i piece all) ∙ append-nil piece,
    is.left_is ∙ ap (left_after left) (drop_all i piece all),
  )

-- ---- one text after another

-- by the first byte of a text, whether it begins a character
pub data FirstByte (b : ℕ) : Type 0 where
  begins_one : begins b ≡ true → FirstByte b
  goes_on : begins b ≡ false → FirstByte b

pub first_byte : (b : ℕ) → FirstByte b
first_byte b = by (begins b) refl
  where
    by : (c : Bool) → begins b ≡ c → FirstByte b
    by true e = begins_one e
    by false e = goes_on e

-- where all of the first has room, the second is cut at what is left
pub record IsWhole (most left : ℕ) (a b : List ℕ) : Type 0 where
  pub alone : cut most a ≡ a
  pub both : cut most (a ++ b) ≡ a ++ cut left b
  pub after : left_after most (a ++ b) ≡ left_after left b

-- and where it has not, the second does not matter
pub record IsCutBefore (most : ℕ) (a b : List ℕ) : Type 0 where
  pub both : cut most (a ++ b) ≡ cut most a
  pub after : left_after most (a ++ b) ≡ None

nothing_whole : (most : ℕ) (b : List ℕ) → IsWhole most most [] b
unfolding cut left_after
nothing_whole most b = record { alone = refl; both = refl; after = refl }

nothing_left : (most left : ℕ) → left_after most [] ≡ Some left → most ≡ left
unfolding left_after
nothing_left most left e = cc

nothing_cut : (most : ℕ) → left_after most [] ≡ None → ⊥
unfolding left_after
nothing_cut most e = cc

module _ (x : ℕ) (a b : List ℕ) where
  whole_character : (most left : ℕ) → begins x ≡ true → IsWhole most left a b → IsWhole (suc most) left (x ∷ a) b
  whole_character most left e h = record {
    alone = cut_character x a most e ∙ ap (λ t. x ∷ t) h.alone;
    both = cut_character x (a ++ b) most e ∙ ap (λ t. x ∷ t) h.both;
    after = left_character x (a ++ b) most e ∙ h.after;
  }

  whole_byte : (most left : ℕ) → begins x ≡ false → IsWhole most left a b → IsWhole most left (x ∷ a) b
  whole_byte most left e h = record {
    alone = cut_within x a most e ∙ ap (λ t. x ∷ t) h.alone;
    both = cut_within x (a ++ b) most e ∙ ap (λ t. x ∷ t) h.both;
    after = left_within x (a ++ b) most e ∙ h.after;
  }

  cut_before_character : (most : ℕ) → begins x ≡ true → IsCutBefore most a b → IsCutBefore (suc most) (x ∷ a) b
  cut_before_character most e h = record {
    both = cut_character x (a ++ b) most e ∙ ap (λ t. x ∷ t) h.both ∙ sym (cut_character x a most e);
    after = left_character x (a ++ b) most e ∙ h.after;
  }

  cut_before_byte : (most : ℕ) → begins x ≡ false → IsCutBefore most a b → IsCutBefore most (x ∷ a) b
  cut_before_byte most e h = record {
    both = cut_within x (a ++ b) most e ∙ ap (λ t. x ∷ t) h.both ∙ sym (cut_within x a most e);
    after = left_within x (a ++ b) most e ∙ h.after;
  }

  cut_before_full : begins x ≡ true → IsCutBefore 0 (x ∷ a) b
  cut_before_full e = record { both = cut_full x (a ++ b) e ∙ sym (cut_full x a e); after = left_full x (a ++ b) e }

pub whole_first : (most left : ℕ) (a b : List ℕ) → left_after most a ≡ Some left → IsWhole most left a b
whole_first most left [] b e = subst (λ m. IsWhole most m [] b) (nothing_left most left e) (nothing_whole most b)
whole_first zero left (x ∷ a) b e =
    elim (first_byte x) [
      | begins_one f ↦ let none = sym (left_full x a f) ∙ e in absurd (cc)
      | goes_on f ↦ whole_byte x a b zero left f (whole_first zero left a b (sym (left_within x a zero f) ∙ e))
    ]
whole_first (suc most) left (x ∷ a) b e =
    elim (first_byte x) [
      | begins_one f ↦ whole_character x a b most left f (whole_first most left a b (sym (left_character x a most f) ∙ e))
      | goes_on f ↦ whole_byte x a b (suc most) left f (whole_first (suc most) left a b (sym (left_within x a (suc most) f) ∙ e))
    ]

pub cut_first : (most : ℕ) (a b : List ℕ) → left_after most a ≡ None → IsCutBefore most a b
cut_first most [] b e = absurd (nothing_cut most e)
cut_first zero (x ∷ a) b e =
    elim (first_byte x) [
      | begins_one f ↦ cut_before_full x a b f
      | goes_on f ↦ cut_before_byte x a b zero f (cut_first zero a b (sym (left_within x a zero f) ∙ e))
    ]
cut_first (suc most) (x ∷ a) b e =
    elim (first_byte x) [
      | begins_one f ↦ cut_before_character x a b most f (cut_first most a b (sym (left_character x a most f) ∙ e))
      | goes_on f ↦ cut_before_byte x a b (suc most) f (cut_first (suc most) a b (sym (left_within x a (suc most) f) ∙ e))
    ]

-- what is written of the first of two texts alone is also written first of both
begun_alike : (most : ℕ) (a b : List ℕ) → (later : List ℕ) × (cut most (a ++ b) ≡ cut most a ++ later)
begun_alike most a b = by (left_after most a) refl
  where
    by : (left : Option ℕ) → left_after most a ≡ left → (later : List ℕ) × (cut most (a ++ b) ≡ cut most a ++ later)
    by None e = ([], (cut_first most a b e).both ∙ sym (append-nil (cut most a)))
    by (Some left) e =
        let whole = whole_first most left a b e in
        (cut left b, whole.both ∙ ap (λ x. x ++ cut left b) (sym whole.alone))

pub left_then : {more : Option ℕ} (most left : ℕ) (a b : List ℕ) → Some left ≡ left_after most a
    → more ≡ left_after left b → more ≡ left_after most (a ++ b)
left_then most left a b e f = f ∙ sym (whole_first most left a b (sym e)).after

pub left_if_ok : (most left : ℕ) (a b : List ℕ) (result : Result (Option ℕ) Error) → Some left ≡ left_after most a
    → IfOk result (λ more. more ≡ left_after left b) → IfOk result (λ more. more ≡ left_after most (a ++ b))
left_if_ok most left a b (Ok more) e f = left_then most left a b e f
left_if_ok most left a b (Err x) e f = f

pub none_then : (most : ℕ) (a b : List ℕ) → None ≡ left_after most a → None ≡ left_after most (a ++ b)
none_then most a b e = sym (cut_first most a b (sym e)).after

module _ {W : Type 0} {observable counts : Bool} {contents : W → List ℕ} {pos failures : W → ℕ} {last_error : W → Error} {known : W → ℕ → Progress ℕ} where
  -- the first of two texts is cut
  pub cut_written : {old new : W} (most : ℕ) (a b : List ℕ) → None ≡ left_after most a
      → Written observable counts contents pos failures last_error known old new (cut most a)
      → Written observable counts contents pos failures last_error known old new (cut most (a ++ b))
  cut_written most a b e written = written_as (sym (cut_first most a b (sym e)).both) written

  -- the first failed
  pub cut_failed : {old new : W} {e : Error} (most : ℕ) (a b : List ℕ)
      → Failed observable counts contents pos failures last_error known old new (cut most a) e
      → Failed observable counts contents pos failures last_error known old new (cut most (a ++ b)) e
  cut_failed most a b failed =
      let alike = begun_alike most a b in
      failed_as (sym alike.1) (failed_first alike.0 failed)

  -- the first was written, and then a call writes what the second begins with
  pub cut_appends : {A : Type 0} {old mid : W} (new : W) (most left : ℕ) (a b : List ℕ) (result : Result A Error)
      → Some left ≡ left_after most a
      → Written observable counts contents pos failures last_error known old mid (cut most a)
      → Appends observable counts contents pos failures last_error known mid new (cut left b) result
      → Appends observable counts contents pos failures last_error known old new (cut most (a ++ b)) result
  cut_appends {old = old} new most left a b result e written appends =
      let whole = whole_first most left a b (sym e) in
      let P : List ℕ → Type 0 = λ piece. Appends observable counts contents pos failures last_error known old new piece result in
      subst P (ap (λ x. x ++ cut left b) whole.alone ∙ sym whole.both) (appends_after new (cut left b) result written appends)

-- ---- a key, one byte after the other

pub byte_alone : (key : List ℕ) (i : ℕ) → i < length key → take (i + 1 - i) (drop i key) ≡ get_or key i 0 ∷ []
byte_alone key i less =
    let one : i + 1 - i ≡ 1 = omega arith in
    ap₂ take one (drop_more key i 0 less)

pub key_next : (key done : List ℕ) (i : ℕ) → i < length key → escaped key ≡ done ++ escaped (drop i key)
    → escaped key ≡ (done ++ escaped_byte (get_or key i 0)) ++ escaped (drop (i + 1) key)
key_next key done i less is =
    is ∙ ap (λ x. done ++ escaped x) (drop_more key i 0 less)
    ∙ sym (append_assoc done (escaped_byte (get_or key i 0)) (escaped (drop (i + 1) key)))

pub key_done : (key done : List ℕ) (i : ℕ) → length key ≤ i → escaped key ≡ done ++ escaped (drop i key)
    → escaped key ≡ done
key_done key done i all is = is ∙ ap (λ x. done ++ escaped x) (drop_all i key all) ∙ append-nil done
