-- The bytes that were given of an input, and the lines in them.
use Rattle.std.proofs.Common.{◌≡◌, ◌≢◌, ℕ, ◌+◌, ◌<◌, ◌≤◌, ◌==◌, suc, zero, Bool, true, false, cond, List, [], ◌∷◌, ◌++◌, length, take, drop, refl, sym, ap, ◌∙◌, append_assoc, append-nil, arith, eqb-true, Some, None, get_or}
use Rattle.std.proofs.lemmas.List.{take-append-drop, take_all, drop_more, get_or-take, length-take-le}
use Rattle.std.proofs.lemmas.List.Quantifiers.{position-Some}
use Rattle.std.proofs.lemmas.List.Sums.{sum_by-cons, sum_by-append, sum_by_push}
use Rattle.std.specs.List.{position}
use Rattle.cabinet_text_bytes.proofs.Positions.{position-None}
use Rattle.cabinet_text.specs.Input.{lines_of, onto_first, newlines, line_begun, begun_in}
use Rattle.cabinet_text.specs.LineSteps.{EndsAt}

-- 1 for a newline, and 0 for every other byte
abbrev one_at : ℕ → ℕ
one_at b = cond (b == 10) 1 0

newlines-cons : (b : ℕ) (bs : List ℕ) → newlines (b ∷ bs) ≡ one_at b + newlines bs
newlines-cons b bs = sum_by-cons one_at b bs

pub newlines-append : (xs ys : List ℕ) → newlines (xs ++ ys) ≡ newlines xs + newlines ys
newlines-append xs ys = sum_by-append one_at xs ys

neither : (t : Bool) (n : ℕ) → cond t 1 0 + n ≡ 0 → (t ≡ false) × (n ≡ 0)
neither true n h = absurd (omega arith)
neither false n h = (refl, omega arith)

clean : (b : ℕ) (bs : List ℕ) → newlines (b ∷ bs) ≡ 0 → ((b == 10) ≡ false) × (newlines bs ≡ 0)
clean b bs h = neither (b == 10) (newlines bs) (sym (newlines-cons b bs) ∙ h)

-- ---- the line begun

pub line_begun-append : (b xs ys : List ℕ) → line_begun b (xs ++ ys) ≡ line_begun (line_begun b xs) ys
line_begun-append b [] ys = refl
line_begun-append b (x ∷ xs) ys =
    elim (x == 10) as (λ t.
    cond t (line_begun [] (xs ++ ys)) (line_begun (b ++ x ∷ []) (xs ++ ys))
    ≡ line_begun (cond t (line_begun [] xs) (line_begun (b ++ x ∷ []) xs)) ys) [
      | true ↦ line_begun-append [] xs ys
      | false ↦ line_begun-append (b ++ x ∷ []) xs ys
    ]

pub line_begun-clean : (b xs : List ℕ) → newlines xs ≡ 0 → line_begun b xs ≡ b ++ xs
line_begun-clean b [] h = sym (append-nil b)
line_begun-clean b (x ∷ xs) h = let c = clean x xs h in rw c.0 (line_begun-clean (b ++ x ∷ []) xs c.1 ∙ append_assoc b (x ∷ []) xs)

clean_push : (b : List ℕ) (x : ℕ) → newlines b ≡ 0 → (x == 10) ≡ false → newlines (b ++ x ∷ []) ≡ 0
clean_push b x h e =
    let d : one_at x ≡ 0 = rw e refl in
    let p : newlines (b ++ x ∷ []) ≡ newlines b + one_at x = sum_by_push one_at b x in
    omega arith

pub begun_clean : (b xs : List ℕ) → newlines b ≡ 0 → newlines (line_begun b xs) ≡ 0
begun_clean b [] h = h
begun_clean b (x ∷ xs) h =
    elim (x == 10) as (λ t. (x == 10) ≡ t → newlines (cond t (line_begun [] xs) (line_begun (b ++ x ∷ []) xs)) ≡ 0) [
      | true ↦ λ e. begun_clean [] xs refl
      | false ↦ λ e. begun_clean (b ++ x ∷ []) xs (clean_push b x h e)
    ] refl

-- ---- the lines of bytes

lines_begun : (b rest : List ℕ) → newlines b ≡ 0 → lines_of (b ++ 10 ∷ rest) ≡ b ∷ lines_of rest
lines_begun [] rest h = refl
lines_begun (c ∷ cs) rest h = let d = clean c cs h in rw d.0 (ap (onto_first c) (lines_begun cs rest d.1))

-- the first line of bytes
pub record FirstLine (bytes : List ℕ) : Type 0 where
  pub line : List ℕ
  pub later : List (List ℕ)
  pub is : lines_of bytes ≡ line ∷ later
  pub some : line ≢ []

onto_some : (b : ℕ) (lines : List (List ℕ))
    → (line : List ℕ) × (later : List (List ℕ)) × (onto_first b lines ≡ line ∷ later) × (line ≢ [])
onto_some b [] = (b ∷ [], [], refl, λ none. absurd (cc))
onto_some b (line ∷ lines) = (b ∷ line, lines, refl, λ none. absurd (cc))

-- if no newline is the first of them, that line has bytes
pub first_line : (bytes more : List ℕ) → newlines bytes ≡ 0 → 0 < length bytes → FirstLine (bytes ++ more)
first_line [] more h l = absurd (omega arith)
first_line (b ∷ bs) more h l =
    let c = clean b bs h in
    let o = onto_some b (lines_of (bs ++ more)) in
    record { line = o.0; later = o.1; is = rw c.0 o.2; some = o.3 }

-- a last line needs no newline
pub line_alone : (b : List ℕ) → newlines b ≡ 0 → 0 < length b → lines_of b ≡ b ∷ []
line_alone [] h l = absurd (omega arith)
line_alone (c ∷ []) h l = let d = clean c [] h in rw d.0 refl
line_alone (c ∷ e ∷ es) h l = let d = clean c (e ∷ es) h in rw d.0 (ap (onto_first c) (line_alone (e ∷ es) d.1 (omega arith)))

drop_line : (n : ℕ) (b : List ℕ) (g r : List ℕ) → newlines b ≡ 0 → n ≡ suc (newlines g)
    → drop n (lines_of (b ++ 10 ∷ (g ++ r))) ≡ drop (newlines g) (lines_of (g ++ r))
drop_line n b g r h e = ap (λ m. drop m (lines_of (b ++ 10 ∷ (g ++ r)))) e ∙ ap (drop (suc (newlines g))) (lines_begun b (g ++ r) h)

left_at_newline : (b : List ℕ) (c : ℕ) (g r : List ℕ) → newlines b ≡ 0 → (c == 10) ≡ true
    → drop (newlines (c ∷ g)) (lines_of (b ++ (c ∷ g ++ r))) ≡ drop (newlines g) (lines_of (g ++ r))
left_at_newline b c g r h e =
    let one : one_at c ≡ 1 = rw e refl in
    let n : newlines (c ∷ g) ≡ suc (newlines g) = omega (arith, newlines-cons c g) in
    ap (λ d. drop (newlines (c ∷ g)) (lines_of (b ++ (d ∷ g ++ r)))) (eqb-true c 10 e) ∙ drop_line (newlines (c ∷ g)) b g r h n

left_at_other : (b : List ℕ) (c : ℕ) (g r : List ℕ) → (c == 10) ≡ false
    → drop (newlines (c ∷ g)) (lines_of (b ++ (c ∷ g ++ r))) ≡ drop (newlines g) (lines_of ((b ++ c ∷ []) ++ (g ++ r)))
left_at_other b c g r e =
    let none : one_at c ≡ 0 = rw e refl in
    let n : newlines (c ∷ g) ≡ newlines g = omega (arith, newlines-cons c g) in
    ap (λ m. drop m (lines_of (b ++ (c ∷ g ++ r)))) n ∙ ap (λ l. drop (newlines g) (lines_of l)) (sym (append_assoc b (c ∷ []) (g ++ r)))

-- after the lines that end in the bytes given come the line begun and the bytes left
lines_left : (b g r : List ℕ) → newlines b ≡ 0 → drop (newlines g) (lines_of (b ++ (g ++ r))) ≡ lines_of (line_begun b g ++ r)
lines_left b [] r h = refl
lines_left b (c ∷ g) r h =
    elim (c == 10) as (λ t.
    (c == 10) ≡ t → drop (newlines (c ∷ g)) (lines_of (b ++ (c ∷ g ++ r)))
    ≡ lines_of (cond t (line_begun [] g) (line_begun (b ++ c ∷ []) g) ++ r)) [
      | true ↦ λ e. left_at_newline b c g r h e ∙ lines_left [] g r refl
      | false ↦ λ e. left_at_other b c g r e ∙ lines_left (b ++ c ∷ []) g r (clean_push b c h e)
    ] refl

pub lines_behind : (given rest : List ℕ) → drop (newlines given) (lines_of (given ++ rest)) ≡ lines_of (begun_in given ++ rest)
lines_behind given rest = lines_left [] given rest refl

pub next_line : (given rest more : List ℕ) → newlines rest ≡ 0
    → drop (newlines given) (lines_of (given ++ (rest ++ 10 ∷ more))) ≡ (begun_in given ++ rest) ∷ lines_of more
next_line given rest more h =
    let c : newlines (begun_in given ++ rest) ≡ 0 = omega (arith, newlines-append (begun_in given) rest, begun_clean [] given refl) in
    lines_behind given (rest ++ 10 ∷ more) ∙ ap lines_of (sym (append_assoc (begun_in given) rest (10 ∷ more)))
    ∙ lines_begun (begun_in given ++ rest) more c

-- ---- the first newline

none_before : (bytes : List ℕ) (n : ℕ) → ((k : ℕ) → k < n → (get_or bytes k 0 == 10) ≡ false) → newlines (take n bytes) ≡ 0
none_before bytes zero h = refl
none_before [] (suc n) h = refl
none_before (b ∷ bs) (suc n) h =
    let none : one_at b ≡ 0 = rw (h 0 (omega arith)) refl in
    omega (arith, newlines-cons b (take n bs), none_before bs n (λ k l. h (suc k) (omega arith)))

pub ends_at : (bytes : List ℕ) (end : ℕ) → end < length bytes → (get_or bytes end 0 == 10) ≡ true
    → ((k : ℕ) → k < end → (get_or bytes k 0 == 10) ≡ false) → EndsAt bytes end
ends_at bytes end inside here before =
    let ten : get_or bytes end 0 ≡ 10 = eqb-true _ 10 here in
    record {
      inside = inside;
      clean = none_before bytes end before;
      parts =
          sym (take-append-drop end bytes)
          ∙ ap (λ l. take end bytes ++ l) (drop_more bytes end 0 inside ∙ ap (λ b. b ∷ drop (end + 1) bytes) ten);
    }

-- the first newline is looked for among the first bytes alone
pub ends_within : (bytes : List ℕ) (n end : ℕ) → n ≤ length bytes → position (λ b. b == 10) (take n bytes) ≡ Some end
    → EndsAt bytes end
ends_within bytes n end h e =
    let p = position-Some (λ b. b == 10) (take n bytes) end 0 e in
    let l : length (take n bytes) ≡ n = length-take-le n bytes h in
    ends_at bytes end (omega (arith, p.0, l, h)) (ap (λ b. b == 10) (sym (get_or-take n bytes end 0 (omega (arith, p.0, l)))) ∙ p.1)
    (λ k before. ap (λ b. b == 10) (sym (get_or-take n bytes k 0 (omega (arith, p.0, l, before)))) ∙ p.2 k before)

pub no_newline : (bytes : List ℕ) → position (λ b. b == 10) bytes ≡ None → newlines bytes ≡ 0
no_newline bytes e =
    ap newlines (sym (take_all (length bytes) bytes (omega arith))) ∙ none_before bytes (length bytes) (position-None (λ b. b == 10) bytes 0 e)
