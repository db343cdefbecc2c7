-- Texts cut after some of their lines.
use Rattle.std.proofs.Common.{◌≡◌, ℕ, List, [], ◌∷◌, ◌++◌, sym, ap, ◌∙◌, refl, append_assoc}
use Rattle.std.proofs.lemmas.List.{append_cancel_left}
use Rattle.cabinet_text_grammar.specs.Spelling.{ended}
use Rattle.cabinet_text_grammar.proofs.Pieces.{HasNoNewline, same_line}

abbrev pub HaveNoNewline : List (List ℕ) → Type 0
HaveNoNewline [] = Unit {0}
HaveNoNewline (line ∷ lines) = HasNoNewline line × HaveNoNewline lines

pub HasNoNewline-among : (xs : List (List ℕ)) (line : List ℕ) (more : List (List ℕ)) → HaveNoNewline (xs ++ line ∷ more) → HasNoNewline line
HasNoNewline-among [] line more p = p.0
HasNoNewline-among (x ∷ xs) line more p = HasNoNewline-among xs line more p.1

-- of a text that is cut twice: the cuts are the same, or there is a line between them
pub data Cuts (xs : List (List ℕ)) (r : List ℕ) (ys : List (List ℕ)) (s : List ℕ) : Type 0 where
  one_cut : xs ≡ ys → r ≡ s → Cuts xs r ys s
  first_before : (line : List ℕ) (more : List (List ℕ)) (rest : List ℕ) → ys ≡ xs ++ line ∷ more → r ≡ line ++ 10 ∷ rest → Cuts xs r ys s
  first_after : (line : List ℕ) (more : List (List ℕ)) (rest : List ℕ) → xs ≡ ys ++ line ∷ more → s ≡ line ++ 10 ∷ rest → Cuts xs r ys s

cuts_after : (line : List ℕ) (xs ys : List (List ℕ)) (r s : List ℕ) → Cuts xs r ys s → Cuts (line ∷ xs) r (line ∷ ys) s
cuts_after line xs ys r s (one_cut lines rests) = one_cut (ap (λ ls. line ∷ ls) lines) rests
cuts_after line xs ys r s (first_before next more rest lines rests) = first_before next more rest (ap (λ ls. line ∷ ls) lines) rests
cuts_after line xs ys r s (first_after next more rest lines rests) = first_after next more rest (ap (λ ls. line ∷ ls) lines) rests

pub cuts_of : (xs ys : List (List ℕ)) (r s : List ℕ) → HaveNoNewline xs → HaveNoNewline ys → ended xs ++ r ≡ ended ys ++ s → Cuts xs r ys s
cuts_of [] [] r s p q h = one_cut refl h
cuts_of [] (y ∷ ys) r s p q h = first_before y ys (ended ys ++ s) refl (h ∙ append_assoc y (10 ∷ ended ys) s)
cuts_of (x ∷ xs) [] r s p q h = first_after x xs (ended xs ++ r) refl (sym h ∙ append_assoc x (10 ∷ ended xs) r)
cuts_of (x ∷ xs) (y ∷ ys) r s p q h =
    let split : x ++ 10 ∷ (ended xs ++ r) ≡ y ++ 10 ∷ (ended ys ++ s) = sym (append_assoc x (10 ∷ ended xs) r) ∙ h ∙ append_assoc y (10 ∷ ended ys) s in
    let first = same_line x y (ended xs ++ r) (ended ys ++ s) p.0 q.0 split in
    let after : 10 ∷ (ended xs ++ r) ≡ 10 ∷ (ended ys ++ s) = append_cancel_left x _ _ (split ∙ ap (λ w. w ++ 10 ∷ (ended ys ++ s)) (sym first)) in
    let rests : ended xs ++ r ≡ ended ys ++ s = cc in
    rw (← first) (cuts_after x xs ys r s (cuts_of xs ys r s p.1 q.1 rests))

pub no_line : (line rest : List ℕ) → [] ≡ line ++ 10 ∷ rest → ⊥
no_line [] rest h = cc
no_line (b ∷ bs) rest h = cc
