-- Texts cut after their newlines, and the parts that have none.
use Rattle.std.proofs.Common.{◌≡◌, ◌≢◌, ℕ, ◌+◌, ◌<◌, true, false, List, [], ◌∷◌, ◌++◌, length, get_or, sym, ap, ◌∙◌, refl, inl, inr, arith, codes, take, drop, add-one, drop-cons, Option, Some}
use Rattle.std.proofs.lemmas.List.{take-append-drop}
use Rattle.std.specs.Fmt.{signed_decimal}
use Rattle.std.proofs.lemmas.Bool.Decides.{eqb_tells}
use Rattle.std.specs.Prelude.{slice_get}
use Rattle.cabinet_text_grammar.specs.Tree.{Leaf, truth, number, text, IsLeaf}
use Rattle.cabinet_text_grammar.specs.Spelling.{escaped, spelled_leaf}
use Rattle.cabinet_text_grammar.specs.Fault.{Piece, pieces_of, onto_first_piece}
use Rattle.cabinet_text_grammar.proofs.Lacking.{Lacks, Lacks-append, Lacks-tested, Lacks-from_get_or, Lacks-take, Lacks-signed, Lacks-escaped}

abbrev pub HasNoNewline : List ℕ → Type 0
HasNoNewline = Lacks 10

pub HasNoNewline-leaf : (l : Leaf) → IsLeaf l → HasNoNewline (spelled_leaf l)
HasNoNewline-leaf (truth true) p = Lacks-tested 10 (codes "bool true") refl
HasNoNewline-leaf (truth false) p = Lacks-tested 10 (codes "bool false") refl
HasNoNewline-leaf (number n) p = Lacks-append 10 (codes "int ") (signed_decimal n) (Lacks-tested 10 (codes "int ") refl) (Lacks-signed 10 n (omega arith) p)
HasNoNewline-leaf (text t) p = Lacks-append 10 (codes "text '") (escaped t) (Lacks-tested 10 (codes "text '") refl) (Lacks-escaped 10 t (inl refl))

-- the piece before a newline, and those after it
pub piece_ended : (xs rest : List ℕ) → HasNoNewline xs → pieces_of (xs ++ 10 ∷ rest) ≡ record { bytes = xs; ended = true } ∷ pieces_of rest
piece_ended [] rest p = refl
piece_ended (b ∷ bs) rest p =
    elim (eqb_tells b 10) [
      | inl is ↦ absurd (p.0 is.1)
      | inr differs ↦ rw differs.0 (ap (onto_first_piece b) (piece_ended bs rest p.1))
    ]

-- a last piece that no newline ends
pub piece_open : (b : ℕ) (bs : List ℕ) → HasNoNewline (b ∷ bs) → pieces_of (b ∷ bs) ≡ record { bytes = b ∷ bs; ended = false } ∷ []
piece_open b [] p =
    elim (eqb_tells b 10) [
      | inl is ↦ absurd (p.0 is.1)
      | inr differs ↦ rw differs.0 refl
    ]
piece_open b (d ∷ ds) p =
    elim (eqb_tells b 10) [
      | inl is ↦ absurd (p.0 is.1)
      | inr differs ↦ rw differs.0 (ap (onto_first_piece b) (piece_open d ds p.1))
    ]

-- a piece that a newline ends, as the first of some
abbrev pub ended_piece : List ℕ → Option Piece
ended_piece line = Some (record { bytes = line; ended = true })

pub first_piece : (line rest : List ℕ) → HasNoNewline line → slice_get (pieces_of (line ++ 10 ∷ rest)) 0 ≡ ended_piece line
first_piece line rest p = ap (λ ps. slice_get ps 0) (piece_ended line rest p)

-- two texts that begin with lines, up to their newlines
pub same_line : (x y r s : List ℕ) → HasNoNewline x → HasNoNewline y → x ++ 10 ∷ r ≡ y ++ 10 ∷ s → x ≡ y
same_line x y r s p q h =
    let one : ended_piece x ≡ ended_piece y = sym (first_piece x r p) ∙ ap (λ t. slice_get (pieces_of t) 0) h ∙ first_piece y s q in
    let both : record { bytes = x; ended = true } ≡ record { bytes = y; ended = true } = cc in
    ap (λ (p : Piece). p.bytes) both

-- a text at its first newline
pub cut_at : (xs : List ℕ) (i : ℕ) → i < length xs → get_or xs i 0 ≡ 10 → xs ≡ take i xs ++ 10 ∷ drop (i + 1) xs
cut_at xs i within newline_there =
    sym (take-append-drop i xs) ∙ ap (λ rest. take i xs ++ rest) (drop-cons xs i 0 within ∙ rw newline_there (ap (λ n. 10 ∷ drop n xs) (sym (add-one i))))

pub pieces_cut_at : (xs : List ℕ) (i : ℕ) → i < length xs → get_or xs i 0 ≡ 10 → ((k : ℕ) → k < i → get_or xs k 0 ≢ 10) → pieces_of xs ≡ record { bytes = take i xs; ended = true } ∷ pieces_of (drop (i + 1) xs)
pieces_cut_at xs i within newline_there before =
    ap pieces_of (cut_at xs i within newline_there) ∙ piece_ended (take i xs) (drop (i + 1) xs) (Lacks-take 10 xs i before)

pub pieces_not_cut : (xs : List ℕ) → 0 < length xs → ((k : ℕ) → k < length xs → get_or xs k 0 ≢ 10) → pieces_of xs ≡ record { bytes = xs; ended = false } ∷ []
pieces_not_cut [] some none = absurd (omega (arith, some))
pieces_not_cut (b ∷ bs) some none = piece_open b bs (Lacks-from_get_or 10 (b ∷ bs) none)
