-- Pieces of bytes, and writes over them.
use Rattle.std.proofs.Common.{◌≡◌, ℕ, ◌+◌, ◌-◌, ◌≤◌, ◌<◌, List, [], ◌∷◌, ◌++◌, refl, length, take, drop, slice_index, sym, ap, subst, ◌∙◌, arith, length-append, add_assoc, ◌^◌, get_or-take, get_or-drop, add-zero}
use Rattle.std.proofs.Math.Seq.{take-add, take-append_seam}
use Rattle.std.specs.Int.{w32, from_le_bytes, to_le_bytes}
use Rattle.std.proofs.lemmas.List.{length-take, length-drop, drop-drop, drop-take, drop_at, take-take, take_all, length-replicate, get_or-replicate}
use Rattle.std.proofs.lemmas.Nat.{from_le_bytes-to_le_bytes_4}
use Rattle.archive_shape_layout.specs.Bytes.{window, word_at}
use Rattle.archive_shape.specs.Bytes.{HasBytes, zeros, overwrite}
use Rattle.archive_shape.proofs.Written.{window_before, window_behind, window_there}

pub length-window : (bytes : List ℕ) (pos size : ℕ) → pos + size ≤ length bytes → length (window bytes pos size) ≡ size
length-window bytes pos size h = omega (arith, length-take size (drop pos bytes), length-drop pos bytes)

module _ (bytes : List ℕ) (at : ℕ) (piece : List ℕ) (fits : at + length piece ≤ length bytes) where
  stands_before : (pos : ℕ) (other : List ℕ) → pos + length other ≤ at → HasBytes bytes pos other → HasBytes (overwrite bytes at piece) pos other
  stands_before pos other h s = window_before bytes at piece fits pos (length other) h ∙ s

  stands_behind : (pos : ℕ) (other : List ℕ) → at + length piece ≤ pos → HasBytes bytes pos other → HasBytes (overwrite bytes at piece) pos other
  stands_behind pos other h s = window_behind bytes at piece fits pos (length other) h ∙ s

-- a byte of a window
pub window_byte : (bytes : List ℕ) (pos size i : ℕ) → i < size → slice_index (window bytes pos size) i ≡ slice_index bytes (pos + i)
window_byte bytes pos size i h = get_or-take size (drop pos bytes) i 0 h ∙ get_or-drop pos bytes i 0

-- the word at a position is that of its four bytes
pub word_of_window : (bytes : List ℕ) (pos : ℕ) → word_at bytes pos ≡ from_le_bytes w32 (window bytes pos 4)
unfolding word_at
word_of_window bytes pos =
    let b0 = get_or-take 4 (drop pos bytes) 0 0 (omega arith) in
    let b1 = get_or-take 4 (drop pos bytes) 1 0 (omega arith) in
    let b2 = get_or-take 4 (drop pos bytes) 2 0 (omega arith) in
    let b3 = get_or-take 4 (drop pos bytes) 3 0 (omega arith) in
    rw (b0, b1, b2, b3)

-- the word of a piece
pub stands_word : (bytes : List ℕ) (at word : ℕ) → word < 2 ^ 32 → HasBytes bytes at (to_le_bytes w32 word) → word_at bytes at ≡ word
stands_word bytes at word h s = word_of_window bytes at ∙ ap (from_le_bytes w32) s ∙ from_le_bytes-to_le_bytes_4 word h

-- one piece after another
pub stands_append : (bytes : List ℕ) (pos : ℕ) (xs ys : List ℕ) (next : ℕ) → pos + length xs ≡ next → HasBytes bytes pos xs → HasBytes bytes next ys → HasBytes bytes pos (xs ++ ys)
stands_append bytes pos xs ys next e s t =
    ap (λ n. window bytes pos n) (length-append xs ys)
    ∙ take-add (length xs) (length ys) (drop pos bytes)
    ∙ ap (λ x. x ++ take (length ys) (drop (length xs) (drop pos bytes))) s
    ∙ ap (λ x. xs ++ take (length ys) x) (drop-drop (length xs) pos bytes)
    ∙ ap (λ n. xs ++ window bytes n (length ys)) e
    ∙ ap (λ x. xs ++ x) t

pub stands_left : (bytes : List ℕ) (pos : ℕ) (xs ys : List ℕ) → HasBytes bytes pos (xs ++ ys) → HasBytes bytes pos xs
stands_left bytes pos xs ys s =
    sym (take-take (length xs) (length (xs ++ ys)) (drop pos bytes) (omega (arith, length-append xs ys)))
    ∙ ap (take (length xs)) s
    ∙ take-append_seam xs ys

pub stands_right : (bytes : List ℕ) (pos : ℕ) (xs ys : List ℕ) (next : ℕ) → pos + length xs ≡ next → HasBytes bytes pos (xs ++ ys) → HasBytes bytes next ys
stands_right bytes pos xs ys next e s =
    ap (λ n. window bytes n (length ys)) (sym e)
    ∙ ap (take (length ys)) (sym (drop-drop (length xs) pos bytes))
    ∙ sym (drop-take (length xs) (length ys) (drop pos bytes))
    ∙ ap (λ n. drop (length xs) (window bytes pos n)) (sym (length-append xs ys))
    ∙ ap (drop (length xs)) s
    ∙ drop_at xs ys (length xs) refl

-- a piece that lies at the beginning and has the whole length is the whole
pub stands_whole : (bytes piece : List ℕ) → length bytes ≡ length piece → HasBytes bytes 0 piece → bytes ≡ piece
stands_whole bytes piece e s = sym (take_all (length piece) bytes (omega arith)) ∙ s

-- a byte as a piece
pub stands_byte : (bytes : List ℕ) (pos b : ℕ) → HasBytes bytes pos (b ∷ []) → slice_index bytes pos ≡ b
stands_byte bytes pos b s =
    ap (slice_index bytes) (sym (add-zero pos)) ∙ sym (get_or-drop pos bytes 0 0) ∙ sym (get_or-take 1 (drop pos bytes) 0 0 (omega arith)) ∙ ap (λ x. slice_index x 0) s

-- a byte of zeros that lie at a position
pub zero_stands : (bytes : List ℕ) (pos n i : ℕ) → HasBytes bytes pos (zeros n) → pos ≤ i → i < pos + n → slice_index bytes i ≡ 0
zero_stands bytes pos n i s low high =
    let len : length (zeros n) ≡ n = length-replicate {A = ℕ} n 0 in
    let there : pos + (i - pos) ≡ i = omega arith in
    subst (λ m. slice_index bytes m ≡ 0) there
    (sym (window_byte bytes pos (length (zeros n)) (i - pos) (omega arith)) ∙ ap (λ w. slice_index w (i - pos)) s ∙ get_or-replicate n (i - pos) 0 0 (omega arith))

-- one piece among others, written over
pub stands_replaced :
    (bytes : List ℕ) (pos : ℕ) (xs old new ys : List ℕ) (at : ℕ)
    → pos + length xs ≡ at
    → length new ≡ length old
    → at + length new ≤ length bytes
    → HasBytes bytes pos (xs ++ (old ++ ys))
    → HasBytes (overwrite bytes at new) pos (xs ++ (new ++ ys))
stands_replaced bytes pos xs old new ys at e same room s =
    let first = stands_left bytes pos xs (old ++ ys) s in
    let rest = stands_right bytes pos xs (old ++ ys) at e s in
    let last = stands_right bytes at old ys (at + length new) (omega arith) rest in
    stands_append (overwrite bytes at new) pos xs (new ++ ys) at e
    (stands_before bytes at new room pos xs (omega arith) first)
    (stands_append (overwrite bytes at new) at new ys (at + length new) refl
    (window_there bytes at new room)
    (stands_behind bytes at new room (at + length new) ys (omega arith) last))
