-- Bytes and words in a window of bytes.
use Rattle.std.proofs.Common.{◌≡◌, ℕ, ◌+◌, ◌<◌, ◌≤◌, List, drop, slice_index, refl, sym, ap, subst, ◌∙◌, arith, get_or-drop, get_or-take}
use Rattle.std.proofs.Math.Nat.{add_assoc}
use Rattle.archive_shape_layout.specs.Bytes.{window, word_at}

byte_within : (bytes : List ℕ) (pos size off i : ℕ) → off + 4 ≤ size → i < 4 → slice_index (drop off (window bytes pos size)) i ≡ slice_index (drop (pos + off) bytes) i
byte_within bytes pos size off i h k =
    get_or-drop off (window bytes pos size) i 0
    ∙ get_or-take size (drop pos bytes) (off + i) 0 (omega arith)
    ∙ get_or-drop pos bytes (off + i) 0
    ∙ ap (slice_index bytes) (sym (add_assoc pos off i))
    ∙ sym (get_or-drop (pos + off) bytes i 0)

-- a word in a window
pub word_within : (bytes : List ℕ) (pos size off : ℕ) → off + 4 ≤ size → word_at (window bytes pos size) off ≡ word_at bytes (pos + off)
unfolding word_at
word_within bytes pos size off h =
    let b0 = byte_within bytes pos size off 0 h (omega arith) in
    let b1 = byte_within bytes pos size off 1 h (omega arith) in
    let b2 = byte_within bytes pos size off 2 h (omega arith) in
    let b3 = byte_within bytes pos size off 3 h (omega arith) in
    rw (b0, b1, b2, b3)

-- the word of a window of four bytes
pub word_of : (bytes : List ℕ) (link : ℕ) → word_at (window bytes link 4) 0 ≡ word_at bytes link
word_of bytes link = let e = word_within bytes link 4 0 (omega arith) in let z : link + 0 ≡ link = omega arith in subst (λ p. word_at (window bytes link 4) 0 ≡ word_at bytes p) z e
