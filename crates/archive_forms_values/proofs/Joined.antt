-- Two writes, one after the other, are one write.
use Rattle.std.proofs.Common.{◌≡◌, ℕ, ◌+◌, ◌≤◌, List, ◌++◌, length, take, drop, arith, length-append, append_assoc, ap, sym, ◌∙◌}
use Rattle.std.proofs.Math.Seq.{take-append_seam}
use Rattle.std.proofs.lemmas.List.{length-take, drop-drop, drop_at}
use Rattle.archive_shape.specs.Bytes.{overwrite}

-- a piece, and another after it
pub overwrites_joined :
    (bytes : List ℕ) (at n : ℕ) (first second : List ℕ)
    → n ≡ length first
    → at + (length first + length second) ≤ length bytes
    → overwrite (overwrite bytes at first) (at + n) second ≡ overwrite bytes at (first ++ second)
overwrites_joined bytes at n first second is room =
    let front = take at bytes ++ first in
    let rest = drop (at + length first) bytes in
    let split : overwrite bytes at first ≡ front ++ rest = sym (append_assoc (take at bytes) first rest) in
    let size : length front ≡ at + n = omega (arith, length-append (take at bytes) first, length-take at bytes) in
    let before : take (at + n) (overwrite bytes at first) ≡ front = ap (take (at + n)) split ∙ ap (λ k. take k (front ++ rest)) (sym size) ∙ take-append_seam front rest in
    let behind : drop (at + n + length second) (overwrite bytes at first) ≡ drop (at + length (first ++ second)) bytes =
    sym (drop-drop (length second) (at + n) (overwrite bytes at first))
    ∙ ap (drop (length second)) (ap (drop (at + n)) split ∙ drop_at front rest (at + n) size)
    ∙ drop-drop (length second) (at + length first) bytes
    ∙ ap (λ k. drop k bytes) (omega (arith, length-append first second)) in
    ap (λ l. l ++ (second ++ drop (at + n + length second) (overwrite bytes at first))) before
    ∙ ap (λ l. front ++ (second ++ l)) behind
    ∙ append_assoc (take at bytes) first (second ++ drop (at + length (first ++ second)) bytes)
    ∙ ap (λ l. take at bytes ++ l) (sym (append_assoc first second (drop (at + length (first ++ second)) bytes)))
