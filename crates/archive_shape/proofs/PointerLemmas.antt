-- What the layout reads in the own bytes of a pointer with an offset of four bytes.
use Rattle.std.proofs.Common.{◌≡◌, ℕ, ◌+◌, ◌-◌, ◌%◌, ◌≤◌, List, ◌++◌, take, drop, length, ap, ◌∙◌, arith}
use Rattle.std.proofs.Math.Nat.{mod_self}
use Rattle.std.proofs.Math.Seq.{take-add}
use Rattle.std.proofs.lemmas.List.{length-take, length-drop, drop-drop}
use Rattle.archive_shape_layout.specs.Bytes.{window, align_up}
use Rattle.archive_shape_layout.specs.Shape.{Pointee, pointer_size}
use Rattle.archive_shape_layout.specs.Content.{pointee_length}
use Rattle.archive_shape.specs.Pointees.{GivesLength}

-- metadata whose alignment is 1, 2 or 4 follows an offset of four bytes at once
pub follows : (align : ℕ) → 4 % align ≡ 0 → align_up 4 align ≡ 4
unfolding align_up
follows align even =
    let whole : align - 4 % align ≡ align = omega (arith, even) in rw whole (omega (arith, mod_self align))

pub length_in_own_bytes : (p : Pointee) (bytes : List ℕ) (pos from size n : ℕ)
    → from ≡ 4
    → pointer_size p ≡ 4 + size
    → pos + (from + size) ≤ length bytes
    → GivesLength p (window bytes (pos + from) size) n
    → pointee_length p (window bytes pos (pointer_size p)) ≡ n
length_in_own_bytes p bytes pos from size n four ends fits gives =
    let offset : length (take 4 (drop pos bytes)) ≡ 4 = omega (arith, length-take 4 (drop pos bytes), length-drop pos bytes) in
    let parts : window bytes pos (pointer_size p) ≡ take 4 (drop pos bytes) ++ window bytes (pos + from) size =
    ap (window bytes pos) ends ∙ take-add 4 size (drop pos bytes) ∙ ap (λ (x : List ℕ). take 4 (drop pos bytes) ++ take size x) (drop-drop 4 pos bytes ∙ ap (λ (k : ℕ). drop k bytes) (omega (arith, four))) in
    ap (pointee_length p) parts ∙ gives (take 4 (drop pos bytes)) offset
