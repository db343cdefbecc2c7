-- Buffers that have the same bytes outside a window.
use Rattle.std.proofs.Common.{◌≡◌, ℕ, ◌+◌, ◌≤◌, List, length, sym, ap, ◌∙◌, arith, inl, inr, ⊎_elim}
use Rattle.archive_shape_layout.specs.Bytes.{window}
use Rattle.archive_shape_layout.specs.Edit.{Spares}
use Rattle.archive_shape.specs.Bytes.{overwrite}
use Rattle.archive_shape.proofs.Written.{overwrite_spares_law}

-- nothing changed
pub spares_same : (old new : List ℕ) (w n : ℕ) → new ≡ old → Spares old new w n
spares_same old new w n is = record { length = ap length is; outside = λ start size apart. ap (λ l. window l start size) (sym is) }

-- the window lies in another
pub spares_within : (old new : List ℕ) (w n start size : ℕ) → start ≤ w → w + n ≤ start + size → Spares old new w n → Spares old new start size
spares_within old new w n start size low high s = record {
  length = s.length;
  outside = λ from len apart. s.outside from len (⊎_elim (λ before. inl (omega (arith, before, high))) (λ behind. inr (omega (arith, behind, low))) apart);
}

-- one change follows another
pub spares_both : (old mid new : List ℕ) (w n : ℕ) → Spares old mid w n → Spares mid new w n → Spares old new w n
spares_both old mid new w n s t = record { length = t.length ∙ s.length; outside = λ start size apart. s.outside start size apart ∙ t.outside start size apart }

-- a piece is written inside the window
pub spares_overwritten : (bytes : List ℕ) (at : ℕ) (piece : List ℕ) (start size : ℕ) → start ≤ at → at + length piece ≤ start + size → start + size ≤ length bytes
    → Spares bytes (overwrite bytes at piece) start size
spares_overwritten bytes at piece start size low high room =
    let written = overwrite_spares_law bytes at piece (omega arith) in
    spares_within bytes (overwrite bytes at piece) at (length piece) start size low high written.spares
