-- Bytes that are written at a position.
use Rattle.std.proofs.Common.{◌≡◌, ℕ, ◌+◌, ◌≤◌, ◌<◌, inl, inr, List, ◌++◌, take, drop, length, slice_index, sym, ◌∙◌, arith, length-append, rules}
use Rattle.std.proofs.lemmas.List.{length-take, length-drop, places, same_lists}
use Rattle.archive_shape_layout.specs.Bytes.{window}
use Rattle.archive_shape_layout.specs.Laws.{AgreesOn}
use Rattle.archive_shape_layout.specs.Edit.{Apart}
use Rattle.archive_shape.specs.Bytes.{overwrite, OverwriteSpares}

pub length-overwrite : (bytes : List ℕ) (at : ℕ) (piece : List ℕ) → at + length piece ≤ length bytes → length (overwrite bytes at piece) ≡ length bytes
length-overwrite bytes at piece h =
    omega (arith, length-append (take at bytes) (piece ++ drop (at + length piece) bytes), length-append piece (drop (at + length piece) bytes), length-take at bytes, length-drop (at + length piece) bytes)

module _ (bytes : List ℕ) (at : ℕ) (piece : List ℕ) (fits : at + length piece ≤ length bytes) where
  -- what lies before the write, or after it, is unchanged
  pub window_before : (pos size : ℕ) → pos + size ≤ at → window (overwrite bytes at piece) pos size ≡ window bytes pos size
  window_before pos size h = same_lists _ _ (search (rules, places)) (λ i e l. grind (arith, places))

  pub window_behind : (pos size : ℕ) → at + length piece ≤ pos → window (overwrite bytes at piece) pos size ≡ window bytes pos size
  window_behind pos size h = same_lists _ _ (search (rules, places)) (λ i e l. grind (arith, places))

  -- what was written is found there
  pub window_there : window (overwrite bytes at piece) at (length piece) ≡ piece
  window_there = same_lists _ _ (search (rules, places)) (λ i e l. grind (arith, places))

  pub byte_before : (i : ℕ) → i < at → slice_index (overwrite bytes at piece) i ≡ slice_index bytes i
  byte_before i h = grind (arith, places)

  outside : (start size : ℕ) → Apart at (length piece) start size → AgreesOn bytes (overwrite bytes at piece) start size
  outside start size (inl low) = sym (window_behind start size low)
  outside start size (inr high) = sym (window_before start size high)

-- a window that begins with the write
pub window_from : (bytes : List ℕ) (at : ℕ) (piece : List ℕ) (size : ℕ) → length piece ≤ size → at + length piece ≤ length bytes
    → window (overwrite bytes at piece) at size ≡ piece ++ drop (length piece) (window bytes at size)
window_from bytes at piece size h k = same_lists _ _ (search (rules, places)) (λ i e l. grind (arith, places))

-- writes that do not overlap, in either order
pub overwrites_commute :
    (bytes : List ℕ) (at : ℕ) (piece : List ℕ) (from : ℕ) (other : List ℕ)
    → at + length piece ≤ from
    → from + length other ≤ length bytes
    → overwrite (overwrite bytes at piece) from other ≡ overwrite (overwrite bytes from other) at piece
overwrites_commute bytes at piece from other h k =
    let e = length-overwrite bytes at piece (omega arith) in
    let f = length-overwrite bytes from other k in
    same_lists _ _ (length-overwrite (overwrite bytes at piece) from other (omega arith) ∙ e ∙ sym (length-overwrite (overwrite bytes from other) at piece (omega arith) ∙ f)) (λ i e l. grind (arith, places))

pub overwrite_spares_law : OverwriteSpares
overwrite_spares_law bytes pos piece fits = record {
  stands = window_there bytes pos piece fits;
  spares = record { length = length-overwrite bytes pos piece fits; outside = outside bytes pos piece fits };
}
