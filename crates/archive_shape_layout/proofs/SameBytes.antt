-- Bytes that are the same from one index up to another.
use Rattle.std.proofs.Common.{◌≡◌, ◌∙◌, ℕ, ◌+◌, ◌<◌, ◌≤◌, List, [], ◌∷◌, length, drop, take, sym, arith, get_or-drop, get_or-take}
use Rattle.std.specs.Prelude.{slice_index}
use Rattle.std.proofs.lemmas.List.{ext_get_or, length-drop, length-take-le}
use Rattle.archive_shape_layout.specs.Bytes.{window, word_at}
use Rattle.archive_shape_layout.specs.Value.{Value}
use Rattle.archive_shape_layout.specs.Content.{Names, Part}
use Rattle.archive_shape_layout.specs.Holds.{Region, Visit, OpenShared, Holds, Ascends}
use Rattle.archive_shape_layout.specs.Laws.{AgreesOn, RegionsAgree}
use Rattle.archive_shape_layout.specs.Visited.{AllStand, ClaimedAfter}
use Rattle.archive_shape_layout.proofs.Visited.{part_stands_in}

module _ (xs ys : List ℕ) where
  -- two lists have the same bytes from one index up to another
  abbrev pub AreSame : ℕ → ℕ → Type 0
  AreSame low high = (i : ℕ) → low ≤ i → i < high → slice_index ys i ≡ slice_index xs i

  byte_same : (pos : ℕ) → AreSame pos (pos + 4) → (i : ℕ) → i < 4 → slice_index (drop pos ys) i ≡ slice_index (drop pos xs) i
  byte_same pos same i h = get_or-drop pos ys i 0 ∙ same (pos + i) (omega arith) (omega arith) ∙ sym (get_or-drop pos xs i 0)

  pub word_same : (pos : ℕ) → AreSame pos (pos + 4) → word_at ys pos ≡ word_at xs pos
  unfolding word_at
  word_same pos same =
      let b0 = byte_same pos same 0 (omega arith) in
      let b1 = byte_same pos same 1 (omega arith) in
      let b2 = byte_same pos same 2 (omega arith) in
      let b3 = byte_same pos same 3 (omega arith) in
      rw (b0, b1, b2, b3)

  length_window : (zs : List ℕ) (start size : ℕ) → start + size ≤ length zs → length (window zs start size) ≡ size
  length_window zs start size room = let d = length-drop start zs in length-take-le size (drop start zs) (omega arith)

  byte_in : (zs : List ℕ) (start size i : ℕ) → i < size → slice_index (window zs start size) i ≡ slice_index zs (start + i)
  byte_in zs start size i h = get_or-take size (drop start zs) i 0 h ∙ get_or-drop start zs i 0

  pub window_same : (start size : ℕ) → start + size ≤ length xs → start + size ≤ length ys → AreSame start (start + size) → AgreesOn xs ys start size
  window_same start size here there same =
      let a = length_window xs start size here in
      let b = length_window ys start size there in
      ext_get_or 0 (window xs start size) (window ys start size) (a ∙ sym b)
      (λ i h. let below : i < size = omega arith in byte_in xs start size i below ∙ sym (same (start + i) (omega arith) (omega arith)) ∙ sym (byte_in ys start size i below))

  pub regions_same : (low high : ℕ) (rs : List Region) → high ≤ length xs → high ≤ length ys → AreSame low high → Ascends low high rs → RegionsAgree xs ys rs
  unfolding Ascends RegionsAgree
  regions_same low high [] here there same a = tt
  regions_same low high (r ∷ rs) here there same a =
      let from = a.0.after in
      let to = a.0.inside in (
        window_same r.start r.size (omega arith) (omega arith) (λ i le lt. same i (omega arith) (omega arith)),
        regions_same (r.start + r.size) high rs here there (λ i le lt. same i (omega arith) lt) a.1,
      )

  -- where other bytes agree on what a part claims, and what was visited before it stands in them, what was visited after it does
  pub visits_kept : {names : Names} {p : Part} {depth : ℕ} {inside : List OpenShared} {value : Value} {rs : List Region} {before after : List Visit} {low high : ℕ}
      → high ≤ length xs → high ≤ length ys → AreSame low high
      → ClaimedAfter names xs before low high rs → AllStand names ys low before → Holds names xs depth inside p value rs before after
      → AllStand names ys high after
  visits_kept {rs = rs} {low = low} {high} here there same claimed stand h =
      part_stands_in h (regions_same low high rs here there same claimed.ascends) (record { stand = stand; below = claimed.below; ascends = claimed.ascends })

-- what lies before a position is the same without the rest
pub take_same : (n low high : ℕ) (xs ys : List ℕ) → high ≤ n → AreSame xs ys low high → AreSame xs (take n ys) low high
take_same n low high xs ys le same i a b = get_or-take n ys i 0 (omega arith) ∙ same i a b
