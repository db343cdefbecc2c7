-- A stride is put together of reads.
use Rattle.std.proofs.Common.{◌≡◌, ℕ, ◌+◌, ◌-◌, ◌*◌, ◌/◌, ◌%◌, ◌^◌, ◌<◌, ◌≤◌, Bool, false, List, [], ◌∷◌, ◌++◌, length, sym, ap, subst, ◌∙◌, arith, inl, inr, bit_or, get_or, take, drop, length-append, length-drop}
use Rattle.std.proofs.lemmas.Bool.{cases_lt}
use Rattle.std.proofs.lemmas.List.{get_or_append_left}
use Rattle.std.proofs.lemmas.Nat.{or_comm, or_shifted, shl_below, mul-le}
use Rattle.std.proofs.lemmas.Simd.{mask_l-lt}
use Rattle.std.proofs.Math.Seq.{get_or-append_right, take-add, drop-drop, length-take-le}
use lib.Lanes.{mask_l}
use lib.Pow.{pow_mono}
use native.Mathlib.Nat.{pow-suc, mod-eq_of_lt}
use Rattle.archive_hash_probing.specs.Scanning.{IsMatch}

pub mask_l-append : (ms ns : List Bool) → mask_l (ms ++ ns) ≡ mask_l ns * 2 ^ length ms + mask_l ms
mask_l-append [] ns = omega arith
mask_l-append (m ∷ ms) ns = omega (arith, mask_l-append ms ns, ap (λ x. mask_l ns * x) (pow-suc 2 (length ms)))

pub joined_bits : (ms ns : List Bool) (bits word s : ℕ) → length ms ≡ s → s + length ns ≤ 16 → bits ≡ mask_l ms → word ≡ mask_l ns → bit_or bits (word * 2 ^ s % 2 ^ 64) ≡ mask_l (ms ++ ns)
joined_bits ms ns bits word s long le e f =
    let below : mask_l ms < 2 ^ length ms = mask_l-lt ms in
    let low : bits < 2 ^ s = let P : ℕ → ℕ → Type 0 = λ a b. a < 2 ^ b in subst (λ a. P a s) (sym e) (subst (λ b. P (mask_l ms) b) long below) in
    let high : word < 2 ^ length ns = let P : ℕ → Type 0 = λ a. a < 2 ^ length ns in subst P (sym f) (mask_l-lt ns) in
    let shifted : word * 2 ^ s < 2 ^ (length ns + s) = shl_below word (length ns) s high in
    let wide : length ns + s ≤ 64 = omega arith in
    let fits : word * 2 ^ s < 2 ^ 64 = omega (arith, shifted, pow_mono wide) in
    ap (bit_or bits) (mod-eq_of_lt fits) ∙ or_comm bits (word * 2 ^ s) ∙ or_shifted word s bits low
    ∙ (λ i. f i * 2 ^ sym long i + e i) ∙ sym (mask_l-append ms ns)

pub next_read : (cs : List ℕ) (p i w : ℕ) → take ((i + 1) * w) (drop p cs) ≡ take (i * w) (drop p cs) ++ take w (drop (p + i * w) cs)
next_read cs p i w =
    let e : (i + 1) * w ≡ i * w + w = omega arith in
    ap (λ n. take n (drop p cs)) e ∙ take-add (i * w) w (drop p cs) ∙ ap (λ ys. take (i * w) (drop p cs) ++ take w ys) (drop-drop (i * w) p cs)

pub fits_in : (i w : ℕ) → 16 / w * w ≡ 16 → i < 16 / w → i * w + w ≤ 16
fits_in i w whole l = omega (arith, mul-le (i + 1) w (16 / w) w (omega arith) (omega arith))

pub length-window : (cs : List ℕ) (p n : ℕ) → p + n ≤ length cs → length (take n (drop p cs)) ≡ n
length-window cs p n le = length-take-le n (drop p cs) (omega (arith, length-drop p cs))

pub match-append : (tag : ℕ) (xs ys : List ℕ) (ms ns : List Bool) → IsMatch tag xs ms → IsMatch tag ys ns → IsMatch tag (xs ++ ys) (ms ++ ns)
match-append tag xs ys ms ns a b =
    let n = length ms in
    let same : length ms ≡ length xs = a.count in
    record {
      count = omega (arith, length-append xs ys, length-append ms ns, a.count, b.count);
      all = λ k l e. elim (cases_lt k n) [
        | inl less ↦ get_or_append_left ms ns false k less ∙ a.all k (omega arith) (sym (get_or_append_left xs ys 0 k (omega arith)) ∙ e)
        | inr more ↦
            get_or-append_right ms ns k false more
            ∙ ap (λ j. get_or ns (k - j) false) same
            ∙ b.all (k - length xs) (omega (arith, length-append xs ys)) (sym (get_or-append_right xs ys k 0 (omega arith)) ∙ e)
      ];
      full = λ k e. elim (cases_lt k n) [
        | inl less ↦ omega (arith, get_or_append_left xs ys 0 k (omega arith), a.full k (sym (get_or_append_left ms ns false k less) ∙ e))
        | inr more ↦ omega (arith, get_or-append_right xs ys k 0 (omega arith), b.full (k - length xs) (sym (get_or-append_right ms ns k false more ∙ ap (λ j. get_or ns (k - j) false) same) ∙ e))
      ];
      lowest = λ k e first. elim (cases_lt k n) [
        | inl less ↦
            get_or_append_left xs ys 0 k (omega arith)
            ∙ a.lowest k (sym (get_or_append_left ms ns false k less) ∙ e) (λ j l. sym (get_or_append_left ms ns false j (omega arith)) ∙ first j l)
        | inr more ↦
            get_or-append_right xs ys k 0 (omega arith)
            ∙ b.lowest (k - length xs) (sym (get_or-append_right ms ns k false more ∙ ap (λ j. get_or ns (k - j) false) same) ∙ e)
            (λ j l.
            let back : length xs + j - length ms ≡ j = omega arith in
            sym (get_or-append_right ms ns (length xs + j) false (omega arith) ∙ ap (λ i. get_or ns i false) back) ∙ first (length xs + j) (omega arith))
      ];
    }
