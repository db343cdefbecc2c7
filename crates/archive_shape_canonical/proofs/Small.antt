-- Each of some bytes is below 256.
use Rattle.std.proofs.Common.{◌≡◌, ℕ, zero, suc, ◌-◌, ◌≤◌, ◌<◌, List, [], ◌∷◌, ◌++◌, length, get_or, replicate, sym, subst, arith, ⊎_elim}
use Rattle.std.specs.Int.{Width, to_le_bytes, bytes_low_first, byte_at, byte_len}
use Rattle.std.proofs.lemmas.Bool.{cases_lt}
use Rattle.std.proofs.lemmas.List.{length-replicate, get_or-replicate}
use Rattle.std.proofs.Math.ListN.{get_or-append, get_or-eq_default}
use Rattle.std.proofs.Math.Seq.{get_or-append_right}
use Rattle.archive_shape_canonical.specs.Canonical.{AreBytes}

pub behind_all : (xs : List ℕ) (i : ℕ) → length xs ≤ i → get_or xs i 0 < 256
behind_all xs i h = subst (λ n. n < 256) (sym (get_or-eq_default xs 0 h)) (omega arith)

pub record AreSmall (xs : List ℕ) : Type 0 where
  pub each : AreBytes xs

pub small_none : AreSmall []
small_none = record { each = λ i. behind_all [] i (omega arith) }

pub small_more : {x : ℕ} {xs : List ℕ} → x < 256 → AreSmall xs → AreSmall (x ∷ xs)
small_more {x = x} {xs = xs} h k = record { each = known }
  where
    known : AreBytes (x ∷ xs)
    known zero = h
    known (suc i) = k.each i

pub small_append : {xs ys : List ℕ} → AreSmall xs → AreSmall ys → AreSmall (xs ++ ys)
small_append {xs = xs} {ys = ys} h k = record {
  each = λ i. ⊎_elim
      (λ l. subst (λ n. n < 256) (sym (get_or-append xs ys 0 i l)) (h.each i))
      (λ g. subst (λ n. n < 256) (sym (get_or-append_right xs ys i 0 g)) (k.each (i - length xs)))
      (cases_lt i (length xs));
}

pub small_same : (n b : ℕ) → b < 256 → AreSmall (replicate n b)
small_same n b h = record { each = known }
  where
    known : AreBytes (replicate n b)
    known i =
        let e : length (replicate n b) ≡ n = length-replicate {A = ℕ} n b in
        ⊎_elim (λ l. subst (λ m. m < 256) (sym (get_or-replicate n i b 0 l)) h) (λ g. behind_all (replicate n b) i (omega arith)) (cases_lt i n)

byte_small : (i n : ℕ) → byte_at i n < 256
byte_small zero n = omega arith
byte_small (suc i) n = omega arith

pub small_low_first : (j k n : ℕ) → AreSmall (bytes_low_first j k n)
small_low_first j zero n = small_none
small_low_first j (suc k) n = small_more (byte_small j n) (small_low_first (suc j) k n)

pub small_word : (w : Width) (n : ℕ) → AreSmall (to_le_bytes w n)
small_word w n = small_low_first 0 (byte_len w) n
