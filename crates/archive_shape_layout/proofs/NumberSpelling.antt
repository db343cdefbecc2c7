-- Numbers, and the little endian bytes that spell them.
use Rattle.std.proofs.Common.{◌≡◌, ℕ, zero, suc, ◌+◌, ◌*◌, ◌/◌, ◌%◌, ◌^◌, ◌<◌, List, [], ◌∷◌, length, get_or, ap, ◌∙◌, sym, refl, arith, subst, lit<, Fits, SFits, ℤ, ◌↔◌}
use Rattle.std.proofs.Math.Nat.{div-div-eq-div-mul, pow-suc, pow-succ', div-lt_iff_lt-mul}
use Rattle.std.proofs.Math.Facts.{Fits-of_lt, Fits-of_z, to_z-of_z, of_z-to_z}
use Rattle.std.specs.Int.{cast_signed, cast_unsigned, Width, w8, w16, w32, w64, w128, byte_len, byte_at, byte_worth, bytes_low_first, sum_through, to_le_bytes, from_le_bytes}

-- the number that bytes spell, the lowest first
abbrev pub spelled : List ℕ → ℕ
spelled [] = 0
spelled (b ∷ bs) = b + 256 * spelled bs

byte_at-suc : (i n : ℕ) → byte_at (suc i) n ≡ byte_at i (n / 256)
byte_at-suc zero n = refl
byte_at-suc (suc i) n = ap (λ (m : ℕ). m % 256) (ap (λ (m : ℕ). n / m) (pow-succ' 256 (suc i)) ∙ sym (div-div-eq-div-mul n 256 (256 ^ suc i)))

bytes_low_first-suc : (j k n : ℕ) → bytes_low_first (suc j) k n ≡ bytes_low_first j k (n / 256)
bytes_low_first-suc j zero n = refl
bytes_low_first-suc j (suc k) n =
    ap (λ (bs : List ℕ). byte_at (suc j) n ∷ bs) (bytes_low_first-suc (suc j) k n)
    ∙ ap (λ (b : ℕ). b ∷ bytes_low_first (suc j) k (n / 256)) (byte_at-suc j n)

-- the sum of what bytes are worth
abbrev pub worth : List ℕ → ℕ → ℕ
worth bs k = sum_through (λ i. byte_worth i (get_or bs i 0)) k

worth-cons : (b : ℕ) (bs : List ℕ) (k : ℕ) → worth (b ∷ bs) (suc k) ≡ b + 256 * worth bs k
worth-cons b bs zero = omega arith
worth-cons b bs (suc k) =
    let next : ℕ = get_or bs (suc k) 0 in
    let h : worth (b ∷ bs) (suc k) ≡ b + 256 * worth bs k = worth-cons b bs k in
    let p : 256 ^ suc (suc k) ≡ 256 * 256 ^ suc k = pow-succ' 256 (suc k) in
    ap (λ (m : ℕ). m + next * 256 ^ suc (suc k)) h
    ∙ ap (λ (m : ℕ). b + 256 * worth bs k + next * m) p
    ∙ omega arith

worth-all : (k : ℕ) (bs : List ℕ) → length bs ≡ suc k → worth bs k ≡ spelled bs
worth-all k [] l = absurd (omega (arith, l))
worth-all zero (b ∷ []) l = omega arith
worth-all zero (b ∷ c ∷ bs) l = absurd (omega (arith, l))
worth-all (suc k) (b ∷ bs) l = worth-cons b bs k ∙ ap (λ (m : ℕ). b + 256 * m) (worth-all k bs (omega (arith, l)))

-- the lowest bytes of a number spell it, where there are enough
spelled-bytes_low_first : (k n : ℕ) → n < 256 ^ k → spelled (bytes_low_first 0 k n) ≡ n
spelled-bytes_low_first zero n small = omega (arith, small)
spelled-bytes_low_first (suc k) n small =
    let p : 256 ^ suc k ≡ 256 ^ k * 256 = pow-suc 256 k in
    let less : n / 256 < 256 ^ k = (div-lt_iff_lt-mul {k = 256} {x = n} {y = 256 ^ k} (lit< tt)).1 (omega (arith, small, p)) in
    ap (λ (bs : List ℕ). n % 256 + 256 * spelled bs) (bytes_low_first-suc 0 k n)
    ∙ ap (λ (m : ℕ). n % 256 + 256 * m) (spelled-bytes_low_first k (n / 256) less)
    ∙ omega arith

-- every number that bytes spell has those as its lowest bytes
bytes_low_first-spelled : (bs : List ℕ) → ((i : ℕ) → get_or bs i 0 < 256) → bytes_low_first 0 (length bs) (spelled bs) ≡ bs
bytes_low_first-spelled [] small = refl
bytes_low_first-spelled (b ∷ bs) small =
    let first : b < 256 = small 0 in
    let low : (b + 256 * spelled bs) % 256 ≡ b = omega (arith, first) in
    let high : (b + 256 * spelled bs) / 256 ≡ spelled bs = omega (arith, first) in
    ap (λ (m : ℕ). m ∷ bytes_low_first 1 (length bs) (b + 256 * spelled bs)) low
    ∙ ap (λ (cs : List ℕ). b ∷ cs) (bytes_low_first-suc 0 (length bs) (b + 256 * spelled bs) ∙ ap (λ (m : ℕ). bytes_low_first 0 (length bs) m) high ∙ bytes_low_first-spelled bs (λ i. small (suc i)))

-- bytes spell less than this
spelled-lt : (bs : List ℕ) → ((i : ℕ) → get_or bs i 0 < 256) → spelled bs < 256 ^ length bs
spelled-lt [] small = lit< tt
spelled-lt (b ∷ bs) small =
    let first : b < 256 = small 0 in
    let p : 256 ^ suc (length bs) ≡ 256 * 256 ^ length bs = pow-succ' 256 (length bs) in
    let rest : spelled bs < 256 ^ length bs = spelled-lt bs (λ i. small (suc i)) in
    omega (arith, first, p, rest)

length-bytes_low_first : (j k n : ℕ) → length (bytes_low_first j k n) ≡ k
length-bytes_low_first j zero n = refl
length-bytes_low_first j (suc k) n = omega (arith, length-bytes_low_first (suc j) k n)

pub length-to_le_bytes : (w : Width) (n : ℕ) → length (to_le_bytes w n) ≡ byte_len w
length-to_le_bytes w n = length-bytes_low_first 0 (byte_len w) n

from_le_bytes-spelled : (w : Width) (bs : List ℕ) → length bs ≡ byte_len w → from_le_bytes w bs ≡ spelled bs
from_le_bytes-spelled w8 bs l = worth-all 0 bs l
from_le_bytes-spelled w16 bs l = worth-all 1 bs l
from_le_bytes-spelled w32 bs l = worth-all 3 bs l
from_le_bytes-spelled w64 bs l = worth-all 7 bs l
from_le_bytes-spelled w128 bs l = worth-all 15 bs l

-- the numbers that fit a width are those that its bytes can spell
values-of : (w : Width) (n : ℕ) → Fits w n ↔ (n < 256 ^ byte_len w)
values-of w8 n = (λ h. omega (arith, h), λ h. Fits-of_lt {w = w8} {n = n} h)
values-of w16 n = (λ h. omega (arith, h), λ h. Fits-of_lt {w = w16} {n = n} h)
values-of w32 n = (λ h. omega (arith, h), λ h. Fits-of_lt {w = w32} {n = n} h)
values-of w64 n = (λ h. omega (arith, h), λ h. Fits-of_lt {w = w64} {n = n} h)
values-of w128 n = (λ h. omega (arith, h), λ h. Fits-of_lt {w = w128} {n = n} h)

Fits-from_le_bytes : (w : Width) (bs : List ℕ) → length bs ≡ byte_len w → ((i : ℕ) → get_or bs i 0 < 256) → Fits w (from_le_bytes w bs)
Fits-from_le_bytes w bs l small =
    let P : ℕ → Type 0 = λ n. from_le_bytes w bs < 256 ^ n in
    let Q : ℕ → Type 0 = λ n. n < 256 ^ length bs in
    (values-of w _).1 (subst P l (subst Q (sym (from_le_bytes-spelled w bs l)) (spelled-lt bs small)))

-- a number's bytes give the number back
pub from_le_bytes-to_le_bytes : (w : Width) (n : ℕ) → Fits w n → from_le_bytes w (to_le_bytes w n) ≡ n
from_le_bytes-to_le_bytes w n fits =
    from_le_bytes-spelled w (to_le_bytes w n) (length-to_le_bytes w n)
    ∙ spelled-bytes_low_first (byte_len w) n ((values-of w n).0 fits)

-- the number that bytes spell gives the bytes back
pub to_le_bytes-from_le_bytes : (w : Width) (bs : List ℕ) → length bs ≡ byte_len w → ((i : ℕ) → get_or bs i 0 < 256) → to_le_bytes w (from_le_bytes w bs) ≡ bs
to_le_bytes-from_le_bytes w bs l small =
    ap (λ (n : ℕ). to_le_bytes w n) (from_le_bytes-spelled w bs l)
    ∙ ap (λ (k : ℕ). bytes_low_first 0 k (spelled bs)) (sym l)
    ∙ bytes_low_first-spelled bs small

-- the same for signed numbers
pub signed-from_le_bytes : (w : Width) (z : ℤ) → SFits w z → cast_signed w (from_le_bytes w (to_le_bytes w (cast_unsigned w z))) ≡ z
signed-from_le_bytes w z fits =
    ap (λ (n : ℕ). cast_signed w n) (from_le_bytes-to_le_bytes w (cast_unsigned w z) (Fits-of_z {w = w} {z = z} fits))
    ∙ to_z-of_z {w = w} {z = z} fits

pub signed-to_le_bytes : (w : Width) (bs : List ℕ) → length bs ≡ byte_len w → ((i : ℕ) → get_or bs i 0 < 256) → to_le_bytes w (cast_unsigned w (cast_signed w (from_le_bytes w bs))) ≡ bs
signed-to_le_bytes w bs l small =
    ap (λ (n : ℕ). to_le_bytes w n) (of_z-to_z {w = w} {n = from_le_bytes w bs} (Fits-from_le_bytes w bs l small))
    ∙ to_le_bytes-from_le_bytes w bs l small
