-- What the bytes of numbers represent.
use Rattle.std.proofs.Common.{◌≡◌, ℕ, ℤ, ◌<◌, ◌==◌, nat_lt, nat_le, Bool, not, cond, ◌||◌, ◌&&◌, IsTrue, Option, None, ◌∷◌, List, [], true, false, Some, refl, subst, ap, ◌∙◌, sym, length, get_or, slice_index, arith, Fits, SFits}
use Rattle.std.specs.Int.{Width, w8, w32, byte_len, cast_signed, cast_unsigned, to_le_bytes, from_le_bytes}
use Rattle.std.specs.Char.{IsScalar}
use Rattle.std.specs.Option.{SomeIff, is_some, IsSome}
use Rattle.std.proofs.Math.Facts.{Fits-of_z}
use Rattle.std.proofs.Math.ListN.{set}
use Rattle.std.proofs.lemmas.Bool.Decides.{nat_tests}
use lib.Utf8.{scalar}
use Rattle.archive_shape_layout.specs.Bytes.{word_at}
use Rattle.archive_shape_layout.specs.Shape.{Shape}
use Rattle.archive_shape_layout.specs.Shape.Shape.{number, nonzero, truth, character}
use Rattle.archive_shape_layout.specs.Value.{Value}
use Rattle.archive_shape_layout.specs.Value.Values.{no_values}
use Rattle.archive_shape_layout.specs.Value.Value.{boolean, integer, natural}
use Rattle.archive_shape_layout.specs.Content.{Names, Part, choose, made, shape_content, content_of, number_value, is_scalar}
use Rattle.archive_shape_layout.specs.Content.Content.{illegal, plain}
use Rattle.archive_shape_layout.specs.Content.Label.{leaf}
use Rattle.archive_shape_layout.specs.Content.Part.{at}
use Rattle.archive_shape_layout.specs.Holds.{Holds, Region, Visit, OpenShared}
use Rattle.archive_shape_layout.specs.Holds.Holds.{holds_plain, holds_claimed, holds_first, holds_later, holds_back}
use Rattle.archive_shape_layout.specs.Holds.HoldAll.{holds_none}
use Rattle.archive_shape_layout.proofs.Unique.{one_value_law}
use Rattle.archive_shape_layout.specs.Numbers.{Reads, IsIllegal, LeafIsRead, IllegalIsRefused, truth_bytes}
use Rattle.archive_shape_layout.proofs.NumberSpelling.{from_le_bytes-to_le_bytes, signed-from_le_bytes, to_le_bytes-from_le_bytes, signed-to_le_bytes}

-- bytes represent the signed number that is read from them
pub signed_reads : (w : Width) (own : List ℕ) (z : ℤ) → z ≡ cast_signed w (from_le_bytes w own) → Reads (number w true) own (integer z)
unfolding shape_content number_value
signed_reads w own z e names pos = ap (λ (x : ℤ). plain (leaf (integer x)) []) (sym e)

-- the bytes of a signed number represent it
pub signed_stored : (w : Width) (own : List ℕ) (z : ℤ) → SFits w z → own ≡ to_le_bytes w (cast_unsigned w z) → Reads (number w true) own (integer z)
signed_stored w own z fits e = signed_reads w own z (sym (signed-from_le_bytes w z fits) ∙ ap (λ (bs : List ℕ). cast_signed w (from_le_bytes w bs)) (sym e))

-- the same for an unsigned number
pub unsigned_reads : (w : Width) (own : List ℕ) (n : ℕ) → n ≡ from_le_bytes w own → Reads (number w false) own (natural n)
unfolding shape_content number_value
unsigned_reads w own n e names pos = ap (λ (x : ℕ). plain (leaf (natural x)) []) (sym e)

pub unsigned_stored : (w : Width) (own : List ℕ) (n : ℕ) → Fits w n → own ≡ to_le_bytes w n → Reads (number w false) own (natural n)
unsigned_stored w own n fits e = unsigned_reads w own n (sym (from_le_bytes-to_le_bytes w n fits) ∙ ap (λ (bs : List ℕ). from_le_bytes w bs) (sym e))

made-leaf : {v : Value} → made (leaf v) no_values ≡ Some v
unfolding made
made-leaf = refl

-- bytes represent one value
pub one_reading : (shape : Shape) (own : List ℕ) (v u : Value) → Reads shape own v → Reads shape own u → v ≡ u
one_reading shape own v u reads again =
    let e : plain (leaf v) [] ≡ plain (leaf u) [] = sym (reads [] 0) ∙ again [] 0 in cc

pub leaf_is_read_law : LeafIsRead
leaf_is_read_law shape bytes pos value reads names level inside read regions before after =
    let stands : Holds names bytes level inside (at pos shape) value [] before before = holds_plain (reads names pos) tt (holds_none refl refl refl) made-leaf in (
      λ h. one_value_law names bytes level inside (at pos shape) before read value regions [] after before h stands,
      λ same.
          let P : Value → Type 0 = λ v. Holds names bytes level inside (at pos shape) v regions before after in
          let Q : List Region → Type 0 = λ rs. Holds names bytes level inside (at pos shape) value rs before after in
          let R : List Visit → Type 0 = λ vs. Holds names bytes level inside (at pos shape) value [] before vs in
          subst P (sym same.value) (subst Q (sym same.regions) (subst R (sym same.after) stands)),
    )

-- a truth value's byte represents it
pub truth_reads : (own : List ℕ) (b : Bool) → own ≡ truth_bytes b → Reads truth own (boolean b)
unfolding shape_content choose
truth_reads own false e names pos = subst (λ (bs : List ℕ). shape_content names pos bs truth ≡ plain (leaf (boolean false)) []) (sym e) refl
truth_reads own true e names pos = subst (λ (bs : List ℕ). shape_content names pos bs truth ≡ plain (leaf (boolean true)) []) (sym e) refl

-- a byte represents itself
pub byte_reads : (own : List ℕ) (b : ℕ) → b ∷ [] ≡ own → Reads (number w8 false) own (natural b)
byte_reads own b e = unsigned_reads w8 own b (ap (λ (bs : List ℕ). from_le_bytes w8 bs) e)

-- the number that is read from bytes has those bytes
pub unsigned_spells : (w : Width) (own : List ℕ) (n : ℕ) → n ≡ from_le_bytes w own → length own ≡ byte_len w → ((i : ℕ) → get_or own i 0 < 256) → to_le_bytes w n ≡ own
unsigned_spells w own n e l small = ap (λ (m : ℕ). to_le_bytes w m) e ∙ to_le_bytes-from_le_bytes w own l small

pub signed_spells : (w : Width) (own : List ℕ) (z : ℤ) → z ≡ cast_signed w (from_le_bytes w own) → length own ≡ byte_len w → ((i : ℕ) → get_or own i 0 < 256) → to_le_bytes w (cast_unsigned w z) ≡ own
signed_spells w own z e l small = ap (λ (x : ℤ). to_le_bytes w (cast_unsigned w x)) e ∙ signed-to_le_bytes w own l small

-- the number that bytes represent, by what they represent and by the bytes
pub read_number : (w : Width) (own : List ℕ) (n : ℕ) → Reads (number w false) own (natural n) → from_le_bytes w own ≡ n
unfolding shape_content number_value
read_number w own n reads =
    let e : plain (leaf (natural (from_le_bytes w own))) [] ≡ plain (leaf (natural n)) [] = reads [] 0 in cc

pub spelled_number : (w : Width) (own : List ℕ) (n : ℕ) → Fits w n → to_le_bytes w n ≡ own → from_le_bytes w own ≡ n
spelled_number w own n fits spells = ap (λ (bs : List ℕ). from_le_bytes w bs) (sym spells) ∙ from_le_bytes-to_le_bytes w n fits

-- ---- numbers without 0

nonzero_content : (w : Width) (signed : Bool) (own : List ℕ) (n : ℕ) → from_le_bytes w own ≡ n
    → (names : Names) (pos : ℕ) → shape_content names pos own (nonzero w signed) ≡ choose (n == 0) illegal (plain (leaf (number_value w signed n)) [])
unfolding shape_content
nonzero_content w signed own n e names pos = ap (λ (m : ℕ). choose (m == 0) illegal (plain (leaf (number_value w signed m)) [])) e

above_zero : (n : ℕ) → 0 < n → (n == 0) ≡ false
above_zero n positive = grind (arith, nat_tests)

is_zero : (n : ℕ) → not (n == 0) ≡ false → (n == 0) ≡ true
is_zero n test = grind (arith, nat_tests)

-- bytes that represent a number and are not all 0 represent it as a number without 0
pub nonzero_reads : (w : Width) (signed : Bool) (own : List ℕ) (v u : Value) → Reads (number w signed) own v → v ≡ u → 0 < from_le_bytes w own → Reads (nonzero w signed) own u
unfolding shape_content choose
nonzero_reads w signed own v u reads e positive names pos =
    let n : ℕ = from_le_bytes w own in
    nonzero_content w signed own n refl names pos
    ∙ ap (λ (b : Bool). choose b illegal (plain (leaf (number_value w signed n)) [])) (above_zero n positive)
    ∙ reads names pos
    ∙ ap (λ (x : Value). plain (leaf x) []) e

-- so do those of a number that is not 0
pub nonzero_unsigned_stored : (w : Width) (own : List ℕ) (n m : ℕ) → Reads (number w false) own (natural n) → n ≡ m → 0 < n → Reads (nonzero w false) own (natural m)
nonzero_unsigned_stored w own n m reads e positive =
    let spelled : from_le_bytes w own ≡ n = read_number w own n reads in
    nonzero_reads w false own (natural n) (natural m) reads (ap (λ (k : ℕ). natural k) e) (subst (λ (k : ℕ). 0 < k) (sym spelled) positive)

pub nonzero_signed_stored : (w : Width) (own : List ℕ) (x y z : ℤ) → Reads (number w true) own (integer x) → own ≡ to_le_bytes w (cast_unsigned w x) → x ≡ y → y ≡ z → SFits w y → 0 < cast_unsigned w y → Reads (nonzero w true) own (integer z)
nonzero_signed_stored w own x y z reads spells e f fits positive =
    let n : ℕ = cast_unsigned w y in
    let spelled : from_le_bytes w own ≡ n = spelled_number w own n (Fits-of_z {w = w} {z = y} fits) (sym (spells ∙ ap (λ (k : ℤ). to_le_bytes w (cast_unsigned w k)) e)) in
    nonzero_reads w true own (integer x) (integer z) reads (ap (λ (k : ℤ). integer k) (e ∙ f)) (subst (λ (k : ℕ). 0 < k) (sym spelled) positive)

-- the bytes of 0 are not legal there
pub nonzero_illegal : (w : Width) (signed : Bool) (own : List ℕ) (n : ℕ) → from_le_bytes w own ≡ n → not (n == 0) ≡ false → IsIllegal (nonzero w signed) own
unfolding choose
nonzero_illegal w signed own n e test names pos =
    nonzero_content w signed own n e names pos
    ∙ ap (λ (b : Bool). choose b illegal (plain (leaf (number_value w signed n)) [])) (is_zero n test)

-- ---- chars

either : (a b : Bool) → (a || b) ≡ cond a true b
either true b = refl
either false b = refl

scalar_same : (n : ℕ) → is_scalar n ≡ scalar n
unfolding is_scalar
scalar_same n = either (nat_lt n 55296) (nat_le 57344 n && nat_lt n 1114112)

word_scalar : (own : List ℕ) (n : ℕ) → Reads (number w32 false) own (natural n) → is_scalar (word_at own 0) ≡ scalar n
unfolding word_at
word_scalar own n reads = ap (λ (m : ℕ). is_scalar m) (read_number w32 own n reads) ∙ scalar_same n

char_content : (own : List ℕ) (n : ℕ) (b : Bool) → Reads (number w32 false) own (natural n) → scalar n ≡ b
    → (names : Names) (pos : ℕ) → shape_content names pos own character ≡ choose b (plain (leaf (natural n)) []) illegal
unfolding shape_content word_at
char_content own n b reads e names pos =
    ap (λ (m : ℕ). choose (is_scalar m) (plain (leaf (natural m)) []) illegal) (read_number w32 own n reads)
    ∙ ap (λ (c : Bool). choose c (plain (leaf (natural n)) []) illegal) (scalar_same n ∙ e)

-- the bytes of a char's code represent it
pub char_reads : (own : List ℕ) (n m : ℕ) → Reads (number w32 false) own (natural n) → n ≡ m → IsScalar m → Reads character own (natural m)
unfolding choose
char_reads own n m reads e scalar names pos =
    let P : ℕ → Type 0 = λ k. Reads (number w32 false) own (natural k) in
    char_content own m true (subst P e reads) scalar names pos

pub char_found : (own : List ℕ) (n m : ℕ) (found : Option ℕ) → Reads (number w32 false) own (natural n) → found ≡ Some m → SomeIff found (IsScalar n) n → Reads character own (natural m)
char_found own n m found reads e value =
    let P : Option ℕ → Type 0 = λ f. SomeIff f (IsScalar n) n in
    let here : IsScalar n × (m ≡ n) = subst P e value in
    char_reads own n m reads (sym here.1) (subst (λ (k : ℕ). IsScalar k) (sym here.1) here.0)

denied : (b : Bool) → (b ≡ true → ⊥) → b ≡ false
denied true deny = absurd (deny refl)
denied false deny = refl

-- the bytes of no such code are not legal there
pub char_illegal : (own : List ℕ) (n : ℕ) (found : Option ℕ) → Reads (number w32 false) own (natural n) → SomeIff found (IsScalar n) n → is_some found ≡ false → IsIllegal character own
unfolding choose
char_illegal own n None reads value test names pos = char_content own n false reads (denied (scalar n) value) names pos
char_illegal own n (Some m) reads value test names pos = let differ : true ≡ false = test in cc

-- the bytes are legal exactly where they are those of such a code
pub char_is_legal : (own : List ℕ) (n : ℕ) (found : Option ℕ) → Reads (number w32 false) own (natural n) → SomeIff found (IsScalar n) n → is_some found ≡ true → IsTrue (is_scalar (word_at own 0))
char_is_legal own n None reads value test = let differ : false ≡ true = test in cc
char_is_legal own n (Some m) reads value test = word_scalar own n reads ∙ value.0

pub char_is_found : (own : List ℕ) (n : ℕ) (found : Option ℕ) → Reads (number w32 false) own (natural n) → SomeIff found (IsScalar n) n → IsTrue (is_scalar (word_at own 0)) → IsSome found
char_is_found own n None reads value legal = absurd (value (sym (word_scalar own n reads) ∙ legal))
char_is_found own n (Some m) reads value legal = refl

-- ---- truth values

-- a byte from 2 on is not legal there
pub truth_illegal : (own : List ℕ) → nat_lt (slice_index own 0) 2 ≡ false → IsIllegal truth own
unfolding shape_content choose
truth_illegal own e names pos = ap (λ (b : Bool). choose b (plain (leaf (boolean (slice_index own 0 == 1))) []) illegal) e

-- the only byte that is written
pub only_set : (out : List ℕ) (b : ℕ) → length out ≡ 1 → set out 0 b ≡ b ∷ []
only_set [] b l = absurd (omega (arith, l))
only_set (a ∷ []) b l = refl
only_set (a ∷ c ∷ out) b l = absurd (omega (arith, l))

-- ---- bytes that are not legal

-- no value is there
pub refused : {names : Names} {bytes : List ℕ} {level : ℕ} {inside : List OpenShared} {p : Part} {v : Value} {regions : List Region} {before after : List Visit}
    → content_of names bytes p ≡ illegal → Holds names bytes level inside p v regions before after → ⊥
refused e (holds_plain f legal all value) = let h = f in cc
refused e (holds_claimed f legal all value claims) = cc
refused e (holds_first f open_at visited within value visits) = cc
refused e (holds_later f open_at visited value claims visits) = cc
refused e (holds_back f open_at value claims visits) = cc

pub illegal_is_refused_law : IllegalIsRefused
illegal_is_refused_law shape bytes pos is_illegal names level inside value regions before after holds = refused (is_illegal names pos) holds
