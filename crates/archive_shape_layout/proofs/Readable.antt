-- Which own bytes some value has: exactly the legal ones.
use Rattle.std.proofs.Common.{◌≡◌, ℕ, ◌<◌, ◌==◌, ◌↔◌, nat_lt, Bool, true, false, IsTrue, List, [], ◌⊎◌, inl, inr, refl, sym, subst, ap, slice_index, arith}
use Rattle.std.specs.Bool.{⊤}
use Rattle.std.specs.Int.{Width, from_le_bytes}
use Rattle.std.proofs.lemmas.Bool.Decides.{nat_tests}
use Rattle.archive_shape_layout.specs.Bytes.{window, word_at}
use Rattle.archive_shape_layout.specs.Shape.{Shape, size_of}
use Rattle.archive_shape_layout.specs.Shape.Shape.{number, nonzero, truth, character}
use Rattle.archive_shape_layout.specs.Value.{Value}
use Rattle.archive_shape_layout.specs.Value.Value.{boolean, natural}
use Rattle.archive_shape_layout.specs.Content.{Content, Label, choose, shape_content, number_value, is_scalar}
use Rattle.archive_shape_layout.specs.Content.Content.{illegal, plain}
use Rattle.archive_shape_layout.specs.Content.Label.{leaf}
use Rattle.archive_shape_layout.specs.Numbers.{IsLeafShape, Reads, IsReadable, IsIllegal, LegalIsReadable, HeldLeafIsRead}
use Rattle.archive_shape_layout.proofs.NumberReading.{nonzero_reads, leaf_is_read_law, illegal_is_refused_law}

-- what is not illegal passed its test
passed : (test : Bool) (content : Content) (l : Label) → choose test content illegal ≡ plain l [] → test ≡ true
unfolding choose
passed true content l e = refl
passed false content l e = let differ : illegal ≡ plain l [] = e in cc

not_refused : (test : Bool) (content : Content) (l : Label) → choose test illegal content ≡ plain l [] → test ≡ false
unfolding choose
not_refused false content l e = refl
not_refused true content l e = let differ : illegal ≡ plain l [] = e in cc

-- all bytes are a number's
number_readable : (w : Width) (signed : Bool) (own : List ℕ) → ⊤ ↔ IsReadable (number w signed) own
unfolding shape_content
number_readable w signed own =
    (λ _. record { value = number_value w signed (from_le_bytes w own); reads = λ names pos. refl }, λ _. tt)

positive : (n : ℕ) → (n == 0) ≡ false → 0 < n
positive n test = grind (arith, nat_tests)

-- all except those of 0 are a number's without 0
nonzero_readable : (w : Width) (signed : Bool) (own : List ℕ) → (0 < from_le_bytes w own) ↔ IsReadable (nonzero w signed) own
unfolding shape_content
nonzero_readable w signed own =
    let value : Value = number_value w signed (from_le_bytes w own) in (
      λ legal. record { value = value; reads = nonzero_reads w signed own value value (λ names pos. refl) refl legal },
      λ readable. positive _ (not_refused _ (plain (leaf value) []) (leaf readable.value) (readable.reads [] 0)),
    )

-- those of the code of a char are a char's
char_readable : (own : List ℕ) → IsTrue (is_scalar (word_at own 0)) ↔ IsReadable character own
unfolding shape_content choose
char_readable own =
    let value : Value = natural (word_at own 0) in (
      λ legal. record { value = value; reads = λ names pos. ap (λ (test : Bool). choose test (plain (leaf value) []) illegal) legal },
      λ readable. passed _ (plain (leaf value) []) (leaf readable.value) (readable.reads [] 0),
    )

below : (n m : ℕ) → n < m → nat_lt n m ≡ true
below n m less = grind (arith, nat_tests)

is_below : (n m : ℕ) → nat_lt n m ≡ true → n < m
is_below n m test = grind (arith, nat_tests)

-- 0 and 1 are a truth value's
truth_readable : (own : List ℕ) → (slice_index own 0 < 2) ↔ IsReadable truth own
unfolding shape_content choose
truth_readable own =
    let value : Value = boolean (slice_index own 0 == 1) in (
      λ legal. record { value = value; reads = λ names pos. ap (λ (test : Bool). choose test (plain (leaf value) []) illegal) (below _ _ legal) },
      λ readable. is_below _ _ (passed _ (plain (leaf value) []) (leaf readable.value) (readable.reads [] 0)),
    )

pub legal_is_readable_law : LegalIsReadable
legal_is_readable_law (number w signed) own is_leaf = number_readable w signed own
legal_is_readable_law (nonzero w signed) own is_leaf = nonzero_readable w signed own
legal_is_readable_law truth own is_leaf = truth_readable own
legal_is_readable_law character own is_leaf = char_readable own
legal_is_readable_law _ own is_leaf = absurd is_leaf

-- ---- what the layout has

nonzero_decided : (w : Width) (signed : Bool) (own : List ℕ) (b : Bool) → (from_le_bytes w own == 0) ≡ b → IsReadable (nonzero w signed) own ⊎ IsIllegal (nonzero w signed) own
unfolding shape_content choose
nonzero_decided w signed own false test = inl ((nonzero_readable w signed own).0 (positive _ test))
nonzero_decided w signed own true test = inr (λ names pos. ap (λ (zero : Bool). choose zero illegal (plain (leaf (number_value w signed (from_le_bytes w own))) [])) test)

char_decided : (own : List ℕ) (b : Bool) → is_scalar (word_at own 0) ≡ b → IsReadable character own ⊎ IsIllegal character own
unfolding shape_content choose
char_decided own true test = inl ((char_readable own).0 test)
char_decided own false test = inr (λ names pos. ap (λ (scalar : Bool). choose scalar (plain (leaf (natural (word_at own 0))) []) illegal) test)

truth_decided : (own : List ℕ) (b : Bool) → nat_lt (slice_index own 0) 2 ≡ b → IsReadable truth own ⊎ IsIllegal truth own
unfolding shape_content choose
truth_decided own true test = inl ((truth_readable own).0 (is_below _ _ test))
truth_decided own false test = inr (λ names pos. ap (λ (less : Bool). choose less (plain (leaf (boolean (slice_index own 0 == 1))) []) illegal) test)

-- own bytes of a leaf are some value's, or illegal
decided : (shape : Shape) (own : List ℕ) → IsLeafShape shape → IsReadable shape own ⊎ IsIllegal shape own
decided (number w signed) own is_leaf = inl ((number_readable w signed own).0 tt)
decided (nonzero w signed) own is_leaf = nonzero_decided w signed own _ refl
decided truth own is_leaf = truth_decided own _ refl
decided character own is_leaf = char_decided own _ refl
decided _ own is_leaf = absurd is_leaf

pub held_leaf_is_read_law : HeldLeafIsRead
held_leaf_is_read_law shape bytes pos value is_leaf names level inside regions before after holds =
    elim (decided shape (window bytes pos (size_of shape)) is_leaf) [
      | inl readable ↦
          let same = (leaf_is_read_law shape bytes pos readable.value readable.reads names level inside value regions before after).0 holds in
          subst (λ (v : Value). Reads shape (window bytes pos (size_of shape)) v) (sym same.value) readable.reads
      | inr is_illegal ↦ absurd (illegal_is_refused_law shape bytes pos is_illegal names level inside value regions before after holds)
    ]
