-- What is read back of leaves, options, boxes, vectors and arrays.
use Rattle.std.proofs.Common.{◌≡◌, ℕ, Bool, true, false, if◌then◌else◌, suc, ◌+◌, ◌*◌, ◌<◌, ◌≤◌, List, [], ◌∷◌, ◌++◌, length, Some, None, Ok, Err, Result, MatchResult, sym, ap, subst, ◌∙◌, arith}
use Rattle.std.specs.Prelude.{Box, Vec}
use Rattle.std.specs.Global.{Global}
use Rattle.archive_shape_layout.specs.Bytes.{align_up}
use Rattle.archive_shape_layout.specs.Shape.{Shape, size_of, align_of}
use Rattle.archive_shape_layout.specs.Shape.Shape.{option, box, vector, array}
use Rattle.archive_shape_layout.specs.Shape.Pointee.{sized}
use Rattle.archive_shape_layout.specs.Value.{Value, Values, count_values}
use Rattle.archive_shape_layout.specs.Value.Values.{no_values, more_values}
use Rattle.archive_shape_layout.specs.Content.{Names}
use Rattle.archive_shape_layout.specs.Path.{value_in}
use Rattle.archive_shape_layout.proofs.Framed.{le_align_up}
use Rattle.archive_shape_canonical.specs.Sharing.{erased, all_erased}
use Rattle.archive_shape_layout.specs.declared.error.Error.{Error}
use Rattle.archive_shape.specs.Key.{HeldAt}
use Rattle.archive_forms_values.specs.Arrays.{IsArrayAt}
use Rattle.archive_forms_values.specs.Parts.{HasValue, IsNoneAt, IsSomeAt, some_position, IsBoxAt, IsVecAt, AreElements, HasElements}
use Rattle.archive_forms_values.proofs.Pointed.{element_ends}
use Rattle.archive_forms.specs.Deserializing.{IsReadAt, AreReadFrom, DeserializesBy, DeserializesAll}
use Rattle.archive_forms.specs.Reading.{reads_in, reads_option, reads_each, reads_all}

-- ---- what the parts of a value are

module _ (s : Shape) (knows : Names → Type 0) (bytes : List ℕ) (pos : ℕ) where
  -- where an option is some value, there is one after its tag
  pub some_has : (at : ℕ) → at ≡ some_position s pos → IsSomeAt s knows bytes pos → HasValue (option s) knows bytes pos → HasValue s knows bytes at
  some_has at e there h =
      let p = there h.value h.held in record { value = p.payload; held = subst (λ n. HeldAt s knows bytes n p.payload) (sym e) p.held }

  -- there is one where a box leads to
  pub box_has : (to : ℕ) → IsBoxAt s knows bytes pos to → HasValue (box (sized s)) knows bytes pos → HasValue s knows bytes to
  box_has to there h = record { value = h.value; held = there.value h.value h.held }

  -- there are elements where a vector leads to
  pub vec_has : (to len : ℕ) → IsVecAt s knows bytes pos to len → HasValue (vector s) knows bytes pos → HasElements s knows bytes to len
  vec_has to len there h = record { value = h.value; stand = there.value h.value h.held }

-- each of the elements has a value
pub element_has : (s : Shape) (knows : Names → Type 0) (bytes : List ℕ) (to len i at : ℕ) → HasElements s knows bytes to len → i < len → at ≡ to + i * size_of s → HasValue s knows bytes at
element_has s knows bytes to len i at h less e =
    let x = h.stand.each i less in record { value = x.0; held = subst (λ n. HeldAt s knows bytes n x.0) (sym e) x.2 }

-- and each ends where the last one does, or before
pub element_ends_before : (s : Shape) (to len i at : ℕ) → i < len → at ≡ to + i * size_of s → at + size_of s ≤ to + len * size_of s
element_ends_before s to len i at less e = let ends = element_ends to i len (size_of s) (to + len * size_of s) less (omega arith) in omega (arith, e, ends)

-- the value of an option ends where it does, or before
pub some_ends : (s : Shape) (pos at : ℕ) → at ≡ some_position s pos → at + size_of s ≤ pos + size_of (option s)
some_ends s pos at e = let filled = le_align_up (align_up 1 (align_of s) + size_of s) (align_of s) in omega (arith, e, filled)

-- ---- what is read of it

module _ {A : Type 0} (reads : Value → A → Type 0) (s : Shape) (knows : Names → Type 0) (bytes : List ℕ) where
  pub none_read : (pos : ℕ) → IsNoneAt s knows bytes pos → IsReadAt (reads_option reads) (option s) knows bytes pos None
  none_read pos none v h = sym (ap erased (none v h))

  pub some_read :
      (pos at : ℕ) (x : A) → at ≡ some_position s pos → IsSomeAt s knows bytes pos → IsReadAt reads s knows bytes at x
      → IsReadAt (reads_option reads) (option s) knows bytes pos (Some x)
  some_read pos at x e there read v h =
      let p = there v h in
      (erased p.payload, sym (ap erased p.is), read p.payload (subst (λ n. HeldAt s knows bytes n p.payload) (sym e) p.held))

  pub box_read :
      (pos to : ℕ) (b : Box A Global) (x : A) → b.value ≡ x → IsBoxAt s knows bytes pos to → IsReadAt reads s knows bytes to x
      → IsReadAt (reads_in (λ (z : Box A Global). z.value) reads) (box (sized s)) knows bytes pos b
  box_read pos to b x e there read v h = subst (λ y. reads (erased v) y) (sym e) (read v (there.value v h))

  pub one_more :
      (at : ℕ) (xs : List A) (x : A) → AreReadFrom reads s knows bytes at xs → IsReadAt reads s knows bytes (at + length xs * size_of s) x
      → AreReadFrom reads s knows bytes at (xs ++ (x ∷ []))
  one_more at [] x h r =
      let P : ℕ → Type 0 = λ n. IsReadAt reads s knows bytes n x in
      let e : at + 0 * size_of s ≡ at = omega arith in (subst P e r, tt)
  one_more at (y ∷ ys) x h r =
      let P : ℕ → Type 0 = λ n. IsReadAt reads s knows bytes n x in
      let e : at + suc (length ys) * size_of s ≡ at + size_of s + length ys * size_of s = omega arith in
      (h.0, one_more (at + size_of s) ys x h.1 (subst P e r))

  all_read :
      (at : ℕ) (xs : List A) (vs : Values)
      → count_values vs ≡ length xs
      → AreReadFrom reads s knows bytes at xs
      → ((i : ℕ) → i < length xs → (v : Value) × (value_in i vs ≡ Some v) × HeldAt s knows bytes (at + i * size_of s) v)
      → reads_each reads (all_erased vs) xs
  all_read at [] no_values c h each = tt
  all_read at [] (more_values v vs) c h each = absurd (omega (arith, c))
  all_read at (x ∷ xs) no_values c h each = absurd (omega (arith, c))
  all_read at (x ∷ xs) (more_values v vs) c h each =
      let first = each 0 (omega arith) in
      let is : first.0 ≡ v = let e = first.1 in cc in
      let here : at + 0 * size_of s ≡ at = omega arith in
      let held : HeldAt s knows bytes at v = subst (λ u. HeldAt s knows bytes at u) is (subst (λ n. HeldAt s knows bytes n first.0) here first.2) in
      let rest = all_read (at + size_of s) xs vs (omega (arith, c)) h.1
      (λ i less.
      let next = each (suc i) (omega (arith, less)) in
      let later : at + suc i * size_of s ≡ at + size_of s + i * size_of s = omega arith in
      (next.0, next.1, subst (λ n. HeldAt s knows bytes n next.0) later next.2)) in
      (h.0 v held, rest)

  -- the value of elements is that of those that are read
  pub all_values :
      (to len : ℕ) (xs : List A) (v : Value) → AreElements s knows bytes to len v → length xs ≡ len → AreReadFrom reads s knows bytes to xs
      → reads_all reads (erased v) xs
  all_values to len xs v es e read =
      (all_erased es.elements, sym (ap erased es.is), all_read to xs es.elements (es.count ∙ sym e) read (λ i less. es.each i (omega (arith, less, e))))

  -- elements are those of each value of a shape at a position
  pub elements_read :
      (whole : Shape) (pos to len : ℕ) (r : Result (Vec A Global) Error) → ((v : Value) → HeldAt whole knows bytes pos v → AreElements s knows bytes to len v)
      → DeserializesAll reads s knows bytes to len (λ xs. xs.items) r
      → DeserializesBy (reads_in (λ (xs : Vec A Global). xs.items) (reads_all reads)) whole knows bytes pos (λ xs. xs) r
  elements_read whole pos to len (Ok xs) there h = λ v held. all_values to len xs.items v (there v held) h.0 h.1
  elements_read whole pos to len (Err e) there h = h

  pub array_read :
      (n : ℕ) (pos : ℕ) (xs : List A) → IsArrayAt n s knows bytes pos → length xs ≡ n → AreReadFrom reads s knows bytes pos xs
      → IsReadAt (reads_all reads) (array n s) knows bytes pos xs
  array_read n pos xs there e read = λ v held. all_values pos n xs v (there v held) e read

-- a list that ends with another element where a test is true
pub pushed : {A : Type 0} (b : Bool) (x y z : List A) → x ≡ (if b then y else z) → b ≡ true → x ≡ y
pushed true x y z e t = e
pushed false x y z e t = absurd (cc)

-- what a call gives is said of the value that is unwrapped
pub ok_says : {A B : Type 0} (P : A → Type 0) (Q : B → Type 0) (r : Result A B) (x : A) → MatchResult r P Q → r ≡ Ok x → P x
ok_says P Q (Ok y) x h e = let is : y ≡ x = cc in subst P is h
ok_says P Q (Err y) x h e = absurd (cc)
