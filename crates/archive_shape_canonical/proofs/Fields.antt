-- Where two buffers have one content at a part, they have the same bytes in its fields.
use Rattle.std.proofs.Common.{◌≡◌, ℕ, ◌+◌, ◌-◌, ◌%◌, ◌^◌, ◌≤◌, ◌<◌, zero, suc, Bool, true, false, cond, ◌==◌, ◌||◌, nat_lt, nat_le, List, [], ◌∷◌, drop, length, get_or, slice_index, Option, Some, None, refl, ap, sym, subst, ◌∙◌, arith, ⊎_elim, get_or-drop, eqb-true, leb-true, ℤ}
use Rattle.std.specs.Prelude.{⊤}
use Rattle.std.specs.Int.{Width, w8, w16, w32, w64, w128, byte_len, from_le_bytes, cast_signed, cast_unsigned}
use Rattle.std.proofs.Math.Facts.{Fits-of_lt, of_z-to_z}
use Rattle.std.proofs.lemmas.Bool.{cases_lt}
use Rattle.std.proofs.lemmas.Bool.Decides.{nat_tests}
use Rattle.archive_shape_layout.specs.Content.{choose, Names, Part, Item, Label, Content, shape_tagged, following, option_content, text_content, text_length, before_ff, shared_content, pointee_length, table_parts, shape_content, number_value, child_content, place_content}
use Rattle.archive_shape_layout.specs.Content.Part.{at, behind, node, buckets}
use Rattle.archive_shape_layout.specs.Content.Item.{item, place}
use Rattle.archive_shape_layout.specs.Content.Label.{leaf, written, same, tagged}
use Rattle.archive_shape_layout.specs.Content.Content.{illegal, plain, claimed, counting}
use Rattle.archive_shape_layout.specs.Shape.{Shape, Pointee, align_of, pointer_size}
use Rattle.archive_shape_layout.specs.Shape.Shape.{number, nonzero, truth, character, text, tuple, array, option, result, choice, box, vector, shared, weak, tree, table, index_map, named}
use Rattle.archive_shape_layout.specs.Shape.Shapes.{no_shapes, more_shapes}
use Rattle.archive_shape_layout.specs.Shape.Pointee.{sized, slice, str}
use Rattle.archive_shape_layout.specs.Value.{Value}
use Rattle.archive_shape_layout.specs.Value.Value.{natural, integer, boolean}
use Rattle.archive_shape_layout.specs.Bytes.{align_up, word_at, target_from}
use Rattle.archive_shape_canonical.specs.Clean.{field_size, IsTextFilled, IsShapeFilled}
use Rattle.archive_shape_canonical.proofs.Numbers.{SameFirst, same_spelled, spelled_lt}
use Rattle.archive_shape_canonical.specs.Canonical.{AreBytes}

abbrev pub IsContent : Content → Type 0
IsContent illegal = ⊥
IsContent (plain l ps) = ⊤
IsContent (claimed s l ps) = ⊤
IsContent (counting cyclic t q len) = ⊤

chosen : (b : Bool) (x c : Content) → choose b x illegal ≡ c → IsContent c → (b ≡ true) × (x ≡ c)
unfolding choose
chosen true x c e h = (refl, e)
chosen false x c e h = absurd (subst IsContent (sym e) h)

not_chosen : (b : Bool) (x c : Content) → choose b illegal x ≡ c → IsContent c → x ≡ c
unfolding choose
not_chosen true x c e h = absurd (subst IsContent (sym e) h)
not_chosen false x c e h = e

pub record Leads (o : Option ℕ) (k : ℕ → Content) (c : Content) : Type 0 where
  pub target : ℕ
  pub there : o ≡ Some target
  pub content : k target ≡ c

leads : (o : Option ℕ) (k : ℕ → Content) (c : Content) → following o k ≡ c → IsContent c → Leads o k c
unfolding following
leads None k c e h = absurd (subst IsContent (sym e) h)
leads (Some t) k c e h = record { target = t; there = refl; content = e }

-- ---- numbers

fits_of : (w : Width) (xs : List ℕ) → AreBytes xs → from_le_bytes w xs < 256 ^ byte_len w → cast_unsigned w (cast_signed w (from_le_bytes w xs)) ≡ from_le_bytes w xs
fits_of w8 xs small h = of_z-to_z {w = w8} {n = from_le_bytes w8 xs} (Fits-of_lt {w = w8} {n = from_le_bytes w8 xs} h)
fits_of w16 xs small h = of_z-to_z {w = w16} {n = from_le_bytes w16 xs} (Fits-of_lt {w = w16} {n = from_le_bytes w16 xs} h)
fits_of w32 xs small h = of_z-to_z {w = w32} {n = from_le_bytes w32 xs} (Fits-of_lt {w = w32} {n = from_le_bytes w32 xs} h)
fits_of w64 xs small h = of_z-to_z {w = w64} {n = from_le_bytes w64 xs} (Fits-of_lt {w = w64} {n = from_le_bytes w64 xs} h)
fits_of w128 xs small h = of_z-to_z {w = w128} {n = from_le_bytes w128 xs} (Fits-of_lt {w = w128} {n = from_le_bytes w128 xs} h)

drop_bytes : (n : ℕ) (xs : List ℕ) → AreBytes xs → AreBytes (drop n xs)
drop_bytes n xs small i = subst (λ m. m < 256) (sym (get_or-drop n xs i 0)) (small (n + i))

module _ (xs ys : List ℕ) (small : AreBytes xs) (tiny : AreBytes ys) where
  number_field : (w : Width) (signed : Bool) → number_value w signed (from_le_bytes w xs) ≡ number_value w signed (from_le_bytes w ys) → SameFirst (byte_len w) xs ys
  unfolding number_value
  number_field w false e =
      let of_natural : (m n : ℕ) → natural m ≡ natural n → m ≡ n = λ m n f. cc in
      same_spelled xs ys small tiny w (of_natural _ _ e)
  number_field w true e =
      let of_integer : (m n : ℤ) → integer m ≡ integer n → m ≡ n = λ m n f. cc in
      same_spelled xs ys small tiny w
      (sym (fits_of w xs small (spelled_lt w xs small)) ∙ ap (λ z. cast_unsigned w z) (of_integer _ _ e) ∙ fits_of w ys tiny (spelled_lt w ys tiny))

  of_leaf : (v u : Value) (c : Content) → plain (leaf v) [] ≡ c → plain (leaf u) [] ≡ c → v ≡ u
  of_leaf v u c e f = cc

  -- the u32 at an offset
  pub word_field : (n : ℕ) → word_at xs n ≡ word_at ys n → (i : ℕ) → i < 4 → get_or xs (n + i) 0 ≡ get_or ys (n + i) 0
  unfolding word_at
  word_field n e i h =
      sym (get_or-drop n xs i 0)
      ∙ same_spelled (drop n xs) (drop n ys) (drop_bytes n xs small) (drop_bytes n ys tiny) w32 e i h
      ∙ get_or-drop n ys i 0

  word_first : word_at xs 0 ≡ word_at ys 0 → SameFirst 4 xs ys
  unfolding word_at
  word_first e = same_spelled xs ys small tiny w32 e

  first_field : (n : ℕ) → get_or xs 0 0 ≡ get_or ys 0 0 → n ≡ 1 → SameFirst n xs ys
  first_field n e one i h = let z : i ≡ 0 = omega arith in ap (λ m. get_or xs m 0) z ∙ e ∙ ap (λ m. get_or ys m 0) (sym z)

  two_words : word_at xs 0 ≡ word_at ys 0 → word_at xs 4 ≡ word_at ys 4 → SameFirst 8 xs ys
  two_words e f i h =
      ⊎_elim
      (λ l. word_first e i l)
      (λ g. let s : 4 + (i - 4) ≡ i = omega arith in subst (λ m. get_or xs m 0 ≡ get_or ys m 0) s (word_field 4 f (i - 4) (omega arith)))
      (cases_lt i 4)

  word_lt : (zs : List ℕ) (n : ℕ) → AreBytes zs → word_at zs n < 2 ^ 32
  unfolding word_at
  word_lt zs n h = spelled_lt w32 (drop n zs) (drop_bytes n zs h)

  -- an offset is determined by where it leads
  one_word : (pos t m n : ℕ) → m < 2 ^ 32 → n < 2 ^ 32 → target_from pos m ≡ Some t → target_from pos n ≡ Some t → m ≡ n
  unfolding target_from
  one_word pos t m n low high e f = by_tests (nat_lt m (2 ^ 31)) (nat_lt n (2 ^ 31)) (nat_le (2 ^ 32 - m) pos) (nat_le (2 ^ 32 - n) pos) refl refl refl refl e f
    where
      by_tests : (a b c d : Bool) → nat_lt m (2 ^ 31) ≡ a → nat_lt n (2 ^ 31) ≡ b → nat_le (2 ^ 32 - m) pos ≡ c → nat_le (2 ^ 32 - n) pos ≡ d
          → cond a (Some (pos + m)) (cond c (Some (pos - (2 ^ 32 - m))) None) ≡ Some t
          → cond b (Some (pos + n)) (cond d (Some (pos - (2 ^ 32 - n))) None) ≡ Some t → m ≡ n
      by_tests true true c d ha hb hc hd e' f' = let x : pos + m ≡ pos + n = cc in omega arith
      by_tests true false c true ha hb hc hd e' f' =
          let x : pos + m ≡ pos - (2 ^ 32 - n) = cc in
          absurd (let h : 2 ^ 32 - n ≤ pos = leb-true (2 ^ 32 - n) pos hd in omega arith)
      by_tests true false c false ha hb hc hd e' f' = absurd (cc)
      by_tests false true true d ha hb hc hd e' f' =
          let x : pos + n ≡ pos - (2 ^ 32 - m) = cc in
          absurd (let h : 2 ^ 32 - m ≤ pos = leb-true (2 ^ 32 - m) pos hc in omega arith)
      by_tests false true false d ha hb hc hd e' f' = absurd (cc)
      by_tests false false true true ha hb hc hd e' f' =
          let x : pos - (2 ^ 32 - m) ≡ pos - (2 ^ 32 - n) = cc in
          let h : 2 ^ 32 - m ≤ pos = leb-true (2 ^ 32 - m) pos hc in
          let k : 2 ^ 32 - n ≤ pos = leb-true (2 ^ 32 - n) pos hd in
          omega arith
      by_tests false false true false ha hb hc hd e' f' = absurd (cc)
      by_tests false false false d ha hb hc hd e' f' = absurd (cc)

  pointer_field : (pos t : ℕ) (p : Pointee) → target_from pos (word_at xs 0) ≡ Some t → target_from pos (word_at ys 0) ≡ Some t
      → pointee_length p xs ≡ pointee_length p ys → SameFirst (pointer_size p) xs ys
  pointer_field pos t (sized s) e f g = word_first (one_word pos t (word_at xs 0) (word_at ys 0) (word_lt xs 0 small) (word_lt ys 0 tiny) e f)
  pointer_field pos t (slice s) e f g = two_words (one_word pos t (word_at xs 0) (word_at ys 0) (word_lt xs 0 small) (word_lt ys 0 tiny) e f) g
  pointer_field pos t str e f g = two_words (one_word pos t (word_at xs 0) (word_at ys 0) (word_lt xs 0 small) (word_lt ys 0 tiny) e f) g

  -- ---- tags

  tag_in : Content → ℕ
  tag_in (plain (tagged t) ps) = t
  tag_in c = 0

  two_tags : (tag : ℕ) (ps qs : List Part) (c : Content) → choose (tag == 0) (plain (tagged 0) ps) (choose (tag == 1) (plain (tagged 1) qs) illegal) ≡ c → IsContent c → tag ≡ tag_in c
  unfolding tag_in choose
  two_tags tag ps qs c e h = by_tests (tag == 0) (tag == 1) (λ x. eqb-true tag 0 x) (λ x. eqb-true tag 1 x) e
    where
      by_tests : (a b : Bool) → (a ≡ true → tag ≡ 0) → (b ≡ true → tag ≡ 1) → choose a (plain (tagged 0) ps) (choose b (plain (tagged 1) qs) illegal) ≡ c → tag ≡ tag_in c
      by_tests true b f g e' = f refl ∙ ap tag_in e'
      by_tests false true f g e' = g refl ∙ ap tag_in e'
      by_tests false false f g e' = absurd (subst IsContent (sym e') h)

  payload_tag : (tag k : ℕ) (o : Option Shape) (pos : ℕ) (c : Content)
      → option_content o (λ s. plain (tagged tag) (at (pos + align_up 1 (align_of s)) s ∷ [])) ≡ c → IsContent c → tag ≡ tag_in c
  unfolding tag_in
  payload_tag tag k None pos c e h = absurd (subst IsContent (sym e) h)
  payload_tag tag k (Some s) pos c e h = ap tag_in e

  -- ---- texts

  inline_field : (n : ℕ) (bs : List ℕ) → before_ff xs ≡ bs → before_ff ys ≡ bs
      → ((i : ℕ) → length bs ≤ i → i < n → get_or xs i 0 ≡ 255) → ((i : ℕ) → length bs ≤ i → i < n → get_or ys i 0 ≡ 255) → SameFirst n xs ys
  inline_field n bs e f full filled i h =
      ⊎_elim
      (λ l. before xs i (subst (λ cs. i < length cs) (sym e) l) ∙ ap (λ cs. get_or cs i 0) (e ∙ sym f) ∙ sym (before ys i (subst (λ cs. i < length cs) (sym f) l)))
      (λ g. full i g h ∙ sym (filled i g h))
      (cases_lt i (length bs))
    where
      before : (zs : List ℕ) (j : ℕ) → j < length (before_ff zs) → get_or zs j 0 ≡ get_or (before_ff zs) j 0
      before [] j k = refl
      before (z ∷ zs) j k = tested (z == 255) j k (λ m l. before zs m l)
        where
          tested : (t : Bool) (m : ℕ) → m < length (cond t [] (z ∷ before_ff zs)) → ((o : ℕ) → o < length (before_ff zs) → get_or zs o 0 ≡ get_or (before_ff zs) o 0)
              → get_or (z ∷ zs) m 0 ≡ get_or (cond t [] (z ∷ before_ff zs)) m 0
          tested true m l later = absurd (omega arith)
          tested false zero l later = refl
          tested false (suc m) l later = later m (omega arith)

  length_field : (m n : ℕ) → 128 ≤ m % 256 → m % 256 < 192 → 128 ≤ n % 256 → n % 256 < 192 → text_length m ≡ text_length n → m ≡ n
  unfolding text_length
  length_field m n a b c d e = omega arith

  first_byte : (zs : List ℕ) → AreBytes zs → word_at zs 0 % 256 ≡ get_or zs 0 0
  unfolding word_at
  first_byte zs h = let a = h 0 in omega arith

  record IsLong (pos : ℕ) (zs : List ℕ) (c : Content) : Type 0 where
    long : text_length (word_at zs 0) ≡ text_length (word_at zs 0)
    target : ℕ
    low : 128 ≤ get_or zs 0 0
    high : get_or zs 0 0 < 192
    there : target_from pos (word_at zs 4) ≡ Some target
    content : plain same (behind target str (text_length (word_at zs 0)) ∷ []) ≡ c

  data TextRead (pos : ℕ) (zs : List ℕ) (c : Content) : Type 0 where
    is_inline : plain (written (before_ff zs)) [] ≡ c → TextRead pos zs c
    is_long : IsLong pos zs c → TextRead pos zs c

  text_read : (pos : ℕ) (zs : List ℕ) (c : Content) → text_content pos zs ≡ c → IsContent c → TextRead pos zs c
  unfolding text_content choose
  text_read pos zs c e h =
      by_tests (nat_lt (slice_index zs 0) 128) (nat_le 192 (slice_index zs 0)) refl refl e
    where
      by_tests : (a b : Bool) → nat_lt (slice_index zs 0) 128 ≡ a → nat_le 192 (slice_index zs 0) ≡ b
          → choose (a || b) (plain (written (before_ff zs)) [])
          (choose (nat_lt 8 (text_length (word_at zs 0))) (following (target_from pos (word_at zs 4)) (λ t. plain same (behind t str (text_length (word_at zs 0)) ∷ []))) illegal) ≡ c
          → TextRead pos zs c
      by_tests true b ha hb e' = is_inline e'
      by_tests false true ha hb e' = is_inline e'
      by_tests false false ha hb e' =
          let x = chosen (nat_lt 8 (text_length (word_at zs 0))) _ c e' h in
          let l = leads (target_from pos (word_at zs 4)) _ c x.1 h in
          let a : 128 ≤ get_or zs 0 0 = grind (arith, nat_tests) in
          let b : get_or zs 0 0 < 192 = grind (arith, nat_tests) in
          is_long (record { long = refl; target = l.target; low = a; high = b; there = l.there; content = l.content })

  filled_by : (zs : List ℕ) (c : Content) (bs : List ℕ) → plain (written bs) [] ≡ c → IsTextFilled zs c → (i : ℕ) → length bs ≤ i → i < 8 → get_or zs i 0 ≡ 255
  filled_by zs c bs e h = subst (λ x. IsTextFilled zs x) (sym e) h

  text_field : (pos : ℕ) (c : Content) → text_content pos xs ≡ c → text_content pos ys ≡ c → IsContent c → IsTextFilled xs c → IsTextFilled ys c → SameFirst 8 xs ys
  text_field pos c e f h full filled = by_read (text_read pos xs c e h) (text_read pos ys c f h)
    where
      by_read : TextRead pos xs c → TextRead pos ys c → SameFirst 8 xs ys
      by_read (is_inline a) (is_inline b) =
          let same_text : before_ff ys ≡ before_ff xs = cc in
          inline_field 8 (before_ff xs) refl same_text (filled_by xs c (before_ff xs) a full) (filled_by ys c (before_ff xs) (ap (λ bs. plain (written bs) []) (sym same_text) ∙ b) filled)
      by_read (is_inline a) (is_long b) = absurd (let x = b.content in cc)
      by_read (is_long a) (is_inline b) = absurd (let x = a.content in cc)
      by_read (is_long a) (is_long b) =
          let x = a.content in
          let y = b.content in
          let len : text_length (word_at xs 0) ≡ text_length (word_at ys 0) = cc in
          let t : b.target ≡ a.target = cc in
          let p = first_byte xs small in
          let q = first_byte ys tiny in
          let a1 = a.low in
          let a2 = a.high in
          let b1 = b.low in
          let b2 = b.high in
          let there = subst (λ n. target_from pos (word_at ys 4) ≡ Some n) t b.there in
          two_words
          (length_field (word_at xs 0) (word_at ys 0) (omega arith) (omega arith) (omega arith) (omega arith) len)
          (one_word pos a.target (word_at xs 4) (word_at ys 4) (word_lt xs 4 small) (word_lt ys 4 tiny) a.there there)

  -- ---- by shape

  pointers_field : (pos : ℕ) (p : Pointee) (k k' : ℕ → Content) (c : Content)
      → ((t t' : ℕ) → k t ≡ c → k' t' ≡ c → (t ≡ t') × (pointee_length p xs ≡ pointee_length p ys))
      → following (target_from pos (word_at xs 0)) k ≡ c → following (target_from pos (word_at ys 0)) k' ≡ c → IsContent c → SameFirst (pointer_size p) xs ys
  pointers_field pos p k k' c alike e f h =
      let a = leads (target_from pos (word_at xs 0)) k c e h in
      let b = leads (target_from pos (word_at ys 0)) k' c f h in
      let both = alike a.target b.target a.content b.content in
      pointer_field pos a.target p a.there (subst (λ n. target_from pos (word_at ys 0) ≡ Some n) (sym both.0) b.there) both.1

  one_tag : (n m : ℕ) → m ≡ 1 → (c : Content) → get_or xs 0 0 ≡ tag_in c → get_or ys 0 0 ≡ tag_in c → SameFirst m xs ys
  one_tag n m one c e f = first_field m (e ∙ sym f) one

  -- trees, tables and maps: empty ones, and others

  more_word : (n : ℕ) → SameFirst n xs ys → word_at xs n ≡ word_at ys n → SameFirst (n + 4) xs ys
  more_word n first e i h =
      ⊎_elim
      (λ l. first i l)
      (λ g. let s : n + (i - n) ≡ i = omega arith in subst (λ m. get_or xs m 0 ≡ get_or ys m 0) s (word_field n e (i - n) (omega arith)))
      (cases_lt i n)

  one_more : (m n : ℕ) → m ≡ n → SameFirst m xs ys → SameFirst n xs ys
  one_more m n e h = subst (λ k. SameFirst k xs ys) e h

  not_empty : (n : ℕ) → (n == 0) ≡ true → n ≡ 0
  not_empty n e = eqb-true n 0 e

  both_read : (pos m n : ℕ) (k k' : ℕ → Content) (c : Content) → IsContent c
      → (word_at xs 4 ≡ 0 → word_at xs 0 ≡ 1) → (word_at ys 4 ≡ 0 → word_at ys 0 ≡ 1)
      → choose (word_at xs 4 == 0) (plain Label.whole []) (following (target_from pos (word_at xs 0)) k) ≡ c
      → choose (word_at ys 4 == 0) (plain Label.whole []) (following (target_from pos (word_at ys 0)) k') ≡ c
      → ((t t' : ℕ) → k t ≡ c → k' t' ≡ c → (t ≡ t') × (word_at xs 4 ≡ word_at ys 4))
      → ((t : ℕ) → k t ≡ plain Label.whole [] → ⊥) → ((t : ℕ) → k' t ≡ plain Label.whole [] → ⊥)
      → SameFirst 8 xs ys
  unfolding choose
  both_read pos m n k k' c h full filled e f alike none none' = by_test (word_at xs 4 == 0) (word_at ys 4 == 0) refl refl e f
    where
      by_test : (b d : Bool) → (word_at xs 4 == 0) ≡ b → (word_at ys 4 == 0) ≡ d
          → choose b (plain Label.whole []) (following (target_from pos (word_at xs 0)) k) ≡ c
          → choose d (plain Label.whole []) (following (target_from pos (word_at ys 0)) k') ≡ c → SameFirst 8 xs ys
      by_test true true b d e' f' =
          let z = not_empty (word_at xs 4) b in
          let z' = not_empty (word_at ys 4) d in
          two_words (full z ∙ sym (filled z')) (z ∙ sym z')
      by_test true false b d e' f' = let l = leads (target_from pos (word_at ys 0)) k' c f' h in absurd (none' l.target (l.content ∙ sym e'))
      by_test false true b d e' f' = let l = leads (target_from pos (word_at xs 0)) k c e' h in absurd (none l.target (l.content ∙ sym f'))
      by_test false false b d e' f' =
          let l = leads (target_from pos (word_at xs 0)) k c e' h in
          let l' = leads (target_from pos (word_at ys 0)) k' c f' h in
          let both = alike l.target l'.target l.content l'.content in
          two_words
          (one_word pos l.target (word_at xs 0) (word_at ys 0) (word_lt xs 0 small) (word_lt ys 0 tiny) l.there (subst (λ z. target_from pos (word_at ys 0) ≡ Some z) (sym both.0) l'.there))
          both.1

  data TableRead (pos : ℕ) (zs : List ℕ) (it : Item) (rest : List Part) (l : Label) (c : Content) : Type 0 where
    is_table : (t : ℕ) → target_from pos (word_at zs 0) ≡ Some t → plain l (buckets t (word_at zs 4) (word_at zs 8) it ∷ rest) ≡ c → TableRead pos zs it rest l c

  table_read : (pos : ℕ) (zs : List ℕ) (it : Item) (rest : List Part) (l : Label) (c : Content) → table_parts pos zs it rest l ≡ c → IsContent c → TableRead pos zs it rest l c
  unfolding table_parts
  table_read pos zs it rest l c e h =
      let x = chosen _ _ c e h in
      let y = leads (target_from pos (word_at zs 0)) _ c x.1 h in
      is_table y.target y.there y.content

  tables_field : (pos : ℕ) (r : Shape) (c : Content)
      → choose (word_at xs 4 == 0) (plain Label.whole []) (table_parts pos xs (item r) [] same) ≡ c
      → choose (word_at ys 4 == 0) (plain Label.whole []) (table_parts pos ys (item r) [] same) ≡ c
      → IsContent c → (word_at xs 4 ≡ 0 → (word_at xs 0 ≡ 1) × (word_at xs 8 ≡ 0)) → (word_at ys 4 ≡ 0 → (word_at ys 0 ≡ 1) × (word_at ys 8 ≡ 0)) → SameFirst 12 xs ys
  unfolding choose
  tables_field pos r c e f h full filled = by_test (word_at xs 4 == 0) (word_at ys 4 == 0) refl refl e f
    where
      by_read : TableRead pos xs (item r) [] same c → TableRead pos ys (item r) [] same c → SameFirst 12 xs ys
      by_read (is_table t a x) (is_table t' a' x') =
          let here : t' ≡ t = cc in
          let len : word_at xs 4 ≡ word_at ys 4 = cc in
          let cap : word_at xs 8 ≡ word_at ys 8 = cc in
          more_word 8 (two_words (one_word pos t (word_at xs 0) (word_at ys 0) (word_lt xs 0 small) (word_lt ys 0 tiny) a (subst (λ z. target_from pos (word_at ys 0) ≡ Some z) here a')) len) cap

      no_read : (zs : List ℕ) → TableRead pos zs (item r) [] same c → plain Label.whole [] ≡ c → ⊥
      no_read zs (is_table t a x) g = cc

      by_test : (b d : Bool) → (word_at xs 4 == 0) ≡ b → (word_at ys 4 == 0) ≡ d
          → choose b (plain Label.whole []) (table_parts pos xs (item r) [] same) ≡ c → choose d (plain Label.whole []) (table_parts pos ys (item r) [] same) ≡ c → SameFirst 12 xs ys
      by_test true true b d e' f' =
          let z = not_empty (word_at xs 4) b in
          let z' = not_empty (word_at ys 4) d in
          more_word 8 (two_words ((full z).0 ∙ sym (filled z').0) (z ∙ sym z')) ((full z).1 ∙ sym (filled z').1)
      by_test true false b d e' f' = absurd (no_read ys (table_read pos ys (item r) [] same c f' h) e')
      by_test false true b d e' f' = absurd (no_read xs (table_read pos xs (item r) [] same c e' h) f')
      by_test false false b d e' f' = by_read (table_read pos xs (item r) [] same c e' h) (table_read pos ys (item r) [] same c f' h)

  data MapRead (pos : ℕ) (zs : List ℕ) (pair : Shape) (c : Content) : Type 0 where
    is_map : (t u : ℕ) → target_from pos (word_at zs 0) ≡ Some t → target_from (pos + 12) (word_at zs 12) ≡ Some u
        → plain Label.second (buckets t (word_at zs 4) (word_at zs 8) (place (word_at zs 4)) ∷ (behind u (slice pair) (word_at zs 4) ∷ [])) ≡ c → MapRead pos zs pair c

  map_read : (pos : ℕ) (zs : List ℕ) (pair : Shape) (c : Content)
      → following (target_from (pos + 12) (word_at zs 12)) (λ t. table_parts pos zs (place (word_at zs 4)) (behind t (slice pair) (word_at zs 4) ∷ []) Label.second) ≡ c → IsContent c → MapRead pos zs pair c
  map_read pos zs pair c e h =
      let y = leads (target_from (pos + 12) (word_at zs 12)) _ c e h in
      of_table y.target y.there (table_read pos zs (place (word_at zs 4)) (behind y.target (slice pair) (word_at zs 4) ∷ []) Label.second c y.content h)
    where
      of_table : (u : ℕ) → target_from (pos + 12) (word_at zs 12) ≡ Some u → TableRead pos zs (place (word_at zs 4)) (behind u (slice pair) (word_at zs 4) ∷ []) Label.second c → MapRead pos zs pair c
      of_table u there (is_table t a x) = is_map t u a there x

  maps_field : (pos : ℕ) (k v : Shape) (c : Content)
      → shape_content [] pos xs (index_map k v) ≡ c → shape_content [] pos ys (index_map k v) ≡ c
      → IsContent c → IsShapeFilled xs c (index_map k v) → IsShapeFilled ys c (index_map k v) → SameFirst 16 xs ys
  unfolding choose shape_content
  maps_field pos k v c e f h full filled = by_test (word_at xs 4 == 0) (word_at ys 4 == 0) refl refl e f
    where
      pair : Shape
      pair = tuple (more_shapes k (more_shapes v no_shapes))

      full_side : List ℕ → Content
      full_side zs = following (target_from (pos + 12) (word_at zs 12)) (λ t. table_parts pos zs (place (word_at zs 4)) (behind t (slice (tuple (more_shapes k (more_shapes v no_shapes)))) (word_at zs 4) ∷ []) Label.second)

      by_read : MapRead pos xs (tuple (more_shapes k (more_shapes v no_shapes))) c → MapRead pos ys (tuple (more_shapes k (more_shapes v no_shapes))) c → SameFirst 16 xs ys
      by_read (is_map t u a b x) (is_map t' u' a' b' x') =
          let here : t' ≡ t = cc in
          let there : u' ≡ u = cc in
          let len : word_at xs 4 ≡ word_at ys 4 = cc in
          let cap : word_at xs 8 ≡ word_at ys 8 = cc in
          more_word 12 (more_word 8 (two_words (one_word pos t (word_at xs 0) (word_at ys 0) (word_lt xs 0 small) (word_lt ys 0 tiny) a (subst (λ z. target_from pos (word_at ys 0) ≡ Some z) here a')) len) cap)
          (one_word (pos + 12) u (word_at xs 12) (word_at ys 12) (word_lt xs 12 small) (word_lt ys 12 tiny) b (subst (λ z. target_from (pos + 12) (word_at ys 12) ≡ Some z) there b'))

      no_read : (zs : List ℕ) → MapRead pos zs (tuple (more_shapes k (more_shapes v no_shapes))) c → plain Label.whole [] ≡ c → ⊥
      no_read zs (is_map t u a b x) g = cc

      by_test : (b d : Bool) → (word_at xs 4 == 0) ≡ b → (word_at ys 4 == 0) ≡ d
          → choose b (plain Label.whole []) (following (target_from (pos + 12) (word_at xs 12)) (λ t. table_parts pos xs (place (word_at xs 4)) (behind t (slice (tuple (more_shapes k (more_shapes v no_shapes)))) (word_at xs 4) ∷ []) Label.second)) ≡ c
          → choose d (plain Label.whole []) (following (target_from (pos + 12) (word_at ys 12)) (λ t. table_parts pos ys (place (word_at ys 4)) (behind t (slice (tuple (more_shapes k (more_shapes v no_shapes)))) (word_at ys 4) ∷ []) Label.second)) ≡ c
          → SameFirst 16 xs ys
      by_test true true b d e' f' =
          let z = not_empty (word_at xs 4) b in
          let z' = not_empty (word_at ys 4) d in
          more_word 12 (more_word 8 (two_words ((full z).0 ∙ sym (filled z').0) (z ∙ sym z')) ((full z).1 ∙ sym (filled z').1)) ((full z).2 ∙ sym (filled z').2)
      by_test true false b d e' f' = absurd (no_read ys (map_read pos ys (tuple (more_shapes k (more_shapes v no_shapes))) c f' h) e')
      by_test false true b d e' f' = absurd (no_read xs (map_read pos xs (tuple (more_shapes k (more_shapes v no_shapes))) c e' h) f')
      by_test false false b d e' f' = by_read (map_read pos xs (tuple (more_shapes k (more_shapes v no_shapes))) c e' h) (map_read pos ys (tuple (more_shapes k (more_shapes v no_shapes))) c f' h)

  pub child_field : (level most : ℕ) (k v : Shape) (pos : ℕ) (c : Content) → child_content level most k v pos xs ≡ c → child_content level most k v pos ys ≡ c → IsContent c → SameFirst 4 xs ys
  unfolding child_content choose
  child_field level most k v pos c e f h = by_test (word_at xs 0 == 1) (word_at ys 0 == 1) (λ x. eqb-true (word_at xs 0) 1 x) (λ x. eqb-true (word_at ys 0) 1 x) e f
    where
      to : List ℕ → Content
      to zs = following (target_from pos (word_at zs 0)) (λ t. plain same (node level most k v t ∷ []))

      by_test : (b d : Bool) → (b ≡ true → word_at xs 0 ≡ 1) → (d ≡ true → word_at ys 0 ≡ 1)
          → choose b (plain Label.whole []) (choose (nat_le level 32) (to xs) illegal) ≡ c
          → choose d (plain Label.whole []) (choose (nat_le level 32) (to ys) illegal) ≡ c → SameFirst 4 xs ys
      by_test true true b d e' f' = word_first (b refl ∙ sym (d refl))
      by_test true false b d e' f' = let l = leads (target_from pos (word_at ys 0)) (λ t. plain same (node level most k v t ∷ [])) c (chosen (nat_le level 32) (to ys) c f' h).1 h in absurd (let x = l.content in cc)
      by_test false true b d e' f' = let l = leads (target_from pos (word_at xs 0)) (λ t. plain same (node level most k v t ∷ [])) c (chosen (nat_le level 32) (to xs) c e' h).1 h in absurd (let x = l.content in cc)
      by_test false false b d e' f' =
          let l = leads (target_from pos (word_at xs 0)) (λ t. plain same (node level most k v t ∷ [])) c (chosen (nat_le level 32) (to xs) c e' h).1 h in
          let l' = leads (target_from pos (word_at ys 0)) (λ t. plain same (node level most k v t ∷ [])) c (chosen (nat_le level 32) (to ys) c f' h).1 h in
          let x = l.content in
          let y = l'.content in
          let here : l'.target ≡ l.target = cc in
          word_first (one_word pos l.target (word_at xs 0) (word_at ys 0) (word_lt xs 0 small) (word_lt ys 0 tiny) l.there (subst (λ z. target_from pos (word_at ys 0) ≡ Some z) here l'.there))

  pub place_field : (limit : ℕ) (c : Content) → place_content limit xs ≡ c → place_content limit ys ≡ c → IsContent c → SameFirst 4 xs ys
  unfolding place_content
  place_field limit c e f h =
      let a = chosen _ _ c e h in
      let b = chosen _ _ c f h in
      let of_natural : (m n : ℕ) → natural m ≡ natural n → m ≡ n = λ m n g. cc in
      word_first (of_natural _ _ (of_leaf _ _ c a.1 b.1))

  pub shape_field : (names : Names) (pos : ℕ) (s : Shape) (c : Content)
      → shape_content names pos xs s ≡ c → shape_content names pos ys s ≡ c → IsContent c → IsShapeFilled xs c s → IsShapeFilled ys c s → SameFirst (field_size s) xs ys
  unfolding shape_content shared_content
  shape_field names pos (number w signed) c e f h full filled = number_field w signed (of_leaf _ _ c e f)
  shape_field names pos (nonzero w signed) c e f h full filled = number_field w signed (of_leaf _ _ c (not_chosen _ _ c e h) (not_chosen _ _ c f h))
  shape_field names pos truth c e f h full filled =
      let a = chosen _ _ c e h in
      let b = chosen _ _ c f h in
      let same_test : boolean (get_or xs 0 0 == 1) ≡ boolean (get_or ys 0 0 == 1) = of_leaf _ _ c a.1 b.1 in
      first_field 1 (bit (get_or xs 0 0) (get_or ys 0 0) a.0 b.0 (of_boolean _ _ same_test)) refl
    where
      of_boolean : (x y : Bool) → boolean x ≡ boolean y → x ≡ y
      of_boolean x y g = cc

      bit : (m n : ℕ) → nat_lt m 2 ≡ true → nat_lt n 2 ≡ true → (m == 1) ≡ (n == 1) → m ≡ n
      bit m n a b g = tested (m == 1) (n == 1) refl refl g
        where
          tested : (x y : Bool) → (m == 1) ≡ x → (n == 1) ≡ y → x ≡ y → m ≡ n
          tested true true u v w = grind (arith, nat_tests)
          tested false false u v w = grind (arith, nat_tests)
          tested true false u v w = absurd (cc)
          tested false true u v w = absurd (cc)
  shape_field names pos character c e f h full filled =
      let a = chosen _ _ c e h in
      let b = chosen _ _ c f h in
      let of_natural : (m n : ℕ) → natural m ≡ natural n → m ≡ n = λ m n g. cc in
      word_first (of_natural _ _ (of_leaf _ _ c a.1 b.1))
  shape_field names pos text c e f h full filled = text_field pos c e f h full filled
  shape_field names pos (tuple ss) c e f h full filled = λ i l. absurd (omega arith)
  shape_field names pos (array n s) c e f h full filled = λ i l. absurd (omega arith)
  shape_field names pos (option s) c e f h full filled = one_tag 1 1 refl c (two_tags _ _ _ c e h) (two_tags _ _ _ c f h)
  shape_field names pos (result s t) c e f h full filled = one_tag 1 1 refl c (two_tags _ _ _ c e h) (two_tags _ _ _ c f h)
  shape_field names pos (choice ss) c e f h full filled =
      one_tag 1 1 refl c (payload_tag (slice_index xs 0) 0 (shape_tagged (slice_index xs 0) ss) pos c e h) (payload_tag (slice_index ys 0) 0 (shape_tagged (slice_index ys 0) ss) pos c f h)
  shape_field names pos (box p) c e f h full filled = pointers_field pos p _ _ c (λ t t' a b. (cc, cc)) e f h
  shape_field names pos (vector s) c e f h full filled = pointers_field pos (slice s) _ _ c (λ t t' a b. (cc, cc)) e f h
  shape_field names pos (shared cyclic p) c e f h full filled = pointers_field pos p _ _ c (λ t t' a b. (cc, cc)) e f h
  shape_field names pos (weak cyclic p) c e f h full filled = one_tag 1 1 refl c (two_tags _ _ _ c e h) (two_tags _ _ _ c f h)
  shape_field names pos (tree most u v) c e f h full filled =
      both_read pos (word_at xs 4) (word_at ys 4) _ _ c h full filled e f (λ t t' a b. (cc, cc)) (λ t a. cc) (λ t a. cc)
  shape_field names pos (table r) c e f h full filled = tables_field pos r c e f h full filled
  shape_field names pos (index_map u v) c e f h full filled = maps_field pos u v c e f h full filled
  shape_field names pos (named name size align) c e f h full filled = λ i l. absurd (omega arith)
