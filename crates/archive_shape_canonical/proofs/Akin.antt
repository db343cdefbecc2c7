-- Two readings of one shape: where both are legal, they differ in numbers, tags, texts and positions alone.
use Rattle.std.proofs.Common.{◌≡◌, ℕ, ◌+◌, ◌≤◌, ◌<◌, zero, suc, Bool, true, false, cond, ◌==◌, ◌&&◌, ◌||◌, nat_lt, nat_le, List, [], ◌∷◌, length, slice_index, Option, Some, None, refl, ap, subst, arith, ltb-true}
use Rattle.std.specs.Prelude.{⊤}
use Rattle.std.proofs.lemmas.Bool.Decides.{nat_tests}
use Rattle.archive_shape_layout.specs.Content.{choose, Names, Part, Item, Content, fields, elements, shape_tagged, shape_named, following, option_content, text_content, text_length, before_ff, shared_content, pointee_length, table_parts, shape_content, number_value, child_content, place_content, control_count}
use Rattle.archive_shape_layout.specs.Content.Part.{at, behind, node, child, entry, buckets, place_at}
use Rattle.archive_shape_layout.specs.Content.Item.{item, place}
use Rattle.archive_shape_layout.specs.Content.Label.{leaf, written, same, second, whole, tagged, total}
use Rattle.archive_shape_layout.specs.Content.Content.{illegal, plain, counting}
use Rattle.archive_shape_layout.specs.Shape.{Shape, Shapes, Pointee, Alignment, alignment_bytes, align_of, size_of}
use Rattle.archive_shape_layout.specs.Shape.Shape.{number, nonzero, truth, character, text, tuple, array, option, result, choice, box, vector, shared, weak, tree, table, index_map, named}
use Rattle.archive_shape_layout.specs.Shape.Shapes.{no_shapes, more_shapes}
use Rattle.archive_shape_layout.specs.Shape.Pointee.{sized, slice, str}
use Rattle.archive_shape_layout.specs.Value.{Value}
use Rattle.archive_shape_layout.specs.Bytes.{window, align_up, word_at, target_from}
use Rattle.archive_shape_canonical.specs.Sharing.{erased}

-- one value counts for one
abbrev pub SameCount : Pointee → ℕ → ℕ → Type 0
SameCount (sized s) n m = n ≡ m
SameCount (slice s) n m = ⊤
SameCount str n m = ⊤

same_count : (p : Pointee) (own own' : List ℕ) → SameCount p (pointee_length p own) (pointee_length p own')
same_count (sized s) own own' = refl
same_count (slice s) own own' = tt
same_count str own own' = tt

-- two parts of one shape, which lie at one position where P holds
pub data Akin (bytes others : List ℕ) (P : Type 0) : Part → Part → Type 0 where
  akin_at : {pos pos' : ℕ} {s : Shape} → (P → pos ≡ pos') → Akin bytes others P (at pos s) (at pos' s)
  akin_behind : {t t' len len' : ℕ} {q : Pointee} → SameCount q len len' → Akin bytes others P (behind t q len) (behind t' q len')
  akin_node : {level most : ℕ} {k v : Shape} {pos pos' : ℕ} → Akin bytes others P (node level most k v pos) (node level most k v pos')
  akin_child : {level most : ℕ} {k v : Shape} {pos pos' : ℕ} → (P → pos ≡ pos') → Akin bytes others P (child level most k v pos) (child level most k v pos')
  akin_entry : {k v : Shape} {a a' b b' : ℕ} → (P → a ≡ a') → (P → b ≡ b') → Akin bytes others P (entry k a v b) (entry k a' v b')
  akin_buckets : {t t' len cap : ℕ} {it : Item} → window bytes t (control_count cap) ≡ window others t' (control_count cap) → Akin bytes others P (buckets t len cap it) (buckets t' len cap it)
  akin_place : {pos pos' limit : ℕ} → (P → pos ≡ pos') → Akin bytes others P (place_at pos limit) (place_at pos' limit)

pub data AllAkin (bytes others : List ℕ) (P : Type 0) : List Part → List Part → Type 0 where
  akin_none : AllAkin bytes others P [] []
  akin_more : {p p' : Part} {ps ps' : List Part} → Akin bytes others P p p' → AllAkin bytes others P ps ps' → AllAkin bytes others P (p ∷ ps) (p' ∷ ps')

-- two contents of one shape
pub data Match (bytes others : List ℕ) (P : Type 0) : Content → Content → Type 0 where
  no_left : {c : Content} → Match bytes others P illegal c
  no_right : {c : Content} → Match bytes others P c illegal
  leaves : {v v' : Value} → erased v ≡ v → erased v' ≡ v' → Match bytes others P (plain (leaf v) []) (plain (leaf v') [])
  texts : {bs bs' : List ℕ} → Match bytes others P (plain (written bs) []) (plain (written bs') [])
  wholes : {ps ps' : List Part} → AllAkin bytes others P ps ps' → Match bytes others P (plain whole ps) (plain whole ps')
  ones : {p p' : Part} → Akin bytes others P p p' → Match bytes others P (plain same (p ∷ [])) (plain same (p' ∷ []))
  tags : {t t' : ℕ} {ps ps' : List Part} → (t ≡ t' → AllAkin bytes others P ps ps') → Match bytes others P (plain (tagged t) ps) (plain (tagged t') ps')
  short_long : {bs : List ℕ} {t len : ℕ} → length bs < len → Match bytes others P (plain (written bs) []) (plain same (behind t str len ∷ []))
  long_short : {bs : List ℕ} {t len : ℕ} → length bs < len → Match bytes others P (plain same (behind t str len ∷ [])) (plain (written bs) [])
  totals : {p p' : Part} {n n' : ℕ} → Akin bytes others P p p' → Match bytes others P (plain (total n) (p ∷ [])) (plain (total n') (p' ∷ []))
  empty_total : {p : Part} {n : ℕ} → 1 ≤ n → Match bytes others P (plain whole []) (plain (total n) (p ∷ []))
  total_empty : {p : Part} {n : ℕ} → 1 ≤ n → Match bytes others P (plain (total n) (p ∷ [])) (plain whole [])
  tables : {t t' len len' cap cap' : ℕ} {s : Shape} → Match bytes others P (plain same (buckets t len cap (item s) ∷ [])) (plain same (buckets t' len' cap' (item s) ∷ []))
  empty_table : {t len cap : ℕ} {s : Shape} → 1 ≤ len → Match bytes others P (plain whole []) (plain same (buckets t len cap (item s) ∷ []))
  table_empty : {t len cap : ℕ} {s : Shape} → 1 ≤ len → Match bytes others P (plain same (buckets t len cap (item s) ∷ [])) (plain whole [])
  maps : {t t' len len' cap cap' u u' : ℕ} {s : Shape}
      → Match bytes others P (plain second (buckets t len cap (place len) ∷ (behind u (slice s) len ∷ []))) (plain second (buckets t' len' cap' (place len') ∷ (behind u' (slice s) len' ∷ [])))
  empty_map : {t len cap u : ℕ} {s : Shape} → 1 ≤ len → Match bytes others P (plain whole []) (plain second (buckets t len cap (place len) ∷ (behind u (slice s) len ∷ [])))
  map_empty : {t len cap u : ℕ} {s : Shape} → 1 ≤ len → Match bytes others P (plain second (buckets t len cap (place len) ∷ (behind u (slice s) len ∷ []))) (plain whole [])
  no_child : {level most : ℕ} {k v : Shape} {pos : ℕ} → Match bytes others P (plain whole []) (plain same (node level most k v pos ∷ []))
  child_no : {level most : ℕ} {k v : Shape} {pos : ℕ} → Match bytes others P (plain same (node level most k v pos ∷ [])) (plain whole [])
  counts : {cyclic : Bool} {t t' len len' : ℕ} {q : Pointee} → SameCount q len len' → Match bytes others P (counting cyclic t q len) (counting cyclic t' q len')

length-before_ff : (bs : List ℕ) → length (before_ff bs) ≤ length bs
length-before_ff [] = omega arith
length-before_ff (b ∷ bs) = tested (b == 255) (length-before_ff bs)
  where
    tested : (t : Bool) → length (before_ff bs) ≤ length bs → length (cond t [] (b ∷ before_ff bs)) ≤ suc (length bs)
    tested true h = omega arith
    tested false h = omega arith

module _ (bytes others : List ℕ) (P : Type 0) where
  one_legal : (b b' : Bool) (x x' : Content) → Match bytes others P x x' → Match bytes others P (choose b x illegal) (choose b' x' illegal)
  unfolding choose
  one_legal true true x x' h = h
  one_legal true false x x' h = no_right
  one_legal false b' x x' h = no_left

  other_legal : (b b' : Bool) (x x' : Content) → Match bytes others P x x' → Match bytes others P (choose b illegal x) (choose b' illegal x')
  unfolding choose
  other_legal false false x x' h = h
  other_legal false true x x' h = no_right
  other_legal true b' x x' h = no_left

  two_legal : (b b' d d' : Bool) (x x' y y' : Content) → Match bytes others P x x' → Match bytes others P x y' → Match bytes others P y x' → Match bytes others P y y'
      → Match bytes others P (choose b x (choose d y illegal)) (choose b' x' (choose d' y' illegal))
  unfolding choose
  two_legal true true d d' x x' y y' f g h k = f
  two_legal true false d true x x' y y' f g h k = g
  two_legal true false d false x x' y y' f g h k = no_right
  two_legal false true true d' x x' y y' f g h k = h
  two_legal false true false d' x x' y y' f g h k = no_left
  two_legal false false true true x x' y y' f g h k = k
  two_legal false false true false x x' y y' f g h k = no_right
  two_legal false false false d' x x' y y' f g h k = no_left

  both_follow : (o o' : Option ℕ) (k k' : ℕ → Content) → ((t t' : ℕ) → Match bytes others P (k t) (k' t')) → Match bytes others P (following o k) (following o' k')
  unfolding following
  both_follow None o' k k' h = no_left
  both_follow (Some t) None k k' h = no_right
  both_follow (Some t) (Some t') k k' h = h t t'

  one_akin : {pos pos' : ℕ} {s : Shape} → (P → pos ≡ pos') → AllAkin bytes others P (at pos s ∷ []) (at pos' s ∷ [])
  one_akin f = akin_more (akin_at f) akin_none

  module _ (pos pos' : ℕ) (f : P → pos ≡ pos') where
    moved : (n : ℕ) → P → pos + n ≡ pos' + n
    moved n x = ap (λ m. m + n) (f x)

    fields_akin : (offset : ℕ) (ss : Shapes) → AllAkin bytes others P (fields pos offset ss) (fields pos' offset ss)
    unfolding fields
    fields_akin offset no_shapes = akin_none
    fields_akin offset (more_shapes s ss) =
        let from = align_up offset (align_of s) in akin_more (akin_at (moved from)) (fields_akin (from + size_of s) ss)

  pub elements_akin : (pos pos' : ℕ) (f : P → pos ≡ pos') (n : ℕ) (s : Shape) → AllAkin bytes others P (elements pos n s) (elements pos' n s)
  unfolding elements
  elements_akin pos pos' f zero s = akin_none
  elements_akin pos pos' f (suc n) s = akin_more (akin_at f) (elements_akin (pos + size_of s) (pos' + size_of s) (moved pos pos' f (size_of s)) n s)

module _ (bytes others : List ℕ) (names : Names) (P : Type 0) (pos pos' : ℕ) (f : P → pos ≡ pos') where
  payloads_match : (t t' : ℕ) (ss : Shapes)
      → Match bytes others P (option_content (shape_tagged t ss) (λ s. plain (tagged t) (at (pos + align_up 1 (align_of s)) s ∷ [])))
      (option_content (shape_tagged t' ss) (λ s. plain (tagged t') (at (pos' + align_up 1 (align_of s)) s ∷ [])))
  payloads_match t t' ss = by_shape (shape_tagged t ss) (shape_tagged t' ss) (λ e. ap (λ n. shape_tagged n ss) e)
    where
      by_shape : (o o' : Option Shape) → (t ≡ t' → o ≡ o')
          → Match bytes others P (option_content o (λ s. plain (tagged t) (at (pos + align_up 1 (align_of s)) s ∷ [])))
          (option_content o' (λ s. plain (tagged t') (at (pos' + align_up 1 (align_of s)) s ∷ [])))
      by_shape None o' k = no_left
      by_shape (Some s) None k = no_right
      by_shape (Some s) (Some s') k =
          tags (λ e.
          let both = k e in
          let same : s ≡ s' = cc in
          subst (λ r. AllAkin bytes others P (at (pos + align_up 1 (align_of s)) s ∷ []) (at (pos' + align_up 1 (align_of r)) r ∷ [])) same
          (one_akin bytes others P (moved bytes others P pos pos' f (align_up 1 (align_of s)))))

  text_match : (own own' : List ℕ) → length own ≤ 8 → length own' ≤ 8 → Match bytes others P (text_content pos own) (text_content pos' own')
  unfolding text_content choose following
  text_match own own' fits fits' =
      by_test (nat_lt (slice_index own 0) 128 || nat_le 192 (slice_index own 0)) (nat_lt (slice_index own' 0) 128 || nat_le 192 (slice_index own' 0))
      (nat_lt 8 (text_length (word_at own 0))) (nat_lt 8 (text_length (word_at own' 0)))
      (target_from pos (word_at own 4)) (target_from pos' (word_at own' 4))
      (λ e. ltb-true 8 (text_length (word_at own 0)) e) (λ e. ltb-true 8 (text_length (word_at own' 0)) e)
    where
      by_test : (b b' d d' : Bool) (o o' : Option ℕ)
          → (d ≡ true → 8 < text_length (word_at own 0)) → (d' ≡ true → 8 < text_length (word_at own' 0))
          → Match bytes others P
          (choose b (plain (written (before_ff own)) []) (choose d (following o (λ t. plain same (behind t str (text_length (word_at own 0)) ∷ []))) illegal))
          (choose b' (plain (written (before_ff own')) []) (choose d' (following o' (λ t. plain same (behind t str (text_length (word_at own' 0)) ∷ []))) illegal))
      by_test true true d d' o o' g g' = texts
      by_test true false d true o (Some t') g g' =
          let long = g' refl in
          let short = length-before_ff own in
          short_long (omega arith)
      by_test true false d true o None g g' = no_right
      by_test true false d false o o' g g' = no_right
      by_test false true true d' (Some t) o' g g' =
          let long = g refl in
          let short = length-before_ff own' in
          long_short (omega arith)
      by_test false true true d' None o' g g' = no_left
      by_test false true false d' o o' g g' = no_left
      by_test false false true true (Some t) (Some t') g g' = ones (akin_behind tt)
      by_test false false true true (Some t) None g g' = no_right
      by_test false false true true None o' g g' = no_left
      by_test false false true false o o' g g' = no_right
      by_test false false false d' o o' g g' = no_left

  named_match : (size : ℕ) (align : Alignment) (o : Option Shape)
      → Match bytes others P (option_content o (λ s. choose ((size_of s == size) && (align_of s == alignment_bytes align)) (plain same (at pos s ∷ [])) illegal))
      (option_content o (λ s. choose ((size_of s == size) && (align_of s == alignment_bytes align)) (plain same (at pos' s ∷ [])) illegal))
  named_match size align None = no_left
  named_match size align (Some s) = one_legal bytes others P _ _ _ _ (ones (akin_at f))

  number_simple : (w : _) (signed : Bool) (n : ℕ) → erased (number_value w signed n) ≡ number_value w signed n
  unfolding number_value
  number_simple w false n = refl
  number_simple w true n = refl

  above : (n : ℕ) → (n == 0) ≡ false → 1 ≤ n
  above n e = grind (arith, nat_tests)

  tree_match : (most : ℕ) (k v : Shape) (n n' : ℕ) (o o' : Option ℕ)
      → Match bytes others P (choose (n == 0) (plain whole []) (following o (λ t. plain (total n) (node 1 most k v t ∷ []))))
      (choose (n' == 0) (plain whole []) (following o' (λ t. plain (total n') (node 1 most k v t ∷ []))))
  unfolding choose following
  tree_match most k v n n' o o' = by_test (n == 0) (n' == 0) o o' (above n) (above n')
    where
      by_test : (b b' : Bool) (o o' : Option ℕ) → (b ≡ false → 1 ≤ n) → (b' ≡ false → 1 ≤ n')
          → Match bytes others P (choose b (plain whole []) (following o (λ t. plain (total n) (node 1 most k v t ∷ []))))
          (choose b' (plain whole []) (following o' (λ t. plain (total n') (node 1 most k v t ∷ []))))
      by_test true true o o' f g = wholes akin_none
      by_test true false o (Some t') f g = empty_total (g refl)
      by_test true false o None f g = no_right
      by_test false true (Some t) o' f g = total_empty (f refl)
      by_test false true None o' f g = no_left
      by_test false false (Some t) (Some t') f g = totals akin_node
      by_test false false (Some t) None f g = no_right
      by_test false false None o' f g = no_left

  table_match : (own own' : List ℕ) (s : Shape)
      → Match bytes others P (choose (word_at own 4 == 0) (plain whole []) (table_parts pos own (item s) [] same)) (choose (word_at own' 4 == 0) (plain whole []) (table_parts pos' own' (item s) [] same))
  unfolding table_parts choose following
  table_match own own' s =
      by_test (word_at own 4 == 0) (word_at own' 4 == 0) (nat_lt (word_at own 4) (word_at own 8)) (nat_lt (word_at own' 4) (word_at own' 8))
      (target_from pos (word_at own 0)) (target_from pos' (word_at own' 0)) (above (word_at own 4)) (above (word_at own' 4))
    where
      by_test : (b b' d d' : Bool) (o o' : Option ℕ) → (b ≡ false → 1 ≤ word_at own 4) → (b' ≡ false → 1 ≤ word_at own' 4)
          → Match bytes others P (choose b (plain whole []) (choose d (following o (λ t. plain same (buckets t (word_at own 4) (word_at own 8) (item s) ∷ []))) illegal))
          (choose b' (plain whole []) (choose d' (following o' (λ t. plain same (buckets t (word_at own' 4) (word_at own' 8) (item s) ∷ []))) illegal))
      by_test true true d d' o o' f g = wholes akin_none
      by_test true false d true o (Some t') f g = empty_table (g refl)
      by_test true false d true o None f g = no_right
      by_test true false d false o o' f g = no_right
      by_test false true true d' (Some t) o' f g = table_empty (f refl)
      by_test false true true d' None o' f g = no_left
      by_test false true false d' o o' f g = no_left
      by_test false false true true (Some t) (Some t') f g = tables
      by_test false false true true (Some t) None f g = no_right
      by_test false false true true None o' f g = no_left
      by_test false false true false o o' f g = no_right
      by_test false false false d' o o' f g = no_left

  map_match : (own own' : List ℕ) (k v : Shape)
      → Match bytes others P (shape_content names pos own (index_map k v)) (shape_content names pos' own' (index_map k v))
  unfolding shape_content table_parts choose following
  map_match own own' k v =
      by_test (word_at own 4 == 0) (word_at own' 4 == 0) (nat_lt (word_at own 4) (word_at own 8)) (nat_lt (word_at own' 4) (word_at own' 8))
      (target_from pos (word_at own 0)) (target_from pos' (word_at own' 0)) (target_from (pos + 12) (word_at own 12)) (target_from (pos' + 12) (word_at own' 12)) (above (word_at own 4)) (above (word_at own' 4))
    where
      pair : Shape
      pair = tuple (more_shapes k (more_shapes v no_shapes))

      side : ℕ → List ℕ → Bool → Bool → Option ℕ → Option ℕ → Content
      side at_pos zs b d o u =
          choose b (plain whole []) (following u (λ t. choose d (following o (λ x. plain second (buckets x (word_at zs 4) (word_at zs 8) (place (word_at zs 4)) ∷ (behind t (slice pair) (word_at zs 4) ∷ [])))) illegal))

      by_test : (b b' d d' : Bool) (o o' u u' : Option ℕ) → (b ≡ false → 1 ≤ word_at own 4) → (b' ≡ false → 1 ≤ word_at own' 4)
          → Match bytes others P
          (choose b (plain whole []) (following u (λ t. choose d (following o (λ x. plain second (buckets x (word_at own 4) (word_at own 8) (place (word_at own 4)) ∷ (behind t (slice pair) (word_at own 4) ∷ [])))) illegal)))
          (choose b' (plain whole []) (following u' (λ t. choose d' (following o' (λ x. plain second (buckets x (word_at own' 4) (word_at own' 8) (place (word_at own' 4)) ∷ (behind t (slice pair) (word_at own' 4) ∷ [])))) illegal)))
      by_test true true d d' o o' u u' f g = wholes akin_none
      by_test true false d true o (Some x') u (Some t') f g = empty_map (g refl)
      by_test true false d true o None u (Some t') f g = no_right
      by_test true false d false o o' u (Some t') f g = no_right
      by_test true false d d' o o' u None f g = no_right
      by_test false true true d' (Some x) o' (Some t) u' f g = map_empty (f refl)
      by_test false true true d' None o' (Some t) u' f g = no_left
      by_test false true false d' o o' (Some t) u' f g = no_left
      by_test false true d d' o o' None u' f g = no_left
      by_test false false true true (Some x) (Some x') (Some t) (Some t') f g = maps
      by_test false false true true (Some x) None (Some t) (Some t') f g = no_right
      by_test false false true true None o' (Some t) (Some t') f g = no_left
      by_test false false true false (Some x) o' (Some t) (Some t') f g = no_right
      by_test false false true false None o' (Some t) (Some t') f g = no_left
      by_test false false false d' o o' (Some t) (Some t') f g = no_left
      by_test false false d d' o o' None u' f g = no_left
      by_test false false true d' (Some x) o' (Some t) None f g = no_right
      by_test false false true d' None o' (Some t) None f g = no_left
      by_test false false false d' o o' (Some t) None f g = no_left

  pub child_match : (level most : ℕ) (k v : Shape) (own own' : List ℕ) → Match bytes others P (child_content level most k v pos own) (child_content level most k v pos' own')
  unfolding child_content choose following
  child_match level most k v own own' = by_test (nat_le level 32) (word_at own 0 == 1) (word_at own' 0 == 1) (target_from pos (word_at own 0)) (target_from pos' (word_at own' 0))
    where
      to : Option ℕ → Content
      to o = following o (λ t. plain same (node level most k v t ∷ []))

      by_test : (m b b' : Bool) (o o' : Option ℕ)
          → Match bytes others P (choose b (plain whole []) (choose m (to o) illegal)) (choose b' (plain whole []) (choose m (to o') illegal))
      by_test m true true o o' = wholes akin_none
      by_test true true false o (Some t') = no_child
      by_test true true false o None = no_right
      by_test true false true (Some t) o' = child_no
      by_test true false true None o' = no_left
      by_test true false false (Some t) (Some t') = ones akin_node
      by_test true false false (Some t) None = no_right
      by_test true false false None o' = no_left
      by_test false true false o o' = no_right
      by_test false false true o o' = no_left
      by_test false false false o o' = no_left

  pub place_match : (limit : ℕ) (own own' : List ℕ) → Match bytes others P (place_content limit own) (place_content limit own')
  unfolding place_content
  place_match limit own own' = one_legal bytes others P _ _ _ _ (leaves refl refl)

  pub shape_match : (own own' : List ℕ) (s : Shape) → length own ≤ size_of s → length own' ≤ size_of s
      → Match bytes others P (shape_content names pos own s) (shape_content names pos' own' s)
  unfolding shape_content shared_content
  shape_match own own' (number w signed) g g' = leaves (number_simple w signed _) (number_simple w signed _)
  shape_match own own' (nonzero w signed) g g' = other_legal bytes others P _ _ _ _ (leaves (number_simple w signed _) (number_simple w signed _))
  shape_match own own' truth g g' = one_legal bytes others P _ _ _ _ (leaves refl refl)
  shape_match own own' character g g' = one_legal bytes others P _ _ _ _ (leaves refl refl)
  shape_match own own' text g g' = text_match own own' g g'
  shape_match own own' (tuple ss) g g' = wholes (fields_akin bytes others P pos pos' f 0 ss)
  shape_match own own' (array n s) g g' = wholes (elements_akin bytes others P pos pos' f n s)
  shape_match own own' (option s) g g' =
      two_legal bytes others P _ _ _ _ _ _ _ _ (tags (λ e. akin_none)) (tags (λ e. absurd (cc))) (tags (λ e. absurd (cc))) (tags (λ e. one_akin bytes others P (moved bytes others P pos pos' f _)))
  shape_match own own' (result s t) g g' =
      two_legal bytes others P _ _ _ _ _ _ _ _ (tags (λ e. one_akin bytes others P (moved bytes others P pos pos' f _))) (tags (λ e. absurd (cc))) (tags (λ e. absurd (cc))) (tags (λ e. one_akin bytes others P (moved bytes others P pos pos' f _)))
  shape_match own own' (choice ss) g g' = payloads_match (slice_index own 0) (slice_index own' 0) ss
  shape_match own own' (box p) g g' = both_follow bytes others P _ _ _ _ (λ t t'. ones (akin_behind (same_count p own own')))
  shape_match own own' (vector s) g g' = both_follow bytes others P _ _ _ _ (λ t t'. ones (akin_behind tt))
  shape_match own own' (shared cyclic p) g g' = both_follow bytes others P _ _ _ _ (λ t t'. counts (same_count p own own'))
  shape_match own own' (weak cyclic p) g g' =
      two_legal bytes others P _ _ _ _ _ _ _ _ (tags (λ e. akin_none)) (tags (λ e. absurd (cc))) (tags (λ e. absurd (cc))) (tags (λ e. one_akin bytes others P (moved bytes others P pos pos' f _)))
  shape_match own own' (tree most k v) g g' = tree_match most k v (word_at own 4) (word_at own' 4) (target_from pos (word_at own 0)) (target_from pos' (word_at own' 0))
  shape_match own own' (table s) g g' = table_match own own' s
  shape_match own own' (index_map k v) g g' = map_match own own' k v
  shape_match own own' (named name size align) g g' = named_match size align (shape_named names name)
