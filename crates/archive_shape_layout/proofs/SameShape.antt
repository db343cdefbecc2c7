-- Whether two shapes are the same, as a test.
use Rattle.std.proofs.Common.{◌≡◌, ℕ, Bool, true, false, ◌==◌, ◌&&◌, refl, ap, ap₂, sym, ◌∙◌, arith, eqb-true, rules}
use Rattle.std.specs.Int.{Width, w8, w16, w32, w64, w128, byte_len}
use Rattle.archive_shape_layout.specs.Shape.{Shape, Shapes, Pointee, Alignment, alignment_bytes}
use Rattle.archive_shape_layout.specs.Shape.Shape.{number, nonzero, truth, character, text, tuple, array, option, result, choice, box, vector, shared, weak, tree, table, index_map, named}
use Rattle.archive_shape_layout.specs.Shape.Shapes.{no_shapes, more_shapes}
use Rattle.archive_shape_layout.specs.Shape.Pointee.{sized, slice, str}

abbrev same_bool : Bool → Bool → Bool
same_bool true b = b
same_bool false true = false
same_bool false false = true

abbrev mutual
  pub same_shape : Shape → Shape → Bool
  same_shape (number w a) (number x b) = (byte_len w == byte_len x) && same_bool a b
  same_shape (nonzero w a) (nonzero x b) = (byte_len w == byte_len x) && same_bool a b
  same_shape truth truth = true
  same_shape character character = true
  same_shape text text = true
  same_shape (tuple s) (tuple t) = same_shapes s t
  same_shape (array m s) (array n t) = (m == n) && same_shape s t
  same_shape (option s) (option t) = same_shape s t
  same_shape (result s u) (result t v) = same_shape s t && same_shape u v
  same_shape (choice s) (choice t) = same_shapes s t
  same_shape (box p) (box q) = same_pointee p q
  same_shape (vector s) (vector t) = same_shape s t
  same_shape (shared a p) (shared b q) = same_bool a b && same_pointee p q
  same_shape (weak a p) (weak b q) = same_bool a b && same_pointee p q
  same_shape (tree m s u) (tree n t v) = (m == n) && (same_shape s t && same_shape u v)
  same_shape (table s) (table t) = same_shape s t
  same_shape (index_map s u) (index_map t v) = same_shape s t && same_shape u v
  same_shape (named m a b) (named n c d) = (m == n) && ((a == c) && (alignment_bytes b == alignment_bytes d))
  same_shape _ _ = false

  pub same_shapes : Shapes → Shapes → Bool
  same_shapes no_shapes no_shapes = true
  same_shapes (more_shapes s ss) (more_shapes t ts) = same_shape s t && same_shapes ss ts
  same_shapes _ _ = false

  pub same_pointee : Pointee → Pointee → Bool
  same_pointee (sized s) (sized t) = same_shape s t
  same_pointee (slice s) (slice t) = same_shape s t
  same_pointee str str = true
  same_pointee _ _ = false

pub both_left : (a b : Bool) → (a && b) ≡ true → a ≡ true
both_left true b e = refl
both_left false b e = e

pub both_right : (a b : Bool) → (a && b) ≡ true → b ≡ true
both_right true b e = e
both_right false b e = absurd (cc)

bool_is : (a b : Bool) → same_bool a b ≡ true → a ≡ b
bool_is true b e = sym e
bool_is false true e = e
bool_is false false e = refl

bytes_width : (w x : Width) → byte_len w ≡ byte_len x → w ≡ x
bytes_width w8 w8 e = refl
bytes_width w16 w16 e = refl
bytes_width w32 w32 e = refl
bytes_width w64 w64 e = refl
bytes_width w128 w128 e = refl
bytes_width _ _ e = absurd (omega arith)

bytes_alignment : (a b : Alignment) → alignment_bytes a ≡ alignment_bytes b → a ≡ b
bytes_alignment Alignment.one Alignment.one e = refl
bytes_alignment Alignment.two Alignment.two e = refl
bytes_alignment Alignment.four Alignment.four e = refl
bytes_alignment Alignment.eight Alignment.eight e = refl
bytes_alignment Alignment.sixteen Alignment.sixteen e = refl
bytes_alignment Alignment.thirty_two Alignment.thirty_two e = refl
bytes_alignment _ _ e = absurd (omega arith)

width_is : (w x : Width) → (byte_len w == byte_len x) ≡ true → w ≡ x
width_is w x e = bytes_width w x (eqb-true (byte_len w) (byte_len x) e)

alignment_is : (a b : Alignment) → (alignment_bytes a == alignment_bytes b) ≡ true → a ≡ b
alignment_is a b e = bytes_alignment a b (eqb-true (alignment_bytes a) (alignment_bytes b) e)

mutual
  pub shape_is : (s t : Shape) → same_shape s t ≡ true → s ≡ t
  shape_is (number w a) (number x b) e = ap₂ number (width_is w x (both_left _ _ e)) (bool_is a b (both_right (byte_len w == byte_len x) _ e))
  shape_is (nonzero w a) (nonzero x b) e = ap₂ nonzero (width_is w x (both_left _ _ e)) (bool_is a b (both_right (byte_len w == byte_len x) _ e))
  shape_is truth truth e = refl
  shape_is character character e = refl
  shape_is text text e = refl
  shape_is (tuple s) (tuple t) e = ap tuple (shapes_are s t e)
  shape_is (array m s) (array n t) e = ap₂ array (eqb-true m n (both_left _ _ e)) (shape_is s t (both_right (m == n) _ e))
  shape_is (option s) (option t) e = ap option (shape_is s t e)
  shape_is (result s u) (result t v) e = ap₂ result (shape_is s t (both_left _ _ e)) (shape_is u v (both_right (same_shape s t) _ e))
  shape_is (choice s) (choice t) e = ap choice (shapes_are s t e)
  shape_is (box p) (box q) e = ap box (pointee_is p q e)
  shape_is (vector s) (vector t) e = ap vector (shape_is s t e)
  shape_is (shared a p) (shared b q) e = ap₂ shared (bool_is a b (both_left _ _ e)) (pointee_is p q (both_right (same_bool a b) _ e))
  shape_is (weak a p) (weak b q) e = ap₂ weak (bool_is a b (both_left _ _ e)) (pointee_is p q (both_right (same_bool a b) _ e))
  shape_is (tree m s u) (tree n t v) e =
      let rest = both_right (m == n) _ e in
      ap (λ k. tree k s u) (eqb-true m n (both_left _ _ e)) ∙ ap₂ (tree n) (shape_is s t (both_left _ _ rest)) (shape_is u v (both_right (same_shape s t) _ rest))
  shape_is (table s) (table t) e = ap table (shape_is s t e)
  shape_is (index_map s u) (index_map t v) e = ap₂ index_map (shape_is s t (both_left _ _ e)) (shape_is u v (both_right (same_shape s t) _ e))
  shape_is (named m a b) (named n c d) e =
      let rest = both_right (m == n) _ e in
      ap (λ k. named k a b) (eqb-true m n (both_left _ _ e)) ∙ ap₂ (named n) (eqb-true a c (both_left _ _ rest)) (alignment_is b d (both_right (a == c) _ rest))
  shape_is _ _ e = absurd (cc)

  shapes_are : (ss ts : Shapes) → same_shapes ss ts ≡ true → ss ≡ ts
  shapes_are no_shapes no_shapes e = refl
  shapes_are (more_shapes s ss) (more_shapes t ts) e = ap₂ more_shapes (shape_is s t (both_left _ _ e)) (shapes_are ss ts (both_right (same_shape s t) _ e))
  shapes_are _ _ e = absurd (cc)

  pub pointee_is : (p q : Pointee) → same_pointee p q ≡ true → p ≡ q
  pointee_is (sized s) (sized t) e = ap sized (shape_is s t e)
  pointee_is (slice s) (slice t) e = ap slice (shape_is s t e)
  pointee_is str str e = refl
  pointee_is _ _ e = absurd (cc)

pub equal : (n : ℕ) → (n == n) ≡ true
equal n = search rules

pub both : (a b : Bool) → a ≡ true → b ≡ true → (a && b) ≡ true
both true b x y = y
both false b x y = x

bool_itself : (b : Bool) → same_bool b b ≡ true
bool_itself true = refl
bool_itself false = refl

mutual
  pub shape_itself : (s : Shape) → same_shape s s ≡ true
  shape_itself (number w a) = both _ _ (equal _) (bool_itself a)
  shape_itself (nonzero w a) = both _ _ (equal _) (bool_itself a)
  shape_itself truth = refl
  shape_itself character = refl
  shape_itself text = refl
  shape_itself (tuple s) = shapes_itself s
  shape_itself (array m s) = both _ _ (equal m) (shape_itself s)
  shape_itself (option s) = shape_itself s
  shape_itself (result s u) = both _ _ (shape_itself s) (shape_itself u)
  shape_itself (choice s) = shapes_itself s
  shape_itself (box p) = pointee_itself p
  shape_itself (vector s) = shape_itself s
  shape_itself (shared a p) = both _ _ (bool_itself a) (pointee_itself p)
  shape_itself (weak a p) = both _ _ (bool_itself a) (pointee_itself p)
  shape_itself (tree m s u) = both _ _ (equal m) (both _ _ (shape_itself s) (shape_itself u))
  shape_itself (table s) = shape_itself s
  shape_itself (index_map s u) = both _ _ (shape_itself s) (shape_itself u)
  shape_itself (named m a b) = both _ _ (equal m) (both _ _ (equal a) (equal _))

  shapes_itself : (ss : Shapes) → same_shapes ss ss ≡ true
  shapes_itself no_shapes = refl
  shapes_itself (more_shapes s ss) = both _ _ (shape_itself s) (shapes_itself ss)

  pub pointee_itself : (p : Pointee) → same_pointee p p ≡ true
  pointee_itself (sized s) = shape_itself s
  pointee_itself (slice s) = shape_itself s
  pointee_itself str = refl
