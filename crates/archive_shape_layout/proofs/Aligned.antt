-- The alignment of every shape is one of the six.
use Rattle.std.proofs.Common.{◌≡◌, ℕ, max, arith, refl, subst, sym, ◌⊎◌, ⊎_elim}
use Rattle.std.specs.Int.{Width, w8, w16, w32, w64, w128, byte_len}
use Rattle.archive_shape_layout.specs.Shape.{Shape, Shapes, Alignment, alignment_bytes, align_of, aligns_of}
use Rattle.archive_shape_layout.specs.Shape.Shape.{number, nonzero, truth, character, text, tuple, array, option, result, choice, box, vector, shared, weak, tree, table, index_map, named}
use Rattle.archive_shape_layout.specs.Shape.Shapes.{no_shapes, more_shapes}
use Rattle.archive_shape_layout.specs.Shape.Alignment.{one, two, four, eight, sixteen, thirty_two}
use Rattle.archive_shape_layout.specs.Laws.{IsAlignment, AlignmentsAreSmallPowers}

of_bytes : (a : Alignment) → IsAlignment (alignment_bytes a)
of_bytes one = record { power = (0, refl); at_least = omega arith; at_most = omega arith }
of_bytes two = record { power = (1, refl); at_least = omega arith; at_most = omega arith }
of_bytes four = record { power = (2, refl); at_least = omega arith; at_most = omega arith }
of_bytes eight = record { power = (3, refl); at_least = omega arith; at_most = omega arith }
of_bytes sixteen = record { power = (4, refl); at_least = omega arith; at_most = omega arith }
of_bytes thirty_two = record { power = (5, refl); at_least = omega arith; at_most = omega arith }

of_width : (w : Width) → IsAlignment (byte_len w)
of_width w8 = of_bytes one
of_width w16 = of_bytes two
of_width w32 = of_bytes four
of_width w64 = of_bytes eight
of_width w128 = of_bytes sixteen

is_one_of : (m n : ℕ) → (max m n ≡ m) ⊎ (max m n ≡ n)
is_one_of m n = grind arith

of_greater : (m n : ℕ) → IsAlignment m → IsAlignment n → IsAlignment (max m n)
of_greater m n a b = ⊎_elim (λ e. subst IsAlignment (sym e) a) (λ e. subst IsAlignment (sym e) b) (is_one_of m n)

mutual
  pub is_alignment : (s : Shape) → IsAlignment (align_of s)
  is_alignment (number w signed) = of_width w
  is_alignment (nonzero w signed) = of_width w
  is_alignment truth = of_bytes one
  is_alignment character = of_bytes four
  is_alignment text = of_bytes four
  is_alignment (tuple ss) = are_alignments ss
  is_alignment (array n s) = is_alignment s
  is_alignment (option s) = is_alignment s
  is_alignment (result s t) = of_greater (align_of s) (align_of t) (is_alignment s) (is_alignment t)
  is_alignment (choice ss) = are_alignments ss
  is_alignment (box p) = of_bytes four
  is_alignment (vector s) = of_bytes four
  is_alignment (shared cyclic p) = of_bytes four
  is_alignment (weak cyclic p) = of_bytes four
  is_alignment (tree most k v) = of_bytes four
  is_alignment (table s) = of_bytes four
  is_alignment (index_map k v) = of_bytes four
  is_alignment (named name size align) = of_bytes align

  are_alignments : (ss : Shapes) → IsAlignment (aligns_of ss)
  are_alignments no_shapes = of_bytes one
  are_alignments (more_shapes s ss) = of_greater (align_of s) (aligns_of ss) (is_alignment s) (are_alignments ss)

pub alignments_law : AlignmentsAreSmallPowers
alignments_law = is_alignment
