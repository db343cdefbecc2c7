-- Own bytes at a position where the layout has a value without parts.
use Rattle.std.proofs.Common.{◌≡◌, ℕ, List, sym, subst}
use Rattle.archive_shape_layout.specs.Bytes.{window}
use Rattle.archive_shape_layout.specs.Shape.{Shape, size_of}
use Rattle.archive_shape_layout.specs.Value.{Value}
use Rattle.archive_shape_layout.specs.Content.{Names}
use Rattle.archive_shape_layout.specs.Content.Part.{at}
use Rattle.archive_shape_layout.specs.Holds.{Region, Visit, OpenShared, Holds}
use Rattle.archive_shape_layout.specs.Numbers.{IsLeafShape, Reads, AreLegal}
use Rattle.archive_shape_layout.proofs.Readable.{legal_is_readable_law, held_leaf_is_read_law}

module _ {names : Names} {bytes : List ℕ} {level : ℕ} {inside : List OpenShared} {pos : ℕ} {value : Value} {regions : List Region} {before after : List Visit}
    (shape : Shape) (is_leaf : IsLeafShape shape) (width : ℕ) (sized : width ≡ size_of shape) (holds : Holds names bytes level inside (at pos shape) value regions before after) where
  -- they represent the value
  pub held_reads : Reads shape (window bytes pos width) value
  held_reads =
      subst (λ (n : ℕ). Reads shape (window bytes pos n) value) (sym sized)
      (held_leaf_is_read_law shape bytes pos value is_leaf names level inside regions before after holds)

  -- they are legal
  pub held_legal : AreLegal shape (window bytes pos width)
  held_legal = (legal_is_readable_law shape (window bytes pos width) is_leaf).1 (record { value = value; reads = held_reads })
