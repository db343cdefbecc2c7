-- What is ensured of two maps that are compared, and of a map that is hashed.
use Rattle.std.specs.Prelude.{◌≡◌, ℕ, Bool, List}
use Rattle.std.specs.Cmp.Lexicographic.{pointwise}
use Rattle.std.specs.List.{fold, flat_map}
use Rattle.archive_shape_layout.specs.Shape.Shape.{tree}
use Rattle.archive_shape_layout.specs.Value.{Value}
use Rattle.archive_shape.specs.Key.{HeldAt}
use Rattle.archive_shape.specs.declared.references.refs.Ref.{Ref}
use Rattle.archive_shape.specs.declared.types.portable.Portable.{Ghosts}
use Rattle.archive_forms_laws.specs.Orders.{Equality, Hashed}
use Rattle.archive_forms_values.specs.Parts.{both}
use Rattle.archive_btree_maps.specs.Hashing.{pair_hashed}
use Rattle.archive_btree_maps.specs.MapComparing.{pair_equality, map_equality, IsPairAt, ArePairsAt}

module _ {K V : Type 0} (k : Ghosts K) (v : Ghosts V) where
  -- the answer is the equality of the pairs that two entries are
  abbrev pub EqualsPair : (equal other_equal : Equality) (this other : Ref K × Ref V) (result : Bool) → Type 0
  EqualsPair equal other_equal this other result =
      (p q : Value)
      → IsPairAt k.shape v.shape k.knows v.knows this p
      → IsPairAt k.shape v.shape k.knows v.knows other q
      → result ≡ pair_equality equal other_equal p q

  -- the answer is the equality, one by one, of the pairs that entries are
  abbrev pub EqualsPairs : (equal other_equal : Equality) (these others : List (Ref K × Ref V)) (result : Bool) → Type 0
  EqualsPairs equal other_equal these others result =
      (ps qs : List Value)
      → ArePairsAt k.shape v.shape k.knows v.knows these ps
      → ArePairsAt k.shape v.shape k.knows v.knows others qs
      → result ≡ pointwise (pair_equality equal other_equal) ps qs

  -- the answer is the equality of the values of two maps
  abbrev pub EqualsMap : {M N : Type 0} (most others : ℕ) (equal other_equal : Equality) (this : Ref M) (other : Ref N) (result : Bool) → Type 0
  EqualsMap most others equal other_equal this other result =
      (x y : Value)
      → HeldAt (tree most k.shape v.shape) (both k.knows v.knows) this.bytes.now this.pos x
      → HeldAt (tree others k.shape v.shape) (both k.knows v.knows) other.bytes.now other.pos y
      → result ≡ map_equality equal other_equal x y

  -- a hasher is fed the pairs that entries are, in order
  abbrev pub FeedsPairs : {H : Type 0} (hashed other_hashed : Hashed) (write : H → List ℕ → H) (entries : List (Ref K × Ref V)) (old new : H) → Type 0
  FeedsPairs hashed other_hashed write entries old new =
      (ps : List Value) → ArePairsAt k.shape v.shape k.knows v.knows entries ps → new ≡ fold write old (flat_map (pair_hashed hashed other_hashed) ps)
