-- Sizes of two fields of at most eight bytes each: an offset, and the metadata after it.
use Rattle.std.specs.Prelude.{◌≡◌, ℕ, ◌+◌, ◌-◌, ◌%◌, ◌<◌, ◌≤◌, ◌^◌, min, max}
use Rattle.std.proofs.Common.{arith, ap, sym, ◌∙◌}
use Rattle.std.proofs.Math.Nat.{mod_self, mod-lt, zero-mod, min-eq_left}
use Rattle.archive_shape_layout.specs.Bytes.{align_up}
use Rattle.archive_shape_layout.specs.Shape.{Shape, size_of, align_of}
use Rattle.archive_shape_layout.specs.Shape.Shape.{tuple}
use Rattle.archive_shape_layout.specs.Shape.Shapes.{no_shapes, more_shapes}

-- a first field begins at 0
pub first_multiple : (align : ℕ) → align_up 0 align ≡ 0
unfolding align_up
first_multiple align = let whole : align - 0 % align ≡ align = omega (arith, zero-mod align) in rw whole (omega (arith, mod_self align))

-- what is filled up ends below the next multiple
filled_up : (n align : ℕ) → 0 < align → align_up n align < n + align
unfolding align_up
filled_up n align positive = let rest : (align - n % align) % align < align = mod-lt (align - n % align) positive in omega (arith, rest)

-- metadata ends a few bytes after where the pointer begins
pub end_is_small : (o m b : ℕ) → o ≤ 8 → m ≤ 8 → (0 < b) × (b ≤ 32) → align_up o b + m ≤ 47
end_is_small o m b small_offset small second = let from : align_up o b < o + b = filled_up o b second.0 in omega (arith, from, second)

-- so no pointer is long
pub pointer_is_small : (o m a b : ℕ) → o ≤ 8 → m ≤ 8 → (0 < a) × (a ≤ 32) → (0 < b) × (b ≤ 32) → align_up (align_up o b + m) (max a b) < 2 ^ 64
pointer_is_small o m a b small_offset small first second =
    let end : align_up o b + m ≤ 47 = end_is_small o m b small_offset small second in
    let outer : align_up (align_up o b + m) (max a b) < align_up o b + m + max a b = filled_up (align_up o b + m) (max a b) (omega (arith, second)) in
    omega (arith, end, outer, first, second)

-- a size that a buffer may have is not cut
uncut : (o m a b : ℕ) → o ≤ 8 → m ≤ 8 → (0 < a) × (a ≤ 32) → (0 < b) × (b ≤ 32)
    → align_up (align_up o b + m) (max a b) ≡ min (align_up (align_up (align_up 0 a + o) b + m) (max a (max b 1))) (2 ^ 64 - 1)
uncut o m a b offset_small metadata_small first second =
    let from : align_up 0 a + o ≡ o = omega (arith, first_multiple a) in
    let greatest : max a (max b 1) ≡ max a b = omega (arith, second) in
    let same : align_up (align_up (align_up 0 a + o) b + m) (max a (max b 1)) ≡ align_up (align_up o b + m) (max a b) =
    ap (λ (x : ℕ). align_up (align_up x b + m) (max a (max b 1))) from ∙ ap (λ (x : ℕ). align_up (align_up o b + m) x) greatest in
    let most : align_up (align_up o b + m) (max a b) < 2 ^ 64 = pointer_is_small o m a b offset_small metadata_small first second in
    sym (ap (λ (x : ℕ). min x (2 ^ 64 - 1)) same ∙ min-eq_left (omega (arith, most)))

-- a pointer has the size of a tuple of an offset and metadata
pub pointer_sized : (offset metadata : Shape) (o m a b : ℕ)
    → o ≤ 8 → o ≡ min (size_of offset) (2 ^ 64 - 1) → a ≡ align_of offset → (0 < a) × (a ≤ 32)
    → m ≤ 8 → m ≡ min (size_of metadata) (2 ^ 64 - 1) → b ≡ align_of metadata → (0 < b) × (b ≤ 32)
    → align_up (align_up o b + m) (max a b) ≡ min (size_of (tuple (more_shapes offset (more_shapes metadata no_shapes)))) (2 ^ 64 - 1)
pointer_sized offset metadata o m a b small_offset sized aligned first small sized_metadata aligned_metadata second =
    let offset_size : size_of offset ≡ o = omega (arith, small_offset, sized) in
    let metadata_size : size_of metadata ≡ m = omega (arith, small, sized_metadata) in
    let offset_align : align_of offset ≡ a = sym aligned in
    let metadata_align : align_of metadata ≡ b = sym aligned_metadata in
    rw (offset_size, metadata_size, offset_align, metadata_align) (uncut o m a b small_offset small first second)

-- and its alignment
pub pointer_aligned : (offset metadata : Shape) (a b : ℕ)
    → a ≡ align_of offset → b ≡ align_of metadata → 0 < b
    → max a b ≡ align_of (tuple (more_shapes offset (more_shapes metadata no_shapes)))
pointer_aligned offset metadata a b aligned aligned_metadata positive = omega (arith, aligned, aligned_metadata, positive)

pub pointer_aligns : (a b : ℕ) → (0 < a) × (a ≤ 32) → (0 < b) × (b ≤ 32) → (0 < max a b) × (max a b ≤ 32)
pointer_aligns a b first second = (omega (arith, first), omega (arith, first, second))
