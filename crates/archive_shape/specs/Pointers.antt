-- Pointers with metadata: the offset, and after it the metadata.
use Rattle.std.specs.Prelude.{ℕ, ◌+◌, List}
use Rattle.archive_shape_layout.specs.Bytes.{align_up}
use Rattle.archive_shape.specs.Bytes.{overwrite}

-- where the metadata begins: after the offset, at the next multiple of its alignment
abbrev pub metadata_at : ℕ → ℕ → ℕ
metadata_at offset_size metadata_align = align_up offset_size metadata_align

-- where the metadata ends
abbrev pub metadata_end : ℕ → ℕ → ℕ → ℕ
metadata_end offset_size metadata_align metadata_size = metadata_at offset_size metadata_align + metadata_size

-- the bytes with an offset written at `start`, and metadata `at` bytes after `start`
abbrev pub pointer_written : List ℕ → ℕ → List ℕ → ℕ → List ℕ → List ℕ
pointer_written bytes start offset at metadata = overwrite (overwrite bytes start offset) (start + at) metadata
