-- What the own bytes of a table with items encode.
use Rattle.std.specs.Prelude.{◌≡◌, ℕ, ◌+◌, ◌-◌, ◌^◌, ◌<◌, List, Some}
use Rattle.archive_shape_layout.specs.Bytes.{word_at, target_from}
use Rattle.archive_hash_maps.specs.declared.checking.head.TableHead.{TableHead}

-- there are some, fewer than places, and their offset leads to the position of the first control
pub record HasHead (bytes : List ℕ) (pos : ℕ) (h : TableHead) : Type 0 where
  pub len : h.len ≡ word_at bytes (pos + 4)
  pub capacity : h.capacity ≡ word_at bytes (pos + 8)
  pub controls : target_from pos (word_at bytes pos) ≡ Some h.controls
  pub some : 0 < h.len
  pub room : h.len < h.capacity
  pub small : h.capacity < 2 ^ 32
  pub near : h.controls < 2 ^ 64 - 1
