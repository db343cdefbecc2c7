-- The own bytes of a table that is written, and the errors of writing them.
use Rattle.std.specs.Prelude.{ℕ, ◌^◌, ◌<◌, ◌≤◌, List, ◌++◌, Option}
use Rattle.std.specs.Int.{w32, to_le_bytes}
use Rattle.archive_shape_canonical.specs.FirstFit.{capacity_for}
use Rattle.archive_shape_layout.specs.declared.error.Error.{Error}
use Rattle.archive_shape_layout.specs.declared.error.Error.TheVariants.{InvalidLoadFactor, LengthTooLarge}
use Rattle.archive_forms_laws.specs.Links.{link_bytes, LinkFits, LinkRefused}
use Rattle.archive_hash_probing.specs.Loads.{IsLoadFactor}

-- of a table of `len` items: `load_factor` is the largest part of its places that may be full, `to` the position of its
-- controls, if it has any, and `pos` the position of its own bytes
module _ (len : ℕ) (load_factor : ℕ × ℕ) (to : Option ℕ) (pos : ℕ) where
  abbrev pub capacity : ℕ
  capacity = capacity_for len load_factor.0 load_factor.1

  -- the pointer, the number of items and that of places
  abbrev pub own_bytes : List ℕ
  own_bytes = link_bytes to pos ++ (to_le_bytes w32 len ++ to_le_bytes w32 capacity)

  -- all limits hold
  pub record IsWithinLimits : Type 0 where
    pub load : IsLoadFactor load_factor
    pub few_items : len < 2 ^ 32
    pub few_places : capacity < 2 ^ 32
    pub near : LinkFits to pos

  -- the first limit that does not hold
  pub data IsRefused : Error → Type 0 where
    has_no_load : (IsLoadFactor load_factor → ⊥) → IsRefused InvalidLoadFactor
    has_many_places : IsLoadFactor load_factor → 2 ^ 32 ≤ capacity → IsRefused LengthTooLarge
    is_far : {e : Error} → IsLoadFactor load_factor → capacity < 2 ^ 32 → LinkRefused to pos e → IsRefused e
