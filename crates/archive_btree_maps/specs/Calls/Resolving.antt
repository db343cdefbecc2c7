-- What the writes of the own bytes of maps and sets ensure.
use Rattle.std.specs.Prelude.{◌≡◌, ℕ, ◌^◌, ◌<◌, ◌≤◌, ◌⊎◌, List, ◌++◌, Option, Result, MatchResult}
use Rattle.std.specs.Int.{w32, to_le_bytes}
use Rattle.archive_shape_layout.specs.declared.error.Error.{Error}
use Rattle.archive_shape_layout.specs.declared.error.Error.TheVariants.{LengthTooLarge}
use Rattle.archive_shape.specs.Bytes.{overwrite}
use Rattle.archive_shape.specs.declared.references.place.Place.{Place}
use Rattle.archive_forms_laws.specs.Links.{link_bytes, LinkFits, LinkRefused}

-- at a place the pointer to the root of a tree is written, if there is a root, and the number of its entries; a call that
-- is refused changes nothing
abbrev pub ResolvesTree : {T : Type 0} (len : ℕ) (root : Option ℕ) (out : Place T) (result : Result (Unit {0}) Error) (bytes : List ℕ) → Type 0
ResolvesTree len root out result bytes =
    MatchResult result
    (λ _. (LinkFits root out.pos × (len < 2 ^ 32)) × (bytes ≡ overwrite out.out.now out.start (link_bytes root out.pos ++ to_le_bytes w32 len)))
    (λ e. (((e ≡ LengthTooLarge) × (2 ^ 32 ≤ len)) ⊎ (LinkRefused root out.pos e × (len < 2 ^ 32))) × (bytes ≡ out.out.now))
