-- What calls that write own bytes ensure, of their place; `new` are its bytes as the call ends.
use Rattle.std.specs.Prelude.{◌≡◌, ℕ, ◌^◌, ◌<◌, ◌≤◌, ◌⊎◌, List, ◌++◌, Option, Result, MatchResult}
use Rattle.std.specs.Int.{w32, to_le_bytes}
use Rattle.archive_shape.specs.Bytes.{overwrite}
use Rattle.archive_shape.specs.Offsets.{FitsOffset, offset_bytes}
use Rattle.archive_shape.specs.declared.references.place.Place.{Place}
use Rattle.archive_shape_layout.specs.declared.error.Error.{Error}
use Rattle.archive_shape_layout.specs.declared.error.Error.TheVariants.{IsizeOverflow, LengthTooLarge}
use Rattle.archive_forms_laws.specs.Links.{link_bytes, LinkFits, LinkRefused}
use Rattle.archive_forms_laws.specs.Texts.{is_short, text_own, text_own_fits, text_own_refused}

-- own bytes are written where they fit; else the error is one that refuses them, and nothing is written
abbrev pub Emplaces : {T : Type 0} → (fits : Type 0) → (refused : Error → Type 0) → (own : List ℕ)
    → Place T → Result (Unit {0}) Error → List ℕ → Type 0
Emplaces fits refused own place result new =
    MatchResult result
    (λ _. fits × (new ≡ overwrite place.out.now place.start own))
    (λ e. refused e × (new ≡ place.out.now))

-- the pointer that leads to a position, or to nothing, is written
abbrev pub EmplacesLink : {T : Type 0} → (to : Option ℕ) → Place T → Result (Unit {0}) Error → List ℕ → Type 0
EmplacesLink to place result new =
    Emplaces (LinkFits to place.pos) (LinkRefused to place.pos) (link_bytes to place.pos) place result new

-- the box of the value at a position is written
abbrev pub ResolvesBox : {T : Type 0} → (to : ℕ) → Place T → Result (Unit {0}) Error → List ℕ → Type 0
ResolvesBox to place result new =
    MatchResult result
    (λ _. FitsOffset place.pos to × (new ≡ overwrite place.out.now place.start (offset_bytes place.pos to)))
    (λ e. (e ≡ IsizeOverflow) × ((FitsOffset place.pos to → ⊥) × (new ≡ place.out.now)))

-- the pointer to so many elements, or bytes of a text, from a position on is written
abbrev pub ResolvesElements : {T : Type 0} → (to len : ℕ) → Place T → Result (Unit {0}) Error → List ℕ → Type 0
ResolvesElements to len place result new =
    Emplaces
    (FitsOffset place.pos to × (len < 2 ^ 32))
    (λ e. ((e ≡ LengthTooLarge) × (2 ^ 32 ≤ len)) ⊎ ((e ≡ IsizeOverflow) × (len < 2 ^ 32) × (FitsOffset place.pos to → ⊥)))
    (offset_bytes place.pos to ++ to_le_bytes w32 len) place result new

-- the own bytes of a text at a position are made, whose bytes lie at `to` if it is out of line
abbrev pub MakesOwnText : List ℕ → (to pos : ℕ) → Result (List ℕ) Error → Type 0
MakesOwnText t to pos result =
    MatchResult result
    (λ own. text_own_fits (is_short t) t to pos × (own ≡ text_own (is_short t) t to pos))
    (text_own_refused (is_short t) t to pos)

-- and they are written
abbrev pub ResolvesText : {T : Type 0} → List ℕ → (to : ℕ) → Place T → Result (Unit {0}) Error → List ℕ → Type 0
ResolvesText t to place result new =
    Emplaces
    (text_own_fits (is_short t) t to place.pos)
    (text_own_refused (is_short t) t to place.pos)
    (text_own (is_short t) t to place.pos) place result new
