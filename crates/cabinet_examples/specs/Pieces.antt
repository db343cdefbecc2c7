-- Pieces of archives that are written out byte by byte, and of the values that they hold.
use Rattle.std.specs.Prelude.{ℕ, zero, suc, ◌-◌, List, [], ◌∷◌, ◌++◌, length, codes}
use Prim.Native.String.{String}
use Rattle.archive_shape_layout.specs.Value.{Value, Values}
use Rattle.archive_shape_layout.specs.Value.Value.{string, group}
use Rattle.archive_shape_layout.specs.Value.Values.{no_values, more_values}
use Rattle.archive_shape_layout.specs.Holds.{Region}

-- ---- bytes

abbrev pub times : ℕ → ℕ → List ℕ
times zero byte = []
times (suc n) byte = byte ∷ times n byte

abbrev pub zeros : ℕ → List ℕ
zeros n = times n 0x00

abbrev pub filler : ℕ → List ℕ
filler n = times n 0xff

-- a text of at most eight bytes, inline
abbrev pub inline : String → List ℕ
inline s = codes s ++ filler (8 - length (codes s))

-- a node that holds a number below 256
abbrev pub number_node : ℕ → List ℕ
number_node n = 0x01 ∷ zeros 7 ++ n ∷ zeros 15

-- ---- values

abbrev pub values : List Value → Values
values [] = no_values
values (v ∷ vs) = more_values v (values vs)

abbrev pub group_of : List Value → Value
group_of vs = group (values vs)

-- the item of a map
abbrev pub item_of : String → Value → Value
item_of key v = group_of (string (codes key) ∷ v ∷ [])

-- ---- regions

abbrev pub region : ℕ → ℕ → ℕ → ℕ → Region
region start size align level = record { start = start; size = size; align = align; level = level }
