-- The values that archived bytes represent.
use Rattle.std.specs.Prelude.{ℕ, ◌+◌, Bool, List, ℤ, Option, Some, None}

mutual
  pub data Value : Type 0 where
    -- a number of an unsigned type, or a char's code
    natural : ℕ → Value
    -- a number of a signed type
    integer : ℤ → Value
    boolean : Bool → Value
    -- a text's bytes
    string : List ℕ → Value
    -- the fields of a tuple, the elements of an array, vector or slice, the items of a map, each a group of key and
    -- value
    group : Values → Value
    -- the tag of an option, result or enum, and its payload
    chosen : ℕ → Values → Value
    -- a shared value, with the position that is its identity
    counted : ℕ → Value → Value
    -- a shared pointer to the value at a position that it lies inside
    back : ℕ → Value

  pub data Values : Type 0 where
    no_values : Values
    more_values : Value → Values → Values

abbrev pub append_values : Values → Values → Values
append_values no_values ws = ws
append_values (more_values v vs) ws = more_values v (append_values vs ws)

abbrev pub count_values : Values → ℕ
count_values no_values = 0
count_values (more_values v vs) = 1 + count_values vs

-- the elements of a group
abbrev pub elements_of : Value → Option Values
elements_of (group vs) = Some vs
elements_of _ = None
