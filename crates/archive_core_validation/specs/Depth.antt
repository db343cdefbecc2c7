-- What a validator keeps: the number of pushes that may nest, and its initial state.
use Rattle.std.specs.Prelude.{ℕ, ◌-◌, ◌^◌, ◌==◌, if◌then◌else◌, [], Option, Some, None}
use Rattle.archive_shape.specs.Kept.{Kept, Seen}

-- with no limit: more than any vector of pushes holds
abbrev pub unlimited : ℕ
unlimited = 2 ^ 64

-- the number of pushes that may nest at a depth of n: one less; `usize::MAX` is no limit
unfoldable pub most_of : ℕ → ℕ
most_of max_depth = if max_depth == 2 ^ 64 - 1 then unlimited else max_depth - 1

abbrev pub most_within : Option ℕ → ℕ
most_within None = unlimited
most_within (Some most) = most

abbrev pub none_seen : Seen
none_seen pos = None

-- of a whole buffer of n bytes
abbrev pub whole : (len most : ℕ) → Kept
whole len most = record { start = 0; end = len; most = most; pushes = []; seen = none_seen }

-- with these shared positions
abbrev pub with_seen : Kept → Seen → Kept
with_seen k seen = record { start = k.start; end = k.end; most = k.most; pushes = k.pushes; seen = seen }
