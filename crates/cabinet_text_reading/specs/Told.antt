-- Which keys may follow others, by their escaped forms.
use Rattle.std.specs.Prelude.{◌≡◌, ◌⊎◌, ℕ, true, List, [], ◌++◌, codes, String}
use Rattle.std.specs.declared.alloc.Global.{Global}
use Rattle.cabinet_text_grammar.specs.Fault.{Piece}
use Rattle.cabinet_text_grammar.specs.Frame.{keys_after}
use Rattle.cabinet_text_grammar.specs.Keys.{MapKind, MayFollow}
use Rattle.cabinet_text_grammar.specs.Spelling.{escaped}
use Rattle.cabinet_text_grammar.specs.declared.cause.Cause.{Cause}
use Rattle.cabinet_text_grammar.specs.declared.cause.Cause.TheVariants.{OutOfMemory}
use Rattle.cabinet_text_nodes.specs.View.{node_pairs}
use Rattle.cabinet_text_nodes.specs.declared.node.Node.{Node}

-- the key that has this escaped form may follow those of some pairs
abbrev pub IsKeyAfter : MapKind → List (String Global × Node) → List ℕ → Type 0
IsKeyAfter kind ps argument = (k : List ℕ) → argument ≡ escaped k → MayFollow kind (keys_after [] (node_pairs [] ps)) k

-- the cause for which it is not added after them: it may not follow them, which is the cause `wrong`, or it may and
-- memory is refused
abbrev pub RefusesKey : MapKind → Cause → List (String Global × Node) → List ℕ → Cause → Type 0
RefusesKey kind wrong ps argument cause =
    ((cause ≡ wrong) × (IsKeyAfter kind ps argument → ⊥)) ⊎ ((cause ≡ OutOfMemory) × IsKeyAfter kind ps argument)

-- the line of the key that has this escaped form
abbrev pub key_line : List ℕ → Piece
key_line argument = record { bytes = codes "'" ++ argument; ended = true }
