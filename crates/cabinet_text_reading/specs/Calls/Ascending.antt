use denote.Ref.{Bor}
use Rattle.std.specs.Prelude.{◌≡◌, ℕ, ◌-◌, [], List, length, slice_get, Option, Some, MatchOption, String}
use Rattle.std.specs.BTreeMap.{BTreeMap}
use Rattle.std.specs.declared.alloc.Global.{Global}
use Rattle.cabinet_text_grammar.specs.Keys.{ordered}
use Rattle.cabinet_text_grammar.specs.Tree.{Tree}
use Rattle.cabinet_text_grammar.specs.declared.cause.Cause.{Cause}
use Rattle.cabinet_text_grammar.specs.declared.cause.Cause.TheVariants.{KeyOrder}
use Rattle.cabinet_text_nodes.specs.View.{node_pairs}
use Rattle.cabinet_text_nodes.specs.declared.node.Node.{Node}
use Rattle.cabinet_text_reading.specs.Told.{IsKeyAfter}

-- the key of the last pair, if there are pairs
abbrev pub FindsLastKey : (pairs : List (String Global × Node)) → Option (Bor (String Global)) → Type 0
FindsLastKey pairs result =
    MatchOption result (pairs ≡ []) (λ key. (node : Node) × (slice_get pairs (length pairs - 1) ≡ Some (key.now, node)))

-- the fault of a key after those of pairs whose keys ascend, unless it may follow them
abbrev pub FindsOrderFault : (pairs : List (String Global × Node)) (argument : List ℕ) → Option Cause → Type 0
FindsOrderFault pairs argument result =
    MatchOption result (IsKeyAfter ordered pairs argument) (λ cause. (cause ≡ KeyOrder) × (IsKeyAfter ordered pairs argument → ⊥))

-- a map has exactly these pairs, in their order
abbrev pub HasPairs : List (String Global × Node) → BTreeMap (String Global) Node → Type 0
HasPairs pairs m = (table : List Tree) → node_pairs table m.entries ≡ node_pairs table pairs
