-- The code's containers as those of the definitions, under a table of wholes.
use Rattle.std.specs.Prelude.{List, [], ◌∷◌, String, string_bytes}
use Rattle.std.specs.declared.alloc.Global.{Global}
use Rattle.cabinet_text_grammar.specs.Due as spec_due
use Rattle.cabinet_text_grammar.specs.Keys.{MapKind, ordered, hashed, kept}
use Rattle.cabinet_text_grammar.specs.Frame as spec
use Rattle.cabinet_text_grammar.specs.Machine.{State, going, complete}
use Rattle.cabinet_text_grammar.specs.Tree.{Tree}
use Rattle.cabinet_text_nodes.specs.View.{node_tree, node_trees, node_pairs}
use Rattle.cabinet_text_nodes.specs.declared.node.Node.{Node}
use Rattle.cabinet_text_reading.specs.declared.stack.pairs.Pairs.{Pairs}
use Rattle.cabinet_text_reading.specs.declared.stack.pairs.Pairs.TheVariants as pairs
use Rattle.cabinet_text_reading.specs.declared.stack.keyed.Keyed.{Keyed}
use Rattle.cabinet_text_reading.specs.declared.stack.keyed.Keyed.TheVariants as keyed
use Rattle.cabinet_text_reading.specs.declared.stack.frame.Frame.{Frame}
use Rattle.cabinet_text_reading.specs.declared.stack.frame.Frame.TheVariants as frame
use Rattle.cabinet_text_reading.specs.declared.stack.frame.OpenMap.{OpenMap}
use Rattle.cabinet_text_reading.specs.declared.stack.due.Due.{Due}
use Rattle.cabinet_text_reading.specs.declared.stack.due.Due.TheVariants as due
use Rattle.cabinet_text_reading.specs.declared.stack.due.Next.{Next}
use Rattle.cabinet_text_reading.specs.declared.stack.due.Next.TheVariants as next

abbrev pub kind_of : Pairs → MapKind
kind_of (pairs.Ordered ps) = ordered
kind_of (pairs.Hashed ps) = hashed
kind_of (pairs.Kept ps) = kept

abbrev pub entries_of : Pairs → List (String Global × Node)
entries_of (pairs.Ordered ps) = ps
entries_of (pairs.Hashed ps) = ps
entries_of (pairs.Kept ps) = ps

-- a key of a map that has these pairs, whose keys no table changes
abbrev pub key_due : Pairs → spec_due.Due
key_due ps = spec_due.a_key (kind_of ps) (spec.keys_after [] (node_pairs [] (entries_of ps)))

abbrev pub keyed_kind : Keyed → MapKind
keyed_kind (keyed.Ordered ps) = ordered
keyed_kind (keyed.Hashed ps) = hashed
keyed_kind (keyed.Kept ps) = kept

abbrev pub keyed_entries : Keyed → List (String Global × Node)
keyed_entries (keyed.Ordered ps) = ps.0
keyed_entries (keyed.Hashed ps) = ps.0
keyed_entries (keyed.Kept ps) = ps.0

abbrev pub key_of : Keyed → String Global
key_of (keyed.Ordered ps) = ps.1
key_of (keyed.Hashed ps) = ps.1
key_of (keyed.Kept ps) = ps.1

abbrev pub frame_of : List Tree → Frame → spec.Frame
frame_of table frame.Maybe = spec.in_option
frame_of table (frame.List n v) = spec.in_list n (node_trees table v.items)
frame_of table (frame.Value n ps) = spec.at_value (keyed_kind ps) n (node_pairs table (keyed_entries ps)) (string_bytes (key_of ps))

-- some containers and inside them more, of which the innermost is last
abbrev pub stack_onto : List Tree → List spec.Frame → List Frame → List spec.Frame
stack_onto table outer [] = outer
stack_onto table outer (f ∷ fs) = stack_onto table (frame_of table f ∷ outer) fs

-- the innermost first
abbrev pub stack_of : List Tree → List Frame → List spec.Frame
stack_of table fs = stack_onto table [] fs

-- a map that expects a key, inside the others
abbrev pub inside_map : List Tree → OpenMap → List Frame → List spec.Frame
inside_map table m fs = spec.at_key (kind_of m.pairs) m.count (node_pairs table (entries_of m.pairs)) ∷ stack_of table fs

-- all containers that are open where something is expected
abbrev pub open_at : List Tree → Due → List Frame → List spec.Frame
open_at table due.Head fs = stack_of table fs
open_at table (due.Key m) fs = inside_map table m fs

-- the state after a node was taken in: open containers, or a document
abbrev pub state_of : List Tree → Next → List Frame → State
state_of table (next.Due d) fs = going (open_at table d fs)
state_of table (next.Done n) fs = complete (node_tree table n)
