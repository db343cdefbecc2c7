-- Whether the key of a pair has some escaped form.
use Rattle.std.specs.Prelude.{ℕ, Bool, List, String, string_bytes}
use Rattle.std.specs.List.{list_any}
use Rattle.std.specs.Str.{bytes_eq}
use Rattle.std.specs.declared.alloc.Global.{Global}
use Rattle.cabinet_text_grammar.specs.Spelling.{escaped}
use Rattle.cabinet_text_nodes.specs.declared.node.Node.{Node}

abbrev pub has_escaped : List ℕ → List (String Global × Node) → Bool
has_escaped bytes ps = list_any (λ p. bytes_eq bytes (escaped (string_bytes p.0))) ps
