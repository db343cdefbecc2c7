-- The wholes of a text of which some lines were read, and the lines that complete their trees.
use Rattle.std.specs.Prelude.{◌≡◌, ◌≢◌, ℕ, ◌<◌, IsTrue, List, [], ◌∷◌, ◌++◌, codes, Option, Some, None}
use Rattle.std.specs.List.{list_any}
use Rattle.std.specs.Str.{bytes_eq}
use Rattle.cabinet_text_grammar.specs.Tree.{Tree}
use Rattle.cabinet_text_grammar.specs.Wholes.{has, wholes_of, IsTable}
use Rattle.cabinet_text_grammar.specs.Frame as spec
use Rattle.cabinet_text_grammar.specs.Frame.{items_of_stack, IsOpen, AreOpen}
use Rattle.cabinet_text_grammar.specs.Item.{Item, whole_item}
use Rattle.cabinet_text_grammar.specs.Reading.{Reading, nothing_read, IsReading}
use Rattle.cabinet_text_grammar.specs.Spelling.{lines_of, ended}
use Rattle.cabinet_text_grammar.specs.Completing.{texts_of, with_frame, with_stack}
use Rattle.cabinet_text_grammar.specs.Machine.{complete, step}
use Rattle.cabinet_text_grammar.specs.declared.cause.Cause.{Cause}
use Rattle.cabinet_text_grammar.specs.declared.cause.Cause.TheVariants.{RepeatedWhole, WholeOrder}
use Rattle.cabinet_text_nodes.specs.Faults.{AreDepths}
use Rattle.cabinet_text_nodes.specs.Order.{IsWalk}
use Rattle.cabinet_text_nodes.specs.View.{node_tree, table_of}
use Rattle.cabinet_text_nodes.specs.declared.node.Node.{Node}
use Rattle.cabinet_text_reading.specs.View.{frame_of, stack_of}
use Rattle.cabinet_text_reading.specs.declared.stack.frame.Frame.{Frame}
use Rattle.cabinet_text_reading.specs.declared.wholes.Wholes.{Wholes}

-- the trees of the wholes that are complete
abbrev pub table_in : Wholes → List Tree
table_in w = table_of w.entries.items

-- the tree of a node, which may have those wholes
abbrev pub tree_in : Wholes → Node → Tree
tree_in w n = node_tree (table_in w) n

-- what was read, where these containers are open
abbrev pub reading_of : Wholes → List spec.Frame → Reading
reading_of w fs = record { lacking = w.lacking; table = table_in w; stack = fs }

-- the same by the code's containers, the innermost last
abbrev pub reading_in : Wholes → List Frame → Reading
reading_in w fs = reading_of w (stack_of (table_in w) fs)

-- the depths and the texts of the trees of the wholes are known
pub record AreKnown (w : Wholes) : Type 0 where
  pub depths : AreDepths (table_in w) w.depths.items
  pub texts : (bytes : List ℕ) → list_any (λ k. bytes_eq k.now bytes) w.texts.keys ≡ list_any (λ t. bytes_eq t bytes) (texts_of (table_in w))

-- the lines of the tree that is read, up to a line that is not taken in, and the first line is not that of the number of
-- wholes
pub record IsAtLine (w : Wholes) (fs : List spec.Frame) (line lines : List ℕ) : Type 0 where
  pub reading : IsReading (reading_of w fs)
  pub known : AreKnown w
  pub begun : reading_of w fs ≡ nothing_read → (rest : List ℕ) → line ≢ codes "wholes " ++ rest
  pub lines_are : lines ≡ ended (lines_of (items_of_stack (table_in w) fs)) ++ (line ++ 10 ∷ [])

-- the cause for which a tree that is complete is not that of the next whole, or of the document
abbrev pub RefusesTree : ℕ → List Tree → Tree → Cause → Type 0
RefusesTree lacking table t RepeatedWhole = (0 < lacking) × IsTrue (has table t)
RefusesTree lacking table t WholeOrder = (lacking ≡ 0) × (wholes_of t ≢ table)
RefusesTree lacking table t _ = ⊥

-- the number that a head tells, if it is that of a whole
abbrev pub number_of : Item → Option ℕ
number_of (whole_item n) = Some n
number_of _ = None

-- ---- walks, as those of nodes

-- the walk of an open container
abbrev pub WalksFrame : List Node → Frame → ℕ → Option ℕ → Type 0
WalksFrame wholes f next r = IsTable (table_of wholes) → (d : ℕ) → IsOpen (table_of wholes) d (frame_of (table_of wholes) f) → IsWalk (table_of wholes) next (λ done. with_frame done (frame_of (table_of wholes) f)) r

-- the walk of all open containers, where no whole is complete before it
abbrev pub WalksStack : List Node → List Frame → Option ℕ → Type 0
WalksStack wholes fs r =
    IsTable (table_of wholes) → (around : ℕ) → AreOpen (table_of wholes) around (stack_of (table_of wholes) fs)
    → IsWalk (table_of wholes) 0 (λ done. with_stack [] (stack_of (table_of wholes) fs)) r

-- the walk of a root that one more item completes
abbrev pub WalksRoot : List Node → List Frame → Option ℕ → Option ℕ → Type 0
WalksRoot wholes fs number r =
    (i : Item) (t : Tree) → number ≡ number_of i → step (table_of wholes) (stack_of (table_of wholes) fs) i ≡ complete t
    → IsTable (table_of wholes) → (around : ℕ) → AreOpen (table_of wholes) around (stack_of (table_of wholes) fs)
    → IsWalk (table_of wholes) 0 (λ done. wholes_of t) r
