-- The nodes that are written for entries which are borrowed.
use Rattle.std.specs.Prelude.{◌≡◌, ℕ, ◌+◌, ◌-◌, ◌*◌, List, [], ◌∷◌, ◌++◌, length, Option, Some, None, Result, ⊤, ◌⊎◌}
use Rattle.std.specs.Int.{w32, to_le_bytes}
use denote.Bor.{Bor}
use Rattle.archive_shape_layout.specs.Bytes.{align_up}
use Rattle.archive_shape_layout.specs.Shape.{Shape}
use Rattle.archive_shape_layout.specs.Content.{link_node_align}
use Rattle.archive_shape.specs.Bytes.{zeros}
use Rattle.archive_shape_layout.specs.Writing.{WriterMembers}
use Rattle.archive_shape_layout.specs.declared.error.Error.{Error}
use Rattle.archive_shape_layout.specs.declared.error.Error.TheVariants.{PositionTooLarge}
use Rattle.archive_forms_laws.specs.State.{State}
use Rattle.archive_forms_laws.specs.Serializing.{Lays}
use Rattle.archive_forms_laws.specs.Spelling.{Spelling}
use Rattle.archive_forms_laws.specs.Forms.{seen_as}
use Rattle.archive_btree_writing.specs.declared.children.Children.{Children}
use Rattle.archive_btree_spelling.specs.Written.{Linked, entry_spelling, links, IsPlaced, own_bytes, slots_fit, slots_refused}

-- a borrowed value is archived as the value
abbrev pub borrowed : {A R : Type 0} → Spelling A R → Spelling (Bor A) R
borrowed w = seen_as (λ b. b.now) w

-- and a pair of borrowed values as an entry
abbrev pub borrowed_entry : {A B R Q : Type 0} → ℕ → Shape → Shape → Spelling A R → Spelling B Q → Spelling (Bor A × Bor B) (R × Q)
borrowed_entry most k v keys vals = entry_spelling most k v (borrowed keys) (borrowed vals)

-- a leaf, and an inner node whose pointers lead to these positions
abbrev pub leaf_of : {C : Type 0} → List C → Linked C
leaf_of es = record { kind = 0; roots = []; own = es }

abbrev pub inner_of : {C : Type 0} → List (Option ℕ) → List C → Linked C
inner_of roots es = record { kind = 1; roots = roots; own = es }

-- ---- the node with these children, if it has any

-- the greater child comes after the lesser ones
abbrev pub children_of : Children → List (Option ℕ)
children_of children = children.lesser.now ++ children.greater ∷ []

abbrev pub kind_of : Option Children → ℕ
kind_of None = 0
kind_of (Some children) = 1

abbrev pub roots_of : Option Children → List (Option ℕ)
roots_of None = []
roots_of (Some children) = children_of children

abbrev pub node_of : {C : Type 0} → Option Children → List C → Linked C
node_of children es = record { kind = kind_of children; roots = roots_of children; own = es }

-- an inner node has a lesser child for each entry, and a greater one
abbrev pub AreChildren : ℕ → Option Children → Type 0
AreChildren most None = ⊤
AreChildren most (Some children) = length children.lesser.now ≡ most

-- what comes after the values, and its size in bytes: the length of a leaf, or the pointers
abbrev pub words_behind : Option Children → ℕ → ℕ → List ℕ
words_behind None len pos = to_le_bytes w32 len
words_behind (Some children) len pos = links (children_of children) pos

abbrev pub words_size : Option Children → ℕ
words_size None = 4
words_size (Some children) = length children.lesser.now * 4 + 4

-- after data that ends at a position, a node begins at the next position of its alignment, with zeros before it
abbrev pub LaysBehind : {A B R Q W : Type 0} → ℕ → Shape → Shape → Spelling A R → Spelling B Q → WriterMembers W → Linked (A × B) → State → W → W → ℕ → Result ℕ Error → Type 0
LaysBehind most k v keys vals members n st old new pos result =
    let start = align_up pos (link_node_align k v) in
    Lays members old new (zeros (start - pos) ++ own_bytes most k v keys vals n st start)
    (λ to. (to ≡ start) × IsPlaced most k v keys vals n start × slots_fit most k v keys vals n st start)
    (λ e. ((IsPlaced most k v keys vals n start → ⊥) × (e ≡ PositionTooLarge)) ⊎ slots_refused most k v keys vals n st start e) result
