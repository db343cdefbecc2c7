-- What a call that writes one node guarantees, for each state that the serializer may be in.
use Rattle.std.specs.Prelude.{◌≡◌, ℕ, List, length, Option, Result}
use Rattle.archive_shape_layout.specs.Shape.{Shape}
use Rattle.archive_shape_layout.specs.Writing.{WriterMembers}
use Rattle.archive_shape_layout.specs.declared.error.Error.{Error}
use Rattle.archive_forms_laws.specs.State.{State, advanced}
use Rattle.archive_forms_laws.specs.Spelling.{Spelling}
use Rattle.archive_forms_laws.specs.Serializing.{IsAt, LaysData}
use Rattle.archive_btree_spelling.specs.Written.{Linked, state_after_own, own_at, own_piece, own_fits, own_refused}

module _ {A B R Q W : Type 0} (most : ℕ) (k v : Shape) (keys : Spelling A R) (vals : Spelling B Q) (members : WriterMembers W) where
  -- the state when the node is written
  abbrev pub state_after_node : Linked (A × B) → State → State
  state_after_node n st = advanced (length (own_piece most k v keys vals n st)) (state_after_own most k v keys vals n st).met st

  -- the data of its entries is written, and the node after it; the result is the node's position
  abbrev pub LaysNode : Linked (A × B) → W → W → Result ℕ Error → Type 0
  LaysNode n old new result =
      (st : State) → IsAt members.pos members.known old st
      → LaysData members old new (own_piece most k v keys vals n st)
      (λ at. (at ≡ own_at most k v keys vals n st) × own_fits most k v keys vals n st × IsAt members.pos members.known new (state_after_node n st))
      (own_refused most k v keys vals n st) result
