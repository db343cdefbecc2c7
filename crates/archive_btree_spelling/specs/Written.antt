-- How a search tree is archived: first what is below each pointer of a node, then the data of its entries, then the
-- node itself.
use Rattle.std.specs.Prelude.{◌≡◌, ℕ, zero, suc, ◌+◌, ◌-◌, ◌^◌, ◌<◌, List, [], ◌∷◌, ◌++◌, length, Option, Some, None, ⊤, ◌⊎◌}
use Rattle.std.specs.Int.{w32, to_le_bytes}
use Rattle.archive_shape_layout.specs.Bytes.{align_up}
use Rattle.archive_shape_layout.specs.Shape.{Shape, size_of}
use Rattle.archive_shape_layout.specs.Value.{Values}
use Rattle.archive_shape_layout.specs.Value.Value.{group}
use Rattle.archive_shape_layout.specs.Value.Values.{no_values}
use Rattle.archive_shape_layout.specs.Content.{weave, words_of, keys_offset, values_offset, links_offset, link_node_align, link_node_size}
use Rattle.archive_shape.specs.Bytes.{zeros}
use Rattle.archive_shape_layout.specs.declared.error.Error.{Error}
use Rattle.archive_shape_layout.specs.declared.error.Error.TheVariants.{PositionTooLarge}
use Rattle.archive_forms_laws.specs.State.{State, Met}
use Rattle.archive_forms_laws.specs.Spelling.{Spelling, state_after}
use Rattle.archive_forms_laws.specs.Fields.{tuple2_spelling}
use Rattle.archive_forms_laws.specs.Regions.{state_after_all, values, resolvers, plain_values, all_suit, pieces, pieces_fit, pieces_refused}
use Rattle.archive_forms_laws.specs.Links.{link_bytes, LinkFits, LinkRefused}
use Rattle.archive_btree_spelling.specs.Parted.{Parted, parted}

-- ---- pointers

-- pointers side by side, the first at a position
abbrev pub links : List (Option ℕ) → ℕ → List ℕ
links [] pos = []
links (to ∷ more) pos = link_bytes to pos ++ links more (pos + 4)

abbrev pub LinksFit : List (Option ℕ) → ℕ → Type 0
LinksFit [] pos = ⊤
LinksFit (to ∷ more) pos = LinkFits to pos × LinksFit more (pos + 4)

abbrev pub LinksRefused : List (Option ℕ) → ℕ → Error → Type 0
LinksRefused [] pos e = ⊥
LinksRefused (to ∷ more) pos e = LinkRefused to pos e ⊎ LinksRefused more (pos + 4) e

-- ---- slots

-- Values in slots side by side, the first at a position, each of `size` bytes; `after` is the state when the data of a
-- value is written.
module _ {C : Type 0} (after : C → State → State) (size : ℕ) where
  abbrev pub slots : (C → State → ℕ → List ℕ) → List C → State → ℕ → List ℕ
  slots own [] st pos = []
  slots own (x ∷ xs) st pos = own x st pos ++ slots own xs (after x st) (pos + size)

  abbrev pub AllSlots : (C → State → ℕ → Type 0) → List C → State → ℕ → Type 0
  AllSlots P [] st pos = ⊤
  AllSlots P (x ∷ xs) st pos = P x st pos × AllSlots P xs (after x st) (pos + size)

  abbrev pub AnySlot : (C → State → ℕ → Type 0) → List C → State → ℕ → Type 0
  AnySlot P [] st pos = ⊥
  AnySlot P (x ∷ xs) st pos = P x st pos ⊎ AnySlot P xs (after x st) (pos + size)

-- bytes, followed by zeros up to n bytes in all
abbrev pub filled : ℕ → List ℕ → List ℕ
filled n bs = bs ++ zeros (n - length bs)

-- ---- nodes

-- a node: its kind, 0 for a leaf and 1 for an inner node, the position that each of its pointers leads to, and its own
-- items; a leaf has no pointers
pub record Linked (C : Type 0) : Type 0 where
  pub kind : ℕ
  pub roots : List (Option ℕ)
  pub own : List C

-- the items of a node are those below its pointers and its own in turn; a leaf has only its own
abbrev pub woven : ℕ → Values → Values → Values
woven zero cs es = es
woven (suc kind) cs es = weave cs es

module _ {A B R Q : Type 0} (most : ℕ) (k v : Shape) (keys : Spelling A R) (vals : Spelling B Q) where
  -- an entry's data is that of its key, and then that of its value
  abbrev pub entry_spelling : Spelling (A × B) (R × Q)
  entry_spelling = tuple2_spelling k keys v vals

  abbrev pub key_own : A × B → State → ℕ → List ℕ
  key_own x st pos = keys.own x.0 (keys.resolver x.0 st) pos

  abbrev pub value_own : A × B → State → ℕ → List ℕ
  value_own x st pos = vals.own x.1 (vals.resolver x.1 (state_after keys x.0 st)) pos

  -- ---- a node, after the data of its entries, which is written from a state on

  abbrev pub state_after_own : Linked (A × B) → State → State
  state_after_own n st = state_after_all entry_spelling n.own st

  -- the node lies at the next position of its alignment
  abbrev pub own_at : Linked (A × B) → State → ℕ
  own_at n st = align_up (state_after_own n st).pos (link_node_align k v)

  abbrev pub own_size : Linked (A × B) → ℕ
  own_size n = link_node_size (words_of n.kind most) most k v

  -- a leaf's length, or an inner node's pointers, from a position on
  abbrev pub words : ℕ → Linked (A × B) → ℕ → List ℕ
  words zero n pos = to_le_bytes w32 (length n.own)
  words (suc kind) n pos = links n.roots pos

  -- the bytes of a node at a position: its kind, the keys, the values, and its length or pointers, each from its offset
  -- on
  abbrev pub own_bytes : Linked (A × B) → State → ℕ → List ℕ
  own_bytes n st pos =
      let of_keys = slots (state_after entry_spelling) (size_of k) key_own n.own st (pos + keys_offset k) in
      let of_values = slots (state_after entry_spelling) (size_of v) value_own n.own st (pos + values_offset most k v) in
      filled (keys_offset k) (n.kind ∷ [])
      ++ (filled (values_offset most k v - keys_offset k) of_keys
      ++ (filled (links_offset most k v - values_offset most k v) of_values
      ++ filled (own_size n - links_offset most k v) (words n.kind n (pos + links_offset most k v))))

  abbrev pub own_piece : Linked (A × B) → State → List ℕ
  own_piece n st =
      pieces entry_spelling n.own st ++ (zeros (own_at n st - (state_after_own n st).pos) ++ own_bytes n st (own_at n st))

  -- ---- limits of a node

  -- it begins before position 2^32 and ends before position 2^64
  abbrev pub IsPlaced : Linked (A × B) → ℕ → Type 0
  IsPlaced n pos = (pos < 2 ^ 32) × (pos + own_size n < 2 ^ 64)

  -- the own bytes of its entries and its pointers pass their limits, where the node lies at a position
  abbrev pub slots_fit : Linked (A × B) → State → ℕ → Type 0
  slots_fit n st pos =
      AllSlots (state_after entry_spelling) (size_of k) (λ x then at. keys.own_fits x.0 (keys.resolver x.0 then) at) n.own st (pos + keys_offset k)
      × AllSlots (state_after entry_spelling) (size_of v) (λ x then at. vals.own_fits x.1 (vals.resolver x.1 (state_after keys x.0 then)) at) n.own st (pos + values_offset most k v)
      × LinksFit n.roots (pos + links_offset most k v)

  abbrev pub slots_refused : Linked (A × B) → State → ℕ → Error → Type 0
  slots_refused n st pos e =
      AnySlot (state_after entry_spelling) (size_of k) (λ x then at. keys.own_refused x.0 (keys.resolver x.0 then) at e) n.own st (pos + keys_offset k)
      ⊎ (AnySlot (state_after entry_spelling) (size_of v) (λ x then at. vals.own_refused x.1 (vals.resolver x.1 (state_after keys x.0 then)) at e) n.own st (pos + values_offset most k v)
      ⊎ LinksRefused n.roots (pos + links_offset most k v) e)

  abbrev pub own_fits : Linked (A × B) → State → Type 0
  own_fits n st = pieces_fit entry_spelling n.own st × IsPlaced n (own_at n st) × slots_fit n st (own_at n st)

  abbrev pub own_refused : Linked (A × B) → State → Error → Type 0
  own_refused n st e =
      pieces_refused entry_spelling n.own st e
      ⊎ (((IsPlaced n (own_at n st) → ⊥) × (e ≡ PositionTooLarge)) ⊎ slots_refused n st (own_at n st) e)

  -- ---- with the spelling of what is below a pointer, whose resolver is the position of its root: first that, and then
  -- the node

  module _ (child : Spelling (List (A × B)) (Option ℕ)) where
    abbrev pub state_after_children : Parted (A × B) → State → State
    state_after_children p st = state_after_all child p.below st

    abbrev pub linked : Parted (A × B) → State → Linked (A × B)
    linked p st = record { kind = p.kind; roots = resolvers child p.below st; own = p.own }

    abbrev pub state_after_entries : Parted (A × B) → State → State
    state_after_entries p st = state_after_own (linked p st) (state_after_children p st)

    abbrev pub node_at : Parted (A × B) → State → ℕ
    node_at p st = own_at (linked p st) (state_after_children p st)

    abbrev pub node_piece : Parted (A × B) → State → List ℕ
    node_piece p st = pieces child p.below st ++ own_piece (linked p st) (state_after_children p st)

    abbrev pub node_values : Parted (A × B) → State → Values
    node_values p st = woven p.kind (values child p.below st) (values entry_spelling p.own (state_after_children p st))

    abbrev pub node_fits : Parted (A × B) → State → Type 0
    node_fits p st = pieces_fit child p.below st × own_fits (linked p st) (state_after_children p st)

    abbrev pub node_refused : Parted (A × B) → State → Error → Type 0
    node_refused p st e = pieces_refused child p.below st e ⊎ own_refused (linked p st) (state_after_children p st) e

    -- ---- what is below a pointer: nothing where there are no items, else the node of the items

    abbrev pub tree_values : List (A × B) → State → Values
    tree_values [] st = no_values
    tree_values (x ∷ xs) st = node_values (parted most (x ∷ xs)) st

    abbrev pub tree_piece : List (A × B) → State → List ℕ
    tree_piece [] st = []
    tree_piece (x ∷ xs) st = node_piece (parted most (x ∷ xs)) st

    abbrev pub tree_root : List (A × B) → State → Option ℕ
    tree_root [] st = None
    tree_root (x ∷ xs) st = Some (node_at (parted most (x ∷ xs)) st)

    abbrev pub tree_met : List (A × B) → State → List Met
    tree_met [] st = st.met
    tree_met (x ∷ xs) st = (state_after_entries (parted most (x ∷ xs)) st).met

    abbrev pub tree_fits : List (A × B) → State → Type 0
    tree_fits [] st = ⊤
    tree_fits (x ∷ xs) st = node_fits (parted most (x ∷ xs)) st

    abbrev pub tree_refused : List (A × B) → State → Error → Type 0
    tree_refused [] st e = ⊥
    tree_refused (x ∷ xs) st e = node_refused (parted most (x ∷ xs)) st e

    -- a subtree's own bytes are the pointer to its root
    abbrev pub tree_spelling : Spelling (List (A × B)) (Option ℕ)
    tree_spelling = record {
      value = λ xs st. group (tree_values xs st);
      plain = λ xs. group (plain_values entry_spelling xs);
      piece = tree_piece;
      resolver = tree_root;
      met = tree_met;
      own = λ xs root pos. link_bytes root pos;
      piece_fits = tree_fits;
      piece_refused = tree_refused;
      own_fits = λ xs root pos. LinkFits root pos;
      own_refused = λ xs root pos e. LinkRefused root pos e;
      suits = λ fit given xs. all_suit entry_spelling fit given xs;
    }
