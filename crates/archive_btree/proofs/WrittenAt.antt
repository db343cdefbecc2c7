-- What the layout reads where bytes have what was written of a map, at any position.
use Rattle.std.proofs.Common.{◌≡◌, ℕ, zero, suc, ◌+◌, ◌<◌, ◌≤◌, false, List, [], ◌∷◌, ◌++◌, length, drop, Option, refl, sym, ap, subst, arith, length-append, length-take, length-drop}
use Rattle.archive_shape_layout.specs.Bytes.{window}
use Rattle.archive_shape_layout.specs.Shape.{Shape}
use Rattle.archive_shape_layout.specs.Shape.Shape.{tree}
use Rattle.archive_shape_layout.specs.Content.{Names, members}
use Rattle.archive_shape_layout.specs.Value.{Value, Values}
use Rattle.archive_shape_layout.specs.Value.Values.{no_values, more_values}
use Rattle.archive_shape_layout.specs.Content.Part.{at}
use Rattle.archive_shape_layout.specs.Visited.{AllStand}
use Rattle.archive_shape_layout.specs.Visited.AllStand.{none_stand}
use Rattle.archive_shape_layout.proofs.Evaluated.{ascends_lowered, ascends_raised}
use Rattle.archive_shape_layout.proofs.Visited.{claimed_first}
use Rattle.archive_shape_canonical.specs.Packed.{levels_for}
use Rattle.archive_shape_canonical.specs.Settled.{Fit, free}
use Rattle.archive_shape.specs.Bytes.{HasBytes}
use Rattle.archive_forms_laws.specs.State.{State, Keys, initial, visits_of}
use Rattle.archive_forms_laws.specs.Spelling.{Spelling, state_after}
use Rattle.archive_forms_laws.specs.Spells.{CanonicalPart, SpellsAt, Spells}
use Rattle.archive_forms_laws.specs.Regions.{pieces}
use Rattle.archive_forms_laws.specs.Unshared.{holds_shared}
use Rattle.archive_forms_laws.specs.WrittenAt.{IsWrittenAt}
use Rattle.archive_forms_laws.specs.Forms.{seen_as}
use Rattle.archive_forms_laws.proofs.Views.{known_spells}
use Rattle.archive_forms_values.specs.Parts.{both}
use Rattle.archive_btree_layout.specs.Items.{ArePairs, IsTreeRead}
use Rattle.archive_btree_layout.specs.Items.IsTreeRead.{reads_none, reads_tree}
use Rattle.archive_btree_layout.specs.Reading.{Place}
use Rattle.archive_btree_layout.specs.Tree.{items}
use Rattle.archive_btree_layout.specs.Tree.Tree.{absent}
use Rattle.archive_btree_layout.proofs.Mapped.{tree_is_read}
use Rattle.archive_btree_spelling.specs.Written.{Linked, own_bytes, own_piece, own_at, state_after_children, linked, tree_spelling, entry_spelling}
use Rattle.archive_btree_spelling.specs.Parted.{parted}
use Rattle.archive_btree_spelling.specs.Maps.{packed_spelling, btree_spelling}
use Rattle.archive_btree_spelling.proofs.Maps.{map_spells}
use Rattle.archive_btree_spelling.proofs.Parting.{no_levels}
use Rattle.archive_btree_maps.specs.Maps.{IsMapOf, AreEntriesAt}
use Rattle.archive_btree_maps.specs.Maps.IsMapAt.{has_none, has_root}
use Rattle.archive_btree_maps.proofs.ReadTree.{held_under}
use Rattle.archive_btree.specs.Owned.{entries_spelling}
use Rattle.archive_btree.proofs.Unshared.{held_unvisited}

-- a piece that is not empty ends in the bytes
within : (bytes : List ℕ) (pos : ℕ) (piece : List ℕ) → HasBytes bytes pos piece → 0 < length piece → pos + length piece ≤ length bytes
within bytes pos piece has some =
    let cut : length (window bytes pos (length piece)) ≡ length piece = ap length has in
    omega (arith, cut, some, length-take (length piece) (drop pos bytes), length-drop pos bytes)

behind : {X : Type 0} (xs ys : List X) → 0 < length ys → 0 < length (xs ++ ys)
behind xs ys some = let long = length-append xs ys in omega (arith, long, some)

some_more : {X : Type 0} (x : X) (xs : List X) → 0 < length (x ∷ xs)
some_more x xs = omega arith

module _ {A B R P : Type 0} (most : ℕ) (k v : Shape) (keys : Spelling A R) (vals : Spelling B P) where
  abbrev Map : Spelling (List (A × B)) (Option ℕ)
  Map = btree_spelling most k v keys vals

  -- a node has its kind
  node_some : (n : Linked (A × B)) (st : State) → 0 < length (own_piece most k v keys vals n st)
  node_some n st = behind (pieces (entry_spelling most k v keys vals) n.own st) _ (behind _ (own_bytes most k v keys vals n st (own_at most k v keys vals n st)) (some_more n.kind _))

  tree_some : (child : Spelling (List (A × B)) (Option ℕ)) (e : A × B) (es : List (A × B)) (st : State) → 0 < length ((tree_spelling most k v keys vals child).piece (e ∷ es) st)
  tree_some child e es st =
      let p = parted most (e ∷ es) in
      behind (pieces child p.below st) _ (node_some (linked most k v keys vals child p st) (state_after_children most k v keys vals child p st))

  -- so has what is written of an entry or more
  map_some : 0 < most → (e : A × B) (es : List (A × B)) (st : State) → 0 < length (Map.piece (e ∷ es) st)
  map_some some e es st = by_levels (levels_for most (length (e ∷ es))) refl
    where
      by_levels : (l : ℕ) → levels_for most (length (e ∷ es)) ≡ l → 0 < length ((packed_spelling most k v keys vals l).piece (e ∷ es) st)
      by_levels zero is = absurd (no_levels most (length (e ∷ es)) some (omega arith) (omega (arith, is)))
      by_levels (suc l) is = tree_some (packed_spelling most k v keys vals l) e es st

  module _ (knows : Names → Type 0) (bytes : List ℕ) (pos : ℕ) (names : Names) (known : knows names) where
    abbrev IsRead : List (A × B) → State → Type 0
    IsRead es st = IsTreeRead names bytes most k v pos (Map.value es st)

    -- the map's data lies in the bytes
    module _ (fit : Fit) (es : List (A × B)) (st : State)
        (part : CanonicalPart fit names bytes 0 [] (visits_of st.met) (visits_of (Map.met es st)) (at pos (tree most k v)) (Map.value es st) st.pos (state_after Map es st).pos)
        (ends : (state_after Map es st).pos ≤ length bytes) where
      standing_is_read : AllStand names bytes st.pos (visits_of st.met) → IsRead es st
      standing_is_read stand =
          tree_is_read names bytes most k v 0 [] pos (Map.value es st) part.regions (visits_of st.met) (visits_of (Map.met es st)) st.pos part.reads.holds
          (record { stand = stand; below = omega (arith, ends); ascends = ascends_raised st.pos (state_after Map es st).pos (length bytes) part.regions ends part.ascends })

      unshared_is_read : holds_shared (tree most k v) ≡ false → IsRead es st
      unshared_is_read none =
          tree_is_read names bytes most k v 0 [] pos (Map.value es st) part.regions [] [] 0 (held_unvisited names bytes (tree most k v) none part.reads.holds)
          (claimed_first (ascends_lowered 0 st.pos (length bytes) part.regions (omega arith) (ascends_raised st.pos (state_after Map es st).pos (length bytes) part.regions ends part.ascends)))

    part_of : (fit : Fit) (given : Keys) (es : List (A × B)) → SpellsAt fit (tree most k v) knows Map es → Map.suits fit given es → (written : IsWrittenAt given Map bytes pos es)
        → CanonicalPart fit names bytes 0 [] (visits_of written.state.met) (visits_of (Map.met es written.state)) (at pos (tree most k v)) (Map.value es written.state) written.state.pos (state_after Map es written.state).pos
    part_of fit given es spells suits written =
        spells.canonical written.state pos names given bytes 0 [] known suits written.keyed written.consistent tt written.piece_fits written.own_fits written.piece written.own

    -- a map without entries may have been written at the start
    empty_is_read : (fit : Fit) (given : Keys) → SpellsAt fit (tree most k v) knows Map [] → IsWrittenAt given Map bytes pos [] → (st : State) → IsRead [] st
    empty_is_read fit given spells written st =
        let first : IsWrittenAt given Map bytes pos [] = record {
          state = initial;
          consistent = record { before = tt; descending = tt; own_keys = tt; new_keys = tt };
          keyed = tt;
          piece_fits = tt;
          own_fits = written.own_fits;
          piece = refl;
          own = written.own;
        } in
        standing_is_read fit [] initial (part_of fit given [] spells tt first) (omega arith) (none_stand refl)

    module _ (some : 0 < most) where
      ends_in : (given : Keys) (e : A × B) (es : List (A × B)) (written : IsWrittenAt given Map bytes pos (e ∷ es)) → (state_after Map (e ∷ es) written.state).pos ≤ length bytes
      ends_in given e es written = within bytes written.state.pos (Map.piece (e ∷ es) written.state) written.piece (map_some some e es written.state)

      -- where the shared values written before have their values
      pub read_standing : (fit : Fit) (given : Keys) (es : List (A × B)) → SpellsAt fit (tree most k v) knows Map es → Map.suits fit given es
          → (written : IsWrittenAt given Map bytes pos es) → AllStand names bytes written.state.pos (visits_of written.state.met) → IsRead es written.state
      read_standing fit given [] spells suits written stand = empty_is_read fit given spells written written.state
      read_standing fit given (e ∷ es) spells suits written stand =
          standing_is_read fit (e ∷ es) written.state (part_of fit given (e ∷ es) spells suits written) (ends_in given e es written) stand

      -- or where there are no shared values
      pub read_unshared : (given : Keys) (es : List (A × B)) → SpellsAt free (tree most k v) knows Map es → holds_shared (tree most k v) ≡ false
          → (written : IsWrittenAt given Map bytes pos es) → IsRead es written.state
      read_unshared given [] spells none written = empty_is_read free given spells written written.state
      read_unshared given (e ∷ es) spells none written =
          unshared_is_read free (e ∷ es) written.state (part_of free given (e ∷ es) spells (spells.unshared none given) written) (ends_in given e es written) none

-- the entries of a tree that is read
module _ (k v : Shape) (knows others : Names → Type 0) (bytes : List ℕ) (names : Names) (known : both knows others names) where
  pairs_are_entries : (ps : List Place) (ws : Values) → ArePairs names bytes k v ps ws → AreEntriesAt k v knows others bytes ps ws
  pairs_are_entries [] no_values h = tt
  pairs_are_entries [] (more_values w ws) h = absurd h
  pairs_are_entries (p ∷ ps) no_values h = absurd h
  pairs_are_entries (p ∷ ps) (more_values w ws) h = (
    record {
      key = h.0.key;
      value = h.0.value;
      key_held = held_under knows known.0 h.0.key_held;
      value_held = held_under others known.1 h.0.value_held;
      is = h.0.is;
    },
    pairs_are_entries ps ws h.1,
  )

  read_map : (most pos : ℕ) (value : Value) → IsTreeRead names bytes most k v pos value → IsMapOf k v knows others bytes most pos value
  read_map most pos value (reads_none a b) =
      record { search_tree = absent; map = has_none a refl; entries = subst (λ x. AreEntriesAt k v knows others bytes [] (members x)) (sym b) tt }
  read_map most pos value (reads_tree {t = t} a b c d e) =
      record { search_tree = t; map = has_root a b c d; entries = pairs_are_entries (items t) (members value) e }

-- the map that is found where a value was written that is seen as entries
module _ {A B R P M : Type 0} (view : M → List (A × B)) (most : ℕ) (k v : Shape) (knows others : Names → Type 0) (keys : Spelling A R) (vals : Spelling B P) (spell_keys : (fit : Fit) → Spells fit k knows keys) (spell_vals : (fit : Fit) → Spells fit v others vals)
    (bytes : List ℕ) (pos : ℕ) (names : Names) (known : both knows others names) (some : 0 < most) (given : Keys) (m : M) (written : IsWrittenAt given (seen_as view (entries_spelling most k v keys vals)) bytes pos m) where
  abbrev pub entries_written : IsWrittenAt given (btree_spelling most k v keys vals) bytes pos (view m)
  entries_written = record {
    state = written.state;
    consistent = written.consistent;
    keyed = written.keyed;
    piece_fits = written.piece_fits;
    own_fits = written.own_fits;
    piece = written.piece;
    own = written.own;
  }

  entries_spell : (fit : Fit) → SpellsAt fit (tree most k v) (both knows others) (btree_spelling most k v keys vals) (view m)
  entries_spell fit =
      map_spells fit most k v (both knows others) keys vals
      (known_spells fit k knows (both knows others) (λ _ h. h.0) keys (spell_keys fit))
      (known_spells fit v others (both knows others) (λ _ h. h.1) vals (spell_vals fit)) (view m) (λ _. some)

  abbrev IsFound : Type 0
  IsFound = IsMapOf k v knows others bytes most pos ((btree_spelling most k v keys vals).value (view m) written.state)

  pub standing_map : (fit : Fit) → (btree_spelling most k v keys vals).suits fit given (view m) → AllStand names bytes written.state.pos (visits_of written.state.met) → IsFound
  standing_map fit suits stand =
      read_map k v knows others bytes names known most pos _ (read_standing most k v keys vals (both knows others) bytes pos names known some fit given (view m) (entries_spell fit) suits entries_written stand)

  pub unshared_map : holds_shared (tree most k v) ≡ false → IsFound
  unshared_map none =
      read_map k v knows others bytes names known most pos _ (read_unshared most k v keys vals (both knows others) bytes pos names known some given (view m) (entries_spell free) none entries_written)
