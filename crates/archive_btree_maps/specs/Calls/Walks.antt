-- What walks that hold no bytes require and ensure.
use Rattle.std.specs.Prelude.{◌≡◌, ◌&&◌, ◌+◌, ℕ, Bool, not, List, [], ◌∷◌, Option, MatchOption, All, filter}
use Rattle.archive_shape_layout.specs.Bytes.{word_at}
use Rattle.archive_shape_layout.specs.Shape.{Shape}
use Rattle.archive_btree_layout.specs.Tree.{Tree, items}
use Rattle.archive_btree_layout.specs.Tree.Tree.{absent}
use Rattle.archive_btree_layout.specs.Reading.{Place}
use Rattle.archive_forms_values.specs.Parts.{PointsTo}
use Rattle.archive_btree_maps.specs.Layout.{IsLayout}
use Rattle.archive_btree_maps.specs.Maps.{IsMapAt}
use Rattle.archive_btree_maps.specs.Ranges.{Decides, Stays, IsRun}
use Rattle.archive_btree_maps.specs.SearchingLayout.{IsTreeAt}
use Rattle.archive_btree_maps.specs.SearchingNodes.{place_of}
use Rattle.archive_btree_maps.specs.Stepping.{HasLeft}
use Rattle.archive_btree_maps.specs.Walks.{WalksIn}
use Rattle.archive_btree_maps.specs.declared.nodes.layout.NodeLayout.{NodeLayout}
use Rattle.archive_btree_maps.specs.declared.nodes.searching.node.EntryAt.{EntryAt}
use Rattle.archive_btree_maps.specs.declared.nodes.searching.stepping.EntryWalk.{EntryWalk}
use Rattle.archive_btree_maps.specs.declared.walking.root.Root.{Root}

-- the next of the entries, if there is one, is passed and returned, and these are left
abbrev pub PassesNext : (es : List Place) (result : Option EntryAt) (left : List Place → Type 0) → Type 0
PassesNext es result left = MatchOption result ((es ≡ []) × left []) (λ e. (rest : List Place) × (es ≡ place_of e ∷ rest) × left rest)

-- ---- of the tree at a root

module _ (bytes : List ℕ) (layout : NodeLayout) (root : ℕ) where
  -- closures may be called with the position of each key
  abbrev pub CanWalkBetween : {F G : Type 0} (pre : F → ℕ → Type 0) (precedes : F) (other : G → ℕ → Type 0) (follows : G) → Type 0
  CanWalkBetween pre precedes other follows =
      (t : Tree Place) × IsTreeAt bytes layout 1 root t × All (λ e. pre precedes e.key) (items t) × All (λ e. other follows e.key) (items t)

  -- P holds of the entries that neither precede nor follow, where those that precede are first and those that follow last
  abbrev pub OfBetween : {F G : Type 0} (post : F → ℕ → Bool → Type 0) (precedes : F) (other : G → ℕ → Bool → Type 0) (follows : G)
      (P : List Place → Type 0) → Type 0
  OfBetween post precedes other follows P =
      (t : Tree Place) (p q : Place → Bool)
      → IsTreeAt bytes layout 1 root t
      → Decides post precedes p (items t)
      → Decides other follows q (items t)
      → Stays (λ e. not (p e)) (items t)
      → Stays q (items t)
      → P (filter (λ e. not (p e) && not (q e)) (items t))

  -- a walk has these entries left
  abbrev pub HasBetween : {F G : Type 0} (post : F → ℕ → Bool → Type 0) (precedes : F) (other : G → ℕ → Bool → Type 0) (follows : G)
      (walk : EntryWalk) → Type 0
  HasBetween post precedes other follows walk = OfBetween post precedes other follows (HasLeft bytes layout root walk)

  -- these are the entries
  abbrev pub AreBetween : {F G : Type 0} (post : F → ℕ → Bool → Type 0) (precedes : F) (other : G → ℕ → Bool → Type 0) (follows : G)
      (es : List Place) → Type 0
  AreBetween post precedes other follows es = OfBetween post precedes other follows (λ between. es ≡ between)

  -- a walk has all entries left
  abbrev pub HasAll : (walk : EntryWalk) → Type 0
  HasAll walk = (t : Tree Place) → IsTreeAt bytes layout 1 root t → HasLeft bytes layout root walk (items t)

  -- a walk has entries left that lie side by side
  abbrev pub HasRun : (walk : EntryWalk) → Type 0
  HasRun walk = (t : Tree Place) → IsTreeAt bytes layout 1 root t → (es : List Place) × HasLeft bytes layout root walk es × IsRun es (items t)

-- ---- of any tree in bytes

module _ (bytes : List ℕ) where
  -- a walk is one over some tree
  abbrev pub IsWalk : (walk : EntryWalk) → Type 0
  IsWalk walk = (l : NodeLayout) × (root : ℕ) × (es : List Place) × HasLeft bytes l root walk es

  -- the next entry that a walk has left is passed
  abbrev pub StepsWalk : (old : EntryWalk) (result : Option EntryAt) (new : EntryWalk) → Type 0
  StepsWalk old result new = (l : NodeLayout) (root : ℕ) (es : List Place) → HasLeft bytes l root old es → PassesNext es result (HasLeft bytes l root new)

  -- these are the entries that a walk has left
  abbrev pub AreLeft : (walk : EntryWalk) (result : List Place) → Type 0
  AreLeft walk result = (l : NodeLayout) (root : ℕ) (es : List Place) → HasLeft bytes l root walk es → result ≡ es

-- ---- of the map at a position

module _ (most : ℕ) (k v : Shape) (bytes : List ℕ) (pos : ℕ) where
  -- the tree of a map lies at its root, if it has one
  abbrev pub HasRoot : (result : Option Root) → Type 0
  HasRoot result = (t : Tree Place) → IsMapAt bytes most k v pos t → MatchOption result (t ≡ absent) (λ root. IsTreeAt bytes root.layout 1 root.pos t)

  -- a map of some entries leads to its root, whose layout is that of the map's nodes
  abbrev pub LeadsToRoot : (result : Option Root) → Type 0
  LeadsToRoot result = MatchOption result (word_at bytes (pos + 4) ≡ 0) (λ root. PointsTo bytes pos root.pos × IsLayout most k v root.layout)

  -- a walk has all entries of a map left
  abbrev pub WalksMap : (walk : EntryWalk) → Type 0
  WalksMap walk = (t : Tree Place) → IsMapAt bytes most k v pos t → WalksIn bytes most k v pos walk (items t)
