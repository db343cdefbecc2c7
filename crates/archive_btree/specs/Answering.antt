-- What an archived map returns for the entries that it was written of, in the order of their keys.
use Rattle.std.specs.Prelude.{◌≡◌, ℕ, ◌<◌, List, length, Option, Some, None, MatchOption, IsSome, AllPairs, Contains}
use Rattle.std.specs.Option.{IsSomeAnd}
use Rattle.std.specs.List.{AllZip, find}
use Rattle.std.specs.Ordering.{is_eq}
use Rattle.std.specs.declared.cmp.Ordering.{Ordering}
use Rattle.std.specs.declared.cmp.Ordering.TheVariants.{Less}
use Rattle.archive_shape_layout.specs.Shape.{Shape}
use Rattle.archive_shape_layout.specs.Shape.Shape.{tree}
use Rattle.archive_shape_layout.specs.Content.{Names}
use Rattle.archive_shape_layout.specs.Holds.{Region, Visit, root_position}
use Rattle.archive_shape.specs.Key.{HeldAt}
use Rattle.archive_forms_values.specs.Parts.{both}
use Rattle.archive_shape_canonical.specs.Settled.{Fit}
use Rattle.archive_shape_canonical.specs.Canonical.{CanonicalArchive}
use Rattle.archive_forms_laws.specs.State.{State}
use Rattle.archive_forms_laws.specs.Spelling.{Spelling, state_after}
use Rattle.archive_btree_spelling.specs.Maps.{btree_spelling}
use Rattle.archive_btree_layout.specs.Descent.{descend}
use Rattle.archive_btree_layout.specs.Reading.{Place}
use Rattle.archive_btree_layout.specs.Tree.{Tree, items}
use Rattle.archive_btree_maps.specs.Lookups.{QueryOrders, QuerySays, IsEqualKey, HasKey}
use Rattle.archive_btree_maps.specs.Descents.{DescendsTo}
use Rattle.archive_btree_maps.specs.Maps.{IsMapAt}

module _ {A B R P : Type 0} (most : ℕ) (k v : Shape) (knows others : Names → Type 0) (keys : Spelling A R) (vals : Spelling B P) (bytes : List ℕ) where
  -- bytes are the archive that writing a map of these entries makes, from some position on
  pub record IsWrittenMap (es : List (A × B)) : Type 0 where
    pub fit : Fit
    pub names : Names
    pub start : ℕ
    pub state : State
    pub regions : List Region
    pub visits : List Visit
    pub known : both knows others names
    pub archive :
        CanonicalArchive fit names bytes start (root_position (length bytes) (tree most k v)) (tree most k v) ((btree_spelling most k v keys vals).value es state) regions visits

  -- an entry lies at a place
  pub record HasEntry (at : Place) (e : A × B) : Type 0 where
    pub state : State
    pub key_held : HeldAt k knows bytes at.key (keys.value e.0 state)
    pub value_held : HeldAt v others bytes at.value (vals.value e.1 (state_after keys e.0 state))

  module _ {Q : Type 0} (key : A → Q) (order : Q → Q → Ordering) where
    -- each key is less than those after it
    abbrev pub KeysAscend : List (A × B) → Type 0
    KeysAscend es = AllPairs (λ a b. order (key a.0) (key b.0) ≡ Less) es

    -- the entry whose key equals a query
    abbrev pub entry_with : Q → List (A × B) → Option (A × B)
    entry_with query es = find (λ e. is_eq (order (key e.0) query)) es

    -- what is found is this entry, and nothing if there is none
    abbrev pub FindsEntry : List (A × B) → Q → Option Place → Type 0
    FindsEntry es query found = MatchOption (entry_with query es) (found ≡ None) (λ e. IsSomeAnd found (λ at. HasEntry at e))

    -- The map at a position has these entries, in order, and their keys ascend. Where the query is compared with each key,
    -- the search ends at the entry with the query's key. The map has the entries' keys, and each query that a look-up has
    -- found.
    pub record AnswersKeys (key_of : List ℕ → ℕ → Q → Type 0) (pos : ℕ) (es : List (A × B)) : Type 0 where
      pub search_tree : Tree Place
      pub map : IsMapAt bytes most k v pos search_tree
      pub walks : AllZip HasEntry (items search_tree) es
      pub ascend : KeysAscend es
      pub finds : (query : Q) (orders : Place → Ordering) → QueryOrders key_of order bytes query orders (items search_tree) → FindsEntry es query (descend orders search_tree)
      pub found : (query : Q) (at : Option Place) → DescendsTo (QuerySays key_of order bytes query) search_tree at → FindsEntry es query at
      pub has : (query : Q) → IsSome (entry_with query es) → HasKey key_of order bytes most k v pos query
      pub has_found : (query : Q) (at : Place) → Contains (items search_tree) at → IsEqualKey key_of order bytes query at → HasKey key_of order bytes most k v pos query
