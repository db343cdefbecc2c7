-- What remains of a map whose values are written over.
use denote.Ref.{MutBor}
use Rattle.std.proofs.Common.{◌≡◌, ◌∙◌, ℕ, ◌+◌, ◌≤◌, List, [], ◌∷◌, ◌++◌, length, take, Option, Some, None, IfSome, MatchOption, Contains, All, inl, inr, refl, ap, sym, subst, arith, append_assoc}
use Rattle.std.specs.Prelude.{slice_index}
use Rattle.std.specs.Option.{option_map}
use Rattle.std.proofs.lemmas.Bool.{cases_lt}
use Rattle.std.proofs.lemmas.List.{ext_get_or, places}
use Rattle.std.proofs.lemmas.List.Elements.{All-nil, All-cons, All-head}
use Rattle.archive_shape_layout.specs.Bytes.{word_at, target_from}
use Rattle.archive_shape_layout.specs.Shape.{Shape, size_of}
use Rattle.archive_shape_layout.specs.Shape.Shape.{tree}
use Rattle.archive_shape_layout.specs.Value.{Value, Values}
use Rattle.archive_shape_layout.specs.Value.Values.{no_values, more_values}
use Rattle.archive_shape_layout.specs.Content.{Names, members}
use Rattle.archive_shape.specs.declared.references.own_seal.OwnSeal.{OwnSeal}
use Rattle.archive_shape.specs.Bytes.{overwrite}
use Rattle.archive_forms_values.specs.Loans.{LeavesOwn}
use Rattle.archive_shape.proofs.Written.{length-overwrite, byte_before}
use Rattle.archive_btree_layout.specs.Reading.{Place, HasNode}
use Rattle.archive_btree_layout.specs.Tree.{Tree, items}
use Rattle.archive_btree_layout.specs.Items.{AreAt}
use Rattle.archive_btree_layout.specs.Changing.{DiffersInValues, HasTree, IsNodeOf, IsKept}
use Rattle.archive_btree_layout.proofs.Mapped.{tree_stays, nodes_stay, pairs_stay}
use Rattle.archive_btree_maps.specs.SearchingNodes.{place_of}
use Rattle.archive_btree_maps.specs.declared.nodes.searching.node.EntryAt.{EntryAt}
use Rattle.archive_btree_maps.specs.declared.nodes.layout.NodeLayout.{NodeLayout}
use Rattle.archive_btree_maps.specs.Ranges.{IsRun, before_key}
use Rattle.archive_btree_maps.specs.Walking.{stack_items}
use Rattle.archive_btree_maps.specs.Stepping.{HasLeft}
use Rattle.archive_btree_maps.specs.declared.nodes.searching.stepping.EntryWalk.{EntryWalk}
use Rattle.archive_btree_maps.proofs.Stays.{left_stays}
use Rattle.archive_btree_maps.proofs.Sublists.{all_back}
use Rattle.archive_forms_values.specs.Parts.{HasValue, both}
use Rattle.archive_btree_maps.specs.Maps.{IsMapAt}
use Rattle.archive_btree_maps.specs.Maps.IsMapAt.{has_none, has_root}
use Rattle.archive_btree_maps.specs.Lookups.{Finds}
use Rattle.archive_btree_maps.specs.Walks.{WalksIn, BegunMap, IsWritten, GoesOn}
use Rattle.archive_btree_maps.proofs.ReadTree.{held_under}
use Rattle.archive_btree_maps.proofs.Refs.{finds_some}
use Rattle.archive_btree_maps.proofs.HeldKeys.{entries_are}
use Rattle.archive_shape_layout.specs.Bytes.{IsOutside}

-- ---- bytes that differ in values

pub nothing_written : (v : Shape) (es : List Place) (bytes : List ℕ) → DiffersInValues v es bytes bytes
nothing_written v es bytes = record { same_length = refl; elsewhere = λ i out. refl }

byte_behind : (bytes : List ℕ) (at : ℕ) (piece : List ℕ) → at + length piece ≤ length bytes → (i : ℕ) → at + length piece ≤ i → slice_index (overwrite bytes at piece) i ≡ slice_index bytes i
byte_behind bytes at piece fits i h = grind (arith, places)

-- one value is written over
pub value_written : (v : Shape) (es : List Place) (e : Place) (start bytes own : List ℕ) → ((P : Place → Type 0) → All P es → P e)
    → length own ≤ size_of v → e.value + length own ≤ length bytes
    → DiffersInValues v es start bytes → DiffersInValues v es start (overwrite bytes e.value own)
value_written v es e start bytes own among few fits d =
    record {
      same_length = length-overwrite bytes e.value own fits ∙ d.same_length;
      elsewhere = λ i out.
          let apart = among (λ p. IsOutside p.value (p.value + size_of v) i) out in
          elim (cases_lt i e.value) [
            | inl before ↦ byte_before bytes e.value own fits i before ∙ d.elsewhere i out
            | inr behind ↦
                let past = apart behind in
                byte_behind bytes e.value own fits i (omega arith) ∙ d.elsewhere i out
          ];
    }

-- ---- the entries of a map

among_kept : (IsAt : Place → Value → Type 0) (P : Place → Type 0) → ((p : Place) (w : Value) → IsAt p w → P p) → (ps : List Place) (ws : Values) → AreAt IsAt ps ws → All P ps
among_kept IsAt P says [] no_values h = All-nil P
among_kept IsAt P says [] (more_values w ws) h = absurd h
among_kept IsAt P says (p ∷ ps) no_values h = absurd h
among_kept IsAt P says (p ∷ ps) (more_values w ws) h = All-cons P p ps (says p w h.0) (among_kept IsAt P says ps ws h.1)

module _ (most : ℕ) (k v : Shape) (knows others : Names → Type 0) (bytes : List ℕ) (pos : ℕ) (has : HasValue (tree most k v) (both knows others) bytes pos) (t : Tree Place) where
  -- the own bytes of every value lie in the buffer
  pub values_within : IsMapAt bytes most k v pos t → All (λ e. e.value + size_of v ≤ length bytes) (items t)
  values_within map = entries_are k v knows others bytes (λ e. e.value + size_of v ≤ length bytes) (λ e u w key value. value.own_within) most pos has t map

  -- and every key is read from what lies before its value
  pub keys_before : IsMapAt bytes most k v pos t → (written : List ℕ) → DiffersInValues v (items t) bytes written → All (λ e. HasValue k knows (take e.value written) e.key) (items t)
  keys_before (has_none none is) written d = subst (λ x. All (λ e. HasValue k knows (take e.value written) e.key) (items x)) (sym is) (All-nil _)
  keys_before (has_root {root = root} some leads node count) written d =
      let h = has.held in
      let room : pos + 8 ≤ length bytes = h.own_within in
      among_kept (IsKept h.names bytes written k v) (λ e. HasValue k knows (take e.value written) e.key)
      (λ e w kept. record { value = kept.key.key; held = held_under knows h.known.0 kept.key.held_before })
      (items t) (members has.value)
      (pairs_stay h.names bytes written most k v h.level h.inside pos has.value h.regions h.before h.after h.low root t h.holds h.claimed room some leads node d)

-- ---- walks

-- what walks have left, in bytes that differ in no value
same_bytes : (v : Shape) (bytes others : List ℕ) → DiffersInValues v [] bytes others → others ≡ bytes
same_bytes v bytes others d = ext_get_or 0 others bytes d.same_length (λ i below. d.elsewhere i (All-nil _))

module _ {most : ℕ} {k v : Shape} {knows others : Names → Type 0} (m : BegunMap most k v knows others) where
  -- the tree and its nodes are the same in bytes with other values
  record HasSameTree (root : ℕ) (bytes : List ℕ) : Type 0 where
    tree : HasTree m.bytes bytes most k v m.pos root m.search_tree
    from : (level pos : ℕ) (u : Tree Place) → IsNodeOf m.bytes most k v level pos u 1 root → IsNodeOf bytes most k v level pos u 1 root
    back : (level pos : ℕ) (u : Tree Place) → IsNodeOf bytes most k v level pos u 1 root → IsNodeOf m.bytes most k v level pos u 1 root

  same_tree : (root : ℕ) (bytes : List ℕ) → (word_at m.bytes (m.pos + 4) ≡ 0 → ⊥) → target_from m.pos (word_at m.bytes m.pos) ≡ Some root → HasNode m.bytes most k v 1 root m.search_tree
      → IsWritten m bytes → HasSameTree root bytes
  same_tree root bytes some leads node d =
      let h = m.has.held in
      let room : m.pos + 8 ≤ length m.bytes = h.own_within in
      let stay = nodes_stay h.names m.bytes bytes most k v h.level h.inside m.pos m.has.value h.regions h.before h.after h.low root m.search_tree h.holds h.claimed room some leads node d in
      record {
        tree = tree_stays h.names m.bytes bytes most k v h.level h.inside m.pos m.has.value h.regions h.before h.after h.low root m.search_tree h.holds h.claimed room some leads node d;
        from = λ level pos u. (stay level pos u).0;
        back = λ level pos u. (stay level pos u).1;
      }

  walks_in : IsMapAt m.bytes most k v m.pos m.search_tree → (bytes written : List ℕ) → IsWritten m bytes → IsWritten m written → (w : EntryWalk) (es : List Place)
      → WalksIn bytes most k v m.pos w es → WalksIn written most k v m.pos w es
  walks_in (has_none none is) bytes written d f w es walks =
      let first = same_bytes v m.bytes bytes (subst (λ t. DiffersInValues v (items t) m.bytes bytes) is d) in
      let second = same_bytes v m.bytes written (subst (λ t. DiffersInValues v (items t) m.bytes written) is f) in
      subst (λ b. WalksIn b most k v m.pos w es) (first ∙ sym second) walks
  walks_in (has_root {root = root} some leads node count) bytes written d f w es walks =
      let a = same_tree root bytes some leads node d in
      let b = same_tree root written some leads node f in
      let some_here : word_at bytes (m.pos + 4) ≡ 0 → ⊥ = λ zero. some (sym a.tree.len ∙ zero) in
      let own = walks.leads some_here in
      let points : target_from m.pos (word_at bytes m.pos) ≡ Some root = ap (target_from m.pos) a.tree.pointer ∙ leads in
      let here : walks.root ≡ root = cc in
      let left = subst (λ r. HasLeft bytes walks.layout r w es) here walks.left in
      record {
        layout = walks.layout;
        root = root;
        leads = λ other. (ap (target_from m.pos) b.tree.pointer ∙ leads, own.1);
        left = left_stays most k v walks.layout own.1 bytes written root m.search_tree a.tree.node (λ level pos u in_bytes. b.from level pos u (a.back level pos u in_bytes)) w es left;
      }

  -- a walk that has entries left in such bytes continues to have them
  pub walk_goes_on : (bytes : List ℕ) → IsWritten m bytes → (w : EntryWalk) (es : List Place) → IsRun es (items m.search_tree) → WalksIn bytes most k v m.pos w es → GoesOn m w es
  walk_goes_on bytes d w es among walks = record { among = among; left = λ written f. walks_in m.map bytes written d f w es walks }

  -- ---- one entry after the other

  module _ (e : Place) (es rest : List Place) (is : es ≡ e ∷ rest) (among : IsRun es (items m.search_tree)) where
    pub rest_among : IsRun rest (items m.search_tree)
    rest_among =
        record {
          before = among.before ++ e ∷ [];
          after = among.after;
          is = among.is ∙ ap (λ s. among.before ++ (s ++ among.after)) is ∙ sym (append_assoc among.before (e ∷ []) (rest ++ among.after));
        }

    -- what holds of all items holds of it
    pub first_among : (P : Place → Type 0) → All P (items m.search_tree) → P e
    first_among P all =
        All-head P e (rest ++ among.after)
        (subst (λ s. All P (s ++ among.after)) is (all_back P among.before (es ++ among.after) (subst (All P) among.is all)))

    -- a call that its value is lent to leaves bytes that differ at most in values
    pub visited_written : {V : Type 0} {calls : MutBor (OwnSeal V) → MutBor (OwnSeal V) → Type 0} (bytes out : List ℕ) (size : ℕ) → size ≤ size_of v → e.value + size ≤ length bytes
        → LeavesOwn size bytes e.value calls out → IsWritten m bytes → IsWritten m out
    visited_written bytes out size small fits h written =
        subst (IsWritten m) (sym h.is) (value_written v (items m.search_tree) e m.bytes bytes h.own first_among (omega (arith, h.as_long, small)) (omega (arith, h.as_long, fits)) written)

-- ---- what calls return

pub matched_some : {A : Type 0} (P : Type 0) {Q R : A → Type 0} (o : Option A) → MatchOption o P Q → ((x : A) → Q x → R x) → IfSome o R
matched_some P None h step = tt
matched_some P (Some x) h step = step x h

-- the entry that a search finds is one of the places
pub found_entry : (holds : Place → Type 0) (places : List Place) (o : Option EntryAt) (e : EntryAt) → Finds (λ e. e) holds places (option_map place_of o) → o ≡ Some e
    → Contains places (place_of e) × holds (place_of e)
found_entry holds places o e h is =
    let f = finds_some (λ e. e) holds places o e (place_of e) h is refl in
    (subst (Contains places) (sym f.3) f.1, subst holds (sym f.3) f.2)

-- the bytes of a map are these
pub map_at : {most : ℕ} {k v : Shape} {knows others : Names → Type 0} (m : BegunMap most k v knows others) (bytes : List ℕ) (pos : ℕ) → m.bytes ≡ bytes → m.pos ≡ pos
    → IsMapAt bytes most k v pos m.search_tree
map_at {most} {k} {v} m bytes pos e f = subst (λ b. IsMapAt b most k v pos m.search_tree) e (subst (λ p. IsMapAt m.bytes most k v p m.search_tree) f m.map)

-- a walk that begins so over a map's bytes continues so
pub begun_goes_on : {most : ℕ} {k v : Shape} {knows others : Names → Type 0} (m : BegunMap most k v knows others) (bytes : List ℕ) (pos : ℕ) → m.bytes ≡ bytes → m.pos ≡ pos
    → (w : EntryWalk) (es : List Place) → (IsMapAt bytes most k v pos m.search_tree → WalksIn bytes most k v pos w es × IsRun es (items m.search_tree))
    → GoesOn m w es × IsWritten m bytes
begun_goes_on {most} {k} {v} m bytes pos e f w es begins =
    let t = m.search_tree in
    let here = map_at m bytes pos e f in
    let written = subst (λ b. DiffersInValues v (items t) m.bytes b) e (nothing_written v (items t) m.bytes) in
    let walks = begins here in
    (walk_goes_on m bytes written w es walks.1 (subst (λ p. WalksIn bytes most k v p w es) (sym f) walks.0), written)

-- a walk has one list of entries left
pub one_left : (bytes : List ℕ) (l n : NodeLayout) (root other : ℕ) (w : EntryWalk) (es fs : List Place) → HasLeft bytes l root w es → HasLeft bytes n other w fs → es ≡ fs
one_left bytes l n root other w es fs h g =
    sym h.left ∙ ap (λ x. before_key w.end (stack_items bytes x w.stack.nodes w.stack.nexts w.stack.depth)) (sym h.layout ∙ g.layout) ∙ g.left
