-- What is read back of a map, one entry after the other.
use Rattle.std.proofs.Common.{◌≡◌, ◌∙◌, ℕ, ◌<◌, ◌≤◌, List, [], ◌∷◌, ◌++◌, length, map, refl, ap, sym, subst, arith, append_assoc, append-nil}
use Rattle.std.specs.declared.cmp.Ordering.{Ordering}
use Rattle.std.specs.BTreeMap.{insert_entry}
use Rattle.archive_shape_layout.specs.Shape.{Shape}
use Rattle.archive_shape_layout.specs.Shape.Shape.{tree}
use Rattle.archive_shape_layout.specs.Value.{Value, Values}
use Rattle.archive_shape_layout.specs.Value.Value.{group, back}
use Rattle.archive_shape_layout.specs.Value.Values.{no_values, more_values}
use Rattle.archive_shape_layout.specs.Content.{Names, members}
use Rattle.archive_shape_layout.proofs.Visited.{claimed_raised}
use Rattle.archive_shape_canonical.specs.Sharing.{erased, all_erased}
use denote.Ref.{Bor}
use Rattle.archive_shape.specs.declared.references.refs.Ref.{Ref}
use Rattle.archive_shape.specs.Key.{HeldAt}
use Rattle.archive_forms_values.specs.Parts.{HasValue, both}
use Rattle.archive_forms.proofs.Plain.{members_of_group}
use Rattle.archive_forms.specs.Deserializing.{IsReadAt}
use Rattle.archive_forms.specs.Reading.{reads_all, reads_each, reads_tuple2}
use Rattle.archive_btree_layout.specs.Items.{ArePairs, IsTreeRead}
use Rattle.archive_btree_layout.specs.Items.IsTreeRead.{reads_none, reads_tree}
use Rattle.archive_btree_layout.specs.Reading.{Place}
use Rattle.archive_btree_layout.specs.Tree.{Tree, items}
use Rattle.archive_btree_layout.proofs.Mapped.{tree_is_read}
use Rattle.archive_btree_maps.specs.Maps.{IsMapAt, IsMapOf, AreEntriesAt}
use Rattle.archive_btree_maps.specs.Refs.{entry_at}
use Rattle.archive_btree_maps.proofs.One.{one_map}
use Rattle.archive_btree_maps.proofs.ReadTree.{map_is_read}
use Rattle.archive_btree.specs.ReadBack.{inserted, reads_map}
use Rattle.archive_btree.proofs.Widths.{has_width}

-- a pair that is inserted after others
pub inserted_last : {A B : Type 0} (cmp : A → A → Ordering) (es xs : List (A × B)) (x : A × B) → inserted cmp es (xs ++ (x ∷ [])) ≡ insert_entry cmp (inserted cmp es xs) x.0 x.1
inserted_last cmp es [] x = refl
inserted_last cmp es (y ∷ ys) x = inserted_last cmp (insert_entry cmp es y.0 y.1) ys x

-- ---- the entries that an iterator has left

-- the next place, where a key and a value are the next entry
pub record IsNext {K V : Type 0} (bytes : Bor (List ℕ)) (left : List Place) (key : Ref K) (value : Ref V) (rest : List (Ref K × Ref V)) : Type 0 where
  pub place : Place
  pub more : List Place
  pub is : left ≡ place ∷ more
  pub key_is : key.pos ≡ place.key
  pub value_is : value.pos ≡ place.value
  pub rest_is : rest ≡ map (entry_at bytes) more

pub next_place : {K V : Type 0} (bytes : Bor (List ℕ)) (left : List Place) (key : Ref K) (value : Ref V) (all rest : List (Ref K × Ref V))
    → all ≡ map (entry_at bytes) left → all ≡ (key, value) ∷ rest → IsNext bytes left key value rest
next_place bytes [] key value all rest e f = absurd (cc)
next_place {K = K} {V = V} bytes (p ∷ ps) key value all rest e f =
    let joined : ((key, value) ∷ rest) ≡ (entry_at bytes p ∷ map (entry_at bytes) ps) = sym f ∙ e in
    let first : (key, value) ≡ entry_at bytes p = cc in
    record { place = p; more = ps; is = refl; key_is = ap (λ q. q.0.pos) first; value_is = ap (λ q. q.1.pos) first; rest_is = cc }

pub none_left : {K V : Type 0} (bytes : Bor (List ℕ)) (left : List Place) (all : List (Ref K × Ref V)) → all ≡ map (entry_at bytes) left → all ≡ [] → left ≡ []
none_left bytes [] all e f = refl
none_left bytes (p ∷ ps) all e f = absurd (cc)

-- ---- a map's value is a group

pairs_grouped : (names : Names) (bytes : List ℕ) (k v : Shape) (value : Value) (ps : List Place) (ws : Values) → members value ≡ ws → (length ps ≡ 0 → ⊥) → ArePairs names bytes k v ps ws → value ≡ group (members value)
pairs_grouped names bytes k v value [] ws e some h = absurd (some refl)
pairs_grouped names bytes k v value (p ∷ ps) no_values e some h = absurd h
pairs_grouped names bytes k v value (p ∷ ps) (more_values w ws) e some h = members_of_group value w ws e

tree_grouped : (names : Names) (bytes : List ℕ) (most : ℕ) (k v : Shape) (pos : ℕ) (value : Value) → IsTreeRead names bytes most k v pos value → value ≡ group (members value)
tree_grouped names bytes most k v pos value (reads_none a b) = b ∙ sym (ap (λ z. group (members z)) b)
tree_grouped names bytes most k v pos value (reads_tree {t = t} a b c d e) = pairs_grouped names bytes k v value (items t) (members value) refl (λ z. a (sym d ∙ z)) e

map_grouped : (most : ℕ) (k v : Shape) (knows : Names → Type 0) (bytes : List ℕ) (pos : ℕ) (value : Value) → HeldAt (tree most k v) knows bytes pos value → value ≡ group (members value)
map_grouped most k v knows bytes pos value h =
    let own : pos ≤ length bytes = omega (arith, h.own_within) in
    tree_grouped h.names bytes most k v pos value (tree_is_read h.names bytes most k v h.level h.inside pos value h.regions h.before h.after h.low h.holds (claimed_raised own h.claimed))

-- ---- what is read of entries

module _ {A B : Type 0} (most : ℕ) (keys : Value → A → Type 0) (vals : Value → B → Type 0) (s t : Shape) (knows others : Names → Type 0) (bytes : List ℕ) where
  -- pairs are those of keys and values at places, one by one
  abbrev pub AreReadAt : List Place → List (A × B) → Type 0
  AreReadAt [] [] = Unit {0}
  AreReadAt (p ∷ ps) (x ∷ xs) = (IsReadAt keys s knows bytes p.key x.0 × IsReadAt vals t others bytes p.value x.1) × AreReadAt ps xs
  AreReadAt [] (x ∷ xs) = ⊥
  AreReadAt (p ∷ ps) [] = ⊥

  pub read_last : (ps : List Place) (xs : List (A × B)) (p : Place) (x : A × B) → AreReadAt ps xs → IsReadAt keys s knows bytes p.key x.0 → IsReadAt vals t others bytes p.value x.1
      → AreReadAt (ps ++ (p ∷ [])) (xs ++ (x ∷ []))
  read_last [] [] p x h f g = ((f, g), tt)
  read_last (q ∷ qs) (y ∷ ys) p x h f g = (h.0, read_last qs ys p x h.1 f g)
  read_last [] (y ∷ ys) p x h f g = absurd h
  read_last (q ∷ qs) [] p x h f g = absurd h

  -- each key and each value has a value at its place
  abbrev pub AllHave : List Place → Type 0
  AllHave [] = Unit {0}
  AllHave (p ∷ ps) = (HasValue s knows bytes p.key × HasValue t others bytes p.value) × AllHave ps

  all_have : (ps : List Place) (ws : Values) → AreEntriesAt s t knows others bytes ps ws → AllHave ps
  all_have [] ws h = tt
  all_have (p ∷ ps) no_values h = absurd h
  all_have (p ∷ ps) (more_values w ws) h = ((record { value = h.0.key; held = h.0.key_held }, record { value = h.0.value; held = h.0.value_held }), all_have ps ws h.1)

  each_read : (ps : List Place) (xs : List (A × B)) (ws : Values) → AreReadAt ps xs → AreEntriesAt s t knows others bytes ps ws → reads_each (reads_tuple2 keys vals) (all_erased ws) xs
  each_read [] [] no_values f g = tt
  each_read [] [] (more_values w ws) f g = absurd g
  each_read [] (x ∷ xs) ws f g = absurd f
  each_read (p ∷ ps) [] ws f g = absurd f
  each_read (p ∷ ps) (x ∷ xs) no_values f g = absurd g
  each_read (p ∷ ps) (x ∷ xs) (more_values w ws) f g =
      let key = erased g.0.key in
      let value = erased g.0.value in
      let pair : reads_tuple2 keys vals (erased w) x = (
        more_values key (more_values value no_values),
        sym (ap erased g.0.is),
        (key, more_values value no_values, refl, f.0.0 g.0.key g.0.key_held, (value, no_values, refl, f.0.1 g.0.value g.0.value_held, refl)),
      ) in
      (pair, each_read ps xs ws f.1 g.1)

  -- pairs that are those at the places of a map are its value
  pub map_read : (pos : ℕ) (u : Tree Place) (xs : List (A × B)) → IsMapAt bytes most s t pos u → AreReadAt (items u) xs
      → IsReadAt (reads_all (reads_tuple2 keys vals)) (tree most s t) (both knows others) bytes pos xs
  map_read pos u xs there read value h =
      let m : IsMapOf s t knows others bytes most pos value = map_is_read s t knows others bytes most pos value h in
      let same : m.search_tree ≡ u = one_map bytes most s t pos m.search_tree u m.map there in
      let entries : AreEntriesAt s t knows others bytes (items u) (members value) = subst (λ x. AreEntriesAt s t knows others bytes (items x) (members value)) same m.entries in
      (all_erased (members value), sym (ap erased (map_grouped most s t (both knows others) bytes pos value h)), each_read (items u) xs (members value) read entries)

  -- ---- the progress of a call that reads a map, with n places left

  pub record IsReading (cmp : A → A → Ordering) (pos : ℕ) (left : List Place) (entries : List (A × B)) : Type 0 where
    pub search_tree : Tree Place
    pub map : IsMapAt bytes most s t pos search_tree
    pub past : List Place
    pub pairs : List (A × B)
    pub are_all : items search_tree ≡ past ++ left
    pub have : AllHave left
    pub read : AreReadAt past pairs
    pub is : entries ≡ inserted cmp [] pairs

  pub reading_begun : (cmp : A → A → Ordering) (pos : ℕ) (entries : List (A × B)) (h : HasValue (tree most s t) (both knows others) bytes pos) → entries ≡ []
      → (left : List Place) × ((u : Tree Place) × IsMapAt bytes most s t pos u × (left ≡ items u)) × IsReading cmp pos left entries
  reading_begun cmp pos entries h empty =
      let m : IsMapOf s t knows others bytes most pos h.value = map_is_read s t knows others bytes most pos h.value h.held in (
        items m.search_tree,
        (m.search_tree, m.map, refl),
        record {
          search_tree = m.search_tree;
          map = m.map;
          past = [];
          pairs = [];
          are_all = refl;
          have = all_have (items m.search_tree) (members h.value) m.entries;
          read = tt;
          is = empty;
        },
      )

  -- the next key and the next value have values
  pub next_has : {K V : Type 0} (cmp : A → A → Ordering) (pos : ℕ) (b : Bor (List ℕ)) (left : List Place) (key : Ref K) (value : Ref V) (rest : List (Ref K × Ref V)) (entries : List (A × B))
      → IsReading cmp pos left entries → IsNext b left key value rest → HasValue s knows bytes key.pos × HasValue t others bytes value.pos
  next_has cmp pos b left key value rest entries h n =
      let have = subst AllHave n.is h.have in
      (subst (HasValue s knows bytes) (sym n.key_is) have.0.0, subst (HasValue t others bytes) (sym n.value_is) have.0.1)

  pub reading_next : (cmp : A → A → Ordering) (pos : ℕ) (p : Place) (left : List Place) (entries after : List (A × B)) (x : A × B) → IsReading cmp pos (p ∷ left) entries
      → IsReadAt keys s knows bytes p.key x.0 → IsReadAt vals t others bytes p.value x.1 → after ≡ insert_entry cmp entries x.0 x.1
      → IsReading cmp pos left after
  reading_next cmp pos p left entries after x h f g e = record {
    search_tree = h.search_tree;
    map = h.map;
    past = h.past ++ (p ∷ []);
    pairs = h.pairs ++ (x ∷ []);
    are_all = h.are_all ∙ sym (append_assoc h.past (p ∷ []) left);
    have = h.have.1;
    read = read_last h.past h.pairs p x h.read f g;
    is = e ∙ ap (λ z. insert_entry cmp z x.0 x.1) h.is ∙ sym (inserted_last cmp [] h.pairs x);
  }

  -- the next entry is read and inserted
  pub entry_read : {K V : Type 0} (cmp : A → A → Ordering) (pos : ℕ) (b : Bor (List ℕ)) (left : List Place) (key : Ref K) (value : Ref V) (rest : List (Ref K × Ref V)) (entries after : List (A × B)) (x : A × B)
      → IsReading cmp pos left entries → (n : IsNext b left key value rest) → IsReadAt keys s knows bytes key.pos x.0 → IsReadAt vals t others bytes value.pos x.1 → after ≡ insert_entry cmp entries x.0 x.1
      → IsReading cmp pos n.more after
  entry_read cmp pos b left key value rest entries after x h n f g e =
      let P : ℕ → Type 0 = λ at. IsReadAt keys s knows bytes at x.0 in
      let Q : ℕ → Type 0 = λ at. IsReadAt vals t others bytes at x.1 in
      reading_next cmp pos n.place n.more entries after x (subst (λ l. IsReading cmp pos l entries) n.is h) (subst P n.key_is f) (subst Q n.value_is g) e

  pub reading_ended : (cmp : A → A → Ordering) (pos : ℕ) (left : List Place) (entries : List (A × B)) → left ≡ [] → IsReading cmp pos left entries
      → IsReadAt (reads_map cmp (λ (es : List (A × B)). es) keys vals) (tree most s t) (both knows others) bytes pos entries
  reading_ended cmp pos left entries none h value held =
      let all : items h.search_tree ≡ h.past = h.are_all ∙ ap (λ l. h.past ++ l) none ∙ append-nil h.past in
      (h.pairs, map_read pos h.search_tree h.pairs h.map (subst (λ l. AreReadAt l h.pairs) (sym all) h.read) value held, h.is)

  -- where an entry was read, nodes have room for one
  pub reading_some : (cmp : A → A → Ordering) (pos : ℕ) (left : List Place) (entries : List (A × B)) → IsReading cmp pos left entries → (entries ≡ [] → ⊥) → 0 < most
  reading_some cmp pos left entries h some = has_width bytes most s t pos h.search_tree h.map (λ none. some (by_pairs h.pairs h.past h.read h.is (h.are_all) none))
    where
      by_pairs : (xs : List (A × B)) (past : List Place) → AreReadAt past xs → entries ≡ inserted cmp [] xs → items h.search_tree ≡ past ++ left → items h.search_tree ≡ [] → entries ≡ []
      by_pairs [] past read is all none = is
      by_pairs (x ∷ xs) [] read is all none = absurd read
      by_pairs (x ∷ xs) (p ∷ ps) read is all none = absurd (let e : (p ∷ (ps ++ left)) ≡ [] = sym all ∙ none in cc)
