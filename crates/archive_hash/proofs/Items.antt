-- What is read of the items of a table of entries, one after the other.
use denote.Ref.{Bor}
use Rattle.std.proofs.Common.{◌≡◌, ◌∙◌, ℕ, ◌+◌, ◌==◌, true, cond, Some, List, [], ◌∷◌, ◌++◌, length, map, refl, ap, sym, subst, arith, append_assoc, append-nil, eq-eqb}
use Rattle.std.proofs.lemmas.List.{length-map}
use Rattle.std.specs.Prelude.{Bool, Option}
use Rattle.std.specs.Cmp.{IsEquivalence}
use Rattle.std.specs.List.{IsDistinct}
use Rattle.std.specs.Map.{keys_of, lookup}
use Rattle.archive_shape_layout.specs.Bytes.{window, word_at}
use Rattle.archive_shape_layout.specs.Shape.{Shape}
use Rattle.archive_shape_layout.specs.Shape.Shape.{table}
use Rattle.archive_shape_layout.specs.Shape.Shapes.{no_shapes}
use Rattle.archive_shape_layout.specs.Value.{Value, Values}
use Rattle.archive_shape_layout.specs.Value.Value.{group}
use Rattle.archive_shape_layout.specs.Value.Values.{no_values, more_values}
use Rattle.archive_shape_layout.specs.Content.{Names, Content, content_of, members, choose, shape_content}
use Rattle.archive_shape_layout.specs.Content.Part.{at}
use Rattle.archive_shape_layout.specs.Content.Label.{whole}
use Rattle.archive_shape_layout.specs.Content.Content.{plain}
use Rattle.archive_shape_layout.proofs.Unique.{by_plain}
use Rattle.archive_shape_layout.proofs.Windows.{word_within}
use Rattle.archive_shape_canonical.specs.Sharing.{erased, all_erased}
use Rattle.archive_shape.specs.declared.references.refs.Ref.{Ref}
use Rattle.archive_shape.specs.Key.{HeldAt}
use Rattle.archive_forms_values.specs.Tuples.{tuple2}
use Rattle.archive_forms_values.specs.Parts.{HasValue, both}
use Rattle.archive_forms_values.proofs.Inside.{none_held}
use Rattle.archive_forms_values.proofs.Pointed.{made_whole}
use Rattle.archive_forms_values.specs.Fields.{field, field_position}
use Rattle.archive_forms_values.proofs.Held.{fields_at}
use Rattle.archive_forms.proofs.Plain.{members_of_group}
use Rattle.archive_forms.specs.Deserializing.{IsReadAt}
use Rattle.archive_forms.specs.Reading.{reads_all, reads_each, reads_tuple2}
use Rattle.archive_hash_maps.specs.Tables.{Buckets, IsTableAt, IsTableOf, AreItemsAt, item_position, item_positions, full_places}
use Rattle.archive_hash_maps.specs.Maps.{entry_at}
use Rattle.archive_hash_maps.proofs.Entries.{HasParts, entry_parts}
use Rattle.archive_hash_maps.proofs.Read.{table_is_read, one_table}
use Rattle.archive_hash_maps.proofs.Roots.{table_count}
use Rattle.archive_hash.specs.ReadBack.{AreInserted, reads_map}
use Rattle.archive_hash.proofs.Inserted.{PutsKey, none_inserted, one_inserted}

-- ---- the entries that an iterator has left

-- the next position, where a key and a value are the next entry
pub record IsNext {K V : Type 0} (s t : Shape) (bytes : Bor (List ℕ)) (left : List ℕ) (key : Ref K) (value : Ref V) (rest : List (Ref K × Ref V)) : Type 0 where
  pub here : ℕ
  pub more : List ℕ
  pub is : left ≡ here ∷ more
  pub key_is : key.pos ≡ here
  pub value_is : value.pos ≡ field_position s no_shapes t here
  pub rest_is : rest ≡ map (entry_at bytes s t) more

pub next_position : {K V : Type 0} (s t : Shape) (bytes : Bor (List ℕ)) (left : List ℕ) (key : Ref K) (value : Ref V) (all rest : List (Ref K × Ref V))
    → all ≡ map (entry_at bytes s t) left → all ≡ (key, value) ∷ rest → IsNext s t bytes left key value rest
next_position s t bytes [] key value all rest e f = absurd (cc)
next_position {K = K} {V = V} s t bytes (p ∷ ps) key value all rest e f =
    let joined : ((key, value) ∷ rest) ≡ (entry_at bytes s t p ∷ map (entry_at bytes s t) ps) = sym f ∙ e in
    let first : (key, value) ≡ entry_at bytes s t p = cc in
    record { here = p; more = ps; is = refl; key_is = ap (λ q. q.0.pos) first; value_is = ap (λ q. q.1.pos) first; rest_is = cc }

pub none_left : {K V : Type 0} (s t : Shape) (bytes : Bor (List ℕ)) (left : List ℕ) (all : List (Ref K × Ref V)) → all ≡ map (entry_at bytes s t) left → all ≡ [] → left ≡ []
none_left s t bytes [] all e f = refl
none_left s t bytes (p ∷ ps) all e f = absurd (cc)

-- ---- a table's value is a group

chosen_yes : (b : Bool) (x y : Content) → b ≡ true → choose b x y ≡ x
unfolding choose
chosen_yes b x y e = rw e refl

module _ (s : Shape) (knows : Names → Type 0) (bytes : List ℕ) (pos : ℕ) (value : Value) (h : HeldAt (table s) knows bytes pos value) where
  empty_grouped : word_at bytes (pos + 4) ≡ 0 → value ≡ group (members value)
  unfolding shape_content
  empty_grouped none =
      let own = window bytes pos 12 in
      let len : (word_at own 4 == 0) ≡ true = eq-eqb _ 0 (word_within bytes pos 12 4 (omega arith) ∙ none) in
      let content : content_of h.names bytes (at pos (table s)) ≡ plain whole [] = chosen_yes _ _ _ len in
      let says = by_plain h.names bytes content h.holds in
      let is : value ≡ group no_values = made_whole _ value says.is_made ∙ ap group (none_held h.names bytes says.all) in
      is ∙ sym (ap (λ v. group (members v)) is)

  by_positions : (ps qs : List ℕ) (ws : Values) → members value ≡ ws → length qs ≡ length ps → word_at bytes (pos + 4) ≡ length qs → AreItemsAt s knows bytes ps ws → value ≡ group (members value)
  by_positions [] qs ws e even many all = empty_grouped (many ∙ even)
  by_positions (p ∷ ps) qs no_values e even many all = absurd all
  by_positions (p ∷ ps) qs (more_values w ws) e even many all = members_of_group value w ws e

-- ---- what is read of entries

module _ {A B : Type 0} (keys : Value → A → Type 0) (vals : Value → B → Type 0) (s t : Shape) (knows others : Names → Type 0) (bytes : List ℕ) where
  -- pairs are those of the entries at positions, one by one
  abbrev pub AreReadAt : List ℕ → List (A × B) → Type 0
  AreReadAt [] [] = Unit {0}
  AreReadAt (p ∷ ps) (x ∷ xs) = (IsReadAt keys s knows bytes p x.0 × IsReadAt vals t others bytes (field_position s no_shapes t p) x.1) × AreReadAt ps xs
  AreReadAt [] (x ∷ xs) = ⊥
  AreReadAt (p ∷ ps) [] = ⊥

  read_last : (ps : List ℕ) (xs : List (A × B)) (p : ℕ) (x : A × B) → AreReadAt ps xs → IsReadAt keys s knows bytes p x.0 → IsReadAt vals t others bytes (field_position s no_shapes t p) x.1
      → AreReadAt (ps ++ (p ∷ [])) (xs ++ (x ∷ []))
  read_last [] [] p x h f g = ((f, g), tt)
  read_last (q ∷ qs) (y ∷ ys) p x h f g = (h.0, read_last qs ys p x h.1 f g)
  read_last [] (y ∷ ys) p x h f g = absurd h
  read_last (q ∷ qs) [] p x h f g = absurd h

  -- each entry has its key and its value
  abbrev AllHave : List ℕ → Type 0
  AllHave [] = Unit {0}
  AllHave (p ∷ ps) = HasParts s t knows others bytes p × AllHave ps

  all_have : (ps : List ℕ) (ws : Values) → AreItemsAt (tuple2 s t) (both knows others) bytes ps ws → AllHave ps
  all_have [] ws h = tt
  all_have (p ∷ ps) no_values h = absurd h
  all_have (p ∷ ps) (more_values w ws) h = (entry_parts s t knows others bytes p (record { value = w; held = h.0 }), all_have ps ws h.1)

  entry_read : (p : ℕ) (x : A × B) (w : Value) → HeldAt (tuple2 s t) (both knows others) bytes p w → IsReadAt keys s knows bytes p x.0 → IsReadAt vals t others bytes (field_position s no_shapes t p) x.1
      → reads_tuple2 keys vals (erased w) x
  entry_read p x w h f g =
      let parts = fields_at (field s knows ∷ field t others ∷ []) (both knows others) (λ names known. (known.0, (known.1, tt))) bytes p w h in
      let key = parts.each in
      let value = parts.each.rest in (
        all_erased parts.values,
        sym (ap erased parts.is),
        (
          erased key.first,
          all_erased key.others,
          sym (ap all_erased key.is),
          f key.first key.held,
          (erased value.first, all_erased value.others, sym (ap all_erased value.is), g value.first value.held, sym (ap all_erased value.rest)),
        ),
      )

  each_read : (ps : List ℕ) (xs : List (A × B)) (ws : Values) → AreReadAt ps xs → AreItemsAt (tuple2 s t) (both knows others) bytes ps ws → reads_each (reads_tuple2 keys vals) (all_erased ws) xs
  each_read [] [] no_values f g = tt
  each_read [] [] (more_values w ws) f g = absurd g
  each_read [] (x ∷ xs) ws f g = absurd f
  each_read (p ∷ ps) [] ws f g = absurd f
  each_read (p ∷ ps) (x ∷ xs) no_values f g = absurd g
  each_read (p ∷ ps) (x ∷ xs) (more_values w ws) f g = (entry_read p x w g.0 f.0.0 f.0.1, each_read ps xs ws f.1 g.1)

  -- pairs that are those at the positions of a table are its items
  items_read : (pos : ℕ) (b : Buckets) (xs : List (A × B)) → IsTableAt bytes (tuple2 s t) pos b → AreReadAt (item_positions (tuple2 s t) b) xs
      → IsReadAt (reads_all (reads_tuple2 keys vals)) (table (tuple2 s t)) (both knows others) bytes pos xs
  items_read pos b xs there read value h =
      let m : IsTableOf (tuple2 s t) (both knows others) bytes pos value = table_is_read (tuple2 s t) (both knows others) bytes pos value h in
      let same : m.buckets ≡ b = one_table bytes (tuple2 s t) pos m.buckets b m.table there in
      let items : AreItemsAt (tuple2 s t) (both knows others) bytes (item_positions (tuple2 s t) b) (members value) =
      subst (λ c. AreItemsAt (tuple2 s t) (both knows others) bytes (item_positions (tuple2 s t) c) (members value)) same m.items in
      let grouped = by_positions (tuple2 s t) (both knows others) bytes pos value h (item_positions (tuple2 s t) b) (full_places b) (members value) refl (sym (length-map (full_places b) (item_position (tuple2 s t) b.target))) (table_count there) items in
      (all_erased (members value), sym (ap erased grouped), each_read (item_positions (tuple2 s t) b) xs (members value) read items)

  -- ---- the progress of a call that reads a map, by the positions that are left

  pub record IsReading (eq : A → A → Bool) (pos : ℕ) (left : List ℕ) (entries : List (A × B)) : Type 0 where
    pub buckets : Buckets
    pub table : IsTableAt bytes (tuple2 s t) pos buckets
    pub past : List ℕ
    pub pairs : List (A × B)
    pub are_all : item_positions (tuple2 s t) buckets ≡ past ++ left
    pub have : AllHave left
    pub read : AreReadAt past pairs
    pub is : AreInserted eq pairs entries

  pub reading_begun : {eq : A → A → Bool} (laws : IsEquivalence eq) (pos : ℕ) (entries : List (A × B)) (h : HasValue (table (tuple2 s t)) (both knows others) bytes pos) → entries ≡ [] → IsDistinct eq (keys_of entries)
      → (left : List ℕ) × ((b : Buckets) × IsTableAt bytes (tuple2 s t) pos b × (left ≡ item_positions (tuple2 s t) b)) × IsReading eq pos left entries
  reading_begun laws pos entries h empty once =
      let m : IsTableOf (tuple2 s t) (both knows others) bytes pos h.value = table_is_read (tuple2 s t) (both knows others) bytes pos h.value h.held in (
        item_positions (tuple2 s t) m.buckets,
        (m.buckets, m.table, refl),
        record {
          buckets = m.buckets;
          table = m.table;
          past = [];
          pairs = [];
          are_all = refl;
          have = all_have (item_positions (tuple2 s t) m.buckets) (members h.value) m.items;
          read = tt;
          is = none_inserted laws entries empty once;
        },
      )

  -- the next key and the next value have values
  pub next_has : {K V : Type 0} (eq : A → A → Bool) (pos : ℕ) (b : Bor (List ℕ)) (left : List ℕ) (key : Ref K) (value : Ref V) (rest : List (Ref K × Ref V)) (entries : List (A × B))
      → IsReading eq pos left entries → IsNext s t b left key value rest → HasValue s knows bytes key.pos × HasValue t others bytes value.pos
  next_has eq pos b left key value rest entries h n =
      let have = subst AllHave n.is h.have in
      (subst (HasValue s knows bytes) (sym n.key_is) have.0.key, subst (HasValue t others bytes) (sym n.value_is) have.0.value)

  reading_next : {eq : A → A → Bool} (laws : IsEquivalence eq) (pos p : ℕ) (left : List ℕ) (entries after : List (A × B)) (x : A × B) → IsReading eq pos (p ∷ left) entries
      → IsReadAt keys s knows bytes p x.0 → IsReadAt vals t others bytes (field_position s no_shapes t p) x.1
      → ((xs : List (A × B)) → AreInserted eq xs entries → AreInserted eq (xs ++ x ∷ []) after)
      → IsReading eq pos left after
  reading_next laws pos p left entries after x h f g more = record {
    buckets = h.buckets;
    table = h.table;
    past = h.past ++ (p ∷ []);
    pairs = h.pairs ++ (x ∷ []);
    are_all = h.are_all ∙ sym (append_assoc h.past (p ∷ []) left);
    have = h.have.1;
    read = read_last h.past h.pairs p x h.read f g;
    is = more h.pairs h.is;
  }

  -- the next entry is read and inserted
  pub next_read : {K V : Type 0} {eq : A → A → Bool} (laws : IsEquivalence eq) (pos : ℕ) (b : Bor (List ℕ)) (left : List ℕ) (key : Ref K) (value : Ref V) (rest : List (Ref K × Ref V)) (entries after : List (A × B)) (x : A × B) (old : Option B)
      → IsReading eq pos left entries → (n : IsNext s t b left key value rest) → IsReadAt keys s knows bytes key.pos x.0 → IsReadAt vals t others bytes value.pos x.1
      → old ≡ lookup (eq x.0) entries → PutsKey (keys_of entries) (keys_of after) x.0 old
      → ((q : A) → lookup (eq q) after ≡ cond (eq x.0 q) (Some x.1) (lookup (eq q) entries)) → IsDistinct eq (keys_of after)
      → IsReading eq pos n.more after
  next_read {eq = eq} laws pos b left key value rest entries after x old h n f g is put leads once =
      let P : ℕ → Type 0 = λ p. IsReadAt keys s knows bytes p x.0 in
      let S : ℕ → Type 0 = λ p. IsReadAt vals t others bytes p x.1 in
      reading_next laws pos n.here n.more entries after x (subst (λ l. IsReading eq pos l entries) n.is h) (subst P n.key_is f) (subst S n.value_is g)
      (λ xs done. one_inserted laws xs entries after x done old is put leads once)

  pub reading_ended : (eq : A → A → Bool) (pos : ℕ) (left : List ℕ) (entries : List (A × B)) → left ≡ [] → IsReading eq pos left entries
      → IsReadAt (reads_map eq (λ (es : List (A × B)). es) keys vals) (table (tuple2 s t)) (both knows others) bytes pos entries
  reading_ended eq pos left entries none h value held =
      let all : item_positions (tuple2 s t) h.buckets ≡ h.past = h.are_all ∙ ap (λ l. h.past ++ l) none ∙ append-nil h.past in
      (h.pairs, items_read pos h.buckets h.pairs h.table (subst (λ l. AreReadAt l h.pairs) (sym all) h.read) value held, h.is)
