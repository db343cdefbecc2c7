-- The map of entries that are seen as others, the resolvers of their values kept as others, is archived as the map of
-- those, and spellings that say the same of each value of a map say the same of the map.
use Rattle.std.proofs.Common.{◌≡◌, ◌∙◌, ℕ, zero, suc, ◌+◌, ◌-◌, ◌^◌, ◌<◌, ◌≤◌, Bool, true, false, cond, nat_le, List, [], ◌∷◌, ◌++◌, length, take, drop, map, get_or, Option, Some, ◌⊎◌, refl, sym, ap, ap₂, arith}
use Rattle.std.specs.Int.{w32, to_le_bytes}
use Rattle.std.specs.List.{take-map, drop-map}
use Rattle.std.proofs.lemmas.List.{length-map, map-append}
use Rattle.archive_shape_layout.specs.Bytes.{align_up}
use Rattle.archive_shape_layout.specs.Shape.{Shape, size_of}
use Rattle.archive_shape_layout.specs.Value.{Values}
use Rattle.archive_shape_layout.specs.Value.Value.{group}
use Rattle.archive_shape_layout.specs.Value.Values.{more_values}
use Rattle.archive_shape_layout.specs.Content.{words_of, keys_offset, values_offset, links_offset, link_node_align, link_node_size}
use Rattle.archive_shape_canonical.specs.Packed.{child_items, levels_for}
use Rattle.archive_shape_canonical.specs.Settled.{Fit}
use Rattle.archive_shape.specs.Bytes.{zeros}
use Rattle.archive_shape_layout.specs.declared.error.Error.{Error}
use Rattle.archive_shape_layout.specs.declared.error.Error.TheVariants.{LengthTooLarge, PositionTooLarge}
use Rattle.archive_forms_laws.specs.State.{State, Keys}
use Rattle.archive_forms_laws.specs.Spelling.{Spelling, state_after}
use Rattle.archive_forms_laws.specs.Forms.{seen_as, kept_as}
use Rattle.archive_forms_laws.specs.Links.{link_bytes, LinkFits, LinkRefused}
use Rattle.archive_forms_laws.specs.Regions.{state_after_all, values, resolvers, plain_values, all_suit, pieces, pieces_fit, pieces_refused}
use Rattle.archive_forms_laws.proofs.Agreeing.{Said, said, state_said, AgreeOn}
use Rattle.archive_btree_spelling.specs.Parted.{Parted, shares, between, parted}
use Rattle.archive_btree_spelling.specs.Written.{entry_spelling, key_own, value_own, slots, AllSlots, AnySlot, filled, LinksFit, LinksRefused, words, woven, tree_spelling}
use Rattle.archive_btree_spelling.specs.Maps.{packed_spelling, btree_spelling}

-- ---- lists of values

-- what a spelling says of the data of values, one after the other
record SaidOfAll : Type 1 where
  after : State → State
  values : State → Values
  plain : Values
  piece : State → List ℕ
  fits : State → Type 0
  refused : State → Error → Type 0
  suits : Fit → Keys → Type 0

abbrev said_of_all : {A R : Type 0} → Spelling A R → List A → SaidOfAll
said_of_all w xs = record {
  after = λ st. state_after_all w xs st;
  values = λ st. values w xs st;
  plain = plain_values w xs;
  piece = λ st. pieces w xs st;
  fits = λ st. pieces_fit w xs st;
  refused = λ st e. pieces_refused w xs st e;
  suits = λ fit keys. all_suit w fit keys xs;
}

-- the same with one more value before them
abbrev more_said : {R : Type 0} → Said R → SaidOfAll → SaidOfAll
more_said o all = record {
  after = λ st. all.after (state_said o st);
  values = λ st. more_values (o.value st) (all.values (state_said o st));
  plain = more_values o.plain all.plain;
  piece = λ st. o.piece st ++ all.piece (state_said o st);
  fits = λ st. o.piece_fits st × all.fits (state_said o st);
  refused = λ st e. o.piece_refused st e ⊎ all.refused (state_said o st) e;
  suits = λ fit keys. o.suits fit keys × all.suits fit keys;
}

all_seen : {A B R Q : Type 0} (view : B → A) (make : R → Q) (get : Q → R) (w : Spelling B Q) (u : Spelling A R) → ((y : B) → said w y ≡ said (kept_as make get u) (view y)) → (ys : List B) → said_of_all w ys ≡ said_of_all u (map view ys)
all_seen view make get w u same [] = refl
all_seen view make get w u same (y ∷ ys) = λ i. more_said (same y i) (all_seen view make get w u same ys i)

resolvers_seen : {A B R : Type 0} (view : B → A) (w : Spelling B R) (u : Spelling A R) → ((y : B) → said w y ≡ said u (view y)) → (ys : List B) (st : State) → resolvers w ys st ≡ resolvers u (map view ys) st
resolvers_seen view w u same [] st = refl
resolvers_seen view w u same (y ∷ ys) st = λ i. (same y i).resolver st ∷ resolvers_seen view w u same ys (state_said (same y i) st) i

-- ---- the items of a node, and those below its pointers

module _ {C D : Type 0} (view : D → C) where
  abbrev seen_parts : Parted D → Parted C
  seen_parts p = record { kind = p.kind; below = map (λ xs. map view xs) p.below; own = map view p.own }

  shares_seen : (most n i more : ℕ) (xs : List D) → shares most n i more (map view xs) ≡ map (λ ys. map view ys) (shares most n i more xs)
  shares_seen most n i zero xs = refl
  shares_seen most n i (suc more) xs =
      let m = child_items most n i in
      ap₂ (λ a b. a ∷ b) (take-map view m xs) (ap (shares most n (suc i) more) (drop-map view (suc m) xs) ∙ shares_seen most n (suc i) more (drop (suc m) xs))

  between_seen : (most n i more : ℕ) (xs : List D) → between most n i more (map view xs) ≡ map view (between most n i more xs)
  between_seen most n i zero xs = refl
  between_seen most n i (suc more) xs =
      let m = child_items most n i in
      ap₂ (λ a b. a ++ b) (ap (take 1) (drop-map view m xs) ∙ take-map view 1 (drop m xs)) (ap (between most n (suc i) more) (drop-map view (suc m) xs) ∙ between_seen most n (suc i) more (drop (suc m) xs))
      ∙ sym (map-append view (take 1 (drop m xs)) (between most n (suc i) more (drop (suc m) xs)))

  parted_seen : (most : ℕ) (xs : List D) → seen_parts (parted most xs) ≡ parted most (map view xs)
  parted_seen most xs =
      by_size (nat_le (length xs) most)
      ∙ ap (λ n. cond (nat_le n most) (record { kind = 0; below = []; own = map view xs }) (record { kind = 1; below = shares most n 0 most (map view xs); own = between most n 0 most (map view xs) })) (sym (length-map xs view))
    where
      n : ℕ
      n = length xs

      by_size : (b : Bool) → seen_parts (cond b (record { kind = 0; below = []; own = xs }) (record { kind = 1; below = shares most n 0 most xs; own = between most n 0 most xs }))
          ≡ cond b (record { kind = 0; below = []; own = map view xs }) (record { kind = 1; below = shares most n 0 most (map view xs); own = between most n 0 most (map view xs) })
      by_size true = refl
      by_size false = ap₂ (λ a b. record { kind = 1; below = a; own = b }) (sym (shares_seen most n 0 most xs)) (sym (between_seen most n 0 most xs))

-- ---- a node

-- what is said of the own bytes of entries, those of the keys and those of the values side by side, each from a position
-- on, where the data of the entries is written from a state on
record SaidOfSlots : Type 1 where
  keys : State → ℕ → List ℕ
  vals : State → ℕ → List ℕ
  keys_fit : State → ℕ → Type 0
  vals_fit : State → ℕ → Type 0
  keys_refused : State → ℕ → Error → Type 0
  vals_refused : State → ℕ → Error → Type 0

module _ {A B R Q : Type 0} (most : ℕ) (k v : Shape) (keys : Spelling A R) (vals : Spelling B Q) where
  abbrev entries : Spelling (A × B) (R × Q)
  entries = entry_spelling most k v keys vals

  abbrev said_of_slots : List (A × B) → SaidOfSlots
  said_of_slots xs = record {
    keys = λ st pos. slots (state_after entries) (size_of k) (key_own most k v keys vals) xs st pos;
    vals = λ st pos. slots (state_after entries) (size_of v) (value_own most k v keys vals) xs st pos;
    keys_fit = λ st pos. AllSlots (state_after entries) (size_of k) (λ x then at. keys.own_fits x.0 (keys.resolver x.0 then) at) xs st pos;
    vals_fit = λ st pos. AllSlots (state_after entries) (size_of v) (λ x then at. vals.own_fits x.1 (vals.resolver x.1 (state_after keys x.0 then)) at) xs st pos;
    keys_refused = λ st pos e. AnySlot (state_after entries) (size_of k) (λ x then at. keys.own_refused x.0 (keys.resolver x.0 then) at e) xs st pos;
    vals_refused = λ st pos e. AnySlot (state_after entries) (size_of v) (λ x then at. vals.own_refused x.1 (vals.resolver x.1 (state_after keys x.0 then)) at e) xs st pos;
  }

  -- the same with one more entry before them, whose value has that resolver
  abbrev more_slots : A × B → (State → Q) → SaidOfSlots → SaidOfSlots
  more_slots x r o = record {
    keys = λ st pos. key_own most k v keys vals x st pos ++ o.keys (state_after entries x st) (pos + size_of k);
    vals = λ st pos. vals.own x.1 (r st) pos ++ o.vals (state_after entries x st) (pos + size_of v);
    keys_fit = λ st pos. keys.own_fits x.0 (keys.resolver x.0 st) pos × o.keys_fit (state_after entries x st) (pos + size_of k);
    vals_fit = λ st pos. vals.own_fits x.1 (r st) pos × o.vals_fit (state_after entries x st) (pos + size_of v);
    keys_refused = λ st pos e. keys.own_refused x.0 (keys.resolver x.0 st) pos e ⊎ o.keys_refused (state_after entries x st) (pos + size_of k) e;
    vals_refused = λ st pos e. vals.own_refused x.1 (r st) pos e ⊎ o.vals_refused (state_after entries x st) (pos + size_of v) e;
  }

-- What is said of a node of a kind, where this is said of what is below its pointers and of where they lead, of the data
-- and the own bytes of its own entries, and of all its items. Its last words are a function of where its pointers lead,
-- and of where they lie.
abbrev said_of_node : (most : ℕ) (k v : Shape) (kind : ℕ) → SaidOfAll → (State → List (Option ℕ)) → SaidOfAll → SaidOfSlots → (List (Option ℕ) → ℕ → List ℕ) → SaidOfAll → Said (Option ℕ)
said_of_node most k v kind below roots own o last all =
    let then : State → State = λ st. own.after (below.after st) in
    let start : State → ℕ = λ st. align_up (then st).pos (link_node_align k v) in
    let size = link_node_size (words_of kind most) most k v in
    record {
      value = λ st. group (woven kind (below.values st) (own.values (below.after st)));
      plain = group all.plain;
      piece = λ st.
          below.piece st
          ++ (own.piece (below.after st)
          ++ (zeros (start st - (then st).pos)
          ++ (filled (keys_offset k) (kind ∷ [])
          ++ (filled (values_offset most k v - keys_offset k) (o.keys (below.after st) (start st + keys_offset k))
          ++ (filled (links_offset most k v - values_offset most k v) (o.vals (below.after st) (start st + values_offset most k v))
          ++ filled (size - links_offset most k v) (last (roots st) (start st + links_offset most k v)))))));
      resolver = λ st. Some (start st);
      met = λ st. (then st).met;
      own = λ root pos. link_bytes root pos;
      piece_fits = λ st.
          below.fits st
          × (own.fits (below.after st)
          × ((start st < 2 ^ 32) × (start st + size < 2 ^ 64))
          × (o.keys_fit (below.after st) (start st + keys_offset k)
          × o.vals_fit (below.after st) (start st + values_offset most k v)
          × LinksFit (roots st) (start st + links_offset most k v)));
      piece_refused = λ st e.
          below.refused st e
          ⊎ (own.refused (below.after st) e
          ⊎ (((((start st < 2 ^ 32) × (start st + size < 2 ^ 64)) → ⊥) × (e ≡ PositionTooLarge))
          ⊎ (o.keys_refused (below.after st) (start st + keys_offset k) e
          ⊎ (o.vals_refused (below.after st) (start st + values_offset most k v) e
          ⊎ LinksRefused (roots st) (start st + links_offset most k v) e))));
      own_fits = λ root pos. LinkFits root pos;
      own_refused = λ root pos e. LinkRefused root pos e;
      suits = all.suits;
    }

module _ {A B R Q : Type 0} (most : ℕ) (k v : Shape) (keys : Spelling A R) (vals : Spelling B Q) where
  -- the length of a leaf, or the pointers of an inner node, with these own entries
  abbrev last_words : ℕ → List (A × B) → List (Option ℕ) → ℕ → List ℕ
  last_words kind own roots pos = words most k v keys vals kind (record { kind = kind; roots = roots; own = own }) pos

  abbrev node_said : Spelling (List (A × B)) (Option ℕ) → Parted (A × B) → List (A × B) → Said (Option ℕ)
  node_said child p xs =
      let of_entries = said_of_all (entry_spelling most k v keys vals) in
      said_of_node most k v p.kind (said_of_all child p.below) (λ st. resolvers child p.below st) (of_entries p.own) (said_of_slots most k v keys vals p.own) (last_words p.kind p.own) (of_entries xs)

-- what is said of a map with that number of entries, where this is said of its tree and of its entries
abbrev said_of_map : ℕ → Said (Option ℕ) → SaidOfAll → Said (Option ℕ)
said_of_map count tree all = record {
  value = tree.value;
  plain = group all.plain;
  piece = tree.piece;
  resolver = tree.resolver;
  met = tree.met;
  own = λ root pos. link_bytes root pos ++ to_le_bytes w32 count;
  piece_fits = tree.piece_fits;
  piece_refused = tree.piece_refused;
  own_fits = λ root pos. LinkFits root pos × (count < 2 ^ 32);
  own_refused = λ root pos e. LinkRefused root pos e ⊎ ((2 ^ 32 ≤ count) × (e ≡ LengthTooLarge));
  suits = all.suits;
}

-- ---- maps

-- an entry whose key and value are seen as others
abbrev pub seen_entry : {A B C D : Type 0} → (C → A) → (D → B) → C × D → A × B
seen_entry f g e = (f e.0, g e.1)

module _ {A B C D R Q S : Type 0} (most : ℕ) (k v : Shape) (f : C → A) (g : D → B) (make : Q → S) (get : S → Q) (back : (r : Q) → get (make r) ≡ r) (keys : Spelling A R) (vals : Spelling B Q) where
  abbrev view : C × D → A × B
  view = seen_entry f g

  -- a value is seen as another, and its resolver is kept as another
  abbrev as_other : Spelling D S
  as_other = kept_as make get (seen_as g vals)

  entries_seen : (xs : List (C × D)) → said_of_all (entry_spelling most k v (seen_as f keys) as_other) xs ≡ said_of_all (entry_spelling most k v keys vals) (map view xs)
  entries_seen xs =
      all_seen view (λ r. (r.0, make r.1)) (λ r. (r.0, get r.1)) (entry_spelling most k v (seen_as f keys) as_other) (entry_spelling most k v keys vals) (λ x. refl) xs

  slots_seen : (xs : List (C × D)) → said_of_slots most k v (seen_as f keys) as_other xs ≡ said_of_slots most k v keys vals (map view xs)
  slots_seen [] = refl
  slots_seen (x ∷ xs) = λ i. more_slots most k v keys vals (view x) (λ st. back (vals.resolver (g x.1) (state_after keys (f x.0) st)) i) (slots_seen xs i)

  words_seen : (kind : ℕ) (xs : List (C × D)) → last_words most k v (seen_as f keys) as_other kind xs ≡ last_words most k v keys vals kind (map view xs)
  words_seen zero xs = λ i roots pos. to_le_bytes w32 (sym (length-map xs view) i)
  words_seen (suc kind) xs = refl

  -- so a node, where what is below its pointers is archived so
  tree_seen :
      (below : Spelling (List (C × D)) (Option ℕ)) (child : Spelling (List (A × B)) (Option ℕ)) → ((ys : List (C × D)) → said below ys ≡ said child (map view ys))
      → (xs : List (C × D)) → said (tree_spelling most k v (seen_as f keys) as_other below) xs ≡ said (tree_spelling most k v keys vals child) (map view xs)
  tree_seen below child same [] = refl
  tree_seen below child same (x ∷ xs) = by_parts (parted most (x ∷ xs)) ∙ ap (λ p. node_said most k v keys vals child p (map view (x ∷ xs))) (parted_seen view most (x ∷ xs))
    where
      by_parts : (p : Parted (C × D)) → node_said most k v (seen_as f keys) as_other below p (x ∷ xs) ≡ node_said most k v keys vals child (seen_parts view p) (map view (x ∷ xs))
      by_parts p = λ i.
          let roots : State → List (Option ℕ) = λ st. resolvers_seen (λ ys. map view ys) below child same p.below st i in
          said_of_node most k v p.kind (all_seen (λ ys. map view ys) (λ r. r) (λ r. r) below child same p.below i) roots (entries_seen p.own i) (slots_seen p.own i) (words_seen p.kind p.own i) (entries_seen (x ∷ xs) i)

  packed_seen : (levels : ℕ) (xs : List (C × D)) → said (packed_spelling most k v (seen_as f keys) as_other levels) xs ≡ said (packed_spelling most k v keys vals levels) (map view xs)
  packed_seen zero xs = refl
  packed_seen (suc levels) xs = tree_seen (packed_spelling most k v (seen_as f keys) as_other levels) (packed_spelling most k v keys vals levels) (packed_seen levels) xs

  -- the map of entries that are seen as others is archived as the map of those
  pub btree_seen : (xs : List (C × D)) → said (btree_spelling most k v (seen_as f keys) as_other) xs ≡ said (btree_spelling most k v keys vals) (map (seen_entry f g) xs)
  btree_seen xs =
      let long : length xs ≡ length (map view xs) = sym (length-map xs view) in
      (λ i. said_of_map (long i) (packed_seen (levels_for most (length xs)) xs i) (entries_seen xs i))
      ∙ (λ i. said_of_map (length (map view xs)) (said (packed_spelling most k v keys vals (levels_for most (long i))) (map view xs)) (said_of_all (entry_spelling most k v keys vals) (map view xs)))

-- ---- spellings of values that agree

-- the numbers of the items of a list, counted from n, twice each
abbrev numbers_from : {X : Type 0} → ℕ → List X → List (ℕ × ℕ)
numbers_from n [] = []
numbers_from n (y ∷ ys) = (n, n) ∷ numbers_from (suc n) ys

-- the pairs with these numbers are those of the list
picked : {A B : Type 0} (pick : ℕ → A × B) (d : A × B) (n : ℕ) (ys : List (A × B)) → ((i : ℕ) → pick (n + i) ≡ get_or ys i d) → map (seen_entry (λ i. (pick i).0) (λ i. (pick i).1)) (numbers_from n ys) ≡ ys
picked pick d n [] h = refl
picked pick d n (y ∷ ys) h =
    let none : n + 0 ≡ n = omega arith in
    let first : pick n ≡ y = ap pick (sym none) ∙ h 0 in
    let rest = picked pick d (suc n) ys (λ i. let next : suc n + i ≡ n + suc i = omega arith in ap pick next ∙ h (suc i)) in
    λ i. first i ∷ rest i

module _ {A B R Q : Type 0} (most : ℕ) (k v : Shape) (keys : Spelling A R) (w u : Spelling B Q) where
  each_agrees : (es : List (A × B)) (d : A × B) → AgreeOn w u (map (λ (e : A × B). e.1) es) → said w d.1 ≡ said u d.1 → (i : ℕ) → said w (get_or es i d).1 ≡ said u (get_or es i d).1
  each_agrees [] d agree last i = last
  each_agrees (x ∷ es) d agree last zero = agree.0
  each_agrees (x ∷ es) d agree last (suc i) = each_agrees es d agree.1 last i

  one_spelling : (value_of : ℕ → B) → ((i : ℕ) → said w (value_of i) ≡ said u (value_of i)) → seen_as value_of w ≡ seen_as value_of u
  one_spelling value_of each = λ j. record {
    value = λ i st. (each i j).value st;
    plain = λ i. (each i j).plain;
    piece = λ i st. (each i j).piece st;
    resolver = λ i st. (each i j).resolver st;
    met = λ i st. (each i j).met st;
    own = λ i r pos. (each i j).own r pos;
    piece_fits = λ i st. (each i j).piece_fits st;
    piece_refused = λ i st e. (each i j).piece_refused st e;
    own_fits = λ i r pos. (each i j).own_fits r pos;
    own_refused = λ i r pos e. (each i j).own_refused r pos e;
    suits = λ fit given i. (each i j).suits fit given;
  }

  -- spellings that say the same of each value of a map say the same of the map: each entry is seen as its number
  pub btree_agrees : (es : List (A × B)) → AgreeOn w u (map (λ (e : A × B). e.1) es) → said (btree_spelling most k v keys w) es ≡ said (btree_spelling most k v keys u) es
  btree_agrees [] agree = refl
  btree_agrees (x ∷ xs) agree =
      let es : List (A × B) = x ∷ xs in
      let pick : ℕ → A × B = λ i. get_or es i x in
      let key_of : ℕ → A = λ i. (pick i).0 in
      let value_of : ℕ → B = λ i. (pick i).1 in
      let numbers = numbers_from 0 es in
      let listed : map (seen_entry key_of value_of) numbers ≡ es = picked pick x 0 es (λ i. let none : 0 + i ≡ i = omega arith in ap pick none) in
      ap (said (btree_spelling most k v keys w)) (sym listed)
      ∙ sym (btree_seen most k v key_of value_of (λ r. r) (λ r. r) (λ r. refl) keys w numbers)
      ∙ ap (λ s. said (btree_spelling most k v (seen_as key_of keys) s) numbers) (one_spelling value_of (each_agrees es x agree agree.0))
      ∙ btree_seen most k v key_of value_of (λ r. r) (λ r. r) (λ r. refl) keys u numbers
      ∙ ap (said (btree_spelling most k v keys u)) listed
