-- A search of a kept map for a key finds the entry that the audit's look-up finds.
use Rattle.std.proofs.Common.{◌≡◌, ℕ, zero, suc, ◌+◌, ◌*◌, ◌<◌, Bool, List, [], ◌∷◌, length, map, filter, nat_lt, true, slice_index, Option, Some, None, All, cond, ◌==◌, ◌≤◌, false, eqb-true, eq-eqb, refl, sym, ap, subst, ◌∙◌, arith, lt-ltb}
use Rattle.std.specs.Prelude.{slice_index_or}
use Rattle.std.specs.List.{Contains, range_with_len, slice_get}
use Rattle.std.specs.Option.{option_map}
use Rattle.std.proofs.lemmas.List.Elements.{All-head, All-tail}
use Rattle.archive_shape_layout.specs.Bytes.{word_at}
use Rattle.archive_shape_layout.specs.Shape.{size_of}
use Rattle.archive_shape_layout.specs.Shape.Shape.{text}
use Rattle.archive_forms_laws.specs.Sample.{number_shape}
use Rattle.archive_shape_canonical.specs.FirstFit.{hash_tag}
use Rattle.archive_shape_canonical.specs.Hash.{text_hash}
use Rattle.archive_shape_canonical.specs.Reach.{searched}
use Rattle.archive_shape_canonical.specs.Strides.{strides}
use Rattle.archive_hash_maps.specs.Tables.{Buckets, full_places, item_position, item_positions}
use Rattle.cabinet_documents.specs.Audit.{kept_faults}
use Rattle.cabinet_documents.specs.Node.{node_shape, pair_shape}
use Rattle.cabinet_documents.specs.Order.{is_same}
use Rattle.cabinet_documents.specs.Table.{Slot, Table, Findable, entry_of, found, numbered}
use Rattle.archive_index.specs.Lookups.{AnswersEntry}
use Rattle.archive_index.specs.Maps.{IndexMap, IsMapAt, adjacent, count_of, entry_position, entry_positions}
use Rattle.cabinet_documents.proofs.FoundKeys.{from_map, kept_is_findable}
use Rattle.archive_index.proofs.Walk.{walk_length}
use Rattle.cabinet_archives.specs.Cost.{strides_to}
use Rattle.cabinet_archives.specs.Keyed.{SaysKey}
use Rattle.cabinet_archives.proofs.Pairs.{got_read}
use Rattle.cabinet_archives.proofs.SlotLookups as slots
use Rattle.cabinet_archives.proofs.SlotLookups.{FoundPlace, found_place}
use Rattle.cabinet_archives.proofs.TableLookups.{said_apart}
use Rattle.cabinet_archives.proofs.Tables.{slot_of, index_table, number_of, numbered_key}
use Rattle.cabinet_archives.proofs.Texts.{text_at, text_is}

-- ---- positions side by side

pub position_at : (size at n i : ℕ) → i < n → slice_get (adjacent size at n) i ≡ Some (at + i * size)
position_at size at zero i less = absurd (omega (arith, less))
position_at size at (suc n) zero less = let same : at ≡ at + 0 * size = omega arith in ap Some same
position_at size at (suc n) (suc i) less =
    let same : at + size + i * size ≡ at + suc i * size = omega arith in
    position_at size (at + size) n i (omega (arith, less)) ∙ ap Some same

pub at_position : (size at n i p : ℕ) → slice_get (adjacent size at n) i ≡ Some p → (i < n) × (p ≡ at + i * size)
at_position size at zero i p e = absurd (cc)
at_position size at (suc n) zero p e = let same : at ≡ p = cc in (omega arith, omega (arith, same))
at_position size at (suc n) (suc i) p e =
    let r = at_position size (at + size) n i p e in
    let less = r.0 in
    let is = r.1 in
    (omega (arith, less), omega (arith, is))

pub read_position : {A : Type 0} (f : ℕ → A) (d : A) (size at n i : ℕ) → i < n → slice_index_or (map f (adjacent size at n)) i d ≡ f (at + i * size)
read_position f d size at zero i less = absurd (omega (arith, less))
read_position f d size at (suc n) zero less = let same : at ≡ at + 0 * size = omega arith in ap f same
read_position f d size at (suc n) (suc i) less =
    let same : at + size + i * size ≡ at + suc i * size = omega arith in
    read_position f d size (at + size) n i (omega (arith, less)) ∙ ap f same

-- ---- what holds of each of a list

all_got : {A : Type 0} (P : A → Type 0) (xs : List A) (i : ℕ) (x : A) → All P xs → slice_get xs i ≡ Some x → P x
all_got P [] i x h e = absurd (cc)
all_got P (y ∷ ys) zero x h e = let same : y ≡ x = cc in subst P same (All-head P y ys h)
all_got P (y ∷ ys) (suc i) x h e = all_got P ys i x (All-tail P y ys h) e

got_contained : {A : Type 0} (xs : List A) (x : A) → Contains xs x → (i : ℕ) × (slice_get xs i ≡ Some x)
got_contained [] x c = let a = c.1 in absurd (omega (arith, a))
got_contained (y ∷ ys) x (zero, a, is) = (0, ap Some is)
got_contained (y ∷ ys) x (suc i, a, is) = let r = got_contained ys x (i, omega (arith, a), is) in (suc r.0, r.1)

numbered_there : (ks : List (List ℕ)) (i n number : ℕ) → number ≡ i + n → n < length ks → Contains (numbered i ks) (record { number = number; key = slice_index_or ks n [] })
numbered_there [] i n number is less = absurd (omega (arith, less))
numbered_there (k ∷ ks) i zero number is less = let same : i ≡ number = omega (arith, is) in (0, omega arith, ap (λ x. record { number = x; key = k }) same)
numbered_there (k ∷ ks) i (suc n) number is less =
    let r = numbered_there ks (i + 1) n number (omega (arith, is)) (omega (arith, less)) in
    let a = r.1 in
    (suc r.0, omega (arith, a), r.2)

-- ---- full places

module _ (b : Buckets) where
  abbrev full_between : ℕ → ℕ → List ℕ
  full_between i n = filter (λ p. nat_lt (slice_index b.controls p) 128) (range_with_len i n)

  full_got : (n i p : ℕ) → i ≤ p → p < i + n → nat_lt (slice_index b.controls p) 128 ≡ true → (k : ℕ) × (slice_get (full_between i n) k ≡ Some p)
  full_got zero i p low high full = absurd (omega (arith, low, high))
  full_got (suc n) i p low high full =
      by (i == p) refl (nat_lt (slice_index b.controls i) 128) refl (λ less. full_got n (i + 1) p (omega (arith, less)) (omega (arith, high)) full)
    where
      by : (t : Bool) → (i == p) ≡ t → (f : Bool) → nat_lt (slice_index b.controls i) 128 ≡ f → (i < p → (k : ℕ) × (slice_get (full_between (i + 1) n) k ≡ Some p)) → (k : ℕ) × (slice_get (full_between i (suc n)) k ≡ Some p)
      by true e true f later =
          let same : i ≡ p = eqb-true i p e in
          (0, ap (λ t. slice_get (cond t (i ∷ full_between (i + 1) n) (full_between (i + 1) n)) 0) f ∙ ap Some same)
      by true e false f later =
          let same : i ≡ p = eqb-true i p e in
          let here : nat_lt (slice_index b.controls i) 128 ≡ true = ap (λ x. nat_lt (slice_index b.controls x) 128) same ∙ full in
          absurd (cc)
      by false e true f later =
          let apart : i ≡ p → ⊥ = λ same. (let u = eq-eqb i p same in let v : true ≡ false = sym u ∙ e in cc) in
          let r = later (omega (arith, apart, low)) in
          (suc r.0, ap (λ t. slice_get (cond t (i ∷ full_between (i + 1) n) (full_between (i + 1) n)) (suc r.0)) f ∙ r.1)
      by false e false f later =
          let apart : i ≡ p → ⊥ = λ same. (let u = eq-eqb i p same in let v : true ≡ false = sym u ∙ e in cc) in
          let r = later (omega (arith, apart, low)) in
          (r.0, ap (λ t. slice_get (cond t (i ∷ full_between (i + 1) n) (full_between (i + 1) n)) r.0) f ∙ r.1)

-- ---- the table of a map's numbers, with the keys of its entries

module _ (bytes : List ℕ) (m : IndexMap) where
  abbrev pub position : ℕ → ℕ
  position i = entry_position text node_shape m i

  abbrev pub key_texts : List (List ℕ)
  key_texts = map (text_at bytes) (entry_positions text node_shape m)

  abbrev pub key_table : Table
  key_table = index_table bytes key_texts m.buckets

  abbrev pub number_at : ℕ → ℕ
  number_at p = number_of bytes key_texts m.buckets p

  abbrev pub key_at : ℕ → List ℕ
  key_at p = numbered_key bytes key_texts m.buckets p

  pub key_count : length key_texts ≡ count_of m
  key_count = walk_length (text_at bytes) (size_of pair_shape) m.start (count_of m)

  pub key_is : (i : ℕ) → i < count_of m → slice_index_or key_texts i [] ≡ text_at bytes (position i)
  key_is i less = read_position (text_at bytes) [] (size_of pair_shape) m.start (count_of m) i less

  -- an entry is to be found under its number
  pub entry_there : (i : ℕ) → i < count_of m → Contains (numbered 0 key_texts) (record { number = i; key = slice_index_or key_texts i [] })
  entry_there i less = let count = key_count in numbered_there key_texts 0 i i (omega arith) (omega (arith, less, count))

  module _ (pos : ℕ) (at : IsMapAt bytes text node_shape pos m) where
    number_low : (k p : ℕ) → slice_get (full_places m.buckets) k ≡ Some p → number_at p < count_of m
    number_low k p e =
        all_got (λ x. word_at bytes x < count_of m) (item_positions number_shape m.buckets) k (item_position number_shape m.buckets.target p) at.numbers
        (got_read (item_position number_shape m.buckets.target) (full_places m.buckets) k p e)

    -- each full place has the number of an entry
    pub full_number : (p : ℕ) → p < m.buckets.cap → slice_index m.buckets.controls p < 128 → number_at p < count_of m
    full_number p low full = let k = full_got m.buckets m.buckets.cap 0 p (omega arith) (omega (arith, low)) (lt-ltb (slice_index m.buckets.controls p) 128 full) in number_low k.0 p k.1

    names : (s : Slot) → Contains key_table.slots s → Contains key_table.entries (entry_of s)
    names s c =
        let f = from_map (slot_of number_at key_at) (full_places m.buckets) s c in
        let k = got_contained (full_places m.buckets) f.it f.among in
        subst (λ x. Contains key_table.entries (entry_of x)) f.is (entry_there (number_at f.it) (number_low k.0 f.it k.1))

    pub key_findable : kept_faults key_table ≡ [] → Findable key_table
    key_findable none = kept_is_findable key_table names none

    module _ (key : List ℕ) where
      abbrev pub FoundEntry : ℕ → Type 0
      FoundEntry q = FoundPlace number_at key_at m.buckets key_table.entries key q

      pub found_entry : (q : ℕ) → found key_table key ≡ Some q → FoundEntry q
      found_entry q e = found_place number_at key_at m.buckets key_table.entries key q e

      -- what is found has the number of an entry
      pub found_low : (q : ℕ) → found key_table key ≡ Some q → number_at q < count_of m
      found_low q e = let f = (found_entry q e).first in number_low f.index q f.there

      -- where each key is found, so is an entry with this one, by its number
      pub finds_number : Findable key_table → (i : ℕ) → i < count_of m → text_at bytes (position i) ≡ key → slots.FoundNumber number_at key_at m.buckets key_table.entries key i
      finds_number all i less is =
          slots.entry_found number_at key_at m.buckets key_table.entries key all (record { number = i; key = slice_index_or key_texts i [] }) (entry_there i less) (key_is i less ∙ is)

      -- ---- what a search finds

      module _ (low : hash_tag (text_hash key) < 128) where
        means : (p : ℕ) (x : Bool) → p < m.buckets.cap → slice_index m.buckets.controls p < 128 → SaysKey bytes key (position (number_at p)) x → x ≡ is_same (key_at p) key
        means p x less full says =
            says.2 ∙ ap (λ k. is_same k key) (text_is bytes (position (number_at p)) says.0 says.1 ∙ sym (key_is (number_at p) (full_number p less full)))

        pub search_is : (result : Option ℕ) (n : ℕ) → AnswersEntry bytes text node_shape m (SaysKey bytes key) (λ i. i) (text_hash key) result n → result ≡ option_map number_at (found key_table key)
        search_is result n a =
            let e = slots.search_is number_at key_at m.buckets key_table.entries key low number_shape (λ x. SaysKey bytes key (position (word_at bytes x))) means bytes pos at.table a.position n a.looks_up in
            a.is ∙ (ap (option_map (word_at bytes)) e ∙ twice (found key_table key))
          where
            twice : (o : Option ℕ) → option_map (word_at bytes) (option_map (item_position number_shape m.buckets.target) o) ≡ option_map number_at o
            twice None = refl
            twice (Some q) = refl

        -- how many strides it searches
        pub strides_are : (result : Option ℕ) (n : ℕ) → AnswersEntry bytes text node_shape m (SaysKey bytes key) (λ i. i) (text_hash key) result n
            → n ≡ strides_to m.buckets.cap (found key_table key) (searched m.buckets.controls (strides (text_hash key) m.buckets.cap))
        strides_are result n a =
            slots.strides_are number_at key_at m.buckets key_table.entries key low number_shape (λ x. SaysKey bytes key (position (word_at bytes x))) means
            (λ x. said_apart bytes key (position (word_at bytes x))) bytes pos at.table a.position n a.looks_up
