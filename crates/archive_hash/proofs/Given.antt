-- What is written of entries that an iterator returns is written of their keys and values.
use Rattle.std.proofs.Common.{◌≡◌, ◌∙◌, ℕ, List, [], ◌∷◌, ◌<◌, map, All, refl, ap, sym, subst, inl, inr, Option, Result, Err}
use Rattle.std.specs.Iterator.{Yields, Drains}
use Rattle.std.specs.List.{AllZip}
use Rattle.std.specs.Map.Iter.{deref_pair}
use Rattle.std.specs.Option.{option_map}
use Rattle.std.proofs.lemmas.List.{length-map, get_or-map}
use denote.Bor.{Bor}
use Rattle.archive_shape_layout.specs.Shape.{Shape}
use Rattle.archive_shape_layout.specs.Writing.{WriterMembers}
use Rattle.archive_shape_layout.specs.declared.error.Error.{Error}
use Rattle.archive_shape_layout.specs.declared.error.Error.TheVariants.{IteratorLengthMismatch}
use Rattle.archive_forms_values.specs.Tuples.{tuple2}
use Rattle.archive_forms_laws.specs.Spelling.{Spelling}
use Rattle.archive_forms_laws.specs.Forms.{seen_as}
use Rattle.archive_forms_laws.specs.Fields.{tuple2_spelling}
use Rattle.archive_forms_laws.specs.Taking.{GivesAs}
use Rattle.archive_forms_laws.proofs.Agreeing.{Said, said, serializes_alike}
use Rattle.archive_forms_writing.specs.declared.collections.entry.EntryAdapter.{EntryAdapter}
use Rattle.archive_forms_writing.specs.declared.collections.entry.EntryResolver.{EntryResolver}
use Rattle.archive_forms_writing.specs.Entries.{entry_spelling}
use Rattle.archive_forms_writing.specs.Steps.{IsElement}
use Rattle.archive_hash_maps.specs.declared.map.resolving.HashTableResolver.{HashTableResolver}
use Rattle.archive_hash_writing.specs.Claimed.{WritesClaimed, WritesHashed, WritesTable, written_spelling}
use Rattle.archive_hash.specs.Given.{WritesEntries, entry_of, pair_of, key_entry}
use Rattle.archive_hash_writing.proofs.Seen.{hashed_seen}

-- ---- what comes

module _ {A B I J : Type 0} (gives : I → Option (Bor A × Bor B) → I → Type 0) (see : J → I) where
  -- a call returns the next key and value as an entry
  abbrev GivesEntry : J → Option (EntryAdapter A B) → J → Type 0
  GivesEntry s r t = gives (see s) (option_map pair_of r) (see t)

  came : (from to : J) (es : List (EntryAdapter A B)) → Yields GivesEntry from es to → Yields (GivesAs deref_pair gives) (see from) (map entry_of es) (see to)
  came from to [] h = ap see h
  came from to (e ∷ es) h = (see h.0, (pair_of e, h.1, refl), came h.0 to es h.2)

  pub entries_came : (from : J) (es : List (EntryAdapter A B)) → Drains GivesEntry from es → Drains (GivesAs deref_pair gives) (see from) (map entry_of es)
  entries_came from es d = (see d.0, (see d.1.0, came from d.1.0 es d.1.1, d.1.2))

-- the entries that come of keys are the keys beside units
module _ {A I J : Type 0} (gives : I → Option (Bor A) → I → Type 0) (see : J → I) where
  abbrev GivesKey : J → Option (EntryAdapter A (Unit {0})) → J → Type 0
  GivesKey s r t = gives (see s) (option_map (λ e. e.key) r) (see t)

  keys_yielded : (from to : J) (es : List (EntryAdapter A (Unit {0}))) → Yields GivesKey from es to → Yields (GivesAs key_entry gives) (see from) (map entry_of es) (see to)
  keys_yielded from to [] h = ap see h
  keys_yielded from to (e ∷ es) h = (see h.0, (e.key, h.1, refl), keys_yielded h.0 to es h.2)

  pub keys_came : (from : J) (es : List (EntryAdapter A (Unit {0}))) → Drains GivesKey from es → Drains (GivesAs key_entry gives) (see from) (map entry_of es)
  keys_came from es d = (see d.0, (see d.1.0, keys_yielded from d.1.0 es d.1.1, d.1.2))

-- an element of them is one of those that a step may be called for
pub element_taken : {A B : Type 0} (P : A × B → Type 0) (es : List (EntryAdapter A B)) (x : EntryAdapter A B) → All P (map entry_of es) → IsElement es x → P (entry_of x)
element_taken P es x all el =
    let there = all el.0 (entry_of x) (subst (λ n. el.0 < n) (sym (length-map es entry_of)) el.1) in
    subst P (get_or-map entry_of es el.0 x (entry_of x) el.1 ∙ ap entry_of (sym el.2)) there

-- ---- what is written

-- the hashes of items that are seen as others
pub hashes_seen : {A B : Type 0} (view : B → A) (other : B → ℕ → Type 0) (hashes : A → ℕ → Type 0) → ((x : B) (h : ℕ) → other x h → hashes (view x) h) → (xs : List B) (hs : List ℕ) → AllZip other xs hs → AllZip hashes (map view xs) hs
hashes_seen view other hashes each [] [] all = all
hashes_seen view other hashes each [] (h ∷ hs) all = absurd all
hashes_seen view other hashes each (x ∷ xs) [] all = absurd all
hashes_seen view other hashes each (x ∷ xs) (h ∷ hs) all = (each x h all.0, hashes_seen view other hashes each xs hs all.1)

-- entries are written as their keys and values, where a spelling says the same of the ones as another says of the others
module _ {A B P W : Type 0} (load : ℕ × ℕ) (seen : List ℕ → Spelling (List (EntryAdapter A B)) P) (spelled : List ℕ → Spelling (List (A × B)) P)
    (alike : (hs : List ℕ) (es : List (EntryAdapter A B)) → said (seen hs) es ≡ said (seen_as (map entry_of) (spelled hs)) es) (s : WriterMembers W)
    (other : EntryAdapter A B → ℕ → Type 0) (hash : A → ℕ) (each : (e : EntryAdapter A B) (h : ℕ) → other e h → h ≡ hash e.key.now) (claimed : ℕ) (old new : W) (result : Result P Error) where
  claimed_of : (es : List (EntryAdapter A B)) → WritesClaimed seen s other claimed es old new result → WritesClaimed spelled s (λ e h. h ≡ hash e.0) claimed (map entry_of es) old new result
  claimed_of es (inl w) = inl (
    length-map es entry_of ∙ w.0,
    w.1,
    hashes_seen entry_of other (λ e h. h ≡ hash e.0) each es w.1 w.2,
    serializes_alike (seen w.1) (seen_as (map entry_of) (spelled w.1)) es (alike w.1 es) s old new result w.3,
  )
  claimed_of es (inr w) = inr (λ e. w.0 (sym (length-map es entry_of) ∙ e), subst (λ n. result ≡ Err (IteratorLengthMismatch claimed n)) (sym (length-map es entry_of)) w.1, w.2)

  pub pairs_written : (came : List (EntryAdapter A B) → Type 0) (comes : List (A × B) → Type 0) → ((es : List (EntryAdapter A B)) → came es → comes (map entry_of es))
      → WritesHashed came load seen s other claimed old new result
      → WritesHashed comes load spelled s (λ e h. h ≡ hash e.0) claimed old new result
  pairs_written came comes all (inl r) = inl r
  pairs_written came comes all (inr (load_is, inl r)) = inr (load_is, inl r)
  pairs_written came comes all (inr (load_is, inr w)) = inr (load_is, inr (map entry_of w.0, all w.0 w.1, claimed_of w.0 w.2))

module _ {A B R Q W : Type 0} (load : ℕ × ℕ) (k v : Shape) (keys : Spelling A R) (vals : Spelling B Q) (s : WriterMembers W) where
  entries_said : (hs : List ℕ) (es : List (EntryAdapter A B)) → said (written_spelling load (tuple2 k v) (entry_spelling k keys v vals) hs) es ≡ said (seen_as (map entry_of) (written_spelling load (tuple2 k v) (tuple2_spelling k keys v vals) hs)) es
  entries_said hs es =
      let kept : Said (Option ℕ) → Said HashTableResolver = λ o. record {
        value = o.value;
        plain = o.plain;
        piece = o.piece;
        resolver = λ st. record { pos = o.resolver st };
        met = o.met;
        own = λ r pos. o.own r.pos pos;
        piece_fits = o.piece_fits;
        piece_refused = o.piece_refused;
        own_fits = λ r pos. o.own_fits r.pos pos;
        own_refused = λ r pos e. o.own_refused r.pos pos e;
        suits = o.suits;
      }
      in
      ap kept (hashed_seen {Q = EntryResolver R Q} (tuple2 k v) entry_of (λ r. record { key = r.0; value = r.1 }) (λ r. (r.key, r.value)) (λ r. refl) (tuple2_spelling k keys v vals) load.0 load.1 hs es)

  module _ (other : EntryAdapter A B → ℕ → Type 0) (hash : A → ℕ) (each : (e : EntryAdapter A B) (h : ℕ) → other e h → h ≡ hash e.key.now) (claimed : ℕ) (old new : W) (result : Result HashTableResolver Error) where
    -- the table of the entries is that of their keys and values
    pub entries_written : (came : List (EntryAdapter A B) → Type 0) (comes : List (A × B) → Type 0) → ((es : List (EntryAdapter A B)) → came es → comes (map entry_of es))
        → WritesTable came load (tuple2 k v) (entry_spelling k keys v vals) s other claimed old new result
        → WritesEntries comes hash load k v keys vals s claimed old new result
    entries_written came comes all h =
        pairs_written load (written_spelling load (tuple2 k v) (entry_spelling k keys v vals)) (written_spelling load (tuple2 k v) (tuple2_spelling k keys v vals)) entries_said s other hash each claimed old new result came comes all h
