-- The table of the numbers of entries, and the entries after it, as they are written.
use Rattle.std.proofs.Common.{◌≡◌, ◌∙◌, ℕ, ◌+◌, ◌^◌, ◌≤◌, List, [], ◌∷◌, ◌++◌, length, map, refl, sym, ap, subst, arith, inl, inr, ◌⊎◌, Some, None, Ok, add-zero}
use Rattle.std.specs.Prelude.{Result}
use Rattle.std.specs.List.{AllZip, each_same}
use Rattle.std.proofs.lemmas.List.FromFn.{length-range_with_len}
use Rattle.archive_shape_layout.specs.Shape.{Shape}
use Rattle.archive_shape_canonical.specs.FirstFit.{capacity_for}
use Rattle.archive_shape_layout.specs.Writing.{WriterMembers}
use Rattle.archive_shape_layout.specs.declared.error.Error.{Error}
use Rattle.archive_shape_layout.specs.declared.error.Error.TheVariants.{InvalidLoadFactor, LengthTooLarge, OutOfMemory}
use Rattle.archive_shape_layout.proofs.Joined.{written_none}
use Rattle.archive_forms_laws.specs.Sample.{number_shape, number_spelling}
use Rattle.archive_forms_laws.specs.State.{State}
use Rattle.archive_forms_laws.specs.Spelling.{Spelling, state_after}
use Rattle.archive_forms_laws.specs.Pointers.{slice_spelling}
use Rattle.archive_forms_laws.specs.Serializing.{IsAt, Serializes, of_data}
use Rattle.archive_forms_writing.proofs.Laying.{Wrote, Stops, wrote_both, stopped_after, stopped_first, stopped_before}
use Rattle.archive_hash_probing.specs.Loads.{IsLoadFactor}
use Rattle.archive_hash_maps.specs.declared.map.resolving.HashTableResolver.{HashTableResolver}
use Rattle.archive_hash_writing.specs.Claimed.{written_spelling}
use Rattle.archive_hash_writing.proofs.SpellingFitting.{length-table}
use Rattle.archive_hash_writing.specs.IndexMaps.{numbers}
use Rattle.archive_hash_writing.specs.declared.index.resolver.IndexMapResolver.{IndexMapResolver}
use Rattle.archive_hash.proofs.Given.{hashes_seen}
use Rattle.archive_hash_writing.specs.IndexResolvers.{written_map}

module _ {A R W : Type 0} (load : ℕ × ℕ) (sh : Shape) (w : Spelling A R) (hashes : List ℕ) (s : WriterMembers W) where
  abbrev spelled : Spelling (List A) IndexMapResolver
  spelled = written_map load sh w hashes

  abbrev table : Spelling (List ℕ) HashTableResolver
  table = written_spelling load number_shape number_spelling hashes

  abbrev entries : Spelling (List A) ℕ
  entries = slice_spelling sh w

  -- no entries are written as nothing
  pub nothing_written : (xs : List A) (old : W) → length xs ≡ 0 → Serializes spelled s xs old old (Ok (record { table = record { pos = None }; entries = None }))
  nothing_written [] old e st at = (written_none old, (refl, tt, record { stands = at.stands ∙ sym (add-zero st.pos); knows = at.knows }))
  nothing_written (x ∷ xs) old e st at = absurd (omega (arith, e))

  -- what is promised of these numbers is promised of those of the entries
  pub of_numbers : (xs : List A) (ns : List ℕ) → ns ≡ numbers xs → (old new : W) (result : Result HashTableResolver Error) → Serializes table s ns old new result → Serializes table s (numbers xs) old new result
  of_numbers xs ns is old new result h = subst (λ l. Serializes table s l old new result) is h

  -- ---- a map of some entries

  module _ (xs : List A) (some : length xs ≡ 0 → ⊥) (st : State) where
    -- the state when the table is written
    abbrev pub behind : State
    behind = state_after table (numbers xs) st

    piece_is : spelled.piece xs st ≡ table.piece (numbers xs) st ++ entries.piece xs behind
    piece_is = elim xs as (λ ys. (length ys ≡ 0 → ⊥) → spelled.piece ys st ≡ table.piece (numbers ys) st ++ entries.piece ys (state_after table (numbers ys) st)) [ [] ↦ λ h. absurd (h refl) | x ∷ xs ↦ λ h. refl ] some

    table_refused : (e : Error) → table.piece_refused (numbers xs) st e → spelled.piece_refused xs st e
    table_refused e = elim xs as (λ ys. (length ys ≡ 0 → ⊥) → table.piece_refused (numbers ys) st e → spelled.piece_refused ys st e) [ [] ↦ λ h r. absurd (h refl) | x ∷ xs ↦ λ h r. inl r ] some

    entries_refused : (e : Error) → entries.piece_refused xs behind e → spelled.piece_refused xs st e
    entries_refused e = elim xs as (λ ys. (length ys ≡ 0 → ⊥) → entries.piece_refused ys (state_after table (numbers ys) st) e → spelled.piece_refused ys st e) [ [] ↦ λ h r. absurd (h refl) | x ∷ xs ↦ λ h r. inr r ] some

    fits_so : table.piece_fits (numbers xs) st → entries.piece_fits xs behind → spelled.piece_fits xs st
    fits_so = elim xs as (λ ys. (length ys ≡ 0 → ⊥) → table.piece_fits (numbers ys) st → entries.piece_fits ys (state_after table (numbers ys) st) → spelled.piece_fits ys st) [ [] ↦ λ h f g. absurd (h refl) | x ∷ xs ↦ λ h f g. (f, g) ] some

    made_so : (r : HashTableResolver) (to : ℕ) → r ≡ table.resolver (numbers xs) st → to ≡ entries.resolver xs behind → record { table = r; entries = Some to } ≡ spelled.resolver xs st
    made_so r to e f = (λ i. record { table = e i; entries = Some (f i) }) ∙ elim xs as (λ ys. (length ys ≡ 0 → ⊥) → record { table = table.resolver (numbers ys) st; entries = Some (entries.resolver ys (state_after table (numbers ys) st)) } ≡ spelled.resolver ys st) [ [] ↦ λ h. absurd (h refl) | x ∷ xs ↦ λ h. refl ] some

    -- a call stops before anything is written
    pub stopped_at_once : (old : W) (e : Error) → (e ≡ OutOfMemory) ⊎ spelled.piece_refused xs st e → Stops (of_data s) old old (spelled.piece xs st) (spelled.piece_refused xs st) e
    stopped_at_once old e r = stopped_before (of_data s) old (spelled.piece xs st) (spelled.piece_refused xs st) e r

    pub refused_first : (old : W) (e : Error) → IsLoadFactor load
        → ((IsLoadFactor load → ⊥) × (e ≡ InvalidLoadFactor)) ⊎ (IsLoadFactor load × (2 ^ 32 ≤ capacity_for (length xs) load.0 load.1) × (e ≡ LengthTooLarge))
        → Stops (of_data s) old old (spelled.piece xs st) (spelled.piece_refused xs st) e
    refused_first old e is (inl r) = absurd (r.0 is)
    refused_first old e is (inr r) = stopped_at_once old e (inr (table_refused e (too_many xs some r.1)))
      where
        too_many : (ys : List A) → (length ys ≡ 0 → ⊥) → 2 ^ 32 ≤ capacity_for (length ys) load.0 load.1 → table.piece_refused (numbers ys) st e
        too_many [] h many = absurd (h refl)
        too_many (y ∷ ys) h many =
            let n = length-table load.0 load.1 hashes (numbers (y ∷ ys)) in
            let count : capacity_for (length (numbers (y ∷ ys))) load.0 load.1 ≡ capacity_for (length (y ∷ ys)) load.0 load.1 = ap (λ m. capacity_for m load.0 load.1) (length-range_with_len 0 (length (y ∷ ys))) in
            inl (omega (arith, n, count, many), r.2)

    -- a call stopped in the table
    pub stopped_in_table : (old new : W) (e : Error) → Stops (of_data s) old new (table.piece (numbers xs) st) (table.piece_refused (numbers xs) st) e → Stops (of_data s) old new (spelled.piece xs st) (spelled.piece_refused xs st) e
    stopped_in_table old new e h = stopped_first (of_data s) (entries.piece xs behind) (spelled.piece xs st) (table.piece_refused (numbers xs) st) (spelled.piece_refused xs st) piece_is (table_refused e) h

    -- a call stopped in the entries
    pub stopped_in_entries : (old mid new : W) (e : Error) → Wrote (of_data s) old mid (table.piece (numbers xs) st) → Stops (of_data s) mid new (entries.piece xs behind) (entries.piece_refused xs behind) e → Stops (of_data s) old new (spelled.piece xs st) (spelled.piece_refused xs st) e
    stopped_in_entries old mid new e g h = stopped_after (of_data s) (spelled.piece xs st) (entries.piece_refused xs behind) (spelled.piece_refused xs st) piece_is (entries_refused e) g h

    -- all of it was written
    pub map_written : (old mid new : W) (r : HashTableResolver) (to : ℕ) → IsAt s.pos s.known old st
        → Wrote (of_data s) old mid (table.piece (numbers xs) st) → (r ≡ table.resolver (numbers xs) st) → table.piece_fits (numbers xs) st
        → Wrote (of_data s) mid new (entries.piece xs behind) → (to ≡ entries.resolver xs behind) → entries.piece_fits xs behind → IsAt s.pos s.known new (state_after entries xs behind)
        → Wrote (of_data s) old new (spelled.piece xs st) × ((record { table = r; entries = Some to } ≡ spelled.resolver xs st) × spelled.piece_fits xs st × IsAt s.pos s.known new (state_after spelled xs st))
    map_written old mid new r to at g is f h there fits ends =
        let wrote : Wrote (of_data s) old new (spelled.piece xs st) = wrote_both (of_data s) (spelled.piece xs st) piece_is g h in (
          wrote,
          (made_so r to is there, fits_so f fits, record { stands = wrote.moves ∙ ap (λ p. p + length (spelled.piece xs st)) at.stands; knows = ends.knows }),
        )

-- ---- hashes that follow from items

-- what calls return for the items are these hashes
pub hashes_computed : {X : Type 0} (other : X → ℕ → Type 0) (hash : X → ℕ) → ((x : X) (h : ℕ) → other x h → h ≡ hash x) → (xs : List X) (hs : List ℕ) → AllZip other xs hs → hs ≡ map hash xs
hashes_computed other hash each xs hs all = each_same (map hash xs) hs (hashes_seen hash other (λ x h. h ≡ x) each xs hs all)
