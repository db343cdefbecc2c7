-- What is written of a hashed or a kept map, from what is written of its table and of its pairs.
use Rattle.std.proofs.Common.{◌≡◌, ◌∙◌, ℕ, ◌+◌, ◌*◌, List, [], ◌++◌, Result, Ok, Err, refl, sym, ap, subst}
use Rattle.archive_shape_layout.specs.Shape.Shape.{text}
use Rattle.archive_shape_layout.specs.Content.{Part}
use Rattle.archive_shape_layout.specs.Content.Part.{at}
use Rattle.archive_shape_layout.specs.Writing.{WriterMembers}
use Rattle.archive_shape_layout.specs.declared.error.Error.{Error}
use Rattle.archive_forms_laws.specs.Sample.{number_shape}
use Rattle.archive_forms_values.specs.Parts.{PointsTo}
use Rattle.archive_hash_maps.specs.Tables.{Buckets, no_buckets, item_positions, IsTableAt}
use Rattle.archive_index.specs.Maps.{IndexMap, IsMapAt, count_of, entry_positions}
use Rattle.cabinet_text_grammar.specs.Path.{Step}
use Rattle.cabinet_documents.specs.Node.{node_names, node_shape, pair_shape}
use Rattle.cabinet_archives.specs.Hashed.{table_shape}
use Rattle.cabinet_archives.specs.Kept.{index_shape}
use Rattle.cabinet_archives.specs.Mapping.{Listed, listed_region, end_after, MapsAll}
use Rattle.cabinet_archives.specs.Mapped.{WritesListed, Mapped, listed_table}
use Rattle.cabinet_archives.specs.declared.mapping.region.RegionKind.{RegionKind}
use Rattle.cabinet_archives.specs.declared.mapping.region.RegionKind.TheVariants as kind
use Rattle.cabinet_archives.specs.declared.mapping.tally.Tally.{Tally}
use Rattle.cabinet_archives.proofs.MapListings.{hashed_listed, kept_listed}
use Rattle.cabinet_archives.proofs.MapParts.{hashed_parts, kept_empty, kept_parts}
use Rattle.cabinet_archives.proofs.NodeListings.{named}
use Rattle.cabinet_archives.proofs.PairsMapped.{pair_parts, PairsWritten}
use Rattle.cabinet_archives.proofs.Tallied.{none_written, failed_listed, both_listed, end_tallied}

module _ {W : Type 0} (w : WriterMembers W) (bytes : List ℕ) (path : List Step) (k : RegionKind) where
  -- ---- hashed maps

  module _ {pos : ℕ} (b : Buckets) (is : IsTableAt bytes pair_shape pos b) (old new : Tally) (from last : W) where
    pub hashed_failed : (why : Error) → PairsWritten w bytes kind.Table path (item_positions pair_shape b) old new from last (Err why) → Mapped {A = Unit {0}} w bytes (named k path) (at pos table_shape) old new from last (Err why)
    hashed_failed why fails listed m =
        let o = hashed_parts bytes path b is (hashed_listed bytes m) in
        failed_listed w old new new o.inner o.rest o.is (fails o.part o.keeps o.inner o.all)

    pub hashed_mapped : listed_table pair_shape no_buckets path ≡ [] → (mid : Tally) (via : W) (result : Result (Unit {0}) Error) → PairsWritten w bytes kind.Table path (item_positions pair_shape b) old mid from via (Ok tt)
        → WritesListed w (listed_table pair_shape b path) mid new via last result → Mapped w bytes (named k path) (at pos table_shape) old new from last result
    hashed_mapped no_table mid via result pairs table listed m =
        let o = hashed_parts bytes path b is (hashed_listed bytes m) in
        both_listed w old mid new last result o.inner (listed_table pair_shape b path) (o.is ∙ ap (λ x. o.inner ++ x) (o.rest_is no_table)) (pairs o.part o.keeps o.inner o.all) table

  -- ---- kept maps

  module _ {pos : ℕ} (i : IndexMap) (stands : IsMapAt bytes text node_shape pos i) where
    pub empty_mapped : (old : Tally) (from : W) → count_of i ≡ 0 → Mapped {A = Unit {0}} w bytes (named k path) (at pos index_shape) old old from from (Ok tt)
    empty_mapped old from none listed m = none_written w (tt {0}) old from (kept_empty bytes path i stands none (kept_listed bytes m))

    module _ (some : count_of i ≡ 0 → ⊥) (old mid : Tally) (from via : W) where
      abbrev table : List Listed
      table = listed_table number_shape i.buckets path

      abbrev own_region : List Listed
      own_region = listed_region i.start (count_of i * 32) (named kind.Entries path)

      pub table_failed : (why : Error) → WritesListed {A = Unit {0}} w table old mid from via (Err why) → Mapped {A = Unit {0}} w bytes (named k path) (at pos index_shape) old mid from via (Err why)
      table_failed why failed listed m =
          let o = kept_parts bytes path i stands some (kept_listed bytes m) in
          failed_listed w old mid mid table (o.inner ++ own_region) o.is failed

      module _ (first : WritesListed {A = Unit {0}} w table old mid from via (Ok tt)) (new : Tally) (last : W) where
        entries_of : {p : Part} {inner : List Listed} → MapsAll node_names bytes (named kind.Entries path) p 0 (pair_parts (entry_positions text node_shape i)) (end_after old.end table) inner
            → MapsAll node_names bytes (named kind.Entries path) p 0 (pair_parts (entry_positions text node_shape i)) mid.end inner
        entries_of {p = p} {inner = inner} all =
            subst (λ n. MapsAll node_names bytes (named kind.Entries path) p 0 (pair_parts (entry_positions text node_shape i)) n inner)
            (sym (ap (λ (t : Tally). t.end) first.1 ∙ end_tallied old table)) all

        pub kept_failed : (why : Error) → PairsWritten w bytes kind.Entries path (entry_positions text node_shape i) mid new via last (Err why) → Mapped {A = Unit {0}} w bytes (named k path) (at pos index_shape) old new from last (Err why)
        kept_failed why fails listed m =
            let o = kept_parts bytes path i stands some (kept_listed bytes m) in
            both_listed w old mid new last (Err why) table (o.inner ++ own_region) o.is first
            (failed_listed w mid new new o.inner own_region refl (fails o.part o.keeps o.inner (entries_of o.all)))

        pub kept_mapped : (reached : Tally) (next : W) (start count : ℕ) (result : Result (Unit {0}) Error) → PairsWritten w bytes kind.Entries path (entry_positions text node_shape i) mid reached via next (Ok tt)
            → PointsTo bytes (pos + 12) start → count ≡ count_of i → WritesListed w (listed_region start (count * 32) (named kind.Entries path)) reached new next last result
            → Mapped w bytes (named k path) (at pos index_shape) old new from last result
        kept_mapped reached next start count result pairs points counted region listed m =
            let o = kept_parts bytes path i stands some (kept_listed bytes m) in
            let leads = stands.leads some in
            let same : start ≡ i.start = cc in
            let all = subst (λ s. WritesListed w (listed_region s (count_of i * 32) (named kind.Entries path)) reached new next last result) same
            (subst (λ n. WritesListed w (listed_region start (n * 32) (named kind.Entries path)) reached new next last result) counted region) in
            both_listed w old mid new last result table (o.inner ++ own_region) o.is first
            (both_listed w mid reached new last result o.inner own_region refl (pairs o.part o.keeps o.inner (entries_of o.all)) all)
