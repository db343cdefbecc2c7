-- The parts that the map of a hashed or a kept map lists, by the places of its table and the positions of its pairs.
use Rattle.std.proofs.Common.{◌≡◌, ◌∙◌, ℕ, zero, suc, ◌+◌, ◌-◌, ◌*◌, ◌<◌, ◌≤◌, List, [], ◌∷◌, ◌++◌, length, map, take, refl, sym, ap, subst, arith, cond, ne_eqb}
use Rattle.archive_shape_layout.specs.Bytes.{window, word_at}
use Rattle.archive_shape_layout.specs.Shape.{Shape, size_of}
use Rattle.archive_shape_layout.specs.Shape.Shape.{text}
use Rattle.archive_shape_layout.specs.Shape.Pointee.{slice}
use Rattle.archive_shape_layout.specs.Content.{Part, item, control_count, elements, tagged_items}
use Rattle.archive_shape_layout.specs.Content.Part.{at, behind, buckets}
use Rattle.archive_forms_laws.specs.Sample.{number_shape}
use Rattle.archive_hash_maps.specs.Tables.{Buckets, no_buckets, full_places, item_position, item_positions, IsTableAt}
use Rattle.archive_hash_maps.specs.Tables.IsTableAt.{has_none, has_buckets}
use Rattle.archive_index.specs.Maps.{IndexMap, IsMapAt, adjacent, count_of, entry_positions}
use Rattle.cabinet_text_grammar.specs.Path.{Step}
use Rattle.cabinet_documents.specs.Node.{node_names, node_shape, pair_shape}
use Rattle.cabinet_archives.specs.Mapping.{Listed, listed_region, name_in, end_after, MapsAll}
use Rattle.cabinet_archives.specs.Mapping.MapsAll.{maps_none}
use Rattle.cabinet_archives.specs.Mapped.{listed_table}
use Rattle.cabinet_archives.specs.declared.mapping.region.RegionKind.TheVariants as kind
use Rattle.cabinet_archives.proofs.MapListings.{BucketsListed, HashedListed, hashed_none, hashed_some, KeptListed, kept_none, kept_some, tagged_pairs}
use Rattle.cabinet_archives.proofs.NodeListings.{named}
use Rattle.cabinet_archives.proofs.PairsMapped.{pair_parts}
use Rattle.cabinet_archives.proofs.Tables.{full_are, controls_long}

-- the region of a table that has places
pub table_region : (s : Shape) (b : Buckets) (path : List Step) → 0 < b.cap
    → listed_table s b path ≡ listed_region (b.target - b.cap * size_of s) (b.cap * size_of s + control_count b.cap) (named kind.Table path)
table_region s b path some =
    let all = listed_region (b.target - b.cap * size_of s) (b.cap * size_of s + control_count b.cap) (named kind.Table path) in
    ap (λ t. cond t [] all) (ne_eqb b.cap 0 (λ none. omega (arith, none, some)))

-- pairs side by side
elements_are : (start n : ℕ) → elements start n pair_shape ≡ pair_parts (adjacent (size_of pair_shape) start n)
unfolding elements
elements_are start zero = refl
elements_are start (suc n) = ap (λ ps. at start pair_shape ∷ ps) (elements_are (start + size_of pair_shape) n)

module _ (bytes : List ℕ) (path : List Step) where
  -- ---- hashed maps

  pub record HashedParts (b : Buckets) (low : ℕ) (listed : List Listed) : Type 0 where
    pub part : Part
    pub keeps : (i : ℕ) → name_in bytes part i (named kind.Table path) ≡ named kind.Table path
    pub inner : List Listed
    pub all : MapsAll node_names bytes (named kind.Table path) part 0 (pair_parts (item_positions pair_shape b)) low inner
    pub rest : List Listed
    pub is : listed ≡ inner ++ rest
    pub rest_is : listed_table pair_shape no_buckets path ≡ [] → rest ≡ listed_table pair_shape b path

  -- the pairs by ascending place
  pairs_of : (b : Buckets) → b.cap ≤ length b.controls → b.controls ≡ window bytes b.target (control_count b.cap)
      → tagged_items b.target (item pair_shape) 0 (take b.cap (window bytes b.target (control_count b.cap))) ≡ pair_parts (item_positions pair_shape b)
  pairs_of b room controls =
      ap (λ cs. tagged_items b.target (item pair_shape) 0 (take b.cap cs)) (sym controls)
      ∙ tagged_pairs b.target 0 (take b.cap b.controls)
      ∙ ap (λ ps. pair_parts (map (item_position pair_shape b.target) ps)) (full_are b room)

  pub hashed_parts : {pos low : ℕ} {listed : List Listed} (b : Buckets) → IsTableAt bytes pair_shape pos b → HashedListed bytes path pos low listed → HashedParts b low listed
  hashed_parts {low = low} b (has_none zero_len is) (hashed_none none nothing) = record {
    part = buckets 0 0 0 (item pair_shape);
    keeps = λ i. refl;
    inner = [];
    all = subst (λ (c : Buckets). MapsAll node_names bytes (named kind.Table path) (buckets 0 0 0 (item pair_shape)) 0 (pair_parts (item_positions pair_shape c)) low []) (sym is) (maps_none refl);
    rest = [];
    is = nothing;
    rest_is = λ no_table. sym no_table ∙ ap (λ (c : Buckets). listed_table pair_shape c path) (sym is);
  }
  hashed_parts b (has_none zero_len is) (hashed_some target len away leads l) = absurd (away zero_len)
  hashed_parts b (has_buckets some leads cap_is fewer controls within room are full) (hashed_none none nothing) = absurd (some none)
  hashed_parts {pos = pos} {low = low} {listed = listed} b (has_buckets some points cap_is fewer controls within room are full) (hashed_some target len away leads l) =
      let same : target ≡ b.target = cc in
      let o = subst (λ n. BucketsListed bytes path b.target len n (item pair_shape) low listed) cap_is
      (subst (λ n. BucketsListed bytes path n len (word_at bytes (pos + 8)) (item pair_shape) low listed) same l) in
      let long = controls_long b are in
      record {
        part = buckets b.target len b.cap (item pair_shape);
        keeps = λ i. refl;
        inner = o.inner;
        all = subst (λ ps. MapsAll node_names bytes (named kind.Table path) (buckets b.target len b.cap (item pair_shape)) 0 ps low o.inner) (pairs_of b long controls) o.all;
        rest = listed_region (b.target - b.cap * size_of pair_shape) (b.cap * size_of pair_shape + control_count b.cap) (named kind.Table path);
        is = o.is;
        rest_is = λ no_table. sym (table_region pair_shape b path (omega (arith, fewer)));
      }

  -- ---- kept maps

  pub record KeptParts (m : IndexMap) (low : ℕ) (listed : List Listed) : Type 0 where
    pub part : Part
    pub keeps : (i : ℕ) → name_in bytes part i (named kind.Entries path) ≡ named kind.Entries path
    pub inner : List Listed
    pub all : MapsAll node_names bytes (named kind.Entries path) part 0 (pair_parts (entry_positions text node_shape m)) (end_after low (listed_table number_shape m.buckets path)) inner
    pub is : listed ≡ listed_table number_shape m.buckets path ++ (inner ++ listed_region m.start (count_of m * 32) (named kind.Entries path))

  pub kept_empty : {pos low : ℕ} {listed : List Listed} (m : IndexMap) → IsMapAt bytes text node_shape pos m → count_of m ≡ 0 → KeptListed bytes path pos low listed → listed ≡ []
  kept_empty m stands none (kept_none word nothing) = nothing
  kept_empty {pos = pos} {listed = listed} m stands none (kept_some start l) = by stands.table
    where
      by : IsTableAt bytes number_shape pos m.buckets → listed ≡ []
      by (has_none word is) = absurd (l.away word)
      by (has_buckets some leads cap_is fewer controls within room are full) = absurd (some (sym full ∙ none))

  pub kept_parts : {pos low : ℕ} {listed : List Listed} (m : IndexMap) → IsMapAt bytes text node_shape pos m → (count_of m ≡ 0 → ⊥) → KeptListed bytes path pos low listed → KeptParts m low listed
  kept_parts {pos = pos} {low = low} {listed = listed} m stands some (kept_none word nothing) = by stands.table
    where
      by : IsTableAt bytes number_shape pos m.buckets → KeptParts m low listed
      by (has_none zero_len is) = absurd (some (ap (λ (b : Buckets). length (full_places b)) is))
      by (has_buckets away leads cap_is fewer controls within room are full) = absurd (away word)
  kept_parts {pos = pos} {low = low} {listed = listed} m stands some (kept_some start l) = by stands.table
    where
      by : IsTableAt bytes number_shape pos m.buckets → KeptParts m low listed
      by (has_none zero_len is) = absurd (l.away zero_len)
      by (has_buckets away points cap_is fewer controls within room are full) =
          let leads = l.leads in
          let leads_on = l.leads_on in
          let next = stands.leads some in
          let target_is : l.target ≡ m.buckets.target = cc in
          let start_is : start ≡ m.start = cc in
          let table : l.table ≡ listed_table number_shape m.buckets path =
          l.table_is ∙ ap (λ t. listed_region (t - word_at bytes (pos + 8) * 4) (word_at bytes (pos + 8) * 4 + control_count (word_at bytes (pos + 8))) (named kind.Table path)) target_is
          ∙ ap (λ n. listed_region (m.buckets.target - n * 4) (n * 4 + control_count n) (named kind.Table path)) cap_is
          ∙ sym (table_region number_shape m.buckets path (omega (arith, fewer))) in
          let AllAt : ℕ → ℕ → List Listed → Type 0 = λ s n t. MapsAll node_names bytes (named kind.Entries path) (behind s (slice pair_shape) n) 0 (elements s n pair_shape) (end_after low t) l.inner in
          let here = subst (λ t. AllAt m.start (count_of m) t) table
          (subst (λ n. AllAt m.start n l.table) (sym full) (subst (λ s. AllAt s (word_at bytes (pos + 4)) l.table) start_is l.all)) in
          record {
            part = behind m.start (slice pair_shape) (count_of m);
            keeps = λ i. refl;
            inner = l.inner;
            all = subst (λ ps. MapsAll node_names bytes (named kind.Entries path) (behind m.start (slice pair_shape) (count_of m)) 0 ps (end_after low (listed_table number_shape m.buckets path)) l.inner) (elements_are m.start (count_of m)) here;
            is =
                l.is ∙ ap (λ t. t ++ (l.inner ++ listed_region start (word_at bytes (pos + 4) * 32) (named kind.Entries path))) table
                ∙ ap (λ s. listed_table number_shape m.buckets path ++ (l.inner ++ listed_region s (word_at bytes (pos + 4) * 32) (named kind.Entries path))) start_is
                ∙ ap (λ n. listed_table number_shape m.buckets path ++ (l.inner ++ listed_region m.start (n * 32) (named kind.Entries path))) (sym full);
          }
