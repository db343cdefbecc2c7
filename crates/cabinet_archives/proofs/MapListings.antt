-- What a map lists of the three kinds of maps of nodes, by what the bytes there say.
use Rattle.std.proofs.Common.{◌≡◌, ◌∙◌, ◌≢◌, ℕ, suc, ◌+◌, ◌-◌, ◌*◌, ◌≤◌, nat_lt, Bool, true, false, cond, List, [], ◌∷◌, ◌++◌, map, take, slice_index, refl, sym, ap, ap₂, subst, arith, append-nil, ◌==◌, eq-eqb, ne_eqb}
use Rattle.archive_shape_layout.specs.Bytes.{window, align_up, word_at, target_from}
use Rattle.archive_shape_layout.specs.Shape.{Pointee, size_of}
use Rattle.archive_shape_layout.specs.Shape.Shape.{text, table, tree, index_map}
use Rattle.archive_shape_layout.specs.Shape.Pointee.{slice}
use Rattle.archive_shape_layout.specs.Content.{Part, Span, Label, Item, item, place, content_of, choose, shape_content, pointee_content, place_content, buckets_content, buckets_span, control_count, item_size, tagged_items, elements, entries, children, fields, keys_offset, values_offset, node_size, links_offset, link_node_align, link_node_size}
use Rattle.archive_shape_layout.specs.Content.Part.{at, behind, node, child, entry, buckets, place_at}
use Rattle.archive_shape_layout.specs.Content.Label.{same, whole, second, total}
use Rattle.archive_shape_layout.specs.Content.Content.{illegal, plain, claimed, counting}
use Rattle.archive_shape_layout.proofs.Windows.{word_within}
use Rattle.archive_forms_laws.proofs.TextContent.{followed}
use Rattle.archive_forms_values.proofs.Chosen.{chosen, not_chosen}
use Rattle.archive_forms_values.proofs.Targets.{first_word}
use Rattle.archive_forms_values.specs.Parts.{PointsTo}
use Rattle.archive_btree_layout.proofs.Contents.{pick}
use Rattle.archive_btree_maps.proofs.NodeContents.{leaf_is, inner_is, absent_is, child_is}
use Rattle.cabinet_text_grammar.specs.Path.{Step, key}
use Rattle.archive_hash_maps.specs.Tables.{item_position}
use Rattle.cabinet_documents.specs.Node.{node_shape, node_names, pair_shape}
use Rattle.cabinet_documents.specs.Table.{full_from}
use Rattle.cabinet_documents.proofs.TableSound.{BucketsRead, reads_none, reads_buckets, table_direct, table_read, IndexRead, index_direct, index_read}
use Rattle.cabinet_archives.specs.Mapping.{Name, Listed, listed_region, listed_tag, text_in, end_after, Maps, MapsAll}
use Rattle.cabinet_archives.specs.Mapping.Maps.{maps_plain, maps_claimed, maps_first, maps_later}
use Rattle.cabinet_archives.specs.Mapping.MapsAll.{maps_none, maps_more}
use Rattle.cabinet_archives.specs.declared.mapping.region.RegionKind.TheVariants as kind
use Rattle.cabinet_archives.proofs.Listings.{plain_maps, claimed_maps, no_maps, first_maps, not_mapped}
use Rattle.cabinet_archives.proofs.NodeListings.{named, none_listed, only_maps, one_listed}

-- what is claimed or not legal is nothing else
claimed_only : (b : Bool) (s : Span) (l : Label) (ps : List Part) {m : Label} {qs : List Part} → choose b (claimed s l ps) illegal ≡ plain m qs → ⊥
unfolding choose
claimed_only true s l ps e = cc
claimed_only false s l ps e = cc

claimed_not_counting : (b : Bool) (s : Span) (l : Label) (ps : List Part) {cyclic : Bool} {t len : ℕ} {q : Pointee} → choose b (claimed s l ps) illegal ≡ counting cyclic t q len → ⊥
unfolding choose
claimed_not_counting true s l ps e = cc
claimed_not_counting false s l ps e = cc

module _ (bytes : List ℕ) where
  -- ---- entries

  -- a key, and then its node
  pub record EntryListed (path : List Step) (key_pos node_pos low : ℕ) (listed : List Listed) : Type 0 where
    pub here : List Listed
    pub later : List Listed
    pub text : Maps node_names bytes (named kind.Key (path ++ key (text_in bytes key_pos) ∷ [])) (at key_pos text) low here
    pub node : Maps node_names bytes (named kind.Key (path ++ key (text_in bytes key_pos) ∷ [])) (at node_pos node_shape) (end_after low here) later
    pub is : listed ≡ here ++ later

  pub entry_listed : {n : Name} {key_pos node_pos low : ℕ} {listed : List Listed} → Maps node_names bytes n (entry text key_pos node_shape node_pos) low listed → EntryListed n.path key_pos node_pos low listed
  unfolding listed_tag
  entry_listed m =
      let o = plain_maps node_names bytes refl m in
      let f = first_maps node_names bytes o.all in
      record { here = f.here; later = f.later; text = f.first; node = only_maps bytes f.rest; is = o.is ∙ f.is }

  pub pair_listed : {n : Name} {pos low : ℕ} {listed : List Listed} → Maps node_names bytes n (at pos pair_shape) low listed → EntryListed n.path pos (pos + 8) low listed
  unfolding listed_tag shape_content fields align_up
  pair_listed {n = n} {pos = pos} {low = low} m =
      let o = plain_maps node_names bytes {l = whole} {ps = at (pos + 0) text ∷ (at (pos + 8) node_shape ∷ [])} refl m in
      let f = first_maps node_names bytes o.all in
      let here : pos + 0 ≡ pos = omega arith in
      record { here = f.here; later = f.later; text = subst (λ p. Maps node_names bytes (named kind.Key (n.path ++ key (text_in bytes pos) ∷ [])) (at p text) low f.here) here f.first; node = only_maps bytes f.rest; is = o.is ∙ f.is }

  -- an entry lists what the pair does
  pub entry_of_pair : {n : Name} {key_pos node_pos low : ℕ} {listed : List Listed} → EntryListed n.path key_pos node_pos low listed → Maps node_names bytes n (entry text key_pos node_shape node_pos) low listed
  unfolding listed_tag
  entry_of_pair e = maps_plain {l = whole} refl (maps_more e.text (maps_more e.node (maps_none refl) (sym (append-nil e.later))) refl) e.is

  -- ---- search trees

  module _ {n : Name} {pos low : ℕ} {listed : List Listed} (m : Maps node_names bytes n (at pos (tree 5 text node_shape)) low listed) where
    pub no_tree_listed : word_at bytes (pos + 4) ≡ 0 → listed ≡ []
    unfolding shape_content listed_tag
    no_tree_listed none = none_listed bytes {l = whole} (chosen (word_at (window bytes pos 8) 4 == 0) _ _ (eq-eqb _ 0 (word_within bytes pos 8 4 (omega arith) ∙ none))) m

    pub tree_listed : {root : ℕ} → (word_at bytes (pos + 4) ≡ 0 → ⊥) → PointsTo bytes pos root → Maps node_names bytes (named kind.Tree n.path) (node 1 5 text node_shape root) low listed
    unfolding shape_content listed_tag
    tree_listed {root = root} away leads =
        let own = window bytes pos 8 in
        let says : content_of node_names bytes (at pos (tree 5 text node_shape)) ≡ plain (total (word_at own 4)) (node 1 5 text node_shape root ∷ []) =
        not_chosen (word_at own 4 == 0) _ _ (ne_eqb _ 0 (λ e. away (sym (word_within bytes pos 8 4 (omega arith)) ∙ e)))
        ∙ followed (target_from pos (word_at own 0)) root (λ t. plain (total (word_at own 4)) (node 1 5 text node_shape t ∷ [])) (ap (target_from pos) (first_word bytes pos 8 (omega arith)) ∙ leads) in
        let o = one_listed bytes says m in
        subst (Maps node_names bytes (named kind.Tree n.path) (node 1 5 text node_shape root) low) (sym o.is) o.maps

  pub record LeafListed (path : List Step) (level pos len low : ℕ) (listed : List Listed) : Type 0 where
    pub inner : List Listed
    pub all : MapsAll node_names bytes (named kind.Tree path) (node level 5 text node_shape pos) 0 (entries len text (pos + 4) node_shape (pos + 48)) low inner
    pub is : listed ≡ inner ++ listed_region pos 176 (named kind.Tree path)

  pub leaf_listed : {path : List Step} {level pos len low : ℕ} {listed : List Listed} → slice_index bytes pos ≡ 0 → level ≤ 32 → word_at bytes (pos + 168) ≡ len → len ≤ 5
      → Maps node_names bytes (named kind.Tree path) (node level 5 text node_shape pos) low listed → LeafListed path level pos len low listed
  unfolding keys_offset values_offset node_size links_offset link_node_align link_node_size align_up
  leaf_listed {level = level} {pos = pos} {len = len} is deep says few m =
      let o = claimed_maps node_names bytes (leaf_is node_names bytes level 5 text node_shape pos len is deep says few) m in
      record { inner = o.inner; all = o.all; is = o.is }

  pub record InnerListed (path : List Step) (level pos low : ℕ) (listed : List Listed) : Type 0 where
    pub inner : List Listed
    pub all : MapsAll node_names bytes (named kind.Tree path) (node level 5 text node_shape pos) 0 (children 6 (level + 1) 5 text node_shape (pos + 168) ++ entries 5 text (pos + 4) node_shape (pos + 48)) low inner
    pub is : listed ≡ inner ++ listed_region pos 192 (named kind.Tree path)

  pub inner_listed : {path : List Step} {level pos low : ℕ} {listed : List Listed} → slice_index bytes pos ≡ 1 → level ≤ 32
      → Maps node_names bytes (named kind.Tree path) (node level 5 text node_shape pos) low listed → InnerListed path level pos low listed
  unfolding keys_offset values_offset node_size links_offset link_node_align link_node_size align_up
  inner_listed {level = level} {pos = pos} is deep m =
      let o = claimed_maps node_names bytes (inner_is node_names bytes level 5 text node_shape pos is deep) m in
      record { inner = o.inner; all = o.all; is = o.is }

  module _ {n : Name} {level link low : ℕ} {listed : List Listed} (m : Maps node_names bytes n (child level 5 text node_shape link) low listed) where
    pub no_child_listed : word_at bytes link ≡ 1 → listed ≡ []
    unfolding listed_tag
    no_child_listed none = none_listed bytes (absent_is node_names bytes level 5 text node_shape link none) m

    pub child_listed : {to : ℕ} → word_at bytes link ≢ 1 → level ≤ 32 → PointsTo bytes link to → Maps node_names bytes n (node level 5 text node_shape to) low listed
    unfolding listed_tag
    child_listed {to = to} some deep leads =
        let o = one_listed bytes (child_is node_names bytes level 5 text node_shape link to some deep leads) m in
        subst (Maps node_names bytes n (node level 5 text node_shape to) low) (sym o.is) o.maps

  -- ---- tables

  pub record BucketsListed (path : List Step) (target len cap : ℕ) (it : Item) (low : ℕ) (listed : List Listed) : Type 0 where
    pub inner : List Listed
    pub all : MapsAll node_names bytes (named kind.Table path) (buckets target len cap it) 0 (tagged_items target it 0 (take cap (window bytes target (control_count cap)))) low inner
    pub is : listed ≡ inner ++ listed_region (target - cap * item_size it) (cap * item_size it + control_count cap) (named kind.Table path)

  pub buckets_listed : {path : List Step} {target len cap : ℕ} {it : Item} {low : ℕ} {listed : List Listed} → Maps node_names bytes (named kind.Table path) (buckets target len cap it) low listed → BucketsListed path target len cap it low listed
  unfolding buckets_content buckets_span
  buckets_listed {path = path} {target = target} {len = len} {cap = cap} {it = it} {low = low} {listed = listed} (maps_claimed {inner = inner} {s = s} {l = l} {ps = ps} e all is) =
      let both = (pick _ _ e).1 in
      let span : s ≡ buckets_span target cap it = cc in
      let parts : ps ≡ tagged_items target it 0 (take cap (window bytes target (control_count cap))) = cc in
      record {
        inner = inner;
        all = subst (λ x. MapsAll node_names bytes (named kind.Table path) (buckets target len cap it) 0 x low inner) parts all;
        is = is ∙ ap (λ (x : Span). inner ++ listed_region x.start x.size (named kind.Table path)) span;
      }
  buckets_listed (maps_plain e all is) = absurd (claimed_only _ _ _ _ e)
  buckets_listed (maps_first e high m) = absurd (claimed_not_counting _ _ _ _ e)
  buckets_listed (maps_later e less is) = absurd (claimed_not_counting _ _ _ _ e)

  -- of a hashed map
  pub data HashedListed (path : List Step) (pos low : ℕ) (listed : List Listed) : Type 0 where
    hashed_none : word_at bytes (pos + 4) ≡ 0 → listed ≡ [] → HashedListed path pos low listed
    hashed_some :
        (target len : ℕ)
        → (word_at bytes (pos + 4) ≡ 0 → ⊥)
        → PointsTo bytes pos target
        → BucketsListed path target len (word_at bytes (pos + 8)) (item pair_shape) low listed
        → HashedListed path pos low listed

  pub hashed_listed : {n : Name} {pos low : ℕ} {listed : List Listed} → Maps node_names bytes n (at pos (table pair_shape)) low listed → HashedListed n.path pos low listed
  unfolding listed_tag
  hashed_listed {n = n} {pos = pos} {low = low} {listed = listed} (maps_plain {inner = inner} {l = l} {ps = ps} e all is) = by (table_read bytes node_names pos pair_shape e)
    where
      by : BucketsRead bytes pos same (item pair_shape) [] l ps → HashedListed n.path pos low listed
      by (reads_none f g none) = hashed_none none (is ∙ no_maps node_names bytes (subst (λ x. MapsAll node_names bytes n (at pos (table pair_shape)) 0 x low inner) g all))
      by (reads_buckets {target = target} {len = len} f g away leads) =
          hashed_some target len away leads
          (buckets_listed (subst (Maps node_names bytes (named kind.Table n.path) (buckets target len (word_at bytes (pos + 8)) (item pair_shape)) low) (sym is)
          (only_maps bytes (subst (λ x. MapsAll node_names bytes n (at pos (table pair_shape)) 0 x low inner) g all))))
  hashed_listed {pos = pos} (maps_claimed e all is) = let direct = table_direct bytes node_names pos pair_shape in absurd (rw e at direct)
  hashed_listed {pos = pos} (maps_first e high m) = let direct = table_direct bytes node_names pos pair_shape in absurd (rw e at direct)
  hashed_listed {pos = pos} (maps_later e less is) = let direct = table_direct bytes node_names pos pair_shape in absurd (rw e at direct)

  -- the numbers of entries list nothing
  number_listed : {n : Name} {pos limit low : ℕ} {listed : List Listed} → Maps node_names bytes n (place_at pos limit) low listed → listed ≡ []
  unfolding place_content listed_tag
  number_listed {pos = pos} {limit = limit} m = by_test (nat_lt (word_at (window bytes pos 4) 0) limit) refl m
    where
      by_test : (b : Bool) {n : Name} {low : ℕ} {listed : List Listed} → nat_lt (word_at (window bytes pos 4) 0) limit ≡ b → Maps node_names bytes n (place_at pos limit) low listed → listed ≡ []
      by_test true e h = none_listed bytes (chosen _ _ _ e) h
      by_test false e h = absurd (not_mapped node_names bytes (not_chosen _ _ _ e) h)

  -- the first of them, if its control is a tag
  first_number : {n : Name} {p : Part} (limit pos : ℕ) (rest : List Part) (b : Bool)
      → ((i low : ℕ) (listed : List Listed) → MapsAll node_names bytes n p i rest low listed → listed ≡ [])
      → (i low : ℕ) (listed : List Listed) → MapsAll node_names bytes n p i (cond b (place_at pos limit ∷ rest) rest) low listed → listed ≡ []
  first_number limit pos rest true none i low listed all =
      let f = first_maps node_names bytes all in f.is ∙ ap₂ (λ x y. x ++ y) (number_listed f.first) (none (suc i) (end_after low f.here) f.later f.rest)
  first_number limit pos rest false none i low listed all = none i low listed all

  numbers_listed : {n : Name} {p : Part} (limit target from : ℕ) (controls : List ℕ) (i low : ℕ) (listed : List Listed) → MapsAll node_names bytes n p i (tagged_items target (place limit) from controls) low listed → listed ≡ []
  unfolding tagged_items
  numbers_listed limit target from [] i low listed all = no_maps node_names bytes all
  numbers_listed limit target from (c ∷ controls) i low listed all =
      first_number limit (target - (from + 1) * 4) (tagged_items target (place limit) (from + 1) controls) (nat_lt c 128) (λ j m ls rest. numbers_listed limit target (from + 1) controls j m ls rest) i low listed all

  -- of a kept map: its table, what its entries list, and then the entries
  pub record EntriesListed (path : List Step) (pos start len low : ℕ) (listed : List Listed) : Type 0 where
    pub target : ℕ
    pub away : word_at bytes (pos + 4) ≡ 0 → ⊥
    pub leads : PointsTo bytes pos target
    pub leads_on : PointsTo bytes (pos + 12) start
    pub table : List Listed
    pub table_is : let cap = word_at bytes (pos + 8) in table ≡ listed_region (target - cap * 4) (cap * 4 + control_count cap) (named kind.Table path)
    pub inner : List Listed
    pub all : MapsAll node_names bytes (named kind.Entries path) (behind start (slice pair_shape) len) 0 (elements start len pair_shape) (end_after low table) inner
    pub is : listed ≡ table ++ (inner ++ listed_region start (len * 32) (named kind.Entries path))

  -- and none of a map without entries
  pub data KeptListed (path : List Step) (pos low : ℕ) (listed : List Listed) : Type 0 where
    kept_none : word_at bytes (pos + 4) ≡ 0 → listed ≡ [] → KeptListed path pos low listed
    kept_some : (start : ℕ) → EntriesListed path pos start (word_at bytes (pos + 4)) low listed → KeptListed path pos low listed

  pub kept_listed : {n : Name} {pos low : ℕ} {listed : List Listed} → Maps node_names bytes n (at pos (index_map text node_shape)) low listed → KeptListed n.path pos low listed
  unfolding listed_tag pointee_content align_up
  kept_listed {n = n} {pos = pos} {low = low} {listed = listed} (maps_plain {inner = inner} {l = l} {ps = ps} e all is) =
      let read = index_read bytes node_names pos text node_shape e in by read read.read
    where
      both : (target count start : ℕ) → (word_at bytes (pos + 4) ≡ 0 → ⊥) → PointsTo bytes pos target → PointsTo bytes (pos + 12) start
          → MapsAll node_names bytes n (at pos (index_map text node_shape)) 0 (buckets target count (word_at bytes (pos + 8)) (place (word_at bytes (pos + 4))) ∷ (behind start (slice pair_shape) (word_at bytes (pos + 4)) ∷ [])) low inner
          → KeptListed n.path pos low listed
      both target count start away leads leads_on h =
          let len = word_at bytes (pos + 4) in
          let cap = word_at bytes (pos + 8) in
          let f = first_maps node_names bytes h in
          let b = buckets_listed f.first in
          let r = only_maps bytes f.rest in
          let c = claimed_maps node_names bytes {s = record { start = start; size = len * 32; align = 8 }} {l = whole} {ps = elements start len pair_shape} refl r in
          kept_some start (record {
            target = target;
            away = away;
            leads = leads;
            leads_on = leads_on;
            table = f.here;
            table_is = b.is ∙ ap (λ x. x ++ listed_region (target - cap * 4) (cap * 4 + control_count cap) (named kind.Table n.path)) (numbers_listed len target 0 (take cap (window bytes target (control_count cap))) 0 low b.inner b.all);
            inner = c.inner;
            all = c.all;
            is = is ∙ f.is ∙ ap (λ x. f.here ++ x) c.is;
          })

      by : (read : IndexRead bytes pos l ps text node_shape) → BucketsRead bytes pos second (place (word_at bytes (pos + 4))) (behind read.start (slice pair_shape) (word_at bytes (pos + 4)) ∷ []) l ps → KeptListed n.path pos low listed
      by read (reads_none f g none) = kept_none none (is ∙ no_maps node_names bytes (subst (λ x. MapsAll node_names bytes n (at pos (index_map text node_shape)) 0 x low inner) g all))
      by read (reads_buckets {target = target} {len = count} f g away leads) =
          both target count read.start away leads (read.leads away) (subst (λ x. MapsAll node_names bytes n (at pos (index_map text node_shape)) 0 x low inner) g all)
  kept_listed {pos = pos} (maps_claimed e all is) = let direct = index_direct bytes node_names pos text node_shape in absurd (rw e at direct)
  kept_listed {pos = pos} (maps_first e high m) = let direct = index_direct bytes node_names pos text node_shape in absurd (rw e at direct)
  kept_listed {pos = pos} (maps_later e less is) = let direct = index_direct bytes node_names pos text node_shape in absurd (rw e at direct)

-- ---- the pairs of a table, by ascending place

tagged_one : (b : Bool) (p : ℕ) (rest : List Part) (i : ℕ) (is : List ℕ) (f : ℕ → ℕ) → p ≡ f i → rest ≡ map (λ q. at q pair_shape) (map f is)
    → cond b (at p pair_shape ∷ rest) rest ≡ map (λ q. at q pair_shape) (map f (cond b (i ∷ is) is))
tagged_one true p rest i is f e r = ap₂ (λ x y. at x pair_shape ∷ y) e r
tagged_one false p rest i is f e r = r

pub tagged_pairs : (target i : ℕ) (controls : List ℕ) → tagged_items target (item pair_shape) i controls ≡ map (λ q. at q pair_shape) (map (item_position pair_shape target) (full_from i controls))
unfolding tagged_items
tagged_pairs target i [] = refl
tagged_pairs target i (c ∷ controls) =
    tagged_one (nat_lt c 128) (target - (i + 1) * size_of pair_shape) (tagged_items target (item pair_shape) (i + 1) controls) i (full_from (i + 1) controls) (item_position pair_shape target) refl (tagged_pairs target (i + 1) controls)
