-- The number of regions around each region of a document: for each container around it at most as many as a search tree
-- has levels, and the root's.
use Rattle.std.proofs.Common.{◌≡◌, ℕ, zero, suc, ◌+◌, ◌-◌, ◌*◌, ◌<◌, ◌≤◌, nat_lt, Bool, true, false, cond, List, [], ◌∷◌, ◌++◌, refl, sym, ap, ap₂, subst, ◌∙◌, arith}
use Rattle.std.specs.Prelude.{⊤}
use Rattle.std.specs.List.{Contains}
use Rattle.archive_shape_layout.specs.Shape.{Pointee}
use Rattle.archive_shape_layout.specs.Value.{Value, Values}
use Rattle.archive_shape_layout.specs.Content.{Part, Span, Label, Content, content_of}
use Rattle.archive_shape_layout.specs.Content.Part.{behind}
use Rattle.archive_shape_layout.specs.Content.Content.{plain, claimed}
use Rattle.archive_shape_layout.specs.Holds.{Region, region_of, Visit, OpenShared, Holds, HoldAll}
use Rattle.archive_shape_layout.specs.Holds.Holds.{holds_plain, holds_claimed, holds_first, holds_later, holds_back}
use Rattle.archive_shape_layout.specs.Holds.HoldAll.{holds_none, holds_more}
use Rattle.archive_shape.specs.Accepts.{NestsBelow}
use Rattle.archive_shape.proofs.Ranges.{NestsBelow-append}
use Rattle.cabinet_documents.specs.Node.{node_names}
use Rattle.cabinet_documents.specs.Walk.{Stop, Walks, WalkAll, is_container, depth_in, parts_of, joined}
use Rattle.cabinet_documents.specs.Walk.Walks.{walks}
use Rattle.cabinet_documents.specs.Walk.WalkAll.{walk_more}
use Rattle.cabinet_documents.proofs.Places.{Place, shared_here, whole_here, box_here, pair_here, tree_node, tree_child, buckets_here, numbers_here, node_here, entry_number, node_behind, nodes_behind, pairs_behind, text_behind, Spot, part_of, parts_at, each_from, entries_from, children_from, tagged_from, is_behind, Passes, node_passes, box_passes, behind_passes, list_passes, text_passes, child_passes, table_passes, Pays, pays_truth, pays_number, pays_text, pays_shared, pays_option, pays_list, pays_ordered, pays_hashed, pays_kept, pays_whole, Follows, passes, pays, truth_is, number_is, text_is, behind_is, none_is, some_is, nodes_follow, empty_is, total_is, leaf_follows, inner_follows, no_child_is, entry_follows, no_items_is, items_follow, no_entries_is, entries_second, numbers_follow, entry_number_is, pairs_follow, pair_follows, Leads, leads_nowhere, leads_plain, leads_claimed, leads_counted, leads_whole, led}
use Rattle.cabinet_documents.proofs.HeldNodes.{Counts, counts_text, counts_node, counts}
use Rattle.cabinet_documents.proofs.Stops.{Each, each_front, each_flat, flat}

-- ---- how many regions may lie around a place

-- the most regions around a place inside no container, and the 32 levels of a search tree
abbrev pub spare : Place → ℕ
spare (tree_node level) = level
spare (tree_child level) = level
spare box_here = 32
spare node_behind = 32
spare (nodes_behind len) = 32
spare (buckets_here target len cap) = 32
spare (numbers_here target len cap) = 32
spare (pairs_behind len) = 32
spare k = 33

-- the number of regions around a place inside `depth` containers is as low as that
abbrev pub Fits : ℕ → ℕ → Place → Type 0
Fits level depth k = level + 32 ≤ 32 * depth + spare k

abbrev pub Fit : ℕ → ℕ → List Spot → Type 0
Fit level depth [] = ⊤
Fit level depth (q ∷ qs) = Fits level depth q.place × Fit level depth qs

module _ (level depth : ℕ) where
  each_fit : (k : Place) (size pos n : ℕ) → Fits level depth k → Fit level depth (each_from k size pos n)
  each_fit k size pos zero h = tt
  each_fit k size pos (suc n) h = (h, each_fit k size (pos + size) n h)

  entries_fit : (n key value : ℕ) → level + 32 ≤ 32 * depth + 33 → Fit level depth (entries_from n key value)
  entries_fit zero key value h = tt
  entries_fit (suc n) key value h = (h, entries_fit n (key + 8) (value + 24) h)

  branches_fit : (n deeper link : ℕ) (es : List Spot) → level + 32 ≤ 32 * depth + deeper → Fit level depth es → Fit level depth (children_from n deeper link ++ es)
  branches_fit zero deeper link es h k = k
  branches_fit (suc n) deeper link es h k = (h, branches_fit n deeper (link + 4) es h k)

tagged_fit : (level depth : ℕ) (k : Place) (size target i : ℕ) (cs : List ℕ) → Fits level depth k → Fit level depth (tagged_from k size target i cs)
tagged_fit level depth k size target i [] h = tt
tagged_fit level depth k size target i (c ∷ cs) h = by (nat_lt c 128) (tagged_fit level depth k size target (i + 1) cs h)
  where
    by : (b : Bool) → Fit level depth (tagged_from k size target (i + 1) cs) → Fit level depth (cond b (record { place = k; pos = target - (i + 1) * size } ∷ tagged_from k size target (i + 1) cs) (tagged_from k size target (i + 1) cs))
    by true later = (h, later)
    by false later = later

passes_fit : {bytes : List ℕ} {k j : Place} (level depth pos : ℕ) → Passes bytes k j → Fits level depth k → Fits level (depth_in depth (part_of k pos)) j
passes_fit level depth pos node_passes h = h
passes_fit level depth pos box_passes h = h
passes_fit level depth pos behind_passes h = omega (arith, h)
passes_fit level depth pos (list_passes small) h = omega (arith, h)
passes_fit level depth pos text_passes h = h
passes_fit level depth pos child_passes h = h
passes_fit level depth pos (table_passes small) h = omega (arith, h)

pays_fit : {tag : ℕ} {j : Place} → Pays tag j → spare j ≡ 33
pays_fit pays_truth = refl
pays_fit pays_number = refl
pays_fit pays_text = refl
pays_fit pays_shared = refl
pays_fit pays_option = refl
pays_fit pays_list = refl
pays_fit pays_ordered = refl
pays_fit pays_hashed = refl
pays_fit pays_kept = refl
pays_fit pays_whole = refl

-- what follows a place without its own region
plain_fit : {bytes : List ℕ} {k : Place} {l : Label} {qs : List Spot} (level depth pos : ℕ)
    → Follows bytes k l qs → Fits level depth k → Fit level (depth_in depth (part_of k pos)) qs
plain_fit {k = k} level depth pos (passes p e f) h = subst (Fit level (depth_in depth (part_of k pos))) (sym f) (passes_fit level depth pos p h, tt)
plain_fit level depth pos (pays p e f) h = let z = pays_fit p in subst (Fit level depth) (sym f) (omega (arith, z, h), tt)
plain_fit level depth pos (truth_is e f) h = subst (Fit level depth) (sym f) tt
plain_fit level depth pos (number_is e fits f) h = subst (Fit level depth) (sym f) tt
plain_fit level depth pos (text_is e f) h = subst (Fit level depth) (sym f) tt
plain_fit level depth pos (behind_is e f) h = subst (Fit level depth) (sym f) tt
plain_fit level depth pos (none_is e f) h = subst (Fit level (depth + 1)) (sym f) tt
plain_fit level depth pos (some_is e f) h = subst (Fit level (depth + 1)) (sym f) (omega (arith, h), tt)
plain_fit level depth pos (nodes_follow {len = len} start e f) h = subst (Fit level depth) (sym f) (each_fit level depth node_here 24 start len (omega (arith, h)))
plain_fit level depth pos (empty_is e f) h = subst (Fit level (depth + 1)) (sym f) tt
plain_fit level depth pos (total_is small e f) h = subst (Fit level (depth + 1)) (sym f) (omega (arith, h), tt)
plain_fit level depth pos (leaf_follows n key value low e f) h = subst (Fit level depth) (sym f) (entries_fit level depth n key value (omega (arith, low, h)))
plain_fit level depth pos (inner_follows most deeper link key value low next e f) h =
    subst (Fit level depth) (sym f) (branches_fit level depth (suc most) deeper link (entries_from most key value) (omega (arith, next, h)) (entries_fit level depth most key value (omega (arith, low, h))))
plain_fit level depth pos (no_child_is e f) h = subst (Fit level depth) (sym f) tt
plain_fit level depth pos (entry_follows e f) h = subst (Fit level depth) (sym f) (h, (h, tt))
plain_fit level depth pos (no_items_is e f) h = subst (Fit level (depth + 1)) (sym f) tt
plain_fit level depth pos (items_follow {target = target} controls are count e f) h = subst (Fit level depth) (sym f) (tagged_fit level depth pair_here 32 target 0 controls (omega (arith, h)))
plain_fit level depth pos (no_entries_is e f) h = subst (Fit level (depth + 1)) (sym f) tt
plain_fit level depth pos (entries_second small e f) h = subst (Fit level (depth + 1)) (sym f) (omega (arith, h), (omega (arith, h), tt))
plain_fit level depth pos (numbers_follow {target = target} {len = len} controls are count e f) h = subst (Fit level depth) (sym f) (tagged_fit level depth (entry_number len) 4 target 0 controls (omega (arith, h)))
plain_fit level depth pos (entry_number_is low e f) h = subst (Fit level depth) (sym f) tt
plain_fit level depth pos (pairs_follow {len = len} start e f) h = subst (Fit level depth) (sym f) (each_fit level depth pair_here 32 start len (omega (arith, h)))
plain_fit level depth pos (pair_follows key value e f) h = subst (Fit level depth) (sym f) (h, (h, tt))

-- what follows a place in its own region, which is not at a level above a tree's highest
record ClaimedFit (level depth : ℕ) (k : Place) (qs : List Spot) : Type 0 where
  inner : Fit (suc level) depth qs
  low : spare k ≤ 33

claimed_fit : {bytes : List ℕ} {k : Place} {l : Label} {qs : List Spot} (level depth pos : ℕ)
    → Follows bytes k l qs → is_behind k ≡ true → Fits level depth k → ClaimedFit level (depth_in depth (part_of k pos)) k qs
claimed_fit level depth pos (passes node_passes e f) b h = absurd (cc)
claimed_fit level depth pos (passes box_passes e f) b h = absurd (cc)
claimed_fit level depth pos (passes behind_passes e f) b h = record { inner = subst (Fit (suc level) depth) (sym f) (omega (arith, h), tt); low = omega arith }
claimed_fit level depth pos (passes (list_passes small) e f) b h = absurd (cc)
claimed_fit level depth pos (passes text_passes e f) b h = absurd (cc)
claimed_fit level depth pos (passes child_passes e f) b h = absurd (cc)
claimed_fit level depth pos (passes (table_passes small) e f) b h = absurd (cc)
claimed_fit level depth pos (pays p e f) b h = absurd (cc)
claimed_fit level depth pos (truth_is e f) b h = absurd (cc)
claimed_fit level depth pos (number_is e fits f) b h = absurd (cc)
claimed_fit level depth pos (text_is e f) b h = absurd (cc)
claimed_fit level depth pos (behind_is e f) b h = record { inner = subst (Fit (suc level) depth) (sym f) tt; low = omega arith }
claimed_fit level depth pos (none_is e f) b h = absurd (cc)
claimed_fit level depth pos (some_is e f) b h = absurd (cc)
claimed_fit level depth pos (nodes_follow {len = len} start e f) b h = record { inner = subst (Fit (suc level) depth) (sym f) (each_fit (suc level) depth node_here 24 start len (omega (arith, h))); low = omega arith }
claimed_fit level depth pos (empty_is e f) b h = absurd (cc)
claimed_fit level depth pos (total_is small e f) b h = absurd (cc)
claimed_fit level depth pos (leaf_follows n key value low e f) b h = record {
  inner = subst (Fit (suc level) depth) (sym f) (entries_fit (suc level) depth n key value (omega (arith, low, h)));
  low = omega (arith, low);
}
claimed_fit level depth pos (inner_follows most deeper link key value low next e f) b h = record {
  inner =
      subst (Fit (suc level) depth) (sym f)
      (branches_fit (suc level) depth (suc most) deeper link (entries_from most key value) (omega (arith, next, h)) (entries_fit (suc level) depth most key value (omega (arith, low, h))));
  low = omega (arith, low);
}
claimed_fit level depth pos (no_child_is e f) b h = absurd (cc)
claimed_fit level depth pos (entry_follows e f) b h = absurd (cc)
claimed_fit level depth pos (no_items_is e f) b h = absurd (cc)
claimed_fit level depth pos (items_follow {target = target} controls are count e f) b h = record {
  inner = subst (Fit (suc level) depth) (sym f) (tagged_fit (suc level) depth pair_here 32 target 0 controls (omega (arith, h)));
  low = omega arith;
}
claimed_fit level depth pos (no_entries_is e f) b h = absurd (cc)
claimed_fit level depth pos (entries_second small e f) b h = absurd (cc)
claimed_fit level depth pos (numbers_follow {target = target} {len = len} controls are count e f) b h = record {
  inner = subst (Fit (suc level) depth) (sym f) (tagged_fit (suc level) depth (entry_number len) 4 target 0 controls (omega (arith, h)));
  low = omega arith;
}
claimed_fit level depth pos (entry_number_is low e f) b h = absurd (cc)
claimed_fit level depth pos (pairs_follow {len = len} start e f) b h = record { inner = subst (Fit (suc level) depth) (sym f) (each_fit (suc level) depth pair_here 32 start len (omega (arith, h))); low = omega arith }
claimed_fit level depth pos (pair_follows key value e f) b h = absurd (cc)

-- ---- walks

-- a container does not lie inside 64 others
abbrev pub IsLow : Stop → Type 0
IsLow s = is_container s.part ≡ true → s.depth < 64

pub each_of : (P : Stop → Type 0) (xs : List Stop) → ((s : Stop) → Contains xs s → P s) → Each P xs
each_of P [] h = tt
each_of P (x ∷ xs) h = (h x (0, omega arith, refl), each_of P xs (λ s c. h s (suc c.0, (let less = c.1 in omega arith), c.2)))

-- a walk that has visited its first part
record Entered (depth : ℕ) (p : Part) (runs : List (List Stop)) : Type 0 where
  low : depth_in depth p ≤ 64
  shallow : Each IsLow (flat runs)

one_deeper : (b : Bool) (depth : ℕ) → depth ≤ 64 → (b ≡ true → depth < 64) → cond b (depth + 1) depth ≤ 64
one_deeper true depth low h = let own = h refl in omega (arith, own)
one_deeper false depth low h = low

entered : {depth : ℕ} {p : Part} {v : Value} {walk : List Stop} (c : Content) (runs : List (List Stop))
    → walk ≡ record { depth = depth; part = p; value = v } ∷ joined c runs → Each IsLow walk → depth ≤ 64 → Entered depth p runs
entered {depth = depth} {p = p} {v = v} c runs e h low =
    let all : IsLow (record { depth = depth; part = p; value = v }) × Each IsLow (joined c runs) = subst (Each IsLow) e h in
    record { low = one_deeper (is_container p) depth low all.0; shallow = each_flat IsLow c runs all.1 }

-- ---- regions

module _ (bytes : List ℕ) where
  -- what follows a place in the layout
  record Next (level depth : ℕ) (p : Part) (ps : List Part) : Type 0 where
    qs : List Spot
    parts_are : ps ≡ parts_at qs
    fit : Fit level (depth_in depth p) qs

  plain_next : (level depth : ℕ) (k : Place) (pos : ℕ) {p : Part} {l : Label} {ps : List Part} → Leads bytes k (content_of node_names bytes (part_of k pos)) → p ≡ part_of k pos → content_of node_names bytes p ≡ plain l ps → Fits level depth k → Next level depth p ps
  plain_next level depth k pos (leads_nowhere f) is e h = let g = ap (content_of node_names bytes) is in absurd (cc)
  plain_next level depth k pos (leads_plain {qs = qs} f fs) is e h =
      let g = ap (content_of node_names bytes) is in
      record { qs = qs; parts_are = cc; fit = subst (λ x. Fit level (depth_in depth x) qs) (sym is) (plain_fit level depth pos fs h) }
  plain_next level depth k pos (leads_claimed f fs b) is e h = let g = ap (content_of node_names bytes) is in absurd (cc)
  plain_next level depth k pos (leads_counted f) is e h = let g = ap (content_of node_names bytes) is in absurd (cc)
  plain_next level depth k pos (leads_whole f) is e h = let g = ap (content_of node_names bytes) is in absurd (cc)

  record NextBehind (level depth : ℕ) (k : Place) (p : Part) (ps : List Part) : Type 0 where
    next : Next (suc level) depth p ps
    low : spare k ≤ 33

  claimed_next : (level depth : ℕ) (k : Place) (pos : ℕ) {p : Part} {s : Span} {l : Label} {ps : List Part} → Leads bytes k (content_of node_names bytes (part_of k pos)) → p ≡ part_of k pos → content_of node_names bytes p ≡ claimed s l ps → Fits level depth k → NextBehind level depth k p ps
  claimed_next level depth k pos (leads_nowhere f) is e h = let g = ap (content_of node_names bytes) is in absurd (cc)
  claimed_next level depth k pos (leads_plain f fs) is e h = let g = ap (content_of node_names bytes) is in absurd (cc)
  claimed_next level depth k pos (leads_counted f) is e h = let g = ap (content_of node_names bytes) is in absurd (cc)
  claimed_next level depth k pos (leads_whole f) is e h = let g = ap (content_of node_names bytes) is in absurd (cc)
  claimed_next level depth k pos (leads_claimed {qs = qs} f fs b) is e h =
      let g = ap (content_of node_names bytes) is in
      let c = claimed_fit level depth pos fs b h in
      record { next = record { qs = qs; parts_are = cc; fit = subst (λ x. Fit (suc level) (depth_in depth x) qs) (sym is) c.inner }; low = c.low }

  region_nests : (level depth : ℕ) (k : Place) (s : Span) → depth ≤ 64 → spare k ≤ 33 → Fits level depth k → NestsBelow 2050 (region_of s level ∷ [])
  unfolding NestsBelow
  region_nests level depth k s low few h = (omega (arith, few, low, h), tt)

  -- what a pointer that counts leads to: a shared text, or the node of a whole, which is one container more
  record NextCounted (level depth : ℕ) (p : Part) (t : ℕ) (q : Pointee) (len : ℕ) : Type 0 where
    place : Place
    part_is : behind t q len ≡ part_of place t
    fit : Fits level (depth_in depth p) place

  counted_next : (level depth : ℕ) (k : Place) (pos t : ℕ) {p : Part} {cyclic : Bool} {q : Pointee} {len : ℕ} → Counts bytes k cyclic q len → p ≡ part_of k pos → Fits level depth k → NextCounted level depth p t q len
  counted_next level depth k pos t {len = len} (counts_text here acyclic type) is h =
      let there : Fits level depth shared_here = subst (Fits level depth) here h in
      record {
        place = text_behind len;
        part_is = ap (λ x. behind t x len) type;
        fit = subst (λ x. Fits level (depth_in depth x) (text_behind len)) (sym (is ∙ ap (λ j. part_of j pos) here)) there;
      }
  counted_next level depth k pos t (counts_node here acyclic type one) is h =
      let there : Fits level depth whole_here = subst (Fits level depth) here h in
      record {
        place = node_behind;
        part_is = ap₂ (λ x n. behind t x n) type one;
        fit = subst (λ x. Fits level (depth_in depth x) node_behind) (sym (is ∙ ap (λ j. part_of j pos) here)) (omega (arith, there));
      }

  -- the walk of one part
  record OneWalk (depth : ℕ) (p : Part) : Type 0 where
    value : Value
    walk : List Stop
    walked : Walks node_names bytes depth p value walk
    shallow : Each IsLow walk

  one_walk : {depth : ℕ} {p : Part} {ws : Values} {runs : List (List Stop)} → WalkAll node_names bytes depth (p ∷ []) ws runs → Each IsLow (flat runs) → OneWalk depth p
  one_walk (walk_more {v = v} {here = run} {later = others} w all f g) shallow =
      let both = each_front IsLow run (flat others) (subst (λ x. Each IsLow (flat x)) g shallow) in
      record { value = v; walk = run; walked = w; shallow = both.0 }

  mutual
    unfolding NestsBelow

    -- in a walk in which no container lies inside 64 others, at most 2,050 regions lie in one another
    pub nests : {level depth : ℕ} {inside : List OpenShared} {p : Part} {v w : Value} {regions : List Region} {before after : List Visit} {walk : List Stop}
        → Holds node_names bytes level inside p v regions before after → Walks node_names bytes depth p w walk → Each IsLow walk → depth ≤ 64
        → (k : Place) (pos : ℕ) → p ≡ part_of k pos → Fits level depth k → NestsBelow 2050 regions
    nests {level = level} {depth = depth} {p = p} (holds_plain e legal all m) (walks {vs = ws} {inner = runs} wall y is_walk) shallow low k pos is h =
        let n = plain_next level depth k pos (led bytes k pos) is e h in
        let i = entered (content_of node_names bytes p) runs is_walk shallow low in
        all_nest all (subst (λ c. WalkAll node_names bytes (depth_in depth p) (parts_of c) ws runs) e wall) i.shallow i.low n.qs n.parts_are n.fit
    nests {level = level} {depth = depth} {p = p} (holds_claimed {within = within} {s = s} e legal all m x) (walks {vs = ws} {inner = runs} wall y is_walk) shallow low k pos is h =
        let b = claimed_next level depth k pos (led bytes k pos) is e h in
        let n = b.next in
        let i = entered (content_of node_names bytes p) runs is_walk shallow low in
        let inner = all_nest all (subst (λ c. WalkAll node_names bytes (depth_in depth p) (parts_of c) ws runs) e wall) i.shallow i.low n.qs n.parts_are n.fit in
        subst (NestsBelow 2050) (sym x) (NestsBelow-append 2050 within (region_of s level ∷ []) inner (region_nests level depth k s low b.low h))
    nests {level = level} {depth = depth} {p = p} (holds_first {t = t} e a b h d g) (walks {vs = ws} {inner = runs} wall y is_walk) shallow low k pos is fit =
        let c = counts bytes k pos (ap (content_of node_names bytes) (sym is) ∙ e) in
        let i = entered (content_of node_names bytes p) runs is_walk shallow low in
        let o = one_walk (subst (λ x. WalkAll node_names bytes (depth_in depth p) (parts_of x) ws runs) e wall) i.shallow in
        let n = counted_next level depth k pos t c is fit in
        nests h o.walked o.shallow i.low n.place t n.part_is n.fit
    nests (holds_later e a b d g h) walked shallow low k pos is fit = subst (NestsBelow 2050) (sym g) tt
    nests (holds_back e a d g h) walked shallow low k pos is fit = subst (NestsBelow 2050) (sym g) tt

    all_nest : {level depth : ℕ} {inside : List OpenShared} {ps : List Part} {vs ws : Values} {regions : List Region} {before after : List Visit} {runs : List (List Stop)}
        → HoldAll node_names bytes level inside ps vs regions before after → WalkAll node_names bytes depth ps ws runs → Each IsLow (flat runs) → depth ≤ 64
        → (qs : List Spot) → ps ≡ parts_at qs → Fit level depth qs → NestsBelow 2050 regions
    all_nest (holds_none e f g) walked shallow low qs is fit = subst (NestsBelow 2050) (sym f) tt
    all_nest (holds_more h hs e r) walked shallow low [] is fit = absurd (cc)
    all_nest (holds_more {here = here} {later = later} h hs e r) (walk_more {here = run} {later = others} w ws f g) shallow low (q ∷ qs) is fit =
        let both = each_front IsLow run (flat others) (subst (λ x. Each IsLow (flat x)) g shallow) in
        let first = nests h w both.0 low q.place q.pos (cc) fit.0 in
        let rest = all_nest hs ws both.1 low qs (cc) fit.1 in
        subst (NestsBelow 2050) (sym r) (NestsBelow-append 2050 here later first rest)
