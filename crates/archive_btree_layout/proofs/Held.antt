-- A tree that the layout holds is read by levels, node by node, and it is read alike in bytes that agree with these
-- except for its values.
use Rattle.std.proofs.Common.{◌≡◌, ◌∙◌, ℕ, zero, suc, ◌+◌, ◌*◌, ◌<◌, ◌≤◌, Bool, true, false, ◌==◌, nat_le, List, [], ◌∷◌, ◌++◌, length, drop, Option, Some, None, refl, ap, sym, subst, arith, leb-true, eqb-true, eq-eqb}
use Rattle.std.proofs.Math.Nat.{mul-le-mul_right}
use Rattle.std.specs.Prelude.{slice_index, AllPairs}
use Rattle.archive_shape_layout.specs.Bytes.{window, word_at, target_from}
use Rattle.archive_shape_layout.specs.Shape.{Shape, align_of, size_of}
use Rattle.archive_shape_layout.specs.Value.{Value, Values}
use Rattle.archive_shape_layout.specs.Value.Value.{group}
use Rattle.archive_shape_layout.specs.Value.Values.{no_values, more_values}
use Rattle.archive_shape_layout.specs.Content.{Names, Part, Span, Label, choose, following, made, members, weave, first_values, other_values, node_content, child_content, children, entries, keys_offset, values_offset, links_offset, link_node_size, node_span, words_of}
use Rattle.archive_shape_layout.specs.Content.Part.{node, child}
use Rattle.archive_shape_layout.specs.Content.Label.{same, whole, woven}
use Rattle.archive_shape_layout.specs.Content.Content.{illegal, plain, claimed}
use Rattle.archive_shape_layout.specs.Holds.{Region, Visit, OpenShared, Holds, HoldAll, end_after}
use Rattle.archive_shape_layout.specs.Holds.Holds.{holds_plain, holds_claimed, holds_first, holds_later, holds_back}
use Rattle.archive_shape_layout.specs.Holds.HoldAll.{holds_none, holds_more}
use Rattle.archive_shape_layout.specs.Visited.{AllStand, ClaimedAfter}
use Rattle.archive_shape_layout.proofs.Framed.{keys_fit, values_fit, links_fit, le_align_up}
use Rattle.archive_shape_layout.proofs.Visited.{stand_raised, claimed_here, claimed_front, claimed_later, claimed_inside}
use Rattle.archive_btree_layout.specs.Tree.{Tree, Branches, items, items_of}
use Rattle.archive_btree_layout.specs.Tree.Tree.{absent, leaf, inner}
use Rattle.archive_btree_layout.specs.Tree.Branches.{greater, lesser}
use Rattle.archive_btree_layout.specs.Reading.{Place, places, HasNode, HasBranches, HasChild}
use Rattle.archive_btree_layout.specs.Items.{AreAt, ArePairs}
use Rattle.archive_btree_layout.specs.Changing.{IsInNoValue, AreApart, IsKept}
use Rattle.archive_btree_layout.specs.Reading.HasNode.{has_leaf, has_inner}
use Rattle.archive_btree_layout.specs.Reading.HasBranches.{has_greater, has_lesser}
use Rattle.archive_btree_layout.specs.Reading.HasChild.{no_child, a_child}
use Rattle.archive_btree_layout.proofs.Contents.{IsPlain, IsClaimed, node_is_claimed, child_is_plain, pick, allowed, both, kind_of}
use Rattle.archive_btree_layout.proofs.Changed.{AreIn, Agrees, none_in, none_apart, places_in, places_apart, widened, between_in, between_apart}
use Rattle.archive_btree_layout.proofs.Nodes.{Leads, SameNodes}
use Rattle.archive_btree_layout.proofs.Nodes.SameNodes.{same_leaf, same_inner}
use Rattle.archive_btree_layout.proofs.Paired.{append_at, whole_is, EntriesHeld, entries_held}
use Rattle.archive_shape_layout.proofs.Windows.{word_within, word_of}
use Rattle.archive_shape_layout.specs.Bytes.{IsOutside}
use Rattle.archive_shape_layout.proofs.SameBytes.{AreSame, word_same}

module _ (names : Names) (bytes : List ℕ) (most : ℕ) (k v : Shape) where
  -- what other bytes have of pairs
  abbrev AreKept : List ℕ → List Place → Values → Type 0
  AreKept others ps ws = AreAt (IsKept names bytes others k v) ps ws

  -- where a pointer leads, both have the same nodes
  abbrev AreLed : List ℕ → ℕ → ℕ → Type 0
  AreLed others level link = (child : ℕ) → Leads bytes link child → SameNodes bytes others most k v level child

  -- Between two positions a node is read, and its items are the pairs of its value; it is the same in bytes that agree
  -- there except for the items' values. Where the values visited before it lie in these, so do those visited after it.
  pub record ReadNode (before after : List Visit) (low high level pos : ℕ) (value : Value) : Type 0 where
    pub tree : Tree Place
    pub node : HasNode bytes most k v level pos tree
    pub pairs : ArePairs names bytes k v (items tree) (members value)
    pub within : AreIn v low high (items tree)
    pub apart : AllPairs (AreApart v) (items tree)
    pub kept :
        (others : List ℕ) → AllStand names others low before → Agrees v (items tree) bytes others low high
        → HasNode others most k v level pos tree × AreKept others (items tree) (members value) × SameNodes bytes others most k v level pos × AllStand names others high after

  -- the same of a pointer to a child, which lies elsewhere
  pub record ReadChild (before after : List Visit) (low high level link : ℕ) (value : Value) : Type 0 where
    pub tree : Tree Place
    pub child : HasChild bytes most k v level link tree
    pub pairs : ArePairs names bytes k v (items tree) (members value)
    pub within : AreIn v low high (items tree)
    pub apart : AllPairs (AreApart v) (items tree)
    pub kept :
        (others : List ℕ) → AllStand names others low before → Agrees v (items tree) bytes others low high → word_at others link ≡ word_at bytes link
        → HasChild others most k v level link tree × AreKept others (items tree) (members value) × AreLed others level link × AllStand names others high after

  -- every node at the level that the layout holds is read
  abbrev Reads : ℕ → Type 0
  Reads level =
      (depth : ℕ) (inside : List OpenShared) (pos : ℕ) (value : Value) (rs : List Region) (before after : List Visit) (low high : ℕ)
      → high ≤ length bytes
      → Holds names bytes depth inside (node level most k v pos) value rs before after
      → ClaimedAfter names bytes before low high rs
      → ReadNode before after low high level pos value

  pub same_is : (l : Label) (u : Value) (vs : Values) (value : Value) → l ≡ same → vs ≡ more_values u no_values → made l vs ≡ Some value → value ≡ u
  unfolding made
  same_is l u vs value e f m =
      let n : made same (more_values u no_values) ≡ Some value = subst (λ x. made x (more_values u no_values) ≡ Some value) e (subst (λ x. made l x ≡ Some value) f m) in cc

  pub no_parts : {depth : ℕ} {inside : List OpenShared} {vs : Values} {rs : List Region} {before after : List Visit} → HoldAll names bytes depth inside [] vs rs before after → (vs ≡ no_values) × (after ≡ before)
  no_parts (holds_none e f g) = (e, g)

  -- ---- a pointer

  -- the parts of a pointer that is followed
  one_of : {depth : ℕ} {inside : List OpenShared} {level pos : ℕ} {l : Label} {vs : Values} {value : Value} {rs : List Region} {before after : List Visit} (low high : ℕ)
      → high ≤ length bytes
      → Reads level → l ≡ same → made l vs ≡ Some value
      → HoldAll names bytes depth inside (node level most k v pos ∷ []) vs rs before after
      → ClaimedAfter names bytes before low high rs
      → ReadNode before after low high level pos value
  one_of {level = level} {pos = pos} {l = l} {vs = ws} {value = value} {before = before} {after = after} low high top read label m (holds_more {v = u} {vs = us} {here = here} {later = later} {regions = rs} {between = between} h (holds_none x y z) e f) a =
      let r = read _ _ _ _ _ _ _ low high top h (claimed_front later f a) in
      let one : ws ≡ more_values u no_values = cc in
      subst (λ b. ReadNode before b low high level pos value) (sym z) (subst (ReadNode before between low high level pos) (sym (same_is l u ws value label one m)) r)

  followed : {depth : ℕ} {inside : List OpenShared} {level link : ℕ} {l : Label} {ps : List Part} {vs : Values} {value : Value} {rs : List Region} {before after : List Visit} (low high : ℕ) (o : Option ℕ)
      → high ≤ length bytes
      → Reads level
      → target_from link (word_at bytes link) ≡ o → (word_at bytes link ≡ 1 → ⊥)
      → following o (λ t. plain same (node level most k v t ∷ [])) ≡ plain l ps → made l vs ≡ Some value
      → HoldAll names bytes depth inside ps vs rs before after → ClaimedAfter names bytes before low high rs
      → ReadChild before after low high level link value
  unfolding following
  followed low high None top read is not e m all a = absurd cc
  followed {depth} {inside} {level} {link} {l} {ps} {vs} {value} {rs} {before} {after} low high (Some t) top read is not e m all a =
      let parts : ps ≡ node level most k v t ∷ [] = cc in
      let label : l ≡ same = cc in
      let n = one_of low high top read label m (subst (λ qs. HoldAll names bytes depth inside qs vs rs before after) parts all) a in
      record {
        tree = n.tree;
        child = a_child not is n.node;
        pairs = n.pairs;
        within = n.within;
        apart = n.apart;
        kept = λ others stand g w. let x = n.kept others stand g in (a_child (λ e. not (sym w ∙ e)) (ap (target_from link) w ∙ is) x.0, x.1, λ child leads. (let one : t ≡ child = cc in subst (SameNodes bytes others most k v level) one x.2), x.3);
      }

  child_read : {depth : ℕ} {inside : List OpenShared} {level link : ℕ} {l : Label} {ps : List Part} {vs : Values} {value : Value} {rs : List Region} {before after : List Visit} (low high : ℕ) (b : Bool)
      → high ≤ length bytes
      → Reads level
      → (word_at (window bytes link 4) 0 == 1) ≡ b
      → choose b (plain whole []) (choose (nat_le level 32) (following (target_from link (word_at (window bytes link 4) 0)) (λ t. plain same (node level most k v t ∷ []))) illegal) ≡ plain l ps
      → made l vs ≡ Some value
      → HoldAll names bytes depth inside ps vs rs before after → ClaimedAfter names bytes before low high rs
      → ReadChild before after low high level link value
  unfolding choose
  child_read {depth} {inside} {level} {link} {l} {ps} {vs} {value} {rs} {before} {after} low high true top read is e m all a =
      let parts : ps ≡ [] = cc in
      let label : l ≡ whole = cc in
      let none = no_parts (subst (λ qs. HoldAll names bytes depth inside qs vs rs before after) parts all) in
      let empty : value ≡ group no_values = whole_is names bytes k v l vs value label m ∙ ap group none.0 in
      let invalid : word_at bytes link ≡ 1 = sym (word_of bytes link) ∙ eqb-true _ 1 is in
      record {
        tree = absent;
        child = no_child invalid refl;
        pairs = subst (λ x. ArePairs names bytes k v [] (members x)) (sym empty) tt;
        within = none_in v low high;
        apart = none_apart v;
        kept = λ others stand g w. (
          no_child (w ∙ invalid) refl,
          subst (λ x. AreKept others [] (members x)) (sym empty) tt,
          λ child leads. absurd (leads.0 invalid),
          subst (AllStand names others high) (sym none.1) (stand_raised a.below stand),
        );
      }
  child_read {depth} {inside} {level} {link} low high false top read is e m all a =
      followed low high (target_from link (word_at (window bytes link 4) 0)) top read (ap (target_from link) (sym (word_of bytes link)))
      (λ w. let t = eq-eqb (word_at (window bytes link 4) 0) 1 (word_of bytes link ∙ w) in absurd cc) (allowed (nat_le level 32) _ e) m all a

  child_held : {depth : ℕ} {inside : List OpenShared} {level link : ℕ} {value : Value} {rs : List Region} {before after : List Visit} (low high : ℕ)
      → high ≤ length bytes
      → Reads level
      → Holds names bytes depth inside (child level most k v link) value rs before after → ClaimedAfter names bytes before low high rs
      → ReadChild before after low high level link value
  unfolding child_content
  child_held {level = level} {link = link} low high top read (holds_plain e legal all m) a = child_read low high (word_at (window bytes link 4) 0 == 1) top read refl e m all a
  child_held {level = level} {link = link} low high top read (holds_claimed e legal all m r) a = absurd (subst IsPlain e (child_is_plain level most k v link (window bytes link 4)))
  child_held {level = level} {link = link} low high top read (holds_first e b c d f g) a = absurd (subst IsPlain e (child_is_plain level most k v link (window bytes link 4)))
  child_held {level = level} {link = link} low high top read (holds_later e b c d f g) a = absurd (subst IsPlain e (child_is_plain level most k v link (window bytes link 4)))
  child_held {level = level} {link = link} low high top read (holds_back e b c d f) a = absurd (subst IsPlain e (child_is_plain level most k v link (window bytes link 4)))

  -- ---- the pointers of a node

  -- children from a pointer on, read between two positions: what is read of them, woven with the entries, and the parts
  -- after them
  record ReadBranches (first last : List Visit) (bottom high : ℕ) (depth : ℕ) (inside : List OpenShared) (n level link key place : ℕ) (es : List Part) (vs : Values) : Type 0 where
    branches : Branches Place
    stand : HasBranches bytes most k v n level link key place branches
    woven_pairs : (ws : Values) → ArePairs names bytes k v (places n k key v place) ws → ArePairs names bytes k v (items_of branches) (weave (first_values (suc n) vs) ws)
    low : ℕ
    regions : List Region
    before : List Visit
    rest : HoldAll names bytes depth inside es (other_values (suc n) vs) regions before last
    claimed : ClaimedAfter names bytes before low high regions
    grows : bottom ≤ low
    within : (i : ℕ) → IsOutside bottom low i → IsOutside place (place + n * size_of v) i → IsInNoValue v (items_of branches) i
    apart : AllPairs (AreApart v) (items_of branches)
    kept :
        (others : List ℕ) → AllStand names others bottom first → Agrees v (items_of branches) bytes others bottom low → AreSame bytes others link (link + suc n * 4)
        → HasBranches others most k v n level link key place branches
        × ((ws : Values) → AreKept others (places n k key v place) ws → AreKept others (items_of branches) (weave (first_values (suc n) vs) ws))
        × ((i : ℕ) → i ≤ n → AreLed others level (link + i * 4))
        × AllStand names others low before

  last_woven : (IsAt : Place → Value → Type 0) (tree : Tree Place) (c : Value) (us : Values) → AreAt IsAt (items tree) (members c) → (ws : Values) → AreAt IsAt [] ws
      → AreAt IsAt (items tree) (weave (first_values 1 (more_values c us)) ws)
  last_woven IsAt tree c us p no_values q = p
  last_woven IsAt tree c us p (more_values w ws) q = absurd q

  more_woven : (IsAt : Place → Value → Type 0) (n : ℕ) (tree : Tree Place) (c : Value) (us : Values) (p : Place) (ps : List Place) (bs : Branches Place) → AreAt IsAt (items tree) (members c)
      → ((ws : Values) → AreAt IsAt ps ws → AreAt IsAt (items_of bs) (weave (first_values (suc n) us) ws))
      → (ws : Values) → AreAt IsAt (p ∷ ps) ws
      → AreAt IsAt (items tree ++ p ∷ items_of bs) (weave (first_values (suc (suc n)) (more_values c us)) ws)
  more_woven IsAt n tree c us p ps bs here there no_values q = absurd q
  more_woven IsAt n tree c us p ps bs here there (more_values w ws) q =
      append_at IsAt (items tree) (p ∷ items_of bs) (members c) (more_values w (weave (first_values (suc n) us) ws)) here (q.0, there ws q.1)

  first_or_later : (others : List ℕ) (level link n i : ℕ) → i ≤ suc n → AreLed others level link → ((j : ℕ) → j ≤ n → AreLed others level (link + 4 + j * 4)) → AreLed others level (link + i * 4)
  first_or_later others level link n zero le first later = let e : link ≡ link + 0 * 4 = omega arith in subst (AreLed others level) e first
  first_or_later others level link n (suc j) le first later = let e : link + 4 + j * 4 ≡ link + suc j * 4 = omega arith in subst (AreLed others level) e (later j (omega arith))

  branches_held : (n : ℕ) {depth : ℕ} {inside : List OpenShared} {level link : ℕ} (key place : ℕ) (es : List Part) {vs : Values} {rs : List Region} {before after : List Visit} (bottom high : ℕ)
      → Reads level
      → high ≤ length bytes → bottom ≤ high → high ≤ place
      → HoldAll names bytes depth inside (children (suc n) level most k v link ++ es) vs rs before after → ClaimedAfter names bytes before bottom high rs
      → ReadBranches before after bottom high depth inside n level link key place es vs
  unfolding children
  branches_held zero {depth} {inside} {level} {link} key place es {before = first} {after = last} bottom high read top up down (holds_more {v = u} {vs = us} {here = here} {later = later} {regions = rs} {between = between} h all e f) a =
      let mid = end_after bottom here in
      let front = claimed_here later f a in
      let behind = claimed_later h f a in
      let grows : bottom ≤ mid = front.below in
      let below : mid ≤ high = behind.below in
      let c = child_held bottom mid (omega arith) read h front in
      subst (ReadBranches first last bottom high depth inside zero level link key place es) (sym e)
      (record {
        branches = greater c.tree;
        stand = has_greater refl c.child refl;
        woven_pairs = last_woven _ c.tree u us c.pairs;
        low = mid;
        regions = later;
        before = between;
        rest = all;
        claimed = behind;
        grows = grows;
        within = λ i out own. c.within i out;
        apart = c.apart;
        kept = λ others stand g links.
            let x = c.kept others stand g (word_same bytes others link (λ i le lt. links i le (omega arith))) in
            (has_greater refl x.0 refl, last_woven _ c.tree u us x.1, λ i le. (let e : link ≡ link + i * 4 = omega arith in subst (AreLed others level) e x.2), x.3);
      })
  branches_held (suc n) {depth} {inside} {level} {link} key place es {before = first} {after = last} bottom high read top up down (holds_more {v = u} {vs = us} {here = here} {later = later} {regions = rs} h all e f) a =
      let mid = end_after bottom here in
      let front = claimed_here later f a in
      let behind = claimed_later h f a in
      let grows : bottom ≤ mid = front.below in
      let below : mid ≤ high = behind.below in
      let c = child_held bottom mid (omega arith) read h front in
      let r = branches_held n (key + size_of k) (place + size_of v) es mid high read top below (omega arith) all behind in
      let p : Place = record { key = key; value = place } in
      let further = r.grows in
      let ends = r.claimed.below in
      let among : (i : ℕ) → IsInNoValue v (items c.tree) i → IsOutside place (place + size_of v) i → IsInNoValue v (items_of r.branches) i → IsInNoValue v (items_of (lesser c.tree p r.branches)) i =
      λ i x y z. between_in v p (items c.tree) (items_of r.branches) i x y z
      in
      subst (ReadBranches first last bottom high depth inside (suc n) level link key place es) (sym e)
      (record {
        branches = lesser c.tree p r.branches;
        stand = has_lesser refl c.child r.stand refl;
        woven_pairs = more_woven _ n c.tree u us p (places n k (key + size_of k) v (place + size_of v)) r.branches c.pairs r.woven_pairs;
        low = r.low;
        regions = r.regions;
        before = r.before;
        rest = r.rest;
        claimed = r.claimed;
        grows = omega arith;
        within = λ i out own.
            among i (c.within i (λ le. let past = out le in omega arith)) (λ le. let past = own le in omega (arith, past))
            (r.within i (λ le. out (omega arith)) (λ le. let past = own (omega arith) in omega (arith, past)));
        apart =
            between_apart v bottom mid r.low p (items c.tree) (items_of r.branches) (omega arith) (omega arith) c.within (λ i out not. r.within i out (λ le. absurd (not le))) c.apart r.apart;
        kept = λ others stand g links.
            let x =
            c.kept others stand
            (record {
              same_length = g.same_length;
              same = λ i le lt out. g.same i le (omega arith) (among i out (λ past. omega arith) (r.within i (λ past. omega arith) (λ past. omega arith)));
            })
            (word_same bytes others link (λ i le lt. links i le (omega arith)))
            in
            let y =
            r.kept others x.3
            (record {
              same_length = g.same_length;
              same = λ i le lt out. g.same i (omega arith) lt (among i (c.within i (λ past. le)) (λ past. omega arith) out);
            })
            (λ i le lt. links i (omega arith) (omega arith))
            in
            (has_lesser refl x.0 y.0 refl, more_woven _ n c.tree u us p (places n k (key + size_of k) v (place + size_of v)) r.branches x.1 y.1, λ i le. first_or_later others level link n i le x.2 y.2, y.3);
      })

  -- ---- a node

  level_bound : (level pos kind : ℕ) (own : List ℕ) (s : Span) (l : Label) (ps : List Part) → node_content level most k v pos kind own ≡ claimed s l ps → level ≤ 32
  unfolding node_content
  level_bound level pos zero own s l ps e = leb-true level 32 (both (nat_le level 32) (nat_le (word_at own (links_offset most k v)) most) (pick _ _ e).0).0
  level_bound level pos (suc zero) own s l ps e = leb-true level 32 (pick (nat_le level 32) _ e).0
  level_bound level pos (suc (suc kind)) own s l ps e = absurd cc

  pub woven_is : (l : Label) (vs : Values) (value : Value) (n : ℕ) → l ≡ woven n → made l vs ≡ Some value → value ≡ group (weave (first_values n vs) (other_values n vs))
  unfolding made
  woven_is l vs value n e m = let x : made (woven n) vs ≡ Some value = subst (λ y. made y vs ≡ Some value) e m in cc

  no_kind : (level pos kind : ℕ) (own : List ℕ) (s : Span) (l : Label) (ps : List Part) → node_content level most k v pos (suc (suc kind)) own ≡ claimed s l ps → ⊥
  unfolding node_content
  no_kind level pos kind own s l ps e = cc

  -- a key begins after the kind byte
  past_kind : 1 ≤ keys_offset k
  unfolding keys_offset
  past_kind = le_align_up 1 (align_of k)

  leaf_kept : (level pos len low high : ℕ) {before after : List Visit} {ws : Values} → level ≤ 32 → pos + link_node_size 1 most k v ≤ length bytes → slice_index bytes pos ≡ 0 → word_at bytes (pos + links_offset most k v) ≡ len → len ≤ most
      → low ≤ pos → pos + link_node_size 1 most k v ≤ high
      → EntriesHeld names bytes k v before after len low pos (pos + keys_offset k) (pos + values_offset most k v) ws
      → (others : List ℕ) → AllStand names others low before → Agrees v (places len k (pos + keys_offset k) v (pos + values_offset most k v)) bytes others low high
      → HasNode others most k v level pos (leaf (places len k (pos + keys_offset k) v (pos + values_offset most k v))) × AreKept others (places len k (pos + keys_offset k) v (pos + values_offset most k v)) ws
      × SameNodes bytes others most k v level pos × AllStand names others high after
  leaf_kept level pos len low high deep room z word few from to held others stand g =
      let link = links_fit 1 most k v in
      let keys = keys_fit 1 most k v in
      let values = values_fit most k v in
      let start = past_kind in
      let wide_keys = mul-le-mul_right (size_of k) few in
      let wide_values = mul-le-mul_right (size_of v) few in
      let same_length = g.same_length in
      let own : (i : ℕ) → low ≤ i → i < pos + link_node_size 1 most k v → IsOutside (pos + values_offset most k v) (pos + values_offset most k v + len * size_of v) i → slice_index others i ≡ slice_index bytes i =
      λ i le lt out. g.same i le (omega arith) (places_in len k (pos + keys_offset k) v (pos + values_offset most k v) i out)
      in
      let kind = own pos from (omega arith) (λ past. omega arith) ∙ z in
      let there =
      has_leaf deep (omega arith) kind
      (word_same bytes others (pos + links_offset most k v) (λ i le lt. own i (omega arith) (omega arith) (λ past. omega (arith, wide_values, values))) ∙ word) few refl
      in
      let x =
      held.kept others same_length stand (λ i le lt. own i le (omega arith) (λ past. omega arith))
      (λ i le lt. own i (omega arith) (omega (arith, wide_keys, keys, lt, values)) (λ past. omega (arith, wide_keys, keys, lt, past)))
      in
      (there, x.0, same_leaf (has_leaf deep room z word few refl) there z kind, stand_raised (omega arith) x.1)

  leaf_read : (level pos : ℕ) {depth : ℕ} {inside : List OpenShared} {vs : Values} {value : Value} {within : List Region} {before after : List Visit} (low high : ℕ) (s : Span) (l : Label) (ps : List Part) → slice_index bytes pos ≡ 0
      → node_content level most k v pos zero (window bytes pos (link_node_size 1 most k v)) ≡ claimed s l ps
      → high ≤ length bytes → s.start + s.size ≤ high → low ≤ s.start → made l vs ≡ Some value
      → HoldAll names bytes depth inside ps vs within before after → ClaimedAfter names bytes before low s.start within
      → ReadNode before after low high level pos value
  unfolding node_content
  leaf_read level pos {depth} {inside} {vs} {value} {within} {before} {after} low high s l ps z e top to from m all a =
      let p = pick _ _ e in
      let own = window bytes pos (link_node_size 1 most k v) in
      let b = both (nat_le level 32) (nat_le (word_at own (links_offset most k v)) most) p.0 in
      let link = links_fit 1 most k v in
      let word = word_within bytes pos (link_node_size 1 most k v) (links_offset most k v) (omega arith) in
      let span : s ≡ node_span 1 most k v pos = cc in
      let here : pos + link_node_size 1 most k v ≤ high = subst (λ q. q.start + q.size ≤ high) span to in
      let behind : low ≤ pos = subst (λ q. low ≤ q.start) span from in
      let le : word_at own (links_offset most k v) ≤ most = leb-true _ most b.1 in
      let label : l ≡ whole = cc in
      let parts : ps ≡ entries (word_at own (links_offset most k v)) k (pos + keys_offset k) v (pos + values_offset most k v) = cc in
      let few : word_at bytes (pos + links_offset most k v) ≤ most = subst (λ w. w ≤ most) word le in
      let keys = keys_fit 1 most k v in
      let values = values_fit most k v in
      let wide_keys = mul-le-mul_right (size_of k) few in
      let wide_values = mul-le-mul_right (size_of v) few in
      let shaped : ps ≡ entries (word_at bytes (pos + links_offset most k v)) k (pos + keys_offset k) v (pos + values_offset most k v) =
      subst (λ n. ps ≡ entries n k (pos + keys_offset k) v (pos + values_offset most k v)) word parts
      in
      let held =
      entries_held names bytes k v (word_at bytes (pos + links_offset most k v)) (pos + keys_offset k) (pos + values_offset most k v) low pos behind (omega arith) (omega (arith, keys, wide_keys)) (omega (arith, here, link, values, wide_values))
      (subst (λ qs. HoldAll names bytes depth inside qs vs within before after) shaped all) (subst (λ q. ClaimedAfter names bytes before low q.start within) span a)
      in
      let is = whole_is names bytes k v l vs value label m in
      let deep = leb-true level 32 b.0 in
      let kept = leaf_kept level pos (word_at bytes (pos + links_offset most k v)) low high deep (omega arith) z refl few behind here held in
      let es = places (word_at bytes (pos + links_offset most k v)) k (pos + keys_offset k) v (pos + values_offset most k v) in
      record {
        tree = leaf es;
        node = has_leaf deep (omega arith) z refl few refl;
        pairs = subst (λ x. ArePairs names bytes k v es (members x)) (sym is) held.pairs;
        within =
            widened v low (pos + values_offset most k v) (pos + values_offset most k v + word_at bytes (pos + links_offset most k v) * size_of v) high es (omega arith) (omega (arith, here, link, values, wide_values))
            (places_in (word_at bytes (pos + links_offset most k v)) k (pos + keys_offset k) v (pos + values_offset most k v));
        apart = places_apart (word_at bytes (pos + links_offset most k v)) k (pos + keys_offset k) v (pos + values_offset most k v);
        kept = λ others stand g. let x = kept others stand g in (x.0, subst (λ y. AreKept others es (members y)) (sym is) x.1, x.2, x.3);
      }

  inner_kept : (level pos low high : ℕ) {depth : ℕ} {inside : List OpenShared} {before after : List Visit} {es : List Part} {vs : Values} {ws : Values} → level ≤ 32 → pos + link_node_size (most + 1) most k v ≤ length bytes → slice_index bytes pos ≡ 1
      → low ≤ pos → pos + link_node_size (most + 1) most k v ≤ high
      → (r : ReadBranches before after low pos depth inside most (suc level) (pos + links_offset most k v) (pos + keys_offset k) (pos + values_offset most k v) es vs)
      → EntriesHeld names bytes k v r.before after most r.low pos (pos + keys_offset k) (pos + values_offset most k v) ws
      → (others : List ℕ) → AllStand names others low before → Agrees v (items_of r.branches) bytes others low high
      → HasNode others most k v level pos (inner r.branches) × AreKept others (items_of r.branches) (weave (first_values (suc most) vs) ws)
      × SameNodes bytes others most k v level pos × AllStand names others high after
  inner_kept level pos low high {ws = ws} deep room z from to r held others stand g =
      let link = links_fit (most + 1) most k v in
      let keys = keys_fit (most + 1) most k v in
      let values = values_fit most k v in
      let start = past_kind in
      let same_length = g.same_length in
      let further = r.grows in
      let ends = r.claimed.below in
      let own : (i : ℕ) → r.low ≤ i → i < pos + link_node_size (most + 1) most k v → IsOutside (pos + values_offset most k v) (pos + values_offset most k v + most * size_of v) i → slice_index others i ≡ slice_index bytes i =
      λ i le lt out. g.same i (omega arith) (omega arith) (r.within i (λ past. le) out)
      in
      let x =
      r.kept others stand (record { same_length = same_length; same = λ i le lt out. g.same i le (omega arith) out })
      (λ i le lt. own i (omega arith) (omega arith) (λ past. omega arith))
      in
      let kind = own pos ends (omega arith) (λ past. omega arith) ∙ z in
      let there = has_inner deep (omega arith) kind x.0 refl in
      let y =
      held.kept others same_length x.3 (λ i le lt. own i le (omega arith) (λ past. omega arith))
      (λ i le lt. own i (omega arith) (omega arith) (λ past. omega arith))
      in (
        there,
        x.1 ws y.0,
        same_inner (has_inner deep room z r.stand refl) there z kind
            (λ i below. word_same bytes others (pos + links_offset most k v + i * 4) (λ j le lt. own j (omega arith) (omega arith) (λ past. omega arith)))
            (λ i child below leads. x.2 i below child leads),
        stand_raised (omega arith) y.1,
      )

  inner_read : (level pos : ℕ) {depth : ℕ} {inside : List OpenShared} {vs : Values} {value : Value} {within : List Region} {before after : List Visit} (low high : ℕ) (s : Span) (l : Label) (ps : List Part)
      → Reads (suc level)
      → slice_index bytes pos ≡ 1
      → node_content level most k v pos (suc zero) (window bytes pos (link_node_size (most + 1) most k v)) ≡ claimed s l ps
      → high ≤ length bytes → s.start + s.size ≤ high → low ≤ s.start → made l vs ≡ Some value
      → HoldAll names bytes depth inside ps vs within before after → ClaimedAfter names bytes before low s.start within
      → ReadNode before after low high level pos value
  unfolding node_content
  inner_read level pos {depth} {inside} {vs} {value} {within} {before} {after} low high s l ps read z e top to from m all a =
      let p = pick _ _ e in
      let span : s ≡ node_span (most + 1) most k v pos = cc in
      let here : pos + link_node_size (most + 1) most k v ≤ high = subst (λ q. q.start + q.size ≤ high) span to in
      let behind : low ≤ pos = subst (λ q. low ≤ q.start) span from in
      let link = links_fit (most + 1) most k v in
      let keys = keys_fit (most + 1) most k v in
      let values = values_fit most k v in
      let es = entries most k (pos + keys_offset k) v (pos + values_offset most k v) in
      let parts : ps ≡ children (most + 1) (level + 1) most k v (pos + links_offset most k v) ++ es = cc in
      let more : most + 1 ≡ suc most = omega arith in
      let next : level + 1 ≡ suc level = omega arith in
      let shaped : ps ≡ children (suc most) (suc level) most k v (pos + links_offset most k v) ++ es =
      subst (λ i. ps ≡ children i (suc level) most k v (pos + links_offset most k v) ++ es) more
      (subst (λ i. ps ≡ children (most + 1) i most k v (pos + links_offset most k v) ++ es) next parts)
      in
      let r =
      branches_held most (pos + keys_offset k) (pos + values_offset most k v) es low pos read (omega arith) behind (omega arith)
      (subst (λ qs. HoldAll names bytes depth inside qs vs within before after) shaped all) (subst (λ q. ClaimedAfter names bytes before low q.start within) span a)
      in
      let further = r.grows in
      let ends = r.claimed.below in
      let label : l ≡ woven (most + 1) = cc in
      let held = entries_held names bytes k v most (pos + keys_offset k) (pos + values_offset most k v) {rs = r.regions} {before = r.before} {after = after} r.low pos ends (omega arith) (omega arith) (omega arith) r.rest r.claimed in
      let is = woven_is l vs value (suc most) (label ∙ ap woven more) m in
      let deep = leb-true level 32 p.0 in
      let kept = inner_kept level pos low high {vs = vs} deep (omega arith) z behind here r held in
      record {
        tree = inner r.branches;
        node = has_inner deep (omega arith) z r.stand refl;
        pairs = subst (λ x. ArePairs names bytes k v (items_of r.branches) (members x)) (sym is) (r.woven_pairs (other_values (suc most) vs) held.pairs);
        within = λ i out. r.within i (λ past. let gone = out (omega arith) in omega arith) (λ past. let gone = out (omega arith) in omega arith);
        apart = r.apart;
        kept = λ others stand g. let x = kept others stand g in (x.0, subst (λ y. AreKept others (items_of r.branches) (members y)) (sym is) x.1, x.2, x.3);
      }

  node_read : (level pos kind : ℕ) {depth : ℕ} {inside : List OpenShared} {vs : Values} {value : Value} {within : List Region} {before after : List Visit} (low high : ℕ) (s : Span) (l : Label) (ps : List Part)
      → Reads (suc level)
      → slice_index bytes pos ≡ kind
      → node_content level most k v pos kind (window bytes pos (link_node_size (words_of kind most) most k v)) ≡ claimed s l ps
      → high ≤ length bytes → s.start + s.size ≤ high → low ≤ s.start → made l vs ≡ Some value
      → HoldAll names bytes depth inside ps vs within before after → ClaimedAfter names bytes before low s.start within
      → ReadNode before after low high level pos value
  node_read level pos zero low high s l ps read z e top to from m all a = leaf_read level pos low high s l ps z e top to from m all a
  node_read level pos (suc zero) low high s l ps read z e top to from m all a = inner_read level pos low high s l ps read z e top to from m all a
  node_read level pos (suc (suc kind)) low high s l ps read z e top to from m all a = absurd (no_kind level pos kind _ s l ps e)

  pub reads : (fuel level : ℕ) → fuel + level ≡ 33 → Reads level
  reads fuel level sum depth inside pos value rs before after low high top (holds_plain e legal all m) a =
      absurd (subst IsClaimed e (node_is_claimed level most k v pos (slice_index (drop pos bytes) 0) _))
  reads zero level sum depth inside pos value rs before after low high top (holds_claimed {s = s} {l = l} {ps = ps} e legal all m r) a =
      let le = level_bound level pos (slice_index (drop pos bytes) 0) _ s l ps e in absurd (omega arith)
  reads (suc fuel) level sum depth inside pos value rs before after low high top (holds_claimed {within = within} {s = s} {l = l} {ps = ps} e legal all m r) a =
      let range = claimed_inside r a in
      node_read level pos (slice_index (drop pos bytes) 0) low high s l ps (reads fuel (suc level) (omega arith)) (sym (kind_of bytes pos)) e top range.ends range.claimed.below m all range.claimed
  reads fuel level sum depth inside pos value rs before after low high top (holds_first e b c d f g) a =
      absurd (subst IsClaimed e (node_is_claimed level most k v pos (slice_index (drop pos bytes) 0) _))
  reads fuel level sum depth inside pos value rs before after low high top (holds_later e b c d f g) a =
      absurd (subst IsClaimed e (node_is_claimed level most k v pos (slice_index (drop pos bytes) 0) _))
  reads fuel level sum depth inside pos value rs before after low high top (holds_back e b c d f) a =
      absurd (subst IsClaimed e (node_is_claimed level most k v pos (slice_index (drop pos bytes) 0) _))

-- where the layout holds a node of the first level, its tree is read
pub root_read :
    (names : Names) (bytes : List ℕ) (most : ℕ) (k v : Shape) (depth : ℕ) (inside : List OpenShared) (pos : ℕ) (value : Value) (rs : List Region) (before after : List Visit) (low high : ℕ)
    → high ≤ length bytes
    → Holds names bytes depth inside (node 1 most k v pos) value rs before after → ClaimedAfter names bytes before low high rs
    → ReadNode names bytes most k v before after low high 1 pos value
root_read names bytes most k v = reads names bytes most k v 32 1 (omega arith)
