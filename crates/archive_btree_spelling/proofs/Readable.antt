-- Where a written map can be read, the values of its entries were written where the layout has its items, and can be read
-- there.
use Rattle.std.proofs.Common.{◌≡◌, ◌∙◌, ℕ, zero, suc, ◌+◌, ◌*◌, ◌^◌, ◌<◌, ◌≤◌, nat_le, cond, Bool, true, false, Option, Some, None, List, [], ◌∷◌, ◌++◌, length, refl, ap, sym, subst, arith, length-append, leb-true, eq-eqb}
use Rattle.std.specs.List.{AllZip}
use Rattle.std.specs.Int.{w32, to_le_bytes}
use Rattle.std.proofs.Math.Nat.{mul-le-mul_right}
use Rattle.archive_shape_layout.specs.Bytes.{window, word_at, target_from}
use Rattle.archive_shape_layout.specs.Shape.{Shape, size_of}
use Rattle.archive_shape_layout.specs.Value.{Value}
use Rattle.archive_shape_layout.specs.Content.{Names, Part, words_of, keys_offset, values_offset, links_offset, link_node_align}
use Rattle.archive_shape_layout.specs.Holds.{Visit}
use Rattle.archive_shape_layout.specs.Visited.{AllStand}
use Rattle.archive_shape_layout.proofs.Framed.{le_align_up, values_fit, links_fit}
use Rattle.archive_shape_layout.proofs.Visited.{part_stands, stand_raised}
use Rattle.archive_shape_layout.proofs.Windows.{word_of}
use Rattle.archive_shape_canonical.specs.Packed.{levels_for}
use Rattle.archive_shape_canonical.specs.Settled.{Fit}
use Rattle.archive_shape.specs.Bytes.{HasBytes}
use Rattle.archive_shape.specs.Offsets.{FitsOffset, offset_bytes}
use Rattle.archive_shape.proofs.Pieces.{stands_left, stands_right, stands_byte, stands_word}
use Rattle.archive_forms_laws.specs.State.{State, Keys, visits_of, IsConsistent, AreKeyedBy}
use Rattle.archive_forms_laws.specs.Spelling.{Spelling, state_after}
use Rattle.archive_forms_laws.specs.Spells.{CanonicalPart, SpellsAt, Spells}
use Rattle.archive_forms_laws.specs.Regions.{state_after_all, resolvers, all_suit, pieces, pieces_fit}
use Rattle.archive_forms_laws.specs.Links.{link_bytes, LinkFits}
use Rattle.archive_forms_laws.specs.WrittenAt.{IsWrittenAt, IsReadableAt}
use Rattle.archive_forms_laws.proofs.Links.{length-link}
use Rattle.archive_forms_laws.proofs.Pointers.{leads_to, offset_stands}
use Rattle.archive_forms_laws.proofs.Regions.{state_after_all_pos}
use Rattle.archive_btree_layout.specs.Tree.{Tree, Branches, items, items_of, entries_of, children_of}
use Rattle.archive_btree_layout.specs.Tree.Branches.{greater, lesser}
use Rattle.archive_btree_layout.specs.Reading.{Place, places, HasNode, HasBranches, HasChild}
use Rattle.archive_btree_layout.specs.Reading.HasNode.{has_leaf, has_inner}
use Rattle.archive_btree_layout.specs.Reading.HasBranches.{has_greater, has_lesser}
use Rattle.archive_btree_layout.specs.Reading.HasChild.{no_child, a_child}
use Rattle.archive_btree_spelling.specs.Parted.{Parted, parted, shares, between}
use Rattle.archive_btree_spelling.specs.Written.{entry_spelling, key_own, value_own, own_size, words, state_after_children, linked, node_at, node_fits, node_piece, links, LinksFit}
use Rattle.archive_btree_spelling.specs.Maps.{packed_spelling, btree_spelling}
use Rattle.archive_btree_spelling.proofs.Forest.{packed_spells, suits_woven, small_woven}
use Rattle.archive_btree_spelling.proofs.Levels.{above, levels_of_words}
use Rattle.archive_btree_spelling.proofs.Maps.{each_entry}
use Rattle.archive_btree_spelling.proofs.Nodes.{NodeStands, leaf_of, inner_of, roomy, node_stands, node_quarters}
use Rattle.archive_btree_spelling.proofs.Shares.{IsWoven, AreLow, Shared, shared}
use Rattle.archive_btree_spelling.proofs.Slots.{KeysFit, ValuesFit, key_slots, value_slots, pair_shape}
use Rattle.archive_btree_spelling.proofs.Standing.{Quarters}
use Rattle.archive_btree_spelling.proofs.Trees.{TreeSpells, AllSuit, AllSmall, leads_back, length-links-below, children_after_pos}

-- ---- the items of an inner node

module _ {X Y : Type 0} (P : X → Y → Type 0) where
  zip_append : (xs us : List X) (ys vs : List Y) → AllZip P xs ys → AllZip P us vs → AllZip P (xs ++ us) (ys ++ vs)
  zip_append [] us [] vs h g = g
  zip_append [] us (y ∷ ys) vs h g = absurd h
  zip_append (x ∷ xs) us [] vs h g = absurd h
  zip_append (x ∷ xs) us (y ∷ ys) vs h g = (h.0, zip_append xs us ys vs h.1 g)

  -- they are those below each pointer, with one of the node's own between each two
  woven_zip : (bs : Branches X) (ys : List Y) (yss : List (List Y)) (own : List Y) → IsWoven ys yss own
      → AllZip (λ t c. AllZip P (items t) c) (children_of bs) yss → AllZip P (entries_of bs) own → AllZip P (items_of bs) ys
  woven_zip (greater t) ys [] own w h g = absurd w
  woven_zip (greater t) ys (c ∷ []) [] w h g = subst (AllZip P (items t)) (sym w) h.0
  woven_zip (greater t) ys (c ∷ []) (e ∷ es) w h g = absurd w
  woven_zip (greater t) ys (c ∷ (d ∷ ds)) own w h g = absurd h.1
  woven_zip (lesser t x bs) ys [] own w h g = absurd w
  woven_zip (lesser t x bs) ys (c ∷ []) own w h g = absurd (none bs h.1)
    where
      none : (cs : Branches X) → AllZip (λ u c. AllZip P (items u) c) (children_of cs) [] → ⊥
      none (greater u) n = n
      none (lesser u y cs) n = n
  woven_zip (lesser t x bs) ys (c ∷ (d ∷ ds)) [] w h g = absurd w
  woven_zip (lesser t x bs) ys (c ∷ (d ∷ ds)) (e ∷ es) w h g =
      subst (AllZip P (items t ++ x ∷ items_of bs)) (sym w.1)
      (zip_append (items t) (x ∷ items_of bs) c (e ∷ w.0) h.0 (g.0, woven_zip bs w.0 (d ∷ ds) es w.2 h.1 g.1))

-- a node's own entries lie side by side
entries_are : {bytes : List ℕ} {most : ℕ} {k v : Shape} {n level link key value : ℕ} {bs : Branches Place} → HasBranches bytes most k v n level link key value bs → entries_of bs ≡ places n k key v value
entries_are {k = k} {v = v} {key = key} {value = value} (has_greater z c is) = ap (λ u. entries_of u) is ∙ ap (λ n. places n k key v value) (sym z)
entries_are {k = k} {v = v} {key = key} {value = value} (has_lesser z c r is) =
    let first : Place = record { key = key; value = value } in
    ap (λ u. entries_of u) is ∙ ap (λ (ps : List Place). first ∷ ps) (entries_are r) ∙ ap (λ n. places n k key v value) (sym z)

-- ---- states

-- In a state the shared values that were written are those that their keys denote, and have their values before the next
-- byte.
pub record IsStanding (names : Names) (given : Keys) (bytes : List ℕ) (st : State) : Type 0 where
  pub consistent : IsConsistent st
  pub keyed : AreKeyedBy given st.met
  pub stand : AllStand names bytes st.pos (visits_of st.met)

module _ {A B R Q : Type 0} (fit : Fit) (most : ℕ) (k v : Shape) (knows : Names → Type 0) (keys : Spelling A R) (vals : Spelling B Q)
    (f : Spells fit k knows keys) (g : Spells fit v knows vals) (some : 0 < most) (names : Names) (known : knows names) (given : Keys) (bytes : List ℕ) where
  abbrev Stands : State → Type 0
  Stands st = IsStanding names given bytes st

  abbrev Entries : Spelling (A × B) (R × Q)
  Entries = entry_spelling most k v keys vals

  abbrev Suits : List (A × B) → Type 0
  Suits xs = all_suit Entries fit given xs

  -- an entry's value suits the fit, and can be read at a place
  abbrev pub HasValueOf : Place → A × B → Type 0
  HasValueOf p e = vals.suits fit given e.1 × IsReadableAt names given v vals bytes p.value e.1

  after_part : {p : Part} {w : Value} {after : List Visit} (st : State) (high : ℕ) → Stands st → st.pos ≤ high → CanonicalPart fit names bytes 0 [] (visits_of st.met) after p w st.pos high → AllStand names bytes high after
  after_part st high h up part = part_stands part.reads.holds (record { stand = h.stand; below = up; ascends = part.ascends })

  after_value : {C S : Type 0} (s : Shape) (w : Spelling C S) (x : C) (one : SpellsAt fit s knows w x) (st : State) (pos : ℕ) → Stands st → w.suits fit given x → w.piece_fits x st
      → w.own_fits x (w.resolver x st) pos → HasBytes bytes st.pos (w.piece x st) → HasBytes bytes pos (w.own x (w.resolver x st) pos) → Stands (state_after w x st)
  after_value s w x one st pos h n p o q r = record {
    consistent = one.consistent st h.consistent p;
    keyed = (one.keyed given st n h.keyed p).1;
    stand = after_part st (state_after w x st).pos h (omega arith) (one.canonical st pos names given bytes 0 [] known n h.keyed h.consistent tt p o q r);
  }

  -- ---- entries side by side

  one_placed : (x : A × B) (st : State) (a b : ℕ) → Stands st → Entries.suits fit given x → Entries.piece_fits x st
      → keys.own_fits x.0 (keys.resolver x.0 st) a → vals.own_fits x.1 (vals.resolver x.1 (state_after keys x.0 st)) b
      → HasBytes bytes st.pos (Entries.piece x st) → HasBytes bytes a (key_own most k v keys vals x st a) → HasBytes bytes b (value_own most k v keys vals x st b)
      → (state_after Entries x st).pos ≤ b → b + size_of v ≤ length bytes → HasValueOf (record { key = a; value = b }) x × Stands (state_after Entries x st)
  one_placed x st a b h n p o₁ o₂ q r₁ r₂ up room =
      let mid = state_after keys x.0 st in
      let end = state_after vals x.1 mid in
      let front = keys.piece x.0 st in
      let back = vals.piece x.1 mid in
      let same : end.pos ≡ (state_after Entries x st).pos = omega (arith, length-append front (back ++ []), length-append back []) in
      let laid = stands_left bytes mid.pos back [] (stands_right bytes st.pos front (back ++ []) mid.pos refl q) in
      let first : Stands mid = after_value k keys x.0 (f x.0) st a h n.0 p.0 o₁ (stands_left bytes st.pos front (back ++ []) q) r₁ in
      let second : Stands end = after_value v vals x.1 (g x.1) mid b first n.1.0 p.1.0 o₂ laid r₂ in
      let written : IsWrittenAt given vals bytes b x.1 = record { state = mid; consistent = first.consistent; keyed = first.keyed; piece_fits = p.1.0; own_fits = o₂; piece = laid; own = r₂ } in (
        (n.1.0, record { written = written; stand = first.stand; behind = omega (arith, same, up); within = room }),
        subst (λ z. Stands (record { pos = z; met = end.met; begun = end.begun })) same second,
      )

  entries_placed : (es : List (A × B)) (st : State) (a b : ℕ) → Stands st → Suits es → pieces_fit Entries es st → KeysFit fit most k v knows keys vals es st a → ValuesFit fit most k v knows keys vals es st b
      → HasBytes bytes st.pos (pieces Entries es st) → HasBytes bytes a (key_slots fit most k v knows keys vals es st a) → HasBytes bytes b (value_slots fit most k v knows keys vals es st b)
      → (state_after_all Entries es st).pos ≤ b → b + length es * size_of v ≤ length bytes → AllZip HasValueOf (places (length es) k a v b) es
  entries_placed [] st a b h n p o₁ o₂ q r₁ r₂ up room = tt
  entries_placed (x ∷ xs) st a b h n p o₁ o₂ q r₁ r₂ up room =
      let then = state_after Entries x st in
      let piece = Entries.piece x st in
      let key = key_own most k v keys vals x st a in
      let value = value_own most k v keys vals x st b in
      let keys_behind = key_slots fit most k v knows keys vals xs then (a + size_of k) in
      let values_behind = value_slots fit most k v knows keys vals xs then (b + size_of v) in
      let later = state_after_all_pos fit (pair_shape fit most k v knows keys vals) knows Entries xs then in
      let key_size : a + length key ≡ a + size_of k = ap (λ z. a + z) ((f x.0).sized (keys.resolver x.0 st) a o₁.0) in
      let value_size : b + length value ≡ b + size_of v = ap (λ z. b + z) ((g x.1).sized (vals.resolver x.1 (state_after keys x.0 st)) b o₂.0) in
      let here = one_placed x st a b h n.0 p.0 o₁.0 o₂.0 (stands_left bytes st.pos piece (pieces Entries xs then) q)
      (stands_left bytes a key keys_behind r₁) (stands_left bytes b value values_behind r₂) (omega (arith, later, up)) (omega (arith, room)) in (
        here.0,
        entries_placed xs then (a + size_of k) (b + size_of v) here.1 n.1 p.1 o₁.1 o₂.1 (stands_right bytes st.pos piece (pieces Entries xs then) then.pos refl q)
            (stands_right bytes a key keys_behind (a + size_of k) key_size r₁) (stands_right bytes b value values_behind (b + size_of v) value_size r₂) (omega (arith, up)) (omega (arith, room)),
      )

  -- ---- subtrees

  module _ (l : ℕ) (w : Spelling (List (A × B)) (Option ℕ)) where
    after_tree : (xs : List (A × B)) (one : TreeSpells fit most k v knows keys vals l w xs) (st : State) (level : ℕ) → level + l ≤ 33 → length xs < 2 ^ 32 → Stands st → Suits xs → w.piece_fits xs st
        → HasBytes bytes st.pos (w.piece xs st) → Stands (state_after w xs st)
    after_tree xs one st level low small h n p q = record {
      consistent = one.consistent st h.consistent p;
      keyed = (one.keyed given st n h.keyed p).1;
      stand = by_root (w.resolver xs st) refl;
    }
      where
        by_root : (root : Option ℕ) → w.resolver xs st ≡ root → AllStand names bytes (state_after w xs st).pos (visits_of (w.met xs st))
        by_root None e = subst (λ z. AllStand names bytes (state_after w xs st).pos (visits_of z)) (sym (one.absent st e).met) (stand_raised (omega arith) h.stand)
        by_root (Some root) e = after_part st (state_after w xs st).pos h (omega arith) ((one.present st root e).canonical names given bytes 0 [] level low small known n h.keyed h.consistent tt p q)

    -- the values of items that are written below a pointer lie where the layout has the items of the node that it leads to
    abbrev NodesArePlaced : Type 0
    NodesArePlaced =
        (xs : List (A × B)) (st : State) (level root : ℕ) (t : Tree Place)
        → levels_for most (length xs) ≤ l
        → level + l ≤ 33
        → length xs < 2 ^ 32
        → Stands st
        → Suits xs
        → w.piece_fits xs st
        → HasBytes bytes st.pos (w.piece xs st)
        → w.resolver xs st ≡ Some root
        → HasNode bytes most k v level root t
        → AllZip HasValueOf (items t) xs

    -- where the pieces of a written node lie
    abbrev QuartersOf : Parted (A × B) → State → Type 0
    QuartersOf n st =
        let now = state_after_children most k v keys vals w n st in
        let pos = node_at most k v keys vals w n st in
        let this = linked most k v keys vals w n st in
        Quarters bytes pos (keys_offset k) (values_offset most k v) (links_offset most k v) (own_size most k v keys vals this) n.kind
        (key_slots fit most k v knows keys vals n.own now (pos + keys_offset k)) (value_slots fit most k v knows keys vals n.own now (pos + values_offset most k v)) (words most k v keys vals n.kind this (pos + links_offset most k v))

    node_parts : (n : Parted (A × B)) (st : State) → length n.own ≤ most → node_fits most k v keys vals w n st
        → length (words most k v keys vals n.kind (linked most k v keys vals w n st) (node_at most k v keys vals w n st + links_offset most k v)) ≡ words_of n.kind most * 4
        → HasBytes bytes st.pos (node_piece most k v keys vals w n st) → NodeStands fit most k v knows keys vals w n st bytes × QuartersOf n st
    node_parts n st few p wide s =
        let pos = node_at most k v keys vals w n st in
        let stands = node_stands fit most k v knows keys vals w n st bytes s in
        let room = roomy fit most k v knows keys vals w n st pos (each_entry fit most k v knows keys vals some f g n.own) few p.1.2.0 p.1.2.1 wide in
        (stands, node_quarters fit most k v knows keys vals w n st bytes pos room stands.own_stand)

    leaf_placed : (xs : List (A × B)) (st : State) (level root : ℕ) (t : Tree Place) → length xs ≤ most → length xs < 2 ^ 32 → Stands st → Suits xs → node_fits most k v keys vals w (leaf_of fit most k v knows keys vals w xs) st
        → HasBytes bytes st.pos (node_piece most k v keys vals w (leaf_of fit most k v knows keys vals w xs) st) → node_at most k v keys vals w (leaf_of fit most k v knows keys vals w xs) st ≡ root
        → HasNode bytes most k v level root t → AllZip HasValueOf (items t) xs
    leaf_placed xs st level root t few small h n p s is_root node = read (subst (λ z. HasNode bytes most k v level z t) (sym is_root) node)
      where
        this : Parted (A × B)
        this = leaf_of fit most k v knows keys vals w xs

        pos : ℕ
        pos = node_at most k v keys vals w this st

        read : HasNode bytes most k v level pos t → AllZip HasValueOf (items t) xs
        read (has_leaf {len = len} low room kind word less is) =
            let parts = node_parts this st few p refl s in
            let count : len ≡ length xs = sym word ∙ stands_word bytes (pos + links_offset most k v) (length xs) small parts.1.words_stand in
            let up = le_align_up (state_after_all Entries xs st).pos (link_node_align k v) in
            let wide = mul-le-mul_right (size_of v) few in
            let placed = entries_placed xs st (pos + keys_offset k) (pos + values_offset most k v) h n p.1.0 p.1.2.0 p.1.2.1 parts.0.entries_stand parts.1.keys_stand parts.1.values_stand (omega (arith, up))
            (omega (arith, room, wide, values_fit most k v, links_fit 1 most k v)) in
            subst (λ u. AllZip HasValueOf (items u) xs) (sym is) (subst (λ m. AllZip HasValueOf (places m k (pos + keys_offset k) v (pos + values_offset most k v)) xs) (sym count) placed)
        read (has_inner low room kind d is) =
            let parts = node_parts this st few p refl s in
            let written = stands_byte bytes pos 0 parts.1.kind_stands in
            absurd (omega (arith, kind, written))

    module _ (of_list : (c : List (A × B)) → levels_for most (length c) ≤ l → TreeSpells fit most k v knows keys vals l w c) (of_node : NodesArePlaced) where
      child_placed : (c : List (A × B)) (st : State) (level link : ℕ) (t : Tree Place) → levels_for most (length c) ≤ l → level + l ≤ 33 → length c < 2 ^ 32 → Stands st → Suits c → w.piece_fits c st
          → HasBytes bytes st.pos (w.piece c st) → LinkFits (w.resolver c st) link → HasBytes bytes link (link_bytes (w.resolver c st) link) → (state_after w c st).pos ≤ link
          → HasChild bytes most k v level link t → AllZip HasValueOf (items t) c
      child_placed c st level link t deep low small h n p q fits stands behind child = by_root (w.resolver c st) refl fits stands child
        where
          by_root : (root : Option ℕ) → w.resolver c st ≡ root → LinkFits root link → HasBytes bytes link (link_bytes root link) → HasChild bytes most k v level link t → AllZip HasValueOf (items t) c
          by_root None e o b (no_child word is) =
              subst (λ u. AllZip HasValueOf (items u) c) (sym is) (subst (AllZip HasValueOf []) (sym ((of_list c deep).absent st e).none) tt)
          by_root None e o b (a_child away target node) = absurd (away (stands_word bytes link 1 (omega arith) b))
          by_root (Some root) e o b (no_child word is) =
              let before = ((of_list c deep).present st root e).before p in
              let away = leads_back link (word_at (window bytes link 4) 0) root (offset_stands bytes link root 4 (omega arith) o b) (omega (arith, before, behind)) in
              let one = eq-eqb (word_at (window bytes link 4) 0) 1 (word_of bytes link ∙ word) in
              absurd (cc)
          by_root (Some root) e o b (a_child {pos = pos} away target node) =
              of_node c st level root t deep low small h n p q e (subst (λ z. HasNode bytes most k v level z t) (sym (leads_to bytes link pos root o b target)) node)

      -- so are those below each pointer
      children_placed : (count n level link key value : ℕ) (bs : Branches Place) → HasBranches bytes most k v n level link key value bs → (xss : List (List (A × B))) (st : State) → length xss ≡ suc n → AreLow most count l xss
          → level + l ≤ 33 → AllSmall fit most k v knows keys vals l w xss → Stands st → AllSuit fit most k v knows keys vals l w given xss → pieces_fit w xss st → HasBytes bytes st.pos (pieces w xss st)
          → LinksFit (resolvers w xss st) link → HasBytes bytes link (links (resolvers w xss st) link) → (state_after_all w xss st).pos ≤ link
          → AllZip (λ t c. AllZip HasValueOf (items t) c) (children_of bs) xss × Stands (state_after_all w xss st)
      children_placed count n level link key value bs d [] st size deep low small h m p q fits stands behind = absurd (omega (arith, size))
      children_placed count n level link key value bs (has_greater {t = t} z child is) (c ∷ (d ∷ ds)) st size deep low small h m p q fits stands behind = absurd (omega (arith, size, z))
      children_placed count n level link key value bs (has_greater {t = t} z child is) (c ∷ []) st size deep low small h m p q fits stands behind =
          let laid = stands_left bytes st.pos (w.piece c st) [] q in (
            subst (λ u. AllZip (λ t c. AllZip HasValueOf (items t) c) (children_of u) (c ∷ [])) (sym is)
                (child_placed c st level link t deep.0 low small.0 h m.0 p.0 laid fits.0 (stands_left bytes link (link_bytes (w.resolver c st) link) [] stands) behind child, tt),
            after_tree c (of_list c deep.0) st level low small.0 h m.0 p.0 laid,
          )
      children_placed count n level link key value bs (has_lesser {m = less} {t = t} {cs = cs} z child rest is) (c ∷ ds) st size deep low small h m p q fits stands behind =
          let then = state_after w c st in
          let laid = stands_left bytes st.pos (w.piece c st) (pieces w ds then) q in
          let own = link_bytes (w.resolver c st) link in
          let long = ap (λ z. link + z) (length-link (w.resolver c st) link) in
          let further = children_after_pos fit most k v knows keys vals l w ds then in
          let here = child_placed c st level link t deep.0 low small.0 h m.0 p.0 laid fits.0 (stands_left bytes link own (links (resolvers w ds then) (link + 4)) stands) (omega (arith, further, behind)) child in
          let later = children_placed count less level (link + 4) (key + size_of k) (value + size_of v) cs rest ds then (omega (arith, size, z)) deep.1 low small.1 (after_tree c (of_list c deep.0) st level low small.0 h m.0 p.0 laid) m.1 p.1
          (stands_right bytes st.pos (w.piece c st) (pieces w ds then) then.pos refl q) fits.1 (stands_right bytes link own (links (resolvers w ds then) (link + 4)) (link + 4) long stands) (omega (arith, behind)) in
          (subst (λ u. AllZip (λ t c. AllZip HasValueOf (items t) c) (children_of u) (c ∷ ds)) (sym is) (here, later.0), later.1)

      inner_placed : (xs : List (A × B)) (xss : List (List (A × B))) (es : List (A × B)) (st : State) (level root : ℕ) (t : Tree Place) → IsWoven xs xss es → AreLow most (length xs) l xss → length xss ≡ suc most → length es ≡ most
          → level + suc l ≤ 33 → length xs < 2 ^ 32 → Stands st → Suits xs → node_fits most k v keys vals w (inner_of fit most k v knows keys vals w xss es) st
          → HasBytes bytes st.pos (node_piece most k v keys vals w (inner_of fit most k v knows keys vals w xss es) st) → node_at most k v keys vals w (inner_of fit most k v knows keys vals w xss es) st ≡ root
          → HasNode bytes most k v level root t → AllZip HasValueOf (items t) xs
      inner_placed xs xss es st level root t woven deep width own_width low small h n p s is_root node = read (subst (λ z. HasNode bytes most k v level z t) (sym is_root) node)
        where
          this : Parted (A × B)
          this = inner_of fit most k v knows keys vals w xss es

          pos : ℕ
          pos = node_at most k v keys vals w this st

          few : length es ≤ most
          few = omega (arith, own_width)

          parts : NodeStands fit most k v knows keys vals w this st bytes × QuartersOf this st
          parts =
              let wide : length xss ≡ most + 1 = omega (arith, width) in
              node_parts this st few p (length-links-below fit most k v knows keys vals l w xss st (pos + links_offset most k v) ∙ ap (λ z. z * 4) wide) s

          read : HasNode bytes most k v level pos t → AllZip HasValueOf (items t) xs
          read (has_leaf high room kind word less is) = let written = stands_byte bytes pos 1 parts.1.kind_stands in absurd (omega (arith, kind, written))
          read (has_inner {bs = bs} high room kind d is) =
              let now = state_after_all w xss st in
              let link = pos + links_offset most k v in
              let key = pos + keys_offset k in
              let value = pos + values_offset most k v in
              let named = suits_woven fit most k v knows keys vals l w given xs xss es woven n in
              let further = state_after_all_pos fit (pair_shape fit most k v knows keys vals) knows Entries es now in
              let up = le_align_up (state_after_all Entries es now).pos (link_node_align k v) in
              let wide = mul-le-mul_right (size_of v) few in
              let below = children_placed (length xs) most (suc level) link key value bs d xss st width deep (omega (arith, low)) (small_woven fit most k v knows keys vals l w xs xss es woven small) h named.0 p.0 parts.0.children_stand p.1.2.2
              parts.1.words_stand (omega (arith, further, up)) in
              let own = entries_placed es now key value below.1 named.1 p.1.0 p.1.2.0 p.1.2.1 parts.0.entries_stand parts.1.keys_stand parts.1.values_stand (omega (arith, up))
              (omega (arith, room, wide, values_fit most k v, links_fit (most + 1) most k v)) in
              let between : AllZip HasValueOf (entries_of bs) es = subst (λ ps. AllZip HasValueOf ps es) (sym (entries_are d)) (subst (λ m. AllZip HasValueOf (places m k key v value) es) own_width own) in
              subst (λ u. AllZip HasValueOf (items u) xs) (sym is) (woven_zip HasValueOf bs xs xss es woven below.0 between)

  -- on any number of levels
  nodes_placed : (l : ℕ) → NodesArePlaced l (packed_spelling most k v keys vals l)
  nodes_placed zero xs st level root t within low small h n p s is node = absurd (cc)
  nodes_placed (suc l) [] st level root t within low small h n p s is node = absurd (cc)
  nodes_placed (suc l) (x ∷ xs) st level root t within low small h n p s is node =
      let at_root : node_at most k v keys vals (packed_spelling most k v keys vals l) (parted most (x ∷ xs)) st ≡ root = cc in
      tested (nat_le (length (x ∷ xs)) most) refl (nodes_placed l) p s at_root
    where
      w : Spelling (List (A × B)) (Option ℕ)
      w = packed_spelling most k v keys vals l

      many : ℕ
      many = length (x ∷ xs)

      part : Bool → Parted (A × B)
      part b = cond b (record { kind = 0; below = []; own = x ∷ xs }) (record { kind = 1; below = shares most many 0 most (x ∷ xs); own = between most many 0 most (x ∷ xs) })

      tested : (b : Bool) → nat_le many most ≡ b → NodesArePlaced l w → node_fits most k v keys vals w (part b) st → HasBytes bytes st.pos (node_piece most k v keys vals w (part b) st) → node_at most k v keys vals w (part b) st ≡ root
          → AllZip HasValueOf (items t) (x ∷ xs)
      tested true e below p s at_root = leaf_placed l w (x ∷ xs) st level root t (leb-true many most e) small h n p s at_root node
      tested false e below p s at_root =
          let parts : Shared most many 0 most l (x ∷ xs) = shared most many l (x ∷ xs) some (above many most e) refl within in
          inner_placed l w (λ c deep. packed_spells fit most k v knows keys vals l c some (each_entry fit most k v knows keys vals some f g c) deep) below (x ∷ xs) (shares most many 0 most (x ∷ xs)) (between most many 0 most (x ∷ xs)) st level root t
          parts.woven parts.are_low parts.pointers parts.own low small h n p s at_root node

  -- ---- maps

  module _ (es : List (A × B)) (st : State) (pos : ℕ) (fits : (btree_spelling most k v keys vals).own_fits es ((btree_spelling most k v keys vals).resolver es st) pos)
      (own : HasBytes bytes pos ((btree_spelling most k v keys vals).own es ((btree_spelling most k v keys vals).resolver es st) pos)) where
    pub length_written : word_at bytes (pos + 4) ≡ length es
    length_written =
        let root = (btree_spelling most k v keys vals).resolver es st in
        stands_word bytes (pos + 4) (length es) fits.1 (stands_right bytes pos (link_bytes root pos) (to_le_bytes w32 (length es)) (pos + 4) (ap (λ z. pos + z) (length-link root pos)) own)

    -- the values of a map's entries lie where the layout has its items
    pub map_placed : Stands st → Suits es → (btree_spelling most k v keys vals).piece_fits es st → HasBytes bytes st.pos ((btree_spelling most k v keys vals).piece es st)
        → (root : ℕ) (t : Tree Place) → (word_at bytes (pos + 4) ≡ 0 → ⊥) → target_from pos (word_at bytes pos) ≡ Some root → HasNode bytes most k v 1 root t → AllZip HasValueOf (items t) es
    map_placed h n p s root t not_empty leads node = by_root ((btree_spelling most k v keys vals).resolver es st) refl fits.0 own
      where
        levels : ℕ
        levels = levels_for most (length es)

        by_root : (to : Option ℕ) → (btree_spelling most k v keys vals).resolver es st ≡ to → LinkFits to pos → HasBytes bytes pos (link_bytes to pos ++ to_le_bytes w32 (length es)) → AllZip HasValueOf (items t) es
        by_root None e o b =
            let none = ((packed_spells fit most k v knows keys vals levels es some (each_entry fit most k v knows keys vals some f g es) (omega arith)).absent st e).none in
            absurd (not_empty (length_written ∙ ap length none))
        by_root (Some to) e o b =
            let deep : 1 + levels ≤ 33 = let few = levels_of_words most (length es) some fits.1 in omega (arith, few) in
            nodes_placed levels es st 1 to t (omega arith) deep fits.1 h n p s e
            (subst (λ z. HasNode bytes most k v 1 z t) (sym (leads_to bytes pos root to o (stands_left bytes pos (offset_bytes pos to) (to_le_bytes w32 (length es)) b) leads)) node)
