-- A node is read as it is written.
use Rattle.std.proofs.Common.{◌≡◌, ℕ, zero, suc, ◌+◌, ◌-◌, ◌*◌, ◌^◌, ◌<◌, ◌≤◌, nat_le, ◌&&◌, true, Some, Option, List, [], ◌∷◌, ◌++◌, length, drop, refl, ap, sym, subst, arith, ◌∙◌, inl, inr, ⊎_elim, length-append, add-zero, get_or-drop}
use Rattle.std.proofs.lemmas.List.{length-replicate}
use Rattle.std.specs.Prelude.{slice_index}
use Rattle.std.specs.Int.{w32, to_le_bytes}
use Rattle.std.proofs.lemmas.Bool.Decides.{nat_tests}
use Rattle.std.proofs.Math.Nat.{mul-le-mul_right}
use Rattle.archive_shape_layout.specs.Bytes.{window, word_at}
use Rattle.archive_shape_layout.specs.Shape.{Shape, size_of, align_of}
use Rattle.archive_shape_layout.specs.Value.{append_values}
use Rattle.archive_shape_layout.specs.Value.Value.{group}
use Rattle.archive_shape_layout.specs.Content.{Names, made, weave, choose, content_of, node_content, node_span, words_of, entries, children, keys_offset, values_offset, links_offset, link_node_align, link_node_size}
use Rattle.archive_shape_layout.specs.Content.Part.{node}
use Rattle.archive_shape_layout.specs.Content.Label.{whole, woven}
use Rattle.archive_shape_layout.specs.Content.Content.{claimed, illegal}
use Rattle.archive_shape_layout.specs.Holds.{OpenShared}
use Rattle.archive_shape_layout.proofs.Framed.{le_align_up, keys_fit, values_fit, links_fit}
use Rattle.archive_shape_canonical.specs.Settled.{Fit, IsSettled}
use Rattle.archive_shape_canonical.specs.Packed.{IsPacked}
use Rattle.archive_shape_canonical.specs.Seen.{all_blank}
use Rattle.archive_shape_canonical.specs.Clean.{IsIn, InFieldOfNode}
use Rattle.archive_shape_canonical.proofs.Cleanness.{clean_by}
use Rattle.archive_shape.specs.Bytes.{HasBytes, zeros}
use Rattle.archive_shape.proofs.Pieces.{stands_left, stands_right, stands_byte, stands_word}
use Rattle.archive_forms_laws.specs.State.{State, Keys, visits_of, IsConsistent, AllFrom, AreKeyedBy}
use Rattle.archive_forms_laws.specs.Spelling.{Spelling, state_after}
use Rattle.archive_forms_laws.specs.Spells.{CanonicalPart}
use Rattle.archive_forms_laws.specs.Regions.{state_after_all, values, all_suit, pieces}
use Rattle.archive_forms_laws.proofs.States.{from_earlier}
use Rattle.archive_forms_laws.proofs.Regions.{CanonicalParts, state_after_all_pos}
use Rattle.archive_btree_spelling.specs.Parted.{Parted}
use Rattle.archive_btree_spelling.specs.Written.{entry_spelling, state_after_children, state_after_entries, linked, own_size, words, own_bytes, node_at, node_piece, node_fits}
use Rattle.archive_btree_spelling.proofs.Slots.{EachEntrySpells, KeysFit, ValuesFit, key_slots, value_slots, pair_shape, length-key-slots, length-value-slots, entries_canonical}
use Rattle.archive_btree_spelling.proofs.Shares.{IsWoven, AreShares}
use Rattle.archive_btree_spelling.proofs.Trees.{EachTreeSpells, AllSuit, AllSmall, length-links-below, children_after_pos, children_consistent, children_keyed, children_canonical}
use Rattle.archive_btree_spelling.proofs.Weaving.{AreCounted, count_counted, woven_packed, woven_values, count_of_values}
use Rattle.archive_btree_spelling.proofs.Standing.{Quarters, quarters, length-quarters, entries_own_keys, entries_own_values, children_own, in_parts_left, in_parts_right, claimed_part}
use Rattle.archive_shape_layout.proofs.Windows.{word_within}
use Rattle.archive_shape_layout.proofs.Places.{keys_follow}

some_align : (k v : Shape) → 0 < link_node_align k v
unfolding link_node_align
some_align k v = omega arith

-- the first byte of what lies at a position
first_byte : (bytes : List ℕ) (pos b : ℕ) → HasBytes bytes pos (b ∷ []) → slice_index (drop pos bytes) 0 ≡ b
first_byte bytes pos b s = get_or-drop pos bytes 0 0 ∙ ap (slice_index bytes) (add-zero pos) ∙ stands_byte bytes pos b s

module _ (names : Names) (bytes : List ℕ) (t most : ℕ) (k v : Shape) (pos : ℕ) where
  pub leaf_chosen : (own : List ℕ) (n : ℕ) → word_at own (links_offset most k v) ≡ n → t ≤ 32 → n ≤ most
      → node_content t most k v pos zero own ≡ claimed (node_span 1 most k v pos) whole (entries n k (pos + keys_offset k) v (pos + values_offset most k v))
  unfolding node_content choose
  leaf_chosen own n e low few =
      let test : (nat_le t 32 && nat_le n most) ≡ true = grind (arith, nat_tests) in
      ap (λ z. choose (nat_le t 32 && nat_le z most) (claimed (node_span 1 most k v pos) whole (entries z k (pos + keys_offset k) v (pos + values_offset most k v))) illegal) e
      ∙ ap (λ b. choose b (claimed (node_span 1 most k v pos) whole (entries n k (pos + keys_offset k) v (pos + values_offset most k v))) illegal) test

  pub inner_chosen : (own : List ℕ) → t ≤ 32
      → node_content t most k v pos (suc zero) own
      ≡ claimed (node_span (most + 1) most k v pos) (woven (most + 1)) (children (most + 1) (t + 1) most k v (pos + links_offset most k v) ++ entries most k (pos + keys_offset k) v (pos + values_offset most k v))
  unfolding node_content choose
  inner_chosen own low =
      let test : nat_le t 32 ≡ true = grind (arith, nat_tests) in
      ap (λ b. choose b (claimed (node_span (most + 1) most k v pos) (woven (most + 1)) (children (most + 1) (t + 1) most k v (pos + links_offset most k v) ++ entries most k (pos + keys_offset k) v (pos + values_offset most k v))) illegal) test

  leaf_content : (n : ℕ) → HasBytes bytes pos (0 ∷ []) → HasBytes bytes (pos + links_offset most k v) (to_le_bytes w32 n) → n < 2 ^ 32 → t ≤ 32 → n ≤ most
      → content_of names bytes (node t most k v pos) ≡ claimed (node_span 1 most k v pos) whole (entries n k (pos + keys_offset k) v (pos + values_offset most k v))
  leaf_content n a b small low few =
      ap (λ kind. node_content t most k v pos kind (window bytes pos (link_node_size (words_of kind most) most k v))) (first_byte bytes pos 0 a)
      ∙ leaf_chosen (window bytes pos (link_node_size 1 most k v)) n
      (word_within bytes pos (link_node_size 1 most k v) (links_offset most k v) (let h = links_fit 1 most k v in omega arith) ∙ stands_word bytes (pos + links_offset most k v) n small b) low few

  inner_content : HasBytes bytes pos (1 ∷ []) → t ≤ 32
      → content_of names bytes (node t most k v pos)
      ≡ claimed (node_span (most + 1) most k v pos) (woven (most + 1)) (children (most + 1) (t + 1) most k v (pos + links_offset most k v) ++ entries most k (pos + keys_offset k) v (pos + values_offset most k v))
  inner_content a low =
      ap (λ kind. node_content t most k v pos kind (window bytes pos (link_node_size (words_of kind most) most k v))) (first_byte bytes pos 1 a)
      ∙ inner_chosen (window bytes pos (link_node_size (most + 1) most k v)) low

module _ {A B R Q : Type 0} (fit : Fit) (most : ℕ) (k v : Shape) (knows : Names → Type 0) (keys : Spelling A R) (vals : Spelling B Q) (w : Spelling (List (A × B)) (Option ℕ)) where
  -- where the pieces of a node lie
  pub record NodeStands (p : Parted (A × B)) (st : State) (bytes : List ℕ) : Type 0 where
    pub children_stand : HasBytes bytes st.pos (pieces w p.below st)
    pub entries_stand : HasBytes bytes (state_after_children most k v keys vals w p st).pos (pieces (entry_spelling most k v keys vals) p.own (state_after_children most k v keys vals w p st))
    pub gap_stands : HasBytes bytes (state_after_entries most k v keys vals w p st).pos (zeros (node_at most k v keys vals w p st - (state_after_entries most k v keys vals w p st).pos))
    pub own_stand : HasBytes bytes (node_at most k v keys vals w p st) (own_bytes most k v keys vals (linked most k v keys vals w p st) (state_after_children most k v keys vals w p st) (node_at most k v keys vals w p st))

  pub children_pos : (p : Parted (A × B)) (st : State) → (state_after_children most k v keys vals w p st).pos ≡ st.pos + length (pieces w p.below st)
  children_pos p st = children_after_pos fit most k v knows keys vals 0 w p.below st

  pub entries_pos : (p : Parted (A × B)) (st : State)
      → (state_after_entries most k v keys vals w p st).pos ≡ (state_after_children most k v keys vals w p st).pos + length (pieces (entry_spelling most k v keys vals) p.own (state_after_children most k v keys vals w p st))
  entries_pos p st = state_after_all_pos fit (pair_shape fit most k v knows keys vals) knows (entry_spelling most k v keys vals) p.own (state_after_children most k v keys vals w p st)

  pub node_stands : (p : Parted (A × B)) (st : State) (bytes : List ℕ) → HasBytes bytes st.pos (node_piece most k v keys vals w p st) → NodeStands p st bytes
  node_stands p st bytes s =
      let now = state_after_children most k v keys vals w p st in
      let mid = state_after_entries most k v keys vals w p st in
      let pos = node_at most k v keys vals w p st in
      let first = pieces w p.below st in
      let second = pieces (entry_spelling most k v keys vals) p.own now in
      let gap = zeros (pos - mid.pos) in
      let own = own_bytes most k v keys vals (linked most k v keys vals w p st) (state_after_children most k v keys vals w p st) pos in
      let r₁ = stands_right bytes st.pos first (second ++ (gap ++ own)) now.pos (sym (children_pos p st)) s in
      let r₂ = stands_right bytes now.pos second (gap ++ own) mid.pos (sym (entries_pos p st)) r₁ in
      let up = le_align_up mid.pos (link_node_align k v) in
      let size : length gap ≡ pos - mid.pos = length-replicate _ _ in
      record {
        children_stand = stands_left bytes st.pos first (second ++ (gap ++ own)) s;
        entries_stand = stands_left bytes now.pos second (gap ++ own) r₁;
        gap_stands = stands_left bytes mid.pos gap own r₂;
        own_stand = stands_right bytes mid.pos gap own pos (omega (arith, size, up)) r₂;
      }

  -- a node has room for its entries, and for its length or pointers
  pub record Roomy (p : Parted (A × B)) (st : State) (pos : ℕ) : Type 0 where
    pub keys_room : keys_offset k + length (key_slots fit most k v knows keys vals p.own (state_after_children most k v keys vals w p st) (pos + keys_offset k)) ≤ values_offset most k v
    pub values_room : values_offset most k v + length (value_slots fit most k v knows keys vals p.own (state_after_children most k v keys vals w p st) (pos + values_offset most k v)) ≤ links_offset most k v
    pub words_room : links_offset most k v + length (words most k v keys vals p.kind (linked most k v keys vals w p st) (pos + links_offset most k v)) ≤ own_size most k v keys vals (linked most k v keys vals w p st)

  pub roomy : (p : Parted (A × B)) (st : State) (pos : ℕ) (each : EachEntrySpells fit most k v knows keys vals p.own) → length p.own ≤ most
      → KeysFit fit most k v knows keys vals p.own (state_after_children most k v keys vals w p st) (pos + keys_offset k)
      → ValuesFit fit most k v knows keys vals p.own (state_after_children most k v keys vals w p st) (pos + values_offset most k v)
      → length (words most k v keys vals p.kind (linked most k v keys vals w p st) (pos + links_offset most k v)) ≡ words_of p.kind most * 4
      → Roomy p st pos
  roomy p st pos each few f g e =
      let now = state_after_children most k v keys vals w p st in
      let a = length-key-slots fit most k v knows keys vals p.own each now (pos + keys_offset k) f in
      let b = length-value-slots fit most k v knows keys vals p.own each now (pos + values_offset most k v) g in
      let m₁ = mul-le-mul_right (size_of k) few in
      let m₂ = mul-le-mul_right (size_of v) few in
      record {
        keys_room = omega (arith, a, m₁, keys_fit 1 most k v);
        values_room = omega (arith, b, m₂, values_fit most k v);
        words_room = omega (arith, e, links_fit (words_of p.kind most) most k v);
      }

  -- where a node ends
  pub node_end : (p : Parted (A × B)) (st : State) → Roomy p st (node_at most k v keys vals w p st)
      → node_at most k v keys vals w p st + own_size most k v keys vals (linked most k v keys vals w p st) ≡ st.pos + length (node_piece most k v keys vals w p st)
  node_end p st r =
      let now = state_after_children most k v keys vals w p st in
      let mid = state_after_entries most k v keys vals w p st in
      let pos = node_at most k v keys vals w p st in
      let first = pieces w p.below st in
      let second = pieces (entry_spelling most k v keys vals) p.own now in
      let gap = zeros (pos - mid.pos) in
      let own = own_bytes most k v keys vals (linked most k v keys vals w p st) (state_after_children most k v keys vals w p st) pos in
      let up = le_align_up mid.pos (link_node_align k v) in
      let size : length gap ≡ pos - mid.pos = length-replicate _ _ in
      let whole_size : length own ≡ own_size most k v keys vals (linked most k v keys vals w p st) =
      length-quarters (keys_offset k) (values_offset most k v) (links_offset most k v) (own_size most k v keys vals (linked most k v keys vals w p st)) p.kind
      (key_slots fit most k v knows keys vals p.own now (pos + keys_offset k)) (value_slots fit most k v knows keys vals p.own now (pos + values_offset most k v)) (words most k v keys vals p.kind (linked most k v keys vals w p st) (pos + links_offset most k v))
      (keys_follow k) r.keys_room r.values_room r.words_room in
      omega (arith, children_pos p st, entries_pos p st, length-append first (second ++ (gap ++ own)), length-append second (gap ++ own), length-append gap own, size, whole_size, up)

  pub node_quarters : (p : Parted (A × B)) (st : State) (bytes : List ℕ) (pos : ℕ) → Roomy p st pos → HasBytes bytes pos (own_bytes most k v keys vals (linked most k v keys vals w p st) (state_after_children most k v keys vals w p st) pos)
      → Quarters bytes pos (keys_offset k) (values_offset most k v) (links_offset most k v) (own_size most k v keys vals (linked most k v keys vals w p st)) p.kind
      (key_slots fit most k v knows keys vals p.own (state_after_children most k v keys vals w p st) (pos + keys_offset k))
      (value_slots fit most k v knows keys vals p.own (state_after_children most k v keys vals w p st) (pos + values_offset most k v))
      (words most k v keys vals p.kind (linked most k v keys vals w p st) (pos + links_offset most k v))
  node_quarters p st bytes pos r s =
      quarters bytes pos (keys_offset k) (values_offset most k v) (links_offset most k v) (own_size most k v keys vals (linked most k v keys vals w p st)) p.kind _ _ _ (keys_follow k) r.keys_room r.values_room r.words_room s

  abbrev pub leaf_of : List (A × B) → Parted (A × B)
  leaf_of es = record { kind = 0; below = []; own = es }

  -- so is a leaf
  pub leaf_canonical :
      (es : List (A × B)) (each : EachEntrySpells fit most k v knows keys vals es) (st : State) (names : Names) (given : Keys) (bytes : List ℕ) (level : ℕ) (inside : List OpenShared) (t : ℕ)
      → t ≤ 32
      → length es ≤ most
      → length es < 2 ^ 32
      → knows names
      → all_suit (entry_spelling most k v keys vals) fit given es
      → AreKeyedBy given st.met
      → IsConsistent st
      → AllFrom (st.pos + length (node_piece most k v keys vals w (leaf_of es) st)) inside
      → node_fits most k v keys vals w (leaf_of es) st
      → HasBytes bytes st.pos (node_piece most k v keys vals w (leaf_of es) st)
      → CanonicalPart fit names bytes level inside (visits_of st.met) (visits_of (state_after_all (entry_spelling most k v keys vals) es st).met) (node t most k v (node_at most k v keys vals w (leaf_of es) st)) (group (values (entry_spelling most k v keys vals) es st)) st.pos (st.pos + length (node_piece most k v keys vals w (leaf_of es) st))
  unfolding made
  leaf_canonical es each st names given bytes level inside t low few small kn n known state over f s =
      let p = leaf_of es in
      let mid = (state_after_all (entry_spelling most k v keys vals) es st).pos in
      let pos = node_at most k v keys vals w p st in
      let room = roomy p st pos each few f.1.2.0 f.1.2.1 refl in
      let stands = node_stands p st bytes s in
      let q = node_quarters p st bytes pos room stands.own_stand in
      let end = node_end p st room in
      let up = le_align_up mid (link_node_align k v) in
      let forward = entries_pos p st in
      let c = leaf_content names bytes t most k v pos (length es) q.kind_stands q.words_stand small low few in
      let kind_is = first_byte bytes pos 0 q.kind_stands in
      let ks = length-key-slots fit most k v knows keys vals es each st (pos + keys_offset k) f.1.2.0 in
      let vs = length-value-slots fit most k v knows keys vals es each st (pos + values_offset most k v) f.1.2.1 in
      let ps = entries (length es) k (pos + keys_offset k) v (pos + values_offset most k v) in
      let parts = entries_canonical fit most k v knows keys vals es each st (pos + keys_offset k) (pos + values_offset most k v) names given bytes (suc level) inside kn n known state
      (from_earlier inside mid (st.pos + length (node_piece most k v keys vals w p st)) (omega (arith, end, up)) over) f.1.0 f.1.2.0 f.1.2.1 stands.entries_stand q.keys_stand q.values_stand in
      let clean = clean_by names bytes (node t most k v pos) (claimed (node_span 1 most k v pos) whole ps) c
      (λ i o. ⊎_elim
      (λ here. inl (subst (λ z. InFieldOfNode z most k v pos i) (sym kind_is) (inl here)))
      (λ x. ⊎_elim
      (λ y. inr (inl (entries_own_keys (length es) k (pos + keys_offset k) v (pos + values_offset most k v) i (subst (λ z. IsIn (pos + keys_offset k) z i) ks y))))
      (λ x. ⊎_elim
      (λ y. inr (inl (entries_own_values (length es) k (pos + keys_offset k) v (pos + values_offset most k v) i (subst (λ z. IsIn (pos + values_offset most k v) z i) vs y))))
      (λ x. ⊎_elim
      (λ y. inl (subst (λ z. InFieldOfNode z most k v pos i) (sym kind_is) (inr y)))
      (λ z. inr (inr z))
      x) x) x) (q.covers i o)) tt in
      let settled : IsSettled fit bytes (node t most k v pos) ps (values (entry_spelling most k v keys vals) es st) = subst (λ z. IsPacked most z (all_blank (values (entry_spelling most k v keys vals) es st))) (sym kind_is) tt in
      subst (λ z. CanonicalPart fit names bytes level inside (visits_of st.met) (visits_of (state_after_all (entry_spelling most k v keys vals) es st).met) (node t most k v pos) (group (values (entry_spelling most k v keys vals) es st)) st.pos z) end
      (claimed_part (node t most k v pos) (node_span 1 most k v pos) whole ps (values (entry_spelling most k v keys vals) es st) (group (values (entry_spelling most k v keys vals) es st)) st.pos mid c tt refl clean settled (omega (arith, forward)) (some_align k v) refl up stands.gap_stands parts)

  -- ---- inner nodes

  pub values_counted : (l : ℕ) (xss : List (List (A × B))) → EachTreeSpells fit most k v knows keys vals l w xss → (st : State) → AreCounted xss (values w xss st)
  values_counted l [] each st = tt
  values_counted l (xs ∷ xss) each st = (each.0.counted st, values_counted l xss each.1 (state_after w xs st))

  abbrev pub inner_of : List (List (A × B)) → List (A × B) → Parted (A × B)
  inner_of xss es = record { kind = 1; below = xss; own = es }

  -- so is an inner node, where what is below its pointers is
  pub inner_canonical :
      (l : ℕ) (xs : List (A × B)) (xss : List (List (A × B))) (es : List (A × B))
      (below : EachTreeSpells fit most k v knows keys vals l w xss) (each : EachEntrySpells fit most k v knows keys vals es)
      (st : State) (names : Names) (given : Keys) (bytes : List ℕ) (level : ℕ) (inside : List OpenShared) (t : ℕ)
      → most < length xs
      → length xss ≡ suc most
      → length es ≡ most
      → IsWoven xs xss es
      → AreShares most (length xs) 0 xss
      → t + suc l ≤ 33
      → AllSmall fit most k v knows keys vals l w xss
      → knows names
      → AllSuit fit most k v knows keys vals l w given xss
      → all_suit (entry_spelling most k v keys vals) fit given es
      → AreKeyedBy given st.met
      → IsConsistent st
      → AllFrom (st.pos + length (node_piece most k v keys vals w (inner_of xss es) st)) inside
      → node_fits most k v keys vals w (inner_of xss es) st
      → HasBytes bytes st.pos (node_piece most k v keys vals w (inner_of xss es) st)
      → CanonicalPart fit names bytes level inside (visits_of st.met) (visits_of (state_after_entries most k v keys vals w (inner_of xss es) st).met) (node t most k v (node_at most k v keys vals w (inner_of xss es) st))
      (group (weave (values w xss st) (values (entry_spelling most k v keys vals) es (state_after_all w xss st)))) st.pos (st.pos + length (node_piece most k v keys vals w (inner_of xss es) st))
  unfolding made
  inner_canonical l xs xss es below each st names given bytes level inside t more width own_width is_woven are_shares low small kn n m known state over f s =
      let p = inner_of xss es in
      let entry_w = entry_spelling most k v keys vals in
      let now = state_after_all w xss st in
      let mid = (state_after_entries most k v keys vals w p st).pos in
      let pos = node_at most k v keys vals w p st in
      let size = link_node_size (most + 1) most k v in
      let few : length es ≤ most = omega (arith, own_width) in
      let wide : length xss ≡ most + 1 = omega (arith, width) in
      let links = length-links-below fit most k v knows keys vals l w xss st (pos + links_offset most k v) in
      let room = roomy p st pos each few f.1.2.0 f.1.2.1 (links ∙ ap (λ z. z * 4) wide) in
      let stands = node_stands p st bytes s in
      let q = node_quarters p st bytes pos room stands.own_stand in
      let end = node_end p st room in
      let up = le_align_up mid (link_node_align k v) in
      let forward = children_pos p st in
      let further = entries_pos p st in
      let c = inner_content names bytes t most k v pos q.kind_stands (omega (arith, low)) in
      let kind_is = first_byte bytes pos 1 q.kind_stands in
      let ks = length-key-slots fit most k v knows keys vals es each now (pos + keys_offset k) f.1.2.0 in
      let vs = length-value-slots fit most k v knows keys vals es each now (pos + values_offset most k v) f.1.2.1 in
      let cs = values w xss st in
      let os = values entry_w es now in
      let pointers = children (most + 1) (t + 1) most k v (pos + links_offset most k v) in
      let slots = entries most k (pos + keys_offset k) v (pos + values_offset most k v) in
      let counted = values_counted l xss below st in
      let count_cs = count_counted xss cs counted in
      let over_mid : AllFrom mid inside = from_earlier inside mid (st.pos + length (node_piece most k v keys vals w p st)) (omega (arith, end, up)) over in
      let over_now : AllFrom now.pos inside = from_earlier inside now.pos mid (omega (arith, further)) over_mid in
      let later = children_keyed fit most k v knows keys vals l w xss below given st n known f.0 in
      let own_parts = entries_canonical fit most k v knows keys vals es each now (pos + keys_offset k) (pos + values_offset most k v) names given bytes (suc level) inside kn m later.1
      (children_consistent fit most k v knows keys vals l w xss below st state f.0) over_mid f.1.0 f.1.2.0 f.1.2.1 stands.entries_stand q.keys_stand q.values_stand in
      let all_parts = children_canonical fit most k v knows keys vals l w xss below st (pos + links_offset most k v) names given bytes (suc level) inside (t + 1)
      (entries (length es) k (pos + keys_offset k) v (pos + values_offset most k v)) os (visits_of (state_after_entries most k v keys vals w p st).met) mid
      (omega (arith, low)) small kn n known state over_now f.0 f.1.2.2 (omega (arith, further, up)) stands.children_stand q.words_stand (omega (arith, further)) own_parts in
      let P : ℕ → ℕ → Type 0 = λ a b. CanonicalParts fit names bytes (suc level) inside (visits_of st.met) (visits_of (state_after_entries most k v keys vals w p st).met)
      (children a (t + 1) most k v (pos + links_offset most k v) ++ entries b k (pos + keys_offset k) v (pos + values_offset most k v)) (append_values cs os) st.pos mid in
      let parts = subst (P (most + 1)) own_width (subst (λ a. P a (length es)) wide all_parts) in
      let clean = clean_by names bytes (node t most k v pos) (claimed (node_span (most + 1) most k v pos) (woven (most + 1)) (pointers ++ slots)) c
      (λ i o. ⊎_elim
      (λ here. inl (subst (λ z. InFieldOfNode z most k v pos i) (sym kind_is) here))
      (λ x. ⊎_elim
      (λ y. inr (inl (in_parts_right pointers slots i (entries_own_keys most k (pos + keys_offset k) v (pos + values_offset most k v) i (subst (λ z. IsIn (pos + keys_offset k) z i) (ks ∙ ap (λ z. z * size_of k) own_width) y)))))
      (λ x. ⊎_elim
      (λ y. inr (inl (in_parts_right pointers slots i (entries_own_values most k (pos + keys_offset k) v (pos + values_offset most k v) i (subst (λ z. IsIn (pos + values_offset most k v) z i) (vs ∙ ap (λ z. z * size_of v) own_width) y)))))
      (λ x. ⊎_elim
      (λ y. inr (inl (in_parts_left pointers slots i (children_own (most + 1) (t + 1) most k v (pos + links_offset most k v) i (subst (λ z. IsIn (pos + links_offset most k v) z i) (links ∙ ap (λ z. z * 4) wide) y)))))
      (λ z. inr (inr z))
      x) x) x) (q.covers i o)) tt in
      let packed = woven_packed most (length xs) xs xss es cs os refl more width is_woven are_shares counted (count_of_values entry_w es now) in
      let settled : IsSettled fit bytes (node t most k v pos) (pointers ++ slots) (append_values cs os) = subst (λ z. IsPacked most z (all_blank (append_values cs os))) (sym kind_is) packed in
      let value : made (woven (most + 1)) (append_values cs os) ≡ Some (group (weave cs os)) = ap (λ z. Some (group z)) (woven_values (most + 1) cs os (count_cs ∙ wide)) in
      subst (λ z. CanonicalPart fit names bytes level inside (visits_of st.met) (visits_of (state_after_entries most k v keys vals w p st).met) (node t most k v pos) (group (weave cs os)) st.pos z) end
      (claimed_part (node t most k v pos) (node_span (most + 1) most k v pos) (woven (most + 1)) (pointers ++ slots) (append_values cs os) (group (weave cs os)) st.pos mid c tt value clean settled (omega (arith, forward, further)) (some_align k v) refl up stands.gap_stands parts)
