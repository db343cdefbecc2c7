-- The packed tree of items is read as it is written, level by level.
use Rattle.std.proofs.Common.{◌≡◌, ◌∙◌, ℕ, zero, suc, ◌+◌, ◌*◌, ◌^◌, ◌<◌, ◌≤◌, nat_le, cond, Bool, true, false, Option, List, [], ◌∷◌, ◌++◌, length, refl, ap, ap₂, subst, arith, length-append, leb-true}
use Rattle.std.proofs.Math.Nat.{pow-zero}
use Rattle.archive_shape_layout.specs.Shape.{Shape}
use Rattle.archive_shape_layout.specs.Value.Value.{group}
use Rattle.archive_shape_layout.specs.Value.Values.{no_values, more_values}
use Rattle.archive_shape_layout.specs.Content.{Names, weave, words_of}
use Rattle.archive_shape_layout.specs.Content.Part.{node}
use Rattle.archive_shape_layout.specs.Holds.{OpenShared}
use Rattle.archive_shape_layout.proofs.Framed.{links_fit}
use Rattle.archive_shape_canonical.specs.Settled.{Fit}
use Rattle.archive_shape_canonical.specs.Sharing.{erased}
use Rattle.archive_shape_canonical.specs.Packed.{levels_for, full}
use Rattle.archive_shape.specs.Bytes.{HasBytes}
use Rattle.archive_forms_laws.specs.State.{State, Keys, visits_of, IsConsistent, AllFrom, AreKeyedBy}
use Rattle.archive_forms_laws.specs.Spelling.{Spelling}
use Rattle.archive_forms_laws.specs.Spells.{CanonicalPart}
use Rattle.archive_forms_laws.specs.Regions.{state_after_all, values, plain_values, all_suit}
use Rattle.archive_forms_laws.proofs.States.{consistent_advanced}
use Rattle.archive_forms_laws.proofs.Gaps.{bytes_none}
use Rattle.archive_btree_spelling.specs.Parted.{Parted, parted, shares, between}
use Rattle.archive_btree_spelling.specs.Written.{entry_spelling, state_after_entries, node_at, node_values, node_piece, node_fits, tree_spelling}
use Rattle.archive_btree_spelling.specs.Maps.{packed_spelling}
use Rattle.archive_btree_spelling.proofs.Levels.{levels_hold, above}
use Rattle.archive_btree_spelling.proofs.Slots.{EachEntrySpells}
use Rattle.archive_btree_spelling.proofs.Shares.{IsWoven, AreLow, Shared, shared}
use Rattle.archive_btree_spelling.proofs.Trees.{Counted, Rooted, TreeSpells, EachTreeSpells, AllSuit, AllSmall, plain_children, length-links-below}
use Rattle.archive_btree_spelling.proofs.Weaving.{plain_groups, count_woven, count_of_values, plain_woven, erased_weave, suits_append}
use Rattle.archive_btree_spelling.proofs.Nodes.{Roomy, roomy, node_end, leaf_of, leaf_canonical, inner_of, inner_canonical, values_counted}
use Rattle.archive_btree_spelling.proofs.Whole.{node_consistent, node_keyed, node_piece_bytes, node_exact}

-- lists below pointers are no longer than all items
pub small_woven : {A B R Q : Type 0} (fit : Fit) (most : ℕ) (k v : Shape) (knows : Names → Type 0) (keys : Spelling A R) (vals : Spelling B Q) (l : ℕ) (w : Spelling (List (A × B)) (Option ℕ))
    (xs : List (A × B)) (xss : List (List (A × B))) (es : List (A × B)) → IsWoven xs xss es → length xs < 2 ^ 32 → AllSmall fit most k v knows keys vals l w xss
small_woven fit most k v knows keys vals l w xs [] es h small = tt
small_woven fit most k v knows keys vals l w xs (c ∷ []) [] h small = (subst (λ z. length z < 2 ^ 32) h small, tt)
small_woven fit most k v knows keys vals l w xs (c ∷ []) (e ∷ es) h small = absurd h
small_woven fit most k v knows keys vals l w xs (c ∷ (d ∷ ds)) [] h small = absurd h
small_woven fit most k v knows keys vals l w xs (c ∷ (d ∷ ds)) (e ∷ es) h small =
    let all : length xs ≡ length c + suc (length h.0) = ap length h.1 ∙ length-append c (e ∷ h.0) in
    (omega (arith, all, small), small_woven fit most k v knows keys vals l w h.0 (d ∷ ds) es h.2 (omega (arith, all, small)))

module _ {A B R Q : Type 0} (fit : Fit) (most : ℕ) (k v : Shape) (knows : Names → Type 0) (keys : Spelling A R) (vals : Spelling B Q) where
  entries_append : (xs ys : List (A × B)) → EachEntrySpells fit most k v knows keys vals (xs ++ ys) → EachEntrySpells fit most k v knows keys vals xs × EachEntrySpells fit most k v knows keys vals ys
  entries_append [] ys h = (tt, h)
  entries_append (x ∷ xs) ys h = let rest = entries_append xs ys h.1 in ((h.0, rest.0), rest.1)

  -- the law of all entries is that of those below each pointer, and of the node's own
  pub each_woven : (l : ℕ) (w : Spelling (List (A × B)) (Option ℕ)) (of_list : (c : List (A × B)) → EachEntrySpells fit most k v knows keys vals c → levels_for most (length c) ≤ l → TreeSpells fit most k v knows keys vals l w c)
      (n : ℕ) (xs : List (A × B)) (xss : List (List (A × B))) (es : List (A × B)) → IsWoven xs xss es → AreLow most n l xss → EachEntrySpells fit most k v knows keys vals xs
      → EachTreeSpells fit most k v knows keys vals l w xss × EachEntrySpells fit most k v knows keys vals es
  each_woven l w of_list n xs [] es h low each = absurd h
  each_woven l w of_list n xs (c ∷ []) [] h low each = ((of_list c (subst (EachEntrySpells fit most k v knows keys vals) h each) low.0, tt), tt)
  each_woven l w of_list n xs (c ∷ []) (e ∷ es) h low each = absurd h
  each_woven l w of_list n xs (c ∷ (d ∷ ds)) [] h low each = absurd h
  each_woven l w of_list n xs (c ∷ (d ∷ ds)) (e ∷ es) h low each =
      let parts = entries_append c (e ∷ h.0) (subst (EachEntrySpells fit most k v knows keys vals) h.1 each) in
      let rest = each_woven l w of_list n h.0 (d ∷ ds) es h.2 low.1 parts.1.1 in
      ((of_list c parts.0 low.0, rest.0), (parts.1.0, rest.1))

  pub suits_woven : (l : ℕ) (w : Spelling (List (A × B)) (Option ℕ)) (given : Keys) (xs : List (A × B)) (xss : List (List (A × B))) (es : List (A × B)) → IsWoven xs xss es → all_suit (entry_spelling most k v keys vals) fit given xs
      → AllSuit fit most k v knows keys vals l w given xss × all_suit (entry_spelling most k v keys vals) fit given es
  suits_woven l w given xs [] es h n = absurd h
  suits_woven l w given xs (c ∷ []) [] h n = ((subst (all_suit (entry_spelling most k v keys vals) fit given) h n, tt), tt)
  suits_woven l w given xs (c ∷ []) (e ∷ es) h n = absurd h
  suits_woven l w given xs (c ∷ (d ∷ ds)) [] h n = absurd h
  suits_woven l w given xs (c ∷ (d ∷ ds)) (e ∷ es) h n =
      let parts = suits_append (entry_spelling most k v keys vals) fit given c (e ∷ h.0) (subst (all_suit (entry_spelling most k v keys vals) fit given) h.1 n) in
      let rest = suits_woven l w given h.0 (d ∷ ds) es h.2 parts.1.1 in
      ((parts.0, rest.0), (parts.1.0, rest.1))

  plain_lists : (l : ℕ) (w : Spelling (List (A × B)) (Option ℕ)) (xs : List (A × B)) (xss : List (List (A × B))) (es : List (A × B)) → IsWoven xs xss es
      → weave (plain_children fit most k v knows keys vals l w xss) (plain_values (entry_spelling most k v keys vals) es) ≡ plain_values (entry_spelling most k v keys vals) xs
  plain_lists l w xs xss es h = ap (λ z. weave z (plain_values (entry_spelling most k v keys vals) es)) (same xss) ∙ plain_woven (entry_spelling most k v keys vals) xs xss es h
    where
      same : (yss : List (List (A × B))) → plain_children fit most k v knows keys vals l w yss ≡ plain_groups (entry_spelling most k v keys vals) yss
      same [] = refl
      same (ys ∷ yss) = ap (more_values (group (plain_values (entry_spelling most k v keys vals) ys))) (same yss)

  module _ (l : ℕ) (w : Spelling (List (A × B)) (Option ℕ)) where
    -- what holds of items that are written as a node
    pub record NodeSpells (xs : List (A × B)) (p : Parted (A × B)) : Type 0 where
      pub before : (st : State) → node_fits most k v keys vals w p st → node_at most k v keys vals w p st < st.pos + length (node_piece most k v keys vals w p st)
      pub canonical :
          (st : State) (names : Names) (given : Keys) (bytes : List ℕ) (level : ℕ) (inside : List OpenShared) (t : ℕ)
          → t + suc l ≤ 33
          → length xs < 2 ^ 32
          → knows names
          → all_suit (entry_spelling most k v keys vals) fit given xs
          → AreKeyedBy given st.met
          → IsConsistent st
          → AllFrom (st.pos + length (node_piece most k v keys vals w p st)) inside
          → node_fits most k v keys vals w p st
          → HasBytes bytes st.pos (node_piece most k v keys vals w p st)
          → CanonicalPart fit names bytes level inside (visits_of st.met) (visits_of (state_after_entries most k v keys vals w p st).met) (node t most k v (node_at most k v keys vals w p st)) (group (node_values most k v keys vals w p st)) st.pos (st.pos + length (node_piece most k v keys vals w p st))
      pub counted : (st : State) → Counted (length xs) (group (node_values most k v keys vals w p st))
      pub keyed :
          (given : Keys) (st : State) → all_suit (entry_spelling most k v keys vals) fit given xs → AreKeyedBy given st.met → node_fits most k v keys vals w p st
          → (erased (group (node_values most k v keys vals w p st)) ≡ group (plain_values (entry_spelling most k v keys vals) xs)) × AreKeyedBy given (state_after_entries most k v keys vals w p st).met
      pub below : EachTreeSpells fit most k v knows keys vals l w p.below
      pub own : EachEntrySpells fit most k v knows keys vals p.own
      pub kinds : p.kind < 2

    -- a node has bytes
    node_before : (p : Parted (A × B)) (st : State) → Roomy fit most k v knows keys vals w p st (node_at most k v keys vals w p st)
        → 0 < words_of p.kind most
        → node_at most k v keys vals w p st < st.pos + length (node_piece most k v keys vals w p st)
    node_before p st r some =
        let end = node_end fit most k v knows keys vals w p st r in
        let size = links_fit (words_of p.kind most) most k v in
        omega (arith, end, size, some)

    leaf_node : (xs : List (A × B)) → length xs ≤ most → EachEntrySpells fit most k v knows keys vals xs → NodeSpells xs (leaf_of fit most k v knows keys vals w xs)
    leaf_node xs few each = record {
      before = λ st f. node_before (leaf_of fit most k v knows keys vals w xs) st (roomy fit most k v knows keys vals w (leaf_of fit most k v knows keys vals w xs) st _ each few f.1.2.0 f.1.2.1 refl) (omega arith);
      canonical = λ st names given bytes level inside t low small kn n known state above f s.
          leaf_canonical fit most k v knows keys vals w xs each st names given bytes level inside t (omega (arith, low)) few small kn n known state above f s;
      counted = λ st. record { items = _; is = refl; count = count_of_values (entry_spelling most k v keys vals) xs st };
      keyed = λ given st n known f.
          let both = node_keyed fit most k v knows keys vals l w (leaf_of fit most k v knows keys vals w xs) (omega arith) tt each given st tt n known f in
          (ap group both.1, both.2);
      below = tt;
      own = each;
      kinds = omega arith;
    }

    inner_node : (xs : List (A × B)) → 0 < most → most < length xs → levels_for most (length xs) ≤ suc l → EachEntrySpells fit most k v knows keys vals xs
        → ((c : List (A × B)) → EachEntrySpells fit most k v knows keys vals c → levels_for most (length c) ≤ l → TreeSpells fit most k v knows keys vals l w c)
        → NodeSpells xs (inner_of fit most k v knows keys vals w (shares most (length xs) 0 most xs) (between most (length xs) 0 most xs))
    inner_node xs some more within each of_list =
        let n = length xs in
        let xss = shares most n 0 most xs in
        let es = between most n 0 most xs in
        let p = inner_of fit most k v knows keys vals w xss es in
        let parts : Shared most n 0 most l xs = shared most n l xs some more refl within in
        let laws = each_woven l w of_list n xs xss es parts.woven parts.are_low each in
        let few : length es ≤ most = let e = parts.own in omega (arith, e) in
        record {
          before = λ st f. node_before p st
              (roomy fit most k v knows keys vals w p st _ laws.1 few f.1.2.0 f.1.2.1 (length-links-below fit most k v knows keys vals l w xss st _ ∙ ap (λ z. z * 4) (let e = parts.pointers in omega (arith, e))))
              (omega arith);
          canonical = λ st names given bytes level inside t low small kn m known state above f s.
              let named = suits_woven l w given xs xss es parts.woven m in
              inner_canonical fit most k v knows keys vals w l xs xss es laws.0 laws.1 st names given bytes level inside t more parts.pointers parts.own parts.woven parts.are_shares low
              (small_woven fit most k v knows keys vals l w xs xss es parts.woven small) kn named.0 named.1 known state above f s;
          counted = λ st. record {
            items = _;
            is = refl;
            count = count_woven xs xss es (values w xss st) (values (entry_spelling most k v keys vals) es (state_after_all w xss st)) parts.woven (values_counted fit most k v knows keys vals w l xss laws.0 st) (count_of_values (entry_spelling most k v keys vals) es (state_after_all w xss st));
          };
          keyed = λ given st m known f.
              let named = suits_woven l w given xs xss es parts.woven m in
              let both = node_keyed fit most k v knows keys vals l w p (omega arith) laws.0 laws.1 given st named.0 named.1 known f in (
                ap group
                    (erased_weave xss (values w xss st) (values (entry_spelling most k v keys vals) es (state_after_all w xss st)) (values_counted fit most k v knows keys vals w l xss laws.0 st)
                    ∙ ap₂ weave both.0 both.1
                    ∙ plain_lists l w xs xss es parts.woven),
                both.2,
              );
          below = laws.0;
          own = laws.1;
          kinds = omega arith;
        }

    parted_node : (xs : List (A × B)) → 0 < most → levels_for most (length xs) ≤ suc l → EachEntrySpells fit most k v knows keys vals xs
        → ((c : List (A × B)) → EachEntrySpells fit most k v knows keys vals c → levels_for most (length c) ≤ l → TreeSpells fit most k v knows keys vals l w c)
        → NodeSpells xs (parted most xs)
    parted_node xs some within each of_list = tested (nat_le (length xs) most) refl
      where
        tested : (b : Bool) → nat_le (length xs) most ≡ b
            → NodeSpells xs (cond b (record { kind = 0; below = []; own = xs }) (record { kind = 1; below = shares most (length xs) 0 most xs; own = between most (length xs) 0 most xs }))
        tested true e = leaf_node xs (leb-true (length xs) most e) each
        tested false e = inner_node xs some (above (length xs) most e) within each of_list

    -- no items are written as nothing
    nothing_spells : TreeSpells fit most k v knows keys vals (suc l) (tree_spelling most k v keys vals w) []
    nothing_spells = record {
      absent = λ st e. record { none = refl; piece = refl; value = refl; met = refl };
      present = λ st root e. absurd (cc);
      counted = λ st. record { items = no_values; is = refl; count = refl };
      consistent = λ st h f. consistent_advanced st 0 h;
      keyed = λ given st n known f. (refl, known);
      piece_bytes = λ st f. bytes_none;
      piece_exact = λ st e f r. r;
    }

    node_spells : (x : A × B) (xs : List (A × B)) → NodeSpells (x ∷ xs) (parted most (x ∷ xs)) → TreeSpells fit most k v knows keys vals (suc l) (tree_spelling most k v keys vals w) (x ∷ xs)
    node_spells x xs h =
        let p = parted most (x ∷ xs) in
        record {
          absent = λ st e. absurd (cc);
          present = λ st root e. rooted st root (cc);
          counted = h.counted;
          consistent = λ st c f. node_consistent fit most k v knows keys vals l w p h.kinds h.below h.own st c f;
          keyed = h.keyed;
          piece_bytes = λ st f. node_piece_bytes fit most k v knows keys vals l w p h.kinds h.below h.own st f;
          piece_exact = λ st e f r. node_exact fit most k v knows keys vals l w p h.kinds h.below h.own st e f r;
        }
      where
        rooted : (st : State) (root : ℕ) → node_at most k v keys vals w (parted most (x ∷ xs)) st ≡ root → Rooted fit most k v knows keys vals (suc l) (tree_spelling most k v keys vals w) (x ∷ xs) st root
        rooted st root e = subst (Rooted fit most k v knows keys vals (suc l) (tree_spelling most k v keys vals w) (x ∷ xs) st) e (record {
          some = omega arith;
          levels = omega arith;
          before = h.before st;
          canonical = h.canonical st;
        })

  -- on any number of levels that is enough for the items
  pub packed_spells : (l : ℕ) (xs : List (A × B)) → 0 < most → EachEntrySpells fit most k v knows keys vals xs → levels_for most (length xs) ≤ l
      → TreeSpells fit most k v knows keys vals l (packed_spelling most k v keys vals l) xs
  packed_spells zero [] some each within = record {
    absent = λ st e. record { none = refl; piece = refl; value = refl; met = refl };
    present = λ st root e. absurd (cc);
    counted = λ st. record { items = no_values; is = refl; count = refl };
    consistent = λ st h f. consistent_advanced st 0 h;
    keyed = λ given st n known f. (refl, known);
    piece_bytes = λ st f. bytes_none;
    piece_exact = λ st e f r. r;
  }
  packed_spells zero (x ∷ xs) some each within =
      let none : levels_for most (length (x ∷ xs)) ≡ 0 = omega (arith, within) in
      let h : length (x ∷ xs) ≤ full most 0 = subst (λ z. length (x ∷ xs) ≤ full most z) none (levels_hold most (length (x ∷ xs)) some) in
      absurd (omega (arith, h, pow-zero (most + 1)))
  packed_spells (suc l) [] some each within = nothing_spells l (packed_spelling most k v keys vals l)
  packed_spells (suc l) (x ∷ xs) some each within =
      node_spells l (packed_spelling most k v keys vals l) x xs
      (parted_node l (packed_spelling most k v keys vals l) (x ∷ xs) some within each (λ c each_c low. packed_spells l c some each_c low))
