-- The number of containers that lie in one another in a node's value, and whether the keys of the maps in it are those of
-- maps.
use Rattle.std.proofs.Common.{◌≡◌, ℕ, zero, suc, ◌+◌, max, true, List, [], refl, sym, ap, subst, ◌∙◌, arith}
use Rattle.std.specs.Prelude.{⊤}
use Rattle.archive_shape_layout.specs.Value.{Value, Values, append_values, count_values}
use Rattle.archive_shape_layout.specs.Value.Value.{natural, integer, boolean, string, group, chosen, counted, back}
use Rattle.archive_shape_layout.specs.Value.Values.{no_values, more_values}
use Rattle.archive_shape_layout.specs.Content.{members, weave, first_values, other_values}
use Rattle.cabinet_text_grammar.specs.Tree.{Tree, Trees, Pairs, depth, most_depth, pairs_depth}
use Rattle.cabinet_documents.specs.Denotes.{Denotes, DenoteAll, DenotePairs}
use Rattle.cabinet_documents.specs.Denotes.Denotes.{denotes_truth, denotes_number, denotes_text, denotes_shared, denotes_nothing}
use Rattle.cabinet_documents.specs.Denotes.DenoteAll.{denote_none, denote_more}
use Rattle.cabinet_documents.specs.Denotes.DenotePairs.{denote_no_pairs, denote_pair}
use Rattle.cabinet_documents.specs.Order.{ascend}
use Rattle.cabinet_documents.specs.Table.{item_keys}
use Rattle.cabinet_documents.proofs.Denoted.{one_tree}
use Rattle.cabinet_documents.proofs.Arranged.{arranged_depth}
use Rattle.cabinet_documents.proofs.ByKey.{AreKeysDistinct}
use Rattle.cabinet_documents.proofs.Changing.{of_some, of_list, of_ordered, of_hashed, of_kept, of_whole}
use Rattle.cabinet_documents.proofs.Nodes.{NodeValue, truth_value, number_value, text_value, shared_value, none_value, some_value, list_value, ordered_value, hashed_value, kept_value, whole_value, NodeValues, no_nodes, more_nodes, PairValues, no_pairs, more_pairs}
use Rattle.cabinet_documents.proofs.Places.{lifts}

-- ---- how many containers lie in one another

abbrev mutual
  pub height : Value → ℕ
  height (natural n) = 0
  height (integer n) = 0
  height (boolean b) = 0
  height (string s) = 0
  height (group vs) = heights vs
  height (chosen tag vs) = lifts tag + heights vs
  height (counted pos v) = height v
  height (back pos) = 0

  pub heights : Values → ℕ
  heights no_values = 0
  heights (more_values v vs) = max (height v) (heights vs)

mutual
  height_of : {bytes : List ℕ} {v w : Value} {t : Tree} → NodeValue bytes v → Denotes w t → v ≡ w → height v ≡ depth t
  height_of (truth_value e) d q = ap height e ∙ sym (ap depth (one_tree d (denotes_truth (sym q ∙ e) refl)))
  height_of (number_value e f) d q = ap height e ∙ sym (ap depth (one_tree d (denotes_number (sym q ∙ e) refl)))
  height_of (text_value e f) d q = ap height e ∙ sym (ap depth (one_tree d (denotes_text (sym q ∙ e) refl)))
  height_of (shared_value e u) d q = ap height e ∙ sym (ap depth (one_tree d (denotes_shared (sym q ∙ e) refl)))
  height_of (none_value e) d q = ap height e ∙ sym (ap depth (one_tree d (denotes_nothing (sym q ∙ e) refl)))
  height_of (some_value e n) d q = let s = of_some (sym q ∙ e) d in let r = height_of n s.denotes refl in ap height e ∙ omega (arith, r) ∙ sym (ap depth s.is)
  height_of (list_value e ns small) d q = let s = of_list (sym q ∙ e) d in let r = heights_of ns s.denotes refl in ap height e ∙ omega (arith, r) ∙ sym (ap depth s.is)
  height_of (ordered_value e ps small) d q = let s = of_ordered (sym q ∙ e) d in let r = heights_of_pairs ps s.denotes refl in ap height e ∙ omega (arith, r) ∙ sym (ap depth s.is)
  height_of (hashed_value e ps small) d q =
      let s = of_hashed (sym q ∙ e) d in
      let r = heights_of_pairs ps s.denotes refl in
      let a = arranged_depth s.pairs in
      ap height e ∙ omega (arith, r, a) ∙ sym (ap depth s.is)
  height_of (kept_value e ps small) d q = let s = of_kept (sym q ∙ e) d in let r = heights_of_pairs ps s.denotes refl in ap height e ∙ omega (arith, r) ∙ sym (ap depth s.is)
  height_of (whole_value e n) d q = let s = of_whole (sym q ∙ e) d in let r = height_of n s.denotes refl in ap height e ∙ omega (arith, r) ∙ sym (ap depth s.is)

  heights_of : {bytes : List ℕ} {vs ws : Values} {ts : Trees} → NodeValues bytes vs → DenoteAll ws ts → vs ≡ ws → heights vs ≡ most_depth ts
  heights_of (no_nodes e) (denote_none f g) q = ap heights e ∙ sym (ap most_depth g)
  heights_of (no_nodes e) (denote_more f g d ds) q = absurd (cc)
  heights_of (more_nodes e n ns) (denote_none f g) q = absurd (cc)
  heights_of (more_nodes {ws = ws} {v = v} e n ns) (denote_more {v = v'} {vs = ws'} f g d ds) q =
      let one : v ≡ v' = cc in
      let others : ws ≡ ws' = cc in
      let r = height_of n d one in
      let rs = heights_of ns ds others in
      ap heights e ∙ omega (arith, r, rs) ∙ sym (ap most_depth g)

  heights_of_pairs : {bytes : List ℕ} {vs ws : Values} {ps : Pairs} → PairValues bytes vs → DenotePairs ws ps → vs ≡ ws → heights vs ≡ pairs_depth ps
  heights_of_pairs (no_pairs e) (denote_no_pairs f g) q = ap heights e ∙ sym (ap pairs_depth g)
  heights_of_pairs (no_pairs e) (denote_pair f g d ds) q = absurd (cc)
  heights_of_pairs (more_pairs e u n ns) (denote_no_pairs f g) q = absurd (cc)
  heights_of_pairs (more_pairs {ws = ws} {v = v} e u n ns) (denote_pair {v = v'} {vs = ws'} f g d ds) q =
      let one : v ≡ v' = cc in
      let others : ws ≡ ws' = cc in
      let r = height_of n d one in
      let rs = heights_of_pairs ns ds others in
      ap heights e ∙ omega (arith, r, rs) ∙ sym (ap pairs_depth g)

pub height_is : {bytes : List ℕ} {v : Value} {t : Tree} → NodeValue bytes v → Denotes v t → height v ≡ depth t
height_is n d = height_of n d refl

-- ---- whether keys ascend, or are distinct

abbrev payload_keys : Values → List (List ℕ)
payload_keys (more_values v no_values) = item_keys (members v)
payload_keys vs = []

-- the keys of an ordered map, whose tag is 6, ascend; those of a hashed and of a kept map, whose tags are 7 and 8, are
-- distinct
abbrev pub KeysSuit : ℕ → Values → Type 0
KeysSuit (suc (suc (suc (suc (suc (suc zero)))))) vs = ascend (payload_keys vs) ≡ true
KeysSuit (suc (suc (suc (suc (suc (suc (suc zero))))))) vs = AreKeysDistinct (payload_keys vs)
KeysSuit (suc (suc (suc (suc (suc (suc (suc (suc zero)))))))) vs = AreKeysDistinct (payload_keys vs)
KeysSuit tag vs = ⊤

abbrev mutual
  -- the values below each tag in a value suit the tag
  pub Suited : (ℕ → Values → Type 0) → Value → Type 0
  Suited Suits (natural n) = ⊤
  Suited Suits (integer n) = ⊤
  Suited Suits (boolean b) = ⊤
  Suited Suits (string s) = ⊤
  Suited Suits (group vs) = AllSuited Suits vs
  Suited Suits (chosen tag vs) = Suits tag vs × AllSuited Suits vs
  Suited Suits (counted pos v) = Suited Suits v
  Suited Suits (back pos) = ⊤

  pub AllSuited : (ℕ → Values → Type 0) → Values → Type 0
  AllSuited Suits no_values = ⊤
  AllSuited Suits (more_values v vs) = Suited Suits v × AllSuited Suits vs

-- the keys of each map in a value are those of a map
abbrev pub Keyed : Value → Type 0
Keyed v = Suited KeysSuit v

abbrev pub AllKeyed : Values → Type 0
AllKeyed vs = AllSuited KeysSuit vs

-- ---- the items of a node of a search tree have what its children and its entries have

-- each is a group
abbrev pub AreGroups : Values → Type 0
AreGroups no_values = ⊤
AreGroups (more_values v vs) = (v ≡ group (members v)) × AreGroups vs

pub heights_append : (us vs : Values) → heights (append_values us vs) ≡ max (heights us) (heights vs)
heights_append no_values vs = omega arith
heights_append (more_values u us) vs = let r = heights_append us vs in omega (arith, r)

pub heights_split : (n : ℕ) (vs : Values) → heights vs ≡ max (heights (first_values n vs)) (heights (other_values n vs))
heights_split zero vs = omega arith
heights_split (suc n) no_values = omega arith
heights_split (suc n) (more_values v vs) = let r = heights_split n vs in omega (arith, r)

-- where one child more than entries is there
pub heights_weave : (cs es : Values) → AreGroups cs → count_values cs ≡ suc (count_values es) → heights (weave cs es) ≡ max (heights cs) (heights es)
heights_weave no_values es h n = absurd (omega (arith, n))
heights_weave (more_values c no_values) no_values h n = let g = ap height h.0 in omega (arith, g)
heights_weave (more_values c (more_values d cs)) no_values h n = absurd (omega (arith, n))
heights_weave (more_values c cs) (more_values e es) h n =
    let g = ap height h.0 in
    let r = heights_weave cs es h.1 (omega (arith, n)) in
    let a = heights_append (members c) (more_values e (weave cs es)) in
    omega (arith, g, r, a)

pub suited_append : (Suits : ℕ → Values → Type 0) (us vs : Values) → AllSuited Suits us → AllSuited Suits vs → AllSuited Suits (append_values us vs)
suited_append Suits no_values vs h k = k
suited_append Suits (more_values u us) vs h k = (h.0, suited_append Suits us vs h.1 k)

keyed_front : (us vs : Values) → AllKeyed (append_values us vs) → AllKeyed us × AllKeyed vs
keyed_front no_values vs h = (tt, h)
keyed_front (more_values u us) vs h = let r = keyed_front us vs h.1 in ((h.0, r.0), r.1)

pub suited_split : (Suits : ℕ → Values → Type 0) (n : ℕ) (vs : Values) → AllSuited Suits vs → AllSuited Suits (first_values n vs) × AllSuited Suits (other_values n vs)
suited_split Suits zero vs h = (tt, h)
suited_split Suits (suc n) no_values h = (tt, tt)
suited_split Suits (suc n) (more_values v vs) h = let r = suited_split Suits n vs h.1 in ((h.0, r.0), r.1)

pub keyed_joined : (n : ℕ) (vs : Values) → AllKeyed (first_values n vs) → AllKeyed (other_values n vs) → AllKeyed vs
keyed_joined zero vs h k = k
keyed_joined (suc n) no_values h k = tt
keyed_joined (suc n) (more_values v vs) h k = (h.0, keyed_joined n vs h.1 k)

pub keyed_weave : (cs es : Values) → AreGroups cs → count_values cs ≡ suc (count_values es) → AllKeyed cs → AllKeyed es → AllKeyed (weave cs es)
keyed_weave no_values es g n h k = absurd (omega (arith, n))
keyed_weave (more_values c cs) no_values g n h k = subst Keyed g.0 h.0
keyed_weave (more_values c cs) (more_values e es) g n h k =
    suited_append KeysSuit (members c) (more_values e (weave cs es)) (subst Keyed g.0 h.0) (k.0, keyed_weave cs es g.1 (omega (arith, n)) h.1 k.1)

pub keyed_woven : (cs es : Values) → AreGroups cs → count_values cs ≡ suc (count_values es) → AllKeyed (weave cs es) → AllKeyed cs × AllKeyed es
keyed_woven no_values es g n h = absurd (omega (arith, n))
keyed_woven (more_values c no_values) no_values g n h = ((subst Keyed (sym g.0) h, tt), tt)
keyed_woven (more_values c (more_values d cs)) no_values g n h = absurd (omega (arith, n))
keyed_woven (more_values c cs) (more_values e es) g n h =
    let both = keyed_front (members c) (more_values e (weave cs es)) h in
    let rest = keyed_woven cs es g.1 (omega (arith, n)) both.1.1 in
    ((subst Keyed (sym g.0) both.0, rest.0), (both.1.0, rest.1))
