-- The keys of the maps in a node's value ascend, or are distinct, where its document is legal.
use Rattle.std.proofs.Common.{◌≡◌, ℕ, Bool, true, false, cond, List, [], ◌∷◌, refl, sym, ap, subst, ◌∙◌}
use Rattle.std.specs.Ordering.{is_lt, nat_cmp}
use Rattle.std.specs.Cmp.Lexicographic.{slice_cmp}
use Rattle.archive_shape_layout.specs.Value.{Value, Values}
use Rattle.cabinet_text_grammar.specs.Keys.{ordered, hashed, kept, IsAboveLast}
use Rattle.cabinet_text_grammar.specs.Tree.{Tree, Trees, Pairs, no_pairs as none, more_pairs as more, IsLegal, AreLegal, ArePairs}
use Rattle.cabinet_documents.specs.Denotes.{Denotes, DenoteAll, DenotePairs}
use Rattle.cabinet_documents.specs.Denotes.DenoteAll.{denote_none, denote_more}
use Rattle.cabinet_documents.specs.Denotes.DenotePairs.{denote_no_pairs, denote_pair}
use Rattle.cabinet_documents.specs.Order.{ascend, is_below, arranged}
use Rattle.cabinet_documents.specs.Table.{item_keys}
use Rattle.cabinet_documents.proofs.Arranged.{is_less}
use Rattle.cabinet_documents.proofs.ByKey.{AreKeysDistinct, pair_keys, AreDistinct, keys_distinct, distinct, distinct_in_order}
use Rattle.cabinet_documents.proofs.Changing.{of_some, of_list, of_ordered, of_hashed, of_kept, of_whole}
use Rattle.cabinet_documents.proofs.Heights.{Keyed, AllKeyed}
use Rattle.cabinet_documents.proofs.Nodes.{NodeValue, truth_value, number_value, text_value, shared_value, none_value, some_value, list_value, ordered_value, hashed_value, kept_value, whole_value, NodeValues, no_nodes, more_nodes, PairValues, no_pairs, more_pairs}

-- ---- keys after others, of which the last comes first

abbrev pub AscendAfter : List (List ℕ) → List (List ℕ) → Type 0
AscendAfter [] ks = ascend ks ≡ true
AscendAfter (last ∷ before) ks = ascend (last ∷ ks) ≡ true

-- the first of them is above those before, and the others come after it
pub after_first : (before : List (List ℕ)) (k : List ℕ) (ks : List (List ℕ)) → IsAboveLast before k → AscendAfter (k ∷ before) ks → AscendAfter before (k ∷ ks)
after_first [] k ks h rest = rest
after_first (last ∷ before) k ks h rest = ap (λ o. cond (is_lt o) (ascend (k ∷ ks)) false) h ∙ rest

both_true : (b c : Bool) → cond b c false ≡ true → (b ≡ true) × (c ≡ true)
both_true true c e = (refl, e)
both_true false c e = absurd (cc)

pub first_after : (before : List (List ℕ)) (k : List ℕ) (ks : List (List ℕ)) → AscendAfter before (k ∷ ks) → IsAboveLast before k × AscendAfter (k ∷ before) ks
first_after [] k ks h = (tt, h)
first_after (last ∷ before) k ks h = let b = both_true (is_below last k) (ascend (k ∷ ks)) h in (is_less (slice_cmp nat_cmp last k) b.0, b.1)

none_after : (before : List (List ℕ)) → AscendAfter before []
none_after [] = refl
none_after (last ∷ before) = refl

-- ---- the keys of a document's pairs

pub keys_denoted : {vs : Values} {ps : Pairs} → DenotePairs vs ps → item_keys vs ≡ pair_keys ps
keys_denoted (denote_no_pairs e f) = ap item_keys e ∙ sym (ap pair_keys f)
keys_denoted (denote_pair {k = k} e f d ds) = ap item_keys e ∙ ap (λ ks. k ∷ ks) (keys_denoted ds) ∙ sym (ap pair_keys f)

-- those of an ordered map ascend
pairs_ascend : (before : List (List ℕ)) (ps : Pairs) → ArePairs ordered before ps → AscendAfter before (pair_keys ps)
pairs_ascend before none h = none_after before
pairs_ascend before (more k t ps) h = after_first before k (pair_keys ps) h.0.1 (pairs_ascend (k ∷ before) ps h.1.1)

-- ---- the value of a legal document

mutual
  keyed_of : {bytes : List ℕ} {v w : Value} {t : Tree} → NodeValue bytes v → Denotes w t → v ≡ w → IsLegal t → Keyed v
  keyed_of (truth_value e) d q l = subst Keyed (sym e) (tt, (tt, tt))
  keyed_of (number_value e f) d q l = subst Keyed (sym e) (tt, (tt, tt))
  keyed_of (text_value e f) d q l = subst Keyed (sym e) (tt, (tt, tt))
  keyed_of (shared_value e u) d q l = subst Keyed (sym e) (tt, (tt, tt))
  keyed_of (none_value e) d q l = subst Keyed (sym e) (tt, ((tt, tt), tt))
  keyed_of (some_value e n) d q l = let s = of_some (sym q ∙ e) d in subst Keyed (sym e) (tt, ((tt, (keyed_of n s.denotes refl (subst IsLegal s.is l), tt)), tt))
  keyed_of (list_value e ns small) d q l = let s = of_list (sym q ∙ e) d in let a = subst IsLegal s.is l in subst Keyed (sym e) (tt, (all_keyed_of ns s.denotes refl a.0, tt))
  keyed_of (ordered_value e ps small) d q l =
      let s = of_ordered (sym q ∙ e) d in
      let a = subst IsLegal s.is l in
      let keys = subst (λ ks. ascend ks ≡ true) (sym (keys_denoted s.denotes)) (pairs_ascend [] s.pairs a.0) in
      subst Keyed (sym e) (keys, (pairs_keyed_of ps s.denotes refl (distinct ordered [] s.pairs a.0), tt))
  keyed_of (hashed_value e ps small) d q l =
      let s = of_hashed (sym q ∙ e) d in
      let a = subst IsLegal s.is l in
      let each = distinct_in_order hashed s.pairs (distinct hashed [] (arranged s.pairs) a.0) in
      let keys = subst AreKeysDistinct (sym (keys_denoted s.denotes)) (keys_distinct s.pairs each) in
      subst Keyed (sym e) (keys, (pairs_keyed_of ps s.denotes refl each, tt))
  keyed_of (whole_value e n) d q l = let s = of_whole (sym q ∙ e) d in subst Keyed (sym e) (tt, (keyed_of n s.denotes refl (subst IsLegal s.is l), tt))
  keyed_of (kept_value e ps small) d q l =
      let s = of_kept (sym q ∙ e) d in
      let a = subst IsLegal s.is l in
      let each = distinct kept [] s.pairs a.0 in
      let keys = subst AreKeysDistinct (sym (keys_denoted s.denotes)) (keys_distinct s.pairs each) in
      subst Keyed (sym e) (keys, (pairs_keyed_of ps s.denotes refl each, tt))

  all_keyed_of : {bytes : List ℕ} {vs ws : Values} {ts : Trees} → NodeValues bytes vs → DenoteAll ws ts → vs ≡ ws → AreLegal ts → AllKeyed vs
  all_keyed_of (no_nodes e) d q l = subst AllKeyed (sym e) tt
  all_keyed_of (more_nodes e n ns) (denote_none f g) q l = absurd (cc)
  all_keyed_of (more_nodes {ws = ws} {v = v} e n ns) (denote_more {v = v'} {vs = ws'} f g d ds) q l =
      let one : v ≡ v' = cc in
      let others : ws ≡ ws' = cc in
      let a = subst AreLegal g l in
      subst AllKeyed (sym e) (keyed_of n d one a.0, all_keyed_of ns ds others a.1)

  pairs_keyed_of : {bytes : List ℕ} {vs ws : Values} {qs : Pairs} → PairValues bytes vs → DenotePairs ws qs → vs ≡ ws → AreDistinct qs → AllKeyed vs
  pairs_keyed_of (no_pairs e) d q l = subst AllKeyed (sym e) tt
  pairs_keyed_of (more_pairs e u n ns) (denote_no_pairs f g) q l = absurd (cc)
  pairs_keyed_of (more_pairs {ws = ws} {v = v} e u n ns) (denote_pair {v = v'} {vs = ws'} f g d ds) q l =
      let one : v ≡ v' = cc in
      let others : ws ≡ ws' = cc in
      let a = subst AreDistinct g l in
      subst AllKeyed (sym e) ((tt, (keyed_of n d one a.1, tt)), pairs_keyed_of ns ds others a.2)

pub keyed_is : {bytes : List ℕ} {v : Value} {t : Tree} → NodeValue bytes v → Denotes v t → IsLegal t → Keyed v
keyed_is n d l = keyed_of n d refl l
