-- A value that is that of a document, except for the positions of shared values, denotes it.
use Rattle.std.proofs.Common.{◌≡◌, ℕ, List, [], ◌∷◌, length, refl, sym, ap, ap₂, subst, ◌∙◌, arith}
use Rattle.std.specs.Prelude.{⊤}
use Rattle.std.specs.List.{AllByRecursion}
use Rattle.archive_shape_layout.specs.Value.{Value, Values, count_values}
use Rattle.archive_shape_layout.specs.Value.Value.{natural, integer, boolean, string, group, chosen, counted, back}
use Rattle.archive_shape_layout.specs.Value.Values.{no_values, more_values}
use Rattle.archive_shape_canonical.specs.FirstFit.{ascending, keys_in, map_capacity, placed_keys}
use Rattle.archive_shape_canonical.specs.Hash.{text_hash}
use Rattle.archive_shape_canonical.specs.Sharing.{erased, all_erased}
use Rattle.archive_hash_writing.specs.Fitted.{capacity_of, places_of, by_place}
use Rattle.archive_hash_writing.proofs.Placed.{placed_each}
use Rattle.cabinet_text_grammar.specs.Keys.{MapKind, ordered, hashed, kept}
use Rattle.cabinet_text_grammar.specs.Tree as document
use Rattle.cabinet_text_grammar.specs.Tree.{Tree, Trees, Pairs, leaf, shared, nothing, just, list, map, whole, no_trees, more_trees, no_pairs, more_pairs, IsLegal, AreLegal, ArePairs}
use Rattle.cabinet_documents.specs.Denotes.{tagged_value, pair_value, Denotes, DenoteAll, DenotePairs}
use Rattle.cabinet_documents.specs.Denotes.Denotes.{denotes_truth, denotes_number, denotes_text, denotes_shared, denotes_nothing, denotes_some, denotes_list, denotes_ordered, denotes_hashed, denotes_kept, denotes_whole}
use Rattle.cabinet_documents.specs.Denotes.DenoteAll.{denote_none, denote_more}
use Rattle.cabinet_documents.specs.Denotes.DenotePairs.{denote_no_pairs, denote_pair}
use Rattle.cabinet_documents.specs.Fitted.{IsFitted, AreFitted, ArePairsFitted, AreFirstFit}
use Rattle.cabinet_documents.specs.Fitted.IsFitted.{leaf_is_fitted, nothing_is_fitted, some_is_fitted, list_is_fitted, ordered_is_fitted, hashed_is_fitted, kept_is_fitted, whole_is_fitted}
use Rattle.cabinet_documents.specs.Fitted.AreFitted.{none_are_fitted, more_are_fitted}
use Rattle.cabinet_documents.specs.Fitted.ArePairsFitted.{no_pairs_are_fitted, more_pairs_are_fitted}
use Rattle.cabinet_documents.specs.Spelling.{node_value, pairs_in}
use Rattle.cabinet_documents.specs.SpellingLaws.{ValueDenotes}
use Rattle.cabinet_documents.proofs.ByKey.{pair_keys}
use Rattle.cabinet_documents.proofs.FirstFit.{by_first_fit}
use Rattle.cabinet_documents.proofs.PlacedPairs.{pairs_of, pairs_of_in, pair_hashes, placed_pairs, arranged_placed, first_fit_keys}
use Rattle.cabinet_documents.proofs.Values.{value_of, values_of, values_of_pairs, first_fit_pairs, node_value_is}
use Rattle.cabinet_documents.proofs.Denoted.{one_tree}

-- ---- what is known of a value from what is left of it without positions

-- those in which no value lies
abbrev pub IsSimple : Value → Type 0
IsSimple (group vs) = ⊥
IsSimple (chosen t no_values) = ⊤
IsSimple (chosen t (more_values v vs)) = ⊥
IsSimple (counted t v) = ⊥
IsSimple _ = ⊤

unchanged : (v u : Value) → IsSimple u → erased v ≡ u → v ≡ u
unchanged (natural n) u s e = e
unchanged (integer z) u s e = e
unchanged (boolean b) u s e = e
unchanged (string bs) u s e = e
unchanged (group vs) u s e = absurd (subst IsSimple (sym e) s)
unchanged (chosen t no_values) u s e = e
unchanged (chosen t (more_values v vs)) u s e = absurd (subst IsSimple (sym e) s)
unchanged (counted t v) u s e = absurd (subst IsSimple (sym e) s)
unchanged (back t) u s e = e

pub record Tagged (tag : ℕ) (u v : Value) : Type 0 where
  pub inner : Value
  pub is : v ≡ tagged_value tag inner
  pub same : erased inner ≡ u

pub tagged : (tag : ℕ) (u v : Value) → erased v ≡ tagged_value tag u → Tagged tag u v
tagged tag u (natural n) e = absurd (cc)
tagged tag u (integer z) e = absurd (cc)
tagged tag u (boolean b) e = absurd (cc)
tagged tag u (string bs) e = absurd (cc)
tagged tag u (group vs) e = absurd (cc)
tagged tag u (chosen t no_values) e = absurd (cc)
tagged tag u (chosen t (more_values v no_values)) e = record { inner = v; is = cc; same = cc }
tagged tag u (chosen t (more_values v (more_values w vs))) e = absurd (cc)
tagged tag u (counted t v) e = absurd (cc)
tagged tag u (back t) e = absurd (cc)

pub simply_tagged : (tag : ℕ) (u v : Value) → IsSimple u → erased v ≡ tagged_value tag u → v ≡ tagged_value tag u
simply_tagged tag u v s e = let t = tagged tag u v e in t.is ∙ ap (tagged_value tag) (unchanged t.inner u s t.same)

-- a counted value, wherever it lies
pub record Counted (u v : Value) : Type 0 where
  pub pos : ℕ
  pub inner : Value
  pub is : v ≡ counted pos inner
  pub same : erased inner ≡ u

pub counted_value : (u v : Value) → erased v ≡ counted 0 u → Counted u v
counted_value u (natural n) e = absurd (cc)
counted_value u (integer z) e = absurd (cc)
counted_value u (boolean b) e = absurd (cc)
counted_value u (string bs) e = absurd (cc)
counted_value u (group vs) e = absurd (cc)
counted_value u (chosen t vs) e = absurd (cc)
counted_value u (counted t v) e = record { pos = t; inner = v; is = refl; same = cc }
counted_value u (back t) e = absurd (cc)

pub record Shared (s : List ℕ) (v : Value) : Type 0 where
  pub pos : ℕ
  pub is : v ≡ counted pos (string s)

pub shared_text : (s : List ℕ) (v : Value) → erased v ≡ counted 0 (string s) → Shared s v
shared_text s v e = let c = counted_value (string s) v e in record { pos = c.pos; is = c.is ∙ ap (counted c.pos) (unchanged c.inner (string s) tt c.same) }

pub record Grouped (us : Values) (v : Value) : Type 0 where
  pub inner : Values
  pub is : v ≡ group inner
  pub same : all_erased inner ≡ us

pub grouped : (us : Values) (v : Value) → erased v ≡ group us → Grouped us v
grouped us (natural n) e = absurd (cc)
grouped us (integer z) e = absurd (cc)
grouped us (boolean b) e = absurd (cc)
grouped us (string bs) e = absurd (cc)
grouped us (group vs) e = record { inner = vs; is = refl; same = cc }
grouped us (chosen t vs) e = absurd (cc)
grouped us (counted t v) e = absurd (cc)
grouped us (back t) e = absurd (cc)

pub record Paired (k : List ℕ) (u v : Value) : Type 0 where
  pub inner : Value
  pub is : v ≡ pair_value k inner
  pub same : erased inner ≡ u

pub paired : (k : List ℕ) (u v : Value) → erased v ≡ pair_value k u → Paired k u v
paired k u v e = let p = grouped (more_values (string k) (more_values u no_values)) v e in of_two p.inner p.is p.same where
  of_two : (vs : Values) → v ≡ group vs → all_erased vs ≡ more_values (string k) (more_values u no_values) → Paired k u v
  of_two no_values is same = absurd (cc)
  of_two (more_values x no_values) is same = absurd (cc)
  of_two (more_values x (more_values y no_values)) is same =
      let first : erased x ≡ string k = cc in
      let second : erased y ≡ u = cc in
      record { inner = y; is = is ∙ ap (λ z. group (more_values z (more_values y no_values))) (unchanged x (string k) tt first); same = second }
  of_two (more_values x (more_values y (more_values z vs))) is same = absurd (cc)

-- ---- what it denotes

-- a value that is a pair's, except for the positions of shared texts, denotes its node
abbrev IsDenotable : List ℕ × Tree → Type 0
IsDenotable p = (v : Value) → erased v ≡ value_of p.1 → Denotes v p.1

pairs_denoted : (xs : List (List ℕ × Tree)) (vs : Values) → AllByRecursion IsDenotable xs → all_erased vs ≡ values_of_pairs (pairs_of xs) → DenotePairs vs (pairs_of xs)
pairs_denoted [] no_values h e = denote_no_pairs refl refl
pairs_denoted [] (more_values v vs) h e = absurd (cc)
pairs_denoted (x ∷ xs) no_values h e = absurd (cc)
pairs_denoted (x ∷ xs) (more_values v vs) h e =
    let first : erased v ≡ pair_value x.0 (value_of x.1) = cc in
    let rest : all_erased vs ≡ values_of_pairs (pairs_of xs) = cc in
    let p = paired x.0 (value_of x.1) v first in
    denote_pair (ap (λ z. more_values z vs) p.is) refl (h.0 p.inner p.same) (pairs_denoted xs vs h.1 rest)

mutual
  pub denoted : (t : Tree) (v : Value) → IsLegal t → erased v ≡ value_of t → Denotes v t
  denoted (leaf (document.truth b)) v l e = denotes_truth (simply_tagged 0 (boolean b) v tt e) refl
  denoted (leaf (document.number n)) v l e = denotes_number (simply_tagged 1 (integer n) v tt e) refl
  denoted (leaf (document.text s)) v l e = denotes_text (simply_tagged 2 (string s) v tt e) refl
  denoted (shared s) v l e =
      let p = tagged 3 (counted 0 (string s)) v e in
      let x = shared_text s p.inner p.same in
      denotes_shared (p.is ∙ ap (tagged_value 3) x.is) refl
  denoted nothing v l e = denotes_nothing (simply_tagged 4 (chosen 0 no_values) v tt e) refl
  denoted (just t) v l e =
      let p = tagged 4 (tagged_value 1 (value_of t)) v e in
      let x = tagged 1 (value_of t) p.inner p.same in
      denotes_some (p.is ∙ ap (tagged_value 4) x.is) refl (denoted t x.inner l x.same)
  denoted (list ts) v l e =
      let p = tagged 5 (group (values_of ts)) v e in
      let x = grouped (values_of ts) p.inner p.same in
      denotes_list (p.is ∙ ap (tagged_value 5) x.is) refl (all_denoted ts x.inner l.0 x.same)
  denoted (map ordered ps) v l e =
      let p = tagged 6 (group (values_of_pairs ps)) v e in
      let x = grouped (values_of_pairs ps) p.inner p.same in
      let each = each_denotable ordered [] ps l.0 in
      let same = pairs_of_in ps in
      denotes_ordered (p.is ∙ ap (tagged_value 6) x.is) (ap (map ordered) (sym same)) (pairs_denoted (pairs_in ps) x.inner each (x.same ∙ ap values_of_pairs (sym same)))
  denoted (map hashed ps) v l e =
      let p = tagged 7 (group (by_first_fit (values_of_pairs ps))) v e in
      let x = grouped (by_first_fit (values_of_pairs ps)) p.inner p.same in
      let xs = pairs_in ps in
      let hashes = pair_hashes xs in
      let each = placed_each IsDenotable (capacity_of 7 8 hashes xs) (places_of 7 8 hashes xs) xs (each_denotable hashed [] ps l.0) in
      denotes_hashed (p.is ∙ ap (tagged_value 7) x.is) (ap (map hashed) (sym (arranged_placed ps l.0))) (pairs_denoted (by_place 7 8 hashes xs) x.inner each (x.same ∙ first_fit_pairs ps))
  denoted (map kept ps) v l e =
      let p = tagged 8 (group (values_of_pairs ps)) v e in
      let x = grouped (values_of_pairs ps) p.inner p.same in
      let same = pairs_of_in ps in
      denotes_kept (p.is ∙ ap (tagged_value 8) x.is) (ap (map kept) (sym same)) (pairs_denoted (pairs_in ps) x.inner (each_denotable kept [] ps l.0) (x.same ∙ ap values_of_pairs (sym same)))
  denoted (whole t) v l e =
      let p = tagged 9 (counted 0 (value_of t)) v e in
      let x = counted_value (value_of t) p.inner p.same in
      denotes_whole (p.is ∙ ap (tagged_value 9) x.is) refl (denoted t x.inner l x.same)

  all_denoted : (ts : Trees) (vs : Values) → AreLegal ts → all_erased vs ≡ values_of ts → DenoteAll vs ts
  all_denoted no_trees no_values l e = denote_none refl refl
  all_denoted no_trees (more_values v vs) l e = absurd (cc)
  all_denoted (more_trees t ts) no_values l e = absurd (cc)
  all_denoted (more_trees t ts) (more_values v vs) l e =
      let first : erased v ≡ value_of t = cc in
      let rest : all_erased vs ≡ values_of ts = cc in
      denote_more refl refl (denoted t v l.0 first) (all_denoted ts vs l.1 rest)

  each_denotable : (kind : MapKind) (before : List (List ℕ)) (ps : Pairs) → ArePairs kind before ps → AllByRecursion IsDenotable (pairs_in ps)
  each_denotable kind before no_pairs l = tt
  each_denotable kind before (more_pairs k t ps) l = (λ v e. denoted t v l.1.0 e, each_denotable kind (k ∷ before) ps l.1.1)

-- ---- the value of a document is in the order of first fit, and has no positions

abbrev IsSettledPair : List ℕ × Tree → Type 0
IsSettledPair p = IsFitted (value_of p.1) × (erased (value_of p.1) ≡ value_of p.1)

pairs_fitted : (xs : List (List ℕ × Tree)) → AllByRecursion IsSettledPair xs → ArePairsFitted (values_of_pairs (pairs_of xs))
pairs_fitted [] h = no_pairs_are_fitted refl
pairs_fitted (x ∷ xs) h = more_pairs_are_fitted refl h.0.0 (pairs_fitted xs h.1)

pairs_nowhere : (xs : List (List ℕ × Tree)) → AllByRecursion IsSettledPair xs → all_erased (values_of_pairs (pairs_of xs)) ≡ values_of_pairs (pairs_of xs)
pairs_nowhere [] h = refl
pairs_nowhere (x ∷ xs) h = ap₂ (λ (v : Value) (vs : Values). more_values (pair_value x.0 v) vs) h.0.1 (pairs_nowhere xs h.1)

-- of a map's pairs in its order
pairs_settled : (ps : Pairs) → AllByRecursion IsSettledPair (pairs_in ps) → ArePairsFitted (values_of_pairs ps) × (all_erased (values_of_pairs ps) ≡ values_of_pairs ps)
pairs_settled ps each =
    let same = ap values_of_pairs (pairs_of_in ps) in
    (subst ArePairsFitted same (pairs_fitted (pairs_in ps) each), ap all_erased (sym same) ∙ pairs_nowhere (pairs_in ps) each ∙ same)

keys_are : (ps : Pairs) → keys_in (values_of_pairs ps) ≡ pair_keys ps
keys_are no_pairs = refl
keys_are (more_pairs k t ps) = ap (λ ks. k ∷ ks) (keys_are ps)

count_is : (ps : Pairs) → count_values (values_of_pairs ps) ≡ length (pair_keys ps)
count_is no_pairs = refl
count_is (more_pairs k t ps) = let rest = count_is ps in omega (arith, rest)

first_fit_settled : (ps : Pairs) → ArePairs hashed [] ps → AreFirstFit (by_first_fit (values_of_pairs ps))
first_fit_settled ps legal =
    let qs = placed_pairs ps in
    subst (λ x. AreFirstFit x) (sym (first_fit_pairs ps))
    (keys_are qs ∙ first_fit_keys ps legal ∙ sym (ap₂ (λ n ks. placed_keys text_hash (map_capacity n) (ascending ks)) (count_is qs) (keys_are qs)))

mutual
  pub settled : (t : Tree) → IsLegal t → IsFitted (value_of t) × (erased (value_of t) ≡ value_of t)
  settled (leaf (document.truth b)) l = (leaf_is_fitted {tag = 0} refl (omega arith), refl)
  settled (leaf (document.number n)) l = (leaf_is_fitted {tag = 1} refl (omega arith), refl)
  settled (leaf (document.text s)) l = (leaf_is_fitted {tag = 2} refl (omega arith), refl)
  settled (shared s) l = (leaf_is_fitted {tag = 3} refl (omega arith), refl)
  settled nothing l = (nothing_is_fitted refl, refl)
  settled (just t) l = let r = settled t l in (some_is_fitted refl r.0, ap (λ v. tagged_value 4 (tagged_value 1 v)) r.1)
  settled (list ts) l = let r = all_settled ts l.0 in (list_is_fitted refl r.0, ap (λ vs. tagged_value 5 (group vs)) r.1)
  settled (map ordered ps) l = let r = pairs_settled ps (each_settled ordered [] ps l.0) in (ordered_is_fitted refl r.0, ap (λ vs. tagged_value 6 (group vs)) r.1)
  settled (map hashed ps) l =
      let xs = pairs_in ps in
      let hashes = pair_hashes xs in
      let each = placed_each IsSettledPair (capacity_of 7 8 hashes xs) (places_of 7 8 hashes xs) xs (each_settled hashed [] ps l.0) in
      let same = sym (first_fit_pairs ps) in (
        hashed_is_fitted refl (first_fit_settled ps l.0) (subst ArePairsFitted same (pairs_fitted (by_place 7 8 hashes xs) each)),
        ap (λ vs. tagged_value 7 (group vs)) (ap all_erased (sym same) ∙ pairs_nowhere (by_place 7 8 hashes xs) each ∙ same),
      )
  settled (map kept ps) l = let r = pairs_settled ps (each_settled kept [] ps l.0) in (kept_is_fitted refl r.0, ap (λ vs. tagged_value 8 (group vs)) r.1)
  settled (whole t) l = let r = settled t l in (whole_is_fitted refl r.0, ap (λ v. tagged_value 9 (counted 0 v)) r.1)

  all_settled : (ts : Trees) → AreLegal ts → AreFitted (values_of ts) × (all_erased (values_of ts) ≡ values_of ts)
  all_settled no_trees l = (none_are_fitted refl, refl)
  all_settled (more_trees t ts) l =
      let r = settled t l.0 in
      let rs = all_settled ts l.1 in
      (more_are_fitted refl r.0 rs.0, ap₂ more_values r.1 rs.1)

  each_settled : (kind : MapKind) (before : List (List ℕ)) (ps : Pairs) → ArePairs kind before ps → AllByRecursion IsSettledPair (pairs_in ps)
  each_settled kind before no_pairs l = tt
  each_settled kind before (more_pairs k t ps) l = (settled t l.1.0, each_settled kind (k ∷ before) ps l.1.1)

pub value_denotes_law : ValueDenotes
value_denotes_law t document =
    let same = node_value_is t document in
    let legal = document.0 in
    let own = settled t legal in
    (denoted t (node_value t) legal (ap erased same ∙ own.1), subst IsFitted (sym same) own.0)

-- ---- no two legal documents have one value

pub same_tree : (t u : Tree) → IsLegal t → IsLegal u → value_of t ≡ value_of u → t ≡ u
same_tree t u l m same = one_tree (denoted t (value_of t) l (settled t l).1) (denoted u (value_of t) m ((settled t l).1 ∙ same))
