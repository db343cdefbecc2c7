-- No node of an archive is a whole exactly if none of its document is.
use Rattle.std.proofs.Common.{◌≢◌, ℕ, ◌<◌, Bool, true, false, List, refl, sym, subst, arith}
use Rattle.std.specs.Prelude.{cond}
use Rattle.archive_shape_layout.specs.Value.{Value, Values}
use Rattle.cabinet_text_grammar.specs.Tree.{Tree, Trees, Pairs, no_pairs, more_pairs}
use Rattle.cabinet_text_grammar.specs.WholesLaws.{HasNoWhole, HaveNoWhole, PairsHaveNoWhole}
use Rattle.cabinet_documents.specs.Denotes.{Denotes, DenoteAll, DenotePairs}
use Rattle.cabinet_documents.specs.Denotes.Denotes.{denotes_truth, denotes_number, denotes_text, denotes_shared, denotes_nothing, denotes_some, denotes_list, denotes_ordered, denotes_hashed, denotes_kept, denotes_whole}
use Rattle.cabinet_documents.specs.Denotes.DenoteAll.{denote_none, denote_more}
use Rattle.cabinet_documents.specs.Denotes.DenotePairs.{denote_no_pairs, denote_pair}
use Rattle.cabinet_documents.specs.Order.{is_below, inserted, arranged}
use Rattle.cabinet_documents.proofs.Sound.{one_document_law}
use Rattle.cabinet.specs.WholesLaws.{HoldsNoWhole, HoldNoWhole, ArchiveWithoutWholes}

-- ---- pairs in the order of their keys

none_inserted : (k : List ℕ) (t : Tree) (ps : Pairs) → HasNoWhole t → PairsHaveNoWhole ps → PairsHaveNoWhole (inserted k t ps)
none_inserted k t no_pairs h hs = (h, tt)
none_inserted k t (more_pairs l u ps) h hs = by (is_below l k) (none_inserted k t ps h hs.1)
  where
    by : (b : Bool) → PairsHaveNoWhole (inserted k t ps) → PairsHaveNoWhole (cond b (more_pairs l u (inserted k t ps)) (more_pairs k t (more_pairs l u ps)))
    by true rest = (hs.0, rest)
    by false rest = (h, hs)

inserted_none : (k : List ℕ) (t : Tree) (ps : Pairs) → PairsHaveNoWhole (inserted k t ps) → HasNoWhole t × PairsHaveNoWhole ps
inserted_none k t no_pairs h = h
inserted_none k t (more_pairs l u ps) h = by (is_below l k) (inserted_none k t ps) h
  where
    by : (b : Bool) → (PairsHaveNoWhole (inserted k t ps) → HasNoWhole t × PairsHaveNoWhole ps)
        → PairsHaveNoWhole (cond b (more_pairs l u (inserted k t ps)) (more_pairs k t (more_pairs l u ps)))
        → HasNoWhole t × PairsHaveNoWhole (more_pairs l u ps)
    by true rest h = let r = rest h.1 in (r.0, (h.0, r.1))
    by false rest h = h

none_arranged : (ps : Pairs) → PairsHaveNoWhole ps → PairsHaveNoWhole (arranged ps)
none_arranged no_pairs h = h
none_arranged (more_pairs k t ps) h = none_inserted k t (arranged ps) h.0 (none_arranged ps h.1)

arranged_none : (ps : Pairs) → PairsHaveNoWhole (arranged ps) → PairsHaveNoWhole ps
arranged_none no_pairs h = h
arranged_none (more_pairs k t ps) h = let r = inserted_none k t (arranged ps) h in (r.0, arranged_none ps r.1)

-- ---- values

below : {tag : ℕ} → tag < 9 → tag ≢ 9
below h = λ e. omega (arith, h, e)

mutual
  none_held : {v : Value} {t : Tree} → Denotes v t → HasNoWhole t → HoldsNoWhole v
  none_held (denotes_truth e f) h = subst HoldsNoWhole (sym e) (below (omega arith), (tt, tt))
  none_held (denotes_number e f) h = subst HoldsNoWhole (sym e) (below (omega arith), (tt, tt))
  none_held (denotes_text e f) h = subst HoldsNoWhole (sym e) (below (omega arith), (tt, tt))
  none_held (denotes_shared e f) h = subst HoldsNoWhole (sym e) (below (omega arith), (tt, tt))
  none_held (denotes_nothing e f) h = subst HoldsNoWhole (sym e) (below (omega arith), ((below (omega arith), tt), tt))
  none_held (denotes_some e f d) h =
      let inner = none_held d (subst HasNoWhole f h) in
      subst HoldsNoWhole (sym e) (below (omega arith), ((below (omega arith), (inner, tt)), tt))
  none_held (denotes_list e f ds) h = subst HoldsNoWhole (sym e) (below (omega arith), (none_in ds (subst HasNoWhole f h), tt))
  none_held (denotes_ordered e f ds) h = subst HoldsNoWhole (sym e) (below (omega arith), (none_by ds (subst HasNoWhole f h), tt))
  none_held (denotes_hashed {ps = ps} e f ds) h =
      subst HoldsNoWhole (sym e) (below (omega arith), (none_by ds (arranged_none ps (subst HasNoWhole f h)), tt))
  none_held (denotes_kept e f ds) h = subst HoldsNoWhole (sym e) (below (omega arith), (none_by ds (subst HasNoWhole f h), tt))
  none_held (denotes_whole e f d) h = absurd (subst HasNoWhole f h)

  none_in : {vs : Values} {ts : Trees} → DenoteAll vs ts → HaveNoWhole ts → HoldNoWhole vs
  none_in (denote_none e f) h = subst HoldNoWhole (sym e) tt
  none_in (denote_more e f d ds) h = let each = subst HaveNoWhole f h in subst HoldNoWhole (sym e) (none_held d each.0, none_in ds each.1)

  none_by : {vs : Values} {ps : Pairs} → DenotePairs vs ps → PairsHaveNoWhole ps → HoldNoWhole vs
  none_by (denote_no_pairs e f) h = subst HoldNoWhole (sym e) tt
  none_by (denote_pair e f d ds) h =
      let each = subst PairsHaveNoWhole f h in
      subst HoldNoWhole (sym e) ((tt, (none_held d each.0, tt)), none_by ds each.1)

mutual
  held_none : {v : Value} {t : Tree} → Denotes v t → HoldsNoWhole v → HasNoWhole t
  held_none (denotes_truth e f) h = subst HasNoWhole (sym f) tt
  held_none (denotes_number e f) h = subst HasNoWhole (sym f) tt
  held_none (denotes_text e f) h = subst HasNoWhole (sym f) tt
  held_none (denotes_shared e f) h = subst HasNoWhole (sym f) tt
  held_none (denotes_nothing e f) h = subst HasNoWhole (sym f) tt
  held_none (denotes_some e f d) h = let held = subst HoldsNoWhole e h in subst HasNoWhole (sym f) (held_none d held.1.0.1.0)
  held_none (denotes_list e f ds) h = let held = subst HoldsNoWhole e h in subst HasNoWhole (sym f) (held_in ds held.1.0)
  held_none (denotes_ordered e f ds) h = let held = subst HoldsNoWhole e h in subst HasNoWhole (sym f) (held_by ds held.1.0)
  held_none (denotes_hashed {ps = ps} e f ds) h =
      let held = subst HoldsNoWhole e h in
      subst HasNoWhole (sym f) (none_arranged ps (held_by ds held.1.0))
  held_none (denotes_kept e f ds) h = let held = subst HoldsNoWhole e h in subst HasNoWhole (sym f) (held_by ds held.1.0)
  held_none (denotes_whole e f d) h = let held = subst HoldsNoWhole e h in absurd (held.0 refl)

  held_in : {vs : Values} {ts : Trees} → DenoteAll vs ts → HoldNoWhole vs → HaveNoWhole ts
  held_in (denote_none e f) h = subst HaveNoWhole (sym f) tt
  held_in (denote_more e f d ds) h = let held = subst HoldNoWhole e h in subst HaveNoWhole (sym f) (held_none d held.0, held_in ds held.1)

  held_by : {vs : Values} {ps : Pairs} → DenotePairs vs ps → HoldNoWhole vs → PairsHaveNoWhole ps
  held_by (denote_no_pairs e f) h = subst PairsHaveNoWhole (sym f) tt
  held_by (denote_pair e f d ds) h =
      let held = subst HoldNoWhole e h in
      subst PairsHaveNoWhole (sym f) (held_none d held.0.1.0, held_by ds held.1)

pub archive_without_wholes_law : ArchiveWithoutWholes
archive_without_wholes_law bytes t a =
    ((λ none. held_none a.denotes (none t a)), λ none u b. none_held b.denotes (subst HasNoWhole (one_document_law bytes t u a b) none))
