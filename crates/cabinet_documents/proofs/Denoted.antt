-- A node's value denotes one document.
use Rattle.std.proofs.Common.{◌≡◌, sym, subst}
use Rattle.archive_shape_layout.specs.Value.{Value, Values}
use Rattle.cabinet_text_grammar.specs.Tree.{Tree, Trees, Pairs}
use Rattle.cabinet_documents.specs.Denotes.{Denotes, DenoteAll, DenotePairs}
use Rattle.cabinet_documents.specs.Denotes.Denotes.{denotes_truth, denotes_number, denotes_text, denotes_shared, denotes_nothing, denotes_some, denotes_list, denotes_ordered, denotes_hashed, denotes_kept, denotes_whole}
use Rattle.cabinet_documents.specs.Denotes.DenoteAll.{denote_none, denote_more}
use Rattle.cabinet_documents.specs.Denotes.DenotePairs.{denote_no_pairs, denote_pair}

mutual
  pub one_tree : {v : Value} {s t : Tree} → Denotes v s → Denotes v t → s ≡ t
  one_tree (denotes_truth {b = b} e f) (denotes_truth {b = b'} e' f') = let ex : b ≡ b' = cc in cc
  one_tree (denotes_truth e f) (denotes_number e' f') = absurd (cc)
  one_tree (denotes_truth e f) (denotes_text e' f') = absurd (cc)
  one_tree (denotes_truth e f) (denotes_shared e' f') = absurd (cc)
  one_tree (denotes_truth e f) (denotes_nothing e' f') = absurd (cc)
  one_tree (denotes_truth e f) (denotes_some e' f' h') = absurd (cc)
  one_tree (denotes_truth e f) (denotes_list e' f' h') = absurd (cc)
  one_tree (denotes_truth e f) (denotes_ordered e' f' h') = absurd (cc)
  one_tree (denotes_truth e f) (denotes_hashed e' f' h') = absurd (cc)
  one_tree (denotes_truth e f) (denotes_kept e' f' h') = absurd (cc)
  one_tree (denotes_truth e f) (denotes_whole e' f' h') = absurd (cc)
  one_tree (denotes_number e f) (denotes_truth e' f') = absurd (cc)
  one_tree (denotes_number {n = n} e f) (denotes_number {n = n'} e' f') = let ex : n ≡ n' = cc in cc
  one_tree (denotes_number e f) (denotes_text e' f') = absurd (cc)
  one_tree (denotes_number e f) (denotes_shared e' f') = absurd (cc)
  one_tree (denotes_number e f) (denotes_nothing e' f') = absurd (cc)
  one_tree (denotes_number e f) (denotes_some e' f' h') = absurd (cc)
  one_tree (denotes_number e f) (denotes_list e' f' h') = absurd (cc)
  one_tree (denotes_number e f) (denotes_ordered e' f' h') = absurd (cc)
  one_tree (denotes_number e f) (denotes_hashed e' f' h') = absurd (cc)
  one_tree (denotes_number e f) (denotes_kept e' f' h') = absurd (cc)
  one_tree (denotes_number e f) (denotes_whole e' f' h') = absurd (cc)
  one_tree (denotes_text e f) (denotes_truth e' f') = absurd (cc)
  one_tree (denotes_text e f) (denotes_number e' f') = absurd (cc)
  one_tree (denotes_text {s = s} e f) (denotes_text {s = s'} e' f') = let ex : s ≡ s' = cc in cc
  one_tree (denotes_text e f) (denotes_shared e' f') = absurd (cc)
  one_tree (denotes_text e f) (denotes_nothing e' f') = absurd (cc)
  one_tree (denotes_text e f) (denotes_some e' f' h') = absurd (cc)
  one_tree (denotes_text e f) (denotes_list e' f' h') = absurd (cc)
  one_tree (denotes_text e f) (denotes_ordered e' f' h') = absurd (cc)
  one_tree (denotes_text e f) (denotes_hashed e' f' h') = absurd (cc)
  one_tree (denotes_text e f) (denotes_kept e' f' h') = absurd (cc)
  one_tree (denotes_text e f) (denotes_whole e' f' h') = absurd (cc)
  one_tree (denotes_shared e f) (denotes_truth e' f') = absurd (cc)
  one_tree (denotes_shared e f) (denotes_number e' f') = absurd (cc)
  one_tree (denotes_shared e f) (denotes_text e' f') = absurd (cc)
  one_tree (denotes_shared {s = s} e f) (denotes_shared {s = s'} e' f') = let ex : s ≡ s' = cc in cc
  one_tree (denotes_shared e f) (denotes_nothing e' f') = absurd (cc)
  one_tree (denotes_shared e f) (denotes_some e' f' h') = absurd (cc)
  one_tree (denotes_shared e f) (denotes_list e' f' h') = absurd (cc)
  one_tree (denotes_shared e f) (denotes_ordered e' f' h') = absurd (cc)
  one_tree (denotes_shared e f) (denotes_hashed e' f' h') = absurd (cc)
  one_tree (denotes_shared e f) (denotes_kept e' f' h') = absurd (cc)
  one_tree (denotes_shared e f) (denotes_whole e' f' h') = absurd (cc)
  one_tree (denotes_nothing e f) (denotes_truth e' f') = absurd (cc)
  one_tree (denotes_nothing e f) (denotes_number e' f') = absurd (cc)
  one_tree (denotes_nothing e f) (denotes_text e' f') = absurd (cc)
  one_tree (denotes_nothing e f) (denotes_shared e' f') = absurd (cc)
  one_tree (denotes_nothing e f) (denotes_nothing e' f') = cc
  one_tree (denotes_nothing e f) (denotes_some e' f' h') = absurd (cc)
  one_tree (denotes_nothing e f) (denotes_list e' f' h') = absurd (cc)
  one_tree (denotes_nothing e f) (denotes_ordered e' f' h') = absurd (cc)
  one_tree (denotes_nothing e f) (denotes_hashed e' f' h') = absurd (cc)
  one_tree (denotes_nothing e f) (denotes_kept e' f' h') = absurd (cc)
  one_tree (denotes_nothing e f) (denotes_whole e' f' h') = absurd (cc)
  one_tree (denotes_some e f h) (denotes_truth e' f') = absurd (cc)
  one_tree (denotes_some e f h) (denotes_number e' f') = absurd (cc)
  one_tree (denotes_some e f h) (denotes_text e' f') = absurd (cc)
  one_tree (denotes_some e f h) (denotes_shared e' f') = absurd (cc)
  one_tree (denotes_some e f h) (denotes_nothing e' f') = absurd (cc)
  one_tree (denotes_some {w = w} {u = u} e f h) (denotes_some {w = w'} {u = u'} e' f' h') = let ew : w ≡ w' = cc in let et = one_tree h (subst (λ x. Denotes x u') (sym ew) h') in cc
  one_tree (denotes_some e f h) (denotes_list e' f' h') = absurd (cc)
  one_tree (denotes_some e f h) (denotes_ordered e' f' h') = absurd (cc)
  one_tree (denotes_some e f h) (denotes_hashed e' f' h') = absurd (cc)
  one_tree (denotes_some e f h) (denotes_kept e' f' h') = absurd (cc)
  one_tree (denotes_some e f h) (denotes_whole e' f' h') = absurd (cc)
  one_tree (denotes_list e f h) (denotes_truth e' f') = absurd (cc)
  one_tree (denotes_list e f h) (denotes_number e' f') = absurd (cc)
  one_tree (denotes_list e f h) (denotes_text e' f') = absurd (cc)
  one_tree (denotes_list e f h) (denotes_shared e' f') = absurd (cc)
  one_tree (denotes_list e f h) (denotes_nothing e' f') = absurd (cc)
  one_tree (denotes_list e f h) (denotes_some e' f' h') = absurd (cc)
  one_tree (denotes_list {vs = vs} {ts = ts} e f h) (denotes_list {vs = vs'} {ts = ts'} e' f' h') = let ev : vs ≡ vs' = cc in let et = one_trees h (subst (λ x. DenoteAll x ts') (sym ev) h') in cc
  one_tree (denotes_list e f h) (denotes_ordered e' f' h') = absurd (cc)
  one_tree (denotes_list e f h) (denotes_hashed e' f' h') = absurd (cc)
  one_tree (denotes_list e f h) (denotes_kept e' f' h') = absurd (cc)
  one_tree (denotes_list e f h) (denotes_whole e' f' h') = absurd (cc)
  one_tree (denotes_ordered e f h) (denotes_truth e' f') = absurd (cc)
  one_tree (denotes_ordered e f h) (denotes_number e' f') = absurd (cc)
  one_tree (denotes_ordered e f h) (denotes_text e' f') = absurd (cc)
  one_tree (denotes_ordered e f h) (denotes_shared e' f') = absurd (cc)
  one_tree (denotes_ordered e f h) (denotes_nothing e' f') = absurd (cc)
  one_tree (denotes_ordered e f h) (denotes_some e' f' h') = absurd (cc)
  one_tree (denotes_ordered e f h) (denotes_list e' f' h') = absurd (cc)
  one_tree (denotes_ordered {vs = vs} {ps = ps} e f h) (denotes_ordered {vs = vs'} {ps = ps'} e' f' h') = let ev : vs ≡ vs' = cc in let et : ps ≡ ps' = one_pairs h (subst (λ x. DenotePairs x ps') (sym ev) h') in cc
  one_tree (denotes_ordered e f h) (denotes_hashed e' f' h') = absurd (cc)
  one_tree (denotes_ordered e f h) (denotes_kept e' f' h') = absurd (cc)
  one_tree (denotes_ordered e f h) (denotes_whole e' f' h') = absurd (cc)
  one_tree (denotes_hashed e f h) (denotes_truth e' f') = absurd (cc)
  one_tree (denotes_hashed e f h) (denotes_number e' f') = absurd (cc)
  one_tree (denotes_hashed e f h) (denotes_text e' f') = absurd (cc)
  one_tree (denotes_hashed e f h) (denotes_shared e' f') = absurd (cc)
  one_tree (denotes_hashed e f h) (denotes_nothing e' f') = absurd (cc)
  one_tree (denotes_hashed e f h) (denotes_some e' f' h') = absurd (cc)
  one_tree (denotes_hashed e f h) (denotes_list e' f' h') = absurd (cc)
  one_tree (denotes_hashed e f h) (denotes_ordered e' f' h') = absurd (cc)
  one_tree (denotes_hashed {vs = vs} {ps = ps} e f h) (denotes_hashed {vs = vs'} {ps = ps'} e' f' h') = let ev : vs ≡ vs' = cc in let et : ps ≡ ps' = one_pairs h (subst (λ x. DenotePairs x ps') (sym ev) h') in cc
  one_tree (denotes_hashed e f h) (denotes_kept e' f' h') = absurd (cc)
  one_tree (denotes_hashed e f h) (denotes_whole e' f' h') = absurd (cc)
  one_tree (denotes_kept e f h) (denotes_truth e' f') = absurd (cc)
  one_tree (denotes_kept e f h) (denotes_number e' f') = absurd (cc)
  one_tree (denotes_kept e f h) (denotes_text e' f') = absurd (cc)
  one_tree (denotes_kept e f h) (denotes_shared e' f') = absurd (cc)
  one_tree (denotes_kept e f h) (denotes_nothing e' f') = absurd (cc)
  one_tree (denotes_kept e f h) (denotes_some e' f' h') = absurd (cc)
  one_tree (denotes_kept e f h) (denotes_list e' f' h') = absurd (cc)
  one_tree (denotes_kept e f h) (denotes_ordered e' f' h') = absurd (cc)
  one_tree (denotes_kept e f h) (denotes_hashed e' f' h') = absurd (cc)
  one_tree (denotes_kept {vs = vs} {ps = ps} e f h) (denotes_kept {vs = vs'} {ps = ps'} e' f' h') = let ev : vs ≡ vs' = cc in let et : ps ≡ ps' = one_pairs h (subst (λ x. DenotePairs x ps') (sym ev) h') in cc
  one_tree (denotes_kept e f h) (denotes_whole e' f' h') = absurd (cc)
  one_tree (denotes_whole e f h) (denotes_truth e' f') = absurd (cc)
  one_tree (denotes_whole e f h) (denotes_number e' f') = absurd (cc)
  one_tree (denotes_whole e f h) (denotes_text e' f') = absurd (cc)
  one_tree (denotes_whole e f h) (denotes_shared e' f') = absurd (cc)
  one_tree (denotes_whole e f h) (denotes_nothing e' f') = absurd (cc)
  one_tree (denotes_whole e f h) (denotes_some e' f' h') = absurd (cc)
  one_tree (denotes_whole e f h) (denotes_list e' f' h') = absurd (cc)
  one_tree (denotes_whole e f h) (denotes_ordered e' f' h') = absurd (cc)
  one_tree (denotes_whole e f h) (denotes_hashed e' f' h') = absurd (cc)
  one_tree (denotes_whole e f h) (denotes_kept e' f' h') = absurd (cc)
  one_tree (denotes_whole {w = w} {u = u} e f h) (denotes_whole {w = w'} {u = u'} e' f' h') = let ew : w ≡ w' = cc in let et = one_tree h (subst (λ x. Denotes x u') (sym ew) h') in cc

  pub one_trees : {vs : Values} {ss ts : Trees} → DenoteAll vs ss → DenoteAll vs ts → ss ≡ ts
  one_trees (denote_none e f) (denote_none e' f') = cc
  one_trees (denote_none e f) (denote_more e' f' h' k') = absurd (cc)
  one_trees (denote_more e f h k) (denote_none e' f') = absurd (cc)
  one_trees (denote_more {v = v} {vs = vs} {t = t} {ts = ts} e f h k) (denote_more {v = v'} {vs = vs'} {t = t'} {ts = ts'} e' f' h' k') =
      let ev : v ≡ v' = cc in
      let es : vs ≡ vs' = cc in
      let et = one_tree h (subst (λ x. Denotes x t') (sym ev) h') in
      let eu = one_trees k (subst (λ x. DenoteAll x ts') (sym es) k') in
      cc

  pub one_pairs : {vs : Values} {ps qs : Pairs} → DenotePairs vs ps → DenotePairs vs qs → ps ≡ qs
  one_pairs (denote_no_pairs e f) (denote_no_pairs e' f') = cc
  one_pairs (denote_no_pairs e f) (denote_pair e' f' h' k') = absurd (cc)
  one_pairs (denote_pair e f h k) (denote_no_pairs e' f') = absurd (cc)
  one_pairs (denote_pair {k = l} {v = v} {vs = vs} {t = t} {ps = ps} e f h k) (denote_pair {k = l'} {v = v'} {vs = vs'} {t = t'} {ps = ps'} e' f' h' k') =
      let el : l ≡ l' = cc in
      let ev : v ≡ v' = cc in
      let es : vs ≡ vs' = cc in
      let et = one_tree h (subst (λ x. Denotes x t') (sym ev) h') in
      let eu = one_pairs k (subst (λ x. DenotePairs x ps') (sym es) k') in
      cc
