-- The document that a node's value denotes.
use Rattle.std.specs.Prelude.{◌≡◌, ℕ, ℤ, Bool, List}
use Rattle.archive_shape_layout.specs.Value.{Value, Values}
use Rattle.archive_shape_layout.specs.Value.Value.{integer, boolean, string, group, chosen, counted}
use Rattle.archive_shape_layout.specs.Value.Values.{no_values, more_values}
use Rattle.cabinet_text_grammar.specs.Tree.{truth, number, text}
use Rattle.cabinet_text_grammar.specs.Keys.{ordered, hashed, kept}
use Rattle.cabinet_text_grammar.specs.Tree.{Tree, leaf, shared, nothing, just, list, Trees, no_trees, more_trees, Pairs, no_pairs, more_pairs, map, whole}
use Rattle.cabinet_documents.specs.Order.{arranged}

-- a tag and the value of its payload
abbrev pub tagged_value : ℕ → Value → Value
tagged_value tag v = chosen tag (more_values v no_values)

-- a key and its value
abbrev pub pair_value : List ℕ → Value → Value
pair_value k v = group (more_values (string k) (more_values v no_values))

mutual
  -- by the ten tags; the positions of shared texts and of wholes are left out, and a hashed map's pairs are put in the
  -- order of their keys
  pub data Denotes : Value → Tree → Type 0 where
    denotes_truth : {v : Value} {t : Tree} {b : Bool} → v ≡ tagged_value 0 (boolean b) → t ≡ leaf (truth b) → Denotes v t
    denotes_number : {v : Value} {t : Tree} {n : ℤ} → v ≡ tagged_value 1 (integer n) → t ≡ leaf (number n) → Denotes v t
    denotes_text : {v : Value} {t : Tree} {s : List ℕ} → v ≡ tagged_value 2 (string s) → t ≡ leaf (text s) → Denotes v t
    denotes_shared : {v : Value} {t : Tree} {at : ℕ} {s : List ℕ} → v ≡ tagged_value 3 (counted at (string s)) → t ≡ shared s → Denotes v t
    denotes_nothing : {v : Value} {t : Tree} → v ≡ tagged_value 4 (chosen 0 no_values) → t ≡ nothing → Denotes v t
    denotes_some : {v w : Value} {t u : Tree} → v ≡ tagged_value 4 (tagged_value 1 w) → t ≡ just u → Denotes w u → Denotes v t
    denotes_list : {v : Value} {t : Tree} {vs : Values} {ts : Trees} → v ≡ tagged_value 5 (group vs) → t ≡ list ts → DenoteAll vs ts → Denotes v t
    denotes_ordered : {v : Value} {t : Tree} {vs : Values} {ps : Pairs} → v ≡ tagged_value 6 (group vs) → t ≡ map ordered ps → DenotePairs vs ps → Denotes v t
    denotes_hashed : {v : Value} {t : Tree} {vs : Values} {ps : Pairs} → v ≡ tagged_value 7 (group vs) → t ≡ map hashed (arranged ps) → DenotePairs vs ps → Denotes v t
    denotes_kept : {v : Value} {t : Tree} {vs : Values} {ps : Pairs} → v ≡ tagged_value 8 (group vs) → t ≡ map kept ps → DenotePairs vs ps → Denotes v t
    denotes_whole : {v w : Value} {t u : Tree} {at : ℕ} → v ≡ tagged_value 9 (counted at w) → t ≡ whole u → Denotes w u → Denotes v t

  pub data DenoteAll : Values → Trees → Type 0 where
    denote_none : {vs : Values} {ts : Trees} → vs ≡ no_values → ts ≡ no_trees → DenoteAll vs ts
    denote_more :
        {v : Value} {vs ws : Values} {t : Tree} {ts us : Trees}
        → ws ≡ more_values v vs
        → us ≡ more_trees t ts
        → Denotes v t
        → DenoteAll vs ts
        → DenoteAll ws us

  pub data DenotePairs : Values → Pairs → Type 0 where
    denote_no_pairs : {vs : Values} {ps : Pairs} → vs ≡ no_values → ps ≡ no_pairs → DenotePairs vs ps
    denote_pair :
        {k : List ℕ} {v : Value} {vs ws : Values} {t : Tree} {ps qs : Pairs}
        → ws ≡ more_values (pair_value k v) vs
        → qs ≡ more_pairs k t ps
        → Denotes v t
        → DenotePairs vs ps
        → DenotePairs ws qs
