-- A text that is kept at a position is the only one whose progress changes.
use Rattle.std.proofs.Common.{◌≡◌, ℕ, true, false, cond, List, Some, sym, ap, ◌∙◌, Global, String}
use Rattle.std.specs.Prelude.{string_bytes}
use Rattle.std.specs.String.{string_cmp}
use Rattle.std.specs.Str.{bytes_eq}
use Rattle.std.specs.BTreeMap.{BTreeMap, Updates, get_by_text}
use Rattle.std.proofs.lemmas.Bool.{false_from_ne_true}
use Rattle.std.proofs.lemmas.Map.Text.{btree_map_updates_text}
use Rattle.std.proofs.lemmas.Slice.Eq.{bytes_eq-Decides}
use Rattle.archive_shape_layout.specs.Progress.{Progress, IsSet}
use Rattle.archive_shape_layout.specs.Progress.Progress.{ended}
use Rattle.cabinet_text_grammar.specs.TextKey.{text_key, text_of_key}
use Rattle.cabinet_text_grammar.proofs.KeyLemmas.{key_has_text_law, text_has_key_law}
use Rattle.cabinet_archived.specs.Sharing.{progress_at}

module _ (old : BTreeMap (String Global) ℕ) where
  abbrev known : BTreeMap (String Global) ℕ → ℕ → Progress ℕ
  known ends key = progress_at (get_by_text ends (text_of_key key))

  pub text_kept :
      (new : BTreeMap (String Global) ℕ) (copy : String Global) (pos : ℕ) (text : List ℕ) → string_bytes copy ≡ text
      → Updates string_cmp old new copy (Some pos)
      → IsSet (known old) (known new) (text_key text) (ended pos)
  text_kept new copy pos text same updates =
      let sets = btree_map_updates_text (string_bytes copy) old new (Some pos) updates in
      let to = string_bytes copy in
      let here_by : (key : ℕ) → text_of_key key ≡ text → bytes_eq to (text_of_key key) ≡ true = λ key is. (bytes_eq-Decides to (text_of_key key)).1 (same ∙ sym is) in
      let elsewhere_by : (key : ℕ) → (key ≡ text_key text → ⊥) → bytes_eq to (text_of_key key) ≡ false =
      λ key differs. false_from_ne_true (bytes_eq to (text_of_key key)) (λ e. differs (sym (text_has_key_law key) ∙ ap text_key (sym ((bytes_eq-Decides to (text_of_key key)).0 e) ∙ same)))
      in
      record {
        here = ap progress_at (sets (text_of_key (text_key text)) ∙ ap (λ b. cond b (Some pos) (get_by_text old (text_of_key (text_key text)))) (here_by (text_key text) (key_has_text_law text)));
        elsewhere = λ other differs. ap progress_at (sets (text_of_key other) ∙ ap (λ b. cond b (Some pos) (get_by_text old (text_of_key other))) (elsewhere_by other differs));
      }
