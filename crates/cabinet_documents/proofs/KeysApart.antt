-- No two keys stand for one value of one type.
use Rattle.std.proofs.Common.{◌≡◌, ℕ, ◌+◌, ◌*◌, ◌%◌, ◌/◌, ◌==◌, cond, Bool, true, false, List, Option, Some, None, refl, sym, ap, ◌∙◌, arith, eqb-true}
use Rattle.archive_shape_layout.specs.Value.Value.{string}
use Rattle.archive_forms_laws.specs.State.{SharedValue, AreOneToOne}
use Rattle.cabinet_text_grammar.specs.TextKey.{text_of_key}
use Rattle.cabinet_text_grammar.proofs.KeyLemmas.{text_has_key_law}
use Rattle.cabinet_text_grammar.specs.Tree.{Tree}
use Rattle.cabinet_text_grammar.specs.Wholes.{numbered, IsTable}
use Rattle.cabinet_text_grammar.proofs.Tables.{number_back, legal_numbered}
use Rattle.cabinet_documents.specs.SharedKeys.{key_of_text, key_of_whole}
use Rattle.cabinet_documents.proofs.Values.{keys_of, node_if, shared_string, shared_node}
use Rattle.cabinet_documents.proofs.SpellingDenoted.{same_tree}

module _ (table : List Tree) (is : IsTable table) where
  -- what a key stands for, by its kind
  data Stands (k : ℕ) (a : SharedValue) : Type 0 where
    for_text : k ≡ key_of_text (text_of_key (k / 2)) → a ≡ shared_string (text_of_key (k / 2)) → Stands k a
    for_node : (t : Tree) → numbered table (k / 2) ≡ Some t → k ≡ key_of_whole table t → a ≡ shared_node t → Stands k a

  node_stands : (k : ℕ) (a : SharedValue) → (k % 2 ≡ 0 → ⊥) → (o : Option Tree) → numbered table (k / 2) ≡ o → node_if o ≡ Some a → Stands k a
  node_stands k a odd None there e = absurd (cc)
  node_stands k a odd (Some t) there e =
      let number = number_back table (k / 2) t is there in
      for_node t there (omega (arith, odd, number)) (cc)

  what_stands : (k : ℕ) (a : SharedValue) → keys_of table k ≡ Some a → Stands k a
  what_stands k a e = by (k % 2 == 0) refl e
    where
      by : (b : Bool) → (k % 2 == 0) ≡ b → cond b (Some (shared_string (text_of_key (k / 2)))) (node_if (numbered table (k / 2))) ≡ Some a → Stands k a
      by true even f =
          let half : k % 2 ≡ 0 = eqb-true (k % 2) 0 even in
          for_text (omega (arith, half, text_has_key_law (k / 2))) (cc)
      by false odd f =
          node_stands k a (λ z. absurd (let u : (k % 2 == 0) ≡ true = ap (λ n. n == 0) z in cc)) (numbered table (k / 2)) refl f

  same_string : {s r : List ℕ} → string s ≡ string r → s ≡ r
  same_string e = cc

  pub keys_apart : AreOneToOne (keys_of table)
  keys_apart k l a b e f same_type same = by (what_stands k a e) (what_stands l b f)
    where
      by : Stands k a → Stands l b → k ≡ l
      by (for_text x p) (for_text y q) =
          let texts : text_of_key (k / 2) ≡ text_of_key (l / 2) = same_string (sym (ap (λ (v : SharedValue). v.value) p) ∙ same ∙ ap (λ (v : SharedValue). v.value) q) in
          x ∙ ap key_of_text texts ∙ sym y
      by (for_text x p) (for_node u there y q) = absurd (let types = sym (ap (λ (v : SharedValue). v.pointee) p) ∙ same_type ∙ ap (λ (v : SharedValue). v.pointee) q in cc)
      by (for_node t there x p) (for_text y q) = absurd (let types = sym (ap (λ (v : SharedValue). v.pointee) p) ∙ same_type ∙ ap (λ (v : SharedValue). v.pointee) q in cc)
      by (for_node t here x p) (for_node u there y q) =
          let legal = legal_numbered table (k / 2) t is here in
          let other = legal_numbered table (l / 2) u is there in
          let trees = same_tree t u legal other (sym (ap (λ (v : SharedValue). v.value) p) ∙ same ∙ ap (λ (v : SharedValue). v.value) q) in
          x ∙ ap (key_of_whole table) trees ∙ sym y
