-- The texts of the trees of a table: a tree is in the table where its text is among them.
use Rattle.std.proofs.Common.{◌≡◌, ◌<◌, length, Bool, true, false, ◌||◌, List, [], ◌∷◌, sym, ap, ◌∙◌, refl, inl, inr}
use Rattle.std.specs.Prelude.{◌^◌}
use Rattle.std.specs.List.{list_any}
use Rattle.std.specs.Str.{bytes_eq}
use Rattle.std.proofs.lemmas.Slice.Eq.{bytes_eq-Decides}
use Rattle.cabinet_text_grammar.specs.Tree.{Tree, IsLegal}
use Rattle.cabinet_text_grammar.specs.Wholes.{same, has, IsNumbered, IsTable}
use Rattle.cabinet_text_grammar.specs.Spelling.{lines_of, ended}
use Rattle.cabinet_text_grammar.specs.Completing.{text_in, texts_of}
use Rattle.cabinet_text_grammar.proofs.Equal.{same_tells}
use Rattle.cabinet_text_grammar.proofs.Tables.{items_stay, has_more, numbered_still}
use Rattle.cabinet_text_grammar.proofs.Completing.{one_tree}

module _ (full : List Tree) (few : length full < 2 ^ 64) (t : Tree) (legal : IsLegal t) (known : IsNumbered full t) where
  -- a table whose trees have the same texts under the full one
  abbrev Stays : List Tree → Type 0
  Stays table = (v : Tree) → IsNumbered table v → IsNumbered full v × (text_in full v ≡ text_in table v)

  same_text : (u : Tree) → IsLegal u → IsNumbered full u → bytes_eq (text_in full u) (text_in full t) ≡ same u t
  same_text u legal_u known_u =
      elim (same_tells u t) [
        | inl is ↦ (bytes_eq-Decides (text_in full u) (text_in full t)).1 (ap (text_in full) is.1) ∙ sym is.0
        | inr differs ↦ by (bytes_eq (text_in full u) (text_in full t)) (λ h. differs.1 (one_tree full u t few legal_u legal known_u known ((bytes_eq-Decides (text_in full u) (text_in full t)).0 h))) ∙ sym differs.0
      ]
    where
      by : (b : Bool) → (b ≡ true → ⊥) → b ≡ false
      by true h = absurd (h refl)
      by false h = refl

  among : (table : List Tree) → IsTable table → Stays table → list_any (λ w. bytes_eq w (text_in full t)) (texts_of table) ≡ has table t
  among [] is stays = refl
  among (u ∷ table) is stays =
      let here = stays u (numbered_still table (u ∷ table) (has_more u table) u is.1) in
      let earlier : text_in (u ∷ table) u ≡ text_in table u = ap (λ i. ended (lines_of i)) (items_stay u table u is.2 is.1) in
      let first : bytes_eq (text_in table u) (text_in full t) ≡ same u t = ap (λ w. bytes_eq w (text_in full t)) (sym (here.1 ∙ earlier)) ∙ same_text u is.0.0 here.0 in
      let rest = among table is.3 (λ v known_v. by v known_v (stays v (numbered_still table (u ∷ table) (has_more u table) v known_v))) in
      ap (λ b. b || list_any (λ w. bytes_eq w (text_in full t)) (texts_of table)) first ∙ ap (λ b. same u t || b) rest
    where
      by : (v : Tree) → IsNumbered table v → IsNumbered full v × (text_in full v ≡ text_in (u ∷ table) v) → IsNumbered full v × (text_in full v ≡ text_in table v)
      by v known_v h = (h.0, h.1 ∙ ap (λ i. ended (lines_of i)) (items_stay u table v is.2 known_v))

pub text_among : (table : List Tree) (t : Tree) → length table < 2 ^ 64 → IsTable table → IsLegal t → IsNumbered table t → list_any (λ w. bytes_eq w (text_in table t)) (texts_of table) ≡ has table t
text_among table t few is legal known = among table few t legal known table is (λ v h. (h, refl))
