-- A key among the pairs of a map, by its escaped form.
use Rattle.std.proofs.Common.{◌≡◌, ◌≢◌, ℕ, Bool, true, false, ◌||◌, List, [], ◌∷◌, sym, ap, ◌∙◌, refl, inl, inr, Global, String, All}
use Rattle.std.specs.Prelude.{string_bytes}
use Rattle.std.specs.Str.{bytes_eq}
use Rattle.std.proofs.lemmas.Bool.{true≢false}
use Rattle.std.proofs.lemmas.List.Elements.{All-nil, All-cons, All-head, All-tail}
use Rattle.std.proofs.lemmas.Slice.Eq.{bytes_eq-Decides}
use Rattle.cabinet_text_grammar.specs.Spelling.{escaped}
use Rattle.cabinet_text_nodes.specs.declared.node.Node.{Node}
use Rattle.cabinet_text_reading.specs.Kept.{has_escaped}
use Rattle.cabinet_text_nodes.proofs.Twice.{either}

-- no pair's key has this escaped form
abbrev pub LacksEscaped : List ℕ → List (String Global × Node) → Type 0
LacksEscaped bytes ps = All (λ p. bytes ≢ escaped (string_bytes p.0)) ps

neither : (b c : Bool) → (b || c) ≡ false → (b ≡ false) × (c ≡ false)
neither true c h = absurd (true≢false h)
neither false c h = (refl, h)

-- the escaped form of a key is one more
pub kept_key : (bytes argument : List ℕ) (before after : Bool) (ps : List (String Global × Node)) (k : String Global)
    → argument ≡ escaped (string_bytes k) → before ≡ has_escaped bytes ps → after ≡ (bytes_eq bytes argument || before) → after ≡ (bytes_eq bytes (escaped (string_bytes k)) || has_escaped bytes ps)
kept_key bytes argument before after ps k is_escaped exact added = added ∙ ap (λ b. bytes_eq bytes argument || b) exact ∙ ap (λ w. bytes_eq bytes w || has_escaped bytes ps) is_escaped

-- a form that is not found, and one that is
pub lacks_unless_found : (bytes : List ℕ) (ps : List (String Global × Node)) → has_escaped bytes ps ≡ false → LacksEscaped bytes ps
lacks_unless_found bytes [] h = All-nil (λ p. bytes ≢ escaped (string_bytes p.0))
lacks_unless_found bytes (p ∷ ps) h =
    let both = neither (bytes_eq bytes (escaped (string_bytes p.0))) (has_escaped bytes ps) h in
    All-cons (λ p. bytes ≢ escaped (string_bytes p.0)) p ps (λ e. true≢false (sym ((bytes_eq-Decides bytes (escaped (string_bytes p.0))).1 e) ∙ both.0)) (lacks_unless_found bytes ps both.1)

pub found_unless_lacks : (bytes : List ℕ) (ps : List (String Global × Node)) → has_escaped bytes ps ≡ true → LacksEscaped bytes ps → ⊥
found_unless_lacks bytes [] h lacks = true≢false (sym h)
found_unless_lacks bytes (p ∷ ps) h lacks =
    elim (either (bytes_eq bytes (escaped (string_bytes p.0))) (has_escaped bytes ps) h) [
      | inl here ↦ All-head (λ p. bytes ≢ escaped (string_bytes p.0)) p ps lacks ((bytes_eq-Decides bytes (escaped (string_bytes p.0))).0 here)
      | inr behind ↦ found_unless_lacks bytes ps behind (All-tail (λ p. bytes ≢ escaped (string_bytes p.0)) p ps lacks)
    ]
