-- The text at a position: the one that bytes have there, that the layout holds there, and that a walk finds there.
use Rattle.std.proofs.Common.{◌≡◌, ℕ, Bool, true, false, IsTrue, List, [], ◌∷◌, length, drop, slice_index, nat_lt, Option, Some, None, map, refl, sym, ap, ◌∙◌}
use Rattle.std.specs.Prelude.{⊤, All}
use Rattle.std.proofs.lemmas.List.Elements.{All-nil, All-cons}
use Rattle.archive_shape_layout.specs.Bytes.{window, word_at, target_from}
use Rattle.archive_shape_layout.specs.Shape.{Shape}
use Rattle.archive_shape_layout.specs.Shape.Shape.{text}
use Rattle.archive_shape_layout.specs.Shape.Pointee.{str}
use Rattle.archive_shape_layout.specs.Value.{Value, Values}
use Rattle.archive_shape_layout.specs.Value.Value.{string, group}
use Rattle.archive_shape_layout.specs.Value.Values.{no_values, more_values}
use Rattle.archive_shape_layout.specs.Content.{Names, begins_inline, before_ff, text_length, content_of, choose, following, made, pointee_content, shape_content, text_content}
use Rattle.archive_shape_layout.specs.Content.Part.{at, behind}
use Rattle.archive_shape_layout.specs.Content.Label.{written, same}
use Rattle.archive_shape_layout.specs.Content.Content.{illegal, plain, claimed}
use Rattle.archive_shape.specs.Key.{HeldAt}
use Rattle.archive_shape.proofs.Held.{claims_within}
use Rattle.archive_forms_laws.specs.Text.{own_bytes, LiesAt, HasText, IsText, IsTextThere}
use Rattle.archive_forms_laws.specs.Text.LiesAt.{inline, out_of_line}
use Rattle.archive_forms_laws.proofs.Held.{held_is_text_law}
use Rattle.archive_forms_laws.proofs.TextContent.{before_ff-take}
use Rattle.archive_forms_values.proofs.Pointed.{made_same}
use Rattle.archive_btree_layout.specs.Reading.{Place}
use Rattle.archive_btree_maps.specs.Maps.{IsEntryAt, AreEntriesAt}
use Rattle.cabinet_documents.specs.Table.{key_of, item_keys}
use Rattle.cabinet_documents.specs.Walk.{Stop, Walks}
use Rattle.cabinet_documents.proofs.Begun.{not_walked, ends, onward}
use Rattle.cabinet_documents.proofs.TreeWalks.{ItemsWalk, no_items, more_items}

-- the bytes that a pointer leads to
abbrev far_text : List ℕ → Option ℕ → ℕ → List ℕ
far_text bytes None len = []
far_text bytes (Some start) len = window bytes start len

abbrev inline_or : Bool → List ℕ → List ℕ → List ℕ
inline_or true near far = near
inline_or false near far = far

-- inline or out of line
abbrev pub text_at : List ℕ → ℕ → List ℕ
text_at bytes pos =
    let own = own_bytes bytes pos in
    inline_or (begins_inline (slice_index own 0)) (before_ff own) (far_text bytes (target_from pos (word_at own 4)) (text_length (word_at own 0)))

module _ (bytes : List ℕ) (pos : ℕ) where
  -- ---- that bytes have there

  near : (b : Bool) (n : ℕ) (far : List ℕ) → IsTrue b → n ≡ length (before_ff (own_bytes bytes pos)) → window bytes pos n ≡ inline_or b (before_ff (own_bytes bytes pos)) far
  near true n far is e = ap (window bytes pos) e ∙ sym (before_ff-take 8 (drop pos bytes))
  near false n far is e = absurd (cc)

  away : (b : Bool) (o : Option ℕ) (start n len : ℕ) (close : List ℕ) → (IsTrue b → ⊥) → n ≡ len → o ≡ Some start → window bytes start n ≡ inline_or b close (far_text bytes o len)
  away true o start n len close out e f = absurd (out refl)
  away false o start n len close out e f = ap (window bytes start) e ∙ ap (λ x. far_text bytes x len) (sym f)

  lies : (start len : ℕ) → LiesAt bytes pos start len → window bytes start len ≡ text_at bytes pos
  lies start len (inline is e) = near (begins_inline (slice_index (own_bytes bytes pos) 0)) len _ is e
  lies start len (out_of_line out e long leads) = away (begins_inline (slice_index (own_bytes bytes pos) 0)) (target_from pos (word_at (own_bytes bytes pos) 4)) start len (text_length (word_at (own_bytes bytes pos) 0)) _ out e leads

  pub text_is : (t : List ℕ) → IsText bytes pos t → t ≡ text_at bytes pos
  text_is t h = h.is ∙ lies h.there.start h.there.len h.there.stands

  -- ---- that the layout holds there

  pub text_there : (knows : Names → Type 0) (v : Value) → HeldAt text knows bytes pos v → IsTextThere bytes pos v
  text_there knows v h = held_is_text_law h.names bytes h.level h.inside pos v h.regions h.before h.after h.own_within (claims_within h) h.holds

  pub held_text : (knows : Names → Type 0) (v : Value) → HeldAt text knows bytes pos v → v ≡ string (text_at bytes pos)
  held_text knows v h = let t = text_there knows v h in t.value ∙ ap string (text_is t.text t.stands)

module _ (names : Names) (bytes : List ℕ) where
  -- ---- that a walk finds there

  written_is : (s : List ℕ) (v : Value) → made (written s) no_values ≡ Some v → v ≡ string s
  unfolding made
  written_is s v e = cc

  behind_is : {depth t len : ℕ} {v : Value} {walk : List Stop} → Walks names bytes depth (behind t str len) v walk → v ≡ string (window bytes t len)
  unfolding pointee_content
  behind_is {t = t} {len = len} {v = v} h =
      written_is (window bytes t len) v (ends names bytes (claimed (record { start = t; size = len; align = 1 }) (written (window bytes t len)) []) refl refl refl h).is_made

  text_cases : (within long : Bool) (o : Option ℕ) (s : List ℕ) (len : ℕ) {pos depth : ℕ} {v : Value} {walk : List Stop}
      → content_of names bytes (at pos text) ≡ choose within (plain (written s) []) (choose long (following o (λ t. plain same (behind t str len ∷ []))) illegal)
      → Walks names bytes depth (at pos text) v walk → v ≡ string (inline_or within s (far_text bytes o len))
  unfolding choose following
  text_cases true long o s len {v = v} e h = written_is s v (ends names bytes (plain (written s) []) refl refl e h).is_made
  text_cases false false o s len e h = absurd (not_walked names bytes e h)
  text_cases false true None s len e h = absurd (not_walked names bytes e h)
  text_cases false true (Some t) s len {v = v} e h =
      let o = onward names bytes (plain same (behind t str len ∷ [])) refl (λ run. refl) e h in
      sym (made_same o.value v o.is_made) ∙ behind_is o.next

  pub walked_text : {depth pos : ℕ} {v : Value} {walk : List Stop} → Walks names bytes depth (at pos text) v walk → v ≡ string (text_at bytes pos)
  unfolding shape_content text_content
  walked_text {pos = pos} h =
      let own = window bytes pos 8 in
      text_cases (begins_inline (slice_index own 0)) (nat_lt 8 (text_length (word_at own 0))) (target_from pos (word_at own 4)) (before_ff own) (text_length (word_at own 0)) refl h

-- ---- the keys of a map's entries

abbrev pub texts_at : List ℕ → List Place → List (List ℕ)
texts_at bytes ps = map (λ (p : Place). text_at bytes p.key) ps

pair_key : (k v : Value) (t : List ℕ) → k ≡ string t → key_of (group (more_values k (more_values v no_values))) ≡ t
pair_key k v t e = ap (λ x. key_of (group (more_values x (more_values v no_values)))) e

module _ (v : Shape) (bytes : List ℕ) where
  module _ (others : Names → Type 0) where
    pub entry_key : (p : Place) (pair : Value) → IsEntryAt text v (λ _. ⊤) others bytes p pair → key_of pair ≡ text_at bytes p.key
    entry_key p pair h = ap key_of h.is ∙ pair_key h.key h.value (text_at bytes p.key) (held_text bytes p.key (λ _. ⊤) h.key h.key_held)

    pub held_keys : (ps : List Place) (ws : Values) → AreEntriesAt text v (λ _. ⊤) others bytes ps ws → item_keys ws ≡ texts_at bytes ps
    held_keys [] no_values h = refl
    held_keys [] (more_values w ws) h = absurd h
    held_keys (p ∷ ps) no_values h = absurd h
    held_keys (p ∷ ps) (more_values w ws) h = ap (λ k. k ∷ item_keys ws) (entry_key p w h.0) ∙ ap (λ ks. text_at bytes p.key ∷ ks) (held_keys ps ws h.1)

    pub texts_there : (ps : List Place) (ws : Values) → AreEntriesAt text v (λ _. ⊤) others bytes ps ws → All (λ (p : Place). HasText bytes p.key) ps
    texts_there [] no_values h = All-nil (λ (p : Place). HasText bytes p.key)
    texts_there [] (more_values w ws) h = absurd h
    texts_there (p ∷ ps) no_values h = absurd h
    texts_there (p ∷ ps) (more_values w ws) h = All-cons (λ (p : Place). HasText bytes p.key) p ps (text_there bytes p.key (λ _. ⊤) h.0.key h.0.key_held).stands.there (texts_there ps ws h.1)

  pub walked_keys : {names : Names} {depth : ℕ} {ps : List Place} {ws : Values} {runs : List (List Stop)} → ItemsWalk names bytes text v depth ps ws runs → item_keys ws ≡ texts_at bytes ps
  walked_keys (no_items e f g) = ap item_keys f ∙ sym (ap (texts_at bytes) e)
  walked_keys {names = names} (more_items {p = p} {ps = ps} {x = x} {y = y} {vs = vs} e f g k n rest) =
      ap item_keys f
      ∙ (ap (λ t. t ∷ item_keys vs) (pair_key x y (text_at bytes p.key) (walked_text names bytes k))
      ∙ ap (λ ks. text_at bytes p.key ∷ ks) (walked_keys rest))
      ∙ sym (ap (texts_at bytes) e)
