-- Which keys may follow those of an open map.
use Rattle.std.proofs.Common.{◌≡◌, ◌≢◌, ℕ, ◌-◌, true, false, List, [], ◌∷◌, length, sym, ap, ◌∙◌, refl, arith, subst, Global, String, All, Option, Some, None, inl, inr}
use Rattle.std.specs.Prelude.{string_bytes, slice_get}
use Rattle.std.specs.Cmp.Lexicographic.{slice_cmp}
use Rattle.std.specs.declared.cmp.Ordering.{Ordering}
use Rattle.std.specs.declared.cmp.Ordering.TheVariants.{Less, Equal, Greater}
use Rattle.std.specs.Ordering.{nat_cmp, is_gt, ordering_reverse}
use Rattle.std.proofs.lemmas.Bool.{true≢false, false≢true}
use Rattle.std.proofs.lemmas.Cmp.{nat_list_cmp_total}
use Rattle.std.proofs.lemmas.List.Elements.{All-nil, All-cons, All-head, All-tail}
use Rattle.cabinet_text_bytes.specs.Words.{IsEscaped}
use Rattle.cabinet_text_grammar.specs.Due.{a_key}
use Rattle.cabinet_text_grammar.specs.Item.{key_item}
use Rattle.cabinet_text_grammar.specs.Fault.{HasDueCause}
use Rattle.cabinet_text_grammar.specs.Frame.{keys_after}
use Rattle.cabinet_text_grammar.specs.Keys.{MapKind, ordered, kept, IsAboveLast, MayFollow}
use Rattle.cabinet_text_grammar.specs.Spelling.{escaped}
use Rattle.cabinet_text_grammar.specs.declared.cause.Cause.{Cause}
use Rattle.cabinet_text_grammar.proofs.Escapes.{escaped_injective}
use Rattle.cabinet_text_grammar.proofs.FirstCauses.{wrong_key, wrong_key_cause}
use Rattle.cabinet_text_nodes.specs.View.{node_pairs}
use Rattle.cabinet_text_nodes.specs.declared.node.Node.{Node}
use Rattle.cabinet_text_reading.specs.Causes.{IsFirstOf}
use Rattle.cabinet_text_reading.specs.Told.{IsKeyAfter, RefusesKey, key_line}
use Rattle.cabinet_text_reading.proofs.Causes.{first_of, memory_first}
use Rattle.cabinet_text_reading.proofs.Found.{LacksEscaped}

abbrev or_else : {X : Type 0} → X → Option X → X
or_else x None = x
or_else x (Some y) = y

-- the last pair has the last key
last_key : (keys : List (List ℕ)) (e : String Global × Node) (es : List (String Global × Node)) (p : String Global × Node) (n : ℕ) → n ≡ length es → slice_get (e ∷ es) n ≡ Some p
    → (others : List (List ℕ)) × (keys_after keys (node_pairs [] (e ∷ es)) ≡ string_bytes p.0 ∷ others)
last_key keys e [] p n counted h = (keys, ap (λ o. string_bytes (or_else e o).0 ∷ keys) (sym (ap (slice_get (e ∷ [])) counted) ∙ h))
last_key keys e (f ∷ es) p n counted h = last_key (string_bytes e.0 ∷ keys) f es p (length es) refl (sym (ap (slice_get (e ∷ f ∷ es)) counted) ∙ h)

last_of : (es : List (String Global × Node)) (p : String Global × Node) → slice_get es (length es - 1) ≡ Some p → (others : List (List ℕ)) × (keys_after [] (node_pairs [] es) ≡ string_bytes p.0 ∷ others)
last_of [] p h = absurd cc
last_of (e ∷ es) p h = last_key [] e es p (length (e ∷ es) - 1) (omega arith) h

greater : (r : Ordering) → true ≡ is_gt r → r ≡ Greater
greater Less h = absurd (true≢false h)
greater Equal h = absurd (true≢false h)
greater Greater h = refl

module _ (es : List (String Global × Node)) (last : String Global) (value : Node) (argument : List ℕ) (r : Ordering) (is_last : slice_get es (length es - 1) ≡ Some (last, value))
    (compares : (t : List ℕ) → argument ≡ escaped t → r ≡ slice_cmp nat_cmp t (string_bytes last)) where
  -- a key that is above the last, and one that is not
  pub above_last : true ≡ is_gt r → IsKeyAfter ordered es argument
  above_last gt k e =
      let others = last_of es (last, value) is_last in
      subst (λ keys. IsAboveLast keys k) (sym others.1) (nat_list_cmp_total.antisymm (string_bytes last) k ∙ ap ordering_reverse (sym (compares k e) ∙ greater r gt))

  pub not_above_last : false ≡ is_gt r → IsEscaped argument → IsKeyAfter ordered es argument → ⊥
  not_above_last not_gt is after =
      let others = last_of es (last, value) is_last in
      let below : slice_cmp nat_cmp (string_bytes last) is.0 ≡ Less = subst (λ keys. IsAboveLast keys is.0) others.1 (after is.0 is.2) in
      let above : r ≡ Greater = compares is.0 is.2 ∙ nat_list_cmp_total.antisymm is.0 (string_bytes last) ∙ ap ordering_reverse below in
      false≢true (not_gt ∙ ap is_gt above)

-- a key that no pair of a kept map has
kept_after : (keys : List (List ℕ)) (es : List (String Global × Node)) (argument k : List ℕ) → argument ≡ escaped k → All (λ before. before ≢ k) keys → LacksEscaped argument es
    → All (λ before. before ≢ k) (keys_after keys (node_pairs [] es))
kept_after keys [] argument k e all lacks = all
kept_after keys (p ∷ es) argument k e all lacks =
    let here : string_bytes p.0 ≢ k = λ same. All-head (λ p. argument ≢ escaped (string_bytes p.0)) p es lacks (e ∙ ap escaped (sym same)) in
    kept_after (string_bytes p.0 ∷ keys) es argument k e (All-cons (λ before. before ≢ k) (string_bytes p.0) keys here all) (All-tail (λ p. argument ≢ escaped (string_bytes p.0)) p es lacks)

pub after_where_lacks : (es : List (String Global × Node)) (argument : List ℕ) → LacksEscaped argument es → IsKeyAfter kept es argument
after_where_lacks es argument lacks k e = kept_after [] es argument k e (All-nil (λ before. before ≢ k)) lacks

kept_before : (keys : List (List ℕ)) (es : List (String Global × Node)) (argument k : List ℕ) → argument ≡ escaped k → All (λ before. before ≢ k) (keys_after keys (node_pairs [] es))
    → All (λ before. before ≢ k) keys × LacksEscaped argument es
kept_before keys [] argument k e all = (all, All-nil (λ p. argument ≢ escaped (string_bytes p.0)))
kept_before keys (p ∷ es) argument k e all =
    let b = kept_before (string_bytes p.0 ∷ keys) es argument k e all in
    let here : argument ≢ escaped (string_bytes p.0) = λ same. All-head (λ before. before ≢ k) (string_bytes p.0) keys b.0 (escaped_injective (string_bytes p.0) k (sym same ∙ e)) in
    (All-tail (λ before. before ≢ k) (string_bytes p.0) keys b.0, All-cons (λ p. argument ≢ escaped (string_bytes p.0)) p es here b.1)

pub not_after_where_found : (es : List (String Global × Node)) (argument : List ℕ) → IsEscaped argument → (LacksEscaped argument es → ⊥) → IsKeyAfter kept es argument → ⊥
not_after_where_found es argument is found after = found (kept_before [] es argument is.0 is.2 (after is.0 is.2)).1

-- the first cause for which a key is not added after some pairs
pub refused_first : (kind : MapKind) (es : List (String Global × Node)) (argument : List ℕ) (cause : Cause) → IsEscaped argument → RefusesKey kind (wrong_key_cause kind) es argument cause
    → IsFirstOf (HasDueCause (a_key kind (keys_after [] (node_pairs [] es))) (Some (key_line argument))) cause
refused_first kind es argument cause is (inl h) =
    let keys = keys_after [] (node_pairs [] es) in
    let wrong : MayFollow kind keys is.0 → ⊥ = λ may. h.1 (λ k e. subst (MayFollow kind keys) (escaped_injective is.0 k (sym is.2 ∙ e)) may) in
    rw (h.0, is.2) (first_of (wrong_key kind keys is.0 is.1 wrong))
refused_first kind es argument cause is (inr h) =
    let keys = keys_after [] (node_pairs [] es) in
    rw (h.0, is.2) (memory_first (a_key kind keys) (key_item is.0) (is.1, h.1 is.0 is.2) tt)
