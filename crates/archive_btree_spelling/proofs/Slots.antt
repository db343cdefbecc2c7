-- What lies in the slots of a node is read as it is written.
use Rattle.std.proofs.Common.{◌≡◌, ℕ, false, ◌||◌, ◌+◌, ◌*◌, ◌≤◌, List, [], ◌∷◌, ◌++◌, refl, length, sym, ap, subst, ◌∙◌, arith, inl, inr, ⊎_elim, length-append}
use Rattle.std.specs.Prelude.{⊤}
use Rattle.archive_shape_layout.specs.Shape.{Shape, size_of}
use Rattle.archive_shape_layout.specs.Shape.Shape.{tuple}
use Rattle.archive_shape_layout.specs.Shape.Shapes.{no_shapes, more_shapes}
use Rattle.archive_shape_layout.specs.Value.Values.{no_values, more_values}
use Rattle.archive_shape_layout.specs.Content.{Names, entries, made}
use Rattle.archive_shape_layout.specs.Content.Part.{at, entry}
use Rattle.archive_shape_layout.specs.Content.Label.{whole}
use Rattle.archive_shape_layout.specs.Content.Content.{plain}
use Rattle.archive_shape_layout.specs.Holds.{OpenShared}
use Rattle.archive_shape_layout.specs.Holds.Holds.{holds_plain}
use Rattle.archive_shape_canonical.specs.Settled.{Fit, free}
use Rattle.archive_shape_canonical.proofs.Cleanness.{clean_by}
use Rattle.archive_shape.specs.Bytes.{HasBytes}
use Rattle.archive_shape.proofs.Pieces.{stands_left, stands_right}
use Rattle.archive_forms_laws.specs.State.{State, Keys, visits_of, IsConsistent, AllFrom, AreKeyedBy}
use Rattle.archive_forms_laws.specs.Spelling.{Spelling, state_after}
use Rattle.archive_forms_laws.specs.Spells.{CanonicalPart, SpellsAt, EachSpells}
use Rattle.archive_forms_laws.specs.Unshared.{holds_shared}
use Rattle.archive_forms_laws.specs.Regions.{state_after_all, values, all_suit, pieces, pieces_fit}
use Rattle.archive_shape_canonical.specs.Canonical.{AreBytes}
use Rattle.archive_shape_layout.specs.declared.error.Error.{Error}
use Rattle.archive_forms_laws.proofs.States.{from_earlier}
use Rattle.archive_forms_laws.proofs.Gaps.{bytes_none, bytes_append}
use Rattle.archive_forms_laws.proofs.Regions.{CanonicalParts, no_parts, more_parts, state_after_all_pos}
use Rattle.archive_forms_laws.proofs.Fields.{tuple2_spells_at}
use Rattle.archive_forms_laws.proofs.Unshared.{each_unshared, pair_unshared}
use Rattle.archive_btree_spelling.specs.Written.{slots, AllSlots, AnySlot, entry_spelling, key_own, value_own}

module _ {A B R Q : Type 0} (fit : Fit) (most : ℕ) (k v : Shape) (knows : Names → Type 0) (keys : Spelling A R) (vals : Spelling B Q) where
  -- the law of each key and of each value
  abbrev pub EachEntrySpells : List (A × B) → Type 0
  EachEntrySpells [] = ⊤
  EachEntrySpells (x ∷ xs) = (SpellsAt fit k knows keys x.0 × SpellsAt fit v knows vals x.1) × EachEntrySpells xs

  abbrev pub pair_shape : Shape
  pair_shape = tuple (more_shapes k (more_shapes v no_shapes))

  pub pairs_spell : (xs : List (A × B)) → EachEntrySpells xs → EachSpells fit pair_shape knows (entry_spelling most k v keys vals) xs
  pairs_spell [] each = tt
  pairs_spell (x ∷ xs) each = (tuple2_spells_at fit knows k keys v vals x each.0.0 each.0.1, pairs_spell xs each.1)

  -- they suit the fit that binds nothing where neither keys nor values hold a shared pointer
  pub entries_unshared : (xs : List (A × B)) → EachEntrySpells xs → (holds_shared k || holds_shared v) ≡ false → (given : Keys) → all_suit (entry_spelling most k v keys vals) free given xs
  entries_unshared xs each none = each_unshared fit pair_shape knows (entry_spelling most k v keys vals) xs (pairs_spell xs each) (pair_unshared k v none)

  abbrev pub KeysFit : List (A × B) → State → ℕ → Type 0
  KeysFit es st pos = AllSlots (state_after (entry_spelling most k v keys vals)) (size_of k) (λ x then here. keys.own_fits x.0 (keys.resolver x.0 then) here) es st pos

  abbrev pub ValuesFit : List (A × B) → State → ℕ → Type 0
  ValuesFit es st pos = AllSlots (state_after (entry_spelling most k v keys vals)) (size_of v) (λ x then here. vals.own_fits x.1 (vals.resolver x.1 (state_after keys x.0 then)) here) es st pos

  abbrev pub key_slots : List (A × B) → State → ℕ → List ℕ
  key_slots es st pos = slots (state_after (entry_spelling most k v keys vals)) (size_of k) (key_own most k v keys vals) es st pos

  abbrev pub value_slots : List (A × B) → State → ℕ → List ℕ
  value_slots es st pos = slots (state_after (entry_spelling most k v keys vals)) (size_of v) (value_own most k v keys vals) es st pos

  pub length-key-slots : (es : List (A × B)) (each : EachEntrySpells es) (st : State) (pos : ℕ) → KeysFit es st pos → length (key_slots es st pos) ≡ length es * size_of k
  length-key-slots [] each st pos f = omega arith
  length-key-slots (x ∷ xs) each st pos f =
      let then = state_after (entry_spelling most k v keys vals) x st in
      let own = key_own most k v keys vals x st pos in
      let first = each.0.0.sized (keys.resolver x.0 st) pos f.0 in
      let rest = length-key-slots xs each.1 then (pos + size_of k) f.1 in
      length-append own (key_slots xs then (pos + size_of k)) ∙ omega (arith, first, rest)

  pub length-value-slots : (es : List (A × B)) (each : EachEntrySpells es) (st : State) (pos : ℕ) → ValuesFit es st pos → length (value_slots es st pos) ≡ length es * size_of v
  length-value-slots [] each st pos f = omega arith
  length-value-slots (x ∷ xs) each st pos f =
      let then = state_after (entry_spelling most k v keys vals) x st in
      let own = value_own most k v keys vals x st pos in
      let first = each.0.1.sized (vals.resolver x.1 (state_after keys x.0 st)) pos f.0 in
      let rest = length-value-slots xs each.1 then (pos + size_of v) f.1 in
      length-append own (value_slots xs then (pos + size_of v)) ∙ omega (arith, first, rest)

  pub key-slots-bytes : (es : List (A × B)) (each : EachEntrySpells es) (st : State) (pos : ℕ) → KeysFit es st pos → AreBytes (key_slots es st pos)
  key-slots-bytes [] each st pos f = bytes_none
  key-slots-bytes (x ∷ xs) each st pos f =
      bytes_append (key_own most k v keys vals x st pos) _ (each.0.0.own_bytes (keys.resolver x.0 st) pos f.0) (key-slots-bytes xs each.1 (state_after (entry_spelling most k v keys vals) x st) (pos + size_of k) f.1)

  pub value-slots-bytes : (es : List (A × B)) (each : EachEntrySpells es) (st : State) (pos : ℕ) → ValuesFit es st pos → AreBytes (value_slots es st pos)
  value-slots-bytes [] each st pos f = bytes_none
  value-slots-bytes (x ∷ xs) each st pos f =
      bytes_append (value_own most k v keys vals x st pos) _ (each.0.1.own_bytes (vals.resolver x.1 (state_after keys x.0 st)) pos f.0) (value-slots-bytes xs each.1 (state_after (entry_spelling most k v keys vals) x st) (pos + size_of v) f.1)

  -- what passes no limit is not refused
  pub keys_exact : (es : List (A × B)) (each : EachEntrySpells es) (st : State) (pos : ℕ) (e : Error) → KeysFit es st pos
      → AnySlot (state_after (entry_spelling most k v keys vals)) (size_of k) (λ x then here. keys.own_refused x.0 (keys.resolver x.0 then) here e) es st pos → ⊥
  keys_exact [] each st pos e f r = r
  keys_exact (x ∷ xs) each st pos e f (inl r) = each.0.0.own_exact (keys.resolver x.0 st) pos e f.0 r
  keys_exact (x ∷ xs) each st pos e f (inr r) = keys_exact xs each.1 (state_after (entry_spelling most k v keys vals) x st) (pos + size_of k) e f.1 r

  pub values_exact : (es : List (A × B)) (each : EachEntrySpells es) (st : State) (pos : ℕ) (e : Error) → ValuesFit es st pos
      → AnySlot (state_after (entry_spelling most k v keys vals)) (size_of v) (λ x then here. vals.own_refused x.1 (vals.resolver x.1 (state_after keys x.0 then)) here e) es st pos → ⊥
  values_exact [] each st pos e f r = r
  values_exact (x ∷ xs) each st pos e f (inl r) = each.0.1.own_exact (vals.resolver x.1 (state_after keys x.0 st)) pos e f.0 r
  values_exact (x ∷ xs) each st pos e f (inr r) = values_exact xs each.1 (state_after (entry_spelling most k v keys vals) x st) (pos + size_of v) e f.1 r

  -- one entry is read as it is written
  pub entry_canonical :
      (x : A × B) (one : SpellsAt fit k knows keys x.0) (two : SpellsAt fit v knows vals x.1) (st : State) (a b : ℕ) (names : Names) (given : Keys) (bytes : List ℕ) (level : ℕ) (inside : List OpenShared)
      → knows names
      → (entry_spelling most k v keys vals).suits fit given x
      → AreKeyedBy given st.met
      → IsConsistent st
      → AllFrom (state_after (entry_spelling most k v keys vals) x st).pos inside
      → (entry_spelling most k v keys vals).piece_fits x st
      → keys.own_fits x.0 (keys.resolver x.0 st) a
      → vals.own_fits x.1 (vals.resolver x.1 (state_after keys x.0 st)) b
      → HasBytes bytes st.pos ((entry_spelling most k v keys vals).piece x st)
      → HasBytes bytes a (key_own most k v keys vals x st a)
      → HasBytes bytes b (value_own most k v keys vals x st b)
      → CanonicalPart fit names bytes level inside (visits_of st.met) (visits_of (state_after (entry_spelling most k v keys vals) x st).met) (entry k a v b) ((entry_spelling most k v keys vals).value x st) st.pos (state_after (entry_spelling most k v keys vals) x st).pos
  unfolding made
  entry_canonical x one two st a b names given bytes level inside kn n known state over f o₁ o₂ p q₁ q₂ =
      let mid = state_after keys x.0 st in
      let end = state_after vals x.1 mid in
      let behind = vals.piece x.1 mid ++ [] in
      let all = (state_after (entry_spelling most k v keys vals) x st).pos in
      let same : end.pos ≡ all = omega (arith, length-append (keys.piece x.0 st) behind, length-append (vals.piece x.1 mid) []) in
      let over_end : AllFrom end.pos inside = subst (λ z. AllFrom z inside) (sym same) over in
      let later = stands_right bytes st.pos (keys.piece x.0 st) behind mid.pos refl p in
      let first = one.canonical st a names given bytes level inside kn n.0 known state (from_earlier inside mid.pos end.pos (omega arith) over_end) f.0 o₁ (stands_left bytes st.pos (keys.piece x.0 st) behind p) q₁ in
      let second = two.canonical mid b names given bytes level inside kn n.1.0 (one.keyed given st n.0 known f.0).1 (one.consistent st state f.0) over_end f.1.0 o₂ (stands_left bytes mid.pos (vals.piece x.1 mid) [] later) q₂ in
      let parts =
      more_parts (visits_of st.met) (visits_of mid.met) (visits_of end.met) (at a k) (at b v ∷ []) (keys.value x.0 st) (more_values (vals.value x.1 mid) no_values) st.pos mid.pos end.pos (omega arith) (omega arith) first
      (more_parts (visits_of mid.met) (visits_of end.met) (visits_of end.met) (at b v) [] (vals.value x.1 mid) no_values mid.pos end.pos end.pos (omega arith) (omega arith) second (no_parts (visits_of end.met) end.pos)) in
      let P : ℕ → Type 0 = λ z. CanonicalPart fit names bytes level inside (visits_of st.met) (visits_of end.met) (entry k a v b) ((entry_spelling most k v keys vals).value x st) st.pos z in
      subst P same (record {
        regions = parts.regions;
        reads = record {
          holds = holds_plain refl tt parts.hold refl;
          canonical = (
            clean_by names bytes (entry k a v b) (plain whole (at a k ∷ (at b v ∷ []))) refl (λ i o. inr (inl (⊎_elim (λ l. inl l) (λ r. inr (inl r)) o))) tt,
            tt,
            parts.canonical,
          );
          ends = parts.ends;
        };
        ascends = parts.ascends;
        gaps = parts.gaps;
      })

  -- so are entries one after the other
  pub entries_canonical :
      (es : List (A × B)) (each : EachEntrySpells es) (st : State) (a b : ℕ) (names : Names) (given : Keys) (bytes : List ℕ) (level : ℕ) (inside : List OpenShared)
      → knows names
      → all_suit (entry_spelling most k v keys vals) fit given es
      → AreKeyedBy given st.met
      → IsConsistent st
      → AllFrom (state_after_all (entry_spelling most k v keys vals) es st).pos inside
      → pieces_fit (entry_spelling most k v keys vals) es st
      → KeysFit es st a
      → ValuesFit es st b
      → HasBytes bytes st.pos (pieces (entry_spelling most k v keys vals) es st)
      → HasBytes bytes a (key_slots es st a)
      → HasBytes bytes b (value_slots es st b)
      → CanonicalParts fit names bytes level inside (visits_of st.met) (visits_of (state_after_all (entry_spelling most k v keys vals) es st).met) (entries (length es) k a v b) (values (entry_spelling most k v keys vals) es st) st.pos (state_after_all (entry_spelling most k v keys vals) es st).pos
  unfolding entries
  entries_canonical [] each st a b names given bytes level inside kn n known state over f o₁ o₂ p q₁ q₂ = no_parts (visits_of st.met) st.pos
  entries_canonical (x ∷ xs) each st a b names given bytes level inside kn n known state over f o₁ o₂ p q₁ q₂ =
      let w = entry_spelling most k v keys vals in
      let pair = tuple2_spells_at fit knows k keys v vals x each.0.0 each.0.1 in
      let piece = w.piece x st in
      let then = state_after w x st in
      let end = (state_after_all w xs then).pos in
      let more : then.pos ≤ end = let e = state_after_all_pos fit pair_shape knows w xs then in omega arith in
      let key = key_own most k v keys vals x st a in
      let value = value_own most k v keys vals x st b in
      let key_size : a + length key ≡ a + size_of k = ap (λ z. a + z) (each.0.0.sized (keys.resolver x.0 st) a o₁.0) in
      let value_size : b + length value ≡ b + size_of v = ap (λ z. b + z) (each.0.1.sized (vals.resolver x.1 (state_after keys x.0 st)) b o₂.0) in
      let first = entry_canonical x each.0.0 each.0.1 st a b names given bytes level inside kn n.0 known state (from_earlier inside then.pos end more over) f.0 o₁.0 o₂.0
      (stands_left bytes st.pos piece (pieces w xs then) p) (stands_left bytes a key (key_slots xs then (a + size_of k)) q₁) (stands_left bytes b value (value_slots xs then (b + size_of v)) q₂) in
      let rest = entries_canonical xs each.1 then (a + size_of k) (b + size_of v) names given bytes level inside kn n.1 (pair.keyed given st n.0 known f.0).1 (pair.consistent st state f.0) over f.1 o₁.1 o₂.1
      (stands_right bytes st.pos piece (pieces w xs then) then.pos refl p)
      (stands_right bytes a key (key_slots xs then (a + size_of k)) (a + size_of k) key_size q₁)
      (stands_right bytes b value (value_slots xs then (b + size_of v)) (b + size_of v) value_size q₂) in
      more_parts (visits_of st.met) (visits_of then.met) (visits_of (state_after_all w xs then).met) (entry k a v b) (entries (length xs) k (a + size_of k) v (b + size_of v)) (w.value x st) (values w xs then) st.pos then.pos end (omega arith) more first rest
