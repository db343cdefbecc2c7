-- Values after a tag are read as they are written.
use Rattle.std.proofs.Common.{◌≡◌, ℕ, zero, suc, false, Some, ◌+◌, ◌-◌, ◌≤◌, ◌<◌, List, [], ◌∷◌, ◌++◌, length, length-append, slice_index, refl, sym, ap, subst, ◌∙◌, arith, ◌⊎◌, inl, inr, ⊎_elim}
use Rattle.std.proofs.lemmas.Bool.{cases_lt}
use Rattle.std.proofs.lemmas.List.{length-replicate}
use Rattle.archive_shape_layout.specs.Bytes.{window, align_up}
use Rattle.archive_shape_layout.specs.Shape.{Shape, Shapes, size_of, align_of, aligns_of, payloads_end}
use Rattle.archive_shape_layout.specs.Shape.Shape.{choice}
use Rattle.archive_shape_layout.specs.Shape.Shapes.{no_shapes, more_shapes}
use Rattle.archive_shape_layout.specs.Value.Value.{chosen}
use Rattle.archive_shape_layout.specs.Value.Values.{no_values, more_values}
use Rattle.archive_shape_layout.specs.Content.{Names, made, shape_content, shape_tagged, option_content}
use Rattle.archive_shape_layout.specs.Content.Part.{at}
use Rattle.archive_shape_layout.specs.Content.Label.{tagged}
use Rattle.archive_shape_layout.specs.Content.Content.{plain}
use Rattle.archive_shape_layout.specs.Holds.{OpenShared}
use Rattle.archive_shape_layout.proofs.Framed.{le_align_up}
use Rattle.archive_shape_canonical.specs.Settled.{Fit}
use Rattle.archive_shape_canonical.specs.Clean.{IsIn, InParts, IsFilled, field_size}
use Rattle.archive_shape_canonical.proofs.Cleanness.{clean_by}
use Rattle.archive_shape.specs.Bytes.{HasBytes, zeros}
use Rattle.archive_shape.proofs.Pieces.{stands_left, stands_right, zero_stands}
use Rattle.archive_forms_laws.specs.State.{State, Keys, IsConsistent, AllFrom, AreKeyedBy, visits_of}
use Rattle.archive_forms_laws.specs.Spelling.{Spelling, state_after}
use Rattle.archive_forms_laws.specs.Spells.{CanonicalPart, SpellsAt}
use Rattle.archive_shape_canonical.specs.Canonical.{AreBytes}
use Rattle.archive_forms_laws.specs.Options.{tagged_bytes}
use Rattle.archive_forms_laws.specs.Payloads.{payload_spelling}
use Rattle.archive_forms_laws.proofs.Gaps.{bytes_more, bytes_append, bytes_zeros}
use Rattle.archive_forms_laws.proofs.Pointers.{one_part}
use Rattle.archive_forms_laws.specs.Unshared.{holds_shared}
use Rattle.archive_forms_laws.proofs.Unshared.{payload_unshared}

-- a tag and a payload take `size` bytes
pub length-tagged : (tag offset size : ℕ) (payload : List ℕ) → 1 ≤ offset → offset + length payload ≤ size → length (tagged_bytes tag offset size payload) ≡ size
length-tagged tag offset size payload first fits =
    let rest = zeros (size - (offset + length payload)) in
    let a : length (zeros (offset - 1)) ≡ offset - 1 = length-replicate _ _ in
    let b : length rest ≡ size - (offset + length payload) = length-replicate _ _ in
    omega (arith, length-append (zeros (offset - 1)) (payload ++ rest), length-append payload rest)

-- the payload lies at its offset
pub payload_stands : (bytes : List ℕ) (pos tag offset size : ℕ) (payload : List ℕ) → 1 ≤ offset → HasBytes bytes pos (tagged_bytes tag offset size payload) → HasBytes bytes (pos + offset) payload
payload_stands bytes pos tag offset size payload first s =
    let rest = zeros (size - (offset + length payload)) in
    let front : List ℕ = tag ∷ zeros (offset - 1) in
    let n : length (zeros (offset - 1)) ≡ offset - 1 = length-replicate _ _ in
    stands_left bytes (pos + offset) payload rest (stands_right bytes pos front (payload ++ rest) (pos + offset) (omega arith) s)

-- each byte is the tag, or one of the payload, or zero
pub tagged_covered : (bytes : List ℕ) (pos tag offset size : ℕ) (payload : List ℕ) (s : Shape) → 1 ≤ offset → length payload ≡ size_of s → offset + size_of s ≤ size
    → HasBytes bytes pos (tagged_bytes tag offset size payload)
    → (i : ℕ) → IsIn pos size i → IsIn pos 1 i ⊎ (InParts (at (pos + offset) s ∷ []) i ⊎ (slice_index bytes i ≡ 0))
tagged_covered bytes pos tag offset size payload s first long room q i o =
    let low = o.0 in
    let high = o.1 in
    let gap = zeros (offset - 1) in
    let rest = zeros (size - (offset + length payload)) in
    let n : length gap ≡ offset - 1 = length-replicate _ _ in
    let front : List ℕ = tag ∷ gap in
    let gap_stands : HasBytes bytes (pos + 1) gap = stands_left bytes (pos + 1) gap (payload ++ rest) (stands_right bytes pos (tag ∷ []) (gap ++ (payload ++ rest)) (pos + 1) refl q) in
    let behind = stands_right bytes pos front (payload ++ rest) (pos + offset) (omega arith) q in
    let rest_stands : HasBytes bytes (pos + offset + length payload) rest = stands_right bytes (pos + offset) payload rest (pos + offset + length payload) refl behind in
    ⊎_elim
    (λ l. inl (low, l))
    (λ g. ⊎_elim
    (λ l. inr (inr (zero_stands bytes (pos + 1) (offset - 1) i gap_stands g (omega arith))))
    (λ h. ⊎_elim
    (λ l. inr (inl (inl (h, l))))
    (λ k. inr (inr (zero_stands bytes (pos + offset + length payload) (size - (offset + length payload)) i rest_stands (omega arith) (omega arith))))
    (cases_lt i (pos + offset + size_of s)))
    (cases_lt i (pos + offset)))
    (cases_lt i (pos + 1))

-- they are bytes, where the tag and the payload are
pub tagged_are_bytes : (tag offset size : ℕ) (payload : List ℕ) → tag < 256 → AreBytes payload → AreBytes (tagged_bytes tag offset size payload)
tagged_are_bytes tag offset size payload small h =
    bytes_more tag (zeros (offset - 1) ++ (payload ++ zeros (size - (offset + length payload)))) small
    (bytes_append (zeros (offset - 1)) _ (bytes_zeros _) (bytes_append payload (zeros (size - (offset + length payload))) h (bytes_zeros _)))

-- ---- a value after a tag, where the layout of the whole has it there by the tag

module _ {A R : Type 0} (fit : Fit) (s whole : Shape) (knows : Names → Type 0) (w : Spelling A R) (tag offset : ℕ)
    (small : tag < 256) (first : 1 ≤ offset) (room : offset + size_of s ≤ size_of whole) (one_field : field_size whole ≡ 1)
    (content : (names : Names) (pos : ℕ) (own : List ℕ) → slice_index own 0 ≡ tag → shape_content names pos own whole ≡ plain (tagged tag) (at (pos + offset) s ∷ []))
    (filled : (bytes : List ℕ) (pos : ℕ) → IsFilled bytes (at pos whole) (plain (tagged tag) (at (pos + offset) s ∷ [])))
    (none_in : holds_shared whole ≡ false → holds_shared s ≡ false)
    (x : A) (one : SpellsAt fit s knows w x) where
  -- it takes the size of the whole
  payload_sized : (r : R) (pos : ℕ) → w.own_fits x r (pos + offset) → length ((payload_spelling tag offset (size_of whole) w).own x r pos) ≡ size_of whole
  payload_sized r pos f = let size = one.sized r (pos + offset) f in length-tagged tag offset (size_of whole) (w.own x r (pos + offset)) first (omega arith)

  -- it is read as it is written
  payload_canonical :
      (st : State) (pos : ℕ) (names : Names) (keys : Keys) (bytes : List ℕ) (level : ℕ) (inside : List OpenShared)
      → knows names
      → w.suits fit keys x
      → AreKeyedBy keys st.met
      → IsConsistent st
      → AllFrom (state_after w x st).pos inside
      → w.piece_fits x st
      → w.own_fits x (w.resolver x st) (pos + offset)
      → HasBytes bytes st.pos (w.piece x st)
      → HasBytes bytes pos ((payload_spelling tag offset (size_of whole) w).own x (w.resolver x st) pos)
      → CanonicalPart fit names bytes level inside (visits_of st.met) (visits_of (w.met x st)) (at pos whole) (chosen tag (more_values (w.value x st) no_values)) st.pos (state_after w x st).pos
  unfolding made
  payload_canonical st pos names keys bytes level inside k n known state over f o p q =
      let payload = w.own x (w.resolver x st) (pos + offset) in
      let size = payload_sized (w.resolver x st) pos o in
      let own : window bytes pos (size_of whole) ≡ tagged_bytes tag offset (size_of whole) payload = ap (window bytes pos) (sym size) ∙ q in
      let e = content names pos _ (ap (λ l. slice_index l 0) own) in
      let covered = tagged_covered bytes pos tag offset (size_of whole) payload s first (one.sized (w.resolver x st) (pos + offset) o) room q in
      one_part (at pos whole) (at (pos + offset) s) (tagged tag) _ _ st.pos _ e tt refl
      (clean_by names bytes (at pos whole) (plain (tagged tag) (at (pos + offset) s ∷ [])) e
      (λ i h. subst (λ n. IsIn pos n i ⊎ (InParts (at (pos + offset) s ∷ []) i ⊎ (slice_index bytes i ≡ 0))) (sym one_field) (covered i h))
      (filled bytes pos))
      tt
      (one.canonical st (pos + offset) names keys bytes level inside k n known state over f o p (payload_stands bytes pos tag offset (size_of whole) payload first q))

  -- the law of a value after a tag is that of the value
  pub payload_spells_at : SpellsAt fit whole knows (payload_spelling tag offset (size_of whole) w) x
  payload_spells_at = record {
    sized = payload_sized;
    canonical = payload_canonical;
    consistent = one.consistent;
    keyed = λ keys st n known f. let both = one.keyed keys st n known f in (ap (λ v. chosen tag (more_values v no_values)) both.0, both.1);
    piece_bytes = one.piece_bytes;
    own_bytes = λ r pos f. tagged_are_bytes tag offset (size_of whole) (w.own x r (pos + offset)) small (one.own_bytes r (pos + offset) f);
    piece_exact = one.piece_exact;
    own_exact = λ r pos e f k. one.own_exact r (pos + offset) e f k;
    unshared = λ none. one.unshared (none_in none);
  }

-- ---- variants of an enum

-- there is room for the payload of each tag
variant_room : (ss : Shapes) (tag : ℕ) (s : Shape) → shape_tagged tag ss ≡ Some s → align_up 1 (align_of s) + size_of s ≤ payloads_end ss
variant_room no_shapes tag s e = absurd (cc)
variant_room (more_shapes t ss) zero s e = let same : t ≡ s = cc in subst (λ z. align_up 1 (align_of z) + size_of z ≤ payloads_end (more_shapes t ss)) same (omega arith)
variant_room (more_shapes t ss) (suc tag) s e = let rest = variant_room ss tag s e in omega arith

-- the layout has the payload of the tag
variant_content : (ss : Shapes) (tag : ℕ) (s : Shape) → shape_tagged tag ss ≡ Some s
    → (names : Names) (pos : ℕ) (own : List ℕ) → slice_index own 0 ≡ tag → shape_content names pos own (choice ss) ≡ plain (tagged tag) (at (pos + align_up 1 (align_of s)) s ∷ [])
unfolding shape_content
variant_content ss tag s is names pos own e = rw e (ap (λ o. option_content o (λ q. plain (tagged tag) (at (pos + align_up 1 (align_of q)) q ∷ []))) is)

-- the law of the payload of a tag is that of the variant with it
pub variant_spells_at : {A R : Type 0} (fit : Fit) (ss : Shapes) (tag : ℕ) (s : Shape) (knows : Names → Type 0) (w : Spelling A R) → tag < 256 → shape_tagged tag ss ≡ Some s
    → (x : A) → SpellsAt fit s knows w x → SpellsAt fit (choice ss) knows (payload_spelling tag (align_up 1 (align_of s)) (size_of (choice ss)) w) x
variant_spells_at fit ss tag s knows w small is =
    let up = le_align_up (payloads_end ss) (aligns_of ss) in
    let room = variant_room ss tag s is in
    payload_spells_at fit s (choice ss) knows w tag (align_up 1 (align_of s)) small (le_align_up 1 (align_of s)) (omega arith) refl (variant_content ss tag s is) (λ bytes pos. tt) (payload_unshared ss tag s is)
