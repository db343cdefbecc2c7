-- The law of a weak pointer, which has the bytes of an option of the counted pointer.
use Rattle.std.proofs.Common.{◌≡◌, ℕ, Bool, ◌+◌, List, [], ◌∷◌, Some, None, length, slice_index, refl, sym, ap, subst, ◌∙◌, add-zero, inr, arith}
use Rattle.std.proofs.lemmas.List.{length-replicate}
use Rattle.archive_shape_layout.specs.Bytes.{window, align_up}
use Rattle.archive_shape_layout.specs.Shape.{Pointee, size_of}
use Rattle.archive_shape_layout.specs.Shape.Shape.{shared, weak, option}
use Rattle.archive_shape_layout.specs.Shape.Pointee.{sized, slice, str}
use Rattle.archive_shape_layout.specs.Value.Value.{chosen}
use Rattle.archive_shape_layout.specs.Value.Values.{no_values}
use Rattle.archive_shape_layout.specs.Content.{Names, made, shape_content, choose}
use Rattle.archive_shape_layout.specs.Content.Part.{at}
use Rattle.archive_shape_layout.specs.Content.Label.{tagged}
use Rattle.archive_shape_layout.specs.Content.Content.{plain}
use Rattle.archive_shape_layout.specs.Holds.{OpenShared, Ascends}
use Rattle.archive_shape_layout.specs.Holds.Holds.{holds_plain}
use Rattle.archive_shape_layout.specs.Holds.HoldAll.{holds_none}
use Rattle.archive_shape_canonical.specs.Settled.{Fit}
use Rattle.archive_shape_canonical.proofs.Cleanness.{clean_by}
use Rattle.archive_shape.specs.Bytes.{HasBytes, zeros}
use Rattle.archive_shape.proofs.Pieces.{zero_stands}
use Rattle.archive_forms_laws.specs.State.{State, visits_of}
use Rattle.archive_forms_laws.specs.Spelling.{Spelling}
use Rattle.archive_forms_laws.specs.Spells.{CanonicalPart, SpellsAt, Spells}
use Rattle.archive_forms_laws.specs.Options.{option_spelling}
use Rattle.archive_forms_laws.specs.Payloads.{payload_spelling}
use Rattle.archive_forms_laws.proofs.Gaps.{no_gap}
use Rattle.archive_forms_laws.proofs.Options.{none_spells, some_spells}
use Rattle.archive_forms_laws.proofs.Payloads.{payload_spells_at}

-- it has the same number of bytes as the option
weak_size : (cyclic : Bool) (p : Pointee) → size_of (option (shared cyclic p)) ≡ size_of (weak cyclic p)
unfolding align_up
weak_size cyclic (sized s) = refl
weak_size cyclic (slice s) = refl
weak_size cyclic str = refl

zero_tag : (cyclic : Bool) (p : Pointee) → slice_index (zeros (size_of (weak cyclic p))) 0 ≡ 0
zero_tag cyclic (sized s) = refl
zero_tag cyclic (slice s) = refl
zero_tag cyclic str = refl

module _ (cyclic : Bool) (p : Pointee) where
  nothing_content : (names : Names) (pos : ℕ) (own : List ℕ) → slice_index own 0 ≡ 0 → shape_content names pos own (weak cyclic p) ≡ plain (tagged 0) []
  unfolding shape_content choose
  nothing_content names pos own e = rw e refl

  pointer_content : (names : Names) (pos : ℕ) (own : List ℕ) → slice_index own 0 ≡ 1 → shape_content names pos own (weak cyclic p) ≡ plain (tagged 1) (at (pos + 4) (shared cyclic p) ∷ [])
  unfolding shape_content choose
  pointer_content names pos own e = rw e refl

  module _ {A R : Type 0} (fit : Fit) (knows : Names → Type 0) (w : Spelling A R) where
    -- ---- to nothing

    nothing_canonical : (st : State) (pos : ℕ) (names : Names) (bytes : List ℕ) (level : ℕ) (inside : List OpenShared)
        → HasBytes bytes pos (zeros (size_of (weak cyclic p)))
        → CanonicalPart fit names bytes level inside (visits_of st.met) (visits_of st.met) (at pos (weak cyclic p)) (chosen 0 no_values) st.pos (st.pos + 0)
    unfolding made Ascends
    nothing_canonical st pos names bytes level inside q =
        let long : length (zeros (size_of (weak cyclic p))) ≡ size_of (weak cyclic p) = length-replicate _ _ in
        let e = nothing_content names pos _ (ap (λ n. slice_index (window bytes pos n) 0) (sym long) ∙ ap (λ l. slice_index l 0) q ∙ zero_tag cyclic p) in
        record {
          regions = [];
          reads = record {
            holds = holds_plain e tt (holds_none refl refl refl) refl;
            canonical = (
              clean_by names bytes (at pos (weak cyclic p)) (plain (tagged 0) []) e (λ i o. inr (inr (zero_stands bytes pos (size_of (weak cyclic p)) i q o.0 o.1))) tt,
              tt,
              tt,
            );
            ends = sym (add-zero st.pos);
          };
          ascends = tt;
          gaps = no_gap bytes [] st.pos;
        }

    nothing_spells : SpellsAt fit (weak cyclic p) knows (option_spelling (shared cyclic p) w) None
    nothing_spells =
        let as_option = none_spells fit (shared cyclic p) knows w in
        let same = weak_size cyclic p in
        record {
          sized = λ r pos f. as_option.sized r pos f ∙ same;
          canonical = λ st pos names keys bytes level inside k n known state over f o p q. nothing_canonical st pos names bytes level inside (subst (λ size. HasBytes bytes pos (zeros size)) same q);
          consistent = as_option.consistent;
          keyed = as_option.keyed;
          piece_bytes = as_option.piece_bytes;
          own_bytes = as_option.own_bytes;
          piece_exact = as_option.piece_exact;
          own_exact = as_option.own_exact;
          unshared = as_option.unshared;
        }

    -- ---- to a value

    pointer_spells : (x : A) → SpellsAt fit (shared cyclic p) knows w x → SpellsAt fit (weak cyclic p) knows (option_spelling (shared cyclic p) w) (Some x)
    unfolding align_up
    pointer_spells x one =
        let as_option = some_spells fit (shared cyclic p) knows w x one in
        let same = weak_size cyclic p in
        let behind_tag : SpellsAt fit (weak cyclic p) knows (payload_spelling 1 4 (size_of (option (shared cyclic p))) w) x =
        subst (λ size. SpellsAt fit (weak cyclic p) knows (payload_spelling 1 4 size w) x) (sym same)
        (payload_spells_at fit (shared cyclic p) (weak cyclic p) knows w 1 4 (omega arith) (omega arith) (omega arith) refl pointer_content (λ bytes pos. tt) (λ none. none) x one)
        in
        record {
          sized = λ r pos f. as_option.sized r pos f ∙ same;
          canonical = behind_tag.canonical;
          consistent = as_option.consistent;
          keyed = as_option.keyed;
          piece_bytes = as_option.piece_bytes;
          own_bytes = as_option.own_bytes;
          piece_exact = as_option.piece_exact;
          own_exact = as_option.own_exact;
          unshared = as_option.unshared;
        }

    pub weak_spells : Spells fit (shared cyclic p) knows w → Spells fit (weak cyclic p) knows (option_spelling (shared cyclic p) w)
    weak_spells spells None = nothing_spells
    weak_spells spells (Some x) = pointer_spells x (spells x)
