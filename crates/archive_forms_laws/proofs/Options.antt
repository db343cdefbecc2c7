-- Options are read as they are written.
use Rattle.std.proofs.Common.{◌≡◌, ℕ, zero, suc, ◌+◌, ◌≤◌, List, [], ◌∷◌, refl, length, sym, ap, ◌∙◌, arith, add-zero, Option, Some, None, slice_index, inr}
use Rattle.std.proofs.lemmas.List.{length-replicate}
use Rattle.archive_shape_layout.specs.Bytes.{window}
use Rattle.archive_shape_layout.specs.Shape.{Shape, size_of, align_of}
use Rattle.archive_shape_layout.specs.Shape.Shape.{option}
use Rattle.archive_shape_layout.specs.Value.Value.{chosen}
use Rattle.archive_shape_layout.specs.Value.Values.{no_values}
use Rattle.archive_shape_layout.specs.Content.{Names, made, shape_content, choose}
use Rattle.archive_shape_layout.specs.Content.Part.{at}
use Rattle.archive_shape_layout.specs.Content.Label.{tagged}
use Rattle.archive_shape_layout.specs.Content.Content.{plain}
use Rattle.archive_shape_layout.specs.Holds.{OpenShared, Ascends}
use Rattle.archive_shape_layout.specs.Holds.Holds.{holds_plain}
use Rattle.archive_shape_layout.specs.Holds.HoldAll.{holds_none}
use Rattle.archive_shape_layout.proofs.Framed.{le_align_up}
use Rattle.archive_shape_canonical.specs.Settled.{Fit}
use Rattle.archive_shape_canonical.proofs.Cleanness.{clean_by}
use Rattle.archive_shape.specs.Bytes.{HasBytes, zeros}
use Rattle.archive_shape.proofs.Pieces.{zero_stands}
use Rattle.archive_shape_layout.specs.declared.error.Error.{Error}
use Rattle.archive_forms_laws.specs.State.{State, visits_of}
use Rattle.archive_forms_laws.specs.Spelling.{Spelling}
use Rattle.archive_forms_laws.specs.Spells.{CanonicalPart, SpellsAt, Spells}
use Rattle.archive_shape_canonical.specs.Canonical.{AreBytes}
use Rattle.archive_forms_laws.specs.Options.{payload_at, option_own, option_own_fits, option_own_refused, option_spelling}
use Rattle.archive_forms_laws.specs.Payloads.{payload_spelling}
use Rattle.archive_forms_laws.proofs.States.{consistent_advanced}
use Rattle.archive_forms_laws.proofs.Gaps.{no_gap, bytes_none, bytes_zeros}
use Rattle.archive_forms_laws.proofs.Payloads.{payload_spells_at}

pub first_zero : (n : ℕ) → slice_index (zeros n) 0 ≡ 0
first_zero zero = refl
first_zero (suc n) = refl

pub option_room : (s : Shape) (n : ℕ) → n ≡ size_of s → payload_at s + n ≤ size_of (option s)
option_room s n e = let h = le_align_up (payload_at s + size_of s) (align_of s) in omega arith

module _ {A R : Type 0} (fit : Fit) (s : Shape) (knows : Names → Type 0) (w : Spelling A R) where
  tag_first : 1 ≤ payload_at s
  tag_first = le_align_up 1 (align_of s)

  none_content : (names : Names) (pos : ℕ) (own : List ℕ) → slice_index own 0 ≡ 0 → shape_content names pos own (option s) ≡ plain (tagged 0) []
  unfolding shape_content choose
  none_content names pos own e = rw e refl

  some_content : (names : Names) (pos : ℕ) (own : List ℕ) → slice_index own 0 ≡ 1 → shape_content names pos own (option s) ≡ plain (tagged 1) (at (pos + payload_at s) s ∷ [])
  unfolding shape_content choose
  some_content names pos own e = rw e refl

  -- ---- without a value

  none_sized : (r : Option R) (pos : ℕ) → option_own_fits s w None r pos → length (option_own s w None r pos) ≡ size_of (option s)
  none_sized None pos f = length-replicate _ _
  none_sized (Some r) pos f = length-replicate _ _

  none_canonical : (st : State) (pos : ℕ) (names : Names) (bytes : List ℕ) (level : ℕ) (inside : List OpenShared)
      → HasBytes bytes pos (zeros (size_of (option s)))
      → CanonicalPart fit names bytes level inside (visits_of st.met) (visits_of st.met) (at pos (option s)) (chosen 0 no_values) st.pos (st.pos + 0)
  unfolding made Ascends
  none_canonical st pos names bytes level inside q =
      let own : window bytes pos (size_of (option s)) ≡ zeros (size_of (option s)) = ap (window bytes pos) (sym (length-replicate (size_of (option s)) 0)) ∙ q in
      let tag : slice_index (window bytes pos (size_of (option s))) 0 ≡ 0 = ap (λ l. slice_index l 0) own ∙ first_zero (size_of (option s)) in
      let e = none_content names pos _ tag in
      record {
        regions = [];
        reads = record {
          holds = holds_plain e tt (holds_none refl refl refl) refl;
          canonical = (
            clean_by names bytes (at pos (option s)) (plain (tagged 0) []) e (λ i o. inr (inr (zero_stands bytes pos (size_of (option s)) i q o.0 o.1))) tt,
            tt,
            tt,
          );
          ends = sym (add-zero st.pos);
        };
        ascends = tt;
        gaps = no_gap bytes [] st.pos;
      }

  none_bytes : (r : Option R) (pos : ℕ) → option_own_fits s w None r pos → AreBytes (option_own s w None r pos)
  none_bytes None pos f = bytes_zeros _
  none_bytes (Some r) pos f = bytes_zeros _

  none_exact : (r : Option R) (pos : ℕ) (e : Error) → option_own_fits s w None r pos → option_own_refused s w None r pos e → ⊥
  none_exact None pos e f k = k
  none_exact (Some r) pos e f k = k

  pub none_spells : SpellsAt fit (option s) knows (option_spelling s w) None
  none_spells = record {
    sized = none_sized;
    canonical = λ st pos names keys bytes level inside k n known state over f o p q. none_canonical st pos names bytes level inside q;
    consistent = λ st h f. consistent_advanced st 0 h;
    keyed = λ keys st n known f. (refl, known);
    piece_bytes = λ st f. bytes_none;
    own_bytes = none_bytes;
    piece_exact = λ st e f r. r;
    own_exact = none_exact;
    unshared = λ none keys. tt;
  }

  -- ---- with a value

  module _ (x : A) (one : SpellsAt fit s knows w x) where
    some_payload : SpellsAt fit (option s) knows (payload_spelling 1 (payload_at s) (size_of (option s)) w) x
    some_payload = payload_spells_at fit s (option s) knows w 1 (payload_at s) (omega arith) tag_first (option_room s (size_of s) refl) refl some_content (λ bytes pos. tt) (λ none. none) x one

    some_sized : (r : Option R) (pos : ℕ) → option_own_fits s w (Some x) r pos → length (option_own s w (Some x) r pos) ≡ size_of (option s)
    some_sized (Some r) pos f = some_payload.sized r pos f
    some_sized None pos f = length-replicate _ _

    some_bytes : (r : Option R) (pos : ℕ) → option_own_fits s w (Some x) r pos → AreBytes (option_own s w (Some x) r pos)
    some_bytes (Some r) pos f = some_payload.own_bytes r pos f
    some_bytes None pos f = bytes_zeros _

    some_exact : (r : Option R) (pos : ℕ) (e : Error) → option_own_fits s w (Some x) r pos → option_own_refused s w (Some x) r pos e → ⊥
    some_exact (Some r) pos e f k = some_payload.own_exact r pos e f k
    some_exact None pos e f k = k

    -- the law of a value is that of the option with it
    pub some_spells : SpellsAt fit (option s) knows (option_spelling s w) (Some x)
    some_spells = record {
      sized = some_sized;
      canonical = some_payload.canonical;
      consistent = some_payload.consistent;
      keyed = some_payload.keyed;
      piece_bytes = some_payload.piece_bytes;
      own_bytes = some_bytes;
      piece_exact = some_payload.piece_exact;
      own_exact = some_exact;
      unshared = some_payload.unshared;
    }

  pub option_spells : Spells fit s knows w → Spells fit (option s) knows (option_spelling s w)
  option_spells spells None = none_spells
  option_spells spells (Some x) = some_spells x (spells x)
