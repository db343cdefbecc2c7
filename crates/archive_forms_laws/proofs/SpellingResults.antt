-- Results are read as they are written.
use Rattle.std.proofs.Common.{◌≡◌, ℕ, ◌+◌, ◌≤◌, max, List, [], ◌∷◌, length, slice_index, refl, arith, Ok, Err}
use Rattle.std.specs.Prelude.{Result}
use Rattle.std.proofs.lemmas.Bool.{or_parts}
use Rattle.std.proofs.lemmas.List.{length-replicate}
use Rattle.archive_shape_layout.specs.Shape.{Shape, size_of, align_of}
use Rattle.archive_shape_layout.specs.Shape.Shape.{result}
use Rattle.archive_shape_layout.specs.Content.{Names, shape_content, choose}
use Rattle.archive_shape_layout.specs.Content.Part.{at}
use Rattle.archive_shape_layout.specs.Content.Label.{tagged}
use Rattle.archive_shape_layout.specs.Content.Content.{plain}
use Rattle.archive_shape_layout.proofs.Framed.{le_align_up}
use Rattle.archive_shape_canonical.specs.Settled.{Fit}
use Rattle.archive_shape_layout.specs.declared.error.Error.{Error}
use Rattle.archive_forms_laws.specs.Spelling.{Spelling}
use Rattle.archive_forms_laws.specs.Spells.{SpellsAt, Spells}
use Rattle.archive_forms_laws.specs.Unshared.{holds_shared}
use Rattle.archive_shape_canonical.specs.Canonical.{AreBytes}
use Rattle.archive_forms_laws.specs.Results.{result_payload_at, ok_spelling, err_spelling, result_own, result_own_fits, result_own_refused, result_spelling}
use Rattle.archive_forms_laws.proofs.Gaps.{bytes_zeros}
use Rattle.archive_forms_laws.proofs.Payloads.{payload_spells_at}

-- a payload begins after the tag, and there is room for the longer of both
pub result_payload_first : (s t : Shape) → 1 ≤ result_payload_at s t
result_payload_first s t = le_align_up 1 (max (align_of s) (align_of t))

pub result_room : (s t : Shape) → result_payload_at s t + max (size_of s) (size_of t) ≤ size_of (result s t)
result_room s t = le_align_up (result_payload_at s t + max (size_of s) (size_of t)) (max (align_of s) (align_of t))

module _ {A B R Q : Type 0} (fit : Fit) (s t : Shape) (knows : Names → Type 0) (w : Spelling A R) (u : Spelling B Q) where
  -- what the layout has by the tag
  ok_content : (names : Names) (pos : ℕ) (own : List ℕ) → slice_index own 0 ≡ 0 → shape_content names pos own (result s t) ≡ plain (tagged 0) (at (pos + result_payload_at s t) s ∷ [])
  unfolding shape_content choose
  ok_content names pos own e = rw e refl

  err_content : (names : Names) (pos : ℕ) (own : List ℕ) → slice_index own 0 ≡ 1 → shape_content names pos own (result s t) ≡ plain (tagged 1) (at (pos + result_payload_at s t) t ∷ [])
  unfolding shape_content choose
  err_content names pos own e = rw e refl

  -- what follows speaks of resolvers of both kinds: beside one of the other kind there are zeros
  module _ (x : A) (one : SpellsAt fit s knows w x) where
    ok_payload : SpellsAt fit (result s t) knows (ok_spelling s t w u) x
    ok_payload = let room = result_room s t in payload_spells_at fit s (result s t) knows w 0 (result_payload_at s t) (omega arith) (result_payload_first s t) (omega arith) refl ok_content (λ bytes pos. tt) (λ none. (or_parts (holds_shared s) (holds_shared t) none).0) x one

    ok_sized : (r : Result R Q) (pos : ℕ) → result_own_fits s t w u (Ok x) r pos → length (result_own s t w u (Ok x) r pos) ≡ size_of (result s t)
    ok_sized (Ok r) pos f = ok_payload.sized r pos f
    ok_sized (Err r) pos f = length-replicate _ _

    ok_bytes : (r : Result R Q) (pos : ℕ) → result_own_fits s t w u (Ok x) r pos → AreBytes (result_own s t w u (Ok x) r pos)
    ok_bytes (Ok r) pos f = ok_payload.own_bytes r pos f
    ok_bytes (Err r) pos f = bytes_zeros _

    ok_exact : (r : Result R Q) (pos : ℕ) (e : Error) → result_own_fits s t w u (Ok x) r pos → result_own_refused s t w u (Ok x) r pos e → ⊥
    ok_exact (Ok r) pos e f k = ok_payload.own_exact r pos e f k
    ok_exact (Err r) pos e f k = k

    -- the law of a value is that of the result with it
    pub ok_spells_at : SpellsAt fit (result s t) knows (result_spelling s t w u) (Ok x)
    ok_spells_at = record {
      sized = ok_sized;
      canonical = ok_payload.canonical;
      consistent = ok_payload.consistent;
      keyed = ok_payload.keyed;
      piece_bytes = ok_payload.piece_bytes;
      own_bytes = ok_bytes;
      piece_exact = ok_payload.piece_exact;
      own_exact = ok_exact;
      unshared = ok_payload.unshared;
    }

  module _ (y : B) (one : SpellsAt fit t knows u y) where
    err_payload : SpellsAt fit (result s t) knows (err_spelling s t w u) y
    err_payload = let room = result_room s t in payload_spells_at fit t (result s t) knows u 1 (result_payload_at s t) (omega arith) (result_payload_first s t) (omega arith) refl err_content (λ bytes pos. tt) (λ none. (or_parts (holds_shared s) (holds_shared t) none).1) y one

    err_sized : (r : Result R Q) (pos : ℕ) → result_own_fits s t w u (Err y) r pos → length (result_own s t w u (Err y) r pos) ≡ size_of (result s t)
    err_sized (Ok r) pos f = length-replicate _ _
    err_sized (Err r) pos f = err_payload.sized r pos f

    err_bytes : (r : Result R Q) (pos : ℕ) → result_own_fits s t w u (Err y) r pos → AreBytes (result_own s t w u (Err y) r pos)
    err_bytes (Ok r) pos f = bytes_zeros _
    err_bytes (Err r) pos f = err_payload.own_bytes r pos f

    err_exact : (r : Result R Q) (pos : ℕ) (e : Error) → result_own_fits s t w u (Err y) r pos → result_own_refused s t w u (Err y) r pos e → ⊥
    err_exact (Ok r) pos e f k = k
    err_exact (Err r) pos e f k = err_payload.own_exact r pos e f k

    -- the law of an error is that of the result with it
    pub err_spells_at : SpellsAt fit (result s t) knows (result_spelling s t w u) (Err y)
    err_spells_at = record {
      sized = err_sized;
      canonical = err_payload.canonical;
      consistent = err_payload.consistent;
      keyed = err_payload.keyed;
      piece_bytes = err_payload.piece_bytes;
      own_bytes = err_bytes;
      piece_exact = err_payload.piece_exact;
      own_exact = err_exact;
      unshared = err_payload.unshared;
    }

  pub result_spells : Spells fit s knows w → Spells fit t knows u → Spells fit (result s t) knows (result_spelling s t w u)
  result_spells f g (Ok x) = ok_spells_at x (f x)
  result_spells f g (Err y) = err_spells_at y (g y)
