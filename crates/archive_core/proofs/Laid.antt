-- What a serializer writes, its writer has.
use Rattle.std.proofs.Common.{◌≡◌, ℕ, Ok, Err, inl, inr, ⊎_elim, refl, subst}
use Rattle.std.specs.Prelude.{Result, MatchResult, ◌⊎◌}
use Rattle.archive_shape_layout.specs.Shape.{Shape}
use Rattle.archive_shape_layout.specs.Progress.{Progress}
use Rattle.archive_shape_layout.specs.Progress.Progress.{unmet}
use Rattle.archive_shape_layout.specs.Writing.{WriterMembers, Written, Failed}
use Rattle.archive_shape_layout.specs.declared.error.Error.{Error}
use Rattle.archive_forms_laws.specs.Spelling.{Spelling}
use Rattle.archive_forms_laws.specs.Pointers.{box_spelling}
use Rattle.archive_forms_laws.specs.Serializing.{Stopped, IsAt, Serializes}
use Rattle.archive_core.specs.Written.{from_position, root_piece, root_fits, root_refused}

module _ {S W : Type 0} (out : S → W) (m : WriterMembers W) (known : S → ℕ → Progress ℕ) where
  -- the members of a serializer over a writer
  abbrev pub over : WriterMembers S
  over = record { known = known; pos = λ s. m.pos (out s); OBSERVABLE = m.OBSERVABLE; COUNTS = m.COUNTS; contents = λ s. m.contents (out s); failures = λ s. m.failures (out s); last_error = λ s. m.last_error (out s) }

-- a serializer that shares nothing is at the position of its writer
pub stands_at : {S : Type 0} (pos : S → ℕ) (known : S → ℕ → Progress ℕ) (serializer : S) → ((key : ℕ) → known serializer key ≡ unmet) → IsAt pos known serializer (from_position (pos serializer))
stands_at pos known serializer none = record { stands = refl; knows = λ key. none key }

-- what a serializer writes as a root, its writer has
pub archived_in : {S W A R : Type 0} (out : S → W) (m : WriterMembers W) (known : S → ℕ → Progress ℕ) (s : Shape) (w : Spelling A R) (x : A) (old new : S) (writer : W)
    → out old ≡ writer
    → ((key : ℕ) → known old key ≡ unmet)
    → (result : Result ℕ Error)
    → Serializes (box_spelling s w) (over out m known) x old new result
    → MatchResult result
    (λ _. Written m.OBSERVABLE m.COUNTS m.contents m.pos m.failures m.last_error (λ _ _. unmet) writer (out new) (root_piece s w x (m.pos writer)) × root_fits s w x (m.pos writer))
    (λ e. Failed m.OBSERVABLE m.COUNTS m.contents m.pos m.failures m.last_error (λ _ _. unmet) writer (out new) (root_piece s w x (m.pos writer)) e
    ⊎ Stopped m.OBSERVABLE m.contents m.failures writer (out new) (root_piece s w x (m.pos writer)) (root_refused s w x (m.pos writer)) e)
archived_in {S} {W} out m known s w x old new writer is none (Ok b) h =
    let l = h (from_position (m.pos (out old))) (stands_at (λ (t : S). m.pos (out t)) known old none) in
    let wrote = l.0 in
    let P : W → Type 0 = λ v. Written m.OBSERVABLE m.COUNTS m.contents m.pos m.failures m.last_error (λ _ _. unmet) v (out new) (root_piece s w x (m.pos v)) × root_fits s w x (m.pos v) in
    subst P is (record { gains = wrote.gains; moves = wrote.moves; is_quiet = wrote.is_quiet; keeps = λ key. refl }, l.1.1)
archived_in {S} {W} out m known s w x old new writer is none (Err e) h =
    let P : W → Type 0 = λ v. Failed m.OBSERVABLE m.COUNTS m.contents m.pos m.failures m.last_error (λ _ _. unmet) v (out new) (root_piece s w x (m.pos v)) e ⊎ Stopped m.OBSERVABLE m.contents m.failures v (out new) (root_piece s w x (m.pos v)) (root_refused s w x (m.pos v)) e in
    subst P is
    (⊎_elim
    (λ f. inl (record { is_cut = f.is_cut; is_short = f.is_short; is_counted = f.is_counted; is_last = f.is_last; keeps = λ key. refl }))
    (λ q. inr (record { is_cut = q.is_cut; is_quiet = q.is_quiet; reason = q.reason }))
    (h (from_position (m.pos (out old))) (stands_at (λ (t : S). m.pos (out t)) known old none)))
