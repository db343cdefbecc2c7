use denote.Ref.{Bor}
use Rattle.std.specs.Prelude.{◌≡◌, ℕ, ◌++◌, [], List, codes, Option, MatchOption}
use Rattle.cabinet_text_reading.specs.Parts.{IsPath, IsSpelledStep, BeginsWithWord, BeginsByKey, PlaceFits, lent_step}
use Rattle.cabinet_text_reading.specs.declared.lines.path.StepRef.{StepRef}

-- the step that a word is the spelling of, if it is one's; the bytes of a key are not checked
abbrev pub ReadsStep : (word : List ℕ) → Option StepRef → Type 0
ReadsStep word result = MatchOption result (IsSpelledStep word → ⊥) (λ step. PlaceFits step × (word ≡ lent_step step))

-- the step that a path begins with and the bytes after it, unless the path has none
abbrev pub ReadsFirstStep : (path : List ℕ) → Option (StepRef × Bor (List ℕ)) → Type 0
ReadsFirstStep path result =
    MatchOption result (IsPath path → path ≡ []) (λ p. PlaceFits p.0 × BeginsWithWord path (lent_step p.0) p.1.now)

-- the bytes of the key that a path begins with and those after it, if it begins with a key
abbrev pub ReadsFirstKey : (path : List ℕ) → Option (Bor (List ℕ) × Bor (List ℕ)) → Type 0
ReadsFirstKey path result =
    MatchOption result (BeginsByKey path → ⊥) (λ p. BeginsWithWord path (codes "'" ++ p.0.now) p.1.now)
