-- The number of failures of the reader and the writer of a run.
use Rattle.std.specs.Prelude.{◌≡◌, ℕ, ◌+◌, Bool, MatchBool}
use Rattle.cabinet_text.specs.declared.session.RunCause.{RunCause}
use Rattle.cabinet_text.specs.declared.session.RunCause.TheVariants.{Read, Write, OutOfMemory, LineTooLong, InputTooLong}

-- the reader failed once if that is the cause, and otherwise never
abbrev pub ReaderFails : RunCause → ℕ → ℕ → Type 0
ReaderFails Read before after = after ≡ before + 1
ReaderFails Write before after = after ≡ before
ReaderFails OutOfMemory before after = after ≡ before
ReaderFails LineTooLong before after = after ≡ before
ReaderFails InputTooLong before after = after ≡ before

-- the writer failed once if that is the cause and it counts its failures, and otherwise never
abbrev pub WriterFails : Bool → RunCause → ℕ → ℕ → Type 0
WriterFails counts Write before after = MatchBool counts (after ≡ before + 1) (after ≡ before)
WriterFails counts Read before after = after ≡ before
WriterFails counts OutOfMemory before after = after ≡ before
WriterFails counts LineTooLong before after = after ≡ before
WriterFails counts InputTooLong before after = after ≡ before
