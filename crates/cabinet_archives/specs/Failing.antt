-- When a call that writes fails.
use Rattle.std.specs.Prelude.{◌≡◌, Result, MatchResult}
use Rattle.archive_shape_layout.specs.declared.error.Error.{Error}
use Rattle.archive_shape_layout.specs.Writing.{WriterMembers, IsCounted}

-- exactly when its writer does, with the writer's error
abbrev pub FailsByWriter : {W A : Type 0} → WriterMembers W
    → W → W → Result A Error → Type 0
FailsByWriter w old new result =
    MatchResult result (λ _. w.failures new ≡ w.failures old)
    (λ e. IsCounted w.COUNTS (w.failures old) (w.failures new) e × (w.last_error new ≡ e))
