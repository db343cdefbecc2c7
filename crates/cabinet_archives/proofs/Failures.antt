-- When a call that writes fails, by what it writes and what calls before it wrote.
use Rattle.std.proofs.Common.{◌≡◌, ◌∙◌, ℕ, List, Result, Ok, Err, subst}
use Rattle.archive_shape_layout.specs.Writing.{WriterMembers, IsCounted, Writes}
use Rattle.archive_shape_layout.specs.declared.error.Error.{Error}
use Rattle.cabinet_archives.specs.Failing.{FailsByWriter}

module _ {W : Type 0} (w : WriterMembers W) where
  pub fails_written : {A : Type 0} (from to : W) (piece : List ℕ) (result : Result A Error) → Writes w from to piece result → FailsByWriter w from to result
  fails_written from to piece (Ok x) h = h.is_quiet
  fails_written from to piece (Err e) h = (h.is_counted, h.is_last)

  -- no call before it failed
  pub fails_after : {A : Type 0} (from via to : W) (result : Result A Error) → w.failures via ≡ w.failures from → FailsByWriter w via to result → FailsByWriter w from to result
  fails_after from via to (Ok x) quiet h = h ∙ quiet
  fails_after from via to (Err e) quiet h = (subst (λ n. IsCounted w.COUNTS n (w.failures to) e) quiet h.0, h.1)
