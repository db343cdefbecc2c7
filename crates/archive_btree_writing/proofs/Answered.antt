-- Errors that a call passes on.
use Rattle.std.proofs.Common.{◌≡◌, Err, subst, sym}
use Rattle.std.specs.Prelude.{Result, MatchResult}
use Rattle.archive_shape_layout.specs.declared.error.Error.{Error}

-- the guarantee for an error is kept by the result that it is
pub answers_error : {A : Type 0} (result : Result A Error) (e : Error) (ok : A → Type 0) (refused : Error → Type 0) → result ≡ Err e → refused e → MatchResult result ok refused
answers_error {A} result e ok refused is r = let P : Result A Error → Type 0 = λ q. MatchResult q ok refused in subst P (sym is) r
