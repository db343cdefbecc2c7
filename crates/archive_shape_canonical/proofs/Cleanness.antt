-- A part is clean by what its content is.
use Rattle.std.proofs.Common.{◌≡◌, ℕ, zero, suc, ◌+◌, ◌*◌, List, sym, subst, arith, inl, inr, ⊎_elim}
use Rattle.std.proofs.lemmas.Bool.{cases_lt}
use Rattle.archive_shape_layout.specs.Shape.{Shape, size_of}
use Rattle.archive_shape_layout.specs.Content.{Names, Part, Content, content_of, elements}
use Rattle.archive_shape_canonical.specs.Clean.{IsIn, InParts, PaddingIsZero, IsFilled, IsClean}

pub clean_by : (names : Names) (bytes : List ℕ) (p : Part) (c : Content) → content_of names bytes p ≡ c → PaddingIsZero bytes p c → IsFilled bytes p c → IsClean names bytes p
clean_by names bytes p c e h f = record { padding = subst (PaddingIsZero bytes p) (sym e) h; filled = subst (IsFilled bytes p) (sym e) f }

-- a byte of elements is one of theirs
pub elements_own : (n pos : ℕ) (s : Shape) (i : ℕ) → IsIn pos (n * size_of s) i → InParts (elements pos n s) i
unfolding elements
elements_own zero pos s i o = let a = o.0 in let b = o.1 in absurd (omega arith)
elements_own (suc n) pos s i o =
    let a = o.0 in
    let b = o.1 in
    ⊎_elim (λ l. inl (a, l)) (λ g. inr (elements_own n (pos + size_of s) s i (g, omega arith))) (cases_lt i (pos + size_of s))
