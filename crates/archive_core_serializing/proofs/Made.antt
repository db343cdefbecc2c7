-- What is read of a shared value that a step makes.
use Rattle.std.proofs.Common.{◌≡◌, ℕ, Bool, true, false, Result, Ok, Err, refl, sym, ap, subst}
use denote.Ref.{MutBor}
use denote.Param.Members.{Once}
use Rattle.archive_shape_layout.specs.Progress.{Progress, IsSet, Finishes}
use Rattle.archive_shape_layout.specs.Progress.Progress.{unmet, begun, ended}
use Rattle.archive_shape_layout.specs.declared.error.Error.{Error}
use Rattle.archive_shape_layout.specs.declared.error.Error.TheVariants.{AlreadyFinished, NotStarted}
use Rattle.archive_shape.specs.declared.pooling.PoolingState.TheVariants.{Started}
use Rattle.archive_shape.specs.Pooling.{StartsPooling, FinishesPooling}
use Rattle.archive_core_serializing.specs.Shared.{Makes, KeepsMade, ReadsAnew, ReadsOnce}

module _ {F P T : Type 0} (call : Once F (MutBor P × (ℕ × Unit {0})) (Result T Error × (MutBor P × Unit {0})))
    (known : P → ℕ → Progress T) (step : F) (old : P) (pos : ℕ) (new : P) where
  -- where it was called, the position was not known before, or nothing is kept
  called_anew : (keeps : Bool) (inner : P) (result : Result T Error) → StartsPooling (known old) (known inner) pos keeps Started
      → ReadsAnew call known keeps step old pos new result → ReadsOnce call known keeps step old pos new result keeps (known old pos)
  called_anew true inner result starts h = subst (ReadsOnce call known true step old pos new result true) (sym starts.is_found) h
  called_anew false inner result starts h = h

  -- what finishes the position
  module _ (left : P) (x copy : T) (same : copy ≡ x) where
    kept : (keeps : Bool) → FinishesPooling (known left) (known new) pos keeps copy (Ok tt) → KeepsMade call known keeps step old pos new (Ok x) left x keeps (known left pos)
    kept true h = by (known left pos) h
      where
        by : (p : Progress T) → Finishes (known left) (known new) pos copy (Ok tt) p → KeepsMade call known true step old pos new (Ok x) left x true p
        by unmet e = let never = e.0 in absurd (cc)
        by begun e = (refl, subst (λ y. IsSet (known left) (known new) pos (ended y)) same e.1)
        by (ended y) e = let never = e.0 in absurd (cc)
    kept false h = refl

    unkept : (keeps : Bool) (e : Error) → FinishesPooling (known left) (known new) pos keeps copy (Err e) → KeepsMade call known keeps step old pos new (Err e) left x keeps (known left pos)
    unkept true e h = by (known left pos) h
      where
        by : (p : Progress T) → Finishes (known left) (known new) pos copy (Err e) p → KeepsMade call known true step old pos new (Err e) left x true p
        by unmet is = let refused = is.0 in let same : e ≡ NotStarted = cc in (ap Err same, is.1)
        by begun is = let never = is.0 in absurd (cc)
        by (ended y) is = let refused = is.0 in let same : e ≡ AlreadyFinished = cc in (ap Err same, is.1)
    unkept false e h = absurd (cc)

  module _ (keeps : Bool) (inner outer : MutBor P) (starts : StartsPooling (known old) (known inner.now) pos keeps Started) where
    made : (m : Result T Error) → call.post step (inner, (pos, tt)) (m, (outer, tt)) → Makes call known keeps step old pos m outer.now
    made m called = record { inner = inner; outer = outer; starts = starts; called = called; leaves = refl }

    pub refused_anew : (e : Error) → outer.now ≡ new → call.post step (inner, (pos, tt)) (Err e, (outer, tt)) → ReadsOnce call known keeps step old pos new (Err e) keeps (known old pos)
    refused_anew e stays called = called_anew keeps inner.now (Err e) starts (Err e, outer.now, made (Err e) called, (refl, sym stays))

    module _ (x copy : T) (same : copy ≡ x) (called : call.post step (inner, (pos, tt)) (Ok x, (outer, tt))) where
      pub kept_anew : FinishesPooling (known outer.now) (known new) pos keeps copy (Ok tt) → ReadsOnce call known keeps step old pos new (Ok x) keeps (known old pos)
      kept_anew h = called_anew keeps inner.now (Ok x) starts (Ok x, outer.now, made (Ok x) called, kept outer.now x copy same keeps h)

      pub unkept_anew : (e : Error) → FinishesPooling (known outer.now) (known new) pos keeps copy (Err e) → ReadsOnce call known keeps step old pos new (Err e) keeps (known old pos)
      unkept_anew e h = called_anew keeps inner.now (Err e) starts (Ok x, outer.now, made (Ok x) called, unkept outer.now x copy same keeps e h)
