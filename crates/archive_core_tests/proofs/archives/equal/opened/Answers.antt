use Rattle.std.proofs.Common.{◌≡◌, ◌≢◌, ◌<◌, ◌^◌, [], length, MatchResult, Result, Ok, Err, refl, arith}
use Rattle.archive_shape_layout.specs.declared.error.Error.{Error}
use Rattle.archive_shape_layout.specs.declared.error.Error.TheVariants.{OutOfMemory}
use Rattle.archive_core_tests.proofs.archives.equal.opened.Goals as goal

only_memory : (e : Error) → (e ≢ OutOfMemory → ⊥) → e ≡ OutOfMemory
only_memory OutOfMemory not = refl
only_memory _ not = absurd (not (λ same. absurd (cc)))

-- a result that is known where it is a value
told : {A : Type 0} (There Is : A → Type 0) (r : Result A Error) → MatchResult r There (λ e. e ≡ OutOfMemory) → ((y : A) → There y → Is y)
    → MatchResult r Is (λ e. e ≡ OutOfMemory)
told There Is (Ok y) there is = is y there
told There Is (Err e) memory is = memory

pub deserialize-requires : goal.deserialize-requires
deserialize-requires c = rw (c.in-Ok.ensures.bytes, c.in-Ok.ensures.position) (c.in-Ok.ensures.value [] ((tt, tt), tt))

pub returns : goal.returns
returns c =
    let kept = c.args.kept.now in
    let bytes = c.args.bytes.now in
    told _ _ c.deserialize.result (rw (c.in-Ok.ensures.bytes, c.in-Ok.ensures.position) at c.deserialize.ensures)
    (λ y there. c.alike_kept_are_one.ensures y kept (c.kept_are_faithful.ensures _ y (c.unshared_is_read_back.ensures refl kept y bytes [] ((tt, tt), tt) c.requires there)))

pub returns-in-Err : goal.returns-in-Err
returns-in-Err c =
    let kept = c.args.kept.now in
    let bytes = c.args.bytes.now in
    let short : length bytes < 2 ^ 64 = omega arith in
    only_memory c.in-Err.e (λ other. c.fault_refuses.ensures [] bytes [] [] _ _ c.in-Err.e (c.in-Err.ensures.exact [] ((tt, tt), tt) other) (c.unshared_is_accepted.ensures refl kept bytes [] ((tt, tt), tt) short c.requires))
