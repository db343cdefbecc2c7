use Rattle.std.proofs.Common.{◌≡◌, ℕ, List, IfOk, MatchResult, Result, Ok, Err, Vec, None}
use Rattle.std.specs.Global.{Global}
use Rattle.archive_shape_layout.specs.Bytes.{align_up}
use Rattle.archive_shape_layout.specs.declared.error.Error.{Error}
use Rattle.archive_shape_canonical.specs.Settled.{free}
use Rattle.archive_forms_laws.specs.State.{Keys}
use Rattle.archive_core_tests.proofs.archives.parts.archived_pair.Goals as goal

-- what holds of the bytes that were made
told : (Fits : Type 0) (piece : List ℕ) (Refused : Error → Type 0) (P : List ℕ → Type 0) (r : Result (Vec ℕ Global) Error)
    → MatchResult r (λ bytes. (bytes.items ≡ piece) × Fits) Refused
    → ((bytes : List ℕ) → bytes ≡ piece → Fits → P bytes)
    → IfOk r (λ bytes. P bytes.items)
told Fits piece Refused P (Ok bytes) made says = says bytes.items made.0 made.1
told Fits piece Refused P (Err e) made says = tt

pub returns : goal.returns
unfolding align_up
returns c =
    let pair = c.args.pair.now in
    let keys : Keys = λ _. None in
    told _ _ _ _ c.to_bytes.result c.to_bytes.ensures.bytes (λ bytes is fits.
    (c.fields_are_written.ensures.of_two pair bytes _ free keys (tt, (tt, tt)) (c.root_is_written.ensures.written pair bytes keys is fits)).1.own)
