use Rattle.std.proofs.Common.{ℕ, Bool, List, Result, Ok, Err, refl}
use Rattle.archive_shape_layout.specs.Progress.{Progress, IsSame}
use Rattle.archive_shape_layout.specs.Writing.{Appends}
use Rattle.archive_shape_layout.specs.declared.error.Error.{Error}
use Rattle.archive_core_serializing.proofs.serializer.SerializerWriter.write.Goals as goal

-- what a part of a writer appends, the writer appends
passed : {W V A : Type 0} (observable counts : Bool) (contents : W → List ℕ) (pos failures : W → ℕ) (last_error : W → Error) (known : W → ℕ → Progress ℕ) (part : V → W) (knows : V → ℕ → Progress ℕ) (old new : V) (piece : List ℕ) (result : Result A Error) → IsSame (knows old) (knows new)
    → Appends observable counts contents pos failures last_error known (part old) (part new) piece result
    → Appends observable counts (λ s. contents (part s)) (λ s. pos (part s)) (λ s. failures (part s)) (λ s. last_error (part s)) knows old new piece result
passed observable counts contents pos failures last_error known part knows old new piece (Ok x) same w = record { gains = w.gains; moves = w.moves; is_quiet = w.is_quiet; keeps = same }
passed observable counts contents pos failures last_error known part knows old new piece (Err e) same w = record { is_cut = w.is_cut; is_short = w.is_short; is_counted = w.is_counted; is_last = w.is_last; keeps = same }

pub returns : goal.returns
returns g c =
    passed g.W.Writer.OBSERVABLE g.W.Writer.COUNTS g.W.Writer.contents g.W.Positional.pos g.W.Writer.failures g.W.Writer.last_error g.W.Registry.known (λ s. s.writer) (λ s. g.S.Registry.known s.sharing)
    c.args.self.now _ _ c.write.result (λ n. refl) c.write.ensures
