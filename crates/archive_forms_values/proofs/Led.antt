-- Where the offset at a position leads.
use Rattle.std.proofs.Common.{◌≡◌, ℕ, pos, ◌+ℤ◌, ◌<◌, ◌^◌, List, slice_index, Option, Some, None, sym, ap, ◌∙◌, arith, Fits, w8}
use Rattle.std.specs.Prelude.{MatchOption}
use Rattle.std.specs.Int.{w32, w64, FitsUnsigned}
use Rattle.archive_shape_layout.specs.Bytes.{window, word_at, target_from}
use Rattle.archive_shape.specs.Offsets.{signed_number, Leads}
use Rattle.archive_forms_values.proofs.Targets.{first_word, target_found, target_missed}

pub led :
    (bytes : List ℕ) (from : ℕ) → ((i : ℕ) → Fits w8 (slice_index bytes i)) → from < 2 ^ 63
    → (there : List ℕ) (base : ℕ) → there ≡ bytes → base ≡ from
    → (o : Option ℕ)
    → MatchOption o (FitsUnsigned w64 (pos base +ℤ signed_number w32 (window there base 4)) → ⊥) (Leads base (signed_number w32 (window there base 4)))
    → o ≡ target_from from (word_at bytes from)
led bytes from fits small there base same own None h =
    sym (target_missed bytes from 4 (omega arith) fits small there base same own h) ∙ ap (target_from from) (first_word bytes from 4 (omega arith))
led bytes from fits small there base same own (Some to) h =
    sym (target_found bytes from 4 (omega arith) fits small there base same own to h) ∙ ap (target_from from) (first_word bytes from 4 (omega arith))
