use Rattle.std.proofs.Common.{◌≡◌, ℕ, ◌-◌, List, length, Some, None, Option, ap, sym, ◌∙◌}
use Rattle.std.specs.Prelude.{⊤, slice_get, option_copied}
use Rattle.archive_forms_laws.specs.Views.{text_of}
use Rattle.archive_bench.specs.FormsSums.{length_and_last}
use Rattle.archive_bench.proofs.Held.{text_there, text_read}
use Rattle.archive_bench.proofs.Sums.{last_added, no_last}
use Rattle.archive_bench.proofs.forms.reads.weight.Goals as goal

pub as_str-requires : goal.as_str-requires
as_str-requires c = text_there _ _ _ c.requires

pub returns-in-Some : goal.returns-in-Some
returns-in-Some c = λ v h.
    let bytes = c.as_bytes-bytes.result.now in
    let is : bytes ≡ text_of v = c.as_bytes-bytes.ensures.value ∙ text_read (λ _. ⊤) c.args.place.bytes.now c.args.place.pos _ v h c.as_str.ensures in
    let got : slice_get bytes (length bytes - 1) ≡ Some c.from.result = sym c.last.ensures.value ∙ ap option_copied c.in-Some.is ∙ ap Some (sym c.from.ensures) in
    last_added bytes c.from.result got ∙ ap length_and_last is

pub returns-in-None : goal.returns-in-None
returns-in-None c = λ v h.
    let bytes = c.as_bytes-bytes.result.now in
    let is : bytes ≡ text_of v = c.as_bytes-bytes.ensures.value ∙ text_read (λ _. ⊤) c.args.place.bytes.now c.args.place.pos _ v h c.as_str.ensures in
    let got : slice_get bytes (length bytes - 1) ≡ None = sym c.last.ensures.value ∙ ap option_copied c.in-None.is in
    no_last bytes got ∙ ap length_and_last is
