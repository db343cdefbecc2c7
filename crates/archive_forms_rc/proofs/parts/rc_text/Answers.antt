use Rattle.std.proofs.Common.{◌∙◌, sym, ap}
use Rattle.std.specs.Prelude.{⊤}
use Rattle.archive_forms_laws.specs.Views.{text_of}
use Rattle.archive_forms_rc.proofs.Reached.{counted_there, text_counts}
use Rattle.archive_forms_rc.proofs.parts.rc_text.Goals as goal

pub get-requires : goal.get-requires
get-requires g c = text_counts g.L.Flavor.ALLOW_CYCLES g.met.L.Acyclic.acyclic (λ _. ⊤) c.args.this.now.bytes.now c.args.this.now.pos c.requires

pub returns : goal.returns
returns g c = λ v h.
    let there = c.get.ensures in
    there.3 ∙ sym (ap text_of (counted_there g.L.Flavor.ALLOW_CYCLES g.met.L.Acyclic.acyclic v (there.2.value v h)))
