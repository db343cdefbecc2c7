use Rattle.std.proofs.Common.{ap}
use Rattle.archive_forms_rc.specs.Compared.{counted_of}
use Rattle.archive_forms_rc.proofs.Reached.{elements_part}
use Rattle.archive_forms_rc.proofs.parts.rc_elements.Goals as goal

pub returns-clause-there : goal.returns-clause-there
returns-clause-there g c =
    record {
      value = counted_of c.requires.value;
      stand = elements_part g.L.Flavor.ALLOW_CYCLES g.met.L.Acyclic.acyclic g.T.Portable.shape g.T.Portable.knows c.args.this.now.bytes.now c.args.this.now.pos
          (ap (λ b. b.now) c.get.ensures.bytes) c.get.ensures.elements c.requires.value c.requires.held;
    }

pub returns-clause-elements : goal.returns-clause-elements
returns-clause-elements g c =
    elements_part g.L.Flavor.ALLOW_CYCLES g.met.L.Acyclic.acyclic g.T.Portable.shape g.T.Portable.knows c.args.this.now.bytes.now c.args.this.now.pos
    (ap (λ b. b.now) c.get.ensures.bytes) c.get.ensures.elements
