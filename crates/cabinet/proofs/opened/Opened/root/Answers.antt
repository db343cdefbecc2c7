use Rattle.std.proofs.Common.{ap, ◌∙◌}
use Rattle.cabinet.proofs.Roots.{root_there, root_sound}
use Rattle.cabinet.proofs.opened.Opened.root.Goals as goal

pub returns-clause-there : goal.returns-clause-there
returns-clause-there g c =
    root_there c.args.self.now.bytes.now _ _ (ap (λ b. b.now) c.new.ensures.bytes) (c.new.ensures.pos ∙ c.root_position.ensures) c.args.self.now.accepted

pub returns-clause-sound : goal.returns-clause-sound
returns-clause-sound g c =
    root_sound c.args.self.now.bytes.now _ _ (ap (λ b. b.now) c.new.ensures.bytes) (c.new.ensures.pos ∙ c.root_position.ensures) c.args.self.now.accepted
