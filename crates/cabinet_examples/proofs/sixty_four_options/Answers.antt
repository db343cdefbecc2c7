use Rattle.cabinet_examples.proofs.Documents.{sixty_four_options}
use Rattle.cabinet_examples.proofs.sixty_four_options.Goals as goal

pub returns : goal.returns
returns c = sixty_four_options
