use Rattle.cabinet_text_grammar.proofs.ExamplesFaults.{sixty_five_options}
use Rattle.cabinet_text_grammar.proofs.examples.sixty_five_options.Goals as goal

pub returns : goal.returns
returns c = sixty_five_options
