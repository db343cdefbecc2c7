use Rattle.cabinet_text_grammar.proofs.RestructuredPaths.{put_leads_to_new}
use Rattle.cabinet_text_grammar.proofs.restructuring.put_leads_to_new.Goals as goal

pub returns : goal.returns
returns c = put_leads_to_new
