use Rattle.std.proofs.Common.{rules}
use Rattle.cabinet_text_nodes.proofs.leaf.fits.Goals as goal

pub returns-in-Text-Text : goal.returns-in-Text-Text
returns-in-Text-Text c = search rules
