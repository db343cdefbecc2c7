use Rattle.cabinet_archived.proofs.Keeping.{text_kept}
use Rattle.cabinet_archived.proofs.sharing.text_share.TextShare.keep.Goals as goal

pub returns : goal.returns
returns c = text_kept c.args.self.now.ends c.insert.new.self c.in_ok-copy.copy c.args.pos c.args.text.now c.in_ok-copy.ensures.ok c.in_ok-insert.ensures.updates
