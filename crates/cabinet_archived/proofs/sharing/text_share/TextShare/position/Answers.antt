use Rattle.std.proofs.Common.{sym, ap, ◌∙◌}
use Rattle.std.specs.BTreeMap.{get_by_text}
use Rattle.cabinet_text_grammar.proofs.KeyLemmas.{key_has_text_law}
use Rattle.cabinet_archived.specs.Sharing.{progress_at}
use Rattle.cabinet_archived.proofs.sharing.text_share.TextShare.position.Goals as goal

pub returns : goal.returns
returns c =
    ap (λ s. progress_at (get_by_text c.args.self.now.ends s)) (key_has_text_law c.args.text.now) ∙ ap progress_at (sym c.get.ensures.value ∙ sym c.copied.ensures)
