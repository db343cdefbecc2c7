use Rattle.std.proofs.Common.{ℕ, List, Bor, not, ap, ◌∙◌}
use Rattle.std.specs.List.{list_any}
use Rattle.std.specs.Str.{bytes_eq}
use Rattle.cabinet_text_grammar.specs.Completing.{texts_of}
use Rattle.cabinet_text_grammar.proofs.TreeTexts.{text_among}
use Rattle.cabinet_text_reading.specs.Wholes.{table_in}
use Rattle.cabinet_text_nodes.proofs.Added.{contains_bytes}
use Rattle.cabinet_text_reading.proofs.wholes.Wholes.is_new.Goals as goal

pub returns : goal.returns
returns c t known few table legal numbered same =
    let lines = c.args.lines.now in
    let texts = texts_of (table_in c.args.self.now) in
    let found = c.contains.ensures ∙ contains_bytes (λ (k : Bor (List ℕ)). k.now) lines c.args.self.now.texts.keys ∙ known.texts lines in
    ap not (found ∙ ap (λ w. list_any (λ t. bytes_eq t w) texts) same ∙ text_among (table_in c.args.self.now) t few table legal numbered)
