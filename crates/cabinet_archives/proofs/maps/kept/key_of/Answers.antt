use Rattle.std.proofs.Common.{ℕ, List, Bor, ap, sym, subst, ◌∙◌}
use Rattle.archive_forms_laws.specs.Text.{HasText, IsText}
use Rattle.cabinet_archives.proofs.KeptEntries.{key_there, entry_bytes}
use Rattle.cabinet_archives.proofs.maps.kept.key_of.Goals as goal

pub as_str-requires : goal.as_str-requires
as_str-requires c =
    let map = c.args.map in
    let key = c.entry_of.result.0 in
    subst (λ (b : Bor (List ℕ)). HasText b.now key.pos) (sym (entry_bytes map.bytes map.pos c.requires.has c.args.index c.entry_of.result c.entry_of.ensures).0)
    (key_there map.bytes.now map.pos c.requires.has c.args.index c.requires.within key.pos (λ m stands. ap (λ e. e.0.pos) (c.entry_of.ensures m stands)))

pub returns-clause-position : goal.returns-clause-position
returns-clause-position c = λ m stands. c.pos.ensures ∙ ap (λ e. e.0.pos) (c.entry_of.ensures m stands)

pub returns-clause-text : goal.returns-clause-text
returns-clause-text c =
    let map = c.args.map in
    let key = c.entry_of.result.0 in
    let same = (entry_bytes map.bytes map.pos c.requires.has c.args.index c.entry_of.result c.entry_of.ensures).0 in
    subst (λ n. IsText map.bytes.now n c.as_str.result.now) (sym c.pos.ensures) (subst (λ (b : Bor (List ℕ)). IsText b.now key.pos c.as_str.result.now) same c.as_str.ensures)
