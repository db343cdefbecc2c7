use Rattle.std.proofs.Common.{sym, rules}
use Rattle.cabinet_archives.proofs.LoadedTexts.{found, text_place}
use Rattle.cabinet_archives.proofs.loading.texts.LoadedTexts.read.Goals as goal

pub returns-in-Some-clause-text : goal.returns-in-Some-clause-text
returns-in-Some-clause-text c =
    let got = c.get-text.ensures in
    let there = text_place c.args.pointer.bytes.now c.args.pointer.pos got.0 got.1 c.target_of.result c.get-text.result.now got.2 got.3 c.target_of.ensures in
    let read = found c.args.pointer.bytes.now c.args.self.now.read c.requires.kept _ c.in-Some.shared.now (sym c.in-Some.ensures.value) in
    search (rules, got, there, read)
