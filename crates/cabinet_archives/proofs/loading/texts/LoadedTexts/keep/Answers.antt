use Rattle.cabinet_archives.proofs.LoadedTexts.{kept}
use Rattle.cabinet_archives.proofs.loading.texts.LoadedTexts.keep.Goals as goal

pub returns : goal.returns
returns c = λ bytes are is. kept bytes c.args.self.now.read are c.insert-kept.new.self c.args.place c.args.text is c.insert-kept.result c.insert-kept.ensures.updates c.insert-kept.ensures.err
