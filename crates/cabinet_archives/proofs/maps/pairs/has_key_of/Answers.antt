use Rattle.std.proofs.Common.{sym, subst}
use Rattle.archive_forms_laws.specs.Text.{IsText}
use Rattle.cabinet_documents.proofs.Found.{key_self}
use Rattle.cabinet_archives.proofs.maps.pairs.has_key_of.Goals as goal

pub returns-then-at-own : goal.returns-then-at-own
returns-then-at-own c =
    let key = c.args.key.now in
    (key, subst (λ n. IsText c.args.bytes.now n key) (sym c.if-at-own.true) c.requires.own, sym (key_self key))
