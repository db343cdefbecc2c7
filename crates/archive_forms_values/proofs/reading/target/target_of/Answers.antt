use Rattle.std.proofs.Common.{◌≡◌, ◌∙◌, sym, ap, arith, Some, None}
use Rattle.archive_shape_layout.specs.Bytes.{target_from}
use Rattle.archive_forms_values.proofs.Targets.{first_word, target_found, target_missed}
use Rattle.archive_forms_values.proofs.Inside.{some_unless, some_says}
use Rattle.archive_forms_values.proofs.reading.target.target_of.Goals as goal

pub unwrap-requires : goal.unwrap-requires
unwrap-requires c =
    some_unless _ c.target.result c.target.ensures
    (λ missed.
    let nowhere = target_missed c.args.bytes.now c.args.pos 4 (omega arith) c.type_inv.bytes (omega (arith, c.requires.fits)) c.new.result.bytes.now c.new.result.pos (ap (λ bytes. bytes.now) c.new.ensures.bytes) c.new.ensures.pos missed in
    let both : Some c.requires.leads.0 ≡ None = sym c.requires.leads.1 ∙ ap (target_from c.args.pos) (sym (first_word c.args.bytes.now c.args.pos 4 (omega arith))) ∙ nowhere in
    cc)

pub returns : goal.returns
returns c =
    ap (target_from c.args.pos) (sym (first_word c.args.bytes.now c.args.pos 4 (omega arith)))
    ∙ target_found c.args.bytes.now c.args.pos 4 (omega arith) c.type_inv.bytes (omega (arith, c.requires.fits)) c.new.result.bytes.now c.new.result.pos (ap (λ bytes. bytes.now) c.new.ensures.bytes) c.new.ensures.pos c.unwrap.result
    (some_says _ _ c.target.result c.unwrap.result c.target.ensures c.unwrap.ensures)
