use Rattle.std.proofs.Common.{ℕ, List, Bor, sym, subst, ◌∙◌}
use Rattle.std.proofs.lemmas.Map.Text.{is_eq-slice_cmp}
use Rattle.archive_forms_laws.specs.Text.{IsText}
use Rattle.cabinet_archives.proofs.maps.pairs.has_key.Goals as goal

pub returns : goal.returns
returns c =
    let key = c.key_of.result.now in (
      key,
      subst (λ (x : Bor (List ℕ)). IsText x.now c.args.at key) c.new.ensures.bytes (subst (λ n. IsText c.new.result.bytes.now n key) c.new.ensures.pos c.key_of.ensures),
      c.eq.ensures ∙ sym (is_eq-slice_cmp key c.args.key.now),
    )
