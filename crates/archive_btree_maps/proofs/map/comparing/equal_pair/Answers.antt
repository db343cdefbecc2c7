use Rattle.std.proofs.Common.{false, true, sym, refl, ◌∙◌}
use Rattle.archive_btree_maps.proofs.Compared.{pair_decided}
use Rattle.archive_btree_maps.proofs.map.comparing.equal_pair.Goals as goal

pub returns-then-eq : goal.returns-then-eq
returns-then-eq g c = λ p q h i.
    pair_decided _ _ _ _ g.K.ArchivedEq.equal g.V.ArchivedEq.equal c.args.this.now c.args.other.now p q h i true c.eq-then-eq.result
    (sym c.if-eq.true ∙ c.eq.ensures h.key i.key h.key_held i.key_held) (c.eq-then-eq.ensures h.value i.value h.value_held i.value_held)

pub returns-else-eq : goal.returns-else-eq
returns-else-eq g c = λ p q h i.
    c.if-eq.false
    ∙ pair_decided _ _ _ _ g.K.ArchivedEq.equal g.V.ArchivedEq.equal c.args.this.now c.args.other.now p q h i false (g.V.ArchivedEq.equal h.value i.value)
    (sym c.if-eq.false ∙ c.eq.ensures h.key i.key h.key_held i.key_held) refl
