use Rattle.std.proofs.Common.{rules, arith, ◌≡◌, ℕ, ◌+◌, ◌*◌, List, [], ◌∷◌, ◌++◌, length, length-append, sym, ap, subst, ◌∙◌}
use Rattle.archive_shape_layout.specs.Shape.{size_of}
use Rattle.archive_forms_values.proofs.Inside.{some_says}
use Rattle.archive_forms.specs.Deserializing.{IsReadAt, AreReadFrom}
use Rattle.archive_forms.proofs.Read.{element_has, element_ends_before, one_more, pushed}
use Rattle.archive_forms.proofs.deserializing.elements.deserialize_elements_each.Goals as goal

pub loop-index-init : goal.loop-index-init
loop-index-init g c =
    let P : List g.row.T.Denot → Type 0 = λ l. AreReadFrom g.A.ReadBack.reads g.A.Portable.shape g.A.Portable.knows c.args.items.bytes.now c.args.items.pos l in
    record { count = ap length c.new-all.ensures.items; read = subst P (sym c.new-all.ensures.items) tt; kept = c.requires.kept }

pub step-requires : goal.step-requires
step-requires g c =
    let at = some_says _ _ c.get.result c.unwrap-item.result c.get.ensures c.unwrap-item.ensures in
    c.requires.takes _ _ (element_ends_before g.A.Portable.shape c.args.items.pos _ c.loop-index.index _ at.0 at.2) (element_has _ _ _ _ _ c.loop-index.index _ c.requires.there at.0 at.2) c.loop-index.invariant.kept

pub returns-in_err-value-clause-values : goal.returns-in_err-value-clause-values
returns-in_err-value-clause-values g c =
    let at = some_says _ _ c.get.result c.unwrap-item.result c.get.ensures c.unwrap-item.ensures in
    let is = (c.requires.reads _ _ _ _ (element_has _ _ _ _ _ c.loop-index.index _ c.requires.there at.0 at.2) c.loop-index.invariant.kept c.in_err-value.ensures).0 in
    search rules

pub loop-index-preserved : goal.loop-index-preserved
loop-index-preserved g c =
    let w = g.A.ReadBack.reads in
    let s = g.A.Portable.shape in
    let knows = g.A.Portable.knows in
    let bytes = c.args.items.bytes.now in
    let start = c.args.items.pos in
    let before = c.loop-index.all.items in
    let at = some_says _ _ c.get.result c.unwrap-item.result c.get.ensures c.unwrap-item.ensures in
    let one = c.requires.reads _ _ _ _ (element_has _ _ _ _ _ c.loop-index.index _ c.requires.there at.0 at.2) c.loop-index.invariant.kept c.in_ok-value.ensures in
    let items : c.push.new.self.items ≡ before ++ (c.in_ok-value.field-0.0 ∷ []) = pushed _ _ _ _ c.push.ensures.items c.if-is_err.ensures.negation in
    let stands : c.unwrap-item.result.pos ≡ start + length before * size_of s = at.2 ∙ ap (λ n. start + n * size_of s) (sym c.loop-index.invariant.count) in
    let P : ℕ → Type 0 = λ n. IsReadAt w s knows bytes n c.in_ok-value.field-0.0 in
    let Q : List g.row.T.Denot → Type 0 = λ l. AreReadFrom w s knows bytes start l in
    record {
      count = omega (arith, ap length items, length-append before (c.in_ok-value.field-0.0 ∷ []), c.loop-index.invariant.count);
      read = subst Q (sym items) (one_more w s knows bytes start before c.in_ok-value.field-0.0 c.loop-index.invariant.read (subst P stands one.0));
      kept = one.1;
    }

pub returns-clause-values : goal.returns-clause-values
returns-clause-values g c = (omega (arith, c.loop-index.invariant.count, c.loop-index.auto.index-end, c.loop-index-test.false, c.len-index-end.ensures), c.loop-index.invariant.read)
