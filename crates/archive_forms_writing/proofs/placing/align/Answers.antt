use Rattle.std.proofs.Common.{arith, ◌≡◌, ap, ℕ, ◌+◌, ◌-◌, length}
use Rattle.archive_shape_layout.specs.Bytes.{align_up}
use Rattle.archive_shape_layout.proofs.Framed.{le_align_up}
use Rattle.archive_shape.specs.Bytes.{zeros}
use Rattle.std.proofs.lemmas.List.{length-replicate}
use Rattle.archive_forms_writing.proofs.placing.align.Goals as goal

moved : (n old now mid align x : ℕ) → n ≡ now → now ≡ old + length (zeros x) → mid ≡ old → x ≡ align_up mid align - mid → n ≡ align_up old align
moved n old now mid align x a b c d =
    let up = le_align_up old align in
    let filled : length (zeros x) ≡ x = length-replicate _ _ in
    let e : align_up mid align ≡ align_up old align = ap (λ m. align_up m align) c in
    omega arith

pub returns-clause-aligned : goal.returns-clause-aligned
returns-clause-aligned g c = moved _ _ _ _ c.args.align _ c.pos.ensures c.in_ok-pad.ensures.moves c.pos-pos.ensures c.padding.ensures.gap
