use Rattle.std.proofs.Common.{◌++◌, sym, ap, ◌∙◌}
use Rattle.std.specs.Fmt.{signed_decimal}
use Rattle.cabinet_text_grammar.specs.Tree.{truth, number, text}
use Rattle.cabinet_text_grammar.specs.Spelling.{escaped}
use Rattle.cabinet_text_reading.proofs.lines.leaf.read_leaf.Goals as goal

pub returns-in_default-read_truth-clause-refused : goal.returns-in_default-read_truth-clause-refused
returns-in_default-read_truth-clause-refused c =
    elim [
      | truth b ↦ λ p e. c.in_default-read_truth.ensures b e
      | number n ↦ λ p e. c.in_default-after_prefix.ensures (signed_decimal n) (e ∙ ap (λ w. w ++ signed_decimal n) (sym c.as_slice-2.ensures))
      | text t ↦ λ p e. c.in_default.ensures (escaped t) (e ∙ ap (λ w. w ++ escaped t) (sym c.as_slice.ensures))
    ]
