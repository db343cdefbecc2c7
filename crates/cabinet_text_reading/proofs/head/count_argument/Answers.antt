use Rattle.std.proofs.Common.{◌++◌, sym, ap, ◌∙◌, inl, inr}
use Rattle.cabinet_text_reading.proofs.head.count_argument.Goals as goal

pub returns : goal.returns
returns c = λ rest h.
    elim h [
      | inl f ↦ c.in_default.ensures rest (f ∙ ap (λ w. w ++ rest) (sym c.as_slice.ensures))
      | inr (inl f) ↦ c.in_default-after_prefix.ensures rest (f ∙ ap (λ w. w ++ rest) (sym c.as_slice-2.ensures))
      | inr (inr (inl f)) ↦ c.in_default-after_prefix-2.ensures rest (f ∙ ap (λ w. w ++ rest) (sym c.as_slice-3.ensures))
      | inr (inr (inr (inl f))) ↦ c.in_default-after_prefix-3.ensures rest (f ∙ ap (λ w. w ++ rest) (sym c.as_slice-4.ensures))
      | inr (inr (inr (inr f))) ↦ c.in_default-after_prefix-4.ensures rest (f ∙ ap (λ w. w ++ rest) (sym c.as_slice-5.ensures))
    ]
