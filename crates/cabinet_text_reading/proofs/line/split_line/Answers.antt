use Rattle.std.proofs.Common.{◌==◌, ◌≡◌, ◌≢◌, ℕ, ◌<◌, List, length, get_or, Some, None, eqb-true, arith, rules, sym}
use Rattle.std.specs.List.{position}
use Rattle.std.proofs.lemmas.Bool.{eqb-false}
use Rattle.std.proofs.lemmas.Grind.{common_steps}
use Rattle.std.proofs.lemmas.List.Quantifiers.{position-Some}
use Rattle.std.proofs.lemmas.Str.{lead_after_ascii}
use Rattle.cabinet_text_bytes.proofs.Positions.{position-None}
use Rattle.cabinet_text_reading.specs.Calls.Lines.{HasNoNewline}
use Rattle.cabinet_text_reading.proofs.line.split_line.Goals as goal

newline_at : (text bytes : List ℕ) (end : ℕ) → bytes ≡ text → Some end ≡ position (λ b. b == 10) bytes
    → (end < length text) × (get_or text end 0 ≡ 10) × ((k : ℕ) → k < end → get_or text k 0 ≢ 10)
newline_at text bytes end same e =
    let found = position-Some (λ b. b == 10) text end 0 (rw same at (sym e)) in
    (found.0, eqb-true _ 10 found.1, λ k h. eqb-false _ 10 (found.2 k h))

no_newline : (text bytes : List ℕ) → bytes ≡ text → None ≡ position (λ b. b == 10) bytes → HasNoNewline text
no_newline text bytes same e = λ k h. eqb-false _ 10 (position-None (λ b. b == 10) text 0 (rw same at (sym e)) k h)

pub range-requires-clause-end_boundary : goal.range-requires-clause-end_boundary
range-requires-clause-end_boundary c =
    let found = newline_at c.args.text.now _ c.in_ok-end.end c.as_bytes.ensures.value c.in_ok-end.ensures in
    (omega arith, λ within high. omega (arith, found.1))

pub range_from-requires : goal.range_from-requires
range_from-requires c = λ some.
    let found = newline_at c.args.text.now _ c.in_ok-end.end c.as_bytes.ensures.value c.in_ok-end.ensures in
    (omega arith, λ within high. lead_after_ascii c.args.text.now c.in_ok-end.end c.utf8.text (omega (arith, found.1)) within high)

pub returns-in_err-end : goal.returns-in_err-end
returns-in_err-end c =
    rw c.from_residual.ensures (no_newline c.args.text.now _ c.as_bytes.ensures.value c.in_err-end.ensures)

pub returns : goal.returns
returns c =
    let found = newline_at c.args.text.now _ c.in_ok-end.end c.as_bytes.ensures.value c.in_ok-end.ensures in
    (search (rules, common_steps), λ k h. grind (arith, common_steps, found.2 k))
