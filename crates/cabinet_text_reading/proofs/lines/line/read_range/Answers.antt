use Rattle.std.proofs.Common.{inl, inr, subst}
use Rattle.std.specs.Prelude.{string_bytes}
use Rattle.cabinet_text_reading.specs.Parts.{RefusesText}
use Rattle.cabinet_text_reading.proofs.Cuts.{no_first_bound, no_second_bound, no_range, no_memory_for_range, range_path_refused, range_spelled}
use Rattle.cabinet_text_reading.proofs.lines.line.read_range.Goals as goal
use Rattle.cabinet_text_reading.proofs.lines.line.read_range.Goals.{else-is_escaped-via-then-is_escaped+else-is_path, else-is_escaped-via-else-is_escaped}

pub returns-in_default-clause-refused : goal.returns-in_default-clause-refused
returns-in_default-clause-refused c = no_first_bound _ c.in_default.ensures

pub returns-in_default-next_key-clause-refused : goal.returns-in_default-next_key-clause-refused
returns-in_default-next_key-clause-refused c = no_second_bound _ _ _ c.in-Some.ensures c.in_default-next_key.ensures

pub returns-in-Err-clause-refused : goal.returns-in-Err-clause-refused
returns-in-Err-clause-refused c =
    range_path_refused _ _ _ c.in-Some.ensures _ _ c.in-Some-next_key.ensures c.in-Err.refusal
    (string_bytes c.in-Ok.lo, c.in-Ok.ensures.text, c.in-Ok.ensures.escaped) (string_bytes c.in-Ok-read_argument.hi, c.in-Ok-read_argument.ensures.text, c.in-Ok-read_argument.ensures.escaped) c.in-Err.ensures.refused

pub returns-in-Err-Bad-clause-refused : goal.returns-in-Err-Bad-clause-refused
returns-in-Err-Bad-clause-refused c = no_range _ _ _ c.in-Some.ensures _ _ c.in-Some-next_key.ensures (λ k l p. (subst (RefusesText c.in-Some.low.now) c.in-Err-Bad.field-0-is c.in-Err-Bad.ensures.refused) k.0 k.1 k.2)

pub returns-in-Err-Bad-read_argument-clause-refused : goal.returns-in-Err-Bad-read_argument-clause-refused
returns-in-Err-Bad-read_argument-clause-refused c =
    no_range _ _ _ c.in-Some.ensures _ _ c.in-Some-next_key.ensures (λ k l p. (subst (RefusesText c.in-Some-next_key.high.now) c.in-Err-Bad-read_argument.field-0-is c.in-Err-Bad-read_argument.ensures.refused) l.0 l.1 l.2)

pub returns-then-is_path-clause-refused : goal.returns-then-is_path-clause-refused
returns-then-is_path-clause-refused c =
    let low = subst (RefusesText c.in-Some.low.now) c.in-Err-OutOfMemory.field-0-is c.in-Err-OutOfMemory.ensures.refused in
    no_memory_for_range _ _ _ c.in-Some.ensures _ _ c.in-Some-next_key.ensures low.0 c.if-is_escaped.ensures.yes c.if-is_path.ensures.yes (inl low.1)

pub returns-then-is_path-2-clause-refused : goal.returns-then-is_path-2-clause-refused
returns-then-is_path-2-clause-refused c =
    let high = subst (RefusesText c.in-Some-next_key.high.now) c.in-Err-OutOfMemory-read_argument.field-0-is c.in-Err-OutOfMemory-read_argument.ensures.refused in
    no_memory_for_range _ _ _ c.in-Some.ensures _ _ c.in-Some-next_key.ensures (string_bytes c.in-Ok.lo, c.in-Ok.ensures.text, c.in-Ok.ensures.escaped) high.0 c.if-is_path-2.ensures.yes (inr (inl high.1))

pub returns-in-Err-OutOfMemory-read_argument-clause-refused : goal.returns-in-Err-OutOfMemory-read_argument-clause-refused
returns-in-Err-OutOfMemory-read_argument-clause-refused c = no_range _ _ _ c.in-Some.ensures _ _ c.in-Some-next_key.ensures (λ k l p. c.if-is_path-2.ensures.no p)

pub returns-in-Err-OutOfMemory-clause-refused : goal.returns-in-Err-OutOfMemory-clause-refused
returns-in-Err-OutOfMemory-clause-refused c =
    no_range _ _ _ c.in-Some.ensures _ _ c.in-Some-next_key.ensures
    (elim c.else-is_escaped.branch [
      | else-is_escaped-via-then-is_escaped+else-is_path w ↦ λ k l p. w.if-is_path.ensures.no p
      | else-is_escaped-via-else-is_escaped w ↦ λ k l p. w.if-is_escaped.ensures.no l
    ])

pub returns-in-Ok-read_path-clause-said : goal.returns-in-Ok-read_path-clause-said
returns-in-Ok-read_path-clause-said c =
    let lo = c.in-Ok.ensures in
    let hi = c.in-Ok-read_argument.ensures in
    let path = c.in-Ok-read_path.ensures in
    ((lo.text, hi.text, path.steps), range_spelled _ _ _ c.in-Some.ensures _ _ c.in-Some-next_key.ensures (string_bytes c.in-Ok.lo) (string_bytes c.in-Ok-read_argument.hi) _ lo.escaped hi.escaped path.spelled)
