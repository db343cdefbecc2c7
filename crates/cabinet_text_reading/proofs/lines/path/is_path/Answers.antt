use Rattle.cabinet_text_reading.proofs.Paths.{IsPath-step, IsPath-word, less_left}
use Rattle.cabinet_text_reading.proofs.lines.path.is_path.Goals as goal

pub returns-then-not-is_step-clause-no : goal.returns-then-not-is_step-clause-no
returns-then-not-is_step-clause-no c p = c.if-not-is_step.ensures.no (IsPath-word _ _ _ c.in-Some.ensures.1 (c.loop-rest.invariant.on p)).0

pub loop-rest-preserved : goal.loop-rest-preserved
loop-rest-preserved c =
    let begins = c.in-Some.ensures.1 in
    record {
      back = λ p. c.loop-rest.invariant.back (IsPath-step _ _ _ begins c.if-not-is_step.ensures.yes p);
      on = λ p. (IsPath-word _ _ _ begins (c.loop-rest.invariant.on p)).1;
    }

pub loop-rest-smaller : goal.loop-rest-smaller
loop-rest-smaller c = less_left _ _ _ c.in-Some.ensures.1
