use Rattle.cabinet_text_grammar.specs.Line.{spelled_path}
use Rattle.cabinet_text_nodes.specs.View.{path_of}
use Rattle.cabinet_text_reading.proofs.Paths.{IsPath-word, All-step, spelled-step, step_refused, some_left, less_left}
use Rattle.cabinet_text_reading.proofs.lines.path.read_steps.Goals as goal

pub loop-rest-preserved : goal.loop-rest-preserved
loop-rest-preserved c =
    let i = c.loop-rest.invariant in
    let path = c.loop-rest.path.items in
    let begins = c.in-Some.ensures.1 in
    rw c.in-Ok-push.ensures.items (record {
      on = λ p. (IsPath-word _ _ _ begins (i.on p)).1;
      steps = All-step path c.in-Ok.step c.in-Ok.ensures.possible i.steps;
      spelled = spelled-step path c.in-Ok.step _ _ _ _ i.spelled begins c.in-Ok.ensures.spelled;
    })

pub loop-rest-smaller : goal.loop-rest-smaller
loop-rest-smaller c = less_left _ _ _ c.in-Some.ensures.1

pub returns-in-Err-clause-refused : goal.returns-in-Err-clause-refused
returns-in-Err-clause-refused c =
    step_refused _ _ c.in-Err.refusal (λ p. (IsPath-word _ _ _ c.in-Some.ensures.1 (c.loop-rest.invariant.on p)).0) (some_left _ (spelled_path (path_of c.loop-rest.path.items)) _ c.loop-rest.invariant.spelled (λ e. absurd (cc (c.in-Some.ensures.1.spelled, e)))) c.in-Err.ensures.refused
