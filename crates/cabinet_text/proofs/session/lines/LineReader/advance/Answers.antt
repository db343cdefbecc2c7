use Rattle.std.proofs.Common.{◌≡◌, ◌+◌, ◌-◌, ◌≤◌, [], ◌++◌, drop, length, refl, sym, ap, ◌∙◌, length-append, length-take, arith}
use Rattle.std.proofs.lemmas.Option.{MatchOption-at_none, MatchOption-at_some}
use Rattle.cabinet_text.specs.LineSteps.{bytes_between, EndsAt}
use Rattle.cabinet_text.proofs.LinesRead as read
use Rattle.cabinet_text.proofs.session.lines.LineReader.advance.Goals as goal

pub returns-in-Ok-Some-clause-found : goal.returns-in-Ok-Some-clause-found
returns-in-Ok-Some-clause-found g c = λ w input lines at.
    let i = c.loop-end.self-inside in
    let end = c.in-Ok-Some.end in
    let bytes = bytes_between i.next i.len i.piece in
    let t = MatchOption-at_some _ _ end c.in-Ok-Some.field-0-is c.in-Ok-Some.ensures.taken in
    let here : EndsAt bytes end = rw (← c.part.ensures) t.0 in
    let within : i.next + end + 1 ≤ i.len = omega (arith, here.inside, length-take (i.len - i.next) (drop i.next i.piece)) in
    read.found_next input _ lines _ _ bytes end _ _ (bytes_between i.next (i.next + end) i.piece) _
    (c.loop-end.invariant.progress w input lines at) here (rw (← c.part.ensures) t.1)
    (read.between_front i.next end i.len i.piece (omega arith)) refl refl (read.between_behind i.next end i.len i.piece within)
    c.loop-end.invariant.goes_on

pub returns-in-Err-clause-found : goal.returns-in-Err-clause-found
returns-in-Err-clause-found g c = λ w input lines at.
    c.in-Err.ensures.fault input _ _ lines
    (read.in_part input lines _ _ _ _ _ c.part.ensures (c.loop-end.invariant.progress w input lines at))

pub returns-in-Err-read-clause-found : goal.returns-in-Err-read-clause-found
returns-in-Err-read-clause-found g c = λ w input lines at.
    let t = MatchOption-at_none _ _ c.in-Ok-None.field-0-is c.in-Ok-None.ensures.taken in
    let p = read.in_part input lines _ _ _ _ _ c.part.ensures (c.loop-end.invariant.progress w input lines at) in
    let q = read.gone_on input lines _ _ _ _ _ _ p t.0 t.1 in
    read.read_fault input lines _ _ _ (read.same_left input lines _ _ _ _ (sym (c.in-Err-read.ensures.kept w)) q)

pub returns-then-len-eq0-clause-found : goal.returns-then-len-eq0-clause-found
returns-then-len-eq0-clause-found g c = λ w input lines at.
    let i = c.loop-end.self-inside in
    let t = MatchOption-at_none _ _ c.in-Ok-None.field-0-is c.in-Ok-None.ensures.taken in
    let p = read.in_part input lines _ _ _ _ _ c.part.ensures (c.loop-end.invariant.progress w input lines at) in
    let q = read.gone_on input lines _ _ _ _ _ _ p t.0 t.1 in
    let end : g.R.Source.left c.loop-end.reader ≡ [] = c.in-Ok.ensures.end w c.if-len-eq0.true (omega arith) in
    read.found_last input _ lines _ _ (bytes_between i.start i.end c.read.new.buffer) _ _ _ (read.same_left input lines _ _ _ _ end q)
    c.take_line.new.self.within c.is_empty.ensures (omega (arith, c.take_line.new.self.line.ok.0)) refl refl

pub loop-end-preserved : goal.loop-end-preserved
loop-end-preserved g c =
    let i = c.loop-end.invariant in
    let t = MatchOption-at_none _ _ c.in-Ok-None.field-0-is c.in-Ok-None.ensures.taken in
    record {
      quiet = c.in-Ok.ensures.quiet ∙ i.quiet;
      next_in = omega arith;
      len_in = omega (arith, c.in-Ok.ensures.count);
      start_in = i.start_in;
      end_in = i.end_in;
      goes_on = i.goes_on;
      grown = omega (arith, ap length t.1.longer, length-append c.loop-end.self-inside.begun.line.items c.part.result.now, t.1.more, i.grown);
      progress = λ w input lines at.
          let p = read.in_part input lines _ _ _ _ _ c.part.ensures (i.progress w input lines at) in
          let q = read.gone_on input lines _ _ _ _ _ _ p t.0 t.1 in
          let r =
          c.in-Ok.ensures.bytes w ∙ ap (λ b. b ++ g.R.Source.left c.read.new.self) (sym (read.between_all c.in-Ok.len c.read.new.buffer)) in
          read.same_left input lines _ _ _ _ r q;
    }
