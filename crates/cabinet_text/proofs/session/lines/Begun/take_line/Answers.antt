use Rattle.std.proofs.Common.{◌≡◌, ◌+◌, ◌<◌, ◌≤◌, [], ◌∷◌, ◌++◌, take, drop, length, get_or, inl, inr, sym, ap, ◌∙◌, append_assoc, arith}
use Rattle.std.proofs.lemmas.List.{take-append-drop, take_all, length-take-le}
use Rattle.cabinet_text.specs.Input.{longest_input, newlines}
use Rattle.cabinet_text.proofs.Inputs.{no_newline, ends_within}
use Rattle.cabinet_text.proofs.LinesRead as read
use Rattle.cabinet_text.proofs.session.lines.Begun.take_line.Goals as goal
use Rattle.cabinet_text.proofs.session.lines.Begun.take_line.Goals.{then-bytes-room, else-bytes-room, then-bytes-allowed-eq10-via-then-bytes-allowed-eq10, then-bytes-allowed-eq10-via-else-bytes-allowed-eq10+then-len-lt-LONGEST_LINE}

pub returns-in-Ok-clause-taken : goal.returns-in-Ok-clause-taken
returns-in-Ok-clause-taken c =
    let n = c.if-bytes-room.allowed in
    let h : n ≤ length c.args.bytes.now = elim c.if-bytes-room.branch [ then-bytes-room w ↦ omega arith | else-bytes-room w ↦ omega arith ] in
    (ends_within c.args.bytes.now n c.in-Some.end h (sym c.in-Some.ensures), c.in-Ok.ensures.taken)

pub returns-in-Err-clause-fault : goal.returns-in-Err-clause-fault
returns-in-Err-clause-fault c =
    let n = c.if-bytes-room.allowed in
    let end = c.in-Some.end in
    let bytes = c.args.bytes.now in
    let h : n ≤ length bytes = elim c.if-bytes-room.branch [ then-bytes-room w ↦ omega arith | else-bytes-room w ↦ omega arith ] in
    let e = ends_within bytes n end h (sym c.in-Some.ensures) in
    read.fails_within _ _ bytes (take end bytes ++ 10 ∷ []) (drop (end + 1) bytes) _
    (e.parts ∙ sym (append_assoc (take end bytes) (10 ∷ []) (drop (end + 1) bytes)))
    (c.in-Err.ensures.fault e.clean)

pub returns-in-Err-lengthen-clause-fault : goal.returns-in-Err-lengthen-clause-fault
returns-in-Err-lengthen-clause-fault c =
    let n = c.if-bytes-room.allowed in
    let bytes = c.args.bytes.now in
    read.fails_within _ _ bytes (take n bytes) (drop n bytes) _ (sym (take-append-drop n bytes))
    (c.in-Err-lengthen.ensures.fault (no_newline (take n bytes) (sym c.in_default.ensures)))

pub returns-then-allowed-bytes-clause-taken : goal.returns-then-allowed-bytes-clause-taken
returns-then-allowed-bytes-clause-taken c =
    let n = c.if-bytes-room.allowed in
    let bytes = c.args.bytes.now in
    let all : take n bytes ≡ bytes = take_all n bytes (omega arith) in
    let g = c.in-Ok-lengthen.ensures.taken in
    let clean = no_newline (take n bytes) (sym c.in_default.ensures) in
    (ap newlines (sym all) ∙ clean, record { longer = rw (← all) g.longer; more = rw (← all) g.more })

pub returns-then-bytes-allowed-eq10-clause-fault : goal.returns-then-bytes-allowed-eq10-clause-fault
returns-then-bytes-allowed-eq10-clause-fault c = λ input left more lines p.
    let n = c.if-bytes-room.allowed in
    let bytes = c.args.bytes.now in
    let h : n < length bytes = elim c.if-bytes-room.branch [ then-bytes-room w ↦ omega arith | else-bytes-room w ↦ omega arith ] in
    let full : c.args.self.now.total + n ≡ longest_input =
    elim c.if-bytes-room.branch [ then-bytes-room w ↦ omega arith | else-bytes-room w ↦ omega arith ] in
    let g = c.in-Ok-lengthen.ensures.taken in
    let clean = no_newline (take n bytes) (sym c.in_default.ensures) in
    let q = read.gone_on input lines _ _ (take n bytes) _ _ _ (read.same_left input lines _ _ _ _ (read.cut_at bytes more n h) p) clean g in
    read.input_too_long input lines _ _ (get_or bytes n 0) _ q (omega (arith, full, g.more, length-take-le n bytes (omega arith)))
    (elim c.then-bytes-allowed-eq10.branch [
      | then-bytes-allowed-eq10-via-then-bytes-allowed-eq10 w ↦ inl w.if-bytes-allowed-eq10.true
      | then-bytes-allowed-eq10-via-else-bytes-allowed-eq10+then-len-lt-LONGEST_LINE w ↦ inr (omega (arith, c.lengthen.new.self.line.ok.0))
    ])

pub returns-clause-fault : goal.returns-clause-fault
returns-clause-fault c = λ input left more lines p.
    let n = c.if-bytes-room.allowed in
    let bytes = c.args.bytes.now in
    let h : n < length bytes = elim c.if-bytes-room.branch [ then-bytes-room w ↦ omega arith | else-bytes-room w ↦ omega arith ] in
    let full : c.args.self.now.total + n ≡ longest_input =
    elim c.if-bytes-room.branch [ then-bytes-room w ↦ omega arith | else-bytes-room w ↦ omega arith ] in
    let g = c.in-Ok-lengthen.ensures.taken in
    let clean = no_newline (take n bytes) (sym c.in_default.ensures) in
    let q = read.gone_on input lines _ _ (take n bytes) _ _ _ (read.same_left input lines _ _ _ _ (read.cut_at bytes more n h) p) clean g in
    read.line_too_long input lines _ _ (get_or bytes n 0 ∷ []) _ q (read.one_other (get_or bytes n 0) c.if-bytes-allowed-eq10.false)
    (omega (arith, c.lengthen.new.self.line.ok.0)) (omega (arith, full, g.more, length-take-le n bytes (omega arith)))
