-- What a line of a session in which documents grow adds to what was carried out before.
use Rattle.std.proofs.Common.{◌≡◌, ℕ, ◌≤◌, List, [], ◌∷◌, length, drop, Err, refl, sym, subst}
use Rattle.std.specs.Prelude.{IsTrue}
use Rattle.archive_shape_layout.specs.Writing.{WriterMembers}
use Rattle.cabinet_text_grammar.specs.Tree.{Tree}
use Rattle.cabinet_text.specs.Calls.{AnswersLine}
use Rattle.cabinet_text.specs.Input.{lines_of, longest_line, IsMet}
use Rattle.cabinet_text.specs.LineReading.{IsAt, behind_line, no_line_read}
use Rattle.cabinet_text.specs.Session.{edit_lines}
use Rattle.cabinet_text.specs.Working.{AnswersAsDocument, AnswersUpTo, LeftByLines}
use Rattle.cabinet_text.specs.declared.session.Count.{Count}
use Rattle.cabinet_text.specs.declared.session.RunCause.{RunCause}
use Rattle.cabinet_text.specs.declared.session.RunCause.TheVariants.{Read, Write, OutOfMemory, LineTooLong, InputTooLong}
use Rattle.cabinet_text.proofs.Sessions.{one_more_cut, one_more_left}

-- before the first line
pub starts : (input : List ℕ) → IsAt input input 0 no_line_read
starts input = behind_line [] refl refl refl refl refl

module _ {W : Type 0} (w : WriterMembers W) (bytes : List ℕ) (u v t : Tree) (early late : W) (before after : Count) where
  -- a line in which the session ends
  pub line_fault : (cause : RunCause) → AnswersLine {A = Unit {0}} w bytes u v early late before after (Err cause) → IsTrue w.OBSERVABLE
      → (input old left : List ℕ) (more : List (List ℕ))
      → AnswersAsDocument edit_lines (λ x. u ≡ x) t input old (w.contents early) before.lines before.edits
      → drop before.lines (lines_of input) ≡ bytes ∷ more → length bytes ≤ longest_line
      → AnswersUpTo edit_lines (λ x. v ≡ x) w.COUNTS cause t input old (w.contents late) after.lines after.edits × IsMet cause input left after.lines
  line_fault Read h seen input old left more a next short = absurd h
  line_fault Write h seen input old left more a next short =
      let cut = one_more_cut edit_lines t input old u v (w.contents early) before.lines before.edits after.edits bytes more h.0 a next short
      h.1.says h.1.document h.1.edits w.COUNTS (w.contents late) (h.3.is_cut seen) (h.3.is_short seen) in
      rw h.1.lines (cut, tt)
  line_fault OutOfMemory h seen input old left more a next short =
      let same = subst (λ x. AnswersAsDocument edit_lines (λ y. x ≡ y) t input old (w.contents early) before.lines before.edits) (sym h.1) a in
      rw (h.2, h.3) (same, record { line = bytes; later = more; left = next; some = h.0 })
  line_fault LineTooLong h seen input old left more a next short = absurd h
  line_fault InputTooLong h seen input old left more a next short = absurd h

  pub line_left : (cause : RunCause) → AnswersLine {A = Unit {0}} w bytes u v early late before after (Err cause)
      → LeftByLines edit_lines (λ x. u ≡ x) t before.lines before.edits → LeftByLines edit_lines (λ x. v ≡ x) t after.lines after.edits
  line_left Read h c = absurd h
  line_left Write h c =
      rw h.1.lines (one_more_left edit_lines t u v before.lines before.edits after.edits bytes h.0 c h.1.says h.1.document h.1.edits)
  line_left OutOfMemory h c = rw (h.1, h.3) c
  line_left LineTooLong h c = absurd h
  line_left InputTooLong h c = absurd h
