use Rattle.std.proofs.Common.{◌≡◌, ◌+◌, ◌<◌, false, ◌++◌, length, inr, sym, ap, ◌∙◌, subst}
use Rattle.archive_shape_layout.specs.Writing.{WriterMembers, Cut, IsCounted}
use Rattle.cabinet_archives.proofs.Saves.{cut_of, short_of, nothing_cut, unsaved}
use Rattle.cabinet_archives.proofs.saving.saving.save.Goals as goal

pub returns-in-Err : goal.returns-in-Err
returns-in-Err g c =
    let m : WriterMembers g.row.W.Denot = record { known = g.W.Registry.known; pos = g.W.Positional.pos; OBSERVABLE = g.W.Writer.OBSERVABLE; COUNTS = g.W.Writer.COUNTS; contents = g.W.Writer.contents; failures = g.W.Writer.failures; last_error = g.W.Writer.last_error } in
    record {
      saved = tt;
      within = tt;
      quiet = tt;
      refused = unsaved m c.args.document.now c.args.writer.now c.in-Err.refusal c.in-Err.ensures.refused;
      cut = λ image is_image tells. nothing_cut (g.W.Writer.contents c.args.writer.now) image;
    }

pub returns-in-Ok-write-clause-saved : goal.returns-in-Ok-write-clause-saved
returns-in-Ok-write-clause-saved g c = λ tells. record {
  image = c.in-Ok.image.items;
  is_image = c.in-Ok.ensures.image;
  written = c.in-Ok-write.ensures.gains tells ∙ ap (λ l. g.W.Writer.contents c.args.writer.now ++ l) c.as_slice.ensures.value;
}

pub returns-in-Err-write-clause-cut : goal.returns-in-Err-write-clause-cut
returns-in-Err-write-clause-cut g c = λ image is_image tells.
    cut_of c.args.document.now _ _ c.in-Ok.image.items image c.in-Ok.ensures.image
    (subst (Cut _ _) c.as_slice.ensures.value (c.in-Err-write.ensures.is_cut tells)) is_image

pub returns-clause-refused : goal.returns-clause-refused
returns-clause-refused g c =
    let failed = c.in-Err-2.ensures in
    let old = c.args.writer.now in
    let new = c.write.new.self in
    let uncounted : g.W.Writer.COUNTS ≡ false = sym c.counts.ensures ∙ c.if-counts.false in
    let quiet = subst (λ b. IsCounted b (g.W.Writer.failures old) (g.W.Writer.failures new) c.in-Err-2.field-0) uncounted failed.is_counted in (
      inr uncounted,
      quiet.0,
      λ image is_image tells.
          short_of c.args.document.now _ _ c.in-Ok.image.items image c.in-Ok.ensures.image
          (subst (λ l. length (g.W.Writer.contents new) < length (g.W.Writer.contents old) + length l) c.as_slice.ensures.value (failed.is_short tells uncounted)) is_image,
    )

pub returns-clause-cut : goal.returns-clause-cut
returns-clause-cut g c = λ image is_image tells.
    cut_of c.args.document.now _ _ c.in-Ok.image.items image c.in-Ok.ensures.image
    (subst (Cut _ _) c.as_slice.ensures.value (c.in-Err-2.ensures.is_cut tells)) is_image
