use Rattle.std.proofs.Common.{◌≡◌, ◌≤◌, List, ℕ, length, slice_index, false, true, sym, subst, refl, arith}
use Rattle.archive_shape_layout.specs.Content.{IsInline}
use Rattle.archive_forms_values.proofs.Placed.{inline_room}
use Rattle.archive_forms_values.proofs.text.string.ArchivedString.put_text.Goals as goal

abbrev begins : List ℕ → Type 0
begins own = IsInline (slice_index own 0)

pub returns-then-not-is_inline-clause-contents : goal.returns-then-not-is_inline-clause-contents
returns-then-not-is_inline-clause-contents c =
    (refl, ((λ i. let e : false ≡ true = c.if-not-is_inline.ensures.1 (subst begins (sym c.as_ref.ensures.bytes) i) in cc), refl))

pub write_at-requires : goal.write_at-requires
write_at-requires c =
    let fits : length c.args.text.now ≤ length c.args.this.now.own.now = inline_room c.args.this.now.own.now (length c.args.text.now) (subst begins c.as_ref.ensures.bytes (c.if-not-is_inline.ensures.0 refl)) c.requires.same_length in
    omega arith

pub returns-clause-contents : goal.returns-clause-contents
returns-clause-contents c = (subst begins c.as_ref.ensures.bytes (c.if-not-is_inline.ensures.0 refl), c.write_at.ensures)
