use Rattle.std.proofs.Common.{IsUtf8, sym, subst, ◌∙◌, arith}
use Rattle.archive_forms_values.proofs.Ascii.{filled_is_utf8}
use Rattle.archive_forms_values.proofs.Checked.{inline_checked, inline_refused, short_refused, astray_refused, far_checked}
use Rattle.archive_forms_values.proofs.text.check.ArchivedStringCheckBytes.check.Goals as goal

pub returns-then-is_short_ascii-clause-exact : goal.returns-then-is_short_ascii-clause-exact
returns-then-is_short_ascii-clause-exact g c names known =
    inline_checked names c.args.bytes.now c.args.pos c.own_bytes-own.result.now c.own_bytes-own.ensures.own (c.is_inline.ensures.0 c.if-is_inline.true) _
    (filled_is_utf8 c.own_bytes-own.result.now (sym c.is_short_ascii.ensures ∙ c.if-is_short_ascii.true))

pub returns-then-is_utf8-clause-exact : goal.returns-then-is_utf8-clause-exact
returns-then-is_utf8-clause-exact g c names known =
    inline_checked names c.args.bytes.now c.args.pos c.own_bytes-own.result.now c.own_bytes-own.ensures.own (c.is_inline.ensures.0 c.if-is_inline.true) _
    (subst IsUtf8 c.before_filler.ensures.bytes (c.is_utf8.ensures.0 c.if-is_utf8.true))

pub returns-else-is_utf8-clause-exact : goal.returns-else-is_utf8-clause-exact
returns-else-is_utf8-clause-exact g c names known =
    inline_refused names c.args.bytes.now c.args.pos c.own_bytes-own.result.now c.own_bytes-own.ensures.own (c.is_inline.ensures.0 c.if-is_inline.true) _ (g.C.ArchiveContext.kept c.args.context.now)
    (λ utf8.
    let is_true = c.is_utf8.ensures.1 (subst IsUtf8 (sym c.before_filler.ensures.bytes) utf8) in
    let is_false = c.if-is_utf8.false in
    absurd (cc))

pub returns-then-len-le-INLINE_CAPACITY-clause-exact : goal.returns-then-len-le-INLINE_CAPACITY-clause-exact
returns-then-len-le-INLINE_CAPACITY-clause-exact g c names known =
    short_refused names c.args.bytes.now c.args.pos c.own_bytes-own.result.now c.own_bytes-own.ensures.own
    (λ i. let is_true = c.is_inline.ensures.1 i in let is_false = c.if-is_inline.false in absurd (cc))
    c.out_of_line_len-len.result c.out_of_line_len-len.ensures.length _ (g.C.ArchiveContext.kept c.args.context.now) c.if-len-le-INLINE_CAPACITY.true

pub returns-in_default-clause-exact : goal.returns-in_default-clause-exact
returns-in_default-clause-exact g c names known =
    let long = c.if-len-le-INLINE_CAPACITY.false in
    let bound = c.out_of_line_len-len.type_inv in
    astray_refused names c.args.bytes.now c.args.pos c.own_bytes-own.result.now c.own_bytes-own.ensures.own
    (λ i. let is_true = c.is_inline.ensures.1 i in let is_false = c.if-is_inline.false in absurd (cc))
    c.out_of_line_len-len.result c.out_of_line_len-len.ensures.length _ (g.C.ArchiveContext.kept c.args.context.now) (omega arith) bound (sym (c.in_default.ensures))

pub returns-clause-exact : goal.returns-clause-exact
returns-clause-exact g c names known =
    let long = c.if-len-le-INLINE_CAPACITY.false in
    far_checked names c.args.bytes.now c.args.pos c.own_bytes-own.result.now c.own_bytes-own.ensures.own
    (λ i. let is_true = c.is_inline.ensures.1 i in let is_false = c.if-is_inline.false in absurd (cc))
    c.out_of_line_len-len.result c.out_of_line_len-len.ensures.length (omega arith) c.in-Some.start (sym (c.in-Some.ensures)) _ _ _ (c.check_behind.ensures.exact names)
