use Rattle.std.proofs.Common.{sym, ap}
use Rattle.archive_forms_laws.specs.Views.{text_of}
use Rattle.archive_shape.proofs.Held.{claims_within}
use Rattle.archive_forms_laws.proofs.Held.{held_is_text_law, text_value}
use Rattle.archive_forms_comparing.proofs.text.text_at.Goals as goal

pub as_str-requires : goal.as_str-requires
as_str-requires c =
    let h = c.requires.held in
    (held_is_text_law h.names c.args.this.now.bytes.now h.level h.inside c.args.this.now.pos c.requires.value h.regions h.before h.after h.own_within (claims_within h) h.holds).stands.there

pub returns : goal.returns
returns c = λ v h.
    let there = held_is_text_law h.names c.args.this.now.bytes.now h.level h.inside c.args.this.now.pos v h.regions h.before h.after h.own_within (claims_within h) h.holds in
    sym (ap text_of (text_value c.args.this.now.bytes.now c.args.this.now.pos _ v there c.as_str.ensures))
