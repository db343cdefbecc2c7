use Rattle.std.proofs.Common.{rules, ◌≡◌, length, sym, ap, subst, ◌∙◌}
use Rattle.std.specs.Rc.{rc_str_bytes}
use Rattle.archive_shape_layout.specs.Bytes.{window}
use Rattle.archive_shape.proofs.Pieces.{length-window}
use Rattle.archive_forms.specs.Keeping.{IsTextAt}
use Rattle.archive_forms.proofs.Counted.{rc_str_leads, rc_str_has, rc_str_read}
use Rattle.archive_forms.proofs.Kept.{kept_of}
use Rattle.archive_forms.proofs.deserializing.shared_str.deserialize_rc_str.Goals as goal

pub target_of-key-requires-clause-leads : goal.target_of-key-requires-clause-leads
target_of-key-requires-clause-leads g c = rc_str_leads c.args.this.bytes.now c.args.this.pos c.requires.there

pub get-text-requires : goal.get-text-requires
get-text-requires g c = rc_str_has c.args.this.bytes.now c.args.this.pos c.requires.there

pub returns-then-len-text-clause-value : goal.returns-then-len-text-clause-value
returns-then-len-text-clause-value g c =
    let bytes = c.args.this.bytes.now in
    let key = c.target_of-key.result in
    let value = c.in-Some.value in
    let text = c.get-text.result.now in
    let there = c.get-text.ensures in
    let found = kept_of _ (g.D.Keeps.kept c.args.deserializer.now key) value (rw c.in-Some.is at c.in_ok-value.ensures) in
    let read = g.met.D.Keeps.kept_is_read c.args.deserializer.now bytes key found.0 c.requires.kept found.1 in
    let stands : IsTextAt bytes key (rc_str_bytes value) = subst (IsTextAt bytes key) (sym found.2) read in
    let long : length (rc_str_bytes value) ≡ length text = search rules in
    let led : there.0 ≡ key = let one = there.2.points in let two = c.target_of-key.ensures in cc in
    let size : length text ≡ there.1 = ap length there.3 ∙ length-window bytes there.0 there.1 there.2.within in
    let is : text ≡ window bytes key there.1 = there.3 ∙ ap (λ n. window bytes n there.1) led in
    let same : rc_str_bytes value ≡ text = stands ∙ (ap (window bytes key) (long ∙ size) ∙ sym is) in
    rc_str_read bytes c.args.this.pos there.0 there.1 (record { key = key; value = value }) there.2 (same ∙ there.3)

pub returns-clause-value : goal.returns-clause-value
returns-clause-value g c =
    let there = c.get-text.ensures in
    rc_str_read c.args.this.bytes.now c.args.this.pos there.0 there.1 (record { key = c.target_of-key.result; value = c.in_ok-value-2.value }) there.2
    (ap rc_str_bytes c.in_ok-value-2.ensures.value ∙ (c.in-Ok.ensures.ok ∙ there.3))
