-- What is read back of values without bytes and of texts.
use Rattle.std.proofs.Common.{◌≡◌, ℕ, List, refl, sym, ap, ◌∙◌}
use Rattle.std.specs.Prelude.{String}
use Rattle.std.specs.String.{string_bytes}
use Rattle.std.specs.Global.{Global}
use Rattle.archive_shape_layout.specs.Shape.Shape.{tuple, text}
use Rattle.archive_shape_layout.specs.Shape.Shapes.{no_shapes}
use Rattle.archive_shape_layout.specs.Value.{Value, Values}
use Rattle.archive_shape_layout.specs.Value.Value.{natural, integer, boolean, string, group, chosen, counted, back}
use Rattle.archive_shape_layout.specs.Value.Values.{no_values, more_values}
use Rattle.archive_shape_layout.specs.Content.{Names, shape_content, fields, members}
use Rattle.archive_shape_layout.proofs.Unique.{by_plain}
use Rattle.archive_shape_canonical.specs.Sharing.{erased}
use Rattle.archive_shape.specs.Key.{HeldAt}
use Rattle.archive_shape.proofs.Held.{claims_within}
use Rattle.archive_forms_laws.specs.Text.{HasText, IsText, IsTextThere}
use Rattle.archive_forms_laws.proofs.Held.{held_is_text_law, text_value}
use Rattle.archive_forms_writing.specs.Owned.{string_spelling}
use Rattle.archive_forms_values.specs.Parts.{HasValue}
use Rattle.archive_forms_values.proofs.Inside.{none_held}
use Rattle.archive_forms_values.proofs.Pointed.{made_whole}
use Rattle.archive_forms.specs.Deserializing.{IsReadAt}
use Rattle.archive_forms.specs.Reading.{reads_as}

module _ (knows : Names → Type 0) (bytes : List ℕ) (pos : ℕ) where
  -- a value without fields is the empty group
  pub unit_read : (v : Value) → HeldAt (tuple no_shapes) knows bytes pos v → group no_values ≡ erased v
  unfolding shape_content fields
  unit_read v h =
      let says = by_plain h.names bytes refl h.holds in
      sym (ap erased (made_whole says.vs v says.is_made ∙ ap group (none_held h.names bytes says.all)))

  text_there : (v : Value) → HeldAt text knows bytes pos v → IsTextThere bytes pos v
  text_there v h = held_is_text_law h.names bytes h.level h.inside pos v h.regions h.before h.after h.own_within (claims_within h) h.holds

  -- a text is where the layout has one
  pub text_has : HasValue text knows bytes pos → HasText bytes pos
  text_has h = (text_there h.value h.held).stands.there

  pub text_read : (x : String Global) (t : List ℕ) → string_bytes x ≡ t → IsText bytes pos t → IsReadAt (reads_as string_spelling) text knows bytes pos x
  text_read x t e is v h = ap string e ∙ sym (ap erased (text_value bytes pos t v (text_there v h) is))

-- a value with members is a group
pub members_of_group : (v : Value) (w : Value) (ws : Values) → members v ≡ more_values w ws → v ≡ group (members v)
members_of_group (group vs) w ws e = refl
members_of_group (natural n) w ws e = absurd (cc)
members_of_group (integer n) w ws e = absurd (cc)
members_of_group (boolean b) w ws e = absurd (cc)
members_of_group (string bs) w ws e = absurd (cc)
members_of_group (chosen n vs) w ws e = absurd (cc)
members_of_group (counted n v) w ws e = absurd (cc)
members_of_group (back n) w ws e = absurd (cc)
