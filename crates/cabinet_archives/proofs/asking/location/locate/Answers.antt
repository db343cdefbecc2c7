use Rattle.std.proofs.Common.{◌≡◌, ◌∙◌}
use Rattle.std.specs.Option.{option_map}
use Rattle.cabinet_text_nodes.specs.Kinds.{kind_of}
use Rattle.cabinet_text_grammar.specs.Path.{node_at}
use Rattle.cabinet_text_nodes.specs.View.{path_of}
use Rattle.cabinet_archives.proofs.Exact.{of_accepted, counted_exactly}
use Rattle.cabinet_archives.proofs.Reached.{root_has_value, root_is_sound, value_as, sound_as}
use Rattle.cabinet_archives.proofs.asking.location.locate.Goals as goal

pub kind_at-requires : goal.kind_at-requires
kind_at-requires g c = record {
  there = value_as c.new-root.ensures.bytes (c.new-root.ensures.pos ∙ c.root_position.ensures) (root_has_value c.args.bytes.now c.requires);
  sound = sound_as c.new-root.ensures.bytes (c.new-root.ensures.pos ∙ c.root_position.ensures) (root_is_sound c.args.bytes.now c.requires);
}

pub returns-clause-kind : goal.returns-clause-kind
returns-clause-kind g c = λ t a.
    of_accepted c.new-root.ensures.bytes (c.new-root.ensures.pos ∙ c.root_position.ensures) (λ u. c.kind_at.result.0 ≡ option_map kind_of (node_at u (path_of c.args.path.now))) c.kind_at.ensures.kind t a

pub returns-clause-takes : goal.returns-clause-takes
returns-clause-takes g c =
    counted_exactly c.new-root.ensures.bytes (c.new-root.ensures.pos ∙ c.root_position.ensures) c.type_inv.bytes c.requires c.kind_at.ensures.counts
