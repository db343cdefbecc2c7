use Rattle.std.proofs.Common.{◌≡◌, ◌∙◌, refl, sym}
use Rattle.cabinet_text_nodes.specs.Outcomes.{outcome_of}
use Rattle.cabinet_text_nodes.specs.View.{lent_leaf, leaf_of, path_of}
use Rattle.cabinet_text_grammar.specs.Answering.{missing, refused}
use Rattle.cabinet_archives.proofs.Put.{of_same}
use Rattle.cabinet_archives.proofs.Reached.{root_has_value, root_is_sound, none_set, inside_set, accepted_after, image_after, value_as, sound_as, reaches_as, set_as}
use Rattle.cabinet_archives.specs.Found.{OfDocument, Reaches}
use Rattle.cabinet_archives.proofs.Ways.{of_none, of_some}
use Rattle.cabinet_archives.proofs.setting.setting.set.Goals as goal
use Rattle.cabinet_text_grammar.specs.Path.{enters}

pub find_counted-requires : goal.find_counted-requires
find_counted-requires g c = record {
  there = value_as c.new.ensures.bytes (c.new.ensures.pos ∙ c.root_position-root.ensures) (root_has_value c.args.bytes.now c.requires);
  sound = sound_as c.new.ensures.bytes (c.new.ensures.pos ∙ c.root_position-root.ensures) (root_is_sound c.args.bytes.now c.requires);
}

pub returns-in_default : goal.returns-in_default
returns-in_default g c =
    let bytes = c.args.bytes.now in
    let path = path_of c.args.path.now in
    let new = leaf_of c.args.leaf.now in
    let none = of_none (λ found. (found.node.bytes ≡ c.new.result.bytes) × Reaches c.new.result.bytes.now c.new.result.pos path found.node.pos × OfDocument c.new.result.bytes.now c.new.result.pos (λ t. found.in_whole ≡ enters t path)) c.find_counted.result.0 c.in_default.is c.find_counted.ensures.node in
    let sets = none_set bytes path new (of_same _ c.new.ensures.bytes (c.new.ensures.pos ∙ c.root_position-root.ensures) none) in
    record {
      answer = λ t a. (sets t a).answered;
      legal = c.as_ref-new.ensures.leaf;
      bytes = λ t a. (sets t a).left;
      document = accepted_after bytes path new missing bytes sets c.as_ref-new.ensures.leaf;
      image = image_after bytes path new missing bytes sets c.as_ref-new.ensures.leaf;
    }

pub returns-then-found : goal.returns-then-found
returns-then-found g c =
    let bytes = c.args.bytes.now in
    let path = path_of c.args.path.now in
    let new = leaf_of c.args.leaf.now in
    let root = c.new.ensures.pos ∙ c.root_position-root.ensures in
    let some = of_some _ (λ found. (found.node.bytes ≡ c.new.result.bytes) × Reaches c.new.result.bytes.now c.new.result.pos path found.node.pos × OfDocument c.new.result.bytes.now c.new.result.pos (λ t. found.in_whole ≡ enters t path)) c.find_counted.result.0 c.in-Some.found c.in-Some.is c.find_counted.ensures.node in
    let inside = of_same (λ t. c.in-Some.found.in_whole ≡ enters t path) c.new.ensures.bytes root some.2 in
    let sets = inside_set bytes path new c.in-Some.found.node.pos (reaches_as path c.new.ensures.bytes root refl some.1) (λ v t h d. sym (inside v t h d) ∙ c.if-found.true) in
    record {
      answer = λ t a. (sets t a).answered;
      legal = c.as_ref-new.ensures.leaf;
      bytes = λ t a. (sets t a).left;
      document = accepted_after bytes path new refused bytes sets c.as_ref-new.ensures.leaf;
      image = image_after bytes path new refused bytes sets c.as_ref-new.ensures.leaf;
    }

pub returns : goal.returns
returns g c =
    let bytes = c.args.bytes.now in
    let path = path_of c.args.path.now in
    let new = leaf_of c.args.leaf.now in
    let o = outcome_of c.put_leaf.result in
    let some = of_some _ (λ found. (found.node.bytes ≡ c.new.result.bytes) × Reaches c.new.result.bytes.now c.new.result.pos path found.node.pos × OfDocument c.new.result.bytes.now c.new.result.pos (λ t. found.in_whole ≡ enters t path)) c.find_counted.result.0 c.in-Some.found c.in-Some.is c.find_counted.ensures.node in
    let reached = reaches_as path c.new.ensures.bytes (c.new.ensures.pos ∙ c.root_position-root.ensures) c.pos-pos.ensures some.1 in
    let whole = of_same (λ t. c.in-Some.found.in_whole ≡ enters t path) c.new.ensures.bytes (c.new.ensures.pos ∙ c.root_position-root.ensures) some.2 in
    let sets = set_as bytes path (lent_leaf c.as_ref-new.result) new c.pos-pos.result o c.put_leaf.new.bytes c.as_ref-new.ensures.value reached (λ v t h d. sym (whole v t h d) ∙ c.if-found.false) c.put_leaf.ensures.answer c.put_leaf.ensures.bytes in
    record {
      answer = λ t a. (sets t a).answered;
      legal = c.as_ref-new.ensures.leaf;
      bytes = λ t a. (sets t a).left;
      document = accepted_after bytes path new o c.put_leaf.new.bytes sets c.as_ref-new.ensures.leaf;
      image = image_after bytes path new o c.put_leaf.new.bytes sets c.as_ref-new.ensures.leaf;
    }
