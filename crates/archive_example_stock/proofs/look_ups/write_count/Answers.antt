use Rattle.std.proofs.Common.{◌≡◌, ◌∙◌, ℕ, List, rules}
use Rattle.archive_shape_layout.specs.Shape.Shapes.{no_shapes}
use Rattle.archive_forms_values.specs.Fields.{field_position}
use Rattle.archive_hash_maps.proofs.Roots.{places_of_value}
use Rattle.archive_example_stock.specs.Stock.{number_shape}
use Rattle.archive_example_stock.proofs.Edits.{answers_at, by_visit, counts_at, not_some, number_put, seen_or_none, small_at, told_of, written_or_same}
use Rattle.archive_example_stock.proofs.look_ups.write_count.Goals as goal

pub visit_key_value_seal-found-requires-clause-has : goal.visit_key_value_seal-found-requires-clause-has
visit_key_value_seal-found-requires-clause-has c = counts_at _ _ c.new-counts.ensures.bytes _ _ c.new-counts.ensures.pos c.requires

-- a count has four bytes
pub visit_key_value_seal-found-requires-clause-callable : goal.visit_key_value_seal-found-requires-clause-callable
visit_key_value_seal-found-requires-clause-callable c at entry key value there lent = lent.own_value.len

pub returns-clause-told : goal.returns-clause-told
returns-clause-told c es answers =
    let here = answers_at _ _ _ _ _ _ _ _ _ _ _ _ _ _ es c.new-counts.ensures.bytes c.new-counts.ensures.pos answers in
    let v = c.visit_key_value_seal-found.ensures here.buckets here.map in
    told_of _ _ _ _ _ _ _ _ _ _ _ _ es here c.args.shelf _ _ v.0 c.visit_key_value_seal-found.result v.1 _ c.is_some.ensures v.2 ∙ seen_or_none {E = ℕ × ℕ} (λ e. e.1) _

pub returns-clause-kept : goal.returns-clause-kept
returns-clause-kept c none =
    let m = places_of_value (counts_at _ _ c.new-counts.ensures.bytes _ _ c.new-counts.ensures.pos c.requires) in
    let v = c.visit_key_value_seal-found.ensures m.buckets m.table in
    by_visit _ _ v.0 c.visit_key_value_seal-found.result v.2
    (λ nothing not_found same.
    let here : (out : List ℕ) → out ≡ c.visit_key_value_seal-found.new.this.0 → out ≡ c.args.root.bytes.now = λ out is. is ∙ same.1 ∙ c.new-counts.ensures.bytes in
    here _ (search rules))
    (λ at answer something found leaves. absurd (not_some _ _ answer c.is_some.ensures none something))

pub returns-clause-answers : goal.returns-clause-answers
returns-clause-answers c es once answers =
    let mid = c.new-counts.result.bytes.now in
    let left = c.visit_key_value_seal-found.new.this.0 in
    let here = answers_at _ _ _ _ _ _ _ _ _ _ _ _ _ _ es c.new-counts.ensures.bytes c.new-counts.ensures.pos answers in
    let v = c.visit_key_value_seal-found.ensures here.buckets here.map in
    let one = c.held_once.ensures.leaves tt in
    written_or_same _ _ _ _ _ _ _ _ _ _ mid c.new-counts.result.pos es here c.args.shelf _ _ v.0 c.visit_key_value_seal-found.result v.1 c.args.count left _ _ v.2
    (λ p answer leaves looked small.
    let met = leaves.called.2.met in
    let place = field_position number_shape no_shapes number_shape p in
    let put = number_put mid left leaves.own leaves.left.now.own.now leaves.value.now.own.now place c.args.count leaves.is leaves.as_long leaves.lent.own leaves.lent.len (leaves.stays met.1.0) met.1.1.0 in
    c.edited_map_answers.ensures mid left c.new-counts.result.pos c.args.shelf c.args.count es one one (small_at _ mid c.new-counts.ensures.bytes c.each_is_a_byte.ensures) small once (record {
      at = p;
      has = counts_at _ _ c.new-counts.ensures.bytes _ _ c.new-counts.ensures.pos c.requires;
      answers = here;
      found = looked;
      differs = put.0;
      held = λ state. put.1;
    }))
    c.new-counts.ensures.pos c.each_is_a_byte-2.ensures (search rules)
