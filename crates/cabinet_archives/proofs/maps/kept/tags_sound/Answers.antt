use Rattle.std.proofs.Common.{ℕ, ◌+◌, ◌≤◌, List, length, Bor, refl, sym, ap, subst, ◌∙◌}
use Rattle.archive_shape_layout.specs.Bytes.{word_at}
use Rattle.std.specs.Prelude.{All}
use Rattle.std.proofs.lemmas.List.Elements.{All-head, All-tail}
use Rattle.archive_forms_laws.specs.Sample.{number_shape}
use Rattle.archive_hash_maps.specs.Tables.{IsTableAt}
use Rattle.cabinet_archives.specs.declared.opening.refusal.OpenRefusal.TheVariants as refusal
use Rattle.cabinet_archives.proofs.IndexAudit.{HasNumber, AreNumbersLeft, all_numbers, number_low, tags_none, tags_wrong, tags_left}
use Rattle.cabinet_archives.proofs.KeptEntries.{key_stands}
use Rattle.cabinet_archives.proofs.maps.kept.tags_sound.Goals as goal

pub loop-control-init : goal.loop-control-init
loop-control-init c =
    let gives = c.into_iter-control-iterator.ensures.into_iter_gives in
    let map = c.args.map in
    let table = c.table.ensures in
    record {
      there = subst (All HasNumber) (sym gives) c.full_places-control-items.ensures.there;
      left = λ m stands.
          let there = subst (λ (x : Bor (List ℕ)). IsTableAt x.now number_shape c.table.result.pos m.buckets) (sym table.bytes) (subst (λ n. IsTableAt map.bytes.now number_shape n m.buckets) (sym table.pos) stands.table) in
          subst (λ (x : Bor (List ℕ)). AreNumbersLeft x map.pos m c.into_iter-control-iterator.result) table.bytes
          (all_numbers c.table.result.bytes map.pos m c.into_iter-control-iterator.result (gives ∙ c.full_places-control-items.ensures.places m.buckets there));
    }

pub number_at-requires : goal.number_at-requires
number_at-requires c =
    subst (λ n. n + 4 ≤ length c.in-Some.number.bytes.now) (sym c.pos.ensures)
    (All-head HasNumber (c.in-Some.field-0-0, c.in-Some.control, c.in-Some.number) _ (subst (All HasNumber) c.in-Some.ensures.steps c.loop-control.invariant.there)).held.own_within

pub key_of-requires-clause-within : goal.key_of-requires-clause-within
key_of-requires-clause-within c =
    let map = c.args.map in
    let number = c.number_at.ensures.value ∙ ap (word_at c.in-Some.number.bytes.now) c.pos.ensures in
    number_low map.bytes map.pos c.requires (c.in-Some.field-0-0, c.in-Some.control, c.in-Some.number) c.loop-control.control-iterator c.next.new.self c.in-Some.ensures.steps c.loop-control.invariant.left c.number_at.result number

pub returns-then-tag_of-control : goal.returns-then-tag_of-control
returns-then-tag_of-control c =
    let map = c.args.map in
    let number = c.number_at.ensures.value ∙ ap (word_at c.in-Some.number.bytes.now) c.pos.ensures in
    tags_wrong map.bytes map.pos c.requires (c.in-Some.field-0-0, c.in-Some.control, c.in-Some.number) c.loop-control.control-iterator c.next.new.self c.in-Some.ensures.steps c.loop-control.invariant.left c.number_at.result number
    c.key_of.result.1.now (key_stands map.bytes.now map.pos c.number_at.result c.key_of.result.0 c.key_of.result.1.now c.key_of.ensures.position c.key_of.ensures.text) c.tag_of.result c.hash_text.result c.hash_text.ensures c.tag_of.ensures.value c.if-tag_of-control.true refusal.WrongTag refl

pub loop-control-preserved : goal.loop-control-preserved
loop-control-preserved c =
    let map = c.args.map in
    let number = c.number_at.ensures.value ∙ ap (word_at c.in-Some.number.bytes.now) c.pos.ensures in
    record {
      there = All-tail HasNumber _ _ (subst (All HasNumber) c.in-Some.ensures.steps c.loop-control.invariant.there);
      left =
          tags_left map.bytes map.pos c.requires (c.in-Some.field-0-0, c.in-Some.control, c.in-Some.number) c.loop-control.control-iterator c.next.new.self c.in-Some.ensures.steps c.loop-control.invariant.left c.number_at.result number
          c.key_of.result.1.now (key_stands map.bytes.now map.pos c.number_at.result c.key_of.result.0 c.key_of.result.1.now c.key_of.ensures.position c.key_of.ensures.text) c.tag_of.result c.hash_text.result c.hash_text.ensures c.tag_of.ensures.value c.if-tag_of-control.false;
    }

pub returns : goal.returns
returns c = tags_none c.args.map.bytes c.args.map.pos c.loop-control.control-iterator c.in-None.ensures.steps.0 c.requires c.loop-control.invariant.left
