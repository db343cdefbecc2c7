use Rattle.std.proofs.Common.{◌≡◌, ◌==◌, ℕ, false, List, Bor, MatchOption, refl, sym, subst, ◌∙◌}
use Rattle.std.specs.Prelude.{All}
use Rattle.std.proofs.lemmas.List.Elements.{All-head, All-tail}
use Rattle.archive_forms_laws.specs.Text.{IsText}
use Rattle.archive_hash_maps.specs.Tables.{IsTableAt}
use Rattle.cabinet_documents.specs.Node.{pair_shape}
use Rattle.cabinet_archives.specs.Keyed.{knows_pairs}
use Rattle.cabinet_archives.specs.declared.opening.refusal.OpenRefusal.TheVariants as refusal
use Rattle.cabinet_archives.specs.Hashed.{table_shape}
use Rattle.cabinet_archives.proofs.Auditing.{value_as}
use Rattle.cabinet_archives.proofs.TableAudit.{HasPair, ArePlacesLeft, all_places, told_none, key_there, told_wrong, told_lost, rest_left}
use Rattle.cabinet_archives.proofs.maps.hashed.hashed_sound.Goals as goal

pub full_places-control-items-requires : goal.full_places-control-items-requires
full_places-control-items-requires g c = value_as table_shape knows_pairs (sym c.table.ensures.bytes) (sym c.table.ensures.pos) c.requires

pub loop-control-init : goal.loop-control-init
loop-control-init g c =
    let gives = c.into_iter-control-iterator.ensures.into_iter_gives in
    let map = c.args.map in
    let table = c.table.ensures in
    record {
      there = subst (All HasPair) (sym gives) c.full_places-control-items.ensures.there;
      left = λ b is.
          let there = subst (λ (x : Bor (List ℕ)). IsTableAt x.now pair_shape c.table.result.pos b) (sym table.bytes) (subst (λ n. IsTableAt map.bytes.now pair_shape n b) (sym table.pos) is) in
          subst (λ (x : Bor (List ℕ)). ArePlacesLeft x b c.into_iter-control-iterator.result) table.bytes
          (all_places c.table.result.bytes b c.into_iter-control-iterator.result (gives ∙ c.full_places-control-items.ensures.places b there));
    }

pub key_of-key-requires : goal.key_of-key-requires
key_of-key-requires g c = All-head HasPair _ _ (subst (All HasPair) c.in-Some.ensures.steps c.loop-control.invariant.there)

pub search_own-requires-clause-own : goal.search_own-requires-clause-own
search_own-requires-clause-own g c =
    let map = c.args.map in
    subst (λ n. IsText map.bytes.now n c.key_of-key.result.now) (sym c.pos-own.ensures)
    (key_there map.bytes map.pos c.requires (c.in-Some.field-0-0, c.in-Some.control, c.in-Some.pair) c.loop-control.control-iterator c.next.new.self c.in-Some.ensures.steps c.loop-control.invariant.left c.key_of-key.result.now c.key_of-key.ensures)

pub returns-then-tag_of-control : goal.returns-then-tag_of-control
returns-then-tag_of-control g c =
    let map = c.args.map in
    told_wrong map.bytes map.pos c.requires (c.in-Some.field-0-0, c.in-Some.control, c.in-Some.pair) c.loop-control.control-iterator c.next.new.self c.in-Some.ensures.steps c.loop-control.invariant.left c.key_of-key.result.now c.key_of-key.ensures
    c.tag_of.result c.hash_text-hash.result c.hash_text-hash.ensures c.tag_of.ensures.value c.if-tag_of-control.true refusal.WrongTag refl

pub returns-then-not-is_found_at : goal.returns-then-not-is_found_at
returns-then-not-is_found_at g c =
    let map = c.args.map in
    told_lost map.bytes map.pos c.requires (c.in-Some.field-0-0, c.in-Some.control, c.in-Some.pair) c.loop-control.control-iterator c.next.new.self c.in-Some.ensures.steps c.loop-control.invariant.left c.key_of-key.result.now c.key_of-key.ensures
    c.tag_of.result c.hash_text-hash.result c.hash_text-hash.ensures c.tag_of.ensures.value c.if-tag_of-control.false c.is_found_at.result c.search_own.result.0 c.hash_text-hash.type_inv (λ b table. (c.search_own.result.1, c.search_own.ensures b table)) (subst (λ n. MatchOption c.search_own.result.0 (c.is_found_at.result ≡ false) (λ at. c.is_found_at.result ≡ (at == n))) c.pos-own.ensures c.is_found_at.ensures) c.if-not-is_found_at.true refusal.NotFound refl

pub loop-control-preserved : goal.loop-control-preserved
loop-control-preserved g c =
    let map = c.args.map in
    record {
      there = All-tail HasPair _ _ (subst (All HasPair) c.in-Some.ensures.steps c.loop-control.invariant.there);
      left =
          rest_left map.bytes map.pos c.requires (c.in-Some.field-0-0, c.in-Some.control, c.in-Some.pair) c.loop-control.control-iterator c.next.new.self c.in-Some.ensures.steps c.loop-control.invariant.left c.key_of-key.result.now c.key_of-key.ensures
          c.tag_of.result c.hash_text-hash.result c.hash_text-hash.ensures c.tag_of.ensures.value c.if-tag_of-control.false c.is_found_at.result c.search_own.result.0 c.hash_text-hash.type_inv (λ b table. (c.search_own.result.1, c.search_own.ensures b table)) (subst (λ n. MatchOption c.search_own.result.0 (c.is_found_at.result ≡ false) (λ at. c.is_found_at.result ≡ (at == n))) c.pos-own.ensures c.is_found_at.ensures) c.if-not-is_found_at.false;
    }

pub returns : goal.returns
returns g c = told_none c.args.map.bytes c.args.map.pos c.loop-control.control-iterator c.in-None.ensures.steps.0 c.requires c.loop-control.invariant.left
