use Rattle.std.proofs.Common.{◌≡◌, refl, ap, sym, subst, ◌∙◌, arith, Bor, List, ℕ, false, MatchOption}
use Rattle.std.specs.Prelude.{IfSome}
use Rattle.archive_shape_layout.specs.Content.Part.{at}
use Rattle.archive_forms_values.specs.Parts.{HasValue, IsNoneAt, IsSomeAt, IsBoxAt, IsVecAt}
use Rattle.archive_forms_rc.specs.Pointers.{IsRcAt}
use Rattle.cabinet_documents.specs.Node.{node_shape, KnowsNode}
use Rattle.cabinet_text_grammar.specs.Path.{key as key_step}
use Rattle.cabinet_text_nodes.specs.View.{step_of}
use Rattle.cabinet_archives.specs.Hashed.{table_shape, HasBucket}
use Rattle.cabinet_archives.specs.Kept.{index_shape, HasNumbered}
use Rattle.cabinet_archives.specs.Ordered.{map_shape, HasEntry}
use Rattle.cabinet_archives.specs.Way.{StepsTo, steps_key, steps_hashed, steps_kept}
use Rattle.cabinet_archives.specs.Keyed.{KeyLeads, KeyLeadsNowhere, OfMap}
use Rattle.cabinet_archives.specs.Sound.{IsSoundPart}
use Rattle.cabinet_archives.proofs.Ways.{Boxed, matched, empty_none, content_there, content_reached, whole_reached, whole_entered, past_none, element_reached, by_key, found_as}
use Rattle.cabinet_archives.proofs.Tags.{tag_is}
use Rattle.std.proofs.Math.Logic.{∥∥₁_map}
use Rattle.cabinet_archives.proofs.Soundness.{payload_sound}
use Rattle.cabinet_archives.specs.Cost.{no_look_up}
use Rattle.cabinet_archives.proofs.Costs.{inside_takes, place_takes, ordered_takes, hashed_takes, kept_takes}
use Rattle.cabinet_archives.proofs.NoSteps.{not_inside, no_place, no_key, no_step, none_looked_up, outside, not_into_whole}
use Rattle.cabinet_archives.proofs.asking.walk.step_down.Goals.{in_default-via-in-Maybe+in_default, in_default-via-in-List+in_default, in_default-via-in-Ordered+in_default, in_default-via-in-Hashed+in_default, in_default-via-in-Kept+in_default, in_default-via-in-Whole+in_default, in_default-via-in_default}
use Rattle.cabinet_archives.proofs.asking.walk.step_down.Goals as goal

pub returns-in-None-clause-next : goal.returns-in-None-clause-next
returns-in-None-clause-next g c =
    let is = c.in-Maybe-Inside.ensures in
    let none = subst (λ (b : Bor (List ℕ)). IsNoneAt Boxed KnowsNode b.now c.in-Maybe-Inside.maybe.pos) is.0 c.in-None.ensures in
    empty_none c.args.node.bytes.now c.args.node.pos c.in-Maybe-Inside.maybe.pos is.2 (step_of c.args.step.now) none

pub returns-in-None-clause-takes : goal.returns-in-None-clause-takes
returns-in-None-clause-takes g c = inside_takes c.args.node.bytes.now c.args.node.pos (step_of c.args.step.now) (ap step_of c.in-Maybe-Inside.is-1)

pub get-requires : goal.get-requires
get-requires g c =
    let is = c.in-Maybe-Inside.ensures in
    let content = c.in-Some.content in
    let says = c.in-Some.ensures in
    let some = subst (λ (b : Bor (List ℕ)). IsSomeAt Boxed KnowsNode b.now c.in-Maybe-Inside.maybe.pos) is.0 says.2 in
    subst (λ (b : Bor (List ℕ)). HasValue Boxed KnowsNode b.now content.pos) (sym (says.0 ∙ is.0))
    (content_there c.args.node.bytes.now c.args.node.pos c.in-Maybe-Inside.maybe.pos is.2 content.pos says.1 some)

pub returns-in-Some-clause-next : goal.returns-in-Some-clause-next
returns-in-Some-clause-next g c =
    let is = c.in-Maybe-Inside.ensures in
    let content = c.in-Some.content in
    let says = c.in-Some.ensures in
    let some = subst (λ (b : Bor (List ℕ)). IsSomeAt Boxed KnowsNode b.now c.in-Maybe-Inside.maybe.pos) is.0 says.2 in
    let boxed = subst (λ (b : Bor (List ℕ)). IsBoxAt node_shape KnowsNode b.now content.pos c.get.result.pos) (says.0 ∙ is.0) c.get.ensures.value in (
      c.get.ensures.bytes ∙ (says.0 ∙ is.0),
      content_reached c.args.node.bytes.now c.args.node.pos c.in-Maybe-Inside.maybe.pos is.2 c.requires.there c.requires.sound (step_of c.args.step.now) content.pos c.get.result.pos (ap step_of c.in-Maybe-Inside.is-1) is.1 says.1 some boxed,
    )

pub returns-in-Some-clause-takes : goal.returns-in-Some-clause-takes
returns-in-Some-clause-takes g c = inside_takes c.args.node.bytes.now c.args.node.pos (step_of c.args.step.now) (ap step_of c.in-Maybe-Inside.is-1)

pub returns-in-Whole-Inside-clause-next : goal.returns-in-Whole-Inside-clause-next
returns-in-Whole-Inside-clause-next g c =
    let is = c.in-Whole-Inside.ensures in
    let whole = c.in-Whole-Inside.whole in
    let rc = subst (λ (b : Bor (List ℕ)). IsRcAt false node_shape KnowsNode b.now whole.pos c.get-in-Whole-Inside.result.pos) is.0 c.get-in-Whole-Inside.ensures.value in (
      c.get-in-Whole-Inside.ensures.bytes ∙ is.0,
      whole_reached c.args.node.bytes.now c.args.node.pos whole.pos is.2 c.requires.there c.requires.sound (step_of c.args.step.now) c.get-in-Whole-Inside.result.pos (ap step_of c.in-Whole-Inside.is-1) is.1 rc,
    )

pub returns-in-Whole-Inside-clause-takes : goal.returns-in-Whole-Inside-clause-takes
returns-in-Whole-Inside-clause-takes g c = inside_takes c.args.node.bytes.now c.args.node.pos (step_of c.args.step.now) (ap step_of c.in-Whole-Inside.is-1)

pub returns-in-List-Place-clause-takes : goal.returns-in-List-Place-clause-takes
returns-in-List-Place-clause-takes g c = place_takes c.args.node.bytes.now c.args.node.pos (step_of c.args.step.now) c.in-List-Place.place (ap step_of c.in-List-Place.is-1)

pub returns-in-List-Place-clause-next : goal.returns-in-List-Place-clause-next
returns-in-List-Place-clause-next g c =
    let is = c.in-List-Place.ensures in
    let step_is = ap step_of c.in-List-Place.is-1 in
    let got = c.get-in-List-Place.ensures in
    let elements = subst (λ (b : Bor (List ℕ)). IsVecAt node_shape KnowsNode b.now c.in-List-Place.list.pos got.0 got.1) is.0 got.2 in
    matched _ _ c.get-in-List-Place.result
    (past_none c.args.node.bytes.now c.args.node.pos c.in-List-Place.list.pos is.2 got.0 got.1 elements (step_of c.args.step.now) c.in-List-Place.place step_is)
    (λ next says. (says.1 ∙ is.0, element_reached c.args.node.bytes.now c.args.node.pos c.in-List-Place.list.pos is.2 got.0 got.1 elements c.requires.there c.requires.sound (step_of c.args.step.now) c.in-List-Place.place next.pos step_is is.1 says.0 says.2))
    got.3

pub get_counted-requires-clause-sound : goal.get_counted-requires-clause-sound
get_counted-requires-clause-sound g c =
    let is = c.in-Ordered-Key.ensures in
    let map = c.in-Ordered-Key.map in
    subst (λ (b : Bor (List ℕ)). IsSoundPart b.now (at map.pos map_shape)) (sym is.0)
    (subst (λ n. IsSoundPart c.args.node.bytes.now (at n map_shape)) (sym is.1) (∥∥₁_map c.requires.sound (λ walk. payload_sound c.args.node.bytes.now c.requires.there walk (omega arith) is.2)))

pub returns-in-Ordered-Key-clause-next : goal.returns-in-Ordered-Key-clause-next
returns-in-Ordered-Key-clause-next g c =
    let is = c.in-Ordered-Key.ensures in
    let bytes = c.args.node.bytes in
    let pos = c.args.node.pos in
    let map = c.in-Ordered-Key.map in
    let key = c.as_str.result.now in
    let step_is = ap step_of c.in-Ordered-Key.is-1 ∙ ap key_step (sym c.as_str.ensures.value) in
    let got = c.get_counted.ensures in
    by_key bytes pos map.pos is.2 (omega arith) (omega arith) (step_of c.args.step.now) key step_is c.get_counted.result.0
    (subst (λ (b : Bor (List ℕ)). OfMap map_shape b.now map.pos (λ v. MatchOption c.get_counted.result.0 (KeyLeadsNowhere v key) (λ node. (node.bytes ≡ b) × KeyLeads b.now v key node.pos))) is.0 got.leads)
    (found_as (λ node. HasEntry bytes.now map.pos key node.pos) (λ node. StepsTo bytes.now pos (step_of c.args.step.now) node.pos) c.get_counted.result.0
    (λ node entry. steps_key step_is (tag_is bytes.now pos c.requires.there is.2) (subst (λ n. HasEntry bytes.now n key node.pos) is.1 entry))
    (subst (λ (b : Bor (List ℕ)). IfSome c.get_counted.result.0 (λ node. HasEntry b.now map.pos key node.pos)) is.0 got.way))
    (subst (λ (b : Bor (List ℕ)). IfSome c.get_counted.result.0 (λ node. IsSoundPart b.now (at node.pos node_shape))) is.0 got.sound)

pub get_counted-requires-in-Hashed-Key-clause-sound : goal.get_counted-requires-in-Hashed-Key-clause-sound
get_counted-requires-in-Hashed-Key-clause-sound g c =
    let is = c.in-Hashed-Key.ensures in
    let map = c.in-Hashed-Key.map in
    subst (λ (b : Bor (List ℕ)). IsSoundPart b.now (at map.pos table_shape)) (sym is.0)
    (subst (λ n. IsSoundPart c.args.node.bytes.now (at n table_shape)) (sym is.1) (∥∥₁_map c.requires.sound (λ walk. payload_sound c.args.node.bytes.now c.requires.there walk (omega arith) is.2)))

pub returns-in-Hashed-Key-clause-next : goal.returns-in-Hashed-Key-clause-next
returns-in-Hashed-Key-clause-next g c =
    let is = c.in-Hashed-Key.ensures in
    let bytes = c.args.node.bytes in
    let pos = c.args.node.pos in
    let map = c.in-Hashed-Key.map in
    let key = c.as_str-in-Hashed-Key.result.now in
    let step_is = ap step_of c.in-Hashed-Key.is-1 ∙ ap key_step (sym c.as_str-in-Hashed-Key.ensures.value) in
    let got = c.get_counted-in-Hashed-Key.ensures in
    by_key bytes pos map.pos is.2 (omega arith) (omega arith) (step_of c.args.step.now) key step_is c.get_counted-in-Hashed-Key.result.0
    (subst (λ (b : Bor (List ℕ)). OfMap table_shape b.now map.pos (λ v. MatchOption c.get_counted-in-Hashed-Key.result.0 (KeyLeadsNowhere v key) (λ node. (node.bytes ≡ b) × KeyLeads b.now v key node.pos))) is.0 got.leads)
    (found_as (λ node. HasBucket bytes.now map.pos key node.pos) (λ node. StepsTo bytes.now pos (step_of c.args.step.now) node.pos) c.get_counted-in-Hashed-Key.result.0
    (λ node bucket. steps_hashed step_is (tag_is bytes.now pos c.requires.there is.2) (subst (λ n. HasBucket bytes.now n key node.pos) is.1 bucket))
    (subst (λ (b : Bor (List ℕ)). IfSome c.get_counted-in-Hashed-Key.result.0 (λ node. HasBucket b.now map.pos key node.pos)) is.0 got.way))
    (subst (λ (b : Bor (List ℕ)). IfSome c.get_counted-in-Hashed-Key.result.0 (λ node. IsSoundPart b.now (at node.pos node_shape))) is.0 got.sound)

pub get_counted-requires-in-Kept-Key-clause-sound : goal.get_counted-requires-in-Kept-Key-clause-sound
get_counted-requires-in-Kept-Key-clause-sound g c =
    let is = c.in-Kept-Key.ensures in
    let map = c.in-Kept-Key.map in
    subst (λ (b : Bor (List ℕ)). IsSoundPart b.now (at map.pos index_shape)) (sym is.0)
    (subst (λ n. IsSoundPart c.args.node.bytes.now (at n index_shape)) (sym is.1) (∥∥₁_map c.requires.sound (λ walk. payload_sound c.args.node.bytes.now c.requires.there walk (omega arith) is.2)))

pub returns-in-Kept-Key-clause-next : goal.returns-in-Kept-Key-clause-next
returns-in-Kept-Key-clause-next g c =
    let is = c.in-Kept-Key.ensures in
    let bytes = c.args.node.bytes in
    let pos = c.args.node.pos in
    let map = c.in-Kept-Key.map in
    let key = c.as_str-in-Kept-Key.result.now in
    let step_is = ap step_of c.in-Kept-Key.is-1 ∙ ap key_step (sym c.as_str-in-Kept-Key.ensures.value) in
    let got = c.get_counted-in-Kept-Key.ensures in
    by_key bytes pos map.pos is.2 (omega arith) (omega arith) (step_of c.args.step.now) key step_is c.get_counted-in-Kept-Key.result.0
    (subst (λ (b : Bor (List ℕ)). OfMap index_shape b.now map.pos (λ v. MatchOption c.get_counted-in-Kept-Key.result.0 (KeyLeadsNowhere v key) (λ node. (node.bytes ≡ b) × KeyLeads b.now v key node.pos))) is.0 got.leads)
    (found_as (λ node. HasNumbered bytes.now map.pos key node.pos) (λ node. StepsTo bytes.now pos (step_of c.args.step.now) node.pos) c.get_counted-in-Kept-Key.result.0
    (λ node numbered. steps_kept step_is (tag_is bytes.now pos c.requires.there is.2) (subst (λ n. HasNumbered bytes.now n key node.pos) is.1 numbered))
    (subst (λ (b : Bor (List ℕ)). IfSome c.get_counted-in-Kept-Key.result.0 (λ node. HasNumbered b.now map.pos key node.pos)) is.0 got.way))
    (subst (λ (b : Bor (List ℕ)). IfSome c.get_counted-in-Kept-Key.result.0 (λ node. IsSoundPart b.now (at node.pos node_shape))) is.0 got.sound)

pub returns-in-Ordered-Key-clause-takes : goal.returns-in-Ordered-Key-clause-takes
returns-in-Ordered-Key-clause-takes g c =
    let is = c.in-Ordered-Key.ensures in
    let map = c.in-Ordered-Key.map in
    let step_is = ap step_of c.in-Ordered-Key.is-1 ∙ ap key_step (sym c.as_str.ensures.value) in
    let got = c.get_counted.ensures in
    ordered_takes c.args.node.bytes c.args.node.pos c.requires.there map.bytes map.pos is.0 is.1 (step_of c.args.step.now) c.as_str.result.now step_is c.get_counted.result.1.comparisons c.get_counted.result.1.strides is.2 got.compares got.searches

pub returns-in-Hashed-Key-clause-takes : goal.returns-in-Hashed-Key-clause-takes
returns-in-Hashed-Key-clause-takes g c =
    let is = c.in-Hashed-Key.ensures in
    let map = c.in-Hashed-Key.map in
    let step_is = ap step_of c.in-Hashed-Key.is-1 ∙ ap key_step (sym c.as_str-in-Hashed-Key.ensures.value) in
    let got = c.get_counted-in-Hashed-Key.ensures in
    hashed_takes c.args.node.bytes c.args.node.pos c.requires.there map.bytes map.pos is.0 is.1 (step_of c.args.step.now) c.as_str-in-Hashed-Key.result.now step_is c.get_counted-in-Hashed-Key.result.1.comparisons c.get_counted-in-Hashed-Key.result.1.strides is.2 got.compares got.searches

pub returns-in-Kept-Key-clause-takes : goal.returns-in-Kept-Key-clause-takes
returns-in-Kept-Key-clause-takes g c =
    let is = c.in-Kept-Key.ensures in
    let map = c.in-Kept-Key.map in
    let step_is = ap step_of c.in-Kept-Key.is-1 ∙ ap key_step (sym c.as_str-in-Kept-Key.ensures.value) in
    let got = c.get_counted-in-Kept-Key.ensures in
    kept_takes c.args.node.bytes c.args.node.pos c.requires.there map.bytes map.pos is.0 is.1 (step_of c.args.step.now) c.as_str-in-Kept-Key.result.now step_is c.get_counted-in-Kept-Key.result.1.comparisons c.get_counted-in-Kept-Key.result.1.strides is.2 got.compares got.searches

pub returns-in_default-clause-next : goal.returns-in_default-clause-next
returns-in_default-clause-next g c =
    let none = no_step c.args.node.bytes c.args.node.pos c.kind.result (step_of c.args.step.now) c.kind.ensures in
    elim c.in_default.branch [
      | in_default-via-in-Maybe+in_default w ↦ none (λ r e. not_inside c.args.step.now w.in_default.not-Inside-1) (λ r e. let is = w.in_default.is-0 in absurd (cc)) (λ r e. let is = w.in_default.is-0 in absurd (cc)) (λ r e. let is = w.in_default.is-0 in absurd (cc)) (λ r e. let is = w.in_default.is-0 in absurd (cc)) (λ r e. let is = w.in_default.is-0 in absurd (cc))
      | in_default-via-in-List+in_default w ↦ none (λ r e. let is = w.in_default.is-0 in absurd (cc)) (λ r e. no_place c.args.step.now w.in_default.not-Place-1) (λ r e. let is = w.in_default.is-0 in absurd (cc)) (λ r e. let is = w.in_default.is-0 in absurd (cc)) (λ r e. let is = w.in_default.is-0 in absurd (cc)) (λ r e. let is = w.in_default.is-0 in absurd (cc))
      | in_default-via-in-Ordered+in_default w ↦ none (λ r e. let is = w.in_default.is-0 in absurd (cc)) (λ r e. let is = w.in_default.is-0 in absurd (cc)) (λ r e. no_key c.args.step.now w.in_default.not-Key-1) (λ r e. let is = w.in_default.is-0 in absurd (cc)) (λ r e. let is = w.in_default.is-0 in absurd (cc)) (λ r e. let is = w.in_default.is-0 in absurd (cc))
      | in_default-via-in-Hashed+in_default w ↦ none (λ r e. let is = w.in_default.is-0 in absurd (cc)) (λ r e. let is = w.in_default.is-0 in absurd (cc)) (λ r e. let is = w.in_default.is-0 in absurd (cc)) (λ r e. no_key c.args.step.now w.in_default.not-Key-1) (λ r e. let is = w.in_default.is-0 in absurd (cc)) (λ r e. let is = w.in_default.is-0 in absurd (cc))
      | in_default-via-in-Kept+in_default w ↦ none (λ r e. let is = w.in_default.is-0 in absurd (cc)) (λ r e. let is = w.in_default.is-0 in absurd (cc)) (λ r e. let is = w.in_default.is-0 in absurd (cc)) (λ r e. let is = w.in_default.is-0 in absurd (cc)) (λ r e. no_key c.args.step.now w.in_default.not-Key-1) (λ r e. let is = w.in_default.is-0 in absurd (cc))
      | in_default-via-in-Whole+in_default w ↦ none (λ r e. let is = w.in_default.is-0 in absurd (cc)) (λ r e. let is = w.in_default.is-0 in absurd (cc)) (λ r e. let is = w.in_default.is-0 in absurd (cc)) (λ r e. let is = w.in_default.is-0 in absurd (cc)) (λ r e. let is = w.in_default.is-0 in absurd (cc)) (λ r e. not_inside c.args.step.now w.in_default.not-Inside-1)
      | in_default-via-in_default w ↦ none (λ r e. absurd (w.in_default.not-Maybe-0 r e)) (λ r e. absurd (w.in_default.not-List-0 r e)) (λ r e. absurd (w.in_default.not-Ordered-0 r e)) (λ r e. absurd (w.in_default.not-Hashed-0 r e)) (λ r e. absurd (w.in_default.not-Kept-0 r e)) (λ r e. absurd (w.in_default.not-Whole-0 r e))
    ]

pub returns-in_default-clause-takes : goal.returns-in_default-clause-takes
returns-in_default-clause-takes g c = no_look_up (λ look.
    let none = none_looked_up c.args.node.bytes c.args.node.pos c.requires.there c.kind.result (step_of c.args.step.now) c.kind.ensures in
    elim c.in_default.branch [
      | in_default-via-in-Maybe+in_default w ↦ none (λ r e. let is = w.in_default.is-0 in absurd (cc)) (λ r e. let is = w.in_default.is-0 in absurd (cc)) (λ r e. let is = w.in_default.is-0 in absurd (cc)) look
      | in_default-via-in-List+in_default w ↦ none (λ r e. let is = w.in_default.is-0 in absurd (cc)) (λ r e. let is = w.in_default.is-0 in absurd (cc)) (λ r e. let is = w.in_default.is-0 in absurd (cc)) look
      | in_default-via-in-Ordered+in_default w ↦ none (λ r e. no_key c.args.step.now w.in_default.not-Key-1) (λ r e. let is = w.in_default.is-0 in absurd (cc)) (λ r e. let is = w.in_default.is-0 in absurd (cc)) look
      | in_default-via-in-Hashed+in_default w ↦ none (λ r e. let is = w.in_default.is-0 in absurd (cc)) (λ r e. no_key c.args.step.now w.in_default.not-Key-1) (λ r e. let is = w.in_default.is-0 in absurd (cc)) look
      | in_default-via-in-Kept+in_default w ↦ none (λ r e. let is = w.in_default.is-0 in absurd (cc)) (λ r e. let is = w.in_default.is-0 in absurd (cc)) (λ r e. no_key c.args.step.now w.in_default.not-Key-1) look
      | in_default-via-in-Whole+in_default w ↦ none (λ r e. let is = w.in_default.is-0 in absurd (cc)) (λ r e. let is = w.in_default.is-0 in absurd (cc)) (λ r e. let is = w.in_default.is-0 in absurd (cc)) look
      | in_default-via-in_default w ↦ none (λ r e. absurd (w.in_default.not-Ordered-0 r e)) (λ r e. absurd (w.in_default.not-Hashed-0 r e)) (λ r e. absurd (w.in_default.not-Kept-0 r e)) look
    ]) refl refl

pub returns-in_default-clause-whole : goal.returns-in_default-clause-whole
returns-in_default-clause-whole g c =
    let none = not_into_whole c.args.node.bytes c.args.node.pos c.kind.result (step_of c.args.step.now) c.kind.ensures in
    elim c.in_default.branch [
      | in_default-via-in-Maybe+in_default w ↦ none (λ r e. let is = w.in_default.is-0 in absurd (cc))
      | in_default-via-in-List+in_default w ↦ none (λ r e. let is = w.in_default.is-0 in absurd (cc))
      | in_default-via-in-Ordered+in_default w ↦ none (λ r e. let is = w.in_default.is-0 in absurd (cc))
      | in_default-via-in-Hashed+in_default w ↦ none (λ r e. let is = w.in_default.is-0 in absurd (cc))
      | in_default-via-in-Kept+in_default w ↦ none (λ r e. let is = w.in_default.is-0 in absurd (cc))
      | in_default-via-in-Whole+in_default w ↦ none (λ r e. not_inside c.args.step.now w.in_default.not-Inside-1)
      | in_default-via-in_default w ↦ none (λ r e. absurd (w.in_default.not-Whole-0 r e))
    ]

pub returns-in-Some-clause-whole : goal.returns-in-Some-clause-whole
returns-in-Some-clause-whole g c = outside c.args.node.bytes.now c.args.node.pos (step_of c.args.step.now) c.in-Maybe-Inside.ensures.2 (λ e. absurd (omega (arith, e)))

pub returns-in-None-clause-whole : goal.returns-in-None-clause-whole
returns-in-None-clause-whole g c = outside c.args.node.bytes.now c.args.node.pos (step_of c.args.step.now) c.in-Maybe-Inside.ensures.2 (λ e. absurd (omega (arith, e)))

pub returns-in-List-Place-clause-whole : goal.returns-in-List-Place-clause-whole
returns-in-List-Place-clause-whole g c = outside c.args.node.bytes.now c.args.node.pos (step_of c.args.step.now) c.in-List-Place.ensures.2 (λ e. absurd (omega (arith, e)))

pub returns-in-Ordered-Key-clause-whole : goal.returns-in-Ordered-Key-clause-whole
returns-in-Ordered-Key-clause-whole g c = outside c.args.node.bytes.now c.args.node.pos (step_of c.args.step.now) c.in-Ordered-Key.ensures.2 (λ e. absurd (omega (arith, e)))

pub returns-in-Hashed-Key-clause-whole : goal.returns-in-Hashed-Key-clause-whole
returns-in-Hashed-Key-clause-whole g c = outside c.args.node.bytes.now c.args.node.pos (step_of c.args.step.now) c.in-Hashed-Key.ensures.2 (λ e. absurd (omega (arith, e)))

pub returns-in-Kept-Key-clause-whole : goal.returns-in-Kept-Key-clause-whole
returns-in-Kept-Key-clause-whole g c = outside c.args.node.bytes.now c.args.node.pos (step_of c.args.step.now) c.in-Kept-Key.ensures.2 (λ e. absurd (omega (arith, e)))

pub returns-in-Whole-Inside-clause-whole : goal.returns-in-Whole-Inside-clause-whole
returns-in-Whole-Inside-clause-whole g c =
    let is = c.in-Whole-Inside.ensures in
    let whole = c.in-Whole-Inside.whole in
    let rc = subst (λ (b : Bor (List ℕ)). IsRcAt false node_shape KnowsNode b.now whole.pos c.get-in-Whole-Inside.result.pos) is.0 c.get-in-Whole-Inside.ensures.value in
    whole_entered c.args.node.bytes.now c.args.node.pos whole.pos is.2 (step_of c.args.step.now) c.get-in-Whole-Inside.result.pos (ap step_of c.in-Whole-Inside.is-1) rc
