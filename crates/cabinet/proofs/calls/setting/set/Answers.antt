use Rattle.std.proofs.Common.{◌≡◌, Some, None, refl, subst, rules, arith}
use Rattle.cabinet_text_grammar.specs.Line.{set, Says}
use Rattle.cabinet_text_nodes.specs.Lines.{IsQuestion}
use Rattle.cabinet_text_nodes.specs.Outcomes.{outcome_of}
use Rattle.cabinet_text_nodes.specs.View.{line_of, leaf_of, path_of}
use Rattle.cabinet.proofs.Sessions.{edited_by_set}
use Rattle.cabinet.specs.ByteCalls.Sets.{carries_out, out_of_memory}
use Rattle.cabinet.proofs.CallsLines.{sets_along, sets_edit, sets_question}
use Rattle.cabinet.proofs.calls.setting.set.Goals as goal

pub returns-in-Err-Bad : goal.returns-in-Err-Bad
returns-in-Err-Bad c = carries_out None (rw c.in-Err-Bad.field-0-is at c.in-Err-Bad.ensures.refused) (refl, refl)

pub returns-in-Err-OutOfMemory : goal.returns-in-Err-OutOfMemory
returns-in-Err-OutOfMemory c =
    let h = rw c.in-Err-OutOfMemory.field-0-is at c.in-Err-OutOfMemory.ensures.refused in
    out_of_memory h.0 h.1 h.2 refl refl

pub returns-in-Set : goal.returns-in-Set
returns-in-Set c =
    let e = c.set.ensures in
    let path = path_of c.deref.result.now in
    let leaf = leaf_of c.in-Set.leaf in
    let s : line_of c.in-Ok.edit ≡ set path leaf = search rules in
    let says = subst (λ q. Says c.args.line.now (Some q)) s c.in-Ok.ensures.said in
    let edited = edited_by_set _ _ path leaf (Some (set path leaf)) (outcome_of c.set.result) refl e.answer e.bytes e.document e.image in
    sets_along _ _ _ _ _ _ (sets_edit _ _ _ _ path leaf (outcome_of c.set.result) says c.of_outcome.ensures e.answer edited) c.new-opened.ensures.contents
    (grind (arith, c.new-opened.ensures, e))

pub returns : goal.returns
returns c = let q : IsQuestion (line_of c.in-Ok.edit) = search rules in sets_question _ _ _ _ (line_of c.in-Ok.edit) q c.in-Ok.ensures.said refl refl
