use Rattle.std.proofs.Common.{◌≡◌, refl, ap, subst, ◌∙◌, ◌+◌, ◌∷◌, [], ◌++◌, take, drop, Bor, List, ℕ, arith, sym, ap₂, ◌||◌}
use Rattle.cabinet_text_nodes.specs.View.{step_of, path_of}
use Rattle.cabinet_archives.specs.Cost.{StepTakes}
use Rattle.cabinet_archives.specs.Found.{Reaches, ReachesNone, OfDocument}
use Rattle.cabinet_archives.proofs.Costs.{counts_none, counts_step, counts_no_more}
use Rattle.cabinet_archives.proofs.Paths.{path_through, path_parts}
use Rattle.cabinet_archives.proofs.Ways.{of_none, of_some, reaches_self, reaches_on, none_after, none_before}
use Rattle.cabinet_archives.proofs.asking.walk.find_counted.Goals.{then-found, else-found}
use Rattle.cabinet_archives.proofs.asking.walk.find_counted.Goals as goal
use Rattle.cabinet_text_grammar.specs.Path.{enters}
use Rattle.cabinet_archives.proofs.Entering.{enters_nil, enters_on}

pub loop-step-init : goal.loop-step-init
loop-step-init g c = (refl, reaches_self c.args.root.bytes.now c.args.root.pos c.requires.there c.requires.sound, (λ v t h d. sym (enters_nil t)), counts_none c.args.root.bytes.now c.args.root.pos)

pub returns-in-None-clause-node : goal.returns-in-None-clause-node
returns-in-None-clause-node g c =
    let path = c.args.path.now in
    let root = c.args.root in
    let i = c.loop-step.step-index in
    let step = c.step-item.result in
    let rest = path_of (drop (i + 1) path) in
    let says = c.loop-step.invariant in
    let none = of_none (λ next. (next.bytes ≡ c.loop-step.found.node.bytes) × Reaches c.loop-step.found.node.bytes.now c.loop-step.found.node.pos (step_of step ∷ []) next.pos) c.step_down-is_whole.result.0 c.in-None.is c.step_down-is_whole.ensures.next in
    let here = subst (λ (b : Bor (List ℕ)). ReachesNone b.now c.loop-step.found.node.pos (step_of step ∷ [])) says.0 none in
    let parts = path_parts path (i + 1) ∙ ap (λ p. p ++ rest) (path_through path i step (omega arith) c.step-item.is) in
    rw parts (none_before root.bytes.now root.pos (path_of (take i path) ++ (step_of step ∷ [])) rest (none_after root.bytes.now root.pos (step_of step ∷ []) says.1 here))

pub returns-in-None-clause-counts : goal.returns-in-None-clause-counts
returns-in-None-clause-counts g c =
    let path = c.args.path.now in
    let root = c.args.root in
    let i = c.loop-step.step-index in
    let step = c.step-item.result in
    let rest = path_of (drop (i + 1) path) in
    let says = c.loop-step.invariant in
    let none = of_none (λ next. (next.bytes ≡ c.loop-step.found.node.bytes) × Reaches c.loop-step.found.node.bytes.now c.loop-step.found.node.pos (step_of step ∷ []) next.pos) c.step_down-is_whole.result.0 c.in-None.is c.step_down-is_whole.ensures.next in
    let here = subst (λ (b : Bor (List ℕ)). ReachesNone b.now c.loop-step.found.node.pos (step_of step ∷ [])) says.0 none in
    let taken = c.step_down-is_whole.result.2 in
    let takes = subst (λ (b : Bor (List ℕ)). StepTakes b.now c.loop-step.found.node.pos (step_of step) taken.comparisons taken.strides) says.0 c.step_down-is_whole.ensures.takes in
    let parts = path_parts path (i + 1) ∙ ap (λ p. p ++ rest) (path_through path i step (omega arith) c.step-item.is) in
    rw parts
    (counts_no_more root.bytes.now root.pos rest (counts_step root.bytes.now root.pos (step_of step) c.saturating_add.result c.saturating_add-in-loop-step.result says.3 says.1 takes c.saturating_add.ensures c.saturating_add-in-loop-step.ensures) (none_after root.bytes.now root.pos (step_of step ∷ []) says.1 here))

pub loop-step-preserved : goal.loop-step-preserved
loop-step-preserved g c =
    let path = c.args.path.now in
    let root = c.args.root in
    let i = c.loop-step.step-index in
    let step = c.step-item.result in
    let says = c.loop-step.invariant in
    let some = of_some _ (λ next. (next.bytes ≡ c.loop-step.found.node.bytes) × Reaches c.loop-step.found.node.bytes.now c.loop-step.found.node.pos (step_of step ∷ []) next.pos) c.step_down-is_whole.result.0 c.in-Some.node c.in-Some.is c.step_down-is_whole.ensures.next in
    let next = subst (λ (b : Bor (List ℕ)). Reaches b.now c.loop-step.found.node.pos (step_of step ∷ []) c.in-Some.node.pos) says.0 some.1 in
    let taken = c.step_down-is_whole.result.2 in
    let takes = subst (λ (b : Bor (List ℕ)). StepTakes b.now c.loop-step.found.node.pos (step_of step) taken.comparisons taken.strides) says.0 c.step_down-is_whole.ensures.takes in
    let through = path_through path i step (omega arith) c.step-item.is in
    let either : c.if-found.found ≡ (c.loop-step.found.in_whole || c.step_down-is_whole.result.1) =
    elim c.if-found.branch [
      | then-found w ↦ w.found-is ∙ w.if-found.true ∙ sym (ap (λ b. b || c.step_down-is_whole.result.1) w.if-found.true)
      | else-found w ↦ w.found-is ∙ sym (ap (λ b. b || c.step_down-is_whole.result.1) w.if-found.false)
    ] in (
      some.0 ∙ says.0,
      rw through (reaches_on root.bytes.now root.pos says.1 next),
      rw through (λ v t h d.
          let s = says.1.stands v t h d in
          let into = subst (λ (b : Bor (List ℕ)). OfDocument b.now c.loop-step.found.node.pos (λ u. c.step_down-is_whole.result.1 ≡ enters u (step_of step ∷ []))) says.0 c.step_down-is_whole.ensures.whole in
          either ∙ ap₂ (λ x y. x || y) (says.2 v t h d) (into s.node.value s.tree s.node.held s.node.denotes) ∙ sym (enters_on (path_of (take i path)) (step_of step ∷ []) t s.tree s.there)),
      rw through (counts_step root.bytes.now root.pos (step_of step) c.saturating_add.result c.saturating_add-in-loop-step.result says.3 says.1 takes c.saturating_add.ensures c.saturating_add-in-loop-step.ensures),
    )
