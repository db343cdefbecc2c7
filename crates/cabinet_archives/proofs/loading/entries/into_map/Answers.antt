use Rattle.std.proofs.Common.{◌≡◌, ◌∙◌, List, [], ◌∷◌, length, refl, sym, ap, arith}
use Rattle.std.specs.Vec.Iter.{into_iter_items}
use Rattle.cabinet_text_nodes.specs.View.{node_pairs}
use Rattle.cabinet_archives.specs.Loading.{all_added}
use Rattle.cabinet_archives.proofs.LoadedMemory.{on_err}
use Rattle.cabinet_archives.proofs.loading.entries.into_map.Goals as goal

no_items : {A : Type 0} (xs : List A) → length xs ≡ 0 → xs ≡ []
no_items [] none = refl
no_items (x ∷ xs) none = absurd (omega (arith, none))

pub loop-key-init : goal.loop-key-init
loop-key-init c =
    let gives = c.into_iter-key-iterator.ensures.into_iter_gives in
    record {
      added = λ table.
          ap (λ es. all_added (node_pairs table es) (node_pairs table c.new-map.result.entries)) gives.0
          ∙ ap (λ es. all_added (node_pairs table c.args.pairs.items) (node_pairs table es)) c.new-map.ensures.empty;
      counted = gives.1 ∙ c.args.pairs.ok.0 ∙ ap length (sym gives.0);
      some = λ left none. left (gives.0 ∙ none);
    }

pub loop-key-preserved : goal.loop-key-preserved
loop-key-preserved c =
    let steps = c.in-Some.ensures.steps in
    let left = into_iter_items c.next.new.self in
    let counted = c.loop-key.invariant.counted in
    record {
      added = λ table.
          ap (all_added (node_pairs table left)) (c.in_ok-add_pair.ensures table)
          ∙ ap (λ es. all_added (node_pairs table es) (node_pairs table c.loop-key.map.entries)) (sym steps.0)
          ∙ c.loop-key.invariant.added table;
      counted = omega (arith, steps.1, counted, ap length steps.0);
      some = λ left none. c.loop-key.invariant.some (λ e. let never = sym steps.0 ∙ e in absurd (cc)) none;
    }

pub returns-clause-added : goal.returns-clause-added
returns-clause-added c = λ table.
    let none = no_items (into_iter_items c.loop-key.key-iterator) (sym c.loop-key.invariant.counted ∙ c.in-None.ensures.steps.0) in
    ap (λ es. all_added (node_pairs table es) (node_pairs table c.loop-key.map.entries)) (sym none) ∙ c.loop-key.invariant.added table

pub returns-in_err-add_pair-clause-memory : goal.returns-in_err-add_pair-clause-memory
returns-in_err-add_pair-clause-memory c = on_err _ (c.loop-key.invariant.some (λ e. let never = sym c.in-Some.ensures.steps.0 ∙ e in absurd (cc)))
