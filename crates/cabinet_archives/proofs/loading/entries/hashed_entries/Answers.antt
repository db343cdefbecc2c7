use Rattle.std.proofs.Common.{◌≡◌, ◌≢◌, ℕ, ◌+◌, ◌++◌, ◌∷◌, [], Bor, List, map, sym, ap, ap₂, subst, ◌∙◌, append-nil, append_assoc}
use Rattle.std.specs.Prelude.{⊤, All}
use Rattle.std.proofs.lemmas.List.Elements.{All-nil, All-head, All-tail}
use Rattle.archive_shape_layout.specs.Value.Value.{string}
use Rattle.archive_forms_laws.specs.Text.{HasText, IsText}
use Rattle.cabinet_documents.specs.Denotes.{tagged_value}
use Rattle.cabinet_archives.specs.Hashed.{table_shape}
use Rattle.cabinet_archives.specs.Keyed.{knows_pairs}
use Rattle.cabinet_archives.specs.Loading.{HasTree, OfTree, IsEntry, LeadTo}
use Rattle.cabinet_archives.proofs.LoadedEntries.{LoadedPair, Keyed, positions, AreSorting, same_string, one_there, sorting_on, sorting_done}
use Rattle.cabinet_archives.proofs.LoadedMemory.{on_err, some_left, map_takes, sorting_takes}
use Rattle.cabinet_archives.proofs.LoadedMaps.{hashed_bytes, hashed_there, hashed_sorting}
use Rattle.cabinet_archives.proofs.Payloads.{text_has, text_is}
use Rattle.cabinet_archives.proofs.loading.entries.hashed_entries.Goals as goal

pub loop-key-init : goal.loop-key-init
loop-key-init c =
    let bytes = c.args.map.bytes in
    let gives = c.into_iter-key-iterator.ensures.into_iter_gives in
    let left = c.iter-key-items.result in
    let are = c.iter-key-items.ensures.entries in
    record {
      bytes = subst (All (λ (e : LoadedPair). e.0.bytes ≡ bytes)) (sym gives) (hashed_bytes bytes c.requires.1 left are);
      left = λ outer has. subst (λ es. All (IsEntry bytes.now (outer + 1)) (map positions es)) (sym gives) (hashed_there bytes has left are);
      there = λ outer has. subst (λ es. All (IsEntry bytes.now (outer + 1)) (map (λ (e : Keyed). e.1) es)) (sym c.new-sorted.ensures.empty) (All-nil (IsEntry bytes.now (outer + 1)));
      sorting =
          subst (λ es. OfTree (tagged_value 7) table_shape knows_pairs bytes.now c.args.map.pos (AreSorting bytes.now (map positions es) c.new-sorted.result.entries)) (sym gives)
          (subst (λ es. OfTree (tagged_value 7) table_shape knows_pairs bytes.now c.args.map.pos (AreSorting bytes.now (map positions left) es)) (sym c.new-sorted.ensures.empty) (hashed_sorting bytes c.requires.1 left are));
    }

pub as_str-requires : goal.as_str-requires
as_str-requires c =
    let map_bytes = c.args.map.bytes in
    let key = c.in-Some.key in
    let all = subst (All (λ (e : LoadedPair). e.0.bytes ≡ map_bytes)) c.in-Some.ensures.steps c.loop-key.invariant.bytes in
    let same = All-head (λ (e : LoadedPair). e.0.bytes ≡ map_bytes) (key, c.in-Some.node) c.next.new.self all in
    let left = subst (λ es. All (IsEntry map_bytes.now (c.requires.0 + 1)) (map positions es)) c.in-Some.ensures.steps (c.loop-key.invariant.left c.requires.0 c.requires.1) in
    let first = All-head (IsEntry map_bytes.now (c.requires.0 + 1)) (key.pos, c.in-Some.node.pos) (map positions c.next.new.self) left in
    subst (λ (b : Bor (List ℕ)). HasText b.now key.pos) (sym same) (text_has (λ _. ⊤) map_bytes.now key.pos first.0)

pub loop-key-preserved : goal.loop-key-preserved
loop-key-preserved c =
    let map_bytes = c.args.map.bytes in
    let bytes = map_bytes.now in
    let key = c.in-Some.key in
    let steps = c.in-Some.ensures.steps in
    let later = c.next.new.self in
    let sorted = c.loop-key.sorted.entries in
    let at : ℕ × ℕ = (c.pos.result, c.pos-in-loop-key.result) in
    let at_is : at ≡ (key.pos, c.in-Some.node.pos) = ap₂ (λ x y. (x, y)) c.pos.ensures c.pos-in-loop-key.ensures in
    let all = subst (All (λ (e : LoadedPair). e.0.bytes ≡ map_bytes)) steps c.loop-key.invariant.bytes in
    let same = All-head (λ (e : LoadedPair). e.0.bytes ≡ map_bytes) (key, c.in-Some.node) later all in
    let text = subst (λ n. IsText bytes n c.as_str.result.now) (sym c.pos.ensures) (subst (λ (b : Bor (List ℕ)). IsText b.now key.pos c.as_str.result.now) same c.as_str.ensures) in
    let left : (outer : ℕ) → HasTree (tagged_value 7) table_shape knows_pairs bytes c.args.map.pos outer → All (IsEntry bytes (outer + 1)) (at ∷ map positions later) =
    λ outer has. subst (λ e. All (IsEntry bytes (outer + 1)) (e ∷ map positions later)) (sym at_is) (subst (λ es. All (IsEntry bytes (outer + 1)) (map positions es)) steps (c.loop-key.invariant.left outer has)) in
    record {
      bytes = All-tail (λ (e : LoadedPair). e.0.bytes ≡ map_bytes) (key, c.in-Some.node) later all;
      left = λ outer has. All-tail (IsEntry bytes (outer + 1)) at (map positions later) (left outer has);
      there = λ outer has.
          subst (λ es. All (IsEntry bytes (outer + 1)) (map (λ (e : Keyed). e.1) es)) (sym c.in_ok-insert.ensures.entries)
          (one_there bytes (outer + 1) sorted c.as_str.result at (All-head (IsEntry bytes (outer + 1)) at (map positions later) (left outer has)) (c.loop-key.invariant.there outer has));
      sorting = λ v t h d.
          subst (λ es. AreSorting bytes (map positions later) es t) (sym c.in_ok-insert.ensures.entries)
          (sorting_on bytes at (map positions later) sorted c.as_str.result (λ k held. same_string (text_is (λ _. ⊤) bytes at.0 c.as_str.result.now text (string k) held))
          (subst (λ e. AreSorting bytes (e ∷ map positions later) sorted t) (sym at_is) (subst (λ es. AreSorting bytes (map positions es) sorted t) steps (c.loop-key.invariant.sorting v t h d))));
    }

pub loop-entry-init : goal.loop-entry-init
loop-entry-init c = ap (λ es. es ++ c.into_iter-entry-iterator.result) c.new-entries.ensures.items

pub loop-entry-preserved : goal.loop-entry-preserved
loop-entry-preserved c =
    let entries = c.loop-entry.entries.items in
    let entry = c.in-Some-entry.entry.now in
    ap (λ es. es ++ c.next-in-loop-entry.new.self) c.in_ok-push.ensures.items
    ∙ append_assoc entries (entry ∷ []) c.next-in-loop-entry.new.self
    ∙ ap (λ es. entries ++ es) (sym c.in-Some-entry.ensures.steps)
    ∙ c.loop-entry.invariant

pub returns-clause-entries : goal.returns-clause-entries
returns-clause-entries c = λ outer has.
    let bytes = c.args.map.bytes.now in
    let sorted = c.loop-key.sorted.entries in
    let entries = c.loop-entry.entries.items in
    let same : entries ≡ map (λ (e : Keyed). e.1) sorted =
    sym (append-nil entries) ∙ ap (λ es. entries ++ es) (sym c.in-None-entry.ensures.steps.0) ∙ c.loop-entry.invariant ∙ c.into_iter-entry-iterator.ensures.into_iter_gives ∙ c.values-entry-items.ensures.rest in (
      subst (All (IsEntry bytes (outer + 1))) (sym same) (c.loop-key.invariant.there outer has),
      λ v t h d.
          let done = sorting_done bytes sorted (subst (λ es. AreSorting bytes (map positions es) sorted t) c.in-None.ensures.steps.0 (c.loop-key.invariant.sorting v t h d)) in
          (done.0, done.1, subst (λ es. LeadTo bytes es done.0) (sym same) done.2),
    )

pub returns-in_err-insert-clause-memory : goal.returns-in_err-insert-clause-memory
returns-in_err-insert-clause-memory c = on_err c.from_residual.result (λ v t h d.
    sorting_takes c.args.map.bytes.now (positions (c.in-Some.key, c.in-Some.node)) (map positions c.next.new.self) c.loop-key.sorted.entries
    (subst (λ es. AreSorting c.args.map.bytes.now (map positions es) c.loop-key.sorted.entries t) c.in-Some.ensures.steps (c.loop-key.invariant.sorting v t h d)))

pub returns-in_err-push-clause-memory : goal.returns-in_err-push-clause-memory
returns-in_err-push-clause-memory c =
    let bytes = c.args.map.bytes.now in
    let sorted = c.loop-key.sorted.entries in
    let entries = c.loop-entry.entries.items in
    let same : entries ++ c.loop-entry.entry-iterator ≡ map (λ (e : Keyed). e.1) sorted = c.loop-entry.invariant ∙ c.into_iter-entry-iterator.ensures.into_iter_gives ∙ c.values-entry-items.ensures.rest in
    on_err c.from_residual-in_err-push.result (map_takes bytes (map (λ (e : Keyed). e.1) sorted) (subst (λ es. es ≢ []) same (some_left entries c.in-Some-entry.ensures.steps))
    (λ v t h d. sorting_done bytes sorted (subst (λ es. AreSorting bytes (map positions es) sorted t) c.in-None.ensures.steps.0 (c.loop-key.invariant.sorting v t h d))))
