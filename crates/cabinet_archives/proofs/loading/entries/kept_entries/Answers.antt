use Rattle.std.proofs.Common.{◌++◌, map, sym, ap, ◌∙◌, append-nil}
use Rattle.cabinet_archives.proofs.LoadedEntries.{positions, pushed}
use Rattle.cabinet_archives.proofs.LoadedMaps.{kept_are}
use Rattle.cabinet_archives.proofs.LoadedMemory.{on_err, some_left, map_takes}
use Rattle.cabinet_archives.proofs.loading.entries.kept_entries.Goals as goal

pub loop-key-init : goal.loop-key-init
loop-key-init c = λ m stands.
    ap (λ es. es ++ map positions c.into_iter-key-iterator.result) c.new-entries.ensures.items ∙ ap (map positions) (c.into_iter-key-iterator.ensures.into_iter_gives ∙ c.iter-key-items.ensures.entries m stands)

pub loop-key-preserved : goal.loop-key-preserved
loop-key-preserved c = λ m stands.
    ap (λ es. es ++ map positions c.next.new.self) c.in_ok-push.ensures.items
    ∙ pushed c.loop-key.entries.items c.pos.result c.pos-in-loop-key.result (c.in-Some.key, c.in-Some.node) c.next.new.self c.pos.ensures c.pos-in-loop-key.ensures
    ∙ ap (λ es. c.loop-key.entries.items ++ map positions es) (sym c.in-Some.ensures.steps)
    ∙ c.loop-key.invariant m stands

pub returns-clause-entries : goal.returns-clause-entries
returns-clause-entries c = λ outer has.
    kept_are c.args.map.bytes has c.loop-key.entries.items
    (λ m stands. sym (append-nil c.loop-key.entries.items) ∙ ap (λ es. c.loop-key.entries.items ++ map positions es) (sym c.in-None.ensures.steps.0) ∙ c.loop-key.invariant m stands)

pub returns-in_err-push-clause-memory : goal.returns-in_err-push-clause-memory
returns-in_err-push-clause-memory c =
    let all = c.loop-key.entries.items ++ map positions c.loop-key.key-iterator in
    on_err c.from_residual.result (map_takes c.args.map.bytes.now all (some_left c.loop-key.entries.items (ap (map positions) c.in-Some.ensures.steps))
    (kept_are c.args.map.bytes c.requires.1 all c.loop-key.invariant).1)
