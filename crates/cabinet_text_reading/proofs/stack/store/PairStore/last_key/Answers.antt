use Rattle.std.proofs.Common.{◌-◌, length, sym, ap, ◌∙◌}
use Rattle.std.specs.Prelude.{slice_get}
use Rattle.cabinet_text_reading.proofs.stack.store.PairStore.last_key.Goals as goal

pub returns-in_ok-key-in-Few : goal.returns-in_ok-key-in-Few
returns-in_ok-key-in-Few c = rw c.in-Few.is (c.in_ok-key-in-Few.field-0-1.now, c.in_ok-key-in-Few.ensures.last)

pub returns-in_ok-key-in-Many : goal.returns-in_ok-key-in-Many
returns-in_ok-key-in-Many c =
    rw c.in-Many.is (c.in_ok-key-in-Many.field-0.now.1, sym (c.in_ok-key-in-Many.ensures.value ∙ ap (λ ps. slice_get ps (length ps - 1)) c.deref.ensures.value))
