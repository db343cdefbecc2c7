use Rattle.std.specs.Global.{Global}
use Rattle.std.specs.Rc.{rc_str_bytes}
use Rattle.std.specs.declared.rc.RcStr.{RcStr}
use Rattle.std.proofs.Common.{◌≡◌, ℕ, ◌==◌, cond, List, [], ◌∷◌, refl, arith}
use Rattle.std.proofs.lemmas.List.Elements.{All-cons}
use Rattle.archive_forms_rc.specs.declared.sharing.keyed.Shared.{Shared}
use Rattle.archive_example_stock.proofs.made.labels.Goals as goal

-- the key of the first text is 1
pub returns : goal.returns
returns c =
    let sharp : Shared (RcStr Global) = record { key = 1; value = c.in_ok-sharp.sharp } in
    let steel : Shared (RcStr Global) = record { key = 2; value = c.in_ok-steel.steel } in
    let same : Shared (RcStr Global) = record { key = 2; value = c.in_ok-same.same } in
    let text_of : ℕ → List ℕ = λ key. cond (key == 1) (rc_str_bytes sharp.value) (rc_str_bytes steel.value) in
    let P : Shared (RcStr Global) → Type 0 = λ label. rc_str_bytes label.value ≡ text_of label.key in
    record {
      text_of = text_of;
      each = rw c.in_ok-labels.ensures.items (All-cons P sharp (steel ∷ same ∷ []) refl (All-cons P steel (same ∷ []) refl (All-cons P same [] c.in_ok-same.ensures.cases (λ i d low. absurd (omega (arith, low))))));
    }
