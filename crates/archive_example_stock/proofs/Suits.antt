-- The keys of labels, where those with one key have one text.
use Rattle.std.specs.Global.{Global}
use Rattle.std.specs.List.{All}
use Rattle.std.specs.Rc.{rc_str_bytes}
use Rattle.std.specs.declared.rc.RcStr.{RcStr}
use Rattle.std.proofs.Common.{◌≡◌, ℕ, List, [], ◌∷◌, Some, length, sym, ap}
use Rattle.std.proofs.lemmas.List.Elements.{All-head, All-tail}
use Rattle.archive_shape_layout.specs.Shape.Pointee.{str}
use Rattle.archive_shape_layout.specs.Value.Value.{string}
use Rattle.archive_shape_canonical.specs.Settled.{free}
use Rattle.archive_forms_laws.specs.Regions.{all_suit}
use Rattle.archive_forms_laws.specs.State.{Keys}
use Rattle.archive_forms_rc.specs.Counted.{shared_str_rc_spelling}
use Rattle.archive_forms_rc.specs.declared.sharing.keyed.Shared.{Shared}

module _ (text_of : ℕ → List ℕ) where
  -- each key denotes its text
  abbrev pub keys_of : Keys
  keys_of key = Some (record { pointee = str; len = length (text_of key); value = string (text_of key) })

  pub labels_suit : (labels : List (Shared (RcStr Global))) → All (λ label. rc_str_bytes label.value ≡ text_of label.key) labels → all_suit shared_str_rc_spelling free keys_of labels
  labels_suit [] each = tt
  labels_suit (label ∷ labels) each =
      let P : Shared (RcStr Global) → Type 0 = λ l. rc_str_bytes l.value ≡ text_of l.key in
      let same : text_of label.key ≡ rc_str_bytes label.value = sym (All-head P label labels each) in
      ((ap (λ t. Some (record { pointee = str; len = length t; value = string t })) same, tt), labels_suit labels (All-tail P label labels each))
