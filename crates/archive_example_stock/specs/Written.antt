-- Where bytes have a stock that was written.
use Rattle.std.specs.Prelude.{◌≡◌, ℕ, List, []}
use Rattle.std.specs.Global.{Global}
use Rattle.std.specs.List.{All}
use Rattle.std.specs.Rc.{rc_str_bytes}
use Rattle.std.specs.declared.rc.RcStr.{RcStr}
use Rattle.archive_shape_layout.specs.Shape.{Shape}
use Rattle.archive_shape_canonical.specs.Canonical.{AreBytes}
use Rattle.archive_shape_canonical.specs.Settled.{free}
use Rattle.archive_forms_laws.specs.Spelling.{Spelling}
use Rattle.archive_forms_laws.specs.State.{Keys}
use Rattle.archive_forms_rc.specs.declared.sharing.keyed.Shared.{Shared}
use Rattle.archive_forms_laws.specs.WrittenAt.{IsReadableAt}

-- labels with one key have one text
pub record HaveOneText (labels : List (Shared (RcStr Global))) : Type 0 where
  pub text_of : ℕ → List ℕ
  pub each : All (λ label. rc_str_bytes label.value ≡ text_of label.key) labels

-- bytes have what was written of a value at a position, where it can be read
pub record HasWritten {A R : Type 0} (s : Shape) (w : Spelling A R) (bytes : List ℕ) (pos : ℕ) (x : A) : Type 0 where
  pub keys : Keys
  pub suits : w.suits free keys x
  pub are_bytes : AreBytes bytes
  pub readable : IsReadableAt [] keys s w bytes pos x
