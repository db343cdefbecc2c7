-- Steps that may be called for what is still to come.
use Rattle.std.proofs.Common.{List, [], ◌∷◌, Option, All}
use Rattle.std.proofs.lemmas.List.Elements.{All-nil, All-cons}
use Rattle.std.specs.Iterator.{Yields}
use Rattle.archive_forms_laws.specs.Taking.{MayGiveAll, TakesEach}
use Rattle.archive_btree_writing.proofs.Taken.{may_give_later}

module _ {I T : Type 0} (gives : I → Option T → I → Type 0) (takes : T → Type 0) (from : I) (t : TakesEach gives takes from) where
  pub takes_later : (to : I) (xs : List T) → Yields gives from xs to → TakesEach gives takes to
  takes_later to xs came = record { each = λ x m. t.each x (may_give_later gives from to xs x came m) }

  pub takes_all : (xs : List T) → MayGiveAll gives from xs → All takes xs
  takes_all [] m = All-nil takes
  takes_all (x ∷ xs) m = All-cons takes x xs (t.each x m.0) (takes_all xs m.1)
