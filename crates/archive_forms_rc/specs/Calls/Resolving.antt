-- What is required of a call that writes the own bytes of a counted or weak pointer at their place, and what it ensures, and
-- what a call ensures that writes the data of a weak pointer. The shape and the spelling are those of what it leads to.
use Rattle.std.specs.Prelude.{ℕ, false, List, Option, Result}
use Rattle.std.specs.Global.{Global}
use Rattle.std.specs.declared.rc.Rc.{Rc}
use Rattle.std.specs.declared.rc.RcSlice.{RcSlice}
use Rattle.std.specs.declared.rc.RcStr.{RcStr}
use denote.Ref.{MutBor}
use Rattle.archive_shape_layout.specs.Shape.{Shape}
use Rattle.archive_shape_layout.specs.Shape.Shape.{shared, weak}
use Rattle.archive_shape_layout.specs.Shape.Pointee.{sized, slice, str}
use Rattle.archive_shape_layout.specs.Writing.{WriterMembers}
use Rattle.archive_shape_layout.specs.declared.error.Error.{Error}
use Rattle.archive_shape.specs.declared.references.place.Place.{Place}
use Rattle.archive_forms_laws.specs.Spelling.{Spelling}
use Rattle.archive_forms_laws.specs.Serializing.{CanResolveAt, ResolvesAt, Serializes}
use Rattle.archive_forms_rc.specs.Counted.{shared_rc_spelling, shared_slice_rc_spelling, shared_str_rc_spelling, shared_weak_spelling, shared_weak_slice_spelling, shared_weak_str_spelling, weak_rc_spelling, weak_slice_rc_spelling, weak_str_rc_spelling}
use Rattle.archive_forms_rc.specs.declared.resolving.RcResolver.{RcResolver}
use Rattle.archive_forms_rc.specs.declared.resolving.RcWeakResolver.{RcWeakResolver}
use Rattle.archive_forms_rc.specs.declared.sharing.keyed.Shared.{Shared}
use Rattle.archive_forms_rc.specs.declared.sharing.weak.SharedWeak.{SharedWeak}

module _ {A R T : Type 0} (s : Shape) (w : Spelling A R) where
  -- ---- a counted pointer to a value

  abbrev pub CanResolveRc : Shared (Rc A Global) → RcResolver → Place T → Type 0
  CanResolveRc x r out = CanResolveAt (shared_rc_spelling s w) (shared false (sized s)) x r out

  abbrev pub ResolvesRc : {E : Type 0} → Shared (Rc A Global) → RcResolver → Place T → MutBor (List ℕ) × E → Result (Unit {0}) Error → Type 0
  ResolvesRc x r out end result = ResolvesAt (shared_rc_spelling s w) (shared false (sized s)) x r out end result

  -- to elements
  abbrev pub CanResolveRcSlice : Shared (RcSlice A Global) → RcResolver → Place T → Type 0
  CanResolveRcSlice x r out = CanResolveAt (shared_slice_rc_spelling s w) (shared false (slice s)) x r out

  abbrev pub ResolvesRcSlice : {E : Type 0} → Shared (RcSlice A Global) → RcResolver → Place T → MutBor (List ℕ) × E → Result (Unit {0}) Error → Type 0
  ResolvesRcSlice x r out end result = ResolvesAt (shared_slice_rc_spelling s w) (shared false (slice s)) x r out end result

  -- ---- a weak pointer to a value, or to nothing

  abbrev pub CanResolveWeak : Option (Shared (Rc A Global)) → RcWeakResolver → Place T → Type 0
  CanResolveWeak x r out = CanResolveAt (weak_rc_spelling s w) (weak false (sized s)) x r out

  abbrev pub ResolvesWeak : {E : Type 0} → Option (Shared (Rc A Global)) → RcWeakResolver → Place T → MutBor (List ℕ) × E → Result (Unit {0}) Error → Type 0
  ResolvesWeak x r out end result = ResolvesAt (weak_rc_spelling s w) (weak false (sized s)) x r out end result

  -- to elements
  abbrev pub CanResolveWeakSlice : Option (Shared (RcSlice A Global)) → RcWeakResolver → Place T → Type 0
  CanResolveWeakSlice x r out = CanResolveAt (weak_slice_rc_spelling s w) (weak false (slice s)) x r out

  abbrev pub ResolvesWeakSlice : {E : Type 0} → Option (Shared (RcSlice A Global)) → RcWeakResolver → Place T → MutBor (List ℕ) × E → Result (Unit {0}) Error → Type 0
  ResolvesWeakSlice x r out end result = ResolvesAt (weak_slice_rc_spelling s w) (weak false (slice s)) x r out end result

  -- ---- the same of std's weak pointers

  abbrev pub CanResolveSharedWeak : SharedWeak (Rc A Global) → RcWeakResolver → Place T → Type 0
  CanResolveSharedWeak x r out = CanResolveAt (shared_weak_spelling s w) (weak false (sized s)) x r out

  abbrev pub ResolvesSharedWeak : {E : Type 0} → SharedWeak (Rc A Global) → RcWeakResolver → Place T → MutBor (List ℕ) × E → Result (Unit {0}) Error → Type 0
  ResolvesSharedWeak x r out end result = ResolvesAt (shared_weak_spelling s w) (weak false (sized s)) x r out end result

  -- to elements
  abbrev pub CanResolveSharedWeakSlice : SharedWeak (RcSlice A Global) → RcWeakResolver → Place T → Type 0
  CanResolveSharedWeakSlice x r out = CanResolveAt (shared_weak_slice_spelling s w) (weak false (slice s)) x r out

  abbrev pub ResolvesSharedWeakSlice : {E : Type 0} → SharedWeak (RcSlice A Global) → RcWeakResolver → Place T → MutBor (List ℕ) × E → Result (Unit {0}) Error → Type 0
  ResolvesSharedWeakSlice x r out end result = ResolvesAt (shared_weak_slice_spelling s w) (weak false (slice s)) x r out end result

-- each of them to a text
module _ {T : Type 0} where
  abbrev pub CanResolveRcStr : Shared (RcStr Global) → RcResolver → Place T → Type 0
  CanResolveRcStr x r out = CanResolveAt shared_str_rc_spelling (shared false str) x r out

  abbrev pub ResolvesRcStr : {E : Type 0} → Shared (RcStr Global) → RcResolver → Place T → MutBor (List ℕ) × E → Result (Unit {0}) Error → Type 0
  ResolvesRcStr x r out end result = ResolvesAt shared_str_rc_spelling (shared false str) x r out end result

  abbrev pub CanResolveWeakStr : Option (Shared (RcStr Global)) → RcWeakResolver → Place T → Type 0
  CanResolveWeakStr x r out = CanResolveAt weak_str_rc_spelling (weak false str) x r out

  abbrev pub ResolvesWeakStr : {E : Type 0} → Option (Shared (RcStr Global)) → RcWeakResolver → Place T → MutBor (List ℕ) × E → Result (Unit {0}) Error → Type 0
  ResolvesWeakStr x r out end result = ResolvesAt weak_str_rc_spelling (weak false str) x r out end result

  abbrev pub CanResolveSharedWeakStr : SharedWeak (RcStr Global) → RcWeakResolver → Place T → Type 0
  CanResolveSharedWeakStr x r out = CanResolveAt shared_weak_str_spelling (weak false str) x r out

  abbrev pub ResolvesSharedWeakStr : {E : Type 0} → SharedWeak (RcStr Global) → RcWeakResolver → Place T → MutBor (List ℕ) × E → Result (Unit {0}) Error → Type 0
  ResolvesSharedWeakStr x r out end result = ResolvesAt shared_weak_str_spelling (weak false str) x r out end result

-- ---- data

module _ {A R W : Type 0} (s : Shape) (w : Spelling A R) (members : WriterMembers W) where
  -- what a weak pointer to a value leads to is written
  abbrev pub WritesWeak : Option (Shared (Rc A Global)) → W → W → Result RcWeakResolver Error → Type 0
  WritesWeak x old new result = Serializes (weak_rc_spelling s w) members x old new result

  -- and one to elements
  abbrev pub WritesWeakSlice : Option (Shared (RcSlice A Global)) → W → W → Result RcWeakResolver Error → Type 0
  WritesWeakSlice x old new result = Serializes (weak_slice_rc_spelling s w) members x old new result
