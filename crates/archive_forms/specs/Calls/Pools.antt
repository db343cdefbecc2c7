-- Deserializers that keep the counted pointers that were read.
use Rattle.std.specs.Prelude.{◌≡◌, ℕ, List, length, Option, Result, IfOk, IsSome, MatchOption, MatchResult, ⊤}
use Rattle.std.specs.Rc.{rc_slice_items, rc_str_bytes}
use Rattle.std.specs.Global.{Global}
use Rattle.std.specs.declared.rc.Rc.{Rc}
use Rattle.std.specs.declared.rc.RcSlice.{RcSlice}
use Rattle.std.specs.declared.rc.RcStr.{RcStr}
use Rattle.archive_shape_layout.specs.declared.error.Error.{Error}
use Rattle.archive_shape_layout.specs.declared.error.Error.TheVariants.{OutOfMemory}
use Rattle.archive_shape.specs.declared.references.refs.Ref.{Ref}
use Rattle.archive_forms_values.specs.declared.reading.slice.SliceRef.{SliceRef}
use Rattle.archive_forms_rc.specs.declared.sharing.keyed.Shared.{Shared}
use Rattle.archive_forms_rc.specs.declared.sharing.weak.SharedWeak.{SharedWeak}
use Rattle.archive_forms.specs.Deserializing.{IsReadAt, AreReadFrom}
use Rattle.archive_forms.specs.Keeping.{IsKept, IsTextAt, pool_of}
use Rattle.archive_forms.specs.Calls.Forms.{ReadMembers}
use Rattle.archive_forms.specs.declared.deserializing.shared_pool.SharedPool.{SharedPool}

-- ---- what is kept was read from the bytes

-- each pointer to a value that a pool keeps was read at its position
abbrev pub value_pool_of : {T A D : Type 0} → ReadMembers T → (D → List ℕ → Type 0) → SharedPool (Rc T Global) A D → List ℕ → Type 0
value_pool_of a inside = pool_of (λ bytes pos pointer. IsReadAt a.reads a.shape a.knows bytes pos pointer.value) inside

-- each pointer to a slice
abbrev pub slice_pool_of : {T A D : Type 0} → ReadMembers T → (D → List ℕ → Type 0) → SharedPool (RcSlice T Global) A D → List ℕ → Type 0
slice_pool_of a inside = pool_of (λ bytes pos pointer. AreReadFrom a.reads a.shape a.knows bytes pos (rc_slice_items pointer)) inside

-- each pointer to a text
abbrev pub text_pool_of : {A D : Type 0} → SharedPool (RcStr Global) A D → List ℕ → Type 0
text_pool_of = pool_of (λ bytes pos pointer. IsTextAt bytes pos (rc_str_bytes pointer)) (λ _ _. ⊤)

-- so it is after a call too, unless that fails
abbrev pub StaysOf : {M D B : Type 0} → (D → List ℕ → Type 0) → D → Ref M → Result B Error → Type 0
StaysOf is_of new this result = IfOk result (λ _. is_of new this.bytes.now)

-- so it is after a call that keeps a pointer, if that was read from the bytes, unless the call fails
abbrev pub KeepsRead : {P D B : Type 0} → (D → List ℕ → Type 0) → (List ℕ → ℕ → P → Type 0) → ℕ → P → D → D → Result B Error → Type 0
KeepsRead is_of is_read pos pointer old new result =
    (bytes : List ℕ) → is_of old bytes → is_read bytes pos pointer → IfOk result (λ _. is_of new bytes)

-- ---- what calls keep

-- a call keeps a pointer for a position, and keeps no other for others; the only error is `OutOfMemory`
abbrev pub KeepsPointer : {P B : Type 0} → (ℕ → Option P) → (ℕ → Option P) → ℕ → P → Result B Error → Type 0
KeepsPointer old new pos pointer result = MatchResult result (λ _. IsKept old new pos pointer) (λ e. e ≡ OutOfMemory)

module _ {P X : Type 0} (contents : P → X) (kept : ℕ → Option P) where
  -- a pointer to the same as this one is kept for a position
  abbrev pub IsPooledAt : ℕ → P → Type 0
  IsPooledAt pos pointer = MatchOption (kept pos) ⊥ (λ copy. contents copy ≡ contents pointer)

  -- one is kept for the key of this one
  abbrev pub IsPooled : Shared P → Type 0
  IsPooled x = IsPooledAt x.key x.value

-- what a weak pointer leads to, if it leads to anything, is as a predicate says
abbrev pub IfLed : {P : Type 0} → (Shared P → Type 0) → SharedWeak P → Type 0
IfLed Says x = MatchOption x.shared ⊤ Says

-- ---- what is kept is not read again

-- the deserializer stays as it is where it keeps a pointer for a position
abbrev pub ReusesAt : {P D : Type 0} → (D → ℕ → Option P) → ℕ → D → D → Type 0
ReusesAt kept pos old new = IsSome (kept old pos) → new ≡ old

-- where it keeps one to as many elements
abbrev pub ReusesElements : {M T D : Type 0} → (D → ℕ → Option (RcSlice T Global)) → SliceRef M → D → D → Type 0
ReusesElements kept items old new =
    MatchOption (kept old items.pos) ⊤ (λ copy. length (rc_slice_items copy) ≡ items.len → new ≡ old)

-- where it keeps, for the key of this pointer, one to as many elements or bytes
abbrev pub Reuses : {P X D : Type 0} → (P → List X) → (D → ℕ → Option P) → D → D → Shared P → Type 0
Reuses items kept old new x = MatchOption (kept old x.key) ⊤ (λ copy. length (items copy) ≡ length (items x.value) → new ≡ old)
