-- Calls of a closure with the keys and the values at places of a buffer.
use denote.Ref.{Bor}
use Rattle.std.specs.Prelude.{ℕ, List}
use Rattle.archive_shape.specs.declared.references.refs.Ref.{Ref}
use Rattle.archive_btree_maps.specs.declared.nodes.searching.node.EntryAt.{EntryAt}
use Rattle.archive_btree_maps.specs.Refs.{ref_at}

module _ {F K V : Type 0} where
  -- the closure may be called with the key and the value of an entry
  abbrev pub MayCallAt : (F → Ref K → Ref V → Type 0) → Bor (List ℕ) → F → EntryAt → Type 0
  MayCallAt pre bytes f e = pre f (ref_at bytes e.key) (ref_at bytes e.value)

  -- a call with these has this result, and takes the closure from one state to another
  abbrev pub CallsAt : {R : Type 0} → (F → Ref K → Ref V → R → F → Type 0) → Bor (List ℕ) → F → EntryAt → R → F → Type 0
  CallsAt step bytes f e answer g = step f (ref_at bytes e.key) (ref_at bytes e.value) answer g
