-- What is kept of a node's data once it is written, until the node's own bytes are.
use Rattle.std.specs.Prelude.{Option}
use Rattle.archive_forms_values.specs.declared.reading.resolving.BoxResolver.{BoxResolver}
use Rattle.archive_forms_values.specs.declared.reading.resolving.VecResolver.{VecResolver}
use Rattle.archive_forms_values.specs.declared.text.resolving.StringResolver.{StringResolver}
use Rattle.archive_forms_rc.specs.declared.resolving.RcResolver.{RcResolver}
use Rattle.archive_btree_maps.specs.declared.map.resolving.BTreeMapResolver.{BTreeMapResolver}
use Rattle.archive_hash_maps.specs.declared.map.resolving.HashTableResolver.{HashTableResolver}
use Rattle.archive_hash_writing.specs.declared.index.resolver.IndexMapResolver.{IndexMapResolver}

-- the position of the data, by the kind of the node; a truth value and a number have none
pub data Resolver : Type 0 where
  leaf : Resolver
  text : StringResolver → Resolver
  shared : RcResolver → Resolver
  -- an option, which has data where there is a node in it
  maybe : Option BoxResolver → Resolver
  list : VecResolver → Resolver
  ordered : BTreeMapResolver → Resolver
  hashed : HashTableResolver → Resolver
  kept : IndexMapResolver → Resolver
  -- a whole
  whole : RcResolver → Resolver
