-- Where the search for an entry ends, by what is said of how the query compares with each entry on its way.
use Rattle.std.specs.Prelude.{◌≡◌, List, [], ◌∷◌, Option, Some, None}
use Rattle.std.specs.declared.cmp.Ordering.{Ordering}
use Rattle.std.specs.declared.cmp.Ordering.TheVariants.{Less, Equal, Greater}
use Rattle.archive_btree_layout.specs.Tree.{Tree, Branches}
use Rattle.archive_btree_layout.specs.Tree.Tree.{absent, leaf, inner}
use Rattle.archive_btree_layout.specs.Tree.Branches.{greater, lesser}

-- what holds where the query is below an entry, equal to it or above it
abbrev pub AfterOrder : Ordering → Type 0 → Type 0 → Type 0 → Type 0
AfterOrder Less below same above = below
AfterOrder Equal below same above = same
AfterOrder Greater below same above = above

-- among entries: the first that the query is not above decides
abbrev pub FindsIn : {A : Type 0} → (A → Ordering → Type 0) → List A → Option A → Type 0
FindsIn says [] found = found ≡ None
FindsIn says (e ∷ es) found = (o : Ordering) × says e o × AfterOrder o (found ≡ None) (found ≡ Some e) (FindsIn says es found)

abbrev mutual
  -- from the root of a tree down: before an entry it continues in the entry's lesser child, after the last one in the
  -- greater child
  pub DescendsTo : {A : Type 0} → (A → Ordering → Type 0) → Tree A → Option A → Type 0
  DescendsTo says absent found = found ≡ None
  DescendsTo says (leaf es) found = FindsIn says es found
  DescendsTo says (inner bs) found = DescendsIn says bs found

  pub DescendsIn : {A : Type 0} → (A → Ordering → Type 0) → Branches A → Option A → Type 0
  DescendsIn says (greater t) found = DescendsTo says t found
  DescendsIn says (lesser t e bs) found = (o : Ordering) × says e o × AfterOrder o (DescendsTo says t found) (found ≡ Some e) (DescendsIn says bs found)
