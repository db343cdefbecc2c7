-- What is written of the nodes of search trees, from what is written of the parts in them.
use Rattle.std.proofs.Common.{◌≡◌, ◌∙◌, ℕ, suc, ◌+◌, ◌-◌, ◌*◌, ◌<◌, ◌≤◌, Bor, List, ◌++◌, slice_index, Result, Ok, Err, sym, ap, subst, arith, add-one}
use Rattle.archive_shape_layout.specs.Bytes.{word_at}
use Rattle.archive_shape_layout.specs.Shape.Shape.{text}
use Rattle.archive_shape_layout.specs.Content.{Part, entries, children}
use Rattle.archive_shape_layout.specs.Content.Part.{node, child, entry}
use Rattle.archive_shape_layout.specs.Writing.{WriterMembers}
use Rattle.archive_shape_layout.specs.declared.error.Error.{Error}
use Rattle.cabinet_text_grammar.specs.Path.{Step}
use Rattle.cabinet_documents.specs.Node.{node_names, node_shape}
use Rattle.cabinet_archives.specs.Mapping.{Name, Listed, listed_region, MapsAll}
use Rattle.cabinet_archives.specs.Mapped.{WritesListed, Mapped, MappedAll}
use Rattle.cabinet_archives.specs.declared.mapping.region.RegionKind.TheVariants as kind
use Rattle.cabinet_archives.specs.declared.mapping.tally.Tally.{Tally}
use Rattle.cabinet_archives.proofs.NodeListings.{named}
use Rattle.cabinet_archives.proofs.MapListings.{leaf_listed, inner_listed}
use Rattle.cabinet_archives.proofs.PartsLeft.{PartsLeft, NextPart, all_left, none_left, next_part, entries_next, entries_none, children_next, children_none}
use Rattle.cabinet_archives.proofs.Tallied.{failed_listed, both_listed}

-- an entry of which a reference to its key and one to its node are given
pub entry_as : {W : Type 0} (w : WriterMembers W) (path : List Step) {x y : Bor (List ℕ)} {key key_pos value value_pos : ℕ} (now new : Tally) (via to : W) (result : Result (Unit {0}) Error)
    → x ≡ y → key ≡ key_pos → value ≡ value_pos
    → Mapped w x.now (named kind.Tree path) (entry text key node_shape value) now new via to result → Mapped w y.now (named kind.Tree path) (entry text key_pos node_shape value_pos) now new via to result
entry_as w path {x = x} {key = key} {key_pos = key_pos} {value_pos = value_pos} now new via to result e f g mapped =
    let n = named kind.Tree path in
    let there = subst (λ q. Mapped w x.now n (entry text key node_shape q) now new via to result) g mapped in
    let both = subst (λ q. Mapped w x.now n (entry text q node_shape value_pos) now new via to result) f there in
    subst (λ (b : Bor (List ℕ)). Mapped w b.now n (entry text key_pos node_shape value_pos) now new via to result) e both

module _ {W : Type 0} (w : WriterMembers W) (bytes : List ℕ) (path : List Step) (pos : ℕ) where
  abbrev own : Name
  own = named kind.Tree path

  abbrev node_on : ℕ → Part
  node_on level = node level 5 text node_shape pos

  abbrev entry_from : ℕ → Part
  entry_from index = entry text (pos + 4 + index * 8) node_shape (pos + 48 + index * 24)

  abbrev child_from : ℕ → ℕ → Part
  child_from level index = child (level + 1) 5 text node_shape (pos + 168 + 4 * index)

  -- the lines of a part are written
  abbrev IsMapped : Part → Tally → Tally → W → W → Result (Unit {0}) Error → Type 0
  IsMapped p old new from to result = Mapped w bytes own p old new from to result

  -- those of the parts of the node on a level from part i on
  abbrev PartsMapped : ℕ → ℕ → List Part → Tally → Tally → W → W → Result (Unit {0}) Error → Type 0
  PartsMapped level i ps old new from to result = MappedAll w bytes own (node_on level) i ps old new from to result

  -- the entries of a node
  abbrev pub all_entries : ℕ → List Part
  all_entries count = entries count text (pos + 4) node_shape (pos + 48)

  -- those from one on
  abbrev pub entries_from : ℕ → ℕ → List Part
  entries_from count index = entries (count - index) text (pos + 4 + index * 8) node_shape (pos + 48 + index * 24)

  -- the children of an inner node on a level, and then its entries
  abbrev pub all_parts : ℕ → List Part
  all_parts level = children 6 (level + 1) 5 text node_shape (pos + 168) ++ all_entries 5

  abbrev pub parts_from : ℕ → ℕ → List Part
  parts_from level index = children (6 - index) (level + 1) 5 text node_shape (pos + 168 + 4 * index) ++ all_entries 5

  -- ---- entries

  -- the first entries of a node are written
  abbrev pub EntriesLeft : (count index : ℕ) (old now : Tally) (from via : W) → Type 0
  EntriesLeft count index old now from via = (level i : ℕ) (listed : List Listed) → MapsAll node_names bytes own (node_on level) i (all_entries count) old.end listed
      → PartsLeft w bytes own (node_on level) (i + index) (entries_from count index) old now from via listed

  pub no_entry_written : (count : ℕ) (old : Tally) (from : W) → EntriesLeft count 0 old old from from
  no_entry_written count old from level i listed m =
      let first : i ≡ i + 0 = omega arith in
      let key : pos + 4 ≡ pos + 4 + 0 * 8 = omega arith in
      let value : pos + 48 ≡ pos + 48 + 0 * 24 = omega arith in
      let all : count ≡ count - 0 = omega arith in
      let same : all_entries count ≡ entries_from count 0 =
      ap (λ x. entries x text (pos + 4) node_shape (pos + 48)) all ∙ ap (λ x. entries (count - 0) text x node_shape (pos + 48)) key ∙ ap (λ x. entries (count - 0) text (pos + 4 + 0 * 8) node_shape x) value in
      subst (λ j. PartsLeft w bytes own (node_on level) j (entries_from count 0) old old from from listed) first
      (all_left w bytes old from (subst (λ ps. MapsAll node_names bytes own (node_on level) i ps old.end listed) same m))

  module _ (count index : ℕ) (old now : Tally) (from via : W) (left : EntriesLeft count index old now from via) where
    next_entry : index < count → (level i : ℕ) (listed : List Listed) → MapsAll node_names bytes own (node_on level) i (all_entries count) old.end listed
        → NextPart w bytes own (node_on level) (i + index) (entry_from index) (entries_from count (suc index)) old now from via listed
    next_entry less level i listed m =
        next_part w bytes (subst (λ ps. PartsLeft w bytes own (node_on level) (i + index) ps old now from via listed)
        (entries_next text node_shape (pos + 4) (pos + 48) count index less) (left level i listed m))

    pub entry_failed : index < count → (new : Tally) {to : W} (why : Error) → IsMapped (entry_from index) now new via to (Err why)
        → (level i : ℕ) → PartsMapped level i (all_entries count) old new from to (Err why)
    entry_failed less new {to = to} why mapped level i listed m =
        let next = next_entry less level i listed m in
        next.fails new to why (mapped next.here next.first)

    pub entry_passed : index < count → (new : Tally) (to : W) → IsMapped (entry_from index) now new via to (Ok tt)
        → EntriesLeft count (index + 1) old new from to
    entry_passed less new to mapped level i listed m =
        let next = next_entry less level i listed m in
        let on = next.on new to (mapped next.here next.first) in
        let place : suc (i + index) ≡ i + (index + 1) = omega arith in
        subst (λ j. PartsLeft w bytes own (node_on level) j (entries_from count (index + 1)) old new from to listed) place
        (subst (λ j. PartsLeft w bytes own (node_on level) (suc (i + index)) (entries_from count j) old new from to listed) (sym (add-one index)) on)

    pub entries_mapped : count ≤ index → (level i : ℕ) → PartsMapped level i (all_entries count) old now from via (Ok tt)
    entries_mapped all level i listed m =
        none_left w bytes (subst (λ ps. PartsLeft w bytes own (node_on level) (i + index) ps old now from via listed)
        (entries_none text node_shape (pos + 4 + index * 8) (pos + 48 + index * 24) count index all) (left level i listed m))

  -- ---- children, and then entries

  module _ (level : ℕ) where
    pub child_as : (index : ℕ) {links : ℕ} (now new : Tally) (via to : W) (result : Result (Unit {0}) Error) → links ≡ 168
        → IsMapped (child (level + 1) 5 text node_shape (pos + links + 4 * index)) now new via to result → IsMapped (child_from level index) now new via to result
    child_as index now new via to result e mapped = subst (λ n. IsMapped (child (level + 1) 5 text node_shape (pos + n + 4 * index)) now new via to result) e mapped

    pub entries_as : {count : ℕ} (i : ℕ) (now new : Tally) (via to : W) (result : Result (Unit {0}) Error) → count ≡ 5
        → PartsMapped level i (all_entries count) now new via to result → PartsMapped level i (all_entries 5) now new via to result
    entries_as i now new via to result e mapped = subst (λ n. PartsMapped level i (all_entries n) now new via to result) e mapped

    -- the first children of an inner node are written
    abbrev pub ChildrenLeft : (index : ℕ) (old now : Tally) (from via : W) → Type 0
    ChildrenLeft index old now from via = (listed : List Listed) → MapsAll node_names bytes own (node_on level) 0 (all_parts level) old.end listed
        → PartsLeft w bytes own (node_on level) index (parts_from level index) old now from via listed

    pub no_child_written : (old : Tally) (from : W) → ChildrenLeft 0 old old from from
    no_child_written old from listed m =
        let first : pos + 168 ≡ pos + 168 + 4 * 0 = omega arith in
        all_left w bytes old from (subst (λ x. MapsAll node_names bytes own (node_on level) 0 (children 6 (level + 1) 5 text node_shape x ++ all_entries 5) old.end listed) first m)

    module _ (index : ℕ) (old now : Tally) (from via : W) (left : ChildrenLeft index old now from via) where
      next_child : index < 6 → (listed : List Listed) → MapsAll node_names bytes own (node_on level) 0 (all_parts level) old.end listed
          → NextPart w bytes own (node_on level) index (child_from level index) (parts_from level (suc index)) old now from via listed
      next_child less listed m =
          next_part w bytes (subst (λ ps. PartsLeft w bytes own (node_on level) index ps old now from via listed)
          (ap (λ ps. ps ++ all_entries 5) (children_next (level + 1) 5 text node_shape (pos + 168) 6 index less)) (left listed m))

      pub child_failed : index < 6 → (new : Tally) {to : W} (why : Error) → IsMapped (child_from level index) now new via to (Err why)
          → PartsMapped level 0 (all_parts level) old new from to (Err why)
      child_failed less new {to = to} why mapped listed m =
          let next = next_child less listed m in
          next.fails new to why (mapped next.here next.first)

      pub child_passed : index < 6 → (new : Tally) (to : W) → IsMapped (child_from level index) now new via to (Ok tt)
          → ChildrenLeft (index + 1) old new from to
      child_passed less new to mapped listed m =
          let next = next_child less listed m in
          subst (λ j. PartsLeft w bytes own (node_on level) j (parts_from level j) old new from to listed) (sym (add-one index))
          (next.on new to (mapped next.here next.first))

      pub parts_mapped : 6 ≤ index → (new : Tally) (to : W) (result : Result (Unit {0}) Error)
          → ((i : ℕ) → PartsMapped level i (all_entries 5) now new via to result)
          → PartsMapped level 0 (all_parts level) old new from to result
      parts_mapped all new to result mapped listed m =
          let h = subst (λ ps. PartsLeft w bytes own (node_on level) index (ps ++ all_entries 5) old now from via listed)
          (children_none (level + 1) 5 text node_shape (pos + 168 + 4 * index) 6 index all) (left listed m) in
          both_listed w old now new to result h.done h.rest h.split h.written (mapped index h.rest h.left)

    -- ---- a node: its parts, and then its region

    module _ (old mid new : Tally) {from via : W} where
      pub leaf_failed : {count : ℕ} → slice_index bytes pos ≡ 0 → level ≤ 32 → word_at bytes (pos + 168) ≡ count → count ≤ 5 → (why : Error)
          → PartsMapped level 0 (all_entries count) old mid from via (Err why)
          → IsMapped (node_on level) old new from via (Err why)
      leaf_failed is deep says few why mapped listed m =
          let o = leaf_listed bytes is deep says few m in
          failed_listed w old mid new o.inner (listed_region pos 176 own) o.is (mapped o.inner o.all)

      pub leaf_mapped : (last : W) {count : ℕ} → slice_index bytes pos ≡ 0 → level ≤ 32 → word_at bytes (pos + 168) ≡ count → count ≤ 5 → (result : Result (Unit {0}) Error)
          → PartsMapped level 0 (all_entries count) old mid from via (Ok tt)
          → WritesListed {A = Unit {0}} w (listed_region pos 176 own) mid new via last result
          → IsMapped (node_on level) old new from last result
      leaf_mapped last is deep says few result mapped region listed m =
          let o = leaf_listed bytes is deep says few m in
          both_listed w old mid new last result o.inner (listed_region pos 176 own) o.is (mapped o.inner o.all) region

      pub inner_failed : slice_index bytes pos ≡ 1 → level ≤ 32 → (why : Error)
          → PartsMapped level 0 (all_parts level) old mid from via (Err why)
          → IsMapped (node_on level) old new from via (Err why)
      inner_failed is deep why mapped listed m =
          let o = inner_listed bytes is deep m in
          failed_listed w old mid new o.inner (listed_region pos 192 own) o.is (mapped o.inner o.all)

      pub inner_mapped : (last : W) → slice_index bytes pos ≡ 1 → level ≤ 32 → (result : Result (Unit {0}) Error)
          → PartsMapped level 0 (all_parts level) old mid from via (Ok tt)
          → WritesListed {A = Unit {0}} w (listed_region pos 192 own) mid new via last result
          → IsMapped (node_on level) old new from last result
      inner_mapped last is deep result mapped region listed m =
          let o = inner_listed bytes is deep m in
          both_listed w old mid new last result o.inner (listed_region pos 192 own) o.is (mapped o.inner o.all) region
