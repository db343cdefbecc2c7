-- The elements of a list, whose lines are written one after the other, and then the region of all.
use Rattle.std.proofs.Common.{◌≡◌, ◌∙◌, ℕ, suc, ◌+◌, ◌-◌, ◌*◌, ◌<◌, ◌≤◌, List, [], ◌∷◌, ◌++◌, Result, Ok, Err, refl, sym, ap, subst, arith}
use Rattle.archive_shape_layout.specs.Bytes.{window, word_at}
use Rattle.archive_shape_layout.specs.Shape.{size_of}
use Rattle.archive_shape_layout.specs.Shape.Shape.{vector}
use Rattle.archive_shape_layout.specs.Shape.Pointee.{slice}
use Rattle.archive_shape_layout.specs.Content.{Part, elements}
use Rattle.archive_shape_layout.specs.Content.Part.{at, behind}
use Rattle.archive_shape_layout.specs.Writing.{WriterMembers}
use Rattle.archive_shape_layout.specs.declared.error.Error.{Error}
use Rattle.archive_shape_layout.proofs.Windows.{word_within}
use Rattle.archive_forms_values.specs.Parts.{HasValue, IsVecAt}
use Rattle.archive_forms_values.proofs.Pointed.{vec_there}
use Rattle.cabinet_text_grammar.specs.Path.{Step, place}
use Rattle.cabinet_documents.specs.Node.{node_names, node_shape, KnowsNode}
use Rattle.cabinet_archives.specs.Mapping.{Name, Listed, listed_region, MapsAll}
use Rattle.cabinet_archives.specs.Mapped.{WritesListed, Mapped}
use Rattle.cabinet_archives.specs.declared.mapping.region.RegionKind.{RegionKind}
use Rattle.cabinet_archives.specs.declared.mapping.region.RegionKind.TheVariants as kind
use Rattle.cabinet_archives.specs.declared.mapping.tally.Tally.{Tally}
use Rattle.cabinet_archives.proofs.NodeListings.{named, list_listed}
use Rattle.cabinet_archives.proofs.PartsLeft.{PartsLeft, all_left, next_part, none_left, elements_next, elements_none}
use Rattle.cabinet_archives.proofs.Tallied.{failed_listed, both_listed}
use Rattle.cabinet_archives.proofs.Walked.{one_count}

-- the number of elements is the word behind the pointer
vec_len : (bytes : List ℕ) (pos to len : ℕ) → HasValue (vector node_shape) KnowsNode bytes pos → IsVecAt node_shape KnowsNode bytes pos to len
    → word_at bytes (pos + 4) ≡ len
vec_len bytes pos to len has vec =
    let there = vec_there node_shape KnowsNode bytes pos to (word_at (window bytes pos 8) 4) vec.points refl in
    sym (word_within bytes pos 8 4 (omega arith)) ∙ sym (one_count bytes pos to to len (word_at (window bytes pos 8) 4) has vec there)

module _ {W : Type 0} (w : WriterMembers W) (bytes : List ℕ) (path : List Step) (to len : ℕ) where
  abbrev own : Name
  own = named kind.Elements path

  abbrev slice_of : ℕ → Part
  slice_of n = behind to (slice node_shape) n

  -- what all elements list
  abbrev ListsAll : Tally → List Listed → Type 0
  ListsAll old listed = MapsAll node_names bytes own (slice_of len) 0 (elements to len node_shape) old.end listed

  abbrev Left : ℕ → List Part → Tally → Tally → W → W → List Listed → Type 0
  Left i ps old now from via listed = PartsLeft w bytes own (slice_of len) i ps old now from via listed

  -- a call writes the elements, or fails in one
  abbrev ElementsWritten : Tally → Tally → W → W → Result (Unit {0}) Error → Type 0
  ElementsWritten old new from last result = (listed : List Listed) → ListsAll old listed → WritesListed w listed old new from last result

  -- it writes one
  abbrev ElementMapped : List ℕ → ℕ → ℕ → Tally → Tally → W → W → Result (Unit {0}) Error → Type 0
  ElementMapped x i pos now new via last result = (j : RegionKind) → Mapped w x (named j (path ++ place i ∷ [])) (at pos node_shape) now new via last result

  -- of all elements, those from one on are left
  abbrev pub ElementsToMap : ℕ → Tally → Tally → W → W → Type 0
  ElementsToMap i old now from via =
      (listed : List Listed) → ListsAll old listed → Left i (elements (to + i * size_of node_shape) (len - i) node_shape) old now from via listed

  pub elements_begin : (old : Tally) (from : W) → ElementsToMap 0 old old from from
  elements_begin old from listed m =
      let here : to ≡ to + 0 * size_of node_shape = omega arith in
      let all : len ≡ len - 0 = omega arith in
      all_left w bytes old from
      (subst (λ n. MapsAll node_names bytes own (slice_of len) 0 (elements n (len - 0) node_shape) old.end listed) here
      (subst (λ n. MapsAll node_names bytes own (slice_of len) 0 (elements to n node_shape) old.end listed) all m))

  module _ (x : List ℕ) {i pos : ℕ} {old now : Tally} {from via : W} (less : i < len) (left : ElementsToMap i old now from via)
      (e : x ≡ bytes) (there : pos ≡ to + i * size_of node_shape) (new : Tally) (last : W)
    where
      first_of : {listed : List Listed} → ListsAll old listed
          → Left i (at (to + i * size_of node_shape) node_shape ∷ elements (to + suc i * size_of node_shape) (len - suc i) node_shape) old now from via listed
      first_of {listed = listed} m = subst (λ ps. Left i ps old now from via listed) (elements_next node_shape to len i less) (left listed m)

      own_element : (result : Result (Unit {0}) Error) → ElementMapped x i pos now new via last result
          → Mapped w bytes (named kind.Elements (path ++ place i ∷ [])) (at (to + i * size_of node_shape) node_shape) now new via last result
      own_element result mapped =
          subst (λ n. Mapped w bytes (named kind.Elements (path ++ place i ∷ [])) (at n node_shape) now new via last result) there
          (subst (λ b. Mapped w b (named kind.Elements (path ++ place i ∷ [])) (at pos node_shape) now new via last result) e (mapped kind.Elements))

      -- one more is written
      pub element_mapped : ElementMapped x i pos now new via last (Ok tt) → ElementsToMap (i + 1) old new from last
      element_mapped mapped listed m =
          let next = next_part w bytes (first_of m) in
          let more : suc i ≡ i + 1 = omega arith in
          subst (λ j. Left j (elements (to + j * size_of node_shape) (len - j) node_shape) old new from last listed) more
          (next.on new last (own_element (Ok (tt {0})) mapped next.here next.first))

      -- or fails
      pub element_failed : (why : Error) → ElementMapped x i pos now new via last (Err why) → ElementsWritten old new from last (Err why)
      element_failed why mapped listed m =
          let next = next_part w bytes (first_of m) in
          next.fails new last why (own_element (Err why) mapped next.here next.first)

  -- all are written
  pub elements_mapped : {i : ℕ} {old now : Tally} {from via : W} → len ≤ i → ElementsToMap i old now from via → ElementsWritten old now from via (Ok tt)
  elements_mapped {i = i} {old = old} {now = now} {from = from} {via = via} most left listed m =
      none_left w bytes (subst (λ ps. Left i ps old now from via listed) (elements_none node_shape to len i (to + i * size_of node_shape) most) (left listed m))

  -- ---- the list

  module _ {pos : ℕ} (has : HasValue (vector node_shape) KnowsNode bytes pos) (vec : IsVecAt node_shape KnowsNode bytes pos to len)
      (old new : Tally) (from last : W) (k : RegionKind)
    where
      all_of : {listed : List Listed} → MapsAll node_names bytes own (slice_of (word_at bytes (pos + 4))) 0 (elements to (word_at bytes (pos + 4)) node_shape) old.end listed
          → ListsAll old listed
      all_of {listed = listed} all =
          subst (λ n. MapsAll node_names bytes own (slice_of n) 0 (elements to n node_shape) old.end listed) (vec_len bytes pos to len has vec) all

      -- an element failed
      pub list_failed : (why : Error) → ElementsWritten old new from last (Err why) → Mapped {A = Unit {0}} w bytes (named k path) (at pos (vector node_shape)) old new from last (Err why)
      list_failed why fails listed m =
          let o = list_listed bytes vec.points m in
          failed_listed w old new new o.inner (listed_region to (word_at bytes (pos + 4) * 24) own) o.is (fails o.inner (all_of o.all))

      pub list_mapped : (mid : Tally) (via : W) (result : Result (Unit {0}) Error) → ElementsWritten old mid from via (Ok tt) → WritesListed w (listed_region to (len * 24) own) mid new via last result
          → Mapped w bytes (named k path) (at pos (vector node_shape)) old new from last result
      list_mapped mid via result written region listed m =
          let o = list_listed bytes vec.points m in
          let is = o.is ∙ ap (λ n. o.inner ++ listed_region to (n * 24) own) (vec_len bytes pos to len has vec) in
          both_listed w old mid new last result o.inner (listed_region to (len * 24) own) is (written o.inner (all_of o.all)) region
