-- What is written of a node and of its payload, from what is written of the parts in it.
use Rattle.std.proofs.Common.{◌≡◌, ◌∙◌, ℕ, ◌+◌, ◌<◌, ◌≤◌, Bor, List, [], ◌∷◌, ◌++◌, drop, slice_index, Some, Result, Ok, Err, refl, sym, ap, subst, arith}
use Rattle.archive_shape_layout.specs.Bytes.{align_up, window}
use Rattle.archive_shape_layout.specs.Shape.{Shape, align_of}
use Rattle.archive_shape_layout.specs.Shape.Shape.{text, option, box}
use Rattle.archive_shape_layout.specs.Shape.Pointee.{sized}
use Rattle.archive_shape_layout.specs.Content.{shape_content, shape_tagged}
use Rattle.archive_shape_layout.specs.Content.Part.{at, entry}
use Rattle.archive_shape_layout.specs.Writing.{WriterMembers}
use Rattle.archive_shape_layout.specs.declared.error.Error.{Error}
use Rattle.archive_forms_laws.specs.Text.{LiesAt, IsText}
use Rattle.archive_forms_laws.specs.Text.LiesAt.{inline, out_of_line}
use Rattle.archive_forms_laws.proofs.TextContent.{before_ff-take, far_is, inline_is}
use Rattle.archive_forms_values.specs.Parts.{HasValue, PointsTo, IsSomeAt, IsBoxAt, some_position}
use Rattle.cabinet_text_grammar.specs.Path.{Step, key, inside}
use Rattle.cabinet_documents.specs.Node.{node_names, node_shape, payloads, whole_shape, KnowsNode}
use Rattle.cabinet_archives.specs.Mapping.{Name, Listed, listed_region, bytes_in, text_in, Maps, node}
use Rattle.cabinet_archives.specs.MapLines.{with_node, tallied, written}
use Rattle.cabinet_archives.specs.Mapped.{WritesListed, Mapped}
use Rattle.cabinet_archives.specs.declared.mapping.region.RegionKind.{RegionKind}
use Rattle.cabinet_archives.specs.declared.mapping.region.RegionKind.TheVariants as kind
use Rattle.cabinet_archives.specs.declared.mapping.tally.Tally.{Tally}
use Rattle.cabinet_archives.proofs.Auditing.{behind_tag}
use Rattle.cabinet_archives.proofs.Tallied.{none_written, failed_listed, both_listed, end_tallied}
use Rattle.cabinet_archives.proofs.NodeListings.{named, node_listed, payload_listed, BehindListed, some_listed, some_tagged, WholeListed, whole_first, whole_later, whole_listed}
use Rattle.cabinet_archives.proofs.MapListings.{entry_listed}
use Rattle.cabinet_archives.proofs.Walked.{not_none}
use Rattle.cabinet_archives.proofs.Ways.{Boxed}

-- ---- the bytes

-- the text of a key, as the path to its node has it
pub key_is : (bytes : List ℕ) (pos : ℕ) {t : List ℕ} → IsText bytes pos t → text_in bytes pos ≡ t
unfolding shape_content
key_is bytes pos h = lies h.there.start h.there.len h.there.stands ∙ sym h.is
  where
    lies : (start len : ℕ) → LiesAt bytes pos start len → text_in bytes pos ≡ window bytes start len
    lies start len (inline is e) =
        ap (bytes_in bytes) (inline_is node_names bytes pos (window bytes pos 8) refl is) ∙ before_ff-take 8 (drop pos bytes) ∙ ap (window bytes pos) (sym e)
    lies start len (out_of_line out e long leads) = ap (bytes_in bytes) (far_is node_names bytes pos (window bytes pos 8) refl out len e long start leads)

-- the box in an option leads to its node
pub boxed_listed : {x y : Bor (List ℕ)} {pos from to low : ℕ} {n : Name} {listed : List Listed} → HasValue (option Boxed) KnowsNode y.now pos → x ≡ y → from ≡ some_position Boxed pos → IsSomeAt Boxed KnowsNode y.now pos → IsBoxAt node_shape KnowsNode x.now from to
    → Maps node_names y.now n (at pos (option (box (sized node_shape)))) low listed → BehindListed y.now kind.Node n.path to low listed
boxed_listed {y = y} {pos = pos} {from = from} {to = to} has e there some is m =
    let points = subst (λ (b : Bor (List ℕ)). PointsTo b.now from to) e is.points in
    some_listed y.now m (some_tagged y.now m (not_none y.now pos has some)) (subst (λ n. PointsTo y.now n to) (there ∙ behind_tag pos) points)

module _ {W : Type 0} (w : WriterMembers W) where
  -- the node is counted first
  pub node_written : {A : Type 0} (old new : Tally) (from to : W) (result : Result A Error) {counted : Tally} {tag : ℕ} {inner listed : List Listed} → counted ≡ with_node old tag → listed ≡ node tag ∷ inner
      → WritesListed w inner counted new from to result → WritesListed w listed old new from to result
  unfolding tallied written
  node_written old new from to result {inner = inner} counted is h =
      subst (λ ls. WritesListed w ls old new from to result) (sym is) (subst (λ t. WritesListed w inner t new from to result) counted h)

  -- a payload that is aligned to four bytes
  pub payload_mapped : {A : Type 0} {x y : Bor (List ℕ)} {pos to tag : ℕ} {path : List Step} {counted : Tally} (old new : Tally) (from via : W) (s : Shape) (result : Result A Error)
      → x ≡ y → to ≡ pos + 4 → slice_index y.now pos ≡ tag → shape_tagged tag payloads ≡ Some s → align_of s ≡ 4 → counted ≡ with_node old (slice_index y.now pos)
      → Mapped w x.now (named kind.Text path) (at to s) counted new from via result
      → (k : RegionKind) → Mapped w y.now (named k path) (at pos node_shape) old new from via result
  payload_mapped {y = y} {to = to} {path = path} {counted = counted} old new from via s result e there is payload four count mapped k listed m =
      let o = payload_listed y.now s is payload four there m in
      let same = subst (λ (b : Bor (List ℕ)). Mapped w b.now (named kind.Text path) (at to s) counted new from via result) e mapped in
      node_written old new from via result count o.is (same o.inner (subst (λ (t : Tally). Maps node_names y.now (named kind.Text path) (at to s) t.end o.inner) (sym count) o.maps))

  -- a truth value or a number
  pub flat_mapped : (bytes : List ℕ) {pos tag : ℕ} {counted : Tally} (path : List Step) (old : Tally) (from : W) (s : Shape)
      → slice_index bytes pos ≡ tag → shape_tagged tag payloads ≡ Some s → counted ≡ with_node old (slice_index bytes pos)
      → ((n : Name) (to low : ℕ) (listed : List Listed) → Maps node_names bytes n (at to s) low listed → listed ≡ [])
      → (k : RegionKind) → Mapped {A = Unit {0}} w bytes (named k path) (at pos node_shape) old counted from from (Ok tt)
  flat_mapped bytes {pos = pos} {counted = counted} path old from s is payload count none k listed m =
      let o = node_listed bytes is payload m in
      node_written old counted from from (Ok (tt {0})) count o.is (none_written w (tt {0}) counted from (none (named kind.Text path) (pos + align_up 1 (align_of s)) old.end o.inner o.maps))

  -- ---- what lies in an option or a whole, and then its region

  pub behind_failed : {x y : Bor (List ℕ)} {k : RegionKind} {path : List Step} {to : ℕ} {listed : List Listed} (old mid : Tally) (from via : W) (why : Error)
      → x ≡ y → BehindListed y.now k path to old.end listed → ((j : RegionKind) → Mapped {A = Unit {0}} w x.now (named j (path ++ inside ∷ [])) (at to node_shape) old mid from via (Err why))
      → WritesListed {A = Unit {0}} w listed old mid from via (Err why)
  behind_failed {k = k} {path = path} {to = to} old mid from via why e b mapped =
      let same = subst (λ (c : Bor (List ℕ)). Mapped {A = Unit {0}} w c.now (named k (path ++ inside ∷ [])) (at to node_shape) old mid from via (Err why)) e (mapped k) in
      failed_listed w old mid mid b.inner (listed_region to 24 (named k path)) b.is (same b.inner b.maps)

  pub behind_mapped : {x y : Bor (List ℕ)} {k : RegionKind} {path : List Step} {to : ℕ} {listed : List Listed} (old mid new : Tally) (from via last : W) (result : Result (Unit {0}) Error)
      → x ≡ y → BehindListed y.now k path to old.end listed → ((j : RegionKind) → Mapped {A = Unit {0}} w x.now (named j (path ++ inside ∷ [])) (at to node_shape) old mid from via (Ok tt))
      → WritesListed w (listed_region to 24 (named k path)) mid new via last result → WritesListed w listed old new from last result
  behind_mapped {k = k} {path = path} {to = to} old mid new from via last result e b mapped region =
      let same = subst (λ (c : Bor (List ℕ)). Mapped {A = Unit {0}} w c.now (named k (path ++ inside ∷ [])) (at to node_shape) old mid from via (Ok tt)) e (mapped k) in
      both_listed w old mid new last result b.inner (listed_region to 24 (named k path)) b.is (same b.inner b.maps) region

  -- ---- a key, and then its node

  module _ {x y : Bor (List ℕ)} (path : List Step) (key_pos node_pos : ℕ) {t : List ℕ} (old mid : Tally) (from via : W) (e : x ≡ y) (is : IsText x.now key_pos t) (k : RegionKind) where
    -- the text of the key is the step that its node's path has
    same_step : text_in y.now key_pos ≡ t
    same_step = key_is y.now key_pos (subst (λ (b : Bor (List ℕ)). IsText b.now key_pos t) e is)

    own_text : {A : Type 0} (result : Result A Error) → Mapped w x.now (named kind.Key (path ++ key t ∷ [])) (at key_pos text) old mid from via result
        → Mapped w y.now (named kind.Key (path ++ key (text_in y.now key_pos) ∷ [])) (at key_pos text) old mid from via result
    own_text result mapped =
        subst (λ s. Mapped w y.now (named kind.Key (path ++ key s ∷ [])) (at key_pos text) old mid from via result) (sym same_step)
        (subst (λ (b : Bor (List ℕ)). Mapped w b.now (named kind.Key (path ++ key t ∷ [])) (at key_pos text) old mid from via result) e mapped)

    pub key_failed : (why : Error) → Mapped {A = Unit {0}} w x.now (named kind.Key (path ++ key t ∷ [])) (at key_pos text) old mid from via (Err why)
        → Mapped {A = Unit {0}} w y.now (named k path) (entry text key_pos node_shape node_pos) old mid from via (Err why)
    key_failed why mapped listed m =
        let o = entry_listed y.now m in
        failed_listed w old mid mid o.here o.later o.is (own_text {A = Unit {0}} (Err why) mapped o.here o.text)

    pub entry_mapped : (new : Tally) (last : W) (result : Result (Unit {0}) Error) → Mapped {A = Unit {0}} w x.now (named kind.Key (path ++ key t ∷ [])) (at key_pos text) old mid from via (Ok tt)
        → ((j : RegionKind) → Mapped w y.now (named j (path ++ key t ∷ [])) (at node_pos node_shape) mid new via last result)
        → Mapped w y.now (named k path) (entry text key_pos node_shape node_pos) old new from last result
    entry_mapped new last result text_written mapped listed m =
        let o = entry_listed y.now m in
        let first = own_text (Ok (tt {0})) text_written o.here o.text in
        let end = ap (λ (u : Tally). u.end) first.1 ∙ end_tallied old o.here in
        let same = subst (λ s. Mapped w y.now (named kind.Key (path ++ key s ∷ [])) (at node_pos node_shape) mid new via last result) (sym same_step) (mapped kind.Key) in
        both_listed w old mid new last result o.here o.later o.is first
        (same o.later (subst (λ low. Maps node_names y.now (named kind.Key (path ++ key (text_in y.now key_pos) ∷ [])) (at node_pos node_shape) low o.later) (sym end) o.node))

  -- ---- wholes

  -- at a later visit nothing is listed
  pub later_mapped : (bytes : List ℕ) (pos to : ℕ) (path : List Step) (old : Tally) (from : W) (k : RegionKind) → PointsTo bytes pos to → to < old.end
      → Mapped {A = Unit {0}} w bytes (named k path) (at pos whole_shape) old old from from (Ok tt)
  later_mapped bytes pos to path old from k points later listed m = none_written w (tt {0}) old from (by (whole_listed bytes {to = to} points m))
    where
      by : WholeListed bytes path to old.end listed → listed ≡ []
      by (whole_first first b) = absurd (omega (arith, first, later))
      by (whole_later less none) = none

-- at the first visit its node is
pub first_listed : (bytes : List ℕ) (pos to : ℕ) {low : ℕ} {n : Name} {listed : List Listed} → PointsTo bytes pos to → low ≤ to → Maps node_names bytes n (at pos whole_shape) low listed → BehindListed bytes kind.Whole n.path to low listed
first_listed bytes pos to {low = low} {n = n} {listed = listed} points first m = by (whole_listed bytes {to = to} points m)
  where
    by : WholeListed bytes n.path to low listed → BehindListed bytes kind.Whole n.path to low listed
    by (whole_first high b) = b
    by (whole_later later none) = absurd (omega (arith, first, later))
