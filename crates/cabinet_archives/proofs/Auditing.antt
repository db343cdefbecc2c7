-- What an audit finds of a container, from what it finds of the nodes in it.
use Rattle.std.proofs.Common.{MatchResult, ◌≡◌, ◌∙◌, ℕ, zero, suc, ◌+◌, ◌*◌, ◌<◌, ◌≤◌, Bor, true, false, nat_lt, List, [], ◌∷◌, ◌++◌, length, get_or, take, drop, max, slice_index, map, Result, Ok, Err, inl, inr, refl, sym, ap, ap₂, subst, arith, append-nil, append_assoc, lt-ltb, le-ltb}
use Rattle.std.specs.Prelude.{⊤, All}
use Rattle.std.specs.List.{flat_map}
use Rattle.std.proofs.lemmas.List.Elements.{All-nil, All-cons}
use Rattle.archive_shape_layout.specs.Shape.{Shape, size_of}
use Rattle.archive_shape_layout.specs.Shape.Shape.{text, option, vector}
use Rattle.archive_shape_layout.specs.Value.{Value, Values}
use Rattle.archive_shape_layout.specs.Value.Values.{no_values, more_values}
use Rattle.archive_shape_layout.specs.Content.{Names, Part, elements, members}
use Rattle.archive_shape_layout.specs.Content.Part.{at}
use Rattle.archive_shape.specs.declared.references.refs.Ref.{Ref}
use Rattle.archive_shape_layout.specs.Bytes.{align_up}
use Rattle.archive_forms_values.specs.Parts.{HasValue, HasElements, PointsTo, IsNoneAt, IsSomeAt, IsVecAt, some_position}
use Rattle.archive_btree_layout.specs.Reading.{Place}
use Rattle.archive_btree_layout.specs.Tree.{Tree, items}
use Rattle.archive_btree_maps.specs.Maps.{IsMapAt, IsMapOf, AreEntriesAt}
use Rattle.archive_btree_maps.specs.Refs.{value_at}
use Rattle.archive_btree_maps.proofs.Roots.{tree_of_value}
use Rattle.cabinet_documents.specs.Node.{node_shape, node_names, KnowsNode}
use Rattle.cabinet_documents.specs.Order.{ascend}
use Rattle.cabinet_documents.specs.Table.{item_keys}
use Rattle.cabinet_documents.specs.Walk.{Stop, Walks, WalkAll}
use Rattle.cabinet_documents.specs.Audit as audit
use Rattle.cabinet_documents.specs.Audit.{too_deep, keys_not_ascending, unless, faults, first_of}
use Rattle.cabinet_archived.specs.declared.node.ArchivedNode.{ArchivedNode}
use Rattle.cabinet_documents.proofs.Places.{node_here, option_here, list_here, part_of, whole_here}
use Rattle.cabinet_documents.proofs.NodeWalks.{OptionWalk, walks_none, walks_some, option_walk, list_walk, element_walk, element_count, whole_walk}
use Rattle.cabinet_documents.proofs.TreeWalks.{ItemsWalk, no_items, more_items}
use Rattle.cabinet_archives.specs.Keyed.{knows_pairs}
use Rattle.cabinet_archives.specs.declared.opening.refusal.OpenRefusal.{OpenRefusal}
use Rattle.cabinet_archives.specs.declared.opening.refusal.OpenRefusal.TheVariants as refusal
use Rattle.cabinet_archives.specs.Ordered.{map_shape, lead_to_leaves}
use Rattle.cabinet_archives.specs.Sound.{Reports, Audits, HasHeight, AuditsTo}
use Rattle.cabinet_archives.proofs.Heights.{AreAsHigh, flat_high, both_high, high_at, around_high, first_stays, flat_height, height_in, past_refused}
use Rattle.cabinet_archives.proofs.LeafTags.{quiet_leaves}
use Rattle.cabinet_archives.proofs.Walked.{Boxed, Inner, leaf_faults, none_faults, some_in, vector_in, map_in, whole_in}

-- ---- faults one after another

pub reports_as : (r : Result (Unit {0}) OpenRefusal) {xs ys : List audit.Unsound} → xs ≡ ys → Reports r ys → Reports r xs
reports_as r e h = subst (Reports r) (sym e) h

-- what is refused is refused whatever comes after
pub refused_first : (r : OpenRefusal) (xs ys : List audit.Unsound) → Reports (Err r) xs → Reports (Err r) (xs ++ ys)
refused_first r xs ys h = (h.0, h.1, first_stays h.0 xs ys h.2)

-- ---- containers

pub not_deep : (depth inner : ℕ) → inner ≡ depth + 1 → inner ≤ 64 → unless (nat_lt depth 64) too_deep ≡ []
not_deep depth inner e low = ap (λ b. unless b too_deep) (lt-ltb depth 64 (omega (arith, e, low)))

pub deep_reported : (depth : ℕ) (r : OpenRefusal) (rest : List audit.Unsound) → 64 ≤ depth → r ≡ refusal.TooDeep → Reports (Err r) (unless (nat_lt depth 64) too_deep ++ rest)
deep_reported depth r rest deep e =
    subst (λ x. Reports (Err x) (unless (nat_lt depth 64) too_deep ++ rest)) (sym e)
    (audit.too_deep, refl, ap (λ b. first_of (unless b too_deep ++ rest)) (le-ltb depth 64 deep))

-- ---- a part in a part

module _ (bytes : List ℕ) (depth : ℕ) where
  -- what is reported of a payload is reported of its node
  pub audited_in : {p q : Part} (r : Result (Unit {0}) OpenRefusal) → ((v : Value) (walk : List Stop) → Walks node_names bytes depth p v walk → Inner bytes depth q walk) → Audits bytes depth q r → Audits bytes depth p r
  audited_in r inner told = λ v walk h. let i = inner v walk h in reports_as r i.faults_are (told i.value i.run i.walked)

  -- a container has its own fault first
  pub record HasOwn (walk : List Stop) : Type 0 where
    pub rest : List audit.Unsound
    pub faults_are : faults bytes walk ≡ unless (nat_lt depth 64) too_deep ++ rest

  pub own_reported : (r : OpenRefusal) (walk : List Stop) → 64 ≤ depth → r ≡ refusal.TooDeep → HasOwn walk → Reports (Err r) (faults bytes walk)
  own_reported r walk deep e own = reports_as (Err r) own.faults_are (deep_reported depth r own.rest deep e)

  own_of_option : (pos : ℕ) (v : Value) (walk : List Stop) → OptionWalk bytes depth pos v walk → HasOwn walk
  own_of_option pos v walk (walks_none e is f) = record { rest = []; faults_are = f ∙ sym (append-nil (unless (nat_lt depth 64) too_deep)) }
  own_of_option pos v walk (walks_some {run = run} e target is node f) = record { rest = faults bytes run; faults_are = f }

  module _ (r : OpenRefusal) (deep : 64 ≤ depth) (e : r ≡ refusal.TooDeep) (pos : ℕ) where
    pub deep_option : Audits bytes depth (part_of option_here pos) (Err r)
    deep_option = λ v walk h. own_reported r walk deep e (own_of_option pos v walk (option_walk bytes pos h))

    pub deep_list : Audits bytes depth (part_of list_here pos) (Err r)
    deep_list = λ v walk h. let l = list_walk bytes pos h in own_reported r walk deep e (record { rest = flat_map (faults bytes) l.runs; faults_are = l.faults_are })

    pub deep_whole : Audits bytes depth (part_of whole_here pos) (Err r)
    deep_whole = λ v walk h. let w = whole_walk bytes pos h in own_reported r walk deep e (record { rest = faults bytes w.run; faults_are = w.faults_are })

    pub deep_map : HasValue map_shape knows_pairs bytes pos → Audits bytes depth (at pos map_shape) (Err r)
    deep_map has = λ v walk h.
        let m : IsMapOf text node_shape (λ _. ⊤) KnowsNode bytes 5 pos has.value = tree_of_value has in
        let w = map_in bytes m.map h in
        own_reported r walk deep e (record { rest = unless (ascend (item_keys (members v))) keys_not_ascending ++ flat_map (faults bytes) w.runs; faults_are = w.faults_are })

-- ---- options

module _ (bytes : List ℕ) (pos : ℕ) (has : HasValue (option Boxed) KnowsNode bytes pos) where
  pub none_height : IsNoneAt Boxed KnowsNode bytes pos → HasHeight bytes (part_of option_here pos) 1
  none_height none =
      around_high bytes (part_of option_here pos) 0
      (λ depth v walk w. record {
        rest = [];
        faults_are = none_faults bytes has w none ∙ sym (append-nil (unless (nat_lt depth 64) too_deep));
        high = λ less. flat_high (depth + 1) (omega (arith, less));
      })

  module _ (next : ℕ) (some : IsSomeAt Boxed KnowsNode bytes pos) (points : PointsTo bytes (pos + 4) next) where
    pub some_height : (height : ℕ) → HasHeight bytes (part_of node_here next) height → HasHeight bytes (part_of option_here pos) (height + 1)
    some_height height is =
        around_high bytes (part_of option_here pos) height
        (λ depth v walk w. let d = some_in bytes has w some points in record {
          rest = faults bytes d.run;
          faults_are = d.faults_are;
          high = λ less. high_at bytes is (omega (arith, less)) d.walked;
        })

    pub some_refused : (r : OpenRefusal) (depth inner : ℕ) → inner ≡ depth + 1 → inner ≤ 64 → Audits bytes inner (part_of node_here next) (Err r) → Audits bytes depth (part_of option_here pos) (Err r)
    some_refused r depth inner deeper low told = λ v walk w.
        let d = some_in bytes has w some points in
        reports_as (Err r) (d.faults_are ∙ ap (λ x. x ++ faults bytes d.run) (not_deep depth inner deeper low))
        (told d.value d.run (subst (λ n. Walks node_names bytes n (part_of node_here next) d.value d.run) (sym deeper) d.walked))

-- ---- wholes

module _ (bytes : List ℕ) (pos next : ℕ) (points : PointsTo bytes pos next) where
  pub whole_height : (height : ℕ) → HasHeight bytes (part_of node_here next) height → HasHeight bytes (part_of whole_here pos) (height + 1)
  whole_height height is =
      around_high bytes (part_of whole_here pos) height
      (λ depth v walk w. let d = whole_in bytes w points in record {
        rest = faults bytes d.run;
        faults_are = d.faults_are;
        high = λ less. high_at bytes is (omega (arith, less)) d.walked;
      })

  pub whole_refused : (r : OpenRefusal) (depth inner : ℕ) → inner ≡ depth + 1 → inner ≤ 64 → Audits bytes inner (part_of node_here next) (Err r) → Audits bytes depth (part_of whole_here pos) (Err r)
  whole_refused r depth inner deeper low told = λ v walk w.
      let d = whole_in bytes w points in
      reports_as (Err r) (d.faults_are ∙ ap (λ x. x ++ faults bytes d.run) (not_deep depth inner deeper low))
      (told d.value d.run (subst (λ n. Walks node_names bytes n (part_of node_here next) d.value d.run) (sym deeper) d.walked))

  -- around a node of which the height is known
  pub around_found : (r : Result ℕ OpenRefusal) (height depth : ℕ) → depth ≤ 64 → HasHeight bytes (part_of node_here next) height
      → MatchResult r (λ around. (around ≡ height + 1) × (depth + around ≤ 64)) (λ why. (64 < depth + (height + 1)) × (why ≡ refusal.TooDeep))
      → AuditsTo bytes depth (part_of whole_here pos) r
  around_found (Ok around) height depth low is h = (h.1, subst (HasHeight bytes (part_of whole_here pos)) (sym h.0) (whole_height height is))
  around_found (Err why) height depth low is h = inr (past_refused bytes (part_of whole_here pos) (height + 1) depth (whole_height height is) low h.0 why h.1)

-- what is refused in a part is refused of the part
pub refused_on : {bytes : List ℕ} {depth inner : ℕ} {p q : Part} (r : OpenRefusal) → (Audits bytes inner q (Err r) → Audits bytes depth p (Err r)) → AuditsTo bytes inner q (Err r) → AuditsTo bytes depth p (Err r)
refused_on r on (inl e) = inl e
refused_on r on (inr told) = inr (on told)

-- what is found of a payload is found of its node
pub found_in : (bytes : List ℕ) (depth : ℕ) {p q : Part} (r : Result ℕ OpenRefusal) → ((depth : ℕ) (v : Value) (walk : List Stop) → Walks node_names bytes depth p v walk → Inner bytes depth q walk) → AuditsTo bytes depth q r → AuditsTo bytes depth p r
found_in bytes depth (Ok height) inner h = (h.0, height_in bytes height inner h.1)
found_in bytes depth (Err r) inner h = refused_on r (audited_in bytes depth (Err r) (λ v walk w. inner depth v walk w)) h

-- the same bytes at the same place
pub audits_as : {x y : Bor (List ℕ)} {pos to : ℕ} (depth : ℕ) (s : Shape) (r : Result (Unit {0}) OpenRefusal) → x ≡ y → pos ≡ to → Audits x.now depth (at pos s) r → Audits y.now depth (at to s) r
audits_as {x = x} {to = to} depth s r e f h = subst (λ (b : Bor (List ℕ)). Audits b.now depth (at to s) r) e (subst (λ n. Audits x.now depth (at n s) r) f h)

pub value_as : {x y : Bor (List ℕ)} {pos to : ℕ} (s : Shape) (knows : Names → Type 0) → x ≡ y → pos ≡ to → HasValue s knows x.now pos → HasValue s knows y.now to
value_as {x = x} {to = to} s knows e f h = subst (λ (b : Bor (List ℕ)). HasValue s knows b.now to) e (subst (λ n. HasValue s knows x.now n) f h)

-- the box in an option
pub boxed_there : {bytes other : Bor (List ℕ)} {pos to : ℕ} → HasValue (option Boxed) KnowsNode bytes.now pos → other ≡ bytes → to ≡ some_position Boxed pos → IsSomeAt Boxed KnowsNode bytes.now pos → HasValue Boxed KnowsNode other.now to
boxed_there has e f some = let p = some has.value has.held in value_as Boxed KnowsNode (sym e) (sym f) (record { value = p.payload; held = p.held })

pub behind_tag : (pos : ℕ) → some_position Boxed pos ≡ pos + 4
unfolding align_up
behind_tag pos = refl

-- a leaf is not high
pub leaf_height : (bytes : List ℕ) (pos : ℕ) → slice_index bytes pos ≤ 3 → HasHeight bytes (part_of node_here pos) 0
leaf_height bytes pos low = flat_height bytes (part_of node_here pos) (λ depth v walk h. leaf_faults bytes h low)

-- ---- elements

pub elements_of : (bytes : List ℕ) (pos to len : ℕ) → HasValue (vector node_shape) KnowsNode bytes pos → IsVecAt node_shape KnowsNode bytes pos to len → HasElements node_shape KnowsNode bytes to len
elements_of bytes pos to len has vec = record { value = has.value; stand = vec.value has.value has.held }

module _ (bytes : List ℕ) (start len : ℕ) (all : HasElements node_shape KnowsNode bytes start len) where
  pub element_there : (i : ℕ) → i < len → HasValue node_shape KnowsNode bytes (start + i * size_of node_shape)
  element_there i less = let one = all.stand.each i less in record { value = one.0; held = one.2 }

module _ (bytes : List ℕ) where
  rest_runs : (runs : List (List Stop)) (i : ℕ) → i < length runs → flat_map (faults bytes) (drop i runs) ≡ faults bytes (get_or runs i []) ++ flat_map (faults bytes) (drop (suc i) runs)
  rest_runs [] i less = absurd (omega (arith, less))
  rest_runs (run ∷ runs) zero less = refl
  rest_runs (run ∷ runs) (suc i) less = rest_runs runs i (omega (arith, less))

  split_runs : (runs : List (List Stop)) (i : ℕ) → flat_map (faults bytes) runs ≡ flat_map (faults bytes) (take i runs) ++ flat_map (faults bytes) (drop i runs)
  split_runs runs zero = refl
  split_runs [] (suc i) = refl
  split_runs (run ∷ runs) (suc i) =
      ap (λ x. faults bytes run ++ x) (split_runs runs i)
      ∙ sym (append_assoc (faults bytes run) (flat_map (faults bytes) (take i runs)) (flat_map (faults bytes) (drop i runs)))

  next_runs : (runs : List (List Stop)) (i : ℕ) → i < length runs → flat_map (faults bytes) (take (suc i) runs) ≡ flat_map (faults bytes) (take i runs) ++ faults bytes (get_or runs i [])
  next_runs [] i less = absurd (omega (arith, less))
  next_runs (run ∷ runs) zero less = append-nil (faults bytes run)
  next_runs (run ∷ runs) (suc i) less =
      ap (λ x. faults bytes run ++ x) (next_runs runs i (omega (arith, less)))
      ∙ sym (append_assoc (faults bytes run) (flat_map (faults bytes) (take i runs)) (faults bytes (get_or runs i [])))

  all_runs : (runs : List (List Stop)) (i : ℕ) → length runs ≤ i → flat_map (faults bytes) (take i runs) ≡ flat_map (faults bytes) runs
  all_runs [] zero most = refl
  all_runs [] (suc i) most = refl
  all_runs (run ∷ runs) zero most = absurd (omega (arith, most))
  all_runs (run ∷ runs) (suc i) most = ap (λ x. faults bytes run ++ x) (all_runs runs i (omega (arith, most)))

  module _ (start len : ℕ) where
    abbrev pub node_part : ℕ → Part
    node_part i = part_of node_here (start + i * size_of node_shape)

    -- the highest node before index i is so high
    abbrev pub AreHighBefore : (height i : ℕ) → Type 0
    AreHighBefore height i =
        (depth : ℕ) (vs : Values) (runs : List (List Stop))
        → depth ≤ 64
        → WalkAll node_names bytes depth (elements start len node_shape) vs runs
        → AreAsHigh depth height (flat_map (faults bytes) (take i runs))

    pub none_before : AreHighBefore 0 0
    none_before = λ depth vs runs low all. flat_high depth low

    module _ (height i : ℕ) (less : i < len) (before : AreHighBefore height i) where
      pub high_on : (other next : ℕ) → next ≡ i + 1 → HasHeight bytes (node_part i) other → AreHighBefore (max height other) next
      high_on other next is high = λ depth vs runs low all.
          let e = element_walk node_names bytes node_shape i len less all in
          let count = element_count node_names bytes node_shape len start all in
          let more : suc i ≡ next = omega (arith, is) in
          subst (AreAsHigh depth (max height other)) (sym (next_runs runs i (omega (arith, less, count))) ∙ ap (λ n. flat_map (faults bytes) (take n runs)) more)
          (both_high depth height other (flat_map (faults bytes) (take i runs)) (faults bytes (get_or runs i [])) (before depth vs runs low all) (high_at bytes high low e.walk))

      pub refused_at : (depth : ℕ) → depth + height ≤ 64 → (r : OpenRefusal) → Audits bytes depth (node_part i) (Err r)
          → (vs : Values) (runs : List (List Stop)) → WalkAll node_names bytes depth (elements start len node_shape) vs runs → Reports (Err r) (flat_map (faults bytes) runs)
      refused_at depth low r told vs runs all =
          let e = element_walk node_names bytes node_shape i len less all in
          let count = element_count node_names bytes node_shape len start all in
          let none = (before depth vs runs (omega (arith, low)) all).0 low in
          reports_as (Err r)
          (split_runs runs i ∙ ap (λ x. x ++ flat_map (faults bytes) (drop i runs)) none ∙ rest_runs runs i (omega (arith, less, count)))
          (refused_first r (faults bytes (get_or runs i [])) (flat_map (faults bytes) (drop (suc i) runs)) (told e.value (get_or runs i []) e.walk))

  -- ---- lists

  module _ (pos to len : ℕ) (has : HasValue (vector node_shape) KnowsNode bytes pos) (vec : IsVecAt node_shape KnowsNode bytes pos to len) where
    pub list_height : (height n : ℕ) → len ≤ n → AreHighBefore to len height n → HasHeight bytes (part_of list_here pos) (height + 1)
    list_height height n most all =
        around_high bytes (part_of list_here pos) height
        (λ depth v walk w.
        let l = vector_in bytes has vec w in
        let count = element_count node_names bytes node_shape len to l.nodes in record {
          rest = flat_map (faults bytes) l.runs;
          faults_are = l.faults_are;
          high = λ less. subst (AreAsHigh (depth + 1) height) (all_runs l.runs n (omega (arith, most, count))) (all (depth + 1) l.vs l.runs (omega (arith, less)) l.nodes);
        })

    pub list_refused : (r : OpenRefusal) (depth inner : ℕ) → inner ≡ depth + 1 → inner ≤ 64
        → ((vs : Values) (runs : List (List Stop)) → WalkAll node_names bytes inner (elements to len node_shape) vs runs → Reports (Err r) (flat_map (faults bytes) runs))
        → Audits bytes depth (part_of list_here pos) (Err r)
    list_refused r depth inner deeper low told = λ v walk w.
        let l = vector_in bytes has vec w in
        reports_as (Err r) (l.faults_are ∙ ap (λ x. x ++ flat_map (faults bytes) l.runs) (not_deep depth inner deeper low))
        (told l.vs l.runs (subst (λ n. WalkAll node_names bytes n (elements to len node_shape) l.vs l.runs) (sym deeper) l.nodes))

-- ---- entries

-- a reference leads to a node of these bytes
abbrev pub IsNodeOf : Bor (List ℕ) → Ref ArchivedNode → Type 0
IsNodeOf bytes r = (r.bytes ≡ bytes) × HasValue node_shape KnowsNode r.bytes.now r.pos

module _ (bytes : Bor (List ℕ)) where
  -- the walks of the nodes that are left: their faults come behind those of others, of which the highest is so high
  pub record AreLeft (depth height : ℕ) (left : List (Ref ArchivedNode)) (all : List audit.Unsound) : Type 0 where
    pub places : List Place
    pub vs : Values
    pub runs : List (List Stop)
    pub before : List audit.Unsound
    pub left_are : left ≡ map (value_at bytes) places
    pub items : ItemsWalk node_names bytes.now text node_shape depth places vs runs
    pub high : AreAsHigh depth height before
    pub faults_are : all ≡ before ++ flat_map (faults bytes.now) runs

  -- the first of them, and the others
  record FirstLeft (depth : ℕ) (r : Ref ArchivedNode) (others : List (Ref ArchivedNode)) (rest : List audit.Unsound) : Type 0 where
    value : Value
    run : List Stop
    first : Walks node_names bytes.now depth (part_of node_here r.pos) value run
    places : List Place
    vs : Values
    runs : List (List Stop)
    left_are : others ≡ map (value_at bytes) places
    items : ItemsWalk node_names bytes.now text node_shape depth places vs runs
    rest_is : rest ≡ faults bytes.now run ++ flat_map (faults bytes.now) runs

  first_of_items : {depth : ℕ} {r : Ref ArchivedNode} {others : List (Ref ArchivedNode)} {places : List Place} {vs : Values} {runs : List (List Stop)}
      → r ∷ others ≡ map (value_at bytes) places → ItemsWalk node_names bytes.now text node_shape depth places vs runs → FirstLeft depth r others (flat_map (faults bytes.now) runs)
  first_of_items e (no_items a b c) = let x = e ∙ ap (map (value_at bytes)) a in absurd (cc)
  first_of_items {depth = depth} {r = r} e (more_items {p = p} {ps = ps} {y = y} {vs = vs} {run = run} {later = later} a b c k n all) =
      let x = e ∙ ap (map (value_at bytes)) a in
      let here : r ≡ value_at bytes p = cc in
      record {
        value = y;
        run = run;
        first = subst (λ n. Walks node_names bytes.now depth (part_of node_here n) y run) (ap (λ (q : Ref ArchivedNode). q.pos) (sym here)) n;
        places = ps;
        vs = vs;
        runs = later;
        left_are = cc;
        items = all;
        rest_is = ap (flat_map (faults bytes.now)) c;
      }

  first_left : {depth height : ℕ} {left : List (Ref ArchivedNode)} {r : Ref ArchivedNode} {others : List (Ref ArchivedNode)} {all : List audit.Unsound} → left ≡ r ∷ others → (a : AreLeft depth height left all) → FirstLeft depth r others (flat_map (faults bytes.now) a.runs)
  first_left e a = first_of_items (sym e ∙ a.left_are) a.items

  none_left : {depth height : ℕ} {left : List (Ref ArchivedNode)} {all : List audit.Unsound} → left ≡ [] → AreLeft depth height left all → AreAsHigh depth height all
  none_left {depth = depth} {height = height} e a =
      subst (AreAsHigh depth height) (sym (append-nil a.before) ∙ ap (λ x. a.before ++ x) (sym (by (sym e ∙ a.left_are) a.items)) ∙ sym a.faults_are) a.high
    where
      by : {depth : ℕ} {places : List Place} {vs : Values} {runs : List (List Stop)} → [] ≡ map (value_at bytes {V = ArchivedNode}) places → ItemsWalk node_names bytes.now text node_shape depth places vs runs → flat_map (faults bytes.now) runs ≡ []
      by e (no_items a b c) = ap (flat_map (faults bytes.now)) c
      by e (more_items a b c k n all) = let x = e ∙ ap (map (value_at bytes {V = ArchivedNode})) a in absurd (cc)

  -- ---- maps

  -- nodes are left of a map, and its faults are those of others, of which the highest is so high, and then theirs
  abbrev pub IsLeft : Part → (height : ℕ) → List (Ref ArchivedNode) → Type 0
  IsLeft p height left = (depth : ℕ) (v : Value) (walk : List Stop) → depth < 64 → Walks node_names bytes.now depth p v walk → AreLeft (depth + 1) height left (faults bytes.now walk)

  module _ (p : Part) (height : ℕ) where
    module _ {left : List (Ref ArchivedNode)} {r : Ref ArchivedNode} {others : List (Ref ArchivedNode)} (e : left ≡ r ∷ others) (is : IsLeft p height left) where
      -- after one that is so high, the others are left
      pub left_on : (other : ℕ) → HasHeight bytes.now (part_of node_here r.pos) other → IsLeft p (max height other) others
      left_on other high = λ depth v walk less w.
          let a = is depth v walk less w in
          let f = first_left e a in
          record {
            places = f.places;
            vs = f.vs;
            runs = f.runs;
            before = a.before ++ faults bytes.now f.run;
            left_are = f.left_are;
            items = f.items;
            high = both_high (depth + 1) height other a.before (faults bytes.now f.run) a.high (high_at bytes.now high (omega (arith, less)) f.first);
            faults_are = a.faults_are ∙ ap (λ x. a.before ++ x) f.rest_is ∙ sym (append_assoc a.before (faults bytes.now f.run) (flat_map (faults bytes.now) f.runs));
          }

      pub left_refused : (depth inner : ℕ) → inner ≡ depth + 1 → inner + height ≤ 64 → (why : OpenRefusal) → Audits bytes.now inner (part_of node_here r.pos) (Err why) → Audits bytes.now depth p (Err why)
      left_refused depth inner deeper low why told = λ v walk w.
          let a = is depth v walk (omega (arith, deeper, low)) w in
          let f = first_left e a in
          reports_as (Err why) (a.faults_are ∙ ap₂ (λ x y. x ++ y) (a.high.0 (omega (arith, deeper, low))) f.rest_is)
          (refused_first why (faults bytes.now f.run) (flat_map (faults bytes.now) f.runs)
          (told f.value f.run (subst (λ n. Walks node_names bytes.now n (part_of node_here r.pos) f.value f.run) (sym deeper) f.first)))

    -- a map with its own fault first
    pub left_height : {left : List (Ref ArchivedNode)} → left ≡ [] → IsLeft p height left
        → ((depth : ℕ) (v : Value) (walk : List Stop) → Walks node_names bytes.now depth p v walk → HasOwn bytes.now depth walk) → HasHeight bytes.now p (height + 1)
    left_height e is own =
        around_high bytes.now p height
        (λ depth v walk w. let o = own depth v walk w in record {
          rest = o.rest;
          faults_are = o.faults_are;
          high = λ less.
              subst (AreAsHigh (depth + 1) height) (o.faults_are ∙ ap (λ b. unless b too_deep ++ o.rest) (lt-ltb depth 64 less))
              (none_left e (is depth v walk less w));
        })

  -- nodes stand at all of them
  pub nodes_there : (ps : List Place) (ws : Values) → AreEntriesAt text node_shape (λ _. ⊤) KnowsNode bytes.now ps ws → All (IsNodeOf bytes) (map (value_at bytes) ps)
  nodes_there [] ws h = All-nil (IsNodeOf bytes)
  nodes_there (p ∷ ps) no_values h = absurd h
  nodes_there (p ∷ ps) (more_values w ws) h = All-cons (IsNodeOf bytes) (value_at bytes p) (map (value_at bytes) ps) (refl, record { value = h.0.value; held = h.0.value_held }) (nodes_there ps ws h.1)

  -- ---- ordered maps

  module _ (pos : ℕ) (has : HasValue map_shape knows_pairs bytes.now pos) where
    tree : IsMapOf text node_shape (λ _. ⊤) KnowsNode bytes.now 5 pos has.value
    tree = tree_of_value has

    -- at first all are
    pub all_left : (left : List (Ref ArchivedNode))
        → ((depth : ℕ) (v : Value) (walk : List Stop) → Walks node_names bytes.now depth (at pos map_shape) v walk → ascend (item_keys (members v)) ≡ true)
        → ((t : Tree Place) → IsMapAt bytes.now 5 text node_shape pos t → left ≡ map (value_at bytes) (items t))
        → IsLeft (at pos map_shape) 0 left
    all_left left told values = λ depth v walk less w.
        let m = map_in bytes.now tree.map w in
        record {
          places = items tree.search_tree;
          vs = members v;
          runs = m.runs;
          before = [];
          left_are = values tree.search_tree tree.map;
          items = m.items;
          high = flat_high (depth + 1) (omega (arith, less));
          faults_are =
              m.faults_are
              ∙ ap (λ b. unless b too_deep ++ (unless (ascend (item_keys (members v))) keys_not_ascending ++ flat_map (faults bytes.now) m.runs)) (lt-ltb depth 64 less)
              ∙ ap (λ b. unless b keys_not_ascending ++ flat_map (faults bytes.now) m.runs) (told depth v walk w);
        }

    -- a map of leaves has no others in it
    pub leaves_height : ((depth : ℕ) (v : Value) (walk : List Stop) → Walks node_names bytes.now depth (at pos map_shape) v walk
        → (ascend (item_keys (members v)) ≡ true) × (lead_to_leaves (members v) ≡ true)) → HasHeight bytes.now (at pos map_shape) 1
    leaves_height told =
        around_high bytes.now (at pos map_shape) 0
        (λ depth v walk w.
        let m = map_in bytes.now tree.map w in
        let is = told depth v walk w in record {
          rest = [];
          faults_are =
              m.faults_are
              ∙ ap (λ b. unless (nat_lt depth 64) too_deep ++ (unless b keys_not_ascending ++ flat_map (faults bytes.now) m.runs)) is.0
              ∙ ap (λ x. unless (nat_lt depth 64) too_deep ++ x) (quiet_leaves bytes.now m.items is.1);
          high = λ less. flat_high (depth + 1) (omega (arith, less));
        })

    pub own_of_map : (depth : ℕ) (v : Value) (walk : List Stop) → Walks node_names bytes.now depth (at pos map_shape) v walk → HasOwn bytes.now depth walk
    own_of_map depth v walk w =
        let m = map_in bytes.now tree.map w in
        record { rest = unless (ascend (item_keys (members v))) keys_not_ascending ++ flat_map (faults bytes.now) m.runs; faults_are = m.faults_are }

    -- keys that do not ascend are reported first
    pub descending : (depth inner : ℕ) → inner ≡ depth + 1 → inner ≤ 64
        → ((depth : ℕ) (v : Value) (walk : List Stop) → Walks node_names bytes.now depth (at pos map_shape) v walk → ascend (item_keys (members v)) ≡ false)
        → Audits bytes.now depth (at pos map_shape) (Err refusal.KeysNotAscending)
    descending depth inner deeper low told = λ v walk h.
        let m = map_in bytes.now tree.map h in
        reports_as (Err refusal.KeysNotAscending)
        (m.faults_are
        ∙ ap (λ x. x ++ (unless (ascend (item_keys (members v))) keys_not_ascending ++ flat_map (faults bytes.now) m.runs)) (not_deep depth inner deeper low)
        ∙ ap (λ b. unless b keys_not_ascending ++ flat_map (faults bytes.now) m.runs) (told depth v walk h))
        (keys_not_ascending, refl, refl)

    pub all_there : (left : List (Ref ArchivedNode)) → ((t : Tree Place) → IsMapAt bytes.now 5 text node_shape pos t → left ≡ map (value_at bytes) (items t)) → All (IsNodeOf bytes) left
    all_there left values = subst (All (IsNodeOf bytes)) (sym (values tree.search_tree tree.map)) (nodes_there (items tree.search_tree) (members has.value) tree.entries)
