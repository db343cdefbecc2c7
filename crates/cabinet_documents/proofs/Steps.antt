-- From a node to its payload, and from there to the nodes in it: what holds there, and that it lies in the node.
use Rattle.std.proofs.Common.{◌≡◌, ℕ, zero, suc, ◌+◌, ◌*◌, Bool, true, false, List, [], ◌∷◌, Some, refl, sym, ap, subst, ◌∙◌, arith}
use Rattle.std.specs.Prelude.{⊤}
use Rattle.std.specs.List.{slice_get}
use Rattle.archive_shape_layout.specs.Value.{Value, Values, count_values}
use Rattle.archive_shape_layout.specs.Value.Value.{group, string}
use Rattle.archive_shape_layout.specs.Value.Values.{no_values, more_values}
use Rattle.archive_shape_layout.specs.Content.{Part, Label, Span, content_of, made, shape_content, pointee_content, choose, elements}
use Rattle.archive_shape_layout.specs.Bytes.{align_up, window}
use Rattle.archive_shape_layout.specs.Content.Label.{same, whole, tagged, written}
use Rattle.archive_shape_layout.specs.Content.Content.{plain, claimed}
use Rattle.archive_shape_layout.specs.Holds.{Region, Visit, OpenShared, Holds, HoldAll}
use Rattle.archive_shape_layout.specs.Holds.HoldAll.{holds_none, holds_more}
use Rattle.archive_shape_layout.specs.Path.{Stands, StandsIn, through, value_in}
use Rattle.archive_shape_layout.specs.Path.Stands.{stands_plain, stands_claimed}
use Rattle.archive_shape_layout.specs.Path.StandsIn.{stands_first, stands_later}
use Rattle.archive_shape_layout.proofs.Unique.{by_plain, by_claimed}
use Rattle.cabinet_documents.specs.Node.{node_names, node_shape}
use Rattle.cabinet_documents.specs.Denotes.{tagged_value}
use Rattle.cabinet_documents.proofs.Places.{Place, node_here, payload_here, truth_here, number_here, text_here, shared_here, option_here, box_here, list_here, ordered_here, table_here, index_here, whole_here, tree_child, node_behind, nodes_behind, text_behind, Spot, part_of, parts_at, each_from, nodes_from, nodes_are, Passes, node_passes, box_passes, behind_passes, list_passes, text_passes, child_passes, table_passes, Pays, Follows, passes, pays, truth_is, number_is, text_is, none_is, some_is, Leads, leads_nowhere, leads_plain, leads_claimed, led}
use Rattle.cabinet_documents.proofs.Nodes.{none_illegal, TruthValue, NumberValue, TextValue, ValueAt, ValuesAt, none_at, follow}

-- some places pass on the value of what they lead to
abbrev pub is_passing : Place → Bool
is_passing node_here = true
is_passing box_here = true
is_passing node_behind = true
is_passing list_here = true
is_passing text_here = true
is_passing (tree_child level) = true
is_passing table_here = true
is_passing k = false

pub passing : {bytes : List ℕ} {k j : Place} → Passes bytes k j → is_passing k ≡ true
passing node_passes = refl
passing box_passes = refl
passing behind_passes = refl
passing (list_passes small) = refl
passing text_passes = refl
passing child_passes = refl
passing (table_passes small) = refl

-- where the payload of a tag is, the greatest of which is 8
abbrev pub place_of : ℕ → Place
place_of zero = truth_here
place_of (suc zero) = number_here
place_of (suc (suc zero)) = text_here
place_of (suc (suc (suc zero))) = shared_here
place_of (suc (suc (suc (suc zero)))) = option_here
place_of (suc (suc (suc (suc (suc zero))))) = list_here
place_of (suc (suc (suc (suc (suc (suc zero)))))) = ordered_here
place_of (suc (suc (suc (suc (suc (suc (suc zero))))))) = table_here
place_of (suc (suc (suc (suc (suc (suc (suc (suc zero)))))))) = index_here
place_of (suc (suc (suc (suc (suc (suc (suc (suc (suc n))))))))) = whole_here

abbrev pub AllAt : Place → List Spot → Type 0
AllAt k [] = ⊤
AllAt k (q ∷ qs) = (q.place ≡ k) × AllAt k qs

pub each_at : (k : Place) (size pos n : ℕ) → AllAt k (each_from k size pos n)
each_at k size pos zero = tt
each_at k size pos (suc n) = (refl, each_at k size (pos + size) n)

module _ (bytes : List ℕ) where
  -- ---- the one part of another

  pub record Below (l : Label) (level deeper : ℕ) (around : List OpenShared) (p q : Part) (v : Value) (before after : List Visit) : Type 0 where
    pub value : Value
    pub regions : List Region
    pub holds : Holds node_names bytes deeper around q value regions before after
    pub is_made : made l (more_values value no_values) ≡ Some v
    pub stands : (r : Part) (w : Value) (inner path : List ℕ) → Stands node_names bytes r w deeper around before q value inner
        → through l (more_values value no_values) 0 inner ≡ Some path → Stands node_names bytes r w level around before p v path

  record Lone (l : Label) (level : ℕ) (around : List OpenShared) (q : Part) (vs : Values) (before after : List Visit) : Type 0 where
    value : Value
    regions : List Region
    is : vs ≡ more_values value no_values
    holds : Holds node_names bytes level around q value regions before after
    stands : (r : Part) (w : Value) (inner : List ℕ) → Stands node_names bytes r w level around before q value inner → StandsIn node_names bytes r w level around before (q ∷ []) vs 0 inner

  lone : (l : Label) {level : ℕ} {around : List OpenShared} {q : Part} {vs : Values} {regions : List Region} {before after : List Visit}
      → HoldAll node_names bytes level around (q ∷ []) vs regions before after → Lone l level around q vs before after
  lone l {level = level} {around = around} {q = q} {before = before} (holds_more {v = v} {here = here} h (holds_none f g k) e r) = record {
    value = v;
    regions = here;
    is = e ∙ ap (more_values v) f;
    holds = subst (λ x. Holds node_names bytes level around q v here before x) (sym k) h;
    stands = λ r w inner s. stands_first s h (holds_none f g k) e refl;
  }

  pub plain_below : {l : Label} {level : ℕ} {around : List OpenShared} {p q : Part} {v : Value} {regions : List Region} {before after : List Visit}
      → content_of node_names bytes p ≡ plain l (q ∷ []) → Holds node_names bytes level around p v regions before after → Below l level level around p q v before after
  plain_below {l = l} {v = v} e h =
      let d = by_plain node_names bytes e h in
      let o = lone l d.all in
      record {
        value = o.value;
        regions = o.regions;
        holds = o.holds;
        is_made = subst (λ x. made l x ≡ Some v) o.is d.is_made;
        stands = λ r w inner path s t. stands_plain e (o.stands r w inner s) d.is_made (subst (λ x. through l x 0 inner ≡ Some path) (sym o.is) t);
      }

  pub claimed_below : {s : Span} {l : Label} {level : ℕ} {around : List OpenShared} {p q : Part} {v : Value} {regions : List Region} {before after : List Visit}
      → content_of node_names bytes p ≡ claimed s l (q ∷ []) → Holds node_names bytes level around p v regions before after → Below l level (suc level) around p q v before after
  claimed_below {l = l} {v = v} e h =
      let d = by_claimed node_names bytes e h in
      let o = lone l d.all in
      record {
        value = o.value;
        regions = o.regions;
        holds = o.holds;
        is_made = subst (λ x. made l x ≡ Some v) o.is d.is_made;
        stands = λ r w inner path s t. stands_claimed e (o.stands r w inner s) d.is_made (subst (λ x. through l x 0 inner ≡ Some path) (sym o.is) t);
      }

  -- a part that has its one part's value
  pub record Through (level deeper : ℕ) (around : List OpenShared) (p q : Part) (v : Value) (before after : List Visit) : Type 0 where
    pub regions : List Region
    pub holds : Holds node_names bytes deeper around q v regions before after
    pub stands : (r : Part) (w : Value) (path : List ℕ) → Stands node_names bytes r w deeper around before q v path → Stands node_names bytes r w level around before p v path

  pub same_below : {level deeper : ℕ} {around : List OpenShared} {p q : Part} {v : Value} {before after : List Visit}
      → Below same level deeper around p q v before after → Through level deeper around p q v before after
  unfolding made
  same_below {deeper = deeper} {around = around} {q = q} {v = v} {before = before} {after = after} b =
      let m = b.is_made in
      let is : b.value ≡ v = cc in
      record {
        regions = b.regions;
        holds = subst (λ x. Holds node_names bytes deeper around q x b.regions before after) is b.holds;
        stands = λ r w path s. b.stands r w path path (subst (λ x. Stands node_names bytes r w deeper around before q x path) (sym is) s) refl;
      }

  pub joined : {level deep deeper : ℕ} {around : List OpenShared} {p q u : Part} {v : Value} {before after : List Visit}
      → Through level deep around p q v before after → Through deep deeper around q u v before after → Through level deeper around p u v before after
  joined a b = record { regions = b.regions; holds = b.holds; stands = λ r w path s. a.stands r w path (b.stands r w path s) }

  -- ---- a node's payload

  pub record NodeCase (level : ℕ) (around : List OpenShared) (pos : ℕ) (v : Value) (before after : List Visit) : Type 0 where
    pub tag : ℕ
    pub place : Place
    pub payload_pos : ℕ
    pub payload : Value
    pub pays : Pays tag place
    pub value_is : v ≡ tagged_value tag payload
    pub regions : List Region
    pub holds : Holds node_names bytes level around (part_of place payload_pos) payload regions before after
    pub stands : (r : Part) (w : Value) (path : List ℕ) → Stands node_names bytes r w level around before (part_of place payload_pos) payload path
        → Stands node_names bytes r w level around before (part_of node_here pos) v (0 ∷ path)

  node_content : (pos : ℕ) → content_of node_names bytes (part_of node_here pos) ≡ plain same (part_of payload_here pos ∷ [])
  unfolding shape_content choose align_up
  node_content pos = refl

  behind_content : (pos : ℕ) → content_of node_names bytes (part_of node_behind pos) ≡ claimed (record { start = pos; size = 24; align = 8 }) same (part_of node_here pos ∷ [])
  unfolding pointee_content
  behind_content pos = refl

  -- what lies at a pointer's target, and in the node there
  pub behind_below : (pos : ℕ) {level : ℕ} {around : List OpenShared} {v : Value} {regions : List Region} {before after : List Visit}
      → Holds node_names bytes level around (part_of node_behind pos) v regions before after
      → Through level (suc level) around (part_of node_behind pos) (part_of node_here pos) v before after
  behind_below pos h = same_below (claimed_below (behind_content pos) h)

  -- a node's value, by its tag
  pub node_cases : (pos : ℕ) {level : ℕ} {around : List OpenShared} {v : Value} {regions : List Region} {before after : List Visit}
      → Holds node_names bytes level around (part_of node_here pos) v regions before after → NodeCase level around pos v before after
  unfolding made
  node_cases pos {level = level} {around = around} {v = v} {before = before} {after = after} h = by_case (led bytes payload_here pos)
    where
      there : Through level level around (part_of node_here pos) (part_of payload_here pos) v before after
      there = same_below (plain_below (node_content pos) h)

      paid : {tag : ℕ} {j : Place} (p : ℕ) → Pays tag j → content_of node_names bytes (part_of payload_here pos) ≡ plain (tagged tag) (part_of j p ∷ []) → NodeCase level around pos v before after
      paid {tag = tag} {j = j} p y e =
          let b = plain_below e there.holds in
          let m = b.is_made in
          record {
            tag = tag;
            place = j;
            payload_pos = p;
            payload = b.value;
            pays = y;
            value_is = cc;
            regions = b.regions;
            holds = b.holds;
            stands = λ r w path s. there.stands r w (0 ∷ path) (b.stands r w path (0 ∷ path) s refl);
          }

      by_case : Leads bytes payload_here (content_of node_names bytes (part_of payload_here pos)) → NodeCase level around pos v before after
      by_case (leads_nowhere e) = absurd (none_illegal bytes e there.holds)
      by_case (leads_plain e (passes y el eq)) = let n = passing y in absurd (cc)
      by_case (leads_plain {l = l} {qs = qs} e (pays {tag = tag} {j = j} {pos = p} y el eq)) = paid p y (e ∙ ap (λ x. plain x (parts_at qs)) el ∙ ap (λ x. plain (tagged tag) (parts_at x)) eq)
      by_case (leads_claimed e y b) = absurd (cc)

  -- ---- the node in an option, and the nodes in a list

  pub record BoxCase (level : ℕ) (around : List OpenShared) (p : Part) (v : Value) (before after : List Visit) : Type 0 where
    pub node_pos : ℕ
    pub there : Through level (suc level) around p (part_of node_here node_pos) v before after

  pub box_cases : (pos : ℕ) {level : ℕ} {around : List OpenShared} {v : Value} {regions : List Region} {before after : List Visit}
      → Holds node_names bytes level around (part_of box_here pos) v regions before after → BoxCase level around (part_of box_here pos) v before after
  box_cases pos {level = level} {around = around} {v = v} {before = before} {after = after} h = by_case (led bytes box_here pos)
    where
      by_case : Leads bytes box_here (content_of node_names bytes (part_of box_here pos)) → BoxCase level around (part_of box_here pos) v before after
      by_case (leads_nowhere e) = absurd (none_illegal bytes e h)
      by_case (leads_plain {qs = qs} e (passes {pos = t} box_passes el eq)) =
          let one = same_below (plain_below (e ∙ ap (λ x. plain x (parts_at qs)) el ∙ ap (λ x. plain same (parts_at x)) eq) h) in
          record { node_pos = t; there = joined one (behind_below t one.holds) }
      by_case (leads_claimed e y b) = absurd (cc)

  pub record SomeCase (level : ℕ) (around : List OpenShared) (pos : ℕ) (v w : Value) (before after : List Visit) : Type 0 where
    pub node_pos : ℕ
    pub regions : List Region
    pub holds : Holds node_names bytes (suc level) around (part_of node_here node_pos) w regions before after
    pub stands : (r : Part) (u : Value) (path : List ℕ) → Stands node_names bytes r u (suc level) around before (part_of node_here node_pos) w path
        → Stands node_names bytes r u level around before (part_of option_here pos) v (0 ∷ path)

  pub some_cases : (pos : ℕ) {level : ℕ} {around : List OpenShared} {v w : Value} {regions : List Region} {before after : List Visit}
      → v ≡ tagged_value 1 w → Holds node_names bytes level around (part_of option_here pos) v regions before after → SomeCase level around pos v w before after
  unfolding made
  some_cases pos {level = level} {around = around} {v = v} {w = w} {before = before} {after = after} is h = by_case (led bytes option_here pos)
    where
      by_case : Leads bytes option_here (content_of node_names bytes (part_of option_here pos)) → SomeCase level around pos v w before after
      by_case (leads_nowhere e) = absurd (none_illegal bytes e h)
      by_case (leads_plain e (passes y el eq)) = let n = passing y in absurd (cc)
      by_case (leads_plain {qs = qs} e (none_is el eq)) =
          let d = by_plain node_names bytes (e ∙ ap (λ x. plain x (parts_at qs)) el ∙ ap (λ x. plain (tagged 0) (parts_at x)) eq) h in
          let m = d.is_made in
          absurd (cc)
      by_case (leads_plain {qs = qs} e (some_is {pos = p} el eq)) =
          let b = plain_below (e ∙ ap (λ x. plain x (parts_at qs)) el ∙ ap (λ x. plain (tagged 1) (parts_at x)) eq) h in
          let m = b.is_made in
          let same_value : b.value ≡ w = cc in
          let box = box_cases p b.holds in
          record {
            node_pos = box.node_pos;
            regions = box.there.regions;
            holds = subst (λ x. Holds node_names bytes (suc level) around (part_of node_here box.node_pos) x box.there.regions before after) same_value box.there.holds;
            stands = λ r u path s. b.stands r u path (0 ∷ path) (box.there.stands r u path (subst (λ x. Stands node_names bytes r u (suc level) around before (part_of node_here box.node_pos) x path) (sym same_value) s)) refl;
          }
      by_case (leads_claimed e y b) = absurd (cc)

  pub record ListCase (level : ℕ) (around : List OpenShared) (pos : ℕ) (v : Value) (before after : List Visit) : Type 0 where
    pub len : ℕ
    pub target : ℕ
    pub vs : Values
    pub value_is : v ≡ group vs
    pub regions : List Region
    pub all : HoldAll node_names bytes (suc level) around (elements target len node_shape) vs regions before after
    pub counted : count_values vs ≡ len
    pub stands : (r : Part) (u : Value) (i : ℕ) (path : List ℕ) → StandsIn node_names bytes r u (suc level) around before (elements target len node_shape) vs i path
        → Stands node_names bytes r u level around before (part_of list_here pos) v (i ∷ path)

  nodes_counted : (n pos : ℕ) {level : ℕ} {around : List OpenShared} {ps : List Part} {vs : Values} {regions : List Region} {before after : List Visit}
      → HoldAll node_names bytes level around ps vs regions before after → ps ≡ elements pos n node_shape → count_values vs ≡ n
  unfolding elements
  nodes_counted zero pos (holds_none e f g) is = ap count_values e
  nodes_counted (suc n) pos (holds_none e f g) is = absurd (cc)
  nodes_counted zero pos (holds_more h hs e r) is = absurd (cc)
  nodes_counted (suc n) pos (holds_more h hs e r) is = let c = nodes_counted n (pos + 24) hs (cc) in ap count_values e ∙ omega (arith, c)

  nodes_content : (pos len : ℕ) → content_of node_names bytes (part_of (nodes_behind len) pos) ≡ claimed (record { start = pos; size = len * 24; align = 8 }) whole (elements pos len node_shape)
  unfolding pointee_content
  nodes_content pos len = refl

  pub list_cases : (pos : ℕ) {level : ℕ} {around : List OpenShared} {v : Value} {regions : List Region} {before after : List Visit}
      → Holds node_names bytes level around (part_of list_here pos) v regions before after → ListCase level around pos v before after
  unfolding made
  list_cases pos {level = level} {around = around} {v = v} {before = before} {after = after} h = by_case (led bytes list_here pos)
    where
      by_case : Leads bytes list_here (content_of node_names bytes (part_of list_here pos)) → ListCase level around pos v before after
      by_case (leads_nowhere e) = absurd (none_illegal bytes e h)
      by_case (leads_plain {qs = qs} e (passes {pos = t} (list_passes {len = len} small) el eq)) =
          let one = same_below (plain_below (e ∙ ap (λ x. plain x (parts_at qs)) el ∙ ap (λ x. plain same (parts_at x)) eq) h) in
          let d = by_claimed node_names bytes (nodes_content t len) one.holds in
          let m = d.is_made in
          record {
            len = len;
            target = t;
            vs = d.vs;
            value_is = cc;
            regions = d.within;
            all = d.all;
            counted = nodes_counted len t d.all refl;
            stands = λ r u i path s. one.stands r u (i ∷ path) (stands_claimed (nodes_content t len) s m refl);
          }
      by_case (leads_claimed e y b) = absurd (cc)

  -- ---- element i of a list

  -- of parts that are all at places of one kind
  pub record Element (k : Place) (level : ℕ) (around : List OpenShared) (before : List Visit) (ps : List Part) (vs : Values) (i : ℕ) (u : Value) : Type 0 where
    pub pos : ℕ
    pub among : slice_get ps i ≡ Some (part_of k pos)
    pub regions : List Region
    pub since : List Visit
    pub until : List Visit
    pub holds : Holds node_names bytes level around (part_of k pos) u regions since until
    pub within : (r : Part) (w : Value) (path : List ℕ) → Stands node_names bytes r w level around since (part_of k pos) u path → StandsIn node_names bytes r w level around before ps vs i path

  pub element : (k : Place) (i : ℕ) (qs : List Spot) (u : Value) {level : ℕ} {around : List OpenShared} {ps : List Part} {vs : Values} {regions : List Region} {before after : List Visit}
      → HoldAll node_names bytes level around ps vs regions before after → ps ≡ parts_at qs → AllAt k qs → value_in i vs ≡ Some u → Element k level around before ps vs i u
  element k i qs u (holds_none e f g) is each there =
      let none : value_in i no_values ≡ Some u = subst (λ x. value_in i x ≡ Some u) e there in
      absurd (cc)
  element k i [] u (holds_more h hs e r) is each there = absurd (cc)
  element k zero (q ∷ qs) u {level = level} {around = around} {before = before} (holds_more {p = p} {v = v} {vs = vs} {here = here} {between = between} h hs e r) is each there =
      let at_spot : p ≡ part_of q.place q.pos = cc in
      let part_is : p ≡ part_of k q.pos = at_spot ∙ ap (λ x. part_of x q.pos) each.0 in
      let first : value_in 0 (more_values v vs) ≡ Some u = subst (λ x. value_in 0 x ≡ Some u) e there in
      let value_is : v ≡ u = cc in
      record {
        pos = q.pos;
        among = ap Some part_is;
        regions = here;
        since = before;
        until = between;
        holds = subst (λ x. Holds node_names bytes level around x u here before between) part_is (subst (λ x. Holds node_names bytes level around p x here before between) value_is h);
        within = λ t w path s. stands_first
            (subst (λ x. Stands node_names bytes t w level around before x v path) (sym part_is) (subst (λ x. Stands node_names bytes t w level around before (part_of k q.pos) x path) (sym value_is) s))
            h hs e refl;
      }
  element k (suc i) (q ∷ qs) u (holds_more {v = v} {vs = vs} h hs e r) is each there =
      let later : value_in (suc i) (more_values v vs) ≡ Some u = subst (λ x. value_in (suc i) x ≡ Some u) e there in
      let o = element k i qs u hs (cc) each.1 later in
      record {
        pos = o.pos;
        among = o.among;
        regions = o.regions;
        since = o.since;
        until = o.until;
        holds = o.holds;
        within = λ t w path s. stands_later h (o.within t w path s) e refl;
      }

  pub record ElementCase (level : ℕ) (around : List OpenShared) (pos : ℕ) (v u : Value) (i : ℕ) (before : List Visit) : Type 0 where
    pub node_pos : ℕ
    pub regions : List Region
    pub since : List Visit
    pub until : List Visit
    pub holds : Holds node_names bytes (suc level) around (part_of node_here node_pos) u regions since until
    pub stands : (r : Part) (w : Value) (path : List ℕ) → Stands node_names bytes r w (suc level) around since (part_of node_here node_pos) u path
        → Stands node_names bytes r w level around before (part_of list_here pos) v (i ∷ path)

  pub element_cases : (pos i : ℕ) (u : Value) {level : ℕ} {around : List OpenShared} {v : Value} {vs : Values} {regions : List Region} {before after : List Visit}
      → v ≡ group vs → value_in i vs ≡ Some u → Holds node_names bytes level around (part_of list_here pos) v regions before after → ElementCase level around pos v u i before
  element_cases pos i u {level = level} {around = around} {v = v} {vs = vs} {before = before} is there h =
      let c = list_cases pos h in
      let group_is = c.value_is in
      let values : vs ≡ c.vs = cc in
      let i_there : value_in i c.vs ≡ Some u = ap (value_in i) (sym values) ∙ there in
      let k = element node_here i (nodes_from c.target c.len) u c.all (nodes_are c.target c.len) (each_at node_here 24 c.target c.len) i_there in
      record {
        node_pos = k.pos;
        regions = k.regions;
        since = k.since;
        until = k.until;
        holds = k.holds;
        stands = λ r w path s. c.stands r w i path (k.within r w path s);
      }

  -- ---- a text, inline or out of line

  pub data TextCase (level : ℕ) (around : List OpenShared) (pos : ℕ) (v : Value) (before after : List Visit) : Type 0 where
    text_inline : {s : List ℕ} → content_of node_names bytes (part_of text_here pos) ≡ plain (written s) [] → v ≡ string s → TextCase level around pos v before after
    text_out : {t len : ℕ} → v ≡ string (window bytes t len) → Through level level around (part_of text_here pos) (part_of (text_behind len) t) v before after → TextCase level around pos v before after

  pub no_parts : {level : ℕ} {around : List OpenShared} {vs : Values} {regions : List Region} {before after : List Visit}
      → HoldAll node_names bytes level around [] vs regions before after → vs ≡ no_values
  no_parts (holds_none f g h) = f

  text_content : (pos len : ℕ) → content_of node_names bytes (part_of (text_behind len) pos) ≡ claimed (record { start = pos; size = len; align = 1 }) (written (window bytes pos len)) []
  unfolding pointee_content
  text_content pos len = refl

  pub text_cases : (pos : ℕ) {level : ℕ} {around : List OpenShared} {v : Value} {regions : List Region} {before after : List Visit}
      → Holds node_names bytes level around (part_of text_here pos) v regions before after → TextCase level around pos v before after
  unfolding made
  text_cases pos {level = level} {around = around} {v = v} {before = before} {after = after} h = by_case (led bytes text_here pos)
    where
      by_case : Leads bytes text_here (content_of node_names bytes (part_of text_here pos)) → TextCase level around pos v before after
      by_case (leads_nowhere e) = absurd (none_illegal bytes e h)
      by_case (leads_plain {qs = qs} e (text_is {s = s} el eq)) =
          let f = e ∙ ap (λ x. plain x (parts_at qs)) el ∙ ap (λ x. plain (written s) (parts_at x)) eq in
          let d = by_plain node_names bytes f h in
          let m : made (written s) no_values ≡ Some v = subst (λ x. made (written s) x ≡ Some v) (no_parts d.all) d.is_made in
          text_inline f cc
      by_case (leads_plain {qs = qs} e (passes {pos = t} (text_passes {len = len}) el eq)) =
          let one = same_below (plain_below (e ∙ ap (λ x. plain x (parts_at qs)) el ∙ ap (λ x. plain same (parts_at x)) eq) h) in
          let d = by_claimed node_names bytes (text_content t len) one.holds in
          let m : made (written (window bytes t len)) no_values ≡ Some v = subst (λ x. made (written (window bytes t len)) x ≡ Some v) (no_parts d.all) d.is_made in
          text_out {t = t} {len = len} (cc) one
      by_case (leads_claimed e y b) = absurd (cc)

  -- ---- a leaf has its value, regardless of what was visited before

  lone_value : (k : Place) (pos : ℕ) {l : Label} {qs : List Spot} {level : ℕ} {around : List OpenShared} {v : Value} {regions : List Region} {before after : List Visit}
      → content_of node_names bytes (part_of k pos) ≡ plain l (parts_at qs) → Follows bytes k l qs → qs ≡ [] → Holds node_names bytes level around (part_of k pos) v regions before after → ValueAt bytes k v
  lone_value k pos {l = l} {qs = qs} e fs none h =
      let d = by_plain node_names bytes (e ∙ ap (λ x. plain l (parts_at x)) none) h in
      follow bytes fs d.legal (subst (λ x. ValuesAt bytes x d.vs) (sym none) (none_at (no_parts d.all))) d.is_made

  pub truth_there : (pos : ℕ) {level : ℕ} {around : List OpenShared} {v : Value} {regions : List Region} {before after : List Visit}
      → Holds node_names bytes level around (part_of truth_here pos) v regions before after → TruthValue v
  truth_there pos {v = v} h = by_case (led bytes truth_here pos)
    where
      by_case : Leads bytes truth_here (content_of node_names bytes (part_of truth_here pos)) → TruthValue v
      by_case (leads_nowhere e) = absurd (none_illegal bytes e h)
      by_case (leads_plain e (passes y el eq)) = let n = passing y in absurd (cc)
      by_case (leads_plain e (truth_is el eq)) = lone_value truth_here pos e (truth_is el eq) eq h
      by_case (leads_claimed e y b) = absurd (cc)

  pub number_there : (pos : ℕ) {level : ℕ} {around : List OpenShared} {v : Value} {regions : List Region} {before after : List Visit}
      → Holds node_names bytes level around (part_of number_here pos) v regions before after → NumberValue v
  number_there pos {v = v} h = by_case (led bytes number_here pos)
    where
      by_case : Leads bytes number_here (content_of node_names bytes (part_of number_here pos)) → NumberValue v
      by_case (leads_nowhere e) = absurd (none_illegal bytes e h)
      by_case (leads_plain e (passes y el eq)) = let n = passing y in absurd (cc)
      by_case (leads_plain e (number_is el fits eq)) = lone_value number_here pos e (number_is el fits eq) eq h
      by_case (leads_claimed e y b) = absurd (cc)

  pub text_behind_there : (pos len : ℕ) {level : ℕ} {around : List OpenShared} {v : Value} {regions : List Region} {before after : List Visit}
      → Holds node_names bytes level around (part_of (text_behind len) pos) v regions before after → TextValue v
  unfolding made
  text_behind_there pos len {v = v} h =
      let d = by_claimed node_names bytes (text_content pos len) h in
      let m : made (written (window bytes pos len)) no_values ≡ Some v = subst (λ x. made (written (window bytes pos len)) x ≡ Some v) (no_parts d.all) d.is_made in
      record { s = window bytes pos len; is = cc; utf8 = d.legal }

  pub text_there : (pos : ℕ) {level : ℕ} {around : List OpenShared} {v : Value} {regions : List Region} {before after : List Visit}
      → Holds node_names bytes level around (part_of text_here pos) v regions before after → TextValue v
  text_there pos {v = v} h = by_case (led bytes text_here pos)
    where
      by_case : Leads bytes text_here (content_of node_names bytes (part_of text_here pos)) → TextValue v
      by_case (leads_nowhere e) = absurd (none_illegal bytes e h)
      by_case (leads_plain e (text_is el eq)) = lone_value text_here pos e (text_is el eq) eq h
      by_case (leads_plain {qs = qs} e (passes {pos = t} (text_passes {len = len}) el eq)) =
          text_behind_there t len (same_below (plain_below (e ∙ ap (λ x. plain x (parts_at qs)) el ∙ ap (λ x. plain same (parts_at x)) eq) h)).holds
      by_case (leads_claimed e y b) = absurd (cc)
