-- The faults in the walk of a node, by the node's kind.
use Rattle.std.proofs.Common.{◌≡◌, ◌∙◌, ℕ, zero, suc, ◌+◌, ◌*◌, ◌<◌, ◌≤◌, Bool, true, false, nat_lt, ◌==◌, List, [], ◌∷◌, ◌++◌, length, get_or, slice_index, Option, Some, None, refl, sym, ap, subst, arith, append-nil, eqb-true, w64}
use Rattle.std.specs.List.{flat_map}
use Rattle.std.specs.Int.{from_le_bytes}
use Rattle.archive_shape_layout.specs.Bytes.{window, align_up, word_at, target_from}
use Rattle.archive_shape_layout.specs.Shape.{Shape, align_of, size_of}
use Rattle.archive_shape_layout.specs.Shape.Shape.{number, truth, text, shared}
use Rattle.archive_shape_layout.specs.Shape.Pointee.{sized, slice, str}
use Rattle.archive_shape_layout.specs.Value.{Value, Values}
use Rattle.archive_shape_layout.specs.Value.Value.{boolean, group, chosen, counted}
use Rattle.archive_shape_layout.specs.Value.Values.{no_values}
use Rattle.archive_shape_layout.specs.Content.{Names, Part, Label, content_of, choose, following, made, option_content, shape_tagged, shape_content, shared_content, pointee_content, number_value, elements}
use Rattle.archive_shape_layout.specs.Content.Part.{at, behind}
use Rattle.archive_shape_layout.specs.Content.Label.{leaf, same, whole, tagged}
use Rattle.archive_shape_layout.specs.Content.Content.{illegal, plain, claimed, counting}
use Rattle.archive_shape_layout.specs.Path.{value_in}
use Rattle.archive_forms_values.proofs.Pointed.{made_same, made_whole}
use Rattle.archive_forms_values.proofs.Tagged.{own_tag, choice_tag}
use Rattle.archive_forms_values.proofs.Targets.{first_word}
use Rattle.archive_shape_layout.proofs.Windows.{word_within}
use Rattle.cabinet_documents.specs.Node.{node_shape, node_names, payloads}
use Rattle.cabinet_documents.specs.Denotes.{tagged_value}
use Rattle.cabinet_documents.specs.Walk.{Stop, Walks, WalkAll}
use Rattle.cabinet_documents.specs.Audit.{too_deep, unless, faults}
use Rattle.cabinet_documents.proofs.Places.{node_here, payload_here, option_here, box_here, list_here, ordered_here, table_here, index_here, whole_here, node_behind, part_of}
use Rattle.cabinet_documents.proofs.Begun.{faults-flat, Ends, begun, not_walked, no_walks, first_walk, ends, onward}
use Rattle.cabinet_documents.proofs.TreeWalks.{QuietKeys, behind_quiet, text_quiet}

-- the walk of an option at a position
pub data OptionWalk (bytes : List ℕ) (depth pos : ℕ) (v : Value) (walk : List Stop) : Type 0 where
  -- none
  walks_none :
      slice_index bytes pos ≡ 0
      → v ≡ chosen 0 no_values
      → faults bytes walk ≡ unless (nat_lt depth 64) too_deep
      → OptionWalk bytes depth pos v walk
  -- a pointer to a node
  walks_some :
      {to : ℕ} {w : Value} {run : List Stop}
      → slice_index bytes pos ≡ 1
      → target_from (pos + 4) (word_at bytes (pos + 4)) ≡ Some to
      → v ≡ tagged_value 1 w
      → Walks node_names bytes (depth + 1) (part_of node_here to) w run
      → faults bytes walk ≡ unless (nat_lt depth 64) too_deep ++ faults bytes run
      → OptionWalk bytes depth pos v walk

-- a whole: the walk of the node that its pointer leads to
pub record WholeWalk (bytes : List ℕ) (depth pos : ℕ) (v : Value) (walk : List Stop) : Type 0 where
  pub to : ℕ
  pub inner : Value
  pub run : List Stop
  pub target : target_from pos (word_at bytes pos) ≡ Some to
  pub value_is : v ≡ counted to inner
  pub node : Walks node_names bytes (depth + 1) (part_of node_here to) inner run
  pub faults_are : faults bytes walk ≡ unless (nat_lt depth 64) too_deep ++ faults bytes run

-- the walk of a list at a position: its nodes lie side by side from `to` on, as many as the word after the pointer says
pub record ListWalk (bytes : List ℕ) (depth pos : ℕ) (v : Value) (walk : List Stop) : Type 0 where
  pub to : ℕ
  pub vs : Values
  pub runs : List (List Stop)
  pub target : target_from pos (word_at bytes pos) ≡ Some to
  pub value_is : v ≡ group vs
  pub nodes : WalkAll node_names bytes (depth + 1) (elements to (word_at bytes (pos + 4)) node_shape) vs runs
  pub faults_are : faults bytes walk ≡ unless (nat_lt depth 64) too_deep ++ flat_map (faults bytes) runs

-- the walk of a node at a position, by its tag: it has the faults of its payload's walk
pub data NodeWalk (bytes : List ℕ) (depth pos : ℕ) (v : Value) (walk : List Stop) : Type 0 where
  -- a truth value, a number, a text or a shared text
  leaf_walks :
      (tag : ℕ) {w : Value}
      → slice_index bytes pos ≡ tag
      → tag ≤ 3
      → v ≡ tagged_value tag w
      → faults bytes walk ≡ []
      → NodeWalk bytes depth pos v walk
  -- an option
  option_walks :
      {w : Value} {run : List Stop}
      → slice_index bytes pos ≡ 4
      → v ≡ tagged_value 4 w
      → Walks node_names bytes depth (part_of option_here (pos + 4)) w run
      → faults bytes walk ≡ faults bytes run
      → NodeWalk bytes depth pos v walk
  -- a list
  list_walks :
      {w : Value} {run : List Stop}
      → slice_index bytes pos ≡ 5
      → v ≡ tagged_value 5 w
      → Walks node_names bytes depth (part_of list_here (pos + 4)) w run
      → faults bytes walk ≡ faults bytes run
      → NodeWalk bytes depth pos v walk
  -- an ordered map
  ordered_walks :
      {w : Value} {run : List Stop}
      → slice_index bytes pos ≡ 6
      → v ≡ tagged_value 6 w
      → Walks node_names bytes depth (part_of ordered_here (pos + 4)) w run
      → faults bytes walk ≡ faults bytes run
      → NodeWalk bytes depth pos v walk
  -- a hashed map
  hashed_walks :
      {w : Value} {run : List Stop}
      → slice_index bytes pos ≡ 7
      → v ≡ tagged_value 7 w
      → Walks node_names bytes depth (part_of table_here (pos + 4)) w run
      → faults bytes walk ≡ faults bytes run
      → NodeWalk bytes depth pos v walk
  -- a kept map
  kept_walks :
      {w : Value} {run : List Stop}
      → slice_index bytes pos ≡ 8
      → v ≡ tagged_value 8 w
      → Walks node_names bytes depth (part_of index_here (pos + 4)) w run
      → faults bytes walk ≡ faults bytes run
      → NodeWalk bytes depth pos v walk
  -- a whole
  whole_walks :
      {w : Value} {run : List Stop}
      → slice_index bytes pos ≡ 9
      → v ≡ tagged_value 9 w
      → Walks node_names bytes depth (part_of whole_here (pos + 4)) w run
      → faults bytes walk ≡ faults bytes run
      → NodeWalk bytes depth pos v walk

module _ (bytes : List ℕ) where
  -- ---- leaves have no faults

  tested : (b : Bool) (l : Label) {depth : ℕ} {p : Part} {v : Value} {walk : List Stop}
      → content_of node_names bytes p ≡ choose b (plain l []) illegal → Walks node_names bytes depth p v walk → Ends node_names bytes depth p (plain l []) v walk
  unfolding choose
  tested true l e h = ends node_names bytes (plain l []) refl refl e h
  tested false l e h = absurd (not_walked node_names bytes e h)

  truth_quiet : (depth : ℕ) → QuietKeys node_names bytes truth depth
  unfolding shape_content
  truth_quiet depth pos v walk h = let n = slice_index (window bytes pos 1) 0 in (tested (nat_lt n 2) (leaf (boolean (n == 1))) refl h).faults_are

  number_quiet : (depth : ℕ) → QuietKeys node_names bytes (number w64 true) depth
  unfolding shape_content
  number_quiet depth pos v walk h = (ends node_names bytes (plain (leaf (number_value w64 true (from_le_bytes w64 (window bytes pos 8)))) []) refl refl refl h).faults_are

  shared_cases : (o : Option ℕ) (len : ℕ) {depth pos : ℕ} {v : Value} {walk : List Stop}
      → content_of node_names bytes (at pos (shared false str)) ≡ following o (λ t. counting false t str len) → Walks node_names bytes depth (at pos (shared false str)) v walk → faults bytes walk ≡ []
  unfolding following
  shared_cases None len e h = absurd (not_walked node_names bytes e h)
  shared_cases (Some t) len e h = let o = onward node_names bytes (counting false t str len) refl (λ run. refl) e h in o.faults_are ∙ behind_quiet node_names bytes o.next

  shared_quiet : (depth : ℕ) → QuietKeys node_names bytes (shared false str) depth
  unfolding shape_content shared_content
  shared_quiet depth pos v walk h = shared_cases (target_from pos (word_at (window bytes pos 8) 0)) (word_at (window bytes pos 8) 4) refl h

  -- ---- options

  -- what lies at the target of a pointer to a node: the walk of the node has its faults
  pub record BehindWalk (depth pos : ℕ) (v : Value) (walk : List Stop) : Type 0 where
    pub run : List Stop
    pub node : Walks node_names bytes depth (part_of node_here pos) v run
    pub faults_are : faults bytes walk ≡ faults bytes run

  pub behind_walk : {depth : ℕ} (pos : ℕ) {v : Value} {walk : List Stop} → Walks node_names bytes depth (part_of node_behind pos) v walk → BehindWalk depth pos v walk
  unfolding pointee_content
  behind_walk {depth = depth} pos {v = v} h =
      let o = onward node_names bytes (claimed (record { start = pos; size = 24; align = 8 }) same (part_of node_here pos ∷ [])) refl (λ run. refl) refl h in
      record { run = o.run; node = subst (λ x. Walks node_names bytes depth (part_of node_here pos) x o.run) (made_same o.value v o.is_made) o.next; faults_are = o.faults_are }

  record BoxWalk (depth pos : ℕ) (v : Value) (walk : List Stop) : Type 0 where
    to : ℕ
    run : List Stop
    target : target_from pos (word_at bytes pos) ≡ Some to
    node : Walks node_names bytes depth (part_of node_here to) v run
    faults_are : faults bytes walk ≡ faults bytes run

  box_cases : (o : Option ℕ) {depth pos : ℕ} {v : Value} {walk : List Stop}
      → target_from pos (word_at bytes pos) ≡ o
      → content_of node_names bytes (part_of box_here pos) ≡ following o (λ t. plain same (part_of node_behind t ∷ []))
      → Walks node_names bytes depth (part_of box_here pos) v walk → BoxWalk depth pos v walk
  unfolding following
  box_cases None leads e h = absurd (not_walked node_names bytes e h)
  box_cases (Some t) {depth = depth} {v = v} leads e h =
      let o = onward node_names bytes (plain same (part_of node_behind t ∷ [])) refl (λ run. refl) e h in
      let b = behind_walk t o.next in
      record { to = t; run = b.run; target = leads; node = subst (λ x. Walks node_names bytes depth (part_of node_here t) x b.run) (made_same o.value v o.is_made) b.node; faults_are = o.faults_are ∙ b.faults_are }

  box_walk : {depth : ℕ} (pos : ℕ) {v : Value} {walk : List Stop} → Walks node_names bytes depth (part_of box_here pos) v walk → BoxWalk depth pos v walk
  unfolding shape_content
  box_walk pos h =
      box_cases (target_from pos (word_at bytes pos)) refl
      (ap (λ n. following (target_from pos n) (λ t. plain same (part_of node_behind t ∷ []))) (first_word bytes pos 4 (omega arith))) h

  option_cases : (none some : Bool) {depth : ℕ} (pos : ℕ) {v : Value} {walk : List Stop}
      → (slice_index bytes pos == 0) ≡ none
      → (slice_index bytes pos == 1) ≡ some
      → content_of node_names bytes (part_of option_here pos) ≡ choose none (plain (tagged 0) []) (choose some (plain (tagged 1) (part_of box_here (pos + 4) ∷ [])) illegal)
      → Walks node_names bytes depth (part_of option_here pos) v walk → OptionWalk bytes depth pos v walk
  unfolding choose made
  option_cases true some {depth = depth} pos {v = v} is_none is_some e h =
      let b = ends node_names bytes (plain (tagged 0) []) refl refl e h in
      let value_is : v ≡ chosen 0 no_values = let m = b.is_made in cc in
      walks_none (eqb-true _ 0 is_none) value_is (b.faults_are ∙ append-nil (unless (nat_lt depth 64) too_deep))
  option_cases false true {depth = depth} pos {v = v} is_none is_some e h =
      let o = onward node_names bytes (plain (tagged 1) (part_of box_here (pos + 4) ∷ [])) refl (λ run. refl) e h in
      let value_is : v ≡ tagged_value 1 o.value = let m = o.is_made in cc in
      let inside = box_walk (pos + 4) o.next in
      walks_some (eqb-true _ 1 is_some) inside.target value_is inside.node
      (o.faults_are ∙ ap (λ x. x ++ faults bytes o.run) (append-nil (unless (nat_lt depth 64) too_deep)) ∙ ap (λ x. unless (nat_lt depth 64) too_deep ++ x) inside.faults_are)
  option_cases false false pos is_none is_some e h = absurd (not_walked node_names bytes e h)

  pub option_walk : {depth : ℕ} (pos : ℕ) {v : Value} {walk : List Stop} → Walks node_names bytes depth (part_of option_here pos) v walk → OptionWalk bytes depth pos v walk
  unfolding shape_content align_up
  option_walk pos h =
      option_cases (slice_index bytes pos == 0) (slice_index bytes pos == 1) pos refl refl
      (ap (λ n. choose (n == 0) (plain (tagged 0) []) (choose (n == 1) (plain (tagged 1) (part_of box_here (pos + 4) ∷ [])) illegal)) (own_tag bytes pos 8 (omega arith))) h

  -- ---- wholes

  whole_cases : (o : Option ℕ) {depth : ℕ} (pos : ℕ) {v : Value} {walk : List Stop}
      → target_from pos (word_at bytes pos) ≡ o
      → content_of node_names bytes (part_of whole_here pos) ≡ following o (λ t. counting false t (sized node_shape) 1)
      → Walks node_names bytes depth (part_of whole_here pos) v walk → WholeWalk bytes depth pos v walk
  unfolding following
  whole_cases None pos leads e h = absurd (not_walked node_names bytes e h)
  whole_cases (Some t) {depth = depth} pos {v = v} leads e h =
      let o = onward node_names bytes (counting false t (sized node_shape) 1) refl (λ run. refl) e h in
      let b = behind_walk t o.next in
      let value_is : v ≡ counted t o.value = let m = o.is_made in cc in
      record {
        to = t;
        inner = o.value;
        run = b.run;
        target = leads;
        value_is = value_is;
        node = b.node;
        faults_are = o.faults_are ∙ ap (λ x. x ++ faults bytes o.run) (append-nil (unless (nat_lt depth 64) too_deep)) ∙ ap (λ x. unless (nat_lt depth 64) too_deep ++ x) b.faults_are;
      }

  pub whole_walk : {depth : ℕ} (pos : ℕ) {v : Value} {walk : List Stop} → Walks node_names bytes depth (part_of whole_here pos) v walk → WholeWalk bytes depth pos v walk
  unfolding shape_content shared_content
  whole_walk pos h =
      whole_cases (target_from pos (word_at bytes pos)) pos refl
      (ap (λ n. following (target_from pos n) (λ t. counting false t (sized node_shape) 1)) (first_word bytes pos 4 (omega arith))) h

  -- ---- lists

  list_cases : (o : Option ℕ) (len : ℕ) {depth : ℕ} (pos : ℕ) {v : Value} {walk : List Stop}
      → target_from pos (word_at bytes pos) ≡ o
      → len ≡ word_at bytes (pos + 4)
      → content_of node_names bytes (part_of list_here pos) ≡ following o (λ t. plain same (behind t (slice node_shape) len ∷ []))
      → Walks node_names bytes depth (part_of list_here pos) v walk → ListWalk bytes depth pos v walk
  unfolding following pointee_content
  list_cases None len pos leads says e h = absurd (not_walked node_names bytes e h)
  list_cases (Some t) len {depth = depth} pos {v = v} leads says e h =
      let o = onward node_names bytes (plain same (behind t (slice node_shape) len ∷ [])) refl (λ run. refl) e h in
      let b = begun node_names bytes (claimed (record { start = t; size = len * 24; align = 8 }) whole (elements t len node_shape)) refl o.next in
      record {
        to = t;
        vs = b.vs;
        runs = b.runs;
        target = leads;
        value_is = sym (made_same o.value v o.is_made) ∙ made_whole b.vs o.value b.is_made;
        nodes = subst (λ n. WalkAll node_names bytes (depth + 1) (elements t n node_shape) b.vs b.runs) says b.all;
        faults_are =
            o.faults_are
            ∙ ap (λ x. x ++ faults bytes o.run) (append-nil (unless (nat_lt depth 64) too_deep))
            ∙ ap (λ x. unless (nat_lt depth 64) too_deep ++ x) (b.faults_are ∙ faults-flat bytes b.runs);
      }

  pub list_walk : {depth : ℕ} (pos : ℕ) {v : Value} {walk : List Stop} → Walks node_names bytes depth (part_of list_here pos) v walk → ListWalk bytes depth pos v walk
  unfolding shape_content
  list_walk pos h =
      list_cases (target_from pos (word_at bytes pos)) (word_at (window bytes pos 8) 4) pos refl (word_within bytes pos 8 4 (omega arith))
      (ap (λ n. following (target_from pos n) (λ t. plain same (behind t (slice node_shape) (word_at (window bytes pos 8) 4) ∷ []))) (first_word bytes pos 8 (omega arith))) h

  -- ---- nodes

  -- the walk of a payload
  record Paid (depth tag : ℕ) (q : Part) (v : Value) (walk : List Stop) : Type 0 where
    payload : Value
    run : List Stop
    next : Walks node_names bytes depth q payload run
    value_is : v ≡ tagged_value tag payload
    faults_are : faults bytes walk ≡ faults bytes run

  paid : {depth : ℕ} (tag pos : ℕ) (q : Part) {v : Value} {walk inner : List Stop}
      → content_of node_names bytes (part_of payload_here pos) ≡ plain (tagged tag) (q ∷ [])
      → faults bytes walk ≡ faults bytes inner → Walks node_names bytes depth (part_of payload_here pos) v inner → Paid depth tag q v walk
  unfolding made
  paid tag pos q {v = v} e around h =
      let o = onward node_names bytes (plain (tagged tag) (q ∷ [])) refl (λ run. refl) e h in
      let is : v ≡ tagged_value tag o.value = let m = o.is_made in cc in
      record { payload = o.value; run = o.run; next = o.next; value_is = is; faults_are = around ∙ o.faults_are }

  payload_content : (tag pos : ℕ) → slice_index bytes pos ≡ tag
      → content_of node_names bytes (part_of payload_here pos) ≡ option_content (shape_tagged tag payloads) (λ s. plain (tagged tag) (at (pos + align_up 1 (align_of s)) s ∷ []))
  unfolding shape_content
  payload_content tag pos e = ap (λ n. option_content (shape_tagged n payloads) (λ s. plain (tagged n) (at (pos + align_up 1 (align_of s)) s ∷ []))) (choice_tag node_names bytes pos payloads ∙ e)

  leaf_node : {depth : ℕ} (tag pos to : ℕ) (s : Shape) {v : Value} {walk : List Stop}
      → slice_index bytes pos ≡ tag → tag ≤ 3 → QuietKeys node_names bytes s depth → Paid depth tag (at to s) v walk → NodeWalk bytes depth pos v walk
  leaf_node tag pos to s e low quiet p = leaf_walks tag e low p.value_is (p.faults_are ∙ quiet to p.payload p.run p.next)

  payload_walk : {depth : ℕ} (tag pos : ℕ) {v : Value} {walk inner : List Stop}
      → slice_index bytes pos ≡ tag → faults bytes walk ≡ faults bytes inner → Walks node_names bytes depth (part_of payload_here pos) v inner → NodeWalk bytes depth pos v walk
  unfolding align_up
  payload_walk {depth = depth} zero pos e around h = leaf_node 0 pos (pos + 1) truth e (omega arith) (truth_quiet depth) (paid 0 pos (at (pos + 1) truth) (payload_content 0 pos e) around h)
  payload_walk {depth = depth} (suc zero) pos e around h =
      leaf_node 1 pos (pos + 8) (number w64 true) e (omega arith) (number_quiet depth) (paid 1 pos (at (pos + 8) (number w64 true)) (payload_content 1 pos e) around h)
  payload_walk {depth = depth} (suc (suc zero)) pos e around h =
      leaf_node 2 pos (pos + 4) text e (omega arith) (text_quiet node_names bytes depth) (paid 2 pos (at (pos + 4) text) (payload_content 2 pos e) around h)
  payload_walk {depth = depth} (suc (suc (suc zero))) pos e around h =
      leaf_node 3 pos (pos + 4) (shared false str) e (omega arith) (shared_quiet depth) (paid 3 pos (at (pos + 4) (shared false str)) (payload_content 3 pos e) around h)
  payload_walk (suc (suc (suc (suc zero)))) pos {walk = walk} e around h =
      let p = paid 4 pos (part_of option_here (pos + 4)) {walk = walk} (payload_content 4 pos e) around h in option_walks e p.value_is p.next p.faults_are
  payload_walk (suc (suc (suc (suc (suc zero))))) pos {walk = walk} e around h =
      let p = paid 5 pos (part_of list_here (pos + 4)) {walk = walk} (payload_content 5 pos e) around h in list_walks e p.value_is p.next p.faults_are
  payload_walk (suc (suc (suc (suc (suc (suc zero)))))) pos {walk = walk} e around h =
      let p = paid 6 pos (part_of ordered_here (pos + 4)) {walk = walk} (payload_content 6 pos e) around h in ordered_walks e p.value_is p.next p.faults_are
  payload_walk (suc (suc (suc (suc (suc (suc (suc zero))))))) pos {walk = walk} e around h =
      let p = paid 7 pos (part_of table_here (pos + 4)) {walk = walk} (payload_content 7 pos e) around h in hashed_walks e p.value_is p.next p.faults_are
  payload_walk (suc (suc (suc (suc (suc (suc (suc (suc zero)))))))) pos {walk = walk} e around h =
      let p = paid 8 pos (part_of index_here (pos + 4)) {walk = walk} (payload_content 8 pos e) around h in kept_walks e p.value_is p.next p.faults_are
  payload_walk (suc (suc (suc (suc (suc (suc (suc (suc (suc zero))))))))) pos {walk = walk} e around h =
      let p = paid 9 pos (part_of whole_here (pos + 4)) {walk = walk} (payload_content 9 pos e) around h in whole_walks e p.value_is p.next p.faults_are
  payload_walk (suc (suc (suc (suc (suc (suc (suc (suc (suc (suc n)))))))))) pos e around h = absurd (not_walked node_names bytes (payload_content (suc (suc (suc (suc (suc (suc (suc (suc (suc (suc n)))))))))) pos e) h)

  pub node_walk : {depth : ℕ} (pos : ℕ) {v : Value} {walk : List Stop} → Walks node_names bytes depth (part_of node_here pos) v walk → NodeWalk bytes depth pos v walk
  unfolding shape_content choose align_up
  node_walk {depth = depth} pos {v = v} h =
      let o = onward node_names bytes (plain same (part_of payload_here pos ∷ [])) refl (λ run. refl) refl h in
      let next = subst (λ x. Walks node_names bytes depth (part_of payload_here pos) x o.run) (made_same o.value v o.is_made) o.next in
      payload_walk (slice_index bytes pos) pos refl o.faults_are next

-- ---- the elements of a list

module _ (names : Names) (bytes : List ℕ) (s : Shape) where
  pub record ElementWalk (depth pos i : ℕ) (vs : Values) (runs : List (List Stop)) : Type 0 where
    pub value : Value
    pub there : value_in i vs ≡ Some value
    pub walk : Walks names bytes depth (at (pos + i * size_of s) s) value (get_or runs i [])

  -- the walk of element i is that of the value at its position
  pub element_walk : (i n : ℕ) {depth pos : ℕ} {vs : Values} {runs : List (List Stop)} → i < n → WalkAll names bytes depth (elements pos n s) vs runs → ElementWalk depth pos i vs runs
  unfolding elements
  element_walk i zero less all = absurd (omega (arith, less))
  element_walk zero (suc n) {depth = depth} {pos = pos} less all =
      let f = first_walk names bytes all in
      let place : pos ≡ pos + 0 * size_of s = omega arith in
      record {
        value = f.value;
        there = ap (value_in 0) f.values_are;
        walk =
            subst (λ x. Walks names bytes depth (at (pos + 0 * size_of s) s) f.value (get_or x 0 [])) (sym f.runs_are)
            (subst (λ x. Walks names bytes depth (at x s) f.value f.run) place f.first);
      }
  element_walk (suc i) (suc n) {depth = depth} {pos = pos} less all =
      let f = first_walk names bytes all in
      let r = element_walk i n (omega (arith, less)) f.rest in
      let place : pos + size_of s + i * size_of s ≡ pos + suc i * size_of s = omega arith in
      record {
        value = r.value;
        there = ap (value_in (suc i)) f.values_are ∙ r.there;
        walk =
            subst (λ x. Walks names bytes depth (at (pos + suc i * size_of s) s) r.value (get_or x (suc i) [])) (sym f.runs_are)
            (subst (λ x. Walks names bytes depth (at x s) r.value (get_or f.later i [])) place r.walk);
      }

  -- there is one for each
  pub element_count : (n pos : ℕ) {depth : ℕ} {vs : Values} {runs : List (List Stop)} → WalkAll names bytes depth (elements pos n s) vs runs → length runs ≡ n
  unfolding elements
  element_count zero pos all = ap length (no_walks names bytes all).1
  element_count (suc n) pos all =
      let f = first_walk names bytes all in
      let c = element_count n (pos + size_of s) f.rest in
      ap length f.runs_are ∙ omega (arith, c)
