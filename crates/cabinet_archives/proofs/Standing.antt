-- From a node to its payload, and from there to the nodes in it, at the positions that the bytes give.
use Rattle.std.proofs.Common.{◌≡◌, ℕ, zero, suc, ◌+◌, ◌*◌, ◌<◌, Bool, true, false, nat_lt, List, [], ◌∷◌, slice_index, length, Option, Some, None, refl, sym, ap, subst, ◌∙◌, arith, ◌==◌, ◌||◌, nat_le, eqb-true, true≢false}
use Rattle.std.proofs.lemmas.Bool.{ltb-true}
use Rattle.archive_shape_layout.specs.Bytes.{window, word_at, target_from, align_up}
use Rattle.archive_shape_layout.specs.Shape.{Shape, align_of}
use Rattle.archive_shape_layout.specs.Shape.Alignment.{eight}
use Rattle.archive_shape_layout.specs.Shape.Shape.{text, option, choice, box, vector}
use Rattle.archive_shape_layout.specs.Shape.Pointee.{sized, slice, str}
use Rattle.archive_shape_layout.specs.Value.{Value, Values}
use Rattle.archive_shape_layout.specs.Value.Value.{string, group}
use Rattle.archive_shape_layout.specs.Value.Values.{no_values, more_values}
use Rattle.archive_shape_layout.specs.Content.{Part, content_of, choose, made, elements, shape_content, text_content, shape_tagged, IsInline, text_length}
use Rattle.archive_shape_layout.specs.Content.Part.{at, behind}
use Rattle.archive_shape_layout.specs.Content.Label.{same, tagged, written}
use Rattle.archive_shape_layout.specs.Content.Content.{illegal, plain}
use Rattle.archive_shape_layout.specs.Holds.{Region, Visit, OpenShared, Holds, HoldAll}
use Rattle.archive_shape_layout.specs.Holds.HoldAll.{holds_none, holds_more}
use Rattle.archive_shape_layout.specs.Path.{Stands, StandsIn, value_in}
use Rattle.archive_shape_layout.specs.Path.Stands.{stands_claimed}
use Rattle.archive_shape_layout.specs.Path.StandsIn.{stands_first, stands_later}
use Rattle.archive_shape_layout.proofs.Unique.{by_plain, by_claimed}
use Rattle.archive_shape.proofs.Inverted.{IsKnown, held_is_known}
use Rattle.archive_shape.proofs.Questions.{tested_known, followed_known}
use Rattle.archive_forms_laws.specs.Text.{own_bytes, LiesAt}
use Rattle.archive_forms_laws.specs.Text.LiesAt.{inline, out_of_line}
use Rattle.archive_forms_laws.proofs.Held.{text_behind}
use Rattle.archive_forms_laws.proofs.Named.{named_is}
use Rattle.archive_forms_laws.proofs.TextContent.{followed, chosen_no, inline_is, far_is}
use Rattle.archive_forms_values.proofs.Contents.{slice_is}
use Rattle.archive_forms_values.proofs.Tagged.{own_tag, none_is, some_is, choice_tag, choice_is}
use Rattle.archive_forms_values.proofs.Targets.{first_word}
use Rattle.archive_forms_values.specs.Parts.{PointsTo}
use Rattle.archive_forms_values.proofs.Inside.{none_held}
use Rattle.archive_forms_values.proofs.Pointed.{made_whole}
use Rattle.cabinet_documents.specs.Node.{node_names, node_shape, payloads}
use Rattle.cabinet_documents.specs.Denotes.{tagged_value}
use Rattle.cabinet_documents.proofs.Nodes.{none_illegal}
use Rattle.cabinet_documents.proofs.Steps.{Through, plain_below, same_below, joined, behind_below}

module _ (bytes : List ℕ) where
  -- ---- a node's payload

  node_content : (pos : ℕ) → content_of node_names bytes (at pos node_shape) ≡ plain same (at pos (choice payloads) ∷ [])
  unfolding align_up
  node_content pos = named_is (choice payloads) 0 24 eight refl refl node_names bytes pos refl

  -- at a shift from the node
  pub record PaidAt (level : ℕ) (around : List OpenShared) (pos shift : ℕ) (s : Shape) (v w : Value) (before after : List Visit) : Type 0 where
    pub regions : List Region
    pub holds : Holds node_names bytes level around (at (pos + shift) s) w regions before after
    pub stands : (r : Part) (u : Value) (path : List ℕ) → Stands node_names bytes r u level around before (at (pos + shift) s) w path
        → Stands node_names bytes r u level around before (at pos node_shape) v (0 ∷ path)

  made_tagged : (m tag : ℕ) (u v w : Value) → made (tagged m) (more_values u no_values) ≡ Some v → v ≡ tagged_value tag w → (m ≡ tag) × (u ≡ w)
  unfolding made
  made_tagged m tag u v w e f = (cc, cc)

  module _ (pos tag : ℕ) (w : Value) {level : ℕ} {around : List OpenShared} {v : Value} {regions : List Region} {before after : List Visit}
      (is : v ≡ tagged_value tag w) (h : Holds node_names bytes level around (at pos node_shape) v regions before after)
    where
      there : Through bytes level level around (at pos node_shape) (at pos (choice payloads)) v before after
      there = same_below bytes (plain_below bytes (node_content pos) h)

      -- the tag of a node's value is its byte
      pub tag_is : slice_index bytes pos ≡ tag
      unfolding shape_content
      tag_is = by_tag (shape_tagged (slice_index bytes pos) payloads) refl
        where
          by_tag : (o : Option Shape) → shape_tagged (slice_index bytes pos) payloads ≡ o → slice_index bytes pos ≡ tag
          by_tag None e = absurd (none_illegal bytes (rw (choice_tag node_names bytes pos payloads, e) refl) there.holds)
          by_tag (Some s) e =
              let b = plain_below bytes (choice_is node_names bytes pos payloads (slice_index bytes pos) s _ refl e refl) there.holds in
              (made_tagged _ tag b.value v w b.is_made is).0

      -- its payload, of the tag's shape, lies after the tag
      pub paid_at : (shift : ℕ) (s : Shape) → shape_tagged tag payloads ≡ Some s → align_up 1 (align_of s) ≡ shift → PaidAt level around pos shift s v w before after
      paid_at shift s has from =
          let b = plain_below bytes (choice_is node_names bytes pos payloads tag s shift tag_is has from) there.holds in
          let value : b.value ≡ w = (made_tagged tag tag b.value v w b.is_made is).1 in
          record {
            regions = b.regions;
            holds = subst (λ x. Holds node_names bytes level around (at (pos + shift) s) x b.regions before after) value b.holds;
            stands = λ r u path st. there.stands r u (0 ∷ path) (b.stands r u path (0 ∷ path) (subst (λ x. Stands node_names bytes r u level around before (at (pos + shift) s) x path) (sym value) st) refl);
          }

  -- ---- the node in an option

  pub record BoxAt (level : ℕ) (around : List OpenShared) (pos : ℕ) (v : Value) (before after : List Visit) : Type 0 where
    pub to : ℕ
    pub points : PointsTo bytes pos to
    pub there : Through bytes level (suc level) around (at pos (box (sized node_shape))) (at to node_shape) v before after

  box_at : (pos : ℕ) {level : ℕ} {around : List OpenShared} {v : Value} {regions : List Region} {before after : List Visit}
      → Holds node_names bytes level around (at pos (box (sized node_shape))) v regions before after → BoxAt level around pos v before after
  unfolding shape_content
  box_at pos h =
      let known = followed_known (target_from pos (word_at (window bytes pos 4) 0)) _ (held_is_known node_names bytes h) in
      let content : content_of node_names bytes (at pos (box (sized node_shape))) ≡ plain same (behind known.0 (sized node_shape) 1 ∷ []) = followed _ known.0 _ known.1 in
      let one = same_below bytes (plain_below bytes content h) in
      record {
        to = known.0;
        points = subst (λ word. target_from pos word ≡ Some known.0) (first_word bytes pos 4 (omega arith)) known.1;
        there = joined bytes one (behind_below bytes known.0 one.holds);
      }

  pub record InsideAt (level : ℕ) (around : List OpenShared) (pos : ℕ) (v w : Value) (before after : List Visit) : Type 0 where
    pub to : ℕ
    pub points : PointsTo bytes (pos + 4) to
    pub regions : List Region
    pub holds : Holds node_names bytes (suc level) around (at to node_shape) w regions before after
    pub stands : (r : Part) (u : Value) (path : List ℕ) → Stands node_names bytes r u (suc level) around before (at to node_shape) w path
        → Stands node_names bytes r u level around before (at pos (option (box (sized node_shape)))) v (0 ∷ path)

  made_none : (vs : Values) (v w : Value) → vs ≡ no_values → made (tagged 0) vs ≡ Some v → v ≡ tagged_value 1 w → ⊥
  unfolding made
  made_none vs v w none e f = let some : made (tagged 0) no_values ≡ Some v = subst (λ x. made (tagged 0) x ≡ Some v) none e in cc

  neither : (pos : ℕ) → (slice_index bytes pos == 0) ≡ false → (slice_index bytes pos == 1) ≡ false → content_of node_names bytes (at pos (option (box (sized node_shape)))) ≡ illegal
  unfolding shape_content choose align_up
  neither pos e f = rw (own_tag bytes pos 8 (omega arith), e, f) refl

  module _ (pos : ℕ) (w : Value) {level : ℕ} {around : List OpenShared} {v : Value} {regions : List Region} {before after : List Visit}
      (is : v ≡ tagged_value 1 w) (h : Holds node_names bytes level around (at pos (option (box (sized node_shape)))) v regions before after)
    where
      option_tag_is : slice_index bytes pos ≡ 1
      option_tag_is = by_test (slice_index bytes pos == 0) (slice_index bytes pos == 1) refl refl
        where
          by_test : (a b : Bool) → (slice_index bytes pos == 0) ≡ a → (slice_index bytes pos == 1) ≡ b → slice_index bytes pos ≡ 1
          by_test true b e f =
              let d = by_plain node_names bytes (none_is node_names bytes pos (box (sized node_shape)) 4 refl (omega arith) (eqb-true (slice_index bytes pos) 0 e)) h in
              absurd (made_none d.vs v w (none_held node_names bytes d.all) d.is_made is)
          by_test false true e f = eqb-true (slice_index bytes pos) 1 f
          by_test false false e f = absurd (none_illegal bytes (neither pos e f) h)

      pub inside_at : InsideAt level around pos v w before after
      inside_at =
          let b = plain_below bytes (some_is node_names bytes pos (box (sized node_shape)) 4 refl (omega arith) option_tag_is) h in
          let value : b.value ≡ w = (made_tagged 1 1 b.value v w b.is_made is).1 in
          let led = box_at (pos + 4) b.holds in
          record {
            to = led.to;
            points = led.points;
            regions = led.there.regions;
            holds = subst (λ x. Holds node_names bytes (suc level) around (at led.to node_shape) x led.there.regions before after) value led.there.holds;
            stands = λ r u path st. b.stands r u path (0 ∷ path) (led.there.stands r u path (subst (λ x. Stands node_names bytes r u (suc level) around before (at led.to node_shape) x path) (sym value) st)) refl;
          }

  -- ---- an element of a list

  pub record Nth (level : ℕ) (around : List OpenShared) (before : List Visit) (ps : List Part) (vs : Values) (i to : ℕ) (u : Value) : Type 0 where
    pub regions : List Region
    pub since : List Visit
    pub until : List Visit
    pub holds : Holds node_names bytes level around (at to node_shape) u regions since until
    pub within : (r : Part) (w : Value) (path : List ℕ) → Stands node_names bytes r w level around since (at to node_shape) u path → StandsIn node_names bytes r w level around before ps vs i path

  nth : (i n from to : ℕ) (u : Value) {level : ℕ} {around : List OpenShared} {ps : List Part} {vs : Values} {regions : List Region} {before after : List Visit}
      → HoldAll node_names bytes level around ps vs regions before after → ps ≡ elements from n node_shape → value_in i vs ≡ Some u → to ≡ from + i * 24 → Nth level around before ps vs i to u
  unfolding elements
  nth i n from to u (holds_none e f g) is there place =
      let none : value_in i no_values ≡ Some u = subst (λ x. value_in i x ≡ Some u) e there in
      absurd (cc)
  nth i zero from to u (holds_more h hs e r) is there place = absurd (cc)
  nth zero (suc n) from to u {level = level} {around = around} {before = before} (holds_more {p = p} {v = v} {vs = vs} {here = here} {between = between} h hs e r) is there place =
      let first_part : p ≡ at from node_shape = cc in
      let same_place : from ≡ to = omega (arith, place) in
      let part_is : p ≡ at to node_shape = first_part ∙ ap (λ n. at n node_shape) same_place in
      let first : value_in 0 (more_values v vs) ≡ Some u = subst (λ x. value_in 0 x ≡ Some u) e there in
      let value_is : v ≡ u = cc in
      record {
        regions = here;
        since = before;
        until = between;
        holds = subst (λ x. Holds node_names bytes level around x u here before between) part_is (subst (λ x. Holds node_names bytes level around p x here before between) value_is h);
        within = λ q w path s. stands_first
            (subst (λ x. Stands node_names bytes q w level around before x v path) (sym part_is) (subst (λ x. Stands node_names bytes q w level around before (at to node_shape) x path) (sym value_is) s))
            h hs e refl;
      }
  nth (suc i) (suc n) from to u {level = level} {around = around} {before = before} (holds_more {v = v} {vs = vs} h hs e r) is there place =
      let later : value_in (suc i) (more_values v vs) ≡ Some u = subst (λ x. value_in (suc i) x ≡ Some u) e there in
      let k = nth i n (from + 24) to u hs (cc) later (omega (arith, place)) in
      record {
        regions = k.regions;
        since = k.since;
        until = k.until;
        holds = k.holds;
        within = λ q w path s. stands_later h (k.within q w path s) e refl;
      }

  pub record ElementAt (level : ℕ) (around : List OpenShared) (pos i : ℕ) (v u : Value) (before : List Visit) : Type 0 where
    pub first : ℕ
    pub points : PointsTo bytes pos first
    pub regions : List Region
    pub since : List Visit
    pub until : List Visit
    pub holds : Holds node_names bytes (suc level) around (at (first + i * 24) node_shape) u regions since until
    pub stands : (r : Part) (w : Value) (path : List ℕ) → Stands node_names bytes r w (suc level) around since (at (first + i * 24) node_shape) u path
        → Stands node_names bytes r w level around before (at pos (vector node_shape)) v (i ∷ path)

  pub element_at : (pos i : ℕ) (u : Value) (vs : Values) {level : ℕ} {around : List OpenShared} {v : Value} {regions : List Region} {before after : List Visit}
      → v ≡ group vs → value_in i vs ≡ Some u → Holds node_names bytes level around (at pos (vector node_shape)) v regions before after → ElementAt level around pos i v u before
  unfolding shape_content
  element_at pos i u vs {v = v} is has h =
      let len = word_at (window bytes pos 8) 4 in
      let known = followed_known (target_from pos (word_at (window bytes pos 8) 0)) _ (held_is_known node_names bytes h) in
      let content : content_of node_names bytes (at pos (vector node_shape)) ≡ plain same (behind known.0 (slice node_shape) len ∷ []) = followed _ known.0 _ known.1 in
      let one = same_below bytes (plain_below bytes content h) in
      let d = by_claimed node_names bytes (slice_is node_names bytes known.0 node_shape len) one.holds in
      let group_is = made_whole d.vs v d.is_made in
      let values : vs ≡ d.vs = cc in
      let there : value_in i d.vs ≡ Some u = ap (value_in i) (sym values) ∙ has in
      let k = nth i len known.0 (known.0 + i * 24) u d.all refl there refl in
      record {
        first = known.0;
        points = subst (λ word. target_from pos word ≡ Some known.0) (first_word bytes pos 8 (omega arith)) known.1;
        regions = k.regions;
        since = k.since;
        until = k.until;
        holds = k.holds;
        stands = λ r w path s. one.stands r w (i ∷ path) (stands_claimed (slice_is node_names bytes known.0 node_shape len) (k.within r w path s) d.is_made refl);
      }

  -- ---- a text, inline or out of line

  pub data TextAt (level : ℕ) (around : List OpenShared) (pos : ℕ) (v : Value) (before after : List Visit) : Type 0 where
    text_inline : {s : List ℕ} → LiesAt bytes pos pos (length s) → content_of node_names bytes (at pos text) ≡ plain (written s) [] → v ≡ string s → TextAt level around pos v before after
    text_out : {start len : ℕ} → LiesAt bytes pos start len → v ≡ string (window bytes start len) → Through bytes level level around (at pos text) (behind start str len) v before after → TextAt level around pos v before after

  made_written : (s : List ℕ) (vs : Values) (v : Value) → vs ≡ no_values → made (written s) vs ≡ Some v → v ≡ string s
  unfolding made
  made_written s vs v none e = let some : made (written s) no_values ≡ Some v = subst (λ x. made (written s) x ≡ Some v) none e in cc

  module _ (pos : ℕ) {level : ℕ} {around : List OpenShared} {v : Value} {regions : List Region} {before after : List Visit}
      (h : Holds node_names bytes level around (at pos text) v regions before after)
    where
      inline_at : IsInline (slice_index (own_bytes bytes pos) 0) → TextAt level around pos v before after
      inline_at begins =
          let content = inline_is node_names bytes pos (own_bytes bytes pos) refl begins in
          let d = by_plain node_names bytes content h in
          text_inline (inline begins refl) content (made_written _ d.vs v (none_held node_names bytes d.all) d.is_made)

      far_at : (IsInline (slice_index (own_bytes bytes pos) 0) → ⊥) → TextAt level around pos v before after
      unfolding shape_content text_content
      far_at begins =
          let own = own_bytes bytes pos in
          let len = text_length (word_at own 0) in
          let known = subst IsKnown (chosen_no _ _ _ begins) (held_is_known node_names bytes h) in
          let tested = tested_known (nat_lt 8 len) _ known in
          let followed = followed_known (target_from pos (word_at own 4)) _ tested.1 in
          let long : 8 < len = ltb-true 8 len tested.0 in
          let one = same_below bytes (plain_below bytes (far_is node_names bytes pos own refl begins len refl long followed.0 followed.1) h) in
          text_out (out_of_line begins refl long followed.1) (text_behind node_names bytes followed.0 len one.holds).value one

      pub text_at : TextAt level around pos v before after
      text_at = by_test (nat_lt (slice_index (own_bytes bytes pos) 0) 128 || nat_le 192 (slice_index (own_bytes bytes pos) 0)) refl
        where
          by_test : (b : Bool) → (nat_lt (slice_index (own_bytes bytes pos) 0) 128 || nat_le 192 (slice_index (own_bytes bytes pos) 0)) ≡ b → TextAt level around pos v before after
          by_test true e = inline_at e
          by_test false e = far_at (λ begins. true≢false (sym begins ∙ e))
