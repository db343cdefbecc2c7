-- Where steps and paths lead in the bytes of an archive, and what lies there.
use Rattle.std.proofs.Common.{◌≡◌, ℕ, ◌+◌, ◌*◌, ◌<◌, ◌≤◌, List, [], ◌∷◌, ◌++◌, Option, Some, None, MatchOption, Bor, refl, sym, ap, subst, ◌∙◌, arith, ◌⊎◌, true, false}
use Rattle.std.specs.Prelude.{IfSome}
use Rattle.archive_shape.specs.declared.references.refs.Ref.{Ref}
use Rattle.cabinet_archived.specs.declared.node.ArchivedNode.{ArchivedNode}
use Rattle.archive_shape_layout.specs.Bytes.{align_up}
use Rattle.archive_shape_layout.specs.Shape.{Shape, size_of}
use Rattle.archive_shape_layout.specs.Shape.Shape.{option, box, vector}
use Rattle.archive_shape_layout.specs.Shape.Pointee.{sized}
use Rattle.archive_shape_layout.specs.Value.{Value}
use Rattle.archive_shape_layout.specs.Content.{Names}
use Rattle.archive_shape_layout.specs.Content.Part.{at}
use Rattle.archive_shape.specs.Key.{HeldAt}
use Rattle.archive_forms_values.specs.Parts.{HasValue, PointsTo, IsNoneAt, IsSomeAt, some_position, IsBoxAt, IsVecAt}
use Rattle.cabinet_text_grammar.specs.Path.{Step, key, place, inside, node_at, enters}
use Rattle.cabinet_documents.specs.Node.{node_shape, KnowsNode, whole_shape}
use Rattle.cabinet_documents.specs.Denotes.{tagged_value}
use Rattle.cabinet_archived.specs.Kind.{IsTagged}
use Rattle.cabinet_text_nodes.proofs.Paths.{then_at}
use Rattle.cabinet_archives.specs.Keyed.{KeyLeads, KeyLeadsNowhere}
use Rattle.cabinet_archives.specs.Sound.{HasSoundWalk, IsSoundPart}
use Rattle.std.proofs.Math.Logic.{∥∥₁_map}
use Rattle.cabinet_archives.specs.Way.{StepsTo, steps_inside, steps_place, GoesTo, goes_nowhere, goes_on, steps_whole}
use Rattle.cabinet_archives.specs.Found.{OfDocument, Reaches, ReachesNone}
use Rattle.cabinet_archives.proofs.Soundness.{payload_sound, some_sound, element_sound, whole_sound}
use Rattle.cabinet_archives.proofs.Stepping.{goes_on_at, IsNotInside, IsNoPlace, IsNoKey, other_step, none_step, some_step, past_step, element_step, key_step, no_key_step, whole_step}
use Rattle.archive_forms_rc.specs.Pointers.{IsRcAt, Counts}
use Rattle.archive_forms_rc.specs.Pointers.Counts.{counts, leads_back}
use Rattle.archive_shape_layout.specs.Value.Value.{counted}
use Rattle.cabinet_archives.proofs.Tags.{tag_is}
use Rattle.cabinet_archives.proofs.Entering.{enters_whole}

-- the condition on an option, changed on either side
pub matched : {A P R : Type 0} (Q S : A → Type 0) (o : Option A) → (P → R) → ((x : A) → Q x → S x) → MatchOption o P Q → MatchOption o R S
matched Q S None f g h = f h
matched Q S (Some x) f g h = g x h

-- what it is of an option that is known
pub of_none : {A P : Type 0} (Q : A → Type 0) (o : Option A) → o ≡ None → MatchOption o P Q → P
of_none Q None e h = h
of_none Q (Some x) e h = absurd (cc)

pub of_some : {A : Type 0} (P : Type 0) (Q : A → Type 0) (o : Option A) (x : A) → o ≡ Some x → MatchOption o P Q → Q x
of_some P Q None x e h = absurd (cc)
of_some P Q (Some y) x e h = let same : y ≡ x = cc in subst Q same h

-- ---- paths, one after the other

one_step : {bytes : List ℕ} {from to : ℕ} {s : Step} → StepsTo bytes from s to → GoesTo bytes from (s ∷ []) to
one_step steps = goes_on refl steps (goes_nowhere refl refl)

way_on : {bytes : List ℕ} {from next to : ℕ} {path more : List Step} → GoesTo bytes from path next → GoesTo bytes next more to → GoesTo bytes from (path ++ more) to
way_on {bytes = bytes} {from = from} {to = to} {more = more} (goes_nowhere e f) way =
    subst (λ p. GoesTo bytes from (p ++ more) to) (sym e) (subst (λ n. GoesTo bytes n more to) f way)
way_on {more = more} (goes_on e steps rest) way = goes_on (ap (λ p. p ++ more) e) steps (way_on rest way)

module _ (bytes : List ℕ) (root : ℕ) where
  pub reaches_self : HasValue node_shape KnowsNode bytes root → IsSoundPart bytes (at root node_shape) → Reaches bytes root [] root
  reaches_self has sound = record {
    there = has;
    sound = sound;
    way = goes_nowhere refl refl;
    stands = λ v t h d. record { tree = t; there = refl; node = record { value = v; held = h; denotes = d } };
  }

  pub reaches_on : {next to : ℕ} {path more : List Step} → Reaches bytes root path next → Reaches bytes next more to → Reaches bytes root (path ++ more) to
  reaches_on {path = path} {more = more} a b = record {
    there = b.there;
    sound = b.sound;
    way = way_on a.way b.way;
    stands = λ v t h d.
        let p = a.stands v t h d in
        let q = b.stands p.node.value p.tree p.node.held p.node.denotes in
        record { tree = q.tree; there = goes_on_at path more t ∙ (ap (λ found. then_at found more) p.there ∙ q.there); node = q.node };
  }

  pub none_after : {next : ℕ} {path : List Step} (more : List Step) → Reaches bytes root path next → ReachesNone bytes next more → ReachesNone bytes root (path ++ more)
  none_after {path = path} more a none = λ v t h d.
      let p = a.stands v t h d in
      goes_on_at path more t ∙ (ap (λ found. then_at found more) p.there ∙ none p.node.value p.tree p.node.held p.node.denotes)

  -- where the first steps lead nowhere, so does the path
  pub none_before : (path more : List Step) → ReachesNone bytes root path → ReachesNone bytes root (path ++ more)
  none_before path more none = λ v t h d. goes_on_at path more t ∙ ap (λ found. then_at found more) (none v t h d)

-- ---- the value that a counted pointer counts

pub record IsCounted (bytes : List ℕ) (to : ℕ) (v : Value) : Type 0 where
  pub value : Value
  pub is : v ≡ counted to value
  pub held : HeldAt node_shape KnowsNode bytes to value

pub counted_there : (bytes : List ℕ) (pos to : ℕ) → IsRcAt false node_shape KnowsNode bytes pos to → (v : Value) → HeldAt whole_shape KnowsNode bytes pos v → IsCounted bytes to v
counted_there bytes pos to rc v h = by (rc.value v h)
  where
    by : Counts false to (HeldAt node_shape KnowsNode bytes to) v → IsCounted bytes to v
    by (counts {w = w} is there) = record { value = w; is = is; held = there }
    by (leads_back allowed is) = absurd (cc)

-- the node of a whole
pub whole_there : {bytes other : Bor (List ℕ)} {pos to : ℕ} → HasValue whole_shape KnowsNode bytes.now pos → other ≡ bytes → IsRcAt false node_shape KnowsNode bytes.now pos to → HasValue node_shape KnowsNode other.now to
whole_there {bytes = bytes} {pos = pos} {to = to} has e rc =
    let there = counted_there bytes.now pos to rc has.value has.held in
    subst (λ (b : Bor (List ℕ)). HasValue node_shape KnowsNode b.now to) (sym e) (record { value = there.value; held = there.held })

-- ---- one step, by the node's kind

abbrev pub Boxed : Shape
Boxed = box (sized node_shape)

behind_box_tag : (pos : ℕ) → some_position Boxed pos ≡ pos + 4
unfolding align_up
behind_box_tag pos = refl

module _ (bytes : List ℕ) (pos : ℕ) where
  -- by a step that is not the kind's own
  pub other_none : (s : Step) (tag : ℕ) (shape : Shape) (knows : Names → Type 0) (to : ℕ) → ((tag ≡ 4) ⊎ (tag ≡ 9) → IsNotInside s) → (tag ≡ 5 → IsNoPlace s) → (5 < tag → tag < 9 → IsNoKey s) → IsTagged bytes pos tag shape knows to → ReachesNone bytes pos (s ∷ [])
  other_none s tag shape knows to apart beside keyless tagged = λ v t h d. let p = tagged.payload v h in other_step s p.is apart beside keyless d

  module _ (to : ℕ) (tagged : IsTagged bytes pos 4 (option Boxed) KnowsNode to) where
    pub empty_none : (s : Step) → IsNoneAt Boxed KnowsNode bytes to → ReachesNone bytes pos (s ∷ [])
    empty_none s none = λ v t h d.
        let p = tagged.payload v h in
        none_step s (p.is ∙ ap (tagged_value 4) (none p.payload p.held)) d

    pub content_there : (from : ℕ) → from ≡ some_position Boxed to → IsSomeAt Boxed KnowsNode bytes to → HasValue Boxed KnowsNode bytes from
    content_there from e some =
        let p = some tagged.there.value tagged.there.held in
        subst (HasValue Boxed KnowsNode bytes) (sym e) (record { value = p.payload; held = p.held })

    -- into an option that is some
    pub content_reached : (node : HasValue node_shape KnowsNode bytes pos) (sound : IsSoundPart bytes (at pos node_shape)) (s : Step) (from next : ℕ) → s ≡ inside → to ≡ pos + 4 → from ≡ some_position Boxed to → IsSomeAt Boxed KnowsNode bytes to → IsBoxAt node_shape KnowsNode bytes from next
        → Reaches bytes pos (s ∷ []) next
    content_reached node sound s from next is behind e some boxed =
        let there = content_there from e some in
        let place_is : from ≡ pos + 8 = omega (arith, e, behind, behind_box_tag to) in
        record {
          there = record { value = there.value; held = boxed.value there.value there.held };
          sound =
              ∥∥₁_map sound (λ walk.
              some_sound bytes tagged.there (subst (λ n. HasSoundWalk bytes (at n (option Boxed))) (sym behind) (payload_sound bytes node walk (omega arith) tagged)) some
              (subst (λ n. PointsTo bytes n next) (e ∙ behind_box_tag to) boxed.points));
          way = one_step (steps_inside is (tag_is bytes pos node tagged) (subst (λ n. PointsTo bytes n next) place_is boxed.points));
          stands = λ v t h d.
              let p = tagged.payload v h in
              let q = some p.payload p.held in
              let f = some_step (p.is ∙ ap (tagged_value 4) q.is) d in
              record {
                tree = f.tree;
                there = ap (λ x. node_at t (x ∷ [])) is ∙ f.there;
                node = record { value = q.payload; held = boxed.value q.payload (subst (λ n. HeldAt Boxed KnowsNode bytes n q.payload) (sym e) q.held); denotes = f.denotes };
              };
        }

  -- into a whole
  pub whole_reached : (to : ℕ) (tagged : IsTagged bytes pos 9 whole_shape KnowsNode to) (node : HasValue node_shape KnowsNode bytes pos) (sound : IsSoundPart bytes (at pos node_shape)) (s : Step) (next : ℕ) → s ≡ inside → to ≡ pos + 4
      → IsRcAt false node_shape KnowsNode bytes to next → Reaches bytes pos (s ∷ []) next
  whole_reached to tagged node sound s next is behind rc =
      let there = counted_there bytes to next rc tagged.there.value tagged.there.held in
      record {
        there = record { value = there.value; held = there.held };
        sound = ∥∥₁_map sound (λ walk. whole_sound bytes (subst (λ n. HasSoundWalk bytes (at n whole_shape)) (sym behind) (payload_sound bytes node walk (omega arith) tagged)) rc.points);
        way = one_step (steps_whole is (tag_is bytes pos node tagged) (subst (λ n. PointsTo bytes n next) behind rc.points));
        stands = λ v t h d.
            let p = tagged.payload v h in
            let q = counted_there bytes to next rc p.payload p.held in
            let f = whole_step (p.is ∙ ap (tagged_value 9) q.is) d in
            record {
              tree = f.tree;
              there = ap (λ x. node_at t (x ∷ [])) is ∙ f.there;
              node = record { value = q.value; held = q.held; denotes = f.denotes };
            };
      }

  pub whole_entered : (to : ℕ) (tagged : IsTagged bytes pos 9 whole_shape KnowsNode to) (s : Step) (next : ℕ) → s ≡ inside → IsRcAt false node_shape KnowsNode bytes to next → OfDocument bytes pos (λ t. true ≡ enters t (s ∷ []))
  whole_entered to tagged s next is rc = λ v t h d.
      let p = tagged.payload v h in
      let q = counted_there bytes to next rc p.payload p.held in
      sym (ap (λ x. enters t (x ∷ [])) is ∙ enters_whole (p.is ∙ ap (tagged_value 9) q.is) d)

  module _ (to : ℕ) (tagged : IsTagged bytes pos 5 (vector node_shape) KnowsNode to) (first len : ℕ) (elements : IsVecAt node_shape KnowsNode bytes to first len) where
    pub past_none : (s : Step) (i : ℕ) → s ≡ place i → len ≤ i → ReachesNone bytes pos (s ∷ [])
    past_none s i is past = λ v t h d.
        let p = tagged.payload v h in
        let all = elements.value p.payload p.held in
        ap (λ x. node_at t (x ∷ [])) is ∙ past_step i (p.is ∙ ap (tagged_value 5) all.is) (omega (arith, all.count, past)) d

    -- to an element
    pub element_reached : (node : HasValue node_shape KnowsNode bytes pos) (sound : IsSoundPart bytes (at pos node_shape)) (s : Step) (i next : ℕ) → s ≡ place i → to ≡ pos + 4 → i < len → next ≡ first + i * size_of node_shape → Reaches bytes pos (s ∷ []) next
    element_reached node sound s i next is behind less e =
        let there = elements.value tagged.there.value tagged.there.held in
        let one = there.each i less in
        record {
          there = record { value = one.0; held = subst (λ n. HeldAt node_shape KnowsNode bytes n one.0) (sym e) one.2 };
          sound =
              subst (λ n. IsSoundPart bytes (at n node_shape)) (sym e)
              (∥∥₁_map sound (λ walk. element_sound bytes i tagged.there (subst (λ n. HasSoundWalk bytes (at n (vector node_shape))) (sym behind) (payload_sound bytes node walk (omega arith) tagged)) elements less));
          way = one_step (steps_place is (subst (λ n. PointsTo bytes n first) behind elements.points) e);
          stands = λ v t h d.
              let p = tagged.payload v h in
              let all = elements.value p.payload p.held in
              let x = all.each i less in
              let f = element_step i x.0 (p.is ∙ ap (tagged_value 5) all.is) x.1 d in
              record {
                tree = f.tree;
                there = ap (λ y. node_at t (y ∷ [])) is ∙ f.there;
                node = record { value = x.0; held = subst (λ n. HeldAt node_shape KnowsNode bytes n x.0) (sym e) x.2; denotes = f.denotes };
              };
        }

  module _ (to : ℕ) {tag : ℕ} {shape : Shape} {knows : Names → Type 0} (tagged : IsTagged bytes pos tag shape knows to) (high : 5 < tag) (low : tag < 9) where
    -- by a key that the map has not
    pub key_none : (s : Step) (k : List ℕ) → s ≡ key k → ((v : Value) → HeldAt shape knows bytes to v → KeyLeadsNowhere v k) → ReachesNone bytes pos (s ∷ [])
    key_none s k is nowhere = λ v t h d.
        let p = tagged.payload v h in
        ap (λ x. node_at t (x ∷ [])) is ∙ no_key_step k p.is high low (nowhere p.payload p.held) d

    -- to the node of a key
    pub key_reached : (s : Step) (k : List ℕ) (next : ℕ) → s ≡ key k → ((v : Value) → HeldAt shape knows bytes to v → KeyLeads bytes v k next) → StepsTo bytes pos s next → IsSoundPart bytes (at next node_shape)
        → Reaches bytes pos (s ∷ []) next
    key_reached s k next is leads steps sound =
        let one = leads tagged.there.value tagged.there.held in
        record {
          there = record { value = one.node; held = one.held };
          sound = sound;
          way = one_step steps;
          stands = λ v t h d.
              let p = tagged.payload v h in
              let x = leads p.payload p.held in
              let f = key_step k x.index x.node p.is high low x.item x.first d in
              record {
                tree = f.tree;
                there = ap (λ y. node_at t (y ∷ [])) is ∙ f.there;
                node = record { value = x.node; held = x.held; denotes = f.denotes };
              };
        }

-- a step to a key, by what the look-up of the key finds
pub by_key : (bytes : Bor (List ℕ)) (pos to : ℕ) {tag : ℕ} {shape : Shape} {knows : Names → Type 0} → IsTagged bytes.now pos tag shape knows to → 5 < tag → tag < 9 → (s : Step) (k : List ℕ) → s ≡ key k
    → (result : Option (Ref ArchivedNode))
    → ((v : Value) → HeldAt shape knows bytes.now to v → MatchOption result (KeyLeadsNowhere v k) (λ node. (node.bytes ≡ bytes) × KeyLeads bytes.now v k node.pos))
    → IfSome result (λ node. StepsTo bytes.now pos s node.pos)
    → IfSome result (λ node. IsSoundPart bytes.now (at node.pos node_shape))
    → MatchOption result (ReachesNone bytes.now pos (s ∷ [])) (λ node. (node.bytes ≡ bytes) × Reaches bytes.now pos (s ∷ []) node.pos)
by_key bytes pos to tagged high low s k is None leads steps sound = key_none bytes.now pos to tagged high low s k is leads
by_key bytes pos to tagged high low s k is (Some node) leads steps sound =
    let one = leads tagged.there.value tagged.there.held in
    (one.0, key_reached bytes.now pos to tagged high low s k node.pos is (λ v h. (leads v h).1) steps sound)

-- what holds of what is found
pub found_as : {A : Type 0} (P Q : A → Type 0) (result : Option A) → ((x : A) → P x → Q x) → IfSome result P → IfSome result Q
found_as P Q None f h = tt
found_as P Q (Some x) f h = f x h
