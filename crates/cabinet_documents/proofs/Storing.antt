-- What values store side by side, and in the regions that pointers lead to, against the limits of how they are written.
use Rattle.std.proofs.Common.{◌≡◌, ℕ, ◌+◌, ◌-◌, ◌*◌, ◌≤◌, ◌^◌, List, [], ◌∷◌, ◌++◌, map as mapped, length, Some, refl, sym, ap, subst, ◌∙◌, arith, ◌⊎◌, inl, inr, ⊎_elim, length-append, add-zero}
use Rattle.std.specs.List.{AllByRecursion}
use Rattle.std.proofs.lemmas.List.{length-replicate}
use Rattle.archive_shape_layout.specs.Bytes.{align_up}
use Rattle.archive_shape_layout.specs.Shape.{Shape, size_of, align_of}
use Rattle.archive_shape_layout.specs.Value.{Value, Values, count_values}
use Rattle.archive_shape_layout.specs.Value.Values.{no_values, more_values}
use Rattle.archive_shape_layout.proofs.Framed.{le_align_up}
use Rattle.archive_shape_layout.specs.declared.error.Error.{Error}
use Rattle.archive_shape_layout.specs.declared.error.Error.TheVariants.{PositionTooLarge}
use Rattle.archive_shape_canonical.specs.Settled.{Fit}
use Rattle.archive_shape_canonical.specs.Sharing.{erased, all_erased}
use Rattle.archive_shape_canonical.specs.Plan.{Plan, flat, parts, leads_to_text, Plans, no_plans, more_plans, whole_target}
use Rattle.archive_shape_canonical.specs.Limits.{Field, IsSomePast, Shared, moved, Lies, lies_flat, lies_parts, lies_leads, lies_text, LieAll, lie_none, lie_more}
use Rattle.archive_shape_canonical.specs.Limits as limits
use Rattle.archive_shape.specs.Bytes.{zeros}
use Rattle.archive_forms_laws.specs.State.{State}
use Rattle.archive_forms_laws.specs.Spelling.{Spelling, state_after}
use Rattle.archive_forms_laws.specs.Regions.{state_after_all, pieces, owns, pieces_refused, owns_refused, region_at, region_piece}
use Rattle.archive_forms_laws.specs.Views.{listed}
use Rattle.archive_forms_laws.proofs.Regions.{state_after_all_pos}
use Rattle.cabinet_text_grammar.specs.Tree.{Tree}
use Rattle.cabinet_documents.specs.Node.{node_shape, KnowsNode}
use Rattle.cabinet_documents.specs.Resolver.{Resolver}
use Rattle.cabinet_documents.specs.Spelling.{boxed_shape, boxed_spelling, maybe_spelling, list_spelling, node_of}
use Rattle.cabinet_documents.proofs.Values.{value_of}
use Rattle.cabinet_documents.proofs.Plans.{TextPlan, is_inline, is_far, box_plan, slice_plan, one_plan, length-values, Planned, ArePlanned, first_planned, none_are_planned}
use Rattle.cabinet_documents.proofs.SharedMet.{Sharing, Begun, Spares}
use Rattle.cabinet_documents.proofs.Fields.{Alike, laid, reached, parts_lies, past_left, past_right, past_either, leads_lies, IsFar, Reads}
use Rattle.cabinet_documents.proofs.StoredRegions.{region_fields, ReadsLed, led_read}

-- a plan lies from a state on, with own bytes at a position
abbrev pub CanLie : Plan → ℕ → limits.State → Type 0
CanLie p own st = (fs : List Field) × (b : limits.State) × Lies p own st fs b

abbrev pub CanAllLie : Plans → ℕ → limits.State → Type 0
CanAllLie ps own st = (fs : List Field) × (b : limits.State) × LieAll ps own st fs b

part_can_lie : (at own : ℕ) (p : Plan) (st : limits.State) → CanLie p (own + at) st → CanLie (one_plan at p) own st
part_can_lie at own p st h = (h.0 ++ [], h.1, lies_parts (lie_more h.2 lie_none refl))

pub as_plan : (p q : Plan) (own : ℕ) (st : limits.State) → p ≡ q → CanLie q own st → CanLie p own st
as_plan p q own st is h = subst (λ x. CanLie x own st) (sym is) h

pub as_part : (shape : Shape) (p q : Plan) (own : ℕ) (st : limits.State) → p ≡ one_plan (align_up 1 (align_of shape)) q → CanLie q (own + align_up 1 (align_of shape)) st → CanLie p own st
as_part shape p q own st is h = as_plan p (one_plan (align_up 1 (align_of shape)) q) own st is (part_can_lie (align_up 1 (align_of shape)) own q st h)

pub flat_can_lie : (own : ℕ) (st : limits.State) → CanLie flat own st
flat_can_lie own st = ([], st, lies_flat)

pub text_can_lie : (t : List ℕ) (p : Plan) (own : ℕ) (st : limits.State) → TextPlan t p → CanLie p own st
text_can_lie t p own st (is_inline short is) = as_plan p flat own st is (flat_can_lie own st)
text_can_lie t p own st (is_far long is) = as_plan p (leads_to_text (length t)) own st is (_, _, lies_text refl refl)

-- ---- plans side by side

pub no_lies : (own : ℕ) (st b : limits.State) (fs : List Field) → LieAll no_plans own st fs b → (fs ≡ []) × (b ≡ st)
no_lies own st b fs lie_none = (refl, refl)

pub record FirstLies (at : ℕ) (p : Plan) (ps : Plans) (own : ℕ) (st b : limits.State) (fs : List Field) : Type 0 where
  pub between : limits.State
  pub here : List Field
  pub there : List Field
  pub first : Lies p (own + at) st here between
  pub rest : LieAll ps own between there b
  pub all : fs ≡ here ++ there

pub first_lies : (at : ℕ) (p : Plan) (ps : Plans) (own : ℕ) (st b : limits.State) (fs : List Field) → LieAll (more_plans at p ps) own st fs b → FirstLies at p ps own st b fs
first_lies at p ps own st b fs (lie_more {between = between} {here = here} {there = there} h k all) =
    record { between = between; here = here; there = there; first = h; rest = k; all = all }

pub one_more_lies : (at : ℕ) (p : Plan) (ps : Plans) (own : ℕ) (st between b : limits.State) (here there : List Field) → Lies p (own + at) st here between → LieAll ps own between there b
    → CanAllLie (more_plans at p ps) own st
one_more_lies at p ps own st between b here there h k = (here ++ there, b, lie_more h k refl)

module _ (g : Sharing) where
  -- ---- a node, by what its payload stores

  module _ {A R : Type 0} (tag : ℕ) (shape : Shape) (w : Spelling A R) (make : R → Resolver) (get : Resolver → R) (x : A) (t : Tree) where
    -- the payload is laid out at its offset
    pub node_reads : (s : State) (own : ℕ) (here fs : List Field) (b : limits.State) → get (make (w.resolver x s)) ≡ w.resolver x s
        → Reads g w x s (own + align_up 1 (align_of shape)) here b → fs ≡ here ++ [] → Reads g (node_of tag shape w make get x) t s own fs b
    node_reads s own here fs b kept h all =
        let at = own + align_up 1 (align_of shape) in
        record {
          alike = h.alike;
          spares = h.spares;
          there = h.there;
          piece_past = λ e r. ⊎_elim (λ p. inl (subst (λ l. IsSomePast l e) (sym all) (past_left here [] e p))) (λ far. inr far) (h.piece_past e r);
          own_past = λ e r. subst (λ l. IsSomePast l e) (sym all) (past_left here [] e (h.own_past e (subst (λ z. w.own_refused x z at e) kept r)));
          refused = λ e p.
              ⊎_elim (λ q. ⊎_elim (λ r. inl r) (λ r. inr (subst (λ z. w.own_refused x z at e) (sym kept) r)) (h.refused e q)) (λ none. absurd none)
              (past_either here [] e (subst (λ l. IsSomePast l e) all p));
        }

  -- ---- what is known of a value

  module _ (fit : Fit) {A R : Type 0} (shape : Shape) (as_value : A → Value) (w : Spelling A R) where
    abbrev pub ReadsValue : A → Type 0
    ReadsValue x =
        (v : Value) (p : Plan) → erased v ≡ as_value x → Planned fit shape v p
        → (s : State) (seen : List Shared) → Alike g seen s.met → Begun g s.begun → (own : ℕ) (fs : List Field) (b : limits.State)
        → Lies p own (laid s seen) fs b → Reads g w x s own fs b

    abbrev pub LiesValue : A → Type 0
    LiesValue x =
        (v : Value) (p : Plan) → erased v ≡ as_value x → Planned fit shape v p
        → (s : State) (seen : List Shared) → Alike g seen s.met → Begun g s.begun → (own : ℕ) → CanLie p own (laid s seen)

    pub record TellsValue (x : A) : Type 0 where
      pub sized : (r : R) (pos : ℕ) → length (w.own x r pos) ≡ size_of shape
      pub reads : ReadsValue x
      pub lies : LiesValue x

    -- ---- values side by side

    pub record ReadsAll (xs : List A) (s : State) (pos : ℕ) (fs : List Field) (b : limits.State) : Type 0 where
      pub alike : Alike g b.met (state_after_all w xs s).met
      pub spares : Spares g s.met (state_after_all w xs s).met
      pub there : b.pos ≡ (state_after_all w xs s).pos
      pub pieces_past : (e : Error) → pieces_refused w xs s e → IsSomePast fs e ⊎ IsFar b.pos e
      pub owns_past : (e : Error) → owns_refused w shape xs s pos e → IsSomePast fs e ⊎ ((2 ^ 64 ≤ pos + length xs * size_of shape) × (e ≡ PositionTooLarge))
      pub refused_all : (e : Error) → IsSomePast fs e → pieces_refused w xs s e ⊎ owns_refused w shape xs s pos e

    length-owns : (xs : List A) → AllByRecursion TellsValue xs → (s : State) (pos : ℕ) → length (owns w xs s pos) ≡ length xs * size_of shape
    length-owns [] tell s pos = omega arith
    length-owns (x ∷ xs) tell s pos =
        let own = w.own x (w.resolver x s) pos in
        let first = tell.0.sized (w.resolver x s) pos in
        let rest = length-owns xs tell.1 (state_after w x s) (pos + length own) in
        length-append own (owns w xs (state_after w x s) (pos + length own)) ∙ omega (arith, first, rest)

    first_and_rest :
        (x : A) (xs : List A) (s : State) (pos : ℕ) (here there fs : List Field) (between b : limits.State)
        → length (w.own x (w.resolver x s) pos) ≡ size_of shape
        → Reads g w x s pos here between
        → ReadsAll xs (state_after w x s) (pos + length (w.own x (w.resolver x s) pos)) there b
        → fs ≡ here ++ there
        → ReadsAll (x ∷ xs) s pos fs b
    first_and_rest x xs s pos here there fs between b size first rest all =
        let up = rest.there in
        let behind = state_after_all_pos fit shape KnowsNode w xs (state_after w x s) in
        let mid = first.there in
        record {
          alike = rest.alike;
          spares = λ k o e. rest.spares k o (first.spares k o e);
          there = rest.there;
          pieces_past = λ e. ⊎_elim
              (λ r. ⊎_elim (λ p. inl (subst (λ l. IsSomePast l e) (sym all) (past_left here there e p))) (λ far. inr (omega (arith, far.0, up, behind, mid), far.1)) (first.piece_past e r))
              (λ r. ⊎_elim (λ p. inl (subst (λ l. IsSomePast l e) (sym all) (past_right here there e p))) (λ far. inr far) (rest.pieces_past e r));
          owns_past = λ e. ⊎_elim
              (λ r. ⊎_elim (λ q. inl (subst (λ l. IsSomePast l e) (sym all) (past_left here there e (first.own_past e q)))) (λ far. inr (omega (arith, far.0), far.1)) r)
              (λ r. ⊎_elim (λ p. inl (subst (λ l. IsSomePast l e) (sym all) (past_right here there e p))) (λ far. inr (omega (arith, far.0, size), far.1)) (rest.owns_past e r));
          refused_all = λ e p. ⊎_elim
              (λ q. ⊎_elim (λ r. inl (inl r)) (λ r. inr (inl (inl r))) (first.refused e q))
              (λ q. ⊎_elim (λ r. inl (inr r)) (λ r. inr (inr r)) (rest.refused_all e q))
              (past_either here there e (subst (λ l. IsSomePast l e) all p));
        }

    none_read : (s : State) (seen : List Shared) (pos : ℕ) (fs : List Field) (b : limits.State) → Alike g seen s.met → (fs ≡ []) × (b ≡ laid s seen) → ReadsAll [] s pos fs b
    none_read s seen pos fs b alike ends = record {
      alike = subst (λ (z : limits.State). Alike g z.met s.met) (sym ends.1) alike;
      spares = λ k o e. e;
      there = ap (λ (z : limits.State). z.pos) ends.1;
      pieces_past = λ e r. absurd r;
      owns_past = λ e r. absurd r;
      refused_all = λ e p. absurd (subst (λ l. IsSomePast l e) ends.0 p);
    }

    all_read :
        (xs : List A) (vs : Values) (ps : Plans) (at own pos : ℕ) (s : State) (seen : List Shared) (fs : List Field) (b : limits.State)
        → AllByRecursion TellsValue xs → listed (all_erased vs) ≡ mapped as_value xs → ArePlanned fit shape at vs ps → Alike g seen s.met → Begun g s.begun → pos ≡ own + at
        → LieAll ps own (laid s seen) fs b → ReadsAll xs s pos fs b
    all_read [] no_values ps at own pos s seen fs b tell same planned alike begun pos_is h =
        let none = none_are_planned fit shape at ps planned in
        none_read s seen pos fs b alike (no_lies own (laid s seen) b fs (subst (λ x. LieAll x own (laid s seen) fs b) none h))
    all_read [] (more_values v vs) ps at own pos s seen fs b tell same planned alike begun pos_is h = absurd cc
    all_read (x ∷ xs) no_values ps at own pos s seen fs b tell same planned alike begun pos_is h = absurd cc
    all_read (x ∷ xs) (more_values v vs) ps at own pos s seen fs b tell same planned alike begun pos_is h =
        let one : erased v ≡ as_value x = cc in
        let others : listed (all_erased vs) ≡ mapped as_value xs = cc in
        let plan = first_planned fit shape at v vs ps planned in
        let l = first_lies at plan.first plan.others own (laid s seen) b fs (subst (λ z. LieAll z own (laid s seen) fs b) plan.is h) in
        let first = tell.0.reads v plan.first one plan.planned s seen alike begun pos l.here l.between (subst (λ n. Lies plan.first n (laid s seen) l.here l.between) (sym pos_is) l.first) in
        let size = tell.0.sized (w.resolver x s) pos in
        let next = state_after w x s in
        let rest = all_read xs vs plan.others (at + size_of shape) own (pos + length (w.own x (w.resolver x s) pos)) next l.between.met l.there b tell.1 others plan.are first.alike begun
        (omega (arith, size, pos_is))
        (subst (λ z. LieAll plan.others own z l.there b) (reached l.between next first.there) l.rest) in
        first_and_rest x xs s pos l.here l.there fs l.between b size first rest l.all

    all_lie :
        (xs : List A) (vs : Values) (ps : Plans) (at own : ℕ) (s : State) (seen : List Shared)
        → AllByRecursion TellsValue xs → listed (all_erased vs) ≡ mapped as_value xs → ArePlanned fit shape at vs ps → Alike g seen s.met → Begun g s.begun → CanAllLie ps own (laid s seen)
    all_lie [] no_values ps at own s seen tell same planned alike begun =
        subst (λ x. CanAllLie x own (laid s seen)) (sym (none_are_planned fit shape at ps planned)) ([], laid s seen, lie_none)
    all_lie [] (more_values v vs) ps at own s seen tell same planned alike begun = absurd cc
    all_lie (x ∷ xs) no_values ps at own s seen tell same planned alike begun = absurd cc
    all_lie (x ∷ xs) (more_values v vs) ps at own s seen tell same planned alike begun =
        let one : erased v ≡ as_value x = cc in
        let others : listed (all_erased vs) ≡ mapped as_value xs = cc in
        let plan = first_planned fit shape at v vs ps planned in
        let l = tell.0.lies v plan.first one plan.planned s seen alike begun (own + at) in
        let first = tell.0.reads v plan.first one plan.planned s seen alike begun (own + at) l.0 l.1 l.2 in
        let rest = all_lie xs vs plan.others (at + size_of shape) own (state_after w x s) l.1.met tell.1 others plan.are first.alike begun in
        let there = subst (λ z. LieAll plan.others own z rest.0 rest.1) (sym (reached l.1 (state_after w x s) first.there)) rest.2 in
        subst (λ z. CanAllLie z own (laid s seen)) (sym plan.is) (one_more_lies at plan.first plan.others own (laid s seen) l.1 rest.1 l.0 rest.0 l.2 there)

    -- ---- the region of values that a pointer leads to

    pub record ReadsRegion (xs : List A) (s : State) (own : ℕ) (numbers : List ℕ) (fs : List Field) (b : limits.State) : Type 0 where
      pub alike : Alike g b.met (state_after_all w xs s).met
      pub spares : Spares g s.met (state_after_all w xs s).met
      pub there : b.pos ≡ s.pos + length (region_piece w shape xs s)
      pub led : ReadsLed
          (pieces_refused w xs s) (IsFar (region_at w shape xs s)) (owns_refused w shape xs s (region_at w shape xs s))
          own (region_at w shape xs s) numbers fs b.pos

    region_length : (xs : List A) (s : State) → length (owns w xs s (region_at w shape xs s)) ≡ length xs * size_of shape
        → s.pos + length (region_piece w shape xs s) ≡ region_at w shape xs s + length xs * size_of shape
    region_length xs s size =
        let start = region_at w shape xs s in
        let front = pieces w xs s in
        let gap = zeros (start - (state_after_all w xs s).pos) in
        let behind = state_after_all_pos fit shape KnowsNode w xs s in
        let up = le_align_up (state_after_all w xs s).pos (align_of shape) in
        let filled : length gap ≡ start - (state_after_all w xs s).pos = length-replicate _ _ in
        omega (arith, length-append front (gap ++ owns w xs s start), length-append gap (owns w xs s start))

    pub region_read :
        (xs : List A) (s : State) (own : ℕ) (numbers : List ℕ) (within fs : List Field) (inner b : limits.State)
        → length (owns w xs s (region_at w shape xs s)) ≡ length xs * size_of shape
        → ReadsAll xs s (region_at w shape xs s) within inner
        → b ≡ moved (region_at w shape xs s + length xs * size_of shape) inner
        → fs ≡ region_fields own (region_at w shape xs s) (region_at w shape xs s + 0) numbers within
        → ReadsRegion xs s own numbers fs b
    region_read xs s own numbers within fs inner b size h ends fields =
        let start = region_at w shape xs s in
        let behind : b.pos ≡ start + length xs * size_of shape = ap (λ (z : limits.State). z.pos) ends in
        let up : inner.pos ≤ start = subst (λ n. n ≤ start) (sym h.there) (le_align_up (state_after_all w xs s).pos (align_of shape)) in
        record {
          alike = subst (λ (z : limits.State). Alike g z.met (state_after_all w xs s).met) (sym ends) h.alike;
          spares = h.spares;
          there = behind ∙ sym (region_length xs s size);
          led = led_read (pieces_refused w xs s) (IsFar start) (owns_refused w shape xs s start) own start start numbers within fs inner.pos b.pos
              up
              (λ e far. inl far)
              (λ e far. far)
              (record {
                data_past = h.pieces_past;
                own_past = λ e r. ⊎_elim (λ p. inl p) (λ far. inr (omega (arith, far.0, behind), far.1)) (h.owns_past e r);
                refused_within = h.refused_all;
              })
              (fields ∙ ap (λ n. region_fields own start n numbers within) (add-zero start));
        }

    module _ (xs : List A) (tell : AllByRecursion TellsValue xs) (vs : Values) (ps : Plans) (q : Plan) (numbers : List ℕ) (same : listed (all_erased vs) ≡ mapped as_value xs)
        (planned : ArePlanned fit shape 0 vs ps) (q_is : q ≡ slice_plan shape numbers (count_values vs) ps) (s : State) (seen : List Shared) (alike : Alike g seen s.met) (begun : Begun g s.begun) (own : ℕ) where
      pub slice_region : (fs : List Field) (b : limits.State) → Lies q own (laid s seen) fs b → ReadsRegion xs s own numbers fs b
      slice_region fs b h =
          let n = length xs in
          let l = leads_lies numbers (whole_target (n * size_of shape) (align_of shape)) (parts ps) own (laid s seen) b fs
          (subst (λ x. Lies x own (laid s seen) fs b) (q_is ∙ ap (λ k. slice_plan shape numbers k ps) (length-values as_value xs vs same)) h) in
          let all = parts_lies ps l.start (laid s seen) l.inner l.within l.lies in
          let there = (all_read xs vs ps 0 l.start l.start s seen l.within l.inner tell same planned alike begun (sym (add-zero l.start)) all).there in
          let start = region_at w shape xs s in
          let begins : l.start ≡ start = l.begins ∙ ap (λ k. align_up k (align_of shape)) there in
          let at_start = all_read xs vs ps 0 start start s seen l.within l.inner tell same planned alike begun (sym (add-zero start)) (subst (λ k. LieAll ps k (laid s seen) l.within l.inner) begins all) in
          region_read xs s own numbers l.within fs l.inner b
          (length-owns xs tell s start)
          at_start
          (l.ends ∙ ap (λ k. moved (k + n * size_of shape) l.inner) begins)
          (l.fields ∙ ap (λ k. region_fields own k (k + 0) numbers l.within) begins)

      pub slice_lies : CanLie q own (laid s seen)
      slice_lies =
          let start = region_at w shape xs s in
          let l = all_lie xs vs ps 0 start s seen tell same planned alike begun in
          let there = (all_read xs vs ps 0 start start s seen l.0 l.1 tell same planned alike begun (sym (add-zero start)) l.2).there in
          as_plan q (slice_plan shape numbers (count_values vs) ps) own (laid s seen) q_is (_, _, lies_leads (lies_parts l.2) (ap (λ n. align_up n (align_of shape)) (sym there)) refl refl)

    -- ---- one value in its own region

    pub one_read : (x : A) (s : State) (pos : ℕ) (fs : List Field) (b : limits.State) → length (w.own x (w.resolver x s) pos) ≡ size_of shape → Reads g w x s pos fs b → ReadsAll (x ∷ []) s pos fs b
    one_read x s pos fs b size h = record {
      alike = h.alike;
      spares = h.spares;
      there = h.there;
      pieces_past = λ e. ⊎_elim (λ r. h.piece_past e r) (λ none. absurd none);
      owns_past = λ e. ⊎_elim (⊎_elim (λ r. inl (h.own_past e r)) (λ far. inr (omega (arith, far.0), far.1))) (λ none. absurd none);
      refused_all = λ e p. ⊎_elim (λ r. inl (inl r)) (λ r. inr (inl (inl r))) (h.refused e p);
    }

  -- ---- nodes

  module _ (fit : Fit) (w : Spelling Tree Resolver) where
    abbrev pub ReadsNode : Tree → Type 0
    ReadsNode t = ReadsValue fit node_shape value_of w t

    abbrev pub LiesNode : Tree → Type 0
    LiesNode t = LiesValue fit node_shape value_of w t

    abbrev pub Tells : Tree → Type 0
    Tells t = TellsValue fit node_shape value_of w t

    abbrev pub ReadsNodes : List Tree → State → ℕ → List ℕ → List Field → limits.State → Type 0
    ReadsNodes xs s own numbers fs b = ReadsRegion fit node_shape value_of w xs s own numbers fs b

    -- ---- one node in its own region

    pub one_length : (t : Tree) (s : State) (pos : ℕ) → length (w.own t (w.resolver t s) pos) ≡ 24 → length (owns w (t ∷ []) s pos) ≡ 24
    one_length t s pos size = length-append (w.own t (w.resolver t s) pos) [] ∙ omega (arith, size)

    pub box_region : (t : Tree) → Tells t → (v : Value) (p q : Plan) → erased v ≡ value_of t → Planned fit node_shape v p → q ≡ box_plan p
        → (s : State) (seen : List Shared) → Alike g seen s.met → Begun g s.begun → (own : ℕ) (fs : List Field) (b : limits.State)
        → Lies q own (laid s seen) fs b → ReadsNodes (t ∷ []) s own [] fs b
    box_region t tell v p q same planned q_is s seen alike begun own fs b h =
        let l = leads_lies [] (whole_target 24 8) p own (laid s seen) b fs (subst (λ x. Lies x own (laid s seen) fs b) q_is h) in
        let there = (tell.reads v p same planned s seen alike begun l.start l.within l.inner l.lies).there in
        let start = region_at w node_shape (t ∷ []) s in
        let begins : l.start ≡ start = l.begins ∙ ap (λ n. align_up n 8) there in
        let at_start = tell.reads v p same planned s seen alike begun start l.within l.inner (subst (λ n. Lies p n (laid s seen) l.within l.inner) begins l.lies) in
        let size = tell.sized (w.resolver t s) start in
        let one : 24 ≡ length (t ∷ []) * 24 = omega arith in
        region_read fit node_shape value_of w (t ∷ []) s own [] l.within fs l.inner b
        (one_length t s start size ∙ one)
        (one_read fit node_shape value_of w t s start l.within l.inner size at_start)
        (l.ends ∙ ap (λ n. moved (n + 24) l.inner) begins ∙ ap (λ n. moved (start + n) l.inner) one)
        (l.fields ∙ ap (λ n. region_fields own n (n + 0) [] l.within) begins)

    pub box_lies : (t : Tree) → Tells t → (v : Value) (p q : Plan) → erased v ≡ value_of t → Planned fit node_shape v p → q ≡ box_plan p
        → (s : State) (seen : List Shared) → Alike g seen s.met → Begun g s.begun → (own : ℕ) → CanLie q own (laid s seen)
    box_lies t tell v p q same planned q_is s seen alike begun own =
        let start = region_at w node_shape (t ∷ []) s in
        let l = tell.lies v p same planned s seen alike begun start in
        let there = (tell.reads v p same planned s seen alike begun start l.0 l.1 l.2).there in
        as_plan q (box_plan p) own (laid s seen) q_is (_, _, lies_leads l.2 (ap (λ n. align_up n 8) (sym there)) refl refl)

    -- ---- payloads that lead to nodes

    pub box_reads : (t : Tree) (s : State) (own : ℕ) (fs : List Field) (b : limits.State) → ReadsNodes (t ∷ []) s own [] fs b → Reads g (boxed_spelling w) t s own fs b
    box_reads t s own fs b h = record {
      alike = h.alike;
      spares = h.spares;
      there = h.there;
      piece_past = h.led.past;
      own_past = λ e r. h.led.beside e (inl r);
      refused = λ e p. ⊎_elim (λ r. inl r) (⊎_elim (λ r. inr r) (λ none. absurd none)) (h.led.refused_led e p);
    }

    pub some_reads : (t : Tree) (s : State) (own : ℕ) (here fs : List Field) (b : limits.State) → Reads g (boxed_spelling w) t s (own + align_up 1 (align_of boxed_shape)) here b → fs ≡ here ++ []
        → Reads g (maybe_spelling w) (Some t) s own fs b
    some_reads t s own here fs b h all = record {
      alike = h.alike;
      spares = h.spares;
      there = h.there;
      piece_past = λ e r. ⊎_elim (λ p. inl (subst (λ l. IsSomePast l e) (sym all) (past_left here [] e p))) (λ far. inr far) (h.piece_past e r);
      own_past = λ e r. subst (λ l. IsSomePast l e) (sym all) (past_left here [] e (h.own_past e r));
      refused = λ e p. ⊎_elim (λ q. h.refused e q) (λ none. absurd none) (past_either here [] e (subst (λ l. IsSomePast l e) all p));
    }

    pub list_reads : (xs : List Tree) (s : State) (own : ℕ) (fs : List Field) (b : limits.State) → ReadsNodes xs s own (length xs ∷ []) fs b → Reads g (list_spelling w) xs s own fs b
    list_reads xs s own fs b h = record {
      alike = h.alike;
      spares = h.spares;
      there = h.there;
      piece_past = h.led.past;
      own_past = λ e. ⊎_elim (λ r. h.led.beside e (inl r)) (λ long. h.led.beside e (inr (inl long)));
      refused = λ e p. ⊎_elim (λ r. inl r) (⊎_elim (λ r. inr (inl r)) (⊎_elim (λ long. inr (inr long)) (λ none. absurd none))) (h.led.refused_led e p);
    }
