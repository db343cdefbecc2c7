-- What holds has a walk, of whose steps all is known that is known of the steps of what holds.
use Rattle.std.proofs.Common.{◌≡◌, ℕ, List, [], ◌∷◌, Some, refl, sym, ap, subst, cond, ◌==◌, true, false, Bool, eqb-true}
use Rattle.std.specs.Prelude.{⊤}
use Rattle.archive_shape_layout.specs.Shape.{Shape, Pointee}
use Rattle.archive_shape_layout.specs.Shape.Pointee.{sized}
use Rattle.archive_shape_layout.specs.Value.{Value, Values}
use Rattle.archive_shape_layout.specs.Value.Values.{no_values, more_values}
use Rattle.archive_shape_layout.specs.Content.{Names, Part, Label, Content, content_of, made}
use Rattle.archive_shape_layout.specs.Content.Part.{behind}
use Rattle.archive_shape_layout.specs.Content.Content.{illegal, plain, claimed, counting}
use Rattle.archive_shape_layout.specs.Holds.{Region, Visit, OpenShared, visited, Holds, HoldAll, HasRoot}
use Rattle.archive_shape_layout.specs.Holds.Holds.{holds_plain, holds_claimed, holds_first, holds_later, holds_back}
use Rattle.archive_shape_layout.specs.Holds.HoldAll.{holds_none, holds_more}
use Rattle.cabinet_documents.specs.Walk.{Stop, Walks, WalkAll, parts_of, value_of, joined, depth_in}
use Rattle.cabinet_documents.specs.Walk.Walks.{walks}
use Rattle.cabinet_documents.specs.Walk.WalkAll.{walk_none, walk_more}
use Rattle.cabinet_documents.specs.Laws.{IsAcyclic, AreAcyclic, WalkStands}
use Rattle.cabinet_documents.proofs.Walked.{one_walk}
use Rattle.cabinet_documents.proofs.Stops.{Each, each_append, each_joined, flat}

-- what is known of a part, its content and the values of its parts
abbrev pub Knowledge : Type 1
Knowledge = Part → Content → Values → Type 0

-- it is known of each step, and no shared position lies inside itself
abbrev mutual
  pub IsKnown : (Known : Knowledge) {names : Names} {bytes : List ℕ} {level : ℕ} {inside : List OpenShared} {p : Part} {v : Value} {regions : List Region} {before after : List Visit}
      → Holds names bytes level inside p v regions before after → Type 0
  IsKnown Known {p = p} (holds_plain {l = l} {ps = ps} {vs = vs} e legal all m) = Known p (plain l ps) vs × AreKnown Known all
  IsKnown Known {p = p} (holds_claimed {s = s} {l = l} {ps = ps} {vs = vs} e legal all m r) = Known p (claimed s l ps) vs × AreKnown Known all
  IsKnown Known (holds_first e a b h d g) = IsKnown Known h
  IsKnown Known (holds_later e a b d g h) = ⊤
  IsKnown Known (holds_back e a d g h) = ⊥

  pub AreKnown : (Known : Knowledge) {names : Names} {bytes : List ℕ} {level : ℕ} {inside : List OpenShared} {ps : List Part} {vs : Values} {regions : List Region} {before after : List Visit}
      → HoldAll names bytes level inside ps vs regions before after → Type 0
  AreKnown Known (holds_none e f g) = ⊤
  AreKnown Known (holds_more h hs e r) = IsKnown Known h × AreKnown Known hs

-- a part with this content claims no bytes and is no counted pointer
abbrev pub IsDirect : Content → Type 0
IsDirect illegal = ⊤
IsDirect (plain l ps) = ⊤
IsDirect (claimed s l ps) = ⊥
IsDirect (counting cyclic t q len) = ⊥

-- parts hold, with these values
pub data PartsHold (names : Names) (bytes : List ℕ) (ps : List Part) (vs : Values) : Type 0 where
  parts_hold : {level : ℕ} {inside : List OpenShared} {regions : List Region} {before after : List Visit} → HoldAll names bytes level inside ps vs regions before after → PartsHold names bytes ps vs

module _ (Known : Knowledge) (names : Names) (bytes : List ℕ) where
  -- the parts of a stop that is no counted pointer hold, with values of which it is known
  pub data IsKnownStop (s : Stop) : Type 0 where
    known_step :
        {c : Content} {vs : Values} → content_of names bytes s.part ≡ c → value_of c vs ≡ Some s.value → PartsHold names bytes (parts_of c) vs → Known s.part c vs
        → IsKnownStop s
    counted_step : {cyclic : Bool} {t len : ℕ} {q : Pointee} → content_of names bytes s.part ≡ counting cyclic t q len → IsKnownStop s

  -- where the part claims no bytes and is no counted pointer
  pub record PlainStop (s : Stop) : Type 0 where
    pub l : Label
    pub ps : List Part
    pub vs : Values
    pub says : content_of names bytes s.part ≡ plain l ps
    pub is_made : made l vs ≡ Some s.value
    pub parts : PartsHold names bytes ps vs
    pub known : Known s.part (plain l ps) vs

  pub plain_stop : (s : Stop) → IsDirect (content_of names bytes s.part) → IsKnownStop s → PlainStop s
  plain_stop s d (known_step {c = illegal} e m parts k) = absurd (cc)
  plain_stop s d (known_step {c = plain l ps} {vs = vs} e m parts k) = record { l = l; ps = ps; vs = vs; says = e; is_made = m; parts = parts; known = k }
  plain_stop s d (known_step {c = claimed x l ps} e m parts k) = absurd (subst IsDirect e d)
  plain_stop s d (known_step {c = counting cyclic t q len} e m parts k) = absurd (subst IsDirect e d)
  plain_stop s d (counted_step e) = absurd (subst IsDirect e d)

  pub record HasKnownWalk (depth : ℕ) (p : Part) (v : Value) : Type 0 where
    pub walk : List Stop
    pub walked : Walks names bytes depth p v walk
    pub known : Each IsKnownStop walk

  pub record HaveKnownWalks (depth : ℕ) (ps : List Part) (vs : Values) : Type 0 where
    pub walks : List (List Stop)
    pub walked : WalkAll names bytes depth ps vs walks
    pub known : Each IsKnownStop (flat walks)

  -- each shared value that was visited has one
  abbrev pub VisitsKnown : List Visit → Type 0
  VisitsKnown before = (t : ℕ) (x : Visit) → visited before t ≡ Some x → (depth : ℕ) → HasKnownWalk depth (behind t x.pointee x.len) x.value

  pub record KnownWalked (p : Part) (v : Value) (after : List Visit) : Type 0 where
    pub here : (depth : ℕ) → HasKnownWalk depth p v
    pub later : VisitsKnown after

  pub record AllKnownWalked (ps : List Part) (vs : Values) (after : List Visit) : Type 0 where
    pub here : (depth : ℕ) → HaveKnownWalks depth ps vs
    pub later : VisitsKnown after

  one_step : (depth : ℕ) (p : Part) (v : Value) (vs : Values) (c : Content) → content_of names bytes p ≡ c
      → HaveKnownWalks (depth_in depth p) (parts_of c) vs
      → value_of c vs ≡ Some v
      → IsKnownStop (record { depth = depth; part = p; value = v })
      → HasKnownWalk depth p v
  one_step depth p v vs c e w m k =
      let all = subst (λ x. WalkAll names bytes (depth_in depth p) (parts_of x) vs w.walks) (sym e) w.walked in
      let is = subst (λ x. value_of x vs ≡ Some v) (sym e) m in
      record {
        walk = record { depth = depth; part = p; value = v } ∷ joined (content_of names bytes p) w.walks;
        walked = walks all is refl;
        known = (k, each_joined IsKnownStop (content_of names bytes p) w.walks w.known);
      }

  alone : (depth : ℕ) (p : Part) (v : Value) → HasKnownWalk depth p v → HaveKnownWalks depth (p ∷ []) (more_values v no_values)
  alone depth p v w = record { walks = w.walk ∷ []; walked = walk_more w.walked (walk_none refl refl) refl refl; known = each_append IsKnownStop w.walk [] w.known tt }

  one_visit : (t : ℕ) (q : Pointee) (len : ℕ) (w : Value) (between : List Visit) (u : ℕ) (x : Visit) (b : Bool)
      → ((depth : ℕ) → HasKnownWalk depth (behind t q len) w)
      → VisitsKnown between
      → (t == u) ≡ b
      → cond b (Some (record { pos = t; pointee = q; len = len; value = w })) (visited between u) ≡ Some x
      → (depth : ℕ) → HasKnownWalk depth (behind u x.pointee x.len) x.value
  one_visit t q len w between u x true here k c e depth =
      let same : ◌≡◌ {A = Visit} (record { pos = t; pointee = q; len = len; value = w }) x = cc in
      let et : t ≡ u = eqb-true t u c in
      subst (λ n. HasKnownWalk depth (behind n x.pointee x.len) x.value) et
      (subst (λ (y : Visit). HasKnownWalk depth (behind t y.pointee y.len) y.value) same (here depth))
  one_visit t q len w between u x false here k c e depth = k u x e depth

  mutual
    pub known_walked :
        {level : ℕ} {inside : List OpenShared} {p : Part} {v : Value} {regions : List Region} {before after : List Visit}
        → (h : Holds names bytes level inside p v regions before after)
        → IsKnown Known h
        → VisitsKnown before
        → KnownWalked p v after
    known_walked (holds_plain {p = p} {v = v} {l = l} {ps = ps} {vs = vs} e legal all m) a k =
        let r = all_known_walked all a.1 k in
        record {
          here = λ depth. one_step depth p v vs (plain l ps) e (r.here (depth_in depth p)) m (known_step e m (parts_hold all) a.0);
          later = r.later;
        }
    known_walked (holds_claimed {p = p} {v = v} {s = s} {l = l} {ps = ps} {vs = vs} e legal all m x) a k =
        let r = all_known_walked all a.1 k in
        record {
          here = λ depth. one_step depth p v vs (claimed s l ps) e (r.here (depth_in depth p)) m (known_step e m (parts_hold all) a.0);
          later = r.later;
        }
    known_walked (holds_first {p = p} {v = v} {w = w} {between = between} {cyclic = cyclic} {t = t} {q = q} {len = len} e x y h d g) a k =
        let r = known_walked h a k in
        record {
          here = λ depth.
              one_step depth p v (more_values w no_values) (counting cyclic t q len) e (alone (depth_in depth p) (behind t q len) w (r.here (depth_in depth p))) (ap Some (sym d)) (counted_step e);
          later = subst VisitsKnown (sym g) (λ u z f depth. one_visit t q len w between u z (t == u) r.here r.later refl f depth);
        }
    known_walked (holds_later {p = p} {v = v} {w = w} {cyclic = cyclic} {t = t} {q = q} {len = len} e x y d g h) a k =
        let there = k t (record { pos = t; pointee = q; len = len; value = w }) y in
        record {
          here = λ depth.
              one_step depth p v (more_values w no_values) (counting cyclic t q len) e (alone (depth_in depth p) (behind t q len) w (there (depth_in depth p))) (ap Some (sym d)) (counted_step e);
          later = subst VisitsKnown (sym h) k;
        }
    known_walked (holds_back e x d g h) a k = absurd a

    pub all_known_walked :
        {level : ℕ} {inside : List OpenShared} {ps : List Part} {vs : Values} {regions : List Region} {before after : List Visit}
        → (h : HoldAll names bytes level inside ps vs regions before after)
        → AreKnown Known h
        → VisitsKnown before
        → AllKnownWalked ps vs after
    all_known_walked (holds_none e f g) a k = record { here = λ depth. record { walks = []; walked = walk_none e refl; known = tt }; later = subst VisitsKnown (sym g) k }
    all_known_walked (holds_more h hs e r) a k =
        let first = known_walked h a.0 k in
        let others = all_known_walked hs a.1 first.later in
        record {
          here = λ depth. record {
            walks = (first.here depth).walk ∷ (others.here depth).walks;
            walked = walk_more (first.here depth).walked (others.here depth).walked e refl;
            known = each_append IsKnownStop (first.here depth).walk (flat (others.here depth).walks) (first.here depth).known (others.here depth).known;
          };
          later = others.later;
        }

  -- the walk of what holds where nothing was visited before
  pub known_walk : {level : ℕ} {inside : List OpenShared} {p : Part} {v : Value} {regions : List Region} {after : List Visit}
      → (h : Holds names bytes level inside p v regions [] after) → IsKnown Known h → (depth : ℕ) → HasKnownWalk depth p v
  known_walk h k depth = (known_walked h k (λ t x e. absurd (cc))).here depth

-- where nothing is asked of the steps
abbrev pub Nothing : Knowledge
Nothing p c vs = ⊤

mutual
  nothing_known : {names : Names} {bytes : List ℕ} {level : ℕ} {inside : List OpenShared} {p : Part} {v : Value} {regions : List Region} {before after : List Visit}
      → (h : Holds names bytes level inside p v regions before after) → IsAcyclic h → IsKnown Nothing h
  nothing_known (holds_plain e legal all m) a = (tt, nothing_known_in all a)
  nothing_known (holds_claimed e legal all m r) a = (tt, nothing_known_in all a)
  nothing_known (holds_first e x y h d g) a = nothing_known h a
  nothing_known (holds_later e x y d g h) a = tt
  nothing_known (holds_back e x d g h) a = a

  nothing_known_in : {names : Names} {bytes : List ℕ} {level : ℕ} {inside : List OpenShared} {ps : List Part} {vs : Values} {regions : List Region} {before after : List Visit}
      → (h : HoldAll names bytes level inside ps vs regions before after) → AreAcyclic h → AreKnown Nothing h
  nothing_known_in (holds_none e f g) a = tt
  nothing_known_in (holds_more h hs e r) a = (nothing_known h a.0, nothing_known_in hs a.1)

module _ (names : Names) (bytes : List ℕ) where
  abbrev pub VisitsWalk : List Visit → Type 0
  VisitsWalk before = VisitsKnown Nothing names bytes before

  pub walked : {level : ℕ} {inside : List OpenShared} {p : Part} {v : Value} {regions : List Region} {before after : List Visit}
      → (h : Holds names bytes level inside p v regions before after) → IsAcyclic h → VisitsWalk before → KnownWalked Nothing names bytes p v after
  walked h a k = known_walked Nothing names bytes h (nothing_known h a) k

  pub all_walked : {level : ℕ} {inside : List OpenShared} {ps : List Part} {vs : Values} {regions : List Region} {before after : List Visit}
      → (h : HoldAll names bytes level inside ps vs regions before after) → AreAcyclic h → VisitsWalk before → AllKnownWalked Nothing names bytes ps vs after
  all_walked h a k = all_known_walked Nothing names bytes h (nothing_known_in h a) k

-- the parts of each stop in the walk of a root hold
pub known_stops : (names : Names) (bytes : List ℕ) {depth pos : ℕ} {s : Shape} {v : Value} {regions : List Region} {visits : List Visit} {walk : List Stop} (root : HasRoot names bytes pos s v regions visits)
    → IsAcyclic root.holds → Walks names bytes depth (behind pos (sized s) 1) v walk → Each (IsKnownStop Nothing names bytes) walk
known_stops names bytes {depth = depth} root a walked =
    let w = known_walk Nothing names bytes root.holds (nothing_known root.holds a) depth in
    subst (Each (IsKnownStop Nothing names bytes)) (one_walk names bytes w.walked walked).walk w.known

pub walk_stands_law : WalkStands
walk_stands_law names bytes depth pos s v regions visits h a =
    let w = known_walk Nothing names bytes h.holds (nothing_known h.holds a) depth in record { walk = w.walk; walked = w.walked }
