-- The tables in what holds are sound just where those in its walk are.
use Rattle.std.proofs.Common.{◌≡◌, ℕ, ◌==◌, cond, Bool, true, false, List, [], ◌∷◌, length, Some, refl, sym, ap, subst, ◌∙◌, append-nil, eqb-true}
use Rattle.archive_shape_layout.specs.Shape.{Pointee}
use Rattle.archive_shape_layout.specs.Value.{Value, Values}
use Rattle.archive_shape_layout.specs.Value.Values.{no_values, more_values}
use Rattle.archive_shape_layout.specs.Value.Value.{counted}
use Rattle.archive_shape_layout.specs.Content.{Part, Content, content_of}
use Rattle.archive_shape_layout.specs.Content.Part.{behind}
use Rattle.archive_shape_layout.specs.Content.Content.{counting}
use Rattle.archive_shape_layout.specs.Holds.{Region, Visit, OpenShared, visited, Holds, HoldAll, HasRoot, root_position}
use Rattle.archive_shape_layout.specs.Holds.Holds.{holds_plain, holds_claimed, holds_first, holds_later, holds_back}
use Rattle.archive_shape_layout.specs.Holds.HoldAll.{holds_none, holds_more}
use Rattle.cabinet_documents.specs.Node.{node_names, node_shape}
use Rattle.cabinet_documents.specs.Walk.{Stop, Walks, WalkAll, depth_in, parts_of, value_of}
use Rattle.cabinet_documents.specs.Walk.Walks.{walks}
use Rattle.cabinet_documents.specs.Walk.WalkAll.{walk_none, walk_more}
use Rattle.cabinet_documents.specs.Audit.{root_part}
use Rattle.cabinet_documents.specs.Laws.{IsAcyclic, AreAcyclic}
use Rattle.cabinet_documents.proofs.Begun.{only_walk}
use Rattle.cabinet_documents.proofs.Stops.{Each, each_append, each_front, each_joined, each_flat, flat}
use Rattle.cabinet_documents.proofs.Places.{node_behind}
use Rattle.cabinet_documents.proofs.HeldNodes.{none_seen, held}
use Rattle.cabinet_documents.proofs.Walkable.{Nothing, HaveKnownWalks, VisitsWalk, walked, all_walked}
use Rattle.cabinet_documents.proofs.Walked.{all_walks}
use Rattle.cabinet_documents.proofs.TableSound.{IsTableSound, TableSounds}
use Rattle.cabinet_documents.proofs.HeldTables.{TablesSound, AreTablesSound, claimed_sound, counted_sound}

module _ (bytes : List ℕ) where
  -- in each walk of a part, and of several, the tables are sound
  abbrev WalksSound : Part → Value → Type 0
  WalksSound p v = (depth : ℕ) (walk : List Stop) → Walks node_names bytes depth p v walk → Each (TableSounds bytes) walk

  abbrev AllWalksSound : List Part → Values → Type 0
  AllWalksSound ps vs = (depth : ℕ) (runs : List (List Stop)) → WalkAll node_names bytes depth ps vs runs → Each (TableSounds bytes) (flat runs)

  -- and so of what was visited
  abbrev VisitsSound : List Visit → Type 0
  VisitsSound before = (t : ℕ) (x : Visit) → visited before t ≡ Some x → WalksSound (behind t x.pointee x.len) x.value

  one_visit : (t : ℕ) (q : Pointee) (len : ℕ) (w : Value) (between : List Visit) (u : ℕ) (x : Visit) (b : Bool)
      → WalksSound (behind t q len) w
      → VisitsSound between
      → (t == u) ≡ b
      → cond b (Some (record { pos = t; pointee = q; len = len; value = w })) (visited between u) ≡ Some x
      → WalksSound (behind u x.pointee x.len) x.value
  one_visit t q len w between u x true here k c e =
      let same : ◌≡◌ {A = Visit} (record { pos = t; pointee = q; len = len; value = w }) x = cc in
      let et : t ≡ u = eqb-true t u c in
      subst (λ n. WalksSound (behind n x.pointee x.len) x.value) et
      (subst (λ (y : Visit). WalksSound (behind t y.pointee y.len) y.value) same here)
  one_visit t q len w between u x false here k c e = k u x e

  -- ---- a counted pointer

  record Behind (depth t : ℕ) (q : Pointee) (len : ℕ) (w : Value) (inner : List (List Stop)) : Type 0 where
    run : List Stop
    walked : Walks node_names bytes depth (behind t q len) w run
    runs_are : inner ≡ run ∷ []

  behind_counted : (cyclic : Bool) {depth : ℕ} {t len : ℕ} {q : Pointee} {v w : Value} {vs : Values} {inner : List (List Stop)}
      → WalkAll node_names bytes depth (behind t q len ∷ []) vs inner → value_of (counting cyclic t q len) vs ≡ Some v → v ≡ counted t w → Behind depth t q len w inner
  behind_counted cyclic {depth = depth} {t = t} {len = len} {q = q} {v = v} {w = w} below m d =
      let one = only_walk node_names bytes below in
      let n : value_of (counting cyclic t q len) (more_values one.value no_values) ≡ Some v = subst (λ x. value_of (counting cyclic t q len) x ≡ Some v) one.values_are m in
      let same : one.value ≡ w = cc in
      record { run = one.run; walked = subst (λ x. Walks node_names bytes depth (behind t q len) x one.run) same one.only; runs_are = one.runs_are }

  counted_walks : {p : Part} {cyclic : Bool} {t len : ℕ} {q : Pointee} {v w : Value} → content_of node_names bytes p ≡ counting cyclic t q len → v ≡ counted t w → WalksSound (behind t q len) w → WalksSound p v
  counted_walks {p = p} {cyclic = cyclic} {t = t} {len = len} {q = q} {v = v} e d here depth walk (walks {vs = vs} {inner = inner} all m x) =
      let below = subst (λ y. WalkAll node_names bytes (depth_in depth p) (parts_of y) vs inner) e all in
      let b = behind_counted cyclic below (subst (λ y. value_of y vs ≡ Some v) e m) d in
      let inside = subst (λ y. Each (TableSounds bytes) (flat y)) (sym b.runs_are) (subst (Each (TableSounds bytes)) (sym (append-nil b.run)) (here (depth_in depth p) b.run b.walked)) in
      subst (Each (TableSounds bytes)) (sym x) (counted_sound node_names bytes p v e, each_joined (TableSounds bytes) (content_of node_names bytes p) inner inside)

  -- ---- parts that are no counted pointers

  -- the walks of a part's parts are those of the values that hold
  same_runs : (depth : ℕ) (p : Part) {vs ws : Values} {inner : List (List Stop)} {c : Content} (ps : List Part) → content_of node_names bytes p ≡ c → parts_of c ≡ ps
      → ((depth : ℕ) → HaveKnownWalks Nothing node_names bytes depth ps vs)
      → WalkAll node_names bytes (depth_in depth p) (parts_of (content_of node_names bytes p)) ws inner → WalkAll node_names bytes (depth_in depth p) ps vs inner
  same_runs depth p {ws = ws} {inner = inner} ps e f there all =
      let below = subst (λ x. WalkAll node_names bytes (depth_in depth p) x ws inner) (ap parts_of e ∙ f) all in
      let same = (all_walks node_names bytes below (there (depth_in depth p)).walked).values in
      subst (λ x. WalkAll node_names bytes (depth_in depth p) ps x inner) same below

  parts_sound : (p : Part) (v : Value) {vs : Values} {c : Content} (ps : List Part) → content_of node_names bytes p ≡ c → parts_of c ≡ ps
      → ((depth : ℕ) → HaveKnownWalks Nothing node_names bytes depth ps vs) → IsTableSound bytes p v → AllWalksSound ps vs → WalksSound p v
  parts_sound p v ps e f there here below depth walk (walks {inner = inner} all m w) =
      let runs = same_runs depth p ps e f there all in
      subst (Each (TableSounds bytes)) (sym w) (here, each_joined (TableSounds bytes) (content_of node_names bytes p) inner (below (depth_in depth p) inner runs))

  no_runs : {vs : Values} → AllWalksSound [] vs
  no_runs depth runs (walk_none e f) = subst (λ x. Each (TableSounds bytes) (flat x)) (sym f) tt

  more_runs : {p : Part} {ps : List Part} {v : Value} {vs ws : Values} → ws ≡ more_values v vs → WalksSound p v → AllWalksSound ps vs → AllWalksSound (p ∷ ps) ws
  more_runs {p = p} {ps = ps} {v = v} {vs = vs} e here rest depth runs (walk_more {v = u} {vs = us} {here = run} {later = later} w ws e' f') =
      let both : more_values u us ≡ more_values v vs = sym e' ∙ e in
      let first_value : u ≡ v = cc in
      let others : us ≡ vs = cc in
      subst (λ x. Each (TableSounds bytes) (flat x)) (sym f')
      (each_append (TableSounds bytes) run (flat later) (here depth run (subst (λ x. Walks node_names bytes depth p x run) first_value w)) (rest depth later (subst (λ x. WalkAll node_names bytes depth ps x later) others ws)))

  -- ---- from what holds to its walk

  mutual
    walks_sound : {level : ℕ} {inside : List OpenShared} {p : Part} {v : Value} {regions : List Region} {before after : List Visit}
        (h : Holds node_names bytes level inside p v regions before after) → IsAcyclic h → VisitsWalk node_names bytes before → VisitsSound before → TablesSound h
        → WalksSound p v × VisitsSound after
    walks_sound (holds_plain {p = p} {v = v} {ps = ps} {vs = vs} e legal all m) a k s n =
        let d = all_walks_sound all a k s n.1 in
        (parts_sound p v ps e refl (all_walked node_names bytes all a k).here n.0 d.0, d.1)
    walks_sound (holds_claimed {p = p} {v = v} {ps = ps} {vs = vs} e legal all m r) a k s n =
        let d = all_walks_sound all a k s n in
        (parts_sound p v ps e refl (all_walked node_names bytes all a k).here (claimed_sound node_names bytes p v e) d.0, d.1)
    walks_sound (holds_first {w = w} {between = between} {t = t} {q = q} {len = len} e x y h d g) a k s n =
        let r = walks_sound h a k s n in
        (counted_walks e d r.0, subst VisitsSound (sym g) (λ u z f. one_visit t q len w between u z (t == u) r.0 r.1 refl f))
    walks_sound (holds_later {w = w} {t = t} {q = q} {len = len} e x y d g h) a k s n =
        (counted_walks e d (s t (record { pos = t; pointee = q; len = len; value = w }) y), subst VisitsSound (sym h) s)
    walks_sound (holds_back e x d g h) a k s n = absurd a

    all_walks_sound : {level : ℕ} {inside : List OpenShared} {ps : List Part} {vs : Values} {regions : List Region} {before after : List Visit}
        (hs : HoldAll node_names bytes level inside ps vs regions before after) → AreAcyclic hs → VisitsWalk node_names bytes before → VisitsSound before → AreTablesSound hs
        → AllWalksSound ps vs × VisitsSound after
    all_walks_sound (holds_none e f g) a k s n = (no_runs, subst VisitsSound (sym g) s)
    all_walks_sound (holds_more {p = p} {ps = ps} {v = v} {vs = vs} h hs e r) a k s n =
        let first = walks_sound h a.0 k s n.0 in
        let rest = all_walks_sound hs a.1 (walked node_names bytes h a.0 k).later first.1 n.1 in
        (more_runs e first.0 rest.0, rest.1)

  -- ---- from a walk to what holds

  mutual
    tables_sound : {level depth : ℕ} {inside : List OpenShared} {p : Part} {v : Value} {regions : List Region} {before after : List Visit} {walk : List Stop}
        (h : Holds node_names bytes level inside p v regions before after) → IsAcyclic h → VisitsWalk node_names bytes before
        → Walks node_names bytes depth p v walk → Each (TableSounds bytes) walk → TablesSound h
    tables_sound {depth = depth} (holds_plain {p = p} {v = v} {ps = ps} {vs = vs} e legal all m) a k (walks {vs = ws} {inner = inner} all' m' w) each =
        let both = subst (Each (TableSounds bytes)) w each in
        (both.0, all_tables_sound all a k (same_runs depth p ps e refl (all_walked node_names bytes all a k).here all') (each_flat (TableSounds bytes) (content_of node_names bytes p) inner both.1))
    tables_sound {depth = depth} (holds_claimed {p = p} {v = v} {ps = ps} {vs = vs} e legal all m r) a k (walks {vs = ws} {inner = inner} all' m' w) each =
        let both = subst (Each (TableSounds bytes)) w each in
        all_tables_sound all a k (same_runs depth p ps e refl (all_walked node_names bytes all a k).here all') (each_flat (TableSounds bytes) (content_of node_names bytes p) inner both.1)
    tables_sound {depth = depth} (holds_first {p = p} {v = v} {cyclic = cyclic} e x y h d g) a k (walks {vs = ws} {inner = inner} all' m' w) each =
        let below = subst (λ z. WalkAll node_names bytes (depth_in depth p) (parts_of z) ws inner) e all' in
        let b = behind_counted cyclic below (subst (λ z. value_of z ws ≡ Some v) e m') d in
        let both = subst (Each (TableSounds bytes)) w each in
        let inside = subst (λ z. Each (TableSounds bytes) (flat z)) b.runs_are (each_flat (TableSounds bytes) (content_of node_names bytes p) inner both.1) in
        tables_sound h a k b.walked (subst (Each (TableSounds bytes)) (append-nil b.run) inside)
    tables_sound (holds_later e x y d g h) a k w each = tt
    tables_sound (holds_back e x d g h) a k w each = absurd a

    all_tables_sound : {level depth : ℕ} {inside : List OpenShared} {ps : List Part} {vs : Values} {regions : List Region} {before after : List Visit} {runs : List (List Stop)}
        (hs : HoldAll node_names bytes level inside ps vs regions before after) → AreAcyclic hs → VisitsWalk node_names bytes before
        → WalkAll node_names bytes depth ps vs runs → Each (TableSounds bytes) (flat runs) → AreTablesSound hs
    all_tables_sound (holds_none e f g) a k w each = tt
    all_tables_sound {depth = depth} (holds_more {p = p} {ps = ps} {v = v} {vs = vs} h hs e r) a k (walk_more {v = u} {vs = us} {here = here} {later = later} w ws e' f') each =
        let both : more_values u us ≡ more_values v vs = sym e' ∙ e in
        let first_value : u ≡ v = cc in
        let others : us ≡ vs = cc in
        let y = each_front (TableSounds bytes) here (flat later) (subst (λ z. Each (TableSounds bytes) (flat z)) f' each) in (
          tables_sound h a.0 k (subst (λ x. Walks node_names bytes depth p x here) first_value w) y.0,
          all_tables_sound hs a.1 (walked node_names bytes h a.0 k).later (subst (λ x. WalkAll node_names bytes depth ps x later) others ws) y.1,
        )

  pub record Matches {level : ℕ} {inside : List OpenShared} {p : Part} {v : Value} {regions : List Region} {before after : List Visit}
      (h : Holds node_names bytes level inside p v regions before after) (walk : List Stop) : Type 0 where
    pub to : TablesSound h → Each (TableSounds bytes) walk
    pub from : Each (TableSounds bytes) walk → TablesSound h

  -- of the root
  pub root_matches : {v : Value} {regions : List Region} {visits : List Visit} {walk : List Stop} (root : HasRoot node_names bytes (root_position (length bytes) node_shape) node_shape v regions visits)
      → Walks node_names bytes 0 (root_part bytes) v walk → Matches root.holds walk
  root_matches {walk = walk} root w =
      let pos = root_position (length bytes) node_shape in
      let a = (held bytes root.holds node_behind pos refl (none_seen bytes)).acyclic in
      let none : VisitsWalk node_names bytes [] = λ t x e. absurd (cc) in
      record {
        to = λ n. (walks_sound root.holds a none (λ t x e. absurd (cc)) n).0 0 walk w;
        from = λ each. tables_sound root.holds a none w each;
      }
