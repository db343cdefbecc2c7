-- What a walk begins with, where the content of its part is known.
use Rattle.std.proofs.Common.{◌≡◌, ◌∙◌, ℕ, List, [], ◌∷◌, ◌++◌, Some, refl, ap, subst, append-nil}
use Rattle.std.specs.List.{flat_map}
use Rattle.std.proofs.lemmas.Grind.{flat_map-append}
use Rattle.archive_shape_layout.specs.Value.{Value, Values}
use Rattle.archive_shape_layout.specs.Value.Values.{no_values, more_values}
use Rattle.archive_shape_layout.specs.Content.{Names, Part, Content, content_of}
use Rattle.archive_shape_layout.specs.Content.Content.{illegal}
use Rattle.cabinet_documents.specs.Walk.{Stop, Walks, WalkAll, depth_in, parts_of, value_of, joined}
use Rattle.cabinet_documents.specs.Walk.Walks.{walks}
use Rattle.cabinet_documents.specs.Walk.WalkAll.{walk_none, walk_more}
use Rattle.cabinet_documents.specs.Audit.{Unsound, deep_faults, map_faults, faults}

-- ---- faults

-- of the first stop of a part's walk
abbrev pub own_faults : List ℕ → ℕ → Part → Value → List Unsound
own_faults bytes depth p v = deep_faults (record { depth = depth; part = p; value = v }) ++ map_faults bytes p v

pub faults-append : (bytes : List ℕ) (xs ys : List Stop) → faults bytes (xs ++ ys) ≡ faults bytes xs ++ faults bytes ys
faults-append bytes xs ys = flat_map-append (λ (s : Stop). deep_faults s ++ map_faults bytes s.part s.value) xs ys

-- of walks one after the other
pub faults-flat : (bytes : List ℕ) (runs : List (List Stop)) → faults bytes (flat_map (λ x. x) runs) ≡ flat_map (faults bytes) runs
faults-flat bytes [] = refl
faults-flat bytes (run ∷ runs) = faults-append bytes run (flat_map (λ x. x) runs) ∙ ap (λ x. faults bytes run ++ x) (faults-flat bytes runs)

-- ---- walks

module _ (names : Names) (bytes : List ℕ) where
  -- the walks of its parts and their values
  pub record Begun (depth : ℕ) (p : Part) (c : Content) (v : Value) (walk : List Stop) : Type 0 where
    pub vs : Values
    pub runs : List (List Stop)
    pub all : WalkAll names bytes (depth_in depth p) (parts_of c) vs runs
    pub is_made : value_of c vs ≡ Some v
    pub faults_are : faults bytes walk ≡ own_faults bytes depth p v ++ faults bytes (joined c runs)

  pub begun : {depth : ℕ} {p : Part} {v : Value} {walk : List Stop} (c : Content) → content_of names bytes p ≡ c → Walks names bytes depth p v walk → Begun depth p c v walk
  begun c e (walks {depth = depth} {p = p} {v = v} {vs = vs} {inner = runs} all m w) = record {
    vs = vs;
    runs = runs;
    all = subst (λ x. WalkAll names bytes (depth_in depth p) (parts_of x) vs runs) e all;
    is_made = subst (λ x. value_of x vs ≡ Some v) e m;
    faults_are = ap (faults bytes) w ∙ ap (λ x. own_faults bytes depth p v ++ faults bytes (joined x runs)) e;
  }

  -- what is not legal has no walk
  pub not_walked : {depth : ℕ} {p : Part} {v : Value} {walk : List Stop} → content_of names bytes p ≡ illegal → Walks names bytes depth p v walk → ⊥
  not_walked e h = let m = (begun illegal e h).is_made in cc

  -- ---- parts one after the other

  pub no_walks : {depth : ℕ} {vs : Values} {runs : List (List Stop)} → WalkAll names bytes depth [] vs runs → (vs ≡ no_values) × (runs ≡ [])
  no_walks (walk_none e f) = (e, f)

  pub record FirstWalk (depth : ℕ) (p : Part) (ps : List Part) (vs : Values) (runs : List (List Stop)) : Type 0 where
    pub value : Value
    pub others : Values
    pub run : List Stop
    pub later : List (List Stop)
    pub first : Walks names bytes depth p value run
    pub rest : WalkAll names bytes depth ps others later
    pub values_are : vs ≡ more_values value others
    pub runs_are : runs ≡ run ∷ later

  pub first_walk : {depth : ℕ} {p : Part} {ps : List Part} {vs : Values} {runs : List (List Stop)} → WalkAll names bytes depth (p ∷ ps) vs runs → FirstWalk depth p ps vs runs
  first_walk (walk_more {v = v} {vs = vs} {here = here} {later = later} w ws e f) =
      record { value = v; others = vs; run = here; later = later; first = w; rest = ws; values_are = e; runs_are = f }

  pub record OnlyWalk (depth : ℕ) (p : Part) (vs : Values) (runs : List (List Stop)) : Type 0 where
    pub value : Value
    pub run : List Stop
    pub only : Walks names bytes depth p value run
    pub values_are : vs ≡ more_values value no_values
    pub runs_are : runs ≡ run ∷ []

  pub only_walk : {depth : ℕ} {p : Part} {vs : Values} {runs : List (List Stop)} → WalkAll names bytes depth (p ∷ []) vs runs → OnlyWalk depth p vs runs
  only_walk all =
      let f = first_walk all in
      let n = no_walks f.rest in
      record { value = f.value; run = f.run; only = f.first; values_are = f.values_are ∙ ap (more_values f.value) n.0; runs_are = f.runs_are ∙ ap (λ x. f.run ∷ x) n.1 }

  -- ---- a part that leads to none

  pub record Ends (depth : ℕ) (p : Part) (c : Content) (v : Value) (walk : List Stop) : Type 0 where
    pub is_made : value_of c no_values ≡ Some v
    pub faults_are : faults bytes walk ≡ own_faults bytes depth p v

  pub ends : {depth : ℕ} {p : Part} {v : Value} {walk : List Stop} (c : Content)
      → parts_of c ≡ [] → joined c [] ≡ []
      → content_of names bytes p ≡ c → Walks names bytes depth p v walk → Ends depth p c v walk
  ends {depth = depth} {p = p} {v = v} c none j e h =
      let b = begun c e h in
      let n = no_walks (subst (λ x. WalkAll names bytes (depth_in depth p) x b.vs b.runs) none b.all) in
      record {
        is_made = subst (λ x. value_of c x ≡ Some v) n.0 b.is_made;
        faults_are = b.faults_are ∙ ap (λ x. own_faults bytes depth p v ++ faults bytes (joined c x)) n.1 ∙ ap (λ x. own_faults bytes depth p v ++ faults bytes x) j ∙ append-nil (own_faults bytes depth p v);
      }

  -- ---- a part that leads to one other

  pub record Onward (depth : ℕ) (p q : Part) (c : Content) (v : Value) (walk : List Stop) : Type 0 where
    pub value : Value
    pub run : List Stop
    pub next : Walks names bytes (depth_in depth p) q value run
    pub is_made : value_of c (more_values value no_values) ≡ Some v
    pub faults_are : faults bytes walk ≡ own_faults bytes depth p v ++ faults bytes run

  pub onward : {depth : ℕ} {p q : Part} {v : Value} {walk : List Stop} (c : Content)
      → parts_of c ≡ q ∷ [] → ((run : List Stop) → joined c (run ∷ []) ≡ run ++ [])
      → content_of names bytes p ≡ c → Walks names bytes depth p v walk → Onward depth p q c v walk
  onward {depth = depth} {p = p} {v = v} c one j e h =
      let b = begun c e h in
      let o = only_walk (subst (λ x. WalkAll names bytes (depth_in depth p) x b.vs b.runs) one b.all) in
      record {
        value = o.value;
        run = o.run;
        next = o.only;
        is_made = subst (λ x. value_of c x ≡ Some v) o.values_are b.is_made;
        faults_are =
            b.faults_are
            ∙ ap (λ x. own_faults bytes depth p v ++ faults bytes (joined c x)) o.runs_are
            ∙ ap (λ x. own_faults bytes depth p v ++ faults bytes x) (j o.run ∙ append-nil o.run);
      }
