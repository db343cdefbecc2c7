-- The laws of canonical archives, as statements.
use Rattle.std.specs.Prelude.{true, ◌≡◌, ℕ, zero, suc, ◌<◌, IsUtf8, List, [], ◌∷◌, ◌++◌, drop, Some, ⊤}
use Rattle.archive_shape_layout.specs.Bytes.{window}
use Rattle.archive_shape_layout.specs.Shape.{Shape, size_of}
use Rattle.archive_shape_layout.specs.Shape.Pointee.{sized, str}
use Rattle.archive_shape_layout.specs.Value.{Value, Values}
use Rattle.archive_shape_layout.specs.Content.{Names, Part, Item, Label, content_of, made, members, IsLegal}
use Rattle.archive_shape_layout.specs.Content.Part.{at, behind, node, child, entry, buckets, place_at}
use Rattle.archive_shape_layout.specs.Content.Content.{plain}
use Rattle.archive_shape_layout.specs.Value.Value.{string}
use Rattle.archive_shape_layout.specs.Value.Values.{no_values, more_values}
use Rattle.archive_shape_layout.specs.Edit.{Spares}
use Rattle.archive_shape_layout.specs.Path.{put_at, Stands, StandsIn}
use Rattle.archive_shape_layout.specs.Path.Stands.{stands_here, stands_plain, stands_claimed}
use Rattle.archive_shape_layout.specs.Path.StandsIn.{stands_first, stands_later}
use Rattle.archive_shape_canonical.specs.Clean.{IsClean}
use Rattle.archive_shape_layout.specs.Holds.{Region, Visit, OpenShared, Holds}
use Rattle.archive_shape_layout.specs.Laws.{OwnAgrees, RegionsAgree}
use Rattle.archive_shape_canonical.specs.Settled.{Fit, IsSettled}
use Rattle.archive_shape_canonical.specs.Sharing.{erased}
use Rattle.archive_shape_canonical.specs.FirstFit.{first_fit, by_key}
use Rattle.archive_shape_canonical.specs.Canonical.{CanonicalArchive, IsCanonical, end_of, AreBytes}

-- a value has one canonical archive from a position on, by a fit that binds
abbrev pub OneArchive : Type 0
OneArchive =
    (fit : Fit) (names : Names) (bytes others : List ℕ) (start pos from : ℕ) (s : Shape) (v w : Value) (rs qs : List Region) (a b : List Visit)
    → fit.binds ≡ true
    → CanonicalArchive fit names bytes start pos s v rs a
    → CanonicalArchive fit names others start from s w qs b
    → erased v ≡ erased w
    → drop start bytes ≡ drop start others

-- two tables by first fit that are of one finite map have their items in one order
abbrev pub TablesOfOneMap : Type 0
TablesOfOneMap =
    (hash : List ℕ → ℕ) (bytes others : List ℕ) (pos from : ℕ) (s r : Shape) (target goal len count cap room : ℕ) (it that : Item) (ps qs : List Part) (v w : Value)
    → IsSettled (first_fit hash) bytes (at pos s) (buckets target len cap it ∷ ps) (more_values v no_values)
    → IsSettled (first_fit hash) others (at from r) (buckets goal count room that ∷ qs) (more_values w no_values)
    → by_key (members (erased v)) ≡ by_key (members (erased w))
    → members (erased v) ≡ members (erased w)

-- ---- edits

-- bytes have a value of a part as writing it makes them, from one position to another
pub record CanonicalIn (fit : Fit) (names : Names) (bytes : List ℕ) (level : ℕ) (inside : List OpenShared) (p : Part) (v : Value) (regions : List Region) (before after : List Visit) (low end : ℕ) : Type 0 where
  pub holds : Holds names bytes level inside p v regions before after
  pub canonical : IsCanonical fit holds low
  pub ends : end_of holds low ≡ end

-- where other bytes agree on a part's own bytes and on what it claims, what is canonical there is so in them
abbrev pub CanonicalFrame : Type 0
CanonicalFrame =
    (fit : Fit) (names : Names) (bytes others : List ℕ) (level : ℕ) (inside : List OpenShared) (p : Part) (v : Value) (regions : List Region) (before after : List Visit) (low : ℕ)
    → OwnAgrees bytes others p
    → RegionsAgree bytes others regions
    → (h : Holds names bytes level inside p v regions before after)
    → IsCanonical fit h low
    → CanonicalIn fit names others level inside p v regions before after low (end_of h low)

-- a path in a group of items leads into an item, and not to its key
abbrev pub IsBehindKey : List ℕ → Type 0
IsBehindKey (i ∷ (suc j ∷ path)) = ⊤
IsBehindKey (i ∷ (zero ∷ path)) = ⊥
IsBehindKey (i ∷ []) = ⊥
IsBehindKey [] = ⊥

abbrev pub IsOnward : List ℕ → Type 0
IsOnward [] = ⊥
IsOnward (i ∷ path) = ⊤

-- of the path in the value of one of a part's parts: where these are items, it leads to no key
abbrev pub AvoidsItemKey : List Part → List ℕ → Type 0
AvoidsItemKey [] inner = ⊤
AvoidsItemKey (at pos s ∷ ps) inner = ⊤
AvoidsItemKey (behind pos p len ∷ ps) inner = ⊤
AvoidsItemKey (node level most k v pos ∷ ps) inner = IsBehindKey inner
AvoidsItemKey (child level most k v pos ∷ ps) inner = ⊤
AvoidsItemKey (entry k key_pos v value_pos ∷ ps) inner = ⊤
AvoidsItemKey (buckets target len cap it ∷ ps) inner = IsBehindKey inner
AvoidsItemKey (place_at pos limit ∷ ps) inner = ⊤

abbrev pub AvoidsKey : Part → List Part → List ℕ → Type 0
AvoidsKey (at pos s) ps inner = AvoidsItemKey ps inner
AvoidsKey (behind pos p len) ps inner = ⊤
AvoidsKey (node level most k v pos) ps inner = IsOnward inner
AvoidsKey (child level most k v pos) ps inner = AvoidsItemKey ps inner
AvoidsKey (entry k key_pos v value_pos) ps inner = ⊤
AvoidsKey (buckets target len cap it) ps inner = ⊤
AvoidsKey (place_at pos limit) ps inner = ⊤

abbrev mutual
  -- so at each step of the path
  pub AvoidsKeys : {names : Names} {bytes : List ℕ} {q : Part} {w : Value} {level : ℕ} {inside : List OpenShared} {before : List Visit} {p : Part} {v : Value} {path : List ℕ}
      → Stands names bytes q w level inside before p v path → Type 0
  AvoidsKeys (stands_here a b c) = ⊤
  AvoidsKeys {p = p} (stands_plain {inner = inner} {ps = ps} e within m t) = AvoidsKey p ps inner × AvoidKeys within
  AvoidsKeys {p = p} (stands_claimed {inner = inner} {ps = ps} e within m t) = AvoidsKey p ps inner × AvoidKeys within

  pub AvoidKeys : {names : Names} {bytes : List ℕ} {q : Part} {w : Value} {level : ℕ} {inside : List OpenShared} {before : List Visit} {ps : List Part} {vs : Values} {i : ℕ} {path : List ℕ}
      → StandsIn names bytes q w level inside before ps vs i path → Type 0
  AvoidKeys (stands_first s h hs e z) = AvoidsKeys s
  AvoidKeys (stands_later h s e z) = AvoidKeys s

-- where the own bytes of a leaf become clean ones of another value, a canonical archive becomes that of the value with
-- the leaf put there
abbrev pub CanonicalEditOfLeaf : Type 0
CanonicalEditOfLeaf =
    (fit : Fit) (names : Names) (bytes others : List ℕ) (start pos : ℕ) (s : Shape) (v : Value) (regions : List Region) (visits : List Visit)
    (path : List ℕ) (leaf_pos : ℕ) (leaf_shape : Shape) (old new : Value) (was is : Label)
    → CanonicalArchive fit names bytes start pos s v regions visits
    → (stands : Stands names bytes (at leaf_pos leaf_shape) old 0 [] [] (behind pos (sized s) 1) v path)
    → AvoidsKeys stands
    → Spares bytes others leaf_pos (size_of leaf_shape)
    → content_of names bytes (at leaf_pos leaf_shape) ≡ plain was []
    → content_of names others (at leaf_pos leaf_shape) ≡ plain is []
    → IsLegal is
    → made is no_values ≡ Some new
    → IsClean names others (at leaf_pos leaf_shape)
    → AreBytes others
    → CanonicalArchive fit names others start pos s (put_at path new v) regions visits

-- likewise the bytes of a text out of line, where the other text has the same length
abbrev pub CanonicalEditOfText : Type 0
CanonicalEditOfText =
    (fit : Fit) (names : Names) (bytes others : List ℕ) (start pos : ℕ) (s : Shape) (v : Value) (regions : List Region) (visits : List Visit)
    (path : List ℕ) (text_pos len : ℕ) (old : Value)
    → CanonicalArchive fit names bytes start pos s v regions visits
    → (stands : Stands names bytes (behind text_pos str len) old 0 [] [] (behind pos (sized s) 1) v path)
    → AvoidsKeys stands
    → Spares bytes others text_pos len
    → IsUtf8 (window others text_pos len)
    → AreBytes others
    → CanonicalArchive fit names others start pos s (put_at path (string (window others text_pos len)) v) regions visits

-- ---- paths that lead to no key, one followed by another

pub record AvoidingStands (names : Names) (bytes : List ℕ) (q : Part) (w : Value) (level : ℕ) (inside : List OpenShared) (before : List Visit) (p : Part) (v : Value) (path : List ℕ) : Type 0 where
  pub stands : Stands names bytes q w level inside before p v path
  pub spares : AvoidsKeys stands

abbrev pub AvoidingPathsJoin : Type 0
AvoidingPathsJoin =
    (names : Names) (bytes : List ℕ) (level : ℕ) (inside : List OpenShared) (before after : List Visit) (p q r : Part) (v w u : Value) (regions : List Region) (path inner : List ℕ)
    → Holds names bytes level inside p v regions before after
    → AvoidingStands names bytes q w level inside before p v path
    → ((deeper : ℕ) (around : List OpenShared) (since until : List Visit) (claims : List Region)
    → Holds names bytes deeper around q w claims since until
    → AvoidingStands names bytes r u deeper around since q w inner)
    → AvoidingStands names bytes r u level inside before p v (path ++ inner)
