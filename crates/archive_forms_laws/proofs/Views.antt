-- Values that are seen as others, resolvers that are kept as others, names of types that are known, and lists of
-- values.
use Rattle.std.proofs.Common.{◌≡◌, List, [], ◌∷◌, subst}
use Rattle.archive_shape_layout.specs.Shape.{Shape}
use Rattle.archive_shape_layout.specs.Content.{Names}
use Rattle.archive_shape_canonical.specs.Settled.{Fit}
use Rattle.archive_shape.specs.Bytes.{HasBytes}
use Rattle.archive_forms_laws.specs.Spelling.{Spelling}
use Rattle.archive_forms_laws.specs.Spells.{EachSpells, Spells, SpellsAt}
use Rattle.archive_forms_laws.specs.Forms.{seen_as, kept_as}

pub each_spells : {A R : Type 0} (fit : Fit) (s : Shape) (knows : Names → Type 0) (w : Spelling A R) → Spells fit s knows w → (xs : List A) → EachSpells fit s knows w xs
each_spells fit s knows w h [] = tt
each_spells fit s knows w h (x ∷ xs) = (h x, each_spells fit s knows w h xs)

-- the law of a value that is seen as another is that of the other
pub seen_spells_at : {A B R : Type 0} (fit : Fit) (s : Shape) (knows : Names → Type 0) (view : B → A) (w : Spelling A R) (x : B)
    → SpellsAt fit s knows w (view x) → SpellsAt fit s knows (seen_as view w) x
seen_spells_at fit s knows view w x one = record {
  sized = one.sized;
  canonical = one.canonical;
  consistent = one.consistent;
  keyed = one.keyed;
  piece_bytes = one.piece_bytes;
  own_bytes = one.own_bytes;
  piece_exact = one.piece_exact;
  own_exact = one.own_exact;
  unshared = one.unshared;
}

pub seen_spells : {A B R : Type 0} (fit : Fit) (s : Shape) (knows : Names → Type 0) (view : B → A) (w : Spelling A R) → Spells fit s knows w → Spells fit s knows (seen_as view w)
seen_spells fit s knows view w h x = seen_spells_at fit s knows view w x (h (view x))

-- the law of a value is the same regardless of what its resolver is kept as
pub kept_spells_at : {A R Q : Type 0} (fit : Fit) (s : Shape) (knows : Names → Type 0) (make : R → Q) (get : Q → R) (back : (r : R) → get (make r) ≡ r) (w : Spelling A R) (x : A)
    → SpellsAt fit s knows w x → SpellsAt fit s knows (kept_as make get w) x
kept_spells_at {R = R} fit s knows make get back w x one = record {
  sized = λ r pos f. one.sized (get r) pos f;
  canonical = λ st pos names keys bytes level inside k n known state over f o p q.
      let P : R → Type 0 = λ r. w.own_fits x r pos in
      let Q : R → Type 0 = λ r. HasBytes bytes pos (w.own x r pos) in
      one.canonical st pos names keys bytes level inside k n known state over f (subst P (back (w.resolver x st)) o) p (subst Q (back (w.resolver x st)) q);
  consistent = one.consistent;
  keyed = one.keyed;
  piece_bytes = one.piece_bytes;
  own_bytes = λ r pos f. one.own_bytes (get r) pos f;
  piece_exact = one.piece_exact;
  own_exact = λ r pos e f k. one.own_exact (get r) pos e f k;
  unshared = one.unshared;
}

pub kept_spells : {A R Q : Type 0} (fit : Fit) (s : Shape) (knows : Names → Type 0) (make : R → Q) (get : Q → R) (back : (r : R) → get (make r) ≡ r) (w : Spelling A R)
    → Spells fit s knows w → Spells fit s knows (kept_as make get w)
kept_spells fit s knows make get back w h x = kept_spells_at fit s knows make get back w x (h x)

-- the law of a value under some names of types is that under fewer of them, as where a form has the names of all its
-- parts
pub known_spells_at : {A R : Type 0} (fit : Fit) (s : Shape) (knows fewer : Names → Type 0) (among : (names : Names) → fewer names → knows names) (w : Spelling A R) (x : A)
    → SpellsAt fit s knows w x → SpellsAt fit s fewer w x
known_spells_at fit s knows fewer among w x one = record {
  sized = one.sized;
  canonical = λ st pos names keys bytes level inside k n known state over f o p q. one.canonical st pos names keys bytes level inside (among names k) n known state over f o p q;
  consistent = one.consistent;
  keyed = one.keyed;
  piece_bytes = one.piece_bytes;
  own_bytes = one.own_bytes;
  piece_exact = one.piece_exact;
  own_exact = one.own_exact;
  unshared = one.unshared;
}

pub known_spells : {A R : Type 0} (fit : Fit) (s : Shape) (knows fewer : Names → Type 0) (among : (names : Names) → fewer names → knows names) (w : Spelling A R)
    → Spells fit s knows w → Spells fit s fewer w
known_spells fit s knows fewer among w h x = known_spells_at fit s knows fewer among w x (h x)
