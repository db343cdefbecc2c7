-- Parts whose lines are written one after the other.
use Rattle.std.proofs.Common.{◌≡◌, ◌∙◌, ℕ, suc, ◌+◌, ◌-◌, ◌*◌, ◌<◌, ◌≤◌, List, [], ◌∷◌, ◌++◌, Ok, Err, refl, sym, ap, subst, arith, append_assoc, append-nil}
use Rattle.archive_shape_layout.specs.Shape.{Shape, size_of}
use Rattle.archive_shape_layout.specs.Content.{Part, elements, entries, children}
use Rattle.archive_shape_layout.specs.Content.Part.{at, entry, child}
use Rattle.archive_shape_layout.specs.Writing.{WriterMembers}
use Rattle.archive_shape_layout.specs.declared.error.Error.{Error}
use Rattle.cabinet_documents.specs.Node.{node_names}
use Rattle.cabinet_archives.specs.Mapping.{Name, Listed, name_in, Maps, MapsAll}
use Rattle.cabinet_archives.specs.Mapped.{WritesListed}
use Rattle.cabinet_archives.specs.declared.mapping.tally.Tally.{Tally}
use Rattle.cabinet_archives.proofs.Listings.{no_maps, first_maps}
use Rattle.cabinet_archives.proofs.Tallied.{none_written, failed_listed, both_listed, end_tallied}

module _ {W : Type 0} (w : WriterMembers W) (bytes : List ℕ) where
  -- of what the parts of a part list, some is written, and the parts from part i on are left
  pub record PartsLeft (n : Name) (p : Part) (i : ℕ) (ps : List Part) (old now : Tally) (from via : W) (listed : List Listed) : Type 0 where
    pub done : List Listed
    pub rest : List Listed
    pub split : listed ≡ done ++ rest
    pub left : MapsAll node_names bytes n p i ps now.end rest
    pub written : WritesListed {A = Unit {0}} w done old now from via (Ok tt)

  pub all_left : {n : Name} {p : Part} {i : ℕ} {ps : List Part} (old : Tally) (from : W) {listed : List Listed} → MapsAll node_names bytes n p i ps old.end listed → PartsLeft n p i ps old old from from listed
  all_left old from {listed = listed} m = record { done = []; rest = listed; split = refl; left = m; written = none_written w {A = Unit {0}} tt old from refl }

  pub none_left : {n : Name} {p : Part} {i : ℕ} {old now : Tally} {from via : W} {listed : List Listed} → PartsLeft n p i [] old now from via listed → WritesListed {A = Unit {0}} w listed old now from via (Ok tt)
  none_left {old = old} {now = now} {from = from} {via = via} h =
      subst (λ ls. WritesListed {A = Unit {0}} w ls old now from via (Ok tt)) (sym (h.split ∙ ap (λ x. h.done ++ x) (no_maps node_names bytes h.left) ∙ append-nil h.done)) h.written

  -- the first of them: the others are left after it, or it fails
  pub record NextPart (n : Name) (p : Part) (i : ℕ) (q : Part) (ps : List Part) (old now : Tally) (from via : W) (listed : List Listed) : Type 0 where
    pub here : List Listed
    pub first : Maps node_names bytes (name_in bytes p i n) q now.end here
    pub on : (new : Tally) (to : W) → WritesListed {A = Unit {0}} w here now new via to (Ok tt) → PartsLeft n p (suc i) ps old new from to listed
    pub fails : (new : Tally) (to : W) (e : Error) → WritesListed {A = Unit {0}} w here now new via to (Err e) → WritesListed {A = Unit {0}} w listed old new from to (Err e)

  pub next_part : {n : Name} {p : Part} {i : ℕ} {q : Part} {ps : List Part} {old now : Tally} {from via : W} {listed : List Listed} → PartsLeft n p i (q ∷ ps) old now from via listed → NextPart n p i q ps old now from via listed
  next_part {n = n} {p = p} {i = i} {ps = ps} {old = old} {now = now} {from = from} {via = via} {listed = listed} h =
      let f = first_maps node_names bytes h.left in
      let split : listed ≡ (h.done ++ f.here) ++ f.later = h.split ∙ ap (λ x. h.done ++ x) f.is ∙ sym (append_assoc h.done f.here f.later) in
      record {
        here = f.here;
        first = f.first;
        on = λ new to k. record {
          done = h.done ++ f.here;
          rest = f.later;
          split = split;
          left = subst (λ m. MapsAll node_names bytes n p (suc i) ps m f.later) (sym (ap (λ (t : Tally). t.end) k.1 ∙ end_tallied now f.here)) f.rest;
          written = both_listed w old now new to (Ok tt) h.done f.here refl h.written k;
        };
        fails = λ new to e k. failed_listed w old new new (h.done ++ f.here) f.later split (both_listed w old now new to (Err e) h.done f.here refl h.written k);
      }

-- ---- the parts from one on

pub elements_next : (s : Shape) (pos len i : ℕ) → i < len → elements (pos + i * size_of s) (len - i) s ≡ at (pos + i * size_of s) s ∷ elements (pos + suc i * size_of s) (len - suc i) s
unfolding elements
elements_next s pos len i less =
    let more : len - i ≡ suc (len - suc i) = omega (arith, less) in
    let next : pos + i * size_of s + size_of s ≡ pos + suc i * size_of s = omega arith in
    ap (λ n. elements (pos + i * size_of s) n s) more ∙ ap (λ x. at (pos + i * size_of s) s ∷ elements x (len - suc i) s) next

pub elements_none : (s : Shape) (pos len i at_pos : ℕ) → len ≤ i → elements at_pos (len - i) s ≡ []
unfolding elements
elements_none s pos len i at_pos all = let none : len - i ≡ 0 = omega (arith, all) in ap (λ n. elements at_pos n s) none

pub entries_next : (k v : Shape) (key value len i : ℕ) → i < len
    → entries (len - i) k (key + i * size_of k) v (value + i * size_of v) ≡ entry k (key + i * size_of k) v (value + i * size_of v) ∷ entries (len - suc i) k (key + suc i * size_of k) v (value + suc i * size_of v)
unfolding entries
entries_next k v key value len i less =
    let more : len - i ≡ suc (len - suc i) = omega (arith, less) in
    let next : key + i * size_of k + size_of k ≡ key + suc i * size_of k = omega arith in
    let after : value + i * size_of v + size_of v ≡ value + suc i * size_of v = omega arith in
    ap (λ n. entries n k (key + i * size_of k) v (value + i * size_of v)) more
    ∙ ap (λ x. entry k (key + i * size_of k) v (value + i * size_of v) ∷ entries (len - suc i) k x v (value + i * size_of v + size_of v)) next
    ∙ ap (λ x. entry k (key + i * size_of k) v (value + i * size_of v) ∷ entries (len - suc i) k (key + suc i * size_of k) v x) after

pub entries_none : (k v : Shape) (key value len i : ℕ) → len ≤ i → entries (len - i) k key v value ≡ []
unfolding entries
entries_none k v key value len i all = let none : len - i ≡ 0 = omega (arith, all) in ap (λ n. entries n k key v value) none

pub children_next : (level most : ℕ) (k v : Shape) (link len i : ℕ) → i < len
    → children (len - i) level most k v (link + 4 * i) ≡ child level most k v (link + 4 * i) ∷ children (len - suc i) level most k v (link + 4 * suc i)
unfolding children
children_next level most k v link len i less =
    let more : len - i ≡ suc (len - suc i) = omega (arith, less) in
    let next : link + 4 * i + 4 ≡ link + 4 * suc i = omega arith in
    ap (λ n. children n level most k v (link + 4 * i)) more ∙ ap (λ x. child level most k v (link + 4 * i) ∷ children (len - suc i) level most k v x) next

pub children_none : (level most : ℕ) (k v : Shape) (link len i : ℕ) → len ≤ i → children (len - i) level most k v link ≡ []
unfolding children
children_none level most k v link len i all = let none : len - i ≡ 0 = omega (arith, all) in ap (λ n. children n level most k v link) none
