-- What is written and counted of what is listed one after the other.
use Rattle.std.proofs.Common.{◌≡◌, ◌∙◌, List, [], ◌∷◌, ◌++◌, Result, Ok, Err, refl, sym, ap, subst, append_assoc}
use Rattle.archive_shape_layout.specs.Writing.{WriterMembers}
use Rattle.archive_shape_layout.specs.declared.error.Error.{Error}
use Rattle.archive_shape_layout.proofs.Joined.{written_none, written_both, failed_first, failed_after}
use Rattle.cabinet_text_nodes.proofs.Pieces.{written_as, failed_as}
use Rattle.cabinet_archives.specs.Mapping.{Listed, node, region, end_after}
use Rattle.cabinet_archives.specs.MapLines.{with_node, past_region, written_region, tallied, written}
use Rattle.cabinet_archives.specs.Mapped.{WritesListed}
use Rattle.cabinet_archives.specs.declared.mapping.tally.Tally.{Tally}

pub tallied-append : (t : Tally) (xs ys : List Listed) → tallied t (xs ++ ys) ≡ tallied (tallied t xs) ys
unfolding tallied
tallied-append t [] ys = refl
tallied-append t (node tag ∷ xs) ys = tallied-append (with_node t tag) xs ys
tallied-append t (region start size n ∷ xs) ys = tallied-append (past_region t start size n) xs ys

pub written-append : (t : Tally) (xs ys : List Listed) → written t (xs ++ ys) ≡ written t xs ++ written (tallied t xs) ys
unfolding tallied written
written-append t [] ys = refl
written-append t (node tag ∷ xs) ys = written-append (with_node t tag) xs ys
written-append t (region start size n ∷ xs) ys =
    ap (λ x. written_region t start size n ++ x) (written-append (past_region t start size n) xs ys)
    ∙ sym (append_assoc (written_region t start size n) (written (past_region t start size n) xs) (written (tallied (past_region t start size n) xs) ys))

-- the last region ends where the tally says
pub end_tallied : (t : Tally) (ls : List Listed) → (tallied t ls).end ≡ end_after t.end ls
unfolding tallied end_after
end_tallied t [] = refl
end_tallied t (node tag ∷ ls) = end_tallied (with_node t tag) ls
end_tallied t (region start size n ∷ ls) = end_tallied (past_region t start size n) ls

module _ {W : Type 0} (w : WriterMembers W) where
  -- nothing is listed
  pub none_written : {A : Type 0} (x : A) (t : Tally) (from : W) {listed : List Listed} → listed ≡ [] → WritesListed w listed t t from from (Ok x)
  unfolding tallied written
  none_written x t from is = subst (λ ls. WritesListed w ls t t from from (Ok x)) (sym is) (written_none from, refl)

  -- the first failed
  pub failed_listed : (old mid new : Tally) {from to : W} {e : Error} (xs ys : List Listed) {listed : List Listed} → listed ≡ xs ++ ys
      → WritesListed {A = Unit {0}} w xs old mid from to (Err e) → WritesListed {A = Unit {0}} w listed old new from to (Err e)
  failed_listed old mid new xs ys is h =
      (failed_as (sym (ap (written old) is ∙ written-append old xs ys)) (failed_first (written (tallied old xs) ys) h.0), tt)

  -- the first, and then the others
  pub both_listed : (old mid new : Tally) {from via : W} (to : W) (result : Result (Unit {0}) Error) (xs ys : List Listed) {listed : List Listed} → listed ≡ xs ++ ys
      → WritesListed {A = Unit {0}} w xs old mid from via (Ok tt) → WritesListed w ys mid new via to result → WritesListed w listed old new from to result
  both_listed old mid new to (Ok y) xs ys is h k = (
    written_as (ap (λ t. written old xs ++ written t ys) h.1 ∙ sym (ap (written old) is ∙ written-append old xs ys)) (written_both h.0 k.0),
    k.1 ∙ ap (λ t. tallied t ys) h.1 ∙ sym (ap (tallied old) is ∙ tallied-append old xs ys),
  )
  both_listed old mid new to (Err e) xs ys is h k =
      (failed_as (ap (λ t. written old xs ++ written t ys) h.1 ∙ sym (ap (written old) is ∙ written-append old xs ys)) (failed_after h.0 k.0), tt)
