-- The shared texts that are kept while an archive is loaded.
use Rattle.std.proofs.Common.{◌≡◌, ℕ, Bool, true, false, cond, Global, List, length, Some, Result, Ok, Err, IfSome, OnOk, OnErr, refl, sym, ap, subst, ◌∙◌}
use Rattle.std.specs.BTreeMap.{BTreeMap, get, is_at, Updates, IsUnchanged}
use Rattle.std.specs.Ordering.{is_eq}
use Rattle.std.specs.Rc.{rc_str_bytes}
use Rattle.std.specs.declared.rc.RcStr.{RcStr}
use Rattle.std.specs.Ordering.{nat_cmp}
use Rattle.std.specs.declared.cmp.Ordering.{Ordering}
use Rattle.std.specs.declared.cmp.Ordering.TheVariants.{Less, Equal, Greater}
use Rattle.std.proofs.lemmas.Map.Lookups.{exact_pairs, exact_unsigned}
use Rattle.archive_shape_layout.specs.Bytes.{window}
use Rattle.archive_shape.proofs.Pieces.{length-window}
use Rattle.archive_forms_rc.specs.Pointers.{IsRcStrAt}
use Rattle.archive_forms_values.specs.Parts.{PointsTo}
use Rattle.cabinet_archives.specs.Loading.{place_cmp}

-- the text of `len` bytes at a position
abbrev IsThere : List ℕ → ℕ × ℕ → RcStr Global → Type 0
IsThere bytes place text = rc_str_bytes text ≡ window bytes place.0 place.1

-- each text is kept under the position and the length of its bytes
abbrev pub AreKept : List ℕ → BTreeMap (ℕ × ℕ) (RcStr Global) → Type 0
AreKept bytes read = (place : ℕ × ℕ) → IfSome (get place_cmp read place) (IsThere bytes place)

same_place : (a b : ℕ × ℕ) → is_eq (place_cmp a b) ≡ true → a ≡ b
same_place a b e = exact_pairs nat_cmp nat_cmp exact_unsigned exact_unsigned a b (equal (place_cmp a b) e)
  where
    equal : (o : Ordering) → is_eq o ≡ true → o ≡ Equal
    equal Less e = absurd (cc)
    equal Equal e = refl
    equal Greater e = absurd (cc)

module _ (bytes : List ℕ) (m : BTreeMap (ℕ × ℕ) (RcStr Global)) (are : AreKept bytes m) where
  pub found : (place : ℕ × ℕ) (text : RcStr Global) → get place_cmp m place ≡ Some text → rc_str_bytes text ≡ window bytes place.0 place.1
  found place text e = subst (λ o. IfSome o (IsThere bytes place)) e (are place)

  module _ (n : BTreeMap (ℕ × ℕ) (RcStr Global)) (key : ℕ × ℕ) (text : RcStr Global) (is : rc_str_bytes text ≡ window bytes key.0 key.1) where
    added : Updates place_cmp m n key (Some text) → AreKept bytes n
    added u place = by (is_at (place_cmp key) place) refl
      where
        by : (b : Bool) → is_at (place_cmp key) place ≡ b → IfSome (get place_cmp n place) (IsThere bytes place)
        by true e = subst (λ o. IfSome o (IsThere bytes place)) (sym (u.0 place ∙ ap (λ c. cond c (Some text) (get place_cmp m place)) e)) (subst (λ x. IsThere bytes x text) (same_place key place e) is)
        by false e = subst (λ o. IfSome o (IsThere bytes place)) (sym (u.0 place ∙ ap (λ c. cond c (Some text) (get place_cmp m place)) e)) (are place)

    -- a text is kept, or memory is refused for it
    pub kept : {A B : Type 0} (result : Result A B) → OnOk result (Updates place_cmp m n key (Some text)) → OnErr result (IsUnchanged m n) → AreKept bytes n
    kept (Ok old) updates same = added updates
    kept (Err e) updates same = λ place. rw same (are place)

-- the text of a pointer lies where the pointer leads, and has its length
pub text_place : (bytes : List ℕ) (pos to len start : ℕ) (text : List ℕ) → IsRcStrAt false bytes pos to len → text ≡ window bytes to len → PointsTo bytes pos start → text ≡ window bytes start (length text)
text_place bytes pos to len start text there is points =
    let other = there.points in
    let same : to ≡ start = cc in
    let counted : length text ≡ len = ap length is ∙ length-window bytes to len there.within in
    is ∙ ap (λ n. window bytes n len) same ∙ ap (window bytes start) (sym counted)
