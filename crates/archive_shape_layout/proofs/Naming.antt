-- Which lists of named types have which types.
use Rattle.std.proofs.Common.{◌≡◌, ℕ, zero, suc, ◌<◌, ◌==◌, Bool, true, false, cond, Option, Some, [], ◌∷◌, ◌++◌, length, get_or, take, drop, refl, sym, ap, arith}
use Rattle.std.proofs.lemmas.Bool.{eq-eqb, eqb-true}
use Rattle.std.proofs.lemmas.List.Elements.{All-same, All-take, All-drop}
use Rattle.std.proofs.Math.Seq.{take-append_seam, drop-append_seam}
use Rattle.archive_shape_layout.specs.Shape.{Shape}
use Rattle.archive_shape_layout.specs.Content.{Names, shape_named}
use Rattle.archive_shape_layout.specs.Naming.{HasTypes, IsConsistent}

-- a list that has the types of two lists has those of each
pub first_types : (names types others : Names) → HasTypes names (types ++ others) → HasTypes names types
first_types names types others has =
    let P : ℕ × Shape → Type 0 = λ type. shape_named names type.0 ≡ Some type.1 in
    All-same P types (take (length types) (types ++ others)) (sym (take-append_seam types others)) (All-take P (length types) (types ++ others) has)

pub other_types : (names types others : Names) → HasTypes names (types ++ others) → HasTypes names others
other_types names types others has =
    let P : ℕ × Shape → Type 0 = λ type. shape_named names type.0 ≡ Some type.1 in
    All-same P others (drop (length types) (types ++ others)) (sym (drop-append_seam types others)) (All-drop P (length types) (types ++ others) has)

chosen : (test : Bool) (x y : Shape) (rest : Option Shape) → (test ≡ true → x ≡ y) → rest ≡ Some y → cond test (Some x) rest ≡ Some y
chosen true x y rest same found = ap (λ (s : Shape). Some s) (same refl)
chosen false x y rest same found = found

first_found : (type : ℕ × Shape) (names : Names) → shape_named (type ∷ names) type.0 ≡ Some type.1
first_found type names = ap (λ (test : Bool). cond test (Some type.1) (shape_named names type.0)) (eq-eqb type.0 type.0 refl)

-- a consistent list has its own types
found_at : (names : Names) → IsConsistent names → (k : ℕ) (d : ℕ × Shape) → k < length names → shape_named names (get_or names k d).0 ≡ Some (get_or names k d).1
found_at [] one k d less = absurd (omega (arith, less))
found_at (type ∷ names) one zero d less = first_found type names
found_at (type ∷ names) one (suc k) d less =
    chosen (type.0 == (get_or names k d).0) type.1 _ (shape_named names (get_or names k d).0) (λ test. one 0 (suc k) d (omega arith) less (eqb-true _ _ test)) (found_at names (λ i j e before within. one (suc i) (suc j) e (omega (arith, before)) (omega (arith, within))) k d (omega (arith, less)))

pub own_types : (names : Names) → IsConsistent names → HasTypes names names
own_types names one = found_at names one
