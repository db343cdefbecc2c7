-- The parts of a value whose hashed maps are in the order of first fit are such values.
use Rattle.std.proofs.Common.{◌≡◌, ℕ, List, subst, arith}
use Rattle.archive_shape_layout.specs.Value.{Value, Values}
use Rattle.archive_shape_layout.specs.Value.Value.{group, counted}
use Rattle.archive_shape_layout.specs.Value.Values.{more_values}
use Rattle.cabinet_documents.specs.Denotes.{tagged_value, pair_value}
use Rattle.cabinet_documents.specs.Fitted.{IsFitted, AreFitted, ArePairsFitted, AreFirstFit}
use Rattle.cabinet_documents.specs.Fitted.IsFitted.{leaf_is_fitted, nothing_is_fitted, some_is_fitted, list_is_fitted, ordered_is_fitted, hashed_is_fitted, kept_is_fitted, whole_is_fitted}
use Rattle.cabinet_documents.specs.Fitted.AreFitted.{none_are_fitted, more_are_fitted}
use Rattle.cabinet_documents.specs.Fitted.ArePairsFitted.{no_pairs_are_fitted, more_pairs_are_fitted}

pub fitted_some : {v w : Value} → IsFitted v → v ≡ tagged_value 4 (tagged_value 1 w) → IsFitted w
fitted_some (leaf_is_fitted {w = u} {tag = tag} e low) f = let same : tag ≡ 4 = cc in absurd (omega (arith, same, low))
fitted_some (nothing_is_fitted e) f = absurd (cc)
fitted_some {w = w} (some_is_fitted {w = u} e h) f = let same : u ≡ w = cc in subst IsFitted same h
fitted_some (list_is_fitted {vs = us} e h) f = absurd (cc)
fitted_some (ordered_is_fitted {vs = us} e h) f = absurd (cc)
fitted_some (hashed_is_fitted {vs = us} e g h) f = absurd (cc)
fitted_some (kept_is_fitted {vs = us} e h) f = absurd (cc)
fitted_some (whole_is_fitted {w = u} e h) f = absurd (cc)

pub fitted_list : {v : Value} {vs : Values} → IsFitted v → v ≡ tagged_value 5 (group vs) → AreFitted vs
fitted_list (leaf_is_fitted {w = u} {tag = tag} e low) f = let same : tag ≡ 5 = cc in absurd (omega (arith, same, low))
fitted_list (nothing_is_fitted e) f = absurd (cc)
fitted_list (some_is_fitted {w = u} e h) f = absurd (cc)
fitted_list {vs = vs} (list_is_fitted {vs = us} e h) f = let same : us ≡ vs = cc in subst AreFitted same h
fitted_list (ordered_is_fitted {vs = us} e h) f = absurd (cc)
fitted_list (hashed_is_fitted {vs = us} e g h) f = absurd (cc)
fitted_list (kept_is_fitted {vs = us} e h) f = absurd (cc)
fitted_list (whole_is_fitted {w = u} e h) f = absurd (cc)

pub fitted_ordered : {v : Value} {vs : Values} → IsFitted v → v ≡ tagged_value 6 (group vs) → ArePairsFitted vs
fitted_ordered (leaf_is_fitted {w = u} {tag = tag} e low) f = let same : tag ≡ 6 = cc in absurd (omega (arith, same, low))
fitted_ordered (nothing_is_fitted e) f = absurd (cc)
fitted_ordered (some_is_fitted {w = u} e h) f = absurd (cc)
fitted_ordered (list_is_fitted {vs = us} e h) f = absurd (cc)
fitted_ordered {vs = vs} (ordered_is_fitted {vs = us} e h) f = let same : us ≡ vs = cc in subst ArePairsFitted same h
fitted_ordered (hashed_is_fitted {vs = us} e g h) f = absurd (cc)
fitted_ordered (kept_is_fitted {vs = us} e h) f = absurd (cc)
fitted_ordered (whole_is_fitted {w = u} e h) f = absurd (cc)

pub fitted_hashed : {v : Value} {vs : Values} → IsFitted v → v ≡ tagged_value 7 (group vs) → AreFirstFit vs × ArePairsFitted vs
fitted_hashed (leaf_is_fitted {w = u} {tag = tag} e low) f = let same : tag ≡ 7 = cc in absurd (omega (arith, same, low))
fitted_hashed (nothing_is_fitted e) f = absurd (cc)
fitted_hashed (some_is_fitted {w = u} e h) f = absurd (cc)
fitted_hashed (list_is_fitted {vs = us} e h) f = absurd (cc)
fitted_hashed (ordered_is_fitted {vs = us} e h) f = absurd (cc)
fitted_hashed {vs = vs} (hashed_is_fitted {vs = us} e g h) f = let same : us ≡ vs = cc in (subst (λ x. AreFirstFit x) same g, subst ArePairsFitted same h)
fitted_hashed (kept_is_fitted {vs = us} e h) f = absurd (cc)
fitted_hashed (whole_is_fitted {w = u} e h) f = absurd (cc)

pub fitted_kept : {v : Value} {vs : Values} → IsFitted v → v ≡ tagged_value 8 (group vs) → ArePairsFitted vs
fitted_kept (leaf_is_fitted {w = u} {tag = tag} e low) f = let same : tag ≡ 8 = cc in absurd (omega (arith, same, low))
fitted_kept (nothing_is_fitted e) f = absurd (cc)
fitted_kept (some_is_fitted {w = u} e h) f = absurd (cc)
fitted_kept (list_is_fitted {vs = us} e h) f = absurd (cc)
fitted_kept (ordered_is_fitted {vs = us} e h) f = absurd (cc)
fitted_kept (hashed_is_fitted {vs = us} e g h) f = absurd (cc)
fitted_kept {vs = vs} (kept_is_fitted {vs = us} e h) f = let same : us ≡ vs = cc in subst ArePairsFitted same h
fitted_kept (whole_is_fitted {w = u} e h) f = absurd (cc)

pub fitted_whole : {v w : Value} {at : ℕ} → IsFitted v → v ≡ tagged_value 9 (counted at w) → IsFitted w
fitted_whole (leaf_is_fitted {w = u} {tag = tag} e low) f = let same : tag ≡ 9 = cc in absurd (omega (arith, same, low))
fitted_whole (nothing_is_fitted e) f = absurd (cc)
fitted_whole (some_is_fitted {w = u} e h) f = absurd (cc)
fitted_whole (list_is_fitted {vs = us} e h) f = absurd (cc)
fitted_whole (ordered_is_fitted {vs = us} e h) f = absurd (cc)
fitted_whole (hashed_is_fitted {vs = us} e g h) f = absurd (cc)
fitted_whole (kept_is_fitted {vs = us} e h) f = absurd (cc)
fitted_whole {w = w} (whole_is_fitted {w = u} e h) f = let same : u ≡ w = cc in subst IsFitted same h

pub fitted_more : {v : Value} {vs ws : Values} → AreFitted ws → ws ≡ more_values v vs → IsFitted v × AreFitted vs
fitted_more (none_are_fitted e) f = absurd (cc)
fitted_more {v = v} {vs = vs} (more_are_fitted {v = u} {vs = us} e h hs) f =
    let first : u ≡ v = cc in
    let rest : us ≡ vs = cc in
    (subst IsFitted first h, subst AreFitted rest hs)

pub fitted_pair : {k : List ℕ} {v : Value} {vs ws : Values} → ArePairsFitted ws → ws ≡ more_values (pair_value k v) vs → IsFitted v × ArePairsFitted vs
fitted_pair (no_pairs_are_fitted e) f = absurd (cc)
fitted_pair {v = v} {vs = vs} (more_pairs_are_fitted {v = u} {vs = us} e h hs) f =
    let first : u ≡ v = cc in
    let rest : us ≡ vs = cc in
    (subst IsFitted first h, subst ArePairsFitted rest hs)
