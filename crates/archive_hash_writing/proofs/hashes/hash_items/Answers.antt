use Rattle.std.proofs.Common.{◌≡◌, ℕ, ◌+◌, List, [], ◌∷◌, ◌++◌, take, refl, sym, ap, subst, ◌∙◌, Bool, true, false, if◌then◌else◌}
use Rattle.std.specs.Fn.{FnReturnsAt}
use Rattle.std.specs.List.{AllZip}
use Rattle.std.proofs.lemmas.Fn.{says_at}
use Rattle.std.proofs.lemmas.List.{take_more}
use Rattle.std.proofs.lemmas.Slice.Zip.{all_zipped_more}
use Rattle.archive_hash_writing.proofs.hashes.hash_items.Goals as goal

pushed : {A : Type 0} (b : Bool) (x y z : List A) → x ≡ (if b then y else z) → b ≡ true → x ≡ y
pushed true x y z e t = e
pushed false x y z e t = absurd (cc)

pub loop-item-preserved : goal.loop-item-preserved
loop-item-preserved g c =
    let hashes : g.row.T.Denot → ℕ → Type 0 = λ x h. FnReturnsAt g.H.Fn c.args.hash x h in
    let before = take c.loop-item.item-index c.args.items.now in
    let item = c.item-item.result in
    let seen : take (c.loop-item.item-index + 1) c.args.items.now ≡ before ++ item ∷ [] = take_more _ _ item c.loop-item-test.true ∙ ap (λ x. before ++ x ∷ []) (sym c.item-item.is) in
    let made : c.push.new.self.items ≡ c.loop-item.hashes.items ++ (c.hash.result ∷ []) = pushed _ _ _ _ c.push.ensures.items c.if-is_err.ensures.negation in
    let P : List g.row.T.Denot → Type 0 = λ xs. AllZip hashes xs c.push.new.self.items in
    subst P (sym seen) (subst (AllZip hashes (before ++ item ∷ [])) (sym made) (all_zipped_more hashes _ _ _ _ c.loop-item.invariant (says_at g.H.Fn c.hash.ensures refl)))
