use Rattle.std.proofs.Common.{◌≡◌, ℕ, ◌+◌, ◌<◌, ◌≤◌, ◌^◌, [], ◌∷◌, ◌++◌, List, length, take, get_or, set, replicate, sym, ap, subst, ◌∙◌, arith, Option, Some, IfSome}
use Rattle.std.specs.Option.{unwrap_or}
use Rattle.std.specs.List.{find}
use Rattle.std.proofs.lemmas.List.{take_more, take_more_set, take_all}
use Rattle.std.proofs.lemmas.List.Elements.{All-from_get_or}
use Rattle.std.proofs.Math.Seq.{length-take-le}
use Rattle.archive_shape_canonical.specs.FirstFit.{hash_tag, is_free, written_controls}
use Rattle.archive_shape_canonical.specs.Strides.{places_for}
use Rattle.archive_shape_canonical.specs.Reach.{Reaches}
use Rattle.archive_hash_probing.specs.Controls.{AreControls, with_control}
use Rattle.archive_hash_probing.proofs.FirstFree.{empty_at}
use Rattle.archive_hash_probing.proofs.FirstFits.{Tags, written_are, written_none, written_more, fits_more, fits_by_controls, found_is_free, taken_tags}
use Rattle.archive_hash_probing.proofs.Fit.{IsFirstFit, fitted_is, some_free}
use Rattle.archive_hash_probing.proofs.Reached.{places_apart, places_low, written_reaches, written_tag}
use Rattle.archive_hash_probing.proofs.Wrapping.{count_is}
use Rattle.archive_hash_probing.proofs.places.fitting.write_controls.Goals as goal

-- the place that is returned is the first free one
placed : (cs : List ℕ) (cap hash : ℕ) (hashes places : List ℕ) (r : Option ℕ) → length hashes ≡ length places → Tags hashes → length places < cap → cs ≡ written_controls cap hashes places
    → r ≡ find (empty_at cs) (places_for hash cap) → (find (is_free places) (places_for hash cap) ≡ Some (unwrap_or r 0)) × (r ≡ Some (unwrap_or r 0))
placed cs cap hash hashes places r even tags few is first =
    let same = first ∙ fits_by_controls cs cap hashes places hash (omega arith) even tags is in
    let found = some_free cap hash places few ∙ ap (λ o. Some (unwrap_or o 0)) (sym same) in
    (found, same ∙ found)

-- the loop has gone through all hashes
all_done : (cap i : ℕ) (cs hashes places : List ℕ) → length hashes ≤ i → length places ≡ length hashes → IsFirstFit cap [] (take i hashes) (take i places) → cs ≡ written_controls cap (take i hashes) (take i places)
    → IsFirstFit cap [] hashes places × (cs ≡ written_controls cap hashes places)
all_done cap i cs hashes places l e fit is =
    let h : take i hashes ≡ hashes = take_all i hashes l in
    let p : take i places ≡ places = take_all i places (omega arith) in
    (subst (λ (xs : List ℕ). IsFirstFit cap [] xs places) h (subst (λ (ys : List ℕ). IsFirstFit cap [] (take i hashes) ys) p fit), is ∙ (λ j. written_controls cap (h j) (p j)))

pub loop-i-init : goal.loop-i-init
loop-i-init g c = (tt, c.clear.ensures ∙ ap (λ (n : ℕ). replicate n 255) (c.requires.controls ∙ count_is c.args.capacity) ∙ sym (written_none c.args.capacity))

pub insert-place-requires-clause-controls : goal.insert-place-requires-clause-controls
insert-place-requires-clause-controls g c =
    subst (λ (cs : List ℕ). AreControls cs c.args.capacity) (sym c.loop-i.invariant.1) (written_are c.args.capacity (take c.loop-i.i c.args.hashes.now) (take c.loop-i.i c.loop-i.places))

pub loop-i-preserved : goal.loop-i-preserved
loop-i-preserved g c =
    let i : ℕ = c.loop-i.i in
    let cap : ℕ = c.args.capacity in
    let hashes : List ℕ = c.args.hashes.now in
    let places : List ℕ = c.loop-i.places in
    let hs : List ℕ = take i hashes in
    let ps : List ℕ = take i places in
    let hash : ℕ = get_or hashes i 0 in
    let place : ℕ = c.unwrap_or.result in
    let is : place ≡ unwrap_or c.insert-place.result 0 = c.unwrap_or.ensures in
    let room : i < length places = omega (arith, c.loop-i.auto.places, c.requires.places) in
    let long : length hs ≡ i = length-take-le i hashes (omega arith) in
    let wide : length ps ≡ i = length-take-le i places (omega arith) in
    let even : length hs ≡ length ps = long ∙ sym wide in
    let p = placed c.loop-i.controls cap hash hs ps c.insert-place.result even (taken_tags i hashes c.type_inv.hashes) (omega (arith, wide, c.requires.room)) c.loop-i.invariant.1 c.insert-place.ensures.first in
    let first : find (is_free ps) (places_for hash cap) ≡ Some place = p.0 ∙ ap Some (sym is) in
    let given : c.insert-place.result ≡ Some place = p.1 ∙ ap Some (sym is) in
    let low : place < cap = subst (λ r. IfSome r (λ q. q < cap)) given c.insert-place.ensures.bound in
    let written : c.insert-place.new.controls ≡ with_control c.loop-i.controls cap place (hash_tag hash) =
    subst (λ r. IfSome r (λ q. c.insert-place.new.controls ≡ with_control c.loop-i.controls cap q (hash_tag hash))) given c.insert-place.ensures.written in
    let more : take (i + 1) hashes ≡ hs ++ hash ∷ [] = take_more hashes i 0 c.loop-i-test.true in
    let next : take (i + 1) (set places i place) ≡ ps ++ place ∷ [] = take_more_set places i place room in
    let controls : c.insert-place.new.controls ≡ written_controls cap (hs ++ hash ∷ []) (ps ++ place ∷ []) =
    written ∙ ap (λ cs. with_control cs cap place (hash_tag hash)) c.loop-i.invariant.1
    ∙ written_more cap hs ps hash place low even (found_is_free (is_free ps) (places_for hash cap) place first) in (
      subst (λ (xs : List ℕ). IsFirstFit cap [] xs (take (i + 1) (set places i place))) (sym more) (subst (λ (ys : List ℕ). IsFirstFit cap [] (hs ++ hash ∷ []) ys) (sym next) (fits_more cap hs ps hash place c.loop-i.invariant.0 first)),
      controls ∙ (λ j. written_controls cap (sym more j) (sym next j)),
    )

pub returns-clause-fitted : goal.returns-clause-fitted
returns-clause-fitted g c =
    let done = all_done c.args.capacity c.loop-i.i c.loop-i.controls c.args.hashes.now c.loop-i.places c.loop-i-test.false (c.loop-i.auto.places ∙ c.requires.places) c.loop-i.invariant.0 c.loop-i.invariant.1 in
    fitted_is c.args.capacity [] c.args.hashes.now c.loop-i.places done.0

pub returns-clause-written : goal.returns-clause-written
returns-clause-written g c =
    let done = all_done c.args.capacity c.loop-i.i c.loop-i.controls c.args.hashes.now c.loop-i.places c.loop-i-test.false (c.loop-i.auto.places ∙ c.requires.places) c.loop-i.invariant.0 c.loop-i.invariant.1 in
    done.1

pub returns-clause-controls : goal.returns-clause-controls
returns-clause-controls g c =
    subst (λ (cs : List ℕ). AreControls cs c.args.capacity) (sym c.loop-i.invariant.1) (written_are c.args.capacity (take c.loop-i.i c.args.hashes.now) (take c.loop-i.i c.loop-i.places))

pub returns-clause-bound : goal.returns-clause-bound
returns-clause-bound g c =
    let done = all_done c.args.capacity c.loop-i.i c.loop-i.controls c.args.hashes.now c.loop-i.places c.loop-i-test.false (c.loop-i.auto.places ∙ c.requires.places) c.loop-i.invariant.0 c.loop-i.invariant.1 in
    λ j l. places_low c.args.capacity [] c.args.hashes.now c.loop-i.places j (omega (arith, c.requires.room)) done.0 l

pub returns-clause-distinct : goal.returns-clause-distinct
returns-clause-distinct g c =
    let done = all_done c.args.capacity c.loop-i.i c.loop-i.controls c.args.hashes.now c.loop-i.places c.loop-i-test.false (c.loop-i.auto.places ∙ c.requires.places) c.loop-i.invariant.0 c.loop-i.invariant.1 in
    λ i j less l. places_apart c.args.capacity c.args.hashes.now c.loop-i.places i j done.0 less l

pub returns-clause-reached : goal.returns-clause-reached
returns-clause-reached g c =
    let cap : ℕ = c.args.capacity in
    let hashes : List ℕ = c.args.hashes.now in
    let places : List ℕ = c.loop-i.places in
    let done = all_done cap c.loop-i.i c.loop-i.controls hashes places c.loop-i-test.false (c.loop-i.auto.places ∙ c.requires.places) c.loop-i.invariant.0 c.loop-i.invariant.1 in
    let tags : Tags hashes = All-from_get_or (λ h. h < 2 ^ 64) hashes 0 (λ i l. let f = c.type_inv.hashes i in f.fits) in
    λ j l. subst (λ (cs : List ℕ). Reaches cs (get_or hashes j 0) cap (get_or places j 0)) (sym done.1) (written_reaches cap hashes places j (omega (arith, c.requires.room)) tags done.0 l)

pub returns-clause-tags : goal.returns-clause-tags
returns-clause-tags g c =
    let cap : ℕ = c.args.capacity in
    let hashes : List ℕ = c.args.hashes.now in
    let places : List ℕ = c.loop-i.places in
    let done = all_done cap c.loop-i.i c.loop-i.controls hashes places c.loop-i-test.false (c.loop-i.auto.places ∙ c.requires.places) c.loop-i.invariant.0 c.loop-i.invariant.1 in
    λ j l. ap (λ cs. get_or cs (get_or places j 0) 0) done.1 ∙ written_tag cap hashes places j (omega (arith, c.requires.room)) done.0 l
