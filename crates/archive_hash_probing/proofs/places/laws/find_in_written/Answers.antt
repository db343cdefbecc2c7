use Rattle.std.proofs.Common.{◌≡◌, ℕ, ◌^◌, ◌<◌, true, false, List, [], length, get_or, sym, subst, arith, Fits, w64}
use Rattle.std.proofs.lemmas.List.Elements.{All-from_get_or}
use Rattle.archive_shape_canonical.specs.FirstFit.{hash_tag, fitted_from}
use Rattle.archive_hash_probing.proofs.Counts.{none_accepted}
use Rattle.archive_hash_probing.proofs.FirstFits.{Tags}
use Rattle.archive_hash_probing.proofs.FirstHandedIn.{first_handed_in}
use Rattle.archive_hash_probing.proofs.Fit.{IsFirstFit, first_fit}
use Rattle.archive_hash_probing.proofs.places.laws.find_in_written.Goals as goal

fit_of : (cap : ℕ) (hashes places : List ℕ) → length hashes < cap → places ≡ fitted_from cap [] hashes → IsFirstFit cap [] hashes places
fit_of cap hashes places room e = subst (λ (ps : List ℕ). IsFirstFit cap [] hashes ps) (sym e) (first_fit cap [] hashes (omega arith))

tags_of : (hashes : List ℕ) → ((i : ℕ) → Fits w64 (get_or hashes i 0)) → Tags hashes
tags_of hashes fit = All-from_get_or (λ h. h < 2 ^ 64) hashes 0 (λ i l. let f = fit i in f.fits)

pub returns-clause-first : goal.returns-clause-first
returns-clause-first g c =
    let A = λ (p : ℕ). goal.F-post g c.args.accepts.now p true in
    let R = λ (p : ℕ). goal.F-post g c.args.accepts.now p false in
    let hashes = c.args.hashes.now in
    let fit = fit_of c.args.capacity hashes c.args.places.now c.requires.room c.requires.fitted in
    λ j l took least. first_handed_in A R c.args.controls.now c.args.capacity c.args.hash hashes c.args.places.now _ _ j (omega (arith, c.requires.room)) (tags_of hashes c.type_inv.hashes) fit c.requires.written c.requires.answer c.requires.never c.requires.alike l took least

pub returns-clause-absent : goal.returns-clause-absent
returns-clause-absent g c =
    let A = λ (p : ℕ). goal.F-post g c.args.accepts.now p true in
    let R = λ (p : ℕ). goal.F-post g c.args.accepts.now p false in
    let hashes = c.args.hashes.now in
    let fit = fit_of c.args.capacity hashes c.args.places.now c.requires.room c.requires.fitted in
    λ none. none_accepted A R c.args.controls.now c.args.capacity c.args.hash (hash_tag c.args.hash) hashes c.args.places.now _ _ (omega (arith, c.requires.room)) (tags_of hashes c.type_inv.hashes) fit c.requires.written c.requires.answer none
