use Rattle.std.proofs.Common.{◌≡◌, ℕ, ◌+◌, ◌*◌, ◌/◌, ◌<◌, ◌≤◌, List, ◌++◌, length, take, drop, sym, ap, ◌∙◌, subst, arith, bit_or, ◌%◌, ◌^◌, rules}
use Rattle.archive_hash_probing.specs.Scanning.{IsMatch}
use Rattle.archive_hash_probing.proofs.StrideLemmas.{joined_bits, next_read, fits_in, length-window, match-append}
use Rattle.archive_hash_probing.proofs.scanning.stride.stride_matches.Goals as goal

pub loop-i-preserved : goal.loop-i-preserved
loop-i-preserved g c =
    let w : ℕ = g.S.Scan.WIDTH in
    let i : ℕ = c.loop-i.i in
    let cs : List ℕ = c.args.controls.now in
    let p : ℕ = c.args.position in
    let is_w : c.WIDTH.result ≡ w = c.WIDTH.ensures in
    let turn : i < 16 / w = let P : ℕ → Type 0 = λ x. i < 16 / x in subst P c.WIDTH-i-end.ensures c.loop-i-test.true in
    let fits : i * w + w ≤ 16 = fits_in i w g.met.S.Scan.divides turn in
    let old = c.loop-i.invariant in
    let new = c.match_byte-marks.ensures in
    let read : g.S.Scan.lanes c.read.result ≡ take w (drop (p + i * w) cs) = c.read.ensures ∙ ap (λ x. take w (drop (p + i * x) cs)) is_w in
    let here : IsMatch c.args.tag (take w (drop (p + i * w) cs)) new.0 = let P : List ℕ → Type 0 = λ xs. IsMatch c.args.tag xs new.0 in subst P read new.2 in
    let long : length old.0 ≡ i * w = old.2.count ∙ length-window cs p (i * w) (omega (arith, c.requires.within)) in
    let wide : length new.0 ≡ w = here.count ∙ length-window cs (p + i * w) w (omega (arith, c.requires.within)) in
    let bits = ap (λ x. bit_or c.loop-i.bits (c.match_byte-marks.result.bits * 2 ^ (i * x) % 2 ^ 64)) is_w ∙ joined_bits old.0 new.0 c.loop-i.bits c.match_byte-marks.result.bits (i * w) long (omega arith) old.1 new.1 in
    let P : List ℕ → Type 0 = λ xs. IsMatch c.args.tag xs (old.0 ++ new.0) in
    (old.0 ++ new.0, bits, subst P (sym (next_read cs p i w)) (match-append c.args.tag _ _ old.0 new.0 old.2 here))

pub returns : goal.returns
returns g c = search rules
