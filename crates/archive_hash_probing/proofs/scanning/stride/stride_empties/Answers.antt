use Rattle.std.proofs.Common.{◌≡◌, ℕ, ◌+◌, ◌*◌, ◌/◌, ◌%◌, ◌^◌, ◌<◌, ◌≤◌, List, map, length, take, drop, sym, ap, ◌∙◌, subst, arith, bit_or}
use Rattle.std.proofs.lemmas.List.{map-append, length-map}
use lib.Lanes.{mask_l}
use Rattle.archive_shape_canonical.specs.Reach.{is_empty}
use Rattle.archive_hash_probing.proofs.StrideLemmas.{joined_bits, next_read, fits_in, length-window}
use Rattle.archive_hash_probing.proofs.scanning.stride.stride_empties.Goals as goal

pub loop-i-preserved : goal.loop-i-preserved
loop-i-preserved g c =
    let w : ℕ = g.S.Scan.WIDTH in
    let i : ℕ = c.loop-i.i in
    let cs : List ℕ = c.args.controls.now in
    let p : ℕ = c.args.position in
    let is_w : c.WIDTH.result ≡ w = c.WIDTH.ensures in
    let turn : i < 16 / w = let P : ℕ → Type 0 = λ x. i < 16 / x in subst P c.WIDTH-i-end.ensures c.loop-i-test.true in
    let fits : i * w + w ≤ 16 = fits_in i w g.met.S.Scan.divides turn in
    let xs : List ℕ = take (i * w) (drop p cs) in
    let ys : List ℕ = take w (drop (p + i * w) cs) in
    let read : g.S.Scan.lanes c.read.result ≡ ys = c.read.ensures ∙ ap (λ x. take w (drop (p + i * x) cs)) is_w in
    let new : c.match_empty-marks.result.bits ≡ mask_l (map is_empty ys) = c.match_empty-marks.ensures ∙ ap (λ zs. mask_l (map is_empty zs)) read in
    let long : length (map is_empty xs) ≡ i * w = length-map xs is_empty ∙ length-window cs p (i * w) (omega arith) in
    let wide : length (map is_empty ys) ≡ w = length-map ys is_empty ∙ length-window cs (p + i * w) w (omega arith) in
    ap (λ x. bit_or c.loop-i.bits (c.match_empty-marks.result.bits * 2 ^ (i * x) % 2 ^ 64)) is_w
    ∙ joined_bits (map is_empty xs) (map is_empty ys) c.loop-i.bits c.match_empty-marks.result.bits (i * w) long (omega arith) c.loop-i.invariant new
    ∙ ap mask_l (sym (map-append is_empty xs ys))
    ∙ ap (λ zs. mask_l (map is_empty zs)) (sym (next_read cs p i w))
