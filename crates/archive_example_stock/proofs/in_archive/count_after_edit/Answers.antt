use Rattle.std.proofs.Common.{◌≡◌, ◌∙◌, ℕ, ◌+◌, [], ◌++◌, List, length, take, drop, ap, sym, rules}
use Rattle.std.proofs.Math.Seq.{take-append_seam}
use Rattle.archive_shape_layout.specs.Holds.{root_position}
use Rattle.archive_example_stock.specs.Stock.{stock_shape}
use Rattle.archive_example_stock.specs.Edited.{with_count}
use Rattle.archive_example_stock.proofs.Edits.{answers_at}
use Rattle.archive_example_stock.proofs.Tests.{count_is_after, counted_once}
use Rattle.archive_example_stock.proofs.in_archive.count_after_edit.Goals as goal

-- what is left of the bytes of a vector, of which all were lent, are those that were lent
written_back : (now given out items : List ℕ) (n : ℕ) → now ≡ take n (given ++ drop (length given) items) → given ≡ out → n ≡ length out → now ≡ out
written_back now given out items n is same long =
    is ∙ ap (λ m. take m (given ++ drop (length given) items)) (long ∙ ap length (sym same)) ∙ take-append_seam given (drop (length given) items) ∙ same

pub write_at-edited-requires : goal.write_at-edited-requires
write_at-edited-requires c = rw (c.pos-pos.ensures, c.in_ok-access.ensures.position, c.as_mut_slice.ensures.value, ← c.as_slice.ensures.value) (c.in_ok-access.ensures.value [] ((tt, tt), (tt, tt), (tt, tt), tt))

pub counts-requires : goal.counts-requires
counts-requires c = rw (c.in_ok-root.ensures.bytes, c.in_ok-root.ensures.position) (c.in_ok-root.ensures.value [] ((tt, tt), (tt, tt), (tt, tt), tt))

pub returns : goal.returns
returns c =
    let stock = c.args.stock.now in
    let es = stock.counts.map.entries in
    let counts = (c.maps_are_written.ensures stock _ _ c.in_ok-bytes.ensures).1 in
    let answers = c.map_written_at_answers.ensures.maps [] counts.keys _ _ stock.counts (tt, tt) counts.are_bytes counts.suits counts.readable in
    let once = counted_once c.args.shelf es c.len-counted.ensures.unique in
    let root = c.pos-pos.ensures ∙ c.in_ok-access.ensures.position in
    let edited = c.write_at-edited.ensures.answers es once (rw (root, c.as_mut_slice.ensures.value, c.as_slice.ensures.value) answers) in
    let last = c.in_ok-root.ensures in
    let long = c.write_at-edited.ensures.same_length in
    let back : (given : List ℕ) → c.as_slice-edited.result.now ≡ take c.in_ok-bytes.bytes.len (given ++ drop (length given) c.in_ok-bytes.bytes.items) → given ≡ c.write_at-edited.new.bytes → c.as_slice-edited.result.now ≡ c.write_at-edited.new.bytes =
    λ given is same. written_back _ given _ _ _ is same (sym (long ∙ c.as_mut_slice.ensures.len)) in
    let left = back _ c.as_slice-edited.ensures.value (search rules) in
    let same = ap length left ∙ long ∙ ap length (c.as_mut_slice.ensures.value ∙ sym c.as_slice.ensures.value) in
    let place = c.counts.ensures.pos ∙ ap (λ p. p + 12) (last.position ∙ ap (λ n. root_position n stock_shape) same ∙ sym root) in
    let there = answers_at _ _ _ _ _ _ _ _ _ _ _ _ _ _ (with_count c.args.shelf c.args.count es) (ap (λ b. b.now) (c.counts.ensures.bytes ∙ last.bytes) ∙ left) place edited in
    c.count_among.ensures (with_count c.args.shelf c.args.count es) there ∙ count_is_after c.args.shelf c.args.count c.args.other es
