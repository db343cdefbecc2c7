use Rattle.std.proofs.Common.{◌≡◌, ◌+◌, ◌-◌, ◌^◌, min, [], ◌∷◌, length, length-append, refl, ap, sym, arith}
use Rattle.archive_shape_layout.specs.declared.error.Error.TheVariants.{IteratorLengthMismatch}
use Rattle.archive_btree_writing.proofs.Taken.{Yields-more}
use Rattle.archive_btree_writing.proofs.building.claimed.finish.Goals as goal

pub loop-init : goal.loop-init
loop-init g c = record {
  claims = refl;
  counts = omega (arith, c.saturating_add-actual.ensures);
  came = (c.in_default.field-0, (c.next.new.self, c.in_default.ensures.steps, sym c.into_iter-iterator.ensures.into_iter_gives));
}

pub loop-preserved : goal.loop-preserved
loop-preserved g c =
    let inv = c.loop.invariant in
    record {
      claims = inv.claims;
      counts = omega (arith, inv.counts, c.saturating_add-actual-in-loop.ensures, length-append c.loop.yielded (c.in-Some.field-0 ∷ []));
      came = (inv.came.0, Yields-more g.I.Iterator.next_gives _ _ _ (inv.came.0 ∷ c.loop.yielded) c.in-Some.field-0 inv.came.1 c.in-Some.ensures.steps);
    }

pub returns-in_default : goal.returns-in_default
returns-in_default g c =
    let inv = c.loop.invariant in
    let count : c.loop.actual ≡ min (c.args.source.claimed + length (inv.came.0 ∷ c.loop.yielded)) (2 ^ 64 - 1) = omega (arith, inv.counts) in
    (inv.came.0 ∷ c.loop.yielded, (c.next-in-loop.new.self, (c.loop.iterator', inv.came.1, c.in-None-2.ensures.steps)), (omega arith, ap (λ z. IteratorLengthMismatch c.args.source.claimed z) count))
