-- Regions that ascend in a range and nest in it.
use Rattle.std.proofs.Common.{ℕ, ◌+◌, ◌≤◌, ◌<◌, List, [], ◌∷◌, ◌++◌, arith}
use Rattle.archive_shape_layout.specs.Holds.{Region, Ascends, Follows, end_after}
use Rattle.archive_shape_layout.proofs.Ascent.{Ascends-append, end_after-grows}
use Rattle.archive_shape.specs.Accepts.{NestsBelow}

-- two lists one after the other
pub NestsBelow-append : (most : ℕ) (xs ys : List Region) → NestsBelow most xs → NestsBelow most ys → NestsBelow most (xs ++ ys)
unfolding NestsBelow
NestsBelow-append most [] ys h i = i
NestsBelow-append most (r ∷ xs) ys h i = (h.0, NestsBelow-append most xs ys h.1 i)

-- the parts of two lists one after the other
pub NestsBelow-split : (most : ℕ) (xs ys : List Region) → NestsBelow most (xs ++ ys) → NestsBelow most xs × NestsBelow most ys
unfolding NestsBelow
NestsBelow-split most [] ys h = (tt, h)
NestsBelow-split most (r ∷ xs) ys h =
    let rest = NestsBelow-split most xs ys h.1 in
    ((h.0, rest.0), rest.1)

-- regions of which the last ends by a position end by it, each of them
pub ascends_until : (low high until : ℕ) (xs : List Region) → Ascends low high xs → end_after low xs ≤ until → Ascends low until xs
unfolding Ascends end_after
ascends_until low high until [] h le = tt
ascends_until low high until (r ∷ xs) h le =
    let first = h.0 in
    let grows = end_after-grows (r.start + r.size) high xs h.1 in
    (record { after = first.after; aligned = first.aligned; inside = omega arith }, ascends_until (r.start + r.size) high until xs h.1 le)

-- the last of a list of regions, and those before it
pub record LastOf (low high most : ℕ) (xs : List Region) (r : Region) : Type 0 where
  pub others : Ascends low r.start xs
  pub others_nest : NestsBelow most xs
  pub follows : Follows low high r
  pub nests : r.level < most

pub last_of : (low high most : ℕ) (xs : List Region) (r : Region) → Ascends low high (xs ++ r ∷ []) → NestsBelow most (xs ++ r ∷ []) → LastOf low high most xs r
unfolding Ascends NestsBelow
last_of low high most xs r a n =
    let both = (Ascends-append low high xs (r ∷ [])).0 a in
    let nest = NestsBelow-split most xs (r ∷ []) n in
    let own = both.1.0 in
    let grows = end_after-grows low high xs both.0 in
    record {
      others = ascends_until low high r.start xs both.0 own.after;
      others_nest = nest.0;
      follows = record { after = omega (arith, own.after); aligned = own.aligned; inside = own.inside };
      nests = nest.1.0;
    }
