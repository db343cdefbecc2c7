-- Every part that the root of a canonical archive reaches has a value, with regions that ascend to the end of the
-- bytes, after visits of values that lie where they were visited. So the tree of a map that it reaches is read.
use Rattle.std.proofs.Common.{ℕ, List, length, sym, subst, arith}
use Rattle.archive_shape_layout.specs.Shape.Shape.{tree}
use Rattle.archive_shape_layout.specs.Value.{Value, Values}
use Rattle.archive_shape_layout.specs.Content.{Names, Part}
use Rattle.archive_shape_layout.specs.Content.Part.{at}
use Rattle.archive_shape_layout.specs.Holds.{Region, Visit, OpenShared, Holds, HoldAll, end_after}
use Rattle.archive_shape_layout.specs.Holds.Holds.{holds_plain, holds_claimed, holds_first, holds_later, holds_back}
use Rattle.archive_shape_layout.specs.Holds.HoldAll.{holds_none, holds_more}
use Rattle.archive_shape_layout.specs.Visited.{ClaimedAfter}
use Rattle.archive_shape_layout.proofs.Visited.{claimed_raised, claimed_front, claimed_later, claimed_inside, claimed_first}
use Rattle.archive_shape_canonical.specs.Settled.{Fit}
use Rattle.archive_shape_canonical.specs.Canonical.{IsCanonical, AreCanonical, end_of}
use Rattle.archive_shape_canonical.proofs.Reaching.{All, AllIn, Met, none_met, plain_all, claimed_all, counted_all, more_met, none_reached, more_reached}
use Rattle.archive_btree_layout.proofs.Mapped.{tree_is_read}
use Rattle.archive_btree_spelling.specs.PackingLaws.{WrittenIsRead}

module _ (fit : Fit) (names : Names) (bytes : List ℕ) where
  -- a part has a value
  pub record HeldPart (p : Part) : Type 0 where
    pub level : ℕ
    pub inside : List OpenShared
    pub value : Value
    pub regions : List Region
    pub before : List Visit
    pub after : List Visit
    pub low : ℕ
    pub holds : Holds names bytes level inside p value regions before after
    pub claimed : ClaimedAfter names bytes before low (length bytes) regions

  held_by : {level : ℕ} {inside : List OpenShared} {p : Part} {v : Value} {rs : List Region} {before after : List Visit} (low : ℕ)
      → Holds names bytes level inside p v rs before after → ClaimedAfter names bytes before low (length bytes) rs → HeldPart p
  held_by {level = level} {inside = inside} {v = v} {rs = rs} {before = before} {after = after} low h a =
      record { level = level; inside = inside; value = v; regions = rs; before = before; after = after; low = low; holds = h; claimed = a }

  mutual
    -- where canonical regions lie from one position on, and they ascend from another
    all_held : {level : ℕ} {inside : List OpenShared} {p : Part} {v : Value} {rs : List Region} {before after : List Visit} (from low : ℕ)
        → (h : Holds names bytes level inside p v rs before after) → IsCanonical fit h from → ClaimedAfter names bytes before low (length bytes) rs → Met names bytes HeldPart before
        → All names bytes HeldPart p × Met names bytes HeldPart after
    all_held {p = p} from low (holds_plain {l = l} {ps = ps} e legal all m) c a met =
        let r = all_held_in from low all c.2 a met in
        (plain_all names bytes HeldPart p l ps e (held_by low (holds_plain e legal all m) a) r.0, r.1)
    all_held {p = p} from low (holds_claimed {s = s} {l = l} {ps = ps} e legal all m g) c a met =
        let i = claimed_inside g a in
        let ends = i.ends in
        let r = all_held_in from low all c.2 (claimed_raised (omega (arith, ends)) i.claimed) met in
        (claimed_all names bytes HeldPart p s l ps e (held_by low (holds_claimed e legal all m g) a) r.0, r.1)
    all_held {p = p} from low (holds_first {w = w} {between = between} {cyclic = cyclic} {t = t} {q = q} {len = len} e x y h d g) c a met =
        let r = all_held from low h c.1 a met in (
          counted_all names bytes HeldPart p cyclic t q len e (held_by low (holds_first e x y h d g) a) r.0,
          subst (Met names bytes HeldPart) (sym g) (more_met names bytes HeldPart (record { pos = t; pointee = q; len = len; value = w }) between r.0 r.1),
        )
    all_held {level = level} {p = p} from low (holds_later {w = w} {cyclic = cyclic} {t = t} {q = q} {len = len} e x y d g f) c a met = (
      counted_all names bytes HeldPart p cyclic t q len e (held_by {level = level} low (holds_later e x y d g f) a) (met (record { pos = t; pointee = q; len = len; value = w }) y),
      subst (Met names bytes HeldPart) (sym f) met,
    )
    all_held from low (holds_back e x d g h) c a met = absurd c

    all_held_in : {level : ℕ} {inside : List OpenShared} {ps : List Part} {vs : Values} {rs : List Region} {before after : List Visit} (from low : ℕ)
        → (all : HoldAll names bytes level inside ps vs rs before after) → AreCanonical fit all from → ClaimedAfter names bytes before low (length bytes) rs → Met names bytes HeldPart before
        → AllIn names bytes HeldPart ps × Met names bytes HeldPart after
    all_held_in from low (holds_none e f g) c a met = (none_reached names bytes HeldPart, subst (Met names bytes HeldPart) (sym g) met)
    all_held_in from low (holds_more {here = here} {later = later} h hs e r) c a met =
        let one = all_held from low h c.0 (claimed_front later r a) met in
        let rest = all_held_in (end_of h from) (end_after low here) hs c.1 (claimed_later h r a) one.1 in
        (more_reached names bytes HeldPart one.0 rest.0, rest.1)

pub written_is_read_law : WrittenIsRead
written_is_read_law fit names bytes most k v pos w =
    let root = w.archive.root in
    let s = (all_held fit names bytes w.start 0 root.holds w.archive.canonical (claimed_first root.ascends) (none_met names bytes (HeldPart fit names bytes))).0 (at pos (tree most k v)) w.reached in
    (s.value, tree_is_read names bytes most k v s.level s.inside pos s.value s.regions s.before s.after s.low s.holds s.claimed)
