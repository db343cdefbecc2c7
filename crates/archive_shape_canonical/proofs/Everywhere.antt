-- Every part that the root of a canonical archive reaches is as written.
use Rattle.std.proofs.Common.{◌≡◌, ℕ, Bool, List, sym, subst, ◌∙◌}
use Rattle.archive_shape_layout.specs.Shape.{Pointee}
use Rattle.archive_shape_layout.specs.Value.{Values}
use Rattle.archive_shape_layout.specs.Content.{Names, Part, Span, Label, content_of}
use Rattle.archive_shape_layout.specs.Content.Content.{plain, claimed, counting}
use Rattle.archive_shape_layout.specs.Value.{Value}
use Rattle.archive_shape_layout.specs.Holds.{Region, Visit, OpenShared, Holds, HoldAll}
use Rattle.archive_shape_layout.specs.Holds.Holds.{holds_plain, holds_claimed, holds_first, holds_later, holds_back}
use Rattle.archive_shape_layout.specs.Holds.HoldAll.{holds_none, holds_more}
use Rattle.archive_shape_canonical.specs.Clean.{IsClean}
use Rattle.archive_shape_canonical.specs.Settled.{Fit, IsSettled}
use Rattle.archive_shape_canonical.specs.Canonical.{IsCanonical, AreCanonical, end_of}
use Rattle.archive_shape_canonical.specs.Everywhere.{AreSettled, IsAsWritten, WrittenEverywhere}
use Rattle.archive_shape_canonical.proofs.Reaching.{All, AllIn, Met, none_met, plain_all, claimed_all, counted_all, more_met, none_reached, more_reached}

module _ (fit : Fit) (names : Names) (bytes : List ℕ) where
  plain_written : (p : Part) (l : Label) (ps : List Part) → content_of names bytes p ≡ plain l ps → IsClean names bytes p → AreSettled fit names bytes p ps → IsAsWritten fit names bytes p
  plain_written p l ps e clean settled =
      record {
        clean = clean;
        plain_settled = λ m qs f. subst (AreSettled fit names bytes p) (parts_of m qs f) settled;
        claimed_settled = λ s m qs f. absurd (let g = sym e ∙ f in cc);
      }
    where
      parts_of : (m : Label) (qs : List Part) → content_of names bytes p ≡ plain m qs → ps ≡ qs
      parts_of m qs f = let g : plain l ps ≡ plain m qs = sym e ∙ f in cc

  claimed_written : (p : Part) (s : Span) (l : Label) (ps : List Part) → content_of names bytes p ≡ claimed s l ps → IsClean names bytes p → AreSettled fit names bytes p ps → IsAsWritten fit names bytes p
  claimed_written p s l ps e clean settled =
      record {
        clean = clean;
        plain_settled = λ m qs f. absurd (let g = sym e ∙ f in cc);
        claimed_settled = λ t m qs f. subst (AreSettled fit names bytes p) (parts_of t m qs f) settled;
      }
    where
      parts_of : (t : Span) (m : Label) (qs : List Part) → content_of names bytes p ≡ claimed t m qs → ps ≡ qs
      parts_of t m qs f = let g : claimed s l ps ≡ claimed t m qs = sym e ∙ f in cc

  counted_written : (p : Part) (cyclic : Bool) (t : ℕ) (pointee : Pointee) (len : ℕ) → content_of names bytes p ≡ counting cyclic t pointee len → IsClean names bytes p → IsAsWritten fit names bytes p
  counted_written p cyclic t pointee len e clean =
      record {
        clean = clean;
        plain_settled = λ m qs f. absurd (let g = sym e ∙ f in cc);
        claimed_settled = λ s m qs f. absurd (let g = sym e ∙ f in cc);
      }

  settled_by : {level : ℕ} {inside : List OpenShared} {p : Part} {ps : List Part} {vs : Values} {rs : List Region} {before after : List Visit}
      → HoldAll names bytes level inside ps vs rs before after → IsSettled fit bytes p ps vs → AreSettled fit names bytes p ps
  settled_by {level = level} {inside = inside} {vs = vs} {rs = rs} {before = before} {after = after} all settled =
      record { level = level; inside = inside; regions = rs; before = before; after = after; values = vs; hold = all; settled = settled }

  -- ---- all steps

  abbrev Written : Part → Type 0
  Written p = IsAsWritten fit names bytes p

  mutual
    everywhere : {level : ℕ} {inside : List OpenShared} {p : Part} {v : Value} {rs : List Region} {before after : List Visit} (low : ℕ)
        → (h : Holds names bytes level inside p v rs before after) → IsCanonical fit h low → Met names bytes Written before → All names bytes Written p × Met names bytes Written after
    everywhere {p = p} low (holds_plain {l = l} {ps = ps} e legal all m) c met =
        let r = everywhere_in low all c.2 met in (plain_all names bytes Written p l ps e (plain_written p l ps e c.0 (settled_by all c.1)) r.0, r.1)
    everywhere {p = p} low (holds_claimed {s = s} {l = l} {ps = ps} e legal all m g) c met =
        let r = everywhere_in low all c.2 met in (claimed_all names bytes Written p s l ps e (claimed_written p s l ps e c.0 (settled_by all c.1)) r.0, r.1)
    everywhere {p = p} low (holds_first {w = w} {between = between} {cyclic = cyclic} {t = t} {q = q} {len = len} e a b h d g) c met =
        let r = everywhere low h c.1 met in (
          counted_all names bytes Written p cyclic t q len e (counted_written p cyclic t q len e c.0) r.0,
          subst (Met names bytes Written) (sym g) (more_met names bytes Written (record { pos = t; pointee = q; len = len; value = w }) between r.0 r.1),
        )
    everywhere {p = p} low (holds_later {w = w} {cyclic = cyclic} {t = t} {q = q} {len = len} e a b d g f) c met = (
      counted_all names bytes Written p cyclic t q len e (counted_written p cyclic t q len e c) (met (record { pos = t; pointee = q; len = len; value = w }) b),
      subst (Met names bytes Written) (sym f) met,
    )
    everywhere low (holds_back e a d g h) c met = absurd c

    everywhere_in : {level : ℕ} {inside : List OpenShared} {ps : List Part} {vs : Values} {rs : List Region} {before after : List Visit} (low : ℕ)
        → (all : HoldAll names bytes level inside ps vs rs before after) → AreCanonical fit all low → Met names bytes Written before → AllIn names bytes Written ps × Met names bytes Written after
    everywhere_in low (holds_none e f g) c met = (none_reached names bytes Written, subst (Met names bytes Written) (sym g) met)
    everywhere_in low (holds_more {p = p} {ps = ps} h hs e r) c met =
        let one = everywhere low h c.0 met in
        let rest = everywhere_in (end_of h low) hs c.1 one.1 in
        (more_reached names bytes Written one.0 rest.0, rest.1)

pub written_everywhere_law : WrittenEverywhere
written_everywhere_law fit names bytes start pos s v regions visits q x r =
    (everywhere fit names bytes start x.root.holds x.canonical (none_met names bytes (λ p. IsAsWritten fit names bytes p))).0 q r
