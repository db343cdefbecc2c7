-- What is canonical stays so where the part's own bytes and those that it claims stay.
use Rattle.std.proofs.Common.{◌++◌, ap₂, ◌≡◌, ℕ, Bool, true, false, zero, suc, List, [], ◌∷◌, refl, ap, sym, subst, ◌∙◌}
use Rattle.archive_shape_layout.specs.Bytes.{align_up}
use Rattle.archive_shape_layout.specs.Value.{Value, Values}
use Rattle.archive_shape_layout.specs.Shape.{Shape, Pointee}
use Rattle.archive_shape_layout.specs.Shape.Pointee.{sized, slice, str}
use Rattle.archive_shape_layout.specs.Content.{choose, Names, Part, Item, Span, Label, content_of, shape_content, pointee_content, node_content, child_content, buckets_content, place_content}
use Rattle.archive_shape_layout.specs.Content.Part.{at, behind, node, child, entry, buckets, place_at}
use Rattle.archive_shape_layout.specs.Content.Content.{illegal, claimed, counting}
use Rattle.archive_shape_layout.specs.Laws.{OwnAgrees, RegionsAgree}
use Rattle.archive_shape_layout.specs.Holds.{Region, region_of, Visit, OpenShared, Holds, HoldAll}
use Rattle.archive_shape_layout.specs.Holds.Holds.{holds_plain, holds_claimed, holds_first, holds_later, holds_back}
use Rattle.archive_shape_layout.specs.Holds.HoldAll.{holds_none, holds_more}
use Rattle.archive_shape_layout.proofs.Framed.{AllOwn, own_more, Settled, plain_own, claimed_own, settled, one_region, stable_plain, stable_claimed, RegionsAgree-append}
use Rattle.archive_shape_canonical.specs.Seen.{seen_bytes_of, seen_bytes, first_seen_bytes, seen_values}
use Rattle.archive_shape_canonical.specs.Sharing.{end_of_shared}
use Rattle.archive_shape_canonical.specs.Settled.{Fit, SeenSettled, IsSettled}
use Rattle.archive_shape_canonical.specs.Canonical.{end_of, end_of_all, IsCanonical, AreCanonical}
use Rattle.archive_shape_canonical.specs.Laws.{CanonicalFrame}
use Rattle.archive_shape_canonical.proofs.Kept.{plain_seen, counting_seen, span_seen, plain_stays, claimed_stays, counting_stays}

never_counts : (b : Bool) (s : Span) (l : Label) (ps : List Part) {cyclic : Bool} {t : ℕ} {q : Pointee} {len : ℕ} → choose b (claimed s l ps) illegal ≡ counting cyclic t q len → ⊥
unfolding choose
never_counts true s l ps e = cc
never_counts false s l ps e = cc

pointee_claims : (bytes : List ℕ) (pos : ℕ) (r : Pointee) (n : ℕ) {cyclic : Bool} {t : ℕ} {q : Pointee} {len : ℕ} → pointee_content bytes pos r n ≡ counting cyclic t q len → ⊥
unfolding pointee_content
pointee_claims bytes pos (sized s) n e = cc
pointee_claims bytes pos (slice s) n e = cc
pointee_claims bytes pos str n e = cc

node_claims : (level most : ℕ) (k v : Shape) (pos kind : ℕ) (own : List ℕ) {cyclic : Bool} {t : ℕ} {q : Pointee} {len : ℕ} → node_content level most k v pos kind own ≡ counting cyclic t q len → ⊥
unfolding node_content
node_claims level most k v pos zero own e = never_counts _ _ _ _ e
node_claims level most k v pos (suc zero) own e = never_counts _ _ _ _ e
node_claims level most k v pos (suc (suc kind)) own e = cc

buckets_claims : (target n cap : ℕ) (it : Item) (own : List ℕ) {cyclic : Bool} {t : ℕ} {q : Pointee} {len : ℕ} → buckets_content target n cap it own ≡ counting cyclic t q len → ⊥
unfolding buckets_content
buckets_claims target n cap it own e = never_counts _ _ _ _ e

module _ (bytes others : List ℕ) (names : Names) (fit : Fit) where
  pub record SeenCanonicalIn (level : ℕ) (inside : List OpenShared) (p : Part) (v : Value) (rs : List Region) (before after : List Visit) (low end : ℕ) : Type 0 where
    pub holds : Holds names others level inside p v rs before after
    pub canonical : IsCanonical fit holds low
    pub ends : end_of holds low ≡ end
    pub seen_bytes : seen_bytes_of bytes p ≡ seen_bytes_of others p

  pub record SeenAllCanonicalIn (level : ℕ) (inside : List OpenShared) (ps : List Part) (vs : Values) (rs : List Region) (before after : List Visit) (low end : ℕ) : Type 0 where
    pub all : HoldAll names others level inside ps vs rs before after
    pub canonical : AreCanonical fit all low
    pub ends : end_of_all all low ≡ end
    pub seen_bytes : first_seen_bytes bytes ps ≡ first_seen_bytes others ps

  pub settled_still : (p : Part) (ps : List Part) (vs us : Values) → seen_bytes_of bytes p ≡ seen_bytes_of others p → first_seen_bytes bytes ps ≡ first_seen_bytes others ps → seen_values p ps us ≡ seen_values p ps vs
      → IsSettled fit bytes p ps vs → IsSettled fit others p ps us
  settled_still p ps vs us a b same h =
      subst (λ x. SeenSettled fit x p ps (seen_values p ps us)) (ap₂ (λ x y. x ++ y) a b) (subst (SeenSettled fit (seen_bytes bytes p ps) p ps) (sym same) h)

  stable_counting : (p : Part) (cyclic : Bool) (t : ℕ) (q : Pointee) (len : ℕ) → OwnAgrees bytes others p → content_of names bytes p ≡ counting cyclic t q len → content_of names others p ≡ counting cyclic t q len
  stable_counting (at pos s) cyclic t q len own e = ap (λ w. shape_content names pos w s) (sym own) ∙ e
  stable_counting (behind pos r n) cyclic t q len own e = absurd (pointee_claims bytes pos r n e)
  stable_counting (node level most k v pos) cyclic t q len own e = absurd (node_claims level most k v pos _ _ e)
  stable_counting (child level most k v pos) cyclic t q len own e = ap (child_content level most k v pos) (sym own) ∙ e
  stable_counting (entry k key_pos v value_pos) cyclic t q len own e = e
  stable_counting (buckets target n cap it) cyclic t q len own e = absurd (buckets_claims target n cap it _ e)
  stable_counting (place_at pos limit) cyclic t q len own e = ap (place_content limit) (sym own) ∙ e

  mutual
    pub framed :
        {level : ℕ} {inside : List OpenShared} {p : Part} {v : Value} {rs : List Region} {before after : List Visit} (low low' : ℕ)
        → OwnAgrees bytes others p → RegionsAgree bytes others rs
        → (h : Holds names bytes level inside p v rs before after) → IsCanonical fit h low → low' ≡ low
        → SeenCanonicalIn level inside p v rs before after low' (end_of h low)
    framed low low' own regions (holds_plain {p = p} {l = l} {ps = ps} {vs = vs} e legal all m) n eq =
        let parts = plain_own bytes others (subst (Settled bytes others) e (settled bytes others names p own)) in
        let alike = stable_plain bytes others names p own e in
        let seen = plain_seen bytes others names p e in
        let d = framed_all low low' parts regions all n.2 eq in
        record { seen_bytes = seen; holds = holds_plain alike legal d.all m; canonical = (plain_stays bytes others names p e alike own n.0, settled_still p ps vs vs seen d.seen_bytes refl n.1, d.canonical); ends = d.ends }
    framed low low' own regions (holds_claimed {level = level} {p = p} {within = within} {s = s} {l = l} {ps = ps} {vs = vs} e legal all m r) n eq =
        let split = RegionsAgree-append bytes others within (region_of s level ∷ []) (subst (RegionsAgree bytes others) r regions) in
        let here = one_region bytes others s level split.1 in
        let parts = claimed_own bytes others (subst (Settled bytes others) e (settled bytes others names p own)) here in
        let alike = stable_claimed bytes others names p own here e in
        let seen = span_seen bytes others names p e alike here in
        let d = framed_all low low' parts split.0 all n.2 eq in
        record {
          seen_bytes = seen;
          holds = holds_claimed alike legal d.all m r;
          canonical = (claimed_stays bytes others names p e alike own here n.0, settled_still p ps vs vs seen d.seen_bytes refl n.1, d.canonical, n.3 ∙ ap (λ x. align_up x s.align) (sym d.ends));
          ends = refl;
        }
    framed low low' own regions (holds_first {p = p} {cyclic = cyclic} {t = t} {q = q} {len = len} e a b h x g) n eq =
        let alike = stable_counting p cyclic t q len own e in
        let d = framed low low' tt regions h n.1 eq in
        record { seen_bytes = counting_seen bytes others names p e; holds = holds_first alike a b d.holds x g; canonical = (counting_stays bytes others names p e alike own n.0, d.canonical); ends = ap (end_of_shared t) d.ends }
    framed low low' own regions (holds_later {p = p} {cyclic = cyclic} {t = t} {q = q} {len = len} e a b x r g) n eq =
        let alike = stable_counting p cyclic t q len own e in
        record { seen_bytes = counting_seen bytes others names p e; holds = holds_later alike a b x r g; canonical = counting_stays bytes others names p e alike own n; ends = eq }
    framed low low' own regions (holds_back e a x r g) n eq = absurd n

    pub framed_all :
        {level : ℕ} {inside : List OpenShared} {ps : List Part} {vs : Values} {rs : List Region} {before after : List Visit} (low low' : ℕ)
        → AllOwn bytes others ps → RegionsAgree bytes others rs
        → (all : HoldAll names bytes level inside ps vs rs before after) → AreCanonical fit all low → low' ≡ low
        → SeenAllCanonicalIn level inside ps vs rs before after low' (end_of_all all low)
    framed_all low low' own regions (holds_none e f g) n eq = record { seen_bytes = refl; all = holds_none e f g; canonical = tt; ends = eq }
    framed_all low low' (own_more here rest) regions (holds_more {here = rs} {later = qs} h hs e r) n eq =
        let split = RegionsAgree-append bytes others rs qs (subst (RegionsAgree bytes others) r regions) in
        let d = framed low low' here split.0 h n.0 eq in
        let ds = framed_all (end_of h low) (end_of d.holds low') rest split.1 hs n.1 d.ends in
        record { seen_bytes = d.seen_bytes; all = holds_more d.holds ds.all e r; canonical = (d.canonical, ds.canonical); ends = ds.ends }

pub canonical_frame_law : CanonicalFrame
canonical_frame_law fit names bytes others level inside p v regions before after low own agree h n =
    let d = framed bytes others names fit low low own agree h n refl in
    record { holds = d.holds; canonical = d.canonical; ends = d.ends }
