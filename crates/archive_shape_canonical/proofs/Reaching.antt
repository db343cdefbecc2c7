-- Parts that are reached: what holds of all of them, by steps from a part to its parts.
use Rattle.std.proofs.Common.{◌≡◌, ℕ, Bool, true, false, cond, ◌==◌, List, [], ◌∷◌, Some, sym, subst, ◌∙◌}
use Rattle.archive_shape_layout.specs.Shape.{Pointee}
use Rattle.archive_shape_layout.specs.Content.{Names, Part, Span, Label, content_of}
use Rattle.archive_shape_layout.specs.Content.Part.{behind}
use Rattle.archive_shape_layout.specs.Content.Content.{plain, claimed, counting}
use Rattle.archive_shape_layout.specs.Holds.{Visit, visited}
use Rattle.archive_shape_canonical.specs.Everywhere.{Reaches, reaches_here, reaches_plain, reaches_claimed, reaches_counted, ReachesIn, reaches_first, reaches_later}

module _ (names : Names) (bytes : List ℕ) where
  -- what is reached from what is reached
  mutual
    pub reaches_on : {p q r : Part} → Reaches names bytes q p → Reaches names bytes r q → Reaches names bytes r p
    reaches_on {r = r} (reaches_here e) f = subst (Reaches names bytes r) (sym e) f
    reaches_on (reaches_plain e g) f = reaches_plain e (reaches_on_in g f)
    reaches_on (reaches_claimed e g) f = reaches_claimed e (reaches_on_in g f)
    reaches_on (reaches_counted e g) f = reaches_counted e (reaches_on g f)

    reaches_on_in : {q r : Part} {ps : List Part} → ReachesIn names bytes q ps → Reaches names bytes r q → ReachesIn names bytes r ps
    reaches_on_in (reaches_first g) f = reaches_first (reaches_on g f)
    reaches_on_in (reaches_later g) f = reaches_later (reaches_on_in g f)

module _ (names : Names) (bytes : List ℕ) (P : Part → Type 0) where
  -- of a part and every part in it
  abbrev pub All : Part → Type 0
  All p = (q : Part) → Reaches names bytes q p → P q

  abbrev pub AllIn : List Part → Type 0
  AllIn ps = (q : Part) → ReachesIn names bytes q ps → P q

  -- of every shared value that was visited
  abbrev pub Met : List Visit → Type 0
  Met visits = (x : Visit) → visited visits x.pos ≡ Some x → All (behind x.pos x.pointee x.len)

  pub none_met : Met []
  none_met x e = absurd (cc)

  pub plain_all : (p : Part) (l : Label) (ps : List Part) → content_of names bytes p ≡ plain l ps → P p → AllIn ps → All p
  plain_all p l ps e here below q (reaches_here same) = subst P same here
  plain_all p l ps e here below q (reaches_plain {l = m} {ps = qs} f r) =
      let g : plain l ps ≡ plain m qs = sym e ∙ f in
      let alike : qs ≡ ps = cc in
      below q (subst (ReachesIn names bytes q) alike r)
  plain_all p l ps e here below q (reaches_claimed f r) = absurd (let g = sym e ∙ f in cc)
  plain_all p l ps e here below q (reaches_counted f r) = absurd (let g = sym e ∙ f in cc)

  pub claimed_all : (p : Part) (s : Span) (l : Label) (ps : List Part) → content_of names bytes p ≡ claimed s l ps → P p → AllIn ps → All p
  claimed_all p s l ps e here below q (reaches_here same) = subst P same here
  claimed_all p s l ps e here below q (reaches_claimed {s = t} {l = m} {ps = qs} f r) =
      let g : claimed s l ps ≡ claimed t m qs = sym e ∙ f in
      let alike : qs ≡ ps = cc in
      below q (subst (ReachesIn names bytes q) alike r)
  claimed_all p s l ps e here below q (reaches_plain f r) = absurd (let g = sym e ∙ f in cc)
  claimed_all p s l ps e here below q (reaches_counted f r) = absurd (let g = sym e ∙ f in cc)

  pub counted_all : (p : Part) (cyclic : Bool) (t : ℕ) (pointee : Pointee) (len : ℕ) → content_of names bytes p ≡ counting cyclic t pointee len → P p → All (behind t pointee len) → All p
  counted_all p cyclic t pointee len e here below q (reaches_here same) = subst P same here
  counted_all p cyclic t pointee len e here below q (reaches_counted {cyclic = c} {t = u} {pointee = r} {len = n} f there) =
      let g : counting cyclic t pointee len ≡ counting c u r n = sym e ∙ f in
      let alike : behind u r n ≡ behind t pointee len = cc in
      below q (subst (Reaches names bytes q) alike there)
  counted_all p cyclic t pointee len e here below q (reaches_plain f r) = absurd (let g = sym e ∙ f in cc)
  counted_all p cyclic t pointee len e here below q (reaches_claimed f r) = absurd (let g = sym e ∙ f in cc)

  -- one more is visited
  pub more_met : (x : Visit) (visits : List Visit) → All (behind x.pos x.pointee x.len) → Met visits → Met (x ∷ visits)
  more_met x visits here met y e = by_test (x.pos == y.pos) e
    where
      by_test : (b : Bool) → cond b (Some x) (visited visits y.pos) ≡ Some y → All (behind y.pos y.pointee y.len)
      by_test true f = let same : x ≡ y = cc in subst (λ (z : Visit). All (behind z.pos z.pointee z.len)) same here
      by_test false f = met y f

  pub none_reached : AllIn []
  none_reached q r = elim r [ ]

  pub more_reached : {p : Part} {ps : List Part} → All p → AllIn ps → AllIn (p ∷ ps)
  more_reached one rest q (reaches_first r) = one q r
  more_reached one rest q (reaches_later r) = rest q r
