-- Pointers side by side are slots.
use Rattle.std.proofs.Common.{◌≡◌, ℕ, ◌+◌, ◌*◌, ◌≤◌, ◌∙◌, arith, length, length-append, append_assoc, append-nil, List, [], ◌∷◌, ◌++◌, Option, Ok, Err, refl, sym, subst, ap, inl, inr}
use Rattle.std.specs.Prelude.{Result, MatchResult}
use Rattle.archive_shape.specs.Bytes.{overwrite}
use Rattle.archive_shape_layout.specs.declared.error.Error.{Error}
use Rattle.archive_forms_laws.specs.State.{State, initial}
use Rattle.archive_forms_laws.specs.Links.{link_bytes, LinkFits, LinkRefused}
use Rattle.archive_btree_spelling.specs.Written.{slots, AllSlots, AnySlot, links, LinksFit, LinksRefused}
use Rattle.archive_forms_laws.proofs.Links.{length-link}
use Rattle.archive_forms_values.proofs.Joined.{overwrites_joined}
use Rattle.archive_btree_writing.proofs.Slots.{Laid}

-- a pointer has no data
abbrev pub no_data : Option ℕ → State → State
no_data to st = st

pub links_are : (roots : List (Option ℕ)) (st : State) (pos : ℕ) → slots no_data 4 (λ to st here. link_bytes to here) roots st pos ≡ links roots pos
links_are [] st pos = refl
links_are (to ∷ more) st pos = ap (λ l. link_bytes to pos ++ l) (links_are more st (pos + 4))

pub links_fit : (roots : List (Option ℕ)) (st : State) (pos : ℕ) → AllSlots no_data 4 (λ to st here. LinkFits to here) roots st pos → LinksFit roots pos
links_fit [] st pos f = tt
links_fit (to ∷ more) st pos f = (f.0, links_fit more st (pos + 4) f.1)

pub links_refused : (roots : List (Option ℕ)) (st : State) (pos : ℕ) (e : Error) → AnySlot no_data 4 (λ to st here. LinkRefused to here e) roots st pos → LinksRefused roots pos e
links_refused [] st pos e r = r
links_refused (to ∷ more) st pos e (inl r) = inl r
links_refused (to ∷ more) st pos e (inr r) = inr (links_refused more st (pos + 4) e r)

-- the first pointers are written
abbrev pub LinksLaid : List (Option ℕ) → List ℕ → (start pos i : ℕ) → List ℕ → Type 0
LinksLaid roots bytes start pos i now = Laid no_data 4 (λ to st here. link_bytes to here) (λ to st here. LinkFits to here) (λ to st here f. length-link to here) roots bytes start pos initial i now

pub length-links : (roots : List (Option ℕ)) (pos : ℕ) → length (links roots pos) ≡ length roots * 4
length-links [] pos = refl
length-links (to ∷ more) pos = length-append (link_bytes to pos) (links more (pos + 4)) ∙ omega (arith, length-link to pos, length-links more (pos + 4))

-- ---- a pointer after others

pub links_append : (roots more : List (Option ℕ)) (pos at : ℕ) → at ≡ pos + length roots * 4 → links (roots ++ more) pos ≡ links roots pos ++ links more at
links_append [] more pos at e = ap (links more) (omega (arith, e))
links_append (to ∷ roots) more pos at e =
    ap (λ l. link_bytes to pos ++ l) (links_append roots more (pos + 4) at (omega (arith, e))) ∙ sym (append_assoc (link_bytes to pos) (links roots (pos + 4)) (links more at))

pub links_fit_append : (roots more : List (Option ℕ)) (pos at : ℕ) → at ≡ pos + length roots * 4 → LinksFit roots pos → LinksFit more at → LinksFit (roots ++ more) pos
links_fit_append [] more pos at e f g = let F : ℕ → Type 0 = LinksFit more in let here : at ≡ pos = omega (arith, e) in subst F here g
links_fit_append (to ∷ roots) more pos at e f g = (f.0, links_fit_append roots more (pos + 4) at (omega (arith, e)) f.1 g)

pub links_refused_first : (roots more : List (Option ℕ)) (pos : ℕ) (e : Error) → LinksRefused roots pos e → LinksRefused (roots ++ more) pos e
links_refused_first [] more pos e r = absurd r
links_refused_first (to ∷ roots) more pos e (inl r) = inl r
links_refused_first (to ∷ roots) more pos e (inr r) = inr (links_refused_first roots more (pos + 4) e r)

pub links_refused_behind : (roots more : List (Option ℕ)) (pos at : ℕ) (e : Error) → at ≡ pos + length roots * 4 → LinksRefused more at e → LinksRefused (roots ++ more) pos e
links_refused_behind [] more pos at e is r = let F : ℕ → Type 0 = λ n. LinksRefused more n e in let here : at ≡ pos = omega (arith, is) in subst F here r
links_refused_behind (to ∷ roots) more pos at e is r = inr (links_refused_behind roots more (pos + 4) at e (omega (arith, is)) r)

-- the greater pointer is written after the lesser ones
pub greater_stored :
    (roots : List (Option ℕ)) (greater : Option ℕ) (bytes mid next : List ℕ) (start pos at : ℕ) (result : Result (Unit {0}) Error)
    → start + (length roots * 4 + 4) ≤ length bytes → at ≡ length roots * 4
    → LinksFit roots pos × (mid ≡ overwrite bytes start (links roots pos))
    → MatchResult result (λ _. LinkFits greater (pos + at) × (next ≡ overwrite mid (start + at) (link_bytes greater (pos + at)))) (LinkRefused greater (pos + at))
    → MatchResult result (λ _. LinksFit (roots ++ greater ∷ []) pos × (next ≡ overwrite bytes start (links (roots ++ greater ∷ []) pos))) (LinksRefused (roots ++ greater ∷ []) pos)
greater_stored roots greater bytes mid next start pos at (Ok u) room is h g =
    let there : pos + at ≡ pos + length roots * 4 = omega (arith, is) in
    let last = link_bytes greater (pos + at) in
    let long : at ≡ length (links roots pos) = is ∙ sym (length-links roots pos) in
    let one : length last ≡ 4 = length-link greater (pos + at) in (
      links_fit_append roots (greater ∷ []) pos (pos + at) there h.0 (g.0, tt),
      g.1
          ∙ ap (λ l. overwrite l (start + at) last) h.1
          ∙ overwrites_joined bytes start at (links roots pos) last long (omega (arith, is, long, one, room))
          ∙ ap (overwrite bytes start) (ap (λ l. links roots pos ++ l) (sym (append-nil last)) ∙ sym (links_append roots (greater ∷ []) pos (pos + at) there)),
    )
greater_stored roots greater bytes mid next start pos at (Err e) room is h r =
    let there : pos + at ≡ pos + length roots * 4 = omega (arith, is) in links_refused_behind roots (greater ∷ []) pos (pos + at) e there (inl r)
