-- What holds of a list that is written below a pointer, and that the pointers of a node are read as they are written.
use Rattle.std.proofs.Common.{◌≡◌, ℕ, ◌+◌, ◌*◌, ◌^◌, ◌≤◌, ◌<◌, nat_le, ◌==◌, Bool, true, false, List, [], ◌∷◌, ◌++◌, refl, length, sym, ap, ap₂, subst, ◌∙◌, arith, Option, Some, None, inl, inr, length-append, add-zero, eqb-true, eq-eqb}
use Rattle.std.specs.Prelude.{⊤}
use Rattle.std.proofs.lemmas.Bool.Decides.{nat_tests}
use Rattle.archive_shape_layout.specs.Bytes.{window, word_at, target_from}
use Rattle.archive_shape_layout.specs.Shape.{Shape}
use Rattle.archive_shape_layout.specs.Value.{Value, Values, append_values, count_values}
use Rattle.archive_shape_layout.specs.Value.Value.{group}
use Rattle.archive_shape_layout.specs.Value.Values.{no_values, more_values}
use Rattle.archive_shape_layout.specs.Content.{Names, Part, children, made, members, content_of, child_content, choose, following}
use Rattle.archive_shape_layout.specs.Content.Part.{node, child}
use Rattle.archive_shape_layout.specs.Content.Label.{whole, same}
use Rattle.archive_shape_layout.specs.Content.Content.{plain, illegal}
use Rattle.archive_shape_layout.specs.Holds.{OpenShared, Visit, Ascends}
use Rattle.archive_shape_layout.specs.Holds.Holds.{holds_plain}
use Rattle.archive_shape_layout.specs.Holds.HoldAll.{holds_none}
use Rattle.archive_shape_canonical.specs.Settled.{Fit, HasItems}
use Rattle.archive_shape_canonical.specs.Seen.{keys_alone, by_keys}
use Rattle.archive_shape_canonical.specs.Sharing.{erased, all_erased}
use Rattle.archive_shape_canonical.specs.Canonical.{AreBytes}
use Rattle.archive_shape_canonical.proofs.Cleanness.{clean_by}
use Rattle.archive_shape.specs.Bytes.{HasBytes}
use Rattle.archive_shape.proofs.Pieces.{stands_left, stands_right, stands_word}
use Rattle.archive_shape_layout.specs.declared.error.Error.{Error}
use Rattle.archive_forms_laws.specs.State.{State, Keys, visits_of, IsConsistent, AllFrom, AreKeyedBy}
use Rattle.archive_forms_laws.specs.Spelling.{Spelling, state_after}
use Rattle.archive_forms_laws.specs.Spells.{CanonicalPart}
use Rattle.archive_forms_laws.specs.Regions.{state_after_all, resolvers, values, plain_values, all_suit, pieces, pieces_fit, pieces_refused}
use Rattle.archive_forms_laws.proofs.States.{from_earlier}
use Rattle.archive_forms_laws.proofs.Gaps.{bytes_none, bytes_append}
use Rattle.archive_forms_laws.proofs.Regions.{CanonicalParts, more_parts}
use Rattle.archive_forms_laws.proofs.Pointers.{offset_stands, one_part}
use Rattle.archive_forms_laws.specs.Links.{link_bytes, LinkFits}
use Rattle.archive_forms_laws.proofs.Links.{link_small, link_exact, length-link}
use Rattle.archive_btree_spelling.specs.Written.{entry_spelling, links, LinksFit, LinksRefused}
use Rattle.archive_shape_layout.proofs.Windows.{word_within}

-- the offset 1 leads one further
target_of_one : (pos : ℕ) → target_from pos 1 ≡ Some (pos + 1)
unfolding target_from
target_of_one pos = refl

pub count_keys_alone : (vs : Values) → count_values (keys_alone vs) ≡ count_values vs
count_keys_alone no_values = refl
count_keys_alone (more_values v vs) = ap (λ z. 1 + z) (count_keys_alone vs)

-- an offset back does not lead to nothing
pub leads_back : (pos word root : ℕ) → target_from pos word ≡ Some root → root < pos → (word == 1) ≡ false
leads_back pos word root e before = tested (word == 1) refl
  where
    tested : (b : Bool) → (word == 1) ≡ b → (word == 1) ≡ false
    tested false f = f
    tested true f =
        let one : Some (pos + 1) ≡ Some root = sym (target_of_one pos) ∙ ap (target_from pos) (sym (eqb-true word 1 f)) ∙ e in
        let same : pos + 1 ≡ root = cc in
        absurd (omega (arith, same, before))

-- a pointer back leads to a node on one of 32 levels
pub child_leads : (t most : ℕ) (k v : Shape) (pos : ℕ) (own : List ℕ) (root : ℕ) → (word_at own 0 == 1) ≡ false → nat_le t 32 ≡ true → target_from pos (word_at own 0) ≡ Some root
    → child_content t most k v pos own ≡ plain same (node t most k v root ∷ [])
unfolding child_content choose following
child_leads t most k v pos own root away room target =
    ap (λ z. choose z (plain whole []) (choose (nat_le t 32) (following (target_from pos (word_at own 0)) (λ a. plain same (node t most k v a ∷ []))) illegal)) away
    ∙ ap (λ z. choose z (following (target_from pos (word_at own 0)) (λ a. plain same (node t most k v a ∷ []))) illegal) room
    ∙ ap (λ z. following z (λ a. plain same (node t most k v a ∷ []))) target

-- ---- pointers side by side

pub links_bytes : (roots : List (Option ℕ)) (pos : ℕ) → AreBytes (links roots pos)
links_bytes [] pos = bytes_none
links_bytes (to ∷ more) pos = bytes_append (link_bytes to pos) _ (link_small to pos) (links_bytes more (pos + 4))

pub links_exact : (roots : List (Option ℕ)) (pos : ℕ) (e : Error) → LinksFit roots pos → LinksRefused roots pos e → ⊥
links_exact [] pos e f r = r
links_exact (to ∷ more) pos e f (inl r) = link_exact to pos e f.0 r
links_exact (to ∷ more) pos e f (inr r) = links_exact more (pos + 4) e f.1 r

-- a value is a group of n items
pub record Counted (n : ℕ) (value : Value) : Type 0 where
  pub items : Values
  pub is : value ≡ group items
  pub count : count_values items ≡ n

module _ {A B R Q : Type 0} (fit : Fit) (most : ℕ) (k v : Shape) (knows : Names → Type 0) (keys : Spelling A R) (vals : Spelling B Q) where
  -- the node at the root of what is below a pointer, where there is one
  pub record Rooted (l : ℕ) (w : Spelling (List (A × B)) (Option ℕ)) (xs : List (A × B)) (st : State) (root : ℕ) : Type 0 where
    pub some : 0 < length xs
    pub levels : 0 < l
    pub before : w.piece_fits xs st → root < (state_after w xs st).pos
    pub canonical :
        (names : Names) (given : Keys) (bytes : List ℕ) (level : ℕ) (inside : List OpenShared) (t : ℕ)
        → t + l ≤ 33
        → length xs < 2 ^ 32
        → knows names
        → all_suit (entry_spelling most k v keys vals) fit given xs
        → AreKeyedBy given st.met
        → IsConsistent st
        → AllFrom (state_after w xs st).pos inside
        → w.piece_fits xs st
        → HasBytes bytes st.pos (w.piece xs st)
        → CanonicalPart fit names bytes level inside (visits_of st.met) (visits_of (w.met xs st)) (node t most k v root) (w.value xs st) st.pos (state_after w xs st).pos

  -- there is none
  pub record Rootless (w : Spelling (List (A × B)) (Option ℕ)) (xs : List (A × B)) (st : State) : Type 0 where
    pub none : xs ≡ []
    pub piece : w.piece xs st ≡ []
    pub value : w.value xs st ≡ group no_values
    pub met : w.met xs st ≡ st.met

  -- what holds of items that are written below a pointer on at most l levels
  pub record TreeSpells (l : ℕ) (w : Spelling (List (A × B)) (Option ℕ)) (xs : List (A × B)) : Type 0 where
    pub absent : (st : State) → w.resolver xs st ≡ None → Rootless w xs st
    pub present : (st : State) (root : ℕ) → w.resolver xs st ≡ Some root → Rooted l w xs st root
    pub counted : (st : State) → Counted (length xs) (w.value xs st)
    pub consistent : (st : State) → IsConsistent st → w.piece_fits xs st → IsConsistent (state_after w xs st)
    pub keyed :
        (given : Keys) (st : State) → all_suit (entry_spelling most k v keys vals) fit given xs → AreKeyedBy given st.met → w.piece_fits xs st
        → (erased (w.value xs st) ≡ group (plain_values (entry_spelling most k v keys vals) xs)) × AreKeyedBy given (w.met xs st)
    pub piece_bytes : (st : State) → w.piece_fits xs st → AreBytes (w.piece xs st)
    pub piece_exact : (st : State) (e : Error) → w.piece_fits xs st → w.piece_refused xs st e → ⊥

  module _ (l : ℕ) (w : Spelling (List (A × B)) (Option ℕ)) where
    abbrev pub EachTreeSpells : List (List (A × B)) → Type 0
    EachTreeSpells [] = ⊤
    EachTreeSpells (xs ∷ xss) = TreeSpells l w xs × EachTreeSpells xss

    abbrev pub AllSuit : Keys → List (List (A × B)) → Type 0
    AllSuit given [] = ⊤
    AllSuit given (xs ∷ xss) = all_suit (entry_spelling most k v keys vals) fit given xs × AllSuit given xss

    abbrev pub AllSmall : List (List (A × B)) → Type 0
    AllSmall [] = ⊤
    AllSmall (xs ∷ xss) = (length xs < 2 ^ 32) × AllSmall xss

    pub length-links-below : (xss : List (List (A × B))) (st : State) (pos : ℕ) → length (links (resolvers w xss st) pos) ≡ length xss * 4
    length-links-below [] st pos = omega arith
    length-links-below (xs ∷ xss) st pos =
        let then = state_after w xs st in
        let rest = length-links-below xss then (pos + 4) in
        let first = length-link (w.resolver xs st) pos in
        length-append (link_bytes (w.resolver xs st) pos) (links (resolvers w xss then) (pos + 4)) ∙ omega (arith, first, rest)

    pub children_after_pos : (xss : List (List (A × B))) (st : State) → (state_after_all w xss st).pos ≡ st.pos + length (pieces w xss st)
    children_after_pos [] st = sym (add-zero st.pos)
    children_after_pos (xs ∷ xss) st = let rest = children_after_pos xss (state_after w xs st) in omega (arith, rest, length-append (w.piece xs st) (pieces w xss (state_after w xs st)))

    pub children_begun : (xss : List (List (A × B))) (st : State) → (state_after_all w xss st).begun ≡ st.begun
    children_begun [] st = refl
    children_begun (xs ∷ xss) st = children_begun xss (state_after w xs st)

    pub children_consistent : (xss : List (List (A × B))) (each : EachTreeSpells xss) (st : State) → IsConsistent st → pieces_fit w xss st → IsConsistent (state_after_all w xss st)
    children_consistent [] each st h f = h
    children_consistent (xs ∷ xss) each st h f = children_consistent xss each.1 (state_after w xs st) (each.0.consistent st h f.0) f.1

    pub children_bytes : (xss : List (List (A × B))) (each : EachTreeSpells xss) (st : State) → pieces_fit w xss st → AreBytes (pieces w xss st)
    children_bytes [] each st f = bytes_none
    children_bytes (xs ∷ xss) each st f = bytes_append (w.piece xs st) _ (each.0.piece_bytes st f.0) (children_bytes xss each.1 (state_after w xs st) f.1)

    pub children_exact : (xss : List (List (A × B))) (each : EachTreeSpells xss) (st : State) (e : Error) → pieces_fit w xss st → pieces_refused w xss st e → ⊥
    children_exact [] each st e f r = r
    children_exact (xs ∷ xss) each st e f (inl r) = each.0.piece_exact st e f.0 r
    children_exact (xs ∷ xss) each st e f (inr r) = children_exact xss each.1 (state_after w xs st) e f.1 r

    -- what each pointer leads to, as a value without positions
    abbrev pub plain_children : List (List (A × B)) → Values
    plain_children [] = no_values
    plain_children (xs ∷ xss) = more_values (group (plain_values (entry_spelling most k v keys vals) xs)) (plain_children xss)

    pub children_keyed : (xss : List (List (A × B))) (each : EachTreeSpells xss) (given : Keys) (st : State) → AllSuit given xss → AreKeyedBy given st.met → pieces_fit w xss st
        → (all_erased (values w xss st) ≡ plain_children xss) × AreKeyedBy given (state_after_all w xss st).met
    children_keyed [] each given st n known f = (refl, known)
    children_keyed (xs ∷ xss) each given st n known f =
        let first = each.0.keyed given st n.0 known f.0 in
        let rest = children_keyed xss each.1 given (state_after w xs st) n.1 first.1 f.1 in
        (ap₂ more_values first.0 rest.0, rest.1)

    -- a pointer is read as it is written
    pub child_canonical :
        (xs : List (A × B)) (one : TreeSpells l w xs) (st : State) (pos : ℕ) (names : Names) (given : Keys) (bytes : List ℕ) (level : ℕ) (inside : List OpenShared) (t : ℕ)
        → t + l ≤ 33
        → length xs < 2 ^ 32
        → knows names
        → all_suit (entry_spelling most k v keys vals) fit given xs
        → AreKeyedBy given st.met
        → IsConsistent st
        → AllFrom (state_after w xs st).pos inside
        → w.piece_fits xs st
        → LinkFits (w.resolver xs st) pos
        → (state_after w xs st).pos ≤ pos
        → HasBytes bytes st.pos (w.piece xs st)
        → HasBytes bytes pos (link_bytes (w.resolver xs st) pos)
        → CanonicalPart fit names bytes level inside (visits_of st.met) (visits_of (w.met xs st)) (child t most k v pos) (w.value xs st) st.pos (state_after w xs st).pos
    unfolding child_content choose made Ascends
    child_canonical xs one st pos names given bytes level inside t low small kn n known state over f o behind p q = by_root (w.resolver xs st) refl o q
      where
        by_root : (root : Option ℕ) → w.resolver xs st ≡ root → LinkFits root pos → HasBytes bytes pos (link_bytes root pos)
            → CanonicalPart fit names bytes level inside (visits_of st.met) (visits_of (w.met xs st)) (child t most k v pos) (w.value xs st) st.pos (state_after w xs st).pos
        by_root None e g b =
            let r = one.absent st e in
            let word : word_at (window bytes pos 4) 0 ≡ 1 = word_within bytes pos 4 0 (omega arith) ∙ ap (word_at bytes) (add-zero pos) ∙ stands_word bytes pos 1 (omega arith) b in
            let is_none : (word_at (window bytes pos 4) 0 == 1) ≡ true = eq-eqb _ _ word in
            let c : content_of names bytes (child t most k v pos) ≡ plain whole [] = ap (λ z. choose z (plain whole []) (choose (nat_le t 32) (following (target_from pos (word_at (window bytes pos 4) 0)) (λ a. plain same (node t most k v a ∷ []))) illegal)) is_none in
            let empty : st.pos ≡ st.pos + length (w.piece xs st) = sym (ap (λ z. st.pos + length z) r.piece ∙ add-zero st.pos) in
            let nothing : CanonicalPart fit names bytes level inside (visits_of st.met) (visits_of st.met) (child t most k v pos) (group no_values) st.pos st.pos = record {
              regions = [];
              reads = record {
                holds = holds_plain c tt (holds_none refl refl refl) refl;
                canonical = (clean_by names bytes (child t most k v pos) (plain whole []) c (λ i h. inl h) tt, tt, tt);
                ends = refl;
              };
              ascends = tt;
              gaps = λ i h z. absurd (omega (arith, h, z));
            } in
            subst (λ z. CanonicalPart fit names bytes level inside (visits_of st.met) (visits_of (w.met xs st)) (child t most k v pos) (w.value xs st) st.pos z) empty
            (subst (λ z. CanonicalPart fit names bytes level inside (visits_of st.met) (visits_of z) (child t most k v pos) (w.value xs st) st.pos st.pos) (sym r.met)
            (subst (λ z. CanonicalPart fit names bytes level inside (visits_of st.met) (visits_of st.met) (child t most k v pos) z st.pos st.pos) (sym r.value) nothing))
        by_root (Some root) e g b =
            let r = one.present st root e in
            let some_levels = r.levels in
            let before = r.before f in
            let target = offset_stands bytes pos root 4 (omega arith) g b in
            let away : (word_at (window bytes pos 4) 0 == 1) ≡ false = leads_back pos (word_at (window bytes pos 4) 0) root target (omega (arith, before, behind)) in
            let room : nat_le t 32 ≡ true = let h : t ≤ 32 = omega (arith, low, some_levels) in grind (arith, nat_tests) in
            let c : content_of names bytes (child t most k v pos) ≡ plain same (node t most k v root ∷ []) = child_leads t most k v pos (window bytes pos 4) root away room target in
            let items = one.counted st in
            let has : HasItems (more_values (by_keys (w.value xs st)) no_values) =
            let count : count_values (members (by_keys (w.value xs st))) ≡ length xs = ap (λ z. count_values (members (by_keys z))) items.is ∙ count_keys_alone items.items ∙ items.count in
            let some = r.some in omega (arith, count, some) in
            one_part (child t most k v pos) (node t most k v root) same (w.value xs st) (w.value xs st) st.pos (state_after w xs st).pos c tt refl
            (clean_by names bytes (child t most k v pos) (plain same (node t most k v root ∷ [])) c (λ i h. inl h) tt)
            has
            (r.canonical names given bytes level inside t low small kn n known state over f p)

    -- so are pointers side by side, before other parts
    pub children_canonical :
        (xss : List (List (A × B))) (each : EachTreeSpells xss) (st : State) (pos : ℕ) (names : Names) (given : Keys) (bytes : List ℕ) (level : ℕ) (inside : List OpenShared) (t : ℕ)
        (others : List Part) (vs : Values) (after : List Visit) (high : ℕ)
        → t + l ≤ 33
        → AllSmall xss
        → knows names
        → AllSuit given xss
        → AreKeyedBy given st.met
        → IsConsistent st
        → AllFrom (state_after_all w xss st).pos inside
        → pieces_fit w xss st
        → LinksFit (resolvers w xss st) pos
        → (state_after_all w xss st).pos ≤ pos
        → HasBytes bytes st.pos (pieces w xss st)
        → HasBytes bytes pos (links (resolvers w xss st) pos)
        → (state_after_all w xss st).pos ≤ high
        → CanonicalParts fit names bytes level inside (visits_of (state_after_all w xss st).met) after others vs (state_after_all w xss st).pos high
        → CanonicalParts fit names bytes level inside (visits_of st.met) after (children (length xss) t most k v pos ++ others) (append_values (values w xss st) vs) st.pos high
    unfolding children
    children_canonical [] each st pos names given bytes level inside t others vs after high low small kn n known state over f o behind p q up tail = tail
    children_canonical (xs ∷ xss) each st pos names given bytes level inside t others vs after high low small kn n known state over f o behind p q up tail =
        let piece = w.piece xs st in
        let link = link_bytes (w.resolver xs st) pos in
        let then = state_after w xs st in
        let end = (state_after_all w xss then).pos in
        let more : then.pos ≤ end = let e = children_after_pos xss then in omega arith in
        let size : pos + length link ≡ pos + 4 = ap (λ z. pos + z) (length-link (w.resolver xs st) pos) in
        let first = child_canonical xs each.0 st pos names given bytes level inside t low small.0 kn n.0 known state (from_earlier inside then.pos end more over) f.0 o.0 (omega (arith, more, behind))
        (stands_left bytes st.pos piece (pieces w xss then) p) (stands_left bytes pos link (links (resolvers w xss then) (pos + 4)) q) in
        let rest = children_canonical xss each.1 then (pos + 4) names given bytes level inside t others vs after high low small.1 kn n.1 (each.0.keyed given st n.0 known f.0).1 (each.0.consistent st state f.0) over f.1 o.1 (omega (arith, behind))
        (stands_right bytes st.pos piece (pieces w xss then) then.pos refl p) (stands_right bytes pos link (links (resolvers w xss then) (pos + 4)) (pos + 4) size q) up tail in
        more_parts (visits_of st.met) (visits_of then.met) after (child t most k v pos) (children (length xss) t most k v (pos + 4) ++ others) (w.value xs st) (append_values (values w xss then) vs) st.pos then.pos high (omega arith) (omega (arith, more, up)) first rest
