-- A part with a fault is not accepted.
use Rattle.std.proofs.Common.{◌≡◌, ◌≢◌, ℕ, ◌+◌, ◌==◌, Bool, true, false, List, [], ◌∷◌, cond, Option, Some, None, refl, sym, ap, ◌∙◌, eqb-true}
use Rattle.archive_shape_layout.specs.Bytes.{window, word_at, target_from}
use Rattle.archive_shape_layout.specs.Shape.{Shape}
use Rattle.archive_shape_layout.specs.Shape.Shape.{index_map}
use Rattle.archive_shape_layout.specs.Value.{Value, Values, count_values}
use Rattle.archive_shape_layout.specs.Value.Values.{no_values, more_values}
use Rattle.archive_shape_layout.specs.Content.{Names, Part, Content, content_of, made, members, choose, following, shape_content}
use Rattle.archive_shape_layout.specs.Content.Part.{at, behind}
use Rattle.archive_shape_layout.specs.Content.Label.{total}
use Rattle.archive_shape_layout.specs.Content.Content.{plain, illegal}
use Rattle.archive_shape_layout.specs.Holds.{Visit, OpenShared}
use Rattle.archive_shape_layout.proofs.Unique.{by_plain, by_claimed, one_list}
use Rattle.archive_shape.specs.Range.{Range, narrowed_to}
use Rattle.archive_shape.specs.Accepts.{Passes, PassesAll, range_after}
use Rattle.archive_shape.specs.Questions.{Question, AreAnswered, FirstUnanswered}
use Rattle.archive_shape.specs.Questions.FirstUnanswered.{unanswered_here, unanswered_later}
use Rattle.archive_shape.specs.PartFault.{PartFault, PartsFault, HasTable, HasNoEntries, counted_items}
use Rattle.archive_shape.specs.PartFault.PartFault.{fault_unanswered, fault_plain, fault_claimed, fault_text, fault_text_behind, fault_total, fault_table, fault_entries, fault_again, fault_first}
use Rattle.archive_shape.specs.PartFault.PartsFault.{fault_here, fault_later}
use Rattle.archive_shape.specs.Laws.{FaultRefuses}
use Rattle.archive_shape_layout.specs.declared.error.Error.{Error}
use Rattle.archive_shape.proofs.Inverted.{known_content, plain_parts, claimed_parts, first_part, later_parts}
use Rattle.archive_shape.proofs.QuestionedRegions.{accepted_answered}
use Rattle.archive_shape.proofs.Shared.{again_refused, first_visited}

-- ---- questions

pub answered_or_not : (k : Range) (e : Error) (qs : List Question) → FirstUnanswered k e qs → AreAnswered k qs → ⊥
answered_or_not k e [] f h = elim f [ ]
answered_or_not k e (q ∷ qs) (unanswered_here n f) h = n h.0
answered_or_not k e (q ∷ qs) (unanswered_later y f) h = answered_or_not k e qs f h.1

pub one_unanswered : (k : Range) (e d : Error) (qs : List Question) → FirstUnanswered k e qs → FirstUnanswered k d qs → e ≡ d
one_unanswered k e d [] f g = elim f [ ]
one_unanswered k e d (q ∷ qs) (unanswered_here n f) (unanswered_here m g) = f ∙ sym g
one_unanswered k e d (q ∷ qs) (unanswered_here n f) (unanswered_later y g) = absurd (n y)
one_unanswered k e d (q ∷ qs) (unanswered_later y f) (unanswered_here m g) = absurd (m y)
one_unanswered k e d (q ∷ qs) (unanswered_later y f) (unanswered_later z g) = one_unanswered k e d qs f g

-- ---- index maps whose entries lie before position 0

no_entries_illegal : (b : Bool) (o : Option ℕ) (x : Content) (f : ℕ → Content) → (b ≡ true → ⊥) → o ≡ None → choose b x (following o f) ≡ illegal
unfolding choose following
no_entries_illegal true o x f n e = absurd (n refl)
no_entries_illegal false None x f n e = refl
no_entries_illegal false (Some t) x f n e = absurd (cc)

pub map_illegal : (names : Names) (bytes : List ℕ) (p : Part) (pos : ℕ) (key value : Shape) (q : Part) → p ≡ at pos (index_map key value) → HasTable bytes pos q → HasNoEntries bytes pos → content_of names bytes p ≡ illegal
unfolding shape_content
map_illegal names bytes p pos key value q e t n =
    ap (content_of names bytes) e ∙ no_entries_illegal (word_at (window bytes pos 16) 4 == 0) (target_from (pos + 12) (word_at (window bytes pos 16) 12)) _ _ (λ z. t.some (eqb-true _ _ z)) n

-- ---- search trees

-- a value is made of that of the one part, which has n items
made_total : (n : ℕ) (vs : Values) (v : Value) → made (total n) vs ≡ Some v → counted_items vs ≡ n
unfolding made
made_total n no_values v e = absurd (cc)
made_total n (more_values u no_values) v e = one (count_values (members u) == n) e (λ z. eqb-true _ _ z)
  where
    one : (b : Bool) → ◌≡◌ {A = Option Value} (cond b (Some u) None) (Some v) → (b ≡ true → counted_items (more_values u no_values) ≡ n) → counted_items (more_values u no_values) ≡ n
    one true e h = h refl
    one false e h = absurd (cc)
made_total n (more_values u (more_values w ws)) v e = absurd (cc)

-- ---- faults

module _ (names : Names) (bytes : List ℕ) where
  total_refused : (inside : List OpenShared) (before : List Visit) (p : Part) (k : Range) (n : ℕ) (ps : List Part) → content_of names bytes p ≡ plain (total n) ps → (q : PassesAll names bytes inside before ps k) → counted_items q.values ≢ n → Passes names bytes inside before p k → ⊥
  total_refused inside before p k n ps c q differs h =
      let own = by_plain names bytes c h.accepts.holds in
      let same = one_list names bytes own.vs h.regions h.after q.accepts.all own.all in
      differs (ap counted_items same.values ∙ made_total n own.vs h.value own.is_made)

  mutual
    pub refused : (inside : List OpenShared) (before : List Visit) (p : Part) (k : Range) (e : Error) → PartFault names bytes inside before p k e → Passes names bytes inside before p k → ⊥
    refused inside before p k e (fault_unanswered f) h = answered_or_not k e _ f (accepted_answered names bytes inside before p k h)
    refused inside before p k e (fault_plain {l = l} {ps = ps} a c f) h = refused_in inside before ps k e f (plain_parts names bytes inside before p k l ps c h)
    refused inside before p k e (fault_claimed {s = s} {l = l} {ps = ps} a c f) h = refused_in inside before ps (narrowed_to k s.start) e f (claimed_parts names bytes inside before p k s l ps c h)
    refused inside before p k e (fault_text a c n f) h = n (by_plain names bytes c h.accepts.holds).legal
    refused inside before p k e (fault_text_behind a c n f) h = n (by_claimed names bytes c h.accepts.holds).legal
    refused inside before p k e (fault_total {n = n} {ps = ps} a c q m f) h = total_refused inside before p k n ps c q m h
    refused inside before p k e (fault_table {pos = pos} {key = key} {value = value} {q = q} a i t n f) h = known_content names bytes inside before p k illegal (map_illegal names bytes p pos key value q i t n) h
    refused inside before p k e (fault_entries {pos = pos} {key = key} {value = value} {q = q} a i t n y f) h = known_content names bytes inside before p k illegal (map_illegal names bytes p pos key value q i t n) h
    refused inside before p k e (fault_again {cyclic = cyclic} {t = t} {q = q} {len = len} {x = x} a c m f) h = again_refused names bytes inside before p k cyclic t q len x e c m f h
    refused inside before p k e (fault_first {cyclic = cyclic} {t = t} {q = q} {len = len} a c n f) h = refused (record { pos = t; pointee = q; len = len } ∷ inside) before (behind t q len) k e f (first_visited names bytes inside before p k cyclic t q len c n h)

    pub refused_in : (inside : List OpenShared) (before : List Visit) (ps : List Part) (k : Range) (e : Error) → PartsFault names bytes inside before ps k e → PassesAll names bytes inside before ps k → ⊥
    refused_in inside before [] k e f h = elim f [ ]
    refused_in inside before (p ∷ ps) k e (fault_here f) h = refused inside before p k e f (first_part names bytes inside before p ps k h)
    refused_in inside before (p ∷ ps) k e (fault_later q f) h = refused_in inside q.after ps (range_after k q.regions) e f (later_parts names bytes inside before p ps k q h)

pub refused_law : FaultRefuses
refused_law = refused
