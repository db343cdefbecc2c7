-- Two faults of a part are the same.
use Rattle.std.proofs.Common.{◌≡◌, ℕ, Bool, List, [], ◌∷◌, Some, None, refl, sym, ap, subst, ◌∙◌}
use Rattle.archive_shape_layout.specs.Shape.{Shape, Pointee}
use Rattle.archive_shape_layout.specs.Content.{Names, Part, Span, Label, content_of, IsLegal}
use Rattle.archive_shape_layout.specs.Content.Part.{behind}
use Rattle.archive_shape_layout.specs.Content.Label.{total}
use Rattle.archive_shape_layout.specs.Content.Content.{plain, claimed}
use Rattle.archive_shape_layout.specs.Holds.{Visit, OpenShared}
use Rattle.archive_shape.specs.Range.{Range, narrowed_to}
use Rattle.archive_shape.specs.Accepts.{Passes, PassesAll, range_after}
use Rattle.archive_shape.specs.PartFault.{PartFault, PartsFault, Entry, entry_at, entries_size, Clash, counted_as_usize}
use Rattle.archive_shape.specs.PartFault.PartFault.{fault_unanswered, fault_plain, fault_claimed, fault_text, fault_text_behind, fault_total, fault_table, fault_entries, fault_again, fault_first}
use Rattle.archive_shape.specs.PartFault.PartsFault.{fault_here, fault_later}
use Rattle.archive_shape.specs.Questions.{out_of_range}
use Rattle.archive_shape.specs.Laws.{OneFault}
use Rattle.archive_shape_layout.specs.declared.error.Error.{Error}
use Rattle.archive_shape_layout.specs.declared.error.Error.TheVariants.{InvalidUtf8, EntriesLengthMismatch}
use Rattle.archive_shape.proofs.Inverted.{one_passing, one_list_passing}
use Rattle.archive_shape.proofs.Shared.{one_entry, one_clash}
use Rattle.archive_shape.proofs.Texts.{illegal_plain, illegal_claimed}
use Rattle.archive_shape.proofs.Refused.{one_unanswered, refused, refused_in}
use Rattle.archive_shape.proofs.ByContent.{InPlain, InClaimed, InMap, InCounting, asked_again, in_plain, in_claimed, in_map, in_counting}
use Rattle.archive_shape.proofs.ByContent.InPlain.{plain_parts, plain_text, plain_total}
use Rattle.archive_shape.proofs.ByContent.InClaimed.{claimed_parts, claimed_text}
use Rattle.archive_shape.proofs.ByContent.InMap.{map_table, map_entries}
use Rattle.archive_shape.proofs.ByContent.InCounting.{counting_again, counting_first}

legal_total : (l : Label) (n : ℕ) → l ≡ total n → IsLegal l
legal_total l n e = subst IsLegal (sym e) tt

module _ (names : Names) (bytes : List ℕ) (inside : List OpenShared) (before : List Visit) where
  no_parts : (ps : List Part) (k : Range) (e : Error) → ps ≡ [] → PartsFault names bytes inside before ps k e → ⊥
  no_parts ps k e n f = none (subst (λ x. PartsFault names bytes inside before x k e) n f)
    where
      none : PartsFault names bytes inside before [] k e → ⊥
      none f = elim f [ ]

  -- ---- with no region claimed around the parts

  module _ (p : Part) (l : Label) (ps : List Part) (k : Range) (e d : Error) (c : content_of names bytes p ≡ plain l ps) where
    parts_once : PartsFault names bytes inside before ps k e → (PartsFault names bytes inside before ps k d → e ≡ d) → InPlain names bytes inside before l ps k d → e ≡ d
    parts_once f again (plain_parts g) = again g
    parts_once f again (plain_text n g) = absurd (no_parts ps k e (illegal_plain names bytes p l ps c n) f)
    parts_once f again (plain_total h q m g) = absurd (refused_in names bytes inside before ps k e f q)

    text_once : (IsLegal l → ⊥) → e ≡ InvalidUtf8 → InPlain names bytes inside before l ps k d → e ≡ d
    text_once n f (plain_parts g) = absurd (no_parts ps k d (illegal_plain names bytes p l ps c n) g)
    text_once n f (plain_text m g) = f ∙ sym g
    text_once n f (plain_total {n = m} h q o g) = absurd (n (legal_total l m h))

    total_once : (n : ℕ) (q : PassesAll names bytes inside before ps k) → l ≡ total n → e ≡ EntriesLengthMismatch (counted_as_usize q.values) n → InPlain names bytes inside before l ps k d → e ≡ d
    total_once n q h f (plain_parts g) = absurd (refused_in names bytes inside before ps k d g q)
    total_once n q h f (plain_text m g) = absurd (m (legal_total l n h))
    total_once n q h f (plain_total {n = m} i r o g) =
        let same = one_list_passing names bytes inside before ps k q r in
        let both : n ≡ m = cc in
        f ∙ ap (λ vs. EntriesLengthMismatch (counted_as_usize vs) n) same ∙ ap (λ x. EntriesLengthMismatch (counted_as_usize r.values) x) both ∙ sym g

  -- ---- with a region claimed after them

  module _ (p : Part) (s : Span) (l : Label) (ps : List Part) (k : Range) (e d : Error) (c : content_of names bytes p ≡ claimed s l ps) where
    claimed_once : PartsFault names bytes inside before ps (narrowed_to k s.start) e → (PartsFault names bytes inside before ps (narrowed_to k s.start) d → e ≡ d) → InClaimed names bytes inside before s l ps k d → e ≡ d
    claimed_once f again (claimed_parts g) = again g
    claimed_once f again (claimed_text n g) = absurd (no_parts ps (narrowed_to k s.start) e (illegal_claimed names bytes p s l ps c n) f)

    behind_once : (IsLegal l → ⊥) → e ≡ InvalidUtf8 → InClaimed names bytes inside before s l ps k d → e ≡ d
    behind_once n f (claimed_parts g) = absurd (no_parts ps (narrowed_to k s.start) d (illegal_claimed names bytes p s l ps c n) g)
    behind_once n f (claimed_text m g) = f ∙ sym g

  -- ---- index maps

  module _ (pos : ℕ) (key value : Shape) (q : Part) (k : Range) (e d : Error) where
    table_once : PartFault names bytes inside before q k e → (PartFault names bytes inside before q k d → e ≡ d) → InMap names bytes inside before pos key value q k d → e ≡ d
    table_once f again (map_table g) = again g
    table_once f again (map_entries y g) = absurd (refused names bytes inside before q k e f y)

    entries_once : Passes names bytes inside before q k → e ≡ out_of_range (entries_size bytes pos key value) → InMap names bytes inside before pos key value q k d → e ≡ d
    entries_once y f (map_table g) = absurd (refused names bytes inside before q k d g y)
    entries_once y f (map_entries z g) = f ∙ sym g

  -- ---- counted pointers

  module _ (cyclic : Bool) (t : ℕ) (q : Pointee) (len : ℕ) (k : Range) (e d : Error) where
    again_once : (x : Entry) → entry_at inside before t ≡ Some x → Clash cyclic q len x e → InCounting names bytes inside before cyclic t q len k d → e ≡ d
    again_once x m f (counting_again {x = y} n g) =
        let same = one_entry (entry_at inside before t) y x n m in
        one_clash cyclic q len x e d f (subst (λ z. Clash cyclic q len z d) same g)
    again_once x m f (counting_first n g) = absurd (cc)

    first_once : entry_at inside before t ≡ None → (PartFault names bytes (record { pos = t; pointee = q; len = len } ∷ inside) before (behind t q len) k d → e ≡ d) → InCounting names bytes inside before cyclic t q len k d → e ≡ d
    first_once m again (counting_again n g) = absurd (cc)
    first_once m again (counting_first n g) = again g

  -- after a part that is accepted
  after_once : (p : Part) (ps : List Part) (k : Range) (d : Error) (q r : Passes names bytes inside before p k) → PartsFault names bytes inside r.after ps (range_after k r.regions) d → PartsFault names bytes inside q.after ps (range_after k q.regions) d
  after_once p ps k d q r g =
      let same = one_passing names bytes inside before p k r q in
      subst (λ x. PartsFault names bytes inside x ps (range_after k q.regions) d) same.1
      (subst (λ x. PartsFault names bytes inside r.after ps (range_after k x) d) same.0 g)

module _ (names : Names) (bytes : List ℕ) where
  mutual
    once : (inside : List OpenShared) (before : List Visit) (p : Part) (k : Range) (e d : Error) → PartFault names bytes inside before p k e → PartFault names bytes inside before p k d → e ≡ d
    once inside before p k e d (fault_unanswered f) g = one_unanswered k e d _ f (asked_again names bytes inside before p k e d f g)
    once inside before p k e d (fault_plain {l = l} {ps = ps} a c f) g =
        parts_once names bytes inside before p l ps k e d c f (λ h. once_in inside before ps k e d f h) (in_plain names bytes inside before p k d l ps a c g)
    once inside before p k e d (fault_claimed {s = s} {l = l} {ps = ps} a c f) g =
        claimed_once names bytes inside before p s l ps k e d c f (λ h. once_in inside before ps (narrowed_to k s.start) e d f h) (in_claimed names bytes inside before p k d s l ps a c g)
    once inside before p k e d (fault_text {l = l} {ps = ps} a c n f) g =
        text_once names bytes inside before p l ps k e d c n f (in_plain names bytes inside before p k d l ps a c g)
    once inside before p k e d (fault_text_behind {s = s} {l = l} {ps = ps} a c n f) g =
        behind_once names bytes inside before p s l ps k e d c n f (in_claimed names bytes inside before p k d s l ps a c g)
    once inside before p k e d (fault_total {n = n} {ps = ps} a c q m f) g =
        total_once names bytes inside before p (total n) ps k e d c n q refl f (in_plain names bytes inside before p k d (total n) ps a c g)
    once inside before p k e d (fault_table {pos = pos} {key = key} {value = value} {q = q} a i t n f) g =
        table_once names bytes inside before pos key value q k e d f (λ h. once inside before q k e d f h) (in_map names bytes inside before p k d pos key value q a i t n g)
    once inside before p k e d (fault_entries {pos = pos} {key = key} {value = value} {q = q} a i t n y f) g =
        entries_once names bytes inside before pos key value q k e d y f (in_map names bytes inside before p k d pos key value q a i t n g)
    once inside before p k e d (fault_again {cyclic = cyclic} {t = t} {q = q} {len = len} {x = x} a c m f) g =
        again_once names bytes inside before cyclic t q len k e d x m f (in_counting names bytes inside before p k d cyclic t q len a c g)
    once inside before p k e d (fault_first {cyclic = cyclic} {t = t} {q = q} {len = len} a c n f) g =
        first_once names bytes inside before cyclic t q len k e d n (λ h. once (record { pos = t; pointee = q; len = len } ∷ inside) before (behind t q len) k e d f h) (in_counting names bytes inside before p k d cyclic t q len a c g)

    once_in : (inside : List OpenShared) (before : List Visit) (ps : List Part) (k : Range) (e d : Error) → PartsFault names bytes inside before ps k e → PartsFault names bytes inside before ps k d → e ≡ d
    once_in inside before [] k e d f g = elim f [ ]
    once_in inside before (p ∷ ps) k e d (fault_here f) (fault_here g) = once inside before p k e d f g
    once_in inside before (p ∷ ps) k e d (fault_here f) (fault_later q g) = absurd (refused names bytes inside before p k e f q)
    once_in inside before (p ∷ ps) k e d (fault_later q f) (fault_here g) = absurd (refused names bytes inside before p k d g q)
    once_in inside before (p ∷ ps) k e d (fault_later q f) (fault_later r g) =
        once_in inside q.after ps (range_after k q.regions) e d f (after_once names bytes inside before p ps k d q r g)

pub one_fault_law : OneFault
one_fault_law = once
