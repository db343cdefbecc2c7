-- A fault, by the content of its part.
use Rattle.std.proofs.Common.{◌≡◌, ◌≢◌, ℕ, Bool, List, ◌∷◌, Option, Some, None, sym, ap, subst, ◌∙◌}
use Rattle.archive_shape_layout.specs.Bytes.{window, word_at}
use Rattle.archive_shape_layout.specs.Shape.{Shape, Pointee}
use Rattle.archive_shape_layout.specs.Shape.Shape.{index_map}
use Rattle.archive_shape_layout.specs.Content.{Names, Part, Span, Label, content_of, IsLegal}
use Rattle.archive_shape_layout.specs.Content.Part.{at, behind, buckets}
use Rattle.archive_shape_layout.specs.Content.{place}
use Rattle.archive_shape_layout.specs.Content.Label.{total}
use Rattle.archive_shape_layout.specs.Content.Content.{plain, claimed, counting}
use Rattle.archive_shape_layout.specs.Holds.{Visit, OpenShared}
use Rattle.archive_shape.specs.Range.{Range, narrowed_to}
use Rattle.archive_shape.specs.Accepts.{Passes, PassesAll}
use Rattle.archive_shape.specs.Questions.{AreAnswered, FirstUnanswered, questions_of, out_of_range}
use Rattle.archive_shape.specs.PartFault.{PartFault, PartsFault, Entry, entry_at, Clash, HasTable, HasNoEntries, entries_size, counted_items, counted_as_usize}
use Rattle.archive_shape.specs.PartFault.PartFault.{fault_unanswered, fault_plain, fault_claimed, fault_text, fault_text_behind, fault_total, fault_table, fault_entries, fault_again, fault_first}
use Rattle.archive_shape_layout.specs.declared.error.Error.{Error}
use Rattle.archive_shape_layout.specs.declared.error.Error.TheVariants.{InvalidUtf8, EntriesLengthMismatch}
use Rattle.archive_shape.proofs.Refused.{answered_or_not, map_illegal}

-- an index map has one table
one_table : (bytes : List ℕ) (pos : ℕ) (q r : Part) → HasTable bytes pos q → HasTable bytes pos r → q ≡ r
one_table bytes pos q r h i =
    let len = word_at (window bytes pos 16) 4 in
    let e : ◌≡◌ {A = Option ℕ} (Some h.target) (Some i.target) = sym h.leads ∙ i.leads in
    let same : h.target ≡ i.target = cc in
    h.part ∙ ap (λ t. buckets t len (word_at (window bytes pos 16) 8) (place len)) same ∙ sym i.part

module _ (names : Names) (bytes : List ℕ) (inside : List OpenShared) (before : List Visit) where
  -- with no region claimed around its parts
  pub data InPlain (l : Label) (ps : List Part) (k : Range) (e : Error) : Type 0 where
    plain_parts : PartsFault names bytes inside before ps k e → InPlain l ps k e
    plain_text : (IsLegal l → ⊥) → e ≡ InvalidUtf8 → InPlain l ps k e
    plain_total : {n : ℕ} → l ≡ total n → (q : PassesAll names bytes inside before ps k) → counted_items q.values ≢ n → e ≡ EntriesLengthMismatch (counted_as_usize q.values) n → InPlain l ps k e

  -- with a region claimed after them
  pub data InClaimed (s : Span) (l : Label) (ps : List Part) (k : Range) (e : Error) : Type 0 where
    claimed_parts : PartsFault names bytes inside before ps (narrowed_to k s.start) e → InClaimed s l ps k e
    claimed_text : (IsLegal l → ⊥) → e ≡ InvalidUtf8 → InClaimed s l ps k e

  -- of an index map whose entries lie before position 0
  pub data InMap (pos : ℕ) (key value : Shape) (q : Part) (k : Range) (e : Error) : Type 0 where
    map_table : PartFault names bytes inside before q k e → InMap pos key value q k e
    map_entries : Passes names bytes inside before q k → e ≡ out_of_range (entries_size bytes pos key value) → InMap pos key value q k e

  -- of a counted pointer
  pub data InCounting (cyclic : Bool) (t : ℕ) (q : Pointee) (len : ℕ) (k : Range) (e : Error) : Type 0 where
    counting_again : {x : Entry} → entry_at inside before t ≡ Some x → Clash cyclic q len x e → InCounting cyclic t q len k e
    counting_first : entry_at inside before t ≡ None → PartFault names bytes (record { pos = t; pointee = q; len = len } ∷ inside) before (behind t q len) k e → InCounting cyclic t q len k e

  pub asked_again : (p : Part) (k : Range) (e d : Error) → FirstUnanswered k e (questions_of names bytes p) → PartFault names bytes inside before p k d → FirstUnanswered k d (questions_of names bytes p)
  asked_again p k e d f (fault_unanswered g) = g
  asked_again p k e d f (fault_plain a c g) = absurd (answered_or_not k e _ f a)
  asked_again p k e d f (fault_claimed a c g) = absurd (answered_or_not k e _ f a)
  asked_again p k e d f (fault_text a c n g) = absurd (answered_or_not k e _ f a)
  asked_again p k e d f (fault_text_behind a c n g) = absurd (answered_or_not k e _ f a)
  asked_again p k e d f (fault_total a c q n g) = absurd (answered_or_not k e _ f a)
  asked_again p k e d f (fault_table a i t n g) = absurd (answered_or_not k e _ f a)
  asked_again p k e d f (fault_entries a i t n q g) = absurd (answered_or_not k e _ f a)
  asked_again p k e d f (fault_again a c m g) = absurd (answered_or_not k e _ f a)
  asked_again p k e d f (fault_first a c n g) = absurd (answered_or_not k e _ f a)

  pub in_plain : (p : Part) (k : Range) (e : Error) (l : Label) (ps : List Part) → AreAnswered k (questions_of names bytes p) → content_of names bytes p ≡ plain l ps → PartFault names bytes inside before p k e → InPlain l ps k e
  in_plain p k e l ps a c (fault_unanswered f) = absurd (answered_or_not k e _ f a)
  in_plain p k e l ps a c (fault_plain {ps = qs} b d f) =
      let same : qs ≡ ps = cc in
      plain_parts (subst (λ x. PartsFault names bytes inside before x k e) same f)
  in_plain p k e l ps a c (fault_claimed b d f) = absurd (cc)
  in_plain p k e l ps a c (fault_text {l = m} b d n f) =
      let same : m ≡ l = cc in
      plain_text (subst (λ x. IsLegal x → ⊥) same n) f
  in_plain p k e l ps a c (fault_text_behind b d n f) = absurd (cc)
  in_plain p k e l ps a c (fault_total {n = n} {ps = qs} b d q m f) =
      let same : qs ≡ ps = cc in
      let label : l ≡ total n = cc in
      let whole : InPlain l qs k e = plain_total label q m f in
      subst (λ x. InPlain l x k e) same whole
  in_plain p k e l ps a c (fault_table {pos = pos} {key = key} {value = value} {q = q} b i t n f) =
      let d = map_illegal names bytes p pos key value q i t n in absurd (cc)
  in_plain p k e l ps a c (fault_entries {pos = pos} {key = key} {value = value} {q = q} b i t n y f) =
      let d = map_illegal names bytes p pos key value q i t n in absurd (cc)
  in_plain p k e l ps a c (fault_again b d m f) = absurd (cc)
  in_plain p k e l ps a c (fault_first b d n f) = absurd (cc)

  pub in_claimed : (p : Part) (k : Range) (e : Error) (s : Span) (l : Label) (ps : List Part) → AreAnswered k (questions_of names bytes p) → content_of names bytes p ≡ claimed s l ps → PartFault names bytes inside before p k e → InClaimed s l ps k e
  in_claimed p k e s l ps a c (fault_unanswered f) = absurd (answered_or_not k e _ f a)
  in_claimed p k e s l ps a c (fault_plain b d f) = absurd (cc)
  in_claimed p k e s l ps a c (fault_claimed {s = r} {ps = qs} b d f) =
      let same : qs ≡ ps = cc in
      let span : r ≡ s = cc in
      claimed_parts (subst (λ x. PartsFault names bytes inside before ps (narrowed_to k x.start) e) span
      (subst (λ x. PartsFault names bytes inside before x (narrowed_to k r.start) e) same f))
  in_claimed p k e s l ps a c (fault_text b d n f) = absurd (cc)
  in_claimed p k e s l ps a c (fault_text_behind {l = m} b d n f) =
      let same : m ≡ l = cc in
      claimed_text (subst (λ x. IsLegal x → ⊥) same n) f
  in_claimed p k e s l ps a c (fault_total b d q m f) = absurd (cc)
  in_claimed p k e s l ps a c (fault_table {pos = pos} {key = key} {value = value} {q = q} b i t n f) =
      let d = map_illegal names bytes p pos key value q i t n in absurd (cc)
  in_claimed p k e s l ps a c (fault_entries {pos = pos} {key = key} {value = value} {q = q} b i t n y f) =
      let d = map_illegal names bytes p pos key value q i t n in absurd (cc)
  in_claimed p k e s l ps a c (fault_again b d m f) = absurd (cc)
  in_claimed p k e s l ps a c (fault_first b d n f) = absurd (cc)

  map_again :
      (p : Part) (k : Range) (e : Error) (pos other : ℕ) (key value k' v' : Shape) (q r : Part)
      → p ≡ at pos (index_map key value) → p ≡ at other (index_map k' v') → HasTable bytes pos q → HasTable bytes other r
      → InMap other k' v' r k e → InMap pos key value q k e
  map_again p k e pos other key value k' v' q r i j t u h =
      let place : other ≡ pos = cc in
      let keys : k' ≡ key = cc in
      let values : v' ≡ value = cc in
      let table : r ≡ q = one_table bytes pos r q (subst (λ n. HasTable bytes n r) place u) t in
      subst (λ x. InMap pos key value x k e) table
      (subst (λ x. InMap pos key x r k e) values
      (subst (λ x. InMap pos x v' r k e) keys
      (subst (λ x. InMap x k' v' r k e) place h)))

  pub in_map : (p : Part) (k : Range) (e : Error) (pos : ℕ) (key value : Shape) (q : Part) → AreAnswered k (questions_of names bytes p) → p ≡ at pos (index_map key value) → HasTable bytes pos q → HasNoEntries bytes pos → PartFault names bytes inside before p k e → InMap pos key value q k e
  in_map p k e pos key value q a i t n (fault_unanswered f) = absurd (answered_or_not k e _ f a)
  in_map p k e pos key value q a i t n (fault_plain b d f) = let c = map_illegal names bytes p pos key value q i t n in absurd (cc)
  in_map p k e pos key value q a i t n (fault_claimed b d f) = let c = map_illegal names bytes p pos key value q i t n in absurd (cc)
  in_map p k e pos key value q a i t n (fault_text b d m f) = let c = map_illegal names bytes p pos key value q i t n in absurd (cc)
  in_map p k e pos key value q a i t n (fault_text_behind b d m f) = let c = map_illegal names bytes p pos key value q i t n in absurd (cc)
  in_map p k e pos key value q a i t n (fault_total b d y m f) = let c = map_illegal names bytes p pos key value q i t n in absurd (cc)
  in_map p k e pos key value q a i t n (fault_table {pos = other} {key = k'} {value = v'} {q = r} b j u m f) =
      map_again p k e pos other key value k' v' q r i j t u (map_table f)
  in_map p k e pos key value q a i t n (fault_entries {pos = other} {key = k'} {value = v'} {q = r} b j u m y f) =
      map_again p k e pos other key value k' v' q r i j t u (map_entries y f)
  in_map p k e pos key value q a i t n (fault_again b d m f) = let c = map_illegal names bytes p pos key value q i t n in absurd (cc)
  in_map p k e pos key value q a i t n (fault_first b d m f) = let c = map_illegal names bytes p pos key value q i t n in absurd (cc)

  counting_same :
      (p : Part) (k : Range) (e : Error) (cyclic other : Bool) (t u : ℕ) (q r : Pointee) (len n : ℕ)
      → content_of names bytes p ≡ counting cyclic t q len → content_of names bytes p ≡ counting other u r n
      → InCounting other u r n k e → InCounting cyclic t q len k e
  counting_same p k e cyclic other t u q r len n c d h =
      let flavors : other ≡ cyclic = cc in
      let place : u ≡ t = cc in
      let pointees : r ≡ q = cc in
      let lens : n ≡ len = cc in
      subst (λ x. InCounting x t q len k e) flavors
      (subst (λ x. InCounting other t q x k e) lens
      (subst (λ x. InCounting other t x n k e) pointees
      (subst (λ x. InCounting other x r n k e) place h)))

  pub in_counting : (p : Part) (k : Range) (e : Error) (cyclic : Bool) (t : ℕ) (q : Pointee) (len : ℕ) → AreAnswered k (questions_of names bytes p) → content_of names bytes p ≡ counting cyclic t q len → PartFault names bytes inside before p k e → InCounting cyclic t q len k e
  in_counting p k e cyclic t q len a c (fault_unanswered f) = absurd (answered_or_not k e _ f a)
  in_counting p k e cyclic t q len a c (fault_plain b d f) = absurd (cc)
  in_counting p k e cyclic t q len a c (fault_claimed b d f) = absurd (cc)
  in_counting p k e cyclic t q len a c (fault_text b d n f) = absurd (cc)
  in_counting p k e cyclic t q len a c (fault_text_behind b d n f) = absurd (cc)
  in_counting p k e cyclic t q len a c (fault_total b d y m f) = absurd (cc)
  in_counting p k e cyclic t q len a c (fault_table {pos = pos} {key = key} {value = value} {q = r} b i u n f) =
      let d = map_illegal names bytes p pos key value r i u n in absurd (cc)
  in_counting p k e cyclic t q len a c (fault_entries {pos = pos} {key = key} {value = value} {q = r} b i u n y f) =
      let d = map_illegal names bytes p pos key value r i u n in absurd (cc)
  in_counting p k e cyclic t q len a c (fault_again {cyclic = o} {t = u} {q = r} {len = n} b d m f) =
      counting_same p k e cyclic o t u q r len n c d (counting_again m f)
  in_counting p k e cyclic t q len a c (fault_first {cyclic = o} {t = u} {q = r} {len = n} b d m f) =
      counting_same p k e cyclic o t u q r len n c d (counting_first m f)
