-- Where a call that loads a value fails for want of memory, reading the text of its tree takes memory.
use Rattle.std.specs.declared.alloc.AllocError.{AllocError}
use Rattle.std.proofs.Common.{Bor, Result, Ok, Err, ◌≡◌, ◌≢◌, ℕ, ◌<◌, List, [], ◌∷◌, ◌++◌, false, refl, sym, ap, subst, ◌∙◌, arith}
use Rattle.std.specs.Prelude.{⊤, OnErr}
use Rattle.std.specs.Cmp.Lexicographic.{slice_cmp}
use Rattle.std.specs.Ordering.{nat_cmp, match_ordering}
use Rattle.std.specs.declared.cmp.Ordering.{Ordering}
use Rattle.std.specs.declared.cmp.Ordering.TheVariants.{Less, Equal, Greater}
use Rattle.archive_shape_layout.specs.Shape.{Shape}
use Rattle.archive_shape_layout.specs.Shape.Shape.{option, vector, shared}
use Rattle.archive_shape_layout.specs.Shape.Pointee.{str}
use Rattle.archive_shape_layout.specs.Value.{Value, Values, count_values}
use Rattle.archive_shape_layout.specs.Content.{Names}
use Rattle.archive_forms_values.specs.Parts.{IsSomeAt, IsVecAt}
use Rattle.archive_forms_rc.specs.Pointers.{IsRcAt}
use Rattle.cabinet_text_grammar.specs.Keys.{MapKind, hashed}
use Rattle.cabinet_text_grammar.specs.Memory.{TextTakesMemory}
use Rattle.cabinet_text_grammar.specs.Tree.{Tree, Trees, Pairs, text, leaf, list, map, no_pairs, more_pairs}
use Rattle.cabinet_text_nodes.specs.View.{node_pairs}
use Rattle.cabinet_text_nodes.specs.declared.node.Node.{Node}
use Rattle.cabinet_documents.specs.Denotes.{Denotes, DenoteAll, tagged_value}
use Rattle.cabinet_documents.specs.Denotes.Denotes.{denotes_truth, denotes_number, denotes_text, denotes_shared, denotes_nothing, denotes_some, denotes_list, denotes_ordered, denotes_hashed, denotes_kept, denotes_whole}
use Rattle.cabinet_documents.specs.Denotes.DenoteAll.{denote_none, denote_more}
use Rattle.cabinet_documents.specs.Node.{node_shape, whole_shape, KnowsNode}
use Rattle.cabinet_documents.proofs.Changing.{of_some, of_list, of_whole}
use Rattle.cabinet_archived.specs.Kind.{IsTagged}
use Rattle.cabinet_archives.specs.Found.{OfDocument}
use Rattle.cabinet_archives.specs.Loading.{OfTree, LeadTo, added, all_added}
use Rattle.cabinet_archives.proofs.Loaded.{node_of_payload}
use Rattle.cabinet_archives.proofs.LoadedEntries.{Keyed, AreSorting}
use Rattle.cabinet_archives.proofs.LoadedTrees.{Loaded}
use Rattle.cabinet_archives.proofs.Ways.{Boxed, counted_there}

-- what holds anyway holds where a call fails
pub on_err : {A E P : Type 0} (r : Result A E) → P → OnErr r P
on_err (Ok x) p = tt
on_err (Err e) p = p

-- something is left
pub some_left : {A : Type 0} (done : List A) {left later : List A} {x : A} → left ≡ x ∷ later → done ++ left ≢ []
some_left [] e = λ none. let never = sym e ∙ none in absurd (cc)
some_left (d ∷ done) e = λ none. absurd (cc)

-- ---- texts

shared_takes_by : {v w : Value} {t : Tree} → v ≡ tagged_value 3 w → Denotes v t → TextTakesMemory t
shared_takes_by e (denotes_truth f g) = absurd (cc)
shared_takes_by e (denotes_number f g) = absurd (cc)
shared_takes_by e (denotes_text f g) = absurd (cc)
shared_takes_by e (denotes_shared f g) = subst TextTakesMemory (sym g) tt
shared_takes_by e (denotes_nothing f g) = absurd (cc)
shared_takes_by e (denotes_some f g d) = absurd (cc)
shared_takes_by e (denotes_list f g d) = absurd (cc)
shared_takes_by e (denotes_ordered f g d) = absurd (cc)
shared_takes_by e (denotes_hashed f g d) = absurd (cc)
shared_takes_by e (denotes_kept f g d) = absurd (cc)
shared_takes_by e (denotes_whole f g d) = absurd (cc)

-- what is taken for a payload is taken for its node
pub passed_takes : {x y : Bor (List ℕ)} {pos tag to : ℕ} {s : Shape} {knows : Names → Type 0} (r : Result Node AllocError) → x ≡ y → IsTagged y.now pos tag s knows to
    → OnErr r (OfTree (tagged_value tag) s knows x.now to TextTakesMemory) → OnErr r (OfDocument y.now pos TextTakesMemory)
passed_takes (Ok n) e tagged of = tt
passed_takes {y = y} {tag = tag} {to = to} {s = s} {knows = knows} (Err refused) e tagged of =
    node_of_payload y.now tagged TextTakesMemory (subst (λ (b : Bor (List ℕ)). OfTree (tagged_value tag) s knows b.now to TextTakesMemory) e of)

-- ---- lists

some_elements : {vs : Values} {ts : Trees} → DenoteAll vs ts → 0 < count_values vs → TextTakesMemory (list ts)
some_elements (denote_none e f) some = let none = ap count_values e in absurd (omega (arith, none, some))
some_elements (denote_more e f d ds) some = subst (λ ts. TextTakesMemory (list ts)) (sym f) tt

module _ (bytes : List ℕ) where
  pub text_takes : {pos : ℕ} (s : List ℕ) → OfDocument bytes pos (λ t. leaf (text s) ≡ t) → s ≢ [] → OfDocument bytes pos TextTakesMemory
  text_takes s is some = λ v t h d. subst TextTakesMemory (is v t h d) some

  pub shared_takes : {pos to : ℕ} → IsTagged bytes pos 3 (shared false str) (λ _. ⊤) to → OfDocument bytes pos TextTakesMemory
  shared_takes tagged = λ v t h d. shared_takes_by (tagged.payload v h).is d

  -- ---- options, lists and wholes

  pub just_takes : {pos : ℕ} → IsSomeAt Boxed KnowsNode bytes pos → OfTree (tagged_value 4) (option Boxed) KnowsNode bytes pos TextTakesMemory
  just_takes some = λ v t h d. let p = some v h in subst TextTakesMemory (sym (of_some (ap (tagged_value 4) p.is) d).is) tt

  pub list_takes : {pos to len : ℕ} → IsVecAt node_shape KnowsNode bytes pos to len → 0 < len → OfTree (tagged_value 5) (vector node_shape) KnowsNode bytes pos TextTakesMemory
  list_takes vec some = λ v t h d.
      let a = vec.value v h in
      let l = of_list (ap (tagged_value 5) a.is) d in
      let count = a.count in
      subst TextTakesMemory (sym l.is) (some_elements l.denotes (omega (arith, count, some)))

  pub whole_takes : {pos next : ℕ} → IsRcAt false node_shape KnowsNode bytes pos next → OfTree (tagged_value 9) whole_shape KnowsNode bytes pos TextTakesMemory
  whole_takes {pos = pos} {next = next} rc = λ v t h d.
      let p = counted_there bytes pos next rc v h in
      subst TextTakesMemory (sym (of_whole (ap (tagged_value 9) p.is) d).is) tt

  -- ---- maps

  entries_take : (kind : MapKind) (entries : List (ℕ × ℕ)) (ps : Pairs) → entries ≢ [] → LeadTo bytes entries ps → TextTakesMemory (map kind ps)
  entries_take kind [] ps some lead = absurd (some refl)
  entries_take kind (e ∷ es) no_pairs some lead = absurd lead
  entries_take kind (e ∷ es) (more_pairs k t ps) some lead = tt

  -- a map to whose pairs entries lead
  pub map_takes : {kind : MapKind} {node : Value → Value} {s : Shape} {knows : Names → Type 0} {pos : ℕ} (entries : List (ℕ × ℕ)) → entries ≢ []
      → OfTree node s knows bytes pos (λ t. (ps : Pairs) × (t ≡ map kind ps) × LeadTo bytes entries ps)
      → OfTree node s knows bytes pos TextTakesMemory
  map_takes {kind = kind} entries some of = λ v t h d. let o = of v t h d in subst TextTakesMemory (sym o.1) (entries_take kind entries o.0 some o.2)

  -- a map whose pairs are loaded
  items_take : (kind : MapKind) (table : List Tree) (items : List Loaded) → items ≢ [] → TextTakesMemory (map kind (node_pairs table items))
  items_take kind table [] some = absurd (some refl)
  items_take kind table (i ∷ is) some = tt

  pub loaded_takes : {kind : MapKind} {node : Value → Value} {s : Shape} {knows : Names → Type 0} {pos : ℕ} (table : List Tree) (items : List Loaded) {more : Tree → Type 0} → items ≢ []
      → OfTree node s knows bytes pos (λ t. (map kind (node_pairs table items) ≡ t) × more t)
      → OfTree node s knows bytes pos TextTakesMemory
  loaded_takes {kind = kind} table items some of = λ v t h d. subst TextTakesMemory (of v t h d).0 (items_take kind table items some)

  -- a map whose entries are sorted
  added_take : (k : List ℕ) (t : Tree) (ps : Pairs) → TextTakesMemory (map hashed (added k t ps))
  added_take k t no_pairs = tt
  added_take k t (more_pairs l u ps) = by (slice_cmp nat_cmp k l)
    where
      by : (o : Ordering) → TextTakesMemory (map hashed (match_ordering o (more_pairs k t (more_pairs l u ps)) (more_pairs l t ps) (more_pairs l u (added k t ps))))
      by Less = tt
      by Equal = tt
      by Greater = tt

  all_added_take : (ps others : Pairs) → TextTakesMemory (map hashed others) → TextTakesMemory (map hashed (all_added ps others))
  all_added_take no_pairs others some = some
  all_added_take (more_pairs k t ps) others some = all_added_take ps (added k t others) (added_take k t others)

  pub sorting_takes : (entry : ℕ × ℕ) (later : List (ℕ × ℕ)) (sorted : List Keyed) {t : Tree} → AreSorting bytes (entry ∷ later) sorted t → TextTakesMemory t
  sorting_takes entry later sorted a = subst TextTakesMemory (sym a.2) (by a.0 a.3)
    where
      by : (rest : Pairs) → LeadTo bytes (entry ∷ later) rest → TextTakesMemory (map hashed (all_added rest a.1))
      by no_pairs lead = absurd lead
      by (more_pairs k t ps) lead = all_added_take ps (added k t a.1) (added_take k t a.1)
