-- Where nothing is unsound, the audit finds no fault.
use Rattle.std.proofs.Common.{◌≡◌, ℕ, ◌<◌, Bool, true, false, cond, nat_lt, List, [], ◌++◌, Option, Some, None, refl, sym, ap, subst, ◌∙◌, lt-ltb}
use Rattle.std.specs.List.{Contains}
use Rattle.archive_shape_layout.proofs.Unique.{one_value_law}
use Rattle.cabinet_documents.specs.Denotes.{Denotes}
use Rattle.cabinet_documents.specs.Walk.{Stop, is_container}
use Rattle.cabinet_documents.specs.Table.{hashed_at, kept_at, table_of}
use Rattle.cabinet_documents.proofs.Found.{none_of, no_kept_faults, no_hashed_faults}
use Rattle.archive_shape_layout.specs.Value.{Value}
use Rattle.archive_shape_layout.specs.Shape.Shape.{number, nonzero, truth, character, text, tuple, array, option, result, choice, box, vector, shared, weak, tree, table, index_map, named}
use Rattle.archive_shape_layout.specs.Content.{Part}
use Rattle.archive_shape_layout.specs.Content.Part.{at, behind, node, child, entry, buckets, place_at}
use Rattle.cabinet_documents.specs.Audit.{Unsound, too_deep, keys_not_ascending, first_of, faults, deep_faults, map_faults, unless, IsSound, IsMapSound, root_part}
use Rattle.cabinet_documents.specs.Laws.{OneDocument, OneAuditFault, RefusedIsNotAccepted}
use Rattle.cabinet_documents.specs.Node.{node_names}
use Rattle.cabinet_documents.proofs.Denoted.{one_tree}
use Rattle.cabinet_documents.proofs.Walked.{one_walk}

pub one_document_law : OneDocument
one_document_law bytes s t a b =
    let same = one_value_law node_names bytes 0 [] (root_part bytes) [] a.value b.value a.regions b.regions a.visits b.visits a.root.holds b.root.holds in
    let ev = same.value in
    one_tree a.denotes (subst (λ x. Denotes x t) (sym ev) b.denotes)

pub one_audit_fault_law : OneAuditFault
one_audit_fault_law bytes u w a b =
    let same = one_walk node_names bytes a.walked b.walked in
    let e : ◌≡◌ {A = Option Unsound} (Some u) (Some w) = sym a.first ∙ ap (λ x. first_of (faults bytes x)) same.walk ∙ b.first in
    cc

-- ---- faults

below : (m : ℕ) → m < 64 → nat_lt m 64 ≡ true
below m h = lt-ltb m 64 h

not_deep : (s : Stop) (b : Bool) → is_container s.part ≡ b → (is_container s.part ≡ true → s.depth < 64) → cond b (unless (nat_lt s.depth 64) too_deep) [] ≡ []
not_deep s false e h = refl
not_deep s true e h = ap (λ b. unless b too_deep) (below s.depth (h e))

pub no_map_faults : (bytes : List ℕ) (p : Part) (w : Value) → IsMapSound bytes p w → map_faults bytes p w ≡ []
no_map_faults bytes (behind pos p len) w h = refl
no_map_faults bytes (node level most k v pos) w h = refl
no_map_faults bytes (child level most k v pos) w h = refl
no_map_faults bytes (entry k kp v vp) w h = refl
no_map_faults bytes (buckets target len cap i) w h = refl
no_map_faults bytes (place_at pos limit) w h = refl
no_map_faults bytes (at pos (number x signed)) w h = refl
no_map_faults bytes (at pos (nonzero x signed)) w h = refl
no_map_faults bytes (at pos truth) w h = refl
no_map_faults bytes (at pos character) w h = refl
no_map_faults bytes (at pos text) w h = refl
no_map_faults bytes (at pos (tuple ss)) w h = refl
no_map_faults bytes (at pos (array n s)) w h = refl
no_map_faults bytes (at pos (option s)) w h = refl
no_map_faults bytes (at pos (result s t)) w h = refl
no_map_faults bytes (at pos (choice ss)) w h = refl
no_map_faults bytes (at pos (box p)) w h = refl
no_map_faults bytes (at pos (vector s)) w h = refl
no_map_faults bytes (at pos (shared cyclic p)) w h = refl
no_map_faults bytes (at pos (weak cyclic p)) w h = refl
no_map_faults bytes (at pos (tree most k v)) w h = ap (λ b. unless b keys_not_ascending) h
no_map_faults bytes (at pos (table s)) w h = no_hashed_faults (table_of hashed_at bytes pos w) h
no_map_faults bytes (at pos (index_map k v)) w h = no_kept_faults (table_of kept_at bytes pos w) h
no_map_faults bytes (at pos (named name size align)) w h = refl

pub no_faults : (bytes : List ℕ) (walk : List Stop) → ((s : Stop) → Contains walk s → IsSound bytes s) → faults bytes walk ≡ []
no_faults bytes walk h =
    none_of (λ (s : Stop). deep_faults s ++ map_faults bytes s.part s.value) walk
    (λ s c. let good = h s c in ap (λ l. l ++ map_faults bytes s.part s.value) (not_deep s (is_container s.part) refl good.0) ∙ no_map_faults bytes s.part s.value good.1)

pub refused_law : RefusedIsNotAccepted
refused_law bytes u t r a =
    let same = one_value_law node_names bytes 0 [] (root_part bytes) [] r.value a.value r.regions a.regions r.visits a.visits r.root.holds a.root.holds in
    let walk = one_walk node_names bytes r.walked a.walked in
    let none : first_of (faults bytes r.walk) ≡ None = ap (λ x. first_of (faults bytes x)) walk.walk ∙ ap first_of (no_faults bytes a.walk a.sound) in
    let some = r.first in
    cc
