-- The root of bytes that access accepts is audited, and the audit decides whether the bytes are an archive.
use Rattle.std.proofs.Common.{◌≡◌, ◌≢◌, ℕ, ◌<◌, ◌^◌, inl, inr, List, [], length, Result, Ok, Err, refl, sym, subst, ◌∙◌, ap}
use Rattle.std.specs.Prelude.{OnOk, IfErr}
use Rattle.archive_shape_layout.specs.Content.Part.{at}
use Rattle.archive_shape_layout.specs.Holds.{root_position}
use Rattle.archive_shape_canonical.specs.Canonical.{AreBytes}
use Rattle.archive_forms_values.specs.Parts.{HasValue}
use Rattle.archive_shape.specs.Kept.{Kept, Records, range_of}
use Rattle.archive_shape.specs.Checks.{Checks}
use Rattle.archive_shape_layout.specs.declared.error.Error.{Error}
use Rattle.archive_shape_layout.specs.declared.error.Error.TheVariants.{OutOfMemory}
use Rattle.archive_core_validation.specs.Depth.{whole, most_of, most_within, none_seen, with_seen}
use Rattle.archive_core_validation.specs.Visits.{seen_in}
use Rattle.archive_core_validation.specs.declared.archive_validator.ArchiveValidator.{ArchiveValidator}
use Rattle.archive_core_validation.specs.declared.shared_validator.SharedValidator.{SharedValidator}
use Rattle.archive_core_validation.specs.Access.{root_at, whole_range, check_of, IsAccepted, IsRefused, Decides}
use Rattle.archive_core_validation.proofs.Rooted.{decided as decides, decided_has_value}
use Rattle.cabinet_text_grammar.specs.Tree.{Tree}
use Rattle.cabinet_documents.specs.Node.{node_shape, node_names, KnowsNode}
use Rattle.cabinet_documents.specs.Accepted.{Accepted}
use Rattle.cabinet_documents.specs.Audit.{first_of, IsRefusedFor}
use Rattle.cabinet_documents.specs.Laws.{AuditDecided}
use Rattle.cabinet_documents.proofs.Deciding.{audit_decides_law}
use Rattle.cabinet_documents.proofs.NodeWalks.{BehindWalk, behind_walk}
use Rattle.cabinet_archives.specs.Sound.{AuditsTo}
use Rattle.cabinet_archives.specs.Refused.{refusal_of, IsRefusalFor, for_memory, for_access}
use Rattle.cabinet_archives.specs.declared.opening.refusal.OpenRefusal.{OpenRefusal}

-- ---- the access

abbrev kept_by : ArchiveValidator → Kept
kept_by a = record { start = a.start; end = a.end; most = most_within a.most; pushes = a.pushes.items; seen = none_seen }

-- the root of a document, where so many regions may nest
module _ (bytes : List ℕ) (most : ℕ) where
  abbrev pub HasNode : Type 0
  HasNode = IsAccepted node_names bytes node_shape (root_position (length bytes) node_shape) most

  abbrev pub HasNoNode : Error → Type 0
  HasNoNode = IsRefused node_names bytes node_shape (root_position (length bytes) node_shape) most

  abbrev RootDecides : {A : Type 0} → Result A Error → Type 0
  RootDecides = Decides node_names bytes node_shape (root_position (length bytes) node_shape) most

  decides_as : {A : Type 0} (r : Result A Error) → RootDecides (check_of r) → RootDecides r
  decides_as (Ok x) h = h
  decides_as (Err e) h = h

  -- in a validator of the whole bytes that has visited no position
  pub root_decides : (begun range : ArchiveValidator) (empty positions : SharedValidator)
      → range ≡ begun → positions ≡ empty → kept_by begun ≡ whole (length bytes) most → ((pos : ℕ) → seen_in empty.met pos ≡ none_seen pos)
      → (l : Kept) {A : Type 0} (r : Result A Error)
      → Checks node_names bytes (root_at (root_position (length bytes) node_shape) node_shape) (with_seen (kept_by range) (seen_in positions.met)) (check_of r) l
      → RootDecides r
  root_decides begun range empty positions archive shared begins unmet l r checked =
      let k = with_seen (kept_by range) (seen_in positions.met) in
      let range_is : range_of k ≡ whole_range (length bytes) most = ap (λ x. range_of (kept_by x)) archive ∙ ap range_of begins in
      let none : Records k.seen [] [] = λ pos. ap (λ (x : SharedValidator). seen_in x.met pos) shared ∙ unmet pos in
      decides_as r (decides node_shape node_names bytes (root_position (length bytes) node_shape) most k l (check_of r) range_is none checked)

most_is : most_of 2200 ≡ 2199
unfolding most_of
most_is = refl

-- ---- the audit

abbrev root_of : List ℕ → ℕ
root_of bytes = root_position (length bytes) node_shape

module _ (bytes : List ℕ) (small : AreBytes bytes) (counted : length bytes < 2 ^ 64) (p : HasNode bytes (most_of 2200)) where
  decided : AuditDecided bytes p.value
  decided = audit_decides_law bytes p.value p.regions p.after small counted (record { holds = p.accepts.holds; ascends = p.accepts.ascends })

  -- what it reports of the root decides
  pub audited : (r : Result ℕ OpenRefusal) → AuditsTo bytes 0 (at (root_of bytes) node_shape) r
      → OnOk r ((t : Tree) × Accepted bytes t) × IfErr r (λ why. IsRefusedFor bytes (refusal_of why))
  audited (Ok height) found =
      let a = decided.accepted (node.faults_are ∙ found.1.fits 0 p.value node.run found.0 node.node) in
      ((a.tree, a.accepted), tt)
    where
      node : BehindWalk bytes 0 (root_of bytes) p.value decided.walk
      node = behind_walk bytes (root_of bytes) decided.walked
  audited (Err why) (inl memory) = (tt, subst (λ r. IsRefusedFor bytes (refusal_of r)) (sym memory) tt)
  audited (Err why) (inr told) =
      let h = told p.value node.run node.node in
      (tt, subst (IsRefusedFor bytes) (sym h.1) (decided.refused h.0 (ap first_of node.faults_are ∙ h.2)))
    where
      node : BehindWalk bytes 0 (root_of bytes) p.value decided.walk
      node = behind_walk bytes (root_of bytes) decided.walked

-- the node that was accessed has a value
pub node_there : (bytes : List ℕ) {A : Type 0} (x : A) → HasNode bytes (most_of 2200) → HasValue node_shape KnowsNode bytes (root_of bytes)
node_there bytes {A = A} x p = decided_has_value node_shape KnowsNode node_names bytes (root_of bytes) (most_of 2200) {A = A} (Ok x) refl p

-- ---- refusals

pub refused_for : (bytes : List ℕ) (e : Error) (r : OpenRefusal) → IsRefusalFor e r → (e ≢ OutOfMemory → HasNoNode bytes (most_of 2200) e) → IsRefusedFor bytes (refusal_of r)
refused_for bytes e r (for_memory f g) h = subst (λ x. IsRefusedFor bytes (refusal_of x)) (sym g) tt
refused_for bytes e r (for_access f g) h = subst (λ x. IsRefusedFor bytes (refusal_of x)) (sym g) (subst (λ most. HasNoNode bytes most e) most_is (h f))
