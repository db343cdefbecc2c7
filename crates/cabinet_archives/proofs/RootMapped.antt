-- What is written of the root of an archive, and after it.
use Rattle.std.proofs.Common.{◌≡◌, ◌∙◌, ℕ, Bor, List, [], ◌∷◌, ◌++◌, length, Option, Result, Ok, Err, refl, sym, ap, subst}
use Rattle.archive_shape_layout.specs.Content.{pointee_content}
use Rattle.archive_shape_layout.specs.Content.Part.{at}
use Rattle.archive_shape_layout.specs.Content.Label.{same}
use Rattle.archive_shape_layout.specs.Writing.{WriterMembers, Writes}
use Rattle.archive_shape_layout.specs.declared.error.Error.{Error}
use Rattle.archive_shape_layout.proofs.Joined.{failed_first, appends_after}
use Rattle.cabinet_documents.specs.Node.{node_names, node_shape}
use Rattle.cabinet_archives.specs.Mapping.{Listed, listed_region, Maps}
use Rattle.cabinet_archives.specs.MapLaws.{root_name, RootMaps}
use Rattle.cabinet_archives.specs.MapLines.{no_tally, spelled_end, spelled_map, tallied, written}
use Rattle.cabinet_archives.specs.Mapped.{Mapped, WritesListed}
use Rattle.cabinet_archives.specs.declared.mapping.region.RegionKind.{RegionKind}
use Rattle.cabinet_archives.specs.declared.mapping.region.RegionKind.TheVariants as kind
use Rattle.cabinet_archives.specs.declared.mapping.tally.Tally.{Tally}
use Rattle.cabinet_archives.proofs.Listings.{claimed_maps}
use Rattle.cabinet_archives.proofs.NodeListings.{named, only_maps}
use Rattle.cabinet_archives.proofs.Reached.{root_of}
use Rattle.cabinet_archives.proofs.Tallied.{failed_listed, both_listed}

-- what the root leads to, and then its region
record RootListed (bytes : List ℕ) (listed : List Listed) : Type 0 where
  inner : List Listed
  maps : Maps node_names bytes root_name (at (root_of bytes) node_shape) 0 inner
  is : listed ≡ inner ++ listed_region (root_of bytes) 24 root_name

root_listed : (bytes : List ℕ) {listed : List Listed} → RootMaps bytes listed → RootListed bytes listed
unfolding pointee_content
root_listed bytes m =
    let start = root_of bytes in
    let parts = at start node_shape ∷ [] in
    let o = claimed_maps node_names bytes {s = record { start = start; size = 24; align = 8 }} {l = same} {ps = parts} refl m in
    record { inner = o.inner; maps = only_maps bytes o.all; is = o.is }

module _ {W : Type 0} (w : WriterMembers W) {x y : Bor (List ℕ)} {pos start : ℕ} {lines characters : Option ℕ} {old : Tally}
    {listed : List Listed} (e : x ≡ y) (there : pos ≡ start) (is_root : start ≡ root_of y.now) (first : old ≡ no_tally lines characters)
    (m : RootMaps y.now listed) where
  abbrev pub region : List Listed
  region = listed_region start 24 root_name

  abbrev NodeMapped : Tally → W → W → Result (Unit {0}) Error → Type 0
  NodeMapped mid from via result = (k : RegionKind) → Mapped w x.now (named k []) (at pos node_shape) old mid from via result

  abbrev MapWritten : W → W → Result (Unit {0}) Error → Type 0
  MapWritten from to result = Writes w from to (spelled_map (length y.now) lines characters listed) result

  abbrev o : RootListed y.now listed
  o = root_listed y.now m

  listed_is : listed ≡ o.inner ++ region
  listed_is = o.is ∙ ap (λ n. o.inner ++ listed_region n 24 root_name) (sym is_root)

  inner_written : (mid : Tally) (from via : W) (result : Result (Unit {0}) Error) → NodeMapped mid from via result
      → WritesListed w o.inner (no_tally lines characters) mid from via result
  inner_written mid from via result mapped =
      let lent = subst (λ (b : Bor (List ℕ)). Mapped w b.now root_name (at pos node_shape) old mid from via result) e (mapped kind.Root) in
      let placed = subst (λ n. Mapped w y.now root_name (at n node_shape) old mid from via result) (there ∙ is_root) lent in
      subst (λ t. Mapped w y.now root_name (at (root_of y.now) node_shape) t mid from via result) first placed o.inner o.maps

  pub node_failed : (mid : Tally) (from via : W) (why : Error) → NodeMapped mid from via (Err why) → MapWritten from via (Err why)
  node_failed mid from via why mapped =
      let t = no_tally lines characters in
      let all = failed_listed w t mid mid o.inner region listed_is (inner_written mid from via (Err why) mapped) in
      failed_first (spelled_end (tallied t listed) (length y.now)) all.0

  pub region_failed : (mid : Tally) (from via last : W) (why : Error) → NodeMapped mid from via (Ok tt)
      → Writes {A = Unit {0}} w via last (written mid region) (Err why) → MapWritten from last (Err why)
  region_failed mid from via last why mapped failed =
      let t = no_tally lines characters in
      let all = both_listed w t mid mid last (Err why) o.inner region listed_is (inner_written mid from via (Ok tt) mapped) (failed, tt) in
      failed_first (spelled_end (tallied t listed) (length y.now)) all.0

  pub map_written : (mid new : Tally) (from via next last : W) (result : Result (Unit {0}) Error) → NodeMapped mid from via (Ok tt)
      → WritesListed {A = Unit {0}} w region mid new via next (Ok tt)
      → Writes w next last (spelled_end new (length y.now)) result → MapWritten from last result
  map_written mid new from via next last result mapped root end =
      let t = no_tally lines characters in
      let all = both_listed w t mid new next (Ok tt) o.inner region listed_is (inner_written mid from via (Ok tt) mapped) root in
      appends_after last (spelled_end (tallied t listed) (length y.now)) result all.0
      (subst (λ u. Writes w next last (spelled_end u (length y.now)) result) all.1 end)
