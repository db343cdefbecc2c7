-- What an iterator yields, seen as what another one yields.
use Rattle.std.proofs.Common.{ℕ, ◌+◌, List, [], ◌∷◌, ◌++◌, append-nil, refl, ap, subst, inl, inr, ◌⊎◌, Option, Some, None, Ok, Err}
use Rattle.std.specs.Prelude.{Result}
use Rattle.std.specs.Iterator.{Yields, Drains}
use Rattle.std.specs.Map.Iter.{deref_pair}
use denote.Bor.{Bor}
use Rattle.archive_shape_layout.specs.Shape.{Shape}
use Rattle.archive_shape_layout.specs.Writing.{WriterMembers}
use Rattle.archive_shape_layout.specs.declared.error.Error.{Error}
use Rattle.archive_forms_laws.specs.State.{State}
use Rattle.archive_forms_laws.specs.Spelling.{Spelling}
use Rattle.archive_forms_laws.specs.Serializing.{of_data}
use Rattle.archive_forms_writing.proofs.Laying.{Stops, stopped_first}
use Rattle.archive_btree_spelling.specs.Maps.{btree_spelling}
use Rattle.archive_forms_laws.specs.Taking.{GivesAs}
use Rattle.archive_btree_writing.specs.Built.{IsShort, IsCutShort, BuildsClaimedBy}
use Rattle.archive_btree.specs.Owned.{key_entry, key_of}

module _ {X I J : Type 0} (gives : J → Option X → J → Type 0) (other : I → Option X → I → Type 0) (see : J → I) (same : (from : J) (r : Option X) (to : J) → gives from r to → other (see from) r (see to)) where
  yields_seen : (from to : J) (xs : List X) → Yields gives from xs to → Yields other (see from) xs (see to)
  yields_seen from to [] p = ap see p
  yields_seen from to (x ∷ xs) p = (see p.0, same from (Some x) p.0 p.1, yields_seen p.0 to xs p.2)

  drains_seen : (from : J) (xs : List X) → Drains gives from xs → Drains other (see from) xs
  drains_seen from xs d = (see d.0, (see d.1.0, yields_seen from d.1.0 xs d.1.1, same d.1.0 None d.0 d.1.2))

  module _ {R W : Type 0} (w : Spelling (List X) R) (s : WriterMembers W) where
    short_seen : (claimed taken n : ℕ) (items : List X) (upto : J) (e : Error) → IsShort w s gives claimed taken n items upto e → IsShort w s other claimed taken n items (see upto) e
    short_seen claimed taken n items upto e h = record { fewer = h.fewer; ended = (see h.ended.0, same upto None h.ended.0 h.ended.1); tells = h.tells }

    cut_seen : (claimed taken n behind : ℕ) (from : J) (old new : W) (e : Error) → IsCutShort w s gives claimed taken n behind from old new e → IsCutShort w s other claimed taken n behind (see from) old new e
    cut_seen claimed taken n behind from old new e c = record {
      items = c.items;
      upto = see c.upto;
      came = yields_seen from c.upto c.items c.came;
      counted = c.counted;
      stopped = λ others size st at.
          let piece = w.piece (c.items ++ others) st in
          let refused : Error → Type 0 = λ d. w.piece_refused (c.items ++ others) st d ⊎ IsShort w s gives claimed taken (n + behind) c.items c.upto d in
          let wider : Error → Type 0 = λ d. w.piece_refused (c.items ++ others) st d ⊎ IsShort w s other claimed taken (n + behind) c.items (see c.upto) d in
          let P : List ℕ → Type 0 = λ p. Stops (of_data s) old new p wider e in
          subst P (append-nil piece) (stopped_first (of_data s) [] (piece ++ []) refused wider refl (refuses others st) (c.stopped others size st at));
    }
      where
        refuses : (others : List X) (st : State) → w.piece_refused (c.items ++ others) st e ⊎ IsShort w s gives claimed taken (n + behind) c.items c.upto e
            → w.piece_refused (c.items ++ others) st e ⊎ IsShort w s other claimed taken (n + behind) c.items (see c.upto) e
        refuses others st (inl r) = inl r
        refuses others st (inr h) = inr (short_seen claimed taken (n + behind) c.items c.upto e h)

module _ {A B R Q I J W Z : Type 0} (most : ℕ) (k v : Shape) (keys : Spelling A R) (vals : Spelling B Q) (s : WriterMembers W) (gives : J → Option (A × B) → J → Type 0) (other : I → Option (A × B) → I → Type 0) (see : J → I)
    (same : (from : J) (r : Option (A × B)) (to : J) → gives from r to → other (see from) r (see to)) (root : Z → Option ℕ) where
  -- what is written of the one is written of the other
  pub claimed_seen : (claimed : ℕ) (from : J) (old new : W) (result : Result Z Error) → BuildsClaimedBy most k v keys vals s gives root claimed from old new result → BuildsClaimedBy most k v keys vals s other root claimed (see from) old new result
  claimed_seen claimed from old new (Ok z) h = (h.0, drains_seen gives other see same from h.0 h.1, h.2, h.3)
  claimed_seen claimed from old new (Err e) (inl c) = inl (cut_seen gives other see same (btree_spelling most k v keys vals) s claimed 0 claimed 0 from old new e c)
  claimed_seen claimed from old new (Err e) (inr x) = inr (record { items = x.items; came = drains_seen gives other see same from x.items x.came; more = x.more; written = x.written; tells = x.tells })

-- an entry that comes of a key beside `()` is its key
pub key_given : {A I J : Type 0} (next : I → Option (Bor A) → I → Type 0) (see : J → I) (from : J) (r : Option (A × Unit {0})) (to : J)
    → GivesAs deref_pair (λ s q t. next (see s) (key_of {A = Bor A} {B = Bor (Unit {0})} q) (see t)) from r to → GivesAs key_entry next (see from) r (see to)
key_given next see from None to h = h
key_given next see from (Some y) to h = (h.0.0, h.1, h.2)
