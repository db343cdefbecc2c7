-- Values of types that have a name, which are where the shape of the name is.
use Rattle.std.proofs.Common.{◌≡◌, ℕ, ◌+◌, ◌≤◌, List, length, Some, sym, subst}
use Rattle.archive_shape_layout.specs.Shape.{Shape, Alignment, alignment_bytes, size_of, align_of}
use Rattle.archive_shape_layout.specs.Shape.Shape.{named}
use Rattle.archive_shape_layout.specs.Value.{Value}
use Rattle.archive_shape_layout.specs.Content.{Names, made, shape_named}
use Rattle.archive_shape_layout.specs.Content.Part.{at}
use Rattle.archive_shape_layout.specs.Content.Label.{same}
use Rattle.archive_shape_layout.specs.Holds.{Holds}
use Rattle.archive_shape_layout.proofs.Unique.{by_plain}
use Rattle.archive_shape.specs.Key.{HeldAt}
use Rattle.archive_forms_laws.proofs.Named.{named_is}
use Rattle.archive_forms_values.specs.Parts.{HasValue}
use Rattle.archive_forms_values.proofs.Inside.{one_held}
use Rattle.archive_forms_values.proofs.Pointed.{made_same}

module _ (s : Shape) (name size : ℕ) (align : Alignment) (size_is : size_of s ≡ size) (align_is : align_of s ≡ alignment_bytes align)
    (knows : Names → Type 0) (known : (names : Names) → knows names → shape_named names name ≡ Some s) (bytes : List ℕ) (pos : ℕ) where
  -- the value under a name is that of the shape that the name denotes
  pub named_held : (v : Value) → HeldAt (named name size align) knows bytes pos v → HeldAt s knows bytes pos v
  named_held v h =
      let says = by_plain h.names bytes (named_is s name size align size_is align_is h.names bytes pos (known h.names h.known)) h.holds in
      let one = one_held h.names bytes says.all in
      let value : one.value ≡ v = made_same one.value v (subst (λ x. made same x ≡ Some v) one.is says.is_made) in
      record {
        names = h.names;
        known = h.known;
        level = h.level;
        inside = h.inside;
        regions = h.regions;
        before = h.before;
        after = h.after;
        own_within = subst (λ n. pos + n ≤ length bytes) (sym size_is) h.own_within;
        low = h.low;
        claimed = h.claimed;
        holds = subst (λ x. Holds h.names bytes h.level h.inside (at pos s) x h.regions h.before h.after) value one.holds;
      }

  -- and there is one where the other is
  pub named_has : HasValue (named name size align) knows bytes pos → HasValue s knows bytes pos
  named_has h = record { value = h.value; held = named_held h.value h.held }
