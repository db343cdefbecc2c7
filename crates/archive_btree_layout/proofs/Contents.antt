-- What a node's content is, and the words of a window.
use Rattle.std.proofs.Common.{◌≡◌, ◌∙◌, ℕ, zero, suc, ◌+◌, ◌<◌, ◌≤◌, Bool, true, false, ◌&&◌, nat_le, List, drop, Option, Some, None, refl, ap, sym, subst, arith, get_or-drop, get_or-take, add_assoc}
use Rattle.std.specs.Prelude.{⊤, slice_index}
use Rattle.archive_shape_layout.specs.Bytes.{window, word_at}
use Rattle.archive_shape_layout.specs.Shape.{Shape}
use Rattle.archive_shape_layout.specs.Content.{Part, Span, Label, Content, choose, following, node_content, child_content}
use Rattle.archive_shape_layout.specs.Content.Label.{same}
use Rattle.archive_shape_layout.specs.Content.Content.{illegal, plain, claimed, counting}

abbrev pub IsPlain : Content → Type 0
IsPlain illegal = ⊤
IsPlain (plain l ps) = ⊤
IsPlain (claimed s l ps) = ⊥
IsPlain (counting c t q len) = ⊥

abbrev pub IsClaimed : Content → Type 0
IsClaimed illegal = ⊤
IsClaimed (plain l ps) = ⊥
IsClaimed (claimed s l ps) = ⊤
IsClaimed (counting c t q len) = ⊥

chosen_claimed : (b : Bool) (s : Span) (l : Label) (ps : List Part) → IsClaimed (choose b (claimed s l ps) illegal)
unfolding choose
chosen_claimed true s l ps = tt
chosen_claimed false s l ps = tt

pub node_is_claimed : (level most : ℕ) (k v : Shape) (pos kind : ℕ) (own : List ℕ) → IsClaimed (node_content level most k v pos kind own)
unfolding node_content
node_is_claimed level most k v pos zero own = chosen_claimed _ _ _ _
node_is_claimed level most k v pos (suc zero) own = chosen_claimed _ _ _ _
node_is_claimed level most k v pos (suc (suc kind)) own = tt

pub followed_plain : (o : Option ℕ) (f : ℕ → List Part) → IsPlain (following o (λ t. plain same (f t)))
unfolding following
followed_plain None f = tt
followed_plain (Some t) f = tt

pub chosen_plain : (b : Bool) (l : Label) (ps : List Part) (c : Content) → IsPlain c → IsPlain (choose b (plain l ps) c)
unfolding choose
chosen_plain true l ps c h = tt
chosen_plain false l ps c h = h

allowed_plain : (b : Bool) (c : Content) → IsPlain c → IsPlain (choose b c illegal)
unfolding choose
allowed_plain true c h = h
allowed_plain false c h = tt

pub child_is_plain : (level most : ℕ) (k v : Shape) (pos : ℕ) (own : List ℕ) → IsPlain (child_content level most k v pos own)
unfolding child_content
child_is_plain level most k v pos own = chosen_plain _ _ _ _ (allowed_plain (nat_le level 32) _ (followed_plain _ _))

pub pick : (b : Bool) (c : Content) {s : Span} {l : Label} {ps : List Part} → choose b c illegal ≡ claimed s l ps → (b ≡ true) × (c ≡ claimed s l ps)
unfolding choose
pick true c e = (refl, e)
pick false c e = absurd cc

pub allowed : (b : Bool) (c : Content) {l : Label} {ps : List Part} → choose b c illegal ≡ plain l ps → c ≡ plain l ps
unfolding choose
allowed true c e = e
allowed false c e = absurd cc

pub both : (a b : Bool) → (a && b) ≡ true → (a ≡ true) × (b ≡ true)
both true b e = (refl, e)
both false b e = absurd cc

pub kind_of : (bytes : List ℕ) (pos : ℕ) → slice_index (drop pos bytes) 0 ≡ slice_index bytes pos
kind_of bytes pos = let e = get_or-drop pos bytes 0 0 in let z : pos + 0 ≡ pos = omega arith in subst (λ p. slice_index (drop pos bytes) 0 ≡ slice_index bytes p) z e
