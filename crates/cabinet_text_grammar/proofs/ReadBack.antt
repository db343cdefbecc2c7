-- An item read back from its line, so that no two items have the same line.
use Rattle.std.proofs.Common.{◌≡◌, ◌≢◌, ℕ, suc, ◌-◌, ◌<◌, ◌^◌, ℤ, pos, negsuc, true, false, eqb, List, [], ◌∷◌, ◌++◌, length, get_or, drop, IsUtf8, FitsSigned, w64, sym, ap, ◌∙◌, refl, inl, inr, subst, arith, codes}
use Rattle.std.specs.Prelude.{◌==◌, if◌then◌else◌}
use Rattle.std.specs.Fmt.{decimal, signed_decimal}
use Rattle.std.specs.Str.Parse.{digits_value}
use Rattle.std.proofs.lemmas.Fmt.{digits_decimal, digits_value-decimal}
use Rattle.std.proofs.lemmas.Str.Parse.{not_in_digits}
use Rattle.std.proofs.lemmas.List.{append_cancel_left}
use Rattle.std.proofs.lemmas.Bool.{false≢true}
use Rattle.std.proofs.lemmas.Bool.Decides.{eqb_tells}
use Rattle.cabinet_text_grammar.specs.Keys.{ordered, hashed, kept}
use Rattle.cabinet_text_grammar.specs.Tree.{truth, number, text, IsLeaf}
use Rattle.cabinet_text_grammar.specs.Item.{Item, leaf_item, shared_item, none_item, some_item, list_item, map_item, key_item, whole_item, wholes_item, whole_head}
use Rattle.cabinet_text_grammar.specs.Spelling.{escaped, escaped_byte, spelled}
use Rattle.cabinet_text_grammar.specs.Fault.{HasBadEscape, HasBadNumber, bad_number, bad_count, HasBadWholes}
use Rattle.cabinet_text_grammar.proofs.Escapes.{Form, backslash, newline, space, plain, form_of}
use Rattle.cabinet_text_grammar.proofs.Lacking.{own}

-- an item whose numbers and texts are those of a document
abbrev pub IsItem : Item → Type 0
IsItem (leaf_item l) = IsLeaf l
IsItem (shared_item t) = IsUtf8 t
IsItem none_item = Unit {0}
IsItem some_item = Unit {0}
IsItem (list_item n) = n < 2 ^ 64
IsItem (map_item kind n) = n < 2 ^ 64
IsItem (key_item k) = IsUtf8 k
IsItem (whole_item n) = n < 2 ^ 64
IsItem (wholes_item n) = n < 2 ^ 64
IsItem whole_head = Unit {0}

-- the byte that a letter after a backslash represents
unescaped_byte : ℕ → ℕ
unescaped_byte c = if c == 110 then 10 else (if c == 115 then 32 else 92)

mutual
  pub unescaped : List ℕ → List ℕ
  unescaped [] = []
  unescaped (b ∷ bs) = if b == 92 then after_backslash bs else b ∷ unescaped bs

  after_backslash : List ℕ → List ℕ
  after_backslash [] = []
  after_backslash (c ∷ bs) = unescaped_byte c ∷ unescaped bs

unescaped-form : (b : ℕ) (v x : List ℕ) → Form b v → unescaped (v ++ x) ≡ b ∷ unescaped x
unfolding unescaped after_backslash unescaped_byte
unescaped-form b _ x (backslash e) = ap (λ c. c ∷ unescaped x) (sym e)
unescaped-form b _ x (newline e) = ap (λ c. c ∷ unescaped x) (sym e)
unescaped-form b _ x (space e) = ap (λ c. c ∷ unescaped x) (sym e)
unescaped-form b _ x (plain p q r) =
    elim (eqb_tells b 92) [
      | inl is ↦ absurd (p is.1)
      | inr differs ↦ rw differs.0 refl
    ]

pub unescaped-escaped : (t : List ℕ) → unescaped (escaped t) ≡ t
unfolding unescaped
unescaped-escaped [] = refl
unescaped-escaped (b ∷ bs) =
    unescaped-form b (escaped_byte b) (escaped bs) (form_of b) ∙ ap (λ t. b ∷ t) (unescaped-escaped bs)

pub signed_value : List ℕ → ℤ
signed_value bs = if get_or bs 0 0 == 45 then negsuc (digits_value 10 (drop 1 bs) - 1) else pos (digits_value 10 bs)

first_differs_from : (xs : List ℕ) → ((i : ℕ) → i < length xs → get_or xs i 0 ≢ 45) → get_or xs 0 0 ≢ 45
first_differs_from [] h e = false≢true (ap (λ b. eqb b 45) e)
first_differs_from (x ∷ xs) h e = h 0 (omega arith) e

signed_value-signed : (z : ℤ) → FitsSigned w64 z → signed_value (signed_decimal z) ≡ z
unfolding signed_value
signed_value-signed (pos n) fits =
    let below : n < 2 ^ 64 = omega (arith, fits.sfits) in
    let digits = not_in_digits own (decimal n) 45 (digits_decimal own n below) (λ p. omega (arith, p)) in
    elim (eqb_tells (get_or (decimal n) 0 0) 45) [
      | inl is ↦ absurd (first_differs_from (decimal n) digits is.1)
      | inr differs ↦ rw differs.0 (ap pos (digits_value-decimal own n below))
    ]
signed_value-signed (negsuc n) fits =
    ap (λ v. negsuc (v - 1)) (digits_value-decimal own (suc n) (omega (arith, fits.sfits))) ∙ ap negsuc (omega arith)

-- by the first byte of a line, the second of `shared` and `some`, and the sixth of a truth value's and a whole's
unfoldable pub item_of_line : List ℕ → Item
item_of_line line =
    if get_or line 0 0 == 98 then leaf_item (truth (get_or line 5 0 == 116))
    else (if get_or line 0 0 == 105 then leaf_item (number (signed_value (drop 4 line)))
    else (if get_or line 0 0 == 116 then leaf_item (text (unescaped (drop 6 line)))
    else (if get_or line 0 0 == 115 then (if get_or line 1 0 == 104 then shared_item (unescaped (drop 8 line)) else some_item)
    else (if get_or line 0 0 == 110 then none_item
    else (if get_or line 0 0 == 108 then list_item (digits_value 10 (drop 5 line))
    else (if get_or line 0 0 == 111 then map_item ordered (digits_value 10 (drop 8 line))
    else (if get_or line 0 0 == 104 then map_item hashed (digits_value 10 (drop 7 line))
    else (if get_or line 0 0 == 107 then map_item kept (digits_value 10 (drop 5 line))
    else (if get_or line 0 0 == 119 then (if get_or line 5 0 == 32 then whole_item (digits_value 10 (drop 6 line)) else (if get_or line 5 0 == 115 then wholes_item (digits_value 10 (drop 7 line)) else whole_head))
    else key_item (unescaped (drop 1 line)))))))))))

pub read_back : (i : Item) → IsItem i → item_of_line (spelled i) ≡ i
unfolding item_of_line
read_back (leaf_item (truth true)) p = refl
read_back (leaf_item (truth false)) p = refl
read_back (leaf_item (number n)) p = ap (λ z. leaf_item (number z)) (signed_value-signed n p)
read_back (leaf_item (text t)) p = ap (λ u. leaf_item (text u)) (unescaped-escaped t)
read_back (shared_item t) p = ap shared_item (unescaped-escaped t)
read_back none_item p = refl
read_back some_item p = refl
read_back (list_item n) p = ap list_item (digits_value-decimal own n p)
read_back (map_item ordered n) p = ap (map_item ordered) (digits_value-decimal own n p)
read_back (map_item hashed n) p = ap (map_item hashed) (digits_value-decimal own n p)
read_back (map_item kept n) p = ap (map_item kept) (digits_value-decimal own n p)
read_back (key_item k) p = ap key_item (unescaped-escaped k)
read_back (whole_item n) p = ap whole_item (digits_value-decimal own n p)
read_back (wholes_item n) p = ap wholes_item (digits_value-decimal own n p)
read_back whole_head p = refl

pub same_item : (i j : Item) → IsItem i → IsItem j → spelled i ≡ spelled j → i ≡ j
same_item i j p q h = sym (read_back i p) ∙ ap item_of_line h ∙ read_back j q

-- no cause applies to the argument in an item's own line
pub no_bad_escape : (i : Item) → IsItem i → HasBadEscape (spelled i) → ⊥
unfolding item_of_line
no_bad_escape i p (inl (rest, h, bad)) =
    let is : i ≡ leaf_item (text (unescaped rest)) = sym (read_back i p) ∙ ap item_of_line h in
    bad (unescaped rest) (subst IsItem is p) (append_cancel_left (codes "text '") _ _ (sym h ∙ ap spelled is))
no_bad_escape i p (inr (rest, h, bad)) =
    let is : i ≡ shared_item (unescaped rest) = sym (read_back i p) ∙ ap item_of_line h in
    bad (unescaped rest) (subst IsItem is p) (append_cancel_left (codes "shared '") _ _ (sym h ∙ ap spelled is))

count_read :
    (word rest : List ℕ) (make : ℕ → Item) (i : Item)
    → ((n : ℕ) → spelled (make n) ≡ word ++ decimal n) → ((n : ℕ) → IsItem (make n) → n < 2 ^ 64)
    → (v : ℕ) → i ≡ make v → IsItem i → spelled i ≡ word ++ rest → ((n : ℕ) → n < 2 ^ 64 → rest ≢ decimal n) → ⊥
count_read word rest make i spells below v is p h bad =
    bad v (below v (subst IsItem is p)) (append_cancel_left word _ _ (sym h ∙ ap spelled is ∙ spells v))

pub no_bad_number : (i : Item) → IsItem i → HasBadNumber (spelled i) → ⊥
unfolding item_of_line
no_bad_number i p (bad_number rest h bad) =
    let is : i ≡ leaf_item (number (signed_value rest)) = sym (read_back i p) ∙ ap item_of_line h in
    bad (signed_value rest) (subst IsItem is p) (append_cancel_left (codes "int ") _ _ (sym h ∙ ap spelled is))
no_bad_number i p (bad_count rest (inl h) bad) =
    count_read (codes "list ") rest list_item i (λ n. refl) (λ n q. q) _ (sym (read_back i p) ∙ ap item_of_line h) p h bad
no_bad_number i p (bad_count rest (inr (inl h)) bad) =
    count_read (codes "ordered ") rest (map_item ordered) i (λ n. refl) (λ n q. q) _ (sym (read_back i p) ∙ ap item_of_line h) p h bad
no_bad_number i p (bad_count rest (inr (inr (inl h))) bad) =
    count_read (codes "hashed ") rest (map_item hashed) i (λ n. refl) (λ n q. q) _ (sym (read_back i p) ∙ ap item_of_line h) p h bad
no_bad_number i p (bad_count rest (inr (inr (inr (inr h)))) bad) =
    count_read (codes "whole ") rest whole_item i (λ n. refl) (λ n q. q) _ (sym (read_back i p) ∙ ap item_of_line h) p h bad
no_bad_number i p (bad_count rest (inr (inr (inr (inl h)))) bad) =
    count_read (codes "kept ") rest (map_item kept) i (λ n. refl) (λ n q. q) _ (sym (read_back i p) ∙ ap item_of_line h) p h bad

pub no_bad_wholes : (n : ℕ) → 0 < n → n < 2 ^ 64 → HasBadWholes (spelled (wholes_item n)) → ⊥
no_bad_wholes n some below bad = bad.2 n some below (append_cancel_left (codes "wholes ") _ _ (sym bad.1))
