-- Spellings that say the same of each item of a table say the same of the table.
use Rattle.std.proofs.Common.{◌≡◌, ℕ, zero, suc, ◌+◌, List, [], ◌∷◌, map, get_or, refl, sym, ap, ◌∙◌, arith}
use Rattle.archive_shape_layout.specs.Shape.{Shape}
use Rattle.archive_forms_laws.specs.Spelling.{Spelling}
use Rattle.archive_forms_laws.specs.Forms.{seen_as}
use Rattle.archive_forms_laws.proofs.Agreeing.{said, AgreeOn}
use Rattle.archive_hash_writing.specs.Tables.{hashed_spelling, table_spelling}
use Rattle.archive_hash_writing.proofs.Seen.{hashed_seen}

-- the number of each value of a list, counted from n
abbrev numbers_from : {A : Type 0} → ℕ → List A → List ℕ
numbers_from n [] = []
numbers_from n (y ∷ ys) = n ∷ numbers_from (suc n) ys

module _ {A : Type 0} (d : A) (pick : ℕ → A) where
  picked : (n : ℕ) (ys : List A) → ((i : ℕ) → pick (n + i) ≡ get_or ys i d) → map pick (numbers_from n ys) ≡ ys
  picked n [] h = refl
  picked n (y ∷ ys) h =
      let none : n + 0 ≡ n = omega arith in
      let first : pick n ≡ y = ap pick (sym none) ∙ h 0 in
      let rest = picked (suc n) ys (λ i. let next : suc n + i ≡ n + suc i = omega arith in ap pick next ∙ h (suc i)) in
      ap (λ z. z ∷ map pick (numbers_from (suc n) ys)) first ∙ ap (λ zs. y ∷ zs) rest

module _ {A R : Type 0} (w u : Spelling A R) where
  each_of : (ys : List A) (d : A) → AgreeOn w u ys → said w d ≡ said u d → (i : ℕ) → said w (get_or ys i d) ≡ said u (get_or ys i d)
  each_of [] d h e i = e
  each_of (y ∷ ys) d h e zero = h.0
  each_of (y ∷ ys) d h e (suc i) = each_of ys d h.1 e i

  -- seen by numbers that all lead to values of which they say the same, they are one spelling
  pub one_spelling : (at : ℕ → A) → ((i : ℕ) → said w (at i) ≡ said u (at i)) → seen_as at w ≡ seen_as at u
  one_spelling at each = λ j. record {
    value = λ i st. (each i j).value st;
    plain = λ i. (each i j).plain;
    piece = λ i st. (each i j).piece st;
    resolver = λ i st. (each i j).resolver st;
    met = λ i st. (each i j).met st;
    own = λ i r pos. (each i j).own r pos;
    piece_fits = λ i st. (each i j).piece_fits st;
    piece_refused = λ i st e. (each i j).piece_refused st e;
    own_fits = λ i r pos. (each i j).own_fits r pos;
    own_refused = λ i r pos e. (each i j).own_refused r pos e;
    suits = λ fit keys i. (each i j).suits fit keys;
  }

-- the table of items is that of their numbers, which are seen as the items
module _ {A R : Type 0} (w u : Spelling A R) (s : Shape) (most places : ℕ) where
  hashed_agree : (hashes : List ℕ) (xs : List A) → AgreeOn w u xs → said (hashed_spelling most places s w hashes) xs ≡ said (hashed_spelling most places s u hashes) xs
  hashed_agree hashes [] agree = refl
  hashed_agree hashes (x ∷ xs) agree =
      let all : List A = x ∷ xs in
      let at : ℕ → A = λ i. get_or all i x in
      let ks = numbers_from 0 all in
      let listed : map at ks ≡ all = picked x at 0 all (λ i. let none : 0 + i ≡ i = omega arith in ap at none) in
      let one = one_spelling w u at (each_of w u all x agree agree.0) in
      ap (said (hashed_spelling most places s w hashes)) (sym listed) ∙ sym (hashed_seen s at (λ r. r) (λ r. r) (λ r. refl) w most places hashes ks)
      ∙ ap (λ v. said (hashed_spelling most places s v hashes) ks) one
      ∙ hashed_seen s at (λ r. r) (λ r. r) (λ r. refl) u most places hashes ks ∙ ap (said (hashed_spelling most places s u hashes)) listed

  pub tables_agree : (hash : A → ℕ) (xs : List A) → AgreeOn w u xs → said (table_spelling most places s w hash) xs ≡ said (table_spelling most places s u hash) xs
  tables_agree hash xs agree = hashed_agree (map hash xs) xs agree
