-- The tables of the two kinds of maps, by their controls, keys and numbers.
use Rattle.std.proofs.Common.{◌≡◌, ℕ, zero, suc, ◌+◌, ◌-◌, ◌*◌, ◌<◌, List, [], ◌∷◌, length, take, map, refl, ap, arith}
use Rattle.std.specs.List.{Contains}
use Rattle.std.specs.Prelude.{slice_index_or}
use Rattle.archive_shape_layout.specs.Bytes.{window, word_at}
use Rattle.archive_shape_layout.specs.Content.{control_count}
use Rattle.cabinet_documents.specs.Table.{Slot, Table, entry_of, full_from, hashed_slots, numbered, kept_at, kept_slot}

-- the slots of items in full places
abbrev pub slots_with : {A : Type 0} → (ℕ → A → Slot) → List ℕ → List A → List Slot
slots_with f [] xs = []
slots_with f (p ∷ ps) [] = []
slots_with f (p ∷ ps) (x ∷ xs) = f p x ∷ slots_with f ps xs

-- ---- of a hashed map, where each place is the number of the key there

abbrev pub hashed_slot : ℕ → List ℕ → Slot
hashed_slot p k = record { place = p; number = p; key = k }

pub hashed_are : (ps : List ℕ) (ks : List (List ℕ)) → hashed_slots ps ks ≡ slots_with hashed_slot ps ks
hashed_are [] ks = refl
hashed_are (p ∷ ps) [] = refl
hashed_are (p ∷ ps) (k ∷ ks) = ap (λ ss. hashed_slot p k ∷ ss) (hashed_are ps ks)

abbrev pub hashed_table : ℕ → List ℕ → List (List ℕ) → Table
hashed_table cap controls ks = let slots = hashed_slots (full_from 0 (take cap controls)) ks in record { capacity = cap; controls = controls; slots = slots; entries = map entry_of slots }

-- ---- of a kept map, where each place has the number of a key

abbrev pub numbered_slot : List (List ℕ) → ℕ → ℕ → Slot
numbered_slot ks p n = record { place = p; number = n; key = slice_index_or ks n [] }

abbrev pub kept_table : ℕ → List ℕ → List ℕ → List (List ℕ) → Table
kept_table cap controls numbers ks = record { capacity = cap; controls = controls; slots = slots_with (numbered_slot ks) (full_from 0 (take cap controls)) numbers; entries = numbered 0 ks }

-- entry m, where the first has number i
pub entry_there : (ks : List (List ℕ)) (i n m : ℕ) → m ≡ i + n → n < length ks → Contains (numbered i ks) (record { number = m; key = slice_index_or ks n [] })
entry_there [] i n m e less = absurd (omega (arith, less))
entry_there (k ∷ ks) i zero m e less = let first : i ≡ m = omega (arith, e) in (0, omega arith, ap (λ x. record { number = x; key = k }) first)
entry_there (k ∷ ks) i (suc n) m e less = let r = entry_there ks (i + 1) n m (omega (arith, e)) (omega (arith, less)) in let a = r.1 in (suc r.0, omega (arith, a), r.2)

-- the full places below a position, and their numbers
abbrev pub full_places : List ℕ → ℕ → ℕ → List ℕ
full_places bytes target cap = full_from 0 (take cap (window bytes target (control_count cap)))

abbrev pub number_at : List ℕ → ℕ → ℕ → ℕ
number_at bytes target p = word_at bytes (target - (p + 1) * 4)

abbrev pub numbers_at : List ℕ → ℕ → ℕ → List ℕ
numbers_at bytes target cap = map (number_at bytes target) (full_places bytes target cap)

slots_read : (bytes : List ℕ) (target : ℕ) (ks : List (List ℕ)) (ps : List ℕ) → map (kept_slot bytes target ks) ps ≡ slots_with (numbered_slot ks) ps (map (number_at bytes target) ps)
slots_read bytes target ks [] = refl
slots_read bytes target ks (p ∷ ps) = ap (λ ss. kept_slot bytes target ks p ∷ ss) (slots_read bytes target ks ps)

pub kept_read : (bytes : List ℕ) (cap : ℕ) (ks : List (List ℕ)) (target : ℕ) → kept_at bytes cap ks target ≡ kept_table cap (window bytes target (control_count cap)) (numbers_at bytes target cap) ks
kept_read bytes cap ks target =
    ap (λ ss. record { capacity = cap; controls = window bytes target (control_count cap); slots = ss; entries = numbered 0 ks }) (slots_read bytes target ks (full_places bytes target cap))
