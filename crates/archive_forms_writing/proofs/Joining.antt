-- Bytes that are written over others, one piece after another.
use Rattle.std.proofs.Common.{◌≡◌, ℕ, zero, suc, ◌+◌, ◌-◌, ◌≤◌, ◌<◌, set, List, [], ◌∷◌, ◌++◌, length, take, drop, arith, le_refl, length-append, append_assoc, append-nil, ap, sym, refl, subst, ◌∙◌}
use Rattle.std.proofs.Math.Seq.{take-append_seam}
use Rattle.std.proofs.Math.ListN.{drop_of_length-le}
use Rattle.std.proofs.lemmas.List.{length-take, drop-drop, drop_at, take-append-drop, length-replicate}
use Rattle.archive_shape_layout.specs.Edit.{Spares}
use Rattle.archive_shape.specs.Bytes.{HasBytes, zeros, overwrite}
use Rattle.archive_shape.proofs.Spared.{spares_within, spares_both, spares_overwritten}
use Rattle.archive_shape.proofs.Written.{length-overwrite, window_there, window_behind}
use Rattle.archive_shape.proofs.Pieces.{stands_left, stands_right}
use Rattle.archive_forms_laws.specs.Options.{tagged_bytes}
use Rattle.archive_forms_values.proofs.Joined.{overwrites_joined}

-- ---- bytes that are written over zeros

-- bytes are what is before a piece, the piece, and what is after it
split_window : (bytes : List ℕ) (at n : ℕ) (p : List ℕ) → HasBytes bytes at p → n ≡ length p → bytes ≡ take at bytes ++ (p ++ drop (at + n) bytes)
split_window bytes at n p s e =
    sym (take-append-drop at bytes)
    ∙ ap (λ l. take at bytes ++ l) (sym (take-append-drop (length p) (drop at bytes)) ∙ ap (λ l. l ++ drop (length p) (drop at bytes)) s ∙ ap (λ l. p ++ l) (drop-drop (length p) at bytes ∙ ap (λ k. drop (at + k) bytes) (sym e)))

-- a piece over part of the zeros is the zeros with that piece in them
pub fills : (bytes : List ℕ) (at k j : ℕ) (p : List ℕ) → HasBytes bytes at (zeros k ++ (zeros (length p) ++ zeros j)) → at + (k + (length p + j)) ≤ length bytes
    → overwrite bytes (at + k) p ≡ overwrite bytes at (zeros k ++ (p ++ zeros j))
fills bytes at k j p s room =
    let pre = take at bytes in
    let zk = zeros k in
    let zp = zeros (length p) in
    let zj = zeros j in
    let rest = drop (at + (k + (length p + j))) bytes in
    let nk : length zk ≡ k = length-replicate _ _ in
    let np : length zp ≡ length p = length-replicate _ _ in
    let nj : length zj ≡ j = length-replicate _ _ in
    let npre : length pre ≡ at = omega (arith, length-take at bytes) in
    let whole : bytes ≡ pre ++ ((zk ++ (zp ++ zj)) ++ rest) = split_window bytes at (k + (length p + j)) (zk ++ (zp ++ zj)) s (omega (arith, length-append zk (zp ++ zj), length-append zp zj)) in
    let front : bytes ≡ (pre ++ zk) ++ ((zp ++ zj) ++ rest) = whole ∙ ap (λ l. pre ++ l) (append_assoc zk (zp ++ zj) rest) ∙ sym (append_assoc pre zk ((zp ++ zj) ++ rest)) in
    let nfront : length (pre ++ zk) ≡ at + k = omega (arith, length-append pre zk) in
    let first : take (at + k) bytes ≡ pre ++ zk = ap (take (at + k)) front ∙ ap (λ m. take m ((pre ++ zk) ++ ((zp ++ zj) ++ rest))) (sym nfront) ∙ take-append_seam (pre ++ zk) ((zp ++ zj) ++ rest) in
    let back : bytes ≡ ((pre ++ zk) ++ zp) ++ (zj ++ rest) = front ∙ ap (λ l. (pre ++ zk) ++ l) (append_assoc zp zj rest) ∙ sym (append_assoc (pre ++ zk) zp (zj ++ rest)) in
    let nback : length ((pre ++ zk) ++ zp) ≡ at + k + length p = omega (arith, length-append (pre ++ zk) zp) in
    let last : drop (at + k + length p) bytes ≡ zj ++ rest = ap (drop (at + k + length p)) back ∙ drop_at ((pre ++ zk) ++ zp) (zj ++ rest) (at + k + length p) nback in
    let end : drop (at + length (zk ++ (p ++ zj))) bytes ≡ rest = ap (λ m. drop m bytes) (omega (arith, length-append zk (p ++ zj), length-append p zj)) in
    ap (λ l. l ++ (p ++ drop (at + k + length p) bytes)) first
    ∙ ap (λ l. (pre ++ zk) ++ (p ++ l)) last
    ∙ append_assoc pre zk (p ++ (zj ++ rest))
    ∙ ap (λ l. pre ++ (zk ++ l)) (sym (append_assoc p zj rest))
    ∙ ap (λ l. pre ++ l) (sym (append_assoc zk (p ++ zj) rest))
    ∙ ap (λ l. pre ++ ((zk ++ (p ++ zj)) ++ l)) (sym end)

-- zeros after zeros
zeros-append : (m n : ℕ) → zeros m ++ zeros n ≡ zeros (m + n)
zeros-append zero n = let e : n ≡ 0 + n = omega arith in ap zeros e
zeros-append (suc m) n = let e : suc (m + n) ≡ suc m + n = omega arith in ap (λ l. 0 ∷ l) (zeros-append m n) ∙ ap zeros e

-- zeros over zeros change nothing
pub unfilled : (bytes : List ℕ) (at n : ℕ) → HasBytes bytes at (zeros n) → overwrite bytes at (zeros n) ≡ bytes
unfilled bytes at n s = sym (split_window bytes at (length (zeros n)) (zeros n) s refl)

-- a tag at the start of zeros, and a payload after it
pub tagged_over : (bytes : List ℕ) (at offset size tag : ℕ) (payload : List ℕ) → 1 ≤ offset → offset + length payload ≤ size → at + size ≤ length bytes → HasBytes bytes at (zeros size)
    → overwrite (overwrite bytes at (tag ∷ [])) (at + offset) payload ≡ overwrite bytes at (tagged_bytes tag offset size payload)
tagged_over bytes at offset size tag payload first fits room s =
    let k = offset - 1 in
    let j = size - (offset + length payload) in
    let m = size - 1 in
    let P : List ℕ → Type 0 = λ l. HasBytes bytes at l in
    let z1 : zeros size ≡ zeros 0 ++ (zeros 1 ++ zeros m) = (let e : size ≡ 1 + m = omega arith in ap zeros e) ∙ sym (zeros-append 1 m) in
    let one : overwrite bytes (at + 0) (tag ∷ []) ≡ overwrite bytes at (zeros 0 ++ ((tag ∷ []) ++ zeros m)) = fills bytes at 0 m (tag ∷ []) (subst P z1 s) (omega arith) in
    let here : overwrite bytes at (tag ∷ []) ≡ overwrite bytes at ((tag ∷ []) ++ zeros m) = (let e : at ≡ at + 0 = omega arith in ap (λ a. overwrite bytes a (tag ∷ [])) e) ∙ one in
    let new = overwrite bytes at (tag ∷ []) in
    let nm : length (zeros m) ≡ m = length-replicate _ _ in
    let fits_new : at + length ((tag ∷ []) ++ zeros m) ≤ length bytes = omega arith in
    let there : HasBytes (overwrite bytes at ((tag ∷ []) ++ zeros m)) at ((tag ∷ []) ++ zeros m) = window_there bytes at ((tag ∷ []) ++ zeros m) fits_new in
    let Q : List ℕ → Type 0 = λ l. HasBytes l (at + 1) (zeros m) in
    let behind_tag : HasBytes new (at + 1) (zeros m) = subst Q (sym here) (stands_right (overwrite bytes at ((tag ∷ []) ++ zeros m)) at (tag ∷ []) (zeros m) (at + 1) refl there) in
    let R : List ℕ → Type 0 = λ l. HasBytes new (at + 1) l in
    let z2 : zeros m ≡ zeros k ++ (zeros (length payload) ++ zeros j) = (let e : m ≡ k + (length payload + j) = omega arith in ap zeros e) ∙ sym (zeros-append k (length payload + j)) ∙ ap (λ l. zeros k ++ l) (sym (zeros-append (length payload) j)) in
    let long : length new ≡ length bytes = length-overwrite bytes at (tag ∷ []) (omega arith) in
    let two : overwrite new (at + 1 + k) payload ≡ overwrite new (at + 1) (zeros k ++ (payload ++ zeros j)) = fills new (at + 1) k j payload (subst R z2 behind_tag) (omega arith) in
    let nk : length (zeros k) ≡ k = length-replicate _ _ in
    let nj : length (zeros j) ≡ j = length-replicate _ _ in
    (let e : at + offset ≡ at + 1 + k = omega arith in ap (λ a. overwrite new a payload) e)
    ∙ two
    ∙ overwrites_joined bytes at 1 (tag ∷ []) (zeros k ++ (payload ++ zeros j)) refl (omega (arith, length-append (zeros k) (payload ++ zeros j), length-append payload (zeros j)))

-- part of zeros is zero
pub zeros_part : (bytes : List ℕ) (at size from n : ℕ) → from + n ≤ size → HasBytes bytes at (zeros size) → HasBytes bytes (at + from) (zeros n)
zeros_part bytes at size from n fits s =
    let j = size - (from + n) in
    let z : zeros size ≡ zeros from ++ (zeros n ++ zeros j) = (let e : size ≡ from + (n + j) = omega arith in ap zeros e) ∙ sym (zeros-append from (n + j)) ∙ ap (λ l. zeros from ++ l) (sym (zeros-append n j)) in
    let P : List ℕ → Type 0 = λ l. HasBytes bytes at l in
    let long : length (zeros from) ≡ from = length-replicate _ _ in
    stands_left bytes (at + from) (zeros n) (zeros j) (stands_right bytes at (zeros from) (zeros n ++ zeros j) (at + from) (omega arith) (subst P z s))

-- ---- pieces of a place that is zero

module _ (bytes : List ℕ) (at size : ℕ) (room : at + size ≤ length bytes) (blank : HasBytes bytes at (zeros size)) (done : List ℕ) where
  -- what lies after those that were written is still zero
  pub still_zero : (from n : ℕ) → length done ≤ from → from + n ≤ size → HasBytes (overwrite bytes at done) (at + from) (zeros n)
  still_zero from n h fits = window_behind bytes at done (omega arith) (at + from) (length (zeros n)) (omega arith) ∙ zeros_part bytes at size from n fits blank

  -- another piece, with the zeros before it
  pub piece_behind : (from : ℕ) (piece : List ℕ) → length done ≤ from → from + length piece ≤ size
      → overwrite (overwrite bytes at done) (at + from) piece ≡ overwrite bytes at (done ++ (zeros (from - length done) ++ piece))
  piece_behind from piece h fits =
      let now = overwrite bytes at done in
      let k = from - length done in
      let P : List ℕ → Type 0 = λ l. HasBytes now (at + length done) l in
      let long : length now ≡ length bytes = length-overwrite bytes at done (omega arith) in
      let gap : length (zeros k) ≡ k = length-replicate _ _ in
      let z : zeros (k + length piece) ≡ zeros k ++ (zeros (length piece) ++ zeros 0) = sym (zeros-append k (length piece)) ∙ ap (λ l. zeros k ++ l) (sym (append-nil (zeros (length piece)))) in
      let here = subst P z (still_zero (length done) (k + length piece) (omega arith) (omega arith)) in
      (let e : at + from ≡ at + length done + k = omega arith in ap (λ n. overwrite now n piece) e)
      ∙ fills now (at + length done) k 0 piece here (omega arith)
      ∙ ap (λ l. overwrite now (at + length done) (zeros k ++ l)) (append-nil piece)
      ∙ overwrites_joined bytes at (length done) done (zeros k ++ piece) refl (omega (arith, length-append (zeros k) piece))

  -- the zeros after the last
  pub zeros_behind : length done ≤ size → overwrite bytes at done ≡ overwrite bytes at (done ++ zeros (size - length done))
  zeros_behind h =
      let n = size - length done in
      let long : length (zeros n) ≡ n = length-replicate _ _ in
      sym (unfilled (overwrite bytes at done) (at + length done) n (still_zero (length done) n (omega arith) (omega arith)))
      ∙ overwrites_joined bytes at (length done) done (zeros n) refl (omega arith)

-- a byte that is set is written
pub set_over : (bytes : List ℕ) (at b : ℕ) → at < length bytes → set bytes at b ≡ overwrite bytes at (b ∷ [])
set_over [] at b h = absurd (omega (arith, h))
set_over (x ∷ xs) zero b h = refl
set_over (x ∷ xs) (suc at) b h =
    let e : suc (at + 1) ≡ suc at + 1 = omega arith in
    ap (λ l. x ∷ l) (set_over xs at b (omega (arith, h))) ∙ ap (λ k. x ∷ (take at xs ++ (b ∷ drop k (x ∷ xs)))) e

-- what is written over all bytes is all
pub whole_over : (bytes : List ℕ) (from : ℕ) (piece : List ℕ) → from ≡ 0 → length piece ≡ length bytes → overwrite bytes from piece ≡ piece
whole_over bytes from piece z e =
    let P : ℕ → Type 0 = λ n. overwrite bytes n piece ≡ piece in
    let none : drop (0 + length piece) bytes ≡ [] = drop_of_length-le bytes (omega (arith, e)) in
    subst P (sym z) (ap (λ l. piece ++ l) none ∙ append-nil piece)

-- ---- a payload after a tag

module _ (offset size payload : ℕ) (first : 1 ≤ offset) (fits : offset + payload ≤ size) (bytes : List ℕ) (start tag : ℕ) (room : start + size ≤ length bytes) (blank : HasBytes bytes start (zeros size)) where
  -- its place is still zero when the tag is set
  pub payload_place : HasBytes (set bytes start tag) (start + offset) (zeros payload)
  payload_place =
      let P : List ℕ → Type 0 = λ l. HasBytes l (start + offset) (zeros payload) in
      subst P (sym (set_over bytes start tag (omega arith))) (still_zero bytes start size room blank (tag ∷ []) offset payload first fits)

  -- what is written there is written with the tag
  pub payload_over : (own : List ℕ) → length own ≡ payload → overwrite (set bytes start tag) (start + offset) own ≡ overwrite bytes start (tagged_bytes tag offset size own)
  payload_over own is =
      ap (λ l. overwrite l (start + offset) own) (set_over bytes start tag (omega arith))
      ∙ tagged_over bytes start offset size tag own first (omega arith) room blank

-- where a tag is set, and what changes then is part of the payload, the rest stays
pub payload_spares :
    (offset size payload : ℕ) → 1 ≤ offset → offset + payload ≤ size
    → (bytes set_bytes new final : List ℕ) (start tag from : ℕ) → start + size ≤ length bytes
    → set_bytes ≡ set bytes start tag → from ≡ start + offset → new ≡ final
    → Spares set_bytes new from payload
    → Spares bytes final start size
payload_spares offset size payload first fits bytes set_bytes new final start tag from room is_set is_from ends h =
    let tagged : Spares bytes set_bytes start size =
    subst (λ l. Spares bytes l start size) (sym (is_set ∙ set_over bytes start tag (omega arith)))
    (spares_overwritten bytes start (tag ∷ []) start size (le_refl start) (omega arith) room) in
    subst (λ l. Spares bytes l start size) ends
    (spares_both bytes set_bytes new start size tagged (spares_within set_bytes new from payload start size (omega arith) (omega arith) h))
