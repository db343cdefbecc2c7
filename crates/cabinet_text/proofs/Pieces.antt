-- The keys of the pairs of a map: what is written of each, and how many lie within bounds.
use Rattle.std.proofs.Common.{◌≡◌, ℕ, Bool, true, false, if◌then◌else◌, List, [], ◌∷◌, ◌++◌, flat_map, refl, sym, ap, ◌∙◌, subst, append_assoc, append-nil, codes, string_bytes, String, Global, length, ◌≤◌, ◌+◌, suc, cond, length-append, arith}
use Rattle.std.specs.List.{filter}
use Rattle.archive_shape_layout.specs.Progress.{Progress}
use Rattle.archive_shape_layout.specs.declared.error.Error.{Error}
use Rattle.archive_shape_layout.specs.Writing.{Written, Failed}
use Rattle.archive_shape_layout.proofs.Joined.{written_none}
use Rattle.cabinet_text_grammar.specs.Tree.{Tree}
use Rattle.cabinet_text_grammar.specs.Item.{key_item}
use Rattle.cabinet_text_grammar.specs.Spelling.{spelled}
use Rattle.cabinet_text_grammar.specs.Answering.{keys_in, lies_within, spelled_keys}
use Rattle.cabinet_text_nodes.specs.View.{node_pairs}
use Rattle.cabinet_text_nodes.proofs.Pieces.{AreWrittenBefore, one_more}
use Rattle.cabinet_text_nodes.specs.declared.node.Node.{Node}

-- what is written of a pair: its key, and nothing where the key does not lie within the bounds
abbrev pub key_piece : String Global × Node → List ℕ
key_piece p = codes " " ++ spelled (key_item (string_bytes p.0))

abbrev pub piece_within : List ℕ → List ℕ → String Global × Node → List ℕ
piece_within low high p = if lies_within low high (string_bytes p.0) then key_piece p else []

pub keys_pieces : (ps : List (String Global × Node)) → flat_map key_piece ps ≡ spelled_keys (keys_in (node_pairs [] ps))
keys_pieces [] = refl
keys_pieces (p ∷ ps) = ap (λ w. key_piece p ++ w) (keys_pieces ps)

pub within_pieces : (low high : List ℕ) (ps : List (String Global × Node)) → flat_map (piece_within low high) ps ≡ spelled_keys (filter (lies_within low high) (keys_in (node_pairs [] ps)))
within_pieces low high [] = refl
within_pieces low high (p ∷ ps) = ap (λ w. piece_within low high p ++ w) (within_pieces low high ps) ∙ by (lies_within low high (string_bytes p.0)) (filter (lies_within low high) (keys_in (node_pairs [] ps)))
  where
    by : (b : Bool) (ks : List (List ℕ)) → (if b then key_piece p else []) ++ spelled_keys ks ≡ spelled_keys (if b then string_bytes p.0 ∷ ks else ks)
    by true ks = refl
    by false ks = refl

-- the keys of pairs are those under each table
pub keys_same : (table : List Tree) (ps : List (String Global × Node)) → keys_in (node_pairs [] ps) ≡ keys_in (node_pairs table ps)
keys_same table [] = refl
keys_same table (p ∷ ps) = ap (λ ks. string_bytes p.0 ∷ ks) (keys_same table ps)

pub keys_counted : (ps : List (String Global × Node)) → length (keys_in (node_pairs [] ps)) ≡ length ps
keys_counted [] = refl
keys_counted (p ∷ ps) = omega (arith, keys_counted ps)

-- the number of keys that lie within the bounds, of the pairs before some rest
pub record IsCountBefore (low high : List ℕ) (n : ℕ) (xs rest : List (String Global × Node)) : Type 0 where
  pub done : List (String Global × Node)
  pub split : xs ≡ done ++ rest
  pub count : n ≡ length (filter (lies_within low high) (keys_in (node_pairs [] done)))

filter_within : (f : List ℕ → Bool) (ks : List (List ℕ)) → length (filter f ks) ≤ length ks
filter_within f [] = omega arith
filter_within f (k ∷ ks) = by (f k) (filter_within f ks)
  where
    by : (b : Bool) → length (filter f ks) ≤ length ks → length (cond b (k ∷ filter f ks) (filter f ks)) ≤ suc (length ks)
    by true h = omega (arith, h)
    by false h = omega (arith, h)

count_one : (f : List ℕ → Bool) (ps : List (String Global × Node)) (p : String Global × Node) → length (filter f (keys_in (node_pairs [] (ps ++ p ∷ [])))) ≡ length (filter f (keys_in (node_pairs [] ps))) + length (filter f (string_bytes p.0 ∷ []))
count_one f [] p = omega arith
count_one f (q ∷ ps) p = by (f (string_bytes q.0)) (filter f (keys_in (node_pairs [] (ps ++ p ∷ [])))) (filter f (keys_in (node_pairs [] ps))) (count_one f ps p)
  where
    by : (b : Bool) (x y : List (List ℕ)) → length x ≡ length y + length (filter f (string_bytes p.0 ∷ [])) → length (cond b (string_bytes q.0 ∷ x) x) ≡ length (cond b (string_bytes q.0 ∷ y) y) + length (filter f (string_bytes p.0 ∷ []))
    by true x y h = omega (arith, h)
    by false x y h = h

pub count_none : (low high : List ℕ) (xs : List (String Global × Node)) → IsCountBefore low high 0 xs xs
count_none low high xs = record { done = []; split = refl; count = refl }

pub count_fits : (low high : List ℕ) (n : ℕ) (xs rest : List (String Global × Node)) → IsCountBefore low high n xs rest → n ≤ length xs
count_fits low high n xs rest h =
    omega (arith, h.count, filter_within (lies_within low high) (keys_in (node_pairs [] h.done)), keys_counted h.done, ap length h.split, length-append h.done rest)

pub count_next : (low high : List ℕ) (n : ℕ) (xs : List (String Global × Node)) {rest : List (String Global × Node)} (p : String Global × Node) (later : List (String Global × Node)) (b : Bool) → lies_within low high (string_bytes p.0) ≡ b → rest ≡ p ∷ later → IsCountBefore low high n xs rest → IsCountBefore low high (n + (if b then 1 else 0)) xs later
count_next low high n xs p later b within is h = record {
  done = h.done ++ p ∷ [];
  split = h.split ∙ ap (λ ys. h.done ++ ys) is ∙ sym (append_assoc h.done (p ∷ []) later);
  count = ap (λ m. m + (if b then 1 else 0)) h.count ∙ ap (λ m. length (filter (lies_within low high) (keys_in (node_pairs [] h.done))) + m) (one b ∙ ap (λ a. length (cond a (string_bytes p.0 ∷ []) [])) (sym within)) ∙ sym (count_one (lies_within low high) h.done p);
}
  where
    one : (a : Bool) → (if a then 1 else 0) ≡ length (cond a (string_bytes p.0 ∷ []) [])
    one true = refl
    one false = refl

pub count_all : (low high : List ℕ) (n : ℕ) (xs : List (String Global × Node)) {rest : List (String Global × Node)} → rest ≡ [] → IsCountBefore low high n xs rest → n ≡ length (filter (lies_within low high) (keys_in (node_pairs [] xs)))
count_all low high n xs is h = h.count ∙ ap (λ ps. length (filter (lies_within low high) (keys_in (node_pairs [] ps)))) (sym (h.split ∙ ap (λ ys. h.done ++ ys) is ∙ append-nil h.done))

module _ {W : Type 0} {observable counts : Bool} {contents : W → List ℕ} {pos failures : W → ℕ} {last_error : W → Error} {known : W → ℕ → Progress ℕ} where
  -- a key that does not lie within the bounds, and one that does
  pub one_outside : (low high : List ℕ) {old new : W} {xs rest : List (String Global × Node)} (p : String Global × Node) (later : List (String Global × Node)) → lies_within low high (string_bytes p.0) ≡ false → rest ≡ p ∷ later
      → AreWrittenBefore observable counts contents pos failures last_error known (piece_within low high) old new xs rest
      → AreWrittenBefore observable counts contents pos failures last_error known (piece_within low high) old new xs later
  one_outside low high {new = new} p later out is before =
      let P : List ℕ → Type 0 = λ piece. Written observable counts contents pos failures last_error known new new piece in
      one_more (piece_within low high) p later is before (subst P (sym (ap (λ b. if b then key_piece p else []) out)) (written_none new))

  pub one_inside : (low high : List ℕ) {old mid new : W} {xs rest : List (String Global × Node)} (p : String Global × Node) (later : List (String Global × Node)) → lies_within low high (string_bytes p.0) ≡ true → rest ≡ p ∷ later
      → AreWrittenBefore observable counts contents pos failures last_error known (piece_within low high) old mid xs rest
      → Written observable counts contents pos failures last_error known mid new (key_piece p)
      → AreWrittenBefore observable counts contents pos failures last_error known (piece_within low high) old new xs later
  one_inside low high {mid = mid} {new = new} p later inside is before now =
      let P : List ℕ → Type 0 = λ piece. Written observable counts contents pos failures last_error known mid new piece in
      one_more (piece_within low high) p later is before (subst P (sym (ap (λ b. if b then key_piece p else []) inside)) now)

  pub inside_failed : (low high : List ℕ) {old new : W} {e : Error} (p : String Global × Node) → lies_within low high (string_bytes p.0) ≡ true
      → Failed observable counts contents pos failures last_error known old new (key_piece p) e
      → Failed observable counts contents pos failures last_error known old new (piece_within low high p) e
  inside_failed low high {old = old} {new = new} {e = e} p inside failed =
      let P : List ℕ → Type 0 = λ piece. Failed observable counts contents pos failures last_error known old new piece e in
      subst P (sym (ap (λ b. if b then key_piece p else []) inside)) failed
