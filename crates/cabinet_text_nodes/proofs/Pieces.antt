-- Pieces that are written one after the other, and the answer that lists keys.
use Rattle.std.proofs.Common.{◌≡◌, ℕ, Bool, List, [], ◌∷◌, ◌++◌, flat_map, refl, sym, ap, ◌∙◌, subst, append_assoc, append-nil, codes, Result, length, get_or, take, ◌<◌, ◌+◌}
use Rattle.std.proofs.lemmas.List.{take_more}
use Rattle.std.specs.Fmt.{decimal}
use Rattle.archive_shape_layout.specs.Progress.{Progress}
use Rattle.archive_shape_layout.specs.declared.error.Error.{Error}
use Rattle.archive_shape_layout.specs.Writing.{Written, Failed, Appends}
use Rattle.archive_shape_layout.proofs.Joined.{written_none, written_both, failed_first, failed_after, failed_among, appends_after}
use Rattle.cabinet_text_grammar.specs.Answering.{keys_are, spelled_keys, spelled_answer}

pieces_split : {X : Type 0} (f : X → List ℕ) (xs ys : List X) → flat_map f (xs ++ ys) ≡ flat_map f xs ++ flat_map f ys
pieces_split f [] ys = refl
pieces_split f (x ∷ xs) ys = ap (λ w. f x ++ w) (pieces_split f xs ys) ∙ sym (append_assoc (f x) (flat_map f xs) (flat_map f ys))

keys_line : (n : ℕ) (ks : List (List ℕ)) → length ks ≡ n → (codes "keys " ++ decimal n) ++ (spelled_keys ks ++ codes "\n") ≡ spelled_answer (keys_are ks)
keys_line n ks same = ap (λ m. codes "keys " ++ (decimal m ++ (spelled_keys ks ++ codes "\n"))) (sym same)

module _ {W : Type 0} (observable counts : Bool) (contents : W → List ℕ) (pos failures : W → ℕ) (last_error : W → Error) (known : W → ℕ → Progress ℕ) where
  -- the pieces of those before some rest were written
  pub record AreWrittenBefore {X : Type 0} (f : X → List ℕ) (old new : W) (xs rest : List X) : Type 0 where
    pub done : List X
    pub split : xs ≡ done ++ rest
    pub written : Written observable counts contents pos failures last_error known old new (flat_map f done)

module _ {W : Type 0} {observable counts : Bool} {contents : W → List ℕ} {pos failures : W → ℕ} {last_error : W → Error} {known : W → ℕ → Progress ℕ} where
  -- two pieces were written, and then a call writes the last one of a whole
  pub appends_last : {A : Type 0} {old mid last : W} (new : W) {first second : List ℕ} (third : List ℕ) {whole : List ℕ} (result : Result A Error) → first ++ (second ++ third) ≡ whole
      → Written observable counts contents pos failures last_error known old mid first
      → Written observable counts contents pos failures last_error known mid last second
      → Appends observable counts contents pos failures last_error known last new third result
      → Appends observable counts contents pos failures last_error known old new whole result
  appends_last {old = old} new {second = second} third result all f g h =
      let P : List ℕ → Type 0 = λ piece. Appends observable counts contents pos failures last_error known old new piece result in
      subst P all (appends_after new (second ++ third) result f (appends_after new third result g h))

  -- the same piece in another form
  pub written_as : {old new : W} {piece whole : List ℕ} → piece ≡ whole
      → Written observable counts contents pos failures last_error known old new piece
      → Written observable counts contents pos failures last_error known old new whole
  written_as {old = old} {new = new} same written =
      let P : List ℕ → Type 0 = λ piece. Written observable counts contents pos failures last_error known old new piece in
      subst P same written

  pub failed_as : {old new : W} {e : Error} {piece whole : List ℕ} → piece ≡ whole
      → Failed observable counts contents pos failures last_error known old new piece e
      → Failed observable counts contents pos failures last_error known old new whole e
  failed_as {old = old} {new = new} {e = e} same failed =
      let P : List ℕ → Type 0 = λ piece. Failed observable counts contents pos failures last_error known old new piece e in
      subst P same failed

  pub none_before : {X : Type 0} (f : X → List ℕ) (w : W) (xs : List X) → AreWrittenBefore observable counts contents pos failures last_error known f w w xs xs
  none_before f w xs = record { done = []; split = refl; written = written_none w }

  pub one_more : {X : Type 0} (f : X → List ℕ) {old mid new : W} {xs rest : List X} (x : X) (later : List X) → rest ≡ x ∷ later
      → AreWrittenBefore observable counts contents pos failures last_error known f old mid xs rest
      → Written observable counts contents pos failures last_error known mid new (f x)
      → AreWrittenBefore observable counts contents pos failures last_error known f old new xs later
  one_more f x later is before now = record {
    done = before.done ++ x ∷ [];
    split = before.split ∙ ap (λ ys. before.done ++ ys) is ∙ sym (append_assoc before.done (x ∷ []) later);
    written =
        written_as (ap (λ w. flat_map f before.done ++ w) (sym (append-nil (f x))) ∙ sym (pieces_split f before.done (x ∷ []))) (written_both before.written now);
  }

  pub one_failed : {X : Type 0} (f : X → List ℕ) {old mid new : W} {e : Error} {xs rest : List X} (x : X) (later : List X) {whole : List ℕ} → flat_map f xs ≡ whole → rest ≡ x ∷ later
      → AreWrittenBefore observable counts contents pos failures last_error known f old mid xs rest
      → Failed observable counts contents pos failures last_error known mid new (f x) e
      → Failed observable counts contents pos failures last_error known old new whole e
  one_failed f {xs = xs} x later all is before failed =
      let parts : flat_map f xs ≡ flat_map f before.done ++ (f x ++ flat_map f later) =
      ap (flat_map f) (before.split ∙ ap (λ ys. before.done ++ ys) is) ∙ pieces_split f before.done (x ∷ later) in
      failed_as (sym parts ∙ all) (failed_after before.written (failed_first (flat_map f later) failed))

  pub all_written : {X : Type 0} (f : X → List ℕ) {old new : W} {xs rest : List X} {whole : List ℕ} → flat_map f xs ≡ whole → rest ≡ []
      → AreWrittenBefore observable counts contents pos failures last_error known f old new xs rest
      → Written observable counts contents pos failures last_error known old new whole
  all_written f all is before =
      written_as (sym (ap (flat_map f) (before.split ∙ ap (λ ys. before.done ++ ys) is ∙ append-nil before.done)) ∙ all) before.written

  -- one more of several was written
  pub one_more_at : {X : Type 0} (f : X → List ℕ) {old mid new : W} (xs : List X) (i : ℕ) (x : X) → i < length xs → x ≡ get_or xs i x
      → Written observable counts contents pos failures last_error known old mid (flat_map f (take i xs))
      → Written observable counts contents pos failures last_error known mid new (f x)
      → Written observable counts contents pos failures last_error known old new (flat_map f (take (i + 1) xs))
  one_more_at f xs i x within is before now =
      let more : take (i + 1) xs ≡ take i xs ++ x ∷ [] = take_more xs i x within ∙ ap (λ y. take i xs ++ y ∷ []) (sym is) in
      written_as (sym (ap (flat_map f) more ∙ pieces_split f (take i xs) (x ∷ []) ∙ ap (λ w. flat_map f (take i xs) ++ w) (append-nil (f x)))) (written_both before now)

  -- the writer failed in one of several, of which those before it were written
  pub failed_at : {X : Type 0} (f : X → List ℕ) {old mid new : W} {e : Error} (xs : List X) (i : ℕ) (x : X) {whole : List ℕ} → flat_map f xs ≡ whole → i < length xs → x ≡ get_or xs i x
      → Written observable counts contents pos failures last_error known old mid (flat_map f (take i xs))
      → Failed observable counts contents pos failures last_error known mid new (f x) e
      → Failed observable counts contents pos failures last_error known old new whole e
  failed_at f xs i x all within is before failed = failed_as all (failed_among f xs i x within before (failed_as (ap f is) failed))

  -- the answer that lists keys: their number, each of them, and a newline
  pub keys_appended : {A : Type 0} {old mid last : W} (new : W) (n : ℕ) (ks : List (List ℕ)) (result : Result A Error) → length ks ≡ n
      → Written observable counts contents pos failures last_error known old mid (codes "keys " ++ decimal n)
      → Written observable counts contents pos failures last_error known mid last (spelled_keys ks)
      → Appends observable counts contents pos failures last_error known last new (codes "\n") result
      → Appends observable counts contents pos failures last_error known old new (spelled_answer (keys_are ks)) result
  keys_appended new n ks result same head each end = appends_last new (codes "\n") result (keys_line n ks same) head each end

  pub keys_head_failed : {old new : W} {e : Error} (n : ℕ) (ks : List (List ℕ)) → length ks ≡ n
      → Failed observable counts contents pos failures last_error known old new (codes "keys " ++ decimal n) e
      → Failed observable counts contents pos failures last_error known old new (spelled_answer (keys_are ks)) e
  keys_head_failed n ks same failed = failed_as (keys_line n ks same) (failed_first (spelled_keys ks ++ codes "\n") failed)

  pub keys_failed : {old mid new : W} {e : Error} (n : ℕ) (ks : List (List ℕ)) → length ks ≡ n
      → Written observable counts contents pos failures last_error known old mid (codes "keys " ++ decimal n)
      → Failed observable counts contents pos failures last_error known mid new (spelled_keys ks) e
      → Failed observable counts contents pos failures last_error known old new (spelled_answer (keys_are ks)) e
  keys_failed n ks same head failed = failed_as (keys_line n ks same) (failed_after head (failed_first (codes "\n") failed))
