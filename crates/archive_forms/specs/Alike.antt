-- Values that are archived alike, and lists of which one is read back of what the other was written as.
use Rattle.std.specs.Prelude.{◌≡◌, Bool, List, IsTrue}
use Rattle.std.specs.List.{AllZip}
use Rattle.archive_forms_laws.specs.Spelling.{Spelling}

module _ {A R : Type 0} (w : Spelling A R) where
  -- two values have one value in the layout, regardless of the positions of shared values in it
  abbrev pub AreAlike : A → A → Type 0
  AreAlike x y = w.plain x ≡ w.plain y

  -- values that are archived alike are equal by a test, as by `==`
  abbrev pub AlikeAreEqual : (A → A → Bool) → Type 0
  AlikeAreEqual eq = (x y : A) → AreAlike x y → IsTrue (eq x y)

  -- values that are archived alike are one
  abbrev pub AlikeAreOne : Type 0
  AlikeAreOne = (x y : A) → AreAlike x y → x ≡ y

  -- the second elements are archived as the first ones, in order; they are the first ones where values that are archived
  -- alike are one
  abbrev pub AreElementsOf : List A → List A → Type 0
  AreElementsOf xs ys = AllZip AreAlike xs ys × (AlikeAreOne → ys ≡ xs)

-- likewise the second entries: each has a key and a value that are archived as those of the first one in its place
module _ {A B R Q : Type 0} (keys : Spelling A R) (vals : Spelling B Q) where
  abbrev pub AreAlikeEntries : A × B → A × B → Type 0
  AreAlikeEntries e f = AreAlike keys e.0 f.0 × AreAlike vals e.1 f.1

  abbrev pub AreEntriesOf : List (A × B) → List (A × B) → Type 0
  AreEntriesOf es fs = AllZip AreAlikeEntries es fs × (AlikeAreOne keys → AlikeAreOne vals → fs ≡ es)
