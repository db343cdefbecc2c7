-- How a map is archived: the packed search tree of its entries, and a pointer to its root with the number of entries.
use Rattle.std.specs.Prelude.{◌≡◌, ℕ, ◌^◌, ◌<◌, ◌≤◌, List, [], ◌++◌, length, Option, None, ⊤, ◌⊎◌}
use Rattle.std.specs.Int.{w32, to_le_bytes}
use Rattle.archive_shape_layout.specs.Shape.{Shape}
use Rattle.archive_shape_layout.specs.Value.Value.{group}
use Rattle.archive_shape_layout.specs.Value.Values.{no_values}
use Rattle.archive_shape_layout.specs.declared.error.Error.TheVariants.{LengthTooLarge}
use Rattle.archive_shape_canonical.specs.Packed.{levels_for}
use Rattle.archive_forms_laws.specs.Spelling.{Spelling}
use Rattle.archive_forms_laws.specs.Levels.{levels_spelling}
use Rattle.archive_forms_laws.specs.Regions.{plain_values, all_suit}
use Rattle.archive_forms_laws.specs.Links.{link_bytes, LinkFits, LinkRefused}
use Rattle.archive_btree_spelling.specs.Written.{entry_spelling, tree_spelling}

-- the tree without items and without levels
abbrev pub no_tree : {C : Type 0} → Spelling (List C) (Option ℕ)
no_tree = record {
  value = λ xs st. group no_values;
  plain = λ xs. group no_values;
  piece = λ xs st. [];
  resolver = λ xs st. None;
  met = λ xs st. st.met;
  own = λ xs root pos. link_bytes root pos;
  piece_fits = λ xs st. ⊤;
  piece_refused = λ xs st e. ⊥;
  own_fits = λ xs root pos. LinkFits root pos;
  own_refused = λ xs root pos e. LinkRefused root pos e;
  suits = λ fit given xs. ⊤;
}

module _ {A B R Q : Type 0} (most : ℕ) (k v : Shape) (keys : Spelling A R) (vals : Spelling B Q) where
  -- the packed tree of items that need at most `levels` levels
  abbrev pub packed_spelling : ℕ → Spelling (List (A × B)) (Option ℕ)
  packed_spelling levels = levels_spelling (λ child. tree_spelling most k v keys vals child) no_tree levels

  -- the same with the number of levels that the items need
  abbrev pub btree_spelling : Spelling (List (A × B)) (Option ℕ)
  btree_spelling = record {
    value = λ xs st. (packed_spelling (levels_for most (length xs))).value xs st;
    plain = λ xs. group (plain_values (entry_spelling most k v keys vals) xs);
    piece = λ xs st. (packed_spelling (levels_for most (length xs))).piece xs st;
    resolver = λ xs st. (packed_spelling (levels_for most (length xs))).resolver xs st;
    met = λ xs st. (packed_spelling (levels_for most (length xs))).met xs st;
    own = λ xs root pos. link_bytes root pos ++ to_le_bytes w32 (length xs);
    piece_fits = λ xs st. (packed_spelling (levels_for most (length xs))).piece_fits xs st;
    piece_refused = λ xs st e. (packed_spelling (levels_for most (length xs))).piece_refused xs st e;
    own_fits = λ xs root pos. LinkFits root pos × (length xs < 2 ^ 32);
    own_refused = λ xs root pos e. LinkRefused root pos e ⊎ ((2 ^ 32 ≤ length xs) × (e ≡ LengthTooLarge));
    suits = λ fit given xs. all_suit (entry_spelling most k v keys vals) fit given xs;
  }
