-- The bytes that edits leave.
use Rattle.std.specs.Prelude.{◌≡◌, ℕ, List, [], ◌∷◌, length, Option, Some, None}
use Rattle.archive_shape_layout.specs.Value.{Value}
use Rattle.cabinet_text_grammar.specs.Tree.{Tree}
use Rattle.cabinet_text_grammar.specs.Line.{Line, get, keys, range, set}
use Rattle.cabinet_text_grammar.specs.Answering.{reply}
use Rattle.cabinet_documents.specs.Accepted.{Accepted}
use Rattle.cabinet_documents.specs.Image.{Image}
use Rattle.cabinet_archives.specs.Setting.{EditLeaves}
use Rattle.cabinet_text.specs.Session.{lines_in_place, AllSay, next, after_all, edits}

-- the bytes that a line leaves of the archive of a document whose root has the value `root`: an edit that is done
-- writes the own bytes of its leaf, and no other line writes anything
abbrev pub LineLeaves : List ℕ → Value → Tree → Option Line → List ℕ → Type 0
LineLeaves bytes root t None left = left ≡ bytes
LineLeaves bytes root t (Some (get path)) left = left ≡ bytes
LineLeaves bytes root t (Some (keys path)) left = left ≡ bytes
LineLeaves bytes root t (Some (range low high path)) left = left ≡ bytes
LineLeaves bytes root t (Some (set path l)) left = EditLeaves bytes root path l (reply t (Some (set path l))) left

-- the bytes that lines leave, one line after the other
pub data LinesLeave : List ℕ → Tree → List (Option Line) → List ℕ → Type 0 where
  no_line : {bytes left : List ℕ} {t : Tree} {said : List (Option Line)} → said ≡ [] → left ≡ bytes → LinesLeave bytes t said left
  more_lines :
      {bytes mid left : List ℕ} {t : Tree} {line : Option Line} {said rest : List (Option Line)}
      → said ≡ line ∷ rest
      → (a : Accepted bytes t)
      → LineLeaves bytes a.value t line mid
      → LinesLeave mid (next t line) rest left
      → LinesLeave bytes t said left

-- lines change the bytes x to y: their edits are written, an archive stays an archive, and an image stays an image
pub record Edited (x y : List ℕ) (said : List (Option Line)) : Type 0 where
  pub bytes : (t : Tree) → Accepted x t → LinesLeave x t said y
  pub document : (t : Tree) → Accepted x t → Accepted y (after_all lines_in_place t said)
  pub image : (t : Tree) → Image t x → Image (after_all lines_in_place t said) y

-- `lines` lines were carried out, which changed the bytes x to y, and `edited` edits were done.
pub record EditedByLines (x y : List ℕ) (lines edited : ℕ) : Type 0 where
  pub texts : List (List ℕ)
  pub said : List (Option Line)
  pub say : AllSay lines_in_place texts said
  pub count : length said ≡ lines
  pub edits_done : Edited x y said
  pub edits_counted : (t : Tree) → Accepted x t → edited ≡ edits lines_in_place t said
