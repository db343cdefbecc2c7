-- What the registry of a document's shared values knows, by its parts.
use Rattle.std.specs.Prelude.{ℕ, nat_eq}
use Rattle.std.specs.BTreeMap.{get_by_text}
use Rattle.std.specs.HashMap.{get}
use Rattle.archive_shape_layout.specs.Progress.{Progress}
use Rattle.archive_core_serializing.specs.Kept.{progress_kept}
use Rattle.cabinet_text_grammar.specs.TextKey.{text_of_key}
use Rattle.cabinet_archived.specs.Sharing.{progress_at, of_both}
use Rattle.cabinet_archived.specs.declared.sharing.node_share.NodeShare.{NodeShare}

abbrev pub texts_known : NodeShare → ℕ → Progress ℕ
texts_known share key = progress_at (get_by_text share.texts.ends (text_of_key key))

abbrev pub wholes_known : NodeShare → ℕ → Progress ℕ
wholes_known share key = progress_kept (get nat_eq share.wholes.ends key)

abbrev pub known_by : NodeShare → ℕ → Progress ℕ
known_by share = of_both (texts_known share) (wholes_known share)
