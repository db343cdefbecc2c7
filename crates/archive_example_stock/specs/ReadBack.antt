-- A stock that was read back, beside the one that was archived.
use Rattle.std.specs.Prelude.{◌≡◌, ℕ, List, map}
use Rattle.std.specs.Global.{Global}
use Rattle.std.specs.Rc.{rc_str_bytes}
use Rattle.std.specs.declared.rc.RcStr.{RcStr}
use Rattle.archive_forms_rc.specs.declared.sharing.keyed.Shared.{Shared}
use Rattle.archive_example_stock.specs.Answers.{price_with, count_with, shelf_with}
use Rattle.archive_example_stock.specs.declared.stock.Stock.{Stock}

-- the texts of labels, in order
abbrev pub texts_of : List (Shared (RcStr Global)) → List (List ℕ)
texts_of labels = map (λ label. rc_str_bytes label.value) labels

-- what is read has the same prices, counts, names of shelves and labels
pub record IsReadBack (stock read : Stock) : Type 0 where
  pub prices : (name : List ℕ) → price_with name read.prices.map.entries ≡ price_with name stock.prices.map.entries
  pub counts : (shelf : ℕ) → count_with shelf read.counts.map.entries ≡ count_with shelf stock.counts.map.entries
  pub shelves : (shelf : ℕ) → shelf_with shelf read.shelves.map.entries ≡ shelf_with shelf stock.shelves.map.entries
  pub labels : texts_of read.labels.items ≡ texts_of stock.labels.items
