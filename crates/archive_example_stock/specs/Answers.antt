-- What maps answer for a key, and look-ups in archived ones.
use denote.Bor.{Bor}
use Rattle.std.specs.Prelude.{◌≡◌, ℕ, List, [], Option, String}
use Rattle.std.specs.Cmp.Lexicographic.{slice_cmp}
use Rattle.std.specs.Global.{Global}
use Rattle.std.specs.List.{find, slice_get}
use Rattle.std.specs.Option.{option_map, option_and_then}
use Rattle.std.specs.Ordering.{is_eq, nat_cmp}
use Rattle.std.specs.String.{string_bytes}
use Rattle.std.specs.declared.cmp.Ordering.{Ordering}
use Rattle.archive_shape_layout.specs.Content.{Names}
use Rattle.archive_shape_layout.specs.Shape.{Shape}
use Rattle.archive_shape_layout.specs.Shape.Shape.{text}
use Rattle.archive_shape_canonical.specs.Settled.{free}
use Rattle.archive_shape.specs.declared.references.refs.Ref.{Ref}
use Rattle.archive_forms_laws.specs.Spelling.{Spelling}
use Rattle.archive_forms_laws.specs.State.{Keys}
use Rattle.archive_forms_writing.specs.Owned.{string_spelling}
use Rattle.archive_forms_writing.specs.Readable.{FindsReadable}
use Rattle.archive_btree.specs.Answering.{AnswersKeys}
use Rattle.archive_example_stock.specs.Stock.{number_shape, number_spelling, any}

-- the price of a ware: that of the first entry with its name
abbrev pub price_with : (name : List ℕ) → List (String Global × ℕ) → Option ℕ
price_with name es = option_map (λ e. e.1) (find (λ e. is_eq (slice_cmp nat_cmp (string_bytes e.0) name)) es)

-- the price of a ware in a shop: none if there is no such shop
abbrev pub price_among : {M : Type 0} → (M → List (String Global × ℕ)) → (shop : ℕ) (name : List ℕ) → List M → Option ℕ
price_among entries shop name shops = option_and_then (λ prices. price_with name (entries prices)) (slice_get shops shop)

-- the price of a ware in a branch: none if there is no such branch
abbrev pub price_within : {M : Type 0} → (M → List (String Global × ℕ)) → (branch name : List ℕ) → List (String Global × M) → Option ℕ
price_within entries branch name branches =
    option_and_then (λ b. price_with name (entries b.1)) (find (λ b. is_eq (slice_cmp nat_cmp (string_bytes b.0) branch)) branches)

-- the count of a shelf: that of the first entry with its number
abbrev pub count_with : (shelf : ℕ) → List (ℕ × ℕ) → Option ℕ
count_with shelf es = option_map (λ e. e.1) (find (λ e. is_eq (nat_cmp e.0 shelf)) es)

-- the name of a shelf: that of the first entry with its number
abbrev pub shelf_with : (shelf : ℕ) → List (ℕ × String Global) → Option (List ℕ)
shelf_with shelf es = option_map (λ e. string_bytes e.1) (find (λ e. is_eq (nat_cmp e.0 shelf)) es)

-- the number of the first entry is returned, where a look-up found its value, which can be read
abbrev pub ReturnsNumber : {C : Type 0} (K : Type 0) (found : Option (Ref C)) (result : Option ℕ) → Type 0
ReturnsNumber K found result =
    (keys : Keys) (first : Option (K × ℕ))
    → FindsReadable free [] keys number_shape number_spelling first found
    → result ≡ option_map (λ e. e.1) first

-- a look-up in a map of ordered keys returns the text of the entry with a key, where the map answers for entries
abbrev pub ReturnsText : {A R Q : Type 0} (most : ℕ) (k : Shape) (knows : Names → Type 0) → (A → Q) → (Q → Q → Ordering) → (List ℕ → ℕ → Q → Type 0) → Spelling A R
    → (bytes : List ℕ) (pos : ℕ) (query : Q) (result : Option (Bor (List ℕ))) → Type 0
ReturnsText {A = A} most k knows key order key_of keys bytes pos query result =
    (es : List (A × String Global))
    → AnswersKeys most k text knows any keys string_spelling bytes key order key_of pos es
    → option_map (λ t. t.now) result ≡ option_map (λ e. string_bytes e.1) (find (λ e. is_eq (order (key e.0) query)) es)
