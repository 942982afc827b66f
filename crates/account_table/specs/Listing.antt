-- The tables that a list of TOML values holds, and which list stands at a key.
use Rattle.std.specs.Prelude.{◌≡◌, List, [], length, Ok}
use Rattle.std.specs.List.{filter_map}
use Rattle.toml.specs.Data.{Members, as_table}
use Rattle.toml.specs.View.{view}
use Rattle.toml.specs.declared.value.Value.{Value}
use Rattle.account_table.specs.declared.key.Key.{Key}
use Rattle.account_table.specs.Document.{optional}
use Rattle.account_table.specs.Forms.{tables}

abbrev pub entries_of : List Value → List Members
entries_of values = filter_map (λ value. as_table (view value)) values

-- the values are the list of tables at the key, each a table
pub record IsListing (key : Key) (document : Members) (values : List Value) : Type 0 where
  pub listed : optional [] tables key document ≡ Ok (entries_of values)
  pub each : length (entries_of values) ≡ length values
