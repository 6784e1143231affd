-- A line that ends in JSON while it is written: what stands before the JSON, and its tokens so far.
use Rattle.std.specs.Prelude.{ℕ, List, [], ◌++◌}
use Rattle.json.specs.Token.{Token}
use Rattle.json.specs.Tree.{json_tokens, items_tokens, members_tokens}
use Rattle.serde_json.specs.Data.{Data, Items, Members}
use Rattle.serde_json.specs.Written.{outline, items_outline, members_outline}

pub record Line : Type 0 where
  pub front : List ℕ
  pub tokens : List Token

-- a line of which its front alone is written
unfoldable pub begun : List ℕ → Line
begun front = record { front = front; tokens = [] }

-- more tokens behind the others
unfoldable pub with_tokens : List Token → Line → Line
with_tokens more line = record { front = line.front; tokens = line.tokens ++ more }

-- a value behind the tokens
abbrev pub with_value : Data → Line → Line
with_value value line = with_tokens (json_tokens (outline value)) line

-- the items of an array behind them, and the bracket that closes it
abbrev pub with_items : Items → Line → Line
with_items items line = with_tokens (items_tokens (items_outline items)) line

-- the members of an object behind them, and the bracket that closes it
abbrev pub with_members : Members → Line → Line
with_members members line = with_tokens (members_tokens (members_outline members)) line
