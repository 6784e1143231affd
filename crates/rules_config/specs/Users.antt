-- Who is staff, and the registered names of a configuration.
use Rattle.std.specs.Prelude.{ℕ, List, [], ◌∷◌, codes, Option, Some, None, Result, Ok}
use Rattle.std.specs.Str.{chars}
use Rattle.serde_json.specs.Data.{Data}
use Rattle.serde_json.specs.Find.{get}
use Rattle.ps_data.specs.declared.fault.DataKind.TheVariants.{Unknown}
use Rattle.ps_data.specs.declared.fault.Fault.{Fault}
use Rattle.ps_data.specs.Paths.{Key}
use Rattle.ps_data.specs.Reading.{◌>>=◌, under, some_or, required}
use Rattle.ps_data.specs.Forms.{object_in, text_in, array_in}
use Rattle.ps_data.specs.Lists.{each}
use Rattle.ps_data.specs.OwnIds.{own_id_in}
use Rattle.ps_group.specs.declared.group.Group.{Group}
use Rattle.ps_group.specs.Ranks.{rank_of}
use Rattle.rules_config.specs.declared.settings.Registered.{Registered}
use Rattle.ps_base.specs.Characters as characters

-- ---- staff

-- the group whose symbol a text of one character is
abbrev pub rank_named : List Group → List ℕ → Option ℕ
rank_named groups [] = None
rank_named groups (symbol ∷ []) = rank_of symbol groups
rank_named groups (symbol ∷ extra ∷ extras) = None

-- The rank of the group whose symbol a text is. The text has no form of its own: what is no group's symbol is unknown.
unfoldable pub named_rank_in : List Group → Data → Result ℕ Fault
named_rank_in groups value = do
  text ← text_in value
  some_or Unknown (rank_named groups (chars text))

-- the rank of `%`
unfoldable pub default_staff_in : List Group → Result ℕ Fault
default_staff_in groups = some_or Unknown (rank_of characters.percent groups)

abbrev pub staff_or : List Group → Option Data → Result ℕ Fault
staff_or groups None = default_staff_in groups
staff_or groups (Some value) = named_rank_in groups value

-- The lowest rank that counts as staff. Where the key is missing it is that of `%`, which some group must have then.
unfoldable pub staff_at : List Group → Data → Result ℕ Fault
staff_at groups value = under (Key (codes "staff")) (staff_or groups (get (codes "staff") value))

-- ---- registered names

-- a secret is any text
unfoldable pub user_in : List Group → List Registered → Data → Result Registered Fault
user_in groups before value = do
  _ ← object_in value
  id ← required (codes "id") (own_id_in (λ user. user.id) before) value
  secret ← required (codes "secret") text_in value
  rank ← required (codes "group") (named_rank_in groups) value
  Ok (record { id = id; secret = secret; rank = rank })

unfoldable pub users_in : List Group → Data → Result (List Registered) Fault
users_in groups value = do
  items ← array_in value
  each (λ before after. user_in groups before) [] items
