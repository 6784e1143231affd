-- What a configuration says.
use Rattle.std.specs.Prelude.{◌≡◌, ℕ, ◌&&◌, ◌||◌, Bool, List, [], length, codes, is_some, Result, Ok, nat_le}
use Rattle.std.specs.List.{list_all}
use Rattle.serde_json.specs.Data.{Data}
use Rattle.serde_json.specs.Find.{get}
use Rattle.ps_data.specs.declared.fault.DataKind.TheVariants.{Range}
use Rattle.ps_data.specs.declared.fault.Fault.{Fault}
use Rattle.ps_data.specs.Reading.{◌>>=◌, ensure, optional}
use Rattle.ps_data.specs.Forms.{json_in, object_in, text_in, array_in, number_in}
use Rattle.ps_data.specs.Lists.{each}
use Rattle.ps_dex.specs.declared.item.Tables.{Tables}
use Rattle.ps_group.specs.Reading.{groups_in}
use Rattle.ps_group.specs.declared.group.Group.{Group}
use Rattle.ps_group.specs.Defaults.{default_groups, groups_with_bot}
use Rattle.ps_rules.specs.declared.version.Version.{Version}
use Rattle.ps_rules.specs.declared.version.Version.TheVariants.{First, Second}
use Rattle.ps_rules.specs.Versions.{version_in}
use Rattle.ps_rules.specs.Reading.{said_in}
use Rattle.rules_config.specs.declared.settings.Settings.{Settings}
use Rattle.rules_config.specs.Rooms.{rooms_at}
use Rattle.rules_config.specs.Users.{staff_at, users_in}
use Rattle.rules_config.specs.Fresh.{IsSaidOrFresh}
use Rattle.ps_base.specs.Characters as characters

-- ---- nonce

-- an ASCII letter or digit
abbrev pub is_plain : ℕ → Bool
is_plain byte = (nat_le characters.digit_zero byte && nat_le byte characters.digit_nine)
    || (nat_le characters.capital_a byte && nat_le byte characters.capital_z)
    || (nat_le characters.letter_a byte && nat_le byte characters.letter_z)

unfoldable pub are_plain : List ℕ → Bool
are_plain text = list_all is_plain text

-- one to thirty-two letters and digits
unfoldable pub is_nonce : List ℕ → Bool
is_nonce text = are_plain text && nat_le 1 (length text) && nat_le (length text) 32

unfoldable pub nonce_in : Data → Result (List ℕ) Fault
nonce_in value = do
  text ← text_in value
  _ ← ensure Range (is_nonce text)
  Ok text

-- ---- seeds

-- the greatest number of 64 bits
abbrev pub greatest_seed : ℕ
greatest_seed = 18446744073709551615

unfoldable pub seeds_in : Data → Result (List ℕ) Fault
seeds_in value = do
  items ← array_in value
  each (λ before after. number_in 0 greatest_seed) [] items

-- ---- the whole

-- the groups where a configuration of a version names none
abbrev pub default_groups_of : Version → List Group
default_groups_of First = default_groups
default_groups_of Second = groups_with_bot

-- The keys of a configuration in their order, each of which may be missing: `version` is tested before all others;
-- `said_in` reads `rulesets` and `formats`.
unfoldable pub config_in : Tables → Data → Result Settings Fault
config_in dex value = do
  _ ← object_in value
  version ← version_in value
  groups ← optional (codes "groups") (default_groups_of version) groups_in value
  staff ← staff_at groups value
  rooms ← rooms_at value
  users ← optional (codes "users") [] (users_in groups) value
  formats ← said_in version dex value
  nonce ← optional (codes "nonce") (codes "0") nonce_in value
  seed ← optional (codes "seed") 0 (number_in 0 greatest_seed) value
  seeds ← optional (codes "seeds") [] seeds_in value
  Ok (record {
    groups = groups;
    staff = staff;
    rooms = rooms;
    users = users;
    formats = formats;
    nonce = nonce;
    seed = seed;
    seeds = seeds;
    gives_nonce = is_some (get (codes "nonce") value);
    gives_seed = is_some (get (codes "seed") value);
  })

-- the bytes of a configuration over a dex
unfoldable pub config_of : Tables → List ℕ → Result Settings Fault
config_of dex bytes = json_in bytes >>= config_in dex

-- some file says this over some dex, but for a nonce and a seed that are fresh, if it says none
pub record HasFile (settings : Settings) : Type 0 where
  pub bytes : List ℕ
  pub dex : Tables
  pub said : Settings
  pub says : config_of dex bytes ≡ Ok said
  pub kept : IsSaidOrFresh said settings
