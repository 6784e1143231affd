-- What is told of a configuration. A secret is looked at only for whether it is empty.
use Rattle.std.specs.Prelude.{ℕ, ◌+◌, ◌==◌, ◌&&◌, true, false, List, [], ◌∷◌, ◌++◌, length, codes, encode_utf8, decimal}
use Rattle.std.specs.Prelude.{Option, Some, None, if◌then◌else◌}
use Rattle.std.specs.Str.{bytes_eq}
use Rattle.ps_group.specs.declared.group.Group.{Group}
use Rattle.ps_group.specs.declared.group.Perm.{Perm}
use Rattle.ps_group.specs.declared.group.Perm.TheVariants as perms
use Rattle.ps_group.specs.Ranks.{symbol_of}
use Rattle.ps_group.specs.Can.{can, reaches_all}
use Rattle.rules_config.specs.declared.settings.ChatRoom.{ChatRoom}
use Rattle.rules_config.specs.declared.settings.Registered.{Registered}
use Rattle.rules_config.specs.declared.settings.Settings.{Settings}
use Rattle.file_help.specs.declared.page.Row.{Row}
use Rattle.file_help.specs.Pages.{listed}

-- ---- groups

-- whom a permission reaches, as it works out through what is inherited, and none where the group hasn't it
unfoldable pub reach : List Group → ℕ → Perm → Option (List ℕ)
reach groups rank perm =
    if reaches_all groups rank perm then Some (codes "everybody")
    else (if can groups rank (Some 255) false perm && can groups rank (Some rank) true perm
    then Some (codes "lower ranks and oneself")
    else (if can groups rank (Some 255) false perm then Some (codes "lower ranks")
    else (if can groups rank (Some rank) true perm then Some (codes "oneself")
    else (if can groups rank None false perm then Some (codes "nobody of a lower rank") else None))))

abbrev pub reach_text : List ℕ → Option (List ℕ) → List (List ℕ)
reach_text word None = []
reach_text word (Some whom) = (word ++ codes " " ++ whom) ∷ []

unfoldable pub permissions : List Group → ℕ → List (List ℕ)
permissions groups rank =
    reach_text (codes "announce") (reach groups rank perms.Announce)
    ++ reach_text (codes "modnote") (reach groups rank perms.Modnote)
    ++ reach_text (codes "warn") (reach groups rank perms.Warn)
    ++ reach_text (codes "mute") (reach groups rank perms.Mute)
    ++ reach_text (codes "ban") (reach groups rank perms.Ban)
    ++ reach_text (codes "modchat") (reach groups rank perms.Modchat)
    ++ reach_text (codes "promote") (reach groups rank perms.Promote)

-- the symbol between quotes, since the last group's is a space
unfoldable pub symbol_text : ℕ → List ℕ
symbol_text symbol = codes "`" ++ encode_utf8 symbol ++ codes "`"

abbrev pub inherit_text : Option ℕ → List ℕ
inherit_text None = []
inherit_text (Some symbol) = codes ", inherits " ++ symbol_text symbol

-- the id, the name in parentheses, what it inherits, and the permissions
unfoldable pub group_text : List Group → ℕ → Group → List ℕ
group_text groups rank group =
    group.id ++ codes " (" ++ group.name ++ codes ")" ++ inherit_text group.inherit ++ codes "; " ++ listed (permissions groups rank)

abbrev pub group_row : List Group → ℕ → Group → Row
group_row groups rank group = record { key = symbol_text group.symbol; value = group_text groups rank group }

-- a row for each of the groups from a rank on, the highest first
abbrev pub group_rows : List Group → ℕ → List Group → List Row
group_rows groups rank [] = []
group_rows groups rank (group ∷ lower) = group_row groups rank group ∷ group_rows groups (rank + 1) lower

-- ---- rooms and names

abbrev pub room_row : ChatRoom → Row
room_row room = record { key = room.id; value = room.title }

abbrev pub secret_word : List ℕ → List ℕ
secret_word [] = codes ", empty secret: anybody can take the name"
secret_word (byte ∷ secret) = codes ", has a secret"

unfoldable pub user_text : List Group → Registered → List ℕ
user_text groups user = codes "group " ++ symbol_text (symbol_of user.rank groups) ++ secret_word user.secret

abbrev pub user_row : List Group → Registered → Row
user_row groups user = record { key = user.id; value = user_text groups user }

-- ---- the rest: the nonce and the seed aren't told but for whether they are the defaults

abbrev pub nonce_word : List ℕ → List ℕ
nonce_word nonce = if bytes_eq nonce (codes "0") then codes
    "the default: without the key, `always` draws one; otherwise give each server its own" else codes "its own"

abbrev pub seed_word : ℕ → List ℕ
seed_word seed = if seed == 0 then codes "the default: without the key, `always` draws one; otherwise its draws can be foretold" else
    codes "its own"

unfoldable pub setup_rows : Settings → List Row
setup_rows settings =
    record { key = codes "staff"; value = symbol_text (symbol_of settings.staff settings.groups) }
    ∷ record { key = codes "nonce"; value = nonce_word settings.nonce }
    ∷ record { key = codes "seed"; value = seed_word settings.seed }
    ∷ record { key = codes "seeds"; value = decimal (length settings.seeds) }
    ∷ []
