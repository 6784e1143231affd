-- The lines of the hall.
use Rattle.std.specs.Prelude.{ℕ, ℤ, List, [], ◌∷◌, ◌++◌, find, map, codes, slice_index_or, Option, Some, None}
use Rattle.std.specs.List.{filter, join_with_byte}
use Rattle.std.specs.Fmt.{decimal, signed_decimal}
use Rattle.json.specs.Print.{quoted}
use Rattle.serde_json.specs.Data.{Data, Members, null, string, array, object, no_members, member, put}
use Rattle.serde_json.specs.View.{items_of}
use Rattle.serde_json.specs.Written.{compact_text}
use Rattle.ps_base.specs.HallWhys.{popup_line, nametaken_line}
use Rattle.ps_base.specs.declared.badge.Badge.{Badge}
use Rattle.ps_base.specs.declared.hall_why.HallWhy.{HallWhy}
use Rattle.ps_base.specs.declared.hall_why.HallWhy.TheVariants as why
use Rattle.ps_lines.specs.declared.command.HallCmd.{HallCmd}
use Rattle.ps_lines.specs.declared.command.HallCmd.TheVariants.{Name}
use Rattle.ps_group.specs.declared.group.Group.{Group}
use Rattle.ps_rules.specs.declared.table.Format.{Format}
use Rattle.ps_group.specs.ShownNames.{shown_name}
use Rattle.ps_users.specs.Assertions.{challstr_of}
use Rattle.ps_users.specs.Refusals.{read_of}
use Rattle.ps_pms.specs.Lookups.{is_by, is_to}
use Rattle.ps_pms.specs.declared.asked.Asked.{Asked}
use Rattle.ps_ladder.specs.declared.searches.Search.{Search}
use Rattle.ps_hall.specs.declared.game.Game.{Game}
use Rattle.rules_start.specs.Starts.{battle_id, battle_title}
use Rattle.ps_hall.specs.Lookups.{searched, games_of}
use Rattle.ps_base.specs.Characters as characters

-- ---- connecting

-- `|challstr|NONCE-N`
abbrev pub challstr_line : List ℕ → ℕ → List ℕ
challstr_line nonce conn = codes "|challstr|" ++ challstr_of nonce conn

abbrev pub guest_line : ℕ → List ℕ
guest_line conn = codes "|updateuser| Guest " ++ decimal conn ++ codes "|0|0|{}"

-- the names of the formats, in order
abbrev pub formats_line : List Format → List ℕ
formats_line fs = codes "|formats|" ++ join_with_byte characters.bar (map (λ format. format.name) fs)

-- what who connects is sent
abbrev pub open_lines : List ℕ → List Format → ℕ → List (List ℕ)
open_lines nonce formats conn = challstr_line nonce conn ∷ guest_line conn ∷ formats_line formats ∷ []

-- what who takes a name is sent
abbrev pub user_line : List Group → Badge → List ℕ
user_line groups badge = codes "|updateuser|" ++ shown_name groups badge.rank badge.name ++ codes "|1|0|{}"

-- ---- `|updatesearch|`

abbrev pub with_game : Members → Game → Members
with_game ms game = put (battle_id game.format game.number)
    (string (battle_title (slice_index_or game.players 0 []) (slice_index_or game.players 1 []))) ms

abbrev pub with_games : Members → List Game → Members
with_games ms [] = ms
with_games ms (game ∷ games) = with_games (with_game ms game) games

-- an object, or null where it has no members
abbrev pub object_or_null : Members → Data
object_or_null no_members = null
object_or_null (member key value ms) = object (member key value ms)

-- each of the battles with its title, by its id; null where there is none
abbrev pub games_data : List Game → Data
games_data gs = object_or_null (with_games no_members gs)

abbrev pub search_data : List Game → List (List ℕ) → Data
search_data games formats = object (member (codes "games") (games_data games)
    (member (codes "searching") (array (items_of (map string formats))) no_members))

-- for the code: a battle's title at its id, and all battles, as they are written
unfoldable pub game_member : Game → List ℕ
game_member game = quoted (battle_id game.format game.number)
    ++ characters.colon ∷ quoted (battle_title (slice_index_or game.players 0 []) (slice_index_or game.players 1 []))

unfoldable pub games_text : List Game → List ℕ
games_text gs = compact_text (games_data gs)

-- the battles of a user that weren't reported, and the formats that it searches
unfoldable pub search_line : List Game → List Search → List ℕ → List ℕ
search_line gs ss id = codes "|updatesearch|" ++ compact_text (search_data (games_of gs id) (searched ss id))

-- ---- `|updatechallenges|`

-- null, or the format and who is challenged
abbrev pub asked_data : Option Asked → Data
asked_data None = null
asked_data (Some challenge) = object (member (codes "format") (string challenge.format)
    (member (codes "to") (string challenge.to) no_members))

abbrev pub with_asked : Members → List Asked → Members
with_asked ms [] = ms
with_asked ms (challenge ∷ others) = with_asked (put challenge.by (string challenge.format) ms) others

-- the format of each challenge that was got, by who made it
abbrev pub challenge_data : Option Asked → List Asked → Data
challenge_data made got = object (member (codes "challengeTo") (asked_data made)
    (member (codes "challengesFrom") (object (with_asked no_members got)) no_members))

-- for the code: the two parts of it, as they are written
unfoldable pub made_text : Option Asked → List ℕ
made_text made = compact_text (asked_data made)

unfoldable pub got_text : List Asked → List ℕ
got_text got = compact_text (object (with_asked no_members got))

-- of the open challenges, the one that a user made, and those that it got
unfoldable pub challenge_line : List Asked → List ℕ → List ℕ
challenge_line asked id = codes "|updatechallenges|" ++ compact_text (challenge_data (find (is_by id) asked) (filter (is_to id) asked))

-- ---- whispers and ratings

-- `|pm|SNAME|SNAME|TEXT`
abbrev pub whisper_line : List Group → Badge → Badge → List ℕ → List ℕ
whisper_line groups from to text = codes "|pm|" ++ shown_name groups from.rank from.name ++ codes "|"
    ++ shown_name groups to.rank to.name ++ codes "|" ++ text

-- `|popup|ID FORMAT RATING`
abbrev pub rating_line : List ℕ → List ℕ → ℤ → List ℕ
rating_line id format rating = codes "|popup|" ++ id ++ codes " " ++ format ++ codes " " ++ signed_decimal rating

-- ---- refusals

-- who asks for a name that is taken is told the name as it was read
abbrev pub taken_by : Option (List ℕ) → List ℕ
taken_by None = popup_line why.NameTaken
taken_by (Some name) = nametaken_line name

abbrev pub taken_line : HallCmd → List ℕ
taken_line (Name name assertion) = taken_by (read_of name)
taken_line other = popup_line why.NameTaken

-- what the sender of a refused command is told
abbrev pub refused_line : HallWhy → HallCmd → List ℕ
refused_line why.NameTaken cmd = taken_line cmd
refused_line reason cmd = popup_line reason
