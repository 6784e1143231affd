-- The rows of the hall table: whom each command tells what, where it is applied.
--
-- Who is online is read before the command, and battles, searches, challenges and ladders as they are after it.
use Rattle.std.specs.Prelude.{ℕ, ℤ, Bool, true, List, [], ◌∷◌, ◌++◌, ◌==◌, option_and_then, Option, Some, None, if◌then◌else◌}
use Rattle.std.specs.FinMap.{get}
use Rattle.ps_base.specs.Ids.{id_of}
use Rattle.ps_base.specs.declared.badge.Badge.{Badge}
use Rattle.ps_lines.specs.declared.command.HallCmd.{HallCmd}
use Rattle.ps_lines.specs.declared.command.HallCmd.TheVariants.{Open, Quit, Bad, Name, Search, CancelSearch, Challenge}
use Rattle.ps_lines.specs.declared.command.HallCmd.TheVariants.{CancelChallenge, Reject, Accept, Whisper, Rank, Report}
use Rattle.ps_group.specs.declared.group.Group.{Group}
use Rattle.rules_config.specs.declared.settings.Settings.{Settings}
use Rattle.ps_base.specs.ById.{ById}
use Rattle.ps_users.specs.Records.{Record as Users}
use Rattle.ps_users.specs.Seats.{badge_in}
use Rattle.ps_users.specs.Steps.{granted}
use Rattle.ps_pms.specs.Records.{Record as Pms}
use Rattle.ps_pms.specs.Lookups.{asked_by, partners}
use Rattle.ps_pms.specs.declared.asked.Asked.{Asked}
use Rattle.ps_ladder.specs.declared.searches.Search.{Search as Waiting}
use Rattle.ps_hall.specs.declared.game.Game.{Game}
use Rattle.ps_hall.specs.declared.notice.Notice.{Notice}
use Rattle.ps_hall.specs.Records.{Record}
use Rattle.ps_hall.specs.Lookups.{badge_of, opponent, rating_in, game_in, player_id}
use Rattle.ps_hall.specs.Lines.{open_lines, user_line, search_line, challenge_line, whisper_line, rating_line}

-- ---- who is told

abbrev pub notice : ℕ → List (List ℕ) → Notice
notice conn lines = record { conn = conn; lines = lines }

abbrev pub to_conn : Option ℕ → List (List ℕ) → List Notice
to_conn None lines = []
to_conn (Some conn) lines = notice conn lines ∷ []

-- a user on its connection, if it is online
abbrev pub to_user : ById ℕ → List ℕ → List (List ℕ) → List Notice
to_user online id lines = to_conn (get online id) lines

-- ---- the rows

abbrev pub told_of_open : Settings → ℕ → List Notice
told_of_open config conn = notice conn (open_lines config.nonce config.formats.formats conn) ∷ []

abbrev pub told_of_name : List Group → ℕ → Option Badge → List Notice
told_of_name groups conn None = []
told_of_name groups conn (Some badge) = notice conn (user_line groups badge ∷ []) ∷ []

-- who had a challenge with somebody who left
abbrev pub told_partners : ById ℕ → List Asked → List (List ℕ) → List Notice
told_partners online asked [] = []
told_partners online asked (id ∷ ids) = to_user online id (challenge_line asked id ∷ []) ++ told_partners online asked ids

-- `pms` are the challenges before, and `asked` those after
abbrev pub told_of_quit : ById ℕ → Pms → List Asked → Option Badge → List Notice
told_of_quit online pms asked None = []
told_of_quit online pms asked (Some badge) = told_partners online asked (partners pms (id_of badge.name))

-- the other one, where there is a match
abbrev pub told_matched : ById ℕ → List Game → List Waiting → Option Waiting → List Notice
told_matched online gs ss None = []
told_matched online gs ss (Some search) = to_user online search.user (search_line gs ss search.user ∷ [])

abbrev pub told_of_search : ById ℕ → List Game → List Waiting → ℕ → List ℕ → Option Waiting → List Notice
told_of_search online gs ss conn me other = notice conn (search_line gs ss me ∷ []) ∷ told_matched online gs ss other

abbrev pub told_of_cancel_search : List Game → List Waiting → ℕ → List ℕ → List Notice
told_of_cancel_search gs ss conn me = notice conn (search_line gs ss me ∷ []) ∷ []

-- both ends of a challenge
abbrev pub told_both : ById ℕ → List Asked → ℕ → List ℕ → List ℕ → List Notice
told_both online asked conn me user = notice conn (challenge_line asked me ∷ []) ∷ to_user online user (challenge_line asked user ∷ [])

abbrev pub told_of_cancel_challenge : ById ℕ → List Asked → ℕ → List ℕ → Option Asked → List Notice
told_of_cancel_challenge online asked conn me None = []
told_of_cancel_challenge online asked conn me (Some challenge) = told_both online asked conn me challenge.to

abbrev pub accept_lines : List Game → List Waiting → List Asked → List ℕ → List (List ℕ)
accept_lines gs ss asked id = challenge_line asked id ∷ search_line gs ss id ∷ []

abbrev pub told_of_accept : ById ℕ → List Game → List Waiting → List Asked → ℕ → List ℕ → List ℕ → List Notice
told_of_accept online gs ss asked conn me user = notice conn (accept_lines gs ss asked me)
    ∷ to_user online user (accept_lines gs ss asked user)

-- both ends of a whisper, once where they are one
abbrev pub told_ends : ℕ → ℕ → List (List ℕ) → List Notice
told_ends conn other lines = if conn == other then notice conn lines ∷ [] else notice conn lines ∷ notice other lines ∷ []

abbrev pub told_whisper : List Group → ℕ → Badge → Option ℕ → Option Badge → List ℕ → List Notice
told_whisper groups conn from (Some other) (Some to) text = told_ends conn other (whisper_line groups from to text ∷ [])
told_whisper groups conn from other to text = []

abbrev pub told_of_pm : List Group → Users → ℕ → Badge → List ℕ → List ℕ → List Notice
told_of_pm groups users conn from user text = told_whisper groups conn from (get users.online user)
    (option_and_then (badge_in users.seats) (get users.online user)) text

abbrev pub told_of_rank : ℕ → List ℕ → List ℕ → ℤ → List Notice
told_of_rank conn user format rating = notice conn (rating_line user format rating ∷ []) ∷ []

-- a rated battle that was won also tells the new rating
abbrev pub rating_lines : ℤ → Game → Bool → Option ℕ → List ℕ → List (List ℕ)
rating_lines rating game true (Some winner) id = rating_line id game.format rating ∷ []
rating_lines rating game rated winner id = []

-- a player, who has this rating after the battle
abbrev pub told_player : ById ℕ → List Game → List Waiting → ℤ → Game → Option ℕ → List ℕ → List Notice
told_player online gs ss rating game winner id = to_user online id (search_line gs ss id ∷ rating_lines rating game game.rated winner id)

-- player 1 and player 2, who have these ratings
abbrev pub told_players : ById ℕ → List Game → List Waiting → ℤ → ℤ → Game → Option ℕ → List Notice
told_players online gs ss one two game winner = told_player online gs ss one game winner (player_id game 0)
    ++ told_player online gs ss two game winner (player_id game 1)

abbrev pub told_of_report : ById ℕ → Record → Option ℕ → Option Game → List Notice
told_of_report online after winner None = []
told_of_report online after winner (Some game) = told_players online after.games after.searches
    (rating_in after game.format (player_id game 0)) (rating_in after game.format (player_id game 1)) game winner

-- ---- all of them

-- the commands that take a name
abbrev pub told_of_named : Record → Record → ℕ → Badge → HallCmd → List Notice
told_of_named before after conn me (Search format) = told_of_search before.users.online after.games after.searches conn
    (id_of me.name) (opponent before (id_of me.name) format)
told_of_named before after conn me CancelSearch = told_of_cancel_search after.games after.searches conn (id_of me.name)
told_of_named before after conn me (Challenge user format) = told_both before.users.online after.pms.asked conn (id_of me.name) user
told_of_named before after conn me CancelChallenge = told_of_cancel_challenge before.users.online after.pms.asked conn (id_of me.name)
    (asked_by before.pms (id_of me.name))
told_of_named before after conn me (Reject user) = told_both before.users.online after.pms.asked conn (id_of me.name) user
told_of_named before after conn me (Accept user) = told_of_accept before.users.online after.games after.searches after.pms.asked conn
    (id_of me.name) user
told_of_named before after conn me (Whisper user text) = told_of_pm before.config.groups before.users conn me user text
told_of_named before after conn me (Rank user format) = told_of_rank conn user format (rating_in before format user)
told_of_named before after conn me other = []

abbrev pub told_by : Record → Record → ℕ → Option Badge → HallCmd → List Notice
told_by before after conn None cmd = []
told_by before after conn (Some badge) cmd = told_of_named before after conn badge cmd

-- whom a command tells what, where it is applied
unfoldable pub told : Record → Record → ℕ → HallCmd → List Notice
told before after conn Open = told_of_open before.config conn
told before after conn Quit = told_of_quit before.users.online before.pms after.pms.asked (badge_of before conn)
told before after conn (Bad reason) = []
told before after conn (Name name assertion) = told_of_name before.config.groups conn (granted before.users (Name name assertion))
told before after conn (Report number winner) = told_of_report before.users.online after winner (game_in before number)
told before after conn other = told_by before after conn (badge_of before conn) other
