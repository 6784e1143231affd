-- Lookups in the hall.
use Rattle.std.specs.Prelude.{ℕ, ℤ, ◌==◌, ◌&&◌, ◌||◌, Bool, not, List, [], ◌∷◌, find, map, unwrap_or, is_some}
use Rattle.std.specs.Prelude.{slice_index_or, nat_le, Option, Some, None, Result, Ok, if◌then◌else◌}
use Rattle.std.specs.List.{filter, list_any}
use Rattle.std.specs.Str.{bytes_eq}
use Rattle.std.specs.FinMap.{get}
use Rattle.ps_base.specs.Ids.{id_of}
use Rattle.ps_base.specs.Limits.{most_battles}
use Rattle.ps_base.specs.declared.badge.Badge.{Badge}
use Rattle.ps_packed.specs.declared.set.Set.{Set}
use Rattle.ps_rules.specs.declared.table.Format.{Format}
use Rattle.ps_rules.specs.Resolve.{format_of}
use Rattle.ps_valid.specs.declared.legal.Legal.{Legal}
use Rattle.ps_valid.specs.declared.verdict.Verdict.{Verdict}
use Rattle.ps_valid.specs.TeamRows.{legal_in}
use Rattle.ps_base.specs.ById.{ById}
use Rattle.ps_users.specs.Seats.{badge_in}
use Rattle.ps_pms.specs.Lookups.{asked_of}
use Rattle.ps_pms.specs.declared.asked.Asked.{Asked}
use Rattle.ps_ladder.specs.Ratings.{Standing, standing_of, rating}
use Rattle.ps_ladder.specs.declared.searches.Search.{Search}
use Rattle.ps_ladder.specs.Waiting.{has_user, found}
use Rattle.ps_hall.specs.declared.kept.KeptTeam.{KeptTeam}
use Rattle.ps_hall.specs.declared.game.Game.{Game}
use Rattle.ps_hall.specs.Records.{Record}

-- ---- who is online

-- the badge of a connection, once it has a name
abbrev pub badge_of : Record → ℕ → Option Badge
badge_of hall conn = badge_in hall.users.seats conn

-- the connection of an id that is online
abbrev pub conn_of : Record → List ℕ → Option ℕ
conn_of hall id = get hall.users.online id

abbrev pub is_online : Record → List ℕ → Bool
is_online hall id = is_some (conn_of hall id)

-- ---- formats and teams

abbrev pub format_in : Record → List ℕ → Option Format
format_in hall id = format_of id hall.config.formats.formats

-- what the rules of a format find of a user's team, if there is one
abbrev pub checked : Record → Format → Option (List Set) → Option (Result Legal Verdict)
checked hall format None = None
checked hall format (Some sets) = Some (legal_in hall.dex format.table sets)

abbrev pub legal_or : Option (Result Legal Verdict) → Option Legal
legal_or (Some (Ok legal)) = Some legal
legal_or other = None

-- a user's team, where it is legal under a format
abbrev pub legal_under : Record → List ℕ → Option Format → Option Legal
legal_under hall me None = None
legal_under hall me (Some format) = legal_or (checked hall format (get hall.teams me))

-- a user's team, where it is legal under the format with an id
abbrev pub legal_team : Record → List ℕ → List ℕ → Option Legal
legal_team hall me format = legal_under hall me (format_in hall format)

-- ---- kept teams

-- the team of a user that was kept with this id
abbrev pub is_kept : List ℕ → List ℕ → KeptTeam → Bool
is_kept user with_id kept = bytes_eq (id_of kept.name) user && bytes_eq kept.with_id with_id

abbrev pub kept_team : List ℕ → List ℕ → List KeptTeam → Option KeptTeam
kept_team user with_id ks = find (is_kept user with_id) ks

-- the teams without the first such
abbrev pub without_kept : List ℕ → List ℕ → List KeptTeam → List KeptTeam
without_kept user with_id [] = []
without_kept user with_id (kept ∷ kepts) = if is_kept user with_id kept then kepts else kept ∷ without_kept user with_id kepts

abbrev pub is_kept_of : List ℕ → KeptTeam → Bool
is_kept_of user kept = bytes_eq (id_of kept.name) user

-- the teams without those of a user
abbrev pub without_user : List ℕ → List KeptTeam → List KeptTeam
without_user user ks = filter (λ kept. not (is_kept_of user kept)) ks

abbrev pub is_kept_with : List ℕ → KeptTeam → Bool
is_kept_with user kept = is_kept_of user kept || bytes_eq kept.with_id user

-- the teams without those of a user, and without those that were kept with its id
abbrev pub without_either : List ℕ → List KeptTeam → List KeptTeam
without_either user ks = filter (λ kept. not (is_kept_with user kept)) ks

-- ---- challenges

-- the challenge of a user to somebody else
abbrev pub challenge_from : Record → List ℕ → List ℕ → Option Asked
challenge_from hall me user = if bytes_eq user me then None else asked_of hall.pms user me

-- ---- searches

abbrev pub is_searching : Record → List ℕ → Bool
is_searching hall me = list_any (has_user me) hall.searches

-- the formats that a user searches, in order of search
abbrev pub searched : List Search → List ℕ → List (List ℕ)
searched ss me = map (λ search. search.format) (filter (has_user me) ss)

-- ---- ladders

-- the ladder of a format; nobody was rated in a format without one
abbrev pub ladder_in : ById Standing → List ℕ → Standing
ladder_in ladders format = unwrap_or (get ladders format) (standing_of [])

abbrev pub ladder_of : Record → List ℕ → Standing
ladder_of hall format = ladder_in hall.ladders format

-- the rating of a user in a format
abbrev pub rating_in : Record → List ℕ → List ℕ → ℤ
rating_in hall format user = rating (ladder_of hall format).ratings user

-- the search that a user at its rating is matched with
abbrev pub opponent : Record → List ℕ → List ℕ → Option Search
opponent hall me format = found hall.searches me format (rating_in hall format me)

-- ---- battles

-- as many battles have started as there may be
abbrev pub is_full : Record → Bool
is_full hall = nat_le most_battles hall.started

abbrev pub has_number : ℕ → Game → Bool
has_number number game = game.number == number

-- the battle with a number, if it started and wasn't reported
abbrev pub game_in : Record → ℕ → Option Game
game_in hall number = find (has_number number) hall.games

-- the id of a player's name: player 1 is at 0
abbrev pub player_id : Game → ℕ → List ℕ
player_id game side = id_of (slice_index_or game.players side [])

abbrev pub plays : List ℕ → Game → Bool
plays id game = bytes_eq (player_id game 0) id || bytes_eq (player_id game 1) id

-- the battles of a user that weren't reported
abbrev pub games_of : List Game → List ℕ → List Game
games_of gs id = filter (plays id) gs
