-- The rows of the hall table: what each command changes, where it is applied.
use Rattle.std.specs.Prelude.{ℕ, Bool, true, false, not, ◌&&◌, List, ◌++◌, option_map, option_to_list, nat_lt, Option, Some, None}
use Rattle.std.specs.Prelude.{if◌then◌else◌}
use Rattle.std.specs.List.{filter}
use Rattle.std.specs.Str.{bytes_eq, chars}
use Rattle.std.specs.FinMap.{insert, remove}
use Rattle.ps_base.specs.Ids.{id_of}
use Rattle.ps_base.specs.declared.badge.Badge.{Badge}
use Rattle.ps_lines.specs.declared.command.HallCmd.{HallCmd}
use Rattle.ps_lines.specs.declared.command.HallCmd.TheVariants.{Open, Quit, Bad, Name, Team, Search, CancelSearch, Challenge}
use Rattle.ps_lines.specs.declared.command.HallCmd.TheVariants.{CancelChallenge, Reject, Accept, Block, Unblock, Report}
use Rattle.ps_packed.specs.declared.set.Set.{Set}
use Rattle.ps_packed.specs.Scan.{team_of}
use Rattle.ps_valid.specs.declared.legal.Legal.{Legal}
use Rattle.rules_start.specs.declared.start.Start.{Start}
use Rattle.ps_base.specs.ById.{ById}
use Rattle.ps_base.specs.Limits.{most_battles}
use Rattle.ps_users.specs.Steps.{after as users_after}
use Rattle.ps_pms.specs.Changes.{after as pms_after}
use Rattle.ps_ladder.specs.Ratings.{Standing, standing_after}
use Rattle.ps_ladder.specs.Waiting.{added, cancelled}
use Rattle.ps_ladder.specs.declared.searches.Search.{Search as Waiting}
use Rattle.ps_hall.specs.declared.kept.KeptTeam.{KeptTeam}
use Rattle.ps_hall.specs.declared.game.Game.{Game}
use Rattle.ps_hall.specs.Records.{Record}
use Rattle.ps_hall.specs.Lookups.{badge_of, legal_team, without_kept, without_user, without_either, rating_in, opponent, ladder_in}
use Rattle.ps_hall.specs.Lookups.{game_in, has_number, player_id}
use Rattle.ps_hall.specs.Starts.{start_of_search, start_of_accept, with_start}

-- blocks and challenges after a command
abbrev pub with_pms : Record → List ℕ → HallCmd → Record
with_pms hall me cmd = record hall { pms = pms_after hall.pms me cmd }

-- ---- Open, Quit, Name

abbrev pub with_users : Record → ℕ → HallCmd → Record
with_users hall conn cmd = record hall { users = users_after hall.users conn cmd }

-- the team, searches and challenges of who leaves end; its blocks and ratings stay
abbrev pub forgotten_by : Record → List ℕ → Record
forgotten_by hall me = record hall {
  pms = pms_after hall.pms me Quit;
  teams = remove hall.teams me;
  challenge_teams = without_either me hall.challenge_teams;
  search_teams = without_user me hall.search_teams;
  searches = cancelled hall.searches me;
}

abbrev pub forgotten_if : Record → Option (List ℕ) → Record
forgotten_if hall None = hall
forgotten_if hall (Some me) = forgotten_by hall me

abbrev pub forgotten : Record → Option Badge → Record
forgotten hall badge = forgotten_if hall (option_map (λ held. id_of held.name) badge)

abbrev pub after_quit : Record → ℕ → Record
after_quit hall conn = with_users (forgotten hall (badge_of hall conn)) conn Quit

-- ---- teams

abbrev pub with_team : Record → List ℕ → List Set → Record
with_team hall me team = record hall { teams = insert hall.teams me team }

-- `/utm TEAM` keeps the team, and `/utm null` and `/utm` forget it
abbrev pub after_team : Record → List ℕ → Option (List ℕ) → Record
after_team hall me None = record hall { teams = remove hall.teams me }
after_team hall me (Some text) = with_team hall me (team_of (chars text))

-- a team to keep with an id
abbrev pub kept_by : List ℕ → List ℕ → Option Legal → Option KeptTeam
kept_by name with_id None = None
kept_by name with_id (Some legal) = Some (record { name = name; with_id = with_id; team = legal })

-- a team that is kept with an id
abbrev pub keep : List KeptTeam → List ℕ → List ℕ → Option Legal → List KeptTeam
keep ks name with_id team = ks ++ option_to_list (kept_by name with_id team)

-- ---- searches

-- who is matched with nobody waits, with the team of this moment; who is matched takes the other's search
abbrev pub kept_by_search : Record → List ℕ → List ℕ → Option Waiting → List KeptTeam
kept_by_search hall name format None = keep hall.search_teams name format (legal_team hall (id_of name) format)
kept_by_search hall name format (Some search) = without_kept search.user format hall.search_teams

abbrev pub with_search : Record → List ℕ → List ℕ → Record
with_search hall name format = let me = id_of name in record hall {
  searches = added hall.searches me format (rating_in hall format me);
  search_teams = kept_by_search hall name format (opponent hall me format);
}

-- a battle of two searches is rated
abbrev pub after_search : Record → List ℕ → List ℕ → Record
after_search hall name format = with_start (with_search hall name format) true (start_of_search hall name format)

abbrev pub after_cancel_search : Record → List ℕ → Record
after_cancel_search hall me = record hall { searches = cancelled hall.searches me; search_teams = without_user me hall.search_teams }

-- ---- challenges

abbrev pub after_challenge : Record → List ℕ → List ℕ → List ℕ → Record
after_challenge hall name user format = record (with_pms hall (id_of name) (Challenge user format))
    { challenge_teams = keep hall.challenge_teams name user (legal_team hall (id_of name) format) }

-- a user has one open challenge at the most, so all teams that are kept for its challenges go with it
abbrev pub after_cancel_challenge : Record → List ℕ → Record
after_cancel_challenge hall me = record (with_pms hall me CancelChallenge) { challenge_teams = without_user me hall.challenge_teams }

abbrev pub after_reject : Record → List ℕ → List ℕ → Record
after_reject hall me user = record (with_pms hall me (Reject user)) { challenge_teams = without_kept user me hall.challenge_teams }

abbrev pub with_accept : Record → List ℕ → List ℕ → Record
with_accept hall me user = record (with_pms hall me (Accept user)) { challenge_teams = without_kept user me hall.challenge_teams }

-- a battle from a challenge isn't rated
abbrev pub after_accept : Record → List ℕ → List ℕ → Record
after_accept hall name user = with_start (with_accept hall (id_of name) user) false (start_of_accept hall name user)

-- ---- reports

-- the winner's id and the loser's, where player 1 or player 2 won
abbrev pub winner_of : Game → ℕ → List ℕ
winner_of game winner = player_id game winner

abbrev pub loser_of : Game → ℕ → List ℕ
loser_of game winner = player_id game (if nat_lt winner 1 then 1 else 0)

-- a ladder has as many results as battles that started at the most, and each is of two users
abbrev pub takes : Standing → List ℕ → List ℕ → Bool
takes ladder winner loser = nat_lt ladder.count most_battles && not (bytes_eq winner loser)

abbrev pub standing_with : Standing → List ℕ → List ℕ → Standing
standing_with ladder winner loser = if takes ladder winner loser then standing_after ladder winner loser else ladder

-- the ladders after a result
abbrev pub with_settled : ById Standing → List ℕ → List ℕ → List ℕ → ById Standing
with_settled ladders format winner loser = insert ladders format (standing_with (ladder_in ladders format) winner loser)

-- a rated battle that was won moves ratings
abbrev pub settled_by : ById Standing → Game → Bool → Option ℕ → ById Standing
settled_by ladders game true (Some winner) = with_settled ladders game.format (winner_of game winner) (loser_of game winner)
settled_by ladders game rated winner = ladders

abbrev pub without_game : List Game → ℕ → List Game
without_game gs number = filter (λ game. not (has_number number game)) gs

abbrev pub reported : Record → ℕ → Option ℕ → Option Game → Record
reported hall number winner None = hall
reported hall number winner (Some game) = record hall
    { ladders = settled_by hall.ladders game game.rated winner; games = without_game hall.games number }

abbrev pub after_report : Record → ℕ → Option ℕ → Record
after_report hall number winner = reported hall number winner (game_in hall number)

-- ---- all of them

-- the commands that take a name
abbrev pub after_named : Record → List ℕ → HallCmd → Record
after_named hall name (Team pack) = after_team hall (id_of name) pack
after_named hall name (Search format) = after_search hall name format
after_named hall name CancelSearch = after_cancel_search hall (id_of name)
after_named hall name (Challenge user format) = after_challenge hall name user format
after_named hall name CancelChallenge = after_cancel_challenge hall (id_of name)
after_named hall name (Reject user) = after_reject hall (id_of name) user
after_named hall name (Accept user) = after_accept hall name user
after_named hall name (Block user) = with_pms hall (id_of name) (Block user)
after_named hall name (Unblock user) = with_pms hall (id_of name) (Unblock user)
after_named hall name other = hall

abbrev pub after_by : Record → Option Badge → HallCmd → Record
after_by hall None cmd = hall
after_by hall (Some badge) cmd = after_named hall badge.name cmd

-- the record after a command that is applied
unfoldable pub applied : Record → ℕ → HallCmd → Record
applied hall conn Open = with_users hall conn Open
applied hall conn Quit = after_quit hall conn
applied hall conn (Bad reason) = hall
applied hall conn (Name name assertion) = with_users hall conn (Name name assertion)
applied hall conn (Report number winner) = after_report hall number winner
applied hall conn other = after_by hall (badge_of hall conn) other

-- ---- what starts

abbrev pub start_of_named : Record → List ℕ → HallCmd → Option Start
start_of_named hall name (Search format) = start_of_search hall name format
start_of_named hall name (Accept user) = start_of_accept hall name user
start_of_named hall name other = None

abbrev pub start_by : Record → Option Badge → HallCmd → Option Start
start_by hall None cmd = None
start_by hall (Some badge) cmd = start_of_named hall badge.name cmd

-- the battle that a command starts, where it is applied
unfoldable pub start_of : Record → ℕ → HallCmd → Option Start
start_of hall conn (Search format) = start_by hall (badge_of hall conn) (Search format)
start_of hall conn (Accept user) = start_by hall (badge_of hall conn) (Accept user)
start_of hall conn other = None
