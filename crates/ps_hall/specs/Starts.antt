-- What a battle starts with.
use Rattle.std.specs.Prelude.{ℕ, ◌+◌, Bool, List, [], ◌∷◌, ◌++◌, option_map, Option, Some, None}
use Rattle.ps_base.specs.Ids.{id_of}
use Rattle.ps_valid.specs.declared.legal.Legal.{Legal}
use Rattle.rules_start.specs.declared.start.Start.{Start}
use Rattle.rules_config.specs.Seeds.{seed_of}
use Rattle.ps_pms.specs.declared.asked.Asked.{Asked}
use Rattle.ps_ladder.specs.declared.searches.Search.{Search}
use Rattle.ps_hall.specs.declared.kept.KeptTeam.{KeptTeam}
use Rattle.ps_hall.specs.declared.game.Game.{Game}
use Rattle.ps_hall.specs.Records.{Record}
use Rattle.ps_hall.specs.Lookups.{legal_team, kept_team, challenge_from, opponent}

-- the next battle, of a format, between who comes with a kept team and who has the name and the team
abbrev pub start_with : Record → List ℕ → KeptTeam → List ℕ → Legal → Start
start_with hall format kept name legal = record {
  number = hall.started + 1;
  format = format;
  players = kept.name ∷ name ∷ [];
  teams = kept.team ∷ legal ∷ [];
  seed = seed_of hall.config (hall.started + 1);
}

-- a challenge or a search always has its team, and the team of who sends a command that is allowed is legal
abbrev pub start_if : Record → List ℕ → Option KeptTeam → List ℕ → Option Legal → Option Start
start_if hall format (Some kept) name (Some legal) = Some (start_with hall format kept name legal)
start_if hall format other name team = None

abbrev pub start_of_match : Record → List ℕ → List ℕ → Option Search → Option Start
start_of_match hall name format None = None
start_of_match hall name format (Some search) = start_if hall format (kept_team search.user format hall.search_teams) name
    (legal_team hall (id_of name) format)

-- what an allowed Search starts: who waited longer is player 1
unfoldable pub start_of_search : Record → List ℕ → List ℕ → Option Start
start_of_search hall name format = start_of_match hall name format (opponent hall (id_of name) format)

abbrev pub start_of_challenge : Record → List ℕ → Option Asked → Option Start
start_of_challenge hall name None = None
start_of_challenge hall name (Some challenge) = start_if hall challenge.format
    (kept_team challenge.by (id_of name) hall.challenge_teams) name
    (legal_team hall (id_of name) challenge.format)

-- what an allowed Accept starts: who challenged is player 1
unfoldable pub start_of_accept : Record → List ℕ → List ℕ → Option Start
start_of_accept hall name user = start_of_challenge hall name (challenge_from hall (id_of name) user)

abbrev pub game_of : Bool → Start → Game
game_of rated start = record { number = start.number; format = start.format; players = start.players; rated = rated }

-- the hall where a battle has started
abbrev pub with_game : Record → Option Game → Record
with_game hall None = hall
with_game hall (Some game) = record hall { started = hall.started + 1; games = hall.games ++ game ∷ [] }

abbrev pub with_start : Record → Bool → Option Start → Record
with_start hall rated start = with_game hall (option_map (game_of rated) start)
