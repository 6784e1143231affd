-- For the code: the record of the hall's parts.
use Rattle.std.specs.Arc.{arc_value}
use Rattle.ps_hall.specs.declared.state.State.{State}
use Rattle.ps_hall.specs.Records.{Record}

abbrev pub record_of : State → Record
record_of state = record {
  config = arc_value state.config;
  dex = arc_value state.dex;
  users = state.users;
  pms = state.pms;
  teams = state.teams;
  challenge_teams = state.challenge_teams.items;
  search_teams = state.search_teams;
  searches = state.searches;
  ladders = state.ladders;
  started = state.games.started;
  games = state.games.list;
}
