-- The record of the hall.
use Rattle.std.specs.Prelude.{ℕ, ◌-◌, List, [], length}
use Rattle.std.specs.FinMap.{empty}
use Rattle.ps_packed.specs.declared.set.Set.{Set}
use Rattle.ps_dex.specs.declared.item.Tables.{Tables}
use Rattle.rules_config.specs.declared.settings.Settings.{Settings}
use Rattle.ps_base.specs.ById.{ById}
use Rattle.ps_users.specs.Records.{Record as Users, nobody}
use Rattle.ps_pms.specs.Records.{Record as Pms, nothing}
use Rattle.ps_ladder.specs.Ratings.{Standing}
use Rattle.ps_ladder.specs.declared.searches.Search.{Search}
use Rattle.ps_hall.specs.declared.kept.KeptTeam.{KeptTeam}
use Rattle.ps_hall.specs.declared.game.Game.{Game}
use Rattle.ps_hall.specs.Accounts.{accounts_of}

-- What the hall was opened with; the users; their blocks and challenges; the team of each user that has one, by its id; the
-- teams that were kept with open challenges, each with the id that is challenged, and with searches, each with the id of the
-- format; the searches, in order; the ladder of each format that was rated, by its id; how many battles have started; and
-- those of them that weren't reported yet, in order.
pub record Record : Type 0 where
  pub config : Settings
  pub dex : Tables
  pub users : Users
  pub pms : Pms
  pub teams : ById (List Set)
  pub challenge_teams : List KeptTeam
  pub search_teams : List KeptTeam
  pub searches : List Search
  pub ladders : ById Standing
  pub started : ℕ
  pub games : List Game

-- nobody is connected, and nothing has happened. `ranks` go before those of registered names.
abbrev pub opened : Settings → Tables → ById ℕ → Record
opened config dex ranks = record {
  config = config;
  dex = dex;
  users = nobody config.nonce (accounts_of config.users) ranks (length config.groups - 1);
  pms = nothing;
  teams = empty;
  challenge_teams = [];
  search_teams = [];
  searches = [];
  ladders = empty;
  started = 0;
  games = [];
}
