-- What a battle can start with.
use Rattle.std.specs.Prelude.{◌≢◌, ℕ, List, [], slice_index_or, IsSome}
use Rattle.ps_base.specs.Ids.{id_of}
use Rattle.ps_dex.specs.declared.item.Tables.{Tables}
use Rattle.ps_rules.specs.Resolve.{format_of}
use Rattle.rules_config.specs.declared.settings.Settings.{Settings}
use Rattle.ps_valid.specs.declared.legal.Legal.{Legal}
use Rattle.rules_start.specs.declared.start.Start.{Start}
use Rattle.ps_valid.specs.Ready.{IsReady}

-- what a read past the two teams gives
abbrev pub no_legal : Legal
no_legal = record { team = record { members = []; count = 0 }; nicks = [] }

-- the team of player 1, at 0, or of player 2, at 1
abbrev pub legal_of : List Legal → ℕ → Legal
legal_of teams side = slice_index_or teams side no_legal

-- the name of player 1, at 0, or of player 2, at 1
abbrev pub player_of : List (List ℕ) → ℕ → List ℕ
player_of players side = slice_index_or players side []

-- a battle can start with this
pub record IsFit (start : Start) (config : Settings) (dex : Tables) : Type 0 where
  pub first : IsReady dex (legal_of start.teams 0)
  pub second : IsReady dex (legal_of start.teams 1)
  pub format : IsSome (format_of start.format config.formats.formats)
  pub players : id_of (player_of start.players 0) ≢ id_of (player_of start.players 1)
