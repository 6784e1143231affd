-- The line that asks a side.
use Rattle.std.specs.Prelude.{ℕ, List, ◌++◌, codes}
use Rattle.ps_dex.specs.declared.item.Tables.{Tables}
use Rattle.ps_hits.specs.Told.{side_name}
use Rattle.ps_mon.specs.Reading.{side_of}
use Rattle.ps_choice.specs.Requests.{request}
use Rattle.ps_view.specs.declared.names.Names.{Names}
use Rattle.ps_view.specs.Named.{player_of, nicks_of}
use Rattle.battle_rounds.specs.declared.bout.Bout.{Bout}

-- the request of a side, 0 or 1, for the round that is open
unfoldable pub request_line : Bout → Tables → Names → ℕ → List ℕ
request_line bout dex names side =
    codes "|request|" ++ request bout.battle.phase dex (player_of names (side_name side)) (nicks_of names (side_name side)) side
    (side_of bout.battle side) bout.round
