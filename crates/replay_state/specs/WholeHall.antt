-- No battle of a match is lost in the hall of a script, and no result.
use Rattle.std.specs.Prelude.{List}
use Rattle.ps_dex.specs.declared.item.Tables.{Tables}
use Rattle.rules_config.specs.declared.settings.Settings.{Settings}
use Rattle.ps_laws.specs.HallRatings.{IsHallWhole}
use Rattle.replay_script.specs.declared.item.Item.{Item}
use Rattle.replay_state.specs.Setup.{setup_of}
use Rattle.replay_state.specs.Entries.{world_of}
use Rattle.replay_state.specs.TwoWorlds.{hall_of}

-- in the hall of its world each match started its battle, and the ladder of each format is made of all won reports of rated battles
abbrev pub HasWholeHall : Settings → Tables → List Item → Type 0
HasWholeHall config dex items = IsHallWhole (hall_of (world_of (setup_of config dex items) items))
