-- No battle of a match is lost in the hall of a script, and no result.
use Rattle.std.proofs.Common.{List}
use Rattle.ps_dex.specs.declared.item.Tables.{Tables}
use Rattle.rules_config.specs.declared.settings.Settings.{Settings}
use Rattle.ps_laws.proofs.HallRatings.{hall_whole}
use Rattle.replay_script.specs.declared.item.Item.{Item}
use Rattle.replay_state.specs.Setup.{setup_of}
use Rattle.replay_state.specs.Entries.{world_of}
use Rattle.replay_state.specs.TwoWorlds.{hall_of}
use Rattle.replay_state.specs.WholeHall.{HasWholeHall}

pub whole_hall : (config : Settings) (dex : Tables) (items : List Item) → HasWholeHall config dex items
whole_hall config dex items = hall_whole (hall_of (world_of (setup_of config dex items) items))
