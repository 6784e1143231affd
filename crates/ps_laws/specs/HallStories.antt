-- A world of the hall: what it was opened with, and its history.
use Rattle.std.specs.Prelude.{ℕ, List}
use Rattle.ps_dex.specs.declared.item.Tables.{Tables}
use Rattle.rules_config.specs.declared.settings.Settings.{Settings}
use Rattle.ps_base.specs.ById.{ById}
use Rattle.ps_hall.specs.declared.entry.HallEntry.{HallEntry}
use Rattle.ps_hall.specs.Records.{Record, opened}
use Rattle.ps_hall.specs.Halls.{view}

-- the configuration, the dex, and the ranks that ids were given before
pub record HallOpening : Type 0 where
  pub config : Settings
  pub dex : Tables
  pub ranks : ById ℕ

pub record HallStory : Type 0 where
  pub opening : HallOpening
  pub history : List HallEntry

abbrev pub hall_story : HallOpening → List HallEntry → HallStory
hall_story opening es = record { opening = opening; history = es }

-- the record before the first entry
abbrev pub hall_opened : HallOpening → Record
hall_opened opening = opened opening.config opening.dex opening.ranks

-- all that a connection is sent, message by message
abbrev pub hall_view_of : ℕ → HallStory → List (List (List ℕ))
hall_view_of conn story = view conn (hall_opened story.opening) story.history
