-- What a replay stands on: the dex, the configuration, and the ranks that the script gives.
use Rattle.std.specs.Prelude.{ℕ, ◌-◌, List, [], ◌∷◌, length, unwrap_or}
use Rattle.std.specs.FinMap.{insert, empty}
use Rattle.ps_dex.specs.declared.item.Tables.{Tables}
use Rattle.ps_group.specs.Ranks.{rank_of}
use Rattle.ps_group.specs.declared.group.Group as group
use Rattle.rules_config.specs.declared.settings.Settings.{Settings}
use Rattle.ps_base.specs.ById.{ById}
use Rattle.ps_hall.specs.Records.{Record as HallRecord, opened as hall_opened}
use Rattle.ps_room.specs.Openings.{Opening}
use Rattle.ps_room.specs.Openings.{chats_from}
use Rattle.replay_script.specs.declared.item.Item.{Item}
use Rattle.replay_script.specs.declared.item.Item.TheVariants.{Group}

pub record Setup : Type 0 where
  pub config : Settings
  pub dex : Tables
  pub ranks : ById ℕ

-- ---- the ranks that the lines of a script give

-- the ranks after a line. The symbols of scripts are those of the groups, so the last rank is never taken here
abbrev pub with_ranking : List group.Group → ById ℕ → Item → ById ℕ
with_ranking groups ranks (Group symbol id) = insert ranks id (unwrap_or (rank_of symbol groups) (length groups - 1))
with_ranking groups ranks other = ranks

abbrev pub ranks_from : List group.Group → ById ℕ → List Item → ById ℕ
ranks_from groups ranks [] = ranks
ranks_from groups ranks (item ∷ items) = ranks_from groups (with_ranking groups ranks item) items

-- Of two lines for one id the later counts. All of them stand before the first opening, so they hold for the whole script.
abbrev pub ranks_of : List group.Group → List Item → ById ℕ
ranks_of groups items = ranks_from groups empty items

-- what a script stands on
abbrev pub setup_of : Settings → Tables → List Item → Setup
setup_of config dex items = record { config = config; dex = dex; ranks = ranks_of config.groups items }

-- ---- openings

-- the hall before its first entry
abbrev pub opened_hall : Setup → HallRecord
opened_hall setup = hall_opened setup.config setup.dex setup.ranks

-- the chat rooms, numbered from 0 in the order of the configuration; there are sixteen at the most
abbrev pub chat_openings : Setup → List Opening
chat_openings setup = chats_from setup.config setup.dex 0 setup.config.rooms
