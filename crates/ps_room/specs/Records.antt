-- The record of a room.
use Rattle.std.specs.Prelude.{List, [], Option, Some, None, is_some, option_map, if◌then◌else◌}
use Rattle.std.specs.List.{filter_map}
use Rattle.ps_event.specs.declared.event.Event.{Event}
use Rattle.ps_event.specs.Table.{is_logged}
use Rattle.ps_chat.specs.Records.{Opening as ChatOpening, Record as ChatRecord, nobody}
use Rattle.ps_chat.specs.Rooms.{presents}
use Rattle.ps_chat.specs.declared.present.Present.{Present}
use Rattle.rules_start.specs.declared.start.Start.{Start}
use Rattle.battle_rounds.specs.Casts.{Cast}
use Rattle.battle_rounds.specs.Fights.{Fight}
use Rattle.ps_room.specs.Tolds as logs
use Rattle.ps_room.specs.Tolds.{Logged}
use Rattle.ps_room.specs.Openings.{Opening, bout_with, fight_with}
use Rattle.rules_config.specs.declared.settings.Settings.{Settings}

-- What the chat was opened with; the members, room ranks, mutes, bans and level of the chat; what was logged; and the battle,
-- if it is a battle's room.
pub record Record : Type 0 where
  pub opening : ChatOpening
  pub chat : ChatRecord
  pub logged : List Logged
  pub battle : Option Fight

abbrev pub chat_opening : Opening → ChatOpening
chat_opening opening = record {
  title = opening.title;
  battle = is_some opening.battle;
  groups = opening.config.groups;
  staff = opening.config.staff;
}

abbrev pub logged_event : Event → Option Logged
logged_event event = if is_logged event then Some (logs.Event event) else None

-- events as they are logged: all but requests
abbrev pub logged_events : List Event → List Logged
logged_events events = filter_map logged_event events

-- what the opening of a battle logs
abbrev pub logged_with : Settings → Option Start → List Logged
logged_with config None = []
logged_with config (Some start) = logged_events (bout_with config start).told

-- the record of an opening: nobody is there, and a battle is open
abbrev pub opened : Opening → Record
opened opening = record {
  opening = chat_opening opening;
  chat = nobody;
  logged = logged_with opening.config opening.battle;
  battle = option_map (fight_with opening.config opening.dex) opening.battle;
}

-- the members, each with its rank
abbrev pub presents_of : Record → List Present
presents_of room = presents room.opening room.chat

-- what the lines of its battle name
abbrev pub cast_in : Option Fight → Option Cast
cast_in None = None
cast_in (Some fight) = Some fight.cast
