-- What a room is opened with: the chat rooms of a configuration, and the rooms of battles that start.
use Rattle.std.specs.Prelude.{ℕ, Bool, suc, ◌+◌, List, [], ◌∷◌, map, slice_index_or, Option, Some, None, IfSome}
use Rattle.ps_mon.specs.declared.team.BattleTeam.{BattleTeam}
use Rattle.ps_dex.specs.declared.item.Tables.{Tables}
use Rattle.ps_mon.specs.Clauses.{has_clause}
use Rattle.ps_rules.specs.declared.clause.Clause.TheVariants.{Percentage}
use Rattle.ps_rules.specs.declared.table.Format.{Format}
use Rattle.ps_rules.specs.Clauses.{bit_of}
use Rattle.ps_rules.specs.Resolve.{format_of}
use Rattle.rules_config.specs.declared.settings.Settings.{Settings}
use Rattle.rules_config.specs.declared.settings.ChatRoom.{ChatRoom}
use Rattle.ps_valid.specs.declared.legal.Legal.{Legal}
use Rattle.rules_start.specs.declared.start.Start.{Start}
use Rattle.ps_view.specs.declared.names.Names.{Names}
use Rattle.battle_rounds.specs.Casts.{Cast}
use Rattle.battle_rounds.specs.Rounds.{Outcome, opened}
use Rattle.battle_rounds.specs.Fights.{Fight}
use Rattle.rules_start.specs.Fits.{IsFit}
use Rattle.rules_start.specs.Starts.{battle_id, battle_title}
use Rattle.ps_room.specs.declared.opening.Parts.{Parts}
use Rattle.std.specs.Arc.{arc_value}

-- its number, id and title, the configuration and the dex, and what its battle starts with, if it is a battle's room
pub record Opening : Type 0 where
  pub no : ℕ
  pub id : List ℕ
  pub title : List ℕ
  pub config : Settings
  pub dex : Tables
  pub battle : Option Start

-- ---- the battle

abbrev pub name_of_format : Option Format → List ℕ
name_of_format None = []
name_of_format (Some format) = format.name

-- the clauses that are on, each by its bit
abbrev pub clauses_of_format : Option Format → ℕ
clauses_of_format None = 0
clauses_of_format (Some format) = format.table.clauses

-- the format that is played
abbrev pub format_in : Settings → Start → Option Format
format_in config start = format_of start.format config.formats.formats

abbrev pub team_of_legal : Legal → BattleTeam
team_of_legal legal = legal.team

abbrev pub nicks_of_legal : Legal → List (List ℕ)
nicks_of_legal legal = legal.nicks

-- whether HP Percentage Mod is on
abbrev pub in_percent : Option Format → Bool
in_percent format = has_clause (clauses_of_format format) (bit_of Percentage)

abbrev pub names_of : Settings → Start → Names
names_of config start = record {
  players = start.players;
  nicks = map nicks_of_legal start.teams;
  format = name_of_format (format_in config start);
  percent = in_percent (format_in config start);
}

abbrev pub cast_with : Settings → Tables → Start → Cast
cast_with config dex start = record { names = names_of config start; dex = dex }

-- the battle at its opening, with the events of that
abbrev pub bout_with : Settings → Start → Outcome
bout_with config start = opened (map team_of_legal start.teams) (clauses_of_format (format_in config start)) start.seed

abbrev pub fight_with : Settings → Tables → Start → Fight
fight_with config dex start = record { number = start.number; cast = cast_with config dex start; bout = (bout_with config start).bout }

-- whether an opening can be a room's: where it has a battle, that can start under its configuration and its dex
abbrev pub IsFitOpening : Opening → Type 0
IsFitOpening opening = IfSome opening.battle (λ start. IsFit start opening.config opening.dex)

-- ---- for the code: the parts of an opening

abbrev pub of_parts : Parts → Opening
of_parts parts = record {
  no = parts.no;
  id = parts.id;
  title = parts.title;
  config = arc_value parts.config;
  dex = arc_value parts.dex;
  battle = parts.battle;
}

-- ---- the rooms of a server

-- a chat room of the configuration
abbrev pub chat_opening : Settings → Tables → ℕ → ChatRoom → Opening
chat_opening config dex number room = record { no = number; id = room.id; title = room.title; config = config; dex = dex; battle = None }

-- these rooms, of which the first has this number
abbrev pub chats_from : Settings → Tables → ℕ → List ChatRoom → List Opening
chats_from config dex number [] = []
chats_from config dex number (room ∷ rooms) = chat_opening config dex number room ∷ chats_from config dex (suc number) rooms

-- the number of the first battle's room, behind all numbers of chat rooms; of these there are sixteen at the most
abbrev pub first_battle : ℕ
first_battle = 16

-- the number of the room of the battle with this number
abbrev pub room_of_battle : ℕ → ℕ
room_of_battle number = 15 + number

-- the room of a battle
abbrev pub battle_opening : Settings → Tables → Start → Opening
battle_opening config dex start = record {
  no = room_of_battle start.number;
  id = battle_id start.format start.number;
  title = battle_title (slice_index_or start.players 0 []) (slice_index_or start.players 1 []);
  config = config;
  dex = dex;
  battle = Some start;
}
