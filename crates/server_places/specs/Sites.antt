-- The places of a server, and what the commands of a place tell.
use Rattle.std.specs.Prelude.{◌≡◌, ◌⊎◌, ◌≤◌, ℕ, ◌+◌, List, [], ◌∷◌, ◌++◌, slice_get, nat_lt, false, Option, Some, None, if◌then◌else◌}
use Rattle.std.specs.Option.{option_map}
use Rattle.std.specs.List.{filter_map}
use Rattle.ps_dex.specs.declared.item.Tables.{Tables}
use Rattle.ps_rules.specs.declared.version.Version.TheVariants.{First}
use Rattle.rules_config.specs.declared.settings.Settings.{Settings}
use Rattle.rules_start.specs.declared.start.Start.{Start}
use Rattle.rules_start.specs.Fits.{IsFit}
use Rattle.ps_base.specs.Limits.{most_battles}
use Rattle.ps_room.specs.declared.entry.Entry.{Entry}
use Rattle.ps_room.specs.Openings.{Opening}
use Rattle.ps_room.specs.Records.{opened}
use Rattle.ps_room.specs.Rooms.{view}
use Rattle.ps_room.specs.Openings.{chat_opening, battle_opening, first_battle, room_of_battle}
use Rattle.ps_room.specs.Stories.{story, Story}
use Rattle.server_places.specs.declared.site.Site.{Site}
use Rattle.server_places.specs.declared.command.RoomCmd.{RoomCmd}
use Rattle.server_places.specs.declared.command.RoomCmd.TheVariants.{Begin, Play}

-- the opening of the chat room at a place, if the place is a chat room's
abbrev pub chat_at : Site → Option Opening
chat_at site = if nat_lt site.number first_battle then option_map (chat_opening site.config site.dex site.number)
    (slice_get site.config.rooms site.number) else None

-- the opening of a battle
abbrev pub battle_at : Site → Start → Opening
battle_at site start = battle_opening site.config site.dex start

-- a Begin opens the battle of a place: the battle's number is one of battles, the place has the number of its room, and it can start there
pub record Opens (site : Site) (start : Start) : Type 0 where
  pub number : room_of_battle start.number ≡ site.number
  pub above : 1 ≤ start.number
  pub below : start.number ≤ most_battles
  pub fit : IsFit start site.config site.dex

-- by whose number a command is signed: an entry by that of the connection whose session made it, a Begin by none
abbrev pub room_signer : RoomCmd → Option ℕ
room_signer (Begin start) = None
room_signer (Play entry) = Some entry.conn

-- a configuration, a dex and a place without anything
abbrev pub no_settings : Settings
no_settings = record {
  groups = [];
  staff = 0;
  rooms = [];
  users = [];
  formats = record { version = First; rulesets = []; formats = [] };
  nonce = [];
  seed = 0;
  seeds = [];
  gives_nonce = false;
  gives_seed = false;
}

abbrev pub no_tables : Tables
no_tables = record { types = []; factors = []; moves = []; species = []; aliases = [] }

abbrev pub no_site : Site
no_site = record { number = 0; config = no_settings; dex = no_tables }

-- ---- stories

-- the entry of a room that a command is; a Begin is none
abbrev pub play_of : RoomCmd → Option Entry
play_of (Begin start) = None
play_of (Play entry) = Some entry

-- the entries of a room among the commands of its place
abbrev pub plays : List RoomCmd → List Entry
plays cmds = filter_map play_of cmds

-- What the commands of a battle's place tell: nothing, until the first Begin that opens the battle; from then on the battle's
-- room, with the entries after that Begin. What stands before it does nothing, and neither does a later Begin.
abbrev pub BattleTells : Site → List RoomCmd → Option Story → Type 0
BattleTells site [] told = told ≡ None
BattleTells site (Play entry ∷ cmds) told = BattleTells site cmds told
BattleTells site (Begin start ∷ cmds) told = (Opens site start × (told ≡ Some (story (battle_at site start) (plays cmds))))
    ⊎ ((Opens site start → ⊥) × BattleTells site cmds told)

abbrev pub TellsBy : Option Opening → Site → List RoomCmd → Option Story → Type 0
TellsBy (Some chat) site cmds told = told ≡ Some (story chat (plays cmds))
TellsBy None site cmds told = BattleTells site cmds told

-- What the commands of a place tell: of a chat room its opening and its entries.
abbrev pub Tells : Site → List RoomCmd → Option Story → Type 0
Tells site cmds told = TellsBy (chat_at site) site cmds told

-- the commands of a place tell one story at the most
abbrev pub OneStory : Type 0
OneStory = (site : Site) (cmds : List RoomCmd) (one two : Option Story) → Tells site cmds one → Tells site cmds two → one ≡ two

-- more commands go on with it: the entries among them follow its own
abbrev pub StoriesGoOn : Type 0
StoriesGoOn = (site : Site) (before later : List RoomCmd) (told : Story) → Tells site before (Some told)
    → Tells site (before ++ later) (Some (story told.opening (told.history ++ plays later)))

-- ---- what a connection is sent

-- all that a connection is sent from a place, message by message; nothing where there is no room
abbrev pub view_told : ℕ → Option Story → List (List (List ℕ))
view_told conn None = []
view_told conn (Some told) = view conn (opened told.opening) told.history

-- the id of a place's room, if there is one
abbrev pub id_told : Option Story → Option (List ℕ)
id_told None = None
id_told (Some told) = Some told.opening.id

-- ---- pulling

-- a cursor that is to pull nothing past a bound has passed it
abbrev pub IsAtBound : Option ℕ → ℕ → Type 0
IsAtBound None passed = ⊥
IsAtBound (Some until) passed = until ≤ passed
