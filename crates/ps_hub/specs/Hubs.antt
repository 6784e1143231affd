-- A hub: the places of a server, each behind a lock of its own.
use Rattle.std.specs.Prelude.{◌≡◌, ℕ, suc, ◌-◌, List, [], ◌∷◌, slice_get, nat_lt, Option, if◌then◌else◌}
use Rattle.std.specs.List.{AllZip}
use Rattle.ps_dex.specs.declared.item.Tables.{Tables}
use Rattle.rules_config.specs.declared.settings.Settings.{Settings}
use Rattle.ps_room.specs.Openings.{first_battle}
use Rattle.server_places.specs.declared.site.Root.{Root}
use Rattle.server_places.specs.declared.site.Site.{Site}
use Rattle.ps_hall.specs.declared.entry.HallEntry.{HallEntry}
use Rattle.server_places.specs.declared.command.RoomCmd.{RoomCmd}
use Rattle.ps_histlock.specs.Seated.{TableId}
use Rattle.ps_histlock.specs.Openers.{unopened}
use Rattle.ps_histlock.specs.declared.view.View.{View}

-- its configuration and its dex, and the names of its locks: of the hall, of the chat rooms in the order of the configuration,
-- and of the battles from 1
pub record Hub : Type 0 where
  pub config : Settings
  pub dex : Tables
  pub hall : TableId
  pub chats : List TableId
  pub battles : List TableId

-- with what the hall is opened
abbrev pub root_of : Hub → Root
root_of hub = record { config = hub.config; dex = hub.dex }

-- the place of a room
abbrev pub site_of : Hub → ℕ → Site
site_of hub number = record { number = number; config = hub.config; dex = hub.dex }

-- the name of the lock of a room's place, if there is such a place
abbrev pub lock_of : Hub → ℕ → Option TableId
lock_of hub number = if nat_lt number first_battle then slice_get hub.chats number else slice_get hub.battles (number - first_battle)

-- ---- a hub that isn't open yet

-- a hub, and the openers of its locks in the same order
pub record NewHub : Type 0 where
  pub hub : Hub
  pub hall : TableId × View Root HallEntry
  pub chats : List (TableId × View Site RoomCmd)
  pub battles : List (TableId × View Site RoomCmd)

-- the opener of the lock with this name has its turn, and sees its whole history, in which there is no entry
abbrev pub IsUnopened : {O C : Type 0} → TableId → TableId × View O C → Type 0
IsUnopened name opener = (opener.0 ≡ name) × (opener.1 ≡ unopened opener.1.origin)

-- nobody has made an entry at any place of the hub
abbrev pub IsEmpty : NewHub → Type 0
IsEmpty new = IsUnopened new.hub.hall new.hall × AllZip IsUnopened new.hub.chats new.chats × AllZip IsUnopened new.hub.battles new.battles

-- ---- for the code: the locks, each with its origin

abbrev pub name_of : TableId × Site → TableId
name_of lock = lock.0

-- these places, of which the first has this number
abbrev pub AreAt : Settings → Tables → ℕ → List (TableId × Site) → Type 0
AreAt config dex number [] = Unit {0}
AreAt config dex number (lock ∷ locks) = (lock.1 ≡ record { number = number; config = config; dex = dex })
    × AreAt config dex (suc number) locks
