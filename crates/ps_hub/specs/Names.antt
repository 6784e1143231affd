-- Which place an id names.
use Rattle.std.specs.Prelude.{◌≡◌, ◌⊎◌, ℕ, ◌<◌, ◌≤◌, List, slice_get, Some}
use Rattle.rules_config.specs.declared.settings.ChatRoom.{ChatRoom}
use Rattle.rules_config.specs.declared.settings.Settings.{Settings}
use Rattle.ps_base.specs.Limits.{most_battles}
use Rattle.rules_start.specs.Starts.{battle_id}
use Rattle.ps_room.specs.Openings.{first_battle, room_of_battle}

-- the id of the chat room with this number
abbrev pub IsChatId : Settings → List ℕ → ℕ → Type 0
IsChatId config id number = (room : ChatRoom) × (slice_get config.rooms number ≡ Some room) × (room.id ≡ id)

-- the id of a battle with one of the numbers of battles, of any format
abbrev pub IsBattleId : List ℕ → ℕ → Type 0
IsBattleId id number = (format : List ℕ) × (id ≡ battle_id format number) × (1 ≤ number) × (number ≤ most_battles)

-- no chat room has the id
abbrev pub IsNoChat : Settings → List ℕ → Type 0
IsNoChat config id = (number : ℕ) → IsChatId config id number → ⊥

-- the first of the chat rooms with the id has this number
abbrev pub IsFirstChat : Settings → List ℕ → ℕ → Type 0
IsFirstChat config id number = IsChatId config id number × ((before : ℕ) → before < number → IsChatId config id before → ⊥)

-- the one place that an id names: a chat room's, or else a battle's
abbrev pub Names : Settings → List ℕ → ℕ → Type 0
Names config id number = (IsFirstChat config id number × (number < first_battle))
    ⊎ ((battle_number : ℕ) × IsBattleId id battle_number × (number ≡ room_of_battle battle_number) × IsNoChat config id)
