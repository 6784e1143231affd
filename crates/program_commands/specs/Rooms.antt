-- The chat rooms of a configuration, as far as a reader of transcripts tells them apart.
use Rattle.std.specs.Prelude.{◌≡◌, ℕ, true, List, All, map, slice_get, Some}
use Rattle.ps_base.specs.Ids.{is_id}
use Rattle.rules_config.specs.declared.settings.Settings.{Settings}

-- no two of these are equal
abbrev pub AreApart : List (List ℕ) → Type 0
AreApart ids = (one other : ℕ) (id : List ℕ) → slice_get ids one ≡ Some id → slice_get ids other ≡ Some id → one ≡ other

-- each room has an id, which no other one has
pub record HasOwnRooms (config : Settings) : Type 0 where
  pub ids : All (λ room. is_id room.id ≡ true) config.rooms
  pub apart : AreApart (map (λ room. room.id) config.rooms)
